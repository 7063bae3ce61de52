-- What is found in two worlds that are alike, and changes of their filesystems and tasks.
use Rattle.std.proofs.Common.{arith, ◌≡◌, refl, sym, ap, subst, ℕ, nat_eq, List, Option, Some, None, map}
use Rattle.vt_spec.proofs.Common.{Change, Filesystem, Fresh, Layer, Location, Merge, Overlay, SameFiles, SameFilesystem, Task, TaskName, World, all_locations, changed, common_steps, filesystem_at, filesystem_changed, filesystem_numbered, locations_of, merge_changed, merge_of, mount_at, mount_in, no_filesystem, node_at, open_layer, overlay_changed, replaced_if_called, same_name, stack_of, task_called, with_change, with_files, with_filesystem, with_merge, with_task}
use Rattle.vt_laws_trees.proofs.runs.answered.AlikeCopies.{LinesAlike, MergesAlike, merge_changed_alike}
use Rattle.vt_laws_trees.proofs.runs.answered.AlikeWorlds.{Alike, SameTask}
use Rattle.vt_laws_rules.proofs.same.SameMany.{same_filesystem_itself}
use Rattle.vt_laws_trees.proofs.runs.answered.AlikeFiles.{changed_alike}
use Rattle.vt_laws_trees.proofs.runs.Each.{Each, IfAny, chosen, each_find, each_flat, each_found, each_map}

module _ (one other : World ℕ) (same : Alike one other) where
  pub found_alike : (number : ℕ)
      → SameFilesystem (filesystem_numbered nat_eq one number) (filesystem_numbered nat_eq other number)
  found_alike number = each_found SameFilesystem _ _ (λ a b alike. ap (nat_eq number) alike.number)
      (no_filesystem number) _ (same_filesystem_itself _) one.filesystems other.filesystems same.filesystems

  pub mount_same : (location : Location ℕ) → mount_at nat_eq one location ≡ mount_at nat_eq other location
  mount_same location = λ i. mount_in nat_eq (same.mounts i) location.mount

  pub here_alike : (location : Location ℕ)
      → SameFilesystem (filesystem_at nat_eq one location) (filesystem_at nat_eq other location)
  here_alike location = subst (λ mount. SameFilesystem (filesystem_at nat_eq one location)
      (filesystem_numbered nat_eq other mount.filesystem)) (mount_same location) (found_alike _)

  pub node_same : (location : Location ℕ) → node_at nat_eq one location ≡ node_at nat_eq other location
  node_same location = λ i. ((here_alike location).files.tree i).node location.node

  pub opened_same : (layer : Layer ℕ) → open_layer nat_eq one layer ≡ open_layer nat_eq other layer
  opened_same layer = λ i. record { tree = (found_alike layer.filesystem).files.tree i; directory = layer.directory }

  pub task_alike : (name : TaskName) → IfAny SameTask (task_called one name) (task_called other name)
  task_alike name = each_find SameTask _ _ (λ a b alike. ap (λ task. same_name name task.name) alike) _ _ same.tasks

  pub locations_same : all_locations one ≡ all_locations other
  locations_same = each_flat SameTask locations_of locations_of (λ a b alike. ap locations_of alike) _ _ same.tasks

pub with_filesystem_alike : (one other : World ℕ) → Alike one other → (new again : Filesystem ℕ)
    → SameFilesystem new again → Alike (with_filesystem nat_eq one new) (with_filesystem nat_eq other again)
with_filesystem_alike one other same new again alike = record {
  mounts = same.mounts;
  master = same.master;
  filesystems = each_map SameFilesystem SameFilesystem _ _ (λ a b old. chosen SameFilesystem
      (nat_eq new.number a.number) (nat_eq again.number b.number) (λ i. nat_eq (alike.number i) (old.number i))
      new a again b alike old) one.filesystems other.filesystems same.filesystems;
  namespaces = same.namespaces;
  tasks = same.tasks;
}

-- In each overlay with an upper layer what is copied up is copied alike.
abbrev pub CopiesAlike : World ℕ → World ℕ → Type 0
CopiesAlike one other = (number : ℕ) (overlay again : Overlay ℕ) (upper next : Layer ℕ)
    → (filesystem_numbered nat_eq one number).overlay ≡ Some overlay → overlay.upper ≡ Some upper
    → (filesystem_numbered nat_eq other number).overlay ≡ Some again → again.upper ≡ Some next
    → LinesAlike (merge_of nat_eq one (filesystem_numbered nat_eq one number) overlay upper)
    (merge_of nat_eq other (filesystem_numbered nat_eq other number) again next)

-- so they are with the same filesystems
pub copies_stay : (one other first second : World ℕ) → first.filesystems ≡ one.filesystems
    → second.filesystems ≡ other.filesystems → CopiesAlike one other → CopiesAlike first second
copies_stay one other first second left right copies =
    subst (λ filesystems. CopiesAlike (record first { filesystems = filesystems }) second) (sym left)
    (subst (λ filesystems. CopiesAlike (record first { filesystems = one.filesystems })
    (record second { filesystems = filesystems })) (sym right) copies)

-- A change of an overlay and its upper layer
module _ {one other : World ℕ} (same : Alike one other) (fresh : Fresh ℕ) {first second : Filesystem ℕ}
    (here : SameFilesystem first second) (change : Change ℕ) where
  plain_alike : Alike (with_filesystem nat_eq one (with_files first (changed nat_eq first.files change)))
      (with_filesystem nat_eq other (with_files second (changed nat_eq second.files change)))
  plain_alike = grind (arith, common_steps, with_filesystem_alike, changed_alike)

  module _ (overlay again : Overlay ℕ) (is : overlay ≡ again) where
    stacks_same : (upper next : Layer ℕ) → upper ≡ next
        → stack_of nat_eq one overlay upper ≡ stack_of nat_eq other again next
    stacks_same upper next top = grind (arith, common_steps, opened_same)

    merges_alike : (upper next : Layer ℕ) → upper ≡ next
        → MergesAlike (merge_of nat_eq one first overlay upper) (merge_of nat_eq other second again next)
    merges_alike upper next top = record {
      files = here.files;
      real = λ i. (is i).real;
      upper = subst (λ layer. SameFiles (filesystem_numbered nat_eq one upper.filesystem).files
          (filesystem_numbered nat_eq other layer.filesystem).files) top (found_alike one other same _).files;
    }

    with_merge_alike : (upper next : Layer ℕ) → upper ≡ next → (merge later : Merge ℕ) → MergesAlike merge later
        → Alike (with_merge nat_eq one first overlay upper merge) (with_merge nat_eq other second again next later)
    with_merge_alike upper next top merge later alike = with_filesystem_alike _ _
        (with_filesystem_alike one other same _ _ (record {
          number = here.number;
          files = alike.files;
          overlay = λ i. Some (record (is i) { real = alike.real i });
        })) _ _ (record { number = below.number; files = alike.upper; overlay = below.overlay })
      where
        below : SameFilesystem (filesystem_numbered nat_eq one upper.filesystem)
            (filesystem_numbered nat_eq other next.filesystem)
        below = subst (λ layer. SameFilesystem (filesystem_numbered nat_eq one upper.filesystem)
            (filesystem_numbered nat_eq other layer.filesystem)) top (found_alike one other same upper.filesystem)

    overlay_alike : (upper next : Option (Layer ℕ)) → upper ≡ next
        → ((layer over : Layer ℕ) → upper ≡ Some layer → next ≡ Some over
        → LinesAlike (merge_of nat_eq one first overlay layer) (merge_of nat_eq other second again over))
        → Alike (overlay_changed nat_eq fresh one first overlay upper change)
        (overlay_changed nat_eq fresh other second again next change)
    overlay_alike None None top lines = same
    overlay_alike None (Some next) top lines = cc
    overlay_alike (Some upper) None top lines = cc
    overlay_alike (Some upper) (Some next) top lines =
        let layer : upper ≡ next = cc in
        subst (λ stack. Alike (overlay_changed nat_eq fresh one first overlay (Some upper) change)
        (with_merge nat_eq other second again next
        (merge_changed nat_eq fresh stack (merge_of nat_eq other second again next) change)))
        (stacks_same upper next layer) (with_merge_alike upper next layer _ _
        (merge_changed_alike fresh (stack_of nat_eq one overlay upper) _ _
        (merges_alike upper next layer) (lines upper next refl refl) change))

  pub filesystem_alike : (overlay again : Option (Overlay ℕ)) → overlay ≡ again
      → ((merged over : Overlay ℕ) (upper next : Layer ℕ) → overlay ≡ Some merged → merged.upper ≡ Some upper
      → again ≡ Some over → over.upper ≡ Some next
      → LinesAlike (merge_of nat_eq one first merged upper) (merge_of nat_eq other second over next))
      → Alike (filesystem_changed nat_eq fresh one first overlay change)
      (filesystem_changed nat_eq fresh other second again change)
  filesystem_alike None None is lines = plain_alike
  filesystem_alike None (Some again) is lines = cc
  filesystem_alike (Some overlay) None is lines = cc
  filesystem_alike (Some overlay) (Some again) is lines =
      let alike : overlay ≡ again = cc in
      overlay_alike overlay again alike overlay.upper again.upper (λ i. (alike i).upper)
      (λ layer over top below. lines overlay again layer over refl top refl below)

pub change_alike : (one other : World ℕ) → Alike one other → CopiesAlike one other
    → (fresh : Fresh ℕ) (location : Location ℕ) (change : Change ℕ)
    → Alike (with_change nat_eq fresh one location change) (with_change nat_eq fresh other location change)
change_alike one other same copies fresh location change =
    subst (λ mount. Alike (with_change nat_eq fresh one location change) (filesystem_changed nat_eq fresh other
    (filesystem_numbered nat_eq other mount.filesystem) (filesystem_numbered nat_eq other mount.filesystem).overlay
    change)) (mount_same one other same location) (filesystem_alike same fresh (found_alike one other same _)
    change _ _ (found_alike one other same (mount_at nat_eq one location).filesystem).overlay (copies _))

-- Tasks
pub with_tasks_alike : (one other : World ℕ) → Alike one other → (tasks again : List (Task ℕ))
    → Each SameTask tasks again → Alike (record one { tasks = tasks }) (record other { tasks = again })
with_tasks_alike one other same tasks again alike = grind (arith, common_steps)

pub replaced_alike : (ones others : List (Task ℕ)) → Each SameTask ones others → (task again : Task ℕ)
    → SameTask task again → Each SameTask (map (replaced_if_called task) ones) (map (replaced_if_called again) others)
replaced_alike ones others each task again alike = each_map _ _ _ _ (λ a b old. chosen SameTask (same_name _ a.name)
    (same_name _ b.name) (λ i. same_name (alike i).name (old i).name) task a again b alike old) ones others each

pub with_task_alike : (one other : World ℕ) → Alike one other → (task again : Task ℕ) → SameTask task again
    → Alike (with_task one task) (with_task other again)
with_task_alike one other same task again alike =
    with_tasks_alike one other same _ _ (replaced_alike one.tasks other.tasks same.tasks task again alike)
