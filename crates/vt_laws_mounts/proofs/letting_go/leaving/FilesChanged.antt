-- What calls that change plain trees let go of.
use Rattle.std.proofs.Common.{arith, ◌≡◌, refl, sym, ap, subst, ◌∙◌, ◌⊎◌, inl, inr, ⊎_elim, ℕ, nat_eq, true, false, ◌||◌, List, [], ◌∷◌, flat_map, map, Option, Some, None, is_some, option_to_list}
use Rattle.vt_spec.proofs.Common.{Access, Change, Descriptor, FileTree, Filesystem, Fresh, Location, Make, Move, Overlay, Remove, SetBytes, Task, World, all_locations, among_from_contains, any_pair, bytes_decides, bytes_in, changed, common_steps, evens, files_at, filesystem_at, filesystem_changed, filesystem_numbered, inserted, is_among, is_overlay, list_any, locations_of, mount_at, mounts_on, node_at, odds, or_parts, overwritten, replaced_if_called, replaced_if_numbered, same_name, settled, taken_away, with_change, with_descriptor, with_files, with_task}
use Rattle.vt_spec.proofs.Nodes.{is_some-node_with_bytes}
use Rattle.vt_spec.proofs.Trees.{is_tree-with_file_bytes, same_part}
use Rattle.vt_laws_mounts.specs.LettingGo.Leaving.{is_location_among, only_these_are_left}
use Rattle.vt_laws_mounts.specs.LettingGo.FileChanges.{FileChangesLetGo, MadeKeepsAll, MayChange, OpenedNewKeepsAll, RemovedDirectoriesLetGo, ReplacingLetsGo, TakenAndFileChangesLetGo, WrittenPartsKeepAll, inodes_lost, names_lost}
use Rattle.vt_laws_mounts.specs.LettingGo.InUse.{HasTrees, IsListedTree, UppersArePlain}
use Rattle.vt_laws_mounts.specs.LettingGo.LeavingOverlays.{IsSettled}
use Rattle.vt_laws_mounts.specs.LettingGo.MountingOverlays.{used_by_gone_with_layers}
use Rattle.vt_laws_mounts.specs.LettingGo.Overlays.{RealsAreThere, let_go_all, let_go_all_inodes}
use Rattle.vt_laws_mounts.specs.LettingGo.TreeChanges.{ChangesTree}
use Rattle.vt_laws_mounts.specs.LettingGo.TreesOverlays.{in_use_of, with_filesystems, with_lost}
use Rattle.vt_laws_mounts.specs.LettingGo.Unmounting.{numbers_of_trees}
use Rattle.vt_laws_mounts.proofs.letting_go.leaving.PlacesLeft.{location_among}
use Rattle.vt_laws_mounts.proofs.letting_go.Lists.{Among, list_all_from_among, among-flat_map, among-from_flat_map, among-map, none_among, or_left, or_right, among-from_map, among_from_all, among_numbers}
use Rattle.vt_laws_mounts.proofs.letting_go.mounting.MountingTaken.{hands_on, shows_the_same, taken_is}
use Rattle.vt_laws_mounts.proofs.letting_go.leaving.NamesKept.{changes_keep_names}
use Rattle.vt_laws_mounts.proofs.letting_go.sweeps.InUse.{nothing_goes}
use Rattle.vt_laws_mounts.proofs.letting_go.sweeps.OfWorlds.{found_filesystem}
use Rattle.vt_laws_mounts.proofs.letting_go.leaving.TreesWithOverlays.{all_change, opened_keeps_all, reals_after, taken_and_changed_lets_go, trees_after, unnamed_go_with_overlays, uppers_after}

-- what is at a location is in a tree
tree_there : (world : World ℕ) (location : Location ℕ) → IsSettled world
    → any_pair (λ (a b : Filesystem ℕ). nat_eq a.number b.number) world.filesystems ≡ false
    → is_among nat_eq (mount_at nat_eq world location).filesystem
    (map (λ filesystem. filesystem.number) world.filesystems) ≡ true → IsListedTree (files_at nat_eq world location)
tree_there world location settles one is_there =
    let number : ℕ = (mount_at nat_eq world location).filesystem in
    let t = among-from_map (λ (f : Filesystem ℕ). f.number) world.filesystems number
    (among_numbers number (map (λ (f : Filesystem ℕ). f.number) world.filesystems) is_there) in
    let same : filesystem_numbered nat_eq world number ≡ t.0 = ap (filesystem_numbered nat_eq world) t.2
    ∙ found_filesystem world.filesystems one t.0 t.1 in
    subst (λ (f : Filesystem ℕ). IsListedTree f.files) (sym same)
    (among_from_all (λ (g : Filesystem ℕ). IsListedTree g.files) world.filesystems settles.trees t.0 t.1)

module _ (world : World ℕ) (location : Location ℕ) (change : Change ℕ) (settles : IsSettled world)
    (one : any_pair (λ (a b : Filesystem ℕ). nat_eq a.number b.number) world.filesystems ≡ false)
    (is_there : is_among nat_eq (mount_at nat_eq world location).filesystem
    (map (λ filesystem. filesystem.number) world.filesystems) ≡ true)
    (plain : is_overlay (filesystem_at nat_eq world location) ≡ false)
    (after : IsListedTree (changed nat_eq (files_at nat_eq world location) change))
    (may : MayChange (files_at nat_eq world location) change) where
  abbrev number : ℕ
  number = (mount_at nat_eq world location).filesystem

  abbrev tree : FileTree ℕ
  tree = files_at nat_eq world location

  abbrev then_ : FileTree ℕ
  then_ = changed nat_eq tree change

  abbrev swap : Filesystem ℕ → Filesystem ℕ
  swap = replaced_if_numbered nat_eq (with_files (filesystem_numbered nat_eq world number) then_)

  listed_tree : IsListedTree tree
  listed_tree = tree_there world location settles one is_there

  changes : ChangesTree tree then_ (names_lost tree change)
  changes = changes_keep_names tree change listed_tree after may

  -- the change is one of a plain tree
  plainly : (fresh : Fresh ℕ) (other : World ℕ) → other.filesystems ≡ world.filesystems
      → (mount_at nat_eq other location).filesystem ≡ number
      → with_change nat_eq fresh other location change ≡ with_filesystems other swap
  plainly fresh other same shows = cc (found, by _ refl)
    where
      found : filesystem_at nat_eq other location ≡ filesystem_at nat_eq world location
      found = ap (filesystem_numbered nat_eq other) shows
          ∙ ap (λ fs. filesystem_numbered nat_eq (record other { filesystems = fs }) number) same

      by : (o : Option (Overlay ℕ)) → (filesystem_at nat_eq world location).overlay ≡ o
          → filesystem_changed nat_eq fresh other (filesystem_at nat_eq world location)
          (filesystem_at nat_eq world location).overlay change ≡ with_filesystems other swap
      by None e = ap (λ o. filesystem_changed nat_eq fresh other (filesystem_at nat_eq world location) o change) e
      by (Some overlay) e = absurd (cc plain)

  goes_alone : (fresh : Fresh ℕ) → settled nat_eq (with_change nat_eq fresh world location change)
      ≡ let_go_all_inodes (with_change nat_eq fresh world location change) (inodes_lost world location change)
  goes_alone fresh = subst (λ w. settled nat_eq w ≡ let_go_all_inodes w (inodes_lost world location change))
      (sym (plainly fresh world refl refl))
      (unnamed_go_with_overlays world number then_ (names_lost tree change) settles one is_there plain changes)

  goes_with_mounts : (fresh : Fresh ℕ) (gone : List ℕ)
      → settled nat_eq (with_change nat_eq fresh (taken_away nat_eq world gone) location change)
      ≡ let_go_all (with_change nat_eq fresh (taken_away nat_eq world gone) location change)
      (with_lost (used_by_gone_with_layers world gone) (inodes_lost world location change))
  goes_with_mounts fresh gone = subst (λ w. settled nat_eq w ≡ let_go_all w
      (with_lost (used_by_gone_with_layers world gone) (inodes_lost world location change)))
      (sym (plainly fresh taken (ap (λ w. w.filesystems) (taken_is world gone))
      (ap (λ w. (mount_at nat_eq w location).filesystem) (taken_is world gone)
      ∙ shows_the_same world gone world.namespaces (hands_on world gone) location.mount)))
      (taken_and_changed_lets_go world gone swap (inodes_lost world location change) settles
      (subst (λ w. HasTrees (with_filesystems w swap)) (sym (taken_is world gone))
      (trees_after number settles one is_there plain changes))
      (subst (λ w. UppersArePlain (with_filesystems w swap)) (sym (taken_is world gone))
      (uppers_after number settles one is_there plain changes))
      (subst (λ w. RealsAreThere (with_filesystems w swap)) (sym (taken_is world gone))
      (reals_after number settles one is_there plain changes)) (all_change number settles one is_there plain changes
      (in_use_of (with_filesystems taken swap))))
    where
      taken : World ℕ
      taken = taken_away nat_eq world gone

pub file_changes_let_go : FileChangesLetGo
file_changes_let_go fresh world location change settles one there plain after may =
    goes_alone world location change settles one there plain after may fresh

pub taken_and_file_changes_let_go : TakenAndFileChangesLetGo
taken_and_file_changes_let_go fresh world gone location change settles one there plain after may =
    goes_with_mounts world location change settles one there plain after may fresh gone

pub removed_directories_let_go : RemovedDirectoriesLetGo
removed_directories_let_go fresh world task parent name directory settles one there plain after =
    goes_with_mounts world parent (Remove parent.node name directory.node) settles one there plain after tt fresh
    (numbers_of_trees world (mounts_on nat_eq world directory))

pub replacing_lets_go : ReplacingLetsGo
replacing_lets_go fresh world task from old to new object replaced settles one there plain after moves =
    goes_with_mounts world from (Move from.node old to.node new object.node) settles one there plain after moves fresh
    (numbers_of_trees world (mounts_on nat_eq world replaced))

-- A change by which no name is lost
module _ (world : World ℕ) (location : Location ℕ) (change : Change ℕ) (settles : IsSettled world)
    (one : any_pair (λ (a b : Filesystem ℕ). nat_eq a.number b.number) world.filesystems ≡ false)
    (is_there : is_among nat_eq (mount_at nat_eq world location).filesystem
    (map (λ filesystem. filesystem.number) world.filesystems) ≡ true)
    (plain : is_overlay (filesystem_at nat_eq world location) ≡ false)
    (after : IsListedTree (changed nat_eq (files_at nat_eq world location) change))
    (may : MayChange (files_at nat_eq world location) change)
    (none : names_lost (files_at nat_eq world location) change ≡ []) where
  keeps_all : (fresh : Fresh ℕ) → settled nat_eq (with_change nat_eq fresh world location change)
      ≡ with_change nat_eq fresh world location change
  keeps_all fresh = cc (goes_alone world location change settles one is_there plain after may fresh, none)

  abbrev swapped : Filesystem ℕ → Filesystem ℕ
  swapped = swap world location change settles one is_there plain after may

  keeps_names : ChangesTree (files_at nat_eq world location) (changed nat_eq (files_at nat_eq world location) change) []
  keeps_names =
      subst (ChangesTree (files_at nat_eq world location) (changed nat_eq (files_at nat_eq world location) change)) none
      (changes world location change settles one is_there plain after may)

  -- and a task comes to more locations
  keeps_all_with : (fresh : Fresh ℕ) (new : Task ℕ) → only_these_are_left world (with_task world new).tasks [] ≡ true
      → settled nat_eq (with_task (with_change nat_eq fresh world location change) new)
      ≡ with_task (with_change nat_eq fresh world location change) new
  keeps_all_with fresh new only = subst (λ w. settled nat_eq (with_task w new) ≡ with_task w new)
      (sym (plainly world location change settles one is_there plain after may fresh world refl refl))
      (opened_keeps_all world (with_task world new).tasks swapped settles only
      (trees_after number_of settles one is_there plain keeps_names)
      (uppers_after number_of settles one is_there plain keeps_names)
      (reals_after number_of settles one is_there plain keeps_names)
      (all_change number_of settles one is_there plain keeps_names
      (in_use_of (with_filesystems (with_task world new) swapped))))
    where
      number_of : ℕ
      number_of = (mount_at nat_eq world location).filesystem

      then_tree : FileTree ℕ
      then_tree = changed nat_eq (files_at nat_eq world location) change

-- Other bytes of a file leave the tree one, with the same numbers.
rewritten_tree : (files : FileTree ℕ) (file : ℕ) (bytes : List ℕ) → IsListedTree files
    → IsListedTree (changed nat_eq files (SetBytes file bytes))
rewritten_tree files file bytes listed = record {
  tree = is_tree-with_file_bytes files.tree file bytes listed.tree;
  numbers = λ number. listed.numbers number
      ∙ sym (same_part files.tree file bytes listed.tree is_some (is_some-node_with_bytes bytes) number);
}

pub written_parts_keep_all : WrittenPartsKeepAll
written_parts_keep_all fresh world task file offset [] settles one there plain = nothing_goes world settles.in_use
written_parts_keep_all fresh world task file offset (byte ∷ bytes) settles one there plain =
    let written : List ℕ = overwritten offset (byte ∷ bytes) (bytes_in (node_at nat_eq world file)) in
    keeps_all world file (SetBytes file.node written) settles one there plain
    (rewritten_tree (files_at nat_eq world file) file.node written (tree_there world file settles one there)) tt refl
    fresh

pub made_keeps_all : MadeKeepsAll
made_keeps_all fresh world task directory name node settles one there plain after made free =
    keeps_all world directory (Make directory.node name (evens fresh 0) node) settles one there plain after made
    (ap option_to_list free) (odds fresh)

-- Tasks of one name are one task
one_task : (tasks : List (Task ℕ)) → any_pair (λ (a b : Task ℕ). same_name a.name b.name) tasks ≡ false
    → (a b : Task ℕ) → Among a tasks → Among b tasks → same_name a.name b.name ≡ true → a ≡ b
one_task [] one a b m n same = absurd m
one_task (first ∷ rest) one a b m n same = by m n (one_task rest parts.1 a b)
  where
    parts : (list_any (λ (x : Task ℕ). same_name first.name x.name) rest ≡ false)
        × (any_pair (λ (x y : Task ℕ). same_name x.name y.name) rest ≡ false)
    parts = or_parts _ _ one

    not_both : (x y : Task ℕ) → x ≡ first → Among y rest → same_name x.name y.name ≡ true → a ≡ b
    not_both x y e l h = absurd (cc (none_among _ rest parts.0 y l))

    back : same_name b.name a.name ≡ true
    back = cc ((bytes_decides a.name b.name).0 same, (bytes_decides a.name a.name).1 refl)

    by : Among a (first ∷ rest) → Among b (first ∷ rest)
        → (Among a rest → Among b rest → same_name a.name b.name ≡ true → a ≡ b) → a ≡ b
    by (inl e) (inl f) later = e ∙ sym f
    by (inl e) (inr l) later = not_both a b e l same
    by (inr l) (inl f) later = not_both b a f l back
    by (inr k) (inr l) later = later k l same

-- A descriptor more
inserted_keeps : (new : Descriptor ℕ) (list : List (Descriptor ℕ)) (d : Descriptor ℕ) → Among d list
    → Among d (inserted new list)
inserted_keeps new [] d m = absurd m
inserted_keeps new (first ∷ rest) d m = grind (arith, common_steps, inserted_keeps new rest d)

with_descriptor_keeps : (task : Task ℕ) (file : Location ℕ) (access : Access) (location : Location ℕ)
    → Among location (locations_of task) → Among location (locations_of (with_descriptor task file access))
with_descriptor_keeps task file access location known =
    grind (arith, common_steps, among-from_map, among-map, inserted_keeps)

-- a task that goes to other locations leaves no location of another task
pub replaced_leaves : (world : World ℕ) (task new : Task ℕ) (left : List (Location ℕ))
    → any_pair (λ (a b : Task ℕ). same_name a.name b.name) world.tasks ≡ false → Among task world.tasks
    → new.name ≡ task.name → ((location : Location ℕ) → Among location (locations_of task)
    → Among location (locations_of new) ⊎ Among location left)
    → only_these_are_left world (with_task world new).tasks left ≡ true
replaced_leaves world task new left one there called keeps =
    list_all_from_among
    (λ location. is_location_among (flat_map locations_of tasks) location || is_location_among left location)
    (all_locations world) (λ location m.
    let from = among-from_flat_map locations_of world.tasks location m in
    ⊎_elim
    (λ still. or_left (is_location_among (flat_map locations_of tasks) location) (is_location_among left location)
    (location_among (flat_map locations_of tasks) location
    (among-flat_map locations_of tasks (replaced_if_called new from.0) location
    (among-map (replaced_if_called new) world.tasks from.0 from.1) still)))
    (λ gone. or_right (is_location_among (flat_map locations_of tasks) location) (is_location_among left location)
    (location_among left location gone)) (stays from.0 from.1 location from.2))
  where
    tasks : List (Task ℕ)
    tasks = (with_task world new).tasks

    stays : (other : Task ℕ) → Among other world.tasks → (location : Location ℕ) → Among location (locations_of other)
        → Among location (locations_of (replaced_if_called new other)) ⊎ Among location left
    stays other m location n = grind (arith, common_steps, one_task)

pub none_left : (world : World ℕ) (task : Task ℕ) (file : Location ℕ) (access : Access)
    → any_pair (λ (a b : Task ℕ). same_name a.name b.name) world.tasks ≡ false
    → Among task world.tasks → only_these_are_left world (with_task world (with_descriptor task file access)).tasks []
    ≡ true
none_left world task file access one there =
    replaced_leaves world task _ [] one there refl (λ location m. inl (with_descriptor_keeps task file access _ m))

pub opened_new_keeps_all : OpenedNewKeepsAll
opened_new_keeps_all fresh world task directory name node access settles one one_name there_task there plain after made
    free =
    keeps_all_with world directory (Make directory.node name (evens fresh 0) node) settles one there plain after made
    (ap option_to_list free) (odds fresh) (with_descriptor task file access)
    (none_left world task file access one_name (among_from_contains world.tasks task there_task))
  where
    file : Location ℕ
    file = record { mount = directory.mount; node = evens fresh 0 }
