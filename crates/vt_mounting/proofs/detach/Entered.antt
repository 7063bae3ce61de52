-- A task enters a namespace: setns(2).
use Rattle.std.proofs.Common.{◌≡◌, ◌<◌, refl, sym, ap, subst, ◌∙◌, inl, inr, ℕ, ◌+◌, nat_eq, Bool, true, false, true≢false, cond, not, ◌&&◌, ◌==◌, List, [], ◌∷◌, ◌++◌, length, map, filter, find, Option, Some, None, option_map, is_some, unwrap_or, arith, IsSome, option_to_list}
use Rattle.vt_spec.proofs.Common.{Mount, Namespace, Task, TaskName, ToEnterNamespace, World, and_parts, common_steps, entered_at, folded, has_its_root, has_one_root, has_tasks, holds_of, is_located_well, is_root_mount, list_all, mounts_of, namespace_root, namespaces_ended, numbers_in_use, root_mount, root_of, same_Some, task_called, topmost, used_by_filesystem, used_by_mount, with_task}
use Rattle.vt_spec.specs.Machine.Mounts as meant
use Rattle.vt_mounting.proofs.Common.{Among, CountsWhatIsInIt, Filesystems, Grouping, IsHeld, MountEntry, NamespaceEntry, Tasks, WorldValue, among-append_right, among-from_filter, among-from_map, among-map, among_from_all, among_from_list_all, among_numbers, called, changed_by, changed_called, counted, directory_is_there, found_itself, is_among_numbers, is_counted_before, is_small_node, location_of, locations_in, namespace_of, number_of, one_if, replaced, times, used_numbers_are_named, world_of}
use Rattle.vt_location.specs.declared.locations.Location.{Location}
use Rattle.vt_tasks.specs.declared.task.Left.{Left}
use Rattle.vt_tasks.specs.TasksValue.{left_by, left_of}
use Rattle.vt_laws_worlds.proofs.worlds.Reached.{topmost_found}
use Rattle.vt_mounting.specs.Detach.Events.{Permits}
use Rattle.vt_mounting.specs.Detach.Forking.{more_tasks, with_task_more}
use Rattle.vt_mounting.specs.Detach.NamespacesLeft.{MountsAreLeft, namespace_entry, with_one_task_less}
use Rattle.vt_mounting.specs.Detach.Uses.{Kept, Merged, kept_of, kept_with, overlays_kept, with_location, with_use, without_location}
use Rattle.vt_mounting.proofs.detach.Departing.{departs}
use Rattle.vt_mounting.proofs.detach.Exiting.{left_so, located}
use Rattle.vt_mounting.proofs.detach.FileEvents.{permit_fits}
use Rattle.vt_mounting.proofs.detach.LocationsSeen.{seen_where_located}
use Rattle.vt_mounting.proofs.detach.MidwayDone.{leave_use}
use Rattle.vt_mounting.proofs.detach.Moving.{Moves, gain}
use Rattle.vt_mounting.proofs.detach.NamespacesEnded.{CountsOneMore, tasks_counted}
use Rattle.vt_mounting.proofs.detach.Places.{standing}
use Rattle.vt_mounting.proofs.detach.Shown.{counted_eq_back}
use Rattle.vt_mounting.proofs.detach.Splits.{IsSplit, locations_around, replaced_split, times_replaced, writes_replaced}
use Rattle.vt_mounting.proofs.detach.Staying.{IsDone}

-- The root of a namespace is there

pub root_is_located : {value : WorldValue} → IsHeld value → (task : Task ℕ) (namespace : ℕ) {root : meant.Location ℕ}
    → namespace_root nat_eq (world_of value) namespace ≡ Some root → is_located_well nat_eq (world_of value) root ≡ true
root_is_located {value} whole task namespace {root} is = by (root_mount nat_eq (world_of value) namespace) refl is
  where
    world : World ℕ
    world = world_of value

    found_one : (p : Mount ℕ → Bool) (mounts : List (Mount ℕ)) (mount : Mount ℕ) → find p mounts ≡ Some mount
        → Among mount mounts
    found_one p [] mount e = absurd cc
    found_one p (x ∷ xs) mount e = one (p x) e (found_one p xs mount)
      where
        one : (b : Bool) → cond b (Some x) (find p xs) ≡ Some mount → (find p xs ≡ Some mount → Among mount xs)
            → Among mount (x ∷ xs)
        one true f later = inl (sym (same_Some x mount f))
        one false f later = inr (later f)

    held : (o : Option ℕ) → holds_of (nat_eq namespace) o ≡ true → list_all (nat_eq namespace) (option_to_list o) ≡ true
    held None e = refl
    held (Some n) e = ap (λ b. b && true) e

    by : (o : Option (Mount ℕ)) → root_mount nat_eq world namespace ≡ o
        → option_map (λ mount. topmost nat_eq world.mounts (root_of mount)) o ≡ Some root
        → is_located_well nat_eq world root ≡ true
    by None e f = absurd (none f)
      where
        none : None ≡ Some root → ⊥
        none g = cc
    by (Some mount) e f =
        let among = among-from_filter (λ (x : Mount ℕ). holds_of (nat_eq namespace) x.namespace) world.mounts mount
        (found_one (λ (x : Mount ℕ). not (is_some x.mount_point)) (mounts_of nat_eq world namespace) mount e) in
        let itself = found_itself world.mounts whole.in_world.mounts.one_number mount among.0 in
        let directory = (and_parts _ _
        (among_from_list_all (has_its_root nat_eq world) world.mounts whole.in_world.roots mount among.0)).0 in
        let there = topmost_found world whole.in_world (record task { namespace = namespace }) (root_of mount) (
          (
            is_among_numbers mount.number (map (λ (x : Mount ℕ). x.number) world.mounts)
                (among-map (λ (x : Mount ℕ). x.number) world.mounts mount among.0),
            ap (λ (x : Mount ℕ). list_all (nat_eq namespace) (option_to_list x.namespace)) itself
                ∙ held mount.namespace among.1,
          ),
          ap (λ (x : Mount ℕ). is_some ((Rattle.vt_spec.specs.Machine.World.filesystem_numbered nat_eq world x.filesystem).files.tree.node mount.root)) itself
              ∙ directory_is_there _ directory,
        ) in
        let same : topmost nat_eq world.mounts (root_of mount) ≡ root = same_Some _ _ f in
        subst (λ l. is_located_well nat_eq world l ≡ true) same (λ i. there.0.0 i && there.1 i)

-- there is one

nothing_found : (p : Mount ℕ → Bool) (mounts : List (Mount ℕ)) → find p mounts ≡ None → filter p mounts ≡ []
nothing_found p [] e = refl
nothing_found p (x ∷ xs) e = grind (arith, common_steps, nothing_found p xs)

pub namespace_has_a_root : (value : WorldValue) → IsHeld value → (name : TaskName) (count : ℕ) (root : Option Location)
    → Permits value name (ToEnterNamespace (counted count))
    → option_map location_of root ≡ namespace_root nat_eq (world_of value) (counted count) → IsSome root
namespace_has_a_root value whole name count None permits is = absurd
    (by (root_mount nat_eq world (counted count)) refl is)
  where
    world : World ℕ
    world = world_of value

    one_root : (length (filter (is_root_mount nat_eq) (mounts_of nat_eq world (counted count))) == 1) ≡ true
    one_root =
        let from = among-from_map (λ (n : Namespace ℕ). n.number) world.namespaces (counted count)
        (among_numbers (counted count) (map (λ (n : Namespace ℕ). n.number) world.namespaces)
        (permit_fits value whole name (ToEnterNamespace (counted count)) permits).names) in
        cc (
          from.2,
          among_from_list_all (has_one_root nat_eq world) world.namespaces
              whole.in_world.namespaces.root_mounts from.0 from.1,
        )

    by : (o : Option (Mount ℕ)) → root_mount nat_eq world (counted count) ≡ o
        → None ≡ option_map (λ mount. topmost nat_eq world.mounts (root_of mount)) o → ⊥
    by (Some mount) e f = cc
    by None e f = true≢false (sym one_root ∙ ap (λ (list : List (Mount ℕ)). length list == 1)
        (nothing_found (is_root_mount nat_eq) (mounts_of nat_eq world (counted count)) e))
namespace_has_a_root value whole name count (Some root) permits is = refl

-- The task

module _ {value : WorldValue} (whole : IsHeld value) (name : TaskName) {task : Task ℕ}
    (found : task_called (world_of value) name ≡ Some task)
    (count : ℕ) (root : meant.Location ℕ) (well : is_located_well nat_eq (world_of value) root ≡ true) where
  abbrev world : World ℕ
  world = world_of value

  abbrev entered : Task ℕ
  entered = entered_at task (counted count) root

  abbrev tasks : Tasks
  tasks = replaced entered value.tasks

  abbrev split : IsSplit task entered value.tasks tasks
  split = replaced_split name value.tasks task entered whole.in_world.tasks.one_task found refl

  abbrev files : List (meant.Location ℕ)
  files = map (λ (d : Rattle.vt_spec.specs.Machine.World.Descriptor ℕ). d.location) task.descriptors

  pub enter_moves : Moves value tasks (standing root ∷ standing root ∷ [])
      (standing task.root ∷ standing task.directory ∷ [])
  enter_moves = record {
    front = locations_in split.front;
    back = files ++ locations_in split.back;
    was = ap locations_in split.was ∙ locations_around split.front task split.back;
    is = ap locations_in split.is ∙ locations_around split.front entered split.back;
    there = λ i. well i && (well i && true);
    writes = λ mount.
        let moved = writes_replaced name value.tasks task entered whole.in_world.tasks.one_task found refl mount in
        omega (arith, moved);
  }

  -- one task more there, and one less where it was
  pub enter_counts : (left : ℕ) → task.namespace ≡ counted left → (entry : NamespaceEntry)
      → Among entry (with_task_more count value.namespaces) → CountsOneMore left tasks entry
  enter_counts left its entry m =
      let from = among-from_map (λ (e : NamespaceEntry). cond (nat_eq count e.count)
      (more_tasks e) e) value.namespaces entry m in
      subst (CountsOneMore left tasks) (sym from.2) (one from.0 from.1 (nat_eq count from.0.count) refl)
    where
      one : (e : NamespaceEntry) → Among e value.namespaces → (b : Bool) → nat_eq count e.count ≡ b
          → CountsOneMore left tasks (cond b (more_tasks e) e)
      one e n b is =
          let had = (among_from_all (CountsWhatIsInIt world) value.namespaces whole.namespaces e n).tasks in
          let moved = times_replaced name value.tasks task entered whole.in_world.tasks.one_task found refl
          (λ (other : Task ℕ). nat_eq (counted e.count) other.namespace) in
          let come : one_if (nat_eq (counted e.count) (counted count))
          ≡ cond b 1 0 = ap one_if (counted_eq_back e.count count ∙ is) in
          let gone : one_if (nat_eq (counted e.count) task.namespace) ≡ cond (nat_eq left e.count) 1 0 =
          ap (λ k. one_if (nat_eq (counted e.count) k)) its ∙ ap one_if (counted_eq_back e.count left) in
          let some : nat_eq e.tasks 0 ≡ false = ap (λ k. nat_eq k 0) had ∙ tasks_counted (counted e.count) value.tasks
          (among_from_list_all (has_tasks nat_eq world) world.namespaces whole.in_world.namespaces.namespaces_live
          (namespace_of e)
          (among-map namespace_of value.namespaces e n)) in
          by b (e.tasks + cond b 1 0) refl (let all : e.tasks + cond b 1 0
          ≡ times (λ (other : Task ℕ). nat_eq (counted e.count) other.namespace) tasks + cond
          (nat_eq left e.count) 1 0 = omega (arith, had, moved, come, gone) in all) some
        where
          by : (b : Bool) (n : ℕ) → n ≡ e.tasks + cond b 1 0
              → n ≡ times (λ (other : Task ℕ). nat_eq (counted e.count) other.namespace) tasks + cond
              (nat_eq left e.count) 1 0 → nat_eq e.tasks 0 ≡ false → CountsOneMore left tasks (cond b (more_tasks e) e)
          by true n is all some = record {
            inside = sym is ∙ all;
            some = Rattle.std.proofs.Common.ne_eqb (e.tasks + 1) 0
                (λ z. let zero : e.tasks + 1 ≡ 0 = z in absurd (omega (arith, zero)));
          }
          by false n is all some = record {
            inside = (let same : e.tasks ≡ n = omega (arith, is) in same) ∙ all;
            some = some;
          }

pub same_namespaces_more : (count : ℕ) (all : List NamespaceEntry)
    → map namespace_of all ≡ map namespace_of (with_task_more count all)
same_namespaces_more count [] = refl
same_namespaces_more count (e ∷ es) = grind (arith, common_steps, same_namespaces_more count es)

-- a namespace that is listed has a number that was given out
listed_is_named : (value : WorldValue) → IsHeld value → (namespace : ℕ)
    → Rattle.vt_spec.specs.Machine.Invariants.is_listed nat_eq (world_of value) namespace ≡ true
    → is_counted_before value.next namespace ≡ true
listed_is_named value whole namespace listed =
    used_numbers_are_named (is_counted_before value.next) (world_of value) whole.given
    (3, 7, (λ e. absurd (omega (arith, e))), refl, refl) namespace
    (is_among_numbers namespace (numbers_in_use (world_of value))
    (among-append_right (Rattle.std.proofs.Common.flat_map used_by_mount (world_of value).mounts
    ++ Rattle.std.proofs.Common.flat_map used_by_filesystem (world_of value).filesystems)
    (map (λ (n : Namespace ℕ). n.number) (world_of value).namespaces) namespace
    (among_numbers namespace (map (λ (n : Namespace ℕ). n.number) (world_of value).namespaces) listed)))

-- what code holds is what the definitions name
held_so : {value : WorldValue} → IsHeld value → (at : Location) (k : Kept) → is_small_node at.node ≡ true
    → is_located_well nat_eq (world_of value) (location_of at) ≡ true
    → with_location at false k ≡ gain (world_of value) k (standing (location_of at))
held_so {value} whole at k few well = λ i. with_use (counted at.mount.count)
    (sym (seen_where_located value whole at few well) i, number_of at.node) false k

pub task_enters : (value : WorldValue) (name : TaskName) (count : ℕ) (root : Location) (left : Left)
    (mounts : List MountEntry) (groups : Grouping) (filesystems : Filesystems) (overlays : List Merged)
    (namespaces : List NamespaceEntry) (new_tasks : Tasks) (k : Kept)
    → IsHeld value → Permits value name (ToEnterNamespace (counted count))
    → Some (location_of root) ≡ namespace_root nat_eq (world_of value) (counted count)
    → is_small_node root.node ≡ true → is_small_node left.root.node ≡ true → is_small_node left.directory.node ≡ true
    → Some (left_of left) ≡ option_map left_by (called name value.tasks)
    → new_tasks ≡ changed_called name (λ task. entered_at task (counted count) (location_of root)) value.tasks
    → k ≡ without_location left.directory false (without_location left.root false
    (with_location root false (with_location root false (kept_of value))))
    → namespaces ≡ with_one_task_less left.namespace.count (with_task_more count value.namespaces)
    → MountsAreLeft (counted left.namespace.count)
    (namespace_entry left.namespace.count (with_task_more count value.namespaces)) k value.groups
    (kept_with mounts filesystems overlays) groups → IsDone value name (ToEnterNamespace (counted count))
    (record value {
      mounts = mounts;
      groups = groups;
      filesystems = filesystems;
      overlays = overlays_kept overlays value.overlays;
      namespaces = namespaces;
      tasks = new_tasks;
    })
task_enters value name count root left mounts groups filesystems overlays namespaces new_tasks k whole permits root_is few few_root few_directory left_is are k_is namespaces_are mounts_are =
    let task = permits.task in
    let world = world_of value in
    let place = location_of root in
    let well = root_is_located whole task (counted count) (sym root_is) in
    let same : left_of left ≡ left_by task = same_Some _ _ (left_is ∙ ap (option_map left_by) permits.called) in
    let namespace_is : task.namespace ≡ counted left.namespace.count = ap (λ one. one.0) (sym same) in
    let at_root : location_of left.root ≡ task.root = ap (λ one. one.1) same in
    let at_directory : location_of left.directory ≡ task.directory = ap (λ one. one.2) same in
    let located_so = located whole name permits.called in
    let old = kept_of value in
    let held = gain world (gain world old (standing place)) (standing place) in
    let k_so : k ≡ folded (leave_use world) held (standing task.root ∷ standing task.directory ∷ []) = k_is
    ∙ ap (λ one. without_location left.directory false (without_location left.root false one))
    (ap (with_location root false) (held_so whole root old few well)
    ∙ held_so whole root (gain world old (standing place)) few well) ∙ ap (without_location left.directory false)
    (left_so whole left.root false held few_root
    (ap (is_located_well nat_eq world) at_root ∙ located_so task.root (inl refl))
    ∙ ap (λ l. leave_use world held (standing l)) at_root)
    ∙ left_so whole left.directory false (leave_use world held (standing task.root)) few_directory
    (ap (is_located_well nat_eq world) at_directory ∙ located_so task.directory (inr (inl refl)))
    ∙ ap (λ l. leave_use world (leave_use world held (standing task.root)) (standing l)) at_directory in
    subst (λ all. IsDone value name (ToEnterNamespace (counted count)) (record value {
      mounts = mounts;
      groups = groups;
      filesystems = filesystems;
      overlays = overlays_kept overlays value.overlays;
      namespaces = namespaces;
      tasks = all;
    })) (sym (are ∙ ap (changed_by (λ one. entered_at one (counted count) place) value.tasks) permits.called))
    (departs (record {
      whole = whole;
      moves = enter_moves whole name permits.called count place well;
      counts = record {
        each = enter_counts whole name permits.called count place well left.namespace.count namespace_is;
      };
      same_namespaces = same_namespaces_more count value.namespaces;
    }) filesystems overlays namespaces_are (record {
      called = permits.called;
      given = permits.given;
      named = listed_is_named value whole (counted count)
          (permit_fits value whole name (ToEnterNamespace (counted count)) permits).names;
      applied = λ fresh. ap (λ o. namespaces_ended nat_eq (with_task world (entered_at task (counted count) (unwrap_or
          o task.root)))) (sym root_is);
    }) mounts groups (subst (λ one. MountsAreLeft (counted left.namespace.count)
    (namespace_entry left.namespace.count (with_task_more count value.namespaces)) one value.groups
    (kept_with mounts filesystems overlays) groups) k_so mounts_are))
