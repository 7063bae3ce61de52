-- A stack of mounts with one mount more.
use Rattle.std.proofs.Common.{inr, ◌≡◌, refl, sym, ap, subst, ◌∙◌, inl, true≢false, ℕ, suc, nat_eq, nat_lt, eq-eqb, Bool, true, false, cond, ◌&&◌, ◌<◌, ◌≤◌, List, [], ◌∷◌, ◌++◌, None, Some, Ok, map, arith}
use Rattle.vt_spec.proofs.Common.{Among, Done, Filesystem, Fresh, IsWorld, Mount, MountFlags, MountPlain, Namespace, Serves, Task, TaskName, ToMountPlain, World, among-append_right, child_at, common_steps, denial, denied, entries_in, entry_named, execute_right, filesystem_numbered, find-append, granted, is_directory_at, is_directory_node, is_removed_at, most_mounts, mount_at, mount_numbered, nat_eq_false_turned, nat_tests, new_directory, node_allows, node_at, numbers_raised, policy, raised, raised_if_changed, raised_namespace, raised_task, root_attr, root_of, same_name, settled, stands_at, topmost, unless}
use Rattle.vt_laws_later_calls.proofs.Common.{cases_Option, IsPlain, M9, all_in_use, calls_keep_worlds, found-append, found_filesystem, found_in, found_itself, locations_of_worlds_stand, mounts_of_worlds_stand, new_mounts_of_trees_keep_all, place_attached, plain_numbered, root_found, same_location_itself, stands_there, topmost_is_free}
use Rattle.vt_laws_later_calls.proofs.Granted.{called_raised}
use Rattle.vt_laws_later_calls.proofs.limits.AddedMount.{added_filesystem, added_mount, attached_is_mount, master-new_mount, other_number}
use Rattle.vt_laws_later_calls.proofs.limits.PathWalks.{HasOneWord}
use Rattle.vt_laws_later_calls.proofs.limits.Outcomes.{policy_by_judgement, refused_call}
use Rattle.vt_laws_later_calls.proofs.limits.StackedMounts.{IsStack, judged_by_room, mounted_world, mounts_after, one_more_mount}
use Rattle.vt_laws_later_calls.proofs.limits.TopmostGrows.{topmost_is_new, topmost_of_free}
use Rattle.vt_laws_later_calls.proofs.Readers.{own_name}

-- a filesystem with a directory is found where another comes last
pub filesystem_stays : (world : World ℕ) (added : Filesystem ℕ) (number node : ℕ)
    → is_directory_node ((filesystem_numbered nat_eq world number).files.tree.node node) ≡ true
    → filesystem_numbered nat_eq (record world { filesystems = world.filesystems ++ (added ∷ []) }) number
    ≡ filesystem_numbered nat_eq world number
filesystem_stays world added number node directory = grind (arith, common_steps, true≢false, find-append)

-- where no filesystem changed, all keep their change numbers
pub filesystems_not_raised : (filesystems : List (Filesystem ℕ)) → map (raised_if_changed nat_eq []) filesystems
    ≡ filesystems
filesystems_not_raised [] = refl
filesystems_not_raised (filesystem ∷ rest) = cc (filesystems_not_raised rest)

-- namespaces keep their numbers where change numbers are raised
pub numbers-raised_namespaces : (before left : World ℕ) (namespaces : List (Namespace ℕ))
    → map (λ (namespace : Namespace ℕ). namespace.number) (map (raised_namespace nat_eq before left) namespaces)
    ≡ map (λ namespace. namespace.number) namespaces
numbers-raised_namespaces before left [] = refl
numbers-raised_namespaces before left (namespace ∷ rest) =
    grind (arith, common_steps, numbers-raised_namespaces before left rest)

-- of a task whose change number is raised nothing else changes
pub raised_task_is : (name : TaskName) (task : Task ℕ)
    → (change : ℕ) × (raised_task name task ≡ record task { change = change })
raised_task_is name task = by (same_name name task.name)
  where
    by : (b : Bool) → (change : ℕ)
        × ((cond b (record task { change = raised task.change }) task) ≡ record task { change = change })
    by true = (raised task.change, refl)
    by false = (task.change, refl)

module _ {world : World ℕ} {name : TaskName} {path word : List ℕ} (one : HasOneWord path word) {count : ℕ}
    (stack : IsStack world name word count) (fresh : Fresh ℕ) (flags : MountFlags) where
  -- a full namespace refuses one more mount
  pub full_stack_refuses : most_mounts ≤ count
      → policy nat_eq fresh world name (MountPlain path flags) ≡ denied world (denial M9)
  full_stack_refuses full = refused_call world fresh name (MountPlain path flags) stack.called (denial M9)
      (cc (judged_by_room one stack fresh flags, over))
    where
      over : nat_lt most_mounts (suc count) ≡ true
      over = grind (arith, nat_tests)

  module _ (serves : Serves nat_eq world fresh) (room : count < most_mounts) where
    abbrev task : Task ℕ
    task = stack.task

    -- the mount that comes onto the stack
    abbrev new : Mount ℕ
    new = added_mount fresh world stack.top flags

    -- the filesystem that it shows
    abbrev added : Filesystem ℕ
    added = added_filesystem fresh world stack.top flags

    -- the world with both, before change numbers are raised
    abbrev mounted : World ℕ
    mounted = mounted_world one stack fresh flags

    -- the world after the call
    abbrev pub stacked_world : World ℕ
    stacked_world = numbers_raised nat_eq world name [] (mounted_world one stack fresh flags)

    -- the sweep takes nothing
    nothing_goes : settled nat_eq mounted ≡ mounted
    nothing_goes = new_mounts_of_trees_keep_all fresh world stack.task stack.top flags (all_in_use world stack.is)
        (mounts_of_worlds_stand world stack.is) (locations_of_worlds_stand world stack.is) (cc stack.inside)

    -- the call is granted
    pub stack_grows : policy nat_eq fresh world name (MountPlain path flags) ≡ granted Done stacked_world
    stack_grows = policy_by_judgement world fresh name (MountPlain path flags) stack.called
        (Ok (ToMountPlain stack.top flags)) (judged_by_room one stack fresh flags
        ∙ ap (λ b. unless ((b, M9) ∷ []) (Ok (ToMountPlain stack.top flags))) below)
        ∙ ap (λ left. granted Done (numbers_raised nat_eq world name [] left)) nothing_goes
      where
        below : nat_lt most_mounts (suc count) ≡ false
        below = grind (arith, nat_tests)

    -- the invariants hold after the call
    kept : IsWorld nat_eq stacked_world × IsPlain stacked_world
    kept = subst (λ (left : World ℕ). IsWorld nat_eq left × IsPlain left) (cc stack_grows)
        (calls_keep_worlds world fresh name (MountPlain path flags) stack.is stack.plain serves refl refl)

    -- Mounts
    pub mounts_are : stacked_world.mounts ≡ world.mounts ++ (new ∷ [])
    mounts_are = mounts_after one stack fresh flags

    -- the new mount is the last one
    new_is_there : Among new stacked_world.mounts
    new_is_there = rw mounts_are (among-append_right world.mounts (new ∷ []) new (inl refl))

    -- it is found by its number
    new_is_found : mount_numbered nat_eq stacked_world new.number ≡ new
    new_is_found = found_itself stacked_world.mounts kept.0.mounts.one_number new new_is_there

    -- Filesystems
    pub filesystems_are : stacked_world.filesystems ≡ world.filesystems ++ (added ∷ [])
    filesystems_are = filesystems_not_raised (world.filesystems ++ (added ∷ []))

    -- so is its filesystem
    added_is_found : filesystem_numbered nat_eq stacked_world added.number ≡ added
    added_is_found = found_filesystem stacked_world.filesystems kept.0.files.one_filesystem added
        (rw filesystems_are (among-append_right world.filesystems (added ∷ []) added (inl refl)))

    -- its root is that of its filesystem
    new_node : node_at nat_eq stacked_world (root_of new) ≡ added.files.tree.node new.root
    new_node =
        ap (λ (mount : Mount ℕ). (filesystem_numbered nat_eq stacked_world mount.filesystem).files.tree.node new.root)
        new_is_found ∙ ap (λ (filesystem : Filesystem ℕ). filesystem.files.tree.node new.root) added_is_found

    -- the topmost mount
    top_is_free : child_at nat_eq world.mounts stack.top ≡ None
    top_is_free = ap (child_at nat_eq world.mounts) (sym stack.way.leads) ∙ topmost_is_free world _ stack.is.mounts

    -- no mount stands on it
    nothing_on_new : child_at nat_eq world.mounts (root_of new) ≡ None
    nothing_on_new = elim (cases_Option (child_at nat_eq world.mounts (root_of new))) [
      | inl e ↦ e
      | inr its ↦ let found = found_in (stands_at nat_eq (root_of new)) world.mounts its.0 its.1 in
          let attached = place_attached world (mounts_of_worlds_stand world stack.is) its.0 found.0 (root_of new)
          (stands_there (root_of new) its.0 found.1) in
          cc (
            eq-eqb new.number new.number refl,
            other_number fresh world stack.top flags serves new.number (attached_is_mount world new.number attached),
          )
    ]

    -- nor does it stand on itself
    new_stands_apart : stands_at nat_eq (root_of new) new ≡ false
    new_stands_apart = ap (λ b. b && nat_eq new.root stack.top.node) (nat_eq_false_turned stack.top.mount new.number
        (other_number fresh world stack.top flags serves stack.top.mount
        (attached_is_mount world stack.top.mount (cc stack.inside))))

    -- it is the topmost mount over the place of the stack
    new_is_topmost : topmost nat_eq stacked_world.mounts (record { mount = stack.task.root.mount; node = stack.object })
        ≡ root_of new
    new_is_topmost = cc (
      mounts_are,
      topmost_is_new world.mounts new stack.top _ stack.way.leads top_is_free (same_location_itself stack.top)
          nothing_on_new new_stands_apart,
    )

    -- and nothing covers it
    new_is_free : topmost nat_eq stacked_world.mounts (root_of new) ≡ root_of new
    new_is_free = topmost_of_free stacked_world.mounts (root_of new)
        (ap (child_at nat_eq stacked_world.mounts) (sym new_is_topmost) ∙ topmost_is_free stacked_world _ kept.0.mounts)

    -- the task's root
    root_mount_stays : mount_at nat_eq stacked_world stack.task.root ≡ mount_at nat_eq world stack.task.root
    root_mount_stays = cc (
      mounts_are,
      found-append world.mounts (new ∷ []) stack.task.root.mount (root_found world stack.is stack.task (own_name
          world name stack.task stack.called)).0.0,
    )

    -- the root directory of the task stays
    root_stays : node_at nat_eq stacked_world stack.task.root ≡ node_at nat_eq world stack.task.root
    root_stays = grind (arith, common_steps, root_mount_stays, filesystems_are, filesystem_stays)

    -- the stack has the new mount on its top
    pub grown_stack : IsStack stacked_world name word (suc count)
    grown_stack = by (raised_task_is name stack.task)
      where
        is_directory : is_directory_at nat_eq stacked_world (root_of new) ≡ true
        is_directory = ap is_directory_node new_node ∙ ap (λ b. is_directory_node
            (cond b (Some (record { attr = root_attr; content = new_directory new.root })) None))
            (eq-eqb new.root new.root refl)

        is_not_removed : is_removed_at nat_eq stacked_world (root_of new) ≡ false
        is_not_removed = grind (arith, common_steps, new_is_found, added_is_found, eq-eqb)

        by : (change : ℕ) × (raised_task name stack.task ≡ record stack.task { change = change })
            → IsStack stacked_world name word (suc count)
        by task_is = record {
          is = kept.0;
          plain = kept.1;
          task = record stack.task { change = task_is.0 };
          called = cc (called_raised name name stack.task world.tasks stack.called, task_is.1);
          admin = stack.admin;
          object = stack.object;
          top = root_of new;
          way = record {
            searched = ap is_directory_node root_stays ∙ stack.way.searched;
            plain = plain_numbered stacked_world kept.1 _;
            searches = ap (node_allows stack.task.credentials execute_right) root_stays ∙ stack.way.searches;
            entry = ap (λ node. entry_named word (entries_in node)) root_stays ∙ stack.way.entry;
            leads = new_is_topmost;
            directory = is_directory;
          };
          destination = record { ends = new_is_free; directory = is_directory; stays = is_not_removed };
          private = ap (λ (mount : Mount ℕ). mount.propagation) new_is_found;
          inside = ap (λ (mount : Mount ℕ). mount.namespace) new_is_found ∙ stack.inside;
          counted = one_more_mount one stack fresh flags;
        }

    -- its top is the root of the new mount, in the same namespace
    pub grown_top : grown_stack.top ≡ root_of new
    unfolding grown_stack
    grown_top = refl

    -- and its task is in the namespace that it was in
    pub grown_namespace : grown_stack.task.namespace ≡ stack.task.namespace
    unfolding grown_stack
    grown_namespace = refl

    -- all of the world after the call but its tasks and change numbers
    pub stacked_world_is : stacked_world ≡ record world {
      mounts = world.mounts ++ (new ∷ []);
      filesystems = world.filesystems ++ (added ∷ []);
      tasks = stacked_world.tasks;
      namespaces = stacked_world.namespaces;
      change = stacked_world.change;
    }
    stacked_world_is = grind (arith, common_steps, mounts_are, filesystems_are, master-new_mount)
