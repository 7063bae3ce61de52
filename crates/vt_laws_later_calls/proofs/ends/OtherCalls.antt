-- After a call that takes no use away the sweep is to look at what a new name replaced; after one that sets types it
-- takes at the most masters of groups.
use Rattle.std.proofs.Common.{arith, ◌≡◌, refl, sym, ap, subst, ◌∙◌, inl, inr, ◌⊎◌, ⊎_elim, true≢false, ℕ, nat_eq, Bool, true, false, not, ◌&&◌, List, [], ◌∷◌, Option, Some, None, is_some, map, Ok, Err, Contains}
use Rattle.vt_spec.proofs.Common.{cases_Bool, Access, AddName, Call, Change, Chdir, Chroot, Close, CopyUp, Exit, FileTree, Filesystem, Fresh, IsWorld, Judgement, Layer, Lazy, Location, Make, MountFlags, MountOverlay, Move, MoveMount, Node, Outcome, Overlay, OverlayWords, Permit, PivotRoot, Remove, Rename, Rmdir, Serves, SetAttr, SetBytes, SetMark, SetType, Setns, Task, ToBind, ToChange, ToClose, ToEnterNamespace, ToExit, ToFork, ToMake, ToMountOverlay, ToMountPlain, ToMove, ToOpen, ToOpenNew, ToPivot, ToRemoveDirectory, ToRename, ToSetCredentials, ToSetDirectory, ToSetFlags, ToSetRoot, ToSetType, ToSetUmask, ToUnmount, ToUnmountLazily, ToUnshare, ToWritePart, Umount, Unlink, Unshare, World, after, among_from_contains, and-false, and_parts, apply, call_outcome, changed, common_steps, contains_from_among, evens, file_is_there, files_at, filesystem_at, filesystem_changed, is_among, is_copied_up, is_overlay, is_there, judge_in, lies_only_in_lowers, looks_of, mount_at, node_at, opened, opens_for_writing, overlay_changed, overlay_or, settled, task_called, when, with_change, with_copy, with_descriptor, with_task}
use Rattle.vt_laws_later_calls.proofs.Common.{AllInUse, Inode, IsDestination, IsFor, IsListedTree, IsProper, IsReached, IsSettled, MayChange, NamesWhatIsThere, binds_keep_all, call_is_judged_then_applied, called_there, change_asked, changes_keep_numbers, changes_keep_trees, changes_no_mount, file_changes_let_go, let_go_all_inodes, let_go_group, let_go_groups, let_go_plain, locations_of_worlds_stand, mounts_of_worlds_stand, mounts_overlay, new_mounts_of_trees_keep_all, none_left, numbered_all, numbers_left, opened_new_keeps_all, permits_are_for_their_calls, permits_ask_properly, takes_a_name, worlds_are_settled}
use Rattle.vt_laws_mounts.proofs.letting_go.leaving.LeftWithOverlays.{staying_keeps_overlays}
use Rattle.vt_laws_mounts.proofs.letting_go.leaving.Retyped.{set_types_let_go}
use Rattle.vt_laws_mounts.proofs.letting_go.leaving.TaskCalls.{forks_keep_all, new_credentials_keep_all, new_umasks_keep_all, opened_files_keep_all}
use Rattle.vt_laws_mounts.proofs.letting_go.leaving.UsesKept.{flags_keep_all}
use Rattle.vt_laws_mounts.specs.LettingGo.Attaching.{is_attached}
use Rattle.vt_laws_mounts.specs.LettingGo.Retyping.{groups_of_types}
use Rattle.vt_laws_worlds.proofs.merging.mounted.Left.{mounting_lets_nothing_go}
use Rattle.vt_laws_worlds.proofs.merging.mounted.Worlds.{are_new}
use Rattle.vt_laws_worlds.proofs.overlays_let_go.changing.NamesGiven.{given_names_let_go, no_name_lost, opened_names_let_go}
use Rattle.vt_laws_worlds.proofs.overlays_let_go.changing.NamesLost.{opened_copies_keep_all}
use Rattle.vt_laws_worlds.proofs.overlays_let_go.changing.OverlayCalls.{reached_on_mount}
use Rattle.vt_laws_worlds.specs.OverlaysLetGo.OverlayCalls.{is_on_mount}
use Rattle.vt_laws_worlds.proofs.overlay_permits.asked.Unlocked.{permits_spare_what_is_locked}
use Rattle.vt_laws_worlds.proofs.overlay_permits.changed.ChangedOverlays.{permits_can_change}
use Rattle.vt_laws_worlds.proofs.worlds.FitPermitsNamed.{all_permits_fit}
use Rattle.vt_laws_later_calls.proofs.AfterChange.{listed}
use Rattle.vt_laws_later_calls.specs.Ends.{KeepsAllButMasters, sets_type, takes_uses}
use Rattle.vt_laws_later_calls.specs.Whiteouts.{AllTypesLeaveAllButMasters, OtherCallsLetWhiteoutsGo, replaced_as, replaced_by, replaced_if, replaced_in, replaced_over}
use Rattle.vt_laws_worlds.proofs.overlay_permits.worlds.LowersAfterCalls.{makes_files}

-- the sweep takes nothing
abbrev KeepsAll : World ℕ → Type 0
KeepsAll left = settled nat_eq left ≡ left

-- or looks at these
abbrev LetsGo : World ℕ → List Inode → Type 0
LetsGo left inodes = settled nat_eq left ≡ let_go_plain left inodes

-- groups that are let go of lose their masters, and nothing else changes
groups_leave : (groups : List ℕ) (world : World ℕ)
    → let_go_groups world groups ≡ record world { master = (let_go_groups world groups).master }
groups_leave [] world = refl
groups_leave (group ∷ groups) world = groups_leave groups (let_go_group world group)

-- what takes nothing takes masters at the most
kept_but_masters : (left : World ℕ) → KeepsAll left → KeepsAllButMasters left
kept_but_masters left e = e ∙ ap (λ master. record left { master = master }) (cc)

-- Calls that change a mount ask for no change of a filesystem
module _ (world : World ℕ) (fresh : Fresh ℕ) (task : Task ℕ) (call : Call)
    (of_mounts : changes_no_mount call ≡ false) where
  -- so it is none of the others
  not_that : {A : Type 0} (other : Call) → call ≡ other → changes_no_mount other ≡ true → A
  not_that other e files = cc files

  no_change : (location : Location ℕ) (change : Change ℕ)
      → IsFor (looks_of nat_eq world) task call (ToChange location change) → ⊥
  no_change location change for = grind (arith, common_steps)

  -- and its permit asks for none
  pub asks_nothing : (permit : Permit ℕ) → IsFor (looks_of nat_eq world) task call permit
      → change_asked fresh world permit ≡ None
  asks_nothing permit for = grind (arith, common_steps, no_change, true≢false, makes_files)

module _ {world : World ℕ} {fresh : Fresh ℕ} {task : Task ℕ} (is : IsWorld nat_eq world)
    (serves : Serves nat_eq world fresh) (called : task_called world task.name ≡ Some task) where
  settles : IsSettled world
  settles = worlds_are_settled world is

  in_use : AllInUse world
  in_use = settles.in_use

  among_tasks : Contains world.tasks task
  among_tasks = contains_from_among world.tasks task (called_there world.tasks task.name task called)

  -- A change of a tree, plain or an overlay, by which no name is lost
  module _ (call : Call) {permit : Permit ℕ} (judged : judge_in nat_eq fresh world task call ≡ Ok permit)
      {location : Location ℕ} {change : Change ℕ} (asks : change_asked fresh world permit ≡ Some (location, change))
      (none : takes_a_name change ≡ false) (something : is_some (node_at nat_eq world location) ≡ true) where
    abbrev files : FileTree ℕ
    files = files_at nat_eq world location

    abbrev merged : Filesystem ℕ
    merged = filesystem_at nat_eq world location

    abbrev number : ℕ
    number = (mount_at nat_eq world location).filesystem

    abbrev left : World ℕ
    left = with_change nat_eq (numbers_left fresh permit) world location change

    proper : IsProper files.tree change
    proper = (permits_ask_properly world fresh task call permit location change is serves called judged asks).0

    tree : IsListedTree files
    tree = ⊎_elim (λ tree. tree) (λ missing. absurd (true≢false
        (sym something ∙ ap (λ (f : Filesystem ℕ). is_some (f.files.tree.node location.node)) missing.0)))
        (numbered_all (λ (f : Filesystem ℕ). IsListedTree f.files) number world.filesystems settles.trees)

    after_tree : IsListedTree (changed nat_eq files change)
    after_tree = record {
      tree = changes_keep_trees files change tree.tree proper;
      numbers = changes_keep_numbers files change tree.numbers;
    }

    there : is_among nat_eq number (map (λ (f : Filesystem ℕ). f.number) world.filesystems) ≡ true
    there = listed number world.filesystems location.node something

    -- what the change needs
    may_change : (kind : Change ℕ) → IsProper files.tree kind → takes_a_name kind ≡ false → MayChange files kind
    may_change kind may none = grind (arith, common_steps, none, true≢false)

    -- in a plain tree nothing goes
    plain_keeps : is_overlay merged ≡ false → KeepsAll left
    plain_keeps plain =
        file_changes_let_go (numbers_left fresh permit) world location change settles is.files.one_filesystem there
        plain after_tree (may_change change proper none)
        ∙ ap (λ names. let_go_all_inodes left (map (λ inode. (number, inode)) names))
        (no_name_lost files change proper none)

    -- so it looks at what is replaced
    change_goes : LetsGo left (replaced_over world merged.overlay change)
    change_goes = by merged.overlay refl
      where
        over : (overlay : Overlay ℕ) → merged.overlay ≡ Some overlay → (o : Option (Layer ℕ)) → overlay.upper ≡ o
            → LetsGo left (replaced_in world overlay o change)
        over overlay e None u = rw (ap (λ o. filesystem_changed nat_eq (numbers_left fresh permit) world merged o
            change) e ∙ ap (λ o. overlay_changed nat_eq (numbers_left fresh permit) world merged overlay o change) u)
            is.nothing_unused
        over overlay e (Some upper) u =
            given_names_let_go (numbers_left fresh permit) world location change overlay upper is
            (permits_can_change world fresh task call permit location change overlay upper is serves called judged asks
            e u) proper none

        by : (o : Option (Overlay ℕ)) → merged.overlay ≡ o → LetsGo left (replaced_over world o change)
        by None e = plain_keeps (cc)
        by (Some overlay) e = over overlay e overlay.upper refl

    -- with a new file that is opened
    opened_goes : (name : List ℕ) (node : Node ℕ) (access : Access) → permit ≡ ToOpenNew location name node access
        → is_on_mount world location ≡ true
        → LetsGo (apply nat_eq fresh world task (ToOpenNew location name node access)).world
        (replaced_over world merged.overlay (Make location.node name (evens fresh 0) node))
    opened_goes name node access same on = by merged.overlay refl
      where
        made : Change ℕ
        made = Make location.node name (evens fresh 0) node

        opens : World ℕ
        opens = (apply nat_eq fresh world task (ToOpenNew location name node access)).world

        judged_so : judge_in nat_eq fresh world task call ≡ Ok (ToOpenNew location name node access)
        judged_so = cc

        made_well : IsProper files.tree made
        made_well =
            (permits_ask_properly world fresh task call (ToOpenNew location name node access) location made is serves
            called judged_so refl).0

        made_tree : IsListedTree (changed nat_eq files made)
        made_tree = record {
          tree = changes_keep_trees files made tree.tree made_well;
          numbers = changes_keep_numbers files made tree.numbers;
        }

        over : (overlay : Overlay ℕ) → merged.overlay ≡ Some overlay → (o : Option (Layer ℕ)) → overlay.upper ≡ o
            → LetsGo opens (replaced_in world overlay o made)
        over overlay e None u = absurd (true≢false
            (sym (ap (overlay_or false (λ (overlay : Overlay ℕ). not (is_some overlay.upper))) e
            ∙ ap (λ o. not (is_some o)) u)
            ∙ (permits_spare_what_is_locked world fresh task call (ToOpenNew location name node access) is serves called
            judged_so).layer))
        over overlay e (Some upper) u =
            opened_names_let_go fresh world task location name node access overlay upper is among_tasks on
            (permits_can_change world fresh task call (ToOpenNew location name node access) location made overlay upper
            is serves called judged_so refl e u) made_well

        by : (o : Option (Overlay ℕ)) → merged.overlay ≡ o → LetsGo opens (replaced_over world o made)
        by None e = opened_new_keeps_all fresh world task location name node access settles is.files.one_filesystem
            is.tasks.one_task among_tasks there (cc) made_tree (record {
              in_directory = made_well.name_is_free.in_directory;
              is_new = made_well.number_is_new;
            }) made_well.name_is_free.free
        by (Some overlay) e = over overlay e overlay.upper refl

  -- a file that is opened is copied up, or not
  opened_keeps : (call : Call) (file : Location ℕ) (access : Access)
      → judge_in nat_eq fresh world task call ≡ Ok (ToOpen file access) → is_on_mount world file ≡ true
      → KeepsAll (apply nat_eq fresh world task (ToOpen file access)).world
  opened_keeps call file access judged on = elim (cases_Bool (is_copied_up nat_eq world file access)) [
    | inl copied ↦ in_overlay (filesystem_at nat_eq world file).overlay refl copied
    | inr copied ↦ opened_files_keep_all fresh world task file access settles is.tasks.one_task among_tasks copied
  ]
    where
      opens : World ℕ
      opens = (apply nat_eq fresh world task (ToOpen file access)).world

      without_copy : KeepsAll (opened world task file access).world
      without_copy = staying_keeps_overlays world (with_task world (with_descriptor task file access)).tasks settles
          (none_left world task file access is.tasks.one_task (among_from_contains world.tasks task among_tasks))

      over : (overlay : Overlay ℕ) → (filesystem_at nat_eq world file).overlay ≡ Some overlay → (o : Option (Layer ℕ))
          → overlay.upper ≡ o → is_copied_up nat_eq world file access ≡ true → KeepsAll opens
      over overlay e None u copied = subst KeepsAll
          (sym (ap (λ b. (opened (with_copy nat_eq b fresh world file) task file access).world) copied
          ∙ ap (λ o. (opened (filesystem_changed nat_eq fresh world (filesystem_at nat_eq world file) o
          (CopyUp file.node)) task file access).world) e
          ∙ ap (λ o. (opened (overlay_changed nat_eq fresh world (filesystem_at nat_eq world file) overlay o
          (CopyUp file.node)) task file access).world) u)) without_copy
      over overlay e (Some upper) u copied =
          opened_copies_keep_all fresh world task file access overlay upper is among_tasks on copied
          (permits_can_change world fresh task call (ToOpen file access) file (CopyUp file.node) overlay upper is serves
          called judged (ap (λ b. when b (file, CopyUp file.node)) copied) e u)

      in_overlay : (o : Option (Overlay ℕ)) → (filesystem_at nat_eq world file).overlay ≡ o
          → is_copied_up nat_eq world file access ≡ true → KeepsAll opens
      in_overlay None e copied = absurd (true≢false (sym copied ∙ ap (λ o. opens_for_writing access
          && overlay_or false (λ overlay. lies_only_in_lowers overlay file.node) o) e
          ∙ and-false (opens_for_writing access)))
      in_overlay (Some overlay) e copied = over overlay e overlay.upper refl copied

  -- and replaces nothing
  nothing_replaced : (file : Location ℕ) (b : Bool) → replaced_if world (when b (file, CopyUp file.node)) ≡ []
  nothing_replaced file b = grind (arith, common_steps)

  -- a mount may be attached at a destination
  attached : (place : Location ℕ) → IsDestination world task place → is_attached world place.mount ≡ true
  attached place at = cc at.own

  -- what a walk reaches is there
  reached_something : (location : Location ℕ) → IsReached world task location
      → is_some (node_at nat_eq world location) ≡ true
  reached_something location reached = (and_parts (is_on_mount world location)
      (is_there nat_eq world (mount_at nat_eq world location).filesystem location.node) reached.there).1

  abbrev spent : Permit ℕ → World ℕ
  spent permit = (apply nat_eq fresh world task permit).world

  abbrev Goes : Permit ℕ → Type 0
  Goes permit = LetsGo (spent permit) (replaced_if world (change_asked fresh world permit))

  -- what a permit leaves: after a change of types groups may lose their masters
  abbrev Leaves : Permit ℕ → Type 0
  Leaves (ToSetType mount word recursive) = KeepsAllButMasters (spent (ToSetType mount word recursive))
  Leaves permit = Goes permit

  -- What each permit leaves of a call that takes no use away
  module _ (call : Call) (only : takes_uses call ≡ false) where
    abbrev not_this : {A : Type 0} (other : Call) → call ≡ other → takes_uses other ≡ true → A
    not_this other e takes = absurd (true≢false (sym takes ∙ ap takes_uses (sym e) ∙ only))

    -- calls on files: link(2), write(2), chmod(2), chown(2), setxattr(2)
    change_leaves : (location : Location ℕ) (change : Change ℕ)
        → judge_in nat_eq fresh world task call ≡ Ok (ToChange location change)
        → IsFor (looks_of nat_eq world) task call (ToChange location change)
        → is_some (node_at nat_eq world location) ≡ true → Goes (ToChange location change)
    change_leaves location (Make directory name object node) judged for something = absurd for
    change_leaves location (AddName directory name object) judged for something =
        change_goes call judged refl refl something
    change_leaves location (Remove directory name object) judged for something = not_this (Unlink for.0) for.1 refl
    change_leaves location (Move from old to new object) judged for something = absurd for
    change_leaves location (SetBytes file bytes) judged for something =
        change_goes call judged refl refl
        something
    change_leaves location (SetAttr object attr) judged for something =
        change_goes call judged refl refl
        something
    change_leaves location (SetMark directory mark) judged for something =
        change_goes call judged refl refl
        something
    change_leaves location (CopyUp object) judged for something = absurd for

    -- pwrite(2)
    written_leaves : (file : Location ℕ) (offset : ℕ) (bytes : List ℕ)
        → judge_in nat_eq fresh world task call ≡ Ok (ToWritePart file offset bytes)
        → is_some (node_at nat_eq world file) ≡ true → Goes (ToWritePart file offset bytes)
    written_leaves file offset [] judged something = is.nothing_unused
    written_leaves file offset (byte ∷ bytes) judged something =
        change_goes call judged refl refl
        something

    -- each permit
    permit_leaves : (permit : Permit ℕ) → judge_in nat_eq fresh world task call ≡ Ok permit
        → IsFor (looks_of nat_eq world) task call permit → NamesWhatIsThere world task permit → Leaves permit
    permit_leaves (ToChange location change) judged for names =
        change_leaves location change judged for (reached_something location names.0)
    permit_leaves (ToMake directory name node) judged for names =
        change_goes call judged
        refl refl (reached_something directory names.reached)
    permit_leaves (ToRemoveDirectory parent name directory) judged for names = not_this (Rmdir for.0) for.1 refl
    permit_leaves (ToRename from old to new object replaced) judged for names = not_this (Rename for.0 for.1) for.2 refl
    permit_leaves (ToOpen file access) judged for names = cc (
      opened_keeps call file access judged (reached_on_mount world task file names.reached),
      nothing_replaced file (is_copied_up nat_eq world file access),
    )
    permit_leaves (ToOpenNew directory name node access) judged for names =
        opened_goes call judged refl refl (reached_something directory names.0.reached) name
        node access refl (reached_on_mount world task directory names.0.reached)
    permit_leaves (ToWritePart file offset bytes) judged for names =
        written_leaves file offset bytes judged (file_is_there (node_at nat_eq world file) names)
    permit_leaves (ToClose descriptor) judged for names = not_this (Close descriptor) for refl
    permit_leaves (ToSetDirectory directory) judged for names = not_this (Chdir for.0) for.1 refl
    permit_leaves (ToSetRoot root) judged for names = not_this (Chroot for.0) for.1 refl
    permit_leaves (ToSetUmask umask) judged for names =
        new_umasks_keep_all umask fresh world task settles is.tasks.one_task among_tasks
    permit_leaves (ToSetCredentials credentials) judged for names =
        new_credentials_keep_all credentials fresh world task settles is.tasks.one_task among_tasks
    permit_leaves (ToFork credentials) judged for names =
        forks_keep_all credentials fresh world task settles is.tasks.one_task among_tasks
    permit_leaves ToExit judged for names = not_this Exit for refl
    permit_leaves ToUnshare judged for names = not_this Unshare for refl
    permit_leaves (ToEnterNamespace namespace) judged for names = not_this (Setns for.0) for.1 refl
    permit_leaves (ToMountPlain place flags) judged for names =
        new_mounts_of_trees_keep_all fresh world task place flags in_use (mounts_of_worlds_stand world is)
        (locations_of_worlds_stand world is) (attached place names)
    permit_leaves (ToMountOverlay place overlay flags) judged for names = absurd names
    permit_leaves (ToBind source place recursive) judged for names =
        binds_keep_all fresh world task source place recursive in_use (mounts_of_worlds_stand world is)
        (locations_of_worlds_stand world is) (attached place names.2)
    permit_leaves (ToMove mount place) judged for names = not_this (MoveMount for.0 for.1) for.2 refl
    permit_leaves (ToUnmount mount) judged for names = not_this (Umount for.0) for.1 refl
    permit_leaves (ToUnmountLazily mount) judged for names = not_this (Lazy for.0) for.1 refl
    permit_leaves (ToSetFlags mount flags) judged for names =
        flags_keep_all world (record { mount = mount; node = 0 }) flags is.mounts.one_number in_use
    permit_leaves (ToSetType mount word recursive) judged for names = cc (lets, groups_leave groups left)
      where
        left : World ℕ
        left = spent (ToSetType mount word recursive)

        groups : List ℕ
        groups = groups_of_types fresh world mount recursive

        lets : settled nat_eq left ≡ let_go_groups left groups
        lets = set_types_let_go fresh world task mount word recursive in_use (mounts_of_worlds_stand world is) (cc)
    permit_leaves (ToPivot new put) judged for names = not_this (PivotRoot for.0 for.1) for.2 refl
    permit_leaves permit judged for names = is.nothing_unused

    -- that a granted call is given
    granted_leaves : (permit : Permit ℕ) → mounts_overlay call ≡ false
        → judge_in nat_eq fresh world task call ≡ Ok permit → Leaves permit
    granted_leaves permit plainly judged =
        permit_leaves permit judged (permits_are_for_their_calls fresh world task call permit judged)
        (all_permits_fit world fresh task call permit is serves called plainly judged).names

    -- where no types are set, the permit looks at what it replaces
    no_types : (permit : Permit ℕ) → IsFor (looks_of nat_eq world) task call permit → sets_type call ≡ false
        → Leaves permit → Goes permit
    no_types (ToSetType mount word recursive) for none leaves = absurd (cc (for.1, none))
    no_types permit for none leaves = leaves

    -- and a permit that asks for no change leaves all but masters
    but_masters : (permit : Permit ℕ) → change_asked fresh world permit ≡ None → Leaves permit
        → KeepsAllButMasters (spent permit)
    but_masters (ToSetType mount word recursive) none leaves = leaves
    but_masters permit none leaves = kept_but_masters (spent permit) (cc none)

  -- a call leaves what its judgement leaves
  by_judgement : (P : World ℕ → Type 0) (call : Call) (judgement : Judgement ℕ)
      → judge_in nat_eq fresh world task call ≡ judgement
      → P (after world judgement (apply nat_eq fresh world task)).world
      → P (call_outcome nat_eq fresh world task call).world
  by_judgement P call judgement e = subst (λ (o : Outcome ℕ). P o.world)
      (sym (call_is_judged_then_applied fresh world task call
      ∙ ap (λ j. after world j (apply nat_eq fresh world task)) e))

  -- the mount of an overlay replaces nothing
  mounting_goes : (path : List ℕ) (options : Option OverlayWords) (flags : MountFlags)
      → LetsGo (call_outcome nat_eq fresh world task (MountOverlay path options flags)).world
      (replaced_by fresh world task (MountOverlay path options flags))
  mounting_goes path options flags =
      mounting_lets_nothing_go fresh world task path options flags is (are_new world is fresh serves task called)
      ∙ ap (let_go_plain (call_outcome nat_eq fresh world task (MountOverlay path options flags)).world)
      (sym (none (judge_in nat_eq fresh world task (MountOverlay path options flags)) refl))
    where
      none : (judgement : Judgement ℕ) → judge_in nat_eq fresh world task (MountOverlay path options flags) ≡ judgement
          → replaced_as fresh world judgement ≡ []
      none (Err deny) e = refl
      none (Ok permit) e = cc (asks_nothing world fresh task (MountOverlay path options flags) refl permit
          (permits_are_for_their_calls fresh world task (MountOverlay path options flags) permit e))

  -- any other call, granted or refused
  call_goes : (call : Call) → takes_uses call ≡ false → sets_type call ≡ false → mounts_overlay call ≡ false
      → LetsGo (call_outcome nat_eq fresh world task call).world (replaced_by fresh world task call)
  call_goes call only no_type plainly = by (judge_in nat_eq fresh world task call) refl
    where
      judged_goes : (judgement : Judgement ℕ) → judge_in nat_eq fresh world task call ≡ judgement
          → LetsGo (after world judgement (apply nat_eq fresh world task)).world (replaced_as fresh world judgement)
      judged_goes (Ok permit) e =
          no_types call only permit (permits_are_for_their_calls fresh world task call permit e) no_type
          (granted_leaves call only permit plainly e)
      judged_goes (Err deny) e = is.nothing_unused

      by : (judgement : Judgement ℕ) → judge_in nat_eq fresh world task call ≡ judgement
          → LetsGo (call_outcome nat_eq fresh world task call).world (replaced_by fresh world task call)
      by judgement e = by_judgement (λ w. LetsGo w (replaced_by fresh world task call)) call judgement e
          (cc (judged_goes judgement e))

-- the mount of an overlay, or not
abbrev IsMounting : Call → Type 0
IsMounting call =
    (path : List ℕ) × (options : Option OverlayWords) × (flags : MountFlags) × (call ≡ MountOverlay path options flags)

mounting_or : (call : Call) → IsMounting call ⊎ (mounts_overlay call ≡ false)
mounting_or (MountOverlay path options flags) = inl (path, options, flags, refl)
mounting_or call = inr refl

pub other_calls_let_whiteouts_go : OtherCallsLetWhiteoutsGo
other_calls_let_whiteouts_go world fresh task call is serves called only no_type =
    ⊎_elim (λ (mounting : IsMounting call). cc (
      mounting.3,
      mounting_goes is serves called mounting.0 mounting.1
          mounting.2,
    )) (λ plainly. call_goes is serves called call only no_type plainly) (mounting_or call)

pub all_types_leave_all_but_masters : AllTypesLeaveAllButMasters
all_types_leave_all_but_masters world fresh task path word recursive is serves called =
    by (judge_in nat_eq fresh world task call) refl
  where
    call : Call
    call = SetType path word recursive

    judged_keeps : (judgement : Judgement ℕ) → judge_in nat_eq fresh world task call ≡ judgement
        → KeepsAllButMasters (after world judgement (apply nat_eq fresh world task)).world
    judged_keeps (Ok permit) e = but_masters is serves called call refl permit
        (asks_nothing world fresh task call refl permit (permits_are_for_their_calls fresh world task call permit e))
        (granted_leaves is serves called call refl permit refl e)
    judged_keeps (Err deny) e = kept_but_masters world is.nothing_unused

    by : (judgement : Judgement ℕ) → judge_in nat_eq fresh world task call ≡ judgement
        → KeepsAllButMasters (call_outcome nat_eq fresh world task call).world
    by judgement e = by_judgement is serves called KeepsAllButMasters call judgement e (judged_keeps judgement e)
