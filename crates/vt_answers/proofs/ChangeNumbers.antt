-- What a permit leaves has the world's change number that was there: the policy's last step alone raises it.
use Rattle.std.proofs.Common.{◌≡◌, refl, sym, ap, ◌∙◌, ℕ, Bool, true, false, cond, nat_eq, List, [], ◌∷◌, Option, Some, None, is_some, filter, flat_map, map, Ok, Err, is_ok, ok_or, not, ◌||◌}
use Rattle.vt_spec.proofs.Common.{Allowed, Answer, Call, Change, CopyUp, Filesystem, Fresh, Judgement, Layer, Location, Make, Mount, Move, Outcome, Overlay, Permit, Remove, SetBytes, Task, TaskName, ToBind, ToChange, ToClose, ToEnterNamespace, ToExit, ToFork, ToList, ToListMounts, ToMake, ToMountOverlay, ToMountPlain, ToMove, ToOpen, ToOpenNew, ToPivot, ToRead, ToReadPart, ToRemoveDirectory, ToRename, ToSetCredentials, ToSetDirectory, ToSetFlags, ToSetRoot, ToSetType, ToSetUmask, ToStat, ToUnmount, ToUnmountLazily, ToUnshare, ToWritePart, World, after, after_going, apply, bytes_in, deepest_first, denial, evens, filesystem_at, filesystem_changed, filesystems_changed_by, finished, finished_unless, folded, going, is_copied_up, is_in_ended, judge_in, list_any, lost_a_group, mount_numbered, mount_tree, mounts_on, named_mounts, namespace_entered, namespaces_ended, node_at, numbers_by, odds, only_looks, overlay_changed, overwritten, pwritten, raised, regrouped, regrouped_by, retyped_mount, taken_away, task_called, unmounted, unmounted_if_there, unshared, with_change, with_copy, with_mounts, with_new_groups, without_mounts_on, without_task}
use Rattle.vt_spec.specs.declared.errors.Rule.TheVariants.{S2}
use Rattle.vt_answers.specs.Ends.{change_after}
use Rattle.vt_answers.specs.Numbers.{RaisesTheChangeNumber}

-- a change of a filesystem, plain or overlay
by_upper : (fresh : Fresh ℕ) (world : World ℕ) (filesystem : Filesystem ℕ) (overlay : Overlay ℕ)
    (upper : Option (Layer ℕ)) (change : Change ℕ)
    → (overlay_changed nat_eq fresh world filesystem overlay upper change).change ≡ world.change
by_upper fresh world filesystem overlay None change = refl
by_upper fresh world filesystem overlay (Some upper) change = refl

by_overlay : (fresh : Fresh ℕ) (world : World ℕ) (filesystem : Filesystem ℕ) (overlay : Option (Overlay ℕ))
    (change : Change ℕ) → (filesystem_changed nat_eq fresh world filesystem overlay change).change ≡ world.change
by_overlay fresh world filesystem None change = refl
by_overlay fresh world filesystem (Some overlay) change = by_upper fresh world filesystem overlay overlay.upper change

changed_keeps : (fresh : Fresh ℕ) (world : World ℕ) (location : Location ℕ) (change : Change ℕ)
    → (with_change nat_eq fresh world location change).change ≡ world.change
changed_keeps fresh world location change =
    by_overlay fresh world (filesystem_at nat_eq world location) (filesystem_at nat_eq world location).overlay change

-- groups that end, and mounts that go
regrouped_keeps : (world : World ℕ) → (regrouped nat_eq world).change ≡ world.change
regrouped_keeps world = by (list_any (lost_a_group nat_eq world) world.mounts)
  where
    by : (lost : Bool) → (regrouped_by nat_eq lost world).change ≡ world.change
    by true = refl
    by false = refl

taken_keeps : (world : World ℕ) (gone : List ℕ) → (taken_away nat_eq world gone).change ≡ world.change
taken_keeps world gone = regrouped_keeps (with_mounts world (map (after_going nat_eq world gone) world.mounts))

on_keeps : (world : World ℕ) (location : Location ℕ) → (without_mounts_on nat_eq world location).change ≡ world.change
on_keeps world location = taken_keeps world
    (map (λ mount. mount.number) (flat_map (mount_tree nat_eq world.mounts) (mounts_on nat_eq world location)))

ended_keeps : (world : World ℕ) → (namespaces_ended nat_eq world).change ≡ world.change
ended_keeps world = taken_keeps world (map (λ mount. mount.number) (filter (is_in_ended nat_eq world) world.mounts))

event_keeps : (world : World ℕ) (number : ℕ) → (unmounted nat_eq world number).change ≡ world.change
event_keeps world number = taken_keeps world (going nat_eq world (mount_numbered nat_eq world number))

-- a lazy unmount
unmounted_keeps : (world : World ℕ) (mounts : List (Mount ℕ))
    → (folded (unmounted_if_there nat_eq) world mounts).change ≡ world.change
unmounted_keeps world [] = refl
unmounted_keeps world (mount ∷ rest) = unmounted_keeps (unmounted_if_there nat_eq world mount) rest
    ∙ by (is_some (mount_numbered nat_eq world mount.number).namespace)
  where
    by : (there : Bool) → (cond there (unmounted nat_eq world mount.number) world).change ≡ world.change
    by true = event_keeps world mount.number
    by false = refl

-- what is applied
module _ (fresh : Fresh ℕ) (world : World ℕ) (task : Task ℕ) where
  copied_keeps : (copied : Bool) (file : Location ℕ) → (with_copy nat_eq copied fresh world file).change ≡ world.change
  copied_keeps true file = changed_keeps fresh world file (CopyUp file.node)
  copied_keeps false file = refl

  written_keeps : (file : Location ℕ) (offset : ℕ) (bytes : List ℕ)
      → (pwritten nat_eq fresh world file offset bytes).change ≡ world.change
  written_keeps file offset [] = refl
  written_keeps file offset (byte ∷ bytes) = changed_keeps fresh world file
      (SetBytes file.node (overwritten offset (byte ∷ bytes) (bytes_in (node_at nat_eq world file))))

  applied_keeps : (permit : Permit ℕ) → (apply nat_eq fresh world task permit).world.change ≡ world.change
  applied_keeps Allowed = refl
  applied_keeps (ToList directory) = refl
  applied_keeps (ToStat object) = refl
  applied_keeps (ToRead file) = refl
  applied_keeps (ToReadPart file offset size) = refl
  applied_keeps (ToChange location change) = changed_keeps fresh world location change
  applied_keeps (ToMake directory name node) =
      changed_keeps (odds fresh) world directory (Make directory.node name (evens fresh 0) node)
  applied_keeps (ToRemoveDirectory parent name directory) =
      changed_keeps fresh (without_mounts_on nat_eq world directory) parent (Remove parent.node name directory.node)
      ∙ on_keeps world directory
  applied_keeps (ToRename from old to new object None) =
      changed_keeps fresh world from (Move from.node old to.node new object.node)
  applied_keeps (ToRename from old to new object (Some replaced)) =
      changed_keeps fresh (without_mounts_on nat_eq world replaced) from (Move from.node old to.node new object.node)
      ∙ on_keeps world replaced
  applied_keeps (ToOpen file access) = copied_keeps (is_copied_up nat_eq world file access) file
  applied_keeps (ToOpenNew directory name node access) =
      changed_keeps (odds fresh) world directory (Make directory.node name (evens fresh 0) node)
  applied_keeps (ToWritePart file offset bytes) = written_keeps file offset bytes
  applied_keeps (ToClose descriptor) = refl
  applied_keeps (ToSetDirectory directory) = refl
  applied_keeps (ToSetRoot root) = refl
  applied_keeps (ToSetUmask umask) = refl
  applied_keeps (ToSetCredentials credentials) = refl
  applied_keeps (ToFork credentials) = refl
  applied_keeps ToExit = ended_keeps (without_task world task.name)
  applied_keeps ToUnshare = ended_keeps (unshared nat_eq world fresh task)
  applied_keeps (ToEnterNamespace namespace) = ended_keeps (namespace_entered nat_eq world task namespace)
  applied_keeps (ToMountPlain place flags) = refl
  applied_keeps (ToMountOverlay place overlay flags) = refl
  applied_keeps (ToBind source place recursive) = refl
  applied_keeps (ToMove mount place) = refl
  applied_keeps (ToUnmount mount) = event_keeps world mount
  applied_keeps (ToUnmountLazily mount) = unmounted_keeps world
      (deepest_first nat_eq world (mount_tree nat_eq world.mounts (mount_numbered nat_eq world mount)))
  applied_keeps (ToSetFlags mount flags) = refl
  applied_keeps (ToSetType mount word recursive) =
      let named = named_mounts nat_eq world mount recursive in
      let group = numbers_by nat_eq fresh named in
      regrouped_keeps (record world {
        mounts = map (retyped_mount nat_eq group word named) world.mounts;
        master = with_new_groups nat_eq group world.master named;
      })
  applied_keeps (ToPivot new put) = refl
  applied_keeps ToListMounts = refl

-- the last step
module _ (world : World ℕ) (name : TaskName) (call : Call) (changed : List ℕ) (outcome : Outcome ℕ) where
  abbrev last : Outcome ℕ
  last = finished nat_eq world name call changed outcome

  answer_kept : (looks : Bool) → (finished_unless nat_eq looks world name changed outcome).answer ≡ outcome.answer
  answer_kept true = refl
  answer_kept false = refl

  by_looks : (looks : Bool) → (finished_unless nat_eq (looks || false) world name changed outcome).world.change
      ≡ cond looks outcome.world.change (raised outcome.world.change)
  by_looks true = refl
  by_looks false = refl

  last_raises : (answer : Answer) → last.answer ≡ Ok answer → outcome.world.change ≡ world.change
      → last.world.change ≡ change_after call world.change
  last_raises answer told kept =
      let ok : is_ok outcome.answer ≡ true =
      ap is_ok (sym (answer_kept (only_looks call || not (is_ok outcome.answer))) ∙ told) in
      ap (λ b. (finished_unless nat_eq (only_looks call || not b) world name changed outcome).world.change) ok
      ∙ by_looks (only_looks call) ∙ ap (change_after call) kept

-- the policy
pub raises_the_change_number : RaisesTheChangeNumber
raises_the_change_number fresh world name call answer = by_task (task_called world name)
  where
    of_task : Task ℕ → Outcome ℕ
    of_task task =
        finished nat_eq world name call (filesystems_changed_by nat_eq world (judge_in nat_eq fresh world task call))
        (after world (judge_in nat_eq fresh world task call) (apply nat_eq fresh world task))

    by_judgement : (task : Task ℕ) (judged : Judgement ℕ) (changed : List ℕ)
        → (finished nat_eq world name call changed (after world judged (apply nat_eq fresh world task))).answer ≡ Ok answer
        → (finished nat_eq world name call changed (after world judged (apply nat_eq fresh world task))).world.change
        ≡ change_after call world.change
    by_judgement task (Ok permit) changed told =
        last_raises world name call changed (apply nat_eq fresh world task permit) answer told
        (applied_keeps fresh world task permit)
    by_judgement task (Err deny) changed told =
        last_raises world name call changed (after world (Err deny) (apply nat_eq fresh world task)) answer told refl

    by_task : (found : Option (Task ℕ)) → (after world (ok_or found (denial S2)) of_task).answer ≡ Ok answer
        → (after world (ok_or found (denial S2)) of_task).world.change ≡ change_after call world.change
    by_task (Some task) told = by_judgement task (judge_in nat_eq fresh world task call)
        (filesystems_changed_by nat_eq world (judge_in nat_eq fresh world task call)) told
    by_task None told = let impossible : Err (denial S2) ≡ Ok answer = told in cc
