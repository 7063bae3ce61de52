-- Removals, renames and lazy unmounts of theirs give others no foothold: all mounts that go are theirs.
use Rattle.std.proofs.Common.{inl, inr, ◌≡◌, refl, sym, ap, subst, ◌∙◌, ⊎_elim, ℕ, nat_eq, eq-eqb, true, false, true≢false, List, [], Option, Some, None, Ok}
use Rattle.vt_spec.proofs.Common.{Among, Call, Change, Filesystem, Fresh, IsWorld, Location, Mount, MountInvariants, Move, Permit, Task, TaskName, ToRemoveDirectory, ToRename, ToUnmountLazily, World, any_pair, apply, filesystem_at, filesystem_numbered, filesystems-taken_away, folded, found_or_none, holds_of, is_own_namespace, judge_in, lazily_unmounted, looks_of, members, mount_at, mount_numbered, mounts_on, none_is_some, numbers_raised, overfills, part_of, points_of, settled, taken_away, task_called, unmounted_if_there, used_alone, with_change, without_mounts_on}
use Rattle.vt_laws_containers.proofs.footholds.ServedCalls.{IsServedCall}
use Rattle.vt_laws_containers.proofs.Common.{cases_Option, IsMember, Names, OnTheirs, all_permits_fit, caller_in, calls_are_granted, in_own, is_own, mounts_overlay, name_found, naming_of, permits_are_for_their_calls, sealing_of, theirs_directly, theirs_from}
use Rattle.vt_laws_mounts.proofs.letting_go.SweptBetween.{settled_without_groups}
use Rattle.vt_laws_mounts.proofs.ends.EndingLazy.{IsUnderWay, begun}
use Rattle.vt_laws_mounts.proofs.ends.EndingOrder.{taken_in_turn}
use Rattle.vt_laws_worlds.specs.OverlayPermits.Asked.{change_asked}
use Rattle.vt_laws_members.proofs.changes.files.OneFilesystem.{found_numbered}
use Rattle.vt_laws_members.proofs.changes.letting_go.PartMounts.{part_mounts}
use Rattle.vt_laws_members.proofs.changes.names.Elsewhere.{own_here, plain_points}
use Rattle.vt_laws_members.proofs.changes.names.NamesEnding.{naming_alone}
use Rattle.vt_laws_members.proofs.changes.names.RemovalsEnding.{IsFree, removed_free, replaced_free}
use Rattle.vt_laws_members.proofs.overlay_names.names.OverlayRemovals.{points_alone}
use Rattle.vt_laws_members.proofs.detached.lazily.Order.{same_turns, turns_own}
use Rattle.vt_laws_members.proofs.detached.lazily.Turns.{SameButGroups, TookAway, events_alike, took, took_none}
use Rattle.vt_laws_members.proofs.detached.removals.Going.{going_with, own_go}
use Rattle.vt_laws_containers.specs.Footholds.{GivesNoFoothold}
use Rattle.vt_laws_containers.proofs.footholds.PermitFootholds.{RemovingGivesNoFoothold, is_of_removing}
use Rattle.vt_laws_containers.proofs.footholds.AsBefore.{OthersAsBefore}
use Rattle.vt_laws_containers.proofs.footholds.EndsAsBefore.{swept_as_before}
use Rattle.vt_laws_containers.proofs.footholds.FilesGoOn.{ChangesFiles, change_changes_files}
use Rattle.vt_laws_containers.proofs.footholds.GoneAsBefore.{files_as_before, own_gone_before}
use Rattle.vt_laws_containers.proofs.footholds.Granting.{EndsInAWorld}
use Rattle.vt_laws_containers.proofs.footholds.TakenAsBefore.{taken_tasks}
use Rattle.vt_laws_containers.proofs.footholds.TakingPermits.{tasked_later}
use Rattle.vt_laws_containers.proofs.footholds.TasksPermits.{Before, changed_before, kept, permit_out, swept_out}
use Rattle.vt_laws_members.proofs.changes.letting_go.Regrouped.{TheirsGo}

module _ {world : World ℕ} {names : List TaskName} {name : TaskName} {call : Call} {fresh : Fresh ℕ}
    {task : Task ℕ} (it : IsServedCall world names name call fresh task) where
  member : IsMember world names task
  member = caller_in it.it it.called

  -- A change by which a directory goes, with the mounts on it
  module _ {permit : Permit ℕ} (judged : judge_in nat_eq fresh world task call ≡ Ok permit) {gone location : Location ℕ}
      {change : Change ℕ} (asks : change_asked fresh world permit ≡ Some (location, change)) (names_it : Names change)
      (free : IsFree world names task gone location) where
    on : OnTheirs world names it.is gone
    on = theirs_from world names it.is.mounts gone.mount free.on

    one_filesystem : filesystem_at nat_eq world gone ≡ filesystem_at nat_eq world location
    one_filesystem = ap (λ m. filesystem_numbered nat_eq world (mount_numbered nat_eq world m).filesystem) free.beside

    gone_alone : used_alone nat_eq world names (filesystem_at nat_eq world gone).number ≡ true
    gone_alone = cc (
      one_filesystem,
      found_numbered (mount_at nat_eq world location).filesystem world.filesystems,
      naming_alone (naming_of it.it task it.called fresh it.serves permit judged location change asks names_it),
    )

    points_own : (point : ℕ × ℕ) → Among point (points_of nat_eq world gone)
        → used_alone nat_eq world names point.0 ≡ true
    points_own = elim (cases_Option (filesystem_at nat_eq world gone).overlay) [
      | inl e ↦ plain_points world names it.is gone e gone_alone
      | inr its ↦ points_alone (sealing_of it.it) gone its.0 its.1 (theirs_directly world names it.is gone on)
    ]

    only_own : (mount : Mount ℕ) → Among mount (mounts_on nat_eq world gone) → (n : ℕ) → mount.namespace ≡ Some n
        → is_own_namespace nat_eq world names n ≡ true
    only_own = own_here world names it.is gone points_own

    abbrev list : List ℕ
    list = going_with world names it.is gone on only_own

    abbrev base : World ℕ
    base = without_mounts_on nat_eq world gone

    abbrev done : World ℕ
    done = with_change nat_eq fresh base location change

    changes : ChangesFiles base done
    changes = change_changes_files base
        (subst (λ fs. any_pair (λ (a b : Filesystem ℕ). nat_eq a.number b.number) fs ≡ false)
        (sym (filesystems-taken_away world list)) it.is.files.one_filesystem) fresh location change

    pub removed_before : (changed : List ℕ)
        → IsWorld nat_eq (numbers_raised nat_eq world name changed (settled nat_eq done))
        → OthersAsBefore world done names names
    removed_before changed ends = files_as_before world base done names names
        (own_gone_before it list (own_go world names it.is gone on only_own) (λ mount m n e.
        let of = tasked_later world done name changed ends mount
        (subst (Among mount) (sym (ap (λ (w : World ℕ). w.mounts) changes.same)) m) n e in (
          of.0,
          subst (Among of.0) (ap (λ (w : World ℕ). w.tasks) changes.same ∙ taken_tasks world world.tasks list) of.1,
          of.2,
        ))) changes

  removes_before : (parent : Location ℕ) (entry : List ℕ) (directory : Location ℕ)
      → judge_in nat_eq fresh world task call ≡ Ok (ToRemoveDirectory parent entry directory)
      → EndsInAWorld it.it fresh it.serves it.few task (ToRemoveDirectory parent entry directory)
      → Before it (ToRemoveDirectory parent entry directory)
  removes_before parent entry directory judged ends =
      kept it (ToRemoveDirectory parent entry directory) judged refl (apply nat_eq fresh world task
      (ToRemoveDirectory parent entry directory)).world (removed_before
      judged refl tt
      (removed_free member fresh call (ToRemoveDirectory parent entry directory)
      (calls_are_granted nat_eq (looks_of nat_eq world) (overfills nat_eq fresh world task) task call
      (ToRemoveDirectory parent entry directory) judged) parent entry directory refl) _ ends)

  renames_before : (from : Location ℕ) (old : List ℕ) (to : Location ℕ) (new : List ℕ) (object : Location ℕ)
      (replaced : Option (Location ℕ))
      → judge_in nat_eq fresh world task call ≡ Ok (ToRename from old to new object replaced)
      → EndsInAWorld it.it fresh it.serves it.few task (ToRename from old to new object replaced)
      → Before it (ToRename from old to new object replaced)
  renames_before from old to new object None judged ends =
      kept it (ToRename from old to new object None) judged refl (apply nat_eq fresh world task
      (ToRename from old to new object None)).world (changed_before it (apply nat_eq fresh world task
      (ToRename from old to new object None)).world (change_changes_files world it.is.files.one_filesystem fresh from
      (Move from.node old to.node new object.node)))
  renames_before from old to new object (Some gone) judged ends =
      kept it (ToRename from old to new object (Some gone)) judged refl (apply nat_eq fresh world task
      (ToRename from old to new object (Some gone))).world (removed_before
      judged refl tt
      (replaced_free member fresh call (ToRename from old to new object (Some gone))
      (calls_are_granted nat_eq (looks_of nat_eq world) (overfills nat_eq fresh world task) task call
      (ToRename from old to new object (Some gone)) judged) from old to new object gone refl) _ ends)

  -- umount(2) with MNT_DETACH
  module _ (number : ℕ) (judged : judge_in nat_eq fresh world task call ≡ Ok (ToUnmountLazily number)) where
    abbrev part : World ℕ
    part = part_of nat_eq world names

    abbrev in_part : MountInvariants nat_eq part
    in_part = part_mounts (sealing_of it.it)

    abbrev detached_ones : World ℕ
    detached_ones = lazily_unmounted nat_eq world number

    in_callers : (mount_numbered nat_eq world number).namespace ≡ Some task.namespace
    in_callers =
        let for = permits_are_for_their_calls fresh world task call (ToUnmountLazily number) judged in
        (all_permits_fit world fresh task call (ToUnmountLazily number) it.is it.serves
        (ap (task_called world) (sym (name_found world name task it.called)) ∙ it.called) (ap mounts_overlay for.1)
        judged).names.0

    is_there : Among (mount_numbered nat_eq world number) world.mounts
    is_there = ⊎_elim (λ m. m) (λ none. none_is_some _ (sym (ap (λ (m : Mount ℕ). m.namespace) none) ∙ in_callers))
        (found_or_none _ _)

    is_its : is_own world names (members world names) (mount_numbered nat_eq world number) ≡ true
    is_its = in_own world names it.is task member.among (mount_numbered nat_eq world number)
        (ap (holds_of (nat_eq task.namespace)) in_callers ∙ eq-eqb task.namespace task.namespace refl)

    all_gone : (gone : List ℕ) × TheirsGo world names gone × TookAway world detached_ones gone
        × TookAway part (folded (unmounted_if_there nat_eq) part (taken_in_turn world number)) gone
    all_gone = events_alike _ _ _ world part [] (begun world _ _) (subst (IsUnderWay part in_part number part)
        (same_turns (sealing_of it.it) _ is_there is_its) (begun part _ _)) (record {
          sealing = sealing_of it.it;
          own_go = λ m n none. absurd (true≢false (sym none));
        }) (took_none world it.is.mounts) (took_none part in_part) (turns_own (sealing_of it.it) _ is_there is_its)

    same : SameButGroups detached_ones (taken_away nat_eq world all_gone.0)
    same = took world detached_ones all_gone.0 all_gone.2

    same_swept : settled nat_eq (taken_away nat_eq world all_gone.0) ≡ settled nat_eq detached_ones
    same_swept = cc (settled_without_groups _, same, settled_without_groups _)

    taken_before : EndsInAWorld it.it fresh it.serves it.few task (ToUnmountLazily number)
        → OthersAsBefore world (taken_away nat_eq world all_gone.0) names names
    taken_before ends =
        own_gone_before it all_gone.0 all_gone.1.own_go (λ mount m n e.
        let of = tasked_later world detached_ones name [] ends mount
        (subst (Among mount) (sym (ap (λ (w : World ℕ). w.mounts) same)) m) n e in (
          of.0,
          subst (Among of.0) (ap (λ (w : World ℕ). w.tasks) same ∙ taken_tasks world world.tasks all_gone.0) of.1,
          of.2,
        ))

    lazy_out : GivesNoFoothold world names name call fresh
    lazy_out = swept_out it (ToUnmountLazily number) judged
        (λ ends. kept it (ToUnmountLazily number) judged refl (settled nat_eq detached_ones)
        (subst (λ w. OthersAsBefore world w names names) same_swept (swept_as_before world
        (taken_away nat_eq world all_gone.0) names names (taken_before ends))))

  by_permit : (permit : Permit ℕ) → judge_in nat_eq fresh world task call ≡ Ok permit → is_of_removing permit ≡ true
      → GivesNoFoothold world names name call fresh
  by_permit (ToRemoveDirectory parent entry directory) judged e =
      permit_out it (ToRemoveDirectory parent entry directory) judged (removes_before parent entry directory judged)
  by_permit (ToRename from old to new object replaced) judged e =
      permit_out it (ToRename from old to new object replaced) judged (renames_before from old to new object replaced
      judged)
  by_permit (ToUnmountLazily number) judged e = lazy_out number judged
  by_permit permit judged e = absurd (true≢false (sym e))

pub removing_gives_no_foothold : RemovingGivesNoFoothold
removing_gives_no_foothold world names name call it few fresh serves task called permit judged is_one =
    by_permit (record { it = it; few = few; serves = serves; called = called }) permit judged is_one
