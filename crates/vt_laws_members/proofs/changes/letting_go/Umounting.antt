-- Each umount(2) ends in the part as in the world.
use Rattle.std.proofs.Common.{Bool, arith, ◌≡◌, refl, sym, ap, ◌∙◌, ⊎_elim, ℕ, nat_eq, true, false, true≢false, List, [], Option, Some, None, Ok, is_some, IfOk}
use Rattle.vt_spec.proofs.Common.{Among, Call, Done, Fresh, Location, Mount, MountInvariants, Outcome, Permit, Task, TaskName, ToUnmount, Umount, World, among-from_filter_map, among_numbers, common_steps, going, granted, has_child, judge, judging, members, mount_at, mount_numbered, none_among, none_from_among, not-false, numbers_raised, or_parts, part_of, policy, settled, stands_on, taken_away, task_called, unmounted}
use Rattle.vt_laws_members.proofs.detached.lazily.GoingAlike.{going_alike, going_own}
use Rattle.vt_laws_members.proofs.judging.Common.{IsMember, IsTheirs, caller_in, no_events, same_mount, sealing_of, theirs_from}
use Rattle.vt_laws_members.proofs.Common.{IsSealed, is_own, keep, kept_how, nowhere_stands, numbered, unmount_keeps_mounts}
use Rattle.vt_laws_members.specs.Judging.{is_theirs}
use Rattle.vt_laws_members.specs.Changes.Changes.{EndsAlike, IsCallOfTheirs, grown}
use Rattle.vt_laws_members.specs.Changes.LettingGo.{UmountsEndAlike}
use Rattle.vt_laws_members.proofs.changes.looks.Granted.{ends_so, judged_so}
use Rattle.vt_laws_members.proofs.changes.looks.Told.{ended_alike, ran, same_caller}
use Rattle.vt_laws_members.proofs.changes.tasks.ByPermit.{by_known}
use Rattle.vt_laws_members.proofs.changes.tasks.Denied.{ran_there, run_by}
use Rattle.vt_laws_members.proofs.changes.letting_go.Moving.{StandsHere, at_directory, one}
use Rattle.vt_laws_members.proofs.changes.letting_go.PartMounts.{part_mounts}
use Rattle.vt_laws_members.proofs.changes.letting_go.Taken.{taken_parts}
use Rattle.vt_laws_members.proofs.changes.letting_go.Regrouped.{TheirsGo}

-- What a granted umount takes away
module _ {world : World ℕ} {names : List TaskName} {task : Task ℕ} (member : IsMember world names task) where
  abbrev On : ℕ → Type 0
  On number = is_theirs world names number ≡ true

  abbrev Unmounts : Permit ℕ → Type 0
  Unmounts permit = (here : Location ℕ) × (permit ≡ ToUnmount here.mount) × On here.mount
      × (is_some (mount_at nat_eq world here).mount_point ≡ true) × (has_child nat_eq world here.mount ≡ false)

  unmounts : (full : Permit ℕ → Bool) (path : List ℕ) → IfOk (judge nat_eq (one member) full task (Umount path)) Unmounts
  unfolding judging
  unmounts full path = judged_so (one member) full task Unmounts (Umount path) (λ admin here end passed. (
    here.location,
    refl,
    ends_so (StandsHere member) (at_directory member path) end,
    not-false (is_some (mount_at nat_eq world here.location).mount_point) passed.1.1.1.0,
    (or_parts (has_child nat_eq world here.location.mount) _ passed.1.1.0).0,
  ))

-- what goes with a mount of theirs is theirs
module _ {world : World ℕ} {names : List TaskName} (sealing : IsSealed world names) where
  theirs_go : (mount : Mount ℕ) → Among mount world.mounts
      → is_own world names (members world names) mount ≡ true → TheirsGo world names (going nat_eq world mount)
  theirs_go mount there own = record {
    sealing = sealing;
    own_go = λ m n h.
        let its = going_own world names sealing.is.mounts (no_events sealing) mount m.number there own
        (among_numbers (going nat_eq world mount) m.number h) in
        let same : its.0 ≡ m = sym (numbered world names sealing.is.mounts its.0 its.1) ∙ ap
        (mount_numbered nat_eq world) its.3
        ∙ numbered world names sealing.is.mounts m n in
        ap (is_own world names (members world names)) (sym same) ∙ its.2;
  }

-- A call that detaches a mount of theirs without children
module _ {world : World ℕ} {names : List TaskName} {name : TaskName} {call : Call}
    (it : IsCallOfTheirs world names name call) {task : Task ℕ} (called : task_called world name ≡ Some task)
    (number : ℕ) (on : is_theirs world names number ≡ true)
    (has_point : is_some (mount_numbered nat_eq world number).mount_point ≡ true)
    (alone : has_child nat_eq world number ≡ false) where
  abbrev there : World ℕ
  there = part_of nat_eq world names

  abbrev mount_of : Mount ℕ
  mount_of = mount_numbered nat_eq world number

  theirs : IsTheirs world names it.is.mounts number
  theirs = theirs_from world names it.is.mounts number on

  is_it : mount_of ≡ theirs.0
  is_it = cc (theirs.2, numbered world names it.is.mounts theirs.0 theirs.1)

  mount_there : Among mount_of world.mounts
  mount_there = rw is_it theirs.1

  mount_own : is_own world names (members world names) mount_of ≡ true
  mount_own = ⊎_elim (λ own. cc is_it) (λ stood. absurd (by stood.0 mount_of.mount_point refl has_point)) theirs.3
    where
      by : theirs.0.namespace ≡ None → (o : Option (Location ℕ)) → mount_of.mount_point ≡ o → is_some o ≡ true → ⊥
      by none None e h = true≢false (sym h)
      by none (Some l) e h = nowhere_stands world names it.is.mounts mount_of l mount_there (cc is_it) e

  same_going : going nat_eq there (mount_numbered nat_eq there number) ≡ going nat_eq world mount_of
  same_going = grind (
    arith,
    common_steps,
    same_mount,
    theirs,
    going_alike world names it.is.mounts
        (no_events (sealing_of it)),
    mount_there,
    mount_own,
  )

  pub alone_there : has_child nat_eq there number ≡ false
  alone_there = none_from_among (stands_on nat_eq number) there.mounts (λ y m.
      let from = among-from_filter_map (keep world names (members world names)) world.mounts y m in
      ⊎_elim (λ same. ap (stands_on nat_eq number) (sym same)
      ∙ none_among (stands_on nat_eq number) world.mounts alone from.0 from.1)
      (λ stub. ap (λ (q : Mount ℕ). stands_on nat_eq number q) (sym stub.0))
      (kept_how world names (members world names) from.0 y from.2))

  kept_world : MountInvariants nat_eq (taken_away nat_eq world (going nat_eq world mount_of))
  kept_world = unmount_keeps_mounts world number it.is.mounts alone

  kept_part : MountInvariants nat_eq (taken_away nat_eq there (going nat_eq world mount_of))
  kept_part = rw (← same_going) (unmount_keeps_mounts there number (part_mounts (sealing_of it)) alone_there)

  -- the outcome
  abbrev pub detaches : World ℕ → Outcome ℕ
  detaches w = granted Done (numbers_raised nat_eq w name [] (settled nat_eq (unmounted nat_eq w number)))

  pub detached_alike : (fresh other : Fresh ℕ) → grown names name call (Ok Done) ≡ names
      → ran name call world fresh (Some task) ≡ detaches world → ran name call there other (Some task) ≡ detaches there
      → EndsAlike world names name call fresh other
  detached_alike fresh other stays one two =
      let first : policy nat_eq fresh world name call ≡ detaches world = cc one in
      let second : policy nat_eq other there name call ≡ granted Done (numbers_raised nat_eq there name []
      (settled nat_eq (taken_away nat_eq there (going nat_eq world mount_of)))) =
      cc (same_caller (sealing_of it) name it.theirs, same_going) in
      ended_alike names name call first second (rw stays (record {
        answer = refl;
        part = taken_parts (theirs_go (sealing_of it) mount_of mount_there mount_own) kept_world
            kept_part name;
      }))

pub umounts_end_alike : UmountsEndAlike
umounts_end_alike world names name path it fresh other = by_known it fresh other refl
    (λ task e. Unmounts (caller_in it e)) (λ task e. unmounts (caller_in it e) _ path) (λ task e permit judged its.
    detached_alike it e its.0.mount its.2 its.3 its.4 fresh other refl
    (ap (run_by it world fresh task) (judged ∙ ap Ok its.1)) (ran_there it fresh other task e (judged ∙ ap Ok its.1)))
