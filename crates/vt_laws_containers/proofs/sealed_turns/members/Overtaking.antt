-- Turns of outsiders overtake no call of theirs.
use Rattle.std.proofs.Common.{arith, ◌≡◌, sym, ap, subst, ◌∙◌, ℕ, nat_eq, List, [], ◌∷◌}
use Rattle.vt_spec.proofs.Common.{Among, Progress, Sched, TaskName, World, among-filter, among-from_filter, among_from_contains, common_steps, contains_from_among, found_among, is_among, is_member_task, is_overtaken, same_name, turn}
use Rattle.vt_laws_containers.proofs.Common.{AreFitTurns, IsUnderWayOf, Turn, left_by, name_found, schedules_hold_what_is_seen}
use Rattle.vt_laws_containers.specs.SealedTurns.MembersTurns.{OutsidersOvertakeNoCallOfTheirs, TheirCallsAreOvertakenAlike}
use Rattle.vt_laws_containers.specs.SealedTurns.OutsidersTurns.{AreOutsidersTurns, their_calls}
use Rattle.vt_laws_containers.proofs.sealed_turns.members.Numbers.{overtaken_alike}
use Rattle.vt_laws_containers.proofs.sealed_turns.outsiders.Turned.{called_so, outsiders_turns_leave_it_sealed_in_turn}

pub their_calls_are_overtaken_alike : TheirCallsAreOvertakenAlike
their_calls_are_overtaken_alike sched names task progress has under theirs =
    let its : task.name ≡ progress.task = sym (name_found sched.world _ task under.called) in
    overtaken_alike _ names has.is task (among-filter (is_member_task names) sched.world.tasks task
    (found_among _ sched.world.tasks task under.called) (cc)) progress
    (λ current held m. has.holds.seen task progress under current held (contains_from_among _ held m))

-- turns of outsiders are fit
pub fit_turns : (schedule : List Turn) (sched : Sched ℕ) (names : List TaskName)
    → AreOutsidersTurns sched names schedule → AreFitTurns sched schedule
fit_turns [] sched names of = tt
fit_turns (given ∷ rest) sched names of =
    grind (arith, common_steps, fit_turns rest (turn nat_eq sched given.0 given.1).sched names of.1)

pub outsiders_overtake_no_call_of_theirs : OutsidersOvertakeNoCallOfTheirs
outsiders_overtake_no_call_of_theirs sched names schedule task progress sealed holds of under theirs =
    let later : Sched ℕ = left_by sched schedule in
    let leave = outsiders_turns_leave_it_sealed_in_turn sched names schedule sealed of in
    let held = schedules_hold_what_is_seen sched schedule sealed.is holds (fit_turns schedule sched names of) in
    let own = λ (p : Progress ℕ). is_among same_name p.task names in
    let there : Among progress (their_calls names later.under_way) = subst (Among progress) (sym leave.calls)
    (among-filter own sched.under_way progress (among_from_contains sched.under_way progress under.under_way) theirs) in
    let still : IsUnderWayOf later task progress = record {
      under_way = contains_from_among later.under_way progress (among-from_filter own later.under_way progress there).0;
      called =
          called_so sched.world later.world names (ap (λ (part : World ℕ). part.tasks) leave.part) progress.task theirs
          ∙ under.called;
    } in (
      still,
      sym (their_calls_are_overtaken_alike later names task progress
          (record { is = leave.sealed_off.is; holds = held.1 }) still theirs)
          ∙ ap (λ part. is_overtaken nat_eq part task progress) leave.part
          ∙ their_calls_are_overtaken_alike sched names task progress
          (record { is = sealed.is; holds = holds }) under theirs,
    )
