-- Turns of outsiders change no turn of theirs.
use Rattle.std.proofs.Common.{arith, ◌≡◌, ℕ, nat_eq, List, Option, Some}
use Rattle.vt_spec.proofs.Common.{Fresh, Sched, Serves, Someone, TaskName, Turned, common_steps, turn}
use Rattle.vt_laws_containers.proofs.Common.{HoldsWhatIsSeen, left_by, schedules_hold_what_is_seen}
use Rattle.vt_laws_containers.specs.SealedTurns.MembersTurns.{part_of_sched}
use Rattle.vt_laws_containers.specs.SealedTurns.OutsidersTurns.{HasItSealed}
use Rattle.vt_laws_containers.proofs.sealed_turns.members.Overtaking.{fit_turns}
use Rattle.vt_laws_containers.proofs.sealed_turns.outsiders.Turned.{outsiders_turns_leave_it_sealed_in_turn}
use Rattle.vt_laws_containers.specs.MembersTurns.TheirTurns.{HaveOnePart, IsTurnOfTheirs, OutsidersChangeNoTurnOfTheirs, TurnsAlikeIn, set_left}
use Rattle.vt_laws_containers.proofs.members_turns.EachTurn.{each_turn_of_theirs_is_of_their_part}
use Rattle.vt_laws_containers.proofs.members_turns.OtherQueues.{SameTurned, queue_after, same_turned, shortened_by}

module _ {one other : Sched ℕ} {names : List TaskName} (same : HaveOnePart one other names) {name : TaskName}
    {fresh : Option (Fresh ℕ)} (it : IsTurnOfTheirs one names name fresh) where
  abbrev turned : Sched ℕ → Turned ℕ
  turned sched = turn nat_eq sched (Someone name) fresh

  -- the turn is one of theirs in the other state, too
  pub still_theirs : HasItSealed other names → HoldsWhatIsSeen other
      → ((given : Fresh ℕ) → fresh ≡ Some given → Serves nat_eq other.world given)
      → IsTurnOfTheirs other names name fresh
  still_theirs has holds serves = grind (arith, common_steps)

  -- where the world is the part, it goes alike
  in_parts : SameTurned (turned (part_of_sched names one)) (turned (part_of_sched names other))
  in_parts = grind (arith, common_steps, same_turned)

  -- and leaves the set that it leaves in the one
  pub same_set : (turned other).reply ≡ (turned one).reply
      → set_left other names name fresh ≡ set_left one names name fresh
  same_set reply = cc (same.queues name it.theirs)

  pub turns_alike_in : IsTurnOfTheirs other names name fresh
      → TurnsAlikeIn one other names (set_left one names name fresh) name fresh
  turns_alike_in its =
      grind (arith, common_steps, each_turn_of_theirs_is_of_their_part, in_parts, same_set, queue_after, shortened_by)

pub outsiders_change_no_turn_of_theirs : OutsidersChangeNoTurnOfTheirs
outsiders_change_no_turn_of_theirs sched names schedule name fresh has of it serves =
    let later : Sched ℕ = left_by sched schedule in
    let leave = outsiders_turns_leave_it_sealed_in_turn sched names schedule has of in
    let held = schedules_hold_what_is_seen sched schedule has.is it.has.holds (fit_turns schedule sched names of) in
    let same : HaveOnePart sched later names =
    record { part = leave.part; calls = leave.calls; queues = leave.queues } in
    turns_alike_in same it (still_theirs same it leave.sealed_off held.1 serves)
