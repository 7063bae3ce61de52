-- How a turn of a task of a sealed set goes (profile).
use Rattle.std.specs.Prelude.{List, Option, Some, false, nat_eq, option_to_list, true, ℕ, ◌≡◌}
use Rattle.vt_spec.specs.Language.Calls.{TaskName, same_name}
use Rattle.vt_spec.specs.Language.Calls.Call.{Setns}
use Rattle.vt_spec.specs.Language.Script.Who.{Someone}
use Rattle.vt_spec.specs.Lists.{Fresh, first_of_list, is_among}
use Rattle.vt_spec.specs.Machine.Sealed.{sealed}
use Rattle.vt_spec.specs.Machine.Turns.{Queued, Reply, Sched as SchedMeant, queue_of}
use Rattle.vt_spec.specs.Machine.World.{World}
use Rattle.vt_laws_turns.specs.SameStates.{HandsUnused}
use Rattle.vt_laws_containers.specs.MembersTurns.TheirTurns.{is_directive}
use Rattle.vt_laws_containers.specs.SameSets.Turns.{GoesAsInThePart}
use Rattle.vt_laws_containers.specs.SealedTurns.MembersTurns.{HasCallsUnderWay}
use Rattle.vt_laws_containers.specs.SealedTurns.OutsidersTurns.{IsFirst}
use Rattle.vt_turns.specs.SchedValue.{Sched, sched_meant}
use Rattle.vt_turns.specs.Turned.{TurnsAs}

-- a turn of a task of a sealed set, of no directive and of no call that enters a namespace of others
pub record IsMembersTurn (sched : SchedMeant ℕ) (names : List TaskName) (name : TaskName) : Type 0 where
  pub has : HasCallsUnderWay sched
  pub sealed_off : sealed nat_eq sched.world names ≡ true
  pub theirs : is_among same_name name names ≡ true
  pub among_them : (member : TaskName) → IsFirst sched (Someone name) (Setns member)
      → is_among same_name member names ≡ true
  pub no_directive : (first : Queued) → first_of_list (queue_of sched.queues (Someone name)) ≡ Some first
      → is_directive first.item ≡ false

-- it goes as in the part of the set, by numbers that are not in use, or by none where an allocation fails
abbrev pub GoesAsInTheirPart : SchedMeant ℕ → SchedMeant ℕ → List TaskName → TaskName → Option Reply → Type 0
GoesAsInTheirPart first now names name reply =
    (fresh : Option (Fresh ℕ)) × HandsUnused first (Someone name, fresh)
    × GoesAsInThePart first now names name fresh (option_to_list reply)

-- So goes each turn of theirs.
abbrev pub MembersTurnsGoAsInTheirPart : {C : Type 0} → (C → World ℕ) → Type 0
MembersTurnsGoAsInTheirPart {C} seen =
    (old new : Sched C) (names : List TaskName) (name : TaskName) (reply : Option Reply)
    → IsMembersTurn (sched_meant seen old) names name → TurnsAs seen old (Someone name) reply new
    → GoesAsInTheirPart (sched_meant seen old) (sched_meant seen new) names name reply
