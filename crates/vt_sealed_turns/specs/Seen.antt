-- Calls under way hold what their tasks see (profile).
use Rattle.std.specs.Prelude.{List, [], nat_eq, true, ℕ, ⊤, ◌≡◌, ◌∷◌}
use Rattle.vt_spec.specs.Language.Calls.{Call}
use Rattle.vt_spec.specs.Language.Script.{Who}
use Rattle.vt_spec.specs.Machine.Invariants.{IsWorld}
use Rattle.vt_spec.specs.Machine.Turns.{Reply}
use Rattle.vt_spec.specs.Machine.World.{World}
use Rattle.vt_laws_trees.specs.Trees.Limits.{names_few_groups}
use Rattle.vt_laws_turns.specs.Holds.Held.{HoldsWhatIsSeen}
use Rattle.vt_laws_containers.specs.SealedTurns.OutsidersTurns.{IsFirst}
use Rattle.vt_queues.specs.declared.queues.Queues.{Queues}
use Rattle.vt_turns.specs.SchedValue.{Sched, begins, sched_meant}
use Rattle.vt_turns.specs.Turned.{PlaysAs}

-- So they do where a scheduler begins, as `Sched::new` has it,
abbrev pub SchedulersHoldWhatIsSeen : {C : Type 0} → (C → World ℕ) → Type 0
SchedulersHoldWhatIsSeen {C} seen =
    (world : C) (queues : Queues) (new : Sched C) → sched_meant seen new ≡ begins (seen world) queues
    → HoldsWhatIsSeen (sched_meant seen new)

-- where each fork that is first in its queue names few groups, in the state before each turn,
abbrev pub ForksNameFewGroups : {C : Type 0} → (seen : C → World ℕ) (old : Sched C) (schedule : List Who)
    (replies : List Reply) (new : Sched C) → PlaysAs seen old schedule replies new → Type 0
ForksNameFewGroups seen old [] replies new plays = ⊤
ForksNameFewGroups seen old (who ∷ schedule) replies new plays =
    ((call : Call) → IsFirst (sched_meant seen old) who call → names_few_groups call ≡ true)
    × ForksNameFewGroups seen plays.1 schedule plays.2 new plays.5

-- also after a schedule. The world has all invariants before it and after it.
abbrev pub PlayHoldsWhatIsSeen : {C : Type 0} → (C → World ℕ) → Type 0
PlayHoldsWhatIsSeen {C} seen =
    (old new : Sched C) (schedule : List Who) (replies : List Reply) → IsWorld nat_eq (seen old.state.world)
    → HoldsWhatIsSeen (sched_meant seen old)
    → (plays : PlaysAs seen old schedule replies new) → ForksNameFewGroups seen old schedule replies new plays
    → IsWorld nat_eq (seen new.state.world) × HoldsWhatIsSeen (sched_meant seen new)
