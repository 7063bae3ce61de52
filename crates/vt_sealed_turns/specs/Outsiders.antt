-- What turns of tasks outside a sealed set leave of the set (profile).
use Rattle.std.specs.Prelude.{List, Option, [], false, true, ℕ, ⊤, ◌≡◌, ◌∷◌}
use Rattle.vt_spec.specs.Language.Calls.{Call, TaskName, same_name}
use Rattle.vt_spec.specs.Language.Calls.Call.{Setns}
use Rattle.vt_spec.specs.Language.Script.{Who}
use Rattle.vt_spec.specs.Lists.{is_among}
use Rattle.vt_spec.specs.Machine.Turns.{Reply, Sched as SchedMeant}
use Rattle.vt_spec.specs.Machine.World.{World}
use Rattle.vt_laws_trees.specs.Trees.Limits.{names_few_groups}
use Rattle.vt_laws_containers.specs.SameSets.Turns.{HasItSealedToo}
use Rattle.vt_laws_containers.specs.SealedTurns.OutsidersTurns.{HasItSealed, IsFirst, is_of_theirs}
use Rattle.vt_turns.specs.SchedValue.{Sched, sched_meant}
use Rattle.vt_turns.specs.Turned.{PlaysAs, TurnsAs}

-- a turn of a task outside the set, or of `!`, whose call enters no namespace of theirs
pub record IsTurnOfAnother (sched : SchedMeant ℕ) (names : List TaskName) (who : Who) : Type 0 where
  pub outside : is_of_theirs names who ≡ false
  pub apart : (member : TaskName) → IsFirst sched who (Setns member) → is_among same_name member names ≡ false
  pub few_groups : (call : Call) → IsFirst sched who call → names_few_groups call ≡ true

-- Such a turn leaves the set sealed off, with the same part, calls under way and queues.
abbrev pub OthersTurnsLeaveSetsSealed : {C : Type 0} → (C → World ℕ) → Type 0
OthersTurnsLeaveSetsSealed {C} seen =
    (old new : Sched C) (names : List TaskName) (who : Who) (reply : Option Reply) → HasItSealed (sched_meant seen old) names
    → IsTurnOfAnother (sched_meant seen old) names who → TurnsAs seen old who reply new
    → HasItSealedToo (sched_meant seen old) (sched_meant seen new) names

-- each of these turns is one of others, in the state before it
abbrev pub AreOfOthers : {C : Type 0} → (seen : C → World ℕ) (names : List TaskName) (old : Sched C) (schedule : List Who)
    (replies : List Reply) (new : Sched C) → PlaysAs seen old schedule replies new → Type 0
AreOfOthers seen names old [] replies new plays = ⊤
AreOfOthers seen names old (who ∷ schedule) replies new plays =
    IsTurnOfAnother (sched_meant seen old) names who
    × AreOfOthers seen names plays.1 schedule plays.2 new plays.5

-- So do all turns of a schedule.
abbrev pub OthersPlayLeavesSetsSealed : {C : Type 0} → (C → World ℕ) → Type 0
OthersPlayLeavesSetsSealed {C} seen =
    (old new : Sched C) (names : List TaskName) (schedule : List Who) (replies : List Reply)
    → HasItSealed (sched_meant seen old) names
    → (plays : PlaysAs seen old schedule replies new) → AreOfOthers seen names old schedule replies new plays
    → HasItSealedToo (sched_meant seen old) (sched_meant seen new) names
