-- Sealed sets in states of a scheduler that are the same, and in turns that are made one by one (profile).
use Rattle.std.specs.Prelude.{List, Option, [], nat_eq, option_to_list, true, ℕ, ◌∷◌, ◌≡◌}
use Rattle.vt_spec.specs.Language.Calls.{TaskName, same_name}
use Rattle.vt_spec.specs.Language.Script.Who.{Someone}
use Rattle.vt_spec.specs.Lists.{Fresh, is_among}
use Rattle.vt_spec.specs.Machine.SameWorlds.{SameWorlds}
use Rattle.vt_spec.specs.Machine.Sealed.{part_of}
use Rattle.vt_spec.specs.Machine.Turns.{Reply, Sched, Turned, queue_of, turn}
use Rattle.vt_laws_turns.specs.Commits.{Turn}
use Rattle.vt_laws_turns.specs.SameStates.{IsPlayed, SameSched}
use Rattle.vt_laws_containers.specs.MembersTurns.TheirTurns.{IsTurnOfTheirs, set_left}
use Rattle.vt_laws_containers.specs.SealedTurns.MembersTurns.{part_of_sched}
use Rattle.vt_laws_containers.specs.SealedTurns.OutsidersTurns.{AreOutsidersTurns, HasItSealed, their_calls}

-- the set is sealed off in the other state, too: with a part that is the same, with its calls under way, and with the
-- queues of its tasks
pub record HasItSealedToo (one other : Sched ℕ) (names : List TaskName) : Type 0 where
  pub sealed_off : HasItSealed other names
  pub part : SameWorlds (part_of nat_eq one.world names) (part_of nat_eq other.world names)
  pub calls : their_calls names other.under_way ≡ their_calls names one.under_way
  pub queues : (member : TaskName) → is_among same_name member names ≡ true
      → queue_of other.queues (Someone member) ≡ queue_of one.queues (Someone member)

-- So it is in two states that are the same,
abbrev pub SameSchedsHaveItSealed : Type 0
SameSchedsHaveItSealed =
    (one other : Sched ℕ) (names : List TaskName) → SameSched one other → HasItSealed one names
    → HasItSealedToo one other names

-- and after turns of others that are made one by one.
abbrev pub OthersPlayedLeaveItSealed : Type 0
OthersPlayedLeaveItSealed =
    (first now : Sched ℕ) (schedule : List Turn) (told : List Reply) (names : List TaskName)
    → IsPlayed first schedule told now → HasItSealed first names → AreOutsidersTurns first names schedule
    → HasItSealedToo first now names

-- the turn of a task of theirs where the state is the part of the set
abbrev pub turn_in_part : Sched ℕ → List TaskName → TaskName → Option (Fresh ℕ) → Turned ℕ
turn_in_part sched names name fresh = turn nat_eq (part_of_sched names sched) (Someone name) fresh

-- what is replied is the reply of that turn, if it has one; of the set that the turn leaves the part is the same as the
-- one that is left there, with the same calls under way
pub record GoesAsInThePart (first now : Sched ℕ) (names : List TaskName) (name : TaskName) (fresh : Option (Fresh ℕ))
    (told : List Reply) : Type 0 where
  pub replies : told ≡ option_to_list (turn_in_part first names name fresh).reply
  pub part : SameWorlds
      (part_of nat_eq (turn_in_part first names name fresh).sched.world (set_left first names name fresh))
      (part_of nat_eq now.world (set_left first names name fresh))
  pub calls : their_calls (set_left first names name fresh) now.under_way
      ≡ their_calls (set_left first names name fresh) (turn_in_part first names name fresh).sched.under_way

-- So goes a turn of theirs that is made.
abbrev pub TheirTurnsPlayedGoAsInThePart : Type 0
TheirTurnsPlayedGoAsInThePart =
    (first now : Sched ℕ) (told : List Reply) (names : List TaskName) (name : TaskName) (fresh : Option (Fresh ℕ))
    → IsPlayed first ((Someone name, fresh) ∷ []) told now → IsTurnOfTheirs first names name fresh
    → GoesAsInThePart first now names name fresh told
