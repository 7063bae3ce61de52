-- States of a scheduler that are the same, with all change numbers: their turns reply the same (profile).
use Rattle.std.specs.Prelude.{List, Option, Some, [], nat_eq, option_to_list, ℕ, ◌++◌, ◌∷◌, ◌≡◌}
use Rattle.vt_spec.specs.Language.Script.{Who}
use Rattle.vt_spec.specs.Lists.{Fresh}
use Rattle.vt_spec.specs.Machine.Invariants.{IsWorld}
use Rattle.vt_spec.specs.Machine.Run.{Serves}
use Rattle.vt_spec.specs.Machine.Turns.{Reply, Sched, Turned, queue_of, turn}
use Rattle.vt_laws_turns.specs.Commits.{Turn, commits, items_of, left_by, replies, replies_of, world_after}
use Rattle.vt_laws_turns.specs.Dated.{SameDated}
use Rattle.vt_laws_turns.specs.Holds.Held.{AreFitTurns}

-- the same world with all change numbers, the same queues, and the same calls under way
pub record SameSched (one other : Sched ℕ) : Type 0 where
  pub world : SameDated one.world other.world
  pub queues : one.queues ≡ other.queues
  pub under_way : one.under_way ≡ other.under_way

-- To be the same state is an equivalence.
pub record SameSchedIsAnEquivalence : Type 0 where
  pub itself : (sched : Sched ℕ) → SameSched sched sched
  pub back : (one other : Sched ℕ) → SameSched one other → SameSched other one
  pub onward : (one other last : Sched ℕ) → SameSched one other → SameSched other last → SameSched one last

-- one reply or none, and states that are the same
pub record AreTurnedAlike (one other : Turned ℕ) : Type 0 where
  pub reply : one.reply ≡ other.reply
  pub sched : SameSched one.sched other.sched

-- the numbers that a turn is handed, if no allocation fails, are not in use
abbrev pub HandsUnused : Sched ℕ → Turn → Type 0
HandsUnused sched given = (fresh : Fresh ℕ) → given.1 ≡ Some fresh → Serves nat_eq sched.world fresh

-- In two states that are the same, of which the world of one has all invariants, a turn replies the same and leaves two
-- such states.
abbrev pub SameSchedsTurnAlike : Type 0
SameSchedsTurnAlike =
    (one other : Sched ℕ) (given : Turn) → SameSched one other → IsWorld nat_eq one.world → HandsUnused one given
    → AreTurnedAlike (turn nat_eq one given.0 given.1) (turn nat_eq other given.0 given.1)

-- the same replies, the same commits, and states that are the same
pub record ArePlayedAlike (one other : Sched ℕ) (schedule : List Turn) : Type 0 where
  pub replies : replies one schedule ≡ replies other schedule
  pub commits : commits one schedule ≡ commits other schedule
  pub left : SameSched (left_by one schedule) (left_by other schedule)

-- So does a schedule of fit turns.
abbrev pub SameSchedsPlayAlike : Type 0
SameSchedsPlayAlike =
    (one other : Sched ℕ) (schedule : List Turn) → SameSched one other → IsWorld nat_eq one.world
    → AreFitTurns one schedule → ArePlayedAlike one other schedule

-- Turns that are made one by one

-- Of a state these turns reply so, and leave a state that is the same as this one.
pub record IsPlayed (first : Sched ℕ) (schedule : List Turn) (given : List Reply) (now : Sched ℕ) : Type 0 where
  pub replies : replies first schedule ≡ given
  pub left : SameSched (left_by first schedule) now

-- No turn gives no reply, and leaves the state,
abbrev pub PlaysBegin : Type 0
PlaysBegin = (first : Sched ℕ) → IsPlayed first [] [] first

-- and one turn more, made in the state that is the same, is one turn more of the first state.
abbrev pub PlaysGoOn : Type 0
PlaysGoOn =
    (first now next : Sched ℕ) (schedule : List Turn) (told : List Reply) (given : Turn) (reply : Option Reply)
    → IsPlayed first schedule told now → IsWorld nat_eq now.world → HandsUnused now given
    → (turn nat_eq now given.0 given.1).reply ≡ reply → SameSched (turn nat_eq now given.0 given.1).sched next
    → IsPlayed first (schedule ++ (given ∷ [])) (told ++ option_to_list reply) next

-- what was replied is what the commits reply, run whole in their order; the world is the same as theirs; and each queue
-- is what was committed of it, in order, and then what is left of it
pub record AreWholeCalls (first : Sched ℕ) (schedule : List Turn) (given : List Reply) (now : Sched ℕ) : Type 0 where
  pub replies : given ≡ replies_of first.world (commits first schedule)
  pub world : SameDated (world_after first.world (commits first schedule)) now.world
  pub fronts : (who : Who) → items_of who (commits first schedule) ++ queue_of now.queues who
      ≡ queue_of first.queues who

-- So turns that are made one by one are whole calls.
abbrev pub PlayedTurnsAreWholeCalls : Type 0
PlayedTurnsAreWholeCalls =
    (first now : Sched ℕ) (schedule : List Turn) (given : List Reply) → IsPlayed first schedule given now
    → AreWholeCalls first schedule given now
