-- What is kept of calls under way: their words, while no call changes the world.
use Rattle.std.specs.Prelude.{Bool, Err, IfSome, List, None, Ok, Option, Result, Some, false, filter, if◌then◌else◌, is_some, map, not, option_map, true, ⊤, ℕ, ◌≡◌}
use Rattle.std.specs.List.{All}
use Rattle.vt_spec.specs.Language.Calls.{Call, TaskName, same_name}
use Rattle.vt_spec.specs.Language.Script.{Who}
use Rattle.vt_spec.specs.Language.Script.Who.{Nobody, Someone}
use Rattle.vt_spec.specs.Lists.{first_of_list, then_some}
use Rattle.vt_spec.specs.Machine.Turns.{Item, Progress, Queue, queue_of}
use Rattle.vt_spec.specs.Machine.Turns.Item.{Asks, Calls, Refused}
use Rattle.vt_spec.specs.Machine.World.{World}
use Rattle.vt_turns.specs.Going.{AreWords, left_under_way, walked_in}
use Rattle.vt_turns.specs.ProgressValue.{progress_meant, words_meant}
use Rattle.vt_turns.specs.declared.progress.UnderWay.{UnderWay}

-- what the definitions see of a call under way
abbrev pub progress_of : UnderWay → Progress ℕ
progress_of held = progress_meant held.progress

-- it, if its words are not known
abbrev pub without_words : UnderWay → UnderWay
without_words held = record held { words = None }

-- the calls under way but a task's
abbrev pub others : TaskName → List UnderWay → List UnderWay
others name under_way = filter (λ held. not (same_name name held.progress.task)) under_way

-- a call of this task is under way, and words that are kept of it are those of this call
pub record IsOf (world : World ℕ) (name : TaskName) (call : Call) (held : UnderWay) : Type 0 where
  pub task : held.progress.task ≡ name
  pub words : IfSome held.words (λ words. AreWords world name call (words_meant words))

-- so, if one is
abbrev pub IsOfIt : World ℕ → TaskName → Call → Option UnderWay → Type 0
IsOfIt world name call held = IfSome held (IsOf world name call)

-- a turn leaves so much of a call, or nothing where the call is run whole
abbrev pub GoesOn : World ℕ → TaskName → Call → Option (Progress ℕ) → Option UnderWay → Type 0
GoesOn world name call next left = (option_map progress_of left ≡ next) × IsOfIt world name call left

-- Words that are kept of a task's call are those of the call that is first in its queue.
abbrev pub KeepsWords : World ℕ → (TaskName → Option Call) → UnderWay → Type 0
KeepsWords world calls held =
    IfSome held.words (λ words. (call : Call) × (calls held.progress.task ≡ Some call)
    × AreWords world held.progress.task call (words_meant words))

abbrev pub AllKeepWords : World ℕ → (TaskName → Option Call) → List UnderWay → Type 0
AllKeepWords world calls under_way = All (KeepsWords world calls) under_way

-- what a turn leaves of a task's call and of the others
pub record Walks (world : World ℕ) (name : TaskName) (call : Call) (calls : TaskName → Option Call) (old : List UnderWay)
    (goes_on : Bool) (new : List UnderWay) : Type 0 where
  pub going : goes_on ≡ is_some (walked_in world name call (map progress_of old))
  pub under_way : map progress_of new
      ≡ left_under_way name (walked_in world name call (map progress_of old)) (map progress_of old)
  pub words : AllKeepWords world calls new

-- the call goes on
abbrev pub is_going : {E : Type 0} → Result Bool E → Bool
is_going (Ok goes_on) = goes_on
is_going (Err error) = false

-- Calls that are first in queues

-- the call that an item is, if it is one
abbrev pub call_of_item : Item → Option Call
call_of_item (Calls call) = Some call
call_of_item (Asks directive) = None
call_of_item (Refused deny) = None

-- the call that is first in a task's queue
abbrev pub first_call : List Queue → TaskName → Option Call
first_call queues name =
    then_some (first_of_list (queue_of queues (Someone name))) (λ first. call_of_item first.item)

-- this is first in a queue
abbrev pub HasFirst : (TaskName → Option Call) → Who → Item → Type 0
HasFirst calls (Someone name) item = calls name ≡ call_of_item item
HasFirst calls Nobody item = ⊤

-- the calls of other tasks
abbrev pub calls_without : TaskName → (TaskName → Option Call) → TaskName → Option Call
calls_without name calls other = if same_name name other then None else calls other

-- the calls that are known to be first after a turn: an answer takes one away
abbrev pub calls_after : Who → (is_answered : Bool) → (TaskName → Option Call) → TaskName → Option Call
calls_after (Someone name) true calls = calls_without name calls
calls_after (Someone name) false calls = calls
calls_after Nobody is_answered calls = calls
