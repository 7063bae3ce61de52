-- What a schedule commits: the calls that it answers, in the order of their last turns (profile).
use Rattle.std.specs.Prelude.{Bool, Err, List, None, Option, Some, [], cond, false, nat_eq, option_to_list, true, ℕ, ◌++◌, ◌+◌, ◌∷◌, ◌≡◌}
use Rattle.vt_spec.specs.declared.errors.Rule.TheVariants.{S2, S5}
use Rattle.vt_spec.specs.Errors.{denial}
use Rattle.vt_spec.specs.Language.Printed.{reply_line}
use Rattle.vt_spec.specs.Language.Script.{Version, Who, lines_of, whole}
use Rattle.vt_spec.specs.Language.Script.Who.{Nobody, Someone}
use Rattle.vt_spec.specs.Lists.{Fresh, first_of_list}
use Rattle.vt_spec.specs.Machine.Outcomes.{Outcome, denied}
use Rattle.vt_spec.specs.Machine.Policy.{policy}
use Rattle.vt_spec.specs.Machine.Run.{first_world, handed, later}
use Rattle.vt_spec.specs.Machine.Sealed.{directed}
use Rattle.vt_spec.specs.Machine.Turns.{Item, Queued, Reply, Sched, first_sched, queue_of, same_who, schedule_who, turn, turns_text}
use Rattle.vt_spec.specs.Machine.Turns.Item.{Asks, Calls, Refused}
use Rattle.vt_spec.specs.Machine.World.{World}

-- an item that was answered: whose queue it stood in, and the numbers that it was handed, or none where an allocation
-- failed
pub record Commit : Type 0 where
  pub who : Who
  pub queued : Queued
  pub fresh : Option (Fresh ℕ)

-- an item run whole: a call by the policy; S5 and no effect where an allocation failed
abbrev pub run_item : World ℕ → Who → Item → Option (Fresh ℕ) → Outcome ℕ
run_item world (Someone name) (Calls call) (Some fresh) = policy nat_eq fresh world name call
run_item world (Someone name) (Calls call) None = denied world (denial S5)
run_item world Nobody (Calls call) fresh = denied world (denial S2)
run_item world who (Asks directive) (Some fresh) = directed nat_eq world directive
run_item world who (Asks directive) None = denied world (denial S5)
run_item world who (Refused deny) fresh = denied world deny

-- the outcome of a commit
abbrev pub committed : World ℕ → Commit → Outcome ℕ
committed world commit = run_item world commit.who commit.queued.item commit.fresh

-- the reply to a commit
abbrev pub reply_to : World ℕ → Commit → Reply
reply_to world commit = record { line = commit.queued.line; answer = (committed world commit).answer }

-- the world after commits, one after the other
abbrev pub world_after : World ℕ → List Commit → World ℕ
world_after world [] = world
world_after world (commit ∷ commits) = world_after (committed world commit).world commits

-- their replies
abbrev pub replies_of : World ℕ → List Commit → List Reply
replies_of world [] = []
replies_of world (commit ∷ commits) =
    reply_to world commit ∷ replies_of (committed world commit).world commits

-- a turn of a schedule: whose it is, and the numbers that it is handed, or none where an allocation fails
abbrev pub Turn : Type 0
Turn = Who × Option (Fresh ℕ)

-- what a turn commits: the first of its queue, where there is a reply
abbrev pub commit_by : Who → Option (Fresh ℕ) → Option Queued → Option Reply → Option Commit
commit_by who fresh None reply = None
commit_by who fresh (Some first) None = None
commit_by who fresh (Some first) (Some reply) = Some (record { who = who; queued = first; fresh = fresh })

abbrev pub commit_of : Sched ℕ → Turn → Option Commit
commit_of sched given =
    commit_by given.0 given.1 (first_of_list (queue_of sched.queues given.0)) (turn nat_eq sched given.0 given.1).reply

-- what a schedule commits, answers and leaves
abbrev pub commits : Sched ℕ → List Turn → List Commit
commits sched [] = []
commits sched (given ∷ rest) =
    option_to_list (commit_of sched given) ++ commits (turn nat_eq sched given.0 given.1).sched rest

abbrev pub replies : Sched ℕ → List Turn → List Reply
replies sched [] = []
replies sched (given ∷ rest) =
    option_to_list (turn nat_eq sched given.0 given.1).reply ++ replies (turn nat_eq sched given.0 given.1).sched rest

abbrev pub left_by : Sched ℕ → List Turn → Sched ℕ
left_by sched [] = sched
left_by sched (given ∷ rest) = left_by (turn nat_eq sched given.0 given.1).sched rest

-- From any state of a scheduler the replies are those of the commits, run whole in their order from its world, and the
-- world is theirs.
abbrev pub RepliesAreOfCommits : Type 0
RepliesAreOfCommits =
    (sched : Sched ℕ) (schedule : List Turn)
    → (replies sched schedule ≡ replies_of sched.world (commits sched schedule))
    × ((left_by sched schedule).world ≡ world_after sched.world (commits sched schedule))

-- what was committed of a queue
abbrev pub items_of : Who → List Commit → List Queued
items_of who [] = []
items_of who (commit ∷ commits) =
    cond (same_who who commit.who) (commit.queued ∷ items_of who commits) (items_of who commits)

-- Each queue is what was committed of it, in order, and then what is left of it: so each call is answered once.
abbrev pub CommitsAreFronts : Type 0
CommitsAreFronts =
    (sched : Sched ℕ) (schedule : List Turn) (who : Who)
    → items_of who (commits sched schedule) ++ queue_of (left_by sched schedule).queues who
    ≡ queue_of sched.queues who

-- A turn without a reply leaves the world and the queues as they were.
abbrev pub UnansweredTurnsChangeNothing : Type 0
UnansweredTurnsChangeNothing =
    (sched : Sched ℕ) (given : Turn) → (turn nat_eq sched given.0 given.1).reply ≡ None
    → ((turn nat_eq sched given.0 given.1).sched.world ≡ sched.world)
    × ((turn nat_eq sched given.0 given.1).sched.queues ≡ sched.queues)

-- what may need memory: a call of a task, and a directive
abbrev pub is_run : Who → Item → Bool
is_run (Someone name) (Calls call) = true
is_run Nobody (Calls call) = false
is_run who (Asks directive) = true
is_run who (Refused deny) = false

-- A turn in which an allocation fails is the last of its call or directive, which answers S5 and leaves the world as
-- it was.
abbrev pub FailedAllocationsAnswerS5 : Type 0
FailedAllocationsAnswerS5 =
    (sched : Sched ℕ) (who : Who) (first : Queued) → first_of_list (queue_of sched.queues who) ≡ Some first
    → is_run who first.item ≡ true
    → ((turn nat_eq sched who None).reply ≡ Some (record { line = first.line; answer = Err (denial S5) }))
    × ((turn nat_eq sched who None).sched.world ≡ sched.world)

-- Schedules as texts

-- the turn that a line of a schedule gives, if it gives one
abbrev pub turn_given : Option Who → Option (Fresh ℕ) → List Turn
turn_given None fresh = []
turn_given (Some who) fresh = (who, fresh) ∷ []

-- the turns of a schedule; an allocation fails in those whose place in the list is `true`
abbrev pub turns_given : ℕ → List (List ℕ) → List Bool → List Turn
turns_given number [] refused = []
turns_given number (line ∷ lines) refused =
    turn_given (schedule_who line) (handed number refused) ++ turns_given (number + 1) lines (later refused)

-- the text of replies
abbrev pub text_of_replies : List Reply → List ℕ
text_of_replies [] = []
text_of_replies (reply ∷ replies) = reply_line reply.line reply.answer ++ text_of_replies replies

-- what a script's queues commit in the order of a schedule
abbrev pub script_commits : Version → List Bool → (script schedule : List ℕ) → List Commit
script_commits version refused script schedule =
    commits (first_sched (whole version) script) (turns_given 1 (lines_of schedule) refused)

-- So the text of a schedule is that of its commits, run whole in their order from the opening world.
abbrev pub TextsAreOfCommits : Type 0
TextsAreOfCommits =
    (version : Version) (refused : List Bool) (script schedule : List ℕ)
    → turns_text version refused script schedule
    ≡ text_of_replies (replies_of first_world (script_commits version refused script schedule))
