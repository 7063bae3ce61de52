-- Calls in turns: each task, and `!`, has a queue of its lines. A turn walks one word of a call, or judges and acts
-- (profile).
use Rattle.std.specs.Prelude.{Bool, Err, List, None, Ok, Option, Result, Some, [], false, filter, filter_map, find, if◌then◌else◌, length, map, nat_eq, nat_le, nat_lt, not, option_map, option_to_list, reverse, slice_get, true, unwrap_or, ℕ, ◌&&◌, ◌++◌, ◌+◌, ◌==◌, ◌||◌, ◌∷◌}
use Rattle.std.specs.List.{list_any}
use Rattle.vt_spec.specs.declared.errors.Deny.{Deny}
use Rattle.vt_spec.specs.declared.errors.Rule.TheVariants.{S1, S2, S5}
use Rattle.vt_spec.specs.Language.Calls.{Call, Directive, OverlayWords, TaskName, same_name}
use Rattle.vt_spec.specs.Errors.{Rules, denial, unless}
use Rattle.vt_spec.specs.Lists.{Fresh, counted_from, first_of_list, folded, is_empty_list, rest_of}
use Rattle.vt_spec.specs.Machine.Rules.Mounting.{source_walk, work_walked}
use Rattle.vt_spec.specs.Language.Answers.{Answer}
use Rattle.vt_spec.specs.Machine.Outcomes.{Outcome, denied}
use Rattle.vt_spec.specs.Machine.Policy.{policy}
use Rattle.vt_spec.specs.Language.Printed.{reply_line}
use Rattle.vt_spec.specs.Machine.Judging.{Judging, judging, walk_to, walk_to_name}
use Rattle.vt_spec.specs.Machine.Judging.Judging.{Layers, Names, Needs, Walks, Words}
use Rattle.vt_spec.specs.Machine.Looks.{Looks, looks_of}
use Rattle.vt_spec.specs.Machine.Run.{everything, first_world, handed, later}
use Rattle.vt_spec.specs.Language.Script.{Grammar, Request, Version, Who, each_of, is_silent, lines_of, raw_tokens, request_of, token_text, who_of, whole}
use Rattle.vt_spec.specs.Language.Limits.{largest_change, longest_line, most_restarts}
use Rattle.vt_spec.specs.Language.Script.Request.{Asking, Calling}
use Rattle.vt_spec.specs.Language.Script.Who.{Nobody, Someone}
use Rattle.vt_spec.specs.Machine.Sealed.{directed}
use Rattle.vt_spec.specs.Machine.Walking.{Here, Place, Stop}
use Rattle.vt_spec.specs.Machine.Walking.LastWord.{NoWord}
use Rattle.vt_spec.specs.Machine.World.{Task, World, task_called}

-- what stands in a queue: a call, a directive, or a line that is refused
pub data Item : Type 0 where
  Calls : (call : Call) → Item
  Asks : (directive : Directive) → Item
  Refused : (deny : Deny) → Item

-- an item of a queue, with the number of its line in the script
pub record Queued : Type 0 where
  pub line : ℕ
  pub item : Item

-- the items of a task, or of `!`, that wait, in their order
pub record Queue : Type 0 where
  pub who : Who
  pub items : List Queued

-- what a line is answered
pub record Reply : Type 0 where
  pub line : ℕ
  pub answer : Result Answer Deny

-- The first call of a task's queue under way: how many words were walked, how often it restarted, and the change
-- numbers that it holds: of its task, of its namespace, and of each filesystem on its way, as first met.
pub record Progress (N : Type 0) : Type 0 where
  pub task : TaskName
  pub walked : ℕ
  pub restarts : ℕ
  pub task_change : ℕ
  pub namespace_change : ℕ
  pub filesystems : List (N × ℕ)

-- the state between two turns: the world, the queues, and the calls under way
pub record Sched (N : Type 0) : Type 0 where
  pub world : World N
  pub queues : List Queue
  pub under_way : List (Progress N)

-- what a turn leaves, and the reply, if it was a call's last
pub record Turned (N : Type 0) : Type 0 where
  pub sched : Sched N
  pub reply : Option Reply

-- the same task, or `!` both
abbrev pub same_who : Who → Who → Bool
same_who (Someone a) (Someone b) = same_name a b
same_who (Someone a) Nobody = false
same_who Nobody (Someone b) = false
same_who Nobody Nobody = true

-- a change number that can rise no more does not show whether there was a change
abbrev pub last_number : ℕ
last_number = largest_change

-- The walk of one path as turns take it: the filesystems that each word meets, and whether the last of them fails
pub record Route (N : Type 0) : Type 0 where
  pub steps : List (List N)
  pub fails : Bool

-- a change number that is held has another value now, or can rise no more
abbrev pub is_stale : ℕ → ℕ → Bool
is_stale held now = not (held == now) || now == last_number

-- the queue of a task, or of `!`
abbrev pub queue_of : List Queue → Who → List Queued
queue_of queues who = unwrap_or (option_map (λ queue. queue.items) (find (λ queue. same_who who queue.who) queues)) []

-- a queue without its first item, if it is that of this task or of `!`
abbrev pub shortened : Who → Queue → Queue
shortened who queue = if same_who who queue.who then record queue { items = rest_of queue.items } else queue

module _ {N : Type 0} where
  -- the route of a walk; one that is refused before its first word has no word that fails
  abbrev pub route_of : {A : Type 0} → (A → List (List N)) → Result A (Stop N) → Route N
  route_of steps_of (Ok a) = record { steps = reverse (steps_of a); fails = false }
  route_of steps_of (Err stop) = record { steps = reverse stop.steps; fails = not (is_empty_list stop.steps) }

  -- the route of a walk to an object
  abbrev pub here_route : Result (Here N) (Stop N) → Route N
  here_route walk = route_of (λ here. here.steps) walk

  -- the route of a parent walk
  abbrev pub place_route : Result (Place N) (Stop N) → Route N
  place_route walk = route_of (λ place. place.steps) walk

  -- the rules that are asked at once, before any path
  abbrev pub rules_at_once : Judging N → Rules
  rules_at_once (Needs rules next) = rules
  rules_at_once asked = []

  -- the words of a call's paths in their order, as far as they go
  abbrev pub words_of : List (Route N) → List (List N)
  words_of [] = []
  words_of (route ∷ rest) = if route.fails then route.steps else route.steps ++ words_of rest

  -- one of the walks fails
  abbrev pub some_fails : List (Route N) → Bool
  some_fails routes = list_any (λ route. route.fails) routes

  -- the calls under way but a task's
  abbrev pub without_progress : TaskName → List (Progress N) → List (Progress N)
  without_progress name under_way = filter (λ progress. not (same_name name progress.task)) under_way

  -- the first of a queue is answered, and the world is its outcome's
  abbrev pub replied : Sched N → Who → ℕ → List (Progress N) → Outcome N → Turned N
  replied sched who line under_way outcome = record {
    sched = record { world = outcome.world; queues = map (shortened who) sched.queues; under_way = under_way };
    reply = Some (record { line = line; answer = outcome.answer });
  }

  -- the first call of a task's queue is answered, and is no longer under way
  abbrev pub call_replied : Sched N → TaskName → ℕ → Outcome N → Turned N
  call_replied sched name line outcome =
      replied sched (Someone name) line (without_progress name sched.under_way) outcome

  -- the call goes on in a later turn
  abbrev pub went_on : Sched N → Progress N → Turned N
  went_on sched progress = record {
    sched = record sched { under_way = progress ∷ without_progress progress.task sched.under_way };
    reply = None;
  }

  -- the next word is the last, and its step fails
  abbrev pub is_failing : List (Route N) → ℕ → Bool
  is_failing ways walked = some_fails ways && length (words_of ways) == walked + 1

-- The paths of a call, in the order in which it walks them
module _ {N : Type 0} (eq : N → N → Bool) (looks : Looks N) (task : Task N) where
  -- where a path leads; behind one that is refused before its first word the others are walked as behind `/`
  abbrev pub here_or_root : Result (Here N) (Stop N) → Here N
  here_or_root (Ok here) = here
  here_or_root (Err stop) = record { location = task.root; left = 0; steps = [] }

  -- the same of a path whose last word is a name
  abbrev pub place_or_root : Result (Place N) (Stop N) → Place N
  place_or_root (Ok place) = place
  place_or_root (Err stop) =
      record { parent = task.root; last = NoWord; object = Some task.root; slash = false; steps = [] }

  -- the routes of an overlay's layers, in the order in which they are walked
  abbrev pub layer_routes : OverlayWords → List (Route N)
  layer_routes words =
      map (λ path. here_route (source_walk eq looks task path))
      (words.lowers ++ option_to_list words.upper ++ option_to_list (work_walked words))

  -- the routes of the paths that are asked
  abbrev pub routes_of : Judging N → List (Route N)
  routes_of (Needs rules next) = routes_of next
  routes_of (Words rules next) = routes_of next
  routes_of (Walks aim path next) =
      here_route (walk_to eq looks task aim path) ∷ routes_of (next (here_or_root (walk_to eq looks task aim path)))
  routes_of (Names aim path next) =
      place_route (walk_to_name eq looks task aim path)
      ∷ routes_of (next (place_or_root (walk_to_name eq looks task aim path)))
  routes_of (Layers words next) = layer_routes words
  routes_of asked = []

  -- the routes of the paths of a call
  abbrev pub routes : Call → List (Route N)
  routes call = routes_of (judging eq looks task call)

  -- the S and K rules of a call
  abbrev pub entry_rules : Call → Rules
  entry_rules call = rules_at_once (judging eq looks task call)

module _ {N : Type 0} (eq : N → N → Bool) where
  -- Change numbers that are held

  -- the change number of a namespace; where there is none, the one that can rise no more
  abbrev pub namespace_change_of : World N → N → ℕ
  namespace_change_of world number =
      unwrap_or (option_map (λ namespace. namespace.change)
      (find (λ namespace. eq number namespace.number) world.namespaces)) last_number

  -- the change number of a filesystem; where there is none, the one that can rise no more
  abbrev pub filesystem_change_of : World N → N → ℕ
  filesystem_change_of world number =
      unwrap_or (option_map (λ filesystem. filesystem.change)
      (find (λ filesystem. eq number filesystem.number) world.filesystems)) last_number

  -- one of the numbers held is another now, or can rise no more
  abbrev pub is_overtaken : World N → Task N → Progress N → Bool
  is_overtaken world task progress =
      is_stale progress.task_change task.change
      || is_stale progress.namespace_change (namespace_change_of world task.namespace)
      || list_any (λ held. is_stale held.1 (filesystem_change_of world held.0)) progress.filesystems

  -- what is held, with the number of a filesystem that is met for the first time
  abbrev pub hold_one : World N → List (N × ℕ) → N → List (N × ℕ)
  hold_one world held number =
      if list_any (λ other. eq number other.0) held then held else held
      ++ ((number, filesystem_change_of world number) ∷ [])

  -- a call before its first word
  abbrev pub first_progress : World N → Task N → ℕ → Progress N
  first_progress world task restarts = record {
    task = task.name;
    walked = 0;
    restarts = restarts;
    task_change = task.change;
    namespace_change = namespace_change_of world task.namespace;
    filesystems = [];
  }

  -- one word more was walked, and what it met is held
  abbrev pub one_further : World N → List N → Progress N → Progress N
  one_further world met progress = record progress {
    walked = progress.walked + 1;
    filesystems = folded (hold_one world) progress.filesystems met;
  }

  -- Queues

  -- the call is run whole: its last turn
  abbrev pub run_whole : Sched N → TaskName → ℕ → Call → Fresh N → Turned N
  run_whole sched name line call fresh = call_replied sched name line (policy eq fresh sched.world name call)

  -- one word is walked; where that step fails the turn is the last
  abbrev pub word_walked_by : Bool → Sched N → ℕ → Call → Fresh N → Progress N → List N → Turned N
  word_walked_by true sched line call fresh progress met = run_whole sched progress.task line call fresh
  word_walked_by false sched line call fresh progress met = went_on sched (one_further sched.world met progress)

  -- one word is walked; where none is left the turn is the last
  abbrev pub next_word : Sched N → ℕ → Call → Fresh N → Progress N → List (Route N) → Option (List N) → Turned N
  next_word sched line call fresh progress ways None = run_whole sched progress.task line call fresh
  next_word sched line call fresh progress ways (Some met) =
      word_walked_by (is_failing ways progress.walked) sched line call fresh progress met

  -- the next word of a call, in the world as it is now
  abbrev pub further : Sched N → Task N → ℕ → Call → Fresh N → Progress N → Turned N
  further sched task line call fresh progress =
      next_word sched line call fresh progress (routes eq (looks_of eq sched.world) task call)
      (slice_get (words_of (routes eq (looks_of eq sched.world) task call)) progress.walked)

  -- the first word is walked, unless an S or K rule refuses the call: then the turn is the last
  abbrev pub first_turn_by : Result Call Deny → Sched N → Task N → ℕ → Call → Fresh N → ℕ → Turned N
  first_turn_by (Err deny) sched task line call fresh restarts = run_whole sched task.name line call fresh
  first_turn_by (Ok same) sched task line call fresh restarts =
      further sched task line call fresh (first_progress sched.world task restarts)

  -- a first turn, or a restart, checks the S and K rules and walks the first word
  abbrev pub first_turn : Sched N → Task N → ℕ → Call → Fresh N → ℕ → Turned N
  first_turn sched task line call fresh restarts =
      first_turn_by (unless (entry_rules eq (looks_of eq sched.world) task call) (Ok call)) sched task line call fresh restarts

  -- a restart; where there were as many as may be, the call is run whole
  abbrev pub restarted : Bool → Sched N → Task N → ℕ → Call → Fresh N → Progress N → Turned N
  restarted true sched task line call fresh progress = run_whole sched task.name line call fresh
  restarted false sched task line call fresh progress = first_turn sched task line call fresh (progress.restarts + 1)

  -- a turn after the first: a restart where a number that is held was overtaken, else the next word
  abbrev pub later_turn : Bool → Sched N → Task N → ℕ → Call → Fresh N → Progress N → Turned N
  later_turn true sched task line call fresh progress =
      restarted (nat_le most_restarts progress.restarts) sched task line call fresh progress
  later_turn false sched task line call fresh progress = further sched task line call fresh progress

  -- the turn of a call, by what was walked of it
  abbrev pub turn_under_way : Sched N → Task N → ℕ → Call → Fresh N → Option (Progress N) → Turned N
  turn_under_way sched task line call fresh None = first_turn sched task line call fresh 0
  turn_under_way sched task line call fresh (Some progress) =
      later_turn (is_overtaken sched.world task progress) sched task line call fresh progress

  -- the turn of a call, by its task; a call of a task that does not exist is run whole
  abbrev pub call_turn_of : Sched N → TaskName → ℕ → Call → Fresh N → Option (Task N) → Turned N
  call_turn_of sched name line call fresh None = run_whole sched name line call fresh
  call_turn_of sched name line call fresh (Some task) =
      turn_under_way sched task line call fresh (find (λ progress. same_name name progress.task) sched.under_way)

  -- the turn of a call; if an allocation fails, the line answers S5 and has no effect
  abbrev pub call_turn : Sched N → TaskName → ℕ → Call → Option (Fresh N) → Turned N
  call_turn sched name line call None = call_replied sched name line (denied sched.world (denial S5))
  call_turn sched name line call (Some fresh) = call_turn_of sched name line call fresh (task_called sched.world name)

  -- a directive takes one turn
  abbrev pub directive_turn : Sched N → Who → ℕ → Directive → Option (Fresh N) → Turned N
  directive_turn sched who line directive None = replied sched who line sched.under_way (denied sched.world (denial S5))
  directive_turn sched who line directive (Some fresh) =
      replied sched who line sched.under_way (directed eq sched.world directive)

  -- the turn of a queue's first item; a call in the queue of nobody is S2
  abbrev pub item_turn : Sched N → Who → ℕ → Item → Option (Fresh N) → Turned N
  item_turn sched (Someone name) line (Calls call) fresh = call_turn sched name line call fresh
  item_turn sched Nobody line (Calls call) fresh =
      replied sched Nobody line sched.under_way (denied sched.world (denial S2))
  item_turn sched who line (Asks directive) fresh = directive_turn sched who line directive fresh
  item_turn sched who line (Refused deny) fresh = replied sched who line sched.under_way (denied sched.world deny)

  -- a turn for an empty queue does nothing
  abbrev pub queue_turn : Sched N → Who → List Queued → Option (Fresh N) → Turned N
  queue_turn sched who [] fresh = record { sched = sched; reply = None }
  queue_turn sched who (first ∷ rest) fresh = item_turn sched who first.line first.item fresh

  -- one turn of a task, or of `!`
  unfoldable pub turn : Sched N → Who → Option (Fresh N) → Turned N
  turn sched who fresh = queue_turn sched who (queue_of sched.queues who) fresh

-- an item with the number of its line, and whose queue it is for
abbrev pub queued : ℕ → Who → Item → Who × Queued
queued number who item = (who, record { line = number; item = item })

-- the task, or `!`, that a first token names
abbrev pub first_who : Option (List (List ℕ)) → Option Who
first_who None = None
first_who (Some []) = None
first_who (Some (token ∷ tokens)) = who_of token

-- the first token of a line
abbrev pub first_token : List ℕ → List (List ℕ)
first_token line = option_to_list (first_of_list (raw_tokens line))

-- a line that is not of the grammar is S1, in the queue of its first token, if that names one
abbrev pub refused_line : ℕ → List ℕ → Option (Who × Queued)
refused_line number line =
    option_map (λ who. queued number who (Refused (denial S1))) (first_who (each_of token_text (first_token line)))

-- a line of the grammar, in the queue of its task or of `!`
abbrev pub queued_request : ℕ → List ℕ → Option Request → Option (Who × Queued)
queued_request number line None = refused_line number line
queued_request number line (Some (Calling task call)) = Some (queued number (Someone task) (Calls call))
queued_request number line (Some (Asking directive)) = Some (queued number Nobody (Asks directive))

-- A line in its queue. One that is not of the grammar stands in the queue of its first token, if that names one and the
-- line is not too long; a silent line in none.
abbrev pub queued_line : Grammar → ℕ × List ℕ → Option (Who × Queued)
queued_line grammar line =
    if nat_lt longest_line (length line.1) || is_silent line.1 then None
    else queued_request line.0 line.1 (request_of grammar line.1)

-- the queues with an item put last in its own
abbrev pub with_item_last : List Queue → Who × Queued → List Queue
with_item_last [] entry = record { who = entry.0; items = entry.1 ∷ [] } ∷ []
with_item_last (queue ∷ queues) entry =
    if same_who entry.0 queue.who then record queue { items = queue.items ++ (entry.1 ∷ []) } ∷ queues
    else queue ∷ with_item_last queues entry

-- the queues of a script
abbrev pub queues_of : Grammar → List ℕ → List Queue
queues_of grammar script =
    folded with_item_last [] (filter_map (queued_line grammar) (counted_from 1 (lines_of script)))

-- A schedule names a task or `!` a line, without spaces or escapes; any other line does nothing
abbrev pub schedule_who : List ℕ → Option Who
schedule_who line = if nat_lt longest_line (length line) then None else who_of line

-- the text of a reply, if there is one
abbrev pub reply_text : Option Reply → List ℕ
reply_text None = []
reply_text (Some reply) = reply_line reply.line reply.answer

-- the turn that a line of the schedule gives
abbrev pub turn_of_line : Sched ℕ → Option Who → Option (Fresh ℕ) → Turned ℕ
turn_of_line sched None fresh = record { sched = sched; reply = None }
turn_of_line sched (Some who) fresh = turn nat_eq sched who fresh

-- the text of the replies in a schedule's turns; an allocation fails in those whose place in the list is `true`
abbrev pub played : ℕ → Sched ℕ → List (List ℕ) → List Bool → List ℕ
played number sched [] refused = []
played number sched (line ∷ lines) refused =
    reply_text (turn_of_line sched (schedule_who line) (handed number refused)).reply
    ++ played (number + 1) (turn_of_line sched (schedule_who line) (handed number refused)).sched lines (later refused)

-- the opening world and a script's queues
abbrev pub first_sched : Grammar → List ℕ → Sched ℕ
first_sched grammar script = record { world = first_world; queues = queues_of grammar script; under_way = [] }

-- the replies that a script's queues give in the order of a schedule
unfoldable pub turns_text : Version → List Bool → List ℕ → List ℕ → List ℕ
turns_text version refused script schedule =
    played 1 (first_sched (whole version) script) (lines_of schedule) refused

-- what a proof by computation opens
unfoldable pub everything_in_turns : Unit {0}
unfolding everything turn turns_text
everything_in_turns = tt
