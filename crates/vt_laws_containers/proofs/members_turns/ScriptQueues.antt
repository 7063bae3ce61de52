-- The queues of a script: no directive stands in that of a task, and no fork names many groups.
use Rattle.std.proofs.Common.{arith, ◌≡◌, refl, sym, ap, subst, ◌∙◌, inl, inr, ⊎_elim, ℕ, nat_eq, Bool, true, false, cond, List, [], ◌∷◌, ◌++◌, Contains, Option, Some, None, find, filter_map, option_map, unwrap_or}
use Rattle.vt_spec.proofs.Common.{Among, Asking, Asks, Calling, Calls, Grammar, Item, Queue, Queued, Refused, Reply, Request, Sched, Someone, TaskName, Who, among-append, among_from_contains, common_steps, cons_option, contains_from_among, counted_from, first_of_list, folded, lines_of, none_is_some, queue_of, same_who, turn}
use Rattle.vt_laws_containers.proofs.Common.{Turn, same_whos}
use Rattle.vt_laws_containers.proofs.members_turns.OtherQueues.{queue_after, shortened_by}
use Rattle.vt_laws_containers.specs.MembersTurns.Schedules.{AreOfAScript, may_stand}
use Rattle.vt_laws_containers.specs.MembersTurns.TheirTurns.{is_directive}
use Rattle.vt_laws_turns.proofs.played.Fronts.{itself}
use Rattle.vt_laws_worlds.proofs.worlds.WordsFew.{lines_name_few, request_names_few}
use Rattle.vt_spec.specs.Machine.Turns.{queued_line, queued_request, queues_of, refused_line, with_item_last}

-- the items of a queue that is found
abbrev items : Option Queue → List Queued
items found = unwrap_or (option_map (λ (queue : Queue). queue.items) found) []

-- a queue, once an item is put last in one
queue_of-with_item_last : (queues : List Queue) (entry : Who × Queued) (who : Who)
    → queue_of (with_item_last queues entry) who
    ≡ cond (same_who who entry.0) (queue_of queues who ++ (entry.1 ∷ [])) (queue_of queues who)
queue_of-with_item_last [] entry who = grind (arith, common_steps)
queue_of-with_item_last (queue ∷ queues) entry who =
    by (same_who entry.0 queue.who) refl (same_who who queue.who) refl (queue_of-with_item_last queues entry who)
  where
    by : (here : Bool) → same_who entry.0 queue.who ≡ here → (own : Bool) → same_who who queue.who ≡ own
        → queue_of (with_item_last queues entry) who
        ≡ cond (same_who who entry.0) (queue_of queues who ++ (entry.1 ∷ [])) (queue_of queues who)
        → items (find (λ (q : Queue). same_who who q.who)
        (cond here (record queue { items = queue.items ++ (entry.1 ∷ []) } ∷ queues)
        (queue ∷ with_item_last queues entry)))
        ≡ cond (same_who who entry.0)
        (items (cond own (Some queue) (find (λ (q : Queue). same_who who q.who) queues)) ++ (entry.1 ∷ []))
        (items (cond own (Some queue) (find (λ (q : Queue). same_who who q.who) queues)))
    by true e true f later =
        let one : who ≡ entry.0 = same_whos who queue.who f ∙ sym (same_whos entry.0 queue.who e) in
        cc (one, itself entry.0, f)
    by true e false f later =
        let other : same_who who entry.0 ≡ false = ap (same_who who) (same_whos entry.0 queue.who e) ∙ f in
        cc (other, f)
    by false e true f later =
        let other : same_who who entry.0 ≡ false = differ (same_who who entry.0) refl in
        cc (other, f)
      where
        differ : (b : Bool) → same_who who entry.0 ≡ b → b ≡ false
        differ false g = refl
        differ true g = cc (same_whos who entry.0 g, same_whos who queue.who f, e)
    by false e false f later = cc (later, f)

-- an item with the queue that it is put in
abbrev MayStand : Option (Who × Queued) → Type 0
MayStand None = Unit {0}
MayStand (Some entry) = may_stand entry.0 entry.1.item ≡ true

last_stands : (queues : List Queue) (entry : Who × Queued) → AreOfAScript queues → may_stand entry.0 entry.1.item ≡ true
    → AreOfAScript (with_item_last queues entry)
last_stands queues entry of stands who queued c = by (same_who who entry.0) refl
    (subst (λ list. Contains list queued) (queue_of-with_item_last queues entry who) c)
  where
    added : same_who who entry.0 ≡ true → Among queued (entry.1 ∷ []) → may_stand who queued.item ≡ true
    added e m = ⊎_elim (λ is. cc (same_whos who entry.0 e, is, stands)) (λ none. absurd none) m

    by : (b : Bool) → same_who who entry.0 ≡ b
        → Contains (cond b (queue_of queues who ++ (entry.1 ∷ [])) (queue_of queues who)) queued
        → may_stand who queued.item ≡ true
    by true e found = ⊎_elim (λ m. of who queued (contains_from_among (queue_of queues who) queued m)) (added e)
        (among-append (queue_of queues who) (entry.1 ∷ []) queued
        (among_from_contains (queue_of queues who ++ (entry.1 ∷ [])) queued found))
    by false e found = of who queued found

refused_stands : (number : ℕ) (line : List ℕ) → MayStand (refused_line number line)
refused_stands number line = grind (arith, common_steps)

request_stands : (number : ℕ) (line : List ℕ) (request : Option Request) → request_names_few request ≡ true
    → MayStand (queued_request number line request)
request_stands number line None few = refused_stands number line
request_stands number line (Some (Calling task call)) few = few
request_stands number line (Some (Asking directive)) few = refl

line_stands : (grammar : Grammar) (line : ℕ × List ℕ) → MayStand (queued_line grammar line)
line_stands grammar line = grind (arith, common_steps, request_stands, lines_name_few)

lines_stand : (grammar : Grammar) (lines : List (ℕ × List ℕ)) (queues : List Queue) → AreOfAScript queues
    → AreOfAScript (folded with_item_last queues (filter_map (queued_line grammar) lines))
lines_stand grammar [] queues of = of
lines_stand grammar (line ∷ lines) queues of =
    by (queued_line grammar line) (line_stands grammar line) (lines_stand grammar lines)
  where
    by : (entry : Option (Who × Queued)) → MayStand entry → ((list : List Queue) → AreOfAScript list
        → AreOfAScript (folded with_item_last list (filter_map (queued_line grammar) lines)))
        → AreOfAScript (folded with_item_last queues (cons_option entry (filter_map (queued_line grammar) lines)))
    by None stands rest = rest queues of
    by (Some entry) stands rest = rest (with_item_last queues entry) (last_stands queues entry of stands)

none_stands : AreOfAScript []
none_stands who queued c = absurd (among_from_contains [] queued c)

-- the queues of a script
pub queues_of_scripts : (grammar : Grammar) (script : List ℕ) → AreOfAScript (queues_of grammar script)
queues_of_scripts grammar script = lines_stand grammar (counted_from 1 (lines_of script)) [] none_stands

-- after a turn
in_shortened : (reply : Option Reply) (own : Bool) (list : List Queued) (queued : Queued)
    → Contains (shortened_by reply own list) queued → Contains list queued
in_shortened None own list queued c = c
in_shortened (Some reply) false list queued c = c
in_shortened (Some reply) true [] queued c = c
in_shortened (Some reply) true (first ∷ rest) queued c =
    contains_from_among (first ∷ rest) queued (inr (among_from_contains rest queued c))

pub queues_of_scripts_stay : (sched : Sched ℕ) (given : Turn) → AreOfAScript sched.queues
    → AreOfAScript (turn nat_eq sched given.0 given.1).sched.queues
queues_of_scripts_stay sched given of who queued c = of who queued
    (in_shortened (turn nat_eq sched given.0 given.1).reply (same_who who given.0) (queue_of sched.queues who) queued
    (subst (λ list. Contains list queued) (queue_after sched given.0 given.1 who) c))

-- the first of a queue
pub first_stands : (queues : List Queue) → AreOfAScript queues → (who : Who) (first : Queued)
    → first_of_list (queue_of queues who) ≡ Some first → may_stand who first.item ≡ true
first_stands queues of who first e = of who first (by (queue_of queues who) e)
  where
    by : (list : List Queued) → first_of_list list ≡ Some first → Contains list first
    by [] f = none_is_some _ f
    by (head ∷ rest) f = contains_from_among (head ∷ rest) first (inl cc)

pub no_directive_stands : (name : TaskName) (item : Item) → may_stand (Someone name) item ≡ true
    → is_directive item ≡ false
no_directive_stands name (Calls call) stands = refl
no_directive_stands name (Asks directive) stands = cc
no_directive_stands name (Refused deny) stands = refl
