-- In the queues of a script no fork names many groups.
use Rattle.std.proofs.Common.{arith, ◌≡◌, refl, sym, subst, ⊎_elim, ℕ, nat_eq, Bool, true, List, [], ◌∷◌, ◌++◌, Option, Some, None, map, filter_map}
use Rattle.vt_spec.proofs.Common.{Asking, Asks, Call, Calling, Calls, Grammar, Item, Queue, Queued, Refused, Request, Sched, Turned, Who, common_steps, cons_option, counted_from, first_of_list, folded, list_all, lines_of, queue_of, rest_of, shortened, turn}
use Rattle.vt_laws_turns.proofs.Common.{names_few_groups, queued_line, queued_request, queues_of, refused_line, with_item_last}
use Rattle.vt_laws_turns.proofs.played.Turning.{Turns, turn_is}
use Rattle.vt_laws_turns.specs.Commits.{Turn}
use Rattle.vt_laws_worlds.proofs.worlds.WordsFew.{lines_name_few, request_names_few}

abbrev item_few : Item → Bool
item_few (Calls call) = names_few_groups call
item_few (Asks directive) = true
item_few (Refused deny) = true

abbrev items_few : List Queued → Bool
items_few items = list_all (λ (queued : Queued). item_few queued.item) items

abbrev queues_few : List Queue → Bool
queues_few queues = list_all (λ (queue : Queue). items_few queue.items) queues

pub record HaveFew (queues : List Queue) : Type 0 where
  pub few : queues_few queues ≡ true

-- a queue that was shortened
rest_few : (items : List Queued) → items_few items ≡ true → items_few (rest_of items) ≡ true
rest_few items few = grind (arith, common_steps)

shortened_few : (who : Who) (queues : List Queue) → queues_few queues ≡ true
    → queues_few (map (shortened who) queues) ≡ true
shortened_few who [] few = refl
shortened_few who (queue ∷ queues) few = grind (arith, common_steps, rest_few, shortened_few who queues)

-- the first of a queue
first_item_few : (items : List Queued) → items_few items ≡ true → (line : ℕ) (call : Call)
    → first_of_list items ≡ Some (record { line = line; item = Calls call }) → names_few_groups call ≡ true
first_item_few items few line call first = grind (arith, common_steps)

queue_few : (queues : List Queue) (who : Who) → queues_few queues ≡ true → items_few (queue_of queues who) ≡ true
queue_few [] who few = refl
queue_few (queue ∷ queues) who few = grind (arith, common_steps, queue_few queues who)

pub first_few : (queues : List Queue) (who : Who) → HaveFew queues → (line : ℕ) (call : Call)
    → first_of_list (queue_of queues who) ≡ Some (record { line = line; item = Calls call })
    → names_few_groups call ≡ true
first_few queues who have line call first =
    first_item_few (queue_of queues who) (queue_few queues who have.few) line call first

-- the queues after a turn
pub few_later : (sched : Sched ℕ) (given : Turn) → HaveFew sched.queues
    → HaveFew (turn nat_eq sched given.0 given.1).sched.queues
few_later sched given have = by (queue_of sched.queues given.0) (turn nat_eq sched given.0 given.1)
    (turn_is sched given.0 given.1)
  where
    by : (items : List Queued) (turned : Turned ℕ) → Turns sched given.0 given.1 items turned
        → HaveFew turned.sched.queues
    by [] turned goes = subst HaveFew (sym goes.queues) have
    by (first ∷ rest) turned is = ⊎_elim (λ goes. subst HaveFew (sym goes.queues) have) (λ done.
        subst HaveFew (sym done.queues) (record { few = shortened_few given.0 sched.queues have.few })) is

-- the queues of a script
items_last : (items : List Queued) (one : Queued) → items_few items ≡ true → item_few one.item ≡ true
    → items_few (items ++ (one ∷ [])) ≡ true
items_last [] one few is = grind (arith, common_steps)
items_last (first ∷ rest) one few is = grind (arith, common_steps, items_last rest one)

last_few : (queues : List Queue) (entry : Who × Queued) → queues_few queues ≡ true → item_few entry.1.item ≡ true
    → queues_few (with_item_last queues entry) ≡ true
last_few [] entry few is = grind (arith, common_steps)
last_few (queue ∷ queues) entry few is = grind (arith, common_steps, items_last, last_few queues entry)

-- what a line puts into a queue, if it does
abbrev entry_few : Option (Who × Queued) → Bool
entry_few None = true
entry_few (Some entry) = item_few entry.1.item

refused_few : (number : ℕ) (line : List ℕ) → entry_few (refused_line number line) ≡ true
refused_few number line = grind (arith, common_steps)

request_few : (number : ℕ) (line : List ℕ) (request : Option Request) → request_names_few request ≡ true
    → entry_few (queued_request number line request) ≡ true
request_few number line None few = refused_few number line
request_few number line (Some (Calling task call)) few = few
request_few number line (Some (Asking directive)) few = refl

line_few : (grammar : Grammar) (line : ℕ × List ℕ) → entry_few (queued_line grammar line) ≡ true
line_few grammar line = grind (arith, common_steps, request_few, lines_name_few)

lines_few : (grammar : Grammar) (lines : List (ℕ × List ℕ)) (queues : List Queue) → queues_few queues ≡ true
    → queues_few (folded with_item_last queues (filter_map (queued_line grammar) lines)) ≡ true
lines_few grammar [] queues few = few
lines_few grammar (line ∷ lines) queues few =
    by (queued_line grammar line) (line_few grammar line) (lines_few grammar lines)
  where
    by : (o : Option (Who × Queued)) → entry_few o ≡ true → ((list : List Queue) → queues_few list ≡ true
        → queues_few (folded with_item_last list (filter_map (queued_line grammar) lines)) ≡ true)
        → queues_few (folded with_item_last queues (cons_option o (filter_map (queued_line grammar) lines))) ≡ true
    by None is others = others queues few
    by (Some entry) is others = others (with_item_last queues entry) (last_few queues entry few is)

pub scripts_few : (grammar : Grammar) (script : List ℕ) → HaveFew (queues_of grammar script)
scripts_few grammar script =
    record { few = lines_few grammar (counted_from 1 (lines_of script)) [] refl }
