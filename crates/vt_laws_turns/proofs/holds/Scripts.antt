-- In the schedules of a script the numbers handed in are unused, and forks name few groups.
use Rattle.std.proofs.Common.{◌≡◌, refl, sym, ap, subst, ◌∙◌, inl, inr, ⊎_elim, ℕ, suc, nat_eq, Bool, true, false, true≢false, cond, List, [], ◌∷◌, ◌++◌, ◌+◌, Option, Some, None, find, map, eqb-true, add-one, arith, ◌<◌, nat_le, option_map, unwrap_or, filter_map}
use Rattle.vt_spec.proofs.Common.{Among, Asking, Asks, Call, Calling, Calls, Fresh, Grammar, IsWorld, Item, Queue, Queued, Refused, Request, Sched, Serves, Turned, Who, World, among-append, among-from_map, common_steps, cons_option, counted_from, false_from_ne_true, first_of_list, first_world, folded, found_among, handed, is_among, later, lines_of, none_is_some, numbers_for, numbers_in_use, queue_of, rest_of, same_who, shortened, turn, whole}
use Rattle.vt_laws_turns.proofs.Common.{first_sched, names_few_groups, queued_line, queued_request, queues_of, refused_line, schedule_who, with_item_last}
use Rattle.vt_laws_rules.specs.Numbers.{KeepsTo, LeavesOutTwo}
use Rattle.vt_laws_rules.proofs.numbers.Rows.{col, col-spread, row, row-spread, row_first, spread, spread_for}
use Rattle.vt_laws_rules.proofs.numbers.Supports.{calls_keep_to_numbers, opening_keeps_to_four, used_numbers_are_named}
use Rattle.vt_laws_worlds.proofs.opening.OpeningWorld.{opening_is_a_world}
use Rattle.vt_laws_worlds.proofs.worlds.WordsFew.{lines_name_few, request_names_few}
use Rattle.vt_laws_turns.specs.Commits.{Turn, left_by, turn_given, turns_given}
use Rattle.vt_laws_turns.proofs.played.Leaving.{Leaves, turn_leaves}
use Rattle.vt_laws_turns.proofs.played.Leaving.Leaves.{After, Same}
use Rattle.vt_laws_turns.proofs.played.Turning.{Turns, turn_is}
use Rattle.vt_laws_turns.specs.Holds.Held.{HoldsWhatIsSeen, IsFitTurn, SchedulesOfScriptsHoldWhatIsSeen}
use Rattle.vt_laws_turns.proofs.holds.Holding.{one_turn, schedulers_begin_so}

-- Numbers: those of the rows so far
abbrev is_early : ℕ → ℕ → Bool
is_early n number = nat_le (row number) n

pub row_of : (n k : ℕ) → row (numbers_for (suc n) k) ≡ suc n
row_of n k = ap row (spread_for n k) ∙ row-spread (suc n) k

not_early : (n number : ℕ) → row number ≡ suc n → is_early n number ≡ false
not_early n number e = grind (arith, common_steps)

is_early_too : (n number : ℕ) → row number ≡ suc n → is_early (suc n) number ≡ true
is_early_too n number e = grind (arith, common_steps)

still_early : (n number : ℕ) → is_early n number ≡ true → is_early (suc n) number ≡ true
still_early n number = grind (arith, common_steps, row)

serves_next : (n : ℕ) (world : World ℕ) → KeepsTo (is_early n) world → Serves nat_eq world (numbers_for (suc n))
serves_next n world keeps = record {
  unused = λ k. false_from_ne_true (is_among nat_eq (numbers_for (suc n) k) (numbers_in_use world)) (λ used.
      true≢false (sym (used_numbers_are_named (is_early n) world keeps two (numbers_for (suc n) k) used)
      ∙ not_early n (numbers_for (suc n) k) (row_of n k)));
  apart = λ j k e. one (numbers_for (suc n) j) (numbers_for (suc n) k) (spread_for n j) (spread_for n k) e;
}
  where
    one : {j k : ℕ} (a b : ℕ) → a ≡ spread (suc n) j → b ≡ spread (suc n) k → nat_eq a b ≡ true → j ≡ k
    one {j} {k} a b e f same =
        cc (col-spread (suc n) j, e, eqb-true a b same, f, col-spread (suc n) k)

    two : LeavesOutTwo (is_early n)
    two = (
      spread (suc n) 0,
      spread (suc n) 1,
      λ same. differ (col (spread (suc n) 0)) (col (spread (suc n) 1)) (col-spread (suc n) 0) (col-spread (suc n) 1)
          (ap col same),
      not_early n (spread (suc n) 0) (row-spread (suc n) 0),
      not_early n (spread (suc n) 1) (row-spread (suc n) 1),
    )
      where
        differ : (a b : ℕ) → a ≡ 0 → b ≡ 1 → a ≡ b → ⊥
        differ a b e f g = omega (arith, e, f, g)

keeps_more : (n : ℕ) (world : World ℕ) → KeepsTo (is_early n) world → KeepsTo (is_early (suc n)) world
keeps_more n world keeps renaming leaves = keeps renaming (λ number is. leaves number (still_early n number is))

-- Queues: no fork in them names many groups
abbrev item_few : Item → Bool
item_few (Calls call) = names_few_groups call
item_few (Asks directive) = true
item_few (Refused deny) = true

abbrev AreFew : List Queued → Type 0
AreFew items = (one : Queued) → Among one items → item_few one.item ≡ true

abbrev QueuesFew : List Queue → Type 0
QueuesFew queues = (queue : Queue) → Among queue queues → AreFew queue.items

rest_few : (items : List Queued) → AreFew items → AreFew (rest_of items)
rest_few [] few one m = absurd m
rest_few (first ∷ rest) few one m = few one (inr m)

shortened_few : (who : Who) (queues : List Queue) → QueuesFew queues → QueuesFew (map (shortened who) queues)
shortened_few who queues few queue m = grind (arith, common_steps, among-from_map, rest_few)

first_few : (queues : List Queue) (who : Who) → QueuesFew queues → (line : ℕ) (call : Call)
    → first_of_list (queue_of queues who) ≡ Some (record { line = line; item = Calls call })
    → names_few_groups call ≡ true
first_few queues who few line call e = by (find (λ (q : Queue). same_who who q.who) queues) refl e
  where
    of_items : (items : List Queued) → AreFew items
        → first_of_list items ≡ Some (record { line = line; item = Calls call }) → names_few_groups call ≡ true
    of_items [] all f = none_is_some _ f
    of_items (first ∷ rest) all f =
        let same : first ≡ record { line = line; item = Calls call } = cc in
        cc (same, all first (inl refl))

    by : (o : Option Queue) → find (λ (q : Queue). same_who who q.who) queues ≡ o
        → first_of_list (unwrap_or (option_map (λ (q : Queue). q.items) o) [])
        ≡ Some (record { line = line; item = Calls call }) → names_few_groups call ≡ true
    by None f g = none_is_some _ g
    by (Some queue) f g =
        of_items queue.items (few queue (found_among (λ (q : Queue). same_who who q.who) queues queue f)) g

-- the queues of a script
last_few : (queues : List Queue) (entry : Who × Queued) → QueuesFew queues → item_few entry.1.item ≡ true
    → QueuesFew (with_item_last queues entry)
last_few [] entry few is queue m = ⊎_elim (λ e. subst (λ (q : Queue). AreFew q.items) (sym e)
    (λ one n. ⊎_elim (λ f. cc) (λ none. absurd none) n))
    (λ none. absurd none) m
last_few (first ∷ rest) entry few is queue m =
    by (same_who entry.0 first.who) m (last_few rest entry (λ q n. few q (inr n)) is queue)
  where
    added : AreFew (first.items ++ (entry.1 ∷ []))
    added one n = ⊎_elim (few first (inl refl) one)
        (λ k. ⊎_elim (λ f. cc) (λ none. absurd none) k)
        (among-append first.items (entry.1 ∷ []) one n)

    by : (b : Bool) → Among queue (cond b (record first { items = first.items ++ (entry.1 ∷ []) } ∷ rest)
        (first ∷ with_item_last rest entry))
        → (Among queue (with_item_last rest entry) → AreFew queue.items) → AreFew queue.items
    by true n later = ⊎_elim (λ e. subst (λ (q : Queue). AreFew q.items) (sym e) added) (λ k. few queue (inr k)) n
    by false n later = ⊎_elim (λ e. subst (λ (q : Queue). AreFew q.items) (sym e) (few first (inl refl))) later n

abbrev EntryFew : Option (Who × Queued) → Type 0
EntryFew None = Unit {0}
EntryFew (Some entry) = item_few entry.1.item ≡ true

refused_few : (number : ℕ) (line : List ℕ) → EntryFew (refused_line number line)
refused_few number line = grind (arith, common_steps)

request_few : (number : ℕ) (line : List ℕ) (request : Option Request) → request_names_few request ≡ true
    → EntryFew (queued_request number line request)
request_few number line None few = refused_few number line
request_few number line (Some (Calling task call)) few = few
request_few number line (Some (Asking directive)) few = refl

line_few : (grammar : Grammar) (line : ℕ × List ℕ) → EntryFew (queued_line grammar line)
line_few grammar line = grind (arith, common_steps, request_few, lines_name_few)

lines_few : (grammar : Grammar) (lines : List (ℕ × List ℕ)) (queues : List Queue) → QueuesFew queues
    → QueuesFew (folded with_item_last queues (filter_map (queued_line grammar) lines))
lines_few grammar [] queues few = few
lines_few grammar (line ∷ lines) queues few =
    by (queued_line grammar line) (line_few grammar line) (lines_few grammar lines)
  where
    by : (o : Option (Who × Queued)) → EntryFew o → ((list : List Queue) → QueuesFew list
        → QueuesFew (folded with_item_last list (filter_map (queued_line grammar) lines)))
        → QueuesFew (folded with_item_last queues (cons_option o (filter_map (queued_line grammar) lines)))
    by None e others = others queues few
    by (Some entry) e others = others (with_item_last queues entry) (last_few queues entry few e)

-- States that a schedule of a script leads to
record IsAt (n : ℕ) (sched : Sched ℕ) : Type 0 where
  is : IsWorld nat_eq sched.world
  holds : HoldsWhatIsSeen sched
  keeps : KeepsTo (is_early n) sched.world
  few : QueuesFew sched.queues

later_on : (n : ℕ) (sched : Sched ℕ) → IsAt n sched → IsAt (suc n) sched
later_on n sched at = record { is = at.is; holds = at.holds; keeps = keeps_more n sched.world at.keeps; few = at.few }

queues_few_later : (sched : Sched ℕ) (given : Turn) → QueuesFew sched.queues
    → QueuesFew (turn nat_eq sched given.0 given.1).sched.queues
queues_few_later sched given few =
    by (queue_of sched.queues given.0) (turn nat_eq sched given.0 given.1) (turn_is sched given.0 given.1)
  where
    by : (items : List Queued) (turned : Turned ℕ) → Turns sched given.0 given.1 items turned
        → QueuesFew turned.sched.queues
    by [] turned goes = subst QueuesFew (sym goes.queues) few
    by (first ∷ rest) turned is = ⊎_elim (λ goes. subst QueuesFew (sym goes.queues) few)
        (λ done. subst QueuesFew (sym done.queues) (shortened_few given.0 sched.queues few)) is

after_turn : (n : ℕ) (sched : Sched ℕ) (who : Who) (refused : Bool) → IsAt n sched
    → IsAt (suc n) (turn nat_eq sched who (cond refused None (Some (numbers_for (suc n))))).sched
after_turn n sched who refused at = record {
  is = next.0;
  holds = next.1;
  keeps = by (turn_leaves sched given);
  few = queues_few_later sched given at.few;
}
  where
    given : Turn
    given = (who, cond refused None (Some (numbers_for (suc n))))

    is_row : (b : Bool) (fresh : Fresh ℕ) → cond b None (Some (numbers_for (suc n))) ≡ Some fresh
        → numbers_for (suc n) ≡ fresh
    is_row true fresh e = none_is_some fresh e
    is_row false fresh e = cc

    fit : IsFitTurn sched given
    fit = record {
      serves = λ fresh e. subst (Serves nat_eq sched.world) (is_row refused fresh e)
          (serves_next n sched.world at.keeps);
      few_groups = λ line call first. first_few sched.queues who at.few line call first;
    }

    next : IsWorld nat_eq (turn nat_eq sched given.0 given.1).sched.world
        × HoldsWhatIsSeen (turn nat_eq sched given.0 given.1).sched
    next = one_turn sched at.is at.holds given fit

    by : Leaves sched given (turn nat_eq sched given.0 given.1).sched
        → KeepsTo (is_early (suc n)) (turn nat_eq sched given.0 given.1).sched.world
    by (Same same) = subst (KeepsTo (is_early (suc n))) (sym same) (keeps_more n sched.world at.keeps)
    by (After name call fresh commits) = subst (KeepsTo (is_early (suc n))) (sym commits.world)
        (calls_keep_to_numbers (is_early (suc n)) fresh sched.world name call (keeps_more n sched.world at.keeps)
        (λ k. subst (λ (f : Fresh ℕ). is_early (suc n) (f k) ≡ true) (is_row refused fresh commits.handed)
        (is_early_too n (numbers_for (suc n) k) (row_of n k))))

in_schedule : (lines : List (List ℕ)) (refused : List Bool) (n : ℕ) (sched : Sched ℕ) → IsAt n sched
    → HoldsWhatIsSeen (left_by sched (turns_given (suc n) lines refused))
in_schedule [] refused n sched at = at.holds
in_schedule (line ∷ lines) refused n sched at = by (schedule_who line) refused
    (λ more next so. subst (λ m. HoldsWhatIsSeen (left_by next (turns_given m lines more))) (sym (add-one (suc n)))
    (in_schedule lines more (suc n) next so))
  where
    by : (o : Option Who) (list : List Bool) → ((more : List Bool) (next : Sched ℕ) → IsAt (suc n) next
        → HoldsWhatIsSeen (left_by next (turns_given (suc n + 1) lines more))) → HoldsWhatIsSeen (left_by sched
        (turn_given o (handed (suc n) list) ++ turns_given (suc n + 1) lines (later list)))
    by None list rest = rest (later list) sched (later_on n sched at)
    by (Some who) [] rest =
        rest [] (turn nat_eq sched who (Some (numbers_for (suc n)))).sched (after_turn n sched who false at)
    by (Some who) (true ∷ list) rest = rest list (turn nat_eq sched who None).sched (after_turn n sched who true at)
    by (Some who) (false ∷ list) rest =
        rest list (turn nat_eq sched who (Some (numbers_for (suc n)))).sched (after_turn n sched who false at)

pub schedules_of_scripts_hold_what_is_seen : SchedulesOfScriptsHoldWhatIsSeen
schedules_of_scripts_hold_what_is_seen version refused script schedule =
    in_schedule (lines_of schedule) refused 0 (first_sched (whole version) script) (record {
      is = (opening_is_a_world (λ place. place) (λ j k e. e)).0;
      holds = schedulers_begin_so first_world (queues_of (whole version) script);
      keeps = opening_keeps_to_four (is_early 0) (λ place. place) (first 0 (omega arith)) (first 1 (omega arith))
          (first 2 (omega arith)) (first 3 (omega arith));
      few = lines_few (whole version) (counted_from 1 (lines_of script)) [] (λ queue m. absurd m);
    })
  where
    first : (number : ℕ) → number < 4 → is_early 0 number ≡ true
    first number low = ap (λ r. nat_le r 0) (row_first number low)
