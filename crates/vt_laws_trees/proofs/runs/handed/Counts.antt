-- Counts are a supply with room.
use Rattle.std.proofs.Common.{◌≡◌, refl, ap, true≢false, ℕ, nat_le, nat_lt, ◌==◌, ◌+◌, ◌-◌, ◌*◌, ◌/◌, ◌%◌, ◌<◌, ◌≤◌, Bool, true, false, cond, not, ◌&&◌, ◌||◌, arith, ◌⊎◌, inl, eq-eqb, ne_eqb, eqb-true, ltb-true, le-leb, leb-true}
use Rattle.vt_spec.proofs.Common.{and_parts, common_steps, not-false}
use Rattle.vt_laws_rules.proofs.numbers.NamedWorlds.{named_is_kept}
use Rattle.vt_laws_rules.specs.Numbers.{Allotment, Lot, is_in_hand, is_kept}
use Rattle.vt_laws_rules.specs.Numbers.Lot.{Kept, LeftOver, New}
use Rattle.vt_laws_trees.proofs.runs.runs.RunsTold.{runs_have_one_text}
use Rattle.vt_laws_trees.specs.Runs.Handed.{CountsAreAllotted, CountsServe, CountsServeNamed, ProgramsHaveOneText, counts_from, is_counted_before, is_counted_from, lot_of_counts, may_be_given, never_given}
use Rattle.vt_laws_trees.specs.Runs.Runs.{LeavesEndless}

-- a new number has one place
pub same_new : (a b : ℕ) → New a ≡ New b → a ≡ b
same_new a b e = cc

module _ (next : ℕ) where
  -- what becomes of a number, by what is tested of it
  abbrev choose : Bool → Bool → ℕ → Lot
  choose left counted number = cond left (LeftOver (number / 4)) (cond counted (New (number / 4 - next)) Kept)

  lot_at : (number : ℕ) (left counted : Bool) → (number % 4 == 3) ≡ left → is_counted_from next number ≡ counted
      → lot_of_counts next number ≡ choose left counted number
  lot_at number left counted first second = λ i. choose (first i) (second i) number

  pub new_lot : (k : ℕ) → lot_of_counts next (counts_from next k) ≡ New k
  new_lot k = grind (arith, common_steps, lot_at, ne_eqb, eq-eqb, le-leb)

  pub left_lot : (k : ℕ) → lot_of_counts next (never_given k) ≡ LeftOver k
  left_lot k =
      let rest : (4 * k + 3) % 4 ≡ 3 = omega arith in
      let quarter : (4 * k + 3) / 4 ≡ k = omega arith in
      cc (lot_at (4 * k + 3) true _ (eq-eqb ((4 * k + 3) % 4) 3 rest) refl, quarter)

  same_left : (a b : ℕ) → LeftOver a ≡ LeftOver b → a ≡ b
  same_left a b e = cc

  -- what is counted from the next on
  counted : (number : ℕ) → is_counted_from next number ≡ true → (number % 4 ≡ 1) × (next ≤ number / 4)
  counted number is =
      let tests = and_parts (number % 4 == 1) (nat_le next (number / 4)) is in
      (eqb-true (number % 4) 1 tests.0, leb-true next (number / 4) tests.1)

  pub lot_new : (number k : ℕ) → lot_of_counts next number ≡ New k → counts_from next k ≡ number
  lot_new number k = grind (arith, common_steps, counted, same_new)

  pub lot_left : (number k : ℕ) → lot_of_counts next number ≡ LeftOver k → never_given k ≡ number
  lot_left number k = grind (arith, common_steps, eqb-true, same_left)

  -- the counts from the next one on
  abbrev pub counts : Allotment
  counts = record {
    lot = lot_of_counts next;
    new = counts_from next;
    left_over = never_given;
    new_lot = new_lot;
    left_over_lot = left_lot;
    lot_new = lot_new;
    lot_left_over = lot_left;
  }

  pub counts_from_hand : (number : ℕ) → is_kept counts number ≡ true → may_be_given number ≡ true
  counts_from_hand number = grind (arith, common_steps, is_counted_from)

  pub counts_stay : (number : ℕ) → may_be_given number ≡ true → is_in_hand counts number ≡ true
  counts_stay number = grind (arith, common_steps, counted, true≢false)

  -- what is even, or counted before
  before_is : (number : ℕ) (even odd below : Bool) → (number % 2 == 0) ≡ even → (number % 4 == 1) ≡ odd
      → nat_lt (number / 4) next ≡ below → (even || (odd && below)) ≡ true
      → (number % 2 ≡ 0) ⊎ ((number % 4 ≡ 1) × (number / 4 < next))
  before_is number true odd below first second third e = inl (eqb-true (number % 2) 0 first)
  before_is number false true true first second third e = grind (arith, common_steps, eqb-true, ltb-true)
  before_is number false true false first second third e = cc
  before_is number false false below first second third e = cc

  not_counted : (number : ℕ) → (number % 4 ≡ 1 → next ≤ number / 4 → ⊥) → is_counted_from next number ≡ false
  not_counted number before = grind (arith, common_steps, is_counted_from, counted)

  pub counts_keep : (number : ℕ) → is_counted_before next number ≡ true → is_kept counts number ≡ true
  counts_keep number named = grind (arith, common_steps, lot_at, ne_eqb, not_counted, before_is)

pub counts_are_allotted : CountsAreAllotted
counts_are_allotted next = (counts next, refl, refl, refl)

pub counts_serve : CountsServe
counts_serve next world keeps = (
  counts next,
  refl,
  record {
    serves = record {
      from_hand = counts_from_hand next;
      keeps = λ renaming leaves. keeps renaming (λ number named. leaves number (counts_keep next number named));
    };
    stays = counts_stay next;
  },
)

pub counts_serve_named : CountsServeNamed
counts_serve_named next world named = counts_serve next world (named_is_kept (is_counted_before next) world named)

-- endless numbers are never given out
pub endless : LeavesEndless may_be_given
endless = record {
  left_over = never_given;
  place = λ number. number / 4;
  out = λ k. let rest : (4 * k + 3) % 4 ≡ 3 = omega arith in ap not (eq-eqb ((4 * k + 3) % 4) 3 rest);
  place_left = λ k. omega arith;
  left_place = λ number out.
      let rest : number % 4 ≡ 3 = eqb-true (number % 4) 3 (not-false (number % 4 == 3) out) in omega arith;
}

pub programs_have_one_text : ProgramsHaveOneText
programs_have_one_text grammar refused script text fresh opens plain tells =
    runs_have_one_text grammar refused script text may_be_given fresh endless opens plain tells
