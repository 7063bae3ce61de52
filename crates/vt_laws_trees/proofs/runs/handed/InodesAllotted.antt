-- Counts with the number of an inode among them are a supply with room.
use Rattle.std.proofs.Common.{◌≡◌, refl, sym, ap, ◌∙◌, true≢false, ℕ, ◌==◌, ◌%◌, Bool, true, false, cond, ◌&&◌, ◌||◌, ◌/◌, nat_lt, arith, eq-eqb, ne_eqb, eqb-true}
use Rattle.vt_spec.proofs.Common.{World, common_steps, eqb-false}
use Rattle.vt_laws_rules.proofs.numbers.NamedWorlds.{named_is_kept}
use Rattle.vt_laws_rules.specs.Numbers.{Allotment, KeepsTo, Lot, is_in_hand, is_kept}
use Rattle.vt_laws_rules.specs.Numbers.Lot.{Kept, LeftOver, New}
use Rattle.vt_laws_trees.proofs.runs.handed.Counts.{counts, counts_from_hand, counts_keep, counts_stay, same_new}
use Rattle.vt_laws_trees.specs.Runs.Handed.{AllottedNumbersOpen, AllottedNumbersServe, AllottedNumbersServeNamed, NumbersAreAllotted, handed_from, is_counted_before, is_named_before, lot_from, lot_of_counts, may_be_given}
use Rattle.vt_laws_trees.specs.Runs.Runs.{ServesInHand}
use Rattle.vt_laws_rules.proofs.numbers.Allotments.{kept_lot}

-- One of the numbers that an allotment keeps stands for a new one of its numbers, which is kept in its place.
module _ (allotment : Allotment) (place number : ℕ) (kept : allotment.lot number ≡ Kept) where
  abbrev choose : Bool → Bool → Lot → Lot
  choose here there lot = cond here (New place) (cond there Kept lot)

  abbrev lot_with : ℕ → Lot
  lot_with other = choose (other == number) (other == allotment.new place) (allotment.lot other)

  abbrev new_with : ℕ → ℕ
  new_with k = cond (k == place) number (allotment.new k)

  apart_lots : (a b : ℕ) (first second : Lot) → allotment.lot a ≡ first → allotment.lot b ≡ second
      → (first ≡ second → ⊥) → (a == b) ≡ false
  apart_lots a b first second one other apart = ne_eqb a b (λ e. apart (cc))

  new_is_kept : (k : ℕ) → New k ≡ Kept → ⊥
  new_is_kept k e = cc

  left_is_kept : (k : ℕ) → LeftOver k ≡ Kept → ⊥
  left_is_kept k e = cc

  left_is_new : (j k : ℕ) → LeftOver j ≡ New k → ⊥
  left_is_new j k e = cc

  pub new_lot_with : (k : ℕ) → lot_with (new_with k) ≡ New k
  new_lot_with k = grind (arith, common_steps, eq-eqb, eqb-true, apart_lots, new_is_kept, eqb-false, same_new)

  pub left_lot_with : (k : ℕ) → lot_with (allotment.left_over k) ≡ LeftOver k
  left_lot_with k = (λ i. choose (apart_lots _ number _ Kept (allotment.left_over_lot k) kept (left_is_kept k) i)
      (apart_lots _ (allotment.new place) (LeftOver k) (New place) (allotment.left_over_lot k) (allotment.new_lot place)
      (left_is_new k place) i) (allotment.lot (allotment.left_over k))) ∙ allotment.left_over_lot k

  pub lot_new_with : (other k : ℕ) → lot_with other ≡ New k → new_with k ≡ other
  lot_new_with other k = grind (arith, common_steps, eq-eqb, same_new, eqb-true, new_is_kept, ne_eqb, eqb-false)

  pub lot_left_with : (other k : ℕ) → lot_with other ≡ LeftOver k → allotment.left_over k ≡ other
  lot_left_with other k = grind (arith, common_steps, left_is_new, left_is_kept)

  abbrev pub with_number : Allotment
  with_number = record {
    lot = λ other. cond (other == number) (New place) (cond (other == allotment.new place) Kept (allotment.lot other));
    new = λ k. cond (k == place) number (allotment.new k);
    left_over = allotment.left_over;
    new_lot = new_lot_with;
    left_over_lot = left_lot_with;
    lot_new = lot_new_with;
    lot_left_over = lot_left_with;
  }

module _ (next place inode : ℕ) (even : inode % 2 ≡ 0) where
  even_before : is_counted_before next inode ≡ true
  even_before = ap (λ b. b || (inode % 4 == 1 && nat_lt (inode / 4) next)) (eq-eqb (inode % 2) 0 even)

  pub inode_kept : lot_of_counts next inode ≡ Kept
  inode_kept = kept_lot (lot_of_counts next inode) (counts_keep next inode even_before)

  -- the numbers that a call is handed
  abbrev pub allotted : Allotment
  allotted = with_number (counts next) place inode inode_kept

  from_hand : (number : ℕ) → is_kept allotted number ≡ true → may_be_given number ≡ true
  from_hand number = grind (arith, common_steps, true≢false, eqb-true, ne_eqb, counts_from_hand)

  stays : (number : ℕ) → may_be_given number ≡ true → is_in_hand allotted number ≡ true
  stays number given = grind (arith, common_steps, given, counts_stay)

  keep : (number : ℕ) → is_named_before next inode number ≡ true → is_kept allotted number ≡ true
  keep number = grind (arith, common_steps, true≢false, counts_keep)

  pub allotted_serve : (world : World ℕ) → KeepsTo (is_named_before next inode) world
      → ServesInHand may_be_given world allotted
  allotted_serve world keeps = grind (arith, common_steps, from_hand, keep, stays)

  given : (k : ℕ) → may_be_given (handed_from next place inode k) ≡ true
  given k = grind (arith, common_steps, ne_eqb)

  apart : (j k : ℕ) → handed_from next place inode j ≡ handed_from next place inode k → j ≡ k
  apart j k e = same_new j k (sym (new_lot_with (counts next) place inode inode_kept j)
      ∙ ap (lot_from next place inode) e ∙ new_lot_with (counts next) place inode inode_kept k)

pub numbers_are_allotted : NumbersAreAllotted
numbers_are_allotted next place inode even = (allotted next place inode even, refl, refl, refl)

pub allotted_numbers_serve : AllottedNumbersServe
allotted_numbers_serve next place inode even world keeps =
    (allotted next place inode even, refl, allotted_serve next place inode even world keeps)

pub allotted_numbers_serve_named : AllottedNumbersServeNamed
allotted_numbers_serve_named next place inode even world named =
    allotted_numbers_serve next place inode even world (named_is_kept (is_named_before next inode) world named)

pub allotted_numbers_open : AllottedNumbersOpen
allotted_numbers_open next place inode even = record {
  given = λ k low. given next place inode even k;
  apart = λ j k first second. apart next place inode even j k;
}
