-- A line that is handed the next row of numbers: of the rows before, all is left over that is not kept.
use Rattle.vt_spec.proofs.Common.{common_steps}
use Rattle.std.proofs.Common.{◌≡◌, refl, sym, ap, ◌∙◌, true≢false, ℕ, zero, suc, ◌<◌, ◌≤◌, Bool, true, false, arith, subst}
use Rattle.vt_laws_rules.specs.Numbers.{Lot, Allotment, is_in_hand_lot, is_kept_lot}
use Rattle.vt_laws_rules.specs.Numbers.Lot.{Kept, LeftOver, New}
use Rattle.vt_laws_rules.proofs.numbers.Cells.{cell, cell-number_in_row, number_in_row, number_in_row-cell}
use Rattle.vt_laws_rules.proofs.numbers.Rows.{col, col-spread, row, row-spread, spread, spread-row}

-- where a row stands against the next one
pub data Side : Type 0 where
  Before : Side
  At : Side
  Beyond : (further : ℕ) → Side

side : ℕ → ℕ → Side
side zero zero = Before
side zero (suc zero) = At
side zero (suc (suc further)) = Beyond further
side (suc m) zero = Before
side (suc m) (suc r) = side m r

side_at : (m : ℕ) → side m (suc m) ≡ At
unfolding side
side_at zero = refl
side_at (suc m) = side_at m

beyond : ℕ → ℕ → ℕ
beyond zero further = suc (suc further)
beyond (suc m) further = suc (beyond m further)

side_beyond : (m further : ℕ) → side m (beyond m further) ≡ Beyond further
unfolding side beyond
side_beyond zero further = refl
side_beyond (suc m) further = side_beyond m further

-- what each side says of the row
Says : ℕ → ℕ → Side → Type 0
Says m r Before = r ≤ m
Says m r At = r ≡ suc m
Says m r (Beyond further) = r ≡ beyond m further

side_says : (m r : ℕ) → Says m r (side m r)
unfolding side Says beyond
side_says zero zero = omega arith
side_says zero (suc zero) = refl
side_says zero (suc (suc further)) = refl
side_says (suc m) zero = omega arith
side_says (suc m) (suc r) = grind (arith, common_steps, side_says m r, Beyond)

says : (m r : ℕ) (s : Side) → side m r ≡ s → Says m r s
says m r s e = subst (Says m r) e (side_says m r)

-- The allotment in which the numbers of the row after `m` are new. A number of the rows before that is not kept is left
-- over: it stands first in its own line of cells, and the numbers of a later row behind it.
module _ (m : ℕ) (keeps : ℕ → Bool) (early : (number : ℕ) → keeps number ≡ true → row number ≤ m) where
  -- the place of a number of a later row, behind a number that may be left over
  shift_by : Bool → Side → ℕ → ℕ
  shift_by true side k = k
  shift_by false Before k = suc k
  shift_by false At k = k
  shift_by false (Beyond further) k = k

  shift : ℕ → ℕ → ℕ
  shift a k = shift_by (keeps a) (side m (row a)) k

  lot_by : Bool → Side → ℕ → Lot
  lot_by true side number = Kept
  lot_by false Before number = LeftOver (number_in_row number 0)
  lot_by false At number = New (col number)
  lot_by false (Beyond further) number = LeftOver (number_in_row further (shift further (col number)))

  pub lot_of : ℕ → Lot
  lot_of number = lot_by (keeps number) (side m (row number)) number

  later_by : Bool → Side → ℕ → ℕ → ℕ
  later_by true side a k = spread (beyond m a) k
  later_by false Before a zero = a
  later_by false Before a (suc k) = spread (beyond m a) k
  later_by false At a k = spread (beyond m a) k
  later_by false (Beyond further) a k = spread (beyond m a) k

  left_at : ℕ → ℕ → ℕ
  left_at a k = later_by (keeps a) (side m (row a)) a k

  pub left_of : ℕ → ℕ
  left_of k = left_at (cell k).0 (cell k).1

  -- numbers of later rows are not kept
  late : (number : ℕ) → m < row number → keeps number ≡ false
  late number h = grind (arith, common_steps, keeps number)

  beyond_more : (k further : ℕ) → k < beyond k further
  unfolding beyond
  beyond_more zero further = omega arith
  beyond_more (suc k) further = let h = beyond_more k further in omega arith

  pub new_is_new : (k : ℕ) → lot_of (spread (suc m) k) ≡ New k
  unfolding lot_of lot_by
  new_is_new k = grind (arith, common_steps, spread, row-spread, lot_by, late, side_at, New, col-spread)

  -- a number of a later row
  lot_late : (further k : ℕ) → lot_of (spread (beyond m further) k) ≡ LeftOver (number_in_row further (shift further k))
  unfolding lot_of lot_by
  lot_late further k =
      grind (
        arith,
        common_steps,
        spread,
        beyond,
        row-spread,
        beyond_more,
        lot_by,
        late,
        side_beyond,
        LeftOver,
        col-spread,
      )

  left_is_left_at : (a k : ℕ) → lot_of (left_at a k) ≡ LeftOver (number_in_row a k)
  unfolding left_at later_by shift shift_by lot_by lot_of
  left_is_left_at a k = by (keeps a) refl (side m (row a)) refl k
    where
      with_shift : (test : Bool) → keeps a ≡ test → (s : Side) → side m (row a) ≡ s → (k : ℕ)
          → lot_of (spread (beyond m a) k) ≡ LeftOver (number_in_row a (shift_by test s k))
      with_shift test is s at k = lot_late a k ∙ (λ i. LeftOver (number_in_row a (shift_by (is i) (at i) k)))

      opened : (test : Bool) → keeps a ≡ test → (s : Side) → side m (row a) ≡ s → (k : ℕ)
          → left_at a k ≡ later_by test s a k
      opened test is s at k = λ i. later_by (is i) (at i) a k

      by : (test : Bool) → keeps a ≡ test → (s : Side) → side m (row a) ≡ s → (k : ℕ)
          → lot_of (left_at a k) ≡ LeftOver (number_in_row a k)
      by true is s at k = ap lot_of (opened true is s at k) ∙ with_shift true is s at k
      by false is Before at zero = ap lot_of (opened false is Before at zero) ∙ (λ i. lot_by (is i) (at i) a)
      by false is Before at (suc k) = ap lot_of (opened false is Before at (suc k)) ∙ with_shift false is Before at k
      by false is At at k = ap lot_of (opened false is At at k) ∙ with_shift false is At at k
      by false is (Beyond further) at k =
          ap lot_of (opened false is (Beyond further) at k) ∙ with_shift false is (Beyond further) at k

  pub left_is_left : (k : ℕ) → lot_of (left_of k) ≡ LeftOver k
  unfolding left_of
  left_is_left k = left_is_left_at (cell k).0 (cell k).1 ∙ ap LeftOver (number_in_row-cell k)

  -- the number at a lot
  pub back_of : Lot → ℕ → ℕ
  back_of Kept number = number
  back_of (New k) number = spread (suc m) k
  back_of (LeftOver k) number = left_of k

  left_place : (a k : ℕ) → left_of (number_in_row a k) ≡ left_at a k
  unfolding left_of
  left_place a k = ap (λ (c : ℕ × ℕ). left_at c.0 c.1) (cell-number_in_row a k)

  left_shift : (a k : ℕ) → left_at a (shift a k) ≡ spread (beyond m a) k
  unfolding left_at later_by shift shift_by lot_by lot_of
  left_shift a k = grind (arith, common_steps)

  pub lot_back : (number : ℕ) → back_of (lot_of number) number ≡ number
  unfolding lot_of lot_by back_of left_at later_by Says
  lot_back number = by (keeps number) refl (side m (row number)) refl
    where
      by : (test : Bool) → keeps number ≡ test → (s : Side) → side m (row number) ≡ s
          → back_of (lot_of number) number ≡ number
      by true is s at = λ i. back_of (lot_by (is i) (side m (row number)) number) number
      by false is Before at = cc (left_place number 0)
      by false is At at = cc (says m (row number) At at, spread-row number)
      by false is (Beyond further) at = (λ i. back_of (lot_by (is i) (at i) number) number)
          ∙ left_place further (shift further (col number)) ∙ left_shift further (col number)
          ∙ ap (λ r. spread r (col number)) (sym (says m (row number) (Beyond further) at)) ∙ spread-row number

  unfoldable pub stage : Allotment
  unfolding back_of
  stage = record {
    lot = lot_of;
    new = spread (suc m);
    left_over = left_of;
    new_lot = new_is_new;
    left_over_lot = left_is_left;
    lot_new = λ number k e. ap (λ s. back_of s number) (sym e) ∙ lot_back number;
    lot_left_over = λ number k e. ap (λ s. back_of s number) (sym e) ∙ lot_back number;
  }

  pub stage_new : (k : ℕ) → stage.new k ≡ spread (suc m) k
  unfolding stage
  stage_new k = refl

  -- what is kept
  pub stage_keeps : (number : ℕ) → is_kept_lot (stage.lot number) ≡ keeps number
  unfolding stage lot_of lot_by
  stage_keeps number = grind (arith, common_steps)

  -- what is in hand afterwards stands in these rows
  pub stage_rows : (number : ℕ) → is_in_hand_lot (stage.lot number) ≡ true → row number ≤ suc m
  unfolding stage lot_of lot_by Says
  stage_rows number = by (keeps number) refl (side m (row number)) refl
    where
      by : (test : Bool) → keeps number ≡ test → (s : Side) → side m (row number) ≡ s
          → is_in_hand_lot (lot_by test s number) ≡ true → row number ≤ suc m
      by true is s at e = let h = early number is in omega arith
      by false is Before at e = absurd (true≢false (sym e))
      by false is At at e = let h : row number ≡ suc m = says m (row number) At at in omega arith
      by false is (Beyond further) at e = absurd (true≢false (sym e))
