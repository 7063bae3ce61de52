-- Rows of numbers, each number at one place of one row: the first four stand first in the first row, and all others
-- along the diagonals.
use Rattle.std.proofs.Common.{◌≡◌, refl, sym, ap, ◌∙◌, ℕ, zero, suc, ◌+◌, ◌-◌, ◌<◌, ◌≤◌, Bool, true, false, nat_lt, arith, le-ltb, lt-ltb, ltb-false, ltb-true}
use Rattle.vt_spec.proofs.Common.{common_steps, numbers_for}
use Rattle.vt_laws_rules.proofs.numbers.Cells.{cell, cell-number_in_row, number_in_row, number_in_row-cell, numbers_before-sum}

-- the number at a place of a row
first_row : Bool → ℕ → ℕ
first_row true place = place
first_row false place = 4 + number_in_row 0 (place - 4)

pub spread : ℕ → ℕ → ℕ
spread zero place = first_row (nat_lt place 4) place
spread (suc row) place = 4 + number_in_row (suc row) place

-- the row in which a number stands, and its place there
row_by : Bool → ℕ → ℕ
row_by true number = 0
row_by false number = (cell (number - 4)).0

pub row : ℕ → ℕ
row number = row_by (nat_lt number 4) number

place_in : ℕ → ℕ → ℕ
place_in zero place = 4 + place
place_in (suc row) place = place

col_by : Bool → ℕ → ℕ
col_by true number = number
col_by false number = place_in (cell (number - 4)).0 (cell (number - 4)).1

pub col : ℕ → ℕ
col number = col_by (nat_lt number 4) number

-- the first four
pub row_first : (number : ℕ) → number < 4 → row number ≡ 0
unfolding row row_by
row_first number low = ap (λ t. row_by t number) (lt-ltb number 4 low)

col_first : (number : ℕ) → number < 4 → col number ≡ number
unfolding col col_by
col_first number low = ap (λ t. col_by t number) (lt-ltb number 4 low)

spread_first : (place : ℕ) → place < 4 → spread 0 place ≡ place
unfolding spread first_row
spread_first place low = ap (λ t. first_row t place) (lt-ltb place 4 low)

-- the others
cell_above : (number a b : ℕ) → number ≡ 4 + number_in_row a b → cell (number - 4) ≡ (a, b)
cell_above number a b e = grind (arith, common_steps, cell-number_in_row a b)

row_above : (number a b : ℕ) → number ≡ 4 + number_in_row a b → row number ≡ a
unfolding row row_by
row_above number a b e = cc (le-ltb number 4 (omega arith), cell_above number a b e)

col_above : (number a b : ℕ) → number ≡ 4 + number_in_row a b → col number ≡ place_in a b
unfolding col col_by
col_above number a b e = cc (le-ltb number 4 (omega arith), cell_above number a b e)

spread_later : (place : ℕ) → 4 ≤ place → spread 0 place ≡ 4 + number_in_row 0 (place - 4)
unfolding spread first_row
spread_later place high = ap (λ t. first_row t place) (le-ltb place 4 high)

spread_above : (a b : ℕ) → spread a (place_in a b) ≡ 4 + number_in_row a b
unfolding spread place_in
spread_above a b = grind (arith, common_steps, spread_later, number_in_row)

pub row-spread : (n k : ℕ) → row (spread n k) ≡ n
unfolding spread
row-spread n k = grind (arith, common_steps, ltb-true, spread_first, row_first, row_above, spread_later, ltb-false)

pub col-spread : (n k : ℕ) → col (spread n k) ≡ k
unfolding spread place_in
col-spread zero k = by (nat_lt k 4) refl
  where
    by : (low : Bool) → nat_lt k 4 ≡ low → col (spread 0 k) ≡ k
    by true low = let first : k < 4 = ltb-true k 4 low in ap col (spread_first k first) ∙ col_first k first
    by false high =
        let later : 4 ≤ k = ltb-false k 4 high in
        let again : 4 + (k - 4) ≡ k = omega arith in
        col_above (spread 0 k) 0 (k - 4) (spread_later k later) ∙ again
col-spread (suc n) k = col_above (spread (suc n) k) (suc n) k refl

pub spread-row : (number : ℕ) → spread (row number) (col number) ≡ number
spread-row number = by (nat_lt number 4) refl
  where
    by : (low : Bool) → nat_lt number 4 ≡ low → spread (row number) (col number) ≡ number
    by true low = grind (arith, common_steps, ltb-true, spread, row_first, col_first, spread_first)
    by false high =
        let later : 4 ≤ number = ltb-false number 4 high in
        let a = (cell (number - 4)).0 in
        let b = (cell (number - 4)).1 in
        let same = number_in_row-cell (number - 4) in
        let whole : number ≡ 4 + number_in_row a b = omega arith in
        (λ i. spread (row_above number a b whole i) (col_above number a b whole i)) ∙ spread_above a b ∙ sym whole

-- what a line is handed is the row of its number
pub spread_for : (row place : ℕ) → numbers_for (suc row) place ≡ spread (suc row) place
unfolding spread
spread_for row place = grind (arith, common_steps, numbers_before-sum)
