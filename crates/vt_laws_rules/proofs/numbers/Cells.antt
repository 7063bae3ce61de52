-- Endless rows of numbers: each number stands at one place of one row.
use Rattle.std.proofs.Common.{◌≡◌, refl, ap, ◌∙◌, ℕ, zero, suc, ◌+◌, ◌*◌, ◌/◌, ◌≤◌, arith}
use Rattle.vt_spec.proofs.Common.{common_steps}
use Rattle.std.proofs.Math.Nat.{mul-suc, suc-mul}

-- how many numbers stand before a diagonal, and the number at a place of a row
numbers_before : ℕ → ℕ
numbers_before zero = 0
numbers_before (suc diagonal) = numbers_before diagonal + suc diagonal

unfoldable pub number_in_row : ℕ → ℕ → ℕ
unfolding numbers_before
number_in_row row place = numbers_before (row + place) + row

-- Gauss's sum
pub numbers_before-sum : (row place : ℕ) → ((row + place) * (row + place + 1)) / 2 + row ≡ number_in_row row place
unfolding numbers_before number_in_row
numbers_before-sum row place = ap (λ n. n + row) (sum (row + place))
  where
    sum : (diagonal : ℕ) → (diagonal * (diagonal + 1)) / 2 ≡ numbers_before diagonal
    sum zero = refl
    sum (suc diagonal) =
        let earlier : (diagonal * (diagonal + 1)) / 2 ≡ numbers_before diagonal = sum diagonal in
        let longer : suc diagonal * (suc diagonal + 1) ≡ diagonal * (suc diagonal + 1) + (suc diagonal + 1) = suc-mul
        diagonal (suc diagonal + 1) in
        let wider : diagonal * (suc diagonal + 1) ≡ diagonal * (diagonal + 1) + diagonal = ap (λ n. diagonal * n)
        (let more : suc diagonal + 1 ≡ suc (diagonal + 1) = omega arith in more) ∙ mul-suc diagonal (diagonal + 1) in
        grind (arith, common_steps)

next : ℕ → ℕ → ℕ × ℕ
next a zero = (zero, suc a)
next a (suc b) = (suc a, b)

pub cell : ℕ → ℕ × ℕ
cell zero = (zero, zero)
cell (suc n) = next (cell n).0 (cell n).1

number_in_row-next : (a b : ℕ) → number_in_row (next a b).0 (next a b).1 ≡ suc (number_in_row a b)
unfolding next number_in_row numbers_before
number_in_row-next a b = grind (arith, common_steps)

pub number_in_row-cell : (n : ℕ) → number_in_row (cell n).0 (cell n).1 ≡ n
unfolding cell number_in_row numbers_before
number_in_row-cell zero = refl
number_in_row-cell (suc n) = number_in_row-next (cell n).0 (cell n).1 ∙ ap suc (number_in_row-cell n)

tri_large : (s : ℕ) → s ≤ numbers_before s
unfolding numbers_before
tri_large zero = omega arith
tri_large (suc s) = let h = tri_large s in omega arith

cell_at : (n a b : ℕ) → number_in_row a b ≡ n → cell n ≡ (a, b)
unfolding cell next number_in_row numbers_before
cell_at zero a b e = grind (arith, common_steps, tri_large)
cell_at (suc n) zero zero e = absurd (omega (arith, e))
cell_at (suc n) zero (suc b) e =
    let before : number_in_row b 0 ≡ n = (let h = number_in_row-next b 0 in omega arith) in
    ap (λ (c : ℕ × ℕ). next c.0 c.1) (cell_at n b 0 before)
cell_at (suc n) (suc a) b e =
    let before : number_in_row a (suc b) ≡ n = (let h = number_in_row-next a (suc b) in omega arith) in
    ap (λ (c : ℕ × ℕ). next c.0 c.1) (cell_at n a (suc b) before)

pub cell-number_in_row : (a b : ℕ) → cell (number_in_row a b) ≡ (a, b)
cell-number_in_row a b = cell_at (number_in_row a b) a b refl
