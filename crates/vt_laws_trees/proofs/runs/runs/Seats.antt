-- Whatever leaves endless numbers over is renamed into the first row.
use Rattle.std.proofs.Common.{◌≡◌, ap, ◌∙◌, ℕ, zero, suc, ◌==◌, ◌+◌, ◌*◌, ◌/◌, ◌%◌, ◌<◌, Bool, true, false, arith, eq-eqb, ne_eqb, eqb-true}
use Rattle.vt_spec.proofs.Common.{Fresh, common_steps, eqb-false}
use Rattle.vt_laws_rules.proofs.numbers.Cells.{cell, cell-number_in_row, number_in_row, number_in_row-cell}
use Rattle.vt_laws_rules.proofs.numbers.Rows.{col, col-spread, row, row-spread, row_first, spread, spread-row}
use Rattle.vt_laws_rules.proofs.numbers.Commuting.{stay_apart}
use Rattle.vt_laws_rules.proofs.numbers.Exchanges.{swapped, swapped_first, swapped_other, swapped_twice}
use Rattle.vt_laws_rules.specs.Renaming.{Renaming}
use Rattle.vt_laws_trees.specs.Runs.Runs.{LeavesEndless, OpensInHand}

-- a number stands at an even place of the first row, or elsewhere: those elsewhere are counted too
pub data Seat : Type 0 where
  Front : (number : ℕ) → Seat
  Elsewhere : (number : ℕ) → Seat

shifted : ℕ → ℕ → ℕ
shifted zero b = spread 0 (2 * b + 1)
shifted (suc a) b = spread (suc a) b

number_at : Seat → ℕ
number_at (Front number) = spread 0 (2 * number)
number_at (Elsewhere number) = shifted (cell number).0 (cell number).1

seat_in_first : Bool → ℕ → Seat
seat_in_first true place = Front (place / 2)
seat_in_first false place = Elsewhere (number_in_row 0 (place / 2))

seat_by : ℕ → ℕ → Seat
seat_by zero place = seat_in_first (place % 2 == 0) place
seat_by (suc a) place = Elsewhere (number_in_row (suc a) place)

seat : ℕ → Seat
seat number = seat_by (row number) (col number)

seat_of_row : (a b : ℕ) → seat (spread a b) ≡ seat_by a b
unfolding seat
seat_of_row a b = λ i. seat_by (row-spread a b i) (col-spread a b i)

even_place : (n : ℕ) → seat_by 0 (2 * n) ≡ Front n
unfolding seat_by seat_in_first
even_place n =
    let rest : (2 * n) % 2 ≡ 0 = omega arith in
    let half : (2 * n) / 2 ≡ n = omega arith in
    (λ i. seat_in_first (eq-eqb ((2 * n) % 2) 0 rest i) (2 * n)) ∙ ap Front half

odd_place : (b : ℕ) → seat_by 0 (2 * b + 1) ≡ Elsewhere (number_in_row 0 b)
unfolding seat_by seat_in_first
odd_place b =
    let half : (2 * b + 1) / 2 ≡ b = omega arith in
    let rest : (2 * b + 1) % 2 ≡ 1 = omega arith in
    grind (arith, common_steps, ne_eqb, number_in_row)

shifted_seat : (a b : ℕ) → seat (shifted a b) ≡ Elsewhere (number_in_row a b)
unfolding shifted seat_by
shifted_seat zero b = seat_of_row 0 (2 * b + 1) ∙ odd_place b
shifted_seat (suc a) b = seat_of_row (suc a) b

seat_number : (s : Seat) → seat (number_at s) ≡ s
unfolding number_at
seat_number (Front n) = seat_of_row 0 (2 * n) ∙ even_place n
seat_number (Elsewhere n) = cc (shifted_seat (cell n).0 (cell n).1, number_in_row-cell n)

number_of_row : (a b : ℕ) → number_at (seat_by a b) ≡ spread a b
unfolding number_at seat_by seat_in_first shifted
number_of_row zero b = grind (arith, common_steps, spread, eqb-true, eqb-false, cell-number_in_row)
number_of_row (suc a) b = ap (λ (c : ℕ × ℕ). shifted c.0 c.1) (cell-number_in_row (suc a) b)

number_seat : (number : ℕ) → number_at (seat number) ≡ number
unfolding seat
number_seat number = number_of_row (row number) (col number) ∙ spread-row number

-- What is in hand has a front seat, by its own number. Of what is left over each second one has a front seat that is
-- free.
module _ (in_hand : ℕ → Bool) (leaves : LeavesEndless in_hand) where
  left_seat : Bool → ℕ → Seat
  left_seat true k = Front (leaves.left_over (k / 2))
  left_seat false k = Elsewhere (k / 2)

  given_seat : Bool → ℕ → Seat
  given_seat true number = Front number
  given_seat false number = left_seat (leaves.place number % 2 == 0) (leaves.place number)

  seat_of : ℕ → Seat
  seat_of number = given_seat (in_hand number) number

  without_last : Bool → ℕ → ℕ
  without_last true number = number
  without_last false number = leaves.left_over (2 * leaves.place number)

  number_on : Seat → ℕ
  number_on (Front number) = without_last (in_hand number) number
  number_on (Elsewhere number) = leaves.left_over (2 * number + 1)

  on_seat : (number : ℕ) → number_on (seat_of number) ≡ number
  unfolding number_on seat_of given_seat left_seat without_last
  on_seat number = grind (arith, common_steps, eqb-true, eqb-false)

  left_is_seated : (k : ℕ) → seat_of (leaves.left_over k) ≡ left_seat (k % 2 == 0) k
  unfolding seat_of given_seat
  left_is_seated k = cc (leaves.out k, leaves.place_left k)

  seat_on : (s : Seat) → seat_of (number_on s) ≡ s
  unfolding number_on seat_of given_seat left_seat without_last
  seat_on s = grind (arith, common_steps, left_is_seated, eq-eqb, ne_eqb)

  -- the renaming, and where it leads what is in hand
  seated : Renaming ℕ ℕ
  seated = record {
    there = λ number. number_at (seat_of number);
    back = λ number. number_on (seat number);
    there_back = λ number. cc (seat_on (seat number), number_seat number);
    back_there = λ number. cc (seat_number (seat_of number), on_seat number);
  }

  seated_first : (number : ℕ) → in_hand number ≡ true → row (seated.there number) ≡ 0
  unfolding seated seat_of given_seat number_at
  seated_first number is = cc (row-spread 0 (2 * number))

  -- a renaming of what is in hand into the first row that gives the first numbers of a supply their places
  pub record Start (fresh : Fresh ℕ) (k : ℕ) : Type 0 where
    pub renaming : Renaming ℕ ℕ
    pub early : (number : ℕ) → in_hand number ≡ true → row (renaming.there number) ≡ 0
    pub fixed : (j : ℕ) → j < k → renaming.there (fresh j) ≡ j

  row_swapped : (a b number : ℕ) → row a ≡ 0 → row b ≡ 0 → row number ≡ 0 → row (swapped a b number) ≡ 0
  row_swapped a b number first second third = grind (arith, common_steps, row)

  fixed_more : (fresh : Fresh ℕ) → OpensInHand in_hand fresh → (k : ℕ) → k < 4 → Start fresh k → Start fresh (suc k)
  fixed_more fresh opens k low start = record {
    renaming = record {
      there = λ number. swapped a k (start.renaming.there number);
      back = λ number. start.renaming.back (swapped a k number);
      there_back = λ number.
          cc (start.renaming.there_back (swapped a k number), swapped_twice a k number);
      back_there = λ number.
          cc (swapped_twice a k (start.renaming.there number), start.renaming.back_there number);
    };
    early = λ number is.
        row_swapped a k (start.renaming.there number) (start.early (fresh k) (opens.given k low)) (row_first k low)
        (start.early number is);
    fixed = fixed;
  }
    where
      a : ℕ
      a = start.renaming.there (fresh k)

      earlier : (j : ℕ) → j < k → swapped a k (start.renaming.there (fresh j)) ≡ j
      earlier j less = ap (swapped a k) (start.fixed j less) ∙ swapped_other a k j
          (λ e. let same : j ≡ k = opens.apart j k (omega arith) low
          (stay_apart start.renaming (fresh j) (fresh k) (start.fixed j less ∙ e)) in absurd (omega arith))
          (λ e. absurd (omega arith))

      fixed : (j : ℕ) → j < suc k → swapped a k (start.renaming.there (fresh j)) ≡ j
      fixed j less = grind (arith, common_steps, swapped, eqb-true, swapped_first, eqb-false, earlier)

  pub started : (fresh : Fresh ℕ) → OpensInHand in_hand fresh → Start fresh 4
  started fresh opens = fixed_more fresh opens 3 (omega arith) (fixed_more fresh opens 2 (omega arith)
      (fixed_more fresh opens 1 (omega arith) (fixed_more fresh opens 0 (omega arith)
      (record { renaming = seated; early = seated_first; fixed = λ j less. absurd (omega arith) }))))
