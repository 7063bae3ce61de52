-- Calls count by the square of their number, since each counts by the tasks that there ever were.
use Rattle.std.proofs.Common.{ap, arith, suc, zero, ℕ, ◌*◌, ◌+◌, ◌≡◌, ◌≤◌}
use Rattle.std.proofs.Math.Nat.{mul-add, mul_comm, mul-le-mul_left}
use Rattle.vt_answers.specs.Counters.{CallsCount, CallsCountBySquares, Counters, CountsAreFarFromTheirEnds, opening_counters}

-- twice the sum of the tasks that there were before each call
abbrev twice_all : ℕ → ℕ
twice_all calls = calls * (calls + 1)

twice_all-suc : (calls : ℕ) → twice_all (suc calls) ≡ twice_all calls + 2 * (calls + 1)
twice_all-suc calls = omega (
  arith,
  mul-add (suc calls) (calls + 1) 1,
  mul_comm (suc calls) (calls + 1),
  mul-add (calls + 1) calls 1,
  mul_comm calls (calls + 1),
)

counted : (calls : ℕ) (new : Counters) → CallsCount calls opening_counters new
    → (new.numbers ≤ 3 + 8192 * twice_all calls) × (new.births ≤ calls + 1)
counted zero new none = (omega (arith, ap (λ (one : Counters). one.numbers) none), omega (arith, ap (λ (one : Counters). one.births) none))
counted (suc calls) new (between, before, last) =
    let so = counted calls between before in (
      omega (arith, so.0, so.1, last.numbers, twice_all-suc calls),
      omega (arith, so.1, last.births),
    )

pub calls_count_by_squares : CallsCountBySquares
calls_count_by_squares calls new led =
    let so = counted calls new led in
    (omega (arith, so.0, mul-add (calls + 1) calls 1, mul_comm calls (calls + 1)), so.1)

pub counts_are_far_from_their_ends : CountsAreFarFromTheirEnds
counts_are_far_from_their_ends calls new few led =
    let so = calls_count_by_squares calls new led in
    let below : calls + 1 ≤ 47000000 = omega (arith, few) in
    omega (arith, so.0, so.1, below, mul-le-mul_left (calls + 1) below)
