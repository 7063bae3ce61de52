-- A program's supply: counts with the number of an inode at its place.
use Rattle.std.proofs.Common.{eq-eqb, lt-ltb, ◌≡◌, refl, true≢false, ℕ, zero, suc, ◌+◌, ◌%◌, ◌/◌, ◌==◌, ◌<◌, nat_lt, true, cond, ◌&&◌, ◌||◌, arith}
use Rattle.vt_spec.proofs.Common.{Permit, Task, World, common_steps, or_right}
use Rattle.vt_laws_worlds.proofs.permits.taken.TakenNumbers.{counts_go_on}
use Rattle.vt_laws_worlds.specs.Permits.Taken.{HandedCountsGoOn, counts_taken, handed_to, numbers_taken}
use Rattle.vt_laws_trees.specs.Runs.Handed.{counts_from, is_counted_before}

-- a count that is taken is before those that are left over
pub counted_here : (next taken k : ℕ) → k < taken → is_counted_before (next + taken) (counts_from next k) ≡ true
counted_here next taken k low = grind (arith, common_steps, taken, or_right, eq-eqb, lt-ltb)

even_counted : (next inode : ℕ) → inode % 2 ≡ 0 → is_counted_before next inode ≡ true
even_counted next inode even = λ i. eq-eqb (inode % 2) 0 even i || (inode % 4 == 1 && nat_lt (inode / 4) next)

lower : (k : ℕ) → k < 3 → (k ≡ 2 → ⊥) → k < 2
lower zero low other = omega arith
lower (suc zero) low other = omega arith
lower (suc (suc zero)) low other = absurd (other refl)
lower (suc (suc (suc k))) low other = absurd (omega arith)

module _ (next inode : ℕ) (even : inode % 2 ≡ 0) (world : World ℕ) (task : Task ℕ) where
  abbrev pub Taken : Permit ℕ → Type 0
  Taken permit = (k : ℕ) → k < numbers_taken world task permit
      → is_counted_before (next + counts_taken world task permit) (handed_to next inode permit k) ≡ true

  first_taken : (k : ℕ) → k < 1 → is_counted_before (next + 0) (cond (k == 0) inode (counts_from next k)) ≡ true
  first_taken k low = grind (arith, common_steps, even_counted, true≢false, eq-eqb)

  third_taken : (k : ℕ) → k < 3 → is_counted_before (next + 2) (cond (k == 2) inode (counts_from next k)) ≡ true
  third_taken k low = grind (arith, common_steps, even_counted, counted_here, lower, true≢false, eq-eqb)

  pub taken : (permit : Permit ℕ) → Taken permit
  taken permit k low = grind (arith, common_steps, counted_here, first_taken, third_taken)

pub handed_counts_go_on : HandedCountsGoOn
handed_counts_go_on next inode world task permit even whole plain ungrouped called keeps is =
    counts_go_on next (next + counts_taken world task permit) world task permit (handed_to next inode permit)
    (omega arith) whole plain ungrouped called keeps is (taken next inode even world task permit)
