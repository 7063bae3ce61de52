-- What is kept by hash under numbers, in the order of the numbers.
use Rattle.std.specs.Prelude.{List, [], ◌∷◌, ℕ}
use Rattle.std.specs.FinMap.Entries.{put}
use Rattle.std.specs.Ordering.{nat_cmp}
use Rattle.std.specs.declared.cmp.Ordering.{Ordering}

-- keys are compared by their counts
abbrev pub cmp_by : {K : Type 0} → (K → ℕ) → K → K → Ordering
cmp_by count a b = nat_cmp (count a) (count b)

-- what is kept under keys, sorted by their counts
abbrev pub in_order_by : {K V : Type 0} → (K → ℕ) → List (K × V) → List (K × V)
in_order_by count [] = []
in_order_by count (kept ∷ rest) = put (cmp_by count) kept.0 kept.1 (in_order_by count rest)
