-- Numbers that stand beside a tree, in whatever order.
use Rattle.std.specs.Prelude.{List, false, nat_eq, ℕ, ◌≡◌}
use Rattle.std.specs.List.Sorted.{IsPermutation}
use Rattle.vt_spec.specs.Lists.{any_pair, is_among}

-- Two lists of the same numbers, each once, differ at most in their order.
abbrev pub SameNumbersArePermuted : Type 0
SameNumbersArePermuted =
    (one other : List ℕ) → any_pair nat_eq one ≡ false → any_pair nat_eq other ≡ false
    → ((number : ℕ) → is_among nat_eq number one ≡ is_among nat_eq number other) → IsPermutation one other
