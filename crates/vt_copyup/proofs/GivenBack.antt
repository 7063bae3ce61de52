-- Promises that are given back one after the other.
use Rattle.std.proofs.Common.{◌≡◌, ◌∙◌, ◌+◌, ◌-◌, ◌∷◌, [], ap, arith, Bool, cond, false, nat_eq, refl, true, ℕ}
use Rattle.vt_fs.specs.FilesystemsValue.{Filesystems, changed_if, giving_back, with_changed}

pub given_in_turn : (count first second : ℕ) (trees : Filesystems)
    → with_changed count (giving_back second) (with_changed count (giving_back first) trees)
    ≡ with_changed count (giving_back (first + second)) trees
given_in_turn count first second [] = refl
given_in_turn count first second (entry ∷ rest) =
    λ i. by (nat_eq count entry.count) refl i ∷ given_in_turn count first second rest i
  where
    by : (b : Bool) → nat_eq count entry.count ≡ b
        → changed_if count (giving_back second) (cond b (giving_back first entry) entry)
        ≡ cond b (giving_back (first + second) entry) entry
    by true e = ap (λ b. cond b (giving_back second (giving_back first entry)) (giving_back first entry)) e
        ∙ (λ i. record entry { tree = record entry.tree { promised = same i } })
      where
        same : entry.tree.promised - first - second ≡ entry.tree.promised - (first + second)
        same = omega arith
    by false e = ap (λ b. cond b (giving_back second entry) entry) e
