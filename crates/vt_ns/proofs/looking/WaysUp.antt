-- The directories above a directory are the same, in whatever order the numbers stand beside its tree.
use Rattle.std.proofs.Common.{◌≡◌, refl, sym, ap, subst, ◌∙◌, ⊎_elim, true≢false, ◌+◌, ◌-◌, arith, ℕ, zero, suc, nat_eq, Bool, true, false, not, ◌||◌, List, [], ◌∷◌, length, Option, Some, None, is_some}
use Rattle.vt_spec.proofs.Common.{FileTree, Tree, ancestors, cases_lt, chain, chain_ends, is_among, is_directory_under, is_removed, named_parent}
use Rattle.vt_ns.proofs.Common.{IsFileTree}
use Rattle.vt_ns.proofs.looking.LostKept.{ended, lie_under_root, root_has_none}

-- where the way up ends, more steps lead to nothing more
settled : (up : ℕ → Option ℕ) (end n directory : ℕ) → up end ≡ None → is_among nat_eq end (chain n up directory) ≡ true
    → (k : ℕ) → chain (n + k) up directory ≡ chain n up directory
settled up end n directory none met zero = ap (λ steps. chain steps up directory) same
  where
    same : n + 0 ≡ n
    same = omega arith
settled up end n directory none met (suc k) =
    let before = settled up end n directory none met k in
    ap (λ steps. chain steps up directory) more
    ∙ ended up end (n + k) directory none (ap (is_among nat_eq end) before ∙ met) ∙ before
  where
    more : n + suc k ≡ suc (n + k)
    more = omega arith

same_steps : (up : ℕ → Option ℕ) (end n m directory : ℕ) → up end ≡ None
    → is_among nat_eq end (chain n up directory) ≡ true → is_among nat_eq end (chain m up directory) ≡ true
    → chain n up directory ≡ chain m up directory
same_steps up end n m directory none met other = ⊎_elim (λ lt. let whole : n ≡ m + (n - m) = omega (arith, lt) in
    ap (λ k. chain k up directory) whole ∙ settled up end m directory none other (n - m))
    (λ le. let whole : m ≡ n + (m - n) = omega (arith, le) in
    sym (ap (λ k. chain k up directory) whole ∙ settled up end n directory none met (m - n))) (cases_lt m n)

-- a directory without a name has none above it
alone : (up : ℕ → Option ℕ) (directory : ℕ) → up directory ≡ None → (n : ℕ) → chain n up directory ≡ directory ∷ []
alone up directory none zero = refl
alone up directory none (suc n) = chain_ends up n directory none

nameless : (b : Bool) (o : Option ℕ) → not (b || is_some o) ≡ true → o ≡ None
nameless true o e = absurd (true≢false (sym e))
nameless false None e = refl
nameless false (Some above) e = absurd (true≢false (sym e))

module _ (tree : Tree ℕ) (one other : List ℕ) (is : IsFileTree (record { tree = tree; numbers = one }))
    (are : IsFileTree (record { tree = tree; numbers = other })) (directory : ℕ) where
  abbrev up : ℕ → Option ℕ
  up = named_parent nat_eq tree

  by_numbers : ancestors nat_eq (record { tree = tree; numbers = one }) directory
      ≡ ancestors nat_eq (record { tree = tree; numbers = other }) directory
  by_numbers = by (is_removed nat_eq tree directory) refl
    where
      by : (b : Bool) → is_removed nat_eq tree directory ≡ b → chain (length one) (named_parent nat_eq tree) directory
          ≡ chain (length other) (named_parent nat_eq tree) directory
      by true e =
          let none = nameless (nat_eq directory tree.root) (named_parent nat_eq tree directory) e in
          alone (named_parent nat_eq tree) directory none (length one)
          ∙ sym (alone (named_parent nat_eq tree) directory none (length other))
      by false e = same_steps (named_parent nat_eq tree) tree.root (length one) (length other) directory
          (root_has_none (record { tree = tree; numbers = one }) is)
          (lie_under_root (record { tree = tree; numbers = one }) is directory e)
          (lie_under_root (record { tree = tree; numbers = other }) are directory e)

-- so two lists of numbers beside one tree
pub same_above : (one other : FileTree ℕ) → IsFileTree one → IsFileTree other → one.tree ≡ other.tree
    → (directory : ℕ) → ancestors nat_eq one directory ≡ ancestors nat_eq other directory
same_above one other is are same directory = by_numbers one.tree one.numbers other.numbers is
    (subst (λ (tree : Tree ℕ). IsFileTree (record { tree = tree; numbers = other.numbers })) (sym same) are) directory
    ∙ ap (λ (tree : Tree ℕ). ancestors nat_eq (record { tree = tree; numbers = other.numbers }) directory) same

pub same_under : (one other : FileTree ℕ) → IsFileTree one → IsFileTree other → one.tree ≡ other.tree
    → (top directory : ℕ) → is_directory_under nat_eq one top directory ≡ is_directory_under nat_eq other top directory
same_under one other is are same top directory = ap (is_among nat_eq top) (same_above one other is are same directory)
