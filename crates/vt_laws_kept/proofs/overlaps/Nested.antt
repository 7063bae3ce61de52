-- Two directories above one lie one under the other; and a file lies where a directory that has a name for it does.
use Rattle.std.proofs.Common.{arith, ◌≡◌, refl, sym, ap, subst, true≢false, ◌⊎◌, ⊎_elim, inl, inr, ℕ, zero, suc, nat_eq, eqb-true, eq-eqb, Bool, true, false, ◌∙◌, ◌||◌, [], ◌∷◌, length, Option, Some, None, is_some}
use Rattle.vt_spec.proofs.Common.{FileTree, Node, and_true_left, any_among, any_from_among, chain, common_steps, is_among, is_directory_under, list_any, named_parent, or_cases, same_Some, same_truth, targets_in}
use Rattle.vt_spec.proofs.Lists.{among_numbers}
use Rattle.vt_laws_kept.specs.Overlaps.{FilesLieByTheirNames, names_under}

module _ (next : ℕ → Option ℕ) where
  -- a chain has its start
  starts : (most top from : ℕ) → nat_eq top from ≡ true → is_among nat_eq top (chain most next from) ≡ true
  starts zero top from e = ap (λ b. b || false) e
  starts (suc most) top from e = by (next from)
    where
      by : (o : Option ℕ) → is_among nat_eq top (elim o [ None ↦ from ∷ [] | Some b ↦ from ∷ chain most next b ])
          ≡ true
      by None = ap (λ b. b || false) e
      by (Some b) = ap (λ c. c || is_among nat_eq top (chain most next b)) e

  -- one step more keeps what is there
  longer : (most top from : ℕ) → is_among nat_eq top (chain most next from) ≡ true
      → is_among nat_eq top (chain (suc most) next from) ≡ true
  longer zero top from h = starts 1 top from (⊎_elim (λ e. e) (λ e. absurd cc) (or_cases (nat_eq top from) _ h))
  longer (suc most) top from h = by (next from) h (λ b. longer most top b)
    where
      by : (o : Option ℕ) → is_among nat_eq top (elim o [ None ↦ from ∷ [] | Some b ↦ from ∷ chain most next b ])
          ≡ true
          → ((b : ℕ) → is_among nat_eq top (chain most next b) ≡ true
          → is_among nat_eq top (chain (suc most) next b) ≡ true)
          → is_among nat_eq top (elim o [ None ↦ from ∷ [] | Some b ↦ from ∷ chain (suc most) next b ]) ≡ true
      by None g rest = g
      by (Some b) g rest = grind (arith, common_steps, rest b)

  -- of two in a chain one is in the chain from the other
  both_above : (most one other from : ℕ) → is_among nat_eq one (chain most next from) ≡ true
      → is_among nat_eq other (chain most next from) ≡ true
      → (is_among nat_eq one (chain most next other) ≡ true) ⊎ (is_among nat_eq other (chain most next one) ≡ true)
  both_above zero one other from g h = inl (starts 0 one other (grind (arith, common_steps, eqb-true, eq-eqb)))
  both_above (suc most) one other from g h = by (nat_eq one from) refl (nat_eq other from) refl
      (both_above most one other)
    where
      later : (top : ℕ) → nat_eq top from ≡ false → is_among nat_eq top (chain (suc most) next from) ≡ true
          → (b : ℕ) × (next from ≡ Some b) × (is_among nat_eq top (chain most next b) ≡ true)
      later top e h = goes (next from) refl h
        where
          goes : (o : Option ℕ) → next from ≡ o
              → is_among nat_eq top (elim o [ None ↦ from ∷ [] | Some b ↦ from ∷ chain most next b ]) ≡ true
              → (b : ℕ) × (next from ≡ Some b) × (is_among nat_eq top (chain most next b) ≡ true)
          goes None f h = absurd (true≢false (sym h ∙ ap (λ b. b || false) e))
          goes (Some b) f h = (b, f, sym (ap (λ c. c || is_among nat_eq top (chain most next b)) e) ∙ h)

      by : (p : Bool) → nat_eq one from ≡ p → (q : Bool) → nat_eq other from ≡ q
          → ((b : ℕ) → is_among nat_eq one (chain most next b) ≡ true → is_among nat_eq other (chain most next b)
          ≡ true
          → (is_among nat_eq one (chain most next other) ≡ true) ⊎ (is_among nat_eq other (chain most next one)
          ≡ true))
          → (is_among nat_eq one (chain (suc most) next other) ≡ true)
          ⊎ (is_among nat_eq other (chain (suc most) next one) ≡ true)
      by true e q f above =
          inr (subst (λ n. is_among nat_eq other (chain (suc most) next n) ≡ true) (sym (eqb-true one from e)) h)
      by false e true f above =
          inl (subst (λ n. is_among nat_eq one (chain (suc most) next n) ≡ true) (sym (eqb-true other from f)) g)
      by false e false f above =
          let up = later one e g in
          let also = later other f h in
          let same : also.0 ≡ up.0 = same_Some also.0 up.0 (sym also.1 ∙ up.1) in
          ⊎_elim (λ in_other. inl (longer most one other in_other)) (λ in_one. inr (longer most other one in_one))
          (above up.0 up.2
          (subst (λ n. is_among nat_eq other (chain most next n) ≡ true) same also.2))

pub both_over : (files : FileTree ℕ) (one other from : ℕ) → is_directory_under nat_eq files one from ≡ true
    → is_directory_under nat_eq files other from ≡ true
    → (is_directory_under nat_eq files one other ≡ true) ⊎ (is_directory_under nat_eq files other one ≡ true)
both_over files one other from = both_above (named_parent nat_eq files.tree) (length files.numbers) one other from

-- what has an entry is there
pub has_entry_there : (o : Option (Node ℕ)) (number : ℕ) → is_among nat_eq number (targets_in o) ≡ true
    → is_some o ≡ true
has_entry_there o number h = grind (arith, common_steps, true≢false)

pub files_lie_by_their_names : FilesLieByTheirNames
files_lie_by_their_names files top file directories listed all = same_truth _ _ forth back
  where
    forth : list_any (names_under files top file) files.numbers ≡ true
        → list_any (names_under files top file) directories ≡ true
    forth e =
        let found = any_among (names_under files top file) files.numbers e in
        any_from_among _ directories found.0
        (among_numbers directories found.0 (all found.0 (and_true_left _ _ found.2))) found.2

    back : list_any (names_under files top file) directories ≡ true
        → list_any (names_under files top file) files.numbers ≡ true
    back e =
        let found = any_among (names_under files top file) directories e in
        any_from_among _ files.numbers found.0 (among_numbers files.numbers found.0
        (listed found.0 ∙ has_entry_there (files.tree.node found.0) file (and_true_left _ _ found.2))) found.2
