-- The directories above one end at the root, within as many steps as there are inodes.
use Rattle.std.proofs.Common.{◌≡◌, ◌≤◌, refl, sym, ap, subst, ◌∙◌, true≢false, arith, ℕ, zero, suc, nat_eq, eq-eqb, eqb-true, ne_eqb, Bool, true, false, cond, ◌||◌, List, [], ◌∷◌, length, Some, None}
use Rattle.vt_spec.proofs.Common.{FileTree, IsTree, ListsNumbers, chain, common_steps, directory_used, entry_to, has_entry_to, list_any, named_parent, parent_in, when}
use Rattle.vt_laws_trees.proofs.layers.layers.UpperLine.{ReachedIn, reached_directory}

-- No more distinct numbers than a list that has them all.
abbrev Distinct : List ℕ → Type 0
Distinct [] = Unit {0}
Distinct (n ∷ rest) = (list_any (nat_eq n) rest ≡ false) × Distinct rest

without_first : ℕ → List ℕ → List ℕ
without_first n [] = []
without_first n (m ∷ rest) = cond (nat_eq n m) rest (m ∷ without_first n rest)

length_without_first : (n : ℕ) (list : List ℕ) → list_any (nat_eq n) list ≡ true
    → length list ≡ suc (length (without_first n list))
unfolding without_first
length_without_first n [] e = cc
length_without_first n (m ∷ rest) e = grind (arith, common_steps, length_without_first n rest)

still_among : (q n : ℕ) (list : List ℕ) → nat_eq q n ≡ false → list_any (nat_eq q) list ≡ true
    → list_any (nat_eq q) (without_first n list) ≡ true
unfolding without_first
still_among q n [] differ e = e
still_among q n (m ∷ rest) differ e = grind (arith, common_steps, true≢false, eqb-true, still_among q n rest differ)

no_longer : (list all : List ℕ) → Distinct list
    → ((q : ℕ) → list_any (nat_eq q) list ≡ true → list_any (nat_eq q) all ≡ true) → length list ≤ length all
no_longer [] all distinct among = omega arith
no_longer (n ∷ rest) all distinct among = grind (
  arith,
  common_steps,
  still_among,
  length_without_first,
  eq-eqb,
  true≢false,
  eqb-true,
  no_longer rest (without_first n all) distinct.1,
)

module _ (files : FileTree ℕ) (tree : IsTree files.tree) where
  -- a directory is reached in one number of steps
  pub one_depth : (steps other directory : ℕ) → ReachedIn files.tree steps directory
      → ReachedIn files.tree other directory → steps ≡ other
  one_depth zero zero directory r s = refl
  one_depth zero (suc other) directory r s = absurd (tree.root_unnamed s.0 s.1 (s.3 ∙ ap Some r))
  one_depth (suc steps) zero directory r s = absurd (tree.root_unnamed r.0 r.1 (r.3 ∙ ap Some s))
  one_depth (suc steps) (suc other) directory r s = ap (λ n. suc n) (one_depth steps other r.0 r.2 (subst
      (ReachedIn files.tree other) (sym (tree.one_parent s.0 s.1 _ s.3 s.4) ∙ tree.one_parent r.0 r.1 _ r.3 r.4) s.2))

  -- its parent is the step before
  pub parent_of_reached : (steps directory : ℕ) (r : ReachedIn files.tree (suc steps) directory)
      → named_parent nat_eq files.tree directory ≡ Some r.0
  parent_of_reached steps directory r = cc (
    ne_eqb directory files.tree.root (λ e. tree.root_unnamed r.0 r.1 (r.3 ∙ ap Some e)),
    tree.one_parent r.0 r.1 directory r.3 r.4,
    entry_to files.tree r.0 r.1 directory r.3,
  )

  root_has_no_parent : (directory : ℕ) → directory ≡ files.tree.root → named_parent nat_eq files.tree directory ≡ None
  root_has_no_parent directory e = ap (λ b. cond b None (when (has_entry_to nat_eq files.tree
      (parent_in directory (files.tree.node directory)) directory) (parent_in directory (files.tree.node directory))))
      (eq-eqb directory files.tree.root e)

  -- Up to the root, what is above is reached in fewer steps, and all differ.
  pub up_at_root : (most directory : ℕ) → directory ≡ files.tree.root
      → chain most (named_parent nat_eq files.tree) directory ≡ directory ∷ []
  up_at_root zero directory e = refl
  up_at_root (suc most) directory e = grind (arith, common_steps, root_has_no_parent)

  pub up_from : (most steps directory : ℕ) (r : ReachedIn files.tree (suc steps) directory)
      → chain (suc most) (named_parent nat_eq files.tree) directory
      ≡ directory ∷ chain most (named_parent nat_eq files.tree) r.0
  up_from most steps directory r = ap (λ o. elim o as (λ _. List ℕ) [
    | None ↦ directory ∷ []
    | Some b ↦ directory ∷ chain most (named_parent nat_eq files.tree) b
  ]) (parent_of_reached steps directory r)

  abbrev pub IsAbove : ℕ → ℕ → Type 0
  IsAbove steps q = (fewer : ℕ) × (fewer ≤ steps) × ReachedIn files.tree fewer q

  pub all_above : (steps directory : ℕ) → ReachedIn files.tree steps directory → (q : ℕ)
      → list_any (nat_eq q) (chain steps (named_parent nat_eq files.tree) directory) ≡ true → IsAbove steps q
  all_above zero directory r q e = grind (arith, common_steps, eqb-true, true≢false)
  all_above (suc steps) directory r q e = by _ refl (cc (up_from steps steps directory r)) (all_above steps r.0 r.2 q)
    where
      more : IsAbove steps q → IsAbove (suc steps) q
      more above = (above.0, let h = above.1 in omega arith, above.2)

      by : (b : Bool) → nat_eq q directory ≡ b
          → (b || list_any (nat_eq q) (chain steps (named_parent nat_eq files.tree) r.0)) ≡ true
          → (list_any (nat_eq q) (chain steps (named_parent nat_eq files.tree) r.0) ≡ true → IsAbove steps q)
          → IsAbove (suc steps) q
      by true t e later = (
        suc steps,
        omega arith,
        subst (ReachedIn files.tree (suc steps)) (sym (eqb-true q directory t)) r,
      )
      by false t e later = more (later e)

  distinct_up : (steps directory : ℕ) → ReachedIn files.tree steps directory
      → Distinct (chain steps (named_parent nat_eq files.tree) directory)
  distinct_up zero directory r = (refl, tt)
  distinct_up (suc steps) directory r = subst Distinct (sym (up_from steps steps directory r)) (
    not_above (list_any (nat_eq directory) (chain steps (named_parent nat_eq files.tree) r.0)) refl,
    distinct_up steps r.0 r.2,
  )
    where
      not_above : (b : Bool) → list_any (nat_eq directory) (chain steps (named_parent nat_eq files.tree) r.0) ≡ b
          → list_any (nat_eq directory) (chain steps (named_parent nat_eq files.tree) r.0) ≡ false
      not_above false e = e
      not_above true e = higher (all_above steps r.0 r.2 directory e)
        where
          higher : IsAbove steps directory
              → list_any (nat_eq directory) (chain steps (named_parent nat_eq files.tree) r.0) ≡ false
          higher above =
              let same = one_depth (suc steps) above.0 directory r above.2 in
              let h = above.1 in
              absurd (let no : ⊥ = omega arith in no)

  length_up : (steps directory : ℕ) → ReachedIn files.tree steps directory
      → length (chain steps (named_parent nat_eq files.tree) directory) ≡ suc steps
  length_up zero directory r = refl
  length_up (suc steps) directory r = cc (up_from steps steps directory r, length_up steps r.0 r.2)

  -- so the steps from the root are fewer than the inodes
  pub depth_below : ListsNumbers nat_eq files → (steps directory : ℕ) → ReachedIn files.tree steps directory
      → suc steps ≤ length files.numbers
  depth_below numbers steps directory r =
      let counted = length_up steps directory r in
      let bounded = no_longer _ _ (distinct_up steps directory r) (λ q e. is_listed q (all_above steps _ r q e)) in
      omega arith
    where
      is_listed : (q : ℕ) → IsAbove steps q → list_any (nat_eq q) files.numbers ≡ true
      is_listed q above = numbers q ∙ directory_used files.tree q (reached_directory files tree above.0 q above.2)

  pub depth_bound : ListsNumbers nat_eq files → (steps directory : ℕ) → ReachedIn files.tree steps directory
      → steps ≤ length files.numbers
  depth_bound numbers steps directory r = let h = depth_below numbers steps directory r in omega arith
