-- Looks at counted inodes and at the tree.
use Rattle.std.proofs.Common.{arith, ◌≡◌, refl, sym, ap, ◌∙◌, ⊎_elim, ℕ, zero, suc, nat_eq, Bool, true, false, true≢false, cond, ◌||◌, List, [], ◌∷◌, Option, Some, None}
use Rattle.vt_spec.proofs.Common.{HasOwnParents, IsTree, Node, Tree, among_targets, cases_Bool, chain, common_steps, has_entry_to, is_among, is_directory_node, named_parent, or-false, parent_in, when}
use Rattle.vt_laws_mounts.specs.Counts.Looking.{CountedTreeIsTheTree, DirectoriesLieAlike}

pub counted_tree_is_the_tree : CountedTreeIsTheTree
counted_tree_is_the_tree world filesystem inodes counted =
    λ i. record { root = counted.root i; node = λ n. counted.node n i }

-- what is no directory is its own parent
own_parent : (own : ℕ) (o : Option (Node ℕ)) → is_directory_node o ≡ false → parent_in own o ≡ own
own_parent own o e = grind (arith, common_steps)

twice : (a : Bool) → (a || a) ≡ a
twice true = refl
twice false = refl

module _ (tree : Tree ℕ) (is : IsTree tree) (own : HasOwnParents tree) (top : ℕ) where
  abbrev above : ℕ → Option ℕ
  above d = cond (nat_eq d tree.root) None (Some (parent_in d (tree.node d)))

  abbrev named : ℕ → Option ℕ
  named = named_parent nat_eq tree

  abbrev among : List ℕ → Bool
  among list = is_among nat_eq top list

  abbrev next_of : (ℕ → List ℕ) → ℕ → Option ℕ → List ℕ
  next_of rest d o = elim o [ None ↦ d ∷ [] | Some b ↦ d ∷ rest b ]

  -- a directory without a name is its own parent
  parent_is_own : (d : ℕ) → has_entry_to nat_eq tree (parent_in d (tree.node d)) d ≡ false
      → parent_in d (tree.node d) ≡ d
  parent_is_own d unnamed = ⊎_elim (λ directory. own d directory (λ name. true≢false
      (sym (among_targets name.1 _ d name.2) ∙ ap (λ p. has_entry_to nat_eq tree p d)
      (sym (is.one_parent name.0 name.1 d name.2 directory)) ∙ unnamed))) (λ none. own_parent d _ none) (cases_Bool _)

  repeats : (d : ℕ) → above d ≡ Some d → (most : ℕ) → among (chain most above d) ≡ nat_eq top d
  repeats d self zero = or-false (nat_eq top d)
  repeats d self (suc most) = cc (repeats d self most, twice (nat_eq top d))

  alike : (most d : ℕ) → among (chain most above d) ≡ among (chain most named d)
  alike zero d = refl
  alike (suc most) d = at (nat_eq d tree.root) refl (has_entry_to nat_eq tree (parent_in d (tree.node d)) d) refl
      (alike most _) (λ self. repeats d self most)
    where
      at : (r : Bool) → nat_eq d tree.root ≡ r → (e : Bool) → has_entry_to nat_eq tree (parent_in d (tree.node d)) d ≡ e
          → among (chain most above (parent_in d (tree.node d))) ≡ among (chain most named (parent_in d (tree.node d)))
          → (above d ≡ Some d → among (chain most above d) ≡ nat_eq top d)
          → among (next_of (chain most above) d (cond r None (Some (parent_in d (tree.node d)))))
          ≡ among (next_of (chain most named) d (cond r None (when e (parent_in d (tree.node d)))))
      at r root e entry later self = grind (arith, common_steps, parent_is_own, twice, or-false)

pub directories_lie_alike : DirectoriesLieAlike
directories_lie_alike world filesystem inodes top directory is own counted =
    (λ i. is_among nat_eq top (chain (counted.count i) (λ d. cond (nat_eq d (counted.root i)) None
    (Some (parent_in d (counted.node d i)))) directory)) ∙ alike _ is own top _ _
