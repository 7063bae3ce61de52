-- What lies under a directory of a tree is led to from it.
use Rattle.std.proofs.Common.{◌≡◌, refl, ap, subst, eqb-true, ⊎_elim, ℕ, zero, suc, nat_eq, Bool, true, false, cond, ◌&&◌, List, [], ◌∷◌, ◌++◌, length, Option, Some, None}
use Rattle.vt_spec.proofs.Common.{FileTree, IsDirectory, IsTree, ListsNumbers, and_true_left, and_true_right, any_among, chain, entry_at, entry_from, has_entry_to, is_among, is_directory_node, is_directory_under, is_file_under, is_under, led, led-append, named_parent, none_is_some, or_cases, parent_in, same_Some, when}
use Rattle.vt_laws_trees.proofs.layers.directories.Lower.{led_below}
use Rattle.vt_laws_trees.proofs.layers.locked.Apart.{under_itself}

module _ (files : FileTree ℕ) (tree : IsTree files.tree) (top : ℕ) where
  abbrev pub Led : ℕ → Type 0
  Led object = (path : List (List ℕ)) × (led files.tree top path ≡ Some object)

  -- one name further
  pub led_on : (directory : ℕ) (name : List ℕ) (object : ℕ) → Led directory
      → entry_at files.tree directory name ≡ Some object → Led object
  led_on directory name object way e = (way.0 ++ name ∷ [], led-append files.tree top way.0 name _ object way.1 e)

  -- the parent that a directory has by its name
  parent_entry : (d b : ℕ) → named_parent nat_eq files.tree d ≡ Some b → has_entry_to nat_eq files.tree b d ≡ true
  parent_entry d b e = by (nat_eq d files.tree.root) _ refl e
    where
      by : (p q : Bool) → has_entry_to nat_eq files.tree (parent_in d (files.tree.node d)) d ≡ q
          → cond p None (when q (parent_in d (files.tree.node d))) ≡ Some b → has_entry_to nat_eq files.tree b d ≡ true
      by true q h e = none_is_some b e
      by false true h e = subst (λ n. has_entry_to nat_eq files.tree n d ≡ true)
          (same_Some (parent_in d (files.tree.node d)) b e) h
      by false false h e = none_is_some b e

  by_chain : (most d : ℕ) → is_among nat_eq top (chain most (named_parent nat_eq files.tree) d) ≡ true → Led d
  by_chain zero d h = ⊎_elim (λ e. ([], ap Some (eqb-true top d e))) (λ e. absurd cc) (or_cases (nat_eq top d) false h)
  by_chain (suc most) d h = by (named_parent nat_eq files.tree d) refl h (λ b g. by_chain most b g)
    where
      by : (o : Option ℕ) → named_parent nat_eq files.tree d ≡ o
          → is_among nat_eq top (elim o [ None ↦ d ∷ [] | Some b ↦ d ∷ chain most (named_parent nat_eq files.tree) b ])
          ≡ true
          → ((b : ℕ) → is_among nat_eq top (chain most (named_parent nat_eq files.tree) b) ≡ true → Led b) → Led d
      by None e h rest = ⊎_elim (λ f. ([], ap Some (eqb-true top d f))) (λ f. absurd cc)
          (or_cases (nat_eq top d) false h)
      by (Some b) e h rest = ⊎_elim (λ f. ([], ap Some (eqb-true top d f)))
          (λ f. let name = entry_from files.tree tree b d (parent_entry d b e) in led_on b name.0 d (rest b f) name.1)
          (or_cases (nat_eq top d) (is_among nat_eq top (chain most (named_parent nat_eq files.tree) b)) h)

  pub under_led : (object : ℕ) → is_under nat_eq files top object ≡ true → Led object
  under_led object h = by (is_directory_node (files.tree.node object)) h
    where
      by : (b : Bool) → cond b (is_directory_under nat_eq files top object) (is_file_under nat_eq files top object)
          ≡ true → Led object
      by true e = by_chain (length files.numbers) object e
      by false e =
          let found = any_among (λ directory. has_entry_to nat_eq files.tree directory object
          && is_directory_under nat_eq files top directory) files.numbers e in
          let name = entry_from files.tree tree found.0 object (and_true_left _ _ found.2) in
          led_on found.0 name.0 object (by_chain (length files.numbers) found.0 (and_true_right _ _ found.2)) name.1

  -- and what is led to lies under it
  pub led_under : ListsNumbers nat_eq files → IsDirectory files.tree top → (object : ℕ) → Led object
      → is_under nat_eq files top object ≡ true
  led_under numbers is object way = led_below files tree numbers top top way.0 object
      (cc (under_itself files top is)) is way.1
