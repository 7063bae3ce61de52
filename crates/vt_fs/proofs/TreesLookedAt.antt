-- Where an inode is not in a tree, nothing lies under it, and it lies under nothing.
use Rattle.std.proofs.Common.{◌≡◌, refl, sym, ap, ◌∙◌, true≢false, ℕ, zero, suc, nat_eq, ne_eqb, Bool, true, false, cond, not, ◌||◌, length, Option, Some, None, is_some}
use Rattle.vt_spec.proofs.Common.{FileTree, Node, Tree, chain, chain_ends, chain_goes_on, has_entry_to, is_among, is_directory_under, is_removed, named_parent, or-false, parent_in, targets_in, when}

one_number : (a b : ℕ) → Some a ≡ Some b → a ≡ b
one_number a b e = cc

module _ (tree : Tree ℕ) where
  -- what is not there has no parent
  pub nowhere_up : (number : ℕ) → tree.node number ≡ None → named_parent nat_eq tree number ≡ None
  nowhere_up number none = ap (λ o. cond (nat_eq number tree.root) None
      (when (is_among nat_eq number (targets_in (tree.node (parent_in number o)))) (parent_in number o))) none
      ∙ ap (λ o. cond (nat_eq number tree.root) None (when (is_among nat_eq number (targets_in o)) number)) none
      ∙ by (nat_eq number tree.root)
    where
      by : (b : Bool) → cond b None (when false number) ≡ None
      by true = refl
      by false = refl

  -- a parent is there
  pub parent_there : (number parent : ℕ) → named_parent nat_eq tree number ≡ Some parent
      → is_some (tree.node parent) ≡ true
  parent_there number parent up = by (nat_eq number tree.root) up
    where
      entered : (o : Option (Node ℕ)) → tree.node parent ≡ o → is_among nat_eq number (targets_in o) ≡ true
          → is_some o ≡ true
      entered None e h = absurd (true≢false (sym h))
      entered (Some node) e h = refl

      named : (b : Bool) → has_entry_to nat_eq tree (parent_in number (tree.node number)) number ≡ b
          → when b (parent_in number (tree.node number)) ≡ Some parent → is_some (tree.node parent) ≡ true
      named true h e = entered (tree.node parent) refl (ap (λ p. is_among nat_eq number (targets_in (tree.node p)))
          (sym (one_number (parent_in number (tree.node number)) parent e)) ∙ h)
      named false h e = absurd (true≢false (sym (ap is_some e)))

      by : (b : Bool) → cond b None (when (has_entry_to nat_eq tree (parent_in number (tree.node number)) number)
          (parent_in number (tree.node number))) ≡ Some parent → is_some (tree.node parent) ≡ true
      by true e = absurd (true≢false (sym (ap is_some e)))
      by false e = named (has_entry_to nat_eq tree (parent_in number (tree.node number)) number) refl e

  -- a number that is not there has lost its name
  pub nowhere_removed : (number : ℕ) → tree.node number ≡ None → nat_eq number tree.root ≡ false
      → is_removed nat_eq tree number ≡ true
  nowhere_removed number none other = (λ i. not (other i || is_some (nowhere_up number none i)))

  nothing_above : (top : ℕ) → tree.node top ≡ None → (n directory : ℕ)
      → is_among nat_eq top (chain n (named_parent nat_eq tree) directory) ≡ nat_eq top directory
  nothing_above top none zero directory = or-false (nat_eq top directory)
  nothing_above top none (suc n) directory = by (named_parent nat_eq tree directory) refl (nothing_above top none n)
    where
      by : (o : Option ℕ) → named_parent nat_eq tree directory ≡ o
          → ((parent : ℕ) → is_among nat_eq top (chain n (named_parent nat_eq tree) parent) ≡ nat_eq top parent)
          → is_among nat_eq top (chain (suc n) (named_parent nat_eq tree) directory) ≡ nat_eq top directory
      by None e rest = ap (is_among nat_eq top) (chain_ends (named_parent nat_eq tree) n directory e)
          ∙ or-false (nat_eq top directory)
      by (Some parent) e rest = ap (is_among nat_eq top) (chain_goes_on (named_parent nat_eq tree) n directory parent e)
          ∙ ap (λ b. nat_eq top directory || b) (rest parent ∙ ne_eqb top parent (λ same. true≢false
          (sym (parent_there directory parent e) ∙ ap (λ p. is_some (tree.node p)) (sym same) ∙ ap is_some none)))
          ∙ or-false (nat_eq top directory)

  only_itself : (top directory : ℕ) → tree.node directory ≡ None → (n : ℕ)
      → is_among nat_eq top (chain n (named_parent nat_eq tree) directory) ≡ nat_eq top directory
  only_itself top directory none zero = or-false (nat_eq top directory)
  only_itself top directory none (suc n) =
      ap (is_among nat_eq top) (chain_ends (named_parent nat_eq tree) n directory (nowhere_up directory none))
      ∙ or-false (nat_eq top directory)

pub under_nowhere : (files : FileTree ℕ) (top directory : ℕ) → files.tree.node top ≡ None
    → is_directory_under nat_eq files top directory ≡ nat_eq top directory
under_nowhere files top directory none = nothing_above files.tree top none (length files.numbers) directory

pub nowhere_under : (files : FileTree ℕ) (top directory : ℕ) → files.tree.node directory ≡ None
    → is_directory_under nat_eq files top directory ≡ nat_eq top directory
nowhere_under files top directory none = only_itself files.tree top directory none (length files.numbers)
