-- A copy more in a tree: what is there stays, and each entry leads to what is there.
use Rattle.std.proofs.Common.{◌≡◌, ◌≢◌, ◌∙◌, ◌∷◌, ◌||◌, [], ⊎_elim, arith, ap, Bool, cond, eqb-true, Equal, false, Greater, is_some, Less, List, map, nat_eq, None, Option, refl, Some, sym, true, true≢false, ℕ}
use Rattle.vt_spec.proofs.Common.{Entries, by_order, has_entry_to, is_among, or_right, FileTree, Inode, Inodes, Make, Node, Tree, changed, common_steps, eqb_tells, entries_in, entries_of, entries-node_with_entry, inode_with_node, is_some-node_with_entry, name_cmp, node_in, node_other, node_set, node_with_entry, tree_of}
use Rattle.std.specs.declared.cmp.Ordering.{Ordering}
use Rattle.vt_spec.specs.Inodes as counting
use Rattle.vt_spec.specs.Tree.{with_entry, with_node, with_object}
use Rattle.vt_spec.specs.TreeInvariant.{IsDirectory}
use Rattle.vt_copyup.specs.Plans.{EntriesAreThere}

-- an entry more leads to its number, and each other one where one led before
pub put_targets : (name : List ℕ) (number k : ℕ) → nat_eq k number ≡ false → (entries : Entries ℕ)
    → is_among nat_eq k (map (λ x. x.1) (with_entry name number entries)) ≡ true
    → is_among nat_eq k (map (λ x. x.1) entries) ≡ true
put_targets name number k other [] e = absurd (true≢false (sym e ∙ ap (λ b. b || false) other))
put_targets name number k other (first ∷ entries) e =
    by (name_cmp name first.0) e (put_targets name number k other entries)
  where
    by : (o : Ordering)
        → is_among nat_eq k (map (λ x. x.1) (by_order o ((name, number) ∷ first ∷ entries)
        ((first.0, number) ∷ entries) (first ∷ with_entry name number entries))) ≡ true
        → (is_among nat_eq k (map (λ x. x.1) (with_entry name number entries)) ≡ true
        → is_among nat_eq k (map (λ x. x.1) entries) ≡ true)
        → is_among nat_eq k (map (λ x. x.1) (first ∷ entries)) ≡ true
    by Less e rest = sym (ap (λ b. b || is_among nat_eq k (map (λ x. x.1) (first ∷ entries))) other) ∙ e
    by Equal e rest = or_right (nat_eq k first.1) _
        (sym (ap (λ b. b || is_among nat_eq k (map (λ x. x.1) entries)) other) ∙ e)
    by Greater e rest = grind (arith, common_steps)

module _ (tree : Tree ℕ) (directory : ℕ) (name : List ℕ) (number : ℕ) (node : Node ℕ)
    (in_directory : IsDirectory tree directory) (other : directory ≢ number) (empty : entries_of node.content ≡ []) where
  abbrev pub grown : Tree ℕ
  grown = with_object nat_eq tree directory name number node

  pub node_new : grown.node number ≡ Some node
  node_new = node_set (with_node nat_eq tree directory (node_with_entry name number (tree.node directory))) number
      (Some node)

  pub entries_new : entries_in (grown.node number) ≡ []
  entries_new = ap entries_in node_new ∙ empty

  entries_there : entries_in (grown.node directory) ≡ with_entry name number (entries_in (tree.node directory))
  entries_there = ap entries_in (node_other (with_node nat_eq tree directory
      (node_with_entry name number (tree.node directory))) number (Some node) directory other)
      ∙ ap entries_in (node_set tree directory (node_with_entry name number (tree.node directory)))
      ∙ entries-node_with_entry name number (tree.node directory) in_directory

  entries_elsewhere : (m : ℕ) → m ≢ number → m ≢ directory → entries_in (grown.node m) ≡ entries_in (tree.node m)
  entries_elsewhere m new here = ap entries_in (node_other (with_node nat_eq tree directory
      (node_with_entry name number (tree.node directory))) number (Some node) m new)
      ∙ ap entries_in (node_other tree directory (node_with_entry name number (tree.node directory)) m here)

  pub stays_there : (m : ℕ) → is_some (tree.node m) ≡ true → is_some (grown.node m) ≡ true
  stays_there m there = by (nat_eq m number) (nat_eq m directory) refl refl
    where
      by : (new here : Bool) → nat_eq m number ≡ new → nat_eq m directory ≡ here → is_some (grown.node m) ≡ true
      by new here e f = grind (arith, common_steps, is_some-node_with_entry)

  module _ (alive : EntriesAreThere tree) where
    there_after : (k : ℕ) → has_entry_to nat_eq grown directory k ≡ true → is_some (grown.node k) ≡ true
    there_after k e = by (nat_eq k number) refl (sym (ap (λ es. is_among nat_eq k (map (λ x. x.1) es)) entries_there) ∙ e)
      where
        by : (b : Bool) → nat_eq k number ≡ b
            → is_among nat_eq k (map (λ x. x.1) (with_entry name number (entries_in (tree.node directory)))) ≡ true
            → is_some (grown.node k) ≡ true
        by true same is = ap (λ m. is_some (grown.node m)) (eqb-true k number same) ∙ ap is_some node_new
        by false same is = stays_there k
            (alive directory k (put_targets name number k same (entries_in (tree.node directory)) is))

    pub alive_after : EntriesAreThere grown
    alive_after d k e = ⊎_elim (λ t. absurd (true≢false (sym e
        ∙ ap (λ m. has_entry_to nat_eq grown m k) t.1
        ∙ ap (λ es. is_among nat_eq k (map (λ x. x.1) es)) entries_new))) (λ t. ⊎_elim
        (λ s. there_after k (ap (λ m. has_entry_to nat_eq grown m k) (sym s.1) ∙ e))
        (λ s. stays_there k (alive d k
        (sym (ap (λ es. is_among nat_eq k (map (λ x. x.1) es)) (entries_elsewhere d t.1 s.1)) ∙ e)))
        (eqb_tells d directory)) (eqb_tells d number)

-- the tree of inodes changes as a tree
module _ (inodes : Inodes ℕ) (directory number : ℕ) (name : List ℕ) (node : Node ℕ) (other : directory ≢ number) where
  with_node_in : (inode : Option (Inode ℕ))
      → node_in (inode_with_node (node_with_entry name number (node_in inode)) inode)
      ≡ node_with_entry name number (node_in inode)
  with_node_in None = refl
  with_node_in (Some inode) = refl

  pub tree_grown : tree_of (counting.changed nat_eq inodes (Make directory name number node))
      ≡ with_object nat_eq (tree_of inodes) directory name number node
  tree_grown = λ i. record { root = inodes.root; node = λ m. by m (nat_eq m number) (nat_eq m directory) i }
    where
      by : (m : ℕ) (new here : Bool)
          → node_in (cond new (Some (record { node = node; uses = 1 })) (cond here (inode_with_node
          (node_with_entry name number (node_in (inodes.inode directory))) (inodes.inode directory)) (inodes.inode m)))
          ≡ cond new (Some node)
          (cond here (node_with_entry name number (node_in (inodes.inode directory))) (node_in (inodes.inode m)))
      by m true here = refl
      by m false true = with_node_in (inodes.inode directory)
      by m false false = refl

  pub tree_made : (files : FileTree ℕ) → files.tree ≡ tree_of inodes
      → with_object nat_eq (tree_of inodes) directory name number node
      ≡ (changed nat_eq files (Make directory name number node)).tree
  tree_made files same = λ i. record { root = (sym same i).root; node = λ m. at m i }
    where
      differ : nat_eq directory number ≡ false
      differ = grind (arith, common_steps)

      by : (m : ℕ) (new here : Bool) → nat_eq m number ≡ new → nat_eq m directory ≡ here
          → cond new (Some node) (cond here (node_with_entry name number (node_in (inodes.inode directory)))
          (node_in (inodes.inode m)))
          ≡ cond here (node_with_entry name number (cond (nat_eq directory number) (Some node)
          (node_in (inodes.inode directory)))) (cond new (Some node) (node_in (inodes.inode m)))
      by m true true e f = absurd (other (grind (arith, common_steps)))
      by m true false e f = refl
      by m false true e f = ap (λ b. node_with_entry name number (cond b (Some node)
          (node_in (inodes.inode directory)))) (sym differ)
      by m false false e f = refl

      at : (m : ℕ) → (with_object nat_eq (tree_of inodes) directory name number node).node m
          ≡ (changed nat_eq files (Make directory name number node)).tree.node m
      at m = by m (nat_eq m number) (nat_eq m directory) refl refl
          ∙ ap (λ (t : Tree ℕ). cond (nat_eq m directory) (node_with_entry name number
          (cond (nat_eq directory number) (Some node) (t.node directory)))
          (cond (nat_eq m number) (Some node) (t.node m))) (sym same)
