-- A new entry before the old one goes, or after: the tree is the same.
use Rattle.std.proofs.Common.{◌≡◌, ◌≢◌, ℕ, Bool, true, false, cond, not, List, Option, Some, None, nat_eq, eq-eqb, eqb-true, ne_eqb, refl, sym, ap, subst, ◌∙◌, ⊎_elim, true≢false, is_some, bytes_eq, is_eq}
use Rattle.vt_spec.proofs.Common.{Content, Directory, Entries, Inode, Inodes, MayReplace, Node, Regular, Symlink, T_from_true, Tree, Whiteout, bytes_decides, entries_in, entries_of, entry_at, entry_named, entry_named-with_entry, entry_named-without_entry, eq_by_cmp, eqb_tells, inode_with_node, is_sorted, is_sorted-put, is_sorted-where_key, name_cmp, nat_list_cmp_total, node_in, node_with_entry, node_with_parent, node_without_entry, same_entries, tree_of, with_changed, with_entries, with_entry, without_entry}
use Rattle.vt_spec.proofs.Nodes.{same_name}

module _ (old new : List ℕ) (object : ℕ) (differ : old ≢ new) where
  other_name : (q : List ℕ) → q ≡ new → bytes_eq q old ≡ false
  other_name q same = by (bytes_eq q old) refl
    where
      by : (b : Bool) → bytes_eq q old ≡ b → bytes_eq q old ≡ false
      by true e = absurd (differ (sym ((bytes_decides q old).0 e) ∙ same))
      by false e = e

  swapped : (q : List ℕ) (entries : Entries ℕ) → entry_named q (without_entry old (with_entry new object entries))
      ≡ entry_named q (with_entry new object (without_entry old entries))
  swapped q entries = entry_named-without_entry q old (with_entry new object entries)
      ∙ ap (λ found. cond (not (bytes_eq q old)) found None) (entry_named-with_entry q new object entries)
      ∙ by (eq_by_cmp name_cmp q new) refl ∙ ap (λ found. cond (eq_by_cmp name_cmp q new) (Some object) found)
      (sym (entry_named-without_entry q old entries))
      ∙ sym (entry_named-with_entry q new object (without_entry old entries))
    where
      by : (b : Bool) → eq_by_cmp name_cmp q new ≡ b
          → cond (not (bytes_eq q old)) (cond b (Some object) (entry_named q entries)) None
          ≡ cond b (Some object) (cond (not (bytes_eq q old)) (entry_named q entries) None)
      by true e = ap (λ b. cond (not b) (Some object) None) (other_name q (same_name q new e))
      by false e = refl

  -- in entries in order
  entries_swapped : (entries : Entries ℕ) → is_sorted name_cmp entries ≡ true
      → without_entry old (with_entry new object entries) ≡ with_entry new object (without_entry old entries)
  entries_swapped entries sorted =
      let in_order = T_from_true _ sorted in
      same_entries name_cmp nat_list_cmp_total (λ x y tied. same_name x y (ap is_eq tied))
      (without_entry old (with_entry new object entries)) (with_entry new object (without_entry old entries))
      (is_sorted-where_key name_cmp (λ x. not (bytes_eq x old)) (with_entry new object entries)
      (is_sorted-put name_cmp nat_list_cmp_total new object entries in_order))
      (is_sorted-put name_cmp nat_list_cmp_total new object (without_entry old entries)
      (is_sorted-where_key name_cmp (λ x. not (bytes_eq x old)) entries in_order)) (λ q. swapped q entries)

  content_swapped : (content : Content ℕ) → is_sorted name_cmp (entries_of content) ≡ true
      → (let grown = with_entries content (with_entry new object (entries_of content)) in with_entries grown
      (without_entry old (entries_of grown)))
      ≡ (let left = with_entries content (without_entry old (entries_of content)) in with_entries left
      (with_entry new object (entries_of left)))
  content_swapped (Directory parent entries opaque) sorted = ap (λ es. Directory parent es opaque)
      (entries_swapped entries sorted)
  content_swapped (Regular bytes) sorted = refl
  content_swapped (Symlink text) sorted = refl
  content_swapped Whiteout sorted = refl

  abbrev put_in : Option (Inode ℕ) → Option (Inode ℕ)
  put_in inode = inode_with_node (node_with_entry new object (node_in inode)) inode

  abbrev take_out : Option (Inode ℕ) → Option (Inode ℕ)
  take_out inode = inode_with_node (node_without_entry old (node_in inode)) inode

  inode_swapped : (inode : Option (Inode ℕ)) → is_sorted name_cmp (entries_in (node_in inode)) ≡ true
      → take_out (put_in inode) ≡ put_in (take_out inode)
  inode_swapped None sorted = refl
  inode_swapped (Some inode) sorted =
      ap (λ content. Some (record { node = record { attr = inode.node.attr; content = content }; uses = inode.uses }))
      (content_swapped inode.node.content sorted)

-- Two changes in either order
module _ (inodes : Inodes ℕ) (f g : Option (Node ℕ) → Option (Node ℕ)) where
  abbrev by_f : Option (Inode ℕ) → Option (Inode ℕ)
  by_f inode = inode_with_node (f (node_in inode)) inode

  abbrev by_g : Option (Inode ℕ) → Option (Inode ℕ)
  by_g inode = inode_with_node (g (node_in inode)) inode

  -- of two inodes
  changes_apart : (a b : ℕ) → a ≢ b → with_changed nat_eq (with_changed nat_eq inodes a f) b g
      ≡ with_changed nat_eq (with_changed nat_eq inodes b g) a f
  changes_apart a b differ = λ i. record { root = inodes.root; inode = λ other. at other i; count = inodes.count }
    where
      by : (other : ℕ) (p q : Bool) → nat_eq other b ≡ p → nat_eq other a ≡ q → (x y z : Option (Inode ℕ))
          → cond p x (cond q y z) ≡ cond q y (cond p x z)
      by other true true is_b is_a x y z = absurd (differ (sym (eqb-true other a is_a) ∙ eqb-true other b is_b))
      by other true false is_b is_a x y z = refl
      by other false q is_b is_a x y z = refl

      at : (other : ℕ) → (with_changed nat_eq (with_changed nat_eq inodes a f) b g).inode other
          ≡ (with_changed nat_eq (with_changed nat_eq inodes b g) a f).inode other
      at other = ap (λ t. cond (nat_eq other b) (by_g (cond t (by_f (inodes.inode a)) (inodes.inode b)))
          (cond (nat_eq other a) (by_f (inodes.inode a)) (inodes.inode other))) (ne_eqb b a (λ same. differ (sym same)))
          ∙ by other (nat_eq other b) (nat_eq other a) refl refl (by_g (inodes.inode b)) (by_f (inodes.inode a))
          (inodes.inode other) ∙ ap (λ t. cond (nat_eq other a) (by_f (cond t (by_g (inodes.inode b)) (inodes.inode a)))
          (cond (nat_eq other b) (by_g (inodes.inode b)) (inodes.inode other))) (sym (ne_eqb a b differ))

  -- of one inode, where they do not meet
  changes_at_one : (number : ℕ) → by_g (by_f (inodes.inode number)) ≡ by_f (by_g (inodes.inode number))
      → with_changed nat_eq (with_changed nat_eq inodes number f) number g
      ≡ with_changed nat_eq (with_changed nat_eq inodes number g) number f
  changes_at_one number apart = λ i. record { root = inodes.root; inode = λ other. at other i; count = inodes.count }
    where
      by : (p : Bool) (x y y' z : Option (Inode ℕ)) → cond p x (cond p y z) ≡ cond p x (cond p y' z)
      by true x y y' z = refl
      by false x y y' z = refl

      at : (other : ℕ) → (with_changed nat_eq (with_changed nat_eq inodes number f) number g).inode other
          ≡ (with_changed nat_eq (with_changed nat_eq inodes number g) number f).inode other
      at other = ap (λ t. cond (nat_eq other number) (by_g (cond t (by_f (inodes.inode number)) (inodes.inode number)))
          (cond (nat_eq other number) (by_f (inodes.inode number)) (inodes.inode other))) (eq-eqb number number refl)
          ∙ ap (λ inode. cond (nat_eq other number) inode
          (cond (nat_eq other number) (by_f (inodes.inode number)) (inodes.inode other))) apart
          ∙ by (nat_eq other number) (by_f (by_g (inodes.inode number))) (by_f (inodes.inode number))
          (by_g (inodes.inode number)) (inodes.inode other)
          ∙ ap (λ t. cond (nat_eq other number) (by_f (cond t (by_g (inodes.inode number)) (inodes.inode number)))
          (cond (nat_eq other number) (by_g (inodes.inode number)) (inodes.inode other)))
          (sym (eq-eqb number number refl))

-- what may be replaced is another object
pub replaced_other : (tree : Tree ℕ) (object : ℕ) (found : Option ℕ) → MayReplace tree object found
    → found ≢ Some object
replaced_other tree object None may e = absurd (true≢false (sym (ap is_some e)))
replaced_other tree object (Some other) may e = may.0 cc

module _ (inodes : Inodes ℕ) (from : ℕ) (old : List ℕ) (to : ℕ) (new : List ℕ) (object : ℕ)
    (sorted : is_sorted name_cmp (entries_in (node_in (inodes.inode to))) ≡ true)
    (named : entry_at (tree_of inodes) from old ≡ Some object)
    (replaced_other : entry_at (tree_of inodes) to new ≢ Some object) where
  -- the new entry first, or last
  entries_either_way : with_changed nat_eq (with_changed nat_eq inodes to (node_with_entry new object)) from
      (node_without_entry old)
      ≡ with_changed nat_eq (with_changed nat_eq inodes from (node_without_entry old)) to (node_with_entry new object)
  entries_either_way = ⊎_elim (λ same.
      let names_differ : old ≢ new = λ alike. replaced_other (ap (λ name. entry_at (tree_of inodes) to name) (sym alike)
      ∙ ap (λ d. entry_at (tree_of inodes) d old) (sym same.1) ∙ named) in
      subst
      (λ d. with_changed nat_eq (with_changed nat_eq inodes to (node_with_entry new object)) d (node_without_entry old)
      ≡ with_changed nat_eq (with_changed nat_eq inodes d (node_without_entry old)) to (node_with_entry new object))
      (sym same.1) (changes_at_one inodes (node_with_entry new object) (node_without_entry old) to
      (inode_swapped old new object names_differ (inodes.inode to) sorted)))
      (λ apart. changes_apart inodes (node_with_entry new object) (node_without_entry old) to from
      (λ same. apart.1 (sym same))) (eqb_tells from to)

  -- and then the parent
  pub moved : (entered left placed : Inodes ℕ) → entered ≡ with_changed nat_eq inodes to (node_with_entry new object)
      → left ≡ with_changed nat_eq entered from (node_without_entry old)
      → placed ≡ with_changed nat_eq left object (node_with_parent to) → placed ≡ with_changed nat_eq
      (with_changed nat_eq (with_changed nat_eq inodes from (node_without_entry old)) to (node_with_entry new object))
      object (node_with_parent to)
  moved entered left placed first second third = third ∙ ap (λ i. with_changed nat_eq i object (node_with_parent to))
      (second ∙ ap (λ i. with_changed nat_eq i from (node_without_entry old)) first ∙ entries_either_way)
