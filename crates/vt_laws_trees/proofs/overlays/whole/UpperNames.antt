-- A name of a plain tree that is given to something else: as if it had been taken away first.
use Rattle.std.proofs.Common.{arith, ◌≡◌, ◌≢◌, refl, sym, ap, subst, ◌∙◌, true≢false, eqb-true, eq-eqb, ne_eqb, ℕ, nat_eq, Bool, true, false, not, cond, List, ⊎_elim, Option, Some, None, is_some, is_eq, bytes_eq}
use Rattle.vt_spec.proofs.Common.{Entries, FileTree, IsDirectory, IsReached, Node, Remove, T_from_true, bytes_decides, changed, changed_node, common_steps, entries_in, entries_in-no_directory, entry_at, entry_named, entry_named-with_entry, entry_named-without_entry, eq_by_cmp, eqb_tells, is_directory_node, is_sorted, is_sorted-put, is_sorted-where_key, name_cmp, nat_list_cmp_total, node_with_entry, node_with_parent, node_without_entry, same_entries, same_name-Equal, tied_itself, with_entry, with_inode, with_name, without_entry, without_name}
use Rattle.vt_laws_trees.proofs.overlays.whole.UpperGoes.{Goes, IsGood, change_reaches, goes_by, goes_none}
use Rattle.vt_spec.proofs.NodeChanges.{node_with_parent-no_directory}

sorted_without : (w : List ℕ) (es : Entries ℕ) → is_sorted name_cmp es ≡ true
    → Rattle.std.proofs.Common.T (is_sorted name_cmp (without_entry w es))
sorted_without w es h = is_sorted-where_key name_cmp (λ x. not (bytes_eq x w)) es (T_from_true _ h)

-- an entry in the place of another
pub with_over_without : (w : List ℕ) (k : ℕ) (es : Entries ℕ) → is_sorted name_cmp es ≡ true
    → with_entry w k (without_entry w es) ≡ with_entry w k es
with_over_without w k es h = same_entries name_cmp nat_list_cmp_total same_name-Equal _ _
    (is_sorted-put name_cmp nat_list_cmp_total w k (without_entry w es) (sorted_without w es h))
    (is_sorted-put name_cmp nat_list_cmp_total w k es (T_from_true _ h))
    (λ q. entry_named-with_entry q w k (without_entry w es) ∙ by q (eq_by_cmp name_cmp q w) refl
    ∙ sym (entry_named-with_entry q w k es))
  where
    by : (q : List ℕ) (b : Bool) → eq_by_cmp name_cmp q w ≡ b
        → cond b (Some k) (entry_named q (without_entry w es)) ≡ cond b (Some k) (entry_named q es)
    by q true e = refl
    by q false e =
        grind (arith, common_steps, entry_named-without_entry, bytes_eq, bytes_decides, tied_itself, nat_list_cmp_total)

-- a name that is not there is not taken away
pub without_none : (w : List ℕ) (es : Entries ℕ) → is_sorted name_cmp es ≡ true → entry_named w es ≡ None
    → without_entry w es ≡ es
without_none w es h none =
    same_entries name_cmp nat_list_cmp_total same_name-Equal _ _ (sorted_without w es h) (T_from_true _ h)
    (λ q. entry_named-without_entry q w es ∙ by q (bytes_eq q w) refl)
  where
    by : (q : List ℕ) (b : Bool) → bytes_eq q w ≡ b → cond (not b) (entry_named q es) None ≡ entry_named q es
    by q true e = sym (cc ((bytes_decides q w).0 e))
    by q false e = refl

-- of inodes
pub node_with_over_without : (w : List ℕ) (k : ℕ) (o : Option (Node ℕ)) → is_sorted name_cmp (entries_in o) ≡ true
    → node_with_entry w k (node_without_entry w o) ≡ node_with_entry w k o
node_with_over_without w k o h = grind (arith, common_steps, with_over_without)

pub node_without_none : (w : List ℕ) (o : Option (Node ℕ)) → is_sorted name_cmp (entries_in o) ≡ true
    → entry_named w (entries_in o) ≡ None → node_without_entry w o ≡ o
node_without_none w o h none = grind (arith, common_steps, without_none)

-- trees with the same inodes are the same
pub same_tree : (one other : FileTree ℕ) → one.tree.root ≡ other.tree.root → one.numbers ≡ other.numbers
    → ((k : ℕ) → one.tree.node k ≡ other.tree.node k) → one ≡ other
same_tree one other root numbers nodes =
    λ i. record { tree = record { root = root i; node = λ k. nodes k i }; numbers = numbers i }

-- a change that leaves an inode as it is changes nothing
pub unchanged_node : (files : FileTree ℕ) (number : ℕ) (change : Option (Node ℕ) → Option (Node ℕ))
    → change (files.tree.node number) ≡ files.tree.node number → changed_node nat_eq files number change ≡ files
unchanged_node files number change same = same_tree _ files refl refl (λ k. ⊎_elim (λ t. cc (t.0, t.1))
    (λ t. ap (λ b. cond b (change (files.tree.node number)) (files.tree.node k)) t.0) (eqb_tells k number))

-- A name given is the name given in exchange
module _ (files : FileTree ℕ) (d : ℕ) (w : List ℕ)
    (in_order : is_sorted name_cmp (entries_in (files.tree.node d)) ≡ true) where
  abbrev free : FileTree ℕ
  free = without_name nat_eq files d w

  there : free.tree.node d ≡ node_without_entry w (files.tree.node d)
  there = Rattle.vt_laws_trees.proofs.trees.ChangesNodes.changed_node_there files d (node_without_entry w)

  elsewhere : (k : ℕ) → k ≢ d → free.tree.node k ≡ files.tree.node k
  elsewhere k differ = Rattle.vt_laws_trees.proofs.trees.ChangesNodes.elsewhere files d (node_without_entry w) k differ

  pub freed_named : (k : ℕ) → with_name nat_eq free d w k ≡ with_name nat_eq files d w k
  freed_named k = grind (arith, common_steps, same_tree, there, node_with_over_without, in_order, elsewhere, eqb_tells)

  -- so it is with a new inode
  pub freed_made : (c : ℕ) (node : Node ℕ) → d ≢ c
      → with_name nat_eq (with_inode nat_eq free c node) d w c ≡ with_name nat_eq (with_inode nat_eq files c node) d w c
  freed_made c node differ = same_tree _ _ refl refl (λ j. by j (nat_eq j d) refl (nat_eq j c) refl)
    where
      at_d : (o : Option (Node ℕ)) → cond (nat_eq d c) (Some node) o ≡ o
      at_d o = ap (λ b. cond b (Some node) o) (ne_eqb d c differ)

      by : (j : ℕ) (a : Bool) → nat_eq j d ≡ a → (b : Bool) → nat_eq j c ≡ b
          → cond a (node_with_entry w c (cond (nat_eq d c) (Some node) (free.tree.node d)))
          (cond b (Some node) (free.tree.node j))
          ≡ cond a (node_with_entry w c (cond (nat_eq d c) (Some node) (files.tree.node d)))
          (cond b (Some node) (files.tree.node j))
      by j true e b f = grind (arith, common_steps, at_d, there, node_with_over_without, in_order)
      by j false e true f = refl
      by j false e false f = elsewhere j (λ same. cc (eq-eqb j d same))

-- a name that is taken away is free
pub without_name_free : (files : FileTree ℕ) (d : ℕ) (w : List ℕ)
    → entry_at (without_name nat_eq files d w).tree d w ≡ None
without_name_free files d w = ap (entry_named w)
    (ap entries_in (Rattle.vt_laws_trees.proofs.trees.ChangesNodes.changed_node_there files d (node_without_entry w))
    ∙ Rattle.vt_spec.proofs.NodeChanges.entries-node_without_entry w (files.tree.node d)) ∙ entry_named-without_entry w
    w _ ∙ ap (λ b. cond (not b) (entry_named w (entries_in (files.tree.node d))) None) ((bytes_decides w w).1 refl)

-- changes of two inodes in one order and in the other
pub two_changed : (files : FileTree ℕ) (a b : ℕ) (f g : Option (Node ℕ) → Option (Node ℕ)) → a ≢ b
    → changed_node nat_eq (changed_node nat_eq files a f) b g ≡ changed_node nat_eq (changed_node nat_eq files b g) a f
two_changed files a b f g differ = grind (arith, common_steps, same_tree, eqb-true, ne_eqb)

-- a new inode beside the change of another
pub inode_changed : (files : FileTree ℕ) (c : ℕ) (node : Node ℕ) (b : ℕ) (g : Option (Node ℕ) → Option (Node ℕ)) → c ≢ b
    → changed_node nat_eq (with_inode nat_eq files c node) b g
    ≡ with_inode nat_eq (changed_node nat_eq files b g) c node
inode_changed files c node b g differ = grind (arith, common_steps, same_tree, eqb-true, ne_eqb)

-- The tree in which a name is taken from what is no directory, if something has it
module _ (top : ℕ) (files : FileTree ℕ) (good : IsGood top files) (d : ℕ) (w : List ℕ)
    (plain : (r : ℕ) → entry_at files.tree d w ≡ Some r → is_directory_node (files.tree.node r) ≡ false) where
  abbrev pub freed : FileTree ℕ
  freed = without_name nat_eq files d w

  in_order : is_sorted name_cmp (entries_in (files.tree.node d)) ≡ true
  in_order = good.tree.in_order d

  pub freed_kind : (k : ℕ) → is_directory_node (freed.tree.node k) ≡ is_directory_node (files.tree.node k)
  freed_kind k =
      Rattle.vt_laws_trees.proofs.trees.ChangesNodes.part_stays files d (node_without_entry w) is_directory_node
      (Rattle.vt_spec.proofs.NodeChanges.is_directory-node_without_entry w) k

  pub freed_used : (k : ℕ) → is_some (freed.tree.node k) ≡ is_some (files.tree.node k)
  freed_used k = Rattle.vt_laws_trees.proofs.trees.ChangesNodes.part_stays files d (node_without_entry w) is_some
      (Rattle.vt_spec.proofs.NodeChanges.is_some-node_without_entry w) k

  -- it is a removal, or nothing
  as_removed : (r : ℕ) → entry_at files.tree d w ≡ Some r → changed nat_eq files (Remove d w r) ≡ freed
  as_removed r e =
      unchanged_node freed r (node_with_parent r) (node_with_parent-no_directory r (freed.tree.node r) (freed_kind r
      ∙ plain r e))

  as_before : entry_at files.tree d w ≡ None → freed ≡ files
  as_before none = unchanged_node files d (node_without_entry w) (node_without_none w (files.tree.node d) in_order none)

  pub freed_goes : Goes top files freed
  freed_goes = by (entry_at files.tree d w) refl
    where
      by : (o : Option ℕ) → entry_at files.tree d w ≡ o → Goes top files freed
      by None e = subst (Goes top files) (sym (as_before e)) (goes_none top files good)
      by (Some r) e = subst (Goes top files) (as_removed r e) (goes_by top files (Remove d w r) good
          (record { named = e; empty = entries_in-no_directory (files.tree.node r) (plain r e) })
          (λ same. cc (good.directory, plain r e)))

  -- directories are still reached
  pub freed_reached : (number : ℕ) → IsDirectory files.tree number → IsReached files.tree number
      → IsReached freed.tree number
  freed_reached number is reached = by (entry_at files.tree d w) refl
    where
      by : (o : Option ℕ) → entry_at files.tree d w ≡ o → IsReached freed.tree number
      by None e = subst (λ f. IsReached f.tree number) (sym (as_before e)) reached
      by (Some r) e = subst (λ f. IsReached f.tree number) (as_removed r e)
          ((change_reaches files (Remove d w r) good.tree
          (record { named = e; empty = entries_in-no_directory (files.tree.node r) (plain r e) }) number
          (λ same. cc (plain r e)) is reached).1)

  pub freed_free : entry_at freed.tree d w ≡ None
  freed_free = without_name_free files d w
