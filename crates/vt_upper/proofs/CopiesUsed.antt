-- Each inode that has a name is used, also where copies are made.
use Rattle.std.proofs.Common.{◌≡◌, ◌∙◌, ◌<◌, ◌∷◌, [], ap, arith, Bool, cond, eqb-true, false, List, map, nat_eq, None, Option, refl, Some, subst, sym, true, true≢false, ℕ}
use Rattle.vt_spec.proofs.Common.{Content, Inode, Inodes, Make, Node, entries_in, entries_of-copied_content, has_entry_to, inode_with_node, is_among, node_in, node_with_entry, tree_of, uses_in}
use Rattle.vt_spec.specs.Inodes as counting
use Rattle.vt_spec.specs.Tree.Content.{Directory, Regular, Symlink, Whiteout}
use Rattle.vt_laws_worlds.specs.Merging.UpperChanges.{copy_node}
use Rattle.vt_laws_worlds.specs.Seen.CopySteps.{Copy}
use Rattle.vt_copyup.specs.Made.{with_copies}
use Rattle.vt_copyup.proofs.Grown.{one_made}
use Rattle.vt_copyup.proofs.Making.{put_targets}
use Rattle.vt_upper.specs.Leaving.{NamesAreUsed}

-- with an entry more an inode has names for its own, and for what it had names for
targets_more : (name : List ℕ) (number k : ℕ) → nat_eq k number ≡ false → (o : Option (Node ℕ))
    → is_among nat_eq k (map (λ e. e.1) (entries_in (node_with_entry name number o))) ≡ true
    → is_among nat_eq k (map (λ e. e.1) (entries_in o)) ≡ true
targets_more name number k other None e = e
targets_more name number k other (Some node) e = by node.content e
  where
    by : (content : Content ℕ)
        → is_among nat_eq k (map (λ e. e.1) (entries_in (node_with_entry name number
        (Some (record { attr = node.attr; content = content }))))) ≡ true
        → is_among nat_eq k (map (λ e. e.1) (entries_in (Some (record { attr = node.attr; content = content })))) ≡ true
    by (Directory parent entries opaque) e = put_targets name number k other entries e
    by (Regular bytes) e = e
    by (Symlink text) e = e
    by Whiteout e = e

uses_entered : (name : List ℕ) (number : ℕ) (inode : Option (Inode ℕ))
    → uses_in (inode_with_node (node_with_entry name number (node_in inode)) inode) ≡ uses_in inode
uses_entered name number None = refl
uses_entered name number (Some inode) = refl

node_entered : (name : List ℕ) (number : ℕ) (inode : Option (Inode ℕ))
    → node_in (inode_with_node (node_with_entry name number (node_in inode)) inode)
    ≡ node_with_entry name number (node_in inode)
node_entered name number None = refl
node_entered name number (Some inode) = refl

-- one copy
module _ (inodes : Inodes ℕ) (d : ℕ) (copy : Copy) (used : NamesAreUsed inodes) where
  abbrev after : Inodes ℕ
  after = counting.changed nat_eq inodes (Make d copy.name copy.number (copy_node d copy.node))

  abbrev grown : Option (Inode ℕ)
  grown = inode_with_node (node_with_entry copy.name copy.number (node_in (inodes.inode d))) (inodes.inode d)

  module _ (m k : ℕ) (e : has_entry_to nat_eq (tree_of after) m k ≡ true) where
    -- what is another inode is used as often as before
    uses_still : (k : ℕ) → nat_eq k copy.number ≡ false → uses_in (after.inode k) ≡ uses_in (inodes.inode k)
    uses_still k other = ap (λ b. uses_in (cond b (Some (record { node = copy_node d copy.node; uses = 1 }))
        (cond (nat_eq k d) grown (inodes.inode k)))) other ∙ at (nat_eq k d) refl
      where
        at : (b : Bool) → nat_eq k d ≡ b → uses_in (cond b grown (inodes.inode k)) ≡ uses_in (inodes.inode k)
        at true same = uses_entered copy.name copy.number (inodes.inode d)
            ∙ ap (λ n. uses_in (inodes.inode n)) (sym (eqb-true k d same))
        at false other = refl

    -- and had a name before
    had : nat_eq k copy.number ≡ false → has_entry_to nat_eq (tree_of inodes) m k ≡ true
    had other = at (nat_eq m copy.number) refl (nat_eq m d) refl
      where
        in_new : (b : Bool) → nat_eq m copy.number ≡ b → b ≡ true
            → is_among nat_eq k (map (λ e. e.1) (entries_in (Some (copy_node d copy.node)))) ≡ true
        in_new true same is = sym (ap (λ i. is_among nat_eq k (map (λ e. e.1) (entries_in (node_in i))))
            (ap (λ n. after.inode n) (eqb-true m copy.number same)
            ∙ one_made inodes d copy.name copy.number (copy_node d copy.node))) ∙ e
        in_new false other is = absurd (true≢false (sym is))

        at : (new : Bool) → nat_eq m copy.number ≡ new → (here : Bool) → nat_eq m d ≡ here
            → has_entry_to nat_eq (tree_of inodes) m k ≡ true
        at true same here f = absurd (true≢false (sym (in_new true same refl)
            ∙ ap (λ es. is_among nat_eq k (map (λ e. e.1) es)) (entries_of-copied_content d copy.node.content)))
        at false other_new true f = ap (λ n. has_entry_to nat_eq (tree_of inodes) n k) (eqb-true m d f)
            ∙ targets_more copy.name copy.number k other (node_in (inodes.inode d))
            (sym (ap (λ o. is_among nat_eq k (map (λ e. e.1) (entries_in o)))
            (node_entered copy.name copy.number (inodes.inode d)))
            ∙ sym (ap (λ b. is_among nat_eq k (map (λ e. e.1) (entries_in (node_in (cond b
            (Some (record { node = copy_node d copy.node; uses = 1 })) (cond (nat_eq m d) grown (inodes.inode m)))))))
            other_new ∙ ap (λ b. is_among nat_eq k (map (λ e. e.1) (entries_in (node_in
            (cond b grown (inodes.inode m)))))) f) ∙ e)
        at false other_new false f = sym (ap (λ b. is_among nat_eq k (map (λ e. e.1) (entries_in (node_in (cond b
            (Some (record { node = copy_node d copy.node; uses = 1 })) (cond (nat_eq m d) grown (inodes.inode m)))))))
            other_new ∙ ap (λ b. is_among nat_eq k (map (λ e. e.1) (entries_in (node_in
            (cond b grown (inodes.inode m)))))) f) ∙ e

    pub one_used : 0 < uses_in (after.inode k)
    one_used = by (nat_eq k copy.number) refl
      where
        by : (b : Bool) → nat_eq k copy.number ≡ b → 0 < uses_in (after.inode k)
        by true same = subst (λ i. 0 < uses_in i) (sym (ap (λ n. after.inode n) (eqb-true k copy.number same)
            ∙ one_made inodes d copy.name copy.number (copy_node d copy.node))) (omega arith)
        by false other = subst (λ n. 0 < n) (sym (uses_still k other)) (used m k (had other))

pub copies_used : (copies : List Copy) (inodes : Inodes ℕ) (d : ℕ) → NamesAreUsed inodes
    → NamesAreUsed (with_copies inodes d copies)
copies_used [] inodes d used = used
copies_used (copy ∷ rest) inodes d used =
    copies_used rest (counting.changed nat_eq inodes (Make d copy.name copy.number (copy_node d copy.node))) copy.number
    (one_used inodes d copy used)
