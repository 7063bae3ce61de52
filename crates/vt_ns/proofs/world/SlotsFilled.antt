-- An inode is made in a slot that was empty: there is one inode more than before.
use Rattle.std.proofs.Common.{◌≡◌, refl, sym, ap, ◌∙◌, ℕ, suc, ◌+◌, Bool, true, false, cond, nat_eq, eqb-true, List, [], ◌∷◌, map, slice_index_or, count_by, Option, Some, None, is_some, arith}
use Rattle.vt_spec.proofs.Common.{Inode, Inodes, Make, Node, node_in, node_with_entry, sum_by-cons, common_steps}
use Rattle.vt_spec.specs.Inodes.{changed, inode_with_node}
use Rattle.vt_ns.proofs.Common.{ChangesInodes, FilesystemEntry, Filesystems, entry_of, inodes_seen, is_some_mapped, shown_entry}
use Rattle.vt_fs.specs.FilesystemsValue.{shown_if}
use Rattle.vt_location.proofs.NumberLemmas.{exchanged_back}
use Rattle.vt_location.specs.Numbers.{exchanged}

-- as many slots are filled, where the same ones are
count_by-same : {A : Type 0} (ones others : List (Option A))
    → ((slot : ℕ) → is_some (slice_index_or ones slot None) ≡ is_some (slice_index_or others slot None))
    → count_by is_some ones ≡ count_by is_some others
count_by-same [] [] same = refl
count_by-same [] (other ∷ others) same =
    (λ i. cond (same 0 i) 1 0 + count_by-same [] others (λ slot. same (suc slot)) i)
    ∙ sym (sum_by-cons (λ one. cond (is_some one) 1 0) other others)
count_by-same (one ∷ ones) [] same = sum_by-cons (λ one. cond (is_some one) 1 0) one ones
    ∙ (λ i. cond (same 0 i) 1 0 + count_by-same ones [] (λ slot. same (suc slot)) i)
count_by-same (one ∷ ones) (other ∷ others) same = sum_by-cons (λ one. cond (is_some one) 1 0) one ones
    ∙ (λ i. cond (same 0 i) 1 0 + count_by-same ones others (λ slot. same (suc slot)) i)
    ∙ sym (sum_by-cons (λ one. cond (is_some one) 1 0) other others)

-- a slot is filled, where its number has an inode
filled : (entry : FilesystemEntry) (slot : ℕ) → is_some ((inodes_seen entry).inode (exchanged entry.count slot))
    ≡ is_some (slice_index_or entry.tree.slots slot None)
filled entry slot = grind (arith, common_steps, is_some_mapped, is_some, exchanged_back)

-- A filesystem in which an inode is made
module _ (was entry : FilesystemEntry) (same_count : entry.count ≡ was.count) (directory : ℕ) (name : List ℕ)
    (number : ℕ) (node : Node ℕ)
    (made : inodes_seen entry ≡ changed nat_eq (inodes_seen was) (Make directory name number node)) where
  one_more : count_by is_some entry.tree.slots ≡ count_by is_some was.tree.slots + 1
  one_more = ap (λ (inodes : Inodes ℕ). inodes.count) made

  filled_still : (change : Option (Node ℕ)) (inode : Option (Inode ℕ))
      → is_some (inode_with_node change inode) ≡ is_some inode
  filled_still change inode = grind (arith, common_steps)

  -- if its number had an inode before, all numbers that have one had one
  had_already : is_some ((inodes_seen was).inode number) ≡ true → (other : ℕ)
      → is_some ((inodes_seen entry).inode other) ≡ is_some ((inodes_seen was).inode other)
  had_already had other = ap (λ (inodes : Inodes ℕ). is_some (inodes.inode other)) made
      ∙ by (nat_eq other number) (nat_eq other directory) refl refl
    where
      parent : Option (Inode ℕ)
      parent = (inodes_seen was).inode directory

      by : (is_new is_parent : Bool) → nat_eq other number ≡ is_new → nat_eq other directory ≡ is_parent
          → is_some (cond is_new (Some (record { node = node; uses = 1 }))
          (cond is_parent (inode_with_node (node_with_entry name number (node_in parent)) parent)
          ((inodes_seen was).inode other))) ≡ is_some ((inodes_seen was).inode other)
      by true is_parent e d = grind (arith, common_steps)
      by false true e d = grind (arith, common_steps, filled_still, is_some, eqb-true)
      by false false e d = refl

  was_empty : (inode : Option (Inode ℕ)) → (inodes_seen was).inode number ≡ inode → inode ≡ None
  was_empty None e = refl
  was_empty (Some inode) e =
      let same = count_by-same entry.tree.slots was.tree.slots (λ slot. sym (filled entry slot)
      ∙ had_already (ap is_some e) (exchanged entry.count slot)
      ∙ ap (λ count. is_some ((inodes_seen was).inode (exchanged count slot))) same_count ∙ filled was slot) in
      absurd (omega (arith, one_more, same))

-- what becomes of a filesystem whose inodes change
record HasBecome (change : Inodes ℕ → Inodes ℕ) (was : FilesystemEntry) : Type 0 where
  pub entry : FilesystemEntry
  pub count_is : entry.count ≡ was.count
  pub inodes_are : inodes_seen entry ≡ change (inodes_seen was)

has_become : (count : ℕ) (change : Inodes ℕ → Inodes ℕ) (olds news : Filesystems)
    → map shown_entry news ≡ map (shown_if count change) (map shown_entry olds)
    → (was : FilesystemEntry) → entry_of olds count ≡ Some was → HasBecome change was
has_become count change [] news same was found = absurd cc
has_become count change (first ∷ olds) [] same was found = absurd cc
has_become count change (first ∷ olds) (entry ∷ news) same was found =
    let head : shown_entry entry ≡ shown_if count change (shown_entry first) = cc in
    let tail : map shown_entry news ≡ map (shown_if count change) (map shown_entry olds) = cc in
    by (nat_eq count first.count) head found (has_become count change olds news tail was)
  where
    by : (b : Bool)
        → shown_entry entry ≡ cond b (record (shown_entry first) { inodes = change (inodes_seen first) })
        (shown_entry first) → cond b (Some first) (entry_of olds count) ≡ Some was
        → (entry_of olds count ≡ Some was → HasBecome change was) → HasBecome change was
    by true head found later = grind (arith, common_steps)
    by false head found later = later found

-- so nothing had the number of an inode that is made
pub made_was_nowhere : (olds news : Filesystems) (count directory : ℕ) (name : List ℕ) (number : ℕ) (node : Node ℕ)
    → ChangesInodes count (λ inodes. changed nat_eq inodes (Make directory name number node)) olds news
    → (was : FilesystemEntry) → entry_of olds count ≡ Some was → (inodes_seen was).inode number ≡ None
made_was_nowhere olds news count directory name number node changes was found =
    let one = has_become count (λ inodes. changed nat_eq inodes (Make directory name number node)) olds news
    changes.changed was found in
    was_empty was one.entry one.count_is directory name number node one.inodes_are
    ((inodes_seen was).inode number) refl
