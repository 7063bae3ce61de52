-- The entries of a tree after a change of one inode.
use Rattle.std.proofs.Common.{arith, ◌≡◌, sym, ap, ◌∙◌, ℕ, nat_eq, Bool, true, cond, ◌&&◌, List, ⊎_elim, Option, Some, None, bytes_eq}
use Rattle.vt_spec.proofs.Common.{FileTree, IsDirectory, Node, bytes_decides, changed_node, common_steps, entries-node_with_entry, entries-node_without_entry, entries_in, entry_at, entry_named, entry_named-with_entry, entry_named-without_entry, eqb_tells, node_with_entry, part_kept, texts_ties, with_name, without_name}

-- the one entry
abbrev pub is_entry : ℕ → List ℕ → ℕ → List ℕ → Bool
is_entry directory name other word = nat_eq other directory && bytes_eq word name

pub is_that_entry : (directory : ℕ) (name : List ℕ) (other : ℕ) (word : List ℕ)
    → is_entry directory name other word ≡ true → (other ≡ directory) × (word ≡ name)
is_that_entry directory name other word e = ⊎_elim (λ t. (t.1, (bytes_decides word name).0 (cc (t.0))))
    (λ t. absurd (cc (t.0))) (eqb_tells other directory)

module _ (files : FileTree ℕ) (directory : ℕ) (name : List ℕ) where
  -- a change of one inode that gives one of its names another meaning
  one_entry : (change : Option (Node ℕ) → Option (Node ℕ)) (to : Option ℕ)
      → ((word : List ℕ) → entry_named word (entries_in (change (files.tree.node directory)))
      ≡ cond (bytes_eq word name) to (entry_at files.tree directory word)) → (other : ℕ) (word : List ℕ)
      → entry_at (changed_node nat_eq files directory change).tree other word
      ≡ cond (is_entry directory name other word) to (entry_at files.tree other word)
  one_entry change to told other word = grind (arith, common_steps, told, eqb_tells)

  pub given : (number : ℕ) → IsDirectory files.tree directory → (other : ℕ) (word : List ℕ)
      → entry_at (with_name nat_eq files directory name number).tree other word
      ≡ cond (is_entry directory name other word) (Some number) (entry_at files.tree other word)
  given number is = one_entry (node_with_entry name number) (Some number) told
    where
      told : (word : List ℕ) → entry_named word (entries_in (node_with_entry name number (files.tree.node directory)))
          ≡ cond (bytes_eq word name) (Some number) (entry_at files.tree directory word)
      told word = ap (entry_named word) (entries-node_with_entry name number _ is) ∙ entry_named-with_entry word name
          number _ ∙ ap (λ b. cond b (Some number) (entry_at files.tree directory word)) (sym (texts_ties word name))

  pub taken : (other : ℕ) (word : List ℕ) → entry_at (without_name nat_eq files directory name).tree other word
      ≡ cond (is_entry directory name other word) None (entry_at files.tree other word)
  taken = grind (arith, common_steps, one_entry, entries-node_without_entry, entry_named-without_entry)

-- a change of one inode that keeps its entries keeps all
pub entries_stay : (files : FileTree ℕ) (number : ℕ) (change : Option (Node ℕ) → Option (Node ℕ))
    → ((o : Option (Node ℕ)) → entries_in (change o) ≡ entries_in o)
    → (other : ℕ) → entries_in ((changed_node nat_eq files number change).tree.node other)
    ≡ entries_in (files.tree.node other)
entries_stay files number change same other =
    part_kept entries_in files.tree number (change (files.tree.node number)) (same (files.tree.node number)) other
