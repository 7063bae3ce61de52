-- What the removal of a name leaves of the ways through its tree: of an empty directory, or of what is none.
use Rattle.std.proofs.Common.{arith, ◌≡◌, ◌≢◌, refl, ap, ◌∙◌, inl, inr, ◌⊎◌, ⊎_elim, true≢false, ℕ, nat_eq, Bool, true, false, cond, not, ne_eqb, List, [], Option, Some, None, bytes_eq}
use Rattle.vt_spec.proofs.Common.{denial, Content, Credentials, Directory, FileTree, Node, Regular, Remove, Symlink, Tree, Whiteout, allows, bytes_decides, changed, common_steps, content_with_parent, entries-node_with_parent, entries-node_without_entry, entries_in, entry_at, entry_named, entry_named-without_entry, eqb_tells, is_directory-node_with_parent, is_directory-node_without_entry, is_directory_node, is_removed, kind_of, node_allows, node_with_parent, node_without_entry, parent-node_without_entry, parent_in, same_Some, symlink_text, without_name}
use Rattle.vt_laws_later_calls.proofs.Common.{Deny, W6, MayRemove, changed_node_there, elsewhere, own_parent-node_with_parent, part_stays}
use Rattle.vt_laws_later_calls.proofs.WaysChanges.{RightsStay, TreeStays, no_parent, allows_without, link_without}

link_with_parent : (parent : ℕ) (o : Option (Node ℕ)) → symlink_text (node_with_parent parent o) ≡ symlink_text o
link_with_parent parent o = grind (arith, common_steps)

allows_with_parent : (parent : ℕ) (who : Credentials) (wanted : ℕ) (o : Option (Node ℕ))
    → node_allows who wanted (node_with_parent parent o) ≡ node_allows who wanted o
allows_with_parent parent who wanted None = refl
allows_with_parent parent who wanted (Some node) = by node.content
  where
    by : (content : Content ℕ) → allows who node.attr (kind_of (content_with_parent parent content)) wanted
        ≡ allows who node.attr (kind_of content) wanted
    by (Directory old entries opaque) = refl
    by (Regular bytes) = refl
    by (Symlink text) = refl
    by Whiteout = refl

module _ (files : FileTree ℕ) (directory : ℕ) (name : List ℕ) (object : ℕ)
    (may : MayRemove files.tree directory name object) where
  abbrev unnamed : FileTree ℕ
  unnamed = without_name nat_eq files directory name

  abbrev pub removed : FileTree ℕ
  removed = changed nat_eq files (Remove directory name object)

  removed_part : {A : Type 0} (part : Option (Node ℕ) → A)
      → ((o : Option (Node ℕ)) → part (node_with_parent object o) ≡ part o)
      → ((o : Option (Node ℕ)) → part (node_without_entry name o) ≡ part o) → (n : ℕ)
      → part (removed.tree.node n) ≡ part (files.tree.node n)
  removed_part part parent entry n = part_stays unnamed object (node_with_parent object) part parent n
      ∙ part_stays files directory (node_without_entry name) part entry n

  pub removed_kind : (n : ℕ) → is_directory_node (removed.tree.node n) ≡ is_directory_node (files.tree.node n)
  removed_kind n =
      removed_part is_directory_node (is_directory-node_with_parent object) (is_directory-node_without_entry name) n

  pub removed_link : (n : ℕ) → symlink_text (removed.tree.node n) ≡ symlink_text (files.tree.node n)
  removed_link n = removed_part symlink_text (link_with_parent object) (link_without name) n

  pub removed_rights : RightsStay files.tree removed.tree
  removed_rights who wanted n is =
      removed_part (node_allows who wanted) (allows_with_parent object who wanted) (allows_without name who wanted) n

  pub removed_parent : (n : ℕ) → n ≢ object → parent_in n (removed.tree.node n) ≡ parent_in n (files.tree.node n)
  removed_parent n other = ap (parent_in n) (elsewhere unnamed object (node_with_parent object) n other)
      ∙ part_stays files directory (node_without_entry name) (parent_in n) (parent-node_without_entry name n) n

  -- its names
  removed_entries : (n : ℕ) → entries_in (removed.tree.node n) ≡ entries_in (unnamed.tree.node n)
  removed_entries n = part_stays unnamed object (node_with_parent object) entries_in (entries-node_with_parent object) n

  entry_less : (other : List ℕ) → entry_at removed.tree directory other
      ≡ cond (not (bytes_eq other name)) (entry_at files.tree directory other) None
  entry_less other = ap (entry_named other) (removed_entries directory
      ∙ ap entries_in (changed_node_there files directory (node_without_entry name))
      ∙ entries-node_without_entry name (files.tree.node directory))
      ∙ entry_named-without_entry other name (entries_in (files.tree.node directory))

  pub removed_name : entry_at removed.tree directory name ≡ None
  removed_name = cc (entry_less name, (bytes_decides name name).1 refl)

  pub removed_entry : (here : ℕ) (other : List ℕ) (next : ℕ) → entry_at files.tree here other ≡ Some next
      → (entry_at removed.tree here other ≡ Some next) ⊎ ((entry_at removed.tree here other ≡ None) × (next ≡ object))
  removed_entry here other next e = ⊎_elim (λ t. by (bytes_eq other name) refl (cc (t.1, entry_less other)) (cc t.1))
      (λ t. inl (cc (removed_entries here, elsewhere files directory (node_without_entry name) here t.1)))
      (eqb_tells here directory)
    where
      by : (b : Bool) → bytes_eq other name ≡ b
          → entry_at removed.tree here other ≡ cond (not b) (entry_at files.tree directory other) None
          → entry_at files.tree directory other ≡ Some next → (entry_at removed.tree here other ≡ Some next)
          ⊎ ((entry_at removed.tree here other ≡ None) × (next ≡ object))
      by true same now was =
          let name_is : other ≡ name = (bytes_decides other name).0 same in
          inr (now, same_Some next object (cc may.named))
      by false same now was = inl (cc)

  pub ways_removed : is_directory_node (files.tree.node object) ≡ false → (Refused : Deny → Type 0)
      → Refused (denial W6) → TreeStays files.tree removed.tree Refused
  ways_removed no_directory Refused missing = record {
    root = refl;
    directory = λ n is. removed_kind n;
    parent = λ n is. ⊎_elim (λ same. cc (
      same.1,
      no_parent object (files.tree.node object) no_directory,
      no_parent object (removed.tree.node object) (removed_kind object ∙ no_directory),
    )) (λ other. removed_parent n other.1) (eqb_tells n object);
    link = λ n is. removed_link n;
    entry = λ here other next e. ⊎_elim inl (λ lost. inr (lost.0, cc (lost.1, no_directory), missing))
        (removed_entry here other next e);
  }

  -- the directory is empty, and stands alone
  pub nothing_in_it : (other : List ℕ) (next : ℕ) → entry_at files.tree object other ≡ Some next → ⊥
  nothing_in_it other next e = grind (arith, common_steps, true≢false)

  removed_empty : entries_in (removed.tree.node object) ≡ []
  removed_empty = removed_entries object ∙ ⊎_elim (λ t. absurd (nothing_in_it name object (cc (t.1, may.named))))
      (λ t. cc (elsewhere files directory (node_without_entry name) object t.1, may.empty)) (eqb_tells object directory)

  pub removed_alone : (tree : Tree ℕ) → tree.node object ≡ removed.tree.node object → object ≢ tree.root
      → is_removed nat_eq tree object ≡ true
  removed_alone tree same other = grind (
    arith,
    common_steps,
    ne_eqb,
    removed_empty,
    changed_node_there,
    own_parent-node_with_parent,
  )
