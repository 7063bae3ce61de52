-- What the nodes and entries of a tree are after each change of it.
use Rattle.std.proofs.Common.{◌≡◌, ◌≢◌, refl, sym, ap, ◌∙◌, true≢false, ℕ, nat_eq, eq-eqb, ne_eqb, Bool, true, false, not, cond, List, ⊎_elim, Option, Some, None, is_some, T}
use Rattle.std.proofs.lemmas.Bool.Decides.{eqb_tells}
use Rattle.std.specs.Ordering.{eq_by_cmp, is_eq}
use Rattle.std.specs.Cmp.Lexicographic.{nat_list_cmp_total, texts_ties, bytes_decides}
use Rattle.std.specs.Str.{bytes_eq}
use Rattle.std.specs.FinMap.Entries.{find-put, find-where_key}
use Rattle.vt_spec.specs.Language.Changes.{without_entry}
use Rattle.vt_spec.specs.Rights.{is_directory}
use Rattle.vt_spec.specs.Tree.{Tree, Node, Content, Entries, name_cmp, kind_of, entry_named, with_entry, entries_of, with_entries, with_bytes, is_directory_node, entries_in, parent_of, parent_in, node_with_entry, node_with_bytes, with_node}
use Rattle.vt_spec.specs.Tree.Content.{Directory, Regular, Symlink, Whiteout}
use Rattle.vt_spec.specs.TreeInvariant.{IsDirectory}

-- names that tie are one name
pub same_name : (a b : List ℕ) → eq_by_cmp name_cmp a b ≡ true → a ≡ b
same_name a b tie = (bytes_decides a b).0 (texts_ties a b ∙ tie)

-- nothing is not something
pub none_is_not : {A P : Type 0} (o : Option A) (a : A) → o ≡ None → o ≡ Some a → P
none_is_not o a none some = absurd (true≢false (sym (ap is_some some) ∙ ap is_some none))

-- a test that passes
pub passes : (b : Bool) → T b → b ≡ true
passes true t = refl
passes false t = absurd t

-- a name added to entries leads to its number, and the other names lead to where they led
pub entry_named-with_entry : (q name : List ℕ) (number : ℕ) (entries : Entries ℕ)
    → entry_named q (with_entry name number entries)
    ≡ cond (eq_by_cmp name_cmp q name) (Some number) (entry_named q entries)
entry_named-with_entry q name number entries = find-put name_cmp nat_list_cmp_total q name number entries

-- entries without a name lead by the others where they led
pub entry_named-without_entry : (q name : List ℕ) (entries : Entries ℕ)
    → entry_named q (without_entry name entries) ≡ cond (not (bytes_eq q name)) (entry_named q entries) None
entry_named-without_entry q name entries = find-where_key name_cmp (λ x. not (bytes_eq x name)) q
    (λ x tied. ap (λ y. not (bytes_eq y name)) (sym (same_name q x (ap is_eq tied)))) entries

-- a directory is there
pub directory_is_there : (o : Option (Node ℕ)) → is_directory_node o ≡ true → is_some o ≡ true
directory_is_there None e = e
directory_is_there (Some node) e = refl

pub directory_used : (tree : Tree ℕ) (number : ℕ) → IsDirectory tree number → is_some (tree.node number) ≡ true
directory_used tree number d = directory_is_there (tree.node number) d

-- a directory with an entry more

module _ (name : List ℕ) (number : ℕ) where
  -- it stays of its kind
  pub is_directory-node_with_entry : (o : Option (Node ℕ))
      → is_directory_node (node_with_entry name number o) ≡ is_directory_node o
  is_directory-node_with_entry None = refl
  is_directory-node_with_entry (Some node) = by node.content
    where
      by : (content : Content ℕ) → is_directory
          (kind_of (with_entries content (with_entry name number (entries_of content))))
          ≡ is_directory (kind_of content)
      by (Directory parent entries opaque) = refl
      by (Regular bytes) = refl
      by (Symlink text) = refl
      by Whiteout = refl

  -- it keeps its parent
  pub parent-node_with_entry : (own : ℕ) (o : Option (Node ℕ))
      → parent_in own (node_with_entry name number o) ≡ parent_in own o
  parent-node_with_entry own None = refl
  parent-node_with_entry own (Some node) = by node.content
    where
      by : (content : Content ℕ) → parent_of own (with_entries content (with_entry name number (entries_of content)))
          ≡ parent_of own content
      by (Directory parent entries opaque) = refl
      by (Regular bytes) = refl
      by (Symlink text) = refl
      by Whiteout = refl

  -- it is still there
  pub is_some-node_with_entry : (o : Option (Node ℕ)) → is_some (node_with_entry name number o) ≡ is_some o
  is_some-node_with_entry None = refl
  is_some-node_with_entry (Some node) = refl

  -- and has that entry beside its own
  pub entries-node_with_entry : (o : Option (Node ℕ)) → is_directory_node o ≡ true
      → entries_in (node_with_entry name number o) ≡ with_entry name number (entries_in o)
  entries-node_with_entry None d = absurd (true≢false (sym d))
  entries-node_with_entry (Some node) d = by node.content d
    where
      by : (content : Content ℕ) → is_directory (kind_of content) ≡ true
          → entries_of (with_entries content (with_entry name number (entries_of content)))
          ≡ with_entry name number (entries_of content)
      by (Directory parent entries opaque) e = refl
      by (Regular bytes) e = absurd (true≢false (sym e))
      by (Symlink text) e = absurd (true≢false (sym e))
      by Whiteout e = absurd (true≢false (sym e))

-- a file with other bytes is what it was but for its bytes

module _ (bytes : List ℕ) where
  pub is_directory-node_with_bytes : (o : Option (Node ℕ))
      → is_directory_node (node_with_bytes bytes o) ≡ is_directory_node o
  is_directory-node_with_bytes None = refl
  is_directory-node_with_bytes (Some node) = by node.content
    where
      by : (content : Content ℕ) → is_directory (kind_of (with_bytes content bytes)) ≡ is_directory (kind_of content)
      by (Directory parent entries opaque) = refl
      by (Regular old) = refl
      by (Symlink text) = refl
      by Whiteout = refl

  pub parent-node_with_bytes : (own : ℕ) (o : Option (Node ℕ))
      → parent_in own (node_with_bytes bytes o) ≡ parent_in own o
  parent-node_with_bytes own None = refl
  parent-node_with_bytes own (Some node) = by node.content
    where
      by : (content : Content ℕ) → parent_of own (with_bytes content bytes) ≡ parent_of own content
      by (Directory parent entries opaque) = refl
      by (Regular old) = refl
      by (Symlink text) = refl
      by Whiteout = refl

  pub is_some-node_with_bytes : (o : Option (Node ℕ)) → is_some (node_with_bytes bytes o) ≡ is_some o
  is_some-node_with_bytes None = refl
  is_some-node_with_bytes (Some node) = refl

  pub entries-node_with_bytes : (o : Option (Node ℕ)) → entries_in (node_with_bytes bytes o) ≡ entries_in o
  entries-node_with_bytes None = refl
  entries-node_with_bytes (Some node) = by node.content
    where
      by : (content : Content ℕ) → entries_of (with_bytes content bytes) ≡ entries_of content
      by (Directory parent entries opaque) = refl
      by (Regular old) = refl
      by (Symlink text) = refl
      by Whiteout = refl

-- a tree with another node at a number

module _ (tree : Tree ℕ) (number : ℕ) (node : Option (Node ℕ)) where
  -- has it there
  pub node_set : (with_node nat_eq tree number node).node number ≡ node
  node_set = ap (λ b. cond b node (tree.node number)) (eq-eqb number number refl)

  -- and at each other number what it had
  pub node_other : (other : ℕ) → other ≢ number → (with_node nat_eq tree number node).node other ≡ tree.node other
  node_other other differ = ap (λ b. cond b node (tree.node other)) (ne_eqb other number differ)

-- A part of a node that a change of the node keeps is kept at every number.
pub part_kept : {A : Type 0} (part : Option (Node ℕ) → A) (tree : Tree ℕ) (number : ℕ) (node : Option (Node ℕ))
    → part node ≡ part (tree.node number) → (other : ℕ)
    → part ((with_node nat_eq tree number node).node other) ≡ part (tree.node other)
part_kept part tree number node same other = ⊎_elim
    (λ t. ap (λ b. part (cond b node (tree.node other))) t.0 ∙ same ∙ ap (λ n. part (tree.node n)) (sym t.1))
    (λ t. ap (λ b. part (cond b node (tree.node other))) t.0) (eqb_tells other number)
