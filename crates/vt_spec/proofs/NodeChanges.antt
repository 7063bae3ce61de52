-- What a node has, after each change of it.
use Rattle.std.proofs.Common.{Bool, List, None, Option, Some, [], ap, cond, eq-eqb, eqb-true, false, is_some, map, nat_eq, not, refl, subst, sym, true, true≢false, ℕ, ⊎_elim, ◌||◌, ◌∙◌, ◌∷◌, ◌≡◌}
use Rattle.std.proofs.lemmas.Bool.{and_parts, or_right}
use Rattle.std.proofs.lemmas.Bool.Decides.{eqb_tells}
use Rattle.std.proofs.lemmas.Option.{same_Some}
use Rattle.std.specs.Cmp.{tied_itself}
use Rattle.std.specs.Cmp.Lexicographic.{nat_list_cmp_total}
use Rattle.std.specs.FinMap.Entries.{below_all, is_sorted}
use Rattle.std.specs.List.{find, list_any}
use Rattle.std.specs.Ordering.{eq_by_cmp, is_eq, is_lt}
use Rattle.std.specs.declared.cmp.Ordering.TheVariants.{Equal}
use Rattle.vt_spec.proofs.Nodes.{none_is_not, same_name}
use Rattle.vt_spec.proofs.Options.{none_is_some}
use Rattle.vt_spec.proofs.Truths.{and_true_left, and_true_right, less_is_not_equal}
use Rattle.vt_spec.specs.FileTree.{FileTree, has_entry_to, is_kind, is_kind_in}
use Rattle.vt_spec.specs.Language.Changes.{changed_node, content_with_mark, content_with_parent, node_with_attr, node_with_mark, node_with_parent, node_without_entries, node_without_entry, without_entry, without_parent}
use Rattle.vt_spec.specs.Lists.{is_empty_list}
use Rattle.vt_spec.specs.Machine.CopyUp.{copied_content}
use Rattle.vt_spec.specs.Machine.Invariants.{same_content}
use Rattle.vt_spec.specs.Machine.Rightful.{node_allows}
use Rattle.vt_spec.specs.Rights.{Credentials, is_directory}
use Rattle.vt_spec.specs.Tree.{Content, Entries, Node, Tree, entries_in, entries_of, entry_named, is_directory_node, kind_of, name_cmp, parent_in, parent_of, with_entries}
use Rattle.vt_spec.specs.Tree.Content.{Directory, Regular, Symlink, Whiteout}
use Rattle.vt_spec.specs.TreeInvariant.{IsTree, entry_at}
use Rattle.vt_spec.specs.declared.attributes.Attr.{Attr}
use Rattle.vt_spec.specs.declared.attributes.Kind.TheVariants.{File, White}
pub use Rattle.vt_spec.proofs.Nodes.{directory_is_there}

-- entries above a name lead it nowhere
pub entry_named-below : (name : List ℕ) (entries : Entries ℕ) → below_all name_cmp name entries ≡ true
    → entry_named name entries ≡ None
entry_named-below name [] e = refl
entry_named-below name (entry ∷ entries) e =
    let parts = and_parts (is_lt (name_cmp name entry.0)) (below_all name_cmp name entries) e in
    ap (λ b. cond b (Some entry.1) (entry_named name entries)) (less_is_not_equal (name_cmp name entry.0) parts.0)
    ∙ entry_named-below name entries parts.1

-- another parent: the entries stay
pub entries-node_with_parent : (parent : ℕ) (o : Option (Node ℕ))
    → entries_in (node_with_parent parent o) ≡ entries_in o
entries-node_with_parent parent None = refl
entries-node_with_parent parent (Some node) = by node.content
  where
    by : (content : Content ℕ) → entries_of (content_with_parent parent content) ≡ entries_of content
    by (Directory old entries opaque) = refl
    by (Regular bytes) = refl
    by (Symlink text) = refl
    by Whiteout = refl

-- the kind stays
pub is_directory-node_with_parent : (parent : ℕ) (o : Option (Node ℕ))
    → is_directory_node (node_with_parent parent o) ≡ is_directory_node o
is_directory-node_with_parent parent None = refl
is_directory-node_with_parent parent (Some node) = by node.content
  where
    by : (content : Content ℕ) → is_directory (kind_of (content_with_parent parent content))
        ≡ is_directory (kind_of content)
    by (Directory old entries opaque) = refl
    by (Regular bytes) = refl
    by (Symlink text) = refl
    by Whiteout = refl

-- the parent is the new one
pub parent-node_with_parent : (parent own : ℕ) (o : Option (Node ℕ)) → is_directory_node o ≡ true
    → parent_in own (node_with_parent parent o) ≡ parent
parent-node_with_parent parent own None d = cc
parent-node_with_parent parent own (Some node) d = by node.content d
  where
    by : (content : Content ℕ) → is_directory (kind_of content) ≡ true
        → parent_of own (content_with_parent parent content) ≡ parent
    by (Directory old entries opaque) e = refl
    by (Regular bytes) e = cc
    by (Symlink text) e = cc
    by Whiteout e = cc

-- it is there as it was
pub is_some-node_with_parent : (parent : ℕ) (o : Option (Node ℕ)) → is_some (node_with_parent parent o) ≡ is_some o
is_some-node_with_parent parent None = refl
is_some-node_with_parent parent (Some node) = refl

-- what is no directory gets no parent
pub node_with_parent-no_directory : (parent : ℕ) (o : Option (Node ℕ)) → is_directory_node o ≡ false
    → node_with_parent parent o ≡ o
node_with_parent-no_directory parent None is = refl
node_with_parent-no_directory parent (Some node) is = by node.content refl is
  where
    by : (content : Content ℕ) → node.content ≡ content
        → is_directory_node (Some (record { attr = node.attr; content = content })) ≡ false
        → Some (record { attr = node.attr; content = content_with_parent parent node.content }) ≡ Some node
    by (Directory old entries opaque) e f = absurd (true≢false f)
    by (Regular bytes) e f = λ i. Some
        (record { attr = node.attr; content = (ap (content_with_parent parent) e ∙ sym e) i })
    by (Symlink text) e f = λ i. Some
        (record { attr = node.attr; content = (ap (content_with_parent parent) e ∙ sym e) i })
    by Whiteout e f = λ i. Some (record { attr = node.attr; content = (ap (content_with_parent parent) e ∙ sym e) i })

-- contents stay of their kind
pub kind_of-content_with_parent : (p : ℕ) (c : Content ℕ) → kind_of (content_with_parent p c) ≡ kind_of c
kind_of-content_with_parent p (Directory q n o) = refl
kind_of-content_with_parent p (Regular b) = refl
kind_of-content_with_parent p (Symlink b) = refl
kind_of-content_with_parent p Whiteout = refl

-- contents keep their entries
pub entries_of-content_with_parent : (p : ℕ) (c : Content ℕ) → entries_of (content_with_parent p c) ≡ entries_of c
entries_of-content_with_parent p (Directory q n o) = refl
entries_of-content_with_parent p (Regular b) = refl
entries_of-content_with_parent p (Symlink b) = refl
entries_of-content_with_parent p Whiteout = refl

-- a mark: the entries stay
pub entries-node_with_mark : (mark : Bool) (inode : Option (Node ℕ))
    → entries_in (node_with_mark mark inode) ≡ entries_in inode
entries-node_with_mark mark None = refl
entries-node_with_mark mark (Some node) = by node.content
  where
    by : (content : Content ℕ) → entries_of (content_with_mark mark content) ≡ entries_of content
    by (Directory old entries opaque) = refl
    by (Regular bytes) = refl
    by (Symlink text) = refl
    by Whiteout = refl

-- attributes: the entries stay
pub entries-node_with_attr : (attr : Attr) (o : Option (Node ℕ)) → entries_in (node_with_attr attr o) ≡ entries_in o
entries-node_with_attr attr None = refl
entries-node_with_attr attr (Some node) = refl

-- an entry less: the others stay
pub entries-node_without_entry : (name : List ℕ) (o : Option (Node ℕ))
    → entries_in (node_without_entry name o) ≡ without_entry name (entries_in o)
entries-node_without_entry name None = refl
entries-node_without_entry name (Some node) = by node.content
  where
    by : (content : Content ℕ) → entries_of (with_entries content (without_entry name (entries_of content)))
        ≡ without_entry name (entries_of content)
    by (Directory parent entries opaque) = refl
    by (Regular bytes) = refl
    by (Symlink text) = refl
    by Whiteout = refl

-- the kind stays
pub is_directory-node_without_entry : (name : List ℕ) (o : Option (Node ℕ))
    → is_directory_node (node_without_entry name o) ≡ is_directory_node o
is_directory-node_without_entry name None = refl
is_directory-node_without_entry name (Some node) = by node.content
  where
    by : (content : Content ℕ) → is_directory (kind_of (with_entries content (without_entry name (entries_of content))))
        ≡ is_directory (kind_of content)
    by (Directory parent entries opaque) = refl
    by (Regular bytes) = refl
    by (Symlink text) = refl
    by Whiteout = refl

-- the parent stays
pub parent-node_without_entry : (name : List ℕ) (own : ℕ) (o : Option (Node ℕ))
    → parent_in own (node_without_entry name o) ≡ parent_in own o
parent-node_without_entry name own None = refl
parent-node_without_entry name own (Some node) = by node.content
  where
    by : (content : Content ℕ) → parent_of own (with_entries content (without_entry name (entries_of content)))
        ≡ parent_of own content
    by (Directory parent entries opaque) = refl
    by (Regular bytes) = refl
    by (Symlink text) = refl
    by Whiteout = refl

-- it is there as it was
pub is_some-node_without_entry : (name : List ℕ) (o : Option (Node ℕ)) → is_some (node_without_entry name o) ≡ is_some o
is_some-node_without_entry name None = refl
is_some-node_without_entry name (Some node) = refl

-- no entry: none is left
pub entries-node_without_entries : (inode : Option (Node ℕ)) → entries_in (node_without_entries inode) ≡ []
entries-node_without_entries None = refl
entries-node_without_entries (Some node) = by node.content
  where
    by : (content : Content ℕ) → entries_of (with_entries content []) ≡ []
    by (Directory parent entries opaque) = refl
    by (Regular bytes) = refl
    by (Symlink text) = refl
    by Whiteout = refl

-- a copy has no entry
pub entries_of-copied_content : (parent : ℕ) (content : Content ℕ) → entries_of (copied_content parent content) ≡ []
entries_of-copied_content parent (Directory old entries opaque) = refl
entries_of-copied_content parent (Regular bytes) = refl
entries_of-copied_content parent (Symlink text) = refl
entries_of-copied_content parent Whiteout = refl

-- a copy is of the kind of what is copied
pub kind_of-copied_content : (parent : ℕ) (content : Content ℕ)
    → kind_of (copied_content parent content) ≡ kind_of content
kind_of-copied_content parent (Directory old entries opaque) = refl
kind_of-copied_content parent (Regular bytes) = refl
kind_of-copied_content parent (Symlink text) = refl
kind_of-copied_content parent Whiteout = refl

-- what is no directory has no entry
pub entries_in-no_directory : (o : Option (Node ℕ)) → is_directory_node o ≡ false → entries_in o ≡ []
entries_in-no_directory None e = refl
entries_in-no_directory (Some node) e = by node.content e
  where
    by : (content : Content ℕ) → is_directory (kind_of content) ≡ false → entries_of content ≡ []
    by (Directory parent entries opaque) h = absurd (true≢false h)
    by (Regular bytes) h = refl
    by (Symlink text) h = refl
    by Whiteout h = refl

-- contents that are no directory have no entry
pub entries_of-no_directory : (content : Content ℕ) → is_directory (kind_of content) ≡ false → entries_of content ≡ []
entries_of-no_directory (Directory parent entries opaque) e = absurd (true≢false e)
entries_of-no_directory (Regular bytes) e = refl
entries_of-no_directory (Symlink text) e = refl
entries_of-no_directory Whiteout e = refl

-- what has an entry is a directory
pub directory_from_entry : (name : List ℕ) (number : ℕ) (o : Option (Node ℕ))
    → entry_named name (entries_in o) ≡ Some number → is_directory_node o ≡ true
directory_from_entry name number None e = none_is_not None number refl e
directory_from_entry name number (Some node) e = by node.content e
  where
    by : (content : Content ℕ) → entry_named name (entries_of content) ≡ Some number
        → is_directory (kind_of content) ≡ true
    by (Directory parent entries opaque) h = refl
    by (Regular bytes) h = none_is_not None number refl h
    by (Symlink text) h = none_is_not None number refl h
    by Whiteout h = none_is_not None number refl h

-- contents that are the same are of one kind
pub same_content_kind : (a b : Content ℕ) → same_content a b ≡ true
    → is_directory (kind_of a) ≡ is_directory (kind_of b)
same_content_kind (Directory parent entries opaque) (Directory other_parent other_entries other_opaque) e = refl
same_content_kind (Directory parent entries opaque) (Regular bytes) e = absurd (true≢false (sym e))
same_content_kind (Directory parent entries opaque) (Symlink text) e = absurd (true≢false (sym e))
same_content_kind (Directory parent entries opaque) Whiteout e = absurd (true≢false (sym e))
same_content_kind (Regular bytes) (Directory parent entries opaque) e = absurd (true≢false (sym e))
same_content_kind (Regular bytes) (Regular other) e = refl
same_content_kind (Regular bytes) (Symlink text) e = refl
same_content_kind (Regular bytes) Whiteout e = refl
same_content_kind (Symlink text) (Directory parent entries opaque) e = absurd (true≢false (sym e))
same_content_kind (Symlink text) (Regular bytes) e = refl
same_content_kind (Symlink text) (Symlink other) e = refl
same_content_kind (Symlink text) Whiteout e = refl
same_content_kind Whiteout (Directory parent entries opaque) e = absurd (true≢false (sym e))
same_content_kind Whiteout (Regular bytes) e = refl
same_content_kind Whiteout (Symlink text) e = refl
same_content_kind Whiteout Whiteout e = refl

-- a directory is no whiteout
pub directory_no_whiteout : (node : Option (Node ℕ)) → is_directory_node node ≡ true → is_kind_in White node ≡ false
directory_no_whiteout None d = refl
directory_no_whiteout (Some node) d = by node.content d
  where
    by : (content : Content ℕ) → is_directory (kind_of content) ≡ true → is_kind White (kind_of content) ≡ false
    by (Directory parent entries opaque) d = refl
    by (Regular bytes) d = refl
    by (Symlink text) d = refl
    by Whiteout d = absurd (true≢false (sym d))

-- a file is there
pub file_is_there : (o : Option (Node ℕ)) → is_kind_in File o ≡ true → is_some o ≡ true
file_is_there None e = e
file_is_there (Some node) e = refl

-- the entry that leads to an object is the one of its name
pub found_is_named : (object : ℕ) (entries : Entries ℕ) (entry : List ℕ × ℕ) → is_sorted name_cmp entries ≡ true
    → find (λ entry. nat_eq object entry.1) entries ≡ Some entry
    → (entry_named entry.0 entries ≡ Some entry.1) × (entry.1 ≡ object)
found_is_named object [] entry sorted e = none_is_some entry e
found_is_named object (first ∷ entries) entry sorted e = by (nat_eq object first.1) refl e
    (λ rest. found_is_named object entries entry (and_true_right (below_all name_cmp first.0 entries) _ sorted) rest)
  where
    later : (tied : Bool) → eq_by_cmp name_cmp entry.0 first.0 ≡ tied → entry_named entry.0 entries ≡ Some entry.1
        → cond tied (Some first.1) (entry_named entry.0 entries) ≡ Some entry.1
    later true t named = none_is_some entry.1 (sym (ap (λ n. entry_named n entries) (same_name entry.0 first.0 t)
        ∙ entry_named-below first.0 entries (and_true_left (below_all name_cmp first.0 entries) _ sorted)) ∙ named)
    later false t named = named

    by : (b : Bool) → nat_eq object first.1 ≡ b
        → cond b (Some first) (find (λ entry. nat_eq object entry.1) entries) ≡ Some entry
        → (find (λ entry. nat_eq object entry.1) entries ≡ Some entry
        → (entry_named entry.0 entries ≡ Some entry.1) × (entry.1 ≡ object))
        → (entry_named entry.0 (first ∷ entries) ≡ Some entry.1) × (entry.1 ≡ object)
    by true t e rest = subst (λ found. (entry_named found.0 (first ∷ entries) ≡ Some found.1) × (found.1 ≡ object))
        (same_Some first entry e) (
          ap (λ o. cond (is_eq o) (Some first.1) (entry_named first.0 entries))
              (tied_itself nat_list_cmp_total first.0),
          sym (eqb-true object first.1 t),
        )
    by false t e rest = let found = rest e in (later (eq_by_cmp name_cmp entry.0 first.0) refl found.0, found.1)

-- what a name leads to has an entry
pub entry_to : (tree : Tree ℕ) (directory : ℕ) (name : List ℕ) (object : ℕ)
    → entry_at tree directory name ≡ Some object → has_entry_to nat_eq tree directory object ≡ true
entry_to tree directory name object e = searched (entries_in (tree.node directory)) e
  where
    searched : (entries : Entries ℕ) → entry_named name entries ≡ Some object
        → list_any (nat_eq object) (map (λ entry. entry.1) entries) ≡ true
    searched [] e = none_is_some object e
    searched (entry ∷ entries) e = by (eq_by_cmp name_cmp name entry.0) e (searched entries)
      where
        by : (b : Bool) → cond b (Some entry.1) (entry_named name entries) ≡ Some object
            → (entry_named name entries ≡ Some object
            → list_any (nat_eq object) (map (λ entry. entry.1) entries) ≡ true)
            → (nat_eq object entry.1 || list_any (nat_eq object) (map (λ entry. entry.1) entries)) ≡ true
        by true e rest = ap (λ b. b || list_any (nat_eq object) (map (λ entry. entry.1) entries))
            (eq-eqb object entry.1 (sym (same_Some entry.1 object e)))
        by false e rest = or_right (nat_eq object entry.1) _ (rest e)

-- and what has an entry has a name
pub entry_from : (tree : Tree ℕ) → IsTree tree → (directory object : ℕ)
    → has_entry_to nat_eq tree directory object ≡ true → (name : List ℕ) × (entry_at tree directory name ≡ Some object)
entry_from tree conditions directory object e =
    by (find (λ entry. nat_eq object entry.1) (entries_in (tree.node directory))) refl
    (searched (entries_in (tree.node directory)) e)
  where
    searched : (entries : Entries ℕ) → list_any (nat_eq object) (map (λ entry. entry.1) entries) ≡ true
        → is_some (find (λ entry. nat_eq object entry.1) entries) ≡ true
    searched [] e = absurd (true≢false (sym e))
    searched (entry ∷ entries) e = by (nat_eq object entry.1) e (searched entries)
      where
        by : (b : Bool) → (b || list_any (nat_eq object) (map (λ entry. entry.1) entries)) ≡ true
            → (list_any (nat_eq object) (map (λ entry. entry.1) entries) ≡ true
            → is_some (find (λ entry. nat_eq object entry.1) entries) ≡ true)
            → is_some (cond b (Some entry) (find (λ entry. nat_eq object entry.1) entries)) ≡ true
        by true e rest = refl
        by false e rest = rest e

    by : (o : Option (List ℕ × ℕ)) → find (λ entry. nat_eq object entry.1) (entries_in (tree.node directory)) ≡ o
        → is_some o ≡ true → (name : List ℕ) × (entry_at tree directory name ≡ Some object)
    by None f e = absurd (true≢false (sym e))
    by (Some entry) f e =
        let named = found_is_named object (entries_in (tree.node directory)) entry (conditions.in_order directory) f in
        (entry.0, named.0 ∙ ap Some named.1)

-- what allows something is there
pub allowed_is_there : (who : Credentials) (wanted : ℕ) (node : Option (Node ℕ))
    → not (node_allows who wanted node) ≡ false → is_some node ≡ true
allowed_is_there who wanted None e = absurd (true≢false e)
allowed_is_there who wanted (Some node) e = refl

-- names that tie are one
pub same_name-Equal : (x y : List ℕ) → name_cmp x y ≡ Equal → x ≡ y
same_name-Equal x y e = same_name x y (ap is_eq e)

-- entries that are not some are none
pub nil_from_not_some : (entries : Entries ℕ) → not (is_empty_list entries) ≡ false → entries ≡ []
nil_from_not_some [] e = refl
nil_from_not_some (entry ∷ entries) e = absurd (true≢false e)

-- what a change of one inode keeps of it is kept of every inode
pub part-changed_node : {A : Type 0} (part : Option (Node ℕ) → A) (files : FileTree ℕ) (number : ℕ)
    (change : Option (Node ℕ) → Option (Node ℕ)) → ((inode : Option (Node ℕ)) → part (change inode) ≡ part inode)
    → (inode : ℕ) → part ((changed_node nat_eq files number change).tree.node inode) ≡ part (files.tree.node inode)
part-changed_node part files number change keeps inode = ⊎_elim
    (λ t. ap (λ b. part (cond b (change (files.tree.node number)) (files.tree.node inode))) t.0
    ∙ keeps (files.tree.node number) ∙ ap (λ n. part (files.tree.node n)) (sym t.1))
    (λ t. ap (λ b. part (cond b (change (files.tree.node number)) (files.tree.node inode))) t.0)
    (eqb_tells inode number)

-- an object that loses its parent keeps the entries
pub entries-without_parent : (upper : FileTree ℕ) (object : Option ℕ) (inode : ℕ)
    → entries_in ((without_parent nat_eq upper object).tree.node inode) ≡ entries_in (upper.tree.node inode)
entries-without_parent upper None inode = refl
entries-without_parent upper (Some object) inode =
    part-changed_node entries_in upper object (node_with_parent object) (entries-node_with_parent object) inode
