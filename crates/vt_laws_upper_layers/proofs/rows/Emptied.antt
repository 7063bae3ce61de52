-- A directory is emptied, name by name.
use Rattle.std.proofs.Common.{◌≡◌, refl, sym, ap, ◌∙◌, ℕ, nat_eq, Bool, true, false, cond, not, List, [], ◌∷◌, Option, Some, None, map, is_eq}
use Rattle.vt_spec.proofs.Common.{Content, Directory, Entries, FileTree, Node, Regular, Remove, Symlink, Whiteout, and_true_left, and_true_right, below_all, bytes_eq_itself, changed_node, entries_in, entries_of, entry_named, entry_named-below, eq_by_cmp, is_directory_node, is_sorted, name_cmp, nat_list_cmp_total, node_without_entry, none_is_some, tied_itself, with_entries, without_entry}
use Rattle.vt_spec.specs.Language.Changes.{node_without_entries}
use Rattle.vt_spec.proofs.NodeChanges.{is_directory-node_without_entry}
use Rattle.vt_spec.proofs.Nodes.{same_name}
use Rattle.vt_laws_trees.proofs.overlays.whole.UpperNames.{same_tree, unchanged_node, without_none}
use Rattle.vt_laws_trees.proofs.trees.ChangesNodes.{changed_node_there, part_stays}
use Rattle.vt_laws_upper_layers.specs.Rows.{AreInOrder, IsPlainAt, after_row}
use Rattle.vt_laws_upper_layers.proofs.rows.Freed.{removed-plain}

-- a node less some names, in turn
abbrev less : Entries ℕ → Option (Node ℕ) → Option (Node ℕ)
less [] node = node
less (e ∷ es) node = less es (node_without_entry e.0 node)

abbrev entries_less : Entries ℕ → Entries ℕ → Entries ℕ
entries_less [] entries = entries
entries_less (e ∷ es) entries = entries_less es (without_entry e.0 entries)

-- none of these is a directory
abbrev ArePlain : FileTree ℕ → Entries ℕ → Type 0
ArePlain files [] = Rattle.std.specs.Prelude.⊤
ArePlain files (e ∷ es) = (is_directory_node (files.tree.node e.1) ≡ false) × ArePlain files es

-- the first name is not among the others
own_gone : (e : List ℕ × ℕ) (es : Entries ℕ) → is_sorted name_cmp (e ∷ es) ≡ true → without_entry e.0 (e ∷ es) ≡ es
own_gone e es h =
    ap (λ b. cond (not b) (e ∷ without_entry e.0 es) (without_entry e.0 es)) (bytes_eq_itself e.0)
    ∙ without_none e.0 es (and_true_right (below_all name_cmp e.0 es) _ h)
    (entry_named-below e.0 es (and_true_left (below_all name_cmp e.0 es) _ h))

all_gone : (es : Entries ℕ) → is_sorted name_cmp es ≡ true → entries_less es es ≡ []
all_gone [] h = refl
all_gone (e ∷ es) h = ap (entries_less es) (own_gone e es h)
    ∙ all_gone es (and_true_right (below_all name_cmp e.0 es) _ h)

less-Some : (es : Entries ℕ) (node : Node ℕ)
    → less es (Some node)
    ≡ Some (record { attr = node.attr; content = with_entries node.content (entries_less es (entries_of node.content)) })
less-Some [] node = ap (λ c. Some (record { attr = node.attr; content = c })) (by node.content)
  where
    by : (content : Content ℕ) → content ≡ with_entries content (entries_of content)
    by (Directory parent entries opaque) = refl
    by (Regular bytes) = refl
    by (Symlink text) = refl
    by Whiteout = refl
less-Some (e ∷ es) node =
    less-Some es (record {
      attr = node.attr;
      content = with_entries node.content (without_entry e.0 (entries_of node.content));
    })
    ∙ ap (λ c. Some (record { attr = node.attr; content = c })) (by node.content)
  where
    by : (content : Content ℕ)
        → with_entries (with_entries content (without_entry e.0 (entries_of content)))
        (entries_less es (entries_of (with_entries content (without_entry e.0 (entries_of content)))))
        ≡ with_entries content (entries_less es (without_entry e.0 (entries_of content)))
    by (Directory parent entries opaque) = refl
    by (Regular bytes) = refl
    by (Symlink text) = refl
    by Whiteout = refl

less-own : (node : Option (Node ℕ)) → is_sorted name_cmp (entries_in node) ≡ true
    → less (entries_in node) node ≡ node_without_entries node
less-own None h = refl
less-own (Some node) h = less-Some (entries_of node.content) node
    ∙ ap (λ l. Some (record { attr = node.attr; content = with_entries node.content l }))
    (all_gone (entries_of node.content) h)

-- two changes of one inode
changed_twice : (files : FileTree ℕ) (d : ℕ) (f g : Option (Node ℕ) → Option (Node ℕ))
    → changed_node nat_eq (changed_node nat_eq files d f) d g ≡ changed_node nat_eq files d (λ o. g (f o))
changed_twice files d f g = same_tree _ _ refl refl (λ k. by k (nat_eq k d))
  where
    by : (k : ℕ) (b : Bool)
        → cond b (g ((changed_node nat_eq files d f).tree.node d)) (cond b (f (files.tree.node d)) (files.tree.node k))
        ≡ cond b (g (f (files.tree.node d))) (files.tree.node k)
    by k true = ap g (changed_node_there files d f)
    by k false = refl

still_plain : (files : FileTree ℕ) (d : ℕ) (name : List ℕ) (es : Entries ℕ) → ArePlain files es
    → ArePlain (changed_node nat_eq files d (node_without_entry name)) es
still_plain files d name [] plain = tt
still_plain files d name (e ∷ es) plain = (
  part_stays files d (node_without_entry name) is_directory_node (is_directory-node_without_entry name) e.1 ∙ plain.0,
  still_plain files d name es plain.1,
)

each : (es : Entries ℕ) (files : FileTree ℕ) (d : ℕ) → ArePlain files es
    → after_row files (map (λ entry. Remove d entry.0 entry.1) es) ≡ changed_node nat_eq files d (less es)
each [] files d plain = sym (unchanged_node files d (λ o. o) refl)
each (e ∷ es) files d plain =
    ap (λ f. after_row f (map (λ entry. Remove d entry.0 entry.1) es)) (removed-plain files d e.0 e.1 plain.0)
    ∙ each es (changed_node nat_eq files d (node_without_entry e.0)) d (still_plain files d e.0 es plain.1)
    ∙ changed_twice files d (node_without_entry e.0) (less es)

-- what names lead to, of all entries
told : (files : FileTree ℕ) (es : Entries ℕ) → is_sorted name_cmp es ≡ true
    → ((word : List ℕ) (k : ℕ) → entry_named word es ≡ Some k → is_directory_node (files.tree.node k) ≡ false)
    → ArePlain files es
told files [] h plain = tt
told files (e ∷ es) h plain = (
  plain e.0 e.1 (ap (λ o. cond (is_eq o) (Some e.1) (entry_named e.0 es)) (tied_itself nat_list_cmp_total e.0)),
  told files es (and_true_right (below_all name_cmp e.0 es) _ h) (λ word k f. plain word k (later word k f)),
)
  where
    later : (word : List ℕ) (k : ℕ) → entry_named word es ≡ Some k → entry_named word (e ∷ es) ≡ Some k
    later word k f = by (eq_by_cmp name_cmp word e.0) refl
      where
        by : (b : Bool) → eq_by_cmp name_cmp word e.0 ≡ b → cond b (Some e.1) (entry_named word es) ≡ Some k
        by false t = f
        by true t = none_is_some k (sym (entry_named-below e.0 es
            (and_true_left (below_all name_cmp e.0 es) _ h))
            ∙ ap (λ n. entry_named n es) (sym (same_name word e.0 t)) ∙ f)

pub emptied : (files : FileTree ℕ) (d : ℕ) → AreInOrder files → ((word : List ℕ) → IsPlainAt files d word)
    → after_row files (map (λ entry. Remove d entry.0 entry.1) (entries_in (files.tree.node d)))
    ≡ changed_node nat_eq files d node_without_entries
emptied files d order plain =
    each (entries_in (files.tree.node d)) files d
    (told files (entries_in (files.tree.node d)) (order d) plain)
    ∙ same_tree _ _ refl refl (λ k. ap (λ o. cond (nat_eq k d) o (files.tree.node k))
    (less-own (files.tree.node d) (order d)))
