-- Rows of changes, in trees whose inodes count their uses and in trees: they make the same of all inodes but those that
-- lose a name.
use Rattle.std.proofs.Common.{◌≡◌, ◌≢◌, ◌∙◌, ◌∷◌, [], ap, arith, Bool, cond, eqb-true, false, is_some, List, nat_eq, None, Option, refl, Some, sym, true, true≢false, ℕ}
use Rattle.vt_spec.proofs.Common.{AddName, Change, FileTree, Inode, Inodes, Make, Move, Node, Remove, SetAttr, SetBytes, SetMark, Tree, changed, changed_node, common_steps, entries_in, entry_at, entry_named, inode_with_node, node_in, node_with_bytes, node_with_entry, node_with_parent, node_without_entry, pinned, tree_of, unpinned, used_once_less, used_once_more, with_name, without_name, without_parent, ⊤}
use Rattle.vt_spec.specs.Inodes as counting
use Rattle.vt_spec.specs.Language.Changes.{node_with_attr, node_with_mark}
use Rattle.vt_spec.specs.Language.Changes.Change.{CopyUp}
use Rattle.vt_spec.specs.Lists.{folded}

-- a node is changed, and none comes or goes
pub record KeepsNodes (change : Option (Node ℕ) → Option (Node ℕ)) : Type 0 where
  pub none : change None ≡ None
  pub some : (node : Node ℕ) → is_some (change (Some node)) ≡ true

module _ (gone : ℕ → Bool) where
  -- trees that are alike but for what is gone
  abbrev pub AreAlike : Tree ℕ → Tree ℕ → Type 0
  AreAlike one two = (m : ℕ) → gone m ≡ false → one.node m ≡ two.node m

  pub stays_other : (m object : ℕ) → gone m ≡ false → gone object ≡ true → nat_eq m object ≡ false
  stays_other m object stays goes = by (nat_eq m object) refl
    where
      by : (b : Bool) → nat_eq m object ≡ b → nat_eq m object ≡ false
      by false e = e
      by true e = absurd (true≢false (sym goes ∙ ap gone (sym (eqb-true m object e)) ∙ stays))

  module _ (inodes : Inodes ℕ) (files : FileTree ℕ) (same : AreAlike (tree_of inodes) files.tree) where
    -- one inode is changed
    module _ (object : ℕ) (change : Option (Node ℕ) → Option (Node ℕ)) (keeps : KeepsNodes change) where
      changed_in : (inode : Option (Inode ℕ)) → node_in (inode_with_node (change (node_in inode)) inode) ≡ change (node_in inode)
      changed_in None = ap (λ o. node_in (inode_with_node o None)) keeps.none ∙ sym keeps.none
      changed_in (Some inode) = by (change (Some inode.node)) (keeps.some inode.node)
        where
          by : (o : Option (Node ℕ)) → is_some o ≡ true → node_in (inode_with_node o (Some inode)) ≡ o
          by None e = absurd cc
          by (Some node) e = refl

      node_alike : AreAlike (tree_of (counting.with_changed nat_eq inodes object change))
          (changed_node nat_eq files object change).tree
      node_alike m stays = by (nat_eq m object) refl
        where
          by : (b : Bool) → nat_eq m object ≡ b
              → node_in (cond b (inode_with_node (change (node_in (inodes.inode object))) (inodes.inode object))
              (inodes.inode m))
              ≡ cond b (change (files.tree.node object)) (files.tree.node m)
          by true e = changed_in (inodes.inode object)
              ∙ ap change (same object (ap gone (sym (eqb-true m object e)) ∙ stays))
          by false e = same m stays

    -- one is used once more, or once less
    pub used_alike : (object : ℕ) → AreAlike (tree_of (pinned nat_eq inodes object)) files.tree
    used_alike object m stays = by (nat_eq m object) refl
      where
        once : (inode : Option (Inode ℕ)) → node_in (used_once_more inode) ≡ node_in inode
        once None = refl
        once (Some inode) = refl

        by : (b : Bool) → nat_eq m object ≡ b
            → node_in (cond b (used_once_more (inodes.inode object)) (inodes.inode m)) ≡ files.tree.node m
        by true e = once (inodes.inode object)
            ∙ ap (λ n. (tree_of inodes).node n) (sym (eqb-true m object e)) ∙ same m stays
        by false e = same m stays

    pub less_alike : (object : ℕ) → gone object ≡ true → AreAlike (tree_of (unpinned nat_eq inodes object)) files.tree
    less_alike object goes m stays = ap (λ b. node_in (cond b (used_once_less (inodes.inode object)) (inodes.inode m)))
        (stays_other m object stays goes) ∙ same m stays

    -- what is gone is changed
    gone_alike : (object : ℕ) (change : Option (Node ℕ) → Option (Node ℕ)) → gone object ≡ true
        → AreAlike (tree_of inodes) (changed_node nat_eq files object change).tree
    gone_alike object change goes m stays = same m stays
        ∙ sym (ap (λ b. cond b (change (files.tree.node object)) (files.tree.node m)) (stays_other m object stays goes))

    -- one inode more
    made_alike : (directory number : ℕ) (name : List ℕ) (node : Node ℕ) → directory ≢ number
        → AreAlike (tree_of (counting.changed nat_eq inodes (Make directory name number node)))
        (changed nat_eq files (Make directory name number node)).tree
    made_alike directory number name node other m stays = by (nat_eq m number) (nat_eq m directory) refl refl
      where
        differ : nat_eq directory number ≡ false
        differ = grind (arith, common_steps)

        with_in : (inode : Option (Inode ℕ))
            → node_in (inode_with_node (node_with_entry name number (node_in inode)) inode)
            ≡ node_with_entry name number (node_in inode)
        with_in None = refl
        with_in (Some inode) = refl

        by : (new here : Bool) → nat_eq m number ≡ new → nat_eq m directory ≡ here
            → node_in (cond new (Some (record { node = node; uses = 1 })) (cond here (inode_with_node
            (node_with_entry name number (node_in (inodes.inode directory))) (inodes.inode directory)) (inodes.inode m)))
            ≡ cond here (node_with_entry name number (cond (nat_eq directory number) (Some node)
            (files.tree.node directory))) (cond new (Some node) (files.tree.node m))
        by true true e f = absurd (other (sym (eqb-true m directory f) ∙ eqb-true m number e))
        by true false e f = refl
        by false true e f = with_in (inodes.inode directory)
            ∙ ap (node_with_entry name number) (same directory (ap gone (sym (eqb-true m directory f)) ∙ stays))
            ∙ ap (λ b. node_with_entry name number (cond b (Some node) (files.tree.node directory))) (sym differ)
        by false false e f = same m stays

-- each kind of change keeps nodes
pub entry_more : (name : List ℕ) (object : ℕ) → KeepsNodes (node_with_entry name object)
entry_more name object = record { none = refl; some = λ node. refl }

pub entry_less : (name : List ℕ) → KeepsNodes (node_without_entry name)
entry_less name = record { none = refl; some = λ node. refl }

pub parent_set : (parent : ℕ) → KeepsNodes (node_with_parent parent)
parent_set parent = record { none = refl; some = λ node. refl }

-- a change, after which what loses a name is gone
abbrev pub Suits : (ℕ → Bool) → Change ℕ → Type 0
Suits gone (Make directory name number node) = directory ≢ number
Suits gone (AddName directory name object) = ⊤
Suits gone (Remove directory name object) = gone object ≡ true
Suits gone (Move from old to new object) = ⊥
Suits gone (SetBytes file bytes) = ⊤
Suits gone (SetAttr object attr) = ⊤
Suits gone (SetMark directory opaque) = ⊤
Suits gone (CopyUp object) = ⊤

pub change_alike : (gone : ℕ → Bool) (inodes : Inodes ℕ) (files : FileTree ℕ) (change : Change ℕ)
    → Suits gone change → AreAlike gone (tree_of inodes) files.tree
    → AreAlike gone (tree_of (counting.changed nat_eq inodes change)) (changed nat_eq files change).tree
change_alike gone inodes files (Make directory name number node) suits same =
    made_alike gone inodes files same directory number name node suits
change_alike gone inodes files (AddName directory name object) suits same =
    used_alike gone (counting.with_changed nat_eq inodes directory (node_with_entry name object))
    (with_name nat_eq files directory name object)
    (node_alike gone inodes files same directory (node_with_entry name object) (entry_more name object)) object
change_alike gone inodes files (Remove directory name object) suits same =
    let left = counting.with_changed nat_eq inodes directory (node_without_entry name) in
    let without = without_name nat_eq files directory name in
    less_alike gone (counting.with_changed nat_eq left object (node_with_parent object))
    (without_parent nat_eq without (Some object))
    (node_alike gone left without (node_alike gone inodes files same directory (node_without_entry name)
    (entry_less name)) object (node_with_parent object) (parent_set object)) object suits
change_alike gone inodes files (Move from old to new object) suits same = absurd suits
change_alike gone inodes files (SetBytes file bytes) suits same =
    node_alike gone inodes files same file (node_with_bytes bytes) (record { none = refl; some = λ node. refl })
change_alike gone inodes files (SetAttr object attr) suits same =
    node_alike gone inodes files same object (node_with_attr attr) (record { none = refl; some = λ node. refl })
change_alike gone inodes files (SetMark directory opaque) suits same =
    node_alike gone inodes files same directory (node_with_mark opaque) (record { none = refl; some = λ node. refl })
change_alike gone inodes files (CopyUp object) suits same = same

-- a move, after which what it replaces is gone
module _ (gone : ℕ → Bool) (from to object : ℕ) (old new : List ℕ) where
  abbrev left_old : Inodes ℕ → Inodes ℕ
  left_old inodes = counting.with_changed nat_eq inodes from (node_without_entry old)

  abbrev got_new : Inodes ℕ → Inodes ℕ
  got_new inodes = counting.with_changed nat_eq (left_old inodes) to (node_with_entry new object)

  abbrev placed : Inodes ℕ → Inodes ℕ
  placed inodes = counting.with_changed nat_eq (got_new inodes) object (node_with_parent to)

  abbrev placed_in : FileTree ℕ → FileTree ℕ
  placed_in files = changed_node nat_eq (with_name nat_eq (without_name nat_eq files from old) to new object) object
      (node_with_parent to)

  placed_alike : (inodes : Inodes ℕ) (files : FileTree ℕ) → AreAlike gone (tree_of inodes) files.tree
      → AreAlike gone (tree_of (placed inodes)) (placed_in files).tree
  placed_alike inodes files alike =
      node_alike gone (got_new inodes) (with_name nat_eq (without_name nat_eq files from old) to new object)
      (node_alike gone (left_old inodes) (without_name nat_eq files from old)
      (node_alike gone inodes files alike from (node_without_entry old) (entry_less old))
      to (node_with_entry new object) (entry_more new object))
      object (node_with_parent to) (parent_set to)

  module _ (inodes : Inodes ℕ) (files : FileTree ℕ) (alike : AreAlike gone (tree_of inodes) files.tree) where
    replaced_alike : (o : Option ℕ) → ((replaced : ℕ) → o ≡ Some replaced → gone replaced ≡ true)
        → AreAlike gone (tree_of (counting.without_replaced nat_eq (placed inodes) o))
        (placed_in (without_parent nat_eq files o)).tree
    replaced_alike None goes = placed_alike inodes files alike
    replaced_alike (Some replaced) goes =
        let goes_so = goes replaced refl in
        less_alike gone (counting.with_changed nat_eq (placed inodes) replaced (node_with_parent replaced))
        (placed_in (without_parent nat_eq files (Some replaced)))
        (λ m stays. sym (lost m stays goes_so) ∙ placed_alike inodes (without_parent nat_eq files (Some replaced))
        (gone_alike gone inodes files alike replaced (node_with_parent replaced) goes_so) m stays) replaced goes_so
      where
        lost : (m : ℕ) → gone m ≡ false → gone replaced ≡ true
            → (tree_of (placed inodes)).node m
            ≡ (tree_of (counting.with_changed nat_eq (placed inodes) replaced (node_with_parent replaced))).node m
        lost m stays goes_so = sym (ap (λ b. node_in (cond b (inode_with_node (node_with_parent replaced
            (node_in ((placed inodes).inode replaced))) ((placed inodes).inode replaced)) ((placed inodes).inode m)))
            (stays_other gone m replaced stays goes_so))

    pub moved_alike : gone to ≡ false
        → ((replaced : ℕ) → entry_at (tree_of inodes) to new ≡ Some replaced → gone replaced ≡ true)
        → AreAlike gone (tree_of (counting.changed nat_eq inodes (Move from old to new object)))
        (changed nat_eq files (Move from old to new object)).tree
    moved_alike stays goes m still =
        replaced_alike (entry_at (tree_of inodes) to new) goes m still
        ∙ ap (λ o. (placed_in (without_parent nat_eq files o)).tree.node m)
        (ap (λ o. entry_named new (entries_in o)) (alike to stays))

-- a row
abbrev pub AllSuit : (ℕ → Bool) → List (Change ℕ) → Type 0
AllSuit gone [] = ⊤
AllSuit gone (change ∷ rest) = Suits gone change × AllSuit gone rest

pub row_alike : (gone : ℕ → Bool) (row : List (Change ℕ)) (inodes : Inodes ℕ) (files : FileTree ℕ)
    → AllSuit gone row → AreAlike gone (tree_of inodes) files.tree
    → AreAlike gone (tree_of (folded (counting.changed nat_eq) inodes row)) (folded (changed nat_eq) files row).tree
row_alike gone [] inodes files suits same = same
row_alike gone (change ∷ rest) inodes files suits same =
    row_alike gone rest (counting.changed nat_eq inodes change) (changed nat_eq files change) suits.1
    (change_alike gone inodes files change suits.0 same)
