-- What is listed for objects, once a tree has changed.
use Rattle.std.proofs.Common.{◌≡◌, refl, sym, ap, subst, ◌⊎◌, inl, inr, ⊎_elim, ℕ, ◌+◌, ◌-◌, ◌≤◌, nat_eq, nat_le, eqb-true, Bool, true, false, cond, List, [], Option, Some, None, arith, Err, Ok, OnErr, OnOk, Result}
use Rattle.vt_spec.proofs.Common.{Content, Directory, Inode, Inodes, Node, Regular, Symlink, Tree, Whiteout, entries-node_with_parent, entries_in, entries_of, entry_named, eqb_tells, has_entry_to, inode_with_node, is_directory, is_sorted, kind_of, name_cmp, new_directory, node_in, node_with_entry, node_with_parent, node_without_entry, pinned, targets_in, tree_of, unpinned, used_once_less, used_once_more, with_changed}
use Rattle.vt_spec.specs.Inodes.{with_inode, without_replaced}
use Rattle.vt_fs.proofs.tree.NameCounts.{among_never, most_weaker, named_in_node, named_often, one_if_some, put_in_node, taken_from_node, targets}
use Rattle.vt_fs.specs.Trees.Names.{ListsNames, NamesAtMost, at_place, how_often, less_at, listed_as, more_at, names_at, none_at, one_if}
use Rattle.vt_fs.specs.Trees.Slots.{Slots, inodes_in, put_at}

-- What is listed for the same inodes

pub counted_as : (inodes new : Inodes ℕ) (most counts : ℕ → ℕ → ℕ) → new ≡ inodes → counts ≡ most
    → NamesAtMost (tree_of inodes) most → NamesAtMost (tree_of new) counts
counted_as inodes new most counts same counted_same counted =
    subst (λ counts. NamesAtMost (tree_of new) counts) (sym counted_same)
    (subst (λ inodes. NamesAtMost (tree_of inodes) most) (sym same) counted)

-- slots that change, or stay with an error
pub either_counted : {V E : Type 0} (result : Result V E) (root : ℕ) (old new : Slots) (changed : Inodes ℕ)
    (most : ℕ → ℕ → ℕ) → OnOk result (inodes_in root new ≡ changed) → OnErr result (new ≡ old)
    → NamesAtMost (tree_of changed) most → NamesAtMost (tree_of (inodes_in root old)) most
    → NamesAtMost (tree_of (inodes_in root new)) most
either_counted (Ok value) root old new changed most ok err then_counted counted =
    counted_as changed (inodes_in root new) most most ok refl then_counted
either_counted (Err error) root old new changed most ok err then_counted counted =
    counted_as (inodes_in root old) (inodes_in root new) most most (ap (inodes_in root) err) refl counted

-- One inode that changes

either_way : (b : Bool) (n : ℕ) → cond b n n ≡ n
either_way true n = refl
either_way false n = refl

module _ (inodes : Inodes ℕ) (place : ℕ) (inode : Option (Inode ℕ)) where
  abbrev with_it : Inodes ℕ
  with_it = with_inode nat_eq inodes place inode

  abbrev at : ℕ → ℕ → Bool → ℕ
  at object directory b = how_often object (targets_in (node_in (cond b inode (inodes.inode directory))))

  -- with more names and less
  pub inode_changes : (most : ℕ → ℕ → ℕ) (more less : ℕ → ℕ) → NamesAtMost (tree_of inodes) most
      → ((object : ℕ) → how_often object (targets_in (node_in inode)) + less object
      ≤ names_at (tree_of inodes) object place + more object)
      → NamesAtMost (tree_of with_it)
      (λ object directory. most object directory + at_place place more object directory
      - at_place place less object directory)
  inode_changes most more less counted changes object directory = ⊎_elim (λ t. omega (
    arith,
    ap (at object directory) t.0,
    ap (λ b. cond b (more object) 0) t.0,
    ap (λ b. cond b (less object) 0) t.0,
    ap (most object) t.1,
    changes object,
    counted object place,
  )) (λ t. omega (
    arith,
    ap (at object directory) t.0,
    ap (λ b. cond b (more object) 0) t.0,
    ap (λ b. cond b (less object) 0) t.0,
    counted object directory,
  )) (eqb_tells directory place)

  -- with no more names
  pub inode_keeps : (most : ℕ → ℕ → ℕ) → NamesAtMost (tree_of inodes) most
      → ((object : ℕ) → how_often object (targets_in (node_in inode)) ≤ names_at (tree_of inodes) object place)
      → NamesAtMost (tree_of with_it) most
  inode_keeps most counted fewer object directory = ⊎_elim (λ t. omega (
    arith,
    ap (at object directory) t.0,
    ap (most object) t.1,
    fewer object,
    counted object place,
  )) (λ t. omega (arith, ap (at object directory) t.0, counted object directory)) (eqb_tells directory place)

-- Changes of a tree

-- a node with the same entries
same_entries : (node : Option (Node ℕ)) (inode : Option (Inode ℕ)) → entries_in node ≡ entries_in (node_in inode)
    → entries_in (node_in (inode_with_node node inode)) ≡ entries_in (node_in inode)
same_entries None inode same = refl
same_entries (Some node) None same = refl
same_entries (Some node) (Some inode) same = same

pub change_keeps : (inodes : Inodes ℕ) (place : ℕ) (change : Option (Node ℕ) → Option (Node ℕ))
    (most : ℕ → ℕ → ℕ)
    → ((node : Option (Node ℕ)) → entries_in (change node) ≡ entries_in node)
    → NamesAtMost (tree_of inodes) most → NamesAtMost (tree_of (with_changed nat_eq inodes place change)) most
change_keeps inodes place change most same counted = inode_keeps inodes place _ most counted (λ object. omega (
  arith,
  ap (λ entries. how_often object (targets entries))
      (same_entries (change (node_in (inodes.inode place))) (inodes.inode place) (same (node_in (inodes.inode place)))),
))

-- an entry more
put_in_inode : (name : List ℕ) (object number : ℕ) (inode : Option (Inode ℕ))
    → is_sorted name_cmp (entries_in (node_in inode)) ≡ true
    → how_often number (targets_in (node_in (inode_with_node (node_with_entry name object (node_in inode)) inode)))
    + one_if_some number (entry_named name (entries_in (node_in inode)))
    ≤ how_often number (targets_in (node_in inode)) + one_if number object
put_in_inode name object number None sorted = omega arith
put_in_inode name object number (Some inode) sorted = put_in_node number name object (Some inode.node) sorted

entry_more : (inodes : Inodes ℕ) (directory : ℕ) (name : List ℕ) (object : ℕ) (most : ℕ → ℕ → ℕ)
    → is_sorted name_cmp (entries_in (node_in (inodes.inode directory))) ≡ true → NamesAtMost (tree_of inodes) most
    → NamesAtMost (tree_of (with_changed nat_eq inodes directory (node_with_entry name object)))
    (λ other place. more_at object directory most other place
    - at_place directory (λ other. one_if_some other
    (entry_named name (entries_in (node_in (inodes.inode directory))))) other place)
entry_more inodes directory name object most sorted counted =
    inode_changes inodes directory _ most (λ other. one_if other object)
    (λ other. one_if_some other (entry_named name (entries_in (node_in (inodes.inode directory))))) counted
    (λ other. put_in_inode name object other (inodes.inode directory) sorted)

pub name_more : (inodes : Inodes ℕ) (directory : ℕ) (name : List ℕ) (object : ℕ) (most : ℕ → ℕ → ℕ)
    → is_sorted name_cmp (entries_in (node_in (inodes.inode directory))) ≡ true → NamesAtMost (tree_of inodes) most
    → NamesAtMost (tree_of (with_changed nat_eq inodes directory (node_with_entry name object)))
    (more_at object directory most)
name_more inodes directory name object most sorted counted =
    most_weaker (tree_of (with_changed nat_eq inodes directory (node_with_entry name object))) _ _
    (entry_more inodes directory name object most sorted counted) (λ other place. omega arith)

-- an entry less
taken_from_inode : (name : List ℕ) (number : ℕ) (inode : Option (Inode ℕ))
    → how_often number (targets_in (node_in (inode_with_node (node_without_entry name (node_in inode)) inode)))
    + one_if_some number (entry_named name (entries_in (node_in inode)))
    ≤ how_often number (targets_in (node_in inode)) + 0
taken_from_inode name number None = omega arith
taken_from_inode name number (Some inode) = omega (arith, taken_from_node number name (Some inode.node))

pub name_less : (inodes : Inodes ℕ) (directory : ℕ) (name : List ℕ) (object : ℕ) (most : ℕ → ℕ → ℕ)
    → entry_named name (entries_in (node_in (inodes.inode directory))) ≡ Some object → NamesAtMost (tree_of inodes) most
    → NamesAtMost (tree_of (with_changed nat_eq inodes directory (node_without_entry name)))
    (less_at object directory most)
name_less inodes directory name object most named counted =
    most_weaker (tree_of (with_changed nat_eq inodes directory (node_without_entry name))) _ _
    (inode_changes inodes directory _ most (λ other. 0)
    (λ other. one_if_some other (entry_named name (entries_in (node_in (inodes.inode directory))))) counted
    (λ other. taken_from_inode name other (inodes.inode directory)))
    (λ other place. omega (
      arith,
      either_way (nat_eq place directory) 0,
      ap (λ found. at_place directory (λ other. one_if_some other found) other place) named,
    ))

-- a name that an object keeps while it gets another
named_inode : (name other : List ℕ) (object : ℕ) (inode : Option (Inode ℕ))
    → entry_named name (entries_in (node_in inode)) ≡ Some object
    → entry_named name (entries_in (node_in (inode_with_node (node_with_entry other object (node_in inode)) inode)))
    ≡ Some object
named_inode name other object None named = named
named_inode name other object (Some inode) named = named_in_node name other object (Some inode.node) named

named_still : (inodes : Inodes ℕ) (from to : ℕ) (name other : List ℕ) (object : ℕ)
    → entry_named name (entries_in (node_in (inodes.inode from))) ≡ Some object → entry_named name
    (entries_in (node_in ((with_changed nat_eq inodes to (node_with_entry other object)).inode from))) ≡ Some object
named_still inodes from to name other object named = by (nat_eq from to) (eqb-true from to)
  where
    by : (b : Bool) → (b ≡ true → from ≡ to) → entry_named name (entries_in (node_in (cond b (inode_with_node
        (node_with_entry other object (node_in (inodes.inode to))) (inodes.inode to)) (inodes.inode from))))
        ≡ Some object
    by true same = named_inode name other object (inodes.inode to)
        (subst (λ n. entry_named name (entries_in (node_in (inodes.inode n))) ≡ Some object) (same refl) named)
    by false same = named

-- the directory of a name is listed for what the name leads to
pub named_listed : (inodes : Inodes ℕ) (directory : ℕ) (name : List ℕ) (object : ℕ) (most : ℕ → ℕ → ℕ)
    → entry_named name (entries_in (node_in (inodes.inode directory))) ≡ Some object → NamesAtMost (tree_of inodes) most
    → 1 ≤ most object directory
named_listed inodes directory name object most named counted =
    omega (arith, named_often name object (node_in (inodes.inode directory)) named, counted object directory)

one_listed : (most : ℕ → ℕ → ℕ) (object directory other place : ℕ) → 1 ≤ most object directory
    → at_place directory (λ other. one_if other object) other place ≤ most other place
one_listed most object directory other place one =
    ⊎_elim (λ t. ⊎_elim (λ u. omega (
      arith,
      ap (λ b. cond b (one_if other object) 0) t.0,
      ap {B = ℕ} (λ b. cond b 1 0) u.0,
      ap (λ n. most n place) u.1,
      ap (most object) t.1,
      one,
    )) (λ u. omega (arith, ap (λ b. cond b (one_if other object) 0) t.0, ap {B = ℕ} (λ b. cond b 1 0) u.0))
    (eqb_tells other object)) (λ t. omega (arith, ap (λ b. cond b (one_if other object) 0) t.0))
    (eqb_tells place directory)

-- an object with another name for one that it had, where another object may lose one
pub name_moved : (inodes : Inodes ℕ) (from to : ℕ) (name other : List ℕ) (object : ℕ) (most : ℕ → ℕ → ℕ)
    → is_sorted name_cmp (entries_in (node_in (inodes.inode to))) ≡ true
    → entry_named name (entries_in (node_in (inodes.inode from))) ≡ Some object → NamesAtMost (tree_of inodes) most
    → NamesAtMost (tree_of (with_changed nat_eq
    (with_changed nat_eq (with_changed nat_eq inodes to (node_with_entry other object)) from (node_without_entry name))
    object (node_with_parent to)))
    (λ number place. more_at object to (less_at object from most) number place
    - at_place to (λ number. one_if_some number (entry_named other (entries_in (node_in (inodes.inode to)))))
    number place)
name_moved inodes from to name other object most sorted named counted =
    let entered = with_changed nat_eq inodes to (node_with_entry other object) in
    let taken = with_changed nat_eq entered from (node_without_entry name) in
    change_keeps taken object (node_with_parent to) _ (entries-node_with_parent to) (most_weaker (tree_of taken) _ _
    (name_less entered from name object _ (named_still inodes from to name other object named)
    (entry_more inodes to other object most sorted counted))
    (λ number place. omega (
      arith,
      one_listed most object from number place (named_listed inodes from name object most named counted),
    )))

-- uses alone
pub pin_keeps : (inodes : Inodes ℕ) (object : ℕ) (most : ℕ → ℕ → ℕ)
    → NamesAtMost (tree_of inodes) most → NamesAtMost (tree_of (pinned nat_eq inodes object)) most
pin_keeps inodes object most counted = inode_keeps inodes object (used_once_more (inodes.inode object)) most counted
    (λ number. by number (inodes.inode object))
  where
    by : (number : ℕ) (inode : Option (Inode ℕ)) → how_often number (targets_in (node_in (used_once_more inode)))
        ≤ how_often number (targets_in (node_in inode))
    by number None = omega arith
    by number (Some inode) = omega arith

pub unpin_keeps : (inodes : Inodes ℕ) (object : ℕ) (most : ℕ → ℕ → ℕ)
    → NamesAtMost (tree_of inodes) most → NamesAtMost (tree_of (unpinned nat_eq inodes object)) most
unpin_keeps inodes object most counted = inode_keeps inodes object (used_once_less (inodes.inode object)) most counted
    (λ number. by number (inodes.inode object))
  where
    goes : (number : ℕ) (inode : Inode ℕ) (b : Bool)
        → how_often number (targets_in (node_in (cond b None (Some (record inode { uses = inode.uses - 1 })))))
        ≤ how_often number (targets_in (Some inode.node))
    goes number inode true = omega arith
    goes number inode false = omega arith

    by : (number : ℕ) (inode : Option (Inode ℕ)) → how_often number (targets_in (node_in (used_once_less inode)))
        ≤ how_often number (targets_in (node_in inode))
    by number None = omega arith
    by number (Some inode) = goes number inode (nat_le inode.uses 1)

pub replaced_keeps : (inodes : Inodes ℕ) (object : ℕ) (most : ℕ → ℕ → ℕ)
    → NamesAtMost (tree_of inodes) most → NamesAtMost (tree_of (without_replaced nat_eq inodes (Some object))) most
replaced_keeps inodes object most counted =
    unpin_keeps (with_changed nat_eq inodes object (node_with_parent object)) object most
    (change_keeps inodes object (node_with_parent object) most (entries-node_with_parent object) counted)

-- a new inode without entries
pub new_keeps : (inodes new : Inodes ℕ) (made : ℕ) (node : Node ℕ) (most : ℕ → ℕ → ℕ)
    → new.inode ≡ put_at inodes.inode made (Some (record { node = node; uses = 1 })) → entries_of node.content ≡ []
    → NamesAtMost (tree_of inodes) most → NamesAtMost (tree_of new) most
new_keeps inodes new made node most inserted empty counted =
    subst (λ inode. NamesAtMost (tree_of (record { root = new.root; inode = inode; count = new.count })) most)
    (sym inserted) (inode_keeps inodes made (Some (record { node = node; uses = 1 })) most counted
    (λ object. omega (arith, ap (λ entries. how_often object (targets entries)) empty)))

-- a tree without names
pub none_named : (tree : Tree ℕ) (most : ℕ → ℕ → ℕ) → ((number : ℕ) → tree.node number ≡ None)
    → NamesAtMost tree most
none_named tree most none object directory =
    omega (arith, ap (λ o. how_often object (targets_in o)) (none directory))

-- a new node has no entries
pub no_entries : (directory : ℕ) (content : Content ℕ)
    → (content ≡ new_directory directory) ⊎ (is_directory (kind_of content) ≡ false) → entries_of content ≡ []
no_entries directory (Directory parent entries opaque) (inl e) = ap entries_of e
no_entries directory (Directory parent entries opaque) (inr e) = cc
no_entries directory (Regular bytes) e = refl
no_entries directory (Symlink text) e = refl
no_entries directory Whiteout e = refl

-- nothing has to be listed for an object that no name leads to
pub none_keeps : (tree : Tree ℕ) (object : ℕ) (most : ℕ → ℕ → ℕ)
    → ((place : ℕ) → has_entry_to nat_eq tree place object ≡ false) → NamesAtMost tree most
    → NamesAtMost tree (none_at object most)
none_keeps tree object most unnamed counted other place = ⊎_elim (λ t. omega (
  arith,
  ap (λ n. names_at tree n place) t.1,
  among_never object (targets_in (tree.node place)) (unnamed place),
)) (λ t. omega (arith, ap (λ b. cond b 0 (most other place)) t.0, counted other place)) (eqb_tells other object)

-- what is listed for an object may be others that have its names
pub listed_keeps : (tree : Tree ℕ) (object : ℕ) (directories : List ℕ) (most : ℕ → ℕ → ℕ)
    → ListsNames tree object directories → NamesAtMost tree most → NamesAtMost tree (listed_as object directories most)
listed_keeps tree object directories most lists counted other place = ⊎_elim (λ t. omega (
  arith,
  ap (λ b. cond b (how_often place directories) (most other place)) t.0,
  ap (λ n. names_at tree n place) t.1,
  lists place,
)) (λ t. omega (
  arith,
  ap (λ b. cond b (how_often place directories) (most other place)) t.0,
  counted other place,
)) (eqb_tells other object)
