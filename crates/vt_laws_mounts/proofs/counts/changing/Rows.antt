-- A row of changes that fit, each in its turn, and the sweep after them.
use Rattle.std.proofs.Common.{◌≡◌, ◌≢◌, refl, sym, ap, subst, ⊎_elim, ◌∙◌, true≢false, ℕ, nat_eq, Bool, true, false, cond, List, [], ◌∷◌, map, Option, Some, None, is_some, arith}
use Rattle.vt_spec.proofs.Common.{AddName, Change, CopyUp, Entries, FileTree, Filesystem, Fits, Inode, Inodes, Make, MayReplace, Move, Node, Remove, SetAttr, SetBytes, SetMark, T_from_true, World, common_steps, entries-node_with_attr, entries-node_with_bytes, entries-node_with_entry, entries-node_with_mark, entries-node_with_parent, entries-node_without_entry, entries_in, entries_in-no_directory, entry_named, eqb_tells, filesystem_numbered, folded, is_among, is_directory-node_with_entry, is_directory_node, is_sorted, is_sorted-put, list_all, name_cmp, nat_list_cmp_total, node_in, node_with_attr, node_with_bytes, node_with_entry, node_with_mark, node_with_parent, node_without_entry, none_is_some, passes, tree_of, with_changed, with_files}
use Rattle.vt_spec.specs.Language.Changes
use Rattle.vt_spec.specs.Inodes.{changed, without_replaced}
use Rattle.vt_laws_mounts.specs.LettingGo.InUse.{IsListedTree, is_inode_used}
use Rattle.vt_laws_mounts.specs.LettingGo.TreeChanges.{with_tree}
use Rattle.vt_laws_mounts.proofs.letting_go.Lists.{among_from_all}
use Rattle.vt_laws_mounts.proofs.counts.counting.Counts.{other_if}
use Rattle.vt_laws_mounts.proofs.counts.counting.Entries.{at_place, changed_at, new_entries, one_if, sorted_at, sorted_without, targets}
use Rattle.vt_laws_mounts.proofs.counts.counting.Times.{times_in}
use Rattle.vt_laws_mounts.specs.Counts.Changing.{LinksWhatIsThere}
use Rattle.vt_laws_mounts.specs.Counts.Counted.{IsCounted}
use Rattle.vt_laws_mounts.specs.Counts.Rows.{CountsFollowRows, FitInTurn, IsNewNumber, IsRowInUse, OnlyFilesChangeInRows, OtherCountsStayInRows, after_row, counted_after}
use Rattle.vt_laws_mounts.proofs.counts.changing.NameCounts as Names
use Rattle.vt_laws_mounts.proofs.counts.using.Swept
use Rattle.vt_laws_mounts.proofs.counts.using.Swept.{base_of, counted_start, found_is, there_if_counted}
use Rattle.vt_laws_mounts.proofs.counts.changing.TreeCounts.{IsGoing, IsStart, IsTallied, linked, rewritten}

-- a directory without targets has no entries
no_entries : (entries : Entries ℕ) → targets entries ≡ [] → entries ≡ []
no_entries [] e = refl
no_entries (first ∷ rest) e = absurd (true≢false (ap is_filled e))
  where
    is_filled : List ℕ → Bool
    is_filled [] = false
    is_filled (n ∷ more) = true

-- entries in order with one more, and with one less
put : (name : List ℕ) (object : ℕ) (o : Option (Node ℕ)) → is_sorted name_cmp (entries_in o) ≡ true
    → is_sorted name_cmp (entries_in (node_with_entry name object o)) ≡ true
put name object o sorted = by _ refl
  where
    by : (b : Bool) → is_directory_node o ≡ b → is_sorted name_cmp (entries_in (node_with_entry name object o)) ≡ true
    by true is = ap (is_sorted name_cmp) (entries-node_with_entry name object o is)
        ∙ passes _ (is_sorted-put name_cmp nat_list_cmp_total name object (entries_in o) (T_from_true _ sorted))
    by false plain = ap (is_sorted name_cmp)
        (entries_in-no_directory (node_with_entry name object o) (is_directory-node_with_entry name object o ∙ plain))

less : (name : List ℕ) (o : Option (Node ℕ)) → is_sorted name_cmp (entries_in o) ≡ true
    → is_sorted name_cmp (entries_in (node_without_entry name o)) ≡ true
less name o sorted =
    ap (is_sorted name_cmp) (entries-node_without_entry name o) ∙ sorted_without name (entries_in o) sorted

-- a change that leaves entries leaves their order
same_order : (node : ℕ → Option (Node ℕ)) (place : ℕ) (change : Option (Node ℕ) → Option (Node ℕ))
    → ((o : Option (Node ℕ)) → entries_in (change o) ≡ entries_in o)
    → ((n : ℕ) → is_sorted name_cmp (entries_in (node n)) ≡ true)
    → (n : ℕ) → is_sorted name_cmp (entries_in (at_place node place change n)) ≡ true
same_order node place change entries sorted =
    sorted_at node place change sorted (ap (is_sorted name_cmp) (entries (node place)) ∙ sorted place)

-- the root stays
root_of_files : (files : FileTree ℕ) (change : Change ℕ)
    → (Changes.changed nat_eq files change).tree.root ≡ files.tree.root
root_of_files files (Make directory name number new) = refl
root_of_files files (AddName directory name object) = refl
root_of_files files (Remove directory name object) = refl
root_of_files files (Move from old to new object) = grind (arith, common_steps)
root_of_files files (SetBytes file bytes) = refl
root_of_files files (SetAttr object attr) = refl
root_of_files files (SetMark directory opaque) = refl
root_of_files files (CopyUp object) = refl

root_of_inodes : (inodes : Inodes ℕ) (change : Change ℕ) → (changed nat_eq inodes change).root ≡ inodes.root
root_of_inodes inodes change = grind (arith, common_steps)

-- The tree and the counted inodes after a change, before the sweep
module _ (base : ℕ → ℕ) (files : FileTree ℕ) (inodes : Inodes ℕ) (root : inodes.root ≡ files.tree.root)
    (going : IsGoing base files.tree.node files.numbers inodes) where
  abbrev node : ℕ → Option (Node ℕ)
  node = files.tree.node

  abbrev Tallied : FileTree ℕ → Inodes ℕ → Type 0
  Tallied some counts = IsTallied base some.tree.node some.numbers counts

  -- what the inodes have there, the tree has
  same_at : (n : ℕ) → is_some (inodes.inode n) ≡ true → node_in (inodes.inode n) ≡ node n
  same_at n alive = sym (going.tallied.counted.kept n alive)

  directory_alive : (d : ℕ) → is_directory_node (node_in (inodes.inode d)) ≡ true → is_some (inodes.inode d) ≡ true
  directory_alive d is = by (inodes.inode d) is
    where
      by : (o : Option (Inode ℕ)) → is_directory_node (node_in o) ≡ true → is_some o ≡ true
      by None e = e
      by (Some inode) e = refl

  entry_alive : (d : ℕ) (name : List ℕ) (k : ℕ) → entry_named name (entries_in (node_in (inodes.inode d))) ≡ Some k
      → is_some (inodes.inode d) ≡ true
  entry_alive d name k is = by (inodes.inode d) is
    where
      by : (o : Option (Inode ℕ)) → entry_named name (entries_in (node_in o)) ≡ Some k → is_some o ≡ true
      by None e = none_is_some k e
      by (Some inode) e = refl

  is_there : (d : ℕ) → is_directory_node (node_in (inodes.inode d)) ≡ true → is_directory_node (node d) ≡ true
  is_there d is = subst (λ o. is_directory_node o ≡ true) (same_at d (directory_alive d is)) is

  leads_to : (d : ℕ) (name : List ℕ) (o : Option ℕ) → is_some (inodes.inode d) ≡ true
      → entry_named name (entries_in (node_in (inodes.inode d))) ≡ o → entry_named name (entries_in (node d)) ≡ o
  leads_to d name o alive is = subst (λ x. entry_named name (entries_in x) ≡ o) (same_at d alive) is

  is_bare : (n : ℕ) → entries_in (node_in (inodes.inode n)) ≡ [] → entries_in (node n) ≡ []
  is_bare n e = by (is_some (inodes.inode n)) refl
    where
      by : (b : Bool) → is_some (inodes.inode n) ≡ b → entries_in (node n) ≡ []
      by true alive = subst (λ x. entries_in x ≡ []) (same_at n alive) e
      by false gone = no_entries (entries_in (node n)) (going.tallied.counted.emptied n gone)

  moves : (from : ℕ) (old : List ℕ) (to : ℕ) (new : List ℕ) (object : ℕ)
      → entry_named old (entries_in (node from)) ≡ Some object → is_directory_node (node to) ≡ true
      → is_some (inodes.inode to) ≡ true
      → (o : Option ℕ) → entry_named new (entries_in (node to)) ≡ o → MayReplace (tree_of inodes) object o
      → Tallied (Changes.changed_node nat_eq (Changes.with_name nat_eq
      (Changes.without_name nat_eq (Changes.without_parent nat_eq files o) from old) to new object) object
      (node_with_parent to)) (without_replaced nat_eq
      (with_changed nat_eq (with_changed nat_eq (with_changed nat_eq inodes from (node_without_entry old)) to
      (node_with_entry new object)) object (node_with_parent to)) o)
  moves from old to new object leads is alive None finds may =
      Names.moved base node files.numbers inodes going from old to new object None leads is alive finds refl
      (λ n gone. absurd (omega arith))
  moves from old to new object leads is alive (Some gone) finds may =
      Names.moved base node files.numbers inodes going from old to new object (Some gone) leads is alive finds
      (other_if object gone (λ e. may.0 (sym e))) (λ n some. ⊎_elim (λ t. cc (t.1, is_bare gone may.2))
      (λ t. absurd (let none : one_if n gone ≡ 0 = ap (λ b. cond b 1 0) t.0 in omega arith)) (eqb_tells n gone))

  pub tallied : (change : Change ℕ) → Fits inodes change → LinksWhatIsThere inodes change → IsNewNumber files change
      → Tallied (Changes.changed nat_eq files change) (changed nat_eq inodes change)
  tallied (Make directory name number inode) fits links new =
      Names.made base node files.numbers inodes going directory name number inode (is_there directory fits.0)
      (directory_alive directory fits.0) (leads_to directory name None (directory_alive directory fits.0) fits.1) fits.2
      new fits.3
  tallied (AddName directory name object) fits links new =
      linked base node files.numbers inodes going directory name object
      (is_there directory fits.0) (directory_alive directory fits.0)
      (leads_to directory name None (directory_alive directory fits.0) fits.1) links
  tallied (Remove directory name object) fits links new =
      Names.removed_name going directory name object
      (leads_to directory name (Some object) (entry_alive directory name object fits.0) fits.0) (is_bare object fits.1)
  tallied (Move from old to new object) fits links is_new =
      subst (λ o. Tallied (Changes.with_moved nat_eq files from old to new object) (without_replaced nat_eq
      (with_changed nat_eq (with_changed nat_eq (with_changed nat_eq inodes from (node_without_entry old)) to
      (node_with_entry new object)) object (node_with_parent to)) o)) (sym same)
      (moves from old to new object (leads_to from old (Some object) (entry_alive from old object fits.0) fits.0)
      (is_there to fits.1) (directory_alive to fits.1)
      (entry_named new (entries_in (node to))) refl (subst (MayReplace (tree_of inodes) object) same fits.2))
    where
      same : entry_named new (entries_in (node_in (inodes.inode to))) ≡ entry_named new (entries_in (node to))
      same = ap (λ x. entry_named new (entries_in x)) (same_at to (directory_alive to fits.1))
  tallied (SetBytes file bytes) fits links new =
      rewritten base node files.numbers inodes going file (node_with_bytes bytes)
      (entries-node_with_bytes bytes) refl (λ some. (_, refl))
  tallied (SetAttr object attr) fits links new =
      rewritten base node files.numbers inodes going object (node_with_attr attr)
      (entries-node_with_attr attr) refl (λ some. (_, refl))
  tallied (SetMark directory opaque) fits links new =
      rewritten base node files.numbers inodes going directory (node_with_mark opaque)
      (entries-node_with_mark opaque) refl (λ some. (_, refl))
  tallied (CopyUp object) fits links new = going.tallied

  -- names stay in order
  pub in_order : (change : Change ℕ) → Fits inodes change
      → (n : ℕ) → is_sorted name_cmp (entries_in ((Changes.changed nat_eq files change).tree.node n)) ≡ true
  in_order (Make directory name number inode) fits = sorted_at (changed_at node number (Some inode)) directory
      (node_with_entry name number) made (put name number _ (made directory))
    where
      made : (n : ℕ) → is_sorted name_cmp (entries_in (changed_at node number (Some inode) n)) ≡ true
      made = sorted_at node number (λ o. Some inode) going.in_order
          (ap (is_sorted name_cmp) (new_entries directory inode.content fits.3))
  in_order (AddName directory name object) fits =
      sorted_at node directory (node_with_entry name object) going.in_order (put name object _ (going.in_order directory))
  in_order (Remove directory name object) fits =
      same_order (at_place node directory (node_without_entry name)) object (node_with_parent object)
      (entries-node_with_parent object)
      (sorted_at node directory (node_without_entry name) going.in_order (less name _ (going.in_order directory)))
  in_order (Move from old to new object) fits = by (entry_named new (entries_in (node to)))
    where
      moved : (ordered : ℕ → Option (Node ℕ)) → ((n : ℕ) → is_sorted name_cmp (entries_in (ordered n)) ≡ true)
          → (n : ℕ) → is_sorted name_cmp (entries_in (at_place (at_place (at_place ordered from
          (node_without_entry old)) to (node_with_entry new object)) object (node_with_parent to) n)) ≡ true
      moved ordered sorted =
          let off = sorted_at ordered from (node_without_entry old) sorted (less old _ (sorted from)) in
          let on = sorted_at (at_place ordered from (node_without_entry old)) to (node_with_entry new object) off
          (put new object _ (off to)) in
          same_order (at_place (at_place ordered from (node_without_entry old)) to (node_with_entry new object)) object
          (node_with_parent to) (entries-node_with_parent to) on

      by : (o : Option ℕ) → (n : ℕ) → is_sorted name_cmp (entries_in ((Changes.changed_node nat_eq
          (Changes.with_name nat_eq (Changes.without_name nat_eq (Changes.without_parent nat_eq files o) from old)
          to new object) object (node_with_parent to)).tree.node n)) ≡ true
      by None = moved node going.in_order
      by (Some gone) = moved (at_place node gone (node_with_parent gone))
          (same_order node gone (node_with_parent gone) (entries-node_with_parent gone) going.in_order)
  in_order (SetBytes file bytes) fits =
      same_order node file (node_with_bytes bytes) (entries-node_with_bytes bytes) going.in_order
  in_order (SetAttr object attr) fits =
      same_order node object (node_with_attr attr) (entries-node_with_attr attr) going.in_order
  in_order (SetMark directory opaque) fits =
      same_order node directory (node_with_mark opaque) (entries-node_with_mark opaque) going.in_order
  in_order (CopyUp object) fits = going.in_order

  pub goes : (change : Change ℕ) → Fits inodes change → LinksWhatIsThere inodes change → IsNewNumber files change
      → IsGoing base (Changes.changed nat_eq files change).tree.node (Changes.changed nat_eq files change).numbers
      (changed nat_eq inodes change)
  goes change fits links new = record { tallied = tallied change fits links new; in_order = in_order change fits }

  root_is : (change : Change ℕ)
      → (changed nat_eq inodes change).root ≡ (Changes.changed nat_eq files change).tree.root
  root_is change = cc (root_of_inodes inodes change, root_of_files files change, root)

-- A row

row_goes : (base : ℕ → ℕ) (files : FileTree ℕ) (inodes : Inodes ℕ) → inodes.root ≡ files.tree.root
    → IsGoing base files.tree.node files.numbers inodes → (row : List (Change ℕ)) → FitInTurn files inodes row
    → IsGoing base (folded (Changes.changed nat_eq) files row).tree.node
    (folded (Changes.changed nat_eq) files row).numbers (counted_after inodes row)
row_goes base files inodes root going [] fit = going
row_goes base files inodes root going (change ∷ rest) fit =
    row_goes base (Changes.changed nat_eq files change) (changed nat_eq inodes change)
    (root_is base files inodes root going change)
    (goes base files inodes root going change fit.0 fit.1 fit.2) rest fit.3

root_of_row : (files : FileTree ℕ) (row : List (Change ℕ))
    → (folded (Changes.changed nat_eq) files row).tree.root ≡ files.tree.root
root_of_row files [] = refl
root_of_row files (change ∷ rest) = root_of_row (Changes.changed nat_eq files change) rest ∙ root_of_files files change

root_of_counted : (inodes : Inodes ℕ) (row : List (Change ℕ)) → (counted_after inodes row).root ≡ inodes.root
root_of_counted inodes [] = refl
root_of_counted inodes (change ∷ rest) = root_of_counted (changed nat_eq inodes change) rest
    ∙ root_of_inodes inodes change

module _ (world : World ℕ) (number : ℕ) (inodes : Inodes ℕ) (row : List (Change ℕ))
    (is : IsRowInUse world number inodes row) where
  abbrev pub old : Filesystem ℕ
  old = filesystem_numbered nat_eq world number

  abbrev pub files : FileTree ℕ
  files = folded (Changes.changed nat_eq) old.files row

  pub filesystem_there : is_among nat_eq number (map (λ f. f.number) world.filesystems) ≡ true
  filesystem_there = there_if_counted world number inodes is.counted

  pub start : IsStart (base_of world old) old.files.tree.node old.files.numbers inodes
  start = counted_start world old inodes (among_from_all (λ f. IsListedTree f.files) world.filesystems is.trees old
      (found_is _ number filesystem_there)) (among_from_all (λ f. list_all (is_inode_used world f) f.files.numbers
      ≡ true) world.filesystems is.in_use.inodes old (found_is _ number filesystem_there)) is.counted

  pub row_tallied : IsTallied (base_of world old) files.tree.node files.numbers (counted_after inodes row)
  row_tallied = (row_goes (base_of world old) old.files inodes is.counted.root
      (record { tallied = start.tallied; in_order = start.in_order }) row is.fit).tallied

  pub row_root : files.tree.root ≡ old.files.tree.root
  row_root = root_of_row old.files row

  pub counted_root : (counted_after inodes row).root ≡ files.tree.root
  counted_root = root_of_counted inodes row ∙ is.counted.root ∙ sym row_root

  abbrev pub done : World ℕ
  done = Swept.done world number files is.in_use is.one_filesystem is.plain filesystem_there

  abbrev pub left : FileTree ℕ
  left = Swept.swept world number files is.in_use is.one_filesystem is.plain filesystem_there

  pub after_is : after_row world number row ≡ done
  after_is = Swept.settled_is world number files is.in_use is.one_filesystem is.plain filesystem_there row_tallied.once

  pub found : filesystem_numbered nat_eq done number ≡ with_files old left
  found = Swept.found_done world number files is.in_use is.one_filesystem is.plain filesystem_there row_tallied.once

  pub counted_then : IsCounted done (with_files old left) (counted_after inodes row)
  counted_then = Swept.counted_done world number files is.in_use is.one_filesystem is.plain filesystem_there
      (counted_after inodes row) counted_root row_root row_tallied

  pub left_times : (n : ℕ) → times_in n left.numbers ≡ cond (is_some ((counted_after inodes row).inode n)) 1 0
  left_times = Swept.times_left world number files is.in_use is.one_filesystem is.plain filesystem_there
      (counted_after inodes row) counted_root row_root row_tallied

  only_files : after_row world number row
      ≡ with_tree world number (filesystem_numbered nat_eq (after_row world number row) number).files
  only_files = subst (λ w. w ≡ with_tree world number (filesystem_numbered nat_eq w number).files) (sym after_is)
      (ap (λ f. with_tree world number f.files) (sym found))

  counts_follow : IsCounted (after_row world number row)
      (filesystem_numbered nat_eq (after_row world number row) number) (counted_after inodes row)
  counts_follow =
      subst (λ w. IsCounted w (filesystem_numbered nat_eq w number) (counted_after inodes row)) (sym after_is)
      (subst (λ f. IsCounted done f (counted_after inodes row)) (sym found) counted_then)

  others : (other : ℕ) (counts : Inodes ℕ) → other ≢ number
      → IsCounted world (filesystem_numbered nat_eq world other) counts
      → IsCounted (after_row world number row) (filesystem_numbered nat_eq (after_row world number row) other) counts
  others other counts apart counted =
      subst (λ w. IsCounted w (filesystem_numbered nat_eq w other) counts) (sym after_is)
      (Swept.others_stay world number files is.in_use is.one_filesystem is.plain filesystem_there other counts apart
      counted)

pub only_files_change_in_rows : OnlyFilesChangeInRows
only_files_change_in_rows world number inodes row is = only_files world number inodes row is

pub counts_follow_rows : CountsFollowRows
counts_follow_rows world number inodes row is = counts_follow world number inodes row is

pub other_counts_stay_in_rows : OtherCountsStayInRows
other_counts_stay_in_rows world number inodes row is other counts apart counted =
    others world number inodes row is other counts apart counted
