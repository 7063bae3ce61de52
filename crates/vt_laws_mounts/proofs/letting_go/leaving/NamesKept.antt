-- What changes of a tree do to names.
use Rattle.std.proofs.Common.{arith, ◌≡◌, refl, sym, ap, subst, ◌∙◌, ◌⊎◌, inl, inr, ⊎_elim, ℕ, nat_eq, true, false, not, ◌||◌, List, [], ◌∷◌, Option, Some, None, is_some, option_to_list, Ordering, Equal, Greater, Less, is_eq, is_lt, bytes_eq}
use Rattle.vt_spec.proofs.Common.{AddName, Content, CopyUp, Directory, Entries, FileTree, Make, Move, Node, Regular, Remove, SetAttr, SetBytes, SetMark, Symlink, T_from_true, Whiteout, and_parts, below_all, by_order, bytes_decides, cases_Bool, changed, changed_node, common_steps, directory_used, entries-node_with_attr, entries-node_with_bytes, entries-node_with_mark, entries-node_with_parent, entries_in, entry_at, entry_named, entry_named-without_entry, eq_by_cmp, eqb_tells, false_from_ne_true, is_among, is_directory-node_with_parent, is_directory-node_without_entry, is_directory_node, is_sorted, is_sorted-where_key, list_all, name_cmp, named_in, nat_list_cmp_total, node_other, node_set, node_with_attr, node_with_bytes, node_with_entry, node_with_mark, node_with_parent, node_without_entry, none_is_not, part_kept, passes, root-without_parent, same_Some, tied_itself, with_entry, with_inode, with_name, without_entry, without_name, without_parent}
use Rattle.vt_spec.proofs.Nodes.{same_name}
use Rattle.vt_laws_mounts.specs.LettingGo.FileChanges.{ChangesKeepNames, IsMade, IsMoved}
use Rattle.vt_laws_mounts.specs.LettingGo.InUse.{IsListedTree}
use Rattle.vt_laws_mounts.specs.LettingGo.TreeChanges.{ChangesTree}
use Rattle.vt_laws_mounts.proofs.letting_go.Lists.{Among, among-filter, among-flat_map, among-from_flat_map, among-from_map, among-map, among_numbers, is_among_numbers, list_all_from_among, or_left, or_right}
use Rattle.vt_spec.proofs.Worlds.{numbers-without_parent}

abbrev Entry : Type 0
Entry = List ℕ × ℕ

-- Entries in the order of their names

below_each : (name : List ℕ) (entries : Entries ℕ) → below_all name_cmp name entries ≡ true → (e : Entry)
    → Among e entries → is_lt (name_cmp name e.0) ≡ true
below_each name [] h e m = absurd m
below_each name (x ∷ xs) h e m =
    let parts = and_parts (is_lt (name_cmp name x.0)) (below_all name_cmp name xs) h in
    ⊎_elim (λ same. cc (parts.0)) (below_each name xs parts.1 e) m

-- each entry is the one that its name leads to
pub found_entry : (entries : Entries ℕ) → is_sorted name_cmp entries ≡ true → (e : Entry) → Among e entries
    → entry_named e.0 entries ≡ Some e.1
found_entry [] sorted e m = absurd m
found_entry (x ∷ xs) sorted e m =
    let parts = and_parts (below_all name_cmp x.0 xs) (is_sorted name_cmp xs) sorted in
    ⊎_elim (λ same. cc (tied_itself nat_list_cmp_total x.0))
    (λ later. cc (apart (below_each x.0 xs parts.0 e later), found_entry xs parts.1 e later)) m
  where
    apart : is_lt (name_cmp x.0 e.0) ≡ true → eq_by_cmp name_cmp e.0 x.0 ≡ false
    apart below = false_from_ne_true _ (λ tie. cc (below, same_name e.0 x.0 tie, tied_itself nat_list_cmp_total x.0))

-- an entry stays where a name is given, but for the one that had it
put_keeps : (name : List ℕ) (number : ℕ) (entries : Entries ℕ) (e : Entry) → Among e entries
    → Among e (with_entry name number entries) ⊎ (e.0 ≡ name)
put_keeps name number [] e m = absurd m
put_keeps name number (x ∷ xs) e m = by _ refl m (put_keeps name number xs e)
  where
    by : (o : Ordering) → name_cmp name x.0 ≡ o → Among e (x ∷ xs)
        → (Among e xs → Among e (with_entry name number xs) ⊎ (e.0 ≡ name))
        → Among e (by_order o ((name, number) ∷ x ∷ xs) ((x.0, number) ∷ xs) (x ∷ with_entry name number xs))
        ⊎ (e.0 ≡ name)
    by Less tie n later = inl (inr n)
    by Equal tie (inl same) later = inr (cc (same_name name x.0 (ap is_eq tie)))
    by Equal tie (inr n) later = inl (inr n)
    by Greater tie (inl same) later = inl (inl same)
    by Greater tie (inr n) later = ⊎_elim (λ l. inl (inr l)) inr (later n)

put_has : (name : List ℕ) (number : ℕ) (entries : Entries ℕ)
    → (e : Entry) × Among e (with_entry name number entries) × (e.1 ≡ number)
put_has name number [] = ((name, number), inl refl, refl)
put_has name number (x ∷ xs) = by _ (put_has name number xs)
  where
    by : (o : Ordering) → (e : Entry) × Among e (with_entry name number xs) × (e.1 ≡ number)
        → (e : Entry) × Among e (by_order o ((name, number) ∷ x ∷ xs) ((x.0, number) ∷ xs)
        (x ∷ with_entry name number xs)) × (e.1 ≡ number)
    by Less later = ((name, number), inl refl, refl)
    by Equal later = ((x.0, number), inl refl, refl)
    by Greater later = (later.0, inr later.1, later.2)

filter_keeps : (name : List ℕ) (entries : Entries ℕ) (e : Entry) → Among e entries
    → Among e (without_entry name entries) ⊎ (e.0 ≡ name)
filter_keeps name entries e m = ⊎_elim (λ same. inr ((bytes_decides e.0 name).0 same))
    (λ differ. inl (among-filter _ _ e m (ap not differ))) (cases_Bool _)

-- Nodes

node_keeps_given : (name : List ℕ) (number : ℕ) (o : Option (Node ℕ)) (e : Entry) → Among e (entries_in o)
    → Among e (entries_in (node_with_entry name number o)) ⊎ (e.0 ≡ name)
node_keeps_given name number None e m = absurd m
node_keeps_given name number (Some node) e m = grind (arith, common_steps, put_keeps)

node_keeps_taken : (name : List ℕ) (o : Option (Node ℕ)) (e : Entry) → Among e (entries_in o)
    → Among e (entries_in (node_without_entry name o)) ⊎ (e.0 ≡ name)
node_keeps_taken name None e m = absurd m
node_keeps_taken name (Some node) e m = grind (arith, common_steps, filter_keeps)

node_has : (name : List ℕ) (number : ℕ) (o : Option (Node ℕ)) → is_directory_node o ≡ true
    → (e : Entry) × Among e (entries_in (node_with_entry name number o)) × (e.1 ≡ number)
node_has name number None is = cc
node_has name number (Some node) is = by _ is
  where
    by : (content : Content ℕ) → is_directory_node (Some (record { attr = node.attr; content = content })) ≡ true
        → (e : Entry) × Among e (entries_in
        (node_with_entry name number (Some (record { attr = node.attr; content = content })))) × (e.1 ≡ number)
    by (Directory parent entries opaque) n = put_has name number _
    by (Regular bytes) n = cc
    by (Symlink text) n = cc
    by Whiteout n = cc

sorted_without : (name : List ℕ) (o : Option (Node ℕ)) → is_sorted name_cmp (entries_in o) ≡ true
    → is_sorted name_cmp (entries_in (node_without_entry name o)) ≡ true
sorted_without name None e = e
sorted_without name (Some node) e = by _ e
  where
    by : (content : Content ℕ) → is_sorted name_cmp
        (entries_in (Some (record { attr = node.attr; content = content }))) ≡ true → is_sorted name_cmp (entries_in
        (node_without_entry name (Some (record { attr = node.attr; content = content })))) ≡ true
    by (Directory old entries opaque) h =
        passes _ (is_sorted-where_key name_cmp (λ x. not (bytes_eq x name)) entries (T_from_true _ h))
    by (Regular bytes) h = refl
    by (Symlink text) h = refl
    by Whiteout h = refl

-- what a name leads to where another one is taken, it led to before
named_before : (old name : List ℕ) (o : Option (Node ℕ)) (number : ℕ)
    → entry_named name (entries_in (node_without_entry old o)) ≡ Some number
    → entry_named name (entries_in o) ≡ Some number
named_before old name None number e = e
named_before old name (Some node) number e = grind (arith, common_steps, none_is_not, entry_named-without_entry)

-- Trees: what a change of one node keeps

abbrev entries_at : FileTree ℕ → ℕ → Entries ℕ
entries_at files directory = entries_in (files.tree.node directory)

same_entries : (files : FileTree ℕ) (number : ℕ) (change : Option (Node ℕ) → Option (Node ℕ))
    → ((o : Option (Node ℕ)) → entries_in (change o) ≡ entries_in o)
    → (directory : ℕ) → entries_at (changed_node nat_eq files number change) directory ≡ entries_at files directory
same_entries files number change same directory =
    part_kept entries_in files.tree number (change (files.tree.node number)) (same (files.tree.node number)) directory

same_entries_unparented : (files : FileTree ℕ) (object : Option ℕ) (directory : ℕ)
    → entries_at (without_parent nat_eq files object) directory ≡ entries_at files directory
same_entries_unparented files None directory = refl
same_entries_unparented files (Some object) directory = same_entries files object (node_with_parent object)
    (entries-node_with_parent object) directory

-- an entry stays, or it was the one of the name
one_changed : (files : FileTree ℕ) (directory : ℕ) (name : List ℕ) (change : Option (Node ℕ) → Option (Node ℕ))
    → ((e : Entry) → Among e (entries_at files directory)
    → Among e (entries_in (change (files.tree.node directory))) ⊎ (e.0 ≡ name))
    → is_sorted name_cmp (entries_at files directory) ≡ true → (d : ℕ) (e : Entry) → Among e (entries_at files d)
    → Among e (entries_at (changed_node nat_eq files directory change) d)
    ⊎ ((d ≡ directory) × (entry_at files.tree directory name ≡ Some e.1))
one_changed files directory name change keeps sorted d e m = ⊎_elim
    (λ at. let here : Among e (entries_at files directory) = subst (λ x. Among e (entries_at files x)) at.1 m in
    ⊎_elim (λ still. inl (subst (λ o. Among e (entries_in o))
    (sym (ap (changed_node nat_eq files directory change).tree.node at.1
    ∙ node_set files.tree directory (change (files.tree.node directory)))) still)) (λ named. inr (
      at.1,
      cc (named, found_entry (entries_at files directory) sorted e here),
    )) (keeps e here)) (λ other. inl (subst (λ o. Among e (entries_in o))
    (sym (node_other files.tree directory (change (files.tree.node directory)) d other.1)) m)) (eqb_tells d directory)

-- All names, by those of each directory

-- what an entry led to is named, or lost
abbrev Left : FileTree ℕ → List ℕ → Entry → Type 0
Left after lost e = ((d : ℕ) × (f : Entry) × Among d after.numbers × Among f (entries_at after d) × (f.1 ≡ e.1))
    ⊎ Among e.1 lost

named_by : (after : FileTree ℕ) (d : ℕ) (e : Entry) → Among d after.numbers → Among e (entries_at after d)
    → is_among nat_eq e.1 (named_in after) ≡ true
named_by after d e m n = is_among_numbers e.1 _ (among-flat_map _ _ d e.1 m (among-map _ _ e n))

all_names : (files after : FileTree ℕ) (lost : List ℕ)
    → ((d : ℕ) → Among d files.numbers → (e : Entry) → Among e (entries_at files d) → Left after lost e)
    → list_all (λ number. is_among nat_eq number (named_in after) || is_among nat_eq number lost) (named_in files)
    ≡ true
all_names files after lost left = list_all_from_among _ _ (λ number m.
    let d = among-from_flat_map _ _ number m in
    let e = among-from_map _ _ number d.2 in
    ap (λ n. is_among nat_eq n (named_in after) || is_among nat_eq n lost) e.2 ∙ ⊎_elim
    (λ still. or_left _ _ (ap (λ n. is_among nat_eq n (named_in after)) (sym still.4) ∙ named_by after _ _ still.2
    still.3)) (λ gone. or_right _ _ (is_among_numbers e.0.1 lost gone)) (left d.0 d.1 e.0 e.1))

-- inodes that were there
same_numbers : (files after : FileTree ℕ) → after.numbers ≡ files.numbers
    → list_all (λ number. is_among nat_eq number files.numbers
    || is_among nat_eq number (named_in after)) after.numbers ≡ true
same_numbers files after same =
    list_all_from_among _ _ (λ number m. or_left _ _ (is_among_numbers number _ (subst (Among number) same m)))

-- a change by which all entries stay
all_stay : (files after : FileTree ℕ) → IsListedTree after → after.tree.root ≡ files.tree.root
    → after.numbers ≡ files.numbers → ((d : ℕ) → entries_at after d ≡ entries_at files d) → ChangesTree files after []
all_stay files after listed root numbers same = record {
  tree = listed;
  root = root;
  inodes = same_numbers files after numbers;
  names = all_names files after []
      (λ d m e n. inl (d, e, subst (Among d) (sym numbers) m, subst (Among e) (sym (same d)) n, refl));
}

some_lost : (o : Option ℕ) (number : ℕ) → o ≡ Some number → Among number (option_to_list o)
some_lost o number e = subst (λ x. Among number (option_to_list x)) (sym e) (inl refl)

module _ (files : FileTree ℕ) (listed : IsListedTree files) where
  sorted : (d : ℕ) → is_sorted name_cmp (entries_at files d) ≡ true
  sorted = listed.tree.in_order

  -- a directory is among the numbers
  there : (d : ℕ) → is_directory_node (files.tree.node d) ≡ true → Among d files.numbers
  there d is = among_numbers d files.numbers (listed.numbers d ∙ directory_used files.tree d is)

  given : (directory : ℕ) (name : List ℕ) (object : ℕ) → IsListedTree (with_name nat_eq files directory name object)
      → ChangesTree files (with_name nat_eq files directory name object)
      (option_to_list (entry_at files.tree directory name))
  given directory name object after = record {
    tree = after;
    root = refl;
    inodes = same_numbers files (with_name nat_eq files directory name object) refl;
    names = all_names files (with_name nat_eq files directory name object)
        (option_to_list (entry_at files.tree directory name)) (λ d m e n.
        ⊎_elim (λ still. inl (d, e, m, still, refl))
        (λ lost. inr (some_lost (entry_at files.tree directory name) e.1 lost.1))
        (one_changed files directory name (node_with_entry name object)
        (node_keeps_given name object (files.tree.node directory)) (sorted directory) d e n));
  }

  taken : (directory : ℕ) (name : List ℕ) (object : ℕ)
      → IsListedTree (changed nat_eq files (Remove directory name object))
      → ChangesTree files (changed nat_eq files (Remove directory name object))
      (option_to_list (entry_at files.tree directory name))
  taken directory name object after = record {
    tree = after;
    root = refl;
    inodes = same_numbers files (changed nat_eq files (Remove directory name object)) refl;
    names = all_names files (changed nat_eq files (Remove directory name object))
        (option_to_list (entry_at files.tree directory name)) (λ d m e n.
        ⊎_elim (λ still. inl (
          d,
          e,
          m,
          subst (Among e) (sym (same_entries_unparented (without_name nat_eq files directory name)
              (Some object) d)) still,
          refl,
        )) (λ lost. inr (some_lost (entry_at files.tree directory name) e.1 lost.1))
        (one_changed files directory name (node_without_entry name) (node_keeps_taken name (files.tree.node directory))
        (sorted directory) d e n));
  }

  -- A new inode
  module _ (directory : ℕ) (name : List ℕ) (number : ℕ) (node : Node ℕ) (made : IsMade files directory number) where
    abbrev with_it : FileTree ℕ
    with_it = with_inode nat_eq files number node

    abbrev named : FileTree ℕ
    named = with_name nat_eq with_it directory name number

    others : (d : ℕ) → is_some (files.tree.node d) ≡ true → with_it.tree.node d ≡ files.tree.node d
    others d is = node_other files.tree number (Some node) d (λ same.
        cc (is, same, made.is_new))

    has_some : (o : Option (Node ℕ)) (e : Entry) → Among e (entries_in o) → is_some o ≡ true
    has_some None e m = absurd m
    has_some (Some n) e m = refl

    of_directory : with_it.tree.node directory ≡ files.tree.node directory
    of_directory = others directory (directory_used files.tree directory made.in_directory)

    new_is_named : is_among nat_eq number (named_in named) ≡ true
    new_is_named =
        let has = node_has name number (with_it.tree.node directory) (cc (of_directory, made.in_directory)) in
        ap (λ n. is_among nat_eq n (named_in named)) (sym has.2)
        ∙ named_by named directory has.0 (inr (there directory made.in_directory))
        (subst (λ o. Among has.0 (entries_in o))
        (sym (node_set with_it.tree directory (node_with_entry name number (with_it.tree.node directory)))) has.1)

    makes : IsListedTree named → ChangesTree files named (option_to_list (entry_at files.tree directory name))
    makes after = record {
      tree = after;
      root = refl;
      inodes = list_all_from_among (λ k. is_among nat_eq k files.numbers || is_among nat_eq k (named_in named))
          named.numbers (λ k m.
          ⊎_elim (λ new. or_right (is_among nat_eq k files.numbers) (is_among nat_eq k (named_in named))
          (cc new_is_named)) (λ old. or_left (is_among nat_eq k files.numbers) (is_among nat_eq k (named_in named))
          (is_among_numbers k files.numbers old)) m);
      names = all_names files named (option_to_list (entry_at files.tree directory name)) (λ d m e n.
          ⊎_elim (λ still. inl (d, e, inr m, still, refl))
          (λ lost. inr (some_lost (entry_at files.tree directory name) e.1 (cc (of_directory, lost.1))))
          (one_changed with_it directory name (node_with_entry name number)
          (node_keeps_given name number (with_it.tree.node directory)) (cc (of_directory, sorted directory)) d e
          (subst (λ o. Among e (entries_in o)) (sym (others d (has_some (files.tree.node d) e n))) n)));
    }

  -- A name for another
  module _ (from : ℕ) (old : List ℕ) (to : ℕ) (new : List ℕ) (object : ℕ)
      (moves : IsMoved files from old to object) where
    abbrev replaced : Option ℕ
    replaced = entry_at files.tree to new

    abbrev apart : FileTree ℕ
    apart = without_parent nat_eq files replaced

    abbrev left : FileTree ℕ
    left = without_name nat_eq apart from old

    abbrev placed : FileTree ℕ
    placed = with_name nat_eq left to new object

    abbrev last : FileTree ℕ
    last = changed nat_eq files (Move from old to new object)

    same_apart : (d : ℕ) → entries_at apart d ≡ entries_at files d
    same_apart = same_entries_unparented files _

    same_last : (d : ℕ) → entries_at last d ≡ entries_at placed d
    same_last = same_entries placed object (node_with_parent to) (entries-node_with_parent to)

    numbers_last : last.numbers ≡ files.numbers
    numbers_last = numbers-without_parent files _

    -- what the new name leads to once the old one is taken, it led to before
    was_there : (number : ℕ) → entry_at left.tree to new ≡ Some number → replaced ≡ Some number
    was_there number e = ⊎_elim
        (λ here. ap (entry_named new) (sym (same_apart to)) ∙ ap (λ d. entry_named new (entries_at apart d)) here.1
        ∙ named_before old new (apart.tree.node from) number
        (sym (ap (λ o. entry_named new (entries_in o)) (ap left.tree.node here.1
        ∙ node_set apart.tree from (node_without_entry old (apart.tree.node from)))) ∙ e))
        (λ other. ap (entry_named new) (sym (same_apart to)) ∙ ap (λ o. entry_named new (entries_in o))
        (sym (node_other apart.tree from (node_without_entry old (apart.tree.node from)) to other.1)) ∙ e)
        (eqb_tells to from)

    sorted_left : is_sorted name_cmp (entries_at left to) ≡ true
    sorted_left = ⊎_elim (λ here. ap (λ o. is_sorted name_cmp (entries_in o)) (ap left.tree.node here.1
        ∙ node_set apart.tree from (node_without_entry old (apart.tree.node from)))
        ∙ sorted_without old (apart.tree.node from) (ap (is_sorted name_cmp) (same_apart from) ∙ sorted from))
        (λ other. ap (λ o. is_sorted name_cmp (entries_in o))
        (node_other apart.tree from (node_without_entry old (apart.tree.node from)) to other.1)
        ∙ ap (is_sorted name_cmp) (same_apart to) ∙ sorted to) (eqb_tells to from)

    directory_left : is_directory_node (left.tree.node to) ≡ true
    directory_left = grind (
      arith,
      common_steps,
      part_kept is_directory_node apart.tree from (node_without_entry old
          (apart.tree.node from)) (is_directory-node_without_entry old (apart.tree.node from)) to,
      part_kept,
      is_directory-node_with_parent,
    )

    to_last : (d : ℕ) (e : Entry) → Among e (entries_at placed d) → Among e (entries_at last d)
    to_last d e m = subst (Among e) (sym (same_last d)) m

    object_named : (number : ℕ) → number ≡ object → Left last (option_to_list replaced) (old, number)
    object_named number same =
        let has = node_has new object (left.tree.node to) directory_left in
        inl (
          to,
          has.0,
          subst (Among to) (sym numbers_last) (there to moves.in_directory),
          to_last to has.0 (subst (λ o. Among has.0 (entries_in o))
              (sym (node_set left.tree to (node_with_entry new object (left.tree.node to)))) has.1),
          has.2 ∙ sym same,
        )

    left_so : (d : ℕ) → Among d files.numbers → (e : Entry) → Among e (entries_at files d)
        → Left last (option_to_list replaced) e
    left_so d m e n = ⊎_elim (λ still. ⊎_elim
        (λ there_still. inl (d, e, subst (Among d) (sym numbers_last) m, to_last d e there_still, refl))
        (λ lost. inr (some_lost replaced e.1 (was_there e.1 lost.1)))
        (one_changed left to new (node_with_entry new object)
        (node_keeps_given new object (left.tree.node to)) sorted_left d e still))
        (λ gone. object_named e.1 (same_Some e.1 object (cc (gone.1, same_apart from, moves.named))))
        (one_changed apart from old (node_without_entry old) (node_keeps_taken old (apart.tree.node from))
        (cc (same_apart from, sorted from)) d e (subst (Among e) (sym (same_apart d)) n))

    moves_so : IsListedTree last → ChangesTree files last (option_to_list replaced)
    moves_so after = record {
      tree = after;
      root = root-without_parent files replaced;
      inodes = same_numbers files last numbers_last;
      names = all_names files last (option_to_list replaced) left_so;
    }

pub changes_keep_names : ChangesKeepNames
changes_keep_names files (Make directory name number node) listed after may =
    makes files listed directory name number node may after
changes_keep_names files (AddName directory name object) listed after may =
    given files listed directory name object after
changes_keep_names files (Remove directory name object) listed after may =
    taken files listed directory name object after
changes_keep_names files (Move from old to new object) listed after may =
    moves_so files listed from old to new object may after
changes_keep_names files (SetBytes file bytes) listed after may =
    all_stay files (changed nat_eq files (SetBytes file bytes)) after refl refl
    (same_entries files file (node_with_bytes bytes) (entries-node_with_bytes bytes))
changes_keep_names files (SetAttr object attr) listed after may =
    all_stay files (changed nat_eq files (SetAttr object attr)) after refl refl
    (same_entries files object (node_with_attr attr) (entries-node_with_attr attr))
changes_keep_names files (SetMark directory opaque) listed after may =
    all_stay files (changed nat_eq files (SetMark directory opaque)) after refl refl
    (same_entries files directory (node_with_mark opaque) (entries-node_with_mark opaque))
changes_keep_names files (CopyUp object) listed after may = all_stay files files after refl refl (λ d. refl)
