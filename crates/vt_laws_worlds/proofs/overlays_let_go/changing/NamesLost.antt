-- What loses a name in the upper layer when an overlay changes.
use Rattle.std.proofs.Common.{◌≡◌, ◌≢◌, refl, sym, ap, subst, ◌∙◌, ◌⊎◌, inl, inr, ⊎_elim, true≢false, arith, ℕ, ◌+◌, ◌*◌, nat_eq, Bool, true, false, not, List, [], ◌∷◌, ◌++◌, map, Option, Some, None, is_some, option_to_list}
use Rattle.vt_spec.proofs.Common.{AddName, Change, CopyUp, FileTree, Filesystem, Fresh, HasName, IsWorld, Layer, Location, Make, Merge, Move, Node, Overlay, Remove, SetAttr, SetBytes, SetMark, Stack, World, among_from_contains, among_targets, bytes_in, content_with_parent, copied_up, entries-node_with_attr, entries-node_with_bytes, entries-node_with_mark, entries-node_with_parent, entries-without_parent, entries_in, entry_at, entry_named, eqb_tells, evens, evens-distinct, files_at, filesystem_numbered, hides_directory, is_among, list_all, merge_changed, merge_with_link, merge_with_moved, merge_with_new, merge_without_name, mount_at, name_left_by, named_in, node_at, node_other, node_with_attr, node_with_bytes, node_with_mark, node_with_parent, not-true, odds, odds-distinct, opened, overwritten, part-changed_node, same_Some, settled, shown_in_lowers_at, stack_of, targets_in, upper_directory_named, upper_object, upper_of, whiteout_of, with_copy, with_descriptor, with_inode, with_moved, with_name, without_contents, without_name, without_parent}
use Rattle.vt_laws_trees.specs.Layers.Layers.ChangesUpper.{IsFitToChange, copied_for, IsNewBy}
use Rattle.vt_laws_trees.proofs.layers.layers.CopyingNames.{emptied_other, marked_entries}
use Rattle.vt_laws_mounts.specs.LettingGo.FileChanges.{names_lost}
use Rattle.vt_laws_mounts.specs.LettingGo.InUse.{IsListedTree}
use Rattle.vt_laws_mounts.specs.LettingGo.Overlays.{let_go_all_inodes}
use Rattle.vt_laws_mounts.proofs.letting_go.leaving.FilesChanged.{none_left}
use Rattle.vt_laws_mounts.proofs.letting_go.Lists.{Among, among-append_left, among-append_right, among-from_filter, among-from_flat_map, among-from_map, among_from_all, among_numbers, is_among_numbers, list_all_from_among}
use Rattle.vt_laws_mounts.proofs.letting_go.leaving.NamesKept.{found_entry}
use Rattle.vt_laws_mounts.proofs.letting_go.Trees.{named_among}
use Rattle.vt_laws_worlds.specs.OverlaysLetGo.OverlayChanges.{CanChange, inodes_lost_with_upper, merge_after, merge_at, unnamed_by}
use Rattle.vt_laws_worlds.specs.OverlaysLetGo.OverlayNames.{OnlyTheseLoseNames, OpenedCopiesKeepAll, OverlayChangesKeepAll, WrittenPartsInOverlaysKeepAll, names_under, under_name, upper_names_lost}
use Rattle.vt_laws_worlds.proofs.overlays_let_go.changing.NamesCopied.{Fine, IsFine, line_fine, one_place, put_same, take_same}
use Rattle.vt_laws_worlds.proofs.overlays_let_go.changing.NamesFree.{names_free}
use Rattle.vt_laws_worlds.proofs.overlays_let_go.changing.OverlayCalls.{goes_with_task}
use Rattle.vt_laws_worlds.proofs.overlays_let_go.changing.OverlaysChanged.{fit, layer_there, overlay_changes_let_go, settles}

-- an entry that is at this place
at_place : (files : FileTree ℕ) (d directory : ℕ) (n name : List ℕ) (k : ℕ) → entry_at files.tree d n ≡ Some k
    → (d ≡ directory) × (n ≡ name) → Among k (option_to_list (entry_at files.tree directory name))
at_place files d directory n name k e same = subst (λ o. Among k (option_to_list o))
    (sym (ap (λ m. entry_at files.tree m name) (sym same.0) ∙ ap (entry_at files.tree d) (sym same.1) ∙ e)) (inl refl)

-- an entry that is emptied out is in that directory
emptied_out : (files : FileTree ℕ) (replaced : Option ℕ) (d : ℕ) (n : List ℕ) (k : ℕ) → entry_at files.tree d n ≡ Some k
    → (entry_at (without_contents nat_eq files replaced).tree d n ≡ Some k) ⊎ (replaced ≡ Some d)
emptied_out files None d n k e = inl e
emptied_out files (Some object) d n k e = ⊎_elim (λ same. inr (cc))
    (λ other. inl (cc (emptied_other files (Some object) d (λ s. other.1 (sym (same_Some object d s))))))
    (eqb_tells d object)

-- an entry of the upper layer is at a name of a directory of the overlay
abbrev pub IsAt : Merge ℕ → ℕ → List ℕ → ℕ → List ℕ → Type 0
IsAt merge directory name d n = (d ≡ upper_of merge directory) × (n ≡ name)

-- A further name takes the place of what had it, and of nothing else
linked_loses : (merge : Merge ℕ) (directory : ℕ) (name : List ℕ) (object : ℕ) (d : ℕ) (n : List ℕ) (k : ℕ)
    → entry_at merge.upper.tree d n ≡ Some k
    → HasName (merge_with_link nat_eq merge directory name object).upper.tree k ⊎ IsAt merge directory name d n
linked_loses merge directory name object d n k e = ⊎_elim inr (λ differ. inl (
  d,
  n,
  put_same merge.upper (upper_of merge directory) name (upper_of merge object) d n differ ∙ e,
)) (one_place d (upper_of merge directory) n name)

-- Changes of an overlay of which all that they ask for is copied
module _ (fresh : Fresh ℕ) (stack : Stack ℕ) (merge : Merge ℕ)
    (vacant : entries_in (merge.upper.tree.node (fresh 0)) ≡ []) where
  abbrev NamedOr : FileTree ℕ → List ℕ → Type 0
  NamedOr later lost = (d : ℕ) (n : List ℕ) (k : ℕ) → entry_at merge.upper.tree d n ≡ Some k
      → HasName later.tree k ⊎ Among k lost

  not_new : (d : ℕ) (n : List ℕ) (k : ℕ) → entry_at merge.upper.tree d n ≡ Some k → d ≢ fresh 0
  not_new d n k e same = cc

  with_new : (files : FileTree ℕ) (node : Node ℕ) (d : ℕ) (n : List ℕ) → d ≢ fresh 0
      → entry_at (with_inode nat_eq files (fresh 0) node).tree d n ≡ entry_at files.tree d n
  with_new files node d n differ = cc (node_other files.tree (fresh 0) (Some node) d differ)

  left_same : (hidden : Bool) (files : FileTree ℕ) (directory : ℕ) (name : List ℕ) (d : ℕ) (n : List ℕ) → d ≢ fresh 0
      → ((d ≡ directory) → (n ≡ name) → ⊥)
      → entry_at (name_left_by nat_eq hidden fresh stack files directory name).tree d n ≡ entry_at files.tree d n
  left_same true files directory name d n new differ = put_same (with_inode nat_eq files (fresh 0)
      (whiteout_of stack.mounter)) _ name (fresh 0) d n differ ∙ with_new files (whiteout_of stack.mounter) d n new
  left_same false files directory name d n new differ = take_same files _ name d n differ

  in_emptied : (replaced : Option ℕ) (d : ℕ) (n : List ℕ) (k : ℕ) → entry_at merge.upper.tree d n ≡ Some k
      → replaced ≡ Some d → Among k (names_under merge replaced)
  in_emptied replaced d n k e is = subst (λ o. Among k (names_under merge o)) (sym is)
      (among_numbers k (targets_in (merge.upper.tree.node d)) (among_targets n _ k e))

  made_loses : (directory : ℕ) (name : List ℕ) (number : ℕ) (node : Node ℕ) (d : ℕ) (n : List ℕ) (k : ℕ)
      → entry_at merge.upper.tree d n ≡ Some k
      → HasName (merge_with_new nat_eq fresh stack merge directory name number node).upper.tree k
      ⊎ IsAt merge directory name d n
  made_loses directory name number node d n k e = ⊎_elim inr (λ differ. inl (
    d,
    n,
    ap (entry_named n) (marked_entries (hides_directory nat_eq stack merge directory name)
        (with_name nat_eq (with_inode nat_eq merge.upper (fresh 0) object) (upper_of merge directory) name
        (fresh 0)) (fresh 0) d)
        ∙ put_same (with_inode nat_eq merge.upper (fresh 0) object) (upper_of merge directory) name
        (fresh 0) d n differ ∙ with_new merge.upper object d n (not_new d n k e) ∙ e,
  )) (one_place d (upper_of merge directory) n name)
    where
      object : Node ℕ
      object = record { attr = node.attr; content = content_with_parent (upper_of merge directory) node.content }

  removed_loses : (directory : ℕ) (name : List ℕ) (object : ℕ)
      → NamedOr (merge_without_name nat_eq fresh stack merge directory name object).upper
      (upper_names_lost merge (Remove directory name object))
  removed_loses directory name object d n k e = ⊎_elim (λ same. inr (among-append_left (under_name merge directory name)
      (names_under merge (upper_directory_named merge directory name)) k
      (at_place merge.upper d (upper_of merge directory) n name k e same)))
      (λ differ. ⊎_elim (λ still. inl (d, n, still)) (λ out. inr (among-append_right (under_name merge directory name)
      (names_under merge (upper_directory_named merge directory name)) k
      (in_emptied (upper_directory_named merge directory name) d n k e out)))
      (emptied_out (name_left_by nat_eq hidden fresh stack merge.upper (upper_of merge directory) name)
      (upper_directory_named merge directory name) d n k
      (left_same hidden merge.upper (upper_of merge directory) name d n (not_new d n k e) differ ∙ e)))
      (one_place d (upper_of merge directory) n name)
    where
      hidden : Bool
      hidden = is_some (shown_in_lowers_at nat_eq stack merge directory name)

  moved_loses : (from : ℕ) (old : List ℕ) (to : ℕ) (new : List ℕ) (object : ℕ)
      → NamedOr (merge_with_moved nat_eq fresh stack merge from old to new object).upper
      (upper_names_lost merge (Move from old to new object))
  moved_loses from old to new object d n k e = ⊎_elim (λ freed. ⊎_elim
      (λ same. inr (first_two (among-append_left (under_name merge from old) (under_name merge to new) k
      (at_place merge.upper d (upper_of merge from) n old k e same)))) (λ left. ⊎_elim
      (λ same. inr (first_two (among-append_right (under_name merge from old) (under_name merge to new) k
      (at_place merge.upper d (upper_of merge to) n new k e same)))) (λ put. inl (
        d,
        n,
        ap (entry_named n) (marked_entries (hides_directory nat_eq stack merge to new)
            (name_left_by nat_eq hidden fresh stack away (upper_of merge from) old) (upper_of merge object) d)
            ∙ left_same hidden away (upper_of merge from) old d n (not_new d n k e) left ∙ ap (entry_named n)
            (part-changed_node entries_in (with_name nat_eq (without_name nat_eq apart (upper_of merge from) old)
            (upper_of merge to) new (upper_of merge object))
            (upper_of merge object) (node_with_parent (upper_of merge to))
            (entries-node_with_parent (upper_of merge to)) d)
            ∙ put_same (without_name nat_eq apart (upper_of merge from) old) (upper_of merge to) new
            (upper_of merge object) d n put ∙ take_same apart (upper_of merge from) old d n left
            ∙ ap (entry_named n) (entries-without_parent empty
            (entry_named new (entries_in (empty.tree.node (upper_of merge to)))) d) ∙ freed,
      )) (one_place d (upper_of merge to) n new)) (one_place d (upper_of merge from) n old))
      (λ out. inr (among-append_right (under_name merge from old ++ under_name merge to new)
      (names_under merge replaced) k (in_emptied replaced d n k e out))) (emptied_out merge.upper replaced d n k e)
    where
      replaced : Option ℕ
      replaced = upper_directory_named merge to new

      hidden : Bool
      hidden = is_some (shown_in_lowers_at nat_eq stack merge from old)

      empty : FileTree ℕ
      empty = without_contents nat_eq merge.upper replaced

      apart : FileTree ℕ
      apart = without_parent nat_eq empty (entry_named new (entries_in (empty.tree.node (upper_of merge to))))

      away : FileTree ℕ
      away = with_moved nat_eq empty (upper_of merge from) old (upper_of merge to) new (upper_of merge object)

      first_two : Among k (under_name merge from old ++ under_name merge to new)
          → Among k (upper_names_lost merge (Move from old to new object))
      first_two m = among-append_left (under_name merge from old ++ under_name merge to new)
          (names_under merge replaced) k m

module _ (fresh : Fresh ℕ) (stack : Stack ℕ) (before : Merge ℕ) (fit : IsFitToChange fresh before)
    (vacant : (k : ℕ) → before.upper.tree.node (fresh k) ≡ None)
    (free : (directory : ℕ) (name : List ℕ) (object seen : ℕ) → entry_at before.files.tree directory name ≡ Some object
    → upper_object (before.real object) ≡ None → upper_object (before.real directory) ≡ Some seen
    → entry_at before.upper.tree seen name ≡ None) where
  abbrev files : FileTree ℕ
  files = before.files

  -- where all that is asked for is copied, all names of before stand, and the next number is nothing's
  record IsCopied (next : ℕ) (copied : Merge ℕ) : Type 0 where
    stays : (d : ℕ) (n : List ℕ) (k : ℕ) → entry_at before.upper.tree d n ≡ Some k
        → entry_at copied.upper.tree d n ≡ Some k
    empty_next : entries_in (copied.upper.tree.node next) ≡ []

  begin : (supply : Fresh ℕ) (distinct : (j k : ℕ) → supply j ≡ supply k → j ≡ k) (spare : ℕ → Type 0) (apart : (k : ℕ)
      → ¬ (spare (supply k)))
      → ((k : ℕ) → IsNewBy fresh (supply k)) → ((number : ℕ) → spare number → IsNewBy fresh number)
      → IsFine files fit.tree fit.numbers before.upper supply distinct spare apart 0 before.real before.upper
  begin supply distinct spare apart own new = record {
    stays = λ d n k e. e;
    free = free;
    one = fit.one_to_one;
    clear = λ inode left.
        let is : IsNewBy fresh inode = ⊎_elim (λ j. let o = own j.0 in (o.0, j.2 ∙ o.1)) (λ s. new inode s) left in (
          ap (λ m. entries_in (before.upper.tree.node m)) is.1 ∙ ap entries_in (vacant is.0),
          λ number e. fit.unused is.0 number (e ∙ ap Some is.1),
        );
  }

  abbrev no_spare : ℕ → Type 0
  no_spare number = ⊥

  not_odd : (supply : Fresh ℕ) → ((j k : ℕ) → supply j ≡ supply k → j ≡ k) → (k : ℕ)
      → ¬ (IsNewBy (odds supply) (evens supply k))
  not_odd supply distinct k s = let same = distinct (2 * k) (2 * s.0 + 1) s.1 in let no : ⊥ = omega arith in no

  -- by one half of the numbers, with the other left
  by_evens : (object : ℕ)
      → Fine files fit.tree fit.numbers before.upper (evens fresh) (evens-distinct fresh fit.distinct)
      (IsNewBy (odds fresh)) (not_odd fresh fit.distinct) (copied_up nat_eq (evens fresh) before object)
  by_evens object = line_fine files _ _ _ _ _ _ _ object _ _ (begin _ (evens-distinct fresh _) _
      (not_odd fresh fit.distinct) (λ k. (2 * k, refl)) (λ number s. (2 * s.0 + 1, s.1)))

  evens_copied : (object : ℕ) → IsCopied (odds fresh 0) (copied_up nat_eq (evens fresh) before object)
  evens_copied object =
      let done = by_evens object in
      subst (IsCopied (odds fresh 0)) (sym done.is) (record {
        stays = done.fine.stays;
        empty_next = (done.fine.clear (odds fresh 0) (inr (0, refl))).0;
      })

  -- and then by a part of the other
  then_by : (object other : ℕ) (supply : Fresh ℕ) (distinct : (j k : ℕ) → supply j ≡ supply k → j ≡ k) (spare : ℕ
      → Type 0) (apart : (k : ℕ) → ¬ (spare (supply k)))
      → ((k : ℕ) → IsNewBy (odds fresh) (supply k)) → ((number : ℕ) → spare number → IsNewBy (odds fresh) number)
      → Fine files fit.tree fit.numbers before.upper supply distinct spare apart
      (copied_up nat_eq supply (copied_up nat_eq (evens fresh) before object) other)
  then_by object other supply distinct spare apart own new =
      let done = by_evens object in
      subst (λ m. Fine files fit.tree fit.numbers before.upper supply distinct spare apart
      (copied_up nat_eq supply m other)) (sym done.is) (line_fine files _ _ _ supply _ spare apart other _ _ (record {
        stays = done.fine.stays;
        free = done.fine.free;
        one = done.fine.one;
        clear = λ inode left. done.fine.clear inode
            (inr (⊎_elim (λ j. let o = own j.0 in (o.0, cc)) (λ s. new inode s) left));
      }))

  all_copied : (object : ℕ) → (d : ℕ) (n : List ℕ) (k : ℕ) → entry_at before.upper.tree d n ≡ Some k
      → entry_at (copied_up nat_eq fresh before object).upper.tree d n ≡ Some k
  all_copied object =
      let done = line_fine files _ _ _ fresh _ _ _ object _ _ (begin fresh fit.distinct _ (λ k s. s) (λ k. (k, refl))
      (λ number s. absurd s)) in
      subst (λ m. (d : ℕ) (n : List ℕ) (k : ℕ) → entry_at before.upper.tree d n ≡ Some k
      → entry_at m.upper.tree d n ≡ Some k) (sym done.is) done.fine.stays

  abbrev later : Change ℕ → FileTree ℕ
  later change = (merge_changed nat_eq fresh stack before change).upper

  -- what loses its last name to an object that is made, or to a further name, had that name
  pub made_at : (directory : ℕ) (name : List ℕ) (number : ℕ) (node : Node ℕ) (d : ℕ) (n : List ℕ) (k : ℕ)
      → entry_at before.upper.tree d n ≡ Some k → HasName (later (Make directory name number node)).tree k
      ⊎ IsAt (copied_up nat_eq (evens fresh) before directory) directory name d n
  made_at directory name number node d n k e =
      let copied = evens_copied directory in
      made_loses (odds fresh) stack (copied_up nat_eq (evens fresh) before directory) copied.empty_next directory name
      number node d n k (copied.stays d n k e)

  -- names stand when the object and the directory of a further name are copied
  both_stay : (directory object : ℕ) (d : ℕ) (n : List ℕ) (k : ℕ) → entry_at before.upper.tree d n ≡ Some k
      → entry_at (copied_up nat_eq (odds fresh) (copied_up nat_eq (evens fresh) before object) directory).upper.tree d n
      ≡ Some k
  both_stay directory object d n k e =
      let done = then_by object directory (odds fresh) (odds-distinct fresh fit.distinct) no_spare (λ j s. s)
      (λ j. (j, refl)) (λ m s. absurd s) in
      subst (λ m. entry_at m.upper.tree d n ≡ Some k) (sym done.is) (done.fine.stays d n k e)

  pub linked_at : (directory : ℕ) (name : List ℕ) (object : ℕ) (d : ℕ) (n : List ℕ) (k : ℕ)
      → entry_at before.upper.tree d n ≡ Some k → HasName (later (AddName directory name object)).tree k
      ⊎ IsAt (copied_up nat_eq (odds fresh) (copied_up nat_eq (evens fresh) before object) directory) directory name d n
  linked_at directory name object d n k e =
      linked_loses (copied_up nat_eq (odds fresh) (copied_up nat_eq (evens fresh) before object) directory) directory
      name object d n k (both_stay directory object d n k e)

  pub loses : (change : Change ℕ) (d : ℕ) (n : List ℕ) (k : ℕ) → entry_at before.upper.tree d n ≡ Some k
      → HasName (later change).tree k ⊎ Among k (upper_names_lost (copied_for fresh before change) change)
  loses (Make directory name number node) d n k e =
      let copied = copied_up nat_eq (evens fresh) before directory in
      ⊎_elim inl
      (λ at. inr (at_place copied.upper d (upper_of copied directory) n name k ((evens_copied directory).stays d n k e)
      at)) (made_at directory name number node d n k e)
  loses (AddName directory name object) d n k e =
      let copied = copied_up nat_eq (odds fresh) (copied_up nat_eq (evens fresh) before object) directory in
      ⊎_elim inl
      (λ at. inr (at_place copied.upper d (upper_of copied directory) n name k (both_stay directory object d n k e) at))
      (linked_at directory name object d n k e)
  loses (Remove directory name object) d n k e =
      let copied = evens_copied directory in
      removed_loses (odds fresh) stack
      (copied_up nat_eq (evens fresh) before directory) copied.empty_next directory name object d n k
      (copied.stays d n k e)
  loses (Move from old to new object) d n k e =
      let done = then_by object to (evens (odds fresh)) (evens-distinct (odds fresh) (odds-distinct fresh fit.distinct))
      (IsNewBy (odds (odds fresh)))
      (not_odd (odds fresh) (odds-distinct fresh fit.distinct)) (λ j. (2 * j, refl)) (λ m s. (2 * s.0 + 1, s.1)) in
      let copied = copied_up nat_eq (evens (odds fresh)) (copied_up nat_eq (evens fresh) before object) to in
      moved_loses (odds (odds fresh)) stack copied
      (subst (λ m. entries_in (m.upper.tree.node (odds (odds fresh) 0)) ≡ []) (sym done.is)
      (done.fine.clear (odds (odds fresh) 0) (inr (0, refl))).0) from old to new object d n k
      (subst (λ m. entry_at m.upper.tree d n ≡ Some k) (sym done.is) (done.fine.stays d n k e))
  loses (SetBytes file bytes) d n k e =
      let copied = copied_up nat_eq fresh before file in
      inl (
        d,
        n,
        ap (entry_named n) (part-changed_node entries_in copied.upper (upper_of copied file) (node_with_bytes bytes)
            (entries-node_with_bytes bytes) d) ∙ all_copied file d n k e,
      )
  loses (SetAttr object attr) d n k e =
      let copied = copied_up nat_eq fresh before object in
      inl (
        d,
        n,
        ap (entry_named n) (part-changed_node entries_in copied.upper (upper_of copied object) (node_with_attr attr)
            (entries-node_with_attr attr) d) ∙ all_copied object d n k e,
      )
  loses (SetMark directory opaque) d n k e =
      let copied = copied_up nat_eq fresh before directory in
      inl (
        d,
        n,
        ap (entry_named n) (part-changed_node entries_in copied.upper (upper_of copied directory)
            (node_with_mark opaque) (entries-node_with_mark opaque) d) ∙ all_copied directory d n k e,
      )
  loses (CopyUp object) d n k e = inl (d, n, all_copied object d n k e)

-- an inode that has a name has an entry
pub entry_of : (files : FileTree ℕ) → IsListedTree files → (k : ℕ) → Among k (named_in files)
    → (d : ℕ) × (n : List ℕ) × (entry_at files.tree d n ≡ Some k)
entry_of files listed k m =
    let one = among-from_flat_map (λ d. targets_in (files.tree.node d)) files.numbers k m in
    let two = among-from_map (λ (e : List ℕ × ℕ). e.1) (entries_in (files.tree.node one.0)) k one.2 in (
      one.0,
      two.0.0,
      found_entry (entries_in (files.tree.node one.0)) (listed.tree.in_order one.0) two.0 two.1 ∙ ap Some (sym two.2),
    )

pub only_these_lose_names : OnlyTheseLoseNames
only_these_lose_names fresh world location change overlay upper conditions can =
    list_all_from_among (λ inode. is_among nat_eq inode lost) (unnamed_by layer.files later_upper) (λ k m.
    let from = among-from_filter (λ n. not (is_among nat_eq n (named_in later_upper))) (named_in layer.files) k m in
    let place = entry_of layer.files listed k from.0 in
    ⊎_elim (λ named. absurd (true≢false (sym (named_among later_upper can.upper_tree k named)
    ∙ not-true (is_among nat_eq k (named_in later_upper)) from.1))) (λ gone. is_among_numbers k lost gone)
    (loses fresh (stack_of nat_eq world overlay upper) (merge_at world location overlay upper)
    (fit conditions can) can.unused (names_free conditions
    (mount_at nat_eq world location).filesystem can.overlay_there can.upper_there)
    change place.0 place.1 k place.2))
  where
    layer : Filesystem ℕ
    layer = filesystem_numbered nat_eq world upper.filesystem

    later_upper : FileTree ℕ
    later_upper = (merge_after fresh world location overlay upper change).upper

    lost : List ℕ
    lost = upper_names_lost (copied_for fresh (merge_at world location overlay upper) change) change

    listed : IsListedTree layer.files
    listed = among_from_all (λ (f : Filesystem ℕ). IsListedTree f.files) world.filesystems
        (settles conditions can).trees layer (layer_there conditions can)

-- Where nothing loses a name, nothing goes

none_of : (list : List ℕ) → list_all (λ inode. is_among nat_eq inode []) list ≡ true → list ≡ []
none_of [] e = refl
none_of (first ∷ rest) e = cc

nothing_lost : (fresh : Fresh ℕ) (world : World ℕ) (location : Location ℕ) (change : Change ℕ) (overlay : Overlay ℕ)
    (upper : Layer ℕ) → IsWorld nat_eq world → CanChange fresh world location change overlay upper
    → names_lost (files_at nat_eq world location) change ≡ []
    → upper_names_lost (copied_for fresh (merge_at world location overlay upper) change) change ≡ []
    → inodes_lost_with_upper fresh world location overlay upper change ≡ []
nothing_lost fresh world location change overlay upper conditions can none none_above =
    (λ i. map (λ inode. ((mount_at nat_eq world location).filesystem, inode)) (none i)
    ++ map (λ inode. (upper.filesystem, inode)) (unnamed i))
  where
    unnamed : unnamed_by (filesystem_numbered nat_eq world upper.filesystem).files
        (merge_after fresh world location overlay upper change).upper ≡ []
    unnamed = none_of _ (subst (λ lost. list_all (λ inode. is_among nat_eq inode lost)
        (unnamed_by (filesystem_numbered nat_eq world upper.filesystem).files
        (merge_after fresh world location overlay upper change).upper) ≡ true) none_above
        (only_these_lose_names fresh world location change overlay upper conditions can))

pub overlay_changes_keep_all : OverlayChangesKeepAll
overlay_changes_keep_all fresh world location change overlay upper conditions can none none_above = cc (
  overlay_changes_let_go fresh world location change overlay upper conditions can,
  nothing_lost fresh world location change overlay upper conditions can none none_above,
)

pub written_parts_in_overlays_keep_all : WrittenPartsInOverlaysKeepAll
written_parts_in_overlays_keep_all fresh world task file offset [] overlay upper conditions can =
    conditions.nothing_unused
written_parts_in_overlays_keep_all fresh world task file offset (byte ∷ bytes) overlay upper conditions can =
    overlay_changes_keep_all fresh world file
    (SetBytes file.node (overwritten offset (byte ∷ bytes) (bytes_in (node_at nat_eq world file)))) overlay upper
    conditions (can (λ none. cc)) refl refl

pub opened_copies_keep_all : OpenedCopiesKeepAll
opened_copies_keep_all fresh world task file access overlay upper conditions there on copies can =
    subst (λ b. settled nat_eq (opened (with_copy nat_eq b fresh world file) task file access).world
    ≡ (opened (with_copy nat_eq b fresh world file) task file access).world) (sym copies)
    (goes_with_task conditions can (with_descriptor task file access)
    (none_left world task file access conditions.tasks.one_task (among_from_contains world.tasks task there)) on
    ∙ ap (let_go_all_inodes (opened (with_copy nat_eq true fresh world file) task file access).world)
    (nothing_lost fresh world file (CopyUp file.node) overlay upper conditions can refl refl))
