-- What plans of removals make is what the definitions' change makes.
use Rattle.std.proofs.Common.{◌≡◌, ◌≢◌, ◌∙◌, ◌++◌, ◌∷◌, ◌||◌, [], ap, append-nil, append_assoc, Bool, eqb-true, false, is_some, List, map, nat_eq, None, Option, refl, Some, sym, true, true≢false, ℕ}
use Rattle.vt_spec.proofs.Common.{Change, Entries, FileTree, Fresh, Inodes, Make, Merge, Remove, Stack, Tree, entries_in, entries_in-no_directory, entry_at, evens, is_among, is_directory_node, led-append, odds, then_some, tree_of, when}
use Rattle.vt_spec.specs.Machine.CopyUp.{whiteout_of}
use Rattle.vt_spec.specs.Rights.{Credentials}
use Rattle.vt_laws_trees.specs.Overlays.WhatIsShown.{IsWhole}
use Rattle.vt_laws_trees.specs.Overlays.WholeChanges.{IsAskedWell}
use Rattle.vt_laws_worlds.specs.Merging.UpperCalls.{changed_above}
use Rattle.vt_laws_worlds.specs.Merging.UpperCalls.Asks.{removes}
use Rattle.vt_laws_worlds.specs.Merging.UpperCalls.ChangeAt.{RemoveAt}
use Rattle.vt_laws_worlds.specs.Merging.UpperChanges.{AreNew, LeadsToDirectory, copied_to, directory_above, led_above, object_above, seen_below}
use Rattle.vt_laws_upper_layers.specs.Rows.{after_row, emptying, removal, whiting}
use Rattle.vt_laws_upper_layers.specs.RowsAbove.{RowsAreChangesAbove}
use Rattle.vt_copyup.specs.Planned.{stack_of}
use Rattle.vt_copyup.proofs.Changed.{inodes_after}
use Rattle.vt_copyup.proofs.Ways.{leads_nowhere}
use Rattle.vt_fs.specs.FilesystemsValue.{ChangesInodes, Filesystems, entry_of, files_at, inodes_at}
use Rattle.vt_location.specs.declared.locations.InodeRef.{InodeRef}
use Rattle.vt_location.specs.declared.numbers.FilesystemId.{FilesystemId}
use Rattle.vt_location.specs.Locations.{inode_of}
use Rattle.vt_overlay.specs.declared.merge.layers.LayerRef.{LayerRef}
use Rattle.vt_upper.specs.Below.{is_shown_below}
use Rattle.vt_upper.specs.declared.making.Place.{Place}
use Rattle.vt_upper.specs.Leaving.{gone_from, within_of}
use Rattle.vt_upper.specs.New.{LosesNoName, keeps_in, leaves_in, made_in_place, start_of}
use Rattle.vt_upper.specs.RemovalLaws.{NamesAreGone, NamesAreHidden}
use Rattle.vt_upper.proofs.PlacesMade.{IsMadeAt, made_at, object_there, place_named, upper_there}
use Rattle.vt_upper.proofs.RowsAlike.{AreAlike}
use Rattle.vt_upper.proofs.RowsEmptied.{removing}
use Rattle.vt_upper.proofs.RowsReplaced.{freeing_row, goes_with, gone_alike_all, made_alike_all}

module _ (rows : RowsAreChangesAbove) (fresh : Fresh ℕ) (mounter : Credentials) (merge : Merge ℕ)
    (trees promised : Filesystems) (upper : LayerRef) (lowers : List LayerRef) (overlay : FilesystemId)
    (path : List (List ℕ)) (directory removed : ℕ) (name : List ℕ)
    (whole : IsWhole (stack_of trees upper lowers mounter) merge) (new : AreNew fresh merge.upper)
    (leads : LeadsToDirectory merge path directory)
    (well : IsAskedWell (stack_of trees upper lowers mounter) merge (Remove directory name removed))
    (place : Place) (between : Filesystems) (at : InodeRef)
    (is : IsMadeAt fresh mounter merge trees promised upper lowers overlay path directory name whole new leads place
    between at) where
  abbrev stack : Stack ℕ
  stack = stack_of trees upper lowers mounter

  abbrev copied : FileTree ℕ
  copied = copied_to (evens fresh) stack merge.upper path

  abbrev hidden : Bool
  hidden = is_some (seen_below stack merge.upper (path ++ name ∷ []))

  abbrev d : ℕ
  d = inode_of at

  abbrev had : Option ℕ
  had = leaves_in place

  abbrev within : Entries ℕ
  within = within_of copied.tree had

  -- where the name leads in the upper layer's tree
  named_above : led_above stack copied (path ++ name ∷ []) ≡ had
  named_above = by (entry_at copied.tree d name) refl ∙ is.leaves
    where
      by : (o : Option ℕ) → entry_at copied.tree d name ≡ o
          → led_above stack copied (path ++ name ∷ []) ≡ entry_at copied.tree d name
      by None e = leads_nowhere copied.tree stack.directory path name d is.led_so e ∙ sym e
      by (Some object) e = led-append copied.tree stack.directory path name d object is.led_so e ∙ sym e

  -- what is in it loses its names
  abbrev emptied : Option ℕ → List (Change ℕ)
  emptied None = []
  emptied (Some object) = removing object (entries_in (copied.tree.node object))

  emptied_is : emptying copied (directory_above stack copied (path ++ name ∷ [])) ≡ emptied had
  emptied_is = ap (λ o. emptying copied (then_some o (λ object.
      when (is_directory_node (copied.tree.node object)) object))) named_above ∙ by had
    where
      one : (object : ℕ) (b : Bool) → is_directory_node (copied.tree.node object) ≡ b
          → emptying copied (when b object) ≡ removing object (entries_in (copied.tree.node object))
      one object true e = refl
      one object false e = sym (ap (removing object) (entries_in-no_directory (copied.tree.node object) e))

      by : (o : Option ℕ)
          → emptying copied (then_some o (λ object. when (is_directory_node (copied.tree.node object)) object)) ≡ emptied o
      by None = refl
      by (Some object) = one object (is_directory_node (copied.tree.node object)) refl

  -- the row of all that leaves
  freeing_is : freeing_row d name had within ≡ emptied had ++ removal d name had
  freeing_is = by had
    where
      by : (o : Option ℕ) → freeing_row d name o (within_of copied.tree o) ≡ emptied o ++ removal d name o
      by None = refl
      by (Some object) = refl

  abbrev row : Bool → Option ℕ → ℕ → List (Change ℕ)
  row white o parent = removal parent name o ++ whiting white (odds fresh) mounter parent name

  -- the row that the definitions' change makes
  row_is : (white : Bool) → white ≡ hidden
      → after_row copied (emptied had ++ row white had d)
      ≡ changed_above fresh stack merge.upper (RemoveAt path name)
  row_is white same = ap (after_row copied)
      ((λ i. emptied had ++ row (same i) (sym is.leaves i) d)
      ∙ ap (λ p. emptied had ++ row hidden (entry_at copied.tree p name) p) (sym (object_there fresh mounter merge trees
      promised upper lowers overlay path directory name whole new leads place between at is))
      ∙ ap (λ (r : List (Change ℕ)). r ++ row hidden (entry_at copied.tree (object_above stack copied path) name)
      (object_above stack copied path)) (sym emptied_is))
      ∙ rows fresh stack merge whole new (Remove directory name removed) (RemoveAt path name) well
      (removes path directory removed name leads)

  -- what loses no name is not gone
  stays_so : (inode : ℕ) → LosesNoName merge.upper.tree had inode → goes_with had within inode ≡ false
  stays_so inode loses = by had loses is.within
    where
      by : (o : Option ℕ) → LosesNoName merge.upper.tree o inode
          → within_of copied.tree o ≡ within_of merge.upper.tree o
          → goes_with o (within_of copied.tree o) inode ≡ false
      by None loses same = refl
      by (Some object) loses same =
          (λ i. other loses.0 i || is_among nat_eq inode (map (λ (entry : List ℕ × ℕ). entry.1) (same i))) ∙ loses.1
        where
          other : object ≢ inode → nat_eq inode object ≡ false
          other apart = by_test (nat_eq inode object) refl
            where
              by_test : (b : Bool) → nat_eq inode object ≡ b → nat_eq inode object ≡ false
              by_test false e = e
              by_test true e = absurd (apart (sym (eqb-true inode object e)))

  module _ (after : Filesystems) (there : is_some (entry_of between (start_of place).filesystem.count) ≡ true) where
    abbrev f : ℕ
    f = (start_of place).filesystem.count

    within_is : within_of (files_at between f).tree had ≡ within
    within_is = ap (λ t. within_of t had) is.tree

    start : AreAlike (goes_with had within) (tree_of (inodes_at between f)) copied.tree
    start m stays = ap (λ (t : Tree ℕ). t.node m) is.tree

    -- with a whiteout
    tree_hidden : hidden ≡ true → (white : InodeRef) → (files_at between f).tree.node (inode_of white) ≡ None
        → inode_of white ≡ odds fresh 0
        → ChangesInodes f (made_in_place place name (whiteout_of mounter) (within_of (files_at between f).tree had) d
        (inode_of white)) between after
        → (inode : ℕ) → LosesNoName merge.upper.tree had inode
        → (files_at after f).tree.node inode
        ≡ (changed_above fresh stack merge.upper (RemoveAt path name)).tree.node inode
    tree_hidden shows white vacant numbered making inode other =
        let differ : d ≢ inode_of white =
        λ e. true≢false (sym (ap (λ (t : Tree ℕ). is_directory_node (t.node d)) is.tree ∙ is.directory_there)
        ∙ ap (λ n. is_directory_node ((files_at between f).tree.node n)) e ∙ ap is_directory_node vacant) in
        ap (λ (inodes : Inodes ℕ). (tree_of inodes).node inode) (inodes_after f (made_in_place place name
        (whiteout_of mounter) (within_of (files_at between f).tree had) d (inode_of white)) between after making there)
        ∙ ap (λ w. (tree_of (made_in_place place name (whiteout_of mounter) w d (inode_of white)
        (inodes_at between f))).node inode) within_is
        ∙ made_alike_all d name had within (inodes_at between f) copied start (keeps_in place) (inode_of white)
        (whiteout_of mounter) differ inode (stays_so inode other)
        ∙ ap (λ r. (after_row copied (r ++ (Make d name (inode_of white) (whiteout_of mounter) ∷ []))).tree.node inode)
        freeing_is
        ∙ ap (λ r. (after_row copied r).tree.node inode) (append_assoc (emptied had) (removal d name had)
        (Make d name (inode_of white) (whiteout_of mounter) ∷ []))
        ∙ ap (λ n. (after_row copied (emptied had ++ (removal d name had
        ++ (Make d name n (whiteout_of mounter) ∷ [])))).tree.node inode) numbered
        ∙ ap (λ (files : FileTree ℕ). files.tree.node inode) (row_is true (sym shows))

    -- without one
    tree_gone : hidden ≡ false
        → ChangesInodes f (gone_from (keeps_in place) name had (within_of (files_at between f).tree had) d) between after
        → (inode : ℕ) → LosesNoName merge.upper.tree had inode
        → (files_at after f).tree.node inode
        ≡ (changed_above fresh stack merge.upper (RemoveAt path name)).tree.node inode
    tree_gone shows_none removing_so inode other =
        ap (λ (inodes : Inodes ℕ). (tree_of inodes).node inode) (inodes_after f (gone_from (keeps_in place) name had
        (within_of (files_at between f).tree had) d) between after removing_so there)
        ∙ ap (λ w. (tree_of (gone_from (keeps_in place) name had w d (inodes_at between f))).node inode) within_is
        ∙ gone_alike_all d name had within (inodes_at between f) copied start (keeps_in place) inode (stays_so inode other)
        ∙ ap (λ r. (after_row copied r).tree.node inode) freeing_is
        ∙ ap (λ r. (after_row copied (emptied had ++ r)).tree.node inode) (sym (append-nil (removal d name had)))
        ∙ ap (λ (files : FileTree ℕ). files.tree.node inode) (row_is false (sym shows_none))

-- what lower layers show there
below_is : (mounter : Credentials) (merge : Merge ℕ) (trees : Filesystems) (upper : LayerRef) (lowers : List LayerRef)
    (place : Place) (way : List (List ℕ)) → (start_of place).filesystem ≡ upper.directory.filesystem
    → merge.upper ≡ files_at trees (start_of place).filesystem.count
    → is_some (seen_below (stack_of trees upper lowers mounter) merge.upper way) ≡ is_shown_below trees upper lowers way
below_is mounter merge trees upper lowers place way own same_upper =
    ap (λ (files : FileTree ℕ). is_some (seen_below (stack_of trees upper lowers mounter) files way))
    (same_upper ∙ ap (λ (id : FilesystemId). files_at trees id.count) own)

pub names_hidden : RowsAreChangesAbove → NamesAreHidden
names_hidden rows fresh mounter merge trees promised upper lowers overlay path directory removed name place births room after
    births_after white whole new own same_upper same_promised leads well shows ready made at numbered inode other =
    let is = made_at fresh mounter merge trees promised upper lowers overlay path directory name whole new leads births room
    made.between births_after made.directory place own same_upper same_promised
    (place_named place name promised births room ready) made.made at in
    let there = upper_there fresh mounter merge trees promised upper lowers place births made.between births_after
    made.directory whole same_promised made.made in
    tree_hidden rows fresh mounter merge trees promised upper lowers overlay path directory removed name whole new leads well
    place made.between made.directory is after there
    (below_is mounter merge trees upper lowers place (path ++ name ∷ []) own same_upper ∙ shows) white made.vacant numbered
    made.making inode other

pub names_gone : RowsAreChangesAbove → NamesAreGone
names_gone rows fresh mounter merge trees promised upper lowers overlay path directory removed name place births room after
    births_after whole new own same_upper same_promised leads well shows_none ready gone at inode other =
    let is = made_at fresh mounter merge trees promised upper lowers overlay path directory name whole new leads births room
    gone.between births_after gone.directory place own same_upper same_promised ready gone.made at in
    let there = upper_there fresh mounter merge trees promised upper lowers place births gone.between births_after
    gone.directory whole same_promised gone.made in
    tree_gone rows fresh mounter merge trees promised upper lowers overlay path directory removed name whole new leads well
    place gone.between gone.directory is after there
    (below_is mounter merge trees upper lowers place (path ++ name ∷ []) own same_upper ∙ shows_none) gone.removing inode other
