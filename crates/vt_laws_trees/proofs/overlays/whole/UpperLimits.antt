-- Names, texts and files of the upper layer stay within their limits in each change of an overlay.
use Rattle.std.proofs.Common.{◌≡◌, sym, subst, ℕ, nat_eq, true, List, None, is_some}
use Rattle.vt_spec.proofs.Common.{AddName, Change, CopyUp, Fresh, Make, Merge, Move, Node, Remove, SetAttr, SetBytes, SetMark, Stack, changed, content_with_parent, copied_up, directory_used, hides_directory, merge_changed, merge_with_moved, merge_with_new, merge_without_name, name_left_by, odds, odds-distinct, shown_in_lowers_at, upper_directory_named, upper_of, with_inode, with_moved, without_contents}
use Rattle.vt_laws_trees.specs.Trees.Sizes.{IsFitChange, is_fit_name, is_fit_node, is_fit_tree}
use Rattle.vt_laws_trees.proofs.trees.ChangesOfSizes.{changes_keep_sizes, inode_fits}
use Rattle.vt_laws_trees.specs.Layers.Layers.Upper.{IsThere}
use Rattle.vt_laws_trees.proofs.layers.layers.UpperLine.{has_entries}
use Rattle.vt_laws_trees.specs.Overlays.WhatIsShown.{IsWhole}
use Rattle.vt_laws_trees.specs.Overlays.WholeChanges.{IsAskedWell}
use Rattle.vt_laws_trees.specs.Overlays.WholeStays.{AreNew, SizesStay}
use Rattle.vt_laws_trees.proofs.overlays.whole.UpperSizes.{above_fits_limits, emptied_sized, left_sized, marked_sized, moved_sized, name_fits, name_sized}
use Rattle.vt_laws_trees.proofs.overlays.whole.UpperWhole.{files_changed}
use Rattle.vt_laws_trees.proofs.overlays.steps.WholeLines.{object_copied}
use Rattle.vt_laws_trees.proofs.overlays.changes.WholeTogether.{both_copied, copied, is_copied, still_unused, twice}

-- each part of a change
module _ (fresh : Fresh ℕ) (stack : Stack ℕ) (merge : Merge ℕ) (h : is_fit_tree merge.upper ≡ true) where
  made_sized : (d : ℕ) (w : List ℕ) (number : ℕ) (node : Node ℕ) → is_fit_name w ≡ true → is_fit_node node ≡ true
      → is_fit_tree (merge_with_new nat_eq fresh stack merge d w number node).upper ≡ true
  made_sized d w number node name small =
      let inode : Node ℕ = record { attr = node.attr; content = content_with_parent (upper_of merge d) node.content } in
      let first = with_inode nat_eq merge.upper (fresh 0) inode in
      marked_sized (changed nat_eq merge.upper (Make (upper_of merge d) w (fresh 0) inode))
      (hides_directory nat_eq stack merge d w) (fresh 0) (name_sized first (upper_of merge d) w (fresh 0) name
      (inode_fits merge.upper (fresh 0) inode (above_fits_limits (upper_of merge d) node small) h))

  removed_sized : (d : ℕ) (w : List ℕ) (object : ℕ) → is_fit_name w ≡ true
      → is_fit_tree (merge_without_name nat_eq fresh stack merge d w object).upper ≡ true
  removed_sized d w object name =
      emptied_sized (name_left_by nat_eq (is_some (shown_in_lowers_at nat_eq stack merge d w)) fresh stack merge.upper
      (upper_of merge d) w) (upper_directory_named merge d w)
      (left_sized fresh stack merge.upper (upper_of merge d) w (is_some
      (shown_in_lowers_at nat_eq stack merge d w)) name h)

  move_sized : (f : ℕ) (old : List ℕ) (t : ℕ) (to : List ℕ) (object : ℕ) → is_fit_name old ≡ true
      → is_fit_name to ≡ true → is_fit_tree (merge_with_moved nat_eq fresh stack merge f old t to object).upper ≡ true
  move_sized f old t to object name new =
      let base = without_contents nat_eq merge.upper (upper_directory_named merge t to) in
      let gone = with_moved nat_eq base (upper_of merge f) old (upper_of merge t) to (upper_of merge object) in
      marked_sized (name_left_by nat_eq (is_some (shown_in_lowers_at nat_eq stack merge f old)) fresh stack
      gone (upper_of merge f) old) (hides_directory nat_eq stack merge t to) (upper_of merge object) (left_sized fresh
      stack gone (upper_of merge f) old (is_some (shown_in_lowers_at nat_eq stack merge f old)) name (moved_sized base
      (upper_of merge f) old _ to _ new (emptied_sized merge.upper (upper_directory_named merge t to) h)))

-- A whole change
module _ (fresh : Fresh ℕ) (stack : Stack ℕ) (merge : Merge ℕ) (whole : IsWhole stack merge) (new : AreNew fresh merge)
    (f : is_fit_tree merge.files ≡ true) (h : is_fit_tree merge.upper ≡ true) where
  abbrev distinct : (j k : ℕ) → fresh j ≡ fresh k → j ≡ k
  distinct = new.distinct

  abbrev unused : (k : ℕ) → merge.upper.tree.node (fresh k) ≡ None
  unused = new.unused

  pub upper_sized : (change : Change ℕ) → IsAskedWell stack merge change → IsFitChange change
      → is_fit_tree (merge_changed nat_eq fresh stack merge change).upper ≡ true
  upper_sized (Make d w number node) asked fit =
      let there = directory_used merge.files.tree d asked.0.name_is_free.in_directory in
      made_sized (odds fresh) stack (copied fresh whole distinct unused d there)
      ((is_copied fresh whole distinct unused d there).sizes f h) d w number node fit.0 fit.1
  upper_sized (AddName d w object) may fit =
      let first = is_copied fresh whole distinct unused object may.is_there in
      let one = copied fresh whole distinct unused object may.is_there in
      let there = subst (λ files. IsThere files d) (sym first.files)
      (directory_used merge.files.tree d may.name_is_free.in_directory) in
      let second = object_copied stack (odds fresh) (odds-distinct fresh distinct) one d first.whole
      (still_unused fresh whole distinct unused object may.is_there) there in
      let two = copied_up nat_eq (odds fresh) one d in
      name_sized two.upper (upper_of two d) w (upper_of two object) fit
      (second.copied.sizes (cc (first.files)) (first.sizes f h))
  upper_sized (Remove d w object) may fit =
      let there = directory_used merge.files.tree d (has_entries merge.files.tree d w object may.named) in
      removed_sized (odds fresh) stack (copied fresh whole distinct unused d there)
      ((is_copied fresh whole distinct unused d there).sizes f h) d w object
      (name_fits merge.files whole.numbers f d w object may.named)
  upper_sized (Move from old t to object) asked fit =
      let m = twice fresh stack merge whole distinct unused from old t to object asked.0 in
      move_sized (odds (odds fresh)) stack (both_copied fresh stack merge from old t to object)
      (m.sizes f h) from old t to object (name_fits merge.files whole.numbers f from old object asked.0.named) fit
  upper_sized (SetBytes file bytes) there fit =
      let one = copied_up nat_eq fresh merge file in
      changes_keep_sizes one.upper (SetBytes (upper_of one file) bytes)
      ((object_copied stack fresh distinct merge file whole unused there).copied.sizes f h) fit
  upper_sized (SetAttr object attr) there fit =
      let one = copied_up nat_eq fresh merge object in
      changes_keep_sizes one.upper (SetAttr (upper_of one object) attr)
      ((object_copied stack fresh distinct merge object whole unused there).copied.sizes f h) tt
  upper_sized (SetMark d opaque) asked fit = absurd asked
  upper_sized (CopyUp object) there fit =
      (object_copied stack fresh distinct merge object whole unused there).copied.sizes f h

pub sizes_stay : SizesStay
sizes_stay fresh stack merge change whole new asked fit f h = (
  cc (files_changed fresh stack merge whole new change asked, changes_keep_sizes merge.files change f fit),
  upper_sized fresh stack merge whole new f h change asked fit,
)
