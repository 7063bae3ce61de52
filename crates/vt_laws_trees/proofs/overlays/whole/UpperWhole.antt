-- An overlay stays whole in each change.
use Rattle.std.proofs.Common.{arith, ◌≡◌, refl, sym, ap, subst, ◌∙◌, ℕ, zero, suc, nat_eq, [], ◌∷◌, Some, None, slice_get}
use Rattle.vt_spec.proofs.Common.{AddName, Change, CopyUp, Fresh, IsDirectory, IsTree, ListsNumbers, Make, Merge, Move, OpenLayer, Remove, SetAttr, SetBytes, SetMark, Stack, changed, common_steps, copied_up, directory_used, merge_changed, merge_with_link, merge_with_moved, merge_with_new, merge_without_name, odds, odds-distinct, same_Some, upper_of}
use Rattle.vt_laws_trees.specs.Trees.{IsFileTree, IsProper, MayAddName, MayMake, MayRemove}
use Rattle.vt_laws_trees.proofs.trees.ChangesKeepTrees.{changes_keep_numbers, changes_keep_own_parents, changes_keep_trees}
use Rattle.vt_laws_trees.specs.Layers.Layers.Upper.{IsThere}
use Rattle.vt_laws_trees.proofs.layers.layers.UpperLine.{has_entries}
use Rattle.vt_laws_trees.specs.Overlays.WhatIsShown.{IsWhatIsShown, IsWhole, layers_under}
use Rattle.vt_laws_trees.specs.Overlays.WholeChanges.{IsAskedWell}
use Rattle.vt_laws_trees.specs.Overlays.WholeStays.{AreNew, ChangesFollowOneAnother, ChangesKeepWhole, LinkKeepsWhole, MakeKeepsWhole, MergedTreesStay, MoveKeepsWhole, RemoveKeepsWhole, UpperTreesStay}
use Rattle.vt_laws_trees.proofs.overlays.whole.UpperGoes.{Goes, IsGood, goes_both, goes_by}
use Rattle.vt_laws_trees.proofs.overlays.whole.UpperMade.{linked_goes, made_goes}
use Rattle.vt_laws_trees.proofs.overlays.whole.UpperMoved.{moved_goes}
use Rattle.vt_laws_trees.proofs.overlays.whole.UpperRemoved.{removed_goes}
use Rattle.vt_laws_trees.proofs.overlays.steps.WholeLines.{object_copied, stands_copied}
use Rattle.vt_laws_trees.proofs.overlays.steps.WholeLinked.{link_keeps_shown}
use Rattle.vt_laws_trees.proofs.overlays.steps.WholeMade.{make_keeps_shown}
use Rattle.vt_laws_trees.proofs.overlays.steps.WholeMoved.{move_keeps_shown}
use Rattle.vt_laws_trees.proofs.overlays.steps.WholeRemoved.{remove_keeps_shown}
use Rattle.vt_laws_trees.proofs.overlays.changes.WholeTogether.{both_copied, changes_keep_shown, copied, is_copied, ready_above, stands_now, still_unused, twice}

-- it is whole after a change of its tree, if the upper layer is good and it is what the layers show
whole_by : (stack : Stack ℕ) (merge later : Merge ℕ) (change : Change ℕ) → IsWhole stack merge
    → changed nat_eq merge.files change ≡ later.files
    → IsProper merge.files.tree change → IsGood stack.directory later.upper → IsWhatIsShown stack later
    → IsWhole stack later
whole_by stack merge later change whole files may good is = record {
  tree = subst (λ f. IsTree f.tree) files (changes_keep_trees merge.files change whole.tree may);
  numbers = subst (λ f. ListsNumbers nat_eq f) files (changes_keep_numbers merge.files change whole.numbers);
  layers = by;
  reached = good.reached;
  shown = is;
}
  where
    by : (depth : ℕ) (layer : OpenLayer ℕ) → slice_get (layers_under stack later) depth ≡ Some layer
        → IsTree layer.tree × IsDirectory layer.tree layer.directory
    by zero layer e = subst (λ l. IsTree l.tree × IsDirectory l.tree l.directory) (same_Some _ layer e)
        (good.tree, good.directory)
    by (suc depth) layer e = whole.layers (suc depth) layer e

pub make_keeps_whole : MakeKeepsWhole
make_keeps_whole fresh stack merge d w number node whole stands vacant may white =
    whole_by stack merge (merge_with_new nat_eq fresh stack merge d w number node) (Make d w number node) whole refl may
    (made_goes fresh stack merge d w number node whole stands vacant may).good
    (make_keeps_shown fresh stack merge d w number node whole stands vacant may white)

pub link_keeps_whole : LinkKeepsWhole
link_keeps_whole stack merge d w object whole stands own may =
    whole_by stack merge (merge_with_link nat_eq merge d w object) (AddName d w object) whole refl may
    (linked_goes stack merge d w object whole stands own may).good
    (link_keeps_shown stack merge d w object whole stands own may)

pub remove_keeps_whole : RemoveKeepsWhole
remove_keeps_whole fresh stack merge d w object whole stands vacant may =
    whole_by stack merge (merge_without_name nat_eq fresh stack merge d w object) (Remove d w object) whole refl may
    (removed_goes fresh stack merge d w object whole stands vacant may).good
    (remove_keeps_shown fresh stack merge d w object whole stands vacant may)

pub move_keeps_whole : MoveKeepsWhole
move_keeps_whole fresh stack merge f old t new o whole from to own vacant may alone =
    whole_by stack merge (merge_with_moved nat_eq fresh stack merge f old t new o) (Move f old t new o) whole refl may
    (moved_goes (record { whole = whole; from = from; to = to; object = own; may = may; vacant = vacant })).good
    (move_keeps_shown fresh stack merge f old t new o whole from to own vacant may alone)

-- what a change asks of its own tree
pub proper : (stack : Stack ℕ) (merge : Merge ℕ) (change : Change ℕ) → IsAskedWell stack merge change
    → IsProper merge.files.tree change
proper stack merge change asked = grind (arith, common_steps)

-- A whole change
module _ (fresh : Fresh ℕ) (stack : Stack ℕ) (merge : Merge ℕ) (whole : IsWhole stack merge)
    (new : AreNew fresh merge) where
  abbrev distinct : (j k : ℕ) → fresh j ≡ fresh k → j ≡ k
  distinct = new.distinct

  abbrev unused : (k : ℕ) → merge.upper.tree.node (fresh k) ≡ None
  unused = new.unused

  -- the upper layer's tree
  pub change_goes : (change : Change ℕ) → IsAskedWell stack merge change
      → Goes stack.directory merge.upper (merge_changed nat_eq fresh stack merge change).upper
  change_goes (Make d w number node) asked =
      let there = directory_used merge.files.tree d asked.0.name_is_free.in_directory in
      let is = is_copied fresh whole distinct unused d there in
      let one = copied fresh whole distinct unused d there in
      goes_both stack.directory merge.upper one.upper _ is.upper
      (made_goes (odds fresh) stack one d w number node is.whole (stands_now fresh whole distinct unused d there)
      (still_unused fresh whole distinct unused d there 0)
      (subst (λ files. MayMake files.tree d w number node) (sym is.files) asked.0))
  change_goes (AddName d w object) may =
      let first = is_copied fresh whole distinct unused object may.is_there in
      let one = copied fresh whole distinct unused object may.is_there in
      let there = subst (λ files. IsThere files d) (sym first.files)
      (directory_used merge.files.tree d may.name_is_free.in_directory) in
      let second = object_copied stack (odds fresh) (odds-distinct fresh distinct) one d first.whole
      (still_unused fresh whole distinct unused object may.is_there) there in
      let two = copied_up nat_eq (odds fresh) one d in
      goes_both stack.directory merge.upper one.upper _ first.upper
      (goes_both stack.directory one.upper two.upper _ second.copied.upper
      (linked_goes stack two d w object second.copied.whole
      (stands_copied stack (odds fresh) (odds-distinct fresh distinct) one d first.whole
      (still_unused fresh whole distinct unused object may.is_there) there)
      (second.copied.grows object (stands_now fresh whole distinct unused object may.is_there))
      (subst (λ files. MayAddName files.tree d w object) (sym (second.copied.files ∙ first.files)) may)))
  change_goes (Remove d w object) may =
      let there = directory_used merge.files.tree d (has_entries merge.files.tree d w object may.named) in
      let is = is_copied fresh whole distinct unused d there in
      let one = copied fresh whole distinct unused d there in
      goes_both stack.directory merge.upper one.upper _ is.upper
      (removed_goes (odds fresh) stack one d w object is.whole (stands_now fresh whole distinct unused d there)
      (still_unused fresh whole distinct unused d there 0)
      (subst (λ files. MayRemove files.tree d w object) (sym is.files) may))
  change_goes (Move f old t new o) asked =
      let m = twice fresh stack merge whole distinct unused f old t new o asked.0 in
      let two = both_copied fresh stack merge f old t new o in
      goes_both stack.directory merge.upper two.upper _ m.upper (moved_goes (ready_above m))
  change_goes (SetBytes file bytes) there =
      let is = (object_copied stack fresh distinct merge file whole unused there).copied in
      let one = copied_up nat_eq fresh merge file in
      goes_both stack.directory merge.upper one.upper _ is.upper
      (goes_by stack.directory one.upper (SetBytes (upper_of one file) bytes) is.upper.good tt tt)
  change_goes (SetAttr object attr) there =
      let is = (object_copied stack fresh distinct merge object whole unused there).copied in
      let one = copied_up nat_eq fresh merge object in
      goes_both stack.directory merge.upper one.upper _ is.upper
      (goes_by stack.directory one.upper (SetAttr (upper_of one object) attr) is.upper.good tt tt)
  change_goes (SetMark d opaque) asked = absurd asked
  change_goes (CopyUp object) there = (object_copied stack fresh distinct merge object whole unused there).copied.upper

  -- the overlay's own tree
  pub files_changed : (change : Change ℕ) → IsAskedWell stack merge change
      → changed nat_eq merge.files change ≡ (merge_changed nat_eq fresh stack merge change).files
  files_changed (Make d w number node) asked = ap (λ files. changed nat_eq files (Make d w number node))
      (sym (is_copied fresh whole distinct unused d
      (directory_used merge.files.tree d asked.0.name_is_free.in_directory)).files)
  files_changed (AddName d w object) may =
      let first = is_copied fresh whole distinct unused object may.is_there in
      let one = copied fresh whole distinct unused object may.is_there in
      let there = subst (λ files. IsThere files d) (sym first.files)
      (directory_used merge.files.tree d may.name_is_free.in_directory) in
      let second = object_copied stack (odds fresh) (odds-distinct fresh distinct) one d first.whole
      (still_unused fresh whole distinct unused object may.is_there) there in
      ap (λ files. changed nat_eq files (AddName d w object)) (sym (second.copied.files ∙ first.files))
  files_changed (Remove d w object) may = ap (λ files. changed nat_eq files (Remove d w object))
      (sym (is_copied fresh whole distinct unused d
      (directory_used merge.files.tree d (has_entries merge.files.tree d w object may.named))).files)
  files_changed (Move f old t new o) asked = ap (λ files. changed nat_eq files (Move f old t new o))
      (sym (twice fresh stack merge whole distinct unused f old t new o asked.0).files)
  files_changed (SetBytes file bytes) there = ap (λ files. changed nat_eq files (SetBytes file bytes))
      (sym (object_copied stack fresh distinct merge file whole unused there).copied.files)
  files_changed (SetAttr object attr) there = ap (λ files. changed nat_eq files (SetAttr object attr))
      (sym (object_copied stack fresh distinct merge object whole unused there).copied.files)
  files_changed (SetMark d opaque) asked = absurd asked
  files_changed (CopyUp object) there =
      sym (object_copied stack fresh distinct merge object whole unused there).copied.files

pub changes_keep_whole : ChangesKeepWhole
changes_keep_whole fresh stack merge change whole new asked =
    whole_by stack merge (merge_changed nat_eq fresh stack merge change) change whole
    (files_changed fresh stack merge whole new change asked)
    (proper stack merge change asked) (change_goes fresh stack merge whole new change asked).good
    (changes_keep_shown fresh stack merge change whole new.distinct new.unused asked)

pub changes_follow_one_another : ChangesFollowOneAnother
changes_follow_one_another stack merge [] whole asked = whole
changes_follow_one_another stack merge (first ∷ rest) whole asked =
    changes_follow_one_another stack (merge_changed nat_eq first.0 stack merge first.1) rest
    (changes_keep_whole first.0 stack merge first.1 whole asked.0 asked.1) asked.2

pub upper_trees_stay : UpperTreesStay
upper_trees_stay fresh stack merge change whole new asked is =
    let goes = change_goes fresh stack merge whole new change asked in
    record { tree = goes.good.tree; numbers = goes.numbers is.numbers; own_parents = goes.own_parents is.own_parents }

pub merged_trees_stay : MergedTreesStay
merged_trees_stay fresh stack merge change whole new asked is =
    subst IsFileTree (files_changed fresh stack merge whole new change asked) (record {
      tree = changes_keep_trees merge.files change is.tree (proper stack merge change asked);
      numbers = changes_keep_numbers merge.files change is.numbers;
      own_parents = changes_keep_own_parents merge.files change is.tree is.own_parents
          (proper stack merge change asked);
    })
