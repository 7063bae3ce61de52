-- A whole change of an overlay: copies first, and then what is asked.
use Rattle.std.proofs.Common.{true, ◌⊎◌, ⊎_elim, inl, inr, ◌*◌, ◌+◌, ◌≡◌, sym, subst, ◌∙◌, ℕ, nat_eq, None, ap, List, [], ◌∷◌, ◌++◌, Some, is_some}
use Rattle.vt_spec.proofs.Common.{AddName, CopyUp, Fresh, IsDirectory, Lower, Make, Merge, Move, Remove, SetAttr, SetBytes, SetMark, Stack, Upper, copied_up, directory_no_whiteout, directory_used, entry_at, evens, evens-distinct, has_lower_directory, led, led-append, number_at_path, odds, odds-distinct, odds-no_evens, path_to, same_Some, upper_object, upper_of}
use Rattle.vt_laws_trees.specs.Trees.{MayAddName, MayMake, MayMove, MayRemove}
use Rattle.vt_laws_trees.specs.Layers.Layers.ChangesUpper.{StandsInUpper, IsNewBy}
use Rattle.vt_laws_trees.specs.Layers.Layers.Upper.{IsThere}
use Rattle.vt_laws_trees.proofs.layers.layers.UpperLine.{has_entries, is_reached_in}
use Rattle.vt_laws_trees.proofs.layers.layers.UpperShown.{way_to}
use Rattle.vt_laws_trees.proofs.layers.layers.ShownNames.{last_name}
use Rattle.vt_laws_trees.specs.Overlays.WhatIsShown.{IsWhole}
use Rattle.vt_laws_trees.specs.Overlays.WholeChanges.{ChangesKeepShown}
use Rattle.vt_laws_trees.proofs.overlays.whole.UpperGoes.{Goes, goes_both}
use Rattle.vt_laws_trees.specs.Trees.Sizes.{is_fit_tree}
use Rattle.vt_laws_trees.proofs.overlays.whole.UpperTold.{Told, told_both, told_wider}
use Rattle.vt_laws_trees.proofs.overlays.steps.WholeAttributes.{attr_keeps_whole, bytes_keep_whole, upper_real}
use Rattle.vt_laws_trees.proofs.overlays.steps.WholeLines.{IsCopied, object_copied, stands_copied, to_object}
use Rattle.vt_laws_trees.proofs.overlays.steps.WholeMoved.{move_keeps_shown}
use Rattle.vt_laws_trees.proofs.overlays.steps.WholeMovedTree.{IsMoveAbove}
use Rattle.vt_laws_trees.proofs.overlays.steps.WholeNames.{above_named, named_above}
use Rattle.vt_laws_trees.proofs.overlays.steps.WholeLinked.{link_keeps_shown}
use Rattle.vt_laws_trees.proofs.overlays.steps.WholeMade.{make_keeps_shown}
use Rattle.vt_laws_trees.proofs.overlays.steps.WholeRemoved.{remove_keeps_shown}
use Rattle.vt_spec.proofs.Trees.{found}

-- an object copied by even numbers
module _ (fresh : Fresh ℕ) {stack : Stack ℕ} {merge : Merge ℕ} (whole : IsWhole stack merge)
    (distinct : (j k : ℕ) → fresh j ≡ fresh k → j ≡ k)
    (unused : (k : ℕ) → merge.upper.tree.node (fresh k) ≡ None) (object : ℕ) (there : IsThere merge.files object) where
  abbrev pub copied : Merge ℕ
  copied = copied_up nat_eq (evens fresh) merge object

  pub is_copied : IsCopied stack (evens fresh) merge copied
  is_copied = (object_copied stack (evens fresh) (evens-distinct fresh distinct) merge object whole
      (λ k. unused (2 * k)) there).copied

  pub stands_now : StandsInUpper copied object
  stands_now = stands_copied stack (evens fresh) (evens-distinct fresh distinct) merge object whole
      (λ k. unused (2 * k)) there

  pub still_unused : (k : ℕ) → copied.upper.tree.node (odds fresh k) ≡ None
  still_unused k = is_copied.vacant (odds fresh k) (unused (2 * k + 1)) (λ j. odds-no_evens fresh distinct k j)

-- the directory of a name whose object stands in the upper layer does so too
pub stands_above : (stack : Stack ℕ) (merge : Merge ℕ) → IsWhole stack merge → (d : ℕ) (w : List ℕ) (object : ℕ)
    → entry_at merge.files.tree d w ≡ Some object → StandsInUpper merge object → StandsInUpper merge d
stands_above stack merge whole d w object named stands =
    let above = above_named stack merge whole way.0 up.0 up.1 (directory_no_whiteout (merge.upper.tree.node up.0)
    (has_entries merge.upper.tree up.0 w (upper_of merge object) up.2)) in
    subst (StandsInUpper merge) (same_Some above.0 d (sym above.1 ∙ way.1)) (ap (λ r. is_some (upper_object r)) above.2)
  where
    way : (q : List (List ℕ)) × (number_at_path merge.files q ≡ Some d)
    way = let reached = is_reached_in merge.files whole.tree d w object named in
        way_to merge.files.tree reached.0 d reached.1

    up : (u : ℕ) × (led merge.upper.tree stack.directory way.0 ≡ Some u)
        × (entry_at merge.upper.tree u w ≡ Some (upper_of merge object))
    up = found (λ n. entry_at merge.upper.tree n w) (led merge.upper.tree stack.directory way.0) (upper_of merge object)
        (sym (last_name merge.upper.tree stack.directory way.0 w)
        ∙ named_above stack merge whole (way.0 ++ w ∷ []) object (upper_of merge object)
        (led-append merge.files.tree merge.files.tree.root way.0 w d object way.1 named)
        (upper_real merge object stands))

-- what is new by some of the numbers is so by all
pub new_of_evens : (fresh : Fresh ℕ) (y : ℕ) → IsNewBy (evens fresh) y → IsNewBy fresh y
new_of_evens fresh y new = (2 * new.0, new.1)

pub new_of_odds : (fresh : Fresh ℕ) (y : ℕ) → IsNewBy (odds fresh) y → IsNewBy fresh y
new_of_odds fresh y new = (2 * new.0 + 1, new.1)

-- what a move asks for is copied, the object and then the new directory
abbrev pub both_copied : Fresh ℕ → Stack ℕ → Merge ℕ → ℕ → List ℕ → ℕ → List ℕ → ℕ → Merge ℕ
both_copied fresh stack merge f old t new o =
    copied_up nat_eq (evens (odds fresh)) (copied_up nat_eq (evens fresh) merge o) t

pub record IsReadyToMove (fresh : Fresh ℕ) (stack : Stack ℕ) (merge : Merge ℕ) (f : ℕ) (old : List ℕ) (t : ℕ)
    (new : List ℕ) (o : ℕ) (two : Merge ℕ) : Type 0 where
  pub whole : IsWhole stack two
  pub from : StandsInUpper two f
  pub to : StandsInUpper two t
  pub object : StandsInUpper two o
  pub vacant : two.upper.tree.node (odds (odds fresh) 0) ≡ None
  pub may : MayMove two.files.tree f old t new o
  pub was_directory : IsDirectory two.files.tree o → IsDirectory merge.files.tree o
  pub cut : IsDirectory two.files.tree o
      → has_lower_directory (record { tree = two.upper.tree; directory = stack.directory } ∷ []) stack.lowers
      (path_to nat_eq two f old)
      ≡ has_lower_directory (record { tree = merge.upper.tree; directory = stack.directory } ∷ []) stack.lowers
      (path_to nat_eq merge f old)
  pub lower : (n layer : ℕ) (path : List (List ℕ)) → two.real n ≡ Some (Lower layer path)
      → merge.real n ≡ Some (Lower layer path)
  pub files : two.files ≡ merge.files
  pub upper : Goes stack.directory merge.upper two.upper
  pub names : Told (IsNewBy fresh) merge.upper two.upper
  pub objects : (n object : ℕ) → two.real n ≡ Some (Upper object)
      → (merge.real n ≡ Some (Upper object)) ⊎ IsNewBy fresh object
  pub sizes : is_fit_tree merge.files ≡ true → is_fit_tree merge.upper ≡ true → is_fit_tree two.upper ≡ true

-- what a move in the upper layer rests on, once all is copied
pub ready_above : {fresh : Fresh ℕ} {stack : Stack ℕ} {merge : Merge ℕ} {f : ℕ} {old : List ℕ} {t : ℕ}
    {new : List ℕ} {o : ℕ} {two : Merge ℕ} → IsReadyToMove fresh stack merge f old t new o two
    → IsMoveAbove (odds (odds fresh)) stack two f old t new o
ready_above m = record { whole = m.whole; from = m.from; to = m.to; object = m.object; may = m.may; vacant = m.vacant }

pub twice : (fresh : Fresh ℕ) (stack : Stack ℕ) (merge : Merge ℕ) → IsWhole stack merge
    → ((j k : ℕ) → fresh j ≡ fresh k → j ≡ k)
    → ((k : ℕ) → merge.upper.tree.node (fresh k) ≡ None) → (f : ℕ) (old : List ℕ) (t : ℕ) (new : List ℕ) (o : ℕ)
    → MayMove merge.files.tree f old t new o
    → IsReadyToMove fresh stack merge f old t new o (both_copied fresh stack merge f old t new o)
twice fresh stack merge whole distinct unused f old t new o may =
    let o_there = whole.tree.alive f old o may.named in
    let one = copied_up nat_eq (evens fresh) merge o in
    let two = both_copied fresh stack merge f old t new o in
    let first = object_copied stack (evens fresh) (evens-distinct fresh distinct) merge o whole
    (λ k. unused (2 * k)) o_there in
    let same = first.copied.files in
    let t_there = subst (λ files. IsThere files t) (sym same) (directory_used merge.files.tree t may.in_directory) in
    let spare : (k : ℕ) → one.upper.tree.node (evens (odds fresh) k) ≡ None =
    λ k. still_unused fresh whole distinct unused o o_there (2 * k) in
    let second = object_copied stack (evens (odds fresh))
    (evens-distinct (odds fresh) (odds-distinct fresh distinct)) one t first.copied.whole spare t_there in
    let both = second.copied.files ∙ same in
    let own = second.copied.grows o (stands_now fresh whole distinct unused o o_there) in
    record {
      whole = second.copied.whole;
      from = stands_above stack two second.copied.whole f old o (cc (both, may.named)) own;
      to = stands_copied stack (evens (odds fresh))
          (evens-distinct (odds fresh) (odds-distinct fresh distinct)) one t first.copied.whole spare t_there;
      object = own;
      vacant = second.copied.vacant (odds (odds fresh) 0) (still_unused fresh whole distinct unused o o_there 1)
          (λ j. odds-no_evens (odds fresh) (odds-distinct fresh distinct) 0 j);
      may = subst (λ files. MayMove files.tree f old t new o) (sym both) may;
      was_directory = λ d. subst (λ files. IsDirectory files.tree o) both d;
      cut = λ d. cc (
        both,
        second.cut ((to_object one.files first.copied.whole.tree first.copied.whole.numbers t t_there).directories
            (subst (λ files. IsDirectory files.tree t) (sym same) may.in_directory)) (path_to nat_eq merge f old),
        first.cut ((to_object merge.files whole.tree whole.numbers o o_there).directories
            (subst (λ files. IsDirectory files.tree o) both d)) (path_to nat_eq merge f old),
      );
      lower = λ n layer path e. first.copied.lower n layer path (second.copied.lower n layer path e);
      files = both;
      upper = goes_both stack.directory merge.upper one.upper two.upper first.copied.upper second.copied.upper;
      names = told_both (IsNewBy fresh) merge.upper one.upper two.upper
          (told_wider (IsNewBy (evens fresh)) (IsNewBy fresh) merge.upper one.upper
          (new_of_evens fresh) first.copied.names)
          (told_wider (IsNewBy (evens (odds fresh))) (IsNewBy fresh) one.upper two.upper
          (λ y n. new_of_odds fresh y (new_of_evens (odds fresh) y n)) second.copied.names);
      objects = λ n object e. ⊎_elim
          (λ f. ⊎_elim inl (λ g. inr (new_of_evens fresh object g)) (first.copied.objects n object f))
          (λ g. inr (new_of_odds fresh object (new_of_evens (odds fresh) object g))) (second.copied.objects n object e);
      sizes = λ f h. second.copied.sizes (cc (same)) (first.copied.sizes f h);
    }

pub changes_keep_shown : ChangesKeepShown
changes_keep_shown fresh stack merge (Make d w number node) whole distinct unused asked =
    let there = directory_used merge.files.tree d asked.0.name_is_free.in_directory in
    let is = is_copied fresh whole distinct unused d there in
    make_keeps_shown (odds fresh) stack (copied fresh whole distinct unused d there) d w number node is.whole
    (stands_now fresh whole distinct unused d there) (still_unused fresh whole distinct unused d there 0)
    (subst (λ files. MayMake files.tree d w number node) (sym is.files) asked.0) asked.1
changes_keep_shown fresh stack merge (AddName d w object) whole distinct unused may =
    let first = is_copied fresh whole distinct unused object may.is_there in
    let one = copied fresh whole distinct unused object may.is_there in
    let there = subst (λ files. IsThere files d) (sym first.files)
    (directory_used merge.files.tree d may.name_is_free.in_directory) in
    let second = object_copied stack (odds fresh) (odds-distinct fresh distinct) one d first.whole
    (still_unused fresh whole distinct unused object may.is_there) there in
    link_keeps_shown stack (copied_up nat_eq (odds fresh) one d) d w object second.copied.whole
    (stands_copied stack (odds fresh) (odds-distinct fresh distinct) one d first.whole
    (still_unused fresh whole distinct unused object may.is_there) there)
    (second.copied.grows object (stands_now fresh whole distinct unused object may.is_there))
    (subst (λ files. MayAddName files.tree d w object) (sym (second.copied.files ∙ first.files)) may)
changes_keep_shown fresh stack merge (Remove d w object) whole distinct unused may =
    let there = directory_used merge.files.tree d (has_entries merge.files.tree d w object may.named) in
    let is = is_copied fresh whole distinct unused d there in
    remove_keeps_shown (odds fresh) stack (copied fresh whole distinct unused d there) d w object is.whole
    (stands_now fresh whole distinct unused d there) (still_unused fresh whole distinct unused d there 0)
    (subst (λ files. MayRemove files.tree d w object) (sym is.files) may)
changes_keep_shown fresh stack merge (Move f old t new o) whole distinct unused asked =
    let m = twice fresh stack merge whole distinct unused f old t new o asked.0 in
    move_keeps_shown (odds (odds fresh)) stack (both_copied fresh stack merge f old t new o) f old t new o m.whole
    m.from m.to m.object m.vacant m.may (λ d. m.cut d ∙ asked.1 (m.was_directory d))
changes_keep_shown fresh stack merge (SetBytes file bytes) whole distinct unused there =
    let is = (object_copied stack fresh distinct merge file whole unused there).copied in
    (bytes_keep_whole stack (copied_up nat_eq fresh merge file) file bytes is.whole
    (stands_copied stack fresh distinct merge file whole unused there)).shown
changes_keep_shown fresh stack merge (SetAttr object attr) whole distinct unused there =
    let is = (object_copied stack fresh distinct merge object whole unused there).copied in
    (attr_keeps_whole stack (copied_up nat_eq fresh merge object) object attr is.whole
    (stands_copied stack fresh distinct merge object whole unused there)).shown
changes_keep_shown fresh stack merge (SetMark d opaque) whole distinct unused asked = absurd asked
changes_keep_shown fresh stack merge (CopyUp object) whole distinct unused there =
    (object_copied stack fresh distinct merge object whole unused there).copied.whole.shown
