-- What lower layers show after a change they showed before.
use Rattle.std.proofs.Common.{arith, ◌≡◌, refl, sym, ap, subst, ◌∙◌, eq-eqb, ℕ, suc, ◌+◌, nat_eq, Bool, true, false, cond, List, Option, Some, None, is_some}
use Rattle.vt_spec.proofs.Common.{AddName, Change, CopyUp, Fresh, Lower, Make, Merge, Move, Real, Remove, SameObject, SetAttr, SetBytes, SetMark, Shown, Stack, Upper, common_steps, copied_up, directory_used, layer_node, merge_changed, none_is_some, number_at_path, odds, odds-distinct, real_object, same_Some, shown, then_some}
use Rattle.vt_laws_trees.specs.Trees.{MayAddName, MayMake, MayRemove}
use Rattle.vt_laws_trees.specs.Layers.Layers.ChangesUpper.{StandsInUpper}
use Rattle.vt_laws_trees.specs.Layers.Layers.Shown.{IsShown}
use Rattle.vt_laws_trees.specs.Layers.Layers.Upper.{IsThere}
use Rattle.vt_laws_trees.specs.Layers.Layers.Views.{names_entry, view_in}
use Rattle.vt_laws_trees.proofs.layers.layers.ShownAtPath.{computed}
use Rattle.vt_laws_trees.proofs.layers.layers.ShownDirectories.{led_is_there}
use Rattle.vt_laws_trees.proofs.layers.layers.UpperLine.{has_entries}
use Rattle.vt_laws_trees.proofs.layers.views.Names.{add_name_adds_path, make_adds_path, remove_takes_path}
use Rattle.vt_laws_trees.proofs.layers.views.Stay.{attr_changes_one_inode, bytes_change_one_inode}
use Rattle.vt_laws_trees.specs.Overlays.WhatIsShown.{IsWhatIsShown, IsWhole, layers_under}
use Rattle.vt_laws_trees.specs.Overlays.WholeChanges.{HiddenStaysHidden, IsAskedWell}
use Rattle.vt_laws_trees.proofs.overlays.steps.WholeLines.{below_before, object_copied}
use Rattle.vt_laws_trees.proofs.overlays.steps.WholeMade.{new_bare}
use Rattle.vt_laws_trees.proofs.overlays.steps.WholeMoved.{below_stays}
use Rattle.vt_laws_trees.proofs.overlays.steps.WholeParts.{object_is_not_none, real_by}
use Rattle.vt_laws_trees.proofs.overlays.changes.WholeTogether.{ready_above, twice, changes_keep_shown, copied, is_copied, stands_now, still_unused}

-- nothing comes to lie below, and what lies below gets no name
pub record Uncovers (merge later : Merge ℕ) : Type 0 where
  pub below : (n layer : ℕ) (way : List (List ℕ)) → later.real n ≡ Some (Lower layer way)
      → merge.real n ≡ Some (Lower layer way)
  pub names : (path : List (List ℕ)) (n layer : ℕ) (way : List (List ℕ)) → number_at_path later.files path ≡ Some n
      → later.real n ≡ Some (Lower layer way) → number_at_path merge.files path ≡ Some n

abbrev layer_in : ℕ → Option (Real ℕ) → ℕ
layer_in other None = other
layer_in other (Some (Upper n)) = other
layer_in other (Some (Lower n way)) = n

-- so what is shown below was shown there
pub shown_before : (stack : Stack ℕ) (merge later : Merge ℕ) → IsWhole stack merge → IsWhatIsShown stack later
    → Uncovers merge later → (path : List (List ℕ)) (layer object : ℕ)
    → shown (layers_under stack later) path ≡ Some (record { layer = suc layer; object = object })
    → shown (layers_under stack merge) path ≡ Some (record { layer = suc layer; object = object })
shown_before stack merge later whole after uncovers path layer object e = by (number_at_path later.files path) refl
    (subst (λ o. SameObject (then_some (number_at_path later.files path) later.files.tree.node)
    (then_some o (layer_node (layers_under stack later)))) e (after.shows path))
  where
    is : IsShown (layers_under stack later) path (record { layer = suc layer; object = object })
    is = (computed (layers_under stack later) path (record { layer = suc layer; object = object })).0 e

    there : is_some (layer_node (layers_under stack later) (record { layer = suc layer; object = object })) ≡ true
    there =
        let open_one = whole.layers (suc layer) is.has_uncut.0.0 is.has_uncut.0.1 in
        cc (is.has_uncut.0.1, led_is_there is.has_uncut.0.0 open_one.0 open_one.1 path object is.has_uncut.0.2)

    -- the object at the path is one
    same_object : (old : Shown ℕ) (found : ℕ)
        → shown (layers_under stack merge) path ≡ Some (record { layer = suc layer; object = found }) → found ≡ object
    same_object old found f =
        let was = (computed (layers_under stack merge) path (record { layer = suc layer; object = found })).0 f in
        grind (arith, common_steps, same_Some, is)

    lies_at : (found : Shown ℕ) → shown (layers_under stack merge) path ≡ Some found → (k : ℕ) → found.layer ≡ k
        → Some (Lower layer path) ≡ Some (real_object true k (record { path = path; seen = found }))
        → shown (layers_under stack merge) path ≡ Some (record { layer = suc layer; object = object })
    lies_at found f k l q = grind (arith, common_steps, none_is_some, same_object)

    found_by : (o : Option (Shown ℕ)) → shown (layers_under stack merge) path ≡ o
        → Some (Lower layer path) ≡ real_by path o
        → shown (layers_under stack merge) path ≡ Some (record { layer = suc layer; object = object })
    found_by None f q = none_is_some _ (sym q)
    found_by (Some found) f q = lies_at found f found.layer refl q

    at : (n : ℕ) → number_at_path later.files path ≡ Some n
        → shown (layers_under stack merge) path ≡ Some (record { layer = suc layer; object = object })
    at n f =
        let real = after.names path n f ∙ ap (real_by path) e in
        let was = uncovers.names path n layer path f real in
        found_by (shown (layers_under stack merge) path) refl
        (sym (uncovers.below n layer path real) ∙ whole.shown.names path n was)

    by : (o : Option ℕ) → number_at_path later.files path ≡ o → SameObject (then_some o later.files.tree.node)
        (layer_node (layers_under stack later) (record { layer = suc layer; object = object }))
        → shown (layers_under stack merge) path ≡ Some (record { layer = suc layer; object = object })
    by None f same = absurd (object_is_not_none (layer_node (layers_under stack later)
        (record { layer = suc layer; object = object })) there same)
    by (Some n) f same = at n f

-- what stands in the upper layer does not lie below
no_below : (merge : Merge ℕ) (n layer : ℕ) (way : List (List ℕ)) → StandsInUpper merge n
    → merge.real n ≡ Some (Lower layer way) → ⊥
no_below merge n layer way h e = cc

-- each change does so
module _ (fresh : Fresh ℕ) (stack : Stack ℕ) (merge : Merge ℕ) (whole : IsWhole stack merge)
    (distinct : (j k : ℕ) → fresh j ≡ fresh k → j ≡ k) (unused : (k : ℕ) → merge.upper.tree.node (fresh k) ≡ None) where
  uncovers : (change : Change ℕ) → IsAskedWell stack merge change
      → Uncovers merge (merge_changed nat_eq fresh stack merge change)
  uncovers (Make d w number node) asked =
      let there = directory_used merge.files.tree d asked.0.name_is_free.in_directory in
      let is = is_copied fresh whole distinct unused d there in
      let one = copied fresh whole distinct unused d there in
      let may = subst (λ files. MayMake files.tree d w number node) (sym is.files) asked.0 in
      record {
        below = λ n layer way e. is.lower n layer way
            (below_before stack (odds fresh) (odds-distinct fresh distinct) one number (odds fresh 0) n layer way e);
        names = λ path n layer way f e.
            by path n layer way one is.files (names_entry (view_in one.files one.files.tree.root) d w path)
            (sym (make_adds_path one.files one.files.tree.root d number w node (record {
              in_directory = may.name_is_free.in_directory;
              bare = λ r g. none_is_some r (sym may.name_is_free.free ∙ g);
            }) may.number_is_new (new_bare d node may.fits) path) ∙ f) e;
      }
    where
      by : (path : List (List ℕ)) (n layer : ℕ) (way : List (List ℕ)) (one : Merge ℕ) → one.files ≡ merge.files
          → (b : Bool) → cond b (Some number) (number_at_path one.files path) ≡ Some n
          → cond (nat_eq n number) (Some (Upper (odds fresh 0))) (one.real n) ≡ Some (Lower layer way)
          → number_at_path merge.files path ≡ Some n
      by path n layer way one files true f e =
          none_is_some (odds fresh 0) (cc (eq-eqb n number (sym (same_Some number n f)), e))
      by path n layer way one files false f e = sym (ap (λ fs. number_at_path fs path) files) ∙ f
  uncovers (AddName d w object) may =
      let first = is_copied fresh whole distinct unused object may.is_there in
      let one = copied fresh whole distinct unused object may.is_there in
      let there = subst (λ files. IsThere files d) (sym first.files)
      (directory_used merge.files.tree d may.name_is_free.in_directory) in
      let second = object_copied stack (odds fresh) (odds-distinct fresh distinct) one d first.whole
      (still_unused fresh whole distinct unused object may.is_there) there in
      let two = copied_up nat_eq (odds fresh) one d in
      let same = second.copied.files ∙ first.files in
      let then_may = subst (λ files. MayAddName files.tree d w object) (sym same) may in
      record {
        below = λ n layer way e. first.lower n layer way (second.copied.lower n layer way e);
        names = λ path n layer way f e. by path n layer way two same (second.copied.grows object
            (stands_now fresh whole distinct unused object may.is_there))
            (names_entry (view_in two.files two.files.tree.root) d w path)
            (sym (add_name_adds_path two.files two.files.tree.root d object w (record {
              in_directory = then_may.name_is_free.in_directory;
              bare = λ r g. none_is_some r (sym then_may.name_is_free.free ∙ g);
            }) then_may.no_directory path) ∙ f) e;
      }
    where
      by : (path : List (List ℕ)) (n layer : ℕ) (way : List (List ℕ)) (two : Merge ℕ) → two.files ≡ merge.files
          → StandsInUpper two object → (b : Bool)
          → cond b (Some object) (number_at_path two.files path) ≡ Some n → two.real n ≡ Some (Lower layer way)
          → number_at_path merge.files path ≡ Some n
      by path n layer way two files stands true f e =
          absurd (no_below two object layer way stands (ap two.real (same_Some object n f) ∙ e))
      by path n layer way two files stands false f e = sym (ap (λ fs. number_at_path fs path) files) ∙ f
  uncovers (Remove d w object) may =
      let there = directory_used merge.files.tree d (has_entries merge.files.tree d w object may.named) in
      let is = is_copied fresh whole distinct unused d there in
      let one = copied fresh whole distinct unused d there in
      let then_may = subst (λ files. MayRemove files.tree d w object) (sym is.files) may in
      record {
        below = is.lower;
        names = λ path n layer way f e.
            by path n one is.files (names_entry (view_in one.files one.files.tree.root) d w path)
            (sym (remove_takes_path one.files one.files.tree.root d object w then_may.named then_may.empty path) ∙ f);
      }
    where
      by : (path : List (List ℕ)) (n : ℕ) (one : Merge ℕ) → one.files ≡ merge.files → (b : Bool)
          → cond b None (number_at_path one.files path) ≡ Some n → number_at_path merge.files path ≡ Some n
      by path n one files true f = none_is_some n f
      by path n one files false f = sym (ap (λ fs. number_at_path fs path) files) ∙ f
  uncovers (Move f old t new o) asked =
      let m = twice fresh stack merge whole distinct unused f old t new o asked.0 in
      record {
        below = m.lower;
        names = λ path n layer way e r. sym (ap (λ fs. number_at_path fs path) m.files)
            ∙ below_stays (ready_above m) (λ d. m.cut d ∙ asked.1 (m.was_directory d)) path n layer way e r;
      }
  uncovers (SetBytes file bytes) there =
      let is = (object_copied stack fresh distinct merge file whole unused there).copied in
      record {
        below = is.lower;
        names = λ path n layer way f e. sym (ap (λ fs. number_at_path fs path) is.files)
            ∙ sym ((bytes_change_one_inode (copied_up nat_eq fresh merge file).files
            (copied_up nat_eq fresh merge file).files.tree.root file bytes).0 path) ∙ f;
      }
  uncovers (SetAttr object attr) there =
      let is = (object_copied stack fresh distinct merge object whole unused there).copied in
      record {
        below = is.lower;
        names = λ path n layer way f e. sym (ap (λ fs. number_at_path fs path) is.files)
            ∙ sym ((attr_changes_one_inode (copied_up nat_eq fresh merge object).files
            (copied_up nat_eq fresh merge object).files.tree.root object attr).0 path) ∙ f;
      }
  uncovers (SetMark d opaque) asked = absurd asked
  uncovers (CopyUp object) there =
      let is = (object_copied stack fresh distinct merge object whole unused there).copied in
      record { below = is.lower; names = λ path n layer way f e. sym (ap (λ fs. number_at_path fs path) is.files) ∙ f }

pub hidden_stays_hidden : HiddenStaysHidden
hidden_stays_hidden fresh stack merge change path layer object whole distinct unused asked e =
    let same : layer + 1 ≡ suc layer = omega arith in
    shown_before stack merge (merge_changed nat_eq fresh stack merge change) whole
    (changes_keep_shown fresh stack merge change whole distinct unused asked)
    (uncovers fresh stack merge whole distinct unused change asked) path layer object (cc)
    ∙ ap (λ n. Some (record { layer = n; object = object })) (sym same)
