-- Where names lead in the tree of an overlay and in its upper layer.
use Rattle.std.proofs.Common.{arith, ◌≡◌, refl, sym, ap, subst, ◌∙◌, eqb-true, eq-eqb, ℕ, zero, suc, nat_eq, Bool, true, false, not, ◌&&◌, List, [], ◌∷◌, ◌++◌, map, Option, Some, None, is_some, option_and_then, slice_get, bytes_eq}
use Rattle.vt_spec.proofs.Common.{FileTree, IsDirectory, IsReached, IsTree, ListsNumbers, Merge, OpenLayer, SameObject, Shown, Stack, Upper, View, at_path, bytes_eq_itself, common_steps, cuts, directory_no_whiteout, entry_at, is_directory_node, is_empty_list, is_kind_in, last_or, led, none_is_some, number_at_path, real_object, same_Some, same_option, shown, shown_from, then_some, upper_object, upper_of, view_of}
use Rattle.vt_spec.specs.declared.attributes.Kind.TheVariants.{White}
use Rattle.vt_laws_trees.specs.Layers.Layers.Shown.{IsShown}
use Rattle.vt_laws_trees.specs.Layers.Layers.ChangesUpper.{StandsInUpper}
use Rattle.vt_laws_trees.specs.Layers.Layers.Views.{goes_through, names_entry, view_in}
use Rattle.vt_laws_trees.specs.Overlays.WhatIsShown.{IsWhole, inode_behind, layers_under}
use Rattle.vt_laws_trees.proofs.layers.layers.ShownAtPath.{computed}
use Rattle.vt_laws_trees.proofs.layers.layers.ShownPaths.{last_of_longer}
use Rattle.vt_laws_trees.proofs.layers.layers.UpperFit.{same_directory}
use Rattle.vt_laws_trees.proofs.layers.layers.UpperShown.{without_last_of_longer}
use Rattle.vt_laws_trees.proofs.layers.views.After.{on_top}
use Rattle.vt_laws_trees.proofs.layers.layers.ShownNames.{last_name}
use Rattle.vt_laws_trees.proofs.layers.views.Lower.{is_named}
use Rattle.vt_laws_trees.proofs.layers.views.Fronts.{prefixes_agree}
use Rattle.vt_laws_trees.proofs.layers.views.Moves.{led_parts, through_is_split}
use Rattle.vt_laws_trees.proofs.overlays.whole.UpperGoes.{IsGood}
use Rattle.vt_laws_trees.proofs.overlays.steps.WholeAttributes.{top_open, upper_real}
use Rattle.vt_laws_trees.proofs.overlays.steps.WholeParts.{IsFine, fine, real_by, what_is_shown}

pub same_is : (o : Option ℕ) (n : ℕ) → same_option nat_eq o (Some n) ≡ true → o ≡ Some n
same_is None n e = cc
same_is (Some m) n e = ap Some (eqb-true m n e)

pub same_holds : (o : Option ℕ) (n : ℕ) → o ≡ Some n → same_option nat_eq o (Some n) ≡ true
same_holds o n e = cc (eq-eqb n n refl)

-- the path of an entry names it
pub entry_named_so : (files : FileTree ℕ) (top directory : ℕ) (name : List ℕ) (way : List (List ℕ))
    → led files.tree top way ≡ Some directory → names_entry (view_in files top) directory name (way ++ name ∷ []) ≡ true
entry_named_so files top directory name way e =
    grind (arith, common_steps, without_last_of_longer, same_holds, last_of_longer, bytes_eq_itself)

-- and leads where the entry does
pub named_led : (files : FileTree ℕ) (top directory : ℕ) (name : List ℕ) (path : List (List ℕ))
    → names_entry (view_in files top) directory name path ≡ true
    → led files.tree top path ≡ entry_at files.tree directory name
named_led files top directory name path e =
    let named = is_named files top directory name path e in
    cc (named.1, last_name files.tree top named.0 name) ∙ ap (option_and_then (λ d. entry_at files.tree d name)) named.2

-- a path through a name that is free leads nowhere
pub through_free : (files : FileTree ℕ) (top directory : ℕ) (name : List ℕ) → entry_at files.tree directory name ≡ None
    → (path : List (List ℕ))
    → goes_through (view_in files top) directory name path ≡ true → led files.tree top path ≡ None
through_free files top directory name free path through =
    let parts = through_is_split files top directory name path through in
    cc (parts.2, led_parts files.tree parts.0 (name ∷ parts.1) top directory parts.3)
    ∙ ap (option_and_then (λ next. led files.tree next parts.1)) free

-- and one through what has no names in it too, but for its own path
pub through_bare : (files : FileTree ℕ) (top directory object : ℕ) (name : List ℕ)
    → entry_at files.tree directory name ≡ Some object
    → ((word : List ℕ) → entry_at files.tree object word ≡ None) → (path : List (List ℕ))
    → goes_through (view_in files top) directory name path ≡ true
    → names_entry (view_in files top) directory name path ≡ false → led files.tree top path ≡ None
through_bare files top directory object name e bare path through other =
    let parts = through_is_split files top directory name path through in
    cc (parts.2, led_parts files.tree parts.0 (name ∷ parts.1) top directory parts.3)
    ∙ ap (option_and_then (λ next. led files.tree next parts.1)) e ∙ by parts.0 parts.1 parts.2 parts.3
  where
    by : (way rest : List (List ℕ)) → way ++ name ∷ rest ≡ path → led files.tree top way ≡ Some directory
        → led files.tree object rest ≡ None
    by way [] is l = cc (entry_named_so files top directory name way l)
    by way (word ∷ rest) is l = ap (option_and_then (λ next. led files.tree next rest)) (bare word)

-- Views that differ in what they lead to and hide at other paths
pub over_same : (one other : View ℕ) (lowers : List (View ℕ)) (path : List (List ℕ)) → other.leads path ≡ one.leads path
    → ((object : ℕ) → one.leads path ≡ Some object
    → is_kind_in White (other.node object) ≡ is_kind_in White (one.node object))
    → cuts other path ≡ cuts one path → shown_from 0 (other ∷ lowers) path ≡ shown_from 0 (one ∷ lowers) path
over_same one other lowers path leads white cut = grind (arith, common_steps)

pub cut_shows_none : (view : View ℕ) (lowers : List (View ℕ)) (path : List (List ℕ)) → view.leads path ≡ None
    → cuts view path ≡ true → shown_from 0 (view ∷ lowers) path ≡ None
cut_shows_none view lowers path leads cut = cc (leads, cut)

-- names lead to the upper layer's directory in its tree
pub top_good : (stack : Stack ℕ) (merge : Merge ℕ) → IsWhole stack merge → IsGood stack.directory merge.upper
top_good stack merge whole =
    let top = top_open stack merge whole in record { tree = top.0; directory = top.1; reached = whole.reached }

module _ (stack : Stack ℕ) (merge : Merge ℕ) (whole : IsWhole stack merge) where
  pub is_fine : IsFine stack merge
  is_fine = fine stack merge whole.layers whole.shown

  abbrev layers : List (OpenLayer ℕ)
  layers = layers_under stack merge

  abbrev top : OpenLayer ℕ
  top = record { tree = merge.upper.tree; directory = stack.directory }

  -- what names lead to in the overlay they lead to in the upper layer, if it stands there
  pub named_above : (path : List (List ℕ)) (number u : ℕ) → number_at_path merge.files path ≡ Some number
      → merge.real number ≡ Some (Upper u) → led merge.upper.tree stack.directory path ≡ Some u
  named_above path number u e r =
      by (shown layers path) refl (cc (is_fine.paths path))
    where
      at : (layer object : ℕ) → IsShown layers path (record { layer = layer; object = object })
          → Some (Upper u) ≡ Some (real_object true layer
          (record { path = path; seen = record { layer = layer; object = object } }))
          → led merge.upper.tree stack.directory path ≡ Some u
      at zero object is q =
          ap (λ l. at_path l path) (same_Some top is.has_uncut.0.0 is.has_uncut.0.1) ∙ is.has_uncut.0.2
          ∙ ap Some (sym (same_Some u object (ap upper_object q)))
      at (suc layer) object is q = none_is_some u (sym (ap upper_object q))

      by : (o : Option (Shown ℕ)) → shown layers path ≡ o → Some (Upper u) ≡ real_by path o
          → led merge.upper.tree stack.directory path ≡ Some u
      by None e q = none_is_some (Upper u) (sym q)
      by (Some seen) e q = at seen.layer seen.object ((computed layers path seen).0 e) q

  -- and the other way, but for whiteouts
  pub above_named : (path : List (List ℕ)) (u : ℕ) → led merge.upper.tree stack.directory path ≡ Some u
      → is_kind_in White (merge.upper.tree.node u) ≡ false
      → (number : ℕ) × (number_at_path merge.files path ≡ Some number) × (merge.real number ≡ Some (Upper u))
  above_named path u e white = by (number_at_path merge.files path) refl (is_fine.paths path ∙ ap (real_by path)
      (on_top (view_in merge.upper stack.directory) (map view_of stack.lowers) path u false e white))
    where
      by : (o : Option ℕ) → number_at_path merge.files path ≡ o → then_some o merge.real ≡ Some (Upper u)
          → (number : ℕ) × (number_at_path merge.files path ≡ Some number) × (merge.real number ≡ Some (Upper u))
      by None f q = none_is_some (Upper u) q
      by (Some number) f q = (number, f, q)

  pub object_above : (number u : ℕ) → merge.real number ≡ Some (Upper u)
      → SameObject (merge.files.tree.node number) (merge.upper.tree.node u)
  object_above number u r =
      subst (λ o. SameObject (merge.files.tree.node number) (then_some o (inode_behind stack merge))) r
      (is_fine.objects number)

  pub directory_stands : (number u : ℕ) → merge.real number ≡ Some (Upper u)
      → is_directory_node (merge.upper.tree.node u) ≡ is_directory_node (merge.files.tree.node number)
  directory_stands number u r = same_directory _ (merge.upper.tree.node u) (object_above number u r)

-- a directory of the overlay that is in its upper layer
pub record IsAbove (stack : Stack ℕ) (merge : Merge ℕ) (d ud : ℕ) : Type 0 where
  pub whole : IsWhole stack merge
  pub real : merge.real d ≡ Some (Upper ud)
  pub directory : is_directory_node (merge.upper.tree.node ud) ≡ true

pub stands_above : {stack : Stack ℕ} {merge : Merge ℕ} (d : ℕ) → IsWhole stack merge → StandsInUpper merge d
    → IsDirectory merge.files.tree d → IsAbove stack merge d (upper_of merge d)
stands_above {stack = stack} {merge = merge} d whole stands is = record {
  whole = whole;
  real = upper_real merge d stands;
  directory = directory_stands stack merge whole d _ (upper_real merge d stands) ∙ is;
}

module _ {stack : Stack ℕ} {merge : Merge ℕ} {d ud : ℕ} (it : IsAbove stack merge d ud) where
  pub same_place : (path : List (List ℕ)) → same_option nat_eq (number_at_path merge.files path) (Some d)
      ≡ same_option nat_eq (led merge.upper.tree stack.directory path) (Some ud)
  same_place path = by (same_option nat_eq (number_at_path merge.files path) (Some d)) refl _ refl
    where
      back : led merge.upper.tree stack.directory path ≡ Some ud → number_at_path merge.files path ≡ Some d
      back e =
          let found = above_named stack merge it.whole path ud e (directory_no_whiteout _ it.directory) in
          found.1 ∙ ap Some ((is_fine stack merge it.whole).one found.0 d (ap is_some found.2) (found.2 ∙ sym it.real))

      by : (a : Bool) → same_option nat_eq (number_at_path merge.files path) (Some d) ≡ a → (b : Bool)
          → same_option nat_eq (led merge.upper.tree stack.directory path) (Some ud) ≡ b → a ≡ b
      by true e true f = refl
      by false e false f = refl
      by true e false f = sym (same_holds _ ud (named_above stack merge it.whole path d ud (same_is _ d e) it.real)) ∙ f
      by false e true f = sym e ∙ same_holds _ d (back (same_is _ ud f))

  pub same_entry : (name : List ℕ) (path : List (List ℕ))
      → names_entry (view_in merge.files merge.files.tree.root) d name path
      ≡ names_entry (view_in merge.upper stack.directory) ud name path
  same_entry name path = ap (λ b. not (is_empty_list path) && (b && bytes_eq (last_or [] path) name)) (same_place _)

  pub same_through : (name : List ℕ) (path : List (List ℕ))
      → goes_through (view_in merge.files merge.files.tree.root) d name path
      ≡ goes_through (view_in merge.upper stack.directory) ud name path
  same_through name path = prefixes_agree _ _ path (λ front is. same_entry name front)

-- an overlay that is fine is whole, where its trees are
pub whole_again : (stack : Stack ℕ) (merge later : Merge ℕ) → IsWhole stack merge → IsTree later.files.tree
    → ListsNumbers nat_eq later.files → IsTree later.upper.tree → IsDirectory later.upper.tree stack.directory
    → IsReached later.upper.tree stack.directory → IsFine stack later → IsWhole stack later
whole_again stack merge later whole tree numbers upper directory reached is = record {
  tree = tree;
  numbers = numbers;
  layers = by;
  reached = reached;
  shown = what_is_shown stack later is;
}
  where
    by : (depth : ℕ) (layer : OpenLayer ℕ) → slice_get (layers_under stack later) depth ≡ Some layer
        → IsTree layer.tree × IsDirectory layer.tree layer.directory
    by zero layer e = subst (λ l. IsTree l.tree × IsDirectory l.tree l.directory) (same_Some _ layer e)
        (upper, directory)
    by (suc depth) layer e = whole.layers (suc depth) layer e
