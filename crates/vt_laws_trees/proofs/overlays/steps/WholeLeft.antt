-- Names that are given and taken in the upper layer, and the one name of a directory there.
use Rattle.std.proofs.Common.{◌≡◌, refl, sym, ap, subst, ◌∙◌, true≢false, arith, ℕ, suc, ◌+◌, nat_eq, map, slice_get, Bool, true, false, not, cond, List, [], ◌∷◌, ◌++◌, Option, Some, None, is_some, option_and_then}
use Rattle.vt_spec.proofs.Common.{FileTree, IsDirectory, Merge, OpenLayer, Shown, Stack, Tree, Upper, at_path, changed_node, common_steps, cuts, directory_no_whiteout, entries_in, entry_at, entry_named, is_directory_node, led, led-append, node_led, node_with_parent, node_without_entries, none_is_some, number_at_path, or_left, or_right, same_Some, shown_over, then_some, upper_directory_named, view_of, when, without_contents}
use Rattle.vt_spec.proofs.Layers.{shown_from}
use Rattle.vt_spec.specs.Machine.Views
use Rattle.vt_laws_trees.specs.Layers.Layers.Mounted.{IsAlike}
use Rattle.vt_laws_trees.specs.Layers.Layers.Views.{names_entry, view_in}
use Rattle.vt_laws_trees.proofs.layers.layers.CopyingParts.{parent_keeps, without_entries_keeps}
use Rattle.vt_laws_trees.proofs.layers.layers.LowersKept.{kept_elsewhere}
use Rattle.vt_laws_trees.proofs.layers.layers.ShownNames.{last_name}
use Rattle.vt_laws_trees.proofs.layers.layers.ShownPaths.{not_empty, last_step}
use Rattle.vt_laws_trees.proofs.layers.layers.UpperLine.{is_reached_in}
use Rattle.vt_laws_trees.proofs.layers.layers.UpperShown.{way_to}
use Rattle.vt_laws_trees.proofs.layers.views.Entries.{is_entry}
use Rattle.vt_laws_trees.proofs.layers.views.Names.{alike_after, alike_both, alike_same}
use Rattle.vt_laws_trees.proofs.layers.views.Walks.{passes}
use Rattle.vt_laws_trees.specs.Overlays.WhatIsShown.{IsWhole}
use Rattle.vt_laws_trees.proofs.overlays.steps.WholeAttributes.{top_open}
use Rattle.vt_laws_trees.proofs.overlays.steps.WholeNames.{above_named, directory_stands, entry_named_so, is_fine, named_above}

-- a path that does not go through the one entry that changes
module _ (before after : Tree ℕ) (to : ℕ) (new : List ℕ) (value : Option ℕ) (told : (other : ℕ) (word : List ℕ)
    → entry_at after other word ≡ cond (is_entry to new other word) value (entry_at before other word)) where
  pub beside_led : (path : List (List ℕ)) (start : ℕ) → passes before to new start path ≡ false
      → led after start path ≡ led before start path
  beside_led [] start e = refl
  beside_led (word ∷ rest) start e = grind (arith, common_steps, is_entry, passes, true≢false, beside_led rest)

-- a directory that loses its whiteouts and its parent is as it was but for names
pub emptied_alike : (files : FileTree ℕ) (o : Option ℕ) (u : ℕ)
    → IsAlike (files.tree.node u) ((without_contents nat_eq files o).tree.node u)
emptied_alike files None u = alike_same (files.tree.node u) (files.tree.node u) refl
emptied_alike files (Some k) u =
    grind (arith, common_steps, alike_both, alike_after, without_entries_keeps, parent_keeps)

-- and all others have their names
pub emptied_entries : (files : FileTree ℕ) (k other : ℕ) (word : List ℕ) → nat_eq other k ≡ false
    → entry_at (without_contents nat_eq files (Some k)).tree other word ≡ entry_at files.tree other word
emptied_entries files k other word differ = ap (λ n. entry_named word (entries_in n))
    (kept_elsewhere (changed_node nat_eq files k node_without_entries) k (node_with_parent k) other differ
    ∙ kept_elsewhere files k node_without_entries other differ)

-- lower layers that show a directory have one
pub lowers_have : (lowers : List (OpenLayer ℕ)) (depth place object : ℕ) (layer : OpenLayer ℕ) (path : List (List ℕ))
    → slice_get lowers place ≡ Some layer
    → shown_from depth lowers path ≡ Some (record { layer = depth + place; object = object })
    → at_path layer path ≡ Some object → IsDirectory layer.tree object
    → Views.lowers_have_directory (map view_of lowers) path ≡ true
lowers_have [] depth place object layer path there is at d = none_is_some layer there
lowers_have (first ∷ lowers) depth place object layer path there is at d =
    by place there is (at_path first path) refl (λ k f e. lowers_have lowers (depth + 1) k object layer path f e at d)
  where
    here : slice_get (first ∷ lowers) 0 ≡ Some layer
        → Views.lowers_have_directory (map view_of (first ∷ lowers)) path ≡ true
    here f = or_left (is_directory_node (node_led (view_of first) path)) _
        (ap (λ o. is_directory_node (then_some o first.tree.node))
        (ap (λ l. at_path l path) (same_Some first layer f) ∙ at)
        ∙ ap (λ l. is_directory_node (l.tree.node object)) (same_Some first layer f) ∙ d)

    below : (cut : Bool) → cuts (view_of first) path ≡ cut → (k : ℕ) → slice_get lowers k ≡ Some layer
        → shown_over (view_of first) depth None cut (shown_from (depth + 1) lowers path)
        ≡ Some (record { layer = depth + suc k; object = object }) → ((k : ℕ) → slice_get lowers k ≡ Some layer
        → shown_from (depth + 1) lowers path ≡ Some (record { layer = depth + 1 + k; object = object })
        → Views.lowers_have_directory (map view_of lowers) path ≡ true)
        → Views.lowers_have_directory (map view_of (first ∷ lowers)) path ≡ true
    below true c k f e rest = none_is_some _ e
    below false c k f e rest = grind (arith, common_steps, or_right)

    over : (k : ℕ) (found : ℕ) (white : Bool)
        → when {A = Shown ℕ} (not white) (record { layer = depth; object = found })
        ≡ Some (record { layer = depth + k; object = object }) → k ≡ 0
    over k found true e = none_is_some _ e
    over k found false e =
        let h : depth ≡ depth + k = ap
        (λ (o : Option (Shown ℕ)). elim o as (λ _. ℕ) [ None ↦ 0 | Some s ↦ s.layer ]) e in omega (arith, h)

    by : (place : ℕ) → slice_get (first ∷ lowers) place ≡ Some layer
        → shown_from depth (first ∷ lowers) path ≡ Some (record { layer = depth + place; object = object })
        → (o : Option ℕ) → at_path first path ≡ o → ((k : ℕ) → slice_get lowers k ≡ Some layer
        → shown_from (depth + 1) lowers path ≡ Some (record { layer = depth + 1 + k; object = object })
        → Views.lowers_have_directory (map view_of lowers) path ≡ true)
        → Views.lowers_have_directory (map view_of (first ∷ lowers)) path ≡ true
    by place f e o a rest = grind (arith, common_steps, over, shown_from, here, below)

-- The name of a directory of the overlay in the upper layer
module _ {stack : Stack ℕ} {merge : Merge ℕ} (whole : IsWhole stack merge) (d ud : ℕ) (w : List ℕ) {object : ℕ}
    (uo : ℕ) (named : entry_at merge.files.tree d w ≡ Some object) (real_d : merge.real d ≡ Some (Upper ud))
    (real_o : merge.real object ≡ Some (Upper uo)) where
  pub way : (q : List (List ℕ)) × (number_at_path merge.files q ≡ Some d)
  way = let reached = is_reached_in merge.files whole.tree d w object named in
      way_to merge.files.tree reached.0 d reached.1

  pub up_way : led merge.upper.tree stack.directory way.0 ≡ Some ud
  up_way = named_above stack merge whole way.0 d ud way.1 real_d

  pub named_in_upper : entry_at merge.upper.tree ud w ≡ Some uo
  named_in_upper = sym (last_name merge.upper.tree stack.directory way.0 w
      ∙ ap (option_and_then (λ n. entry_at merge.upper.tree n w)) up_way)
      ∙ named_above stack merge whole (way.0 ++ w ∷ []) object uo
      (led-append merge.files.tree merge.files.tree.root way.0 w d object way.1 named) real_o

  -- no other path leads to it
  pub one_named : IsDirectory merge.files.tree object → (path : List (List ℕ))
      → led merge.upper.tree stack.directory path ≡ Some uo
      → names_entry (view_in merge.upper stack.directory) ud w path ≡ true
  one_named is_dir [] l =
      let top_directory = (top_open stack merge whole).1 in
      let root = above_named stack merge whole [] stack.directory refl (directory_no_whiteout _ top_directory) in
      absurd (whole.tree.root_unnamed d w (named ∙ ap Some
      ((is_fine stack merge whole).one object merge.files.tree.root (ap is_some real_o)
      (real_o ∙ ap (λ n. Some (Upper n)) (sym (same_Some stack.directory uo l)) ∙ sym root.2
      ∙ ap merge.real (sym (same_Some merge.files.tree.root root.0 root.1))))))
  one_named is_dir (word ∷ rest) l =
      let top_tree = (top_open stack merge whole).0 in
      let uo_directory = directory_stands stack merge whole object uo real_o ∙ is_dir in
      let last = last_step merge.upper.tree stack.directory (word ∷ rest) uo (not_empty word rest) l in
      let same = sym (top_tree.one_parent last.directory last.name uo last.entry uo_directory)
      ∙ top_tree.one_parent ud w uo named_in_upper uo_directory in
      let one = top_tree.one_name ud last.name w uo
      (ap (λ n. entry_at merge.upper.tree n last.name) (sym same) ∙ last.entry) named_in_upper uo_directory in
      subst (λ p. names_entry (view_in merge.upper stack.directory) ud w p ≡ true)
      (ap (λ n. last.front ++ n ∷ []) (sym one) ∙ last.split)
      (entry_named_so merge.upper stack.directory ud w last.front (last.leads ∙ ap Some same))

-- the upper directory that has a name is the object's
pub own_upper : (merge : Merge ℕ) (d : ℕ) (w : List ℕ) (uo : ℕ) → upper_directory_named merge d w ≡ Some uo
    → (object : ℕ) × (entry_at merge.files.tree d w ≡ Some object) × (merge.real object ≡ Some (Upper uo))
    × IsDirectory merge.files.tree object
own_upper merge d w uo e = grind (arith, common_steps, none_is_some, same_Some)
