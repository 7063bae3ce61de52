-- Lower layers that lead alike show the same.
use Rattle.std.proofs.Common.{arith, ◌≡◌, refl, sym, ap, subst, ◌∙◌, inl, inr, ℕ, zero, suc, List, [], ◌∷◌, map, Option, Some, None, slice_get, option_map}
use Rattle.vt_spec.proofs.Common.{Credentials, Layer, Lower, Merge, OpenLayer, Real, SameObject, Shown, Stack, Upper, at_path, common_steps, layer_node, node_at_path, number_at_path, same_Some, shown, slice_get-map, then_some, view_of}
use Rattle.vt_laws_trees.specs.Layers.Layers.Mounted.{IsAlike}
use Rattle.vt_laws_trees.specs.Layers.Layers.Shown.{IsShown}
use Rattle.vt_laws_trees.specs.Layers.Layers.Untouched.{IsKept}
use Rattle.vt_laws_trees.specs.Layers.Layers.Views.{AllLeadAlike}
use Rattle.vt_laws_trees.proofs.layers.layers.ShownAtPath.{computed}
use Rattle.vt_laws_trees.proofs.layers.layers.ShownObjects.{Among}
use Rattle.vt_laws_trees.proofs.layers.views.Fronts.{shown_by_views}
use Rattle.vt_laws_trees.proofs.layers.views.Names.{alike_kept, alike_same, make_seen}
use Rattle.vt_laws_trees.specs.Overlays.WhatIsShown.{IsWhatIsShown, inode_behind, layers_under}
use Rattle.vt_laws_trees.proofs.overlays.steps.WholeGrown.{alike_objects}
use Rattle.vt_laws_trees.proofs.layers.directories.Still.{among_slice}

module _ (one other : Layer ℕ → OpenLayer ℕ) where
  abbrev pub LeadsAlike : Layer ℕ → Type 0
  LeadsAlike layer = (path : List (List ℕ)) → (at_path (other layer) path ≡ at_path (one layer) path)
      × IsKept (node_at_path (one layer) path) (node_at_path (other layer) path)

  all_alike : (layers : List (Layer ℕ)) → ((layer : Layer ℕ) → Among layers layer → LeadsAlike layer)
      → AllLeadAlike (map view_of (map one layers)) (map view_of (map other layers))
  all_alike [] alike = tt
  all_alike (layer ∷ layers) alike = (
    record {
      leads = λ path. (alike layer (inl refl) path).0;
      inodes = λ path. alike_kept _ _ (alike layer (inl refl) path).1;
    },
    all_alike layers (λ l m. alike l (inr m)),
  )

  module _ (layers : List (Layer ℕ)) (alike : (layer : Layer ℕ) → Among layers layer → LeadsAlike layer)
      (directory : ℕ) (mounter : Credentials) (merge : Merge ℕ) where
    abbrev pub stack_one : Stack ℕ
    stack_one = record { directory = directory; lowers = map one layers; mounter = mounter }

    abbrev pub stack_other : Stack ℕ
    stack_other = record { directory = directory; lowers = map other layers; mounter = mounter }

    shown_same : (path : List (List ℕ))
        → shown (layers_under stack_other merge) path ≡ shown (layers_under stack_one merge) path
    shown_same path =
        shown_by_views (map view_of (layers_under stack_one merge)) (map view_of (layers_under stack_other merge))
        (record { leads = λ p. refl; inodes = λ p. alike_same _ _ refl }, all_alike layers alike) path

    node_alike : (path : List (List ℕ)) (seen : Shown ℕ) → shown (layers_under stack_one merge) path ≡ Some seen
        → IsAlike (layer_node (layers_under stack_one merge) seen) (layer_node (layers_under stack_other merge) seen)
    node_alike path seen e = by seen.layer seen.object ((computed (layers_under stack_one merge) path seen).0 e)
      where
        below : (k object : ℕ) (x : Option (Layer ℕ)) → slice_get layers k ≡ x
            → ((layer : OpenLayer ℕ) → option_map one x ≡ Some layer → at_path layer path ≡ Some object)
            → IsAlike (then_some (option_map one x) (λ l. l.tree.node object))
            (then_some (option_map other x) (λ l. l.tree.node object))
        below k object None s at = alike_same None None refl
        below k object (Some layer) s at =
            let leads = alike layer (among_slice layers k layer s) path in
            let here = at (one layer) refl in
            subst (λ o. IsAlike (then_some o (one layer).tree.node) ((other layer).tree.node object)) here
            (subst (λ o. IsAlike (node_at_path (one layer) path) (then_some o (other layer).tree.node))
            (leads.0 ∙ here) (alike_kept _ _ leads.1))

        by : (layer object : ℕ) → IsShown (layers_under stack_one merge) path
            (record { layer = layer; object = object })
            → IsAlike (layer_node (layers_under stack_one merge) (record { layer = layer; object = object }))
            (layer_node (layers_under stack_other merge) (record { layer = layer; object = object }))
        by zero object is = alike_same (merge.upper.tree.node object) (merge.upper.tree.node object) refl
        by (suc k) object is = subst (λ x. IsAlike (then_some x (λ l. l.tree.node object))
            (then_some (slice_get (map other layers) k) (λ l. l.tree.node object))) (sym (slice_get-map one layers k))
            (subst (λ x. IsAlike (then_some (option_map one (slice_get layers k)) (λ l. l.tree.node object))
            (then_some x (λ l. l.tree.node object))) (sym (slice_get-map other layers k))
            (below k object (slice_get layers k) refl (λ layer f. ap (λ l. at_path l path)
            (same_Some layer is.has_uncut.0.0 (sym f ∙ sym (slice_get-map one layers k) ∙ is.has_uncut.0.1))
            ∙ is.has_uncut.0.2)))

    behind_alike : (r : Option (Real ℕ))
        → IsAlike (then_some r (inode_behind stack_one merge)) (then_some r (inode_behind stack_other merge))
    behind_alike None = alike_same None None refl
    behind_alike (Some (Upper object)) = alike_same (merge.upper.tree.node object) (merge.upper.tree.node object) refl
    behind_alike (Some (Lower k path)) = grind (arith, common_steps, slice_get-map, alike_same, alike_kept, among_slice)

    pub shown_alike : IsWhatIsShown stack_one merge → IsWhatIsShown stack_other merge
    shown_alike is = record {
      shows = λ path. subst (λ o. SameObject (then_some (number_at_path merge.files path) merge.files.tree.node)
          (then_some o (layer_node (layers_under stack_other merge)))) (sym (shown_same path))
          (by path (shown (layers_under stack_one merge) path) refl (is.shows path));
      names = λ path number e. cc (is.names path number e, shown_same path);
      real_objects = λ number. alike_objects _ _ _ _ (is.real_objects number) (make_seen _) (behind_alike _);
      real_there = is.real_there;
      no_whiteout = is.no_whiteout;
      no_mark = is.no_mark;
      upper_there = is.upper_there;
      one_to_one = is.one_to_one;
    }
      where
        by : (path : List (List ℕ)) (o : Option (Shown ℕ)) → shown (layers_under stack_one merge) path ≡ o
            → SameObject (then_some (number_at_path merge.files path) merge.files.tree.node)
            (then_some o (layer_node (layers_under stack_one merge)))
            → SameObject (then_some (number_at_path merge.files path) merge.files.tree.node)
            (then_some o (layer_node (layers_under stack_other merge)))
        by path None e same = same
        by path (Some seen) e same = alike_objects _ _ _ _ same (make_seen _) (node_alike path seen e)
