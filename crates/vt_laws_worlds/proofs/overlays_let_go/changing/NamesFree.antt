-- A name of what lies only below leads nowhere in the upper layer.
use Rattle.std.proofs.Common.{◌≡◌, refl, sym, ap, ◌∙◌, ℕ, zero, suc, nat_eq, Bool, true, false, not, List, [], ◌∷◌, ◌++◌, map, Option, Some, None, is_some, option_and_then, option_map}
use Rattle.vt_spec.proofs.Common.{FileTree, IsTree, IsWorld, Layer, OpenLayer, Overlay, Shown, World, at_path, entry_at, filesystem_numbered, is_kind_in, led-append, open_layer, real_object, shown, upper_object, when}
use Rattle.vt_spec.specs.declared.attributes.Kind.TheVariants.{White}
use Rattle.vt_laws_trees.specs.Layers.Layers.Shown.{IsShown}
use Rattle.vt_laws_trees.proofs.layers.layers.ShownAtPath.{computed}
use Rattle.vt_laws_trees.proofs.layers.layers.ShownNames.{last_name}
use Rattle.vt_laws_trees.proofs.layers.layers.UpperLine.{is_reached_in}
use Rattle.vt_laws_trees.proofs.layers.layers.UpperShown.{real_at, way_to}
use Rattle.vt_laws_trees.proofs.layers.layers.UpperWorld.{overlay_tree, real_named, shown_there}

module _ (top : OpenLayer ℕ) (lower : List (OpenLayer ℕ)) (path : List (List ℕ)) where
  abbrev real_of_shown : Option (Shown ℕ) → Option ℕ
  real_of_shown o = upper_object (option_map (λ object. real_object true object.seen.layer object)
      (option_map (λ seen. record { path = path; seen = seen }) o))

  -- an upper object that is shown is the one that the path leads to
  upper_at : (object : ℕ) → upper_object (real_at top lower path) ≡ Some object → at_path top path ≡ Some object
  upper_at object e = by _ refl e
    where
      seen_so : (layer found : ℕ) → IsShown (top ∷ lower) path (record { layer = layer; object = found })
          → real_of_shown (Some (record { layer = layer; object = found })) ≡ Some object
          → at_path top path ≡ Some object
      seen_so zero found shows u = cc
      seen_so (suc layer) found shows u = cc

      by : (o : Option (Shown ℕ)) → shown (top ∷ lower) path ≡ o → real_of_shown o ≡ Some object
          → at_path top path ≡ Some object
      by None s u = cc
      by (Some seen) s u = seen_so _ _ ((computed (top ∷ lower) path seen).0 s) u

  -- where something else is shown, it leads nowhere
  nothing_at : is_some (shown (top ∷ lower) path) ≡ true → upper_object (real_at top lower path) ≡ None
      → at_path top path ≡ None
  nothing_at there e = by _ refl
    where
      seen_by : (object : ℕ) → at_path top path ≡ Some object
          → shown (top ∷ lower) path ≡ when (not (is_kind_in White (top.tree.node object)))
          (record { layer = 0; object = object })
      seen_by object f = cc

      white : (object : ℕ) → at_path top path ≡ Some object → (b : Bool) → is_kind_in White (top.tree.node object) ≡ b
          → at_path top path ≡ None
      white object f true w = cc (seen_by object f)
      white object f false w = cc (seen_by object f)

      by : (o : Option ℕ) → at_path top path ≡ o → at_path top path ≡ None
      by None f = f
      by (Some object) f = white object f _ refl

module _ {world : World ℕ} (conditions : IsWorld nat_eq world) (number : ℕ) {overlay : Overlay ℕ}
    (is : (filesystem_numbered nat_eq world number).overlay ≡ Some overlay) {upper : Layer ℕ}
    (has : overlay.upper ≡ Some upper) where
  abbrev files : FileTree ℕ
  files = (filesystem_numbered nat_eq world number).files

  abbrev top_layer : OpenLayer ℕ
  top_layer = open_layer nat_eq world upper

  tree : IsTree files.tree
  tree = overlay_tree world conditions number overlay is

  pub names_free : (directory : ℕ) (name : List ℕ) (object seen : ℕ) → entry_at files.tree directory name ≡ Some object
      → upper_object (overlay.real object) ≡ None → upper_object (overlay.real directory) ≡ Some seen
      → entry_at top_layer.tree seen name ≡ None
  names_free directory name object seen e below above =
      let reached = is_reached_in files tree directory name object e in
      let way = way_to files.tree reached.0 directory reached.1 in
      let longer = led-append files.tree files.tree.root way.0 name directory object way.1 e in
      let at = upper_at top_layer (map (open_layer nat_eq world) overlay.lowers) way.0 seen
      (ap upper_object (sym (real_named world conditions number overlay is upper has way.0 directory way.1)) ∙ above) in
      sym (last_name top_layer.tree top_layer.directory way.0 name
      ∙ ap (option_and_then (λ d. entry_at top_layer.tree d name)) at)
      ∙ nothing_at top_layer (map (open_layer nat_eq world) overlay.lowers) (way.0 ++ name ∷ [])
      (shown_there world conditions number overlay is upper has (way.0 ++ name ∷ []) object longer
      (tree.alive directory name object e))
      (ap upper_object (sym (real_named world conditions number overlay is upper has
      (way.0 ++ name ∷ []) object longer)) ∙ below)
