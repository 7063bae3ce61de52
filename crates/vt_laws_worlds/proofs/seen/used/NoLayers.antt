-- No overlay has a layer in another.
use Rattle.std.proofs.Common.{arith, ◌≡◌, refl, sym, ap, ◌∙◌, true≢false, ℕ, nat_eq, eqb-true, Bool, true, false, List, [], ◌∷◌, ◌++◌, map, filter, Option, Some, None, if◌then◌else◌, append-nil, filter_map, flat_map, option_to_list}
use Rattle.vt_spec.proofs.Common.{Filesystem, Layer, Overlay, World, and_true_left, and_true_right, common_steps, filesystem_numbered, filter-append, found_passes, holds_of, is_plain_layer, layers_of, list_all, located_in, named_in, objects_of_overlay, of_overlay, overlay_or, upper_object, used_in}
use Rattle.vt_laws_trees.proofs.layers.layers.UpperWorld.{overlay_found}
use Rattle.vt_laws_worlds.specs.Seen.InodeUses.{OverlaysAreUsedByLocations}

module _ (world : World ℕ) (number : ℕ) (overlay : Overlay ℕ)
    (is : (filesystem_numbered nat_eq world number).overlay ≡ Some overlay) where
  abbrev here : Layer ℕ → Bool
  here layer = nat_eq number layer.filesystem

  -- a plain layer is not in this filesystem
  elsewhere : (layer : Layer ℕ) → is_plain_layer nat_eq world layer ≡ true → here layer ≡ false
  elsewhere layer plain = grind (arith, common_steps, true≢false, and_true_left, eqb-true)

  none : (layers : List (Layer ℕ)) → list_all (is_plain_layer nat_eq world) layers ≡ true → filter here layers ≡ []
  none [] plain = refl
  none (layer ∷ layers) plain = ap (λ b. if b then layer ∷ filter here layers else filter here layers)
      (elsewhere layer (and_true_left _ _ plain)) ∙ none layers (and_true_right _ _ plain)

  abbrev plain_overlay : Filesystem ℕ → Bool
  plain_overlay = of_overlay true (λ o. list_all (is_plain_layer nat_eq world) (layers_of o))

  none_of : (o : Option (Overlay ℕ)) (f : Filesystem ℕ) → f.overlay ≡ o → plain_overlay f ≡ true
      → filter here (of_overlay [] layers_of f) ≡ []
  none_of None f e plain = cc
  none_of (Some o) f e plain = cc (none (layers_of o) (sym (ap (overlay_or true
      (λ o. list_all (is_plain_layer nat_eq world) (layers_of o))) e) ∙ plain))

  none_in : (all : List (Filesystem ℕ)) → list_all plain_overlay all ≡ true
      → filter here (flat_map (of_overlay [] layers_of) all) ≡ []
  none_in [] plain = refl
  none_in (f ∷ all) plain = filter-append here (of_overlay [] layers_of f) (flat_map (of_overlay [] layers_of) all)
      ∙ (λ i. none_of _ f refl (and_true_left _ _ plain) i ++ none_in all (and_true_right _ _ plain) i)

  abbrev objects_by : Filesystem ℕ → Overlay ℕ → List ℕ
  objects_by f o = if holds_of here o.upper then filter_map (λ n. upper_object (o.real n)) f.files.numbers else []

  no_upper : (o : Overlay ℕ) (upper : Option (Layer ℕ)) → o.upper ≡ upper
      → list_all (is_plain_layer nat_eq world) (layers_of o) ≡ true → holds_of here o.upper ≡ false
  no_upper o None e plain = ap (holds_of here) e
  no_upper o (Some layer) e plain = ap (holds_of here) e
      ∙ elsewhere layer (and_true_left _ _ (sym (ap (λ upper. list_all (is_plain_layer nat_eq world)
      (option_to_list upper ++ option_to_list o.work ++ o.lowers)) e) ∙ plain))

  no_objects_of : (o : Option (Overlay ℕ)) (f : Filesystem ℕ) → f.overlay ≡ o → plain_overlay f ≡ true
      → objects_of_overlay nat_eq number f ≡ []
  no_objects_of None f e plain = cc
  no_objects_of (Some o) f e plain = cc (no_upper o o.upper refl (sym
      (ap (overlay_or true (λ o. list_all (is_plain_layer nat_eq world) (layers_of o))) e) ∙ plain))

  no_objects : (all : List (Filesystem ℕ)) → list_all plain_overlay all ≡ true
      → flat_map (objects_of_overlay nat_eq number) all ≡ []
  no_objects [] plain = refl
  no_objects (f ∷ all) plain = (λ i. no_objects_of _ f refl (and_true_left _ _ plain) i
      ++ no_objects all (and_true_right _ _ plain) i)

-- the filesystem that is found has the number
number_is : (world : World ℕ) (number : ℕ) (overlay : Overlay ℕ)
    → (filesystem_numbered nat_eq world number).overlay ≡ Some overlay
    → (filesystem_numbered nat_eq world number).number ≡ number
number_is world number overlay is = sym (eqb-true number (filesystem_numbered nat_eq world number).number
    (found_passes (λ (f : Filesystem ℕ). nat_eq number f.number) world.filesystems _ (overlay_found world number _ is)))

pub used_by_locations : OverlaysAreUsedByLocations
used_by_locations world number overlay is_world is =
    let plain = is_world.overlays.plain_layers in
    let f = filesystem_numbered nat_eq world number in
    let same = number_is world number overlay is in
    (λ i. used_in nat_eq world (record f { number = same i }))
    ∙ (λ i. f.files.tree.root ∷ (named_in f.files ++ located_in nat_eq world number
    ++ map (λ (layer : Layer ℕ). layer.directory) (none_in world number overlay is world.filesystems plain i)
    ++ no_objects world number overlay is world.filesystems plain i)) ∙ ap (λ rest. f.files.tree.root ∷ rest)
    (append-nil (named_in f.files ++ located_in nat_eq world number ++ [])
    ∙ append-nil (named_in f.files ++ located_in nat_eq world number))
