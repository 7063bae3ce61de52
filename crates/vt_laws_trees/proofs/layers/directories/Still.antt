-- Each overlay is what its layers show when another one is mounted.
use Rattle.std.proofs.Common.{arith, ◌≡◌, ◌∙◌, refl, sym, ap, subst, inl, inr, ℕ, zero, suc, nat_eq, eqb-true, Bool, true, false, cond, List, [], ◌∷◌, ◌++◌, map, Some, None, is_some, slice_get, unwrap_or, Option, find, option_to_list}
use Rattle.vt_spec.proofs.Common.{Filesystem, Fresh, IsMerged, IsWorld, Layer, Overlay, Real, SameObject, World, common_steps, evens, filesystem_numbered, holds_of, is_among, is_plain_layer, is_there, layer_node, no_filesystem, none_is_some, number_at_path, open_layer, overlay_filesystem, real_node, same_Some, shown, shown_layers, then_some}
use Rattle.vt_laws_trees.specs.Layers.Layers.Mounted.{AreLayers}
use Rattle.vt_laws_trees.specs.Layers.Layers.NewOverlays.{OverlaysStillMerge}
use Rattle.vt_laws_trees.proofs.layers.directories.Apart.{each_passes}
use Rattle.vt_laws_trees.proofs.layers.directories.Later.{IsOld, later, not_found, plain_is_old, same_filesystem}
use Rattle.vt_laws_trees.proofs.layers.layers.ShownMounted.{made, made_merged}
use Rattle.vt_laws_trees.proofs.layers.layers.ShownObjects.{Among, among_append_left, among_append_right}
use Rattle.vt_laws_trees.proofs.layers.layers.UpperWorld.{overlay_layers}

pub among_slice : (list : List (Layer ℕ)) (k : ℕ) (layer : Layer ℕ) → slice_get list k ≡ Some layer → Among list layer
among_slice [] k layer e = none_is_some layer e
among_slice (first ∷ list) zero layer e = inl (same_Some first layer e)
among_slice (first ∷ list) (suc k) layer e = inr (among_slice list k layer e)

pub find_new : (test : Filesystem ℕ → Bool) (list : List (Filesystem ℕ)) (last : Filesystem ℕ) → find test list ≡ None
    → test last ≡ true → find test (list ++ last ∷ []) ≡ Some last
find_new test [] last f e = ap (λ b. cond b (Some last) None) e
find_new test (first ∷ list) last f e = grind (arith, common_steps, find_new test list last, none_is_some)

module _ (world : World ℕ) (conditions : IsWorld nat_eq world) (overlay : Overlay ℕ)
    (are_layers : AreLayers world overlay) (fresh : Fresh ℕ) (distinct : (j k : ℕ) → fresh j ≡ fresh k → j ≡ k)
    (unused : is_among nat_eq (evens fresh 0) (map (λ filesystem. filesystem.number) world.filesystems) ≡ false) where
  abbrev after : World ℕ
  after = later world conditions overlay are_layers fresh distinct unused

  abbrev Old : Layer ℕ → Type 0
  Old layer = IsOld world conditions overlay are_layers fresh distinct unused layer

  open_same : (layer : Layer ℕ) → Old layer → open_layer nat_eq after layer ≡ open_layer nat_eq world layer
  open_same layer old = ap (λ f. record { tree = f.files.tree; directory = layer.directory })
      (same_filesystem world conditions overlay are_layers fresh distinct unused layer.filesystem old)

  layers_same : (list : List (Layer ℕ)) → ((layer : Layer ℕ) → Among list layer → Old layer)
      → map (open_layer nat_eq after) list ≡ map (open_layer nat_eq world) list
  layers_same [] old = refl
  layers_same (layer ∷ list) old =
      cc (open_same layer (old layer (inl refl)), layers_same list (λ l among. old l (inr among)))

  module _ (filesystem : Filesystem ℕ) (some_overlay : Overlay ℕ)
      (old : (layer : Layer ℕ) → Among (shown_layers some_overlay) layer → Old layer)
      (is : IsMerged nat_eq world filesystem some_overlay) where
    same_layers : map (open_layer nat_eq after) (shown_layers some_overlay)
        ≡ map (open_layer nat_eq world) (shown_layers some_overlay)
    same_layers = layers_same (shown_layers some_overlay) old

    old_upper : (layer : Layer ℕ) → some_overlay.upper ≡ Some layer → Old layer
    old_upper layer e = old layer (among_append_left (option_to_list some_overlay.upper) some_overlay.lowers layer
        (subst (λ o. Among (option_to_list o) layer) (sym e) (inl refl)))

    real_same : (real : Real ℕ) → real_node nat_eq after some_overlay real ≡ real_node nat_eq world some_overlay real
    real_same real = grind (arith, common_steps, old_upper, same_filesystem, among_append_right, among_slice, open_same)

    still_merged : IsMerged nat_eq after filesystem some_overlay
    still_merged = record {
      shows = λ path.
          subst (λ layers. SameObject (then_some (number_at_path filesystem.files path) filesystem.files.tree.node)
          (then_some (shown layers path) (layer_node layers))) (sym same_layers) (is.shows path);
      names = λ path number e. cc (is.names path number e, same_layers);
      real_objects = λ number.
          subst (SameObject (filesystem.files.tree.node number)) (sym (by_real (some_overlay.real number)))
          (is.real_objects number);
      real_there = is.real_there;
      no_whiteout = is.no_whiteout;
      no_mark = is.no_mark;
      upper_there = λ number object e. by_upper object some_overlay.upper old_upper ∙ is.upper_there number object e;
      one_to_one = is.one_to_one;
    }
      where
        by_real : (o : Option (Real ℕ))
            → then_some o (real_node nat_eq after some_overlay) ≡ then_some o (real_node nat_eq world some_overlay)
        by_real None = refl
        by_real (Some real) = real_same real

        by_upper : (object : ℕ) (o : Option (Layer ℕ)) → ((layer : Layer ℕ) → o ≡ Some layer → Old layer)
            → holds_of (λ layer. is_there nat_eq after layer.filesystem object) o
            ≡ holds_of (λ layer. is_there nat_eq world layer.filesystem object) o
        by_upper object None olds = refl
        by_upper object (Some layer) olds = ap (λ f. is_some (f.files.tree.node object))
            (same_filesystem world conditions overlay are_layers fresh distinct unused layer.filesystem
            (olds layer refl))

  old_layers : (some_overlay : Overlay ℕ) → AreLayers world some_overlay → (layer : Layer ℕ)
      → Among (shown_layers some_overlay) layer → Old layer
  old_layers some_overlay are layer among = plain_is_old world conditions overlay are_layers fresh distinct unused layer
      (each_passes (is_plain_layer nat_eq world) (shown_layers some_overlay) are.1 layer among)

  merge_after : (number : ℕ) (some_overlay : Overlay ℕ)
      → (filesystem_numbered nat_eq after number).overlay ≡ Some some_overlay
      → IsMerged nat_eq after (filesystem_numbered nat_eq after number) some_overlay
  merge_after number some_overlay e = by (nat_eq number (overlay_filesystem nat_eq fresh world overlay).number) refl
    where
      by : (b : Bool) → nat_eq number (overlay_filesystem nat_eq fresh world overlay).number ≡ b
          → IsMerged nat_eq after (filesystem_numbered nat_eq after number) some_overlay
      by false t =
          let same = same_filesystem world conditions overlay are_layers fresh distinct unused number t in
          let was = sym (ap (λ f. f.overlay) same) ∙ e in
          subst (λ f. IsMerged nat_eq after f some_overlay) (sym same) (still_merged _
          some_overlay (old_layers some_overlay (overlay_layers world conditions number some_overlay was))
          (conditions.overlays.overlays_merge number some_overlay was))
      by true t =
          let same : filesystem_numbered nat_eq after number ≡ overlay_filesystem nat_eq fresh world overlay =
          ap (λ o. unwrap_or o (no_filesystem number)) (find_new (λ f. nat_eq number f.number) world.filesystems _
          (not_found number world.filesystems (cc (eqb-true number (evens fresh 0) t, unused))) t) in
          subst (λ f. IsMerged nat_eq after f some_overlay)
          (sym same) (subst (IsMerged nat_eq after (overlay_filesystem nat_eq fresh world overlay))
          (same_Some (made world conditions overlay are_layers fresh distinct) some_overlay
          (sym (ap (λ f. f.overlay) same) ∙ e)) (still_merged (overlay_filesystem nat_eq fresh world overlay) _
          (old_layers overlay are_layers) (made_merged world conditions overlay are_layers fresh distinct)))

pub overlays_still_merge : OverlaysStillMerge
overlays_still_merge fresh world overlay places conditions are_layers plain distinct unused passed number some_overlay
    e = merge_after world conditions overlay are_layers fresh distinct unused number some_overlay e
