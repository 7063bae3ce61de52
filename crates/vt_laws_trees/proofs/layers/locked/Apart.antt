-- Objects of an upper layer lie under no other layer of a live overlay.
use Rattle.std.proofs.Common.{arith, ◌≡◌, ◌≢◌, refl, sym, ap, subst, ◌∙◌, true≢false, ℕ, nat_eq, eq-eqb, eqb-true, Bool, true, false, not, ◌&&◌, List, [], ◌∷◌, ◌++◌, Some, None, is_some, inl, inr, ◌⊎◌, ⊎_elim, find, flat_map, option_to_list}
use Rattle.vt_spec.proofs.Common.{Among, FileTree, Filesystem, IsWorld, Layer, Overlay, World, among-append_right, among-filter, among-flat_map, and_from, and_true_left, and_true_right, any_among, any_from_among, any_pair, common_steps, filesystem_numbered, holds_of, is_directory_node, is_object_of, is_overlay, is_plain_layer, is_there, is_under, layers_of, lies_in_layer, lies_or_counts_under, live_lowers, none_among, none_is_some, of_overlay, or_false_left, or_false_right, or_left, or_right, overlap, overlay_or, overlays, upper_and_work}
use Rattle.vt_laws_trees.proofs.layers.layers.LowersWorld.{number_of_filesystem}
use Rattle.vt_laws_trees.specs.Layers.Layers.Upper.{IsUpperObject}
use Rattle.vt_laws_trees.proofs.layers.locked.Layers.{are_trees, inode_listed, plain_layer}
use Rattle.vt_laws_trees.proofs.layers.layers.UpperWorld.{overlay_found, overlay_merges}
use Rattle.vt_laws_trees.specs.Trees.Settling.{inode_in}

pub never_both : (a b : Bool) → (a && b) ≡ false → a ≡ true → b ≡ true → ⊥
never_both a b e f g = true≢false (sym (and_from a b f g) ∙ e)

-- a directory is under itself
pub under_itself : (files : FileTree ℕ) (directory : ℕ) → is_directory_node (files.tree.node directory) ≡ true
    → is_under nat_eq files directory directory ≡ true
under_itself files directory is = grind (arith, common_steps, eq-eqb)

pub found_among : (test : Filesystem ℕ → Bool) (list : List (Filesystem ℕ)) (a : Filesystem ℕ)
    → find test list ≡ Some a → Among a list
found_among test [] a e = none_is_some a e
found_among test (first ∷ list) a e = grind (arith, common_steps, found_among test list a)

-- of pairs of a list none of which passes
pair_append : {A : Type 0} (test : A → A → Bool) (xs bs : List A) → any_pair test (xs ++ bs) ≡ false
    → (any_pair test bs ≡ false) × ((a b : A) → Among a xs → Among b bs → test a b ≡ false)
pair_append test [] bs e = (e, λ a b m n. absurd m)
pair_append test (x ∷ xs) bs e =
    grind (arith, common_steps, or_false_right, none_among, or_false_left, among-append_right, pair_append test xs bs)

apart_pairs : {A B : Type 0} (test : B → B → Bool) (f : A → List B) (xs : List A)
    → any_pair test (flat_map f xs) ≡ false
    → (x y : A) → x ≢ y → Among x xs → Among y xs → (a b : B) → Among a (f x) → Among b (f y)
    → (test a b ≡ false) ⊎ (test b a ≡ false)
apart_pairs test f [] e x y differ m n a b p q = absurd m
apart_pairs test f (z ∷ zs) e x y differ m n a b p q =
    let parts = pair_append test (f z) (flat_map f zs) e in
    ⊎_elim (λ (x_here : x ≡ z). ⊎_elim (λ (y_here : y ≡ z). absurd (differ (x_here ∙ sym y_here)))
    (λ y_later. inl (parts.1 a b (subst (λ w. Among a (f w)) x_here p) (among-flat_map f zs y b y_later q))) n)
    (λ x_later.
    ⊎_elim
    (λ (y_here : y ≡ z). inr (parts.1 b a (subst (λ w. Among b (f w)) y_here q) (among-flat_map f zs x a x_later p)))
    (λ y_later. apart_pairs test f zs parts.0 x y differ x_later y_later a b p q) n) m

-- what lies or counts under a layer is in its filesystem
pub lies_there : (world : World ℕ) (object filesystem : ℕ) (layer : Layer ℕ)
    → lies_or_counts_under nat_eq world filesystem object layer ≡ true → filesystem ≡ layer.filesystem
lies_there world object filesystem layer e =
    grind (arith, common_steps, any_among, eqb-true, and_true_left, true≢false, and_true_right)

module _ (world : World ℕ) where
  -- an overlay is among the overlays
  pub merged_among : (number : ℕ) (overlay : Overlay ℕ)
      → (filesystem_numbered nat_eq world number).overlay ≡ Some overlay
      → Among (filesystem_numbered nat_eq world number) (overlays world)
  merged_among number overlay is = among-filter is_overlay world.filesystems (filesystem_numbered nat_eq world number)
      (found_among (λ f. nat_eq number f.number) world.filesystems (filesystem_numbered nat_eq world number)
      (overlay_found world number overlay is)) (ap is_some is)

  -- a layer of a live overlay is among those of all
  pub layer_among : (layers : Overlay ℕ → List (Layer ℕ)) (number : ℕ) (overlay : Overlay ℕ)
      → (filesystem_numbered nat_eq world number).overlay ≡ Some overlay → (layer : Layer ℕ)
      → Among layer (layers overlay) → Among layer (flat_map (of_overlay [] layers) (overlays world))
  layer_among layers number overlay is layer m = among-flat_map (of_overlay [] layers) (overlays world) _
      layer (merged_among number overlay is) (subst (λ o. Among layer (overlay_or [] layers o)) (sym is) m)

module _ (world : World ℕ) (conditions : IsWorld nat_eq world) where
  -- layers are in plain trees
  pub layer_plain : (number : ℕ) (overlay : Overlay ℕ)
      → (filesystem_numbered nat_eq world number).overlay ≡ Some overlay
      → (layer : Layer ℕ) → Among layer (layers_of overlay) → is_plain_layer nat_eq world layer ≡ true
  layer_plain = plain_layer world conditions.overlays

  pub no_overlay_in : (layer : Layer ℕ) → is_plain_layer nat_eq world layer ≡ true
      → (filesystem_numbered nat_eq world layer.filesystem).overlay ≡ None
  no_overlay_in layer plain = grind (arith, common_steps, and_true_left, true≢false)

  module _ (number : ℕ) (overlay : Overlay ℕ) (is : (filesystem_numbered nat_eq world number).overlay ≡ Some overlay)
      (upper : Layer ℕ) (has : overlay.upper ≡ Some upper) where
    pub upper_is_layer : Among upper (upper_and_work overlay)
    upper_is_layer = subst (λ o. Among upper (option_to_list o ++ option_to_list overlay.work)) (sym has) (inl refl)

    pub upper_in_layers : Among upper (layers_of overlay)
    upper_in_layers = subst (λ o. Among upper (option_to_list o ++ option_to_list overlay.work ++ overlay.lowers))
        (sym has) (inl refl)

    module _ (object : ℕ) (is_object : IsUpperObject overlay object) where
      object_there : is_some (inode_in world upper.filesystem object) ≡ true
      object_there = ap (holds_of (λ layer. is_there nat_eq world layer.filesystem object)) (sym has)
          ∙ (overlay_merges world conditions number overlay is).upper_there is_object.0 object is_object.1

      shown_there : is_some ((filesystem_numbered nat_eq world number).files.tree.node is_object.0) ≡ true
      shown_there = grind (arith, common_steps, overlay_merges world conditions number overlay is, true≢false)

      -- an object of the upper layer counts under its directory
      is_of : is_object_of nat_eq upper.filesystem object (filesystem_numbered nat_eq world number) overlay ≡ true
      is_of = and_from _ _ (cc (has, eq-eqb upper.filesystem upper.filesystem refl))
          (any_from_among _ _ is_object.0 (inode_listed world
          (are_trees world conditions.files) number _ shown_there) (cc (is_object.1, eq-eqb object object refl)))

      directory_lies : lies_in_layer nat_eq world upper.filesystem upper.directory upper ≡ true
      directory_lies = and_from _ _ (eq-eqb upper.filesystem upper.filesystem refl)
          (under_itself (filesystem_numbered nat_eq world upper.filesystem).files upper.directory
          (and_true_right (not (is_overlay (filesystem_numbered nat_eq world upper.filesystem))) _
          (layer_plain number overlay is upper upper_in_layers)))

      pub object_counts : lies_or_counts_under nat_eq world upper.filesystem object upper ≡ true
      object_counts =
          grind (arith, common_steps, or_right, any_from_among, merged_among, and_from, directory_lies, is_of)

      pub object_listed : Among object (filesystem_numbered nat_eq world upper.filesystem).files.numbers
      object_listed = inode_listed world (are_trees world conditions.files) upper.filesystem object object_there

      -- and under no lower layer of a live overlay
      pub no_lower : (lower : Layer ℕ) → Among lower (live_lowers nat_eq world)
          → lies_or_counts_under nat_eq world upper.filesystem object lower ≡ true → ⊥
      no_lower lower m lies = never_both _ _ (none_among _ _ (none_among _ _ conditions.overlays.lowers_apart
          upper (layer_among world upper_and_work number overlay is upper upper_is_layer)) object object_listed)
          object_counts (any_from_among _ (live_lowers nat_eq world) lower m lies)

      -- nor under the upper or work directory of another one
      pub no_other : (other : ℕ) → other ≢ number → (overlay2 : Overlay ℕ)
          → (filesystem_numbered nat_eq world other).overlay ≡ Some overlay2
          → (layer : Layer ℕ) → Among layer (upper_and_work overlay2)
          → lies_or_counts_under nat_eq world upper.filesystem object layer ≡ true → ⊥
      no_other other differ overlay2 is2 layer m lies =
          ⊎_elim (λ (e : overlap nat_eq world upper layer ≡ false). apart upper layer refl e object_counts lies)
          (λ (e : overlap nat_eq world layer upper ≡ false). apart layer upper (lies_there world object _ layer lies)
          e lies object_counts) (apart_pairs _ _ (overlays world) conditions.overlays.changed_apart _ _ (λ e. differ
          (sym (number_of_filesystem world other) ∙ ap (λ f. f.number) (sym e) ∙ number_of_filesystem world number))
          (merged_among world number overlay is) (merged_among world other overlay2 is2)
          upper layer (subst (λ o. Among upper (overlay_or [] upper_and_work o)) (sym is) upper_is_layer)
          (subst (λ o. Among layer (overlay_or [] upper_and_work o)) (sym is2) m))
        where
          apart : (a b : Layer ℕ) → upper.filesystem ≡ a.filesystem → overlap nat_eq world a b ≡ false
              → lies_or_counts_under nat_eq world upper.filesystem object a ≡ true
              → lies_or_counts_under nat_eq world upper.filesystem object b ≡ true → ⊥
          apart a b same e f g = grind (arith, common_steps, never_both, none_among, object_listed, or_left)
