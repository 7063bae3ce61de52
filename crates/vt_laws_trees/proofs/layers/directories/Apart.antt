-- Upper and work directories still lie apart when an overlay is mounted that the rules on layers let be mounted.
use Rattle.std.proofs.Common.{arith, ◌≡◌, ◌⊎◌, inl, inr, ⊎_elim, refl, ap, subst, ◌∙◌, true≢false, ℕ, nat_eq, eqb-true, Bool, true, false, ◌||◌, List, [], ◌∷◌, ◌++◌, flat_map, map, option_to_list}
use Rattle.vt_spec.proofs.Common.{Fresh, IsWorld, Layer, LayerLocations, Overlay, World, and_true_left, and_true_right, any_pair, common_steps, evens, filesystem_numbered, filter-append, flat_map-append, in_use, is_among, is_plain_layer, layers_of, lies_or_counts_under, list_all, list_any, live_layers, live_lowers, live_upper_and_work, of_overlay, or_false_left, or_false_right, overlap, overlaps_one_of, overlays, upper_and_work}
use Rattle.vt_spec.specs.declared.errors.Rule.TheVariants.{O2, O3, O5}
use Rattle.vt_spec.proofs.Tables.{layer_rules}
use Rattle.vt_laws_trees.specs.Layers.Layers.Mounted.{AreLayers}
use Rattle.vt_laws_trees.specs.Layers.Layers.NewOverlays.{ChangedStayApart, LowersStayApart, NoneRefuses}
use Rattle.vt_laws_trees.proofs.layers.directories.Later.{IsOld, any_found, later, new, overlaps_same, plain_is_old}
use Rattle.vt_laws_trees.proofs.layers.directories.Order.{Pairwise, among_filtered, from_append, from_flat_map, pairwise_append}
use Rattle.vt_laws_trees.proofs.layers.layers.ShownObjects.{Among, among_append_left, among_append_right, among_flat_map}

module _ {A : Type 0} where
  none_passes : (test : A → Bool) (list : List A) → list_any test list ≡ false → (a : A) → Among list a → test a ≡ false
  none_passes test [] e a among = absurd among
  none_passes test (first ∷ list) e a (inl same) = cc (or_false_left (test first) _ e)
  none_passes test (first ∷ list) e a (inr among) = none_passes test list (or_false_right (test first) _ e) a among

  none_pass : (test : A → Bool) (list : List A) → ((a : A) → Among list a → test a ≡ false) → list_any test list ≡ false
  none_pass test [] h = refl
  none_pass test (first ∷ list) h = cc (h first (inl refl), none_pass test list (λ a among. h a (inr among)))

  pub each_passes : (test : A → Bool) (list : List A) → list_all test list ≡ true → (a : A) → Among list a
      → test a ≡ true
  each_passes test [] e a among = absurd among
  each_passes test (first ∷ list) e a (inl same) = cc (and_true_left (test first) _ e)
  each_passes test (first ∷ list) e a (inr among) = each_passes test list (and_true_right (test first) _ e) a among

  pub no_pair : (test : A → A → Bool) (list : List A) → any_pair test list ≡ false
      → Pairwise (λ a b. test a b ≡ false) list
  no_pair test [] e = tt
  no_pair test (first ∷ list) e = (
    none_passes (test first) list (or_false_left _ _ e),
    no_pair test list (or_false_right (list_any (test first) list) _ e),
  )

  pub from_no_pair : (test other : A → A → Bool) (list : List A) → Pairwise (λ a b. test a b ≡ false) list
      → ((a b : A) → Among list a → Among list b → other a b ≡ test a b) → any_pair other list ≡ false
  from_no_pair test other [] p same = refl
  from_no_pair test other (first ∷ list) p same = ap (λ b. b || any_pair other list)
      (none_pass (other first) list (λ a among. same first a (inl refl) (inr among) ∙ p.0 a among))
      ∙ from_no_pair test other list p.1 (λ a b l r. same a b (inr l) (inr r))

module _ (world : World ℕ) where
  abbrev Apart : Layer ℕ → Layer ℕ → Type 0
  Apart a b = overlap nat_eq world a b ≡ false

  abbrev under : ℕ → ℕ → Layer ℕ → Bool
  under fs object layer = lies_or_counts_under nat_eq world fs object layer

  -- what lies under a layer is in its filesystem
  in_filesystem : (fs object : ℕ) (layer : Layer ℕ) → under fs object layer ≡ true → nat_eq fs layer.filesystem ≡ true
  in_filesystem fs object layer e =
      grind (arith, common_steps, true≢false, eqb-true, and_true_left, and_true_right, any_found)

  apart_from : (others : List (Layer ℕ)) (layer other : Layer ℕ) → overlaps_one_of nat_eq world others layer ≡ false
      → Among others other → Apart layer other
  apart_from others layer other e among = grind (
    arith,
    common_steps,
    none_pass,
    none_passes _ (filesystem_numbered nat_eq world layer.filesystem).files.numbers e,
    none_passes,
  )

  apart_of_all : (others : List (Layer ℕ)) (layer : Layer ℕ)
      → ((other : Layer ℕ) → Among others other → Apart layer other) → overlaps_one_of nat_eq world others layer ≡ false
  apart_of_all others layer h = grind (arith, common_steps, none_pass, none_passes)

  apart_both : (a b : Layer ℕ) → Apart a b → Apart b a
  apart_both a b e = grind (arith, common_steps, none_pass, eqb-true, in_filesystem, none_passes, true≢false)

-- The layers of an overlay, in their lists
among_three_left : (a b c : List (Layer ℕ)) (layer : Layer ℕ) → Among (a ++ b) layer → Among (a ++ b ++ c) layer
among_three_left a b c layer among = among_append_left (a ++ b) c layer among

among_three_right : (a b c : List (Layer ℕ)) (layer : Layer ℕ) → Among c layer → Among (a ++ b ++ c) layer
among_three_right a b c layer among = among_append_right (a ++ b) c layer among

changed_of : (overlay : Overlay ℕ) (layer : Layer ℕ) → Among (upper_and_work overlay) layer
    → Among (layers_of overlay) layer
changed_of overlay layer among =
    among_three_left (option_to_list overlay.upper) (option_to_list overlay.work) overlay.lowers layer among

lower_of : (overlay : Overlay ℕ) (layer : Layer ℕ) → Among overlay.lowers layer → Among (layers_of overlay) layer
lower_of overlay layer among =
    among_three_right (option_to_list overlay.upper) (option_to_list overlay.work) overlay.lowers layer among

-- what is of some layers of an overlay is of its layers
live_of : (world : World ℕ) (some_layers : Overlay ℕ → List (Layer ℕ))
    → ((overlay : Overlay ℕ) (layer : Layer ℕ) → Among (some_layers overlay) layer → Among (layers_of overlay) layer)
    → (layer : Layer ℕ) → Among (flat_map (of_overlay [] some_layers) (overlays world)) layer
    → Among (live_layers world) layer
live_of world some_layers of layer among = grind (arith, common_steps, from_flat_map, among_flat_map)

live_plain : (world : World ℕ) → IsWorld nat_eq world → (layer : Layer ℕ) → Among (live_layers world) layer
    → is_plain_layer nat_eq world layer ≡ true
live_plain world conditions layer among = grind (arith, common_steps, from_flat_map, each_passes, among_filtered)

module _ (world : World ℕ) (conditions : IsWorld nat_eq world) (overlay : Overlay ℕ)
    (are_layers : AreLayers world overlay) (plain : list_all (is_plain_layer nat_eq world) (layers_of overlay) ≡ true)
    (fresh : Fresh ℕ) (distinct : (j k : ℕ) → fresh j ≡ fresh k → j ≡ k)
    (unused : is_among nat_eq (evens fresh 0) (map (λ filesystem. filesystem.number) world.filesystems) ≡ false)
    (work_apart : list_any (overlaps_one_of nat_eq world (option_to_list overlay.work)) (option_to_list overlay.upper)
    ≡ false) (not_in_use : (list_any (overlaps_one_of nat_eq world (live_layers world)) (upper_and_work overlay)
    || list_any (overlaps_one_of nat_eq world (live_upper_and_work world)) overlay.lowers) ≡ false)
    (lowers_apart : list_any (overlaps_one_of nat_eq world overlay.lowers) (upper_and_work overlay) ≡ false) where
  abbrev after : World ℕ
  after = later world conditions overlay are_layers fresh distinct unused

  -- those of the overlay come after those that were there
  live_after : (some_layers : Overlay ℕ → List (Layer ℕ)) (list : List (Layer ℕ))
      → of_overlay [] some_layers (new world conditions overlay are_layers fresh distinct unused) ≡ list
      → flat_map (of_overlay [] some_layers) (overlays after) ≡ flat_map (of_overlay [] some_layers) (overlays world)
      ++ list
  live_after some_layers list e = grind (arith, common_steps, filter-append, new, flat_map-append)

  changed : List (Layer ℕ)
  changed = live_upper_and_work world ++ upper_and_work overlay

  lowers : List (Layer ℕ)
  lowers = live_lowers nat_eq world ++ overlay.lowers

  old_live : (layer : Layer ℕ) → Among (live_layers world) layer
      → IsOld world conditions overlay are_layers fresh distinct unused layer
  old_live layer among = plain_is_old world conditions overlay are_layers fresh distinct unused layer
      (live_plain world conditions layer among)

  old_own : (layer : Layer ℕ) → Among (layers_of overlay) layer
      → IsOld world conditions overlay are_layers fresh distinct unused layer
  old_own layer among = plain_is_old world conditions overlay are_layers fresh distinct unused layer
      (each_passes (is_plain_layer nat_eq world) (layers_of overlay) plain layer among)

  live_changed : (layer : Layer ℕ) → Among (live_upper_and_work world) layer → Among (live_layers world) layer
  live_changed layer among = live_of world upper_and_work changed_of layer among

  live_lower : (layer : Layer ℕ) → Among (live_lowers nat_eq world) layer → Among (live_layers world) layer
  live_lower layer among = live_of world (λ ov. ov.lowers) lower_of layer among

  old_changed : (layer : Layer ℕ) → Among changed layer
      → IsOld world conditions overlay are_layers fresh distinct unused layer
  unfolding changed
  old_changed layer among = ⊎_elim (λ l. old_live layer (live_changed layer l))
      (λ r. old_own layer (changed_of overlay layer r)) (from_append _ (upper_and_work overlay) layer among)

  old_lower : (layer : Layer ℕ) → Among lowers layer
      → IsOld world conditions overlay are_layers fresh distinct unused layer
  unfolding lowers
  old_lower layer among = ⊎_elim (λ l. old_live layer (live_lower layer l))
      (λ r. old_own layer (lower_of overlay layer r)) (from_append _ overlay.lowers layer among)

  -- a directory to which the new overlay's changes go is apart from each live layer
  new_apart : (a b : Layer ℕ) → Among (upper_and_work overlay) a → Among (live_layers world) b → Apart world a b
  new_apart a b in_new in_live = apart_from world
      (live_layers world) a b (none_passes _ (upper_and_work overlay) (or_false_left _ _ not_in_use) a in_new) in_live

  own_pairs : Pairwise (Apart world) (upper_and_work overlay)
  own_pairs = grind (arith, common_steps, apart_from, or_false_left)

  pub changed_after : any_pair (overlap nat_eq after) (live_upper_and_work after) ≡ false
  unfolding changed
  changed_after = ap (any_pair (overlap nat_eq after)) (live_after upper_and_work _ refl) ∙ from_no_pair _
      (overlap nat_eq after) changed (pairwise_append (Apart world) _ _ (no_pair _ _ conditions.overlays.changed_apart)
      own_pairs (λ a b in_live in_new. apart_both world b a (new_apart b a in_new (live_changed a in_live))))
      (λ a b in_a in_b. overlaps_same
      world conditions overlay are_layers fresh distinct unused (b ∷ []) a (old_changed a in_a) (λ other among. ⊎_elim
      (λ e. subst (IsOld world conditions overlay are_layers fresh distinct unused) e (old_changed b in_b))
      (λ no. absurd no) among))

  pub lowers_after : list_any (overlaps_one_of nat_eq after (live_lowers nat_eq after)) (live_upper_and_work after)
      ≡ false
  unfolding changed lowers
  lowers_after = ap (list_any (overlaps_one_of nat_eq after (live_lowers nat_eq after)))
      (live_after upper_and_work _ refl) ∙ ap (λ l. list_any (overlaps_one_of nat_eq after l) changed)
      (live_after _ overlay.lowers refl) ∙ none_pass _ changed (λ a in_changed. overlaps_same world conditions
      overlay are_layers fresh distinct unused lowers a (old_changed a in_changed) old_lower ∙ apart_of_all world
      lowers a (λ b in_lowers. both a b (from_append _ _ a in_changed) (from_append _ overlay.lowers b in_lowers)))
    where
      both : (a b : Layer ℕ) → Among (live_upper_and_work world) a ⊎ Among (upper_and_work overlay) a
          → Among (live_lowers nat_eq world) b ⊎ Among overlay.lowers b → Apart world a b
      both a b known known_2 =
          grind (arith, common_steps, apart_from, none_passes, apart_both, or_false_right, new_apart, live_lower)

-- The rules on layers
module _ (world : World ℕ) (places : LayerLocations ℕ) (overlay : Overlay ℕ)
    (passed : NoneRefuses (layer_rules nat_eq world places overlay)) where
  work_lies_apart : list_any (overlaps_one_of nat_eq world (option_to_list overlay.work))
      (option_to_list overlay.upper) ≡ false
  work_lies_apart = none_passes (λ row. row.0) (layer_rules nat_eq world places overlay) passed
      (list_any (overlaps_one_of nat_eq world (option_to_list overlay.work)) (option_to_list overlay.upper), O2)
      (inr (inr (inr (inr (inr (inr (inl refl)))))))

  is_not_in_use : in_use nat_eq world overlay ≡ false
  is_not_in_use =
      none_passes (λ row. row.0) (layer_rules nat_eq world places overlay) passed (in_use nat_eq world overlay, O3)
      (inr (inr (inr (inr (inr (inr (inr (inr (inl refl)))))))))

  lowers_lie_apart : list_any (overlaps_one_of nat_eq world overlay.lowers) (upper_and_work overlay) ≡ false
  lowers_lie_apart = none_passes (λ row. row.0) (layer_rules nat_eq world places overlay) passed
      (list_any (overlaps_one_of nat_eq world overlay.lowers) (upper_and_work overlay), O5)
      (inr (inr (inr (inr (inr (inr (inr (inr (inr (inr (inl refl)))))))))))

pub changed_stay_apart : ChangedStayApart
changed_stay_apart fresh world overlay places conditions are_layers plain distinct unused passed =
    changed_after world conditions overlay are_layers plain fresh distinct unused
    (work_lies_apart world places overlay passed) (is_not_in_use world places overlay passed)
    (lowers_lie_apart world places overlay passed)

pub lowers_stay_apart : LowersStayApart
lowers_stay_apart fresh world overlay places conditions are_layers plain distinct unused passed =
    lowers_after world conditions overlay are_layers plain fresh distinct unused
    (work_lies_apart world places overlay passed) (is_not_in_use world places overlay passed)
    (lowers_lie_apart world places overlay passed)
