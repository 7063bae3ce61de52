-- Which filesystems live, overlays among them.
use Rattle.std.proofs.Common.{◌≡◌, refl, sym, ap, ◌∙◌, ⊎_elim, inl, inr, ℕ, ◌+◌, nat_eq, nat_lt, eqb-true, Bool, true, false, true≢false, cond, not, ◌&&◌, ◌||◌, List, [], ◌∷◌, ◌++◌, filter, flat_map, Option, Some, None, is_some, arith}
use Rattle.vt_spec.proofs.Common.{Filesystem, Layer, Overlay, World, and_parts, common_steps, filesystem_lives, filesystem_numbered, has_layer_on, is_mounted, is_overlay, is_plain_layer, layers_of, list_all, list_any, list_any-append, not-true, of_overlay, or-false, or_cases, overlay_or}
use Rattle.vt_laws_mounts.specs.LettingGo.Counts.{times}
use Rattle.vt_laws_mounts.specs.LettingGo.OneByOne.{without_filesystem}
use Rattle.vt_laws_mounts.proofs.letting_go.Lists.{Among, all_from_among, any_counted, among_from_all, flat_map-filter, none_from_among, among_from_list_all}
use Rattle.vt_laws_mounts.proofs.letting_go.sweeps.InUse.{layers_on}
use Rattle.vt_laws_mounts.proofs.letting_go.sweeps.LookedUp.{filesystem_is_looked_up}
use Rattle.vt_laws_mounts.proofs.letting_go.sweeps.OfWorlds.{all_in_use, found_filesystem}
use Rattle.vt_laws_mounts.proofs.letting_go.sweeps.UpperUses.{times_append}
use Rattle.vt_laws_mounts.proofs.letting_go.sweeps.UsesCounted.{mounted_while_counted}
use Rattle.vt_laws_mounts.specs.Counts.OverlaysStay.{AllLayersAreMounted, FilesystemGoesAtZeroBesideOverlays, HasNoLayerIn, LayersLeftAreMounted, LivesWhileCounted, LivesWhileMounted, OverlaysAreMounted, OverlaysAreNoLayers, OverlaysUseFilesystems, layer_count, layers_among, mounted_layer_count}

module _ (world : World ℕ) (number : ℕ) where
  abbrev is_there : Layer ℕ → Bool
  is_there layer = nat_eq number layer.filesystem

  any_layered : (list : List (Filesystem ℕ))
      → list_any (λ merged. has_layer_on nat_eq number merged && is_mounted nat_eq world merged.number) list
      ≡ list_any is_there
      (flat_map (of_overlay [] layers_of) (filter (λ merged. is_mounted nat_eq world merged.number) list))
  any_layered [] = refl
  any_layered (first ∷ rest) = grind (arith, common_steps, layers_on, list_any-append, any_layered rest)

  counted_layers : list_any (λ merged. has_layer_on nat_eq number merged && is_mounted nat_eq world merged.number)
      world.filesystems ≡ nat_lt 0 (mounted_layer_count world number)
  counted_layers = any_layered _ ∙ any_counted _ _

pub lives_while_counted : LivesWhileCounted
lives_while_counted world f = λ i. mounted_while_counted world f.number i || counted_layers world f.number i

pub filesystem_goes_at_zero_beside_overlays : FilesystemGoesAtZeroBesideOverlays
filesystem_goes_at_zero_beside_overlays world number = filesystem_is_looked_up world number
    ∙ (λ i. cond (mounted_while_counted world number i || counted_layers world number i) world
    (without_filesystem world number))

pub lives_while_mounted : LivesWhileMounted
lives_while_mounted world f apart = ap (λ b. is_mounted nat_eq world f.number || b)
    (none_from_among (λ merged. has_layer_on nat_eq f.number merged && is_mounted nat_eq world merged.number)
    world.filesystems (λ merged m. ap (λ b. b && is_mounted nat_eq world merged.number)
    (among_from_all (λ g. has_layer_on nat_eq f.number g ≡ false) world.filesystems apart merged m)))
    ∙ or-false (is_mounted nat_eq world f.number) ∙ mounted_while_counted world f.number

-- In a world with all invariants

pub overlays_are_no_layers : OverlaysAreNoLayers
overlays_are_no_layers world is = all_from_among (λ f. is_overlay f ≡ true → HasNoLayerIn f.number world)
    world.filesystems (λ f m e. all_from_among _ _ (λ merged n. layers_on world _ merged ∙ by f m e _
    (among_from_list_all _ _ is.overlays.plain_layers merged n)))
  where
    by : (f : Filesystem ℕ) → Among f world.filesystems → is_overlay f ≡ true → (o : Option (Overlay ℕ))
        → overlay_or true (λ overlay. list_all (is_plain_layer nat_eq world) (layers_of overlay)) o ≡ true
        → list_any (λ layer. nat_eq f.number layer.filesystem) (overlay_or [] layers_of o) ≡ false
    by f m e None plain = refl
    by f m e (Some overlay) plain =
        none_from_among _ _ (λ layer n. apart layer (among_from_list_all _ _ plain layer n) _ refl)
      where
        apart : (layer : Layer ℕ) → is_plain_layer nat_eq world layer ≡ true → (b : Bool)
            → nat_eq f.number layer.filesystem ≡ b → b ≡ false
        apart layer fits false g = refl
        apart layer fits true g = absurd (true≢false
            (sym e ∙ ap is_overlay (sym (found_filesystem _ is.files.one_filesystem f m))
            ∙ ap (λ n. is_overlay (filesystem_numbered nat_eq world n)) (eqb-true f.number layer.filesystem g)
            ∙ not-true (is_overlay (filesystem_numbered nat_eq world layer.filesystem))
            (and_parts (not (is_overlay (filesystem_numbered nat_eq world layer.filesystem))) _ fits).0))

pub overlays_are_mounted : OverlaysAreMounted
overlays_are_mounted world is =
    all_from_among (λ f. is_overlay f ≡ true → is_mounted nat_eq world f.number ≡ true) world.filesystems (λ f m e.
    ⊎_elim (λ mounted. mounted) (λ layer. absurd (true≢false (sym layer
    ∙ none_from_among (λ merged. has_layer_on nat_eq f.number merged && is_mounted nat_eq world merged.number)
    world.filesystems (λ merged n. ap (λ b. b && is_mounted nat_eq world merged.number)
    (among_from_all (λ g. has_layer_on nat_eq f.number g ≡ false) world.filesystems
    (among_from_all (λ g. is_overlay g ≡ true → HasNoLayerIn g.number world) world.filesystems
    (overlays_are_no_layers world is) f m e) merged n))))) (or_cases (is_mounted nat_eq world f.number) _
    (among_from_list_all (filesystem_lives nat_eq world) world.filesystems (all_in_use world is).filesystems f m)))

pub all_layers_are_mounted : AllLayersAreMounted
all_layers_are_mounted world number is =
    ap (times (λ (layer : Layer ℕ). nat_eq number layer.filesystem)) (kept _ (λ f m. m))
  where
    kept : (list : List (Filesystem ℕ)) → ((f : Filesystem ℕ) → Among f list → Among f world.filesystems)
        → flat_map (of_overlay [] layers_of) (filter (λ merged. is_mounted nat_eq world merged.number) list)
        ≡ flat_map (of_overlay [] layers_of) list
    kept [] within = refl
    kept (first ∷ rest) within = by _ refl (kept rest (λ f m. within f (inr m)))
      where
        no_layers : (o : Option (Overlay ℕ)) → is_some o ≡ false → overlay_or [] layers_of o ≡ []
        no_layers None e = refl
        no_layers (Some overlay) e = absurd (true≢false e)

        plain : (b : Bool) → is_overlay first ≡ b → is_mounted nat_eq world first.number ≡ false
            → is_overlay first ≡ false
        plain false e unmounted = e
        plain true e unmounted = absurd (true≢false (sym (among_from_all (λ f. is_overlay f ≡ true
            → is_mounted nat_eq world f.number ≡ true) world.filesystems (overlays_are_mounted world is) first
            (within first (inl refl)) e) ∙ unmounted))

        by : (b : Bool) → is_mounted nat_eq world first.number ≡ b
            → flat_map (of_overlay [] layers_of) (filter (λ merged. is_mounted nat_eq world merged.number) rest)
            ≡ flat_map (of_overlay [] layers_of) rest → flat_map (of_overlay [] layers_of)
            (cond b (first ∷ filter (λ merged. is_mounted nat_eq world merged.number) rest)
            (filter (λ merged. is_mounted nat_eq world merged.number) rest))
            ≡ of_overlay [] layers_of first ++ flat_map (of_overlay [] layers_of) rest
        by true e later = ap (λ l. of_overlay [] layers_of first ++ l) later
        by false e later = cc (no_layers first.overlay (plain (is_overlay first) refl e))

-- Layers are of overlays.

no_layers_of_plain : (g : Filesystem ℕ) → is_overlay g ≡ false → of_overlay [] layers_of g ≡ []
no_layers_of_plain g e = grind (arith, common_steps)

of_overlays : (number : ℕ) (list : List (Filesystem ℕ))
    → layers_among number (filter is_overlay list) ≡ layers_among number list
of_overlays number list = ap (times (λ (layer : Layer ℕ). nat_eq number layer.filesystem))
    (flat_map-filter _ _ list no_layers_of_plain)

among_both : (number : ℕ) (one other : List (Filesystem ℕ))
    → layers_among number (one ++ other) ≡ layers_among number one + layers_among number other
among_both number [] other = omega arith
among_both number (first ∷ rest) other = grind (arith, common_steps, times_append, among_both number rest other)

pub overlays_use_filesystems : OverlaysUseFilesystems
overlays_use_filesystems world after gained lost front back number were are =
    let before : layer_count world number ≡ layers_among number (front ++ (lost ++ back)) =
    cc (of_overlays number world.filesystems, were) in
    let then : layer_count after number ≡ layers_among number (front ++ (gained ++ back)) =
    cc (of_overlays number after.filesystems, are) in
    let a = among_both number front (lost ++ back) in let b = among_both number lost back in
    let c = among_both number front (gained ++ back) in let d = among_both number gained back in
    omega arith

pub layers_left_are_mounted : LayersLeftAreMounted
layers_left_are_mounted world after number are = sym (of_overlays number after.filesystems)
    ∙ ap (layers_among number) are ∙ ap (layers_among number) (turned world.filesystems)
    ∙ of_overlays number (filter mounted world.filesystems)
  where
    mounted : Filesystem ℕ → Bool
    mounted merged = is_mounted nat_eq world merged.number

    turned : (list : List (Filesystem ℕ))
        → filter mounted (filter is_overlay list) ≡ filter is_overlay (filter mounted list)
    turned [] = refl
    turned (first ∷ rest) = grind (arith, common_steps, turned rest)
