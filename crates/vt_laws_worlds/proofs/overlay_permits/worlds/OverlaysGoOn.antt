-- Overlays that go on: each was there before, with the same layers, whose paths lead where they led. Then all
-- invariants of overlays
-- hold, where they held before.
use Rattle.std.proofs.Common.{arith, ◌≡◌, refl, sym, ap, subst, ◌∙◌, eqb-true, eq-eqb, ⊎_elim, inl, inr, ℕ, nat_eq, Bool, true, false, not, ◌&&◌, List, [], ◌∷◌, ◌++◌, Option, Some, None, is_some, flat_map, option_to_list}
use Rattle.vt_spec.proofs.Common.{Among, Filesystem, IsMerged, IsReached, Layer, Node, Overlay, OverlayInvariants, Upper, World, among-append_left, among-append_right, among-from_filter, among-from_flat_map, and_from, and_true_left, and_true_right, any_among, any_from_among, any_pair, common_steps, counts_as_in_layer, filesystem_numbered, has_fit_layers, is_directory_node, is_overlay, is_plain_layer, is_real_upper, is_under, layers_of, lies_in_layer, lies_or_counts_under, list_all, list_all_from_among, list_any, live_lowers, live_upper_and_work, none_among, none_from_among, none_is_some, of_overlay, or_cases, or_left, overlap, overlaps_one_of, overlay_or, overlays, upper_and_work}
use Rattle.vt_laws_mounts.proofs.letting_go.sweeps.OfWorlds.{found_filesystem}
use Rattle.vt_laws_trees.specs.Layers.Layers.Locked.{LeadsAsBefore}
use Rattle.vt_laws_trees.proofs.layers.locked.Apart.{layer_among, merged_among}
use Rattle.vt_laws_trees.proofs.layers.views.Names.{alike_kept}
use Rattle.vt_laws_trees.proofs.layers.locked.Layers.{AreTrees, fit_overlay, inode_listed, numbers_listed, plain_layer, tree_of_directory}
use Rattle.vt_laws_trees.proofs.overlays.whole.ApartThere.{Counts, counts_again, counts_parts, lying_there, real_of_object}
use Rattle.vt_laws_trees.proofs.overlays.whole.ApartPairs.{no_pair_later}
use Rattle.vt_laws_trees.proofs.overlays.whole.ApartPaths.{led_under, under_led}
use Rattle.vt_laws_trees.proofs.overlays.steps.WholeGrown.{directory_alike}
use Rattle.vt_laws_trees.specs.Trees.Settling.{inode_in}

module _ (world : World ℕ) (files : AreTrees world) where
  -- each live layer is one of an overlay
  pub record IsLayerOf (layers : Overlay ℕ → List (Layer ℕ)) (layer : Layer ℕ) : Type 0 where
    pub number : ℕ
    pub overlay : Overlay ℕ
    pub is : (filesystem_numbered nat_eq world number).overlay ≡ Some overlay
    pub among : Among layer (layers overlay)

  pub layer_of : (layers : Overlay ℕ → List (Layer ℕ)) (layer : Layer ℕ)
      → Among layer (flat_map (of_overlay [] layers) (overlays world)) → IsLayerOf layers layer
  layer_of layers layer m =
      let found = among-from_flat_map _ _ layer m in
      by _ (found_filesystem _ files.one_filesystem _
      (among-from_filter is_overlay world.filesystems found.0 found.1).0) _ refl found.2
    where
      by : (f : Filesystem ℕ) → filesystem_numbered nat_eq world f.number ≡ f → (o : Option (Overlay ℕ)) → f.overlay ≡ o
          → Among layer (overlay_or [] layers o) → IsLayerOf layers layer
      by f itself o e a = grind (arith, common_steps)

-- an overlay of a later world is one that was there: its layers are the same, and so are paths in them
pub record GoesOn (world later : World ℕ) (number : ℕ) (after : Overlay ℕ) : Type 0 where
  pub before : Overlay ℕ
  pub is : (filesystem_numbered nat_eq world number).overlay ≡ Some before
  pub upper : after.upper ≡ before.upper
  pub work : after.work ≡ before.work
  pub lowers : after.lowers ≡ before.lowers
  pub merged : IsMerged nat_eq later (filesystem_numbered nat_eq later number) after
  pub objects : (inode object : ℕ) → after.real inode ≡ Some (Upper object) → before.real inode ≡ Some (Upper object)
  pub leads : (layer : Layer ℕ) → Among layer (layers_of before) → LeadsAsBefore world later layer
  pub reached : (top : Layer ℕ) → before.upper ≡ Some top
      → IsReached (filesystem_numbered nat_eq later top.filesystem).files.tree top.directory

module _ (world later : World ℕ) (files : AreTrees world) (are : OverlayInvariants nat_eq world)
    (files_later : AreTrees later)
    (goes : (number : ℕ) (after : Overlay ℕ) → (filesystem_numbered nat_eq later number).overlay ≡ Some after
    → GoesOn world later number after)
    (fewer : (test : Layer ℕ → Layer ℕ → Bool) → any_pair test (live_upper_and_work world) ≡ false
    → any_pair test (live_upper_and_work later) ≡ false) where
  same_layers : (number : ℕ) (after : Overlay ℕ) (on : GoesOn world later number after)
      → layers_of after ≡ layers_of on.before
  same_layers number after on = λ i. option_to_list (on.upper i) ++ option_to_list (on.work i) ++ on.lowers i

  same_changed : (number : ℕ) (after : Overlay ℕ) (on : GoesOn world later number after)
      → upper_and_work after ≡ upper_and_work on.before
  same_changed number after on = λ i. option_to_list (on.upper i) ++ option_to_list (on.work i)

  -- A layer of an overlay that goes on
  record IsLive (layer : Layer ℕ) : Type 0 where
    plain : is_plain_layer nat_eq world layer ≡ true
    leads : LeadsAsBefore world later layer

  live_in : (number : ℕ) (after : Overlay ℕ) → (filesystem_numbered nat_eq later number).overlay ≡ Some after
      → (layer : Layer ℕ) → Among layer (layers_of after) → IsLive layer
  live_in number after e layer m =
      let on = goes number after e in
      let a = subst (Among layer) (same_layers number after on) m in
      record { plain = plain_layer world are number _ on.is layer a; leads = on.leads layer a }

  was_directory : (layer : Layer ℕ) → IsLive layer
      → is_directory_node (inode_in world layer.filesystem layer.directory) ≡ true
  was_directory layer live = and_true_right _ _ live.plain

  is_directory : (layer : Layer ℕ) → IsLive layer
      → is_directory_node (inode_in later layer.filesystem layer.directory) ≡ true
  is_directory layer live = directory_alike _ _ (alike_kept _ _ (live.leads []).1) ∙ was_directory layer live

  still_plain : (layer : Layer ℕ) → IsLive layer → is_plain_layer nat_eq later layer ≡ true
  still_plain layer live = and_from _ _ (by _ refl) (is_directory layer live)
    where
      by : (o : Option (Overlay ℕ)) → (filesystem_numbered nat_eq later layer.filesystem).overlay ≡ o
          → not (is_overlay (filesystem_numbered nat_eq later layer.filesystem)) ≡ true
      by None e = cc
      by (Some after) e = cc (
        and_true_left (not (is_overlay (filesystem_numbered nat_eq world layer.filesystem))) _ live.plain,
        (goes layer.filesystem after e).is,
      )

  lay : (layer : Layer ℕ) → IsLive layer → (n object : ℕ) → lies_in_layer nat_eq later n object layer ≡ true
      → lies_in_layer nat_eq world n object layer ≡ true
  lay layer live n object e =
      let same = eqb-true n layer.filesystem (and_true_left (nat_eq n layer.filesystem) _ e) in
      let way = under_led (filesystem_numbered nat_eq later layer.filesystem).files
      (tree_of_directory later files_later layer.filesystem layer.directory
      (is_directory layer live)) layer.directory object
      (subst (λ k. is_under nat_eq (filesystem_numbered nat_eq later k).files layer.directory object ≡ true) same
      (and_true_right (nat_eq n layer.filesystem) _ e)) in
      and_from _ _ (eq-eqb n layer.filesystem same)
      (subst (λ k. is_under nat_eq (filesystem_numbered nat_eq world k).files layer.directory object ≡ true) (sym same)
      (led_under (filesystem_numbered nat_eq world layer.filesystem).files
      (tree_of_directory world files layer.filesystem layer.directory (was_directory layer live)) layer.directory
      (numbers_listed world files layer.filesystem) (was_directory layer live) object
      (way.0, sym (live.leads way.0).0 ∙ way.1)))

  -- What counts under it counted under it
  abbrev Lies : World ℕ → Layer ℕ → ℕ → ℕ → Type 0
  Lies w layer n object = lies_or_counts_under nat_eq w n object layer ≡ true

  counted : (layer : Layer ℕ) → IsLive layer → (n object : ℕ) (g : Filesystem ℕ) → Among g (overlays later)
      → Counts later layer n object g → Lies world layer n object
  counted layer live n object g m parts =
      let itself = found_filesystem later.filesystems files_later.one_filesystem g
      (among-from_filter is_overlay later.filesystems g m).0 in
      let on = goes g.number parts.overlay_of (ap (λ (x : Filesystem ℕ). x.overlay) itself ∙ parts.is_of) in
      let top = parts.upper_of_it in
      let has = sym on.upper ∙ parts.has_it in
      let of = real_of_object g parts.overlay_of top parts.has_it n object parts.object_of in
      let real = on.objects of.1.0 object of.1.1 in
      counts_again world layer n object (filesystem_numbered nat_eq world g.number)
      (merged_among world g.number on.before on.is) (record {
        overlay_of = on.before;
        is_of = on.is;
        upper_of_it = top;
        has_it = has;
        lies = lay layer live top.filesystem top.directory parts.lies;
        object_of = and_from _ _ (cc (has, eq-eqb n top.filesystem of.0)) (any_from_among
            (is_real_upper nat_eq on.before object) (filesystem_numbered nat_eq world g.number).files.numbers of.1.0
            (inode_listed world files g.number of.1.0 (there g.number on.before on.is of.1.0 real))
            (cc (real, eq-eqb object object refl)));
      })
    where
      there : (number : ℕ) (before : Overlay ℕ) → (filesystem_numbered nat_eq world number).overlay ≡ Some before
          → (inode : ℕ) → before.real inode ≡ Some (Upper object) → is_some (inode_in world number inode) ≡ true
      there number before is inode real = by (inode_in world number inode) refl
        where
          by : (o : Option (Node ℕ)) → inode_in world number inode ≡ o → is_some (inode_in world number inode) ≡ true
          by None g = none_is_some (Upper object)
              (sym ((are.overlays_merge number before is).real_there inode g) ∙ real)
          by (Some node) g = ap is_some g

  lay_or_counted : (layer : Layer ℕ) → IsLive layer → (n object : ℕ) → Lies later layer n object
      → Lies world layer n object
  lay_or_counted layer live n object e = ⊎_elim (λ lies. or_left _ _ (lay layer live n object lies)) (λ h.
      let found = any_among (counts_as_in_layer nat_eq later n object layer) (overlays later) h in
      counted layer live n object found.0 found.1 (counts_parts later layer n object found.0 found.2))
      (or_cases (lies_in_layer nat_eq later n object layer) _ e)

  -- Layers that overlap overlapped
  overlapped : (a : Layer ℕ) (others : List (Layer ℕ)) → IsLive a → ((b : Layer ℕ) → Among b others → IsLive b)
      → overlaps_one_of nat_eq later others a ≡ true → overlaps_one_of nat_eq world others a ≡ true
  overlapped a others live_a live_others e =
      let found = any_among (λ (o : ℕ). lies_or_counts_under nat_eq later a.filesystem o a
      && list_any (lies_or_counts_under nat_eq later a.filesystem o) others)
      (filesystem_numbered nat_eq later a.filesystem).files.numbers e in
      let in_a = lay_or_counted a live_a _ _ (and_true_left _ _ found.2) in
      let other = any_among (lies_or_counts_under nat_eq later a.filesystem found.0) others
      (and_true_right _ _ found.2) in
      any_from_among _ _ found.0 (inode_listed world files _ _ (lying_there world files are a live_a.plain _ _ in_a))
      (and_from _ _ in_a (any_from_among _ others other.0 other.1 (lay_or_counted _ (live_others other.0 other.1) _ _
      other.2)))

  live_changed : (layer : Layer ℕ) → Among layer (live_upper_and_work later) → IsLive layer
  live_changed layer m =
      let of = layer_of later files_later upper_and_work layer m in
      live_in of.number of.overlay of.is layer
      (among-append_left (upper_and_work of.overlay) of.overlay.lowers layer of.among)

  live_lower : (layer : Layer ℕ) → Among layer (live_lowers nat_eq later) → IsLive layer
  live_lower layer m =
      let of = layer_of later files_later (λ o. o.lowers) layer m in
      live_in of.number of.overlay of.is layer
      (among-append_right (upper_and_work of.overlay) of.overlay.lowers layer of.among)

  changed_was : (layer : Layer ℕ) → Among layer (live_upper_and_work later) → Among layer (live_upper_and_work world)
  changed_was layer m =
      let of = layer_of later files_later upper_and_work layer m in
      let on = goes of.number of.overlay of.is in
      layer_among world upper_and_work of.number on.before on.is layer
      (subst (Among layer) (same_changed of.number of.overlay on) of.among)

  lower_was : (layer : Layer ℕ) → Among layer (live_lowers nat_eq later) → Among layer (live_lowers nat_eq world)
  lower_was layer m =
      let of = layer_of later files_later (λ o. o.lowers) layer m in
      let on = goes of.number of.overlay of.is in
      layer_among world (λ o. o.lowers) of.number on.before on.is layer (subst (Among layer) on.lowers of.among)

  one : (b : Layer ℕ) → IsLive b → (c : Layer ℕ) → Among c (b ∷ []) → IsLive c
  one b live c (inl same) = subst IsLive (sym same) live
  one b live c (inr none) = absurd none

  -- with more of which one may overlap
  wider : (a : Layer ℕ) (some all : List (Layer ℕ)) → ((b : Layer ℕ) → Among b some → Among b all)
      → overlaps_one_of nat_eq world some a ≡ true → overlaps_one_of nat_eq world all a ≡ true
  wider a some all more e =
      let found = any_among (λ (o : ℕ). lies_or_counts_under nat_eq world a.filesystem o a
      && list_any (lies_or_counts_under nat_eq world a.filesystem o) some)
      (filesystem_numbered nat_eq world a.filesystem).files.numbers e in
      let other = any_among (lies_or_counts_under nat_eq world a.filesystem found.0) some
      (and_true_right _ _ found.2) in
      any_from_among _ _ found.0 found.1 (and_from _ _ (and_true_left _ _ found.2)
      (any_from_among _ all other.0 (more other.0 other.1) other.2))

  apart_changed : any_pair (overlap nat_eq later) (live_upper_and_work later) ≡ false
  apart_changed = no_pair_later (overlap nat_eq world) (overlap nat_eq later) (live_upper_and_work later)
      (λ a b m n e. overlapped a (b ∷ []) (live_changed a m) (one b (live_changed b n)) e)
      (fewer (overlap nat_eq world) are.changed_apart)

  apart_lowers : list_any (overlaps_one_of nat_eq later (live_lowers nat_eq later)) (live_upper_and_work later) ≡ false
  apart_lowers = none_from_among (overlaps_one_of nat_eq later (live_lowers nat_eq later)) (live_upper_and_work later)
      (λ a m. by a m _ refl)
    where
      by : (a : Layer ℕ) → Among a (live_upper_and_work later) → (b : Bool)
          → overlaps_one_of nat_eq later (live_lowers nat_eq later) a ≡ b
          → overlaps_one_of nat_eq later (live_lowers nat_eq later) a ≡ false
      by a m false e = e
      by a m true e = cc (
        wider a (live_lowers nat_eq later) (live_lowers nat_eq world) lower_was
            (overlapped a (live_lowers nat_eq later) (live_changed a m) live_lower e),
        none_among (overlaps_one_of nat_eq world (live_lowers nat_eq world)) (live_upper_and_work world)
            are.lowers_apart a (changed_was a m),
      )

  -- Each overlay
  each : (test : Overlay ℕ → Bool)
      → ((number : ℕ) (after : Overlay ℕ) → (filesystem_numbered nat_eq later number).overlay ≡ Some after
      → test after ≡ true) → list_all (of_overlay true test) later.filesystems ≡ true
  each test holds = list_all_from_among (of_overlay true test) later.filesystems
      (λ f m. by f (found_filesystem _ files_later.one_filesystem f m) _ refl)
    where
      by : (f : Filesystem ℕ) → filesystem_numbered nat_eq later f.number ≡ f → (o : Option (Overlay ℕ)) → f.overlay ≡ o
          → overlay_or true test o ≡ true
      by f itself None e = refl
      by f itself (Some after) e = holds f.number after (cc)

  still_fit : (number : ℕ) (after : Overlay ℕ) → GoesOn world later number after → has_fit_layers after ≡ true
  still_fit number after on = grind (arith, common_steps, fit_overlay)

  pub overlays_go_on : OverlayInvariants nat_eq later
  overlays_go_on = record {
    overlays_merge = λ number after e. (goes number after e).merged;
    fit_layers = each has_fit_layers (λ number after e. still_fit number after (goes number after e));
    plain_layers = each (λ o. list_all (is_plain_layer nat_eq later) (layers_of o)) (λ number after e.
        list_all_from_among (is_plain_layer nat_eq later) (layers_of after)
        (λ layer m. still_plain layer (live_in number after e layer m)));
    changed_apart = apart_changed;
    lowers_apart = apart_lowers;
    uppers_reached = λ number after top e f. let on = goes number after e in on.reached top (sym on.upper ∙ f);
  }
