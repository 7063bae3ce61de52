-- Upper objects are pinned for the sweep by what has no name after it.
use Rattle.std.proofs.Common.{◌≡◌, refl, sym, ap, subst, ◌∙◌, ⊎_elim, true≢false, ℕ, nat_eq, eqb-true, eq-eqb, Bool, true, false, cond, not, ◌||◌, List, [], ◌∷◌, ◌++◌, Option, Some, None, is_some, map, filter, filter_map, flat_map, option_to_list}
use Rattle.std.specs.Prelude.{All}
use Rattle.vt_spec.proofs.Common.{Among, Filesystem, IsWorld, Layer, Overlay, OverlayInvariants, World, all_from_among, among-flat_map, among-from_filter, among-from_flat_map, among-from_map, among-map, among_from_all, and_true_left, any_among, filesystem_numbered, holds_of, is_among, is_among_left, is_among_numbers, is_among_right, is_overlay, layers_of, list_all, list_any, list_any-append, located_in, named_in, number-only_used, objects_of_overlay, of_overlay, only_used, only_used_by, or_cases, or_left, or_right, overlay_or, settled, some_from_is_some, targets_in, upper_object, used_in}
use Rattle.vt_spec.proofs.Lists.{among_numbers}
use Rattle.vt_spec.specs.Machine.Settled.{filesystem_lives, without_dead_in, without_dead_mounts}
use Rattle.vt_laws_mounts.specs.LettingGo.InUse.{has_upper_in}
use Rattle.vt_laws_mounts.specs.LettingGo.TreesOverlays.{in_use_of}
use Rattle.vt_laws_mounts.proofs.letting_go.sweeps.OfWorlds.{found_filesystem, uppers_of_worlds_are_plain}
use Rattle.vt_laws_trees.proofs.layers.layers.LowersWorld.{number_of_filesystem}
use Rattle.vt_laws_trees.proofs.layers.locked.Apart.{merged_among}
use Rattle.vt_laws_worlds.specs.Worlds.Kept.{IsUnderWay}
use Rattle.vt_laws_worlds.proofs.overlay_permits.worlds.SweptWorlds.{one_living, settling_leaves_every_world}
use Rattle.vt_laws_upper_layers.specs.Lowered.{ArePinned, Pins, PinsInLayers, all_pins, is_at, is_pinned, is_upper_object, is_used_beside, pins_of}
use Rattle.vt_laws_upper_layers.specs.UnnamedPins.{UnnamedAreSweptAlike, objects_unnamed, pin_of, pins_in, unnamed_pins}
use Rattle.vt_laws_upper_layers.proofs.births.Swept.{is_overlay-only_used, numbered-map, overlay_left}
use Rattle.vt_laws_upper_layers.proofs.lowered.Swept.{swept_alike}
use Rattle.vt_laws_upper_layers.proofs.lowered.Unnamed.{unnamed_are_pinned}

-- what is said of overlays alone is the same after the sweep of plain trees
module _ (world : World ℕ) {A : Type 0} (g : Filesystem ℕ → List A)
    (none : (f : Filesystem ℕ) → is_overlay f ≡ false → g f ≡ []) where
  one_same : (f : Filesystem ℕ) → g (only_used nat_eq world (not (is_overlay f)) f) ≡ g f
  one_same f = by (is_overlay f) refl
    where
      by : (b : Bool) → is_overlay f ≡ b → g (only_used nat_eq world (not b) f) ≡ g f
      by true e = refl
      by false e = none (only_used nat_eq world true f) (is_overlay-only_used world true f ∙ e) ∙ sym (none f e)

  all_same : (all : List (Filesystem ℕ))
      → flat_map g (map (λ f. only_used nat_eq world (not (is_overlay f)) f) all) ≡ flat_map g all
  all_same [] = refl
  all_same (f ∷ rest) = ap (λ l. l ++ flat_map g (map (λ k. only_used nat_eq world (not (is_overlay k)) k) rest))
      (ap g (λ i. only_used nat_eq world (not (is_overlay f)) f) ∙ one_same f)
      ∙ ap (λ l. g f ++ l) (all_same rest)

no_overlay : {A : Type 0} (none : A) (g : Filesystem ℕ → Overlay ℕ → A) (f : Filesystem ℕ) → is_overlay f ≡ false
    → of_overlay none (g f) f ≡ none
no_overlay none g f e = by f.overlay refl
  where
    by : (o : Option (Overlay ℕ)) → f.overlay ≡ o → overlay_or none (g f) f.overlay ≡ none
    by None t = ap (overlay_or none (g f)) t
    by (Some overlay) t = absurd (true≢false (sym (ap is_some t) ∙ e))

-- names that are left were there
named_left : (world : World ℕ) (f : Filesystem ℕ) (n : ℕ)
    → is_among nat_eq n (named_in (only_used nat_eq world true f).files) ≡ true
    → is_among nat_eq n (named_in f.files) ≡ true
named_left world f n = by (list_all (λ k. is_among nat_eq k (used_in nat_eq world f)) f.files.numbers)
  where
    used : List ℕ
    used = used_in nat_eq world f

    part : is_among nat_eq n (named_in (only_used_by nat_eq false (used_in nat_eq world f) f).files) ≡ true
        → is_among nat_eq n (named_in f.files) ≡ true
    part e =
        let from = among-from_flat_map (λ d. targets_in (cond (is_among nat_eq d (used_in nat_eq world f))
        (f.files.tree.node d) None)) (filter (λ d. is_among nat_eq d (used_in nat_eq world f)) f.files.numbers) n
        (among_numbers (named_in (only_used_by nat_eq false (used_in nat_eq world f) f).files) n e) in
        let listed = among-from_filter (λ d. is_among nat_eq d (used_in nat_eq world f)) f.files.numbers from.0 from.1 in
        is_among_numbers (named_in f.files) n
        (among-flat_map (λ d. targets_in (f.files.tree.node d)) f.files.numbers from.0 n listed.0
        (subst (λ b. Among n (targets_in (cond b (f.files.tree.node from.0) None))) listed.1 from.2))

    by : (b : Bool) → is_among nat_eq n (named_in (only_used_by nat_eq b (used_in nat_eq world f) f).files) ≡ true
        → is_among nat_eq n (named_in f.files) ≡ true
    by true e = e
    by false e = part e

root_left : (world : World ℕ) (b : Bool) (f : Filesystem ℕ)
    → (only_used nat_eq world b f).files.tree.root ≡ f.files.tree.root
root_left world false f = refl
root_left world true f = by (list_all (λ k. is_among nat_eq k (used_in nat_eq world f)) f.files.numbers)
  where
    by : (b : Bool) → (only_used_by nat_eq b (used_in nat_eq world f) f).files.tree.root ≡ f.files.tree.root
    by true = refl
    by false = refl

module _ (world : World ℕ) (under : IsUnderWay world) (are : OverlayInvariants nat_eq world) where
  abbrev living : World ℕ
  living = in_use_of world

  abbrev between : World ℕ
  between = without_dead_in nat_eq is_overlay living

  abbrev after : World ℕ
  after = settled nat_eq world

  abbrev pins : Pins
  pins = unnamed_pins after

  is_world : IsWorld nat_eq after
  is_world = settling_leaves_every_world world under are

  found_after : (f : Filesystem ℕ) → Among f after.filesystems → filesystem_numbered nat_eq after f.number ≡ f
  found_after = found_filesystem after.filesystems is_world.files.one_filesystem

  objects_same : (k : ℕ) → flat_map (objects_of_overlay nat_eq k) after.filesystems
      ≡ flat_map (objects_of_overlay nat_eq k) between.filesystems
  objects_same k = all_same between (objects_of_overlay nat_eq k) (λ f e. no_overlay [] (λ f (overlay : Overlay ℕ).
      cond (holds_of (λ (layer : Layer ℕ). nat_eq k layer.filesystem) overlay.upper)
      (filter_map (λ number. upper_object (overlay.real number)) f.files.numbers) []) f e) between.filesystems

  layers_same : flat_map (of_overlay [] layers_of) after.filesystems
      ≡ flat_map (of_overlay [] layers_of) between.filesystems
  layers_same = all_same between (of_overlay [] layers_of) (λ f e. no_overlay [] (λ f. layers_of) f e)
      between.filesystems

  -- pins are of overlays that are left
  pin_none : (f : Filesystem ℕ) → is_overlay f ≡ false → pins_of pins f ≡ []
  pin_none f e = no_overlay [] (λ f (overlay : Overlay ℕ). pins f.number) f e

  pins_same : all_pins pins after ≡ all_pins pins between
  pins_same = all_same between (pins_of pins) pin_none between.filesystems

  -- An overlay that is there after the mounts went has what pins there are by its number
  left_of : (f : Filesystem ℕ) → filesystem_numbered nat_eq living f.number ≡ f → is_overlay f ≡ true
      → is_overlay (filesystem_numbered nat_eq after f.number) ≡ true
  left_of f found over =
      ap is_overlay (numbered-map (λ g. only_used nat_eq between (not (is_overlay g)) g)
      (λ g. number-only_used between (not (is_overlay g)) g) f.number refl between.filesystems)
      ∙ is_overlay-only_used between (not (is_overlay (filesystem_numbered nat_eq between f.number)))
      (filesystem_numbered nat_eq between f.number)
      ∙ ap is_overlay (numbered-map (λ g. only_used nat_eq living (is_overlay g) g)
      (λ g. number-only_used living (is_overlay g) g) f.number refl living.filesystems)
      ∙ is_overlay-only_used living (is_overlay (filesystem_numbered nat_eq living f.number))
      (filesystem_numbered nat_eq living f.number) ∙ ap is_overlay found ∙ over

  among_after : (number : ℕ) → is_overlay (filesystem_numbered nat_eq after number) ≡ true
      → Among (filesystem_numbered nat_eq after number) after.filesystems
  among_after number over =
      let overlay = some_from_is_some (filesystem_numbered nat_eq after number).overlay over in
      (among-from_filter is_overlay after.filesystems (filesystem_numbered nat_eq after number)
      (merged_among after number overlay.0 overlay.1)).0

  -- a pin by a number is of the overlay of that number
  pin_upper : (number : ℕ) (layer : Layer ℕ) → Among layer (pins number)
      → (is_overlay (filesystem_numbered nat_eq after number) ≡ true)
      × (has_upper_in layer.filesystem (filesystem_numbered nat_eq after number) ≡ true)
  pin_upper number layer m = by (filesystem_numbered nat_eq after number).overlay refl
    where
      merged : Filesystem ℕ
      merged = filesystem_numbered nat_eq after number

      upper : (overlay : Overlay ℕ) (u : Option (Layer ℕ)) → overlay.upper ≡ u → Among layer (pins_in merged overlay)
          → holds_of (λ (top : Layer ℕ). nat_eq layer.filesystem top.filesystem) overlay.upper ≡ true
      upper overlay None has own = absurd (subst (λ u. Among layer (flat_map (λ (top : Layer ℕ).
          map (pin_of top)
          (objects_unnamed merged overlay))
          (option_to_list u))) has own)
      upper overlay (Some top) has own =
          let one = among-from_flat_map (λ (t : Layer ℕ).
          map (pin_of t)
          (objects_unnamed merged overlay)) (top ∷ []) layer
          (subst (λ u. Among layer (flat_map (λ (t : Layer ℕ).
          map (pin_of t)
          (objects_unnamed merged overlay))
          (option_to_list u))) has own) in
          let from = among-from_map
          (pin_of one.0)
          (objects_unnamed merged overlay) layer one.2 in
          let same : one.0 ≡ top = ⊎_elim (λ e. e) (λ no. absurd no) one.1 in
          ap (holds_of (λ (t : Layer ℕ). nat_eq layer.filesystem t.filesystem)) has
          ∙ eq-eqb layer.filesystem top.filesystem
          (ap (λ (l : Layer ℕ). l.filesystem) from.2 ∙ ap (λ (l : Layer ℕ). l.filesystem) same)

      by : (o : Option (Overlay ℕ)) → (filesystem_numbered nat_eq after number).overlay ≡ o
          → (is_overlay (filesystem_numbered nat_eq after number) ≡ true)
          × (has_upper_in layer.filesystem (filesystem_numbered nat_eq after number) ≡ true)
      by None e = absurd (subst (λ o. Among layer (overlay_or [] (pins_in merged) o)) e m)
      by (Some overlay) e = (
        ap is_some e,
        ap (overlay_or false (λ (v : Overlay ℕ).
            holds_of (λ (top : Layer ℕ). nat_eq layer.filesystem top.filesystem) v.upper)) e
            ∙ upper overlay overlay.upper refl (subst (λ o. Among layer (overlay_or [] (pins_in merged) o)) e m),
      )

  -- Before the sweep of overlays none has an upper object, or a pin
  living_among : (f : Filesystem ℕ) → Among f living.filesystems → Among f world.filesystems
  living_among f m = (among-from_filter (filesystem_lives nat_eq (without_dead_mounts nat_eq world)) world.filesystems f m).0

  found_living : (f : Filesystem ℕ) → Among f living.filesystems → filesystem_numbered nat_eq living f.number ≡ f
  found_living = found_filesystem living.filesystems (one_living world under are)

  -- an overlay keeps its upper layer, which is in no overlay
  upper_after : (k : ℕ) (merged : Filesystem ℕ) → Among merged living.filesystems → (overlay : Overlay ℕ)
      → merged.overlay ≡ Some overlay → has_upper_in k (filesystem_numbered nat_eq after merged.number)
      ≡ holds_of (λ (layer : Layer ℕ). nat_eq k layer.filesystem) overlay.upper
  upper_after k merged m overlay there =
      let over = left_of merged (found_living merged m) (ap is_some there) in
      let later = some_from_is_some (filesystem_numbered nat_eq after merged.number).overlay over in
      ap (overlay_or false (λ (v : Overlay ℕ). holds_of (λ (layer : Layer ℕ). nat_eq k layer.filesystem) v.upper)) later.1
      ∙ ap (λ (v : Overlay ℕ). holds_of (λ (layer : Layer ℕ). nat_eq k layer.filesystem) v.upper)
      (overlay_left world under merged.number later.0 later.1 are overlay
      (ap (λ (g : Filesystem ℕ). g.overlay)
      (found_filesystem world.filesystems under.files.one_filesystem merged (living_among merged m)) ∙ there))

  plain_after : (f : Filesystem ℕ) → Among f living.filesystems → is_overlay f ≡ true → (number : ℕ)
      → is_overlay (filesystem_numbered nat_eq after number) ≡ true
      → has_upper_in f.number (filesystem_numbered nat_eq after number) ≡ false
  plain_after f m over number there =
      let over_after = left_of f (found_living f m) over in
      ap (λ k. has_upper_in k (filesystem_numbered nat_eq after number)) (sym (number_of_filesystem after f.number))
      ∙ among_from_all (λ (merged : Filesystem ℕ).
      has_upper_in (filesystem_numbered nat_eq after f.number).number merged ≡ false) after.filesystems
      (among_from_all (λ (g : Filesystem ℕ). is_overlay g ≡ true
      → All (λ (merged : Filesystem ℕ). has_upper_in g.number merged ≡ false) after.filesystems) after.filesystems
      (uppers_of_worlds_are_plain after is_world) (filesystem_numbered nat_eq after f.number)
      (among_after f.number over_after) over_after) (filesystem_numbered nat_eq after number)
      (among_after number there)

  no_object : (f : Filesystem ℕ) → Among f living.filesystems → is_overlay f ≡ true → (n : ℕ)
      → is_upper_object living f.number n ≡ true → ⊥
  no_object f m over n e =
      let from = among-from_flat_map (objects_of_overlay nat_eq f.number) living.filesystems n
      (among_numbers (flat_map (objects_of_overlay nat_eq f.number) living.filesystems) n e) in
      by from.0 from.1 from.0.overlay refl from.2
    where
      by : (merged : Filesystem ℕ) → Among merged living.filesystems → (o : Option (Overlay ℕ)) → merged.overlay ≡ o
          → Among n (objects_of_overlay nat_eq f.number merged) → ⊥
      by merged among None t object = subst (λ o. Among n (overlay_or [] (λ (overlay : Overlay ℕ).
          cond (holds_of (λ (layer : Layer ℕ). nat_eq f.number layer.filesystem) overlay.upper)
          (filter_map (λ k. upper_object (overlay.real k)) merged.files.numbers) []) o)) t object
      by merged among (Some overlay) t object = subst (λ b. Among n (cond b
          (filter_map (λ k. upper_object (overlay.real k)) merged.files.numbers) []))
          (sym (upper_after f.number merged among overlay t)
          ∙ plain_after f m over merged.number (left_of merged (found_living merged among) (ap is_some t)))
          (subst (λ o. Among n (overlay_or [] (λ (overlay : Overlay ℕ).
          cond (holds_of (λ (layer : Layer ℕ). nat_eq f.number layer.filesystem) overlay.upper)
          (filter_map (λ k. upper_object (overlay.real k)) merged.files.numbers) []) o)) t object)

  no_pin : (f : Filesystem ℕ) → Among f living.filesystems → is_overlay f ≡ true → (n : ℕ)
      → is_pinned pins living f.number n ≡ true → ⊥
  no_pin f m over n e =
      let layer = any_among (is_at f.number n) (all_pins pins living) e in
      let from = among-from_flat_map (pins_of pins) living.filesystems layer.0 layer.1 in
      by from.0 layer.0 (pin_there from.0 from.0.overlay refl layer.0 from.2)
      (eqb-true f.number layer.0.filesystem (and_true_left _ _ layer.2))
    where
      pin_there : (g : Filesystem ℕ) (o : Option (Overlay ℕ)) → g.overlay ≡ o → (layer : Layer ℕ)
          → Among layer (pins_of pins g) → Among layer (pins g.number)
      pin_there g None t layer pin =
          absurd (subst (λ o. Among layer (overlay_or [] (λ overlay. pins g.number) o)) t pin)
      pin_there g (Some overlay) t layer pin =
          subst (λ o. Among layer (overlay_or [] (λ overlay. pins g.number) o)) t pin

      by : (g : Filesystem ℕ) (layer : Layer ℕ) → Among layer (pins g.number) → f.number ≡ layer.filesystem → ⊥
      by g layer pin same =
          let upper = pin_upper g.number layer pin in
          true≢false (sym (ap (λ k. has_upper_in k (filesystem_numbered nat_eq after g.number)) same ∙ upper.1)
          ∙ plain_after f m over g.number upper.0)

  overlays_pinned : All (λ f. is_overlay f ≡ true → ArePinned pins living f) living.filesystems
  overlays_pinned = all_from_among (λ f. is_overlay f ≡ true → ArePinned pins living f) living.filesystems
      (λ f m over. record {
        objects = λ n e. absurd (no_object f m over n e);
        pinned = λ n e. absurd (no_pin f m over n e);
      })

  -- Before the sweep of plain trees they are pinned as after it
  plain_pinned : All (λ f. not (is_overlay f) ≡ true → ArePinned pins between f) between.filesystems
  plain_pinned = all_from_among (λ f. not (is_overlay f) ≡ true → ArePinned pins between f) between.filesystems
      (λ f m plain. record {
        objects = λ n e. ⊎_elim (λ used. or_left (is_used_beside between f n) _ (still_used f n plain used))
            (λ pin. or_right (is_used_beside between f n) _
            (ap (list_any (is_at f.number n)) (sym pins_same) ∙ ap (λ k. is_pinned pins after k n)
            (sym (number-only_used between (not (is_overlay f)) f)) ∙ pin))
            (or_cases _ _ ((pinned_after f m).objects n
            (ap (λ k. is_upper_object after k n) (number-only_used between (not (is_overlay f)) f)
            ∙ ap (is_among nat_eq n) (objects_same f.number) ∙ e)));
        pinned = λ n e. sym (ap (is_among nat_eq n) (objects_same f.number))
            ∙ sym (ap (λ k. is_upper_object after k n) (number-only_used between (not (is_overlay f)) f))
            ∙ (pinned_after f m).pinned n (ap (λ k. is_pinned pins after k n)
            (number-only_used between (not (is_overlay f)) f) ∙ ap (list_any (is_at f.number n)) pins_same ∙ e);
      })
    where
      pinned_after : (f : Filesystem ℕ) → Among f between.filesystems
          → ArePinned pins after (only_used nat_eq between (not (is_overlay f)) f)
      pinned_after f m = among_from_all (ArePinned pins after) after.filesystems (unnamed_are_pinned after is_world).0
          (only_used nat_eq between (not (is_overlay f)) f)
          (among-map (λ g. only_used nat_eq between (not (is_overlay g)) g)
          between.filesystems f m)

      still_used : (f : Filesystem ℕ) (n : ℕ) → not (is_overlay f) ≡ true
          → is_used_beside after (only_used nat_eq between (not (is_overlay f)) f) n ≡ true
          → is_used_beside between f n ≡ true
      still_used f n plain e = ⊎_elim
          (λ names. or_left _ _ (⊎_elim
          (λ root. is_among_left n (f.files.tree.root ∷ []) _ (ap (λ r. nat_eq n r || false)
          (sym (root_left between (not (is_overlay f)) f)) ∙ ap (λ b. b || false) root))
          (λ rest. is_among_right n (f.files.tree.root ∷ []) _ (⊎_elim
          (λ named. is_among_left n (named_in f.files) _ (named_left between f n
          (ap (λ b. is_among nat_eq n (named_in (only_used nat_eq between b f).files)) (sym plain) ∙ named)))
          (λ located. is_among_right n (named_in f.files) _
          (ap (λ k. is_among nat_eq n (located_in nat_eq after k))
          (sym (number-only_used between (not (is_overlay f)) f)) ∙ located))
          (or_cases _ _ (sym (list_any-append (nat_eq n)
          (named_in (only_used nat_eq between (not (is_overlay f)) f).files)
          (located_in nat_eq after (only_used nat_eq between (not (is_overlay f)) f).number)) ∙ rest))))
          (or_cases _ _ names)))
          (λ layers. or_right _ _ (ap (list_any (is_at f.number n)) (sym layers_same)
          ∙ ap (λ k. list_any (is_at k n) (flat_map (of_overlay [] layers_of) after.filesystems))
          (sym (number-only_used between (not (is_overlay f)) f)) ∙ layers))
          (or_cases _ _ e)

  -- and each overlay pins where it has a layer
  in_layers : All (PinsInLayers pins) world.filesystems
  in_layers = all_from_among (PinsInLayers pins) world.filesystems (λ f m overlay number there e.
      let one = any_among (λ (l : Layer ℕ). nat_eq number l.filesystem) (pins f.number) e in
      let over = (pin_upper f.number one.0 one.1).0 in
      let later = some_from_is_some (filesystem_numbered nat_eq after f.number).overlay over in
      ap (list_any (λ (l : Layer ℕ). nat_eq number l.filesystem)) (sym (ap layers_of
      (overlay_left world under f.number later.0 later.1 are overlay
      (ap (λ (g : Filesystem ℕ). g.overlay) (found_filesystem world.filesystems under.files.one_filesystem f m) ∙ there))))
      ∙ among_from_all (PinsInLayers pins) after.filesystems (unnamed_are_pinned after is_world).1
      (filesystem_numbered nat_eq after f.number) (among_after f.number over) later.0 number later.1
      (ap (λ k. list_any (λ (l : Layer ℕ). nat_eq number l.filesystem) (pins k)) (number_of_filesystem after f.number) ∙ e))

pub unnamed_are_swept_alike : UnnamedAreSweptAlike
unnamed_are_swept_alike world under are =
    swept_alike (unnamed_pins (settled nat_eq world)) world (in_layers world under are)
    (record { overlays = overlays_pinned world under are; plain = plain_pinned world under are })
