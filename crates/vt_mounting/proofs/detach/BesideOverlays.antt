-- Which filesystems live in a world with overlays, by the mounts that show them and the layers that overlays have in
-- them.
use Rattle.std.proofs.Common.{◌≡◌, refl, sym, ap, subst, ◌∙◌, ⊎_elim, ℕ, zero, suc, ◌+◌, nat_eq, nat_lt, Bool, true, false, cond, ◌&&◌, ◌||◌, [], filter, arith, append-nil}
use Rattle.vt_spec.proofs.Common.{Filesystem, World, and_parts, common_steps, filesystem_lives, has_layer_on, is_mounted, is_overlay, list_any, or_cases, settled, without_dead_mounts}
use Rattle.vt_mounting.proofs.Common.{Among, IsHeld, WorldValue, all_from_among, among-filter, among-from_filter, among_from_all, any-filter, any_among, any_from_among, filter_alike, filter_twice, in_use_of, layer_count, mounted_while_counted, or_left, or_right, overlays_seen, overlays_use_filesystems, world_of}
use Rattle.vt_laws_mounts.specs.Counts.OverlaysStay.{HasNoLayerIn}
use Rattle.vt_laws_mounts.proofs.counts.overlays.Living.{lives_while_mounted, overlays_are_mounted, overlays_are_no_layers}
use Rattle.vt_laws_mounts.proofs.counts.overlays.NamedStay.{named_overlays_stay}
use Rattle.vt_mounting.proofs.detach.Overlaid.{AreStillMounted, KeepsOverlays, named_midway, overlays_are}

-- Counts

-- one of two counts is some just if both together are
pub some_of_both : (a b : ℕ) → (nat_lt 0 a || nat_lt 0 b) ≡ nat_lt 0 (a + b)
some_of_both zero b = ap (nat_lt 0) (omega arith)
some_of_both (suc a) b = grind (arith, common_steps)

-- a plain filesystem has no layers
pub no_layer_of_plain : (number : ℕ) (f : Filesystem ℕ) → is_overlay f ≡ false → has_layer_on nat_eq number f ≡ false
no_layer_of_plain number f plain = grind (arith, common_steps)

-- Two worlds with the same overlays

module _ (one other : World ℕ) (same : filter is_overlay other.filesystems ≡ filter is_overlay one.filesystems) where
  pub layers_alike : (number : ℕ) → layer_count other number ≡ layer_count one number
  layers_alike number =
      let counts = overlays_use_filesystems one other [] [] (filter is_overlay one.filesystems) [] number
      (sym (append-nil (filter is_overlay one.filesystems)))
      (same ∙ sym (append-nil (filter is_overlay one.filesystems))) in
      omega (arith, counts)

  -- the same filesystems live where mounts show the same ones
  pub lives_alike : ((number : ℕ) → is_mounted nat_eq other number ≡ is_mounted nat_eq one number) → (f : Filesystem ℕ)
      → filesystem_lives nat_eq other f ≡ filesystem_lives nat_eq one f
  lives_alike mounted f = λ i. mounted f.number i || layered i
    where
      layer_by : World ℕ → Filesystem ℕ → Bool
      layer_by world merged = has_layer_on nat_eq f.number merged && is_mounted nat_eq world merged.number

      by_overlays : (world : World ℕ) → list_any (layer_by world) (filter is_overlay world.filesystems)
          ≡ list_any (layer_by world) world.filesystems
      by_overlays world = any-filter (layer_by world) is_overlay world.filesystems (λ merged m plain.
          ap (λ b. b && is_mounted nat_eq world merged.number) (no_layer_of_plain f.number merged plain))

      layered : list_any (layer_by other) other.filesystems ≡ list_any (layer_by one) one.filesystems
      layered = sym (by_overlays other)
          ∙ (λ i. list_any (λ merged. has_layer_on nat_eq f.number merged && mounted merged.number i) (same i))
          ∙ by_overlays one

-- what lives lives where more is mounted
pub lives_more : (one other : World ℕ) → ((f : Filesystem ℕ) → Among f one.filesystems → Among f other.filesystems)
    → ((number : ℕ) → is_mounted nat_eq one number ≡ true → is_mounted nat_eq other number ≡ true)
    → (f : Filesystem ℕ) → filesystem_lives nat_eq one f ≡ true → filesystem_lives nat_eq other f ≡ true
lives_more one other within more f lives =
    ⊎_elim (λ shown. or_left (is_mounted nat_eq other f.number) _ (more f.number shown)) (λ layered.
    let merged = any_among (λ (m : Filesystem ℕ). has_layer_on nat_eq f.number m && is_mounted nat_eq one m.number)
    one.filesystems layered in
    let parts = and_parts (has_layer_on nat_eq f.number merged.0) (is_mounted nat_eq one merged.0.number) merged.2 in
    or_right (is_mounted nat_eq other f.number) _
    (any_from_among (λ (m : Filesystem ℕ). has_layer_on nat_eq f.number m && is_mounted nat_eq other m.number)
    other.filesystems merged.0 (within merged.0 merged.1) (λ i. parts.0 i && more merged.0.number parts.1 i)))
    (or_cases (is_mounted nat_eq one f.number) _ lives)

-- In the code's world all overlays are shown.
pub mounted_at_first : (value : WorldValue) → IsHeld value → AreStillMounted value (world_of value)
mounted_at_first value whole =
    all_from_among (λ (overlay : Filesystem ℕ). is_mounted nat_eq (world_of value) overlay.number ≡ true)
    (overlays_seen value.overlays) (λ f m.
    let from = among-from_filter is_overlay (world_of value).filesystems f
    (subst (λ all. Among f all) (sym (overlays_are value whole.overlays)) m) in
    among_from_all (λ (overlay : Filesystem ℕ). is_overlay overlay ≡ true
    → is_mounted nat_eq (world_of value) overlay.number ≡ true) (world_of value).filesystems
    (overlays_are_mounted (world_of value) whole.in_world) f from.0 from.1)

-- No overlay of before has a layer in one of them,
pub no_layer_midway : {old : WorldValue} → IsHeld old → (world : World ℕ)
    → ((f : Filesystem ℕ) → Among f world.filesystems → is_overlay f ≡ true → Among f (overlays_seen old.overlays))
    → (overlay : Filesystem ℕ) → Among overlay (overlays_seen old.overlays) → HasNoLayerIn overlay.number world
no_layer_midway {old} held world were overlay n =
    all_from_among (λ merged. has_layer_on nat_eq overlay.number merged ≡ false) world.filesystems (λ merged m.
    by merged m (is_overlay merged) refl)
  where
    before : (f : Filesystem ℕ) → Among f (overlays_seen old.overlays)
        → Among f (world_of old).filesystems × (is_overlay f ≡ true)
    before f m = among-from_filter is_overlay (world_of old).filesystems f
        (subst (λ all. Among f all) (sym (overlays_are old held.overlays)) m)

    by : (merged : Filesystem ℕ) → Among merged world.filesystems → (b : Bool) → is_overlay merged ≡ b
        → has_layer_on nat_eq overlay.number merged ≡ false
    by merged m false e = no_layer_of_plain overlay.number merged e
    by merged m true e =
        among_from_all (λ (g : Filesystem ℕ). has_layer_on nat_eq overlay.number g ≡ false) (world_of old).filesystems
        (among_from_all (λ (f : Filesystem ℕ). is_overlay f ≡ true → HasNoLayerIn f.number (world_of old))
        (world_of old).filesystems (overlays_are_no_layers (world_of old) held.in_world) overlay
        (before overlay n).0 (before overlay n).1) merged (before merged (were merged m e)).0

-- so the sweep leaves those that mounts show.
pub swept_overlays : (old : WorldValue) → IsHeld old → (world : World ℕ) → KeepsOverlays old world
    → filter is_overlay (settled nat_eq world).filesystems
    ≡ filter (λ overlay. is_mounted nat_eq (in_use_of world) overlay.number) (overlays_seen old.overlays)
swept_overlays old held world keeps = named_overlays_stay world (named_midway old held.overlays world keeps)
    ∙ ap (filter is_overlay) (filter_alike lives stays world.filesystems (λ f m. lives_is f m (is_overlay f) refl))
    ∙ filter_twice is_overlay stays (λ f. is_overlay f && shown f)
    (λ f. by (is_overlay f) (shown f) (lives f)) world.filesystems
    ∙ sym (filter_twice shown is_overlay (λ f. is_overlay f && shown f) (λ f. refl) world.filesystems)
    ∙ ap (filter shown) keeps.overlays
  where
    living : World ℕ
    living = without_dead_mounts nat_eq world

    lives : Filesystem ℕ → Bool
    lives = filesystem_lives nat_eq (without_dead_mounts nat_eq world)

    shown : Filesystem ℕ → Bool
    shown overlay = is_mounted nat_eq (in_use_of world) overlay.number

    stays : Filesystem ℕ → Bool
    stays f = cond (is_overlay f) (shown f) (lives f)

    were : (f : Filesystem ℕ) → Among f world.filesystems → is_overlay f ≡ true → Among f (overlays_seen old.overlays)
    were f m e = subst (λ all. Among f all) keeps.overlays (among-filter is_overlay world.filesystems f m e)

    lives_is : (f : Filesystem ℕ) → Among f world.filesystems → (b : Bool) → is_overlay f ≡ b
        → lives f ≡ cond b (shown f) (lives f)
    lives_is f m true e = lives_while_mounted living f (no_layer_midway held living were f (were f m e))
        ∙ sym (mounted_while_counted living f.number)
    lives_is f m false e = refl

    by : (a b c : Bool) → (a && b) ≡ (cond a b c && a)
    by true true c = refl
    by true false c = refl
    by false b true = refl
    by false b false = refl
