-- Uses that go from lowered worlds: with locations and mounts, with pins, and with overlays.
use Rattle.std.proofs.Common.{arith, ◌≡◌, refl, sym, ap, subst, ◌∙◌, inl, inr, ℕ, ◌+◌, nat_eq, nat_lt, lt-ltb, ltb-true, Bool, true, false, cond, not, List, [], ◌∷◌, ◌++◌, map, filter, flat_map, Option, Some, None, is_some, option_map, append-nil, All}
use Rattle.vt_spec.proofs.Common.{Among, Filesystem, IsWorld, Layer, Overlay, OverlayInvariants, World, all_from_among, among_from_all, filesystem_lives, filesystem_numbered, is_overlay, list_any, overlay_or, settled}
use Rattle.vt_spec.specs.Machine.Settled.{without_dead_mounts}
use Rattle.vt_laws_mounts.specs.Counts.Using.{Exchanges, is_inode}
use Rattle.vt_laws_mounts.specs.LettingGo.Counts.{times}
use Rattle.vt_laws_mounts.specs.LettingGo.OneByOne.{Inode}
use Rattle.vt_laws_mounts.specs.LettingGo.Overlays.{used_by_filesystem}
use Rattle.vt_laws_mounts.specs.LettingGo.TreesOverlays.{in_use_of}
use Rattle.vt_laws_mounts.proofs.letting_go.Lists.{any_counted}
use Rattle.vt_laws_mounts.proofs.counts.overlays.FilesystemUses.{overlays_take_their_uses}
use Rattle.vt_laws_mounts.proofs.counts.using.Places.{exchanges_follow}
use Rattle.vt_laws_mounts.proofs.letting_go.sweeps.UpperUses.{times_append}
use Rattle.vt_laws_worlds.specs.Worlds.Kept.{IsUnderWay}
use Rattle.vt_laws_upper_layers.specs.Lowered.{Pins, PinsInLayers, all_pins, inode_of_layer, is_at, lowered, lowered_filesystem, lowered_overlay, no_pins, pins_of}
use Rattle.vt_laws_upper_layers.specs.UnnamedPins.{unnamed_pins}
use Rattle.vt_laws_upper_layers.proofs.counted.Uses.{exchanges_are_lowered}
use Rattle.vt_laws_upper_layers.proofs.lowered.Counted.{numbered-lowered, pins_are_exchanged}
use Rattle.vt_laws_upper_layers.proofs.lowered.Swept.{filesystems_go, lives_same}
use Rattle.vt_laws_upper_layers.proofs.lowered.Unnamed.{unnamed_are_pinned}
use Rattle.vt_laws_pins.specs.Above.{ExchangesHaveNoOrder, UsesGoAbove, UsesGoBesidePins, layers_let_go, layers_used}
use Rattle.vt_laws_pins.specs.Gone.{let_go_in, pins_let_go}
use Rattle.vt_laws_pins.proofs.going.Gone.{dead_pins, one_splits, pins_go_with_their_inodes}

pub exchanges_have_no_order : ExchangesHaveNoOrder
exchanges_have_no_order world after gained lost more less filesystem gain loss exchanges = record {
  same = exchanges.same;
  uses = λ number.
      let known = exchanges.uses number in
      let one = gain number in
      let other = loss number in
      omega (arith, known, one, other);
}

-- Filters may be exchanged
filter_either : {A : Type 0} (p q : A → Bool) (all : List A) → filter p (filter q all) ≡ filter q (filter p all)
filter_either p q [] = refl
filter_either p q (a ∷ rest) = by (q a) refl (filter_either p q rest)
  where
    turned : q a ≡ true → a ∷ filter q (filter p rest)
        ≡ cond (q a) (a ∷ filter q (filter p rest)) (filter q (filter p rest))
    turned e = sym (ap (λ b. cond b (a ∷ filter q (filter p rest)) (filter q (filter p rest))) e)

    dropped : q a ≡ false → filter q (filter p rest)
        ≡ cond (q a) (a ∷ filter q (filter p rest)) (filter q (filter p rest))
    dropped e = sym (ap (λ b. cond b (a ∷ filter q (filter p rest)) (filter q (filter p rest))) e)

    kept : (b : Bool) → q a ≡ true → filter p (filter q rest) ≡ filter q (filter p rest)
        → cond b (a ∷ filter p (filter q rest)) (filter p (filter q rest))
        ≡ filter q (cond b (a ∷ filter p rest) (filter p rest))
    kept true e later = ap (λ l. a ∷ l) later ∙ turned e
    kept false e later = later

    left : (b : Bool) → q a ≡ false → filter p (filter q rest) ≡ filter q (filter p rest)
        → filter p (filter q rest) ≡ filter q (cond b (a ∷ filter p rest) (filter p rest))
    left true e later = later ∙ dropped e
    left false e later = later

    by : (b : Bool) → q a ≡ b → filter p (filter q rest) ≡ filter q (filter p rest)
        → filter p (cond b (a ∷ filter q rest) (filter q rest))
        ≡ filter q (cond (p a) (a ∷ filter p rest) (filter p rest))
    by true e later = kept (p a) e later
    by false e later = left (p a) e later

-- What goes of what is lowered uses what goes
module _ {A B C : Type 0} (low : A → B) (merged lives : A → Bool) (merged_low lives_low : B → Bool)
    (same_kind : (a : A) → merged_low (low a) ≡ merged a) (same_life : (a : A) → lives_low (low a) ≡ lives a)
    (used : A → List C) (used_low : B → List C) where
  abbrev GoAlike : List A → Type 0
  GoAlike all = flat_map used_low (filter (λ b. not (lives_low b)) (filter merged_low (map low all)))
      ≡ flat_map used (filter (λ a. not (lives a)) (filter merged all))

  go_alike : (all : List A)
      → ((a : A) → Among a all → merged a ≡ true → lives a ≡ false → used_low (low a) ≡ used a)
      → GoAlike all
  go_alike [] same = refl
  go_alike (a ∷ rest) same =
      ap (λ b. flat_map used_low (filter (λ b. not (lives_low b))
      (cond b (low a ∷ filter merged_low (map low rest)) (filter merged_low (map low rest))))) (same_kind a)
      ∙ by (merged a) refl (go_alike rest (λ b m. same b (inr m)))
    where
      alive : merged a ≡ true → GoAlike rest → (l : Bool) → lives a ≡ l
          → flat_map used_low (cond (not l)
          (low a ∷ filter (λ b. not (lives_low b)) (filter merged_low (map low rest)))
          (filter (λ b. not (lives_low b)) (filter merged_low (map low rest))))
          ≡ flat_map used (cond (not l) (a ∷ filter (λ a. not (lives a)) (filter merged rest))
          (filter (λ a. not (lives a)) (filter merged rest)))
      alive e later true f = later
      alive e later false f = λ i. same a (inl refl) e f i ++ later i

      by : (b : Bool) → merged a ≡ b → GoAlike rest
          → flat_map used_low (filter (λ b. not (lives_low b))
          (cond b (low a ∷ filter merged_low (map low rest)) (filter merged_low (map low rest))))
          ≡ flat_map used (filter (λ a. not (lives a)) (cond b (a ∷ filter merged rest) (filter merged rest)))
      by true e later = ap (λ l. flat_map used_low (cond (not l)
          (low a ∷ filter (λ b. not (lives_low b)) (filter merged_low (map low rest)))
          (filter (λ b. not (lives_low b)) (filter merged_low (map low rest))))) (same_life a)
          ∙ alive e later (lives a) refl
      by false e later = later

kind_lowered : (pins : Pins) (f : Filesystem ℕ) → is_overlay (lowered_filesystem pins f) ≡ is_overlay f
kind_lowered pins f = by f.overlay
  where
    by : (o : Option (Overlay ℕ))
        → is_some (option_map (lowered_overlay (pins f.number)) o) ≡ is_some o
    by None = refl
    by (Some overlay) = refl

module _ (world after : World ℕ) (is : IsWorld nat_eq world) (under : IsUnderWay after)
    (are : OverlayInvariants nat_eq after) (same : after.filesystems ≡ world.filesystems) where
  abbrev left : World ℕ
  left = settled nat_eq after

  abbrev mounted : World ℕ
  mounted = without_dead_mounts nat_eq after

  abbrev before : Pins
  before = unnamed_pins world

  abbrev later : Pins
  later = unnamed_pins left

  -- pins do not depend on mounts and tasks
  pins_after : unnamed_pins after ≡ before
  pins_after = λ i. unnamed_pins (record world { filesystems = same i })

  -- what is pinned later is pinned where the overlay has a layer
  fewer : (test : Layer ℕ → Bool) (f : Filesystem ℕ) → Among f after.filesystems → (overlay : Overlay ℕ)
      → f.overlay ≡ Some overlay → list_any test (later f.number) ≡ true → list_any test (before f.number) ≡ true
  fewer test f m overlay there e =
      let known = ap (λ (pins : Pins). times test (pins_of pins f)) (sym pins_after) ∙ one_splits after under are test f m in
      let counted : times test (before f.number) ≡ times test (later f.number)
      + times test (overlay_or [] (let_go_in left f) f.overlay) =
      sym (ap (λ o. times test (overlay_or [] (λ (v : Overlay ℕ). before f.number) o)) there) ∙ known
      ∙ ap (λ o. times test (overlay_or [] (λ (v : Overlay ℕ). later f.number) o)
      + times test (overlay_or [] (let_go_in left f) f.overlay)) there in
      any_counted test (before f.number) ∙ ap (nat_lt 0) counted
      ∙ more (times test (later f.number)) _ (sym (any_counted test (later f.number)) ∙ e)
    where
      more : (a b : ℕ) → nat_lt 0 a ≡ true → nat_lt 0 (a + b) ≡ true
      more a b e = let some = ltb-true 0 a e in lt-ltb 0 (a + b) (omega (arith, some))

  in_layers : All (PinsInLayers later) after.filesystems
  in_layers = all_from_among (PinsInLayers later) after.filesystems (λ f m overlay number there e.
      among_from_all (PinsInLayers before) world.filesystems (unnamed_are_pinned world is).1 f
      (subst (Among f) same m) overlay number there
      (fewer (λ (layer : Layer ℕ). nat_eq number layer.filesystem) f m overlay there e))

  -- pins go,
  module _ (filesystem : ℕ) (plain : is_overlay (filesystem_numbered nat_eq world filesystem) ≡ false) where
    pins_lost : Exchanges [] (map inode_of_layer (pins_let_go left world)) filesystem (lowered before mounted)
        (lowered later mounted)
    pins_lost = pins_are_exchanged before later mounted [] (pins_let_go left world) filesystem
        (ap (λ all. is_overlay (filesystem_numbered nat_eq (record world { filesystems = all }) filesystem)) same ∙ plain)
        (λ number. let known = pins_go_with_their_inodes after filesystem number under are in
        let pinned = ap (λ (pins : Pins). times (is_at filesystem number) (all_pins pins after)) pins_after in
        let gone : times (is_at filesystem number) (pins_let_go left after)
        ≡ times (is_at filesystem number) (pins_let_go left world) =
        ap (λ all. times (is_at filesystem number) (pins_let_go left (record world { filesystems = all }))) same in
        omega (arith, known, pinned, gone))

    -- and overlays
    overlays_lost : filesystem_numbered nat_eq (in_use_of after) filesystem
        ≡ filesystem_numbered nat_eq after filesystem
        → Exchanges [] (flat_map used_by_filesystem
        (filter (λ merged. not (filesystem_lives nat_eq (lowered later mounted) merged))
        (filter is_overlay (lowered later mounted).filesystems))) filesystem (lowered later mounted)
        (in_use_of (lowered later after))
    overlays_lost stays = overlays_take_their_uses (lowered later mounted) (in_use_of (lowered later after))
        (filesystem_lives nat_eq (lowered later mounted)) filesystem refl refl
        (filter_either is_overlay (filesystem_lives nat_eq (lowered later mounted))
        (lowered later mounted).filesystems)
        (ap (λ w. filesystem_numbered nat_eq w filesystem) (filesystems_go later mounted in_layers)
        ∙ numbered-lowered later (in_use_of after) filesystem ∙ ap (lowered_filesystem later) stays
        ∙ sym (numbered-lowered later mounted filesystem))

  -- these use their layers
  layers_lost : flat_map used_by_filesystem
      (filter (λ merged. not (filesystem_lives nat_eq (lowered later mounted) merged))
      (filter is_overlay (lowered later mounted).filesystems)) ≡ layers_let_go mounted world
  layers_lost = go_alike (lowered_filesystem later) is_overlay (filesystem_lives nat_eq mounted) is_overlay
      (filesystem_lives nat_eq (lowered later mounted)) (kind_lowered later) (lives_same later mounted in_layers)
      layers_used used_by_filesystem after.filesystems (λ f m over dead.
      ap (λ pins. used_by_filesystem (record f {
        overlay = option_map (lowered_overlay pins) f.overlay;
      })) (dead_pins after under are f m over dead))
      ∙ ap (λ all. flat_map layers_used (filter (λ merged. not (filesystem_lives nat_eq mounted merged))
      (filter is_overlay all))) same

  pub go_above : (gained lost : List Inode) (filesystem : ℕ)
      → is_overlay (filesystem_numbered nat_eq world filesystem) ≡ false
      → filesystem_numbered nat_eq (in_use_of after) filesystem ≡ filesystem_numbered nat_eq after filesystem
      → Exchanges gained lost filesystem world mounted
      → Exchanges gained ((lost ++ map inode_of_layer (pins_let_go left world)) ++ layers_let_go mounted world)
      filesystem (lowered before world) (in_use_of (lowered later after))
  go_above gained lost filesystem plain stays exchanges =
      subst (λ got. Exchanges got ((lost ++ map inode_of_layer (pins_let_go left world)) ++ layers_let_go mounted world)
      filesystem (lowered before world) (in_use_of (lowered later after)))
      (append-nil (gained ++ []) ∙ append-nil gained)
      (subst (λ layers. Exchanges ((gained ++ []) ++ [])
      ((lost ++ map inode_of_layer (pins_let_go left world)) ++ layers) filesystem (lowered before world)
      (in_use_of (lowered later after))) layers_lost
      (exchanges_follow (lowered before world) (lowered later mounted) (in_use_of (lowered later after)) (gained ++ [])
      (lost ++ map inode_of_layer (pins_let_go left world)) [] _ filesystem
      (exchanges_follow (lowered before world) (lowered before mounted) (lowered later mounted) gained lost []
      (map inode_of_layer (pins_let_go left world)) filesystem
      (exchanges_are_lowered before world mounted gained lost filesystem same exchanges)
      (pins_lost filesystem plain))
      (overlays_lost filesystem plain stays)))

pub uses_go_above : UsesGoAbove
uses_go_above world after gained lost filesystem is under are same plain stays exchanges =
    go_above world after is under are same gained lost filesystem plain stays exchanges

-- Where overlays pin nothing

-- what gives nothing may be left out
flat_map_dropped : {A B : Type 0} (g : A → List B) (q : A → Bool) (all : List A)
    → ((a : A) → Among a all → q a ≡ false → g a ≡ []) → flat_map g (filter q all) ≡ flat_map g all
flat_map_dropped g q [] none = refl
flat_map_dropped g q (a ∷ rest) none = by (q a) refl (flat_map_dropped g q rest (λ b m. none b (inr m)))
  where
    by : (b : Bool) → q a ≡ b → flat_map g (filter q rest) ≡ flat_map g rest
        → flat_map g (cond b (a ∷ filter q rest) (filter q rest)) ≡ g a ++ flat_map g rest
    by true e later = ap (λ l. g a ++ l) later
    by false e later = later ∙ ap (λ l. l ++ flat_map g rest) (sym (none a (inl refl) e))

nothing_pinned : (all : List (Filesystem ℕ)) → flat_map (pins_of no_pins) all ≡ []
nothing_pinned [] = refl
nothing_pinned (f ∷ rest) = ap (λ l. l ++ flat_map (pins_of no_pins) rest) (by f.overlay) ∙ nothing_pinned rest
  where
    by : (o : Option (Overlay ℕ)) → overlay_or [] (λ (overlay : Overlay ℕ). no_pins f.number) o ≡ []
    by None = refl
    by (Some overlay) = refl

module _ (world after : World ℕ) (is : IsWorld nat_eq world) (under : IsUnderWay after)
    (are : OverlayInvariants nat_eq after) (same : after.filesystems ≡ world.filesystems) (filesystem : ℕ) where
  abbrev swept : World ℕ
  swept = settled nat_eq after

  abbrev living : World ℕ
  living = in_use_of after

  abbrev pins : Pins
  pins = unnamed_pins world

  abbrev pins_then : Pins
  pins_then = unnamed_pins swept

  -- what goes pins nothing then
  pins_living : all_pins pins_then living ≡ all_pins pins_then after
  pins_living = flat_map_dropped (pins_of pins_then) (filesystem_lives nat_eq (without_dead_mounts nat_eq after))
      after.filesystems (λ f m dead. by f m dead f.overlay refl)
    where
      by : (f : Filesystem ℕ) → Among f after.filesystems
          → filesystem_lives nat_eq (without_dead_mounts nat_eq after) f ≡ false → (o : Option (Overlay ℕ))
          → f.overlay ≡ o → overlay_or [] (λ (overlay : Overlay ℕ). pins_then f.number) o ≡ []
      by f m dead None there = refl
      by f m dead (Some overlay) there = dead_pins after under are f m (ap is_some there) dead

  module _ (plain : is_overlay (filesystem_numbered nat_eq world filesystem) ≡ false)
      {gained lost : List Inode}
      (exchanges : Exchanges gained lost filesystem (lowered no_pins world) (lowered no_pins living)) where
    plain_then : is_overlay (filesystem_numbered nat_eq living filesystem) ≡ false
    plain_then = sym (kind_lowered no_pins (filesystem_numbered nat_eq living filesystem))
        ∙ ap is_overlay (sym (numbered-lowered no_pins living filesystem) ∙ exchanges.same
        ∙ numbered-lowered no_pins world filesystem)
        ∙ kind_lowered no_pins (filesystem_numbered nat_eq world filesystem) ∙ plain

    abbrev kept_pins : List (Layer ℕ)
    kept_pins = all_pins pins_then world

    -- pins go, and those that are left are the same in both worlds
    gone : Exchanges [] (map inode_of_layer (pins_let_go swept world)) filesystem (lowered pins world)
        (lowered pins_then world)
    gone = pins_are_exchanged pins pins_then world [] (pins_let_go swept world) filesystem plain (λ number.
        let split = pins_go_with_their_inodes after filesystem number under are in
        let before : times (is_at filesystem number) (all_pins (unnamed_pins after) after)
        ≡ times (is_at filesystem number) (all_pins pins world) =
        ap (λ all. times (is_at filesystem number) (all_pins (unnamed_pins (record world { filesystems = all }))
        (record world { filesystems = all }))) same in
        let then : times (is_at filesystem number) (all_pins pins_then after)
        ≡ times (is_at filesystem number) (all_pins pins_then world) =
        ap (λ all. times (is_at filesystem number) (all_pins pins_then (record world { filesystems = all }))) same in
        let lost_so : times (is_at filesystem number) (pins_let_go swept after)
        ≡ times (is_at filesystem number) (pins_let_go swept world) =
        ap (λ all. times (is_at filesystem number) (pins_let_go swept (record world { filesystems = all }))) same in
        omega (arith, split, before, then, lost_so))

    first : Exchanges [] (map inode_of_layer kept_pins) filesystem (lowered pins_then world) (lowered no_pins world)
    first = pins_are_exchanged pins_then no_pins world [] kept_pins filesystem plain (λ number.
        let none = ap (times (is_at filesystem number)) (nothing_pinned world.filesystems) in omega (arith, none))

    last : Exchanges (map inode_of_layer kept_pins) [] filesystem (lowered no_pins living) (lowered pins_then living)
    last = pins_are_exchanged no_pins pins_then living kept_pins [] filesystem plain_then (λ number.
        let none = ap (times (is_at filesystem number)) (nothing_pinned living.filesystems) in
        let all : times (is_at filesystem number) (all_pins pins_then living) ≡ times (is_at filesystem number) kept_pins =
        ap (times (is_at filesystem number))
        (pins_living ∙ ap (λ all. all_pins pins_then (record world { filesystems = all })) same) in
        omega (arith, none, all))

    pub go_beside : Exchanges gained (lost ++ map inode_of_layer (pins_let_go swept world)) filesystem
        (lowered pins world) (in_use_of (lowered pins_then after))
    go_beside = subst (λ (w : World ℕ). Exchanges gained (lost ++ map inode_of_layer (pins_let_go swept world))
        filesystem (lowered pins world) w) (sym (filesystems_go pins_then (without_dead_mounts nat_eq after)
        (in_layers world after is under are same))) (record {
          same = last.same ∙ exchanges.same ∙ first.same ∙ gone.same;
          uses = λ number.
              let zero = gone.uses number in
              let one = first.uses number in
              let two = exchanges.uses number in
              let three = last.uses number in
              let both = times_append (is_inode filesystem number) lost
              (map inode_of_layer (pins_let_go swept world)) in
              omega (arith, zero, one, two, three, both);
        })

pub uses_go_beside_pins : UsesGoBesidePins
uses_go_beside_pins world after gained lost filesystem is under are same plain exchanges =
    go_beside world after is under are same filesystem plain exchanges
