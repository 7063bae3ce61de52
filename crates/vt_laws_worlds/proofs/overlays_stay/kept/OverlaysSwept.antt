-- Overlays without an upper layer, after a permit and after the sweep.
use Rattle.std.proofs.Common.{arith, ◌≡◌, refl, sym, ap, subst, ◌∙◌, inr, ℕ, nat_eq, Bool, true, false, true≢false, not, ◌||◌, List, [], ◌∷◌, filter, is_some}
use Rattle.vt_spec.proofs.Common.{Among, Filesystem, Fresh, IsWorld, Permit, SameFilesystems, Task, World, all_from_among, among-filter, among-from_filter, among-from_map, among_from_all, apply, common_steps, filesystem_lives, has_layer_on, is_among, is_mounted, is_overlay, list_all, list_any, none_among, none_from_among, of_overlay, only_used, only_used_by, overlay_or, used_in, without_dead_in, without_dead_mounts}
use Rattle.vt_laws_mounts.specs.LettingGo.Keeping.{has_only_named}
use Rattle.vt_laws_mounts.specs.LettingGo.TreesOverlays.{in_use_of}
use Rattle.vt_laws_mounts.proofs.letting_go.sweeps.UsesCounted.{mounted_while_counted}
use Rattle.vt_laws_worlds.proofs.worlds.FitPermitsNamed.{all_permits_fit}
use Rattle.vt_laws_mounts.specs.Counts.BesideOverlays.{OverlaysHaveNoUpper}
use Rattle.vt_laws_mounts.specs.Counts.OverlaysStay.{HasNoLayerIn, OverlaysAreNamed}
use Rattle.vt_laws_mounts.proofs.counts.overlays.Living.{lives_while_mounted, overlays_are_no_layers}
use Rattle.vt_laws_mounts.proofs.counts.overlays.NamedStay.{named_overlays_stay}
use Rattle.vt_laws_worlds.specs.Permits.Left.{IsGiven, left_by}
use Rattle.vt_laws_worlds.specs.OverlaysStay.Kept.{MountedOverlaysStay, PermitsLeaveOverlays, PlainWorldsHaveNoOverlays, SameWorldsHaveNoUpperAlike, SweepsGiveNoUpper, SweepsKeepNames}
use Rattle.vt_laws_worlds.proofs.overlays_stay.kept.OverlaysLeft.{by_overlays, no_upper_of_plain, overlays_in, overlays_left}

pub permits_leave_overlays : PermitsLeaveOverlays
permits_leave_overlays world fresh task permit is none given =
    overlays_left world fresh task none is.files.one_filesystem permit
    (all_permits_fit world fresh task given.call permit is given.serves given.called given.no_overlay
    given.judged).names

-- The sweep

abbrev has_upper : Filesystem ℕ → Bool
has_upper f = of_overlay false (λ overlay. is_some overlay.upper) f

upper_by : (used : List ℕ) (b : Bool) (f : Filesystem ℕ) → has_upper (only_used_by nat_eq b used f) ≡ has_upper f
upper_by used b f = grind (arith, common_steps)

no_upper_in : (chosen : Filesystem ℕ → Bool) (world : World ℕ) → OverlaysHaveNoUpper world
    → OverlaysHaveNoUpper (without_dead_in nat_eq chosen world)
no_upper_in chosen world none =
    all_from_among (λ f. has_upper f ≡ false) (without_dead_in nat_eq chosen world).filesystems (λ g m.
    let from = among-from_map _ _ g m in
    cc (by (chosen from.0) from.0, among_from_all (λ f. has_upper f ≡ false) world.filesystems none from.0 from.1))
  where
    by : (b : Bool) (f : Filesystem ℕ) → has_upper (only_used nat_eq world b f) ≡ has_upper f
    by true f = upper_by (used_in nat_eq world f)
        (list_all (λ n. is_among nat_eq n (used_in nat_eq world f)) f.files.numbers) f
    by false f = refl

pub sweeps_give_no_upper : SweepsGiveNoUpper
sweeps_give_no_upper world none =
    no_upper_in (λ f. not (is_overlay f)) (without_dead_in nat_eq is_overlay (in_use_of world))
    (no_upper_in is_overlay (in_use_of world)
    (all_from_among (λ f. has_upper f ≡ false) (in_use_of world).filesystems (λ f m.
    among_from_all (λ g. has_upper g ≡ false) world.filesystems none f
    (among-from_filter (filesystem_lives nat_eq (without_dead_mounts nat_eq world)) world.filesystems f m).0)))

abbrev IsNamed : Filesystem ℕ → Type 0
IsNamed f = is_overlay f ≡ true → has_only_named f ≡ true

named_of_plain : (f : Filesystem ℕ) → is_overlay f ≡ false → IsNamed f
named_of_plain f e is = cc

pub sweeps_keep_names : SweepsKeepNames
sweeps_keep_names world named = by_overlays _ named_of_plain _ _ (named_overlays_stay world named)
    (all_from_among IsNamed (in_use_of world).filesystems (λ f m. among_from_all IsNamed world.filesystems named f
    (among-from_filter (filesystem_lives nat_eq (without_dead_mounts nat_eq world)) world.filesystems f m).0))

-- A permit, and the sweep after it

filters_turned : (p q r : Filesystem ℕ → Bool) (list : List (Filesystem ℕ))
    → ((f : Filesystem ℕ) → Among f list → p f ≡ true → q f ≡ r f) → filter p (filter q list) ≡ filter r (filter p list)
filters_turned p q r [] same = refl
filters_turned p q r (first ∷ rest) same =
    grind (arith, common_steps, filters_turned p q r rest (λ f m. same f (inr m)))

module _ (world : World ℕ) (fresh : Fresh ℕ) (task : Task ℕ) (permit : Permit ℕ) (is : IsWorld nat_eq world)
    (none : OverlaysHaveNoUpper world) (given : IsGiven fresh world task permit) where
  abbrev applied : World ℕ
  applied = (apply nat_eq fresh world task permit).world

  abbrev mounted : World ℕ
  mounted = without_dead_mounts nat_eq applied

  left_same : overlays_in applied.filesystems ≡ overlays_in world.filesystems
  left_same = permits_leave_overlays world fresh task permit is none given

  pub no_upper_applied : OverlaysHaveNoUpper applied
  no_upper_applied = by_overlays _ no_upper_of_plain _ _ left_same none

  pub named_applied : OverlaysAreNamed world → OverlaysAreNamed applied
  named_applied named = by_overlays _ named_of_plain _ _ left_same named

  -- no overlay is a layer of another
  apart : (f : Filesystem ℕ) → Among f applied.filesystems → is_overlay f ≡ true → HasNoLayerIn f.number mounted
  apart f m e = by_overlays _ no_layer _ _ left_same (among_from_all (λ g. is_overlay g ≡ true → HasNoLayerIn g.number
      world) world.filesystems (overlays_are_no_layers world is) f (among-from_filter is_overlay world.filesystems f
      (subst (Among f) left_same (among-filter _ _ f m e))).0 e)
    where
      no_layer : (merged : Filesystem ℕ) → is_overlay merged ≡ false → has_layer_on nat_eq f.number merged ≡ false
      no_layer merged h = grind (arith, common_steps, true≢false)

  pub mounted_stay : OverlaysAreNamed world → overlays_in (left_by fresh world task permit).filesystems
      ≡ filter (λ merged. is_mounted nat_eq (left_by fresh world task permit) merged.number)
      (overlays_in world.filesystems)
  mounted_stay named = named_overlays_stay applied (named_applied named)
      ∙ filters_turned is_overlay (filesystem_lives nat_eq mounted) (λ merged. is_mounted nat_eq mounted merged.number)
      applied.filesystems
      (λ f m e. lives_while_mounted mounted f (apart f m e) ∙ sym (mounted_while_counted mounted f.number))
      ∙ ap (filter (λ merged. is_mounted nat_eq mounted merged.number)) left_same

pub mounted_overlays_stay : MountedOverlaysStay
mounted_overlays_stay world fresh task permit is none named given =
    mounted_stay world fresh task permit is none given named

-- Worlds

pub plain_worlds_have_no_overlays : PlainWorldsHaveNoOverlays
plain_worlds_have_no_overlays world plain =
    grind (arith, common_steps, all_from_among, no_upper_of_plain, among_from_all, named_of_plain)

uppers_alike : (ones others : List (Filesystem ℕ)) → SameFilesystems ones others
    → list_any has_upper ones ≡ list_any has_upper others
uppers_alike [] [] same = refl
uppers_alike [] (other ∷ others) same = absurd same
uppers_alike (one ∷ ones) [] same = absurd same
uppers_alike (one ∷ ones) (other ∷ others) same =
    λ i. overlay_or false (λ overlay. is_some overlay.upper) (same.0.overlay i) || uppers_alike ones others same.1 i

pub same_worlds_have_no_upper_alike : SameWorldsHaveNoUpperAlike
same_worlds_have_no_upper_alike one other same none = all_from_among (λ f. has_upper f ≡ false) other.filesystems
    (none_among _ _ (sym (uppers_alike _ _ same.filesystems)
    ∙ none_from_among has_upper one.filesystems (among_from_all (λ f. has_upper f ≡ false) one.filesystems none)))
