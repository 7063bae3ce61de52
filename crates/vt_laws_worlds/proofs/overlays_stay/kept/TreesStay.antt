-- The trees of overlays that are left are as they were.
use Rattle.std.proofs.Common.{◌≡◌, refl, sym, ap, subst, ◌∙◌, ℕ, nat_eq, Bool, true, false, true≢false, map, Option, Some}
use Rattle.vt_spec.proofs.Common.{Among, Filesystem, Fresh, IsWorld, Overlay, Permit, Real, Task, World, among-filter, among-from_filter, filesystem_numbered, is_among, is_mounted, is_overlay}
use Rattle.vt_laws_mounts.proofs.letting_go.sweeps.OfWorlds.{found_filesystem}
use Rattle.vt_laws_trees.proofs.trees.TreesOfWorlds.{number_numbered}
use Rattle.vt_laws_mounts.specs.Counts.BesideOverlays.{OverlaysHaveNoUpper}
use Rattle.vt_laws_mounts.specs.Counts.OverlaysStay.{OverlaysAreNamed}
use Rattle.vt_laws_mounts.proofs.counts.using.Swept.{found_is, not_found}
use Rattle.vt_laws_trees.specs.Overlays.MergedTrees.{IsNamedBy}
use Rattle.vt_laws_worlds.specs.Permits.Left.{IsGiven, left_by}
use Rattle.vt_laws_trees.specs.Overlays.TreesSeen.{AreNoLarger, real_seen, tree_seen}
use Rattle.vt_laws_trees.proofs.overlays.seen.SeenTrees.{overlays_are_seen}
use Rattle.vt_laws_worlds.specs.OverlaysStay.Kept.{MountedOverlayStays, SeenTreesStay}
use Rattle.vt_laws_worlds.proofs.overlays_stay.kept.OverlaysLeft.{overlays_in}
use Rattle.vt_laws_worlds.proofs.overlays_stay.kept.OverlaysSwept.{mounted_overlays_stay}
use Rattle.vt_laws_worlds.proofs.overlays_stay.left.Given.{given_permits_give_no_upper}

module _ (world : World ℕ) (fresh : Fresh ℕ) (task : Task ℕ) (permit : Permit ℕ) (number : ℕ)
    (is : IsWorld nat_eq world) (none : OverlaysHaveNoUpper world) (named : OverlaysAreNamed world)
    (given : IsGiven fresh world task permit)
    (there : is_overlay (filesystem_numbered nat_eq (left_by fresh world task permit) number) ≡ true) where
  abbrev left : World ℕ
  left = left_by fresh world task permit

  abbrev found : Filesystem ℕ
  found = filesystem_numbered nat_eq left number

  in_left : (b : Bool) → is_among nat_eq number (map (λ f. f.number) left.filesystems) ≡ b
      → Among found left.filesystems
  in_left true e = found_is left.filesystems number e
  in_left false e = absurd (true≢false (sym there ∙ ap is_overlay (not_found left.filesystems number e)))

  in_world : Among found world.filesystems
  in_world = (among-from_filter is_overlay world.filesystems found
      (among-from_filter (λ merged. is_mounted nat_eq left merged.number) (overlays_in world.filesystems) found
      (subst (Among found) (mounted_overlays_stay world fresh task permit is none named given)
      (among-filter is_overlay left.filesystems found
      (in_left (is_among nat_eq number (map (λ f. f.number) left.filesystems)) refl) there))).0).0

  pub stays : found ≡ filesystem_numbered nat_eq world number
  stays = sym (found_filesystem world.filesystems is.files.one_filesystem found in_world)
      ∙ ap (filesystem_numbered nat_eq world) (number_numbered number left.filesystems)

pub mounted_overlay_stays : MountedOverlayStays
mounted_overlay_stays world fresh task permit number is none named given there =
    stays world fresh task permit number is none named given there

module _ (world : World ℕ) (fresh : Fresh ℕ) (task : Task ℕ) (permit : Permit ℕ) (number : ℕ) (overlay : Overlay ℕ)
    (number_of another : Real ℕ → ℕ) (held other : ℕ → Option (Real ℕ)) (longest longer : ℕ)
    (is : IsWorld nat_eq world) (is_left : IsWorld nat_eq (left_by fresh world task permit))
    (same : filesystem_numbered nat_eq (left_by fresh world task permit) number
    ≡ filesystem_numbered nat_eq world number) (was : (filesystem_numbered nat_eq world number).overlay ≡ Some overlay)
    (named_before : IsNamedBy number_of held (filesystem_numbered nat_eq world number) overlay)
    (named_then : IsNamedBy another other (filesystem_numbered nat_eq world number) overlay)
    (few : AreNoLarger longest world overlay) (few_then : AreNoLarger longer (left_by fresh world task permit) overlay)
  where
    pub both_seen : (tree_seen another other longer (left_by fresh world task permit) overlay
        ≡ tree_seen number_of held longest world overlay)
        × (real_seen another other longer (left_by fresh world task permit) overlay
        ≡ real_seen number_of held longest world overlay)
    both_seen =
        let before = overlays_are_seen number_of held world number overlay longest is was named_before few in
        let then = overlays_are_seen another other (left_by fresh world task permit) number overlay longer is_left
        (ap (λ (f : Filesystem ℕ). f.overlay) same ∙ was)
        (subst (λ f. IsNamedBy another other f overlay) (sym same) named_then) few_then in (
          sym then.0 ∙ ap (λ (f : Filesystem ℕ). f.files.tree) same ∙ before.0,
          sym then.1 ∙ before.1,
        )

pub seen_trees_stay : SeenTreesStay
seen_trees_stay world fresh task permit number overlay number_of another held other longest longer is none named given
    was there named_before named_then few few_then =
    both_seen world fresh task permit number overlay number_of another held other longest longer is
    (given_permits_give_no_upper world fresh task permit is none given).0
    (stays world fresh task permit number is none named given there) was named_before named_then few few_then
