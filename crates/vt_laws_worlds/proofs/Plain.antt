-- A world of plain filesystems has no overlay of which anything could be asked.
use Rattle.std.proofs.Common.{arith, ◌≡◌, ap, ℕ, nat_eq, Bool, true, false, [], None, true≢false, flat_map, All}
use Rattle.vt_spec.proofs.Common.{Among, Filesystem, Overlay, OverlayInvariants, World, all_from_among, among_from_all, common_steps, filter_none, is_overlay, list_all, list_all_from_among, list_any, live_upper_and_work, none_from_among, none_from_not_some, of_overlay, overlays}
use Rattle.vt_laws_mounts.specs.LettingGo.InUse.{UppersArePlain, has_upper_in}
use Rattle.vt_laws_trees.proofs.runs.answered.PlainStays.{plain_numbered}
use Rattle.vt_laws_worlds.specs.Worlds.Kept.{IsPlain}

module _ (world : World ℕ) (plain : IsPlain world) where
  pub no_overlay : (filesystem : Filesystem ℕ) → Among filesystem world.filesystems → filesystem.overlay ≡ None
  no_overlay filesystem m = none_from_not_some _
      (among_from_all (λ f. is_overlay f ≡ false) world.filesystems plain filesystem m)

  pub none_is_overlay : list_any is_overlay world.filesystems ≡ false
  none_is_overlay = none_from_among is_overlay world.filesystems
      (λ f m. among_from_all (λ g. is_overlay g ≡ false) world.filesystems plain f m)

  no_overlays : overlays world ≡ []
  no_overlays = filter_none is_overlay world.filesystems none_is_overlay

  of_plain : (said : Overlay ℕ → Bool) → list_all (of_overlay true said) world.filesystems ≡ true
  of_plain said = list_all_from_among (of_overlay true said) world.filesystems (λ f m. cc (no_overlay f m))

  no_changed_layers : live_upper_and_work world ≡ []
  no_changed_layers = ap (flat_map _) no_overlays

  pub plain_overlays : OverlayInvariants nat_eq world
  plain_overlays = grind (arith, common_steps, true≢false, plain_numbered world plain, of_plain, no_changed_layers)

  pub uppers_plain : UppersArePlain world
  uppers_plain =
      all_from_among (λ f. is_overlay f ≡ true → All (λ merged. has_upper_in f.number merged ≡ false) world.filesystems)
      world.filesystems (λ f m overlay. cc (among_from_all (λ g. is_overlay g ≡ false) world.filesystems plain f m))
