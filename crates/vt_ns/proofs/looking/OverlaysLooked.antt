-- What a world shows of the overlay at a location, by who mounted it.
use Rattle.std.proofs.Common.{◌≡◌, refl, sym, ap, subst, ◌∙◌, true≢false, ℕ, nat_eq, Bool, true, false, Option, Some, None, is_some, option_copied, option_map, [], Bor, IfSome, arith}
use Rattle.vt_spec.proofs.Common.{Credentials, Layer, Lower, Node, Overlay, Real, Upper, filesystem_at, filesystem_numbered, has_no_upper, holds_of, is_overlay_at, lies_only_in_lowers, mount_at, mount_numbered, node_allows, overlay_or, upper_object, common_steps}
use Rattle.vt_spec.specs.Machine.Looks.{mounter_may}
use Rattle.vt_ns.proofs.Common.{IsHeld, StoreValue, WorldValue, counted, layered_in, looks_of_value, with_store, world_of}
use Rattle.vt_looks.specs.Looking.{is_only_below}
use Rattle.vt_mounting.proofs.detach.LookLemmas.{shown_counted}
use Rattle.vt_ns.proofs.looking.Lending.{allows_alike}
use Rattle.vt_ns.proofs.looking.OverlaysAt.{no_overlay_there, overlay_there}
use Rattle.vt_ns.proofs.looking.UppersAsked.{found_without}
use Rattle.vt_ns.specs.Lent.{lent_alike, real_of_value}
use Rattle.vt_ns.specs.Mounters.{mounter_on}
use Rattle.vt_layered.specs.LayeredValue.{LayeredValue}
use Rattle.vt_store.specs.OverlaysValue.{layered_of}
use Rattle.vt_spec.specs.Machine.Mounts as meant

-- The mounter is that of the overlay in the store.
module _ (base : WorldValue) (store : StoreValue) (value : WorldValue) (is : with_store store base ≡ value)
    (held : IsHeld (with_store store base)) where
  mounter_counted : (count : ℕ) → option_map (λ (one : LayeredValue). one.overlay.mounter) (layered_in store count)
      ≡ option_map (λ (overlay : Overlay ℕ). overlay.mounter)
      (filesystem_numbered nat_eq (world_of value) (counted count)).overlay
  mounter_counted count = by (layered_in store count) refl
      ∙ ap (λ v. option_map (λ (overlay : Overlay ℕ). overlay.mounter)
      (filesystem_numbered nat_eq (world_of v) (counted count)).overlay) is
    where
      by : (o : Option LayeredValue) → layered_in store count ≡ o
          → option_map (λ (one : LayeredValue). one.overlay.mounter) o
          ≡ option_map (λ (overlay : Overlay ℕ). overlay.mounter)
          (filesystem_numbered nat_eq (world_of (with_store store base)) (counted count)).overlay
      by None e = cc (no_overlay_there base store held count e)
      by (Some layered) e =
          let there = overlay_there base store held count layered e in
          sym (ap (option_map (λ (one : Overlay ℕ). one.mounter)) there.is ∙ ap Some there.mounter)

  -- where the mount shows the filesystem of this count
  pub mounter_shown : (mount shown : ℕ) → counted shown ≡ (mount_numbered nat_eq (world_of value) mount).filesystem
      → option_map (λ (one : LayeredValue). one.overlay.mounter) (layered_in store shown)
      ≡ mounter_on (world_of value) mount
  mounter_shown mount shown shows = cc (mounter_counted shown)

  -- and nobody's, where there are no overlays
  pub nobody_mounted : store.overlays ≡ [] → (count : ℕ) → mounter_on (world_of value) (counted count) ≡ None
  nobody_mounted none count =
      let shown = shown_counted value (subst IsHeld is held) count in
      sym (mounter_shown (counted count) shown.0 (sym shown.1))
      ∙ ap (λ overlays. option_map (λ (one : LayeredValue). one.overlay.mounter) (layered_of overlays shown.0)) none

-- it is somebody's just if an overlay is lent
pub mounted_by_some : (lent : Option (Bor LayeredValue))
    → is_some lent ≡ is_some (option_map (λ (one : LayeredValue). one.overlay.mounter) (option_copied lent))
mounted_by_some lent = grind (arith, common_steps)

-- Looks at a location

module _ (value : WorldValue) (at : meant.Location ℕ) where
  abbrev overlay_here : Option (Overlay ℕ)
  overlay_here = (filesystem_at nat_eq (world_of value) at).overlay

  pub overlay_is : is_some (mounter_on (world_of value) at.mount) ≡ is_overlay_at (looks_of_value value) at
  overlay_is = grind (arith, common_steps)

  -- it has no upper layer
  pub no_upper_is : IsHeld value
      → is_some (mounter_on (world_of value) at.mount) ≡ has_no_upper (looks_of_value value) at
  no_upper_is held =
      grind (arith, common_steps, found_without value held (mount_at nat_eq (world_of value) at).filesystem)

  -- so all its objects are in lower ones
  pub only_below_is : IsHeld value
      → is_some (mounter_on (world_of value) at.mount) ≡ is_only_below (looks_of_value value) at
  only_below_is held = by overlay_here refl (found_without value held (mount_at nat_eq (world_of value) at).filesystem)
    where
      no_object : (overlay : Overlay ℕ) → overlay_here ≡ Some overlay → (o : Option (Layer ℕ)) → overlay.upper ≡ o
          → is_some o ≡ false → (real : Option (Real ℕ)) → overlay.real at.node ≡ real → upper_object real ≡ None
      no_object overlay e None upper none None is = refl
      no_object overlay e None upper none (Some (Lower layer path)) is = refl
      no_object overlay e None upper none (Some (Upper object)) is =
          absurd (true≢false (sym ((held.in_world.overlays.overlays_merge
          (mount_at nat_eq (world_of value) at).filesystem overlay e).upper_there at.node object is)
          ∙ ap (holds_of _) upper))
      no_object overlay e (Some layer) upper none real is = absurd (true≢false none)

      by : (o : Option (Overlay ℕ)) → overlay_here ≡ o → overlay_or false (λ overlay. is_some overlay.upper) o ≡ false
          → is_some (option_map (λ (overlay : Overlay ℕ). overlay.mounter) o)
          ≡ overlay_or false (λ overlay. lies_only_in_lowers overlay at.node) o
      by o e none = grind (arith, common_steps, is_some, no_object)

  -- the mounter is asked with what is lent
  pub mounter_is : (who : Credentials) → mounter_on (world_of value) at.mount ≡ Some who → (wanted : ℕ)
      → node_allows who wanted (real_of_value value at) ≡ mounter_may (looks_of_value value) at wanted
  mounter_is who some wanted = grind (arith, common_steps, allows_alike, lent_alike)

  -- nobody is on a plain tree
  pub nobody_is : mounter_on (world_of value) at.mount ≡ None → (wanted : ℕ)
      → true ≡ mounter_may (looks_of_value value) at wanted
  nobody_is none wanted = grind (arith, common_steps)

-- what the mounter of a filesystem is granted, where the mount of the location shows that
module _ (base : WorldValue) (store : StoreValue) (value : WorldValue) (is : with_store store base ≡ value)
    (held : IsHeld (with_store store base)) (at : meant.Location ℕ) (shown : ℕ)
    (shows : counted shown ≡ (mount_at nat_eq (world_of value) at).filesystem) where
  pub granted_is : (wanted : ℕ) (node : Node ℕ) (granted : Bool) → real_of_value value at ≡ Some node
      → IfSome (layered_in store shown) (λ layered. granted ≡ node_allows layered.overlay.mounter wanted (Some node))
      → (layered_in store shown ≡ None → granted ≡ true) → granted ≡ mounter_may (looks_of_value value) at wanted
  granted_is wanted node granted lent overlaid plain = by (layered_in store shown) refl overlaid
    where
      mounter : (o : Option LayeredValue) → layered_in store shown ≡ o
          → mounter_on (world_of value) at.mount ≡ option_map (λ (one : LayeredValue). one.overlay.mounter) o
      mounter o e = cc (mounter_shown base store value is held at.mount shown shows)

      by : (o : Option LayeredValue) → layered_in store shown ≡ o
          → IfSome o (λ layered. granted ≡ node_allows layered.overlay.mounter wanted (Some node))
          → granted ≡ mounter_may (looks_of_value value) at wanted
      by None e allowed = plain e ∙ nobody_is value at (mounter None e) wanted
      by (Some layered) e allowed =
          cc (lent, mounter_is value at layered.overlay.mounter (mounter (Some layered) e) wanted)
