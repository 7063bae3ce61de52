-- The filesystem that the definitions find by a number, where it is no overlay: the one that is kept by its inodes.
use Rattle.std.proofs.Common.{◌≡◌, refl, sym, ap, subst, ◌∙◌, ℕ, nat_eq, eqb-true, Bool, true, false, true≢false, unwrap_or}
use Rattle.vt_spec.proofs.Common.{Filesystem, filesystem_numbered, is_overlay, no_filesystem}
use Rattle.vt_mounting.proofs.Common.{Among, IsHeld, WorldValue, all_from_among, among-from_filter, counted, entry_at, filesystem_seen, filesystems_seen, found_by_number, found_filesystem, overlays_seen, world_of}
use Rattle.vt_laws_worlds.proofs.overlays_stay.weaving.WovenLists.{plain_ones_are_found}
use Rattle.vt_world.specs.Held.{HoldsOverlays}
use Rattle.vt_mounting.proofs.detach.FilesystemsFound.{filesystem_found}
use Rattle.vt_mounting.proofs.detach.Overlaid.{overlays_are}

-- an overlay that is kept is one of the world
pub overlay_among : (value : WorldValue) → HoldsOverlays value → (overlay : Filesystem ℕ)
    → Among overlay (overlays_seen value.overlays)
    → Among overlay (world_of value).filesystems × (is_overlay overlay ≡ true)
overlay_among value holds overlay m = among-from_filter is_overlay (world_of value).filesystems overlay
    (subst (Among overlay) (sym (overlays_are value holds)) m)

pub found_where_plain : (value : WorldValue) → IsHeld value → (number : ℕ)
    → is_overlay (filesystem_numbered nat_eq (world_of value) number) ≡ false
    → filesystem_numbered nat_eq (world_of value) number ≡ filesystem_found value.filesystems number
found_where_plain value held number plain = ap (λ o. unwrap_or o (no_filesystem number))
    (plain_ones_are_found (filesystems_seen value.filesystems) (overlays_seen value.overlays) number
    (all_from_among (λ (overlay : Filesystem ℕ). nat_eq number overlay.number ≡ false) (overlays_seen value.overlays)
    (λ overlay m. by overlay m (nat_eq number overlay.number) refl)))
  where
    by : (overlay : Filesystem ℕ) → Among overlay (overlays_seen value.overlays) → (b : Bool)
        → nat_eq number overlay.number ≡ b → b ≡ false
    by overlay m false e = refl
    by overlay m true e =
        let there = overlay_among value held.overlays overlay m in
        absurd (true≢false (sym there.1
        ∙ ap is_overlay (sym (found_filesystem (world_of value).filesystems held.in_world.files.one_filesystem overlay
        there.0) ∙ ap (filesystem_numbered nat_eq (world_of value)) (sym (eqb-true number overlay.number e))) ∙ plain))

-- so by its count
pub counted_where_plain : (value : WorldValue) → IsHeld value → (count : ℕ)
    → is_overlay (filesystem_numbered nat_eq (world_of value) (counted count)) ≡ false
    → filesystem_numbered nat_eq (world_of value) (counted count) ≡ filesystem_seen (entry_at value.filesystems count)
counted_where_plain value held count plain =
    found_where_plain value held (counted count) plain ∙ found_by_number value.filesystems count
