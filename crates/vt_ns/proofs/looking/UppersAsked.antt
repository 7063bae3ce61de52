-- What is asked of overlays that have an upper layer alone: no overlay has one, so it is asked of plain trees.
use Rattle.std.proofs.Common.{◌≡◌, refl, ℕ, nat_eq, false, List, [], None, is_some, sym, ap, ◌∙◌, true≢false, not, Option, Some}
use Rattle.vt_spec.proofs.Common.{Change, Filesystem, filesystem_at, filesystem_numbered, has_lower_directory_at, has_no_upper, mount_at, mounter_rules, of_overlay, Overlay, overlay_or}
use Rattle.vt_laws_trees.proofs.trees.TreesOfWorlds.{numbered_anyhow}
use Rattle.vt_ns.proofs.Common.{IsHeld, WorldValue, looks_of_value, world_of}
use Rattle.vt_spec.specs.Machine.Mounts as meant

-- no overlay that is found has an upper layer
pub found_without : (value : WorldValue) → IsHeld value → (number : ℕ)
    → of_overlay false (λ overlay. is_some overlay.upper) (filesystem_numbered nat_eq (world_of value) number) ≡ false
found_without value held number =
    numbered_anyhow (λ (f : Filesystem ℕ). of_overlay false (λ overlay. is_some overlay.upper) f ≡ false) number
    (world_of value).filesystems held.overlays.read_only refl

module _ (value : WorldValue) (held : IsHeld value) (at : meant.Location ℕ)
    (asked : has_no_upper (looks_of_value value) at ≡ false) where
  plain_there : (filesystem_at nat_eq (world_of value) at).overlay ≡ None
  plain_there = by (filesystem_at nat_eq (world_of value) at).overlay
      (found_without value held (mount_at nat_eq (world_of value) at).filesystem) asked
    where
      by : (o : Option (Overlay ℕ)) → overlay_or false (λ overlay. is_some overlay.upper) o ≡ false
          → overlay_or false (λ overlay. not (is_some overlay.upper)) o ≡ false → o ≡ None
      by None none other = refl
      by (Some overlay) none other = absurd (true≢false (sym (ap not none) ∙ other))

  pub no_lower_directory : (name : List ℕ) → has_lower_directory_at nat_eq (world_of value) at name ≡ false
  no_lower_directory name = cc plain_there

  pub unasked : (change : Change ℕ) → mounter_rules nat_eq (world_of value) at change ≡ []
  unasked change = cc plain_there
