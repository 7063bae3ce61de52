-- The filesystem that a permit changes where no overlay has an upper layer.
use Rattle.std.proofs.Common.{◌≡◌, refl, sym, ap, subst, ◌∙◌, ℕ, nat_eq, Bool, true, false, cond, ◌&&◌, List, [], ◌∷◌, All, find, Option, Some, None, is_some, unwrap_or}
use Rattle.vt_spec.proofs.Common.{Access, Filesystem, Layer, Location, Overlay, World, among_from_all, and-false, changed_at, changed_if, filesystem_at, filesystems-taken_away, filesystems-without_replaced, found_among, is_copied_up, lies_only_in_lowers, mount_at, no_filesystem, numbers_of_change, of_overlay, opens_for_writing, overlay_or, shown-taken_away, shown-without_replaced, without_mounts_on, without_replaced}
use Rattle.vt_laws_mounts.specs.Counts.BesideOverlays.{OverlaysHaveNoUpper}
use Rattle.vt_laws_trees.proofs.layers.layers.LowersWorld.{number_of_filesystem}
use Rattle.vt_spec.specs.Machine.Filesystems.{numbers_over}
use Rattle.vt_world.specs.Held.{IsHeld}
use Rattle.vt_world.specs.WorldValue.{WorldValue, world_of}

abbrev has_upper : Filesystem ℕ → Bool
has_upper filesystem = of_overlay false (λ overlay. is_some overlay.upper) filesystem

-- what is changed at a location
abbrev pub told_at : List (Filesystem ℕ) → ℕ → List ℕ
told_at filesystems number = cond (is_some (unwrap_or (find (λ (f : Filesystem ℕ). nat_eq number f.number) filesystems)
    (no_filesystem number)).overlay) [] (number ∷ [])

module _ (world : World ℕ) (none : OverlaysHaveNoUpper world) (at : Location ℕ) where
  abbrev here : Filesystem ℕ
  here = filesystem_at nat_eq world at

  abbrev number : ℕ
  number = (mount_at nat_eq world at).filesystem

  no_upper : has_upper here ≡ false
  no_upper = by (find (λ (f : Filesystem ℕ). nat_eq number f.number) world.filesystems) refl
    where
      by : (o : Option (Filesystem ℕ)) → find (λ (f : Filesystem ℕ). nat_eq number f.number) world.filesystems ≡ o
          → has_upper (unwrap_or o (no_filesystem number)) ≡ false
      by None e = refl
      by (Some f) e = among_from_all (λ (f : Filesystem ℕ). has_upper f ≡ false) world.filesystems none f
          (found_among (λ (f : Filesystem ℕ). nat_eq number f.number) world.filesystems f e)

  over : (upper : Option (Layer ℕ)) → is_some upper ≡ false → numbers_over nat_eq world here upper ≡ []
  over None e = refl
  over (Some layer) e = absurd cc

  pub changed_here : changed_at nat_eq world at ≡ told_at world.filesystems number
  changed_here = by here.overlay no_upper
    where
      by : (overlay : Option (Overlay ℕ)) → overlay_or false (λ (o : Overlay ℕ). is_some o.upper) overlay ≡ false
          → numbers_of_change nat_eq world here overlay ≡ cond (is_some overlay) [] (number ∷ [])
      by None e = ap (λ n. n ∷ []) (number_of_filesystem world number)
      by (Some overlay) e = over overlay.upper e

  -- opening copies nothing up that a change number tells
  pub none_copied : (access : Access) → changed_if nat_eq (is_copied_up nat_eq world at access) world at ≡ []
  none_copied access = by here.overlay refl
    where
      if_made : (b : Bool) → changed_at nat_eq world at ≡ [] → changed_if nat_eq b world at ≡ []
      if_made true e = e
      if_made false e = refl

      by : (overlay : Option (Overlay ℕ)) → here.overlay ≡ overlay
          → changed_if nat_eq (is_copied_up nat_eq world at access) world at ≡ []
      by None e = ap (λ b. changed_if nat_eq b world at) (ap (λ o. opens_for_writing access
          && overlay_or false (λ (overlay : Overlay ℕ). lies_only_in_lowers overlay at.node) o) e
          ∙ and-false (opens_for_writing access))
      by (Some overlay) e = if_made _ (changed_here ∙ ap (λ o. cond (is_some o) [] (number ∷ [])) e)

-- the code's world
pub changed_in : (value : WorldValue) → IsHeld value → (at : Location ℕ) → changed_at nat_eq (world_of value) at
    ≡ told_at (world_of value).filesystems (mount_at nat_eq (world_of value) at).filesystem
changed_in value held at = changed_here (world_of value) held.overlays.read_only at

-- the same where mounts were detached
without_same : (world later : World ℕ) → OverlaysHaveNoUpper world → later.filesystems ≡ world.filesystems
    → (at : Location ℕ) → (mount_at nat_eq later at).filesystem ≡ (mount_at nat_eq world at).filesystem
    → changed_at nat_eq later at ≡ changed_at nat_eq world at
without_same world later none files at shown =
    changed_here later (subst (λ list. All (λ (f : Filesystem ℕ). has_upper f ≡ false) list) (sym files) none) at
    ∙ (λ i. told_at (files i) (shown i)) ∙ sym (changed_here world none at)

pub changed_beside : (value : WorldValue) → IsHeld value → (directory at : Location ℕ)
    → changed_at nat_eq (without_mounts_on nat_eq (world_of value) directory) at ≡ changed_at nat_eq (world_of value) at
changed_beside value held directory at = without_same (world_of value)
    (without_mounts_on nat_eq (world_of value) directory) held.overlays.read_only (filesystems-taken_away (world_of value) _) at (shown-taken_away (world_of value) _ at)

pub changed_replacing : (value : WorldValue) → IsHeld value → (replaced : Option (Location ℕ)) (at : Location ℕ)
    → changed_at nat_eq (without_replaced nat_eq (world_of value) replaced) at ≡ changed_at nat_eq (world_of value) at
changed_replacing value held replaced at = without_same (world_of value)
    (without_replaced nat_eq (world_of value) replaced) held.overlays.read_only
    (filesystems-without_replaced (world_of value) replaced) at
    (shown-without_replaced (world_of value) replaced at)
