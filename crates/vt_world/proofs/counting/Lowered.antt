-- Worlds without upper layers are lowered to themselves, so that the counts of the lowered world are theirs.
use Rattle.std.proofs.Common.{◌≡◌, refl, sym, ap, subst, ◌∙◌, ℕ, nat_eq, nat_le, true, false, true≢false, not, ◌&&◌, [], length, map, flat_map, Option, Some, None, is_some, option_to_list, All}
use Rattle.vt_spec.proofs.Common.{Among, Filesystem, Inodes, IsWorld, Layer, Overlay, World, all_from_among, among_from_all, among_from_list_all, and_parts, filesystem_numbered, has_fit_layers, is_empty_list, most_lowers, none_from_not_some, none_is_some, of_overlay, overlay_or, same_bool}
use Rattle.vt_laws_trees.proofs.trees.TreesOfWorlds.{numbered_anyhow}
use Rattle.vt_laws_mounts.specs.Counts.BesideOverlays.{OverlaysHaveNoUpper}
use Rattle.vt_laws_mounts.specs.Counts.Counted.{IsCounted}
use Rattle.vt_laws_upper_layers.proofs.lowered.Counted.{read_only_stays}
use Rattle.vt_laws_upper_layers.specs.Lowered.{IsReadOnly, Pins, lowered}
use Rattle.vt_laws_upper_layers.specs.UnnamedPins.{objects_unnamed, pin_of, pins_in, unnamed_pins}
use Rattle.vt_fs.specs.FilesystemsValue.{FilesystemEntry, filesystem_seen, inodes_seen}
use Rattle.vt_world.specs.Held.{CountsItsMounts, IsHeld}
use Rattle.vt_world.specs.WorldValue.{WorldValue, world_of}

abbrev HasNoUpper : Filesystem ℕ → Type 0
HasNoUpper filesystem = of_overlay false (λ overlay. is_some overlay.upper) filesystem ≡ false

-- an overlay without an upper layer pins nothing

nothing_in : (filesystem : Filesystem ℕ) (overlay : Overlay ℕ) (upper : Option (Layer ℕ)) → is_some upper ≡ false
    → flat_map (λ upper. map (pin_of upper) (objects_unnamed filesystem overlay)) (option_to_list upper) ≡ []
nothing_in filesystem overlay None none = refl
nothing_in filesystem overlay (Some upper) none = absurd (true≢false none)

nothing_pinned : (filesystem : Filesystem ℕ) (o : Option (Overlay ℕ))
    → overlay_or false (λ overlay. is_some overlay.upper) o ≡ false → overlay_or [] (pins_in filesystem) o ≡ []
nothing_pinned filesystem None none = refl
nothing_pinned filesystem (Some overlay) none = nothing_in filesystem overlay overlay.upper none

-- and has no work directory
workless : (upper work : Option (Layer ℕ)) → upper ≡ None → same_bool (is_some upper) (is_some work) ≡ true
    → work ≡ None
workless None None none fit = refl
workless None (Some work) none fit = absurd (true≢false (sym fit))
workless (Some upper) work none fit = absurd (none_is_some upper (sym none))

module _ (world : World ℕ) (is : IsWorld nat_eq world) (no_upper : OverlaysHaveNoUpper world) where
  none_pinned : (number : ℕ) → unnamed_pins world number ≡ []
  none_pinned number =
      nothing_pinned (filesystem_numbered nat_eq world number) (filesystem_numbered nat_eq world number).overlay
      (numbered_anyhow HasNoUpper number world.filesystems no_upper refl)

  read_only : All IsReadOnly world.filesystems
  read_only = all_from_among IsReadOnly world.filesystems (λ f m overlay e.
      let none : overlay.upper ≡ None = none_from_not_some overlay.upper
      (subst (λ (o : Option (Overlay ℕ)). overlay_or false (λ one. is_some one.upper) o ≡ false) e
      (among_from_all HasNoUpper world.filesystems no_upper f m)) in
      let fit : has_fit_layers overlay ≡ true = subst (λ (o : Option (Overlay ℕ)). overlay_or true has_fit_layers o ≡ true) e
      (among_from_list_all (of_overlay true has_fit_layers) world.filesystems is.overlays.fit_layers f m) in (
        none,
        workless overlay.upper overlay.work none
            (and_parts (not (is_empty_list overlay.lowers) && nat_le (length overlay.lowers) most_lowers)
            (same_bool (is_some overlay.upper) (is_some overlay.work)) fit).1,
      ))

  pub lowered_itself : lowered (unnamed_pins world) world ≡ world
  lowered_itself = ap (λ (pins : Pins). lowered pins world) (λ i. λ number. none_pinned number i)
      ∙ read_only_stays world read_only

  module _ (filesystem : Filesystem ℕ) (inodes : Inodes ℕ) where
    pub counted_lowered : IsCounted world filesystem inodes
        → IsCounted (lowered (unnamed_pins world) world) filesystem inodes
    counted_lowered counted = subst (λ (w : World ℕ). IsCounted w filesystem inodes) (sym lowered_itself) counted

    pub counted_itself : IsCounted (lowered (unnamed_pins world) world) filesystem inodes
        → IsCounted world filesystem inodes
    counted_itself counted = subst (λ (w : World ℕ). IsCounted w filesystem inodes) lowered_itself counted

-- the counted inodes of the code's world are those of its filesystems
pub counts_there : (value : WorldValue) → IsHeld value → (entry : FilesystemEntry) → Among entry value.filesystems
    → IsCounted (world_of value) (filesystem_seen entry) (inodes_seen entry)
counts_there value held entry m =
    counted_itself (world_of value) held.in_world held.overlays.read_only (filesystem_seen entry) (inodes_seen entry)
    (among_from_all (CountsItsMounts (world_of value)) value.filesystems held.filesystems entry m).inodes
