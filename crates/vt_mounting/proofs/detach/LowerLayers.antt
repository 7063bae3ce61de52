-- Worlds in which each overlay has all its layers as lower ones: so it uses their directories alone, and what mounts and
-- tasks exchange they exchange there, too.
use Rattle.std.proofs.Common.{◌≡◌, refl, ap, ◌∙◌, ℕ, nat_eq, List, [], ◌∷◌, ◌++◌, map, filter, flat_map, Option, Some, None, append-nil}
use Rattle.vt_spec.proofs.Common.{Filesystem, Layer, Overlay, World, filesystem_numbered, is_overlay, layers_of}
use Rattle.vt_mounting.proofs.Common.{Exchanges, Inode, filter-map}
use Rattle.vt_laws_mounts.specs.LettingGo.Overlays.{used_by_filesystem}
use Rattle.vt_laws_upper_layers.proofs.counted.Uses.{exchanges_are_lowered}
use Rattle.vt_laws_upper_layers.proofs.lowered.Counted.{numbered-lowered}
use Rattle.vt_laws_upper_layers.specs.Lowered.{lowered, lowered_filesystem, no_pins}
use Rattle.vt_mounting.proofs.detach.OverlaysGone.{layers_used, uses_layers}

abbrev pub of_lowers : World ℕ → World ℕ
of_lowers world = lowered no_pins world

abbrev pub with_lowers : Filesystem ℕ → Filesystem ℕ
with_lowers filesystem = lowered_filesystem no_pins filesystem

pub exchanges_of_lowers : {world after : World ℕ} {gained lost : List Inode} {filesystem : ℕ}
    → after.filesystems ≡ world.filesystems → Exchanges gained lost filesystem world after
    → Exchanges gained lost filesystem (of_lowers world) (of_lowers after)
exchanges_of_lowers {world} {after} {gained} {lost} {filesystem} same exchanges =
    exchanges_are_lowered no_pins world after gained lost filesystem same exchanges

-- What an overlay uses

pub uses_of_lowers : (filesystem : Filesystem ℕ) → used_by_filesystem (with_lowers filesystem) ≡ layers_used filesystem
uses_of_lowers filesystem = by filesystem.overlay
  where
    by : (o : Option (Overlay ℕ)) → used_by_filesystem (with_lowers (record filesystem { overlay = o }))
        ≡ layers_used (record filesystem { overlay = o })
    by None = uses_layers (with_lowers (record filesystem { overlay = None })) refl
    by (Some overlay) = uses_layers (with_lowers (record filesystem { overlay = Some overlay })) refl
        ∙ ap (map (λ (layer : Layer ℕ). (layer.filesystem, layer.directory))) (append-nil (layers_of overlay))

pub all_use_lowers : (list : List (Filesystem ℕ))
    → flat_map used_by_filesystem (map with_lowers list) ≡ flat_map layers_used list
all_use_lowers [] = refl
all_use_lowers (first ∷ rest) = λ i. uses_of_lowers first i ++ all_use_lowers rest i

-- Overlays are those that there were,

still_overlay : (filesystem : Filesystem ℕ) → is_overlay (with_lowers filesystem) ≡ is_overlay filesystem
still_overlay filesystem = by filesystem.overlay
  where
    by : (o : Option (Overlay ℕ)) → is_overlay (with_lowers (record filesystem { overlay = o }))
        ≡ is_overlay (record filesystem { overlay = o })
    by None = refl
    by (Some overlay) = refl

pub overlays_of_lowers : (world : World ℕ)
    → filter is_overlay (of_lowers world).filesystems ≡ map with_lowers (filter is_overlay world.filesystems)
overlays_of_lowers world = filter-map is_overlay with_lowers world.filesystems still_overlay

-- and filesystems are found by their numbers.
pub numbered_of_lowers : (world : World ℕ) (number : ℕ) → filesystem_numbered nat_eq (of_lowers world) number
    ≡ with_lowers (filesystem_numbered nat_eq world number)
numbered_of_lowers world number = numbered-lowered no_pins world number
