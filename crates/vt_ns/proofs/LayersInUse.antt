-- Layers of an overlay that is to be mounted, where no live overlay has an upper layer: EBUSY of mount(2).
use Rattle.std.proofs.Common.{◌≡◌, ◌&&◌, ◌||◌, All, filter, nat_eq, refl, ℕ, false, List, [], ◌∷◌, flat_map, ◌++◌, ap, ◌∙◌, Option, Some, None, option_to_list}
use Rattle.vt_spec.proofs.Common.{All-head, All-tail, Filesystem, Layer, World, filesystem_numbered, in_use, is_overlay, lies_or_counts_under, list_any, list_any-append, of_overlay, or-false, overlaps_one_of, upper_and_work, and-false, Overlay, overlay_or}
use Rattle.vt_spec.specs.Machine.Locked.{live_layers}
use Rattle.vt_ns.proofs.WithoutUppers.{WritesToNone, all_write_to_none}
use Rattle.vt_ns.proofs.Common.{IsHeld, WorldValue, world_of}

module _ (world : World ℕ) where
  overlaps_none : (layer : Layer ℕ) → overlaps_one_of nat_eq world [] layer ≡ false
  overlaps_none layer = by (filesystem_numbered nat_eq world layer.filesystem).files.numbers where
    by : (numbers : List ℕ)
        → list_any (λ object. lies_or_counts_under nat_eq world layer.filesystem object layer && false) numbers ≡ false
    by [] = refl
    by (number ∷ rest) = rw (and-false (lies_or_counts_under nat_eq world layer.filesystem number layer)) (by rest)

  none_overlap : (layers : List (Layer ℕ)) → list_any (overlaps_one_of nat_eq world []) layers ≡ false
  none_overlap [] = refl
  none_overlap (layer ∷ rest) = rw (overlaps_none layer) (none_overlap rest)

-- no filesystem writes to a layer
nothing_written : (all : List (Filesystem ℕ)) → All WritesToNone all
    → flat_map (of_overlay [] upper_and_work) (filter is_overlay all) ≡ []
nothing_written [] none = refl
nothing_written (filesystem ∷ rest) none = by (nothing_written rest (All-tail WritesToNone filesystem rest none))
    filesystem.overlay (All-head WritesToNone filesystem rest none)
  where
    by : flat_map (of_overlay [] upper_and_work) (filter is_overlay rest) ≡ [] → (overlay : Option (Overlay ℕ))
        → overlay_or [] upper_and_work overlay ≡ []
        → flat_map (of_overlay [] upper_and_work) (filter is_overlay (record filesystem { overlay = overlay } ∷ rest)) ≡ []
    by later None writes = later
    by later (Some overlay) writes =
        ap (λ first. first ++ flat_map (of_overlay [] upper_and_work) (filter is_overlay rest)) writes ∙ later

-- so the upper and the work directory alone may be in use
pub in_use_above : (value : WorldValue) → IsHeld value → (wanted : Overlay ℕ) → in_use nat_eq (world_of value) wanted
    ≡ (list_any (overlaps_one_of nat_eq (world_of value) (live_layers (world_of value))) (option_to_list wanted.upper)
    || list_any (overlaps_one_of nat_eq (world_of value) (live_layers (world_of value))) (option_to_list wanted.work))
in_use_above value held wanted =
    let overlaps = overlaps_one_of nat_eq (world_of value) (live_layers (world_of value)) in
    let lower = ap (λ written. list_any (overlaps_one_of nat_eq (world_of value) written) wanted.lowers)
    (nothing_written (world_of value).filesystems (all_write_to_none value held))
    ∙ none_overlap (world_of value) wanted.lowers in
    (λ i. list_any-append overlaps (option_to_list wanted.upper) (option_to_list wanted.work) i || lower i) ∙ or-false _
