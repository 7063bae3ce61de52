-- No overlay of the code's world has an upper layer, nor a work directory.
use Rattle.std.proofs.Common.{◌≡◌, ◌++◌, ◌&&◌, All, Bool, [], None, Option, Some, false, is_some, not, nat_le, length, option_to_list, refl, sym, true, true≢false, ℕ}
use Rattle.vt_spec.proofs.Common.{Filesystem, Layer, Overlay, among_from_all, and_parts, has_fit_layers, is_empty_list, most_lowers, of_overlay, overlay_or, same_bool, upper_and_work}
use Rattle.vt_ns.proofs.Common.{IsHeld, WorldValue, all_from_among, among_from_list_all, world_of}

-- so changes write to no layer
abbrev pub WritesToNone : Filesystem ℕ → Type 0
WritesToNone filesystem = of_overlay [] upper_and_work filesystem ≡ []

-- a work directory comes with an upper one
no_directories : (upper work : Option (Layer ℕ)) (others : Bool) → is_some upper ≡ false
    → (others && same_bool (is_some upper) (is_some work)) ≡ true → option_to_list upper ++ option_to_list work ≡ []
no_directories None None others none fit = refl
no_directories None (Some work) others none fit = absurd (true≢false (sym (and_parts others false fit).1))
no_directories (Some upper) work others none fit = absurd (true≢false none)

writes_to_none : (filesystem : Filesystem ℕ) → of_overlay false (λ overlay. is_some overlay.upper) filesystem ≡ false
    → of_overlay true has_fit_layers filesystem ≡ true → WritesToNone filesystem
writes_to_none filesystem = by filesystem.overlay
  where
    by : (o : Option (Overlay ℕ)) → overlay_or false (λ overlay. is_some overlay.upper) o ≡ false
        → overlay_or true has_fit_layers o ≡ true → overlay_or [] upper_and_work o ≡ []
    by None none fit = refl
    by (Some overlay) none fit = no_directories overlay.upper overlay.work
        (not (is_empty_list overlay.lowers) && nat_le (length overlay.lowers) most_lowers) none fit

pub all_write_to_none : (value : WorldValue) → IsHeld value → All WritesToNone (world_of value).filesystems
all_write_to_none value held = all_from_among WritesToNone (world_of value).filesystems (λ filesystem m.
    writes_to_none filesystem
    (among_from_all (λ (f : Filesystem ℕ). of_overlay false (λ overlay. is_some overlay.upper) f ≡ false)
    (world_of value).filesystems held.overlays.read_only filesystem m)
    (among_from_list_all (of_overlay true has_fit_layers) (world_of value).filesystems
    held.in_world.overlays.fit_layers filesystem m))
