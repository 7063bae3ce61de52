-- Worlds of plain filesystems.
use Rattle.std.specs.Prelude.{All, false, ℕ, ◌≡◌}
use Rattle.vt_spec.specs.Machine.World.{World, is_overlay}

-- no filesystem is an overlay
abbrev pub IsPlain : World ℕ → Type 0
IsPlain world = All (λ filesystem. is_overlay filesystem ≡ false) world.filesystems
