-- Each filesystem has a number of its own.
use Rattle.std.specs.Prelude.{false, nat_eq, ℕ, ◌≡◌}
use Rattle.vt_spec.specs.Lists.{any_pair}
use Rattle.vt_spec.specs.Machine.World.{Filesystem, World}

abbrev pub OneFilesystemANumber : World ℕ → Type 0
OneFilesystemANumber world = any_pair (λ (a b : Filesystem ℕ). nat_eq a.number b.number) world.filesystems ≡ false
