-- Filesystems in the order of their numbers.
use Rattle.std.specs.Prelude.{List, [], if◌then◌else◌, nat_lt, ℕ, ◌∷◌}
use Rattle.vt_spec.specs.Machine.World.{Filesystem}

-- a filesystem put in before the first one whose number is not smaller
abbrev pub put_in : Filesystem ℕ → List (Filesystem ℕ) → List (Filesystem ℕ)
put_in filesystem [] = filesystem ∷ []
put_in filesystem (first ∷ rest) =
    if nat_lt first.number filesystem.number then first ∷ put_in filesystem rest else filesystem ∷ first ∷ rest
