-- The numbers of nodes by where they were born. An inode number that stays the same for an object as long as it is in
-- use: the kernel's overlayfs document, "inode properties".
use Rattle.std.specs.Prelude.{Bool, nat_lt, true, ℕ, ⊤, ◌&&◌, ◌*◌, ◌+◌, ◌<◌}
use Rattle.vt_location.specs.declared.births.Birth.{Birth}
use Rattle.vt_location.specs.declared.births.Birth.TheVariants.{Below, Here}

-- the count of a filesystem with that of a birth, which is 0 for what was born here
abbrev pub born_in : ℕ → Birth → ℕ
born_in filesystem Here = filesystem
born_in filesystem (Below layer directory rank) =
    filesystem + 18446744073709551616
    * (1 + (directory + 18446744073709551616 * (layer + 18446744073709551616 * rank)))

-- slots and places of layers are below 2^64
abbrev pub IsSmallBirth : Birth → Type 0
IsSmallBirth Here = ⊤
IsSmallBirth (Below layer directory rank) =
    (directory < 18446744073709551616) × (layer < 18446744073709551616)

abbrev pub is_small_birth : Birth → Bool
is_small_birth Here = true
is_small_birth (Below layer directory rank) =
    nat_lt directory 18446744073709551616 && nat_lt layer 18446744073709551616
