-- The mounts that are attached in a namespace.
use Rattle.std.specs.List.{list_all}
use Rattle.std.specs.Prelude.{Bool, List, [], filter, map, nat_eq, nat_lt, true, ℕ, ◌&&◌, ◌∷◌, ◌≡◌}
use Rattle.vt_spec.specs.Lists.{holds_of}
use Rattle.vt_spec.specs.Machine.Mounts.{Mount}
use Rattle.vt_location.specs.declared.numbers.MountId.{MountId}
use Rattle.vt_location.specs.Numbers.{counted}
use Rattle.vt_mount.specs.MountsValue.{MountEntry, mounts_in}

abbrev pub attached_in : ℕ → List MountEntry → List (Mount ℕ)
attached_in namespace entries = filter (λ mount. holds_of (nat_eq namespace) mount.namespace) (mounts_in entries)

-- these are the mounts of a list, by their numbers
abbrev pub AreOf : List MountId → List (Mount ℕ) → Type 0
AreOf ids mounts = map (λ id. counted id.count) ids ≡ map (λ mount. mount.number) mounts

-- each count is less than those after it
abbrev pub are_rising : List MountId → Bool
are_rising [] = true
are_rising (id ∷ rest) = list_all (λ later. nat_lt id.count later.count) rest && are_rising rest
