-- What a call of a task outside a sealed set leaves of the set in worlds that are the same as the policy's (profile).
use Rattle.std.specs.Prelude.{Contains, List, [], nat_eq, true, ℕ, ◌≡◌, ◌∷◌}
use Rattle.vt_spec.specs.Language.Calls.{Call, TaskName}
use Rattle.vt_spec.specs.Lists.{Fresh}
use Rattle.vt_spec.specs.Machine.Invariants.{IsWorld}
use Rattle.vt_spec.specs.Machine.Policy.{policy}
use Rattle.vt_spec.specs.Machine.SameWorlds.{SameWorlds}
use Rattle.vt_spec.specs.Machine.Sealed.{part_of, sealed, used_alone}
use Rattle.vt_spec.specs.Machine.World.{Filesystem, World}
use Rattle.vt_laws_sealed.specs.Outsiders.{IsOutsiders, IsOutsidersCall, OneCall, are_all_called}

-- the set is sealed off, its part is the same, and others have no foothold on a filesystem where they had none
pub record LeavesTheSameSealed (world later : World ℕ) (names : List TaskName) : Type 0 where
  pub sealed_off : sealed nat_eq later names ≡ true
  pub part : SameWorlds (part_of nat_eq later names) (part_of nat_eq world names)
  pub no_more : (filesystem : Filesystem ℕ) → Contains world.filesystems filesystem
      → used_alone nat_eq world names filesystem.number ≡ true → used_alone nat_eq later names filesystem.number ≡ true

-- So it is in every world that is the same as the one that an outsider's call leaves, beside every world that is the
-- same as the one before the call.
abbrev pub OutsidersLeaveSameWorldsSealed : Type 0
OutsidersLeaveSameWorldsSealed =
    (world other : World ℕ) → SameWorlds world other
    → (fresh : Fresh ℕ) (names : List TaskName) (name : TaskName) (call : Call)
    → IsOutsidersCall world fresh names name call
    → (later : World ℕ) → SameWorlds (policy nat_eq fresh world name call).world later
    → LeavesTheSameSealed other later names

-- Calls of outsiders lead from one world to the other. After each the run goes on from any world that is the same as
-- the one that the policy leaves.
abbrev pub OutsidersLeadTo : World ℕ → List TaskName → List OneCall → World ℕ → Type 0
OutsidersLeadTo world names [] last = SameWorlds world last
OutsidersLeadTo world names (one ∷ rest) last =
    IsOutsiders world names one
    × (next : World ℕ) × SameWorlds (policy nat_eq one.fresh world one.name one.call).world next
    × OutsidersLeadTo next names rest last

-- However many there are, they lead to a world where the set is sealed off, and its part the same.
abbrev pub OutsidersLeadToSealedWorlds : Type 0
OutsidersLeadToSealedWorlds =
    (world last : World ℕ) (names : List TaskName) (calls : List OneCall) → IsWorld nat_eq world
    → sealed nat_eq world names ≡ true → are_all_called world names ≡ true → OutsidersLeadTo world names calls last
    → (sealed nat_eq last names ≡ true) × SameWorlds (part_of nat_eq last names) (part_of nat_eq world names)
