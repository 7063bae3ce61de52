-- Mounts that got types, and the groups that they left.
use Rattle.std.specs.Prelude.{All, Contains, List, [], if◌then◌else◌, length, map, nat_eq, ⊤, ℕ, ◌+◌, ◌∷◌, ◌≡◌}
use Rattle.vt_spec.specs.Language.Calls.{TypeWord}
use Rattle.vt_spec.specs.Language.Calls.TypeWord.{ToShared}
use Rattle.vt_spec.specs.Lists.{is_among}
use Rattle.vt_spec.specs.Machine.Mounts.{Mount, Propagation}
use Rattle.vt_spec.specs.Machine.Types.{retyped}
use Rattle.vt_spec.specs.Machine.World.{World}
use Rattle.vt_group.specs.Grouping.{Grouping, LacksGroup}
use Rattle.vt_location.specs.Numbers.{counted}
use Rattle.vt_mount.specs.MountsValue.{MountEntry}
use Rattle.vt_retype.specs.Retyping.{retyped as retyped_entry}
use Rattle.vt_propagate.specs.Seen.{IsSeen}
use Rattle.vt_laws_mounts.specs.Mounts.Attaching.{numbers_of}

-- these mounts get a type
abbrev pub set_if : List ℕ → Propagation ℕ → ℕ → Propagation ℕ → Propagation ℕ
set_if numbers kind number old = if is_among nat_eq number numbers then kind else old

-- these mounts, each with the number of a group, which are counted from the next one on
abbrev pub with_counts : ℕ → List ℕ → List (ℕ × ℕ)
with_counts next [] = []
with_counts next (number ∷ rest) = (number, counted next) ∷ with_counts (next + 1) rest

-- Mounts that become shared have these numbers for new groups,
abbrev pub NumbersGroups : TypeWord → ℕ → List ℕ → (ℕ → ℕ) → Type 0
NumbersGroups ToShared next numbers group = map (λ number. (number, group number)) numbers ≡ with_counts next numbers
NumbersGroups word next numbers group = ⊤

-- and this is counted next.
abbrev pub counted_after : TypeWord → ℕ → List ℕ → ℕ
counted_after ToShared next numbers = next + length numbers
counted_after word next numbers = next

-- Where mounts and groups were a world's, they are those of the world after a change of types; only types have changed.
pub record IsRetyped (word : TypeWord) (next later : ℕ) (numbers : List ℕ) (before now : Grouping)
    (old new : List MountEntry) : Type 0 where
  pub seen : (world : World ℕ) (group : ℕ → ℕ) (named : List (Mount ℕ)) → IsSeen world old before
      → All (Contains world.mounts) named
      → numbers_of named ≡ numbers → ((number : ℕ) → LacksGroup world (group number))
      → NumbersGroups word next numbers group
      → IsSeen (retyped nat_eq world group word named) new now
  pub kinds : (world : World ℕ) → IsSeen world old before
      → (kind : ℕ → Propagation ℕ → Propagation ℕ) × (new ≡ map (retyped_entry kind) old)
  pub counts : later ≡ counted_after word next numbers
