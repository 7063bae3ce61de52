-- The mounts that receive the events of a group.
use Rattle.std.specs.Prelude.{Bool, List, Some, [], if◌then◌else◌, map, nat_eq, true, ℕ, ◌++◌, ◌∷◌, ◌≡◌}
use Rattle.std.specs.List.{list_any}
use Rattle.vt_spec.specs.Lists.{chain, holds_of, is_among}
use Rattle.vt_spec.specs.Machine.Mounts.{Propagation, source_of}
use Rattle.vt_location.specs.declared.numbers.GroupId.{GroupId}
use Rattle.vt_location.specs.declared.numbers.MountId.{MountId}
use Rattle.vt_group.specs.Grouping.{Grouping, master_in, propagation_in}
use Rattle.vt_location.specs.Numbers.{group_number}

-- a mount receives from one of some groups
abbrev pub receives_from : Grouping → (ℕ → Bool) → ℕ → Bool
receives_from groups found mount = holds_of found (source_of (propagation_in groups mount))

-- the mounts that do, in order of attachment
abbrev pub receivers_from : (ℕ → Bool) → List (ℕ × Propagation ℕ) → List ℕ
receivers_from found [] = []
receivers_from found (peer ∷ rest) =
    if holds_of found (source_of peer.1) then peer.0 ∷ receivers_from found rest else receivers_from found rest

-- a mount with this count is among these
abbrev pub is_noted : List MountId → ℕ → Bool
is_noted mounts count = list_any (λ mount. nat_eq count mount.count) mounts

-- a group comes up the masters of another
abbrev pub Reaches : Grouping → ℕ → ℕ → Type 0
Reaches groups group lower = (n : ℕ) × (is_among nat_eq group (chain n (master_in groups) lower) ≡ true)

-- just this group and those below it are found
pub record FindsBelow (groups : Grouping) (group : ℕ) (found : ℕ → Bool) : Type 0 where
  pub first : found group ≡ true
  pub lower : (one upper : ℕ) → master_in groups one ≡ Some upper → found upper ≡ true → found one ≡ true
  pub reaches : (one : ℕ) → found one ≡ true → Reaches groups group one

-- a group is among these
abbrev pub is_in : List GroupId → ℕ → Bool
is_in groups one = is_among nat_eq one (map group_number groups)

-- more groups come behind
abbrev pub IsLonger : List GroupId → List GroupId → Type 0
IsLonger old new = (more : List GroupId) × (new ≡ old ++ more)
