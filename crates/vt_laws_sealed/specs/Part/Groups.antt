-- Which mounts receive events of a sealed set, and of others: mount_namespaces(7), sharedsubtree.
use Rattle.std.specs.Prelude.{Contains, List, Some, false, nat_eq, true, ℕ, ◌≡◌}
use Rattle.vt_spec.specs.Language.Calls.{TaskName}
use Rattle.vt_spec.specs.Machine.Invariants.{MountInvariants}
use Rattle.vt_spec.specs.Machine.Mounts.{Mount, group_of}
use Rattle.vt_spec.specs.Machine.Receives.{receivers, receives}
use Rattle.vt_spec.specs.Machine.Sealed.{other_mounts, own_mounts, part_of, shares_no_events}
use Rattle.vt_spec.specs.Machine.World.{World}

-- a world in which no mount of these tasks shares events with a mount of another namespace
pub record SharesNoEvents (world : World ℕ) (names : List TaskName) : Type 0 where
  pub mounts : MountInvariants nat_eq world
  pub apart : shares_no_events nat_eq world names ≡ true

-- No mount of theirs receives from the group of a mount of another namespace,
abbrev pub NoEventOfOthersReachesThem : Type 0
NoEventOfOthersReachesThem =
    (world : World ℕ) (names : List TaskName) (own other : Mount ℕ) (group : ℕ)
    → SharesNoEvents world names
    → Contains (own_mounts nat_eq world names) own → Contains (other_mounts nat_eq world names) other
    → group_of other.propagation ≡ Some group → receives nat_eq world group own ≡ false

-- no mount of another namespace from a group of theirs,
abbrev pub NoEventOfTheirsReachesOthers : Type 0
NoEventOfTheirsReachesOthers =
    (world : World ℕ) (names : List TaskName) (own other : Mount ℕ) (group : ℕ)
    → SharesNoEvents world names
    → Contains (own_mounts nat_eq world names) own → Contains (other_mounts nat_eq world names) other
    → group_of own.propagation ≡ Some group → receives nat_eq world group other ≡ false

-- and a group of theirs has the same receivers in their part.
abbrev pub TheirGroupsReceiveAlike : Type 0
TheirGroupsReceiveAlike =
    (world : World ℕ) (names : List TaskName) (own : Mount ℕ) (group : ℕ)
    → SharesNoEvents world names
    → Contains (own_mounts nat_eq world names) own → group_of own.propagation ≡ Some group
    → receivers nat_eq (part_of nat_eq world names) group ≡ receivers nat_eq world group
