-- What is known of others and of a sealed set while a call of others is under way: that the set has its mounts, its
-- namespaces and its groups for itself.
use Rattle.std.proofs.Common.{◌≡◌, ℕ, nat_eq, true, false, List, Some, None}
use Rattle.vt_spec.proofs.Common.{Among, Mount, MountInvariants, TaskName, World, group_of, holds_all_tasks, is_at, is_listed, is_own_namespace, members, no_outsider_on_mounts, roots_and_directories, shares_no_events}

-- No mount is in a group that has one of the new numbers, and none of these groups has a master.
pub record StandsApart (world : World ℕ) (names : List TaskName) (New : ℕ → Type 0) : Type 0 where
  pub mounts : MountInvariants nat_eq world
  pub tasks : holds_all_tasks nat_eq world names ≡ true
  pub events : shares_no_events nat_eq world names ≡ true
  pub locations : no_outsider_on_mounts nat_eq world names ≡ true
  -- no root or working directory of theirs is on a mount of others
  pub not_stood : (namespace : ℕ) → is_own_namespace nat_eq world names namespace ≡ false → (mount : Mount ℕ)
      → Among mount world.mounts → mount.namespace ≡ Some namespace
      → is_at nat_eq (roots_and_directories (members world names)) mount ≡ false
  pub own_listed : (number : ℕ) → is_own_namespace nat_eq world names number ≡ true
      → is_listed nat_eq world number ≡ true
  pub new_group : (mount : Mount ℕ) (group : ℕ) → Among mount world.mounts
      → group_of mount.propagation ≡ Some group → New group → ⊥
  pub new_master : (group : ℕ) → New group → world.master group ≡ None

-- where nothing is new
abbrev pub NothingNew : ℕ → Type 0
NothingNew number = ⊥
