-- Worlds that differ in the masters of groups without members have the same invariants of mounts, and the same goes.
use Rattle.std.proofs.Common.{arith, ◌≡◌, refl, sym, ◌∙◌, ℕ, zero, suc, nat_eq, Bool, true, false, Option, Some, None, length}
use Rattle.vt_spec.proofs.Common.{Among, HasLivingGroups, Lives, Location, Mount, MountInvariants, World, all_from_among, among_from_all, chain, chain_ends, chain_goes_on, common_steps, filter_alike, going, going_at, going_from, groups_up, has_master, has_members, has_no_master, holds_of, is_among, is_shared, mount_at, receivers_of, receives, source_of, stands_alike, without_dead_groups}

module _ (w : World ℕ) where
  abbrev cleared : World ℕ
  cleared = without_dead_groups nat_eq w

  abbrev members : ℕ → Bool
  members = has_members nat_eq w.mounts

  master_same : (group : ℕ) → members group ≡ true → cleared.master group ≡ w.master group
  master_same group has = cc

  lives_cleared : (group : ℕ) → Lives members w.master group → Lives members cleared.master group
  lives_cleared group (has_no_master it has e) = has_no_master it has (master_same it has ∙ e)
  lives_cleared group (has_master it next has e later) =
      has_master it next has (master_same it has ∙ e) (lives_cleared next later)

  lives_before : (group : ℕ) → Lives members cleared.master group → Lives members w.master group
  lives_before group (has_no_master it has e) = has_no_master it has (sym (master_same it has) ∙ e)
  lives_before group (has_master it next has e later) =
      has_master it next has (sym (master_same it has) ∙ e) (lives_before next later)

  pub cleared_keeps : MountInvariants nat_eq w → MountInvariants nat_eq cleared
  cleared_keeps kept = grind (arith, common_steps, all_from_among, stands_alike, among_from_all, lives_cleared)

  pub keeps_before : MountInvariants nat_eq cleared → MountInvariants nat_eq w
  keeps_before kept = grind (arith, common_steps, all_from_among, stands_alike, among_from_all, lives_before)

  -- what an event detaches
  chain_same : (n group : ℕ) → Lives members w.master group → chain n cleared.master group ≡ chain n w.master group
  chain_same zero group life = refl
  chain_same (suc n) group (has_no_master it has e) = grind (arith, common_steps, chain_ends, master_same)
  chain_same (suc n) group (has_master it next has e later) =
      grind (arith, common_steps, chain_goes_on, master_same, chain_same n next later)

  module _ (kept : MountInvariants nat_eq w) where
    receives_same : (group : ℕ) (m : Mount ℕ) → Among m w.mounts
        → receives nat_eq cleared group m ≡ receives nat_eq w group m
    receives_same group m n = by (source_of m.propagation) refl
      where
        by : (o : Option ℕ) → source_of m.propagation ≡ o
            → holds_of (λ source. is_among nat_eq group (groups_up cleared source)) o
            ≡ holds_of (λ source. is_among nat_eq group (groups_up w source)) o
        by None e = refl
        by (Some source) e =
            cc (chain_same (length w.mounts) source (among_from_all (HasLivingGroups nat_eq w) w.mounts kept.groups m
            n source e))

    receivers_same : (m : Mount ℕ) → receivers_of nat_eq cleared m ≡ receivers_of nat_eq w m
    receivers_same m = grind (arith, common_steps, filter_alike, receives_same)

    pub going_same : (m : Mount ℕ) → going nat_eq cleared m ≡ going nat_eq w m
    going_same m = by m.mount_point
      where
        shared : (point : Location ℕ) (b : Bool) → going_from nat_eq cleared m point b ≡ going_from nat_eq w m point b
        shared point true = cc (receivers_same (mount_at nat_eq w point))
        shared point false = refl

        by : (o : Option (Location ℕ)) → going_at nat_eq cleared m o ≡ going_at nat_eq w m o
        by None = refl
        by (Some point) = shared point (is_shared (mount_at nat_eq w point).propagation)
