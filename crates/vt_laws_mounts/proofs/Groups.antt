-- Groups that lose their last member.
use Rattle.std.proofs.Common.{arith, ◌≡◌, refl, ap, ℕ, nat_eq, true, false, List, [], ◌∷◌, length, map, Option, Some, None}
use Rattle.vt_spec.proofs.Common.{Mount, Private, Propagation, Shared, Slave, Unbindable, World, chain_ends, common_steps, find-chain_start, group_of, has_members, heir, inherited, inheriting, lost_a_group, map_same, none_among, not-false, or_parts, regrouped, slave_of_heir}

pub no_group_of_heir : (found : Option ℕ) → group_of (slave_of_heir found) ≡ None
no_group_of_heir None = refl
no_group_of_heir (Some above) = refl

module _ (world : World ℕ) where
  -- who is a member of a group stays one, and no other becomes one
  pub group-inherited : (kind : Propagation ℕ) → group_of (inherited nat_eq world kind) ≡ group_of kind
  group-inherited (Shared group) = refl
  group-inherited (Slave above) = no_group_of_heir _
  group-inherited Private = refl
  group-inherited Unbindable = refl

  pub members-inherited : (mounts : List (Mount ℕ)) (group : ℕ)
      → has_members nat_eq (map (inheriting nat_eq world) mounts) group ≡ has_members nat_eq mounts group
  members-inherited [] group = refl
  members-inherited (mount ∷ mounts) group =
      grind (arith, common_steps, group-inherited, members-inherited mounts group)

  -- a slave whose master has a member keeps it
  pub inherited_kept : (above : ℕ) → has_members nat_eq world.mounts above ≡ true
      → inherited nat_eq world (Slave above) ≡ Slave above
  inherited_kept above e = ap slave_of_heir
      (find-chain_start (has_members nat_eq world.mounts) world.master (length world.mounts) above e)

  pub nothing_lost : (mount : Mount ℕ) → lost_a_group nat_eq world mount ≡ false → inheriting nat_eq world mount ≡ mount
  nothing_lost mount e = grind (arith, common_steps, or_parts, inherited_kept, not-false)

  -- each mount inherits, also where nothing is lost
  pub mounts-regrouped : (regrouped nat_eq world).mounts ≡ map (inheriting nat_eq world) world.mounts
  mounts-regrouped = grind (arith, common_steps, map_same, nothing_lost, none_among)

  -- the groups that have members stay the same
  pub members-regrouped : (group : ℕ)
      → has_members nat_eq (regrouped nat_eq world).mounts group ≡ has_members nat_eq world.mounts group
  members-regrouped group = cc (mounts-regrouped, members-inherited world.mounts group)

  pub master-regrouped : (group above : ℕ) → world.master group ≡ Some above
      → has_members nat_eq world.mounts above ≡ true → (regrouped nat_eq world).master group ≡ Some above
  master-regrouped group above e f = grind (arith, common_steps, find-chain_start)

-- a group without members and without a master has no heir
pub no_heir : (world : World ℕ) (group : ℕ) → world.master group ≡ None → has_members nat_eq world.mounts group ≡ false
    → heir nat_eq world (Some group) ≡ None
no_heir world group above none = grind (arith, common_steps, chain_ends)
