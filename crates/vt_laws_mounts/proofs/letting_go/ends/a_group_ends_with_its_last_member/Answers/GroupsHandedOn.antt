-- A group that loses its last member hands its slaves on.
use Rattle.std.proofs.Common.{arith, ◌≡◌, refl, ap, ℕ, suc, nat_eq, eqb-true, eq-eqb, Bool, true, false, find, true≢false, Option, Some, None, option_to_list}
use Rattle.vt_spec.proofs.Common.{Private, Propagation, Shared, Slave, Unbindable, World, and_parts, cases_Bool, chain, common_steps, find-chain_start, has_members, heir, inherited, is_lost_group, list_all, list_any, lost_a_group, map_alike, or_parts, regrouped, regrouped_by, source_of}
use Rattle.vt_laws_mounts.specs.LettingGo.Groups.{GroupsLiveBut, NoGroupIsHandedOn, OneGroupIsHandedOn, hand_on, handed_on, is_group_or_lives, master_handed_on}
use Rattle.vt_laws_mounts.proofs.letting_go.Lists.{among_from_list_all, any_among, map_same, none_among, or_right}

find_after_start : (p : ℕ → Bool) (next : ℕ → Option ℕ) (n a : ℕ) → p a ≡ false
    → list_all p (option_to_list (next a)) ≡ true → find p (chain (suc n) next a) ≡ next a
find_after_start p next n a e above = grind (arith, common_steps, find-chain_start, and_parts)

module _ (world : World ℕ) (group : ℕ) (live : GroupsLiveBut group world)
    (empty : has_members nat_eq world.mounts group ≡ false) where
  abbrev lives : ℕ → Bool
  lives = has_members nat_eq world.mounts

  heir_itself : (other : ℕ) → lives other ≡ true → heir nat_eq world (Some other) ≡ Some other
  heir_itself other e = find-chain_start lives _ _ other e

  heir_of_group : heir nat_eq world (Some group) ≡ world.master group
  heir_of_group = grind (arith, common_steps, true≢false, find_after_start)

  heir_handed_on : (o : Option ℕ) → list_all (is_group_or_lives world group) (option_to_list o) ≡ true
      → heir nat_eq world o ≡ master_handed_on group (world.master group) o
  heir_handed_on None h = refl
  heir_handed_on (Some other) h =
      grind (arith, common_steps, eqb-true, heir_of_group, true≢false, eq-eqb, heir_itself, and_parts)

  inherited_handed_on : (kind : Propagation ℕ)
      → list_all (is_group_or_lives world group) (option_to_list (source_of kind)) ≡ true
      → inherited nat_eq world kind ≡ handed_on group (world.master group) kind
  inherited_handed_on (Shared own) h = refl
  inherited_handed_on (Slave master) h =
      grind (arith, common_steps, heir_handed_on (Some master) h, eq-eqb, eqb-true, true≢false)
  inherited_handed_on Private h = refl
  inherited_handed_on Unbindable h = refl

  -- where none lost a group, none was a slave of it, nor was a group below it
  no_slave : (kind : Propagation ℕ) → is_lost_group nat_eq world (source_of kind) ≡ false
      → handed_on group (world.master group) kind ≡ kind
  no_slave (Shared own) h = refl
  no_slave (Slave master) h = grind (arith, common_steps, true≢false, eqb-true)
  no_slave Private h = refl
  no_slave Unbindable h = refl

  no_lower : list_any (lost_a_group nat_eq world) world.mounts ≡ false → (other : ℕ)
      → master_handed_on group (world.master group) (world.master other) ≡ world.master other
  no_lower none other =
      grind (arith, common_steps, true≢false, eqb-true, any_among, or_right, none_among, and_parts, cases_Bool)

  one_handed_on : regrouped nat_eq world ≡ hand_on world group
  one_handed_on = by _ refl
    where
      by : (b : Bool) → list_any (lost_a_group nat_eq world) world.mounts ≡ b
          → regrouped_by nat_eq b world ≡ hand_on world group
      by true e = grind (arith, common_steps, map_alike, inherited_handed_on, among_from_list_all, heir_handed_on)
      by false e = grind (arith, common_steps, map_same, no_slave, or_parts, none_among, no_lower)

pub one_group_is_handed_on : OneGroupIsHandedOn
one_group_is_handed_on world group live empty = one_handed_on world group live empty

pub no_group_is_handed_on : NoGroupIsHandedOn
no_group_is_handed_on world none = ap (λ b. regrouped_by nat_eq b world) none
