-- Receivers that take part, but for members of the destination's group, have a group above them of which a part is a
-- member: the destination's, or a nearer one.
use Rattle.std.proofs.Common.{arith, ◌≡◌, refl, sym, ap, ◌∙◌, true, false, nat_eq, eq-eqb, ne_eqb, ℕ, zero, suc, List, Option, Some, inl, true≢false}
use Rattle.vt_spec.proofs.Common.{Mount, among-from_filter, among_from_contains, any_among, any_from_among, chain, chain_ends, chain_goes_on, common_steps, contains_from_among, group_of, groups_up, has_members, holds_of, is_among, is_member_of, parts_of, receivers_of, receives, source_of, takes_part}
use Rattle.vt_laws_mounts.specs.Mounts.Propagation.{Attachment, HasGroupAbove, IsPart, LowerGroupsHaveAGroupAbove, SlavesHaveAGroupAbove, destination_of}
use Rattle.vt_laws_mounts.proofs.GroupsKept.{found_passes, member_shared, shared_member}
use Rattle.vt_laws_mounts.proofs.mounts.MountsFound.{number-mount_in}
use Rattle.vt_laws_mounts.proofs.propagation.PropagationUp.{finds_some}

-- a chain that may be longer has what it had
longer : (next : ℕ → Option ℕ) (n a d : ℕ) → is_among nat_eq d (chain n next a) ≡ true
    → is_among nat_eq d (chain (suc n) next a) ≡ true
longer next zero a d h = grind (arith, common_steps, chain_ends, chain_goes_on, true≢false)
longer next (suc n) a d h = by _ refl (λ b. longer next n b d)
  where
    by : (o : Option ℕ) → next a ≡ o
        → ((b : ℕ) → is_among nat_eq d (chain n next b) ≡ true → is_among nat_eq d (chain (suc n) next b) ≡ true)
        → is_among nat_eq d (chain (suc (suc n)) next a) ≡ true
    by o e on = grind (arith, common_steps, chain_ends, chain_goes_on)

-- what is in a chain after its start is in that from the next one
above_in : (next : ℕ → Option ℕ) (n a d : ℕ) → is_among nat_eq d (chain n next a) ≡ true → nat_eq d a ≡ false
    → (b : ℕ) × (next a ≡ Some b) × (is_among nat_eq d (chain n next b) ≡ true)
above_in next zero a d h e = absurd cc
above_in next (suc n) a d h e = grind (arith, common_steps, true≢false, chain_ends, longer, chain_goes_on)

module _ (it : Attachment) where
  abbrev parts : List (Mount ℕ)
  parts = parts_of nat_eq it.world it.mount_point

  -- a part that is not the destination receives from its group
  hears : (one : Mount ℕ) → IsPart it one → (one ≡ destination_of it → ⊥)
      → (group : ℕ) × (group_of (destination_of it).propagation ≡ Some group)
      × (receives nat_eq it.world group one ≡ true)
  hears one is differs = grind (
    arith,
    common_steps,
    among-from_filter (takes_part nat_eq it.world it.mount_point) (receivers_of nat_eq
        it.world (destination_of it)) one,
    among_from_contains parts one is,
    among-from_filter,
  )

  -- the destination is a part, so where its group is up from another there is a nearest one
  nearest_is : (group master : ℕ) → group_of (destination_of it).propagation ≡ Some group
      → is_among nat_eq group (groups_up it.world master) ≡ true → HasGroupAbove it master
  nearest_is group master e up =
      let has = any_from_among (is_member_of nat_eq group) parts (destination_of it) (inl refl)
      (ap (holds_of (nat_eq group)) e ∙ eq-eqb group group refl) in
      let found = finds_some (has_members nat_eq parts) (groups_up it.world master) group up has in
      let member = any_among (is_member_of nat_eq found.0) parts
      (found_passes (has_members nat_eq parts) (groups_up it.world master) found.0 found.1).0 in
      (found.0, member.0, found.1, contains_from_among parts member.0 member.1, member_shared found.0 member.0 member.2)

pub slaves_have_a_group_above : SlavesHaveAGroupAbove
slaves_have_a_group_above it one master is away slave =
    let heard = hears it one is (λ same. true≢false (sym (eq-eqb one.number it.mount_point.mount
    (ap (λ (x : Mount ℕ). x.number) same ∙ number-mount_in it.world.mounts it.mount_point.mount)) ∙ away)) in
    grind (arith, common_steps, nearest_is)

pub lower_groups_have_a_group_above : LowerGroupsHaveAGroupAbove
lower_groups_have_a_group_above it one own is shared lacks =
    let heard = hears it one is (λ same. true≢false (sym (shared_member own one shared)
    ∙ ap (is_member_of nat_eq own) same ∙ lacks)) in
    let above = above_in _ _ own _ (sym (ap (λ k. holds_of (λ source. is_among nat_eq heard.0
    (groups_up it.world source)) (source_of k)) shared) ∙ heard.2) (ne_eqb heard.0 own
    (λ same. true≢false (sym (eq-eqb own heard.0 (sym same)) ∙ sym (ap (holds_of (nat_eq own)) heard.1) ∙ lacks))) in
    (above.0, above.1, nearest_is it _ _ heard.1 above.2)
