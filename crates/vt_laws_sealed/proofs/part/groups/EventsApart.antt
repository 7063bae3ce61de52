-- Events of groups of others reach no mount of a sealed set.
use Rattle.std.proofs.Common.{◌≡◌, refl, sym, subst, ◌∙◌, ◌⊎◌, inr, ⊎_elim, ℕ, nat_eq, true, true≢false, List, Option, Some, None, length, eq-eqb, arith}
use Rattle.vt_spec.proofs.Common.{Among, HasLivingGroups, Lives, Mount, MountInvariants, Propagation, TaskName, World, among-filter, among-from_filter, among_from_all, among_from_contains, among_from_list_all, and_parts, any_among, common_steps, false_from_ne_true, group_of, groups_up, has_master, has_members, has_no_master, holds_of, is_among, is_member_of, is_own_mount, master_of, none_is_some, not-true, or_left, or_right, other_mounts, own_mounts, receives, receives_events_of, same_Some, shares_no_events, source_of}
use Rattle.vt_laws_sealed.proofs.Common.{along_chain}
use Rattle.vt_laws_sealed.specs.Part.Groups.{NoEventOfOthersReachesThem}

pub member_group : (g : ℕ) (mount : Mount ℕ) → is_member_of nat_eq g mount ≡ true → group_of mount.propagation ≡ Some g
member_group g mount h = grind (arith, common_steps, true≢false)

pub master_by : (world : World ℕ) (lower group : ℕ) → world.master lower ≡ Some group → (kind : Propagation ℕ)
    → group_of kind ≡ Some lower → master_of world kind ≡ Some group
master_by world lower group e kind h = grind (arith, common_steps, same_Some, none_is_some)

-- a mount hears the group that it receives from
pub start_hears : (world : World ℕ) (source : ℕ) (kind : Propagation ℕ) → source_of kind ≡ Some source
    → (group_of kind ≡ Some source) ⊎ (master_of world kind ≡ Some source)
start_hears world source kind e = grind (arith, common_steps, none_is_some)

module _ (world : World ℕ) (names : List TaskName) (is : MountInvariants nat_eq world)
    (apart : shares_no_events nat_eq world names ≡ true) where
  -- a mount of theirs hears the group: it is in it, or its slave, or in a group whose master that is
  abbrev pub Hears : ℕ → Type 0
  Hears group = (own : Mount ℕ) × Among own (own_mounts nat_eq world names)
      × ((group_of own.propagation ≡ Some group) ⊎ (master_of world own.propagation ≡ Some group))

  -- so it receives events of each member
  hears : (group : ℕ) (own member : Mount ℕ)
      → (group_of own.propagation ≡ Some group) ⊎ (master_of world own.propagation ≡ Some group)
      → is_member_of nat_eq group member ≡ true → receives_events_of nat_eq world own member ≡ true
  hears group own member how is_in = grind (arith, common_steps, or_left, or_right)

  -- no mount of another namespace is a member
  pub none_hears : (group : ℕ) (other : Mount ℕ) → Hears group → Among other (other_mounts nat_eq world names)
      → is_member_of nat_eq group other ≡ true → ⊥
  none_hears group other known there is_in =
      grind (arith, common_steps, among_from_list_all, not-true, true≢false, or_left, hears)

  -- a mount that is a member of a group is attached, in a namespace of theirs or in another
  pub sides : (member : Mount ℕ) (group : ℕ) → Among member world.mounts → group_of member.propagation ≡ Some group
      → Among member (own_mounts nat_eq world names) ⊎ Among member (other_mounts nat_eq world names)
  sides member group m e =
      grind (arith, common_steps, among_from_list_all, true≢false, and_parts, none_is_some, among-filter)

  -- a group that is heard and lives has a member of theirs
  abbrev HeardAndLives : ℕ → Type 0
  HeardAndLives group = Hears group × Lives (has_members nat_eq world.mounts) world.master group

  pub members_of : (group : ℕ) → Lives (has_members nat_eq world.mounts) world.master group
      → has_members nat_eq world.mounts group ≡ true
  members_of group (has_no_master g e n) = e
  members_of group (has_master g above e n l) = e

  pub above_lives : (group lower : ℕ) → world.master lower ≡ Some group
      → Lives (has_members nat_eq world.mounts) world.master lower
      → Lives (has_members nat_eq world.mounts) world.master group
  above_lives group lower e (has_no_master g h n) = absurd (none_is_some group (sym n ∙ e))
  above_lives group lower e (has_master g above h n l) =
      subst (Lives (has_members nat_eq world.mounts) world.master) (same_Some above group (sym n ∙ e)) l

  pub heard_above : (group lower : ℕ) → world.master lower ≡ Some group → HeardAndLives lower → HeardAndLives group
  heard_above group lower e (heard, lives) =
      let found = any_among (is_member_of nat_eq lower) world.mounts (members_of lower lives) in
      let is_in : group_of found.0.propagation ≡ Some lower = member_group lower found.0 found.2 in (
        ⊎_elim (λ own. (found.0, own, inr (master_by world lower group e found.0.propagation is_in)))
            (λ other. absurd (none_hears lower found.0 heard other found.2)) (sides found.0 lower found.1 is_in),
        above_lives group lower e lives,
      )

  -- a mount of theirs that receives from a group hears one of its members, or is one
  pub heard_by : (group : ℕ) (own : Mount ℕ) → Among own (own_mounts nat_eq world names)
      → receives nat_eq world group own ≡ true → HeardAndLives group
  heard_by group own m h = by (source_of own.propagation) refl h
    where
      by : (o : Option ℕ) → source_of own.propagation ≡ o
          → holds_of (λ source. is_among nat_eq group (groups_up world source)) o ≡ true → HeardAndLives group
      by None e h = cc
      by (Some source) e h = along_chain world.master HeardAndLives heard_above (length world.mounts) source group (
        (own, m, start_hears world source own.propagation e),
        among_from_all (HasLivingGroups nat_eq world) world.mounts is.groups own
            (among-from_filter (is_own_mount nat_eq world names) world.mounts own m).0 source e,
      ) h

pub no_event_of_others_reaches_them : NoEventOfOthersReachesThem
no_event_of_others_reaches_them world names own other group alone own_there other_there e = false_from_ne_true _ (λ h.
    none_hears world names alone.mounts alone.apart group other
    (heard_by world names alone.mounts alone.apart group own (among_from_contains _ own own_there) h).0
    (among_from_contains _ other other_there) (cc (eq-eqb group group refl)))
