-- The heir of a group, one step up the masters at a time, and where groups that live come to an end.
use Rattle.std.proofs.Common.{inl, inr, ◌≡◌, refl, ap, ◌∙◌, true, false, zero, suc, Bool, None, Option, Some, arith, find, is_some, length, not, ℕ, nat_eq, ◌≤◌, ◌||◌}
use Rattle.vt_spec.proofs.Common.{Among, HasLivingGroups, Lives, Mount, World, among_from_all, any_among, chain, chain_ends, chain_goes_on, common_steps, find-chain_start, has_master, has_members, has_no_master, heir, is_lost_group, is_member_of, last_of_chain, last_or, list_any, lost_a_group, none_among, none_from_among, not-false, not-true, or_parts, regrouped, regrouped_by, source_of}
use Rattle.vt_laws_members.proofs.Common.{cases_Option, AllGroupsLive, groups_live_at, live_members, member_shared, tested_live}

-- where a chain of so many steps ends
module _ {A : Type 0} (next : A → Option A) where
  abbrev pub end_of : ℕ → A → A
  end_of most a = last_or a (chain most next a)

  pub end-more : (most : ℕ) (a b : A) → next a ≡ Some b → end_of (suc most) a ≡ end_of most b
  end-more most a b e = cc (chain_goes_on next most a b e, last_of_chain next most b a)

  pub end-here : (most : ℕ) (a : A) → next a ≡ None → end_of most a ≡ a
  end-here zero a e = refl
  end-here (suc most) a e = cc (chain_ends next most a e)

module _ (master : ℕ → Option ℕ) where
  -- the end of a chain has no master
  abbrev pub Ends : ℕ → ℕ → Type 0
  Ends n source = is_some (master (last_or source (chain n master source))) ≡ false

  ends_above : (n group next : ℕ) → master group ≡ Some next → Ends (suc n) group → Ends n next
  ends_above n group next e ends = cc (chain_goes_on master n group next e, last_of_chain master n next group)

  no_master : (source : ℕ) → is_some (master source) ≡ false → master source ≡ None
  no_master source e = by (master source) refl e
    where
      by : (o : Option ℕ) → master source ≡ o → is_some o ≡ false → master source ≡ None
      by None f e = f
      by (Some above) f e = cc

  -- a chain that came to its end goes no further
  chain_same : (n m source : ℕ) → n ≤ m → Ends n source → chain m master source ≡ chain n master source
  chain_same zero zero source le ends = refl
  chain_same zero (suc m) source le ends = chain_ends master m source (no_master source ends)
  chain_same (suc n) zero source le ends = absurd (omega (arith, le))
  chain_same (suc n) (suc m) source le ends = by _ refl (λ next ends. chain_same n m next (omega (arith, le)) ends)
    where
      by : (o : Option ℕ) → master source ≡ o → ((next : ℕ) → Ends n next → chain m master next ≡ chain n master next)
          → chain (suc m) master source ≡ chain (suc n) master source
      by o e later = grind (arith, common_steps, chain_ends, chain_goes_on, ends_above)

  module _ (p : ℕ → Bool) where
    abbrev found_from : ℕ → Option ℕ → Option ℕ
    found_from n None = None
    found_from n (Some group) = find p (chain n master group)

    -- a group that does not pass: what is found is found from its master on
    one_up : (n group : ℕ) → Ends n group → p group ≡ false
        → find p (chain n master group) ≡ found_from n (master group)
    one_up n group ends fails = by n ends (master group) refl
      where
        by : (n : ℕ) → Ends n group → (o : Option ℕ) → master group ≡ o → find p (chain n master group) ≡ found_from n o
        by zero ends None e = cc
        by zero ends (Some next) e = cc
        by (suc n) ends None e = cc (chain_ends master n group e)
        by (suc n) ends (Some next) e = cc (
          chain_goes_on master n group next e,
          fails,
          chain_same n (suc n) next (omega arith) (ends_above n group next e ends),
        )

module _ (world : World ℕ) where
  abbrev members : ℕ → Bool
  members = has_members nat_eq world.mounts

  -- a group with members is its own heir
  pub heir_itself : (group : ℕ) → members group ≡ true → heir nat_eq world (Some group) ≡ Some group
  heir_itself group e = find-chain_start members world.master (length world.mounts) group e

  -- a group without members has the heir of its master
  pub heir_above : (group : ℕ) → Ends world.master (length world.mounts) group → members group ≡ false
      → heir nat_eq world (Some group) ≡ heir nat_eq world (world.master group)
  heir_above group ends fails = grind (arith, common_steps, one_up)

  -- a group with members has its master's heir as its master, also where nothing is lost
  pub master_inherited : (group : ℕ) → members group ≡ true
      → (regrouped nat_eq world).master group ≡ heir nat_eq world (world.master group)
  master_inherited group has = by (list_any (lost_a_group nat_eq world) world.mounts) refl
    where
      member : (x : Mount ℕ) × Among x world.mounts × (is_member_of nat_eq group x ≡ true)
      member = any_among (is_member_of nat_eq group) world.mounts has

      above : list_any (lost_a_group nat_eq world) world.mounts ≡ false → (o : Option ℕ) → world.master group ≡ o
          → o ≡ heir nat_eq world o
      above unlost o e =
          grind (arith, common_steps, unlost, member_shared, member, or_parts, none_among, heir_itself, not-false)

      by : (b : Bool) → list_any (lost_a_group nat_eq world) world.mounts ≡ b
          → (regrouped_by nat_eq b world).master group ≡ heir nat_eq world (world.master group)
      by true e = refl
      by false e = above e (world.master group) refl

  module _ (live : AllGroupsLive world) where
    -- a group with members lives
    pub group_lives : (group : ℕ) → members group ≡ true → Lives members world.master group
    group_lives group h =
        let member = any_among (is_member_of nat_eq group) world.mounts h in
        among_from_all (HasLivingGroups nat_eq world) world.mounts live member.0 member.1 group
        (cc (member_shared group member.0 member.2))

    -- its masters come to an end within as many steps as there are mounts
    pub living_ends : (group : ℕ) → members group ≡ true → Ends world.master (length world.mounts) group
    living_ends group h =
        let member = any_among (is_member_of nat_eq group) world.mounts h in
        not-true _ (groups_live_at world (tested_live world live) member.0 member.1 group
        (cc (member_shared group member.0 member.2))).1

-- where all groups live, nothing is lost
module _ (world : World ℕ) (live : AllGroupsLive world) where
  unlost : (mount : Mount ℕ) → Among mount world.mounts → lost_a_group nat_eq world mount ≡ false
  unlost mount m = elim (cases_Option (source_of mount.propagation)) [
    | inl e ↦ cc
    | inr its ↦ cc (above its.0 (among_from_all (HasLivingGroups nat_eq world) world.mounts live mount m its.0 its.1))
  ]
    where
      above : (group : ℕ) → Lives (members world) world.master group
          → (not (members world group) || is_lost_group nat_eq world (world.master group)) ≡ false
      above group (has_no_master it has e) = (λ i. not (has i) || is_lost_group nat_eq world (e i))
      above group (has_master it next has e later) = (λ i. not (has i) || is_lost_group nat_eq world (e i))
          ∙ ap not (live_members world.master (members world) next later)

  pub nothing_lost : list_any (lost_a_group nat_eq world) world.mounts ≡ false
  nothing_lost = none_from_among (lost_a_group nat_eq world) world.mounts unlost
