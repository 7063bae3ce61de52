-- A group ends with its last member.
use Rattle.std.proofs.Common.{arith, ◌≡◌, refl, sym, ap, ◌∙◌, ◌⊎◌, inl, inr, ⊎_elim, ℕ, nat_eq, eqb-true, eq-eqb, Bool, true, false, cond, List, [], ◌∷◌, ◌++◌, Option, Some, None, option_to_list, nat_lt}
use Rattle.vt_spec.proofs.Common.{cases_Bool, HasLivingGroups, Lives, Mount, MountInvariants, Shared, World, common_steps, has_master, has_members, has_no_master, is_member_of, list_all, list_any, lost_a_group, or_false_left, regrouped, source_of, with_mounts, without_dead_groups}
use Rattle.vt_laws_later_calls.proofs.Common.{AllInUse, Among, GroupsInUseBut, among-append, among-append_left, among-append_right, among_from_all, any_among, any_from_among, group_is_looked_up, groups_go_one_by_one, here, list_all_from_among, live_members, member_count, member_shared, no_loop, none_from_among, times, without_master}
use Rattle.vt_laws_mounts.specs.LettingGo.Groups.{GroupsLiveBut, OneGroupIsHandedOn, hand_on, is_group_or_lives}
use Rattle.vt_laws_later_calls.specs.LastUse.{GroupGoesWithItsLastMember, GroupIsHandedOnWithItsLastMember}
use Rattle.vt_laws_later_calls.proofs.last_use.OneLess.{some_without_another, some_without_it}

-- the master of a group that lives has a member
master_lives : (members : ℕ → Bool) (master : ℕ → Option ℕ) (group : ℕ) → Lives members master group
    → list_all members (option_to_list (master group)) ≡ true
master_lives members master group (has_no_master it has e) = cc
master_lives members master group (has_master it above has e later) = cc (live_members master members above later)

-- a mount has lost no group where its group and the master of that have members
unlost : (world : World ℕ) (mount : Mount ℕ)
    → ((group : ℕ) → source_of mount.propagation ≡ Some group → (has_members nat_eq world.mounts group ≡ true)
    × (list_all (has_members nat_eq world.mounts) (option_to_list (world.master group)) ≡ true))
    → lost_a_group nat_eq world mount ≡ false
unlost world mount live = grind (arith, common_steps, live)

-- where groups live, no mount has lost one
pub none_lost : (world : World ℕ) → MountInvariants nat_eq world
    → list_any (lost_a_group nat_eq world) world.mounts ≡ false
none_lost world mounts = none_from_among (lost_a_group nat_eq world) world.mounts
    (λ mount m. unlost world mount (λ group e.
    let life = among_from_all (HasLivingGroups nat_eq world) world.mounts mounts.groups mount m group e in (
      live_members world.master (has_members nat_eq world.mounts) group life,
      master_lives (has_members nat_eq world.mounts) world.master group life,
    )))

-- One mount leaves a group
module _ (world : World ℕ) (front back : List (Mount ℕ)) (old new : Mount ℕ) {group : ℕ}
    (before : world.mounts ≡ front ++ (old ∷ back)) (was : old.propagation ≡ Shared group)
    (is : source_of new.propagation ≡ None) where
  abbrev after : World ℕ
  after = with_mounts world (front ++ (new ∷ back))

  new_is_none : (other : ℕ) → is_member_of nat_eq other new ≡ false
  new_is_none other = grind (arith, common_steps)

  old_is_one : (other : ℕ) → is_member_of nat_eq other old ≡ nat_eq other group
  old_is_one other = cc

  -- other groups have members as before
  members_as_before : (other : ℕ) → nat_eq other group ≡ false
      → has_members nat_eq after.mounts other ≡ has_members nat_eq world.mounts other
  members_as_before other differs = cc (
    some_without_another _ new (new_is_none other) front back,
    some_without_another _ old (old_is_one other ∙ differs) front back,
  )

  -- the group has one if it had more
  members_still : has_members nat_eq after.mounts group ≡ nat_lt 1 (member_count world group)
  members_still = sym (some_without_another (is_member_of nat_eq group) new (new_is_none group) front back)
      ∙ some_without_it (is_member_of nat_eq group) old (old_is_one group ∙ eq-eqb group group refl) front back
      ∙ ap (λ mounts. nat_lt 1 (times (is_member_of nat_eq group) mounts)) (sym before)

  other_groups : AllInUse world → GroupsInUseBut (group ∷ []) after
  other_groups in_use other among none =
      in_use.groups other (cc (members_as_before other (or_false_left _ false among)))

  pub group_left : AllInUse world → without_dead_groups nat_eq after
      ≡ cond (nat_lt 1 (member_count world group)) after (without_master after group)
  group_left in_use =
      cc (groups_go_one_by_one after (group ∷ []) (other_groups in_use), group_is_looked_up after group, members_still)

  module _ (in_use : AllInUse world) (mounts : MountInvariants nat_eq world) where
    abbrev members : ℕ → Bool
    members = has_members nat_eq world.mounts

    -- what had members is the group, or has some
    had_members : (other : ℕ) → members other ≡ true → is_group_or_lives after group other ≡ true
    had_members other has = grind (arith, common_steps, members_as_before)

    had_members_all : (o : Option ℕ) → list_all members (option_to_list o) ≡ true
        → list_all (is_group_or_lives after group) (option_to_list o) ≡ true
    had_members_all o h = grind (arith, common_steps, had_members)

    -- a mount of the world after is new, or was there
    was_there : (mount : Mount ℕ) → Among mount after.mounts
        → (source_of mount.propagation ≡ None) ⊎ Among mount world.mounts
    was_there mount m = ⊎_elim (λ f. inr (there (among-append_left front (old ∷ back) mount f)))
        (λ rest. ⊎_elim (λ same. inl (cc)) (λ b. inr (there (among-append_right front (old ∷ back) mount (inr b))))
        rest) (among-append front (new ∷ back) mount m)
      where
        there : Among mount (front ++ (old ∷ back)) → Among mount world.mounts
        there n = rw before n

    source_lives : (mount : Mount ℕ) → Among mount after.mounts → (source : ℕ)
        → source_of mount.propagation ≡ Some source → Lives members world.master source
    source_lives mount m source e = ⊎_elim (λ none. cc) (λ n. among_from_all (HasLivingGroups nat_eq world) world.mounts
        mounts.groups mount n source e) (was_there mount m)

    -- a group with members lives
    lives : (other : ℕ) → members other ≡ true → Lives members world.master other
    lives other has =
        let t = any_among _ world.mounts has in
        among_from_all (HasLivingGroups nat_eq world) world.mounts mounts.groups t.0 t.1 other
        (cc (member_shared other t.0 t.2))

    its_life : Lives members world.master group
    its_life = lives group (any_from_among _ world.mounts old
        (rw before (among-append_right front (old ∷ back) old (inl refl))) (old_is_one group ∙ eq-eqb group group refl))

    -- its master is another group, and has members
    master_has : list_all (has_members nat_eq after.mounts) (option_to_list (world.master group)) ≡ true
    master_has = by (world.master group) refl (master_lives members world.master group its_life)
      where
        by : (o : Option ℕ) → world.master group ≡ o → list_all members (option_to_list o) ≡ true
            → list_all (has_members nat_eq after.mounts) (option_to_list o) ≡ true
        by None e h = refl
        by (Some above) e h = cc (members_as_before above (apart (nat_eq above group) refl))
          where
            apart : (b : Bool) → nat_eq above group ≡ b → b ≡ false
            apart false f = refl
            apart true f =
                absurd (no_loop world.master members group its_life above e (rw (eqb-true above group f) (here group)))

    live_but : GroupsLiveBut group after
    live_but = record {
      of_mounts = list_all_from_among (λ mount. list_all (is_group_or_lives after group)
          (option_to_list (source_of mount.propagation))) after.mounts
          (λ mount m. of mount m (source_of mount.propagation) refl);
      of_groups = λ other. above other (members other) refl;
      its_master = master_has;
      in_use = other_groups in_use;
    }
      where
        of : (mount : Mount ℕ) → Among mount after.mounts → (o : Option ℕ) → source_of mount.propagation ≡ o
            → list_all (is_group_or_lives after group) (option_to_list o) ≡ true
        of mount m None e = refl
        of mount m (Some source) e =
            cc (had_members source (live_members world.master members source (source_lives mount m source e)))

        above : (other : ℕ) (b : Bool) → members other ≡ b
            → list_all (is_group_or_lives after group) (option_to_list (world.master other)) ≡ true
        above other true has = had_members_all _ (master_lives members world.master other (lives other has))
        above other false none = cc (in_use.groups other none)

    -- where the group has members left, none has lost a group
    none_lost_after : has_members nat_eq after.mounts group ≡ true
        → list_any (lost_a_group nat_eq after) after.mounts ≡ false
    none_lost_after has =
        none_from_among (lost_a_group nat_eq after) after.mounts (λ mount m. unlost after mount (λ source e.
        let life = source_lives mount m source e in (
          still source (live_members world.master members source life),
          all_still (world.master source) (master_lives members world.master source life),
        )))
      where
        still : (other : ℕ) → members other ≡ true → has_members nat_eq after.mounts other ≡ true
        still other had = elim (cases_Bool (nat_eq other group)) [
          | inl e ↦ cc (eqb-true other group e)
          | inr e ↦ members_as_before other e ∙ had
        ]

        all_still : (o : Option ℕ) → list_all members (option_to_list o) ≡ true
            → list_all (has_members nat_eq after.mounts) (option_to_list o) ≡ true
        all_still o h = grind (arith, common_steps, still)

    pub group_handed_on : OneGroupIsHandedOn → regrouped nat_eq after
        ≡ cond (nat_lt 1 (member_count world group)) after (hand_on after group)
    group_handed_on one = cc (by (has_members nat_eq after.mounts group) refl, members_still)
      where
        by : (b : Bool) → has_members nat_eq after.mounts group ≡ b
            → regrouped nat_eq after ≡ cond b after (hand_on after group)
        by true has = cc (none_lost_after has)
        by false none = one after group live_but none

pub group_is_handed_on_with_its_last_member : OneGroupIsHandedOn → GroupIsHandedOnWithItsLastMember
group_is_handed_on_with_its_last_member one world front back old new group in_use mounts before was is =
    group_handed_on world front back old new before was is in_use mounts one

pub group_goes_with_its_last_member : GroupGoesWithItsLastMember
group_goes_with_its_last_member world front back old new group in_use before was is =
    group_left world front back old new before was is in_use
