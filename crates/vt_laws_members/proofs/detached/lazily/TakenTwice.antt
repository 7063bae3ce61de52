-- Mounts that are detached in two parts, one after the other: but for groups without members the world is the one from
-- which all of them are detached at once.
use Rattle.std.proofs.Common.{inl, inr, ◌≡◌, refl, sym, ap, subst, ◌∙◌, ℕ, zero, suc, arith, nat_eq, Bool, true, false, ◌||◌, List, [], ◌∷◌, ◌++◌, map, length, Option, None, Some, option_map, ◌≤◌, if◌then◌else◌}
use Rattle.vt_spec.proofs.Common.{cases_Bool, Among, HasLivingGroups, Lives, Location, Mount, MountInvariants, Private, Propagation, Shared, Slave, Unbindable, World, after_going, among-from_map, among-map, among_from_all, common_steps, detached, group_of, has_master, has_members, has_no_master, heir, holds_of, inherited, inheriting, is_going, is_member_of, length-map, list_any-append, map_alike, map_twice, mount_at, inherited_mount_point, mount_point_of_parent, none_among, none_from_among, slave_of_heir, source_of, taken_away, without_dead_groups}
use Rattle.vt_laws_members.proofs.Common.{cases_Option, AllGroupsLive, AllStand, OneNumberEach, all_live, group-inherited, live_members, members-regrouped, mounts-regrouped, rank, rank_bounded, rank_child, taking_away_keeps_groups, tested_live}
use Rattle.vt_laws_mounts.proofs.mounts.MountsFound.{number-mount_in}
use Rattle.vt_laws_mounts.proofs.ends.Unmounting.{all_but_mounts, middle, number-after_going, numbers_taken, root_stays, staying_is_placed, taken}
use Rattle.vt_laws_members.proofs.detached.lazily.Heirs.{Ends, end-here, end-more, end_of, group_lives, heir_above, heir_itself, living_ends, master_inherited}

-- a mount that goes, or falls
abbrev gone_if : Bool → (Location ℕ → Location ℕ) → Mount ℕ → Mount ℕ
gone_if goes fall mount =
    if goes then detached mount else record mount { mount_point = option_map fall mount.mount_point }

-- a number that is not 0 has one before it
one_less : (n m : ℕ) → suc m ≤ n → (k : ℕ) × (n ≡ suc k)
one_less zero m l = absurd (omega (arith, l))
one_less (suc k) m l = (k, refl)

module _ (world : World ℕ) (first second : List ℕ) where
  -- the world from which the first part was taken, and the three worlds in which groups are yet to inherit
  abbrev left : World ℕ
  left = taken_away nat_eq world first

  abbrev firstly : World ℕ
  firstly = middle world first

  abbrev secondly : World ℕ
  secondly = middle left second

  abbrev at_once : World ℕ
  at_once = middle world (first ++ second)

  goes_at_once : (number : ℕ) → is_going nat_eq (first ++ second) number
      ≡ (is_going nat_eq first number || is_going nat_eq second number)
  goes_at_once number = list_any-append (nat_eq number) first second

  same_length : length left.mounts ≡ length world.mounts
  same_length = grind (arith, common_steps, length-map, numbers_taken)

  -- Places

  abbrev down : Location ℕ → Option (Location ℕ)
  down place = (mount_at nat_eq world place).mount_point

  abbrev falls : Location ℕ → Option (Location ℕ)
  falls = mount_point_of_parent nat_eq world first

  abbrev falls_then : Location ℕ → Option (Location ℕ)
  falls_then = mount_point_of_parent nat_eq left second

  abbrev falls_at_once : Location ℕ → Option (Location ℕ)
  falls_at_once = mount_point_of_parent nat_eq world (first ++ second)

  -- where so many steps of each lead
  abbrev FallAlike : ℕ → ℕ → ℕ → Location ℕ → Type 0
  FallAlike a b c place = end_of falls_then b (end_of falls a place) ≡ end_of falls_at_once c place

  -- on a root mount
  fall_from_root : (a b c : ℕ) (place : Location ℕ) → down place ≡ None → FallAlike a b c place
  fall_from_root a b c place e = grind (arith, common_steps, end-here, root_stays)

  -- on a mount that stays at first, and has fallen then
  fallen_point : (place below : Location ℕ) → is_going nat_eq first place.mount ≡ false → down place ≡ Some below
      → (mount_at nat_eq left place).mount_point ≡ Some (end_of falls (length world.mounts) below)
  fallen_point place below stays e = grind (arith, common_steps, taken, staying_is_placed, number-mount_in)

  fall_further : (a b c : ℕ) (place below : Location ℕ) → down place ≡ Some below
      → FallAlike a (suc b) c below → FallAlike (length world.mounts) b c below
      → FallAlike (suc a) (suc b) (suc c) place
  fall_further a b c place below e goes stays = by (is_going nat_eq first place.mount) refl _ refl
    where
      through : (gone : List ℕ) (goes : Bool) → is_going nat_eq gone place.mount ≡ goes
          → mount_point_of_parent nat_eq world gone place ≡ (if goes then Some below else None)
      through gone true f = cc
      through gone false f = cc

      by : (one : Bool) → is_going nat_eq first place.mount ≡ one
          → (other : Bool) → is_going nat_eq second place.mount ≡ other → FallAlike (suc a) (suc b) (suc c) place
      by true f other g = cc (
        end-more falls a place below (through first true f),
        goes,
        end-more falls_at_once c place below (through (first ++ second) true (cc (goes_at_once place.mount))),
      )
      by false f true g = cc (
        end-here falls (suc a) place (through first false f),
        end-more falls_then b place (end_of falls (length world.mounts) below) (cc (fallen_point place below f e)),
        stays,
        end-more falls_at_once c place below (through (first ++ second) true (goes_at_once place.mount ∙ (λ i. f i
            || g i))),
      )
      by false f false g = cc (
        end-here falls (suc a) place (through first false f),
        end-here falls_then (suc b) place (cc),
        end-here falls_at_once (suc c) place (through (first ++ second) false (goes_at_once place.mount ∙ (λ i. f i
            || g i))),
      )

  module _ (one : OneNumberEach world) (all : AllStand world) where
    abbrev rank_at : Location ℕ → ℕ
    rank_at place = rank world one all place.mount

    fall_alike : (n a b c : ℕ) (place : Location ℕ) → rank_at place ≤ n → rank_at place ≤ a → rank_at place ≤ b
        → rank_at place ≤ c → FallAlike a b c place
    fall_alike zero a b c place few more more_then more_at_once = elim (cases_Option (down place)) [
      | inl e ↦ fall_from_root a b c place e
      | inr its ↦ let child : rank_at place ≡ suc (rank_at its.0) = rank_child world one all place.mount its.0 its.1 in
          absurd (omega (arith, child, few))
    ]
    fall_alike (suc n) a b c place few more more_then more_at_once = elim (cases_Option (down place)) [
      | inl e ↦ fall_from_root a b c place e
      | inr its ↦ let child : rank_at place ≡ suc (rank_at its.0) = rank_child world one all place.mount its.0 its.1 in
          let x = one_less a (rank_at its.0) (omega (arith, child, more)) in
          let y = one_less b (rank_at its.0) (omega (arith, child, more_then)) in
          let z = one_less c (rank_at its.0) (omega (arith, child, more_at_once)) in
          let u : a ≡ suc x.0 = x.1 in
          let v : b ≡ suc y.0 = y.1 in
          let w : c ≡ suc z.0 = z.1 in
          let few_below : rank_at its.0 ≤ n = omega (arith, child, few) in
          let in_first : rank_at its.0 ≤ x.0 = omega (arith, child, more, u) in
          let in_second : rank_at its.0 ≤ y.0 = omega (arith, child, more_then, v) in
          let in_all : rank_at its.0 ≤ z.0 = omega (arith, child, more_at_once, w) in
          rw u (subst (λ k. FallAlike (suc x.0) k c place) (sym v) (subst (λ k. FallAlike (suc x.0) (suc y.0) k place)
          (sym w) (fall_further x.0 y.0 z.0 place its.0 its.1 ((fall_alike n) x.0 (suc y.0) z.0 its.0 few_below in_first
          (omega (arith, in_second)) in_all) ((fall_alike n) (length world.mounts) y.0 z.0 its.0 few_below
          (rank_bounded world one all its.0.mount) in_second in_all))))
    ]

    abbrev points_alike : Option (Location ℕ) → Type 0
    points_alike o =
        option_map (inherited_mount_point nat_eq left second) (option_map (inherited_mount_point nat_eq world first) o)
        ≡ option_map (inherited_mount_point nat_eq world (first ++ second)) o

    same_points : (o : Option (Location ℕ)) → points_alike o
    same_points None = refl
    same_points (Some place) =
        let bound = rank_bounded world one all place.mount in
        ap Some (fall_alike (length world.mounts) (length world.mounts) (length left.mounts) (length world.mounts) place
        bound bound (rw same_length bound) bound)

  -- Groups

  -- a mount is a member, by how the two parts have it
  abbrev group_if : Bool → (Location ℕ → Location ℕ) → Mount ℕ → Option ℕ
  group_if goes fall mount = group_of (gone_if goes fall mount).propagation

  same_group : (one other : Bool) (fall fall_then fall_at_once : Location ℕ → Location ℕ) (mount : Mount ℕ)
      → group_if other fall_then (inheriting nat_eq firstly (gone_if one fall mount))
      ≡ group_if (one || other) fall_at_once mount
  same_group one other fall fall_then fall_at_once mount = grind (arith, common_steps, group-inherited)

  abbrev twice : Mount ℕ → Mount ℕ
  twice mount = after_going nat_eq left second (inheriting nat_eq firstly (after_going nat_eq world first mount))

  twice_goes : (mount : Mount ℕ)
      → is_going nat_eq second (after_going nat_eq world first mount).number ≡ is_going nat_eq second mount.number
  twice_goes mount = cc (number-after_going world first mount)

  mounts_then : secondly.mounts ≡ map twice world.mounts
  mounts_then = grind (arith, common_steps, mounts-regrouped, map_twice)

  members_alike : (f g : Mount ℕ → Mount ℕ)
      → ((mount : Mount ℕ) → group_of (f mount).propagation ≡ group_of (g mount).propagation)
      → (mounts : List (Mount ℕ)) (group : ℕ)
      → has_members nat_eq (map f mounts) group ≡ has_members nat_eq (map g mounts) group
  members_alike f g same [] group = refl
  members_alike f g same (mount ∷ mounts) group =
      λ i. holds_of (nat_eq group) (same mount i) || members_alike f g same mounts group i

  members_then : (group : ℕ) → has_members nat_eq secondly.mounts group ≡ has_members nat_eq at_once.mounts group
  members_then group =
      cc (mounts_then, members_alike twice (after_going nat_eq world (first ++ second)) alike world.mounts group)
    where
      alike : (mount : Mount ℕ) → group_of (twice mount).propagation
          ≡ group_of (after_going nat_eq world (first ++ second) mount).propagation
      alike mount =
          let one = is_going nat_eq first mount.number in
          let other = is_going nat_eq second mount.number in
          cc (
            twice_goes mount,
            same_group one other (inherited_mount_point nat_eq world first) (inherited_mount_point nat_eq left second)
                (inherited_mount_point nat_eq world (first ++ second)) mount,
            goes_at_once mount.number,
          )

  -- who is a member at the end is one after the first part
  members_before : (group : ℕ) → has_members nat_eq at_once.mounts group ≡ true
      → has_members nat_eq firstly.mounts group ≡ true
  members_before group has = elim (cases_Bool (has_members nat_eq firstly.mounts group)) [
    | inl e ↦ e
    | inr e ↦ cc (none e)
  ]
    where
      still : (one other : Bool) (mount : Mount ℕ)
          → holds_of (nat_eq group) (group_if one (inherited_mount_point nat_eq world first) mount) ≡ false
          → holds_of (nat_eq group) (group_if (one || other) (inherited_mount_point nat_eq world (first ++ second)) mount)
          ≡ false
      still true other mount e = refl
      still false true mount e = refl
      still false false mount e = e

      none : has_members nat_eq firstly.mounts group ≡ false → has_members nat_eq at_once.mounts group ≡ false
      none e = none_from_among (is_member_of nat_eq group) at_once.mounts
          (λ x m. let from = among-from_map _ world.mounts x m in let mount = from.0 in cc (
            from.2,
            goes_at_once mount.number,
            still (is_going nat_eq first mount.number)
                (is_going nat_eq second mount.number) mount (none_among (is_member_of nat_eq group) firstly.mounts e
                (after_going nat_eq world first mount) (among-map (after_going nat_eq world first) world.mounts mount
                from.1)),
          ))

  module _ (live : AllGroupsLive world) where
    live_left : AllGroupsLive left
    live_left = all_live left (taking_away_keeps_groups world first (tested_live world live))

    abbrev LivesAt : ℕ → Type 0
    LivesAt group = Lives (has_members nat_eq world.mounts) world.master group

    ends_in : (gone : List ℕ) (group : ℕ) → LivesAt group → Ends world.master (length (middle world gone).mounts) group
    ends_in gone group life = rw (length-map world.mounts (after_going nat_eq world gone))
        (living_ends world live group (live_members world.master (has_members nat_eq world.mounts) group life))

    abbrev SameHeir : Option ℕ → Type 0
    SameHeir o = heir nat_eq secondly (heir nat_eq firstly o) ≡ heir nat_eq at_once o

    -- the heir of a group is the heir of its master, where the group has no members in the end
    heir_by_master : (group : ℕ) → LivesAt group → SameHeir (world.master group) → SameHeir (Some group)
    heir_by_master group life above = by (has_members nat_eq firstly.mounts group) refl _ refl
      where
        by : (b : Bool) → has_members nat_eq firstly.mounts group ≡ b
            → (c : Bool) → has_members nat_eq at_once.mounts group ≡ c → SameHeir (Some group)
        by true e true f = cc (
          heir_itself firstly group e,
          heir_itself secondly group (members_then group ∙ f),
          heir_itself at_once group f,
        )
        by true e false f = cc (
          heir_itself firstly group e,
          heir_above secondly group (subst (λ n. Ends left.master n group) (sym (length-map left.mounts
              (after_going nat_eq left second))) (living_ends left live_left group (members-regrouped firstly group ∙
              e))) (members_then group ∙ f),
          master_inherited firstly group e,
          above,
          heir_above at_once group (ends_in (first ++ second) group life) f,
        )
        by false e true f = cc (members_before group f)
        by false e false f = cc (
          heir_above firstly group (ends_in first group life) e,
          above,
          heir_above at_once group (ends_in (first ++ second) group life) f,
        )

    same_heir : (group : ℕ) → LivesAt group → SameHeir (Some group)
    same_heir group (has_no_master it has e) = heir_by_master it (has_no_master it has e) (cc)
    same_heir group (has_master it next has e later) =
        heir_by_master it (has_master it next has e later) (rw e (same_heir next later))

    same_kind : (kind : Propagation ℕ) → ((group : ℕ) → source_of kind ≡ Some group → LivesAt group)
        → inherited nat_eq secondly (inherited nat_eq firstly kind) ≡ inherited nat_eq at_once kind
    same_kind (Shared group) lives = refl
    same_kind (Slave master) lives =
        cc (through (heir nat_eq firstly (Some master)), same_heir master (lives master refl))
      where
        through : (o : Option ℕ) → inherited nat_eq secondly (slave_of_heir o) ≡ slave_of_heir (heir nat_eq secondly o)
        through None = refl
        through (Some group) = refl
    same_kind Private lives = refl
    same_kind Unbindable lives = refl

    -- the master of a group that has members in the end
    same_master : (group : ℕ) → has_members nat_eq at_once.mounts group ≡ true
        → (taken_away nat_eq left second).master group ≡ (taken_away nat_eq world (first ++ second)).master group
    same_master group has = cc (
      master_inherited secondly group (members_then group ∙ has),
      master_inherited firstly group (members_before group has),
      above (group_lives world live group (members_at_first (has_members nat_eq world.mounts group) refl)),
      master_inherited at_once group has,
    )
      where
        still : (goes : Bool) (fall : Location ℕ → Location ℕ) (mount : Mount ℕ)
            → is_member_of nat_eq group mount ≡ false → holds_of (nat_eq group) (group_if goes fall mount) ≡ false
        still true fall mount e = refl
        still false fall mount e = e

        members_at_first : (b : Bool) → has_members nat_eq world.mounts group ≡ b
            → has_members nat_eq world.mounts group ≡ true
        members_at_first true e = e
        members_at_first false e = cc (none_from_among (is_member_of nat_eq group) at_once.mounts
            (λ x m. let from = among-from_map (after_going nat_eq world (first ++ second)) world.mounts x m in
            ap (is_member_of nat_eq group) from.2 ∙ still (is_going nat_eq (first ++ second) from.0.number)
            (inherited_mount_point nat_eq world (first ++ second)) from.0 (none_among (is_member_of nat_eq group)
            world.mounts e from.0 from.1)))

        above : LivesAt group → SameHeir (world.master group)
        above (has_no_master it is e) = cc
        above (has_master it next is e later) = rw e (same_heir next later)

  module _ (kept : MountInvariants nat_eq world) where
    mount_alike : (one other : Bool) (mount : Mount ℕ) → Among mount world.mounts
        → inheriting nat_eq secondly (gone_if other (inherited_mount_point nat_eq left second)
        (inheriting nat_eq firstly (gone_if one (inherited_mount_point nat_eq world first) mount)))
        ≡ inheriting nat_eq at_once (gone_if (one || other) (inherited_mount_point nat_eq world (first ++ second)) mount)
    mount_alike true true mount m = refl
    mount_alike true false mount m = refl
    mount_alike false true mount m = refl
    mount_alike false false mount m = λ i. record mount {
      mount_point = same_points kept.one_number kept.standing mount.mount_point i;
      propagation = same_kind kept.groups mount.propagation
          (among_from_all (HasLivingGroups nat_eq world) world.mounts kept.groups mount m) i;
    }

    same_mounts : (taken_away nat_eq left second).mounts ≡ (taken_away nat_eq world (first ++ second)).mounts
    same_mounts = cc (
      mounts-regrouped secondly,
      mounts_then,
      map_twice (inheriting nat_eq secondly) twice world.mounts,
      map_alike (λ mount. inheriting nat_eq secondly (twice mount)) (λ mount. inheriting nat_eq at_once
          (after_going nat_eq world (first ++ second) mount)) world.mounts (λ mount m. cc (
            twice_goes mount,
            mount_alike (is_going nat_eq first mount.number)
                (is_going nat_eq second mount.number) mount m,
            goes_at_once mount.number,
          )),
      map_twice (inheriting nat_eq at_once) (after_going nat_eq world (first ++ second)) world.mounts,
      mounts-regrouped at_once,
    )

    same_masters : (group : ℕ) → (without_dead_groups nat_eq (taken_away nat_eq left second)).master group
        ≡ (without_dead_groups nat_eq (taken_away nat_eq world (first ++ second))).master group
    same_masters group = cc (
      members-regrouped secondly group,
      members_then group,
      by (has_members nat_eq at_once.mounts group) refl,
      members-regrouped at_once group,
    )
      where
        by : (b : Bool) → has_members nat_eq at_once.mounts group ≡ b
            → (if has_members nat_eq at_once.mounts group then (taken_away nat_eq left second).master group else None)
            ≡ (if has_members nat_eq at_once.mounts group
            then (taken_away nat_eq world (first ++ second)).master group else None)
        by true e = cc (same_master kept.groups group e)
        by false e = cc

-- mounts that are taken away in two parts leave the world that they leave at once
pub taken_twice : (world : World ℕ) (first second : List ℕ) → MountInvariants nat_eq world
    → without_dead_groups nat_eq (taken_away nat_eq (taken_away nat_eq world first) second)
    ≡ without_dead_groups nat_eq (taken_away nat_eq world (first ++ second))
taken_twice world first second kept = grind (arith, common_steps, all_but_mounts, same_mounts, same_masters)
