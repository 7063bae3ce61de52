-- Groups that have members, and so up their masters to an end.
use Rattle.std.proofs.Common.{◌≡◌, refl, sym, ap, subst, true, false, zero, suc, Bool, List, None, Option, Some, [], arith, is_some, length, nat_eq, true≢false, ℕ, ◌&&◌, ◌∷◌, ◌≤◌, eqb-true, filter, not, ⊎_elim, inl, inr, ◌⊎◌, ◌≢◌}
use Rattle.vt_spec.proofs.Common.{Among, Lives, Mount, Propagation, Shared, World, among-filter, among_from_list_all, among_numbers, and_from, and_parts, any_among, any_from_among, any_pair, chain, chain_ends, chain_goes_on, common_steps, false_from_ne_true, group_of, groups_up, has_master, has_members, has_no_master, is_among, is_member_of, last_of_chain, last_or, length-filter_both, list_all, list_all_from_among, list_any, none_among, none_from_not_some, none_is_some, not-true, or_from, or_parts, same_Some, source_of}
use Rattle.vt_laws_mounts.proofs.mounts.Receivers.{along_chain, groups_live_at}
use Rattle.vt_laws_mounts.specs.Mounts.Receivers.{GroupsLive}
use Rattle.vt_spec.specs.Machine.Invariants.{has_living_groups, masters_end}

-- a member of a group is shared in it,
pub group_shared : (kind : Propagation ℕ) (group : ℕ) → group_of kind ≡ Some group → kind ≡ Shared group
group_shared kind group e = grind (arith, common_steps, same_Some)

-- and receives from it
pub source_from_group : (kind : Propagation ℕ) (group : ℕ) → group_of kind ≡ Some group → source_of kind ≡ Some group
source_from_group kind group e = grind (arith, common_steps, none_is_some)

-- the second group is the first, or comes up its masters
pub data Up (master : ℕ → Option ℕ) : ℕ → ℕ → Type 0 where
  here : (group : ℕ) → Up master group group
  above : (group next other : ℕ) → master group ≡ Some next → Up master next other → Up master group other

-- the masters come to an end
pub data EndsUp (master : ℕ → Option ℕ) : ℕ → Type 0 where
  at_top : (group : ℕ) → master group ≡ None → EndsUp master group
  goes_up : (group next : ℕ) → master group ≡ Some next → EndsUp master next → EndsUp master group

module _ (master : ℕ → Option ℕ) where
  -- a way up begins where it ends, or with a first step
  pub first_step : (group other : ℕ) → Up master group other
      → (group ≡ other) ⊎ ((next : ℕ) × (master group ≡ Some next) × Up master next other)
  first_step group other (here it) = inl refl
  first_step group other (above it next end e way) = inr (next, e, way)

  -- a way up goes on with the master of its last group,
  master_on_way : (group lower next : ℕ) → Up master group lower → master lower ≡ Some next → Up master group next
  master_on_way group lower next (here it) e = above it next next e (here next)
  master_on_way group lower next (above it step other f way) e =
      above it step next f (master_on_way step other next way e)

  -- so each group on a chain of masters comes up from its start
  pub way_up : (n source group : ℕ) → is_among nat_eq group (chain n master source) ≡ true → Up master source group
  way_up n source group h =
      along_chain master _ (λ next lower e way. master_on_way source lower next way e) n source group (here source) h

  module _ (members : ℕ → Bool) where
    -- Living groups, by the chain of their masters

    -- a chain of groups with members that comes to an end is of living groups
    lives_by_chain : (n group : ℕ) → list_all members (chain n master group) ≡ true
        → is_some (master (last_or group (chain n master group))) ≡ false → Lives members master group
    lives_by_chain zero group all e = grind (arith, common_steps, has_no_master, none_from_not_some)
    lives_by_chain (suc n) group all e = grind (
      arith,
      common_steps,
      has_no_master,
      has_master,
      chain_ends,
      chain_goes_on,
      last_of_chain,
      lives_by_chain n,
    )

    -- a living group has members
    pub live_members : (group : ℕ) → Lives members master group → members group ≡ true
    live_members group (has_no_master it has f) = has
    live_members group (has_master it next has f later) = has

    -- and so has its master
    pub master_has_members : (group next : ℕ) → Lives members master group → master group ≡ Some next
        → members next ≡ true
    master_has_members group next (has_no_master it has f) e = absurd cc
    master_has_members group next (has_master it other has f later) e =
        cc (same_Some other next cc, live_members other later)

    -- The way of a living group: the group itself and all groups up its masters
    abbrev pub way : (group : ℕ) → Lives members master group → List ℕ
    way group (has_no_master it has f) = it ∷ []
    way group (has_master it next has f later) = it ∷ way next later

    pub way_members : (group : ℕ) (life : Lives members master group) → list_all members (way group life) ≡ true
    way_members group (has_no_master it has f) = grind (arith, common_steps)
    way_members group (has_master it next has f later) = grind (arith, common_steps, way_members next later)

    -- all on a chain of its masters have members,
    pub all_on_way : (n group : ℕ) → Lives members master group → list_all members (chain n master group) ≡ true
    all_on_way zero group life = grind (arith, common_steps, live_members group life)
    all_on_way (suc n) group (has_no_master it has f) = grind (arith, common_steps, chain_ends)
    all_on_way (suc n) group (has_master it next has f later) =
        grind (arith, common_steps, chain_goes_on, all_on_way n next later)

    not_empty : (group : ℕ) (life : Lives members master group) → 1 ≤ length (way group life)
    not_empty group (has_no_master it has f) = omega arith
    not_empty group (has_master it next has f later) = omega arith

    -- and a chain as long as the way comes to an end
    pub ends_within : (n group : ℕ) (life : Lives members master group) → length (way group life) ≤ suc n
        → is_some (master (last_or group (chain n master group))) ≡ false
    ends_within zero group (has_no_master it has f) l = cc
    ends_within zero group (has_master it next has f later) l = absurd (omega (arith, l, not_empty next later))
    ends_within (suc n) group (has_no_master it has f) l = cc (chain_ends master n it f)
    ends_within (suc n) group (has_master it next has f later) l = cc (
      chain_goes_on master n it next f,
      last_of_chain master n next it,
      ends_within n next later (omega (arith, l)),
    )

    -- No group comes twice on a way: it would have two ways of two lengths

    same_length : (group : ℕ) (life other : Lives members master group)
        → length (way group life) ≡ length (way group other)
    same_length group life other = same group life group other refl
      where
        same : (a : ℕ) (life : Lives members master a) (b : ℕ) (other : Lives members master b) → a ≡ b
            → length (way a life) ≡ length (way b other)
        same a (has_no_master x has f) b (has_no_master y has_too g) e = refl
        same a (has_no_master x has f) b (has_master y next has_too g later) e = absurd cc
        same a (has_master x next has f later) b (has_no_master y has_too g) e = absurd cc
        same a (has_master x next has f later) b (has_master y after has_too g later_too) e =
            ap suc (same next later after later_too (same_Some next after cc))

    abbrev HasWayWithin : ℕ → ℕ → Type 0
    HasWayWithin n group = (life : Lives members master group) × (length (way group life) ≤ n)

    -- a group on the way has a way that is no longer
    way_from : (group : ℕ) (life : Lives members master group) (other : ℕ) → Among other (way group life)
        → HasWayWithin (length (way group life)) other
    way_from group (has_no_master it has f) other m =
        let whole = has_no_master it has f in
        ⊎_elim (λ same. subst (HasWayWithin 1) (sym same) (whole, omega arith)) (λ none. absurd none) m
    way_from group (has_master it next has f later) other m =
        let whole = has_master it next has f later in
        ⊎_elim (λ same. subst (HasWayWithin (length (way it whole))) (sym same) (whole, omega arith))
        (λ l. let t = way_from next later other l in (t.0, omega (arith, t.1))) m

    pub way_apart : (group : ℕ) (life : Lives members master group) → any_pair nat_eq (way group life) ≡ false
    way_apart group (has_no_master it has f) = refl
    way_apart group (has_master it next has f later) = or_from _ _
        (false_from_ne_true (list_any (nat_eq it) (way next later)) not_above) (way_apart next later)
      where
        not_above : list_any (nat_eq it) (way next later) ≢ true
        not_above h =
            let t = way_from next later it (among_numbers (way next later) it h) in
            omega (arith, t.1, same_length it t.0 (has_master it next has f later))

-- groups that each have a member are no more than the mounts
fewer_groups : (groups : List ℕ) (mounts : List (Mount ℕ)) → any_pair nat_eq groups ≡ false
    → list_all (has_members nat_eq mounts) groups ≡ true → length groups ≤ length mounts
fewer_groups [] mounts distinct all = omega arith
fewer_groups (group ∷ groups) mounts distinct all =
    let apart = or_parts (list_any (nat_eq group) groups) _ distinct in
    let each = and_parts (has_members nat_eq mounts group) _ all in
    let one_fewer : suc (length others) ≤ length mounts =
    omega (arith, length-filter_both in_group (λ mount. not (in_group mount)) (λ mount. refl) mounts, has_one each.0) in
    let rest : length groups ≤ length others = fewer_groups groups others apart.1
    (list_all_from_among (has_members nat_eq others) groups (λ other m.
    still other mounts (none_among (nat_eq group) groups apart.0 other m)
    (among_from_list_all (has_members nat_eq mounts) groups each.1 other m))) in
    omega (arith, one_fewer, rest)
  where
    in_group : Mount ℕ → Bool
    in_group mount = is_member_of nat_eq group mount

    others : List (Mount ℕ)
    others = filter (λ mount. not (in_group mount)) mounts

    not_empty_with : (list : List (Mount ℕ)) (x : Mount ℕ) → Among x list → 1 ≤ length list
    not_empty_with [] x m = absurd m
    not_empty_with (y ∷ ys) x m = omega arith

    has_one : has_members nat_eq mounts group ≡ true → 1 ≤ length (filter in_group mounts)
    has_one h =
        let t = any_among in_group mounts h in
        not_empty_with (filter in_group mounts) t.0 (among-filter in_group mounts t.0 t.1 t.2)

    -- another group keeps its members where those of this group are left out
    still : (other : ℕ) (list : List (Mount ℕ)) → nat_eq group other ≡ false → has_members nat_eq list other ≡ true
        → has_members nat_eq (filter (λ mount. not (is_member_of nat_eq group mount)) list) other ≡ true
    still other list differ h =
        grind (arith, common_steps, any_among, any_from_among, among-filter, true≢false, eqb-true)

-- A world whose groups live, told by the groups themselves
-- as in the invariants of mounts
abbrev pub LivesIn : World ℕ → ℕ → Type 0
LivesIn world group = Lives (has_members nat_eq world.mounts) world.master group

pub lives_in : (world : World ℕ) → GroupsLive world → (mount : Mount ℕ) → Among mount world.mounts → (source : ℕ)
    → source_of mount.propagation ≡ Some source → LivesIn world source
lives_in world live mount m source e =
    let t = groups_live_at world live mount m source e in
    lives_by_chain _ _ _ source t.0 (not-true _ t.1)

pub groups_live_by : (world : World ℕ)
    → ((mount : Mount ℕ) → Among mount world.mounts → (source : ℕ) → source_of mount.propagation ≡ Some source
    → LivesIn world source) → GroupsLive world
groups_live_by world lives = list_all_from_among _ _ (λ mount m. by mount m _ refl)
  where
    one : (source : ℕ) → LivesIn world source
        → (list_all (has_members nat_eq world.mounts) (groups_up world source) && masters_end nat_eq world source)
        ≡ true
    one source life =
        let members = has_members nat_eq world.mounts in
        let few : length (way world.master members source life) ≤ length world.mounts =
        fewer_groups _ _ (way_apart _ _ source life) (way_members _ _ source life) in
        grind (arith, common_steps, and_from, all_on_way, ends_within)

    by : (mount : Mount ℕ) → Among mount world.mounts → (found : Option ℕ) → source_of mount.propagation ≡ found
        → has_living_groups nat_eq world mount ≡ true
    by mount m found e = grind (arith, common_steps, one)
