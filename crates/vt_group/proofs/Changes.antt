-- A mount gets another type: which groups still have members, and what is left to regroup.
use Rattle.std.proofs.Common.{◌≡◌, ℕ, Bool, true, false, cond, ◌||◌, List, [], ◌∷◌, map, nat_eq, nat_lt, Option, Some, None, is_some, refl, sym, ap, subst, ◌∙◌, arith, true≢false, ne_eqb, eq-eqb, lt-ltb, inl, inr, ⊎_elim, ◌⊎◌, eqb-true, ltb-true, ltb-false, IfSome, Contains, if◌then◌else◌, unwrap_or, nat_cmp, Less, Equal, Greater}
use Rattle.vt_spec.proofs.Common.{Among, HasLivingGroups, Lives, Mount, Private, Propagation, Shared, Slave, World, among-from_map, among-map, among_from_all, among_from_contains, and_from, and_parts, any_among, any_from_among, eqb-false, group_of, has_master, has_members, has_no_master, holds_of, insert_entry, is_among_numbers, is_member_of, list_all, lookup, match_ordering, regrouped, remove_entry, same_Some, source_of, with_master}
use Rattle.vt_group.specs.Grouping.{Grouping, Has, HasGroup, HasMount, LacksGroup, are_rising, below, peers_of, propagation_in, retyped_if, with_propagation}
use Rattle.vt_group.specs.Steps.{ended_if_lost, retyped}
use Rattle.vt_laws_mounts.proofs.GroupsUp.{group_shared, live_members, master_has_members}
use Rattle.vt_group.proofs.Peers.{lookup-among, lookup-peer, numbers-retyped, peers-left, peers-set, retyped_other, retyped_same}
use Rattle.vt_group.proofs.Regrouping.{regrouped-has}
use Rattle.vt_laws_mounts.proofs.GroupsKept.{member_shared, shared_member}
use Rattle.vt_laws_mounts.specs.Mounts.Attaching.{numbers_of}
use Rattle.vt_laws_mounts.specs.Mounts.Receivers.{AllGroupsLive}

-- Living groups
module _ (members : ℕ → Bool) (master : ℕ → Option ℕ) where
  -- a living group is not its own master
  not_own_master : (group : ℕ) → Lives members master group → master group ≡ Some group → ⊥
  not_own_master group (has_no_master it has e) f = true≢false (sym (ap is_some f) ∙ ap is_some e)
  not_own_master group (has_master it next has e later) f =
      let same : next ≡ it = same_Some next it (sym e ∙ f) in
      not_own_master next later (ap master same ∙ f ∙ ap Some (sym same))

module _ (world : World ℕ) (groups : Grouping) (has : Has world groups) (live : AllGroupsLive world) (number : ℕ)
    (kind : Propagation ℕ) where
  abbrev were : ℕ → Bool
  were = has_members nat_eq world.mounts

  abbrev left : Option ℕ
  left = group_of (propagation_in groups number)

  abbrev after : List (Mount ℕ)
  after = map (retyped_if number kind) world.mounts

  abbrev are : ℕ → Bool
  are = has_members nat_eq after

  -- the group that the mount was in had members
  left_had : (group : ℕ) → left ≡ Some group → were group ≡ true
  left_had group e = by (lookup (nat_eq number) groups.peers) refl e
    where
      by : (o : Option (Propagation ℕ)) → lookup (nat_eq number) groups.peers ≡ o
          → group_of (unwrap_or o Private) ≡ Some group → were group ≡ true
      by None f e = absurd (true≢false (sym (ap is_some e)))
      by (Some old) f e =
          let found = lookup-among number old world.mounts (sym (ap (lookup (nat_eq number)) has.peers) ∙ f) in
          any_from_among (is_member_of nat_eq group) world.mounts found.0 found.1
          (shared_member group found.0 (found.3 ∙ group_shared old group e))

  -- a group keeps its members, or it is the one that was left
  still : (group : ℕ) → were group ≡ true → (are group ≡ true) ⊎ (left ≡ Some group)
  still group h = by (nat_eq number mount.number) refl
    where
      member : (x : Mount ℕ) × Among x world.mounts × (is_member_of nat_eq group x ≡ true)
      member = any_among (is_member_of nat_eq group) world.mounts h

      mount : Mount ℕ
      mount = member.0

      by : (b : Bool) → nat_eq number member.0.number ≡ b → (are group ≡ true) ⊎ (left ≡ Some group)
      by true same =
          let shared : member.0.propagation ≡ Shared group = member_shared group member.0 member.2 in
          inr ((λ i. group_of (unwrap_or
          (lookup (nat_eq (eqb-true number member.0.number same i)) (has.peers i)) Private))
          ∙ ap (λ o. group_of (unwrap_or o Private))
          (lookup-peer group member.0 world.mounts has.order member.1 (ap source_of shared)) ∙ ap group_of shared)
      by false differ = inl (any_from_among (is_member_of nat_eq group) after (retyped_if number kind member.0)
          (among-map (retyped_if number kind) world.mounts member.0 member.1)
          (ap (is_member_of nat_eq group) (retyped_other number kind member.0 differ) ∙ member.2))

  -- where a mount after the change comes from
  from_before : (mount : Mount ℕ) → Among mount after → (mount.propagation ≡ kind) ⊎ Among mount world.mounts
  from_before mount m =
      let from = among-from_map (retyped_if number kind) world.mounts mount m in
      by from.0 from.1 from.2 (nat_eq number from.0.number) refl
    where
      by : (old : Mount ℕ) → Among old world.mounts → mount ≡ retyped_if number kind old → (b : Bool)
          → nat_eq number old.number ≡ b → (mount.propagation ≡ kind) ⊎ Among mount world.mounts
      by old o e true same = inl (ap (λ x. x.propagation) (e ∙ retyped_same number kind old same))
      by old o e false differ = inr (subst (λ x. Among x world.mounts)
          (sym (e ∙ retyped_other number kind old differ)) o)

  -- a group has a member because it had, or because the mount joined it
  had : (group : ℕ) → are group ≡ true → (were group ≡ true) ⊎ (group_of kind ≡ Some group)
  had group h =
      let member = any_among (is_member_of nat_eq group) after h in
      ⊎_elim (λ e. inr (ap group_of (sym e ∙ member_shared group member.0 member.2)))
      (λ m. inl (any_from_among (is_member_of nat_eq group) world.mounts member.0 m member.2))
      (from_before member.0 member.1)

  source_lives : (mount : Mount ℕ) → Among mount world.mounts → (group : ℕ) → source_of mount.propagation ≡ Some group
      → Lives were world.master group
  source_lives mount m group e = among_from_all (HasLivingGroups nat_eq world) world.mounts live mount m group e

  group_lives : (group : ℕ) → were group ≡ true → Lives were world.master group
  group_lives group h =
      let member = any_among (is_member_of nat_eq group) world.mounts h in
      source_lives member.0 member.1 group (ap source_of (member_shared group member.0 member.2))

  module _ (master : ℕ → Option ℕ) (peers : List (ℕ × Propagation ℕ)) (masters : List (ℕ × ℕ))
      (same_peers : peers ≡ peers_of after) (rising : are_rising (map (λ entry. entry.0) masters) ≡ true)
      (joined : (group : ℕ) → group_of kind ≡ Some group → are group ≡ true)
      (slave_of : (group : ℕ) → kind ≡ Slave group → were group ≡ true)
      (master_old : (group : ℕ) → were group ≡ true → master group ≡ world.master group)
      (master_new : (group above : ℕ) → group_of kind ≡ Some group → were group ≡ false → master group ≡ Some above
      → were above ≡ true)
      (entry_old : (group : ℕ) → were group ≡ true → lookup (nat_eq group) masters ≡ world.master group)
      (entry_new : (group : ℕ) → were group ≡ false → group_of kind ≡ Some group
      → lookup (nat_eq group) masters ≡ master group)
      (entry_none : (group : ℕ) → were group ≡ false → (group_of kind ≡ Some group → ⊥)
      → lookup (nat_eq group) masters ≡ None) where
    abbrev changed : World ℕ
    changed = record world { mounts = after; master = master }

    entries : (group : ℕ) → lookup (nat_eq group) masters
        ≡ cond (are group || holds_of (nat_eq group) left) (master group) None
    entries group = by (were group) refl
      where
        or_true : (a b : Bool) → b ≡ true → (a || b) ≡ true
        or_true true b e = refl
        or_true false b e = e

        not_left : were group ≡ false → (o : Option ℕ) → left ≡ o → holds_of (nat_eq group) o ≡ false
        not_left w None e = refl
        not_left w (Some other) e = ne_eqb group other
            (λ same. true≢false (sym (left_had other e) ∙ ap were (sym same) ∙ w))

        dead : were group ≡ false → (b : Bool) → are group ≡ b
            → lookup (nat_eq group) masters ≡ cond (b || holds_of (nat_eq group) left) (master group) None
        dead w true a = ⊎_elim (λ h. absurd (true≢false (sym h ∙ w))) (λ e. entry_new group w e) (had group a)
        dead w false a = entry_none group w (λ e. true≢false (sym (joined group e) ∙ a))
            ∙ ap (λ b. cond b (master group) None) (sym (not_left w left refl))

        by : (b : Bool) → were group ≡ b
            → lookup (nat_eq group) masters ≡ cond (are group || holds_of (nat_eq group) left) (master group) None
        by true w = entry_old group w ∙ sym (master_old group w)
            ∙ ap (λ b. cond b (master group) None) (sym (⊎_elim (λ a. ap (λ b. b || holds_of (nat_eq group) left) a)
            (λ e. or_true (are group) _ (ap (holds_of (nat_eq group)) e ∙ eq-eqb group group refl)) (still group w)))
        by false w = dead w (are group) refl

    -- a group that has members has had some, or is the one that is joined
    had_or_joined : (group : ℕ) → (are group ≡ true) ⊎ (left ≡ Some group)
        → (were group ≡ true) ⊎ (group_of kind ≡ Some group)
    had_or_joined group h = ⊎_elim (λ a. had group a) (λ l. inl (left_had group l)) h

    above_old : (group up : ℕ) → were group ≡ true → master group ≡ Some up → were up ≡ true
    above_old group up w e = master_has_members world.master were group up (group_lives group w)
        (sym (master_old group w) ∙ e)

    above_any : (group up : ℕ) → (were group ≡ true) ⊎ (group_of kind ≡ Some group) → master group ≡ Some up
        → were up ≡ true
    above_any group up h e = by (were group) refl h
      where
        by : (b : Bool) → were group ≡ b → (were group ≡ true) ⊎ (group_of kind ≡ Some group) → were up ≡ true
        by true w h = above_old group up w e
        by false w h = ⊎_elim (λ t. absurd (true≢false (sym t ∙ w))) (λ k. master_new group up k w e) h

    -- a world in which one mount changed its type has the changed groups, without the one that ended
    pub changed_regroups : Has (regrouped nat_eq changed)
        (ended_if_lost left (record { peers = peers; masters = masters }))
    changed_regroups = regrouped-has changed left (record { peers = peers; masters = masters }) (record {
      order = ap are_rising (numbers-retyped number kind world.mounts) ∙ has.order;
      peers = same_peers;
      masters_order = rising;
      masters = entries;
      slaves = λ mount m master_of e. still master_of (⊎_elim (λ k. slave_of master_of (sym k ∙ e))
          (λ old. live_members world.master were master_of (source_lives mount old master_of (ap source_of e)))
          (from_before mount m));
      above = λ group up h e. still up (above_any group up (had_or_joined group h) e);
      apart = λ group l e.
          let w = left_had group l in
          not_own_master were world.master group (group_lives group w) (sym (master_old group w) ∙ e);
    })

  -- where the masters of groups that were there stay
  entry_of : (group : ℕ) (b : Bool) → were group ≡ b
      → lookup (nat_eq group) groups.masters ≡ cond b (world.master group) None
  entry_of group b w = has.masters group ∙ ap (λ b. cond b (world.master group) None) w

  -- the mount is there, so that the group that it joins has a member
  joined_by : Contains (numbers_of world.mounts) number → (group : ℕ) → group_of kind ≡ Some group → are group ≡ true
  joined_by there group e =
      let from = among-from_map (λ mount. mount.number) world.mounts number
      (among_from_contains (numbers_of world.mounts) number there) in
      any_from_among (is_member_of nat_eq group) after (retyped_if number kind from.0)
      (among-map (retyped_if number kind) world.mounts from.0 from.1)
      (ap (is_member_of nat_eq group) (retyped_same number kind from.0 (eq-eqb number from.0.number from.2))
      ∙ ap (λ o. holds_of (nat_eq group) o) e ∙ eq-eqb group group refl)

  set_peers : (source : ℕ) → source_of kind ≡ Some source → Contains (numbers_of world.mounts) number
      → insert_entry nat_cmp groups.peers number kind ≡ peers_of after
  set_peers source e there = ap (λ peers. insert_entry nat_cmp peers number kind) has.peers
      ∙ sym (peers-set number kind source e world.mounts has.order
      (is_among_numbers (numbers_of world.mounts) number (among_from_contains (numbers_of world.mounts) number there)))

-- A mount becomes private
pub left_regroups : (world : World ℕ) (groups : Grouping) → Has world groups → AllGroupsLive world → (number : ℕ)
    → Has (regrouped nat_eq (with_propagation world number Private))
    (ended_if_lost (group_of (propagation_in groups number))
    (record groups { peers = remove_entry (nat_eq number) groups.peers }))
left_regroups world groups has live number = changed_regroups world groups has live number Private world.master
    (remove_entry (nat_eq number) groups.peers) groups.masters
    (ap (remove_entry (nat_eq number)) has.peers ∙ sym (peers-left number world.mounts has.order)) has.masters_order
    (λ group e. absurd (true≢false (sym (ap is_some e)))) (λ group e. absurd (private_no_slave group e))
    (λ group w. refl) (λ group above e w f. absurd (true≢false (sym (ap is_some e))))
    (λ group w. entry_of world groups has live number Private group true w)
    (λ group w e. absurd (true≢false (sym (ap is_some e))))
    (λ group w none. entry_of world groups has live number Private group false w)
  where
    private_no_slave : (group : ℕ) → Private ≡ Slave group → ⊥
    private_no_slave group e = cc

-- A mount becomes a slave
pub slave_regroups : (world : World ℕ) (groups : Grouping) → Has world groups → AllGroupsLive world
    → (number master : ℕ) → Contains (numbers_of world.mounts) number → has_members nat_eq world.mounts master ≡ true
    → Has (regrouped nat_eq (with_propagation world number (Slave master))) (retyped number (Slave master) groups)
slave_regroups world groups has live number master there lives =
    changed_regroups world groups has live number (Slave master) world.master
    (insert_entry nat_cmp groups.peers number (Slave master)) groups.masters
    (set_peers world groups has live number (Slave master) master refl there) has.masters_order
    (joined_by world groups has live number (Slave master) there)
    (λ group e. ap (has_members nat_eq world.mounts) (sym (same_master group e)) ∙ lives) (λ group w. refl)
    (λ group above e w f. absurd (true≢false (sym (ap is_some e))))
    (λ group w. entry_of world groups has live number (Slave master) group true w)
    (λ group w e. absurd (true≢false (sym (ap is_some e))))
    (λ group w none. entry_of world groups has live number (Slave master) group false w)
  where
    same_master : (group : ℕ) → Slave master ≡ Slave group → master ≡ group
    same_master group e = cc

-- A mount joins a group
pub join_regroups : (world : World ℕ) (groups : Grouping) → Has world groups → AllGroupsLive world → (number group : ℕ)
    → Contains (numbers_of world.mounts) number
    → (has_members nat_eq world.mounts group ≡ false → world.master group ≡ None)
    → Has (regrouped nat_eq (with_propagation world number (Shared group))) (retyped number (Shared group) groups)
join_regroups world groups has live number group there fresh =
    changed_regroups world groups has live number (Shared group) world.master
    (insert_entry nat_cmp groups.peers number (Shared group)) groups.masters
    (set_peers world groups has live number (Shared group) group refl there) has.masters_order
    (joined_by world groups has live number (Shared group) there) (λ other e. absurd (shared_no_slave other e))
    (λ other w. refl) (λ other above e w f. absurd (true≢false (sym (ap is_some f) ∙ ap is_some (none other e w))))
    (λ other w. entry_of world groups has live number (Shared group) other true w)
    (λ other w e. entry_of world groups has live number (Shared group) other false w ∙ sym (none other e w))
    (λ other w apart. entry_of world groups has live number (Shared group) other false w)
  where
    shared_no_slave : (other : ℕ) → Shared group ≡ Slave other → ⊥
    shared_no_slave other e = cc

    none : (other : ℕ) → Some group ≡ Some other → has_members nat_eq world.mounts other ≡ false
        → world.master other ≡ None
    none other e w =
        let same : group ≡ other = same_Some group other e in
        ap world.master (sym same) ∙ fresh (ap (has_members nat_eq world.mounts) same ∙ w)

-- Entries of masters, with one more

-- what is found once an entry is put in: its value at its group, and what was there at any other
pub lookup-inserted : {V : Type 0} (other group : ℕ) (master : V) (masters : List (ℕ × V))
    → lookup (nat_eq other) (insert_entry nat_cmp masters group master)
    ≡ cond (nat_eq other group) (Some master) (lookup (nat_eq other) masters)
lookup-inserted {V} other group master [] = refl
lookup-inserted {V} other group master (e ∷ masters) =
    by (nat_lt group e.0) refl (nat_eq group e.0) refl (lookup-inserted other group master masters)
  where
    shadow : (a b : Bool) (x : V) (rest : Option V) → (a ≡ true → b ≡ false)
        → cond a (Some x) (cond b (Some master) rest) ≡ cond b (Some master) (cond a (Some x) rest)
    shadow true true x rest apart = absurd (true≢false (apart refl))
    shadow true false x rest apart = refl
    shadow false b x rest apart = refl

    by : (less : Bool) → nat_lt group e.0 ≡ less → (same : Bool) → nat_eq group e.0 ≡ same
        → lookup (nat_eq other) (insert_entry nat_cmp masters group master)
        ≡ cond (nat_eq other group) (Some master) (lookup (nat_eq other) masters)
        → lookup (nat_eq other) (match_ordering (cond less Less (cond same Equal Greater))
        ((group, master) ∷ e ∷ masters) ((e.0, master) ∷ masters) (e ∷ insert_entry nat_cmp masters group master))
        ≡ cond (nat_eq other group) (Some master) (cond (nat_eq other e.0) (Some e.1) (lookup (nat_eq other) masters))
    by true l same s rest = refl
    by false l true s rest =
        ap (λ n. cond (nat_eq other n) (Some master) (lookup (nat_eq other) masters)) (sym (eqb-true group e.0 s))
        ∙ twice (nat_eq other group) (nat_eq other e.0) (ap (nat_eq other) (eqb-true group e.0 s))
      where
        twice : (a b : Bool) → a ≡ b → cond a (Some master) (lookup (nat_eq other) masters)
            ≡ cond a (Some master) (cond b (Some e.1) (lookup (nat_eq other) masters))
        twice true b e = refl
        twice false true e = absurd (true≢false (sym e))
        twice false false e = refl
    by false l false s rest = ap (cond (nat_eq other e.0) (Some e.1)) rest
        ∙ shadow (nat_eq other e.0) (nat_eq other group) e.1 (lookup (nat_eq other) masters)
        (λ is. ne_eqb other group (λ same. eqb-false group e.0 s (sym same ∙ eqb-true other e.0 is)))

module _ (group master : ℕ) where
  abbrev keys : List (ℕ × ℕ) → List ℕ
  keys masters = map (λ entry. entry.0) masters

  low-inserted : (low : ℕ) (masters : List (ℕ × ℕ)) → nat_lt low group ≡ true
      → list_all (nat_lt low) (keys masters) ≡ true
      → list_all (nat_lt low) (keys (insert_entry nat_cmp masters group master)) ≡ true
  low-inserted low [] less all = and_from _ _ less refl
  low-inserted low (e ∷ masters) less all = by (nat_lt group e.0) (nat_eq group e.0)
      (low-inserted low masters less (and_parts _ _ all).1)
    where
      by : (a b : Bool) → list_all (nat_lt low) (keys (insert_entry nat_cmp masters group master)) ≡ true
          → list_all (nat_lt low) (keys (match_ordering (cond a Less (cond b Equal Greater))
          ((group, master) ∷ e ∷ masters) ((e.0, master) ∷ masters) (e ∷ insert_entry nat_cmp masters group master)))
          ≡ true
      by true b rest = and_from _ _ less all
      by false true rest = all
      by false false rest = and_from _ _ (and_parts _ _ all).0 rest

  further_low : (high : ℕ) (masters : List (ℕ × ℕ)) → nat_lt group high ≡ true
      → list_all (nat_lt high) (keys masters) ≡ true → list_all (nat_lt group) (keys masters) ≡ true
  further_low high [] less all = refl
  further_low high (e ∷ masters) less all =
      and_from _ _ (lt-ltb group e.0 (omega (arith, ltb-true group high less, ltb-true high e.0 (and_parts _ _ all).0)))
      (further_low high masters less (and_parts _ _ all).1)

  -- masters stay in order where one is put in
  pub rising-inserted : (masters : List (ℕ × ℕ)) → are_rising (keys masters) ≡ true
      → are_rising (keys (insert_entry nat_cmp masters group master)) ≡ true
  rising-inserted [] rising = refl
  rising-inserted (e ∷ masters) rising =
      by (nat_lt group e.0) refl (nat_eq group e.0) refl (rising-inserted masters parts.1)
    where
      parts : (list_all (nat_lt e.0) (keys masters) ≡ true) × (are_rising (keys masters) ≡ true)
      parts = and_parts _ _ rising

      by : (a : Bool) → nat_lt group e.0 ≡ a → (b : Bool) → nat_eq group e.0 ≡ b
          → are_rising (keys (insert_entry nat_cmp masters group master)) ≡ true
          → are_rising (keys (match_ordering (cond a Less (cond b Equal Greater)) ((group, master) ∷ e ∷ masters)
          ((e.0, master) ∷ masters) (e ∷ insert_entry nat_cmp masters group master))) ≡ true
      by true l b s rest = and_from _ _ (and_from _ _ l (further_low e.0 masters l parts.0)) rising
      by false l true s rest = rising
      by false l false s rest = and_from _ _ (low-inserted e.0 masters
          (lt-ltb e.0 group (omega (arith, ltb-false group e.0 l, eqb-false group e.0 s))) parts.0) rest

-- A mount is the first member of a new group
pub start_regroups : (world : World ℕ) (groups : Grouping) → Has world groups → AllGroupsLive world
    → (number group : ℕ) (master : Option ℕ) (masters : List (ℕ × ℕ)) → are_rising (keys group group masters) ≡ true
    → ((other : ℕ) → lookup (nat_eq other) masters
    ≡ cond (nat_eq other group) master (lookup (nat_eq other) groups.masters))
    → HasMount world number → LacksGroup world group → IfSome master (HasGroup world)
    → Has (regrouped nat_eq (below (with_propagation world number (Shared group)) group master))
    (retyped number (Shared group) (record groups { masters = masters }))
start_regroups world groups has live number group master masters rising entry there fresh lives =
    changed_regroups world groups has live number (Shared group) (with_master nat_eq world.master group master)
    (insert_entry nat_cmp groups.peers number (Shared group)) masters
    (set_peers world groups has live number (Shared group) group refl there) rising
    (joined_by world groups has live number (Shared group) there) (λ other e. absurd (shared_no_slave other e))
    (λ other w. elsewhere other (apart_old other w))
    (λ other above e w f. above_lives_on master lives above (sym (here other (sym (same_Some group other e))) ∙ f))
    (λ other w. entry other ∙ ap (λ b. cond b master (lookup (nat_eq other) groups.masters)) (apart_old other w)
    ∙ entry_of world groups has live number (Shared group) other true w) (λ other w e.
    entry other ∙ ap (λ b. cond b master (lookup (nat_eq other) groups.masters))
    (eq-eqb other group (sym (same_Some group other e))) ∙ sym (here other (sym (same_Some group other e))))
    (λ other w apart.
    entry other ∙ ap (λ b. cond b master (lookup (nat_eq other) groups.masters))
    (ne_eqb other group (λ same. apart (ap Some (sym same))))
    ∙ entry_of world groups has live number (Shared group) other false w)
  where
    shared_no_slave : (other : ℕ) → Shared group ≡ Slave other → ⊥
    shared_no_slave other e = cc

    above_lives_on : (o : Option ℕ) → IfSome o (HasGroup world) → (above : ℕ) → o ≡ Some above → HasGroup world above
    above_lives_on None h above e = absurd (true≢false (sym (ap is_some e)))
    above_lives_on (Some it) h above e = ap (has_members nat_eq world.mounts) (sym (same_Some it above e)) ∙ h

    apart_old : (other : ℕ) → has_members nat_eq world.mounts other ≡ true → nat_eq other group ≡ false
    apart_old other w = ne_eqb other group
        (λ same. true≢false (sym w ∙ ap (has_members nat_eq world.mounts) same ∙ fresh))

    elsewhere : (other : ℕ) → nat_eq other group ≡ false
        → with_master nat_eq world.master group master other ≡ world.master other
    elsewhere other e = ap (λ b. if b then master else world.master other) e

    here : (other : ℕ) → other ≡ group → with_master nat_eq world.master group master other ≡ master
    here other e = ap (λ b. if b then master else world.master other) (eq-eqb other group e)

-- A mount that starts a group as a slave gives the world that group, with its master.
pub start_below : (world : World ℕ) (groups : Grouping) → Has world groups → AllGroupsLive world
    → (number group master : ℕ) → HasMount world number → LacksGroup world group → HasGroup world master
    → Has (regrouped nat_eq (below (with_propagation world number (Shared group)) group (Some master)))
    (retyped number (Shared group) (record groups { masters = insert_entry nat_cmp groups.masters group master }))
start_below world groups has live number group master there fresh lives =
    start_regroups world groups has live number group (Some master) (insert_entry nat_cmp groups.masters group master)
    (rising-inserted group master groups.masters has.masters_order)
    (λ other. lookup-inserted other group master groups.masters) there fresh lives

-- A mount that starts a group alone gives the world that group, without a master.
pub start_alone : (world : World ℕ) (groups : Grouping) → Has world groups → AllGroupsLive world → (number group : ℕ)
    → HasMount world number → LacksGroup world group
    → Has (regrouped nat_eq (below (with_propagation world number (Shared group)) group None))
    (retyped number (Shared group) groups)
start_alone world groups has live number group there fresh =
    start_regroups world groups has live number group None groups.masters has.masters_order
    (λ other. by other (nat_eq other group) refl) there fresh tt
  where
    by : (other : ℕ) (b : Bool) → nat_eq other group ≡ b
        → lookup (nat_eq other) groups.masters ≡ cond b None (lookup (nat_eq other) groups.masters)
    by other true is = has.masters other ∙ ap (λ b. cond b (world.master other) None)
        (ap (has_members nat_eq world.mounts) (eqb-true other group is) ∙ fresh)
    by other false is = refl
