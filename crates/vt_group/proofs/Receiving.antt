-- Who receives from a group: the mounts of the groups that are found from it downwards.
use Rattle.std.proofs.Common.{◌≡◌, refl, sym, ap, ◌∙◌, true, false, zero, suc, Bool, List, None, Option, Some, [], arith, cond, is_some, length, map, nat_eq, option_map, true≢false, ℕ, ◌||◌, ◌+◌, ◌∷◌, ◌≤◌, filter, not, ⊎_elim, inl, inr, eqb-true}
use Rattle.vt_spec.proofs.Common.{Among, HasLivingGroups, Lives, Mount, Propagation, World, among-filter, among_from_all, among_from_list_all, and_parts, any_among, any_from_among, any_pair, chain, chain_ends, chain_goes_on, cons_option, group_of, groups_up, has_members, holds_of, is_among, last_of_chain, last_or, length-filter_both, list_all, list_all_from_among, list_any, none_among, or_cases, or_false_alone, or_parts, receivers, receives, same_truth, source_of}
use Rattle.vt_group.specs.Grouping.{Grouping, Has, master_in, peer_of, peers_of}
use Rattle.vt_group.specs.Receiving.{FindsBelow, receivers_from}
use Rattle.vt_group.specs.Steps.{is_member}
use Rattle.vt_laws_mounts.proofs.GroupsUp.{all_on_way, ends_within, way, way_apart, way_members}
use Rattle.vt_group.proofs.Peers.{members-peers}
use Rattle.vt_laws_mounts.specs.Mounts.Receivers.{AllGroupsLive}

module _ (master : ℕ → Option ℕ) where
  -- the end of a chain has no master
  abbrev pub Ends : ℕ → ℕ → Type 0
  Ends n source = is_some (master (last_or source (chain n master source))) ≡ false

  no_master : (source : ℕ) → is_some (master source) ≡ false → master source ≡ None
  no_master source e = by (master source) refl e
    where
      by : (o : Option ℕ) → master source ≡ o → is_some o ≡ false → master source ≡ None
      by None f e = f
      by (Some above) f e = absurd (true≢false e)

  -- a chain that came to its end goes no further
  pub chain_same : (n m source : ℕ) → n ≤ m → Ends n source → chain m master source ≡ chain n master source
  chain_same zero zero source le ends = refl
  chain_same zero (suc m) source le ends = chain_ends master m source (no_master source ends)
  chain_same (suc n) zero source le ends = absurd (omega (arith, le))
  chain_same (suc n) (suc m) source le ends = by (master source) refl
      (λ next ends. chain_same n m next (omega (arith, le)) ends)
    where
      by : (o : Option ℕ) → master source ≡ o → ((next : ℕ) → Ends n next → chain m master next ≡ chain n master next)
          → chain (suc m) master source ≡ chain (suc n) master source
      by None e later = chain_ends master m source e ∙ sym (chain_ends master n source e)
      by (Some next) e later = chain_goes_on master m source next e ∙ ap (λ l. source ∷ l) (later next
          (sym (ap (λ g. is_some (master g))
          (ap (last_or source) (chain_goes_on master n source next e) ∙ last_of_chain master n next source)) ∙ ends))
          ∙ sym (chain_goes_on master n source next e)

  -- another function that agrees along a chain has that chain
  pub chain_alike : (other : ℕ → Option ℕ) (p : ℕ → Bool) → ((group : ℕ) → p group ≡ true → other group ≡ master group)
      → (n source : ℕ) → list_all p (chain n master source) ≡ true → chain n other source ≡ chain n master source
  chain_alike other p same zero source all = refl
  chain_alike other p same (suc n) source all = by (master source) refl (chain_alike other p same n)
    where
      by : (o : Option ℕ) → master source ≡ o
          → ((next : ℕ) → list_all p (chain n master next) ≡ true → chain n other next ≡ chain n master next)
          → chain (suc n) other source ≡ chain (suc n) master source
      by None e later =
          let here = and_parts (p source) true (sym (ap (list_all p) (chain_ends master n source e)) ∙ all) in
          chain_ends other n source (same source here.0 ∙ e) ∙ sym (chain_ends master n source e)
      by (Some next) e later =
          let parts : (p source ≡ true) × (list_all p (chain n master next) ≡ true) = and_parts _ _
          (sym (ap (list_all p) (chain_goes_on master n source next e)) ∙ all) in
          chain_goes_on other n source next (same source parts.0 ∙ e) ∙ ap (λ l. source ∷ l) (later next parts.1)
          ∙ sym (chain_goes_on master n source next e)

-- a choice that holds holds also with a weaker second test
or_weaker : (a b c : Bool) → (b ≡ true → c ≡ true) → (a || b) ≡ true → (a || c) ≡ true
or_weaker true b c so is = refl
or_weaker false b c so is = so is

-- groups that each have a member are no more than the peers
fewer_groups : (groups : List ℕ) (peers : List (ℕ × Propagation ℕ)) → any_pair nat_eq groups ≡ false
    → list_all (λ group. list_any (is_member group) peers) groups ≡ true → length groups ≤ length peers
fewer_groups [] peers distinct all = omega arith
fewer_groups (group ∷ groups) peers distinct all =
    let apart_all : (list_any (nat_eq group) groups ≡ false)
    × (any_pair nat_eq groups ≡ false) = or_parts (list_any (nat_eq group) groups) (any_pair nat_eq groups) distinct in
    let each : (list_any (is_member group) peers ≡ true)
    × (list_all (λ other. list_any (is_member other) peers) groups ≡ true) = and_parts _ _ all in
    let member = any_among (is_member group) peers each.0 in
    let inside : Among member.0 (filter (is_member group) peers) = among-filter
    (is_member group) peers member.0 member.1 member.2 in
    let some_inside : 1 ≤ length (filter (is_member group) peers) = not_empty
    (filter (is_member group) peers) member.0 inside in
    let both = length-filter_both (is_member group) (λ peer. not (is_member group peer)) (λ peer. refl) peers in
    let rest : length groups ≤ length (filter (λ peer. not (is_member group peer)) peers) =
    fewer_groups groups (filter (λ peer. not (is_member group peer)) peers) apart_all.1 (list_all_from_among (λ other.
    list_any (is_member other) (filter (λ peer. not (is_member group peer)) peers)) groups (λ other m.
    still group other peers (none_among (nat_eq group) groups apart_all.0 other m)
    (among_from_list_all (λ other. list_any (is_member other) peers) groups each.1 other m))) in
    omega (arith, both, rest, some_inside)
  where
    not_empty : (list : List (ℕ × Propagation ℕ)) (x : ℕ × Propagation ℕ) → Among x list → 1 ≤ length list
    not_empty [] x m = absurd m
    not_empty (y ∷ ys) x m = omega arith

    still : (one other : ℕ) (list : List (ℕ × Propagation ℕ)) → nat_eq one other ≡ false
        → list_any (is_member other) list ≡ true
        → list_any (is_member other) (filter (λ peer. not (is_member one peer)) list) ≡ true
    still one other list differ h =
        let member = any_among (is_member other) list h in
        any_from_among (is_member other) (filter (λ peer. not (is_member one peer)) list) member.0
        (among-filter (λ peer. not (is_member one peer)) list member.0 member.1
        (no_member (group_of member.0.1) member.2)) member.2
      where
        no_member : (found : Option ℕ) → holds_of (nat_eq other) found ≡ true → not (holds_of (nat_eq one) found) ≡ true
        no_member None e = absurd (true≢false (sym e))
        no_member (Some k) e = ap not (ap (nat_eq one) (sym (eqb-true other k e)) ∙ differ)

-- The mounts that receive, among those that are shared or slaves

receivers_from-mounts : (test : ℕ → Bool) (wanted : Mount ℕ → Bool) (mounts : List (Mount ℕ))
    → ((mount : Mount ℕ) → Among mount mounts → wanted mount ≡ holds_of test (source_of mount.propagation))
    → receivers_from test (peers_of mounts) ≡ map (λ mount. mount.number) (filter wanted mounts)
receivers_from-mounts test wanted [] same = refl
receivers_from-mounts test wanted (mount ∷ rest) same =
    by (source_of mount.propagation) refl (receivers_from-mounts test wanted rest (λ x m. same x (inr m)))
    ∙ ap (λ b. map (λ x. x.number) (cond b (mount ∷ filter wanted rest) (filter wanted rest)))
    (sym (same mount (inl refl)))
  where
    each : (b : Bool) → receivers_from test (peers_of rest) ≡ map (λ x. x.number) (filter wanted rest)
        → cond b (mount.number ∷ receivers_from test (peers_of rest)) (receivers_from test (peers_of rest))
        ≡ map (λ x. x.number) (cond b (mount ∷ filter wanted rest) (filter wanted rest))
    each true later = ap (λ l. mount.number ∷ l) later
    each false later = later

    by : (o : Option ℕ) → source_of mount.propagation ≡ o
        → receivers_from test (peers_of rest) ≡ map (λ x. x.number) (filter wanted rest)
        → receivers_from test (cons_option (option_map (λ s. (mount.number, mount.propagation)) (source_of mount.propagation))
        (peers_of rest))
        ≡ map (λ x. x.number) (cond (holds_of test (source_of mount.propagation)) (mount ∷ filter wanted rest)
        (filter wanted rest))
    by None e later =
        ap (λ o. receivers_from test (cons_option (option_map (λ s. (mount.number, mount.propagation)) o) (peers_of rest))) e
        ∙ later
        ∙ ap (λ o. map (λ x. x.number) (cond (holds_of test o) (mount ∷ filter wanted rest) (filter wanted rest)))
        (sym e)
    by (Some s) e later =
        ap (λ o. receivers_from test (cons_option (option_map (λ s. (mount.number, mount.propagation)) o) (peers_of rest))) e
        ∙ each (holds_of test (source_of mount.propagation)) later

fewer_peers : (mounts : List (Mount ℕ)) → length (peers_of mounts) ≤ length mounts
fewer_peers [] = omega arith
fewer_peers (mount ∷ rest) = by (peer_of mount) (fewer_peers rest)
  where
    by : (o : Option (ℕ × Propagation ℕ)) → length (peers_of rest) ≤ length rest
        → length (cons_option o (peers_of rest)) ≤ length (mount ∷ rest)
    by None le = omega (arith, le)
    by (Some peer) le = omega (arith, le)

few_on_way : (world : World ℕ) (source : ℕ) (life : Lives (has_members nat_eq world.mounts) world.master source)
    → length (way world.master (has_members nat_eq world.mounts) source life) ≤ length (peers_of world.mounts)
few_on_way world source life =
    let members : ℕ → Bool = has_members nat_eq world.mounts in
    fewer_groups (way world.master members source life) (peers_of world.mounts)
    (way_apart world.master members source life)
    (list_all_from_among (λ g. list_any (is_member g) (peers_of world.mounts)) (way world.master members source life)
    (λ g m.
    members-peers g world.mounts ∙ among_from_list_all members (way world.master members source life)
    (way_members world.master members source life) g m))

-- the masters of a living group end within as many steps as there are mounts
pub living_ends : (world : World ℕ) (source : ℕ) → Lives (has_members nat_eq world.mounts) world.master source
    → Ends world.master (length world.mounts) source
living_ends world source life =
    let few : length (way world.master (has_members nat_eq world.mounts) source life) ≤ length (peers_of world.mounts) =
    few_on_way world source life in
    ends_within world.master (has_members nat_eq world.mounts) (length world.mounts) source life
    (omega (arith, few, fewer_peers world.mounts))

-- a longer chain has no fewer groups
longer_chain : (master : ℕ → Option ℕ) (group : ℕ) (n m source : ℕ) → n ≤ m
    → is_among nat_eq group (chain n master source) ≡ true → is_among nat_eq group (chain m master source) ≡ true
longer_chain master group zero zero source le is = is
longer_chain master group zero (suc m) source le is = by (master source) refl
  where
    by : (o : Option ℕ) → master source ≡ o → is_among nat_eq group (chain (suc m) master source) ≡ true
    by None e = ap (is_among nat_eq group) (chain_ends master m source e) ∙ is
    by (Some next) e = ap (is_among nat_eq group) (chain_goes_on master m source next e)
        ∙ ap (λ b. b || is_among nat_eq group (chain m master next)) (or_false_alone (nat_eq group source) is)
longer_chain master group (suc n) zero source le is = absurd (omega (arith, le))
longer_chain master group (suc n) (suc m) source le is =
    by (master source) refl (λ next. longer_chain master group n m next (omega (arith, le)))
  where
    by : (o : Option ℕ) → master source ≡ o → ((next : ℕ) → is_among nat_eq group (chain n master next) ≡ true
        → is_among nat_eq group (chain m master next) ≡ true)
        → is_among nat_eq group (chain (suc m) master source) ≡ true
    by None e later =
        ap (is_among nat_eq group) (chain_ends master m source e ∙ sym (chain_ends master n source e)) ∙ is
    by (Some next) e later = ap (is_among nat_eq group) (chain_goes_on master m source next e)
        ∙ or_weaker (nat_eq group source) (is_among nat_eq group (chain n master next))
        (is_among nat_eq group (chain m master next)) (later next)
        (ap (is_among nat_eq group) (sym (chain_goes_on master n source next e)) ∙ is)

module _ (groups : Grouping) (group : ℕ) (found : ℕ → Bool) (finds : FindsBelow groups group found) where
  first_found : (source : ℕ) → nat_eq group source ≡ true → found source ≡ true
  first_found source same = ap found (sym (eqb-true group source same)) ∙ finds.first

  -- what the group is up the masters of is found
  below_found : (n source : ℕ) → is_among nat_eq group (chain n (master_in groups) source) ≡ true → found source ≡ true
  below_found zero source is = first_found source (or_false_alone (nat_eq group source) is)
  below_found (suc n) source is = by (master_in groups source) refl (below_found n)
    where
      by : (o : Option ℕ) → master_in groups source ≡ o
          → ((next : ℕ) → is_among nat_eq group (chain n (master_in groups) next) ≡ true → found next ≡ true)
          → found source ≡ true
      by None e later = first_found source (or_false_alone (nat_eq group source)
          (ap (is_among nat_eq group) (sym (chain_ends (master_in groups) n source e)) ∙ is))
      by (Some next) e later = ⊎_elim (first_found source) (λ among. finds.lower source next e (later next among))
          (or_cases (nat_eq group source) (is_among nat_eq group (chain n (master_in groups) next))
          (ap (is_among nat_eq group) (sym (chain_goes_on (master_in groups) n source next e)) ∙ is))

  module _ (world : World ℕ) (has : Has world groups) (live : AllGroupsLive world) where
    abbrev members : ℕ → Bool
    members = has_members nat_eq world.mounts

    same_masters : (one : ℕ) → members one ≡ true → master_in groups one ≡ world.master one
    same_masters one lives = has.masters one ∙ ap (λ b. cond b (world.master one) None) lives

    alike : (n source : ℕ) → Lives members world.master source
        → chain n (master_in groups) source ≡ chain n world.master source
    alike n source life = chain_alike world.master (master_in groups) members same_masters n source
        (all_on_way world.master members n source life)

    found_alike : (source : ℕ) → Lives members world.master source
        → is_among nat_eq group (groups_up world source) ≡ found source
    found_alike source life = same_truth (is_among nat_eq group (groups_up world source)) (found source)
        (λ is. below_found (length world.mounts) source
        (ap (is_among nat_eq group) (alike (length world.mounts) source life) ∙ is))
        (λ is. let reaches = finds.reaches source is in
        let most = reaches.0 + length world.mounts in
        ap (is_among nat_eq group)
        (sym (chain_same world.master (length world.mounts) most source (omega arith) (living_ends world source life)))
        ∙ longer_chain world.master group reaches.0 most source (omega arith)
        (ap (is_among nat_eq group) (sym (alike reaches.0 source life)) ∙ reaches.1))

    -- the mounts that are picked are the receivers of the definitions
    pub receivers_found : receivers_from found groups.peers ≡ map (λ mount. mount.number) (receivers nat_eq world group)
    receivers_found = ap (receivers_from found) has.peers
        ∙ receivers_from-mounts found (receives nat_eq world group) world.mounts
        (λ mount m. by mount m (source_of mount.propagation) refl)
      where
        by : (mount : Mount ℕ) → Among mount world.mounts → (o : Option ℕ) → source_of mount.propagation ≡ o
            → receives nat_eq world group mount ≡ holds_of found (source_of mount.propagation)
        by mount m None e =
            ap (holds_of (λ source. is_among nat_eq group (groups_up world source))) e ∙ sym (ap (holds_of found) e)
        by mount m (Some source) e = ap (holds_of (λ source. is_among nat_eq group (groups_up world source))) e
            ∙ found_alike source (among_from_all (HasLivingGroups nat_eq world) world.mounts live mount m source e)
            ∙ sym (ap (holds_of found) e)
