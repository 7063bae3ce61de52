-- A group that may have lost its last member ends: what is left is what the world has once it is regrouped.
use Rattle.std.proofs.Common.{◌≡◌, ℕ, Bool, true, false, cond, ◌||◌, List, [], ◌∷◌, length, map, nat_eq, nat_lt, Option, Some, None, find, option_map, is_some, refl, sym, ap, subst, ◌∙◌, not, arith, true≢false, ne_eqb, eq-eqb, inl, inr, ⊎_elim, ◌⊎◌, ◌≢◌, eqb-true, ltb-true, filter_map, if◌then◌else◌}
use Rattle.vt_spec.proofs.Common.{Among, Mount, Private, Propagation, Shared, Slave, Unbindable, World, and_from, and_parts, any_among, any_from_among, chain, chain_goes_on, cons_option, eqb-false, find-chain_start, has_members, heir, holds_of, inherited, inheriting, is_lost_group, is_member_of, list_all, list_any, lookup, lost_a_group, regrouped, regrouped_by, same_Some, slave_of_heir, source_of, then_some, without_dead_groups}
use Rattle.vt_group.specs.Grouping.{Grouping, Has, are_rising, master_in, peer_of, peers_of}
use Rattle.vt_group.specs.Steps.{ended, ended_if_lost, handed, handed_entry, handed_peer, has_peers, is_member}
use Rattle.vt_group.proofs.Peers.{members-peers}
use Rattle.vt_laws_mounts.proofs.GroupsKept.{member_shared}
use Rattle.vt_laws_mounts.proofs.Groups.{inherited_kept, mounts-regrouped, members-regrouped, master-regrouped, no_heir}
use Rattle.vt_laws_mounts.proofs.mounts.MountsKept.{numbers_regrouped}
use Rattle.vt_laws_mounts.specs.Mounts.Attaching.{numbers_of}

-- Entries of groups and masters

-- the numbers of entries
abbrev pub keys : {V : Type 0} → List (ℕ × V) → List ℕ
keys entries = map (λ entry. entry.0) entries

below_keys : (low : ℕ) (lost : ℕ) (left : Option ℕ) (masters : List (ℕ × ℕ))
    → list_all (nat_lt low) (keys masters) ≡ true
    → list_all (nat_lt low) (keys (filter_map (handed_entry lost left) masters)) ≡ true
below_keys low lost left [] all = refl
below_keys low lost left (e ∷ masters) all =
    by (nat_eq e.0 lost) (handed lost left e.1) (below_keys low lost left masters parts.1)
  where
    parts : (nat_lt low e.0 ≡ true) × (list_all (nat_lt low) (keys masters) ≡ true)
    parts = and_parts _ _ all

    by : (b : Bool) (o : Option ℕ) → list_all (nat_lt low) (keys (filter_map (handed_entry lost left) masters)) ≡ true
        → list_all (nat_lt low) (keys (cons_option (option_map (λ master. (e.0, master)) (if b then None else o))
        (filter_map (handed_entry lost left) masters))) ≡ true
    by true o rest = rest
    by false None rest = rest
    by false (Some m) rest = and_from _ _ parts.0 rest

-- masters stay in order where one group is handed on
pub rising-handed : (lost : ℕ) (left : Option ℕ) (masters : List (ℕ × ℕ)) → are_rising (keys masters) ≡ true
    → are_rising (keys (filter_map (handed_entry lost left) masters)) ≡ true
rising-handed lost left [] rising = refl
rising-handed lost left (e ∷ masters) rising =
    by (nat_eq e.0 lost) (handed lost left e.1) (rising-handed lost left masters parts.1)
    (below_keys e.0 lost left masters parts.0)
  where
    parts : (list_all (nat_lt e.0) (keys masters) ≡ true) × (are_rising (keys masters) ≡ true)
    parts = and_parts _ _ rising

    by : (b : Bool) (o : Option ℕ) → are_rising (keys (filter_map (handed_entry lost left) masters)) ≡ true
        → list_all (nat_lt e.0) (keys (filter_map (handed_entry lost left) masters)) ≡ true
        → are_rising (keys (cons_option (option_map (λ master. (e.0, master)) (if b then None else o))
        (filter_map (handed_entry lost left) masters))) ≡ true
    by true o rest low = rest
    by false None rest low = rest
    by false (Some m) rest low = and_from _ _ low rest

-- a group below all that have a master has none
pub lookup-low : {V : Type 0} (group : ℕ) (masters : List (ℕ × V)) → list_all (nat_lt group) (keys masters) ≡ true
    → lookup (nat_eq group) masters ≡ None
lookup-low group [] all = refl
lookup-low group (e ∷ masters) all =
    ap (λ b. cond b (Some e.1) (lookup (nat_eq group) masters)) (less_differ group e.0 (and_parts _ _ all).0)
    ∙ lookup-low group masters (and_parts _ _ all).1
  where
    less_differ : (a b : ℕ) → nat_lt a b ≡ true → nat_eq a b ≡ false
    less_differ a b l = ne_eqb a b (λ same. omega (arith, ltb-true a b l, same))

-- the lost group's own entry goes
lookup-dropped : (lost : ℕ) (left : Option ℕ) (masters : List (ℕ × ℕ))
    → lookup (nat_eq lost) (filter_map (handed_entry lost left) masters) ≡ None
lookup-dropped lost left [] = refl
lookup-dropped lost left (e ∷ masters) = by (nat_eq e.0 lost) refl (handed lost left e.1)
    (lookup-dropped lost left masters)
  where
    by : (b : Bool) → nat_eq e.0 lost ≡ b → (o : Option ℕ)
        → lookup (nat_eq lost) (filter_map (handed_entry lost left) masters) ≡ None
        → lookup (nat_eq lost) (cons_option (option_map (λ master. (e.0, master)) (if b then None else o))
        (filter_map (handed_entry lost left) masters)) ≡ None
    by true is o rest = rest
    by false is None rest = rest
    by false is (Some m) rest =
        ap (λ b. cond b (Some m) (lookup (nat_eq lost) (filter_map (handed_entry lost left) masters)))
        (ne_eqb lost e.0 (λ same. eqb-false e.0 lost is (sym same))) ∙ rest

-- and each other one has its master, or the heir in the place of the lost one
lookup-handed : (lost : ℕ) (left : Option ℕ) (group : ℕ) → group ≢ lost → (masters : List (ℕ × ℕ))
    → are_rising (keys masters) ≡ true → lookup (nat_eq group) (filter_map (handed_entry lost left) masters)
    ≡ then_some (lookup (nat_eq group) masters) (handed lost left)
lookup-handed lost left group apart [] rising = refl
lookup-handed lost left group apart (e ∷ masters) rising =
    by (nat_eq e.0 lost) refl (handed lost left e.1) refl (lookup-handed lost left group apart masters parts.1)
  where
    parts : (list_all (nat_lt e.0) (keys masters) ≡ true) × (are_rising (keys masters) ≡ true)
    parts = and_parts _ _ rising

    absent : group ≡ e.0 → lookup (nat_eq group) (filter_map (handed_entry lost left) masters) ≡ None
    absent same = lookup-low group (filter_map (handed_entry lost left) masters)
        (ap (λ g. list_all (nat_lt g) (keys (filter_map (handed_entry lost left) masters))) same
        ∙ below_keys e.0 lost left masters parts.0)

    kept : (t : Bool) → nat_eq group e.0 ≡ t → (o : Option ℕ) → handed lost left e.1 ≡ o
        → lookup (nat_eq group) (filter_map (handed_entry lost left) masters)
        ≡ then_some (lookup (nat_eq group) masters) (handed lost left)
        → lookup (nat_eq group) (cons_option (option_map (λ master. (e.0, master)) o)
        (filter_map (handed_entry lost left) masters))
        ≡ then_some (cond t (Some e.1) (lookup (nat_eq group) masters)) (handed lost left)
    kept true at None f rest = absent (eqb-true group e.0 at) ∙ sym f
    kept true at (Some m) f rest = ap
        (λ b. cond b (Some m) (lookup (nat_eq group) (filter_map (handed_entry lost left) masters))) at ∙ sym f
    kept false at None f rest = rest
    kept false at (Some m) f rest = ap
        (λ b. cond b (Some m) (lookup (nat_eq group) (filter_map (handed_entry lost left) masters))) at ∙ rest

    by : (b : Bool) → nat_eq e.0 lost ≡ b → (o : Option ℕ) → handed lost left e.1 ≡ o
        → lookup (nat_eq group) (filter_map (handed_entry lost left) masters)
        ≡ then_some (lookup (nat_eq group) masters) (handed lost left)
        → lookup (nat_eq group) (cons_option (option_map (λ master. (e.0, master)) (if b then None else o))
        (filter_map (handed_entry lost left) masters))
        ≡ then_some (cond (nat_eq group e.0) (Some e.1) (lookup (nat_eq group) masters)) (handed lost left)
    by true is o f rest = rest
        ∙ ap (λ b. then_some (cond b (Some e.1) (lookup (nat_eq group) masters)) (handed lost left))
        (sym (ne_eqb group e.0 (λ same. apart (same ∙ eqb-true e.0 lost is))))
    by false is o f rest = kept (nat_eq group e.0) refl o f rest

-- A world in which every group but one that was left has members

pub record MayLose (world : World ℕ) (groups : Grouping) (left : Option ℕ) : Type 0 where
  pub order : are_rising (numbers_of world.mounts) ≡ true
  pub peers : groups.peers ≡ peers_of world.mounts
  pub masters_order : are_rising (keys groups.masters) ≡ true
  pub masters : (group : ℕ) → master_in groups group
      ≡ cond (has_members nat_eq world.mounts group || holds_of (nat_eq group) left) (world.master group) None
  pub slaves : (mount : Mount ℕ) → Among mount world.mounts → (master : ℕ) → mount.propagation ≡ Slave master
      → (has_members nat_eq world.mounts master ≡ true) ⊎ (left ≡ Some master)
  pub above : (group master : ℕ) → (has_members nat_eq world.mounts group ≡ true) ⊎ (left ≡ Some group)
      → world.master group ≡ Some master → (has_members nat_eq world.mounts master ≡ true) ⊎ (left ≡ Some master)
  pub apart : (group : ℕ) → left ≡ Some group → world.master group ≡ Some group → ⊥

module _ (world : World ℕ) where
  abbrev members : ℕ → Bool
  members = has_members nat_eq world.mounts

  -- the peers, where each mount's entry after inheritance comes from its own before
  peers-inherited : (change : ℕ × Propagation ℕ → Option (ℕ × Propagation ℕ)) (mounts : List (Mount ℕ))
      → ((mount : Mount ℕ) → Among mount mounts
      → peer_of (inheriting nat_eq world mount) ≡ then_some (peer_of mount) change)
      → peers_of (map (inheriting nat_eq world) mounts) ≡ filter_map change (peers_of mounts)
  peers-inherited change [] each = refl
  peers-inherited change (mount ∷ rest) each =
      (λ i. cons_option (each mount (inl refl) i) (peers-inherited change rest (λ x m. each x (inr m)) i))
      ∙ fused (peer_of mount)
    where
      fused : (o : Option (ℕ × Propagation ℕ)) → cons_option (then_some o change) (filter_map change (peers_of rest))
          ≡ filter_map change (cons_option o (peers_of rest))
      fused None = refl
      fused (Some peer) = refl

  master_none : (group : ℕ) → world.master group ≡ None → (regrouped nat_eq world).master group ≡ None
  master_none group e = by (list_any (lost_a_group nat_eq world) world.mounts)
    where
      by : (b : Bool) → (regrouped_by nat_eq b world).master group ≡ None
      by true = ap (heir nat_eq world) e
      by false = e

  dead_or_not : (group : ℕ) → (without_dead_groups nat_eq (regrouped nat_eq world)).master group
      ≡ cond (members group) ((regrouped nat_eq world).master group) None
  dead_or_not group = ap (λ b. cond b ((regrouped nat_eq world).master group) None) (members-regrouped world group)

  -- all groups live
  module _ (groups : Grouping) (kept : MayLose world groups None) where
    unlost_peer : (mount : Mount ℕ) → Among mount world.mounts
        → peer_of (inheriting nat_eq world mount) ≡ then_some (peer_of mount) Some
    unlost_peer mount m = by mount.propagation refl
      where
        by : (kind : Propagation ℕ) → mount.propagation ≡ kind
            → peer_of (inheriting nat_eq world mount) ≡ then_some (peer_of mount) Some
        by (Shared group) e = rw e refl
        by (Slave above) e = ⊎_elim (λ has. (λ i. option_map (λ s. (mount.number, inherited nat_eq world (e i)))
            (source_of (inherited nat_eq world (e i))))
            ∙ (λ i. option_map (λ s. (mount.number, inherited_kept world above has i))
            (source_of (inherited_kept world above has i)))
            ∙ (λ i. then_some (option_map (λ s. (mount.number, sym e i)) (source_of (sym e i))) Some))
            (λ none. absurd (true≢false (sym (ap is_some none)))) (kept.slaves mount m above e)
        by Private e = rw e refl
        by Unbindable e = rw e refl

    all_kept : (peers : List (ℕ × Propagation ℕ)) → filter_map Some peers ≡ peers
    all_kept [] = refl
    all_kept (peer ∷ rest) = ap (λ l. peer ∷ l) (all_kept rest)

    unlost_master : (group : ℕ) → master_in groups group
        ≡ (without_dead_groups nat_eq (regrouped nat_eq world)).master group
    unlost_master group = kept.masters group ∙ by (members group) refl ∙ sym (dead_or_not group)
      where
        found : members group ≡ true → (o : Option ℕ) → world.master group ≡ o
            → world.master group ≡ (regrouped nat_eq world).master group
        found has None e = e ∙ sym (master_none group e)
        found has (Some above) e = ⊎_elim (λ lives. e ∙ sym (master-regrouped world group above e lives))
            (λ none. absurd (true≢false (sym (ap is_some none)))) (kept.above group above (inl has) e)

        by : (b : Bool) → members group ≡ b
            → cond (b || false) (world.master group) None ≡ cond b ((regrouped nat_eq world).master group) None
        by true has = found has (world.master group) refl
        by false has = refl

    -- where no group lost its last member the groups are those of the regrouped world
    pub none_lost : Has (regrouped nat_eq world) groups
    none_lost = record {
      order = ap are_rising (numbers_regrouped world) ∙ kept.order;
      peers = kept.peers ∙ sym (all_kept (peers_of world.mounts)) ∙ sym (peers-inherited Some world.mounts unlost_peer)
          ∙ ap peers_of (sym (mounts-regrouped world));
      masters_order = kept.masters_order;
      masters = unlost_master;
    }

  -- one group lost its last member
  module _ (lost : ℕ) (groups : Grouping) (kept : MayLose world groups (Some lost))
      (gone : has_members nat_eq world.mounts lost ≡ false) where
    lives_or_lost : (group : ℕ) → (members group ≡ true) ⊎ (Some lost ≡ Some group)
        → (members group ≡ true) ⊎ (lost ≡ group)
    lives_or_lost group h = ⊎_elim (λ has. inl has) (λ e. inr (same_Some lost group e)) h

    other_than_lost : (group : ℕ) → members group ≡ true → group ≢ lost
    other_than_lost group has same = true≢false (sym has ∙ ap members same ∙ gone)

    heir_in : (above : ℕ) (mounts : List (Mount ℕ)) → world.master lost ≡ Some above
        → has_members nat_eq mounts lost ≡ false → has_members nat_eq mounts above ≡ true
        → find (has_members nat_eq mounts) (chain (length mounts) world.master lost) ≡ Some above
    heir_in above [] e none has = absurd (true≢false (sym has))
    heir_in above (mount ∷ rest) e none has =
        ap (find (has_members nat_eq (mount ∷ rest))) (chain_goes_on world.master (length rest) lost above e)
        ∙ ap (λ b. cond b (Some lost) (find (has_members nat_eq (mount ∷ rest))
        (chain (length rest) world.master above))) none
        ∙ find-chain_start (has_members nat_eq (mount ∷ rest)) world.master (length rest) above has

    -- its heir is its master
    heir_is : heir nat_eq world (Some lost) ≡ world.master lost
    heir_is = by (world.master lost) refl
      where
        by : (o : Option ℕ) → world.master lost ≡ o → heir nat_eq world (Some lost) ≡ world.master lost
        by None e = no_heir world lost e gone ∙ sym e
        by (Some above) e = ⊎_elim (λ has. heir_in above world.mounts e gone has ∙ sym e)
            (λ same. absurd (kept.apart lost refl (e ∙ sym (ap Some same))))
            (lives_or_lost above (kept.above lost above (inr refl) e))

    heir_in_groups : master_in groups lost ≡ world.master lost
    heir_in_groups = kept.masters lost ∙ (λ i. cond (gone i || eq-eqb lost lost refl i) (world.master lost) None)

    abbrev handing : Option ℕ → ℕ × Propagation ℕ → Option (ℕ × Propagation ℕ)
    handing left = handed_peer lost left

    slave_handed : (number : ℕ) (left : Option ℕ)
        → option_map {U = ℕ × Propagation ℕ} (λ s. (number, slave_of_heir left)) (source_of (slave_of_heir left))
        ≡ option_map {U = ℕ × Propagation ℕ} (λ kind. (number, kind)) (option_map Slave left)
    slave_handed number None = refl
    slave_handed number (Some above) = refl

    lost_peer : (mount : Mount ℕ) → Among mount world.mounts
        → peer_of (inheriting nat_eq world mount) ≡ then_some (peer_of mount) (handing (world.master lost))
    lost_peer mount m = by mount.propagation refl
      where
        by : (kind : Propagation ℕ) → mount.propagation ≡ kind
            → peer_of (inheriting nat_eq world mount) ≡ then_some (peer_of mount) (handing (world.master lost))
        by (Shared group) e = rw e refl
        by (Slave above) e = (λ i. option_map (λ s. (mount.number, inherited nat_eq world (e i)))
            (source_of (inherited nat_eq world (e i)))) ∙ ⊎_elim
            (λ has. (λ i. option_map (λ s. (mount.number, inherited_kept world above has i))
            (source_of (inherited_kept world above has i))) ∙ ap (λ b. option_map (λ kind. (mount.number, kind))
            (option_map Slave (if b then world.master lost else Some above)))
            (sym (ne_eqb above lost (other_than_lost above has))))
            (λ same. (λ i. option_map (λ s. (mount.number, slave_of_heir (heir nat_eq world (Some (sym same i)))))
            (source_of (slave_of_heir (heir nat_eq world (Some (sym same i))))))
            ∙ (λ i. option_map (λ s. (mount.number, slave_of_heir (heir_is i))) (source_of (slave_of_heir (heir_is i))))
            ∙ slave_handed mount.number (world.master lost) ∙ ap (λ b. option_map (λ kind. (mount.number, kind))
            (option_map Slave (if b then world.master lost else Some above))) (sym (eq-eqb above lost (sym same))))
            (lives_or_lost above (kept.slaves mount m above e))
            ∙ (λ i. then_some (option_map (λ s. (mount.number, sym e i)) (source_of (sym e i)))
            (handing (world.master lost)))
        by Private e = rw e refl
        by Unbindable e = rw e refl

    -- some member of a group below it says that it is lost
    lost_below : (group : ℕ) → members group ≡ true → world.master group ≡ Some lost
        → (regrouped nat_eq world).master group ≡ world.master lost
    lost_below group has e =
        let member = any_among (is_member_of nat_eq group) world.mounts has in
        let shared = member_shared group member.0 member.2 in
        let tells : lost_a_group nat_eq world member.0 ≡ true =
        ap (λ o. is_lost_group nat_eq world o || is_lost_group nat_eq world (then_some o world.master))
        (ap source_of shared) ∙ (λ i. not (has i) || is_lost_group nat_eq world (e i)) ∙ ap not gone in
        ap (λ b. (regrouped_by nat_eq b world).master group)
        (any_from_among (lost_a_group nat_eq world) world.mounts member.0 member.1 tells)
        ∙ ap (heir nat_eq world) e ∙ heir_is

    lost_master : (group : ℕ) → lookup (nat_eq group)
        (filter_map (handed_entry lost (world.master lost)) groups.masters)
        ≡ cond (members group) ((regrouped nat_eq world).master group) None
    lost_master group = by (members group) refl
      where
        by_above : members group ≡ true → (o : Option ℕ) → world.master group ≡ o
            → then_some o (handed lost (world.master lost)) ≡ (regrouped nat_eq world).master group
        by_above has None e = sym (master_none group e)
        by_above has (Some above) e = ⊎_elim (λ lives. ap (λ b. if b then world.master lost else Some above)
            (ne_eqb above lost (other_than_lost above lives)) ∙ sym (master-regrouped world group above e lives))
            (λ same. ap (λ b. if b then world.master lost else Some above) (eq-eqb above lost (sym same))
            ∙ sym (lost_below group has (e ∙ ap Some (sym same))))
            (lives_or_lost above (kept.above group above (inl has) e))

        apart_none : members group ≡ false → (b : Bool) → nat_eq group lost ≡ b
            → lookup (nat_eq group) (filter_map (handed_entry lost (world.master lost)) groups.masters) ≡ None
        apart_none has true is =
            ap (λ g. lookup (nat_eq g) (filter_map (handed_entry lost (world.master lost)) groups.masters))
            (eqb-true group lost is) ∙ lookup-dropped lost (world.master lost) groups.masters
        apart_none has false is =
            lookup-handed lost (world.master lost) group (eqb-false group lost is) groups.masters kept.masters_order
            ∙ ap (λ o. then_some o (handed lost (world.master lost)))
            (kept.masters group ∙ (λ i. cond (has i || is i) (world.master group) None))

        by : (b : Bool) → members group ≡ b
            → lookup (nat_eq group) (filter_map (handed_entry lost (world.master lost)) groups.masters)
            ≡ cond b ((regrouped nat_eq world).master group) None
        by true has =
            lookup-handed lost (world.master lost) group (other_than_lost group has) groups.masters kept.masters_order
            ∙ ap (λ o. then_some o (handed lost (world.master lost)))
            (kept.masters group ∙ (λ i. cond (has i || holds_of (nat_eq group) (Some lost)) (world.master group) None))
            ∙ by_above has (world.master group) refl
        by false has = apart_none has (nat_eq group lost) refl

    -- where one did they are, once it has ended
    pub one_lost : Has (regrouped nat_eq world) (ended lost groups)
    one_lost = record {
      order = ap are_rising (numbers_regrouped world) ∙ kept.order;
      peers = (λ i. filter_map (handing (heir_in_groups i)) (kept.peers i))
          ∙ sym (peers-inherited (handing (world.master lost)) world.mounts lost_peer)
          ∙ ap peers_of (sym (mounts-regrouped world));
      masters_order = rising-handed lost (master_in groups lost) groups.masters kept.masters_order;
      masters = λ group.
          ap (λ left. lookup (nat_eq group) (filter_map (handed_entry lost left) groups.masters)) heir_in_groups
          ∙ lost_master group ∙ sym (dead_or_not group);
    }

  -- whichever of the two
  pub regrouped-has : (left : Option ℕ) (groups : Grouping) → MayLose world groups left
      → Has (regrouped nat_eq world) (ended_if_lost left groups)
  regrouped-has None groups kept = none_lost groups kept
  regrouped-has (Some group) groups kept = by (members group) refl
    where
      has_peer : has_peers group groups ≡ members group
      has_peer = ap (list_any (is_member group)) kept.peers ∙ members-peers group world.mounts

      lives : members group ≡ true → (other : ℕ) → (members other ≡ true) ⊎ (Some group ≡ Some other)
          → (members other ≡ true) ⊎ (None ≡ Some other)
      lives has other h = ⊎_elim (λ m. inl m) (λ e. inl (ap members (sym (same_Some group other e)) ∙ has)) h

      widened : members group ≡ true → (other : ℕ) → (members other || nat_eq other group) ≡ (members other || false)
      widened has other = by_member (members other) refl
        where
          by_member : (b : Bool) → members other ≡ b → (b || nat_eq other group) ≡ (b || false)
          by_member true m = refl
          by_member false m = ne_eqb other group (λ same. true≢false (sym has ∙ ap members (sym same) ∙ m))

      all_live : members group ≡ true → MayLose world groups None
      all_live has = record {
        order = kept.order;
        peers = kept.peers;
        masters_order = kept.masters_order;
        masters = λ other. kept.masters other ∙ ap (λ b. cond b (world.master other) None) (widened has other);
        slaves = λ mount m master e. lives has master (kept.slaves mount m master e);
        above = λ other master h e. lives has master
            (kept.above other master (⊎_elim (λ m. inl m) (λ none. absurd (true≢false (sym (ap is_some none)))) h) e);
        apart = λ other none. absurd (true≢false (sym (ap is_some none)));
      }

      by : (b : Bool) → members group ≡ b
          → Has (regrouped nat_eq world) (if has_peers group groups then groups else ended group groups)
      by true has = subst (λ b. Has (regrouped nat_eq world) (if b then groups else ended group groups))
          (sym (has_peer ∙ has)) (none_lost groups (all_live has))
      by false gone = subst (λ b. Has (regrouped nat_eq world) (if b then groups else ended group groups))
          (sym (has_peer ∙ gone)) (one_lost group groups kept gone)
