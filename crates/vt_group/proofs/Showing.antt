-- What the groups of a world say of it.
use Rattle.std.proofs.Common.{◌≡◌, ℕ, Bool, true, false, cond, List, [], ◌∷◌, map, nat_eq, nat_lt, Some, None, is_some, refl, sym, ap, ◌∙◌, arith, true≢false, ne_eqb, eq-eqb, lt-ltb, eqb-true, ltb-true, ltb-false, unwrap_or}
use Rattle.vt_spec.proofs.Common.{Among, Mount, Private, Propagation, Shared, Slave, Unbindable, all_from_among, and_from, and_parts, eqb-false, list_all, lookup, same_Some, source_of}
use Rattle.vt_group.specs.Grouping.{are_rising, peers_of, propagation_in}
use Rattle.vt_group.specs.Laws.{HasOneGrouping, OpeningHasNoGroups, ShowsMasters, ShowsTypes, shown}
use Rattle.vt_group.proofs.Peers.{lookup-absent, lookup-peer}
use Rattle.vt_group.proofs.Regrouping.{lookup-low}

-- the opening world has no groups
pub opening_has_no_groups : OpeningHasNoGroups
opening_has_no_groups fresh = record { order = refl; peers = refl; masters_order = refl; masters = λ group. refl }

abbrev keys : {V : Type 0} → List (ℕ × V) → List ℕ
keys masters = map (λ entry. entry.0) masters

-- lists that rise and find the same are the same
pub same_entries : {V : Type 0} (xs ys : List (ℕ × V)) → are_rising (keys xs) ≡ true → are_rising (keys ys) ≡ true
    → ((group : ℕ) → lookup (nat_eq group) xs ≡ lookup (nat_eq group) ys) → xs ≡ ys
same_entries {V} [] [] r s same = refl
same_entries {V} [] (y ∷ ys) r s same = absurd (true≢false (sym (ap is_some
    (same y.0 ∙ ap (λ b. cond b (Some y.1) (lookup (nat_eq y.0) ys)) (eq-eqb y.0 y.0 refl)))))
same_entries {V} (x ∷ xs) [] r s same = absurd (true≢false (ap is_some
    (sym (ap (λ b. cond b (Some x.1) (lookup (nat_eq x.0) xs)) (eq-eqb x.0 x.0 refl)) ∙ same x.0)))
same_entries {V} (x ∷ xs) (y ∷ ys) r s same = by (nat_lt x.0 y.0) refl (nat_lt y.0 x.0) refl (same_entries xs ys rx.1 sy.1)
  where
    rx : (list_all (nat_lt x.0) (keys xs) ≡ true) × (are_rising (keys xs) ≡ true)
    rx = and_parts _ _ r

    sy : (list_all (nat_lt y.0) (keys ys) ≡ true) × (are_rising (keys ys) ≡ true)
    sy = and_parts _ _ s

    further : (low high : ℕ) (es : List (ℕ × V)) → nat_lt low high ≡ true → list_all (nat_lt high) (keys es) ≡ true
        → list_all (nat_lt low) (keys es) ≡ true
    further low high [] l all = refl
    further low high (e ∷ es) l all =
        and_from _ _ (lt-ltb low e.0 (omega (arith, ltb-true low high l, ltb-true high e.0 (and_parts _ _ all).0)))
        (further low high es l (and_parts _ _ all).1)

    first_of : (e : ℕ × V) (es : List (ℕ × V)) → lookup (nat_eq e.0) (e ∷ es) ≡ Some e.1
    first_of e es = ap (λ b. cond b (Some e.1) (lookup (nat_eq e.0) es)) (eq-eqb e.0 e.0 refl)

    lower : (low : ℕ) (e : ℕ × V) (es : List (ℕ × V)) → nat_lt low e.0 ≡ true → list_all (nat_lt e.0) (keys es) ≡ true
        → lookup (nat_eq low) (e ∷ es) ≡ None
    lower low e es l all = lookup-low low (e ∷ es) (and_from _ _ l (further low e.0 es l all))

    by : (a : Bool) → nat_lt x.0 y.0 ≡ a → (b : Bool) → nat_lt y.0 x.0 ≡ b
        → (((group : ℕ) → lookup (nat_eq group) xs ≡ lookup (nat_eq group) ys) → xs ≡ ys) → x ∷ xs ≡ y ∷ ys
    by true a b e later = absurd (true≢false
        (sym (ap is_some (first_of x xs)) ∙ ap is_some (same x.0 ∙ lower x.0 y ys a sy.0)))
    by false a true e later = absurd
        (true≢false (sym (ap is_some (first_of y ys)) ∙ ap is_some (sym (same y.0) ∙ lower y.0 x xs e rx.0)))
    by false a false e later =
        let key : x.0 ≡ y.0 = omega (arith, ltb-false x.0 y.0 a, ltb-false y.0 x.0 e) in
        let value : x.1 ≡ y.1 = same_Some x.1 y.1 (sym (first_of x xs) ∙ same x.0
        ∙ ap (λ b. cond b (Some y.1) (lookup (nat_eq x.0) ys)) (eq-eqb x.0 y.0 key)) in
        (λ i. (key i, value i) ∷ later (λ group. rest key group (nat_eq group x.0) refl) i)
      where
        rest : x.0 ≡ y.0 → (group : ℕ) (b : Bool) → nat_eq group x.0 ≡ b
            → lookup (nat_eq group) xs ≡ lookup (nat_eq group) ys
        rest key group true is =
            let at : group ≡ x.0 = eqb-true group x.0 is in
            lookup-low group xs (ap (λ g. list_all (nat_lt g) (keys xs)) at ∙ rx.0)
            ∙ sym (lookup-low group ys (ap (λ g. list_all (nat_lt g) (keys ys)) (at ∙ key) ∙ sy.0))
        rest key group false is = sym (ap (λ b. cond b (Some x.1) (lookup (nat_eq group) xs)) is) ∙ same group
            ∙ ap (λ b. cond b (Some y.1) (lookup (nat_eq group) ys))
            (ne_eqb group y.0 (λ e. eqb-false group x.0 is (e ∙ sym key)))

-- a world has one grouping
pub has_one_grouping : HasOneGrouping
has_one_grouping world one other a b = λ i. record {
  peers = (a.peers ∙ sym b.peers) i;
  masters = same_entries one.masters other.masters a.masters_order b.masters_order
      (λ group. a.masters group ∙ sym (b.masters group)) i;
}

-- groups show the type of each mount
pub shows_types : ShowsTypes
shows_types world groups has = all_from_among
    (λ mount. propagation_in groups mount.number ≡ shown mount.propagation) world.mounts (λ mount m.
    ap (λ peers. unwrap_or (lookup (nat_eq mount.number) peers) Private) has.peers ∙ by mount m mount.propagation refl)
  where
    by : (mount : Mount ℕ) → Among mount world.mounts → (kind : Propagation ℕ) → mount.propagation ≡ kind
        → unwrap_or (lookup (nat_eq mount.number) (peers_of world.mounts)) Private ≡ shown mount.propagation
    by mount m (Shared group) e =
        ap (λ o. unwrap_or o Private) (lookup-peer group mount world.mounts has.order m (ap source_of e)) ∙ e
        ∙ sym (ap shown e)
    by mount m (Slave master) e =
        ap (λ o. unwrap_or o Private) (lookup-peer master mount world.mounts has.order m (ap source_of e)) ∙ e
        ∙ sym (ap shown e)
    by mount m Private e =
        ap (λ o. unwrap_or o Private) (lookup-absent mount world.mounts has.order m (ap source_of e)) ∙ sym (ap shown e)
    by mount m Unbindable e =
        ap (λ o. unwrap_or o Private) (lookup-absent mount world.mounts has.order m (ap source_of e)) ∙ sym (ap shown e)

-- and the master of each group with members
pub shows_masters : ShowsMasters
shows_masters world groups group has lives = has.masters group ∙ ap (λ b. cond b (world.master group) None) lives
