-- Mounts get types, and new groups masters, one after another.
use Rattle.std.proofs.Common.{◌≡◌, refl, sym, ap, ◌∙◌, true, false, Bool, List, None, Option, Some, [], cond, is_some, map, option_map, true≢false, ℕ, nat_eq, nat_lt, ◌||◌, ◌∷◌, inl, inr, ne_eqb, length, take, get_or, ◌<◌, ◌+◌, eqb-true, if◌then◌else◌}
use Rattle.vt_spec.proofs.Common.{Among, Propagation, World, among_from_all, and_from, and_parts, eqb-false, folded, folded-snoc, has_members, is_among, list_all, lookup, map-append, masters_with, remove_entry, take_more, without_dead_groups}
use Rattle.vt_location.specs.declared.numbers.GroupId.{GroupId}
use Rattle.vt_group.specs.Grouping.{Grouping, Has, HasGroup, are_rising, master_in}
use Rattle.vt_location.specs.Numbers.{group_number}
use Rattle.vt_group.specs.Together.{Grows, all_added, if_sourced, with_entry_of, with_master_of, with_type_of}
use Rattle.vt_group.proofs.Changes.{lookup-inserted, rising-inserted}
use Rattle.vt_group.proofs.Regrouping.{keys, lookup-low}

-- a fold over one more of what a list is seen as
pub folded_more : {X A B : Type 0} (add : B → A → B) (b : B) (see : X → A) (list : List X) (i : ℕ) (default : X)
    → i < length list → folded add b (map see (take (i + 1) list))
    ≡ add (folded add b (map see (take i list))) (see (get_or list i default))
folded_more add b see list i default less = ap (λ l. folded add b (map see l)) (take_more list i default less)
    ∙ ap (folded add b) (map-append see (take i list) (get_or list i default ∷ []))
    ∙ folded-snoc add b (map see (take i list)) (see (get_or list i default))

-- where there is a source
pub put_sourced : (found : Option GroupId) (source : Option ℕ) (peers more : List (ℕ × Propagation ℕ))
    → option_map group_number found ≡ source → is_some found ≡ true → more ≡ if_sourced source peers more
put_sourced None source peers more e is = absurd (true≢false (sym is))
put_sourced (Some group) source peers more e is = ap (λ o. if_sourced o peers more) e

-- Entries of masters

low-removed : {V : Type 0} (low group : ℕ) (masters : List (ℕ × V)) → list_all (nat_lt low) (keys masters) ≡ true
    → list_all (nat_lt low) (keys (remove_entry (nat_eq group) masters)) ≡ true
low-removed low group [] all = refl
low-removed low group (e ∷ masters) all = by (nat_eq group e.0) (low-removed low group masters (and_parts _ _ all).1)
  where
    by : (b : Bool) → list_all (nat_lt low) (keys (remove_entry (nat_eq group) masters)) ≡ true
        → list_all (nat_lt low) (keys (cond b masters (e ∷ remove_entry (nat_eq group) masters))) ≡ true
    by true later = (and_parts _ _ all).1
    by false later = and_from _ _ (and_parts _ _ all).0 later

-- masters stay in order where an entry is removed
pub rising-removed : {V : Type 0} (group : ℕ) (masters : List (ℕ × V)) → are_rising (keys masters) ≡ true
    → are_rising (keys (remove_entry (nat_eq group) masters)) ≡ true
rising-removed group [] rising = refl
rising-removed group (e ∷ masters) rising =
    by (nat_eq group e.0) (rising-removed group masters (and_parts _ _ rising).1) (low-removed e.0 group masters
    (and_parts _ _ rising).0)
  where
    by : (b : Bool) → are_rising (keys (remove_entry (nat_eq group) masters)) ≡ true
        → list_all (nat_lt e.0) (keys (remove_entry (nat_eq group) masters)) ≡ true
        → are_rising (keys (cond b masters (e ∷ remove_entry (nat_eq group) masters))) ≡ true
    by true later low = (and_parts _ _ rising).1
    by false later low = and_from _ _ low later

-- what is found once an entry is removed: nothing at its group, and what was there at any other
pub lookup-removed : {V : Type 0} (other group : ℕ) (masters : List (ℕ × V)) → are_rising (keys masters) ≡ true
    → lookup (nat_eq other) (remove_entry (nat_eq group) masters)
    ≡ cond (nat_eq other group) None (lookup (nat_eq other) masters)
lookup-removed other group [] rising = by (nat_eq other group) None refl
  where
    by : {W : Type 0} (b : Bool) (empty : Option W) → empty ≡ None → empty ≡ cond b None empty
    by true empty e = e
    by false empty e = refl
lookup-removed other group (e ∷ masters) rising = by (nat_eq group e.0) refl
    (lookup-removed other group masters parts.1)
  where
    parts : (list_all (nat_lt e.0) (keys masters) ≡ true) × (are_rising (keys masters) ≡ true)
    parts = and_parts _ _ rising

    gone : group ≡ e.0 → (t : Bool) → nat_eq other group ≡ t → lookup (nat_eq other) masters
        ≡ cond t None (cond (nat_eq other e.0) (Some e.1) (lookup (nat_eq other) masters))
    gone same true is =
        lookup-low other masters (ap (λ g. list_all (nat_lt g) (keys masters)) (eqb-true other group is ∙ same)
        ∙ parts.0)
    gone same false is =
        ap (λ b. cond b (Some e.1) (lookup (nat_eq other) masters)) (sym (ap (nat_eq other) (sym same) ∙ is))

    kept : nat_eq group e.0 ≡ false → (t : Bool) → nat_eq other e.0 ≡ t
        → lookup (nat_eq other) (remove_entry (nat_eq group) masters)
        ≡ cond (nat_eq other group) None (lookup (nat_eq other) masters)
        → cond t (Some e.1) (lookup (nat_eq other) (remove_entry (nat_eq group) masters))
        ≡ cond (nat_eq other group) None (cond t (Some e.1) (lookup (nat_eq other) masters))
    kept apart true is later = ap (λ b. cond b None (Some e.1))
        (sym (ne_eqb other group (λ same. eqb-false group e.0 apart (sym same ∙ eqb-true other e.0 is))))
    kept apart false is later = later

    by : (b : Bool) → nat_eq group e.0 ≡ b → lookup (nat_eq other) (remove_entry (nat_eq group) masters)
        ≡ cond (nat_eq other group) None (lookup (nat_eq other) masters)
        → lookup (nat_eq other) (cond b masters (e ∷ remove_entry (nat_eq group) masters))
        ≡ cond (nat_eq other group) None (cond (nat_eq other e.0) (Some e.1) (lookup (nat_eq other) masters))
    by true is later = gone (eqb-true group e.0 is) (nat_eq other group) refl
    by false is later = kept is (nat_eq other e.0) refl later

rising-one : (masters : List (ℕ × ℕ)) (new : ℕ × Option ℕ) → are_rising (keys masters) ≡ true
    → are_rising (keys (with_master_of masters new)) ≡ true
rising-one masters new rising = by new.1
  where
    by : (o : Option ℕ) → are_rising (keys (with_entry_of new.0 o masters)) ≡ true
    by None = rising-removed new.0 masters rising
    by (Some master) = rising-inserted new.0 master masters rising

lookup-one : (group : ℕ) (masters : List (ℕ × ℕ)) (new : ℕ × Option ℕ) → are_rising (keys masters) ≡ true
    → lookup (nat_eq group) (with_master_of masters new)
    ≡ cond (nat_eq group new.0) new.1 (lookup (nat_eq group) masters)
lookup-one group masters new rising = by new.1
  where
    by : (o : Option ℕ) → lookup (nat_eq group) (with_entry_of new.0 o masters)
        ≡ cond (nat_eq group new.0) o (lookup (nat_eq group) masters)
    by None = lookup-removed group new.0 masters rising
    by (Some master) = lookup-inserted group new.0 master masters

-- masters stay in order where the masters of new groups are put in
pub rising-all : (masters : List (ℕ × ℕ)) (new : List (ℕ × Option ℕ)) → are_rising (keys masters) ≡ true
    → are_rising (keys (folded with_master_of masters new)) ≡ true
rising-all masters [] rising = rising
rising-all masters (first ∷ new) rising = rising-all (with_master_of masters first) new
    (rising-one masters first rising)

-- what a fold of masters finds depends on what it starts from at a group that it does not name
module _ (group : ℕ) where
  abbrev named : List (ℕ × Option ℕ) → Bool
  named new = is_among nat_eq group (map (λ entry. entry.0) new)

  same_folds : (one other : ℕ → Option ℕ) (new : List (ℕ × Option ℕ)) → (named new ≡ false → one group ≡ other group)
      → folded (masters_with nat_eq) one new group ≡ folded (masters_with nat_eq) other new group
  same_folds one other [] same = same refl
  same_folds one other (first ∷ new) same =
      same_folds (masters_with nat_eq one first) (masters_with nat_eq other first) new (λ unnamed. by
      (nat_eq group first.0) refl unnamed)
    where
      by : (b : Bool) → nat_eq group first.0 ≡ b → named new ≡ false → masters_with nat_eq one first group
          ≡ masters_with nat_eq other first group
      by true is unnamed =
          ap (λ b. if b then first.1 else one group) is ∙ ap (λ b. if b then first.1 else other group) (sym is)
      by false is unnamed = ap (λ b. if b then first.1 else one group) is ∙ same (λ i. is i || unnamed i)
          ∙ ap (λ b. if b then first.1 else other group) (sym is)

  -- and are then those of the definitions, with the new groups
  pub lookup-all : (masters : List (ℕ × ℕ)) (new : List (ℕ × Option ℕ)) → are_rising (keys masters) ≡ true
      → lookup (nat_eq group) (folded with_master_of masters new)
      ≡ folded (masters_with nat_eq) (λ other. lookup (nat_eq other) masters) new group
  lookup-all masters [] rising = refl
  lookup-all masters (first ∷ new) rising =
      lookup-all (with_master_of masters first) new (rising-one masters first rising)
      ∙ same_folds (λ other. lookup (nat_eq other) (with_master_of masters first)) (masters_with nat_eq
      (λ other. lookup (nat_eq other) masters) first) new (λ unnamed. lookup-one group masters first rising)

-- where each entry of a group is without a master, and it starts without one, it has none
none_folded : (group : ℕ) (new : List (ℕ × Option ℕ)) (master : ℕ → Option ℕ)
    → ((entry : ℕ × Option ℕ) → Among entry new → group ≡ entry.0 → entry.1 ≡ None) → master group ≡ None
    → folded (masters_with nat_eq) master new group ≡ None
none_folded group [] master each start = start
none_folded group (first ∷ rest) master each start =
    none_folded group rest (masters_with nat_eq master first) (λ entry m e. each entry (inr m) e) (by
    (nat_eq group first.0) refl)
  where
    by : (b : Bool) → nat_eq group first.0 ≡ b → (if b then first.1 else master group) ≡ None
    by true is = each first (inl refl) (eqb-true group first.0 is)
    by false is = start

-- A world that grows by mounts and groups has the groups that were added to those it had.
pub grown_has : (world after : World ℕ) (groups : Grouping) (types : List (ℕ × Propagation ℕ)) (new : List (ℕ
    × Option ℕ)) → Has world groups → Grows world after types new → Has after (all_added groups types new)
grown_has world after groups types new has grows = record {
  order = grows.order;
  peers = ap (λ peers. folded with_type_of peers types) has.peers ∙ sym grows.peers;
  masters_order = rising-all groups.masters new has.masters_order;
  masters = λ group. lookup-all group groups.masters new has.masters_order
      ∙ by group (has_members nat_eq after.mounts group) refl;
}
  where
    -- where a group that is there has members, it had them, or is named
    there : (group : ℕ) (b : Bool) → has_members nat_eq after.mounts group ≡ true
        → has_members nat_eq world.mounts group ≡ b
        → named group new ≡ false → master_in groups group ≡ world.master group
    there group true is was unnamed = has.masters group ∙ ap (λ b. cond b (world.master group) None) was
    there group false is was unnamed = absurd (true≢false (sym (grows.named group was is) ∙ unnamed))

    -- where it has none, it had none, and no entry gives it a master
    not_there : (group : ℕ) (b : Bool) → has_members nat_eq after.mounts group ≡ false
        → has_members nat_eq world.mounts group ≡ b → master_in groups group ≡ None
    not_there group true is was = absurd (true≢false (sym (grows.stay group was) ∙ is))
    not_there group false is was = has.masters group ∙ ap (λ b. cond b (world.master group) None) was

    unmastered : (group : ℕ) → has_members nat_eq after.mounts group ≡ false → (entry : ℕ × Option ℕ)
        → Among entry new → group ≡ entry.0 → entry.1 ≡ None
    unmastered group is entry m same = choose entry.1 refl
      where
        choose : (o : Option ℕ) → entry.1 ≡ o → entry.1 ≡ None
        choose None e = e
        choose (Some master) e = absurd (true≢false (sym (ap (has_members nat_eq after.mounts) same
            ∙ among_from_all (λ one. is_some one.1 ≡ true
            → HasGroup after one.0) new grows.begin entry m (ap is_some e)) ∙ is))

    by : (group : ℕ) (b : Bool) → has_members nat_eq after.mounts group ≡ b
        → folded (masters_with nat_eq) (master_in groups) new group ≡ (without_dead_groups nat_eq after).master group
    by group true is = same_folds group (master_in groups) world.master new (there group
        (has_members nat_eq world.mounts group) is refl)
        ∙ sym (grows.master group) ∙ ap (λ b. cond b (after.master group) None) (sym is)
    by group false is = none_folded group new (master_in groups) (unmastered group is) (not_there group
        (has_members nat_eq world.mounts group) is refl) ∙ ap (λ b. cond b (after.master group) None) (sym is)
