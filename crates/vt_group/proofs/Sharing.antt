-- Mounts become shared, all at once.
use Rattle.std.proofs.Common.{◌≡◌, refl, sym, ap, subst, ◌∙◌, true, false, Bool, List, Option, Some, [], is_some, map, true≢false, ℕ, nat_eq, ◌||◌, ◌∷◌, inl, inr, ⊎_elim, eq-eqb, ◌⊎◌, eqb-true, All, Contains, if◌then◌else◌, nat_cmp}
use Rattle.vt_spec.proofs.Common.{Among, HasLivingGroups, Lives, Mount, Private, Propagation, Shared, Slave, ToShared, Unbindable, World, all_from_among, among-from_map, among-map, among_from_all, among_from_contains, and_parts, any_among, any_from_among, eqb-false, folded, group_of, has_master, has_members, has_no_master, insert_entry, is_among, is_among_numbers, is_member_of, list_any, map_alike, map_twice, master_after, masters_with, retyped, retyped_mount, same_Some, source_of, type_after, with_master, with_new_groups}
use Rattle.vt_location.specs.declared.numbers.GroupId.{GroupId}
use Rattle.vt_location.specs.declared.numbers.MountId.{MountId}
use Rattle.vt_group.specs.Grouping.{Grouping, Has, HasGroup, LacksGroup, are_rising, peers_of, propagation_in, retyped_if}
use Rattle.vt_group.specs.Laws.{shown}
use Rattle.vt_group.specs.Together.{Grows, all_added, if_sourced, pair_of, shared_group, shared_type, with_type_of}
use Rattle.vt_group.proofs.Adding.{grown_has}
use Rattle.vt_group.proofs.Peers.{above_first, numbers-retyped, peers-set}
use Rattle.vt_group.proofs.Showing.{shows_types}
use Rattle.vt_group.proofs.Together.{old_masters, regrouped_living}
use Rattle.vt_laws_mounts.proofs.GroupsKept.{member_shared, shared_member}
use Rattle.vt_laws_mounts.specs.Mounts.Attaching.{numbers_of}
use Rattle.vt_laws_mounts.specs.Mounts.Receivers.{AllGroupsLive}

-- mounts with one number are one
one_number : (mounts : List (Mount ℕ)) → are_rising (numbers_of mounts) ≡ true → (a b : Mount ℕ) → Among a mounts
    → Among b mounts → a.number ≡ b.number → a ≡ b
one_number [] rising a b m n same = absurd m
one_number (first ∷ rest) rising a b m n same =
    ⊎_elim (λ e. ⊎_elim (λ f. e ∙ sym f) (λ l. absurd (apart b l (sym same ∙ ap (λ x. x.number) e))) n)
    (λ k. ⊎_elim (λ f. absurd (apart a k (same
    ∙ ap (λ x. x.number) f))) (λ l. one_number rest (and_parts _ _ rising).1 a b k l same) n) m
  where
    apart : (x : Mount ℕ) → Among x rest → x.number ≡ first.number → ⊥
    apart x l e = eqb-false first.number x.number (above_first first.number rest (and_parts _ _ rising).0 x l) (sym e)

module _ (world : World ℕ) (live : AllGroupsLive world) (groups : Grouping) (has : Has world groups) (group : ℕ → ℕ)
    (lacks : (number : ℕ) → LacksGroup world (group number)) where
  abbrev were : ℕ → Bool
  were = has_members nat_eq world.mounts

  abbrev to_shared : Mount ℕ → Propagation ℕ
  to_shared mount = type_after (group mount.number) ToShared mount.propagation

  -- the types that the named mounts get
  abbrev pub types : List (Mount ℕ) → List (ℕ × Propagation ℕ)
  types named = map (λ mount. (mount.number, to_shared mount)) named

  -- the groups that they start, with their masters
  abbrev pub begun : List (Mount ℕ) → List (ℕ × Option ℕ)
  begun named = map (λ mount. (group mount.number, master_after mount.propagation)) named

  abbrev share_one : Mount ℕ → Mount ℕ → Mount ℕ
  share_one mount one = retyped_if one.number (to_shared one) mount

  -- one of them after another
  abbrev one_by_one : List (Mount ℕ) → List (Mount ℕ) → List (Mount ℕ)
  one_by_one mounts named = folded (λ mounts one. map (retyped_if one.number (to_shared one)) mounts) mounts named

  shares_with : (mount : Mount ℕ) → (source : ℕ) × (source_of (to_shared mount) ≡ Some source)
  shares_with mount = by mount.propagation
    where
      by : (kind : Propagation ℕ) → (source : ℕ) × (source_of (type_after (group mount.number) ToShared kind)
          ≡ Some source)
      by (Shared own) = (own, refl)
      by (Slave master) = (group mount.number, refl)
      by Private = (group mount.number, refl)
      by Unbindable = (group mount.number, refl)

  peers-typed : (named mounts : List (Mount ℕ)) → are_rising (numbers_of mounts) ≡ true
      → ((mount : Mount ℕ) → Among mount named → is_among nat_eq mount.number (numbers_of mounts) ≡ true)
      → peers_of (one_by_one mounts named) ≡ folded with_type_of (peers_of mounts) (types named)
  peers-typed [] mounts rising within = refl
  peers-typed (one ∷ named) mounts rising within =
      let numbers = numbers-retyped one.number (to_shared one) mounts in
      let source = shares_with one in
      peers-typed named (map (retyped_if one.number (to_shared one)) mounts) (ap are_rising numbers ∙ rising)
      (λ mount m. ap (is_among nat_eq mount.number) numbers ∙ within mount (inr m))
      ∙ ap (λ peers. folded with_type_of peers (types named))
      (peers-set one.number (to_shared one) source.0 source.1 mounts rising (within one (inl refl))
      ∙ ap (λ o. if_sourced o (peers_of mounts) (insert_entry nat_cmp (peers_of mounts) one.number (to_shared one)))
      (sym source.1))

  folded-map : (named mounts : List (Mount ℕ)) → one_by_one mounts named
      ≡ map (λ mount. folded share_one mount named) mounts
  folded-map [] mounts = same mounts
    where
      same : (list : List (Mount ℕ)) → list ≡ map (λ mount. mount) list
      same [] = refl
      same (mount ∷ rest) = ap (λ l. mount ∷ l) (same rest)
  folded-map (one ∷ named) mounts = folded-map named (map (retyped_if one.number (to_shared one)) mounts)
      ∙ map_twice (λ mount. folded share_one mount named) (retyped_if one.number (to_shared one)) mounts

  -- a mount that is shared stays so
  stays_shared : (mount : Mount ℕ) → Among mount world.mounts → (named : List (Mount ℕ)) → ((one : Mount ℕ)
      → Among one named → Among one world.mounts)
      → folded share_one (record mount { propagation = to_shared mount }) named
      ≡ record mount { propagation = to_shared mount }
  stays_shared mount m [] within = refl
  stays_shared mount m (one ∷ named) within =
      ap (λ x. folded share_one x named) (by (nat_eq one.number mount.number) refl)
      ∙ stays_shared mount m named (λ x l. within x (inr l))
    where
      by : (b : Bool) → nat_eq one.number mount.number ≡ b
          → (if b then record mount { propagation = to_shared one } else record mount { propagation = to_shared mount })
          ≡ record mount { propagation = to_shared mount }
      by true e =
          let same = one_number world.mounts has.order one mount (within one (inl refl)) m
          (eqb-true one.number mount.number e) in
          λ i. record mount { propagation = to_shared (same i) }
      by false e = refl

  all_shared : (mount : Mount ℕ) → Among mount world.mounts → (named : List (Mount ℕ)) → ((one : Mount ℕ)
      → Among one named → Among one world.mounts)
      → folded share_one mount named ≡ retyped_mount nat_eq group ToShared named mount
  all_shared mount m [] within = refl
  all_shared mount m (one ∷ named) within =
      by (nat_eq one.number mount.number) refl (nat_eq mount.number one.number) refl (all_shared mount m named
      (λ x l. within x (inr l)))
    where
      by : (b : Bool) → nat_eq one.number mount.number ≡ b → (c : Bool) → nat_eq mount.number one.number ≡ c
          → folded share_one mount named ≡ retyped_mount nat_eq group ToShared named mount
          → folded share_one (if b then record mount { propagation = to_shared one } else mount) named
          ≡ (if c || list_any (λ other. nat_eq mount.number other.number) named then record mount {
            propagation = to_shared mount;
          } else mount)
      by true e true f later =
          let same = one_number world.mounts has.order one mount (within one (inl refl)) m
          (eqb-true one.number mount.number e) in
          ap (λ x. folded share_one (record mount { propagation = to_shared x }) named) same
          ∙ stays_shared mount m named (λ x l. within x (inr l))
      by true e false f later = absurd (eqb-false mount.number one.number f (sym (eqb-true one.number mount.number e)))
      by false e true f later = absurd (eqb-false one.number mount.number e (sym (eqb-true mount.number one.number f)))
      by false e false f later = later

  masters-folded : (named : List (Mount ℕ)) (master : ℕ → Option ℕ) (one : ℕ)
      → with_new_groups nat_eq group master named one ≡ folded (masters_with nat_eq) master (begun named) one
  masters-folded [] master one = refl
  masters-folded (mount ∷ named) master one = masters-folded named (with_master nat_eq master (group mount.number)
      (master_after mount.propagation)) one

  -- the master of a new group is that of one of them
  unnamed_master : (named : List (Mount ℕ)) (master : ℕ → Option ℕ) (one : ℕ)
      → is_among nat_eq one (map (λ entry. entry.0) (begun named)) ≡ false
      → with_new_groups nat_eq group master named one ≡ master one
  unnamed_master [] master one e = refl
  unnamed_master (mount ∷ named) master one e = by (nat_eq one (group mount.number)) refl e (unnamed_master named
      (with_master nat_eq master (group mount.number) (master_after mount.propagation)) one)
    where
      by : (b : Bool) → nat_eq one (group mount.number) ≡ b
          → (b || is_among nat_eq one (map (λ entry. entry.0) (begun named))) ≡ false
          → (is_among nat_eq one (map (λ entry. entry.0) (begun named)) ≡ false
          → with_new_groups nat_eq group (with_master nat_eq master (group mount.number)
          (master_after mount.propagation)) named one
          ≡ with_master nat_eq master (group mount.number) (master_after mount.propagation) one)
          → with_new_groups nat_eq group (with_master nat_eq master (group mount.number)
          (master_after mount.propagation)) named one ≡ master one
      by true is e later = absurd (true≢false e)
      by false is e later = later e ∙ ap (λ b. if b then master_after mount.propagation else master one) is

  named_master : (named : List (Mount ℕ)) (master : ℕ → Option ℕ) (one : ℕ)
      → is_among nat_eq one (map (λ entry. entry.0) (begun named)) ≡ true
      → (mount : Mount ℕ) × Among mount named × (with_new_groups nat_eq group master named one
      ≡ master_after mount.propagation)
  named_master [] master one e = absurd (true≢false (sym e))
  named_master (mount ∷ named) master one e =
      by (is_among nat_eq one (map (λ entry. entry.0) (begun named))) refl (nat_eq one (group mount.number)) refl e
      (named_master named (with_master nat_eq master (group mount.number) (master_after mount.propagation)) one)
    where
      by : (later : Bool) → is_among nat_eq one (map (λ entry. entry.0) (begun named)) ≡ later
          → (here : Bool) → nat_eq one (group mount.number) ≡ here
          → (here || is_among nat_eq one (map (λ entry. entry.0) (begun named))) ≡ true
          → (is_among nat_eq one (map (λ entry. entry.0) (begun named)) ≡ true → (x : Mount ℕ) × Among x named
          × (with_new_groups nat_eq group (with_master nat_eq master (group mount.number)
          (master_after mount.propagation)) named one ≡ master_after x.propagation))
          → (x : Mount ℕ) × Among x (mount ∷ named)
          × (with_new_groups nat_eq group (with_master nat_eq master (group mount.number)
          (master_after mount.propagation)) named one ≡ master_after x.propagation)
      by true l b is e further = let t = further l in (t.0, inr t.1, t.2)
      by false l true is e further = (
        mount,
        inl refl,
        unnamed_master named (with_master nat_eq master (group mount.number) (master_after mount.propagation)) one l
            ∙ ap (λ b. if b then master_after mount.propagation else master one) is,
      )
      by false l false is e further = absurd (true≢false (sym e ∙ l))

  module _ (named : List (Mount ℕ)) (within : (mount : Mount ℕ) → Among mount named → Among mount world.mounts) where
    -- the world in which they are shared
    abbrev pub after : World ℕ
    after = record world {
      mounts = map (retyped_mount nat_eq group ToShared named) world.mounts;
      master = with_new_groups nat_eq group world.master named;
    }

    abbrev is_named : Mount ℕ → Bool
    is_named mount = list_any (λ other. nat_eq mount.number other.number) named

    abbrev type_if : Mount ℕ → Bool → Propagation ℕ
    type_if mount b = (if b then record mount { propagation = to_shared mount } else mount).propagation

    member_after : (mount : Mount ℕ) → Among mount world.mounts → (one : ℕ) → type_if mount (is_named mount)
        ≡ Shared one → HasGroup after one
    member_after mount m one e =
        any_from_among (is_member_of nat_eq one) after.mounts (retyped_mount nat_eq group ToShared named mount)
        (among-map (retyped_mount nat_eq group ToShared named) world.mounts mount m) (shared_member one
        (retyped_mount nat_eq group ToShared named mount) e)

    keeps_group : (mount : Mount ℕ) (one : ℕ) → mount.propagation ≡ Shared one → (b : Bool) → type_if mount b
        ≡ Shared one
    keeps_group mount one e true = ap (type_after (group mount.number) ToShared) e
    keeps_group mount one e false = e

    members_stay : (one : ℕ) → were one ≡ true → HasGroup after one
    members_stay one h =
        let member = any_among (is_member_of nat_eq one) world.mounts h in
        member_after member.0 member.1 one (keeps_group member.0 one (member_shared one member.0 member.2)
        (is_named member.0))

    named_number : (mount : Mount ℕ) → is_named mount ≡ true
        → is_among nat_eq (group mount.number) (map (λ entry. entry.0) (begun named)) ≡ true
    named_number mount h =
        let t = any_among (λ other. nat_eq mount.number other.number) named h in
        is_among_numbers (map (λ entry. entry.0) (begun named)) (group mount.number)
        (subst (λ n. Among n (map (λ entry. entry.0) (begun named))) (ap group (sym
        (eqb-true mount.number t.0.number t.2)))
        (among-map (λ entry. entry.0) (begun named) (group t.0.number, master_after t.0.propagation) (among-map
        (λ x. (group x.number, master_after x.propagation)) named t.0 t.1)))

    -- the source of a mount is as it was, or the new group
    old_or_new : (mount : Mount ℕ) (one : ℕ) (b : Bool) → source_of (type_if mount b) ≡ Some one
        → (source_of mount.propagation ≡ Some one) ⊎ ((b ≡ true) × (group mount.number ≡ one) × (to_shared mount
        ≡ Shared one))
    old_or_new mount one false e = inl e
    old_or_new mount one true e = by mount.propagation refl e
      where
        by : (kind : Propagation ℕ) → mount.propagation ≡ kind
            → source_of (type_after (group mount.number) ToShared kind) ≡ Some one
            → (source_of mount.propagation ≡ Some one) ⊎ ((true ≡ true) × (group mount.number ≡ one)
            × (to_shared mount ≡ Shared one))
        by (Shared own) f e = inl (ap source_of f ∙ e)
        by (Slave master) f e = inr (
          refl,
          same_Some (group mount.number) one e,
          ap (type_after (group mount.number) ToShared) f ∙ ap Shared (same_Some (group mount.number) one e),
        )
        by Private f e = inr (
          refl,
          same_Some (group mount.number) one e,
          ap (type_after (group mount.number) ToShared) f ∙ ap Shared (same_Some (group mount.number) one e),
        )
        by Unbindable f e = inr (
          refl,
          same_Some (group mount.number) one e,
          ap (type_after (group mount.number) ToShared) f ∙ ap Shared (same_Some (group mount.number) one e),
        )

    named_or_old : (one : ℕ) → LacksGroup world one → HasGroup after one
        → is_among nat_eq one (map (λ entry. entry.0) (begun named)) ≡ true
    named_or_old one none h =
        let member = any_among (is_member_of nat_eq one) after.mounts h in
        let from = among-from_map (retyped_mount nat_eq group ToShared named) world.mounts member.0 member.1 in
        by from.0 from.1 (is_named from.0) refl (ap (λ x. x.propagation) (sym from.2)
        ∙ member_shared one member.0 member.2)
      where
        lacking : (mount : Mount ℕ) → Among mount world.mounts → mount.propagation ≡ Shared one → ⊥
        lacking mount m e = true≢false (sym (any_from_among (is_member_of nat_eq one) world.mounts mount m
            (shared_member one mount e)) ∙ none)

        joined : (mount : Mount ℕ) → Among mount world.mounts → is_named mount ≡ true → (kind : Propagation ℕ)
            → mount.propagation ≡ kind → type_after (group mount.number) ToShared kind ≡ Shared one
            → is_among nat_eq one (map (λ entry. entry.0) (begun named)) ≡ true
        joined mount m h (Shared own) f e = absurd (lacking mount m (f ∙ e))
        joined mount m h (Slave master) f e = subst (λ n. is_among nat_eq n (map (λ entry. entry.0) (begun named))
            ≡ true) (same_Some (group mount.number) one (ap group_of e)) (named_number mount h)
        joined mount m h Private f e = subst (λ n. is_among nat_eq n (map (λ entry. entry.0) (begun named))
            ≡ true) (same_Some (group mount.number) one (ap group_of e)) (named_number mount h)
        joined mount m h Unbindable f e = subst (λ n. is_among nat_eq n (map (λ entry. entry.0) (begun named))
            ≡ true) (same_Some (group mount.number) one (ap group_of e)) (named_number mount h)

        by : (mount : Mount ℕ) → Among mount world.mounts → (b : Bool) → is_named mount ≡ b → type_if mount b
            ≡ Shared one → is_among nat_eq one (map (λ entry. entry.0) (begun named)) ≡ true
        by mount m true h e = joined mount m h mount.propagation refl e
        by mount m false h e = absurd (lacking mount m e)

    masters_begin : All (λ entry. is_some entry.1 ≡ true → HasGroup after entry.0) (begun named)
    masters_begin = all_from_among (λ entry. is_some entry.1 ≡ true
        → HasGroup after entry.0) (begun named) (λ entry m is.
        let from = among-from_map (λ x. (group x.number, master_after x.propagation)) named entry m in
        ap (λ e. has_members nat_eq after.mounts e.0) from.2
        ∙ slave from.0 from.1 from.0.propagation refl (sym (ap (λ e. is_some e.1) from.2) ∙ is))
      where
        itself : (mount : Mount ℕ) → Among mount named → is_named mount ≡ true
        itself mount m = any_from_among (λ other. nat_eq mount.number other.number) named mount m
            (eq-eqb mount.number mount.number refl)

        slave : (mount : Mount ℕ) → Among mount named → (kind : Propagation ℕ) → mount.propagation ≡ kind
            → is_some (master_after kind) ≡ true → HasGroup after (group mount.number)
        slave mount m (Shared own) f e = absurd (true≢false (sym e))
        slave mount m (Slave master) f e =
            member_after mount (within mount m) (group mount.number) (ap (type_if mount) (itself mount m)
            ∙ ap (type_after (group mount.number) ToShared) f)
        slave mount m Private f e = absurd (true≢false (sym e))
        slave mount m Unbindable f e = absurd (true≢false (sym e))

    numbers-shared : numbers_of after.mounts ≡ numbers_of world.mounts
    numbers-shared = same world.mounts
      where
        one : (mount : Mount ℕ) (b : Bool)
            → (if b then record mount { propagation = to_shared mount } else mount).number ≡ mount.number
        one mount true = refl
        one mount false = refl

        same : (mounts : List (Mount ℕ)) → numbers_of (map (retyped_mount nat_eq group ToShared named) mounts)
            ≡ numbers_of mounts
        same [] = refl
        same (mount ∷ rest) = λ i. one mount (is_named mount) i ∷ same rest i

    grows : Grows world after (types named) (begun named)
    grows = record {
      order = ap are_rising numbers-shared ∙ has.order;
      peers = ap peers_of (sym (folded-map named world.mounts
          ∙ map_alike (λ mount. folded share_one mount named) (retyped_mount nat_eq group ToShared named) world.mounts
          (λ mount m. all_shared mount m named within))) ∙ peers-typed named world.mounts has.order (λ mount m.
          is_among_numbers (numbers_of world.mounts) mount.number (among-map (λ x. x.number) world.mounts mount
          (within mount m)));
      master = λ one. masters-folded named world.master one;
      stay = members_stay;
      begin = masters_begin;
      named = named_or_old;
    }

    -- all groups live
    old_masters_after : (one : ℕ) → were one ≡ true → after.master one ≡ world.master one
    old_masters_after one h = old_masters world live group lacks named world.master one h

    lives_on : (one : ℕ) → Lives were world.master one → Lives (has_members nat_eq after.mounts) after.master one
    lives_on one (has_no_master it h e) = has_no_master it (members_stay it h) (old_masters_after it h ∙ e)
    lives_on one (has_master it next h e later) = has_master it next (members_stay it h) (old_masters_after it h
        ∙ e) (lives_on next later)

    source_lives : (mount : Mount ℕ) → Among mount world.mounts → (one : ℕ) → source_of mount.propagation
        ≡ Some one → Lives were world.master one
    source_lives mount m one e = among_from_all (HasLivingGroups nat_eq world) world.mounts live mount m one e

    new_lives : (mount : Mount ℕ) → Among mount world.mounts → is_named mount ≡ true → (one : ℕ)
        → group mount.number ≡ one → to_shared mount ≡ Shared one
        → Lives (has_members nat_eq after.mounts) after.master one
    new_lives mount m h one same e =
        let t = named_master named world.master one (subst (λ n. is_among nat_eq n (map (λ entry. entry.0)
        (begun named)) ≡ true) same (named_number mount h)) in
        by t.0 t.1 t.0.propagation refl t.2
      where
        here : HasGroup after one
        here = member_after mount m one (ap (type_if mount) h ∙ e)

        by : (x : Mount ℕ) → Among x named → (kind : Propagation ℕ) → x.propagation ≡ kind → after.master one
            ≡ master_after x.propagation → Lives (has_members nat_eq after.mounts) after.master one
        by x l (Shared own) f is = has_no_master one here (is ∙ ap master_after f)
        by x l (Slave master) f is = has_master one master here (is
            ∙ ap master_after f) (lives_on master (source_lives x (within x l) master (ap source_of f)))
        by x l Private f is = has_no_master one here (is ∙ ap master_after f)
        by x l Unbindable f is = has_no_master one here (is ∙ ap master_after f)

    after_live : AllGroupsLive after
    after_live = all_from_among (HasLivingGroups nat_eq after) after.mounts (λ x l one e.
        let from = among-from_map (retyped_mount nat_eq group ToShared named) world.mounts x l in
        by from.0 from.1 one (sym (ap (λ y. source_of y.propagation) from.2) ∙ e))
      where
        by : (mount : Mount ℕ) → Among mount world.mounts → (one : ℕ) → source_of (type_if mount (is_named mount))
            ≡ Some one → Lives (has_members nat_eq after.mounts) after.master one
        by mount m one e = ⊎_elim (λ old. lives_on one (source_lives mount m one old))
            (λ new. new_lives mount m new.0 one new.1 new.2) (old_or_new mount one (is_named mount) e)

    -- by the types that groups tell
    told_types : map (λ mount. shared_type groups (mount.number, group mount.number)) named ≡ types named
    told_types = map_alike _ (λ mount. (mount.number, to_shared mount)) named (λ mount m i. (
      mount.number,
      (ap (type_after (group mount.number) ToShared) (among_from_all (λ x. propagation_in groups x.number
          ≡ shown x.propagation) world.mounts (shows_types world groups has) mount (within mount m))
          ∙ by (group mount.number) mount.propagation) i,
    ))
      where
        by : (new : ℕ) (kind : Propagation ℕ) → type_after new ToShared (shown kind) ≡ type_after new ToShared kind
        by new (Shared own) = refl
        by new (Slave master) = refl
        by new Private = refl
        by new Unbindable = refl

    told_groups : map (λ mount. shared_group groups (mount.number, group mount.number)) named ≡ begun named
    told_groups = map_alike _ (λ mount. (group mount.number, master_after mount.propagation)) named (λ mount m i. (
      group mount.number,
      (ap master_after (among_from_all (λ x. propagation_in groups x.number
          ≡ shown x.propagation) world.mounts (shows_types world groups has) mount (within mount m))
          ∙ by mount.propagation) i,
    ))
      where
        by : (kind : Propagation ℕ) → master_after (shown kind) ≡ master_after kind
        by (Shared own) = refl
        by (Slave master) = refl
        by Private = refl
        by Unbindable = refl

-- A world in which the named mounts become shared has the groups that they start.
pub shared_has : (world : World ℕ) → AllGroupsLive world → (groups : Grouping) → Has world groups → (group : ℕ → ℕ)
    → ((number : ℕ) → LacksGroup world (group number)) → (named : List (Mount ℕ)) → All (Contains world.mounts) named
    → (pairs : List (MountId × GroupId)) → map (λ mount. (mount.number, group mount.number)) named ≡ map pair_of pairs
    → Has (retyped nat_eq world group ToShared named)
    (all_added groups (map (λ pair. shared_type groups (pair_of pair)) pairs) (map (λ pair. shared_group groups
    (pair_of pair)) pairs))
shared_has world live groups has group lacks named there pairs same =
    let within : (mount : Mount ℕ) → Among mount named → Among mount world.mounts =
    λ mount m. among_from_contains world.mounts mount (among_from_all (Contains world.mounts) named there mount m) in
    let types_same = sym (told_types world live groups has group lacks named within)
    ∙ sym (map_twice (shared_type groups) (λ mount. (mount.number, group mount.number)) named)
    ∙ ap (map (shared_type groups)) same ∙ map_twice (shared_type groups) pair_of pairs in
    let groups_same = sym (told_groups world live groups has group lacks named within)
    ∙ sym (map_twice (shared_group groups) (λ mount. (mount.number, group mount.number)) named)
    ∙ ap (map (shared_group groups)) same ∙ map_twice (shared_group groups) pair_of pairs in
    subst (λ w. Has w (all_added groups (map (λ pair. shared_type groups (pair_of pair)) pairs) (map
    (λ pair. shared_group groups (pair_of pair)) pairs)))
    (sym (regrouped_living (after world live groups has group lacks named within)
    (after_live world live groups has group lacks named within)))
    (subst (Has (after world live groups has group lacks named within)) (λ i. all_added groups (types_same i)
    (groups_same i)) (grown_has world (after world live groups has group lacks named within) groups
    (types world live groups has group lacks named) (begun world live groups has group lacks named) has
    (grows world live groups has group lacks named within)))

-- no group loses a member by it
module _ (world : World ℕ) (live : AllGroupsLive world) (groups : Grouping) (has : Has world groups) (group : ℕ → ℕ)
    (lacks : (number : ℕ) → LacksGroup world (group number)) (named : List (Mount ℕ))
    (there : All (Contains world.mounts) named) where
  within_world : (mount : Mount ℕ) → Among mount named → Among mount world.mounts
  within_world mount m = among_from_contains world.mounts mount
      (among_from_all (Contains world.mounts) named there mount m)

  -- no group ends where mounts become shared
  pub sharing_regroups : retyped nat_eq world group ToShared named ≡ record world {
    mounts = map (retyped_mount nat_eq group ToShared named) world.mounts;
    master = with_new_groups nat_eq group world.master named;
  }
  sharing_regroups = regrouped_living (after world live groups has group lacks named within_world)
      (after_live world live groups has group lacks named within_world)

  -- and all groups live
  pub sharing_lives : AllGroupsLive (retyped nat_eq world group ToShared named)
  sharing_lives = subst AllGroupsLive (sym sharing_regroups)
      (after_live world live groups has group lacks named within_world)
