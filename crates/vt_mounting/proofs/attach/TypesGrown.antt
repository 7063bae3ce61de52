-- Mounts that get types where they are, while others come after all: how the groups of the world grow.
use Rattle.std.proofs.Common.{◌≡◌, refl, sym, ap, subst, ◌∙◌, ⊎_elim, inl, inr, true≢false, ℕ, nat_eq, eqb-true, eq-eqb, true, ◌⊎◌, List, [], ◌∷◌, ◌++◌, map, Option, Some, None, is_some, option_map, unwrap_or, All, arith}
use Rattle.vt_spec.proofs.Common.{Mount, Private, Propagation, Shared, Slave, Unbindable, World, common_steps, cons_option, folded, group_of, has_members, holds_of, is_among, is_member_of, is_shared, lookup, map-append, masters_with, source_of}
use Rattle.vt_mounting.proofs.Common.{Among, Grows, HasGroup, all_from_among, among-append, among-append_left, among-append_right, among-from_map, among-map, among_from_all, any_from_among, numbers_of, peers_of}
use Rattle.vt_group.specs.Grouping.{LacksGroup, are_rising, retyped_if}
use Rattle.vt_group.specs.Together.{with_type_of}
use Rattle.vt_group.proofs.Peers.{numbers-retyped, peers-set}
use Rattle.vt_spec.proofs.Lists as spec
use Rattle.vt_mounting.specs.Attach.AttachedGroups.{type_of}
use Rattle.vt_mounting.proofs.attach.GrownGroups.{all_entered}
use Rattle.vt_mounting.proofs.attach.TypedMounts.{KindsOnce, all_typed, looked_up_kind, lookup_kind, retyped_one, typed_at}
use Rattle.vt_mounting.proofs.detach.LostUses.{folded_append}

-- The mounts keep their numbers, and some become shared or were so. Others come after them with greater numbers. A group
-- of these or those is there already or is new, and each new group that has a master has one of them.
pub record GrowBeside (world after : World ℕ) (change : Mount ℕ → Mount ℕ) (own come : List (Mount ℕ))
    (new : List (ℕ × Option ℕ)) : Type 0 where
  pub mounts : after.mounts ≡ map change world.mounts ++ come
  pub number : (mount : Mount ℕ) → (change mount).number ≡ mount.number
  pub kind : (mount : Mount ℕ) → (change mount).propagation ≡ (typed_at (map type_of own) mount).propagation
  pub once : KindsOnce (map type_of own)
  pub there : (mount : Mount ℕ) → Among mount own → is_among nat_eq mount.number (numbers_of world.mounts) ≡ true
  pub shared : (mount : Mount ℕ) → Among mount own → is_shared mount.propagation ≡ true
  pub stays : (mount : Mount ℕ) → Among mount world.mounts → (group : ℕ) → group_of mount.propagation ≡ Some group
      → group_of (typed_at (map type_of own) mount).propagation ≡ Some group
  pub order : are_rising (numbers_of (world.mounts ++ come)) ≡ true
  pub master : (group : ℕ) → after.master group ≡ folded (masters_with nat_eq) world.master new group
  pub begin : All (λ entry. is_some entry.1 ≡ true → has_members nat_eq (own ++ come) entry.0 ≡ true) new
  pub named : (group : ℕ) → has_members nat_eq (own ++ come) group ≡ true
      → HasGroup world group ⊎ (is_among nat_eq group (map (λ entry. entry.0) new) ≡ true)

-- a shared type is set in its place
set_shared : (number : ℕ) (kind : Propagation ℕ) → is_shared kind ≡ true → (mounts : List (Mount ℕ))
    → are_rising (numbers_of mounts) ≡ true → is_among nat_eq number (numbers_of mounts) ≡ true
    → with_type_of (peers_of mounts) (number, kind) ≡ peers_of (map (retyped_if number kind) mounts)
set_shared number (Shared group) is mounts rising there = sym
    (peers-set number (Shared group) group refl mounts rising there)
set_shared number (Slave master) is mounts rising there = absurd (true≢false (sym is))
set_shared number Private is mounts rising there = absurd (true≢false (sym is))
set_shared number Unbindable is mounts rising there = absurd (true≢false (sym is))

all_set : (own mounts : List (Mount ℕ)) → are_rising (numbers_of mounts) ≡ true
    → ((mount : Mount ℕ) → Among mount own → is_among nat_eq mount.number (numbers_of mounts) ≡ true)
    → ((mount : Mount ℕ) → Among mount own → is_shared mount.propagation ≡ true)
    → folded with_type_of (peers_of mounts) (map type_of own) ≡ peers_of (folded retyped_one mounts (map type_of own))
all_set [] mounts rising there shared = refl
all_set (mount ∷ own) mounts rising there shared =
    let same = numbers-retyped mount.number mount.propagation mounts in
    cc (
      set_shared mount.number mount.propagation (shared mount (inl refl)) mounts rising (there mount (inl refl)),
      all_set own (map (retyped_if mount.number mount.propagation) mounts) (ap are_rising same ∙ rising) (λ other m. ap
          (is_among nat_eq other.number) same ∙ there other (inr m)) (λ other m. shared other (inr m)),
    )

member_is : (group : ℕ) (mounts : List (Mount ℕ)) (mount : Mount ℕ) → Among mount mounts
    → group_of mount.propagation ≡ Some group → has_members nat_eq mounts group ≡ true
member_is group mounts mount m e =
    any_from_among (is_member_of nat_eq group) mounts mount m (ap (holds_of (nat_eq group)) e ∙ eq-eqb group group refl)

is_member : (group : ℕ) (kind : Propagation ℕ) → holds_of (nat_eq group) (group_of kind) ≡ true
    → group_of kind ≡ Some group
is_member group (Shared other) e = ap Some (sym (eqb-true group other e))
is_member group (Slave master) e = absurd (true≢false (sym e))
is_member group Private e = absurd (true≢false (sym e))
is_member group Unbindable e = absurd (true≢false (sym e))

the_member : (group : ℕ) (mounts : List (Mount ℕ)) → has_members nat_eq mounts group ≡ true
    → (mount : Mount ℕ) × Among mount mounts × (group_of mount.propagation ≡ Some group)
the_member group [] e = absurd (true≢false (sym e))
the_member group (mount ∷ rest) e = grind (arith, common_steps, the_member group rest, is_member)

module _ {world after : World ℕ} {change : Mount ℕ → Mount ℕ} {own come : List (Mount ℕ)} {new : List (ℕ × Option ℕ)}
    (is : GrowBeside world after change own come new) (rising : are_rising (numbers_of world.mounts) ≡ true) where
  abbrev typed : Mount ℕ → Mount ℕ
  typed = typed_at (map type_of own)

  -- by their numbers and types alone
  peers_alike : (mounts : List (Mount ℕ))
      → peers_of (map change mounts ++ come) ≡ peers_of (map (typed_at (map type_of own)) mounts ++ come)
  peers_alike [] = refl
  peers_alike (mount ∷ rest) = λ i.
      cons_option (option_map (λ source. (is.number mount i, is.kind mount i)) (source_of (is.kind mount i)))
      (peers_alike rest i)

  numbers_alike : (mounts : List (Mount ℕ)) → numbers_of (map change mounts ++ come) ≡ numbers_of (mounts ++ come)
  numbers_alike [] = refl
  numbers_alike (mount ∷ rest) = λ i. is.number mount i ∷ numbers_alike rest i

  typed_numbers : (mounts : List (Mount ℕ))
      → numbers_of (map (typed_at (map type_of own)) mounts ++ come) ≡ numbers_of (mounts ++ come)
  typed_numbers [] = refl
  typed_numbers (mount ∷ rest) = ap (λ numbers. mount.number ∷ numbers) (typed_numbers rest)

  peers_then : peers_of after.mounts ≡ folded with_type_of (peers_of world.mounts) (map type_of (own ++ come))
  peers_then =
      cc (
        is.mounts,
        peers_alike world.mounts,
        map-append type_of own come,
        folded_append with_type_of (peers_of
            world.mounts) (map type_of own) (map type_of come),
        all_set own world.mounts rising is.there is.shared,
        all_typed
            (map type_of own) is.once world.mounts,
        all_entered (map (typed_at (map type_of own)) world.mounts) come (ap
            are_rising (typed_numbers world.mounts) ∙ is.order),
      )

  -- a mount that was there, and one that came
  old_member : (mount : Mount ℕ) → Among mount world.mounts → {group : ℕ}
      → group_of (typed_at (map type_of own) mount).propagation ≡ Some group → HasGroup after group
  old_member mount m {group} e = member_is group after.mounts (change mount)
      (subst (Among (change mount)) (sym is.mounts)
      (among-append_left (map change world.mounts) come (change mount) (among-map change world.mounts mount m)))
      (ap group_of (is.kind mount) ∙ e)

  stays_there : (group : ℕ) → HasGroup world group → HasGroup after group
  stays_there group has =
      let member = the_member group world.mounts has in
      old_member member.0 member.1 (is.stays member.0 member.1 group member.2)

  all_members : (group : ℕ) → has_members nat_eq (own ++ come) group ≡ true → HasGroup after group
  all_members group has =
      let member = the_member group (own ++ come) has in
      ⊎_elim (λ mine. let old = spec.among-from_map (λ (mount : Mount ℕ). mount.number) world.mounts member.0.number
      (spec.among_numbers (numbers_of world.mounts) member.0.number (is.there member.0 mine)) in
      old_member old.0 old.1
      (ap (λ n. group_of (unwrap_or (lookup (nat_eq n) (map type_of own)) old.0.propagation)) (sym old.2)
      ∙ ap (λ o. group_of (unwrap_or o old.0.propagation)) (lookup_kind own is.once member.0 mine) ∙ member.2))
      (λ other. member_is group after.mounts member.0 (subst (Among member.0) (sym is.mounts)
      (among-append_right (map change world.mounts) come member.0 other)) member.2)
      (among-append own come member.0 member.1)

  named_there : (group : ℕ) → LacksGroup world group → HasGroup after group
      → is_among nat_eq group (map (λ (entry : ℕ × Option ℕ). entry.0) new) ≡ true
  named_there group lacks has =
      let member = the_member group after.mounts has in
      ⊎_elim (λ there. absurd (true≢false (sym there ∙ lacks))) (λ named. named) (is.named group (⊎_elim
      (λ old. let was = among-from_map change world.mounts member.0 old in
      by was.0 was.1 (lookup (nat_eq was.0.number) (map type_of own)) refl
      (sym (ap group_of (is.kind was.0)) ∙ ap (λ (mount : Mount ℕ). group_of mount.propagation) (sym was.2) ∙ member.2))
      (λ other. member_is group (own ++ come) member.0 (among-append_right own come member.0 other) member.2)
      (among-append (map change world.mounts) come member.0 (subst (Among member.0) is.mounts member.1))))
    where
      by : (was : Mount ℕ) → Among was world.mounts → (o : Option (Propagation ℕ))
          → lookup (nat_eq was.number) (map type_of own) ≡ o
          → group_of (unwrap_or (lookup (nat_eq was.number) (map type_of own)) was.propagation) ≡ Some group
          → has_members nat_eq (own ++ come) group ≡ true
      by was m None e is_so = absurd (true≢false (sym (member_is group world.mounts was m
          (ap (λ o. group_of (unwrap_or o was.propagation)) (sym e) ∙ is_so)) ∙ lacks))
      by was m (Some kind) e is_so =
          let mine = looked_up_kind was.number own kind e in
          member_is group (own ++ come) mine.0 (among-append_left own come mine.0 mine.1)
          (ap group_of mine.2 ∙ ap (λ o. group_of (unwrap_or o was.propagation)) (sym e) ∙ is_so)

  pub grows_beside : Grows world after (map type_of (own ++ come)) new
  grows_beside = record {
    order = ap (λ mounts. are_rising (numbers_of mounts)) is.mounts
        ∙ ap are_rising (numbers_alike world.mounts) ∙ is.order;
    peers = peers_then;
    master = is.master;
    stay = stays_there;
    begin = all_from_among (λ (entry : ℕ × Option ℕ). is_some entry.1 ≡ true → HasGroup after entry.0) new
        (λ entry m some. all_members entry.0 (among_from_all (λ (other : ℕ × Option ℕ). is_some other.1 ≡ true
        → has_members nat_eq (own ++ come) other.0 ≡ true) new is.begin entry m some));
    named = named_there;
  }
