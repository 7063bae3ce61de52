-- Mounts that come after all others: their types come after the others', and so do their groups.
use Rattle.std.proofs.Common.{◌≡◌, refl, sym, ap, ◌∙◌, true≢false, ⊎_elim, ℕ, nat_eq, Bool, true, ◌&&◌, ◌||◌, List, [], ◌∷◌, ◌++◌, map, Option, is_some, option_map, append_assoc, nat_lt, nat_cmp, append-nil, arith}
use Rattle.vt_spec.proofs.Common.{Mount, Propagation, and_parts, common_steps, cons_option, folded, group_of, has_members, holds_of, insert_entry, is_member_of, list_all, list_any-append, or_right, source_of}
use Rattle.vt_mounting.proofs.Common.{HasGroup, all_from_among, among_from_all, are_ascending, numbers_of, peer_of, peers_of}
use Rattle.vt_group.specs.Grouping.{are_rising}
use Rattle.vt_group.specs.Together.{with_type_of}
use Rattle.vt_group.proofs.Peers.{cmp_greater}
use Rattle.vt_mounting.specs.Attach.AttachedGroups.{AttachedWorldsGrow, type_of}

-- One that comes last

insert_last : (number : ℕ) (kind : Propagation ℕ) (front : List (Mount ℕ))
    → list_all (λ other. nat_lt other number) (numbers_of front) ≡ true
    → insert_entry nat_cmp (peers_of front) number kind ≡ peers_of front ++ (number, kind) ∷ []
insert_last number kind [] all = refl
insert_last number kind (mount ∷ rest) all = grind (arith, common_steps, insert_last number kind rest, cmp_greater)

one_more : (front : List (Mount ℕ)) (copy : Mount ℕ)
    → peers_of (front ++ copy ∷ []) ≡ peers_of front ++ cons_option (peer_of copy) []
one_more [] copy = refl
one_more (mount ∷ front) copy = grind (arith, common_steps, one_more front copy)

typed_last : (front : List (Mount ℕ)) (copy : Mount ℕ)
    → list_all (λ other. nat_lt other copy.number) (numbers_of front) ≡ true
    → with_type_of (peers_of front) (type_of copy) ≡ peers_of (front ++ copy ∷ [])
typed_last front copy all = grind (arith, common_steps, one_more, insert_last, append-nil)

at_copy : (test : ℕ → Bool) (front : List (Mount ℕ)) (copy : Mount ℕ) (rest : List (Mount ℕ))
    → list_all test (numbers_of (front ++ copy ∷ rest)) ≡ true → test copy.number ≡ true
at_copy test [] copy rest all = (and_parts (test copy.number) _ all).0
at_copy test (mount ∷ front) copy rest all = at_copy test front copy rest (and_parts (test mount.number) _ all).1

lower : (front : List (Mount ℕ)) (copy : Mount ℕ) (rest : List (Mount ℕ))
    → are_rising (numbers_of (front ++ copy ∷ rest)) ≡ true
    → list_all (λ other. nat_lt other copy.number) (numbers_of front) ≡ true
lower [] copy rest rising = refl
lower (mount ∷ front) copy rest rising =
    let parts = and_parts (list_all (nat_lt mount.number) (numbers_of (front ++ copy ∷ rest))) _ rising in
    λ i. at_copy (nat_lt mount.number) front copy rest parts.0 i && lower front copy rest parts.1 i

-- All that come

pub all_entered : (front copies : List (Mount ℕ)) → are_rising (numbers_of (front ++ copies)) ≡ true
    → folded with_type_of (peers_of front) (map type_of copies) ≡ peers_of (front ++ copies)
all_entered front [] rising = ap peers_of (sym (append-nil front))
all_entered front (copy ∷ rest) rising =
    cc (
      typed_last front copy (lower front copy rest rising),
      all_entered (front ++ copy ∷ []) rest (ap (λ mounts.
          are_rising (numbers_of mounts)) (append_assoc front (copy ∷ []) rest) ∙ rising),
      append_assoc front (copy ∷ [])
          rest,
    )

-- Those that were there keep their numbers and types

module _ (change : Mount ℕ → Mount ℕ) (number : (mount : Mount ℕ) → (change mount).number ≡ mount.number)
    (kind : (mount : Mount ℕ) → (change mount).propagation ≡ mount.propagation) (copies : List (Mount ℕ)) where
  numbers_stay : (mounts : List (Mount ℕ)) → numbers_of (map change mounts ++ copies) ≡ numbers_of (mounts ++ copies)
  numbers_stay [] = refl
  numbers_stay (mount ∷ rest) = λ i. number mount i ∷ numbers_stay rest i

  pub peers_stay : (mounts : List (Mount ℕ)) → peers_of (map change mounts ++ copies) ≡ peers_of (mounts ++ copies)
  peers_stay [] = refl
  peers_stay (mount ∷ rest) = λ i.
      cons_option (option_map (λ source. (number mount i, kind mount i)) (source_of (kind mount i))) (peers_stay rest i)

  members_stay : (group : ℕ) (mounts : List (Mount ℕ))
      → has_members nat_eq (map change mounts) group ≡ has_members nat_eq mounts group
  members_stay group [] = refl
  members_stay group (mount ∷ rest) = λ i. holds_of (nat_eq group) (group_of (kind mount i))
      || members_stay group rest i

pub attached_worlds_grow : AttachedWorldsGrow
attached_worlds_grow world after change copies new come = record {
  order = ap (λ mounts. are_rising (numbers_of mounts)) come.mounts
      ∙ ap are_rising (numbers_stay change come.number come.kind copies world.mounts) ∙ come.order;
  peers = ap peers_of come.mounts ∙ peers_stay change come.number come.kind copies world.mounts
      ∙ sym (all_entered world.mounts copies come.order);
  master = come.master;
  stay = λ group has. members group ∙ (λ i. has i || has_members nat_eq copies group);
  begin = all_from_among (λ (entry : ℕ × Option ℕ). is_some entry.1 ≡ true → HasGroup after entry.0) new
      (λ entry m some.
      members entry.0 ∙ or_right (has_members nat_eq world.mounts entry.0) _
      (among_from_all (λ (other : ℕ × Option ℕ). is_some other.1 ≡ true
      → has_members nat_eq copies other.0 ≡ true) new come.begin entry m some));
  named = λ group lacks has. ⊎_elim (λ there. absurd (true≢false (sym there ∙ lacks))) (λ named. named)
      (come.named group ((λ i. sym lacks i || has_members nat_eq copies group) ∙ sym (members group) ∙ has));
}
  where
    members : (group : ℕ) → has_members nat_eq after.mounts group
        ≡ (has_members nat_eq world.mounts group || has_members nat_eq copies group)
    members group =
        cc (
          come.mounts,
          list_any-append (is_member_of nat_eq group) (map change world.mounts) copies,
          members_stay
              change come.number come.kind copies group world.mounts,
        )

-- Mounts in the order of their numbers

later_rise : (number : ℕ) (mounts : List (Mount ℕ))
    → list_all (λ (later : Mount ℕ). nat_lt number later.number) mounts ≡ list_all (nat_lt number) (numbers_of mounts)
later_rise number [] = refl
later_rise number (mount ∷ rest) = ap (λ b. nat_lt number mount.number && b) (later_rise number rest)

pub ascending_rises : (mounts : List (Mount ℕ)) → are_ascending mounts ≡ are_rising (numbers_of mounts)
ascending_rises [] = refl
ascending_rises (mount ∷ rest) = λ i. later_rise mount.number rest i && ascending_rises rest i
