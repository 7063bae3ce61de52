-- Where mounts of theirs have other types, and their groups other masters: the world that a call leaves, and its part.
use Rattle.std.proofs.Common.{inr, arith, ◌≡◌, refl, sym, ap, subst, ◌∙◌, ◌⊎◌, inl, ⊎_elim, ℕ, nat_eq, Bool, true, false, cond, List, [], ◌∷◌, Option, Some, None, filter, map, ◌||◌, filter_map}
use Rattle.vt_spec.proofs.Common.{cases_Bool, Among, Location, Mount, Propagation, Task, TaskName, World, among-filter, among-from_filter, among-from_map, any_among, common_steps, is_at, is_member_of, is_own_mount, list_any, locations, map_alike, map_twice, master_above, members, mount_in, numbers_raised, or_cases, or_parts, own_mounts, part_of, roots_and_directories, seen_by_descriptor, source_of, then_some, used_directly, when}
use Rattle.vt_laws_members.proofs.Common.{IsSealed, filter-map, filter_again, filter_map_map, filter_map_same, is_own, keep, member_group, same_members, source_from_group, with_changed}
use Rattle.vt_laws_members.proofs.changes.Common.{AreLess, filter_map_then, one_part, stands_on}
use Rattle.vt_laws_members.proofs.attached.RaisedAlike.{parts_left, spaces}

module _ {world : World ℕ} {names : List TaskName} (sealing : IsSealed world names) where
  abbrev part : World ℕ
  part = part_of nat_eq world names

  abbrev theirs : List (Task ℕ)
  theirs = members world names

  abbrev owns : List (Mount ℕ)
  owns = own_mounts nat_eq world names

  -- types after a call, in the world and in the part, and masters
  pub record AreTypedAlike (kind kind_there : Mount ℕ → Propagation ℕ) (master master_there : ℕ → Option ℕ)
      : Type 0 where
    pub types : (m : Mount ℕ) → Among m world.mounts → (is_own world names theirs m ≡ true) ⊎ (m.namespace ≡ None)
        → kind_there m ≡ kind m
    pub masters : (m : Mount ℕ) → Among m owns → (group : ℕ) → source_of (kind m) ≡ Some group
        → master_there group ≡ master group

  abbrev kept : Mount ℕ → Option (Mount ℕ)
  kept = keep world names theirs

  abbrev owned : Mount ℕ → Bool
  owned = is_own world names theirs

  abbrev stood : Mount ℕ → Bool
  stood m = is_at nat_eq (roots_and_directories theirs) m

  abbrev located : Mount ℕ → Bool
  located m = is_at nat_eq (locations theirs) m

  mine : (m : Mount ℕ) → Among m world.mounts → owned m ≡ true → Among m owns
  mine m n own = among-filter (is_own_mount nat_eq world names) world.mounts m n own

  module _ (kind kind_there : Mount ℕ → Propagation ℕ) (master master_there : ℕ → Option ℕ)
      (alike : AreTypedAlike kind kind_there master master_there) where
    abbrev after : Mount ℕ → Mount ℕ
    after m = record m { propagation = kind m }

    abbrev after_there : Mount ℕ → Mount ℕ
    after_there m = record m { propagation = kind_there m }

    abbrev pub later : World ℕ
    later = with_changed world after master

    abbrev pub later_part : World ℕ
    later_part = with_changed part after_there master_there

    -- what is kept of a mount
    abbrev kept_as : Bool → Mount ℕ → Option (Mount ℕ)
    kept_as whole m = cond whole (Some m) (when (located m) (seen_by_descriptor m))

    kept_then : (m : Mount ℕ) → Among m world.mounts → then_some (kept m) (λ y. kept (after_there y)) ≡ kept (after m)
    kept_then m n = elim (cases_Bool (owned m || stood m)) [
      | inl e ↦ ap (λ c. then_some (kept_as c m) (λ y. kept (after_there y))) e
          ∙ ap (λ k. kept (record m { propagation = k })) (alike.types m n
          (⊎_elim inl (λ at. stands_on world names sealing.is m n at) (or_cases (owned m) (stood m) e)))
      | inr e ↦ ap (λ c. then_some (kept_as c m) (λ y. kept (after_there y))) e ∙ stub e (located m) refl
          ∙ sym (ap (λ c. cond c (Some (after m)) (when (located m) (seen_by_descriptor m))) e)
    ]
      where
        stub : (owned m || stood m) ≡ false → (a : Bool) → located m ≡ a
            → then_some (when (located m) (seen_by_descriptor m)) (λ y. kept (after_there y))
            ≡ when (located m) (seen_by_descriptor m)
        stub e a f = grind (arith, common_steps, or_parts)

    mounts_alike : filter_map kept (map after_there part.mounts) ≡ filter_map kept (map after world.mounts)
    mounts_alike = filter_map_map kept after_there part.mounts
        ∙ filter_map_then kept (λ y. kept (after_there y)) world.mounts
        ∙ filter_map_same (λ m. then_some (kept m) (λ y. kept (after_there y))) (λ m. kept (after m)) world.mounts
        kept_then ∙ sym (filter_map_map kept after world.mounts)

    -- each mount shows its filesystem
    same_shown : (number : ℕ) (mounts : List (Mount ℕ))
        → (mount_in nat_eq (map after mounts) number).filesystem ≡ (mount_in nat_eq mounts number).filesystem
    same_shown number [] = refl
    same_shown number (m ∷ rest) = grind (arith, common_steps, same_shown number rest)

    abbrev shows : Mount ℕ → ℕ
    shows m = m.filesystem

    abbrev shown_by : List (Mount ℕ) → Location ℕ → ℕ
    shown_by mounts l = (mount_in nat_eq mounts l.mount).filesystem

    directly_same : used_directly nat_eq later names ≡ used_directly nat_eq world names
    directly_same = cc (
      filter-map (is_own_mount nat_eq world names) {q = is_own_mount nat_eq world names} after world.mounts (λ m. refl),
      map_twice shows after owns,
      map_alike (shown_by (map after world.mounts)) (shown_by world.mounts) (locations theirs)
          (λ l m. same_shown l.mount world.mounts),
    )

    masters_alike : (group : ℕ) → list_any (is_member_of nat_eq group) (own_mounts nat_eq later names) ≡ true
        → master_there group ≡ master group
    masters_alike group h =
        grind (arith, common_steps, any_among, among-from_filter, among-from_map, mine, source_from_group, member_group)

    less : AreLess world names names later later_part
    less = record {
      tasks = same_members world names;
      mounts = ap (λ tasks. filter_map (keep world names tasks) (map after_there part.mounts))
          (same_members world names) ∙ mounts_alike;
      masters = masters_alike;
      namespaces = ap (λ tasks. filter (spaces tasks) part.namespaces) (same_members world names)
          ∙ filter_again (spaces theirs) world.namespaces;
      direct = λ n m. subst (Among n) directly_same m;
    }

    parts_later : part_of nat_eq later_part names ≡ part_of nat_eq later names
    parts_later = one_part sealing.is less

    masters_later : (y : Mount ℕ) → Among y later.mounts → owned y ≡ true
        → master_above later_part y ≡ master_above later y
    masters_later y m its =
        let from = among-from_map after world.mounts y m in
        rw from.2 (by from.0 (mine from.0 from.1 (ap owned (sym from.2) ∙ its)) (source_of (kind from.0)) refl)
      where
        by : (k : Mount ℕ) → Among k owns → (o : Option ℕ) → source_of (kind k) ≡ o
            → then_some o master_there ≡ then_some o master
        by k n None e = refl
        by k n (Some g) e = alike.masters k n g e

    pub types_left : (name : TaskName) → part_of nat_eq (numbers_raised nat_eq world name [] later) names
        ≡ part_of nat_eq (numbers_raised nat_eq part name [] later_part) names
    types_left = parts_left sealing later.mounts _ master master_there _ part.filesystems parts_later masters_later
