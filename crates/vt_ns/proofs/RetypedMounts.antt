-- Mounts that get types, and leave their groups.
use Rattle.std.proofs.Common.{None, ◌≡◌, ◌<◌, refl, sym, ap, subst, ◌∙◌, ℕ, ◌+◌, Bool, true, false, nat_eq, List, [], ◌∷◌, ◌++◌, map, get_or, length, take, arith, Result, Ok, Err, IfOk, OnOk, if◌then◌else◌}
use Rattle.vt_spec.proofs.Common.{AllocError, Mount, Propagation, ToShared, ToSlave, TypeWord, Unbindable, World, is_among, is_unbindable, list_any, map-append, map_alike, map_twice, or_parts, retyped as policy_retyped, retyped_mount, source_of, take_more, type_after, common_steps}
use Rattle.vt_ns.proofs.Common.{Grouping, IsSeen, MountEntry, all_from_among, among-from_map, changed, counted, counts_from, has_ordered, mounts_in, numbers_of, retyped}
use Rattle.vt_group.specs.Grouping.{propagation_in}
use Rattle.vt_group.specs.Together.{Retypes, Shares}
use Rattle.vt_group.proofs.Together.{named_numbers}
use Rattle.vt_location.specs.declared.numbers.MountId.{MountId}
use Rattle.vt_retype.specs.Retyping.{FollowsTypes, FollowsTypesLeft, HaveNoSource, shared_by, typed_entry, with_kind}
use Rattle.vt_propagate.proofs.Seeing.{are_typed, retyping_is_seen, sharing_is_seen, slaves_are_seen}
use Rattle.vt_mounting.proofs.attach.CopiesAscend.{place_first, place_in, place_later}
use Rattle.vt_ns.specs.Retyped.{IsRetyped, counted_after, set_if, with_counts}
use Rattle.vt_laws_mounts.specs.Mounts.Attaching.{OneNumberAMount}
use Rattle.vt_laws_mounts.specs.Mounts.Receivers.{AllGroupsLive}

-- One after the other

module _ (numbers : List ℕ) (kind : Propagation ℕ) (number : ℕ) where
  one_more : (entry : MountEntry)
      → (if nat_eq number entry.mount.number then with_kind kind (retyped (set_if numbers kind) entry)
      else retyped (set_if numbers kind) entry) ≡ retyped (set_if (numbers ++ number ∷ []) kind) entry
  one_more entry = grind (arith, common_steps)

  all_more : (entries : List MountEntry) → changed number (with_kind kind) (map (retyped (set_if numbers kind)) entries)
      ≡ map (retyped (set_if (numbers ++ number ∷ []) kind)) entries
  all_more [] = refl
  all_more (entry ∷ entries) = λ i. one_more entry i ∷ all_more entries i

-- one mount more of a list gets the type
pub set_next : (old now new : List MountEntry) (kind : Propagation ℕ) (ids : List MountId) (i : ℕ) (d : MountId)
    → i < length ids → new ≡ changed (counted (get_or ids i d).count) (with_kind kind) now
    → now ≡ map (retyped (set_if (map (λ (id : MountId). counted id.count) (take i ids)) kind)) old
    → new ≡ map (retyped (set_if (map (λ (id : MountId). counted id.count) (take (i + 1) ids)) kind)) old
set_next old now new kind ids i d less next so_far = next
    ∙ ap (changed (counted (get_or ids i d).count) (with_kind kind)) so_far
    ∙ all_more (map (λ (id : MountId). counted id.count) (take i ids)) kind (counted (get_or ids i d).count) old
    ∙ ap (λ numbers. map (retyped (set_if numbers kind)) old)
    (sym (map-append (λ (id : MountId). counted id.count) (take i ids) (get_or ids i d ∷ []))
    ∙ ap (map (λ (id : MountId). counted id.count)) (sym (take_more ids i d less)))

-- at first none has got it
pub none_set : (kind : Propagation ℕ) (entries : List MountEntry) → entries ≡ map (retyped (set_if [] kind)) entries
none_set kind [] = refl
none_set kind (entry ∷ entries) = ap (λ rest. entry ∷ rest) (none_set kind entries)

-- With their groups

abbrev told : Grouping → ℕ → Propagation ℕ → Propagation ℕ
told now number kind = if is_unbindable kind then Unbindable else propagation_in now number

-- mounts that become slaves have the types of the groups that are left
pub slaves_retyped : (next : ℕ) (numbers : List ℕ) (before now : Grouping) (old new : List MountEntry)
    → Retypes before now ToSlave numbers
    → FollowsTypes before now [] old new → IsRetyped ToSlave next next numbers before now old new
slaves_retyped next numbers before now old new retypes follows = record {
  counts = refl;
  seen = λ world group named seen there same lacks counted.
      slaves_are_seen world group named old new before now seen there lacks
      (subst (Retypes before now ToSlave) (sym same) retypes) follows;
  kinds = λ world seen. (
    told now,
    follows (are_typed world old before seen [] old (λ mount. mount) (seen.mounts ∙ unchanged world.mounts)
        (λ mount apart. (refl, refl))),
  );
}
  where
    unchanged : (mounts : List (Mount ℕ)) → mounts ≡ map (λ (mount : Mount ℕ). mount) mounts
    unchanged [] = refl
    unchanged (mount ∷ mounts) = ap (λ rest. mount ∷ rest) (unchanged mounts)

-- the type is set before the mounts leave
pub set_retyped : (word : TypeWord) (kind : Propagation ℕ)
    → ((new : ℕ) (old : Propagation ℕ) → type_after new word old ≡ kind)
    → (next : ℕ) (numbers : List ℕ) → counted_after word next numbers ≡ next
    → (before now : Grouping) (old left new : List MountEntry)
    → source_of kind ≡ None → left ≡ map (retyped (set_if numbers kind)) old → Retypes before now word numbers
    → FollowsTypesLeft before now numbers left new → IsRetyped word next next numbers before now old new
set_retyped word kind sets next numbers none before now old left new alone is retypes follows_left = record {
  counts = sym none;
  seen = λ world group named seen there same lacks counted.
      retyping_is_seen world group word named old left new before now seen there lacks
      (all_set world seen ∙ ap (λ some. map (set_mount some) world.mounts) (sym same)
      ∙ named_set world seen.living group named world.mounts) (subst (Retypes before now word) (sym same) retypes)
      (subst (λ some. FollowsTypes before now some left new) (sym same) (follows world seen));
  kinds = λ world seen. (
    (λ number own. told now number (set_if numbers kind number own)),
    follows world seen (are_typed world old before seen numbers left (set_mount numbers) (all_set world seen) kept)
        ∙ ap (map (typed_entry now)) is ∙ map_twice (typed_entry now) (retyped (set_if numbers kind)) old,
  );
}
  where
    follows : (world : World ℕ) → IsSeen world old before → FollowsTypes before now numbers left new
    follows world seen = follows_left (has_ordered world before seen.groups) (subst (HaveNoSource numbers) (sym is)
        (all_from_among (λ (entry : MountEntry). is_among nat_eq entry.mount.number numbers ≡ true
        → source_of entry.mount.propagation ≡ None) (map (retyped (set_if numbers kind)) old) (λ entry m.
        let from = among-from_map (retyped (set_if numbers kind)) old entry m in
        subst (λ (one : MountEntry). is_among nat_eq one.mount.number numbers ≡ true
        → source_of one.mount.propagation ≡ None) (sym from.2)
        (λ there. ap (λ b. source_of (if b then kind else from.0.mount.propagation)) there ∙ alone))))

    set_mount : List ℕ → Mount ℕ → Mount ℕ
    set_mount some mount = record mount { propagation = set_if some kind mount.number mount.propagation }

    all_set : (world : World ℕ) → IsSeen world old before → mounts_in left ≡ map (set_mount numbers) world.mounts
    all_set world seen = grind (arith, common_steps, map_twice, map)

    named_set : (world : World ℕ) → AllGroupsLive world → (group : ℕ → ℕ) (named mounts : List (Mount ℕ))
        → map (set_mount (numbers_of named)) mounts ≡ map (retyped_mount nat_eq group word named) mounts
    named_set world live group named [] = refl
    named_set world live group named (mount ∷ rest) =
        λ i. (ap (λ b. record mount { propagation = if b then kind else mount.propagation })
        (sym (named_numbers world live mount.number named))
        ∙ by (list_any (λ (other : Mount ℕ). nat_eq mount.number other.number) named)) i
        ∷ named_set world live group named rest i
      where
        by : (b : Bool) → record mount { propagation = if b then kind else mount.propagation }
            ≡ (if b then record mount { propagation = type_after (group mount.number) word mount.propagation }
            else mount)
        by b = grind (arith, common_steps)

    kept : (mount : Mount ℕ) → is_among nat_eq (set_mount numbers mount).number numbers ≡ false
        → ((set_mount numbers mount).number ≡ mount.number)
        × ((set_mount numbers mount).propagation ≡ mount.propagation)
    kept mount apart = (refl, ap (λ b. if b then kind else mount.propagation) apart)

-- each shared mount has the type that the groups tell
pub shared_retyped : (next later : ℕ) (numbers : List ℕ) (before now : Grouping) (old new : List MountEntry)
    → later ≡ next + length numbers → Shares before now (with_counts next numbers)
    → new ≡ map (shared_by now numbers) old → IsRetyped ToShared next later numbers before now old new
shared_retyped next later numbers before now old new counts shares is = record {
  counts = counts;
  seen = λ world group named seen there same lacks counted.
      subst (λ all. IsSeen (policy_retyped nat_eq world group ToShared named) all now)
      (ap (λ some. map (shared_by now some) old) same ∙ sym is)
      (sharing_is_seen world group named old before now seen there lacks
      (subst (Shares before now) (sym (pairs group named same ∙ counted)) shares));
  kinds = λ world seen. (shared_kind, is ∙ shares_each old);
}
  where
    numbered : (ℕ → ℕ) → ℕ → ℕ × ℕ
    numbered group number = (number, group number)

    pairs : (group : ℕ → ℕ) (named : List (Mount ℕ)) → numbers_of named ≡ numbers
        → map {B = ℕ × ℕ} (λ (mount : Mount ℕ). (mount.number, group mount.number)) named
        ≡ map {B = ℕ × ℕ} (λ number. (number, group number)) numbers
    pairs group named same = cc (map_twice (numbered group) (λ (mount : Mount ℕ). mount.number) named)

    shared_kind : ℕ → Propagation ℕ → Propagation ℕ
    shared_kind number kind = if is_among nat_eq number numbers then propagation_in now number else kind

    shares_each : (entries : List MountEntry) → map (shared_by now numbers) entries ≡ map (retyped shared_kind) entries
    shares_each [] = refl
    shares_each (entry ∷ entries) = grind (arith, common_steps)

-- mounts become shared where the step succeeds
pub shared_if_ok : (result : Result ℕ AllocError) (next : ℕ) (numbers : List ℕ) (before now : Grouping)
    (old new : List MountEntry)
    → OnOk result (Shares before now (with_counts next numbers)) → OnOk result (new ≡ map (shared_by now numbers) old)
    → (many : ℕ) → many ≡ length numbers → IfOk result (λ later. later ≡ next + many)
    → IfOk result (λ later. IsRetyped ToShared next later numbers before now old new)
shared_if_ok (Ok later) next numbers before now old new shares is many all counts =
    shared_retyped next later numbers before now old new (counts ∙ ap (λ n. next + n) all) shares is
shared_if_ok (Err refused) next numbers before now old new shares is many all counts = tt

-- New groups

-- each named mount has a number for its group
pub each_numbered : (next : ℕ) (numbers : List ℕ) → map (λ (pair : ℕ × ℕ). pair.0) (with_counts next numbers) ≡ numbers
each_numbered next [] = refl
each_numbered next (number ∷ rest) = ap (λ others. number ∷ others) (each_numbered (next + 1) rest)

-- Mounts with different numbers have their new groups counted in their order.
pub places_are_counted : (next k : ℕ) (mounts : List (Mount ℕ)) → OneNumberAMount mounts
    → map {B = ℕ × ℕ} (λ (mount : Mount ℕ). (mount.number, counts_from next (place_in k mounts mount.number))) mounts
    ≡ with_counts (next + k) (numbers_of mounts)
places_are_counted next k [] once = refl
places_are_counted next k (first ∷ rest) once = λ i. (first.number, counts_from next (place_first k first rest i))
    ∷ others (places_are_counted next (k + 1) rest
    (or_parts (list_any (λ (other : Mount ℕ). nat_eq first.number other.number) rest) _ once).1) i
  where
    at : ℕ → List (Mount ℕ) → Mount ℕ → ℕ × ℕ
    at j list mount = (mount.number, counts_from next (place_in j list mount.number))

    pair : Mount ℕ → ℕ → ℕ × ℕ
    pair mount place = (mount.number, counts_from next place)

    others : map (at (k + 1) rest) rest ≡ with_counts (next + (k + 1)) (numbers_of rest)
        → map (at k (first ∷ rest)) rest ≡ with_counts (next + k + 1) (numbers_of rest)
    others later = grind (arith, common_steps, map_alike, place_later)
