use Rattle.std.proofs.Common.{arith, length, ◌≡◌, ℕ, Bool, true, false, cond, List, [], ◌∷◌, ◌||◌, map, nat_cmp, nat_eq, refl, rules, sym, ap, subst, ◌∙◌, eqb-true, Less}
use Rattle.vt_spec.proofs.Common.{AllByRecursion, common_steps, answers_always, list_any-IsPermutation}
use Rattle.std.proofs.lemmas.List.Kept.{IsStrictlySortedBy-dedup}
use Rattle.std.specs.List.{dedup, dedup_from, refill}
use Rattle.std.specs.List.Sorted.{IsStrictlySortedBy}
use Rattle.vt_location.specs.Numbers.{same_id}
use Rattle.vt_location.specs.InOrder.{cmp_by}
use Rattle.vt_location.specs.declared.numbers.MountId.{MountId}
use Rattle.vt_location.proofs.OrderLemmas.{cmp_total, tied}
use Rattle.vt_group.specs.Receiving.{is_noted}
use Rattle.vt_group.proofs.groups.put_in_order.Goals as goal

abbrev count_of : MountId → ℕ
count_of id = id.count

-- the counts of mounts in order ascend
counts_ascend : (ids : List MountId) → IsStrictlySortedBy (cmp_by count_of) ids
    → IsStrictlySortedBy nat_cmp (map count_of ids)
unfolding IsStrictlySortedBy
counts_ascend [] sorted = tt
counts_ascend (id ∷ ids) sorted = (above ids sorted.0, counts_ascend ids sorted.1)
  where
    above : (others : List MountId) → AllByRecursion (λ other. cmp_by count_of id other ≡ Less) others
        → AllByRecursion (λ other. nat_cmp id.count other ≡ Less) (map count_of others)
    above [] all = tt
    above (other ∷ others) all = (all.0, above others all.1)

-- what is dropped is there once more
noted_from : (count : ℕ) (id : MountId) (ids : List MountId)
    → is_noted (dedup_from same_id id ids) count ≡ (nat_eq count id.count || is_noted ids count)
noted_from count id [] = refl
noted_from count id (other ∷ ids) = by (same_id other id) refl (noted_from count id ids) (noted_from count other ids)
  where
    again : (b rest : Bool) → (b || rest) ≡ (b || (b || rest))
    again true rest = refl
    again false rest = refl

    by : (b : Bool) → same_id other id ≡ b
        → is_noted (dedup_from same_id id ids) count ≡ (nat_eq count id.count || is_noted ids count)
        → is_noted (dedup_from same_id other ids) count ≡ (nat_eq count other.count || is_noted ids count)
        → is_noted (cond b (dedup_from same_id id ids) (id ∷ dedup_from same_id other ids)) count
        ≡ (nat_eq count id.count || (nat_eq count other.count || is_noted ids count))
    by true same rest later = rest ∙ again (nat_eq count id.count) (is_noted ids count)
        ∙ ap (λ n. nat_eq count id.count || (nat_eq count n || is_noted ids count)) (sym (eqb-true other.count id.count same))
    by false apart rest later = ap (λ b. nat_eq count id.count || b) later

noted_once : (count : ℕ) (ids : List MountId) → is_noted (dedup same_id ids) count ≡ is_noted ids count
noted_once count [] = refl
noted_once count (id ∷ ids) = noted_from count id ids

-- a list that was written as a slice of the same length
refilled : (old new : List MountId) → length new ≡ length old → refill (length old) old new ≡ new
refilled old new same = grind (arith, common_steps)

-- what is left, from the sorted list
left : (c : goal.After-dedup) → c.dedup.new.self.items ≡ dedup same_id c.sort_unstable_by_key.new.self
left c = c.dedup.ensures.items ∙ ap (dedup same_id) (refilled c.args.mounts.now.items c.sort_unstable_by_key.new.self
    (c.sort_unstable_by_key.ensures.len ∙ ap length c.deref_mut.ensures.value))

pub returns-clause-ordered : goal.returns-clause-ordered
returns-clause-ordered c =
    let by_count = c.sort_unstable_by_key.ensures.sorted count_of (answers_always _ _ _ (λ f a r g called. search rules)) in
    subst (λ ids. IsStrictlySortedBy nat_cmp (map count_of ids)) (sym (left c))
    (counts_ascend (dedup same_id c.sort_unstable_by_key.new.self)
    (IsStrictlySortedBy-dedup (cmp_total count_of) (λ x y. sym (tied count_of x y))
    c.sort_unstable_by_key.new.self by_count))

pub returns-clause-same : goal.returns-clause-same
returns-clause-same c count = ap (λ ids. is_noted ids count) (left c)
    ∙ noted_once count c.sort_unstable_by_key.new.self
    ∙ sym (list_any-IsPermutation (λ mount. nat_eq count mount.count) c.deref_mut.result.now
    c.sort_unstable_by_key.new.self c.sort_unstable_by_key.ensures.permutation)
    ∙ ap (λ ids. is_noted ids count) c.deref_mut.ensures.value
