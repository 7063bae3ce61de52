-- How many members a group has, once one mount has another type.
use Rattle.std.proofs.Common.{◌≡◌, ◌+◌, ◌≤◌, ◌<◌, ℕ, Bool, true, false, cond, List, [], ◌∷◌, ◌||◌, Option, None, Some, filter_map, is_some, le-ltb, length, lt-ltb, ltb, ltb-false, ltb-true, true≢false, refl, sym, ap, ◌∙◌, arith, is_eq, nat_cmp, Ordering, Equal, Greater, Less, IfSome, if◌then◌else◌, unwrap_or}
use Rattle.vt_spec.proofs.Common.{AllByRecursion, holds_of, insert_entry, keys_of, list_any, lookup, match_ordering, nat_cmp_total, remove_entry, same_Some, then_some}
use Rattle.std.specs.BTreeMap.{is_at}
use Rattle.std.specs.List.Sorted.{IsStrictlySortedBy}
use Rattle.vt_location.specs.declared.mounts.Propagation.{Propagation}
use Rattle.vt_location.specs.declared.mounts.Propagation.TheVariants.{Private, Shared, Slave, Unbindable}
use Rattle.vt_location.specs.declared.numbers.GroupId.{GroupId}
use Rattle.vt_group.specs.ByNumber.{entry_of}
use Rattle.vt_group.specs.Indexed.{group_of_kind}
use Rattle.vt_group.specs.Sets.{same_group}
use Rattle.vt_group.specs.Types.{AreCounted, count_members, count_of, counts_group, is_in_group, one_in}
use Rattle.vt_group.proofs.IndexLemmas.{itself}
use Rattle.vt_group.proofs.SetsLemmas.{same_number}

none_below : {X : Type 0} (mount low : ℕ) (es : List (ℕ × X)) → nat_cmp mount low ≡ Less
    → AllByRecursion (λ other. nat_cmp low other ≡ Less) (keys_of es) → lookup (is_at (nat_cmp mount)) es ≡ None
none_below mount low [] less above = refl
none_below mount low (e ∷ es) less above = ap (λ o. cond (is_eq o) (Some e.1) (lookup (is_at (nat_cmp mount)) es))
    (nat_cmp_total.trans mount low e.0 less above.0) ∙ none_below mount low es less above.1

module _ (group : GroupId) where
  -- a mount that gets a type is counted for it, and no more for the one that it had
  pub counted_inserted : (mount : ℕ) (kind : Propagation) (es : List (ℕ × Propagation))
      → IsStrictlySortedBy nat_cmp (keys_of es)
      → count_members group (insert_entry nat_cmp es mount kind) + one_in group (lookup (is_at (nat_cmp mount)) es)
      ≡ count_members group es + one_in group (Some kind)
  unfolding IsStrictlySortedBy
  counted_inserted mount kind [] ordered = omega arith
  counted_inserted mount kind (e ∷ es) ordered = by (nat_cmp mount e.0) refl (counted_inserted mount kind es ordered.1)
    where
      by : (o : Ordering) → nat_cmp mount e.0 ≡ o
          → count_members group (insert_entry nat_cmp es mount kind) + one_in group (lookup (is_at (nat_cmp mount)) es)
          ≡ count_members group es + one_in group (Some kind)
          → count_members group (match_ordering o ((mount, kind) ∷ e ∷ es) ((e.0, kind) ∷ es)
          (e ∷ insert_entry nat_cmp es mount kind))
          + one_in group (cond (is_eq o) (Some e.1) (lookup (is_at (nat_cmp mount)) es))
          ≡ one_in group (Some e.1) + count_members group es + one_in group (Some kind)
      by Less less rest = omega (arith, ap (one_in group) (none_below mount e.0 es less ordered.0))
      by Equal same rest = omega arith
      by Greater more rest = omega (arith, rest)

  -- one that loses its type is not counted for it any more
  pub counted_removed : (mount : ℕ) (es : List (ℕ × Propagation))
      → count_members group (remove_entry (is_at (nat_cmp mount)) es)
      + one_in group (lookup (is_at (nat_cmp mount)) es) ≡ count_members group es
  counted_removed mount [] = refl
  counted_removed mount (e ∷ es) = by (is_at (nat_cmp mount) e.0) (counted_removed mount es)
    where
      by : (b : Bool) → count_members group (remove_entry (is_at (nat_cmp mount)) es)
          + one_in group (lookup (is_at (nat_cmp mount)) es) ≡ count_members group es
          → count_members group (cond b es (e ∷ remove_entry (is_at (nat_cmp mount)) es))
          + one_in group (cond b (Some e.1) (lookup (is_at (nat_cmp mount)) es))
          ≡ one_in group (Some e.1) + count_members group es
      by true rest = omega arith
      by false rest = omega (arith, rest)

  -- no group has more members than there are types
  pub counted_most : (es : List (ℕ × Propagation)) → count_members group es ≤ length es
  counted_most [] = omega arith
  counted_most (e ∷ es) = by (holds_of (same_group group) (group_of_kind e.1)) (counted_most es)
    where
      by : (b : Bool) → count_members group es ≤ length es
          → (if b then 1 else 0) + count_members group es ≤ length (e ∷ es)
      by true rest = omega (arith, rest)
      by false rest = omega (arith, rest)

  -- a group has members where more than none are counted
  pub counted_any : (es : List (ℕ × Propagation)) → ltb 0 (count_members group es) ≡ list_any (is_in_group group) es
  counted_any [] = refl
  counted_any (e ∷ es) = by (holds_of (same_group group) (group_of_kind e.1)) (counted_any es)
    where
      by : (b : Bool) → ltb 0 (count_members group es) ≡ list_any (is_in_group group) es
          → ltb 0 ((if b then 1 else 0) + count_members group es) ≡ (b || list_any (is_in_group group) es)
      by true rest = lt-ltb 0 (1 + count_members group es) (omega arith)
      by false rest =
          let same : 0 + count_members group es ≡ count_members group es = omega arith in ap (ltb 0) same ∙ rest

  -- a group has others beside one where more than that one are counted
  pub counted_others : (all : ℕ) (es : List (ℕ × Propagation)) → all ≡ count_members group es + 1
      → ltb 1 all ≡ list_any (is_in_group group) es
  counted_others all es is = by (ltb 0 (count_members group es)) refl ∙ counted_any es
    where
      by : (b : Bool) → ltb 0 (count_members group es) ≡ b → ltb 1 all ≡ b
      by true some = lt-ltb 1 all (omega (arith, is, ltb-true 0 (count_members group es) some))
      by false none = le-ltb 1 all (omega (arith, is, ltb-false 0 (count_members group es) none))

  -- a member is one
  pub counted_once : one_in group (Some (Shared group)) ≡ 1
  counted_once = ap {B = ℕ} (λ b. if b then 1 else 0) (itself group)

-- a type in a group is that of one member
pub one_own : (group : GroupId) (was : Option Propagation) → then_some was group_of_kind ≡ Some group
    → one_in group was ≡ 1
one_own group None is = absurd (true≢false (sym (ap is_some is)))
one_own group (Some (Shared own)) is = ap (λ id. one_in id (Some (Shared own))) (sym (same_Some own group is)) ∙ counted_once own
one_own group (Some (Slave master)) is = absurd (true≢false (sym (ap is_some is)))
one_own group (Some Private) is = absurd (true≢false (sym (ap is_some is)))
one_own group (Some Unbindable) is = absurd (true≢false (sym (ap is_some is)))

-- there are no more values than places
pub values_fewer : {V : Type 0} (places : List (ℕ × Option V)) → length (filter_map entry_of places) ≤ length places
values_fewer [] = omega arith
values_fewer (e ∷ places) = by e.1 (values_fewer places)
  where
    by : (value : Option _) → length (filter_map entry_of places) ≤ length places
        → length (filter_map entry_of ((e.0, value) ∷ places)) ≤ length (e ∷ places)
    by None rest = omega (arith, rest)
    by (Some value) rest = omega (arith, rest)

-- the counts of groups, once one of them changed

module _ (old new : List (GroupId × ℕ)) (group : GroupId) (found : Option ℕ)
    (updates : (at : GroupId) → lookup (same_group at) new
    ≡ cond (same_group group at) found (lookup (same_group at) old)) where
  -- the count of a group whose entry is written is the new one, and those of others stay
  pub count_updated : (at : GroupId) → count_of new at ≡ cond (same_group group at) (unwrap_or found 0) (count_of old at)
  count_updated at = ap (λ o. unwrap_or o 0) (updates at) ∙ by (same_group group at)
    where
      by : (b : Bool) → unwrap_or (cond b found (lookup (same_group at) old)) 0
          ≡ cond b (unwrap_or found 0) (count_of old at)
      by true = refl
      by false = refl

  -- an entry with the count that the group had changes none
  pub count_kept : unwrap_or found 0 ≡ count_of old group → (at : GroupId) → count_of new at ≡ count_of old at
  count_kept is at = count_updated at ∙ by (same_group group at) refl
    where
      by : (b : Bool) → same_group group at ≡ b → cond b (unwrap_or found 0) (count_of old at) ≡ count_of old at
      by true same = is ∙ ap (count_of old) (sym (same_number group at same))
      by false apart = refl

  -- groups keep their entries where the entry is written
  pub entries_kept : is_some found ≡ true → (at : GroupId) → counts_group old at ≡ true → counts_group new at ≡ true
  entries_kept is at there = ap is_some (updates at) ∙ by (same_group group at)
    where
      by : (b : Bool) → is_some (cond b found (lookup (same_group at) old)) ≡ true
      by true = is
      by false = there

-- the counts of groups, and their members

-- what holds of a group, if any, holds of it by what follows from it
pub if_some_so : {P Q : GroupId → Type 0} (found : Option GroupId) → ((group : GroupId) → P group → Q group)
    → IfSome found P → IfSome found Q
if_some_so None so holds = tt
if_some_so (Some group) so holds = so group holds

module _ (counts : List (GroupId × ℕ)) (es : List (ℕ × Propagation)) (counted : AreCounted counts es) (mount : ℕ) where
  -- the group that a mount is a member of has one
  pub member_counted : (was : Option Propagation) → was ≡ lookup (is_at (nat_cmp mount)) es
      → IfSome (then_some was group_of_kind) (λ group. 0 < count_of counts group)
  member_counted None is = tt
  member_counted (Some (Shared group)) is = omega (
    arith,
    counted group,
    counted_removed group mount es,
    ap (one_in group) is,
    counted_once group,
  )
  member_counted (Some (Slave master)) is = tt
  member_counted (Some Private) is = tt
  member_counted (Some Unbindable) is = tt

  -- a group that gets a member has no more than there are types then
  pub member_fits : (kind : Propagation) (was : Option Propagation) → was ≡ lookup (is_at (nat_cmp mount)) es
      → IsStrictlySortedBy nat_cmp (keys_of es) → (left : List (GroupId × ℕ))
      → ((group : GroupId) → count_of left group + one_in group was ≡ count_of counts group)
      → (most : ℕ) → length (insert_entry nat_cmp es mount kind) ≤ most
      → IfSome (group_of_kind kind) (λ group. count_of left group < most)
  member_fits (Shared group) was is ordered left taken most fits = omega (
    arith,
    counted group,
    counted_inserted group mount (Shared group) es ordered,
    ap (one_in group) is,
    counted_once group,
    taken group,
    counted_most group (insert_entry nat_cmp es mount (Shared group)),
    fits,
  )
  member_fits (Slave master) was is ordered left taken most fits = tt
  member_fits Private was is ordered left taken most fits = tt
  member_fits Unbindable was is ordered left taken most fits = tt
