-- Mounts that are listed.
use Rattle.std.proofs.Common.{◌≡◌, ℕ, Bool, true, false, cond, ◌||◌, List, [], ◌∷◌, map, nat_eq, Option, None, Some, is_some, refl, sym, ap, ◌∙◌, true≢false, arith, eq-eqb, option_map, eqb-true, nat_cmp, unwrap_or}
use Rattle.vt_spec.proofs.Common.{Private, Propagation, group_of, holds_of, is_among, list_any, lookup, same_Some, source_of}
use Rattle.std.specs.BTreeMap.{is_at}
use Rattle.vt_location.specs.declared.mounts.Propagation.{Propagation as Kept}
use Rattle.vt_location.specs.declared.mounts.Propagation.TheVariants.{Private as Unshared, Shared, Slave, Unbindable}
use Rattle.vt_location.specs.declared.numbers.GroupId.{GroupId}
use Rattle.vt_location.specs.declared.numbers.MountId.{MountId}
use Rattle.vt_location.specs.MountValue.{propagation_of}
use Rattle.vt_group.specs.Indexed.{has_source}
use Rattle.vt_group.specs.Steps.{numbered_peer}
use Rattle.vt_location.specs.Numbers.{counted}
use Rattle.vt_group.proofs.CountLemmas.{at_count, lookup-numbered}
use Rattle.vt_location.proofs.NumberLemmas.{counted_test}

-- a number under which something is found is that of a count
pub found_count : {V W : Type 0} (f : V → W) (number : ℕ) (es : List (ℕ × V))
    → is_some (lookup (nat_eq number) (map (λ (e : ℕ × V). (counted e.0, f e.1)) es)) ≡ true
    → (count : ℕ) × (number ≡ counted count) × (is_some (lookup (is_at (nat_cmp count)) es) ≡ true)
found_count f number [] found = absurd (true≢false (sym found))
found_count {V} f number (e ∷ es) found = by (nat_eq number (counted e.0)) refl found (found_count f number es)
  where
    some_either : (b : Bool) (rest : Option V) → is_some rest ≡ true → is_some (cond b (Some e.1) rest) ≡ true
    some_either true rest some = refl
    some_either false rest some = some

    by : (b : Bool) → nat_eq number (counted e.0) ≡ b
        → is_some (cond b (Some (f e.1)) (lookup (nat_eq number) (map (λ (e : ℕ × V). (counted e.0, f e.1)) es))) ≡ true
        → (is_some (lookup (nat_eq number) (map (λ (e : ℕ × V). (counted e.0, f e.1)) es)) ≡ true
        → (count : ℕ) × (number ≡ counted count) × (is_some (lookup (is_at (nat_cmp count)) es) ≡ true))
        → (count : ℕ) × (number ≡ counted count) × (is_some (lookup (is_at (nat_cmp count)) (e ∷ es)) ≡ true)
    by true is some later = (
      e.0,
      eqb-true number (counted e.0) is,
      ap (λ b. is_some (cond b (Some e.1) (lookup (is_at (nat_cmp e.0)) es))) (at_count e.0 e.0
          ∙ eq-eqb (counted e.0) (counted e.0) refl),
    )
    by false is some later =
        let further = later some in (
          further.0,
          further.1,
          some_either (is_at (nat_cmp further.0) e.0) (lookup (is_at (nat_cmp further.0)) es) further.2,
        )

-- a mount that is listed by its count is among the numbers
pub listed_among : (count : ℕ) (ids : List MountId) → list_any (λ id. nat_eq count id.count) ids ≡ true
    → is_among nat_eq (counted count) (map (λ id. counted id.count) ids) ≡ true
listed_among count [] listed = listed
listed_among count (id ∷ ids) listed = (λ i. counted_test count id.count i || among ids i) ∙ listed
  where
    among : (ids : List MountId) → is_among nat_eq (counted count) (map (λ id. counted id.count) ids)
        ≡ list_any (λ id. nat_eq count id.count) ids
    among [] = refl
    among (other ∷ rest) = λ i. counted_test count other.count i || among rest i

-- a type with a source is found
pub sourced_found : (source : ℕ) (found : Option (Propagation ℕ))
    → source_of (unwrap_or found Private) ≡ Some source → is_some found ≡ true
sourced_found source None is = absurd (true≢false (sym (ap is_some is)))
sourced_found source (Some kind) is = refl

-- a member of a group has an entry
pub member_found : (group : ℕ) (found : Option (Propagation ℕ))
    → holds_of (nat_eq group) (group_of (unwrap_or found Private)) ≡ true → is_some found ≡ true
member_found group None is = absurd (true≢false (sym is))
member_found group (Some kind) is = refl

-- the type that is kept of a mount
pub found_kind : (number : ℕ) (es : List (ℕ × Kept)) → is_some (lookup (nat_eq number) (map numbered_peer es)) ≡ true
    → (count : ℕ) × (kind : Kept) × (number ≡ counted count)
    × (unwrap_or (lookup (nat_eq number) (map numbered_peer es)) Private ≡ propagation_of kind)
    × (lookup (is_at (nat_cmp count)) es ≡ Some kind)
found_kind number es some =
    let at = found_count propagation_of number es some in
    by at.0 at.1 (lookup (is_at (nat_cmp at.0)) es) refl at.2
  where
    by : (count : ℕ) → number ≡ counted count → (found : Option Kept) → lookup (is_at (nat_cmp count)) es ≡ found
        → is_some found ≡ true → (count : ℕ) × (kind : Kept) × (number ≡ counted count)
        × (unwrap_or (lookup (nat_eq number) (map numbered_peer es)) Private ≡ propagation_of kind)
        × (lookup (is_at (nat_cmp count)) es ≡ Some kind)
    by count same None is some = absurd (true≢false (sym some))
    by count same (Some kind) is some = (
      count,
      kind,
      same,
      ap (λ n. unwrap_or (lookup (nat_eq n) (map numbered_peer es)) Private) same
          ∙ ap (λ o. unwrap_or o Private) (lookup-numbered propagation_of count es ∙ ap (option_map propagation_of) is),
      is,
    )

-- counts with one number are found to be one
pub counted_same : (a b : ℕ) → counted a ≡ counted b → nat_eq b a ≡ true
counted_same a b e = eq-eqb b a (omega (arith, e))

-- a type whose source is a group names it
pub source_has : (group : GroupId) (kind : Kept) → source_of (propagation_of kind) ≡ Some (counted group.count)
    → has_source group kind ≡ true
source_has group (Shared own) is = counted_same own.count group.count (same_Some (counted own.count) (counted group.count) is)
source_has group (Slave master) is =
    counted_same master.count group.count (same_Some (counted master.count) (counted group.count) is)
source_has group Unshared is = absurd (true≢false (sym (ap is_some is)))
source_has group Unbindable is = absurd (true≢false (sym (ap is_some is)))
