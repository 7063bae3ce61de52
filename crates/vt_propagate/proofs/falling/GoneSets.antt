-- A set of the mounts that go.
use Rattle.std.proofs.Common.{◌≡◌, ℕ, true, false, cond, List, [], ◌∷◌, ◌+◌, ◌<◌, ◌≤◌, ◌++◌, ◌||◌, length-append, sym, flat_map, map, nat_eq, refl, ap, ◌∙◌, get_or, length, take, filter_map, arith}
use Rattle.vt_spec.proofs.Common.{Mount, common_steps, filter_none, list_any, list_any-append, map-append, or_false_left, or_false_right, stands_on}
use Rattle.vt_location.specs.declared.numbers.MountId.{MountId}
use Rattle.vt_location.specs.Numbers.{counted, same_id}
use Rattle.vt_propagate.specs.Falling.{HasJust, HasMore, IsKnown, point_left_of, points_left_on}
use Rattle.vt_propagate.proofs.Found.{counts}

-- one more mount of a list is noted
pub going_more : (ids : List MountId) (i : ℕ) (d id : MountId) → i < length ids
    → cond (nat_eq (get_or ids i d).count id.count) true (list_any (nat_eq (counted id.count)) (counts (take i ids)))
    ≡ list_any (nat_eq (counted id.count)) (counts (take (i + 1) ids))
going_more ids i d id within = grind (arith, common_steps, list_any-append, map-append)

-- what has no child leaves no mount behind
pub none_left : (mounts : List (Mount ℕ)) (gone numbers : List ℕ)
    → list_any (λ number. list_any (stands_on nat_eq number) mounts) numbers ≡ false
    → flat_map (points_left_on mounts gone) numbers ≡ []
none_left mounts gone [] none = refl
none_left mounts gone (number ∷ numbers) none =
    ap (λ list. filter_map (point_left_of mounts gone) (map (λ child. child.number) list)
    ++ flat_map (points_left_on mounts gone) numbers)
    (filter_none (stands_on nat_eq number) mounts (or_false_left _ _ none))
    ∙ none_left mounts gone numbers (or_false_right _ _ none)

-- at first there is none
pub known_none : (keys ids : List MountId) → keys ≡ [] → ids ≡ [] → IsKnown keys ids
known_none keys ids none is = record {
  few = λ _. none;
  many = λ large. absurd (omega (arith, large, ap length is));
}

-- a few mounts stay a few
pub known_few : (keys ids more new : List MountId) → new ≡ ids ++ more → length new ≤ 8 → IsKnown keys ids
    → IsKnown keys new
known_few keys ids more new is few known = record {
  few = λ _. known.few (omega (arith, ap length is, length-append ids more, few));
  many = λ large. absurd (omega (arith, few, large));
}

-- all are noted once they are more
pub known_all : (old keys new : List MountId) → old ≡ [] → HasMore old new keys → 8 < length new → IsKnown keys new
known_all old keys new none more large = record {
  few = λ few. absurd (omega (arith, few, large));
  many = λ _ id. more id
      ∙ ap (λ list. list_any (same_id id) list || list_any (nat_eq (counted id.count)) (counts new)) none;
}

-- and then those that are more
pub known_more : (old keys ids more new : List MountId) → new ≡ ids ++ more → HasJust old (counts ids)
    → HasMore old more keys → 8 < length new → IsKnown keys new
known_more old keys ids more new is just added large = record {
  few = λ few. absurd (omega (arith, few, large));
  many = λ _ id. added id ∙ ap (λ b. b || list_any (nat_eq (counted id.count)) (counts more)) (just id)
      ∙ sym (list_any-append (nat_eq (counted id.count)) (counts ids) (counts more))
      ∙ ap (list_any (nat_eq (counted id.count)))
      (sym (map-append (λ (id : MountId). counted id.count) ids more) ∙ ap counts (sym is));
}
