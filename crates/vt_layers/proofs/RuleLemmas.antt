-- The rules of layers, as code checks them together.
use Rattle.std.proofs.Common.{◌≡◌, ◌<◌, ◌≤◌, ◌+◌, ◌-◌, ℕ, Bool, true, false, not, ◌&&◌, ◌||◌, List, [], ◌∷◌, ◌++◌, Result, Some, is_some, length, take, drop, get_or, map, nat_eq, option_map, refl, sym, ap, ◌∙◌, nat_lt, option_to_list}
use Rattle.vt_spec.proofs.Common.{Layer, LayerLocations, Location, Looks, Rules, Task, any_pair, at_drop_all, at_drop_more, has_single_lower, is_empty_list, is_overlay_at, is_read_only, layer_at, layer_locations, layer_rules, list_any, list_any-append, most_lowers, one_under_another, overlay_at, take_rest, unless}
use Rattle.vt_spec.specs.declared.errors.Deny.{Deny}
use Rattle.vt_spec.specs.declared.errors.Rule.TheVariants.{O2, O3, O5}
use Rattle.vt_spec.specs.Machine.Rules.Mounting.{lie_apart, upper_and_work_locations, upper_overlaps_work}
use Rattle.vt_location.specs.Locations.{location_of}
use Rattle.vt_layers.specs.LayerConditions.{checked_rules, overlap_lowers, some_overlaid}
use Rattle.vt_layers.specs.LayersValue.{lowers_of}
use Rattle.vt_layers.specs.declared.walks.Lower.{Lower}

-- a test of what a list is mapped to
pub list_any-map : {A B : Type 0} (test : B → Bool) (f : A → B) (list : List A)
    → list_any (λ a. test (f a)) list ≡ list_any test (map f list)
list_any-map test f [] = refl
list_any-map test f (a ∷ rest) = ap (λ more. test (f a) || more) (list_any-map test f rest)

-- rows of one rule are one row
joined_rows : {A : Type 0} (e1 e2 e3 e4 e5 e6 e7 e8 : Bool) (rows : Rules) (answer : Result A Deny)
    → unless ((e1 || e2 || e3 || e4, O2) ∷ (e5, O2) ∷ (e3 || e6 || e7 || e8, O2) ∷ rows) answer
    ≡ unless ((e1, O2) ∷ (e2, O2) ∷ (e3, O2) ∷ (e4, O2) ∷ (e5, O2) ∷ (e6, O2) ∷ (e7, O2) ∷ (e8, O2) ∷ rows) answer
joined_rows true e2 e3 e4 e5 e6 e7 e8 rows answer = refl
joined_rows false true e3 e4 e5 e6 e7 e8 rows answer = refl
joined_rows false false true e4 e5 e6 e7 e8 rows answer = refl
joined_rows false false false true e5 e6 e7 e8 rows answer = refl
joined_rows false false false false true e6 e7 e8 rows answer = refl
joined_rows false false false false false true e7 e8 rows answer = refl
joined_rows false false false false false false true e8 rows answer = refl
joined_rows false false false false false false false true rows answer = refl
joined_rows false false false false false false false false rows answer = refl

module _ (looks : Looks ℕ) (task : Task ℕ) where
  any_of_three : {X : Type 0} (test : X → Bool) (xs ys zs : List X)
      → (list_any test xs || list_any test ys || list_any test zs) ≡ list_any test (xs ++ ys ++ zs)
  any_of_three test xs ys zs =
      sym (list_any-append test (xs ++ ys) zs ∙ ap (λ two. two || list_any test zs) (list_any-append test xs ys))

  pub checked-rules : {A : Type 0} (layers : LayerLocations ℕ) (answer : Result A Deny)
      → unless (checked_rules looks task layers) answer
      ≡ unless (layer_rules nat_eq looks layers (overlay_at looks task layers)) answer
  checked-rules layers answer =
      let overlay = overlay_at looks task layers in
      let lowers = map (layer_at looks) layers.lowers in
      let uppers = option_to_list (option_map (layer_at looks) layers.upper) in
      let works = option_to_list (option_map (layer_at looks) layers.work) in
      let overlaps = looks.overlaps_one_of lowers in
      let e1 = is_empty_list layers.lowers in
      let e2 = has_single_lower layers.lowers && not (is_some layers.upper) in
      let e3 = is_some layers.upper && not (is_some layers.work) in
      let e4 = nat_lt most_lowers (length layers.lowers) in
      let e6 = lie_apart nat_eq looks overlay in
      let e7 = upper_overlaps_work looks overlay in
      let e8 = list_any (is_read_only looks) (upper_and_work_locations layers) in
      let ends : Bool → Rules = λ upward.
      (looks.is_in_use overlay, O3) ∷ (any_pair (one_under_another nat_eq looks) lowers, O5) ∷ (upward, O5) ∷ [] in
      let rows : Bool → Bool → Rules = λ merged. λ upward.
      (e1, O2) ∷ (e2, O2) ∷ (e3, O2) ∷ (e4, O2) ∷ (merged, O2) ∷ (e6, O2) ∷ (e7, O2) ∷ (e8, O2) ∷ ends upward in
      joined_rows e1 e2 e3 e4 (some_overlaid looks layers) e6 e7 e8 (ends (overlap_lowers looks layers)) answer
      ∙ ap (λ merged. unless (rows merged (overlap_lowers looks layers)) answer)
      (any_of_three (is_overlay_at looks) layers.lowers (option_to_list layers.upper) (option_to_list layers.work))
      ∙ ap (λ upward. unless (rows (list_any (is_overlay_at looks) (layer_locations layers)) upward) answer)
      (sym (list_any-append overlaps uppers works))

-- a layer is not in an overlay where none is
neither : (a b : Bool) → (a || b) ≡ false → (a ≡ false) × (b ≡ false)
neither true b e = absurd cc
neither false b e = (refl, e)

module _ (looks : Looks ℕ) (layers : LayerLocations ℕ) (none : some_overlaid looks layers ≡ false) where
  abbrev overlaid : List (Location ℕ) → Bool
  overlaid = list_any (is_overlay_at looks)

  no_two : ((overlaid layers.lowers || overlaid (option_to_list layers.upper)) ≡ false)
      × (overlaid (option_to_list layers.work) ≡ false)
  no_two = neither (overlaid layers.lowers || overlaid (option_to_list layers.upper))
      (overlaid (option_to_list layers.work)) none

  pub lowers_plain : list_any (is_overlay_at looks) layers.lowers ≡ false
  lowers_plain = (neither (overlaid layers.lowers) (overlaid (option_to_list layers.upper)) no_two.0).0

  pub upper_plain : list_any (is_overlay_at looks) (option_to_list layers.upper) ≡ false
  upper_plain = (neither (overlaid layers.lowers) (overlaid (option_to_list layers.upper)) no_two.0).1

  pub work_plain : list_any (is_overlay_at looks) (option_to_list layers.work) ≡ false
  work_plain = no_two.1

  -- nor is an upper directory that is given
  pub upper_alone : (at : Location ℕ) → layers.upper ≡ Some at → is_overlay_at looks at ≡ false
  upper_alone at is = (neither (is_overlay_at looks at) false
      (ap (λ upper. overlaid (option_to_list upper)) (sym is) ∙ upper_plain)).0

-- layers by their locations
abbrev pub layers_at : Looks ℕ → List Lower → List (Layer ℕ)
layers_at looks lowers = map (layer_at looks) (lowers_of lowers)

pub any_lower : (looks : Looks ℕ) (test : Layer ℕ → Bool) (lowers : List Lower)
    → list_any (λ lower. test (layer_at looks (location_of lower.at))) lowers ≡ list_any test (layers_at looks lowers)
any_lower looks test lowers = list_any-map (λ at. test (layer_at looks at)) (λ lower. location_of lower.at) lowers
    ∙ list_any-map test (layer_at looks) (lowers_of lowers)

module _ (looks : Looks ℕ) (lowers : List Lower) (i : ℕ) (d : Lower) (inside : i < length lowers) where
  abbrev under_one : Lower → Layer ℕ → Bool
  under_one lower = one_under_another nat_eq looks (layer_at looks (location_of lower.at))

  abbrev pairs_from : List Lower → Bool
  pairs_from left = any_pair (one_under_another nat_eq looks) (layers_at looks left)

  abbrev here : Lower
  here = get_or lowers i d

  cut_here : pairs_from (drop i lowers)
      ≡ (list_any (under_one here) (layers_at looks (drop (i + 1) lowers)) || pairs_from (drop (i + 1) lowers))
  cut_here = at_drop_more pairs_from lowers i d inside

  pub pair-here : list_any (under_one here)
      (layers_at looks (take (length lowers - (i + 1)) (drop (i + 1) lowers))) ≡ true
      → pairs_from (drop i lowers) ≡ true
  pair-here e = cut_here
      ∙ ap (λ left. list_any (under_one here) (layers_at looks left) || pairs_from (drop (i + 1) lowers))
      (sym (take_rest lowers (i + 1))) ∙ ap (λ first. first || pairs_from (drop (i + 1) lowers)) e

  pub pair-later : list_any (under_one here)
      (layers_at looks (take (length lowers - (i + 1)) (drop (i + 1) lowers))) ≡ false
      → pairs_from (drop (i + 1) lowers) ≡ pairs_from (drop i lowers)
  pair-later e = sym (cut_here
      ∙ ap (λ left. list_any (under_one here) (layers_at looks left) || pairs_from (drop (i + 1) lowers))
      (sym (take_rest lowers (i + 1))) ∙ ap (λ first. first || pairs_from (drop (i + 1) lowers)) e)

pub pairs-ended : (looks : Looks ℕ) (lowers : List Lower) (i : ℕ) → length lowers ≤ i
    → false ≡ any_pair (one_under_another nat_eq looks) (layers_at looks (drop i lowers))
pairs-ended looks lowers i past =
    sym (at_drop_all (λ left. any_pair (one_under_another nat_eq looks) (layers_at looks left)) lowers i past)
