-- A layer overlaps one of a list just if it overlaps the first, or one of the rest.
use Rattle.std.proofs.Common.{◌≡◌, ◌∙◌, ◌&&◌, ◌||◌, ◌+◌, ◌<◌, ◌≤◌, ◌∷◌, [], ap, Bool, drop, false, get_or, length, List, nat_eq, refl, sym, true, true≢false, ℕ}
use Rattle.vt_spec.proofs.Common.{Layer, World, and-false, at_drop_all, at_drop_more, filesystem_numbered, is_overlay_at, layer_at, lies_or_counts_under, list_any, list_any_at, none_from_among, overlaps_one_of}
use Rattle.vt_ns.proofs.Common.{WorldValue, location_of, looks_of_value, world_of}
use Rattle.vt_location.specs.declared.locations.Location.{Location}
use Rattle.vt_layers.specs.LayersValue.{lowers_of}
use Rattle.vt_layers.specs.declared.walks.Lower.{Lower}
use Rattle.vt_layers.proofs.RuleLemmas.{layers_at, list_any-map}
use Rattle.vt_ns.proofs.mount_looks.Climbing.{any_alike, any_either}

divided : (u o r : Bool) → (u && (o || r)) ≡ ((u && (o || false)) || (u && r))
divided true true r = refl
divided true false r = refl
divided false o r = refl

module _ (world : World ℕ) (layer : Layer ℕ) where
  abbrev numbers : List ℕ
  numbers = (filesystem_numbered nat_eq world layer.filesystem).files.numbers

  abbrev under : ℕ → Layer ℕ → Bool
  under object other = lies_or_counts_under nat_eq world layer.filesystem object other

  overlaps_first : (first : Layer ℕ) (rest : List (Layer ℕ)) → overlaps_one_of nat_eq world (first ∷ rest) layer
      ≡ (overlaps_one_of nat_eq world (first ∷ []) layer || overlaps_one_of nat_eq world rest layer)
  overlaps_first first rest =
      any_alike (λ object. under object layer && (under object first || list_any (under object) rest))
      (λ object. (under object layer && (under object first || false))
      || (under object layer && list_any (under object) rest)) numbers
      (λ object. divided (under object layer) (under object first) (list_any (under object) rest))
      ∙ any_either (λ object. under object layer && (under object first || false))
      (λ object. under object layer && list_any (under object) rest) numbers

  overlaps_nothing : overlaps_one_of nat_eq world [] layer ≡ false
  overlaps_nothing = none_from_among (λ object. under object layer && false) numbers
      (λ object m. and-false (under object layer))

-- where none of a list passes a test, none at a place does
none_at : {A : Type 0} (test : A → Bool) (list : List A) (i : ℕ) (d : A) → i < length list
    → list_any test list ≡ false → test (get_or list i d) ≡ false
none_at {A = A} test list i d inside none = by (test (get_or list i d)) refl
  where
    by : (b : Bool) → test (get_or list i d) ≡ b → b ≡ false
    by true e = absurd (true≢false (sym (list_any_at test list i d inside e) ∙ none))
    by false e = refl

module _ (value : WorldValue) (others : List Lower) (at : Location) (i : ℕ) where
  abbrev layer_in : Location → Layer ℕ
  layer_in place = layer_at (looks_of_value value) (location_of place)

  abbrev overlaps : List Lower → Bool
  overlaps left = overlaps_one_of nat_eq (world_of value) (layers_at (looks_of_value value) left) (layer_in at)

  abbrev overlaps_alone : Lower → Bool
  overlaps_alone other = overlaps_one_of nat_eq (world_of value) (layer_in other.at ∷ []) (layer_in at)

  module _ (d : Lower) (inside : i < length others) where
    -- each of the others is in no overlay
    pub other_plain : list_any (is_overlay_at (looks_of_value value)) (lowers_of others) ≡ false
        → is_overlay_at (looks_of_value value) (location_of (get_or others i d).at) ≡ false
    other_plain none = none_at (λ (lower : Lower). is_overlay_at (looks_of_value value) (location_of lower.at)) others i
        d inside (list_any-map (is_overlay_at (looks_of_value value)) (λ (lower : Lower). location_of lower.at) others
        ∙ none)

    cut_here : overlaps (drop i others) ≡ (overlaps_alone (get_or others i d) || overlaps (drop (i + 1) others))
    cut_here = at_drop_more overlaps others i d inside
        ∙ overlaps_first (world_of value) (layer_in at) (layer_in (get_or others i d).at)
        (layers_at (looks_of_value value) (drop (i + 1) others))

    -- the next one is overlapped, or one of the rest
    pub overlapped_here : overlaps_alone (get_or others i d) ≡ true → overlaps (drop i others) ≡ true
    overlapped_here e = cut_here ∙ ap (λ first. first || overlaps (drop (i + 1) others)) e

    pub overlapped_later : overlaps_alone (get_or others i d) ≡ false
        → overlaps (drop (i + 1) others) ≡ overlaps (drop i others)
    overlapped_later e = sym (cut_here ∙ ap (λ first. first || overlaps (drop (i + 1) others)) e)

  pub overlapped_by_no_more : length others ≤ i → overlaps (drop i others) ≡ false
  overlapped_by_no_more past =
      at_drop_all overlaps others i past ∙ overlaps_nothing (world_of value) (layer_in at)
