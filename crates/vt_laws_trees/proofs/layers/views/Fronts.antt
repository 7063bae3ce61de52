-- Views that lead alike along a path show the same there.
use Rattle.std.proofs.Common.{arith, ◌≡◌, refl, sym, ap, ◌∙◌, true≢false, ℕ, ◌+◌, Bool, not, ◌||◌, List, [], ◌∷◌, map, Option, Some, None}
use Rattle.vt_spec.proofs.Common.{Node, View, common_steps, cuts, hides, is_directory, is_kind, is_kind_in, list_any, prefixes, shown_from, shown_over}
use Rattle.vt_spec.specs.declared.attributes.Kind.TheVariants.{White}
use Rattle.vt_spec.specs.Machine.Views.{Shown}
use Rattle.vt_laws_trees.specs.Layers.Layers.Mounted.{IsAlike}
use Rattle.vt_laws_trees.specs.Layers.Layers.Shown.{IsFrontOf}
use Rattle.vt_laws_trees.specs.Layers.Layers.ShownAfter.{AllLeadAlikeTo, HidesAlike, IsOneKind, LeadAlikeTo, ShownByFronts}
use Rattle.vt_laws_trees.specs.Layers.Layers.Views.{AllLeadAlike, ShownByViews}
use Rattle.vt_laws_trees.proofs.layers.layers.ShownFronts.{cons_is_not_empty, list_any_of_map}

pub hides_so : (one other : Option (Node ℕ)) → IsAlike one other → HidesAlike one other
hides_so one other is = record { of_kind = record { there = is.there; kind = is.kind }; mark = is.mark }

pub hiding_alike : (one other : Option (Node ℕ)) → HidesAlike one other → hides other ≡ hides one
hiding_alike None None is = refl
hiding_alike None (Some there) is = absurd (true≢false is.of_kind.there)
hiding_alike (Some here) None is = cc (is.of_kind.there)
hiding_alike (Some here) (Some there) is = λ i. not (is_directory (is.of_kind.kind i)) || is.mark i

white_of_kind : (one other : Option (Node ℕ)) → IsOneKind one other → is_kind_in White other ≡ is_kind_in White one
white_of_kind None None is = refl
white_of_kind None (Some there) is = absurd (true≢false is.there)
white_of_kind (Some here) None is = cc (is.there)
white_of_kind (Some here) (Some there) is = ap (is_kind White) is.kind

-- tests that agree on the fronts of a path
pub prefixes_agree : (one other : List (List ℕ) → Bool) (path : List (List ℕ))
    → ((front : List (List ℕ)) → IsFrontOf front path → other front ≡ one front)
    → list_any other (prefixes path) ≡ list_any one (prefixes path)
prefixes_agree one other [] same = refl
prefixes_agree one other (word ∷ path) same = ap (λ b. other (word ∷ []) || b) (list_any_of_map other _ (prefixes path)
    ∙ prefixes_agree (λ front. one (word ∷ front)) (λ front. other (word ∷ front))
    path (λ front is. same (word ∷ front) (is.0, ap (λ p. word ∷ p) is.1, cons_is_not_empty word front)) ∙ sym
    (list_any_of_map one _ (prefixes path))) ∙ ap (λ b. b || list_any one (map (λ front. word ∷ front) (prefixes path)))
    (same (word ∷ []) (path, refl, cons_is_not_empty word []))

module _ (path : List (List ℕ)) where
  pub cuts_alike : (one other : View ℕ) → LeadAlikeTo path one other → cuts other path ≡ cuts one path
  cuts_alike one other is = prefixes_agree _ _ path (λ front f. hiding_alike _ _ (is.on_the_way front f))

  over_alike : (one other : View ℕ) → LeadAlikeTo path one other → (depth : ℕ) (lower : Option (Shown ℕ))
      → shown_over other depth (other.leads path) (cuts other path) lower
      ≡ shown_over one depth (one.leads path) (cuts one path) lower
  over_alike one other is depth lower =
      grind (arith, common_steps, other.leads path, cuts_alike one other is, white_of_kind)

  all_shown : (views others : List (View ℕ)) → AllLeadAlikeTo path views others → (depth : ℕ)
      → shown_from depth others path ≡ shown_from depth views path
  all_shown [] [] are depth = refl
  all_shown [] (other ∷ others) are depth = absurd are
  all_shown (view ∷ views) [] are depth = absurd are
  all_shown (view ∷ views) (other ∷ others) are depth =
      grind (arith, common_steps, over_alike, all_shown views others are.1 (depth + 1))

  -- one view over the same others
  pub shown_in_lowers_at_alike : (one other : View ℕ) → LeadAlikeTo path one other → (lowers : List (View ℕ))
      → shown_from 0 (other ∷ lowers) path ≡ shown_from 0 (one ∷ lowers) path
  shown_in_lowers_at_alike one other is lowers = over_alike one other is 0 (shown_from 1 lowers path)

pub shown_by_prefixes : ShownByFronts
shown_by_prefixes views others path are = all_shown path views others are 0

-- views that lead alike everywhere
all_lead_alike : (path : List (List ℕ)) (views others : List (View ℕ)) → AllLeadAlike views others
    → AllLeadAlikeTo path views others
all_lead_alike path [] [] are = tt
all_lead_alike path [] (other ∷ others) are = absurd are
all_lead_alike path (view ∷ views) [] are = absurd are
all_lead_alike path (view ∷ views) (other ∷ others) are =
    grind (arith, common_steps, hides_so, all_lead_alike path views others are.1)

pub shown_by_views : ShownByViews
shown_by_views views others are path = shown_by_prefixes views others path (all_lead_alike path views others are)
