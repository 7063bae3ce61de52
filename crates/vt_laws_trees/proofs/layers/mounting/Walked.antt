-- Layers that are walked for a mount are directories of plain trees, as many as may be.
use Rattle.std.proofs.Common.{arith, ◌≡◌, refl, sym, ap, ◌∙◌, true≢false, ℕ, nat_eq, Bool, true, false, not, ◌&&◌, ◌||◌, List, [], ◌∷◌, ◌++◌, length, map, Option, Some, None, is_some, Result, Ok, Err, nat_le, nat_lt, option_map, option_to_list}
use Rattle.vt_spec.proofs.Common.{Gives, Layer, LayerLocations, Location, NoneFails, Overlay, OverlayWords, Rules, Stop, Task, World, and_then, common_steps, given, has_fit_layers, is_directory_at, is_empty_list, is_overlay_at, is_plain_layer, is_removed_at, layer_at, layer_locations, layers_of, length-map, list_all, list_all-append, list_any, looks_of, path_walked, same_bool, walk_end, work_walked}
use Rattle.std.proofs.lemmas.Bool.Decides.{leb_tells}
use Rattle.vt_spec.specs.declared.errors.Deny.{Deny}
use Rattle.vt_spec.specs.declared.errors.Rule.TheVariants.{W3, W8}
use Rattle.vt_spec.proofs.Tables.{each_walked, layer_rules, layers_walked, overlay_at, source_walk, walked_if_given}
use Rattle.vt_spec.proofs.Walk.{directory_walk}
use Rattle.vt_laws_trees.proofs.trees.TreesWalked.{Ends, ends_next, ends_then, ends_unless, not-false}
use Rattle.vt_laws_trees.specs.Layers.Layers.NewOverlays.{NoneRefuses}

pub gives_then : {A B : Type 0} (Q : A → Type 0) (R : B → Type 0) (r : Result A Deny) (next : A → Result B Deny)
    → Gives Q r → ((a : A) → Q a → Gives R (next a)) → Gives R (and_then r next)
gives_then Q R (Ok a) next q h = h a q
gives_then Q R (Err deny) next q h = tt

pub gives_end : {A : Type 0} (Q : A → Type 0) (r : Result A (Stop ℕ)) → Ends Q r → Gives Q (walk_end r)
gives_end Q (Ok a) e = e
gives_end Q (Err stop) e = tt

pub none_refuses : (rules : Rules) → NoneFails rules → NoneRefuses rules
none_refuses [] p = refl
none_refuses (row ∷ rules) p = ap (λ b. b || list_any (λ r. r.0) rules) p.0 ∙ none_refuses rules p.1

module _ (world : World ℕ) (task : Task ℕ) where
  abbrev AreDirectories : List (Location ℕ) → Type 0
  AreDirectories places = list_all (is_directory_at nat_eq world) places ≡ true

  source_ends : (path : List ℕ) → Ends (λ here. is_directory_at nat_eq world here.location ≡ true)
      (source_walk nat_eq world task path)
  source_ends path = ends_then (λ here. is_directory_at nat_eq world here.location ≡ true)
      (λ here. is_directory_at nat_eq world here.location ≡ true) (directory_walk nat_eq world task path) _
      (ends_next (λ here. is_directory_at nat_eq world here.location ≡ true) (path_walked nat_eq world task path) _
      (λ here.
      ends_unless (λ there. is_directory_at nat_eq world there.location ≡ true) here.steps
      ((not (is_directory_at nat_eq world here.location), W3) ∷ []) here
      (λ passed. not-false (is_directory_at nat_eq world here.location) passed.0))) (λ here is.
      ends_unless (λ there. is_directory_at nat_eq world there.location ≡ true) here.steps
      ((is_removed_at nat_eq world here.location, W8) ∷ []) here (λ passed. is))

  each_ends : (paths : List (List ℕ)) → Gives AreDirectories (each_walked nat_eq world task paths)
  each_ends [] = refl
  each_ends (path ∷ paths) =
      grind (arith, common_steps, gives_then, source_walk, gives_end, source_ends, each_walked, each_ends paths)

  given_ends : (path : Option (List ℕ))
      → Gives (λ place. AreDirectories (option_to_list place) × (is_some place ≡ is_some path))
      (walked_if_given nat_eq world task path)
  given_ends None = (refl, refl)
  given_ends (Some path) = grind (arith, common_steps, gives_then, source_walk, gives_end, source_ends)

  -- the places of layers: directories, and a work directory only beside an upper one
  pub record AreWalked (places : LayerLocations ℕ) : Type 0 where
    pub lowers : AreDirectories places.lowers
    pub upper : AreDirectories (option_to_list places.upper)
    pub work : AreDirectories (option_to_list places.work)
    pub beside : is_some places.upper ≡ false → is_some places.work ≡ false

  no_work : (words : OverlayWords) → is_some words.upper ≡ false → is_some (work_walked words) ≡ false
  no_work words e = ap (λ b. is_some (Rattle.std.proofs.Common.cond b words.work None)) e

  layers_end : (words : OverlayWords) → Gives AreWalked (layers_walked nat_eq world task words)
  layers_end words =
      gives_then AreDirectories AreWalked (each_walked nat_eq world task words.lowers) _ (each_ends words.lowers)
      (λ lowers low.
      gives_then (λ place. AreDirectories (option_to_list place) × (is_some place ≡ is_some words.upper)) AreWalked
      (walked_if_given nat_eq world task words.upper) _ (given_ends words.upper) (λ upper up.
      gives_then (λ place. AreDirectories (option_to_list place)
      × (is_some place ≡ is_some (work_walked words))) AreWalked
      (walked_if_given nat_eq world task (work_walked words)) _ (given_ends (work_walked words)) (λ work at.
      record { lowers = low; upper = up.0; work = at.0; beside = λ e. at.1 ∙ no_work words (sym up.1 ∙ e) })))

  pub are_walked : (words : OverlayWords) (places : LayerLocations ℕ) → layers_walked nat_eq world task words
      ≡ Ok places → AreWalked places
  are_walked words places e = given AreWalked (layers_walked nat_eq world task words) places (layers_end words) e

  module _ (places : LayerLocations ℕ) (walked : AreWalked places)
      (passed : NoneFails (layer_rules nat_eq world places (overlay_at nat_eq world task places))) where
    abbrev overlay : Overlay ℕ
    overlay = overlay_at nat_eq world task places

    abbrev layer : Location ℕ → Layer ℕ
    layer place = layer_at (looks_of nat_eq world) place

    abbrev lies_in_overlay : Location ℕ → Bool
    lies_in_overlay place = is_overlay_at (looks_of nat_eq world) place

    plain_places : (list : List (Location ℕ)) → list_any lies_in_overlay list ≡ false → AreDirectories list
        → list_all (is_plain_layer nat_eq world) (map layer list) ≡ true
    plain_places [] none are = refl
    plain_places (place ∷ list) none are = grind (arith, common_steps, plain_places list, layer, true≢false)

    split_left : (one other : List (Location ℕ)) → list_any lies_in_overlay (one ++ other) ≡ false
        → list_any lies_in_overlay one ≡ false
    split_left [] other e = refl
    split_left (place ∷ one) other e = grind (arith, common_steps, split_left one other, true≢false)

    split_right : (one other : List (Location ℕ)) → list_any lies_in_overlay (one ++ other) ≡ false
        → list_any lies_in_overlay other ≡ false
    split_right [] other e = e
    split_right (place ∷ one) other e = grind (arith, common_steps, split_right one other, true≢false)

    -- no place is in an overlay
    none_in_overlay : list_any lies_in_overlay (layer_locations places) ≡ false
    none_in_overlay = passed.1.1.1.1.0

    plain_option : (place : Option (Location ℕ)) → list_any lies_in_overlay (option_to_list place) ≡ false
        → AreDirectories (option_to_list place)
        → list_all (is_plain_layer nat_eq world) (option_to_list (option_map layer place)) ≡ true
    plain_option None none are = refl
    plain_option (Some place) none are = plain_places (place ∷ []) none are

    all_three : (one two three : List (Layer ℕ)) → list_all (is_plain_layer nat_eq world) one ≡ true
        → list_all (is_plain_layer nat_eq world) two ≡ true → list_all (is_plain_layer nat_eq world) three ≡ true
        → list_all (is_plain_layer nat_eq world) (one ++ two ++ three) ≡ true
    all_three one two three a b c = list_all-append (is_plain_layer nat_eq world) (one ++ two) three
        ∙ ap (λ x. x && list_all (is_plain_layer nat_eq world) three)
        (list_all-append (is_plain_layer nat_eq world) one two
        ∙ ap (λ x. x && list_all (is_plain_layer nat_eq world) two) a ∙ b) ∙ c

    pub plain_lowers : list_all (is_plain_layer nat_eq world) overlay.lowers ≡ true
    plain_lowers = plain_places places.lowers (split_left _ _ (split_left _ _ none_in_overlay)) walked.lowers

    pub plain_upper : list_all (is_plain_layer nat_eq world) (option_to_list overlay.upper) ≡ true
    plain_upper = plain_option places.upper (split_right places.lowers _ (split_left
        (places.lowers ++ option_to_list places.upper) _ none_in_overlay)) walked.upper

    pub plain_work : list_all (is_plain_layer nat_eq world) (option_to_list overlay.work) ≡ true
    plain_work = plain_option places.work (split_right _ _ none_in_overlay) walked.work

    pub all_plain : list_all (is_plain_layer nat_eq world) (layers_of overlay) ≡ true
    all_plain = all_three _ (option_to_list overlay.work) overlay.lowers plain_upper plain_work plain_lowers

    pub shown_plain : list_all (is_plain_layer nat_eq world) (option_to_list overlay.upper ++ overlay.lowers) ≡ true
    shown_plain = list_all-append (is_plain_layer nat_eq world) (option_to_list overlay.upper) overlay.lowers
        ∙ ap (λ x. x && list_all (is_plain_layer nat_eq world) overlay.lowers) plain_upper ∙ plain_lowers

    no_fewer : (n m : ℕ) → nat_lt n m ≡ false → nat_le m n ≡ true
    no_fewer n m e = grind (arith, leb_tells, e)

    not_empty : (list : List (Location ℕ)) → is_empty_list list ≡ false → not (is_empty_list (map layer list)) ≡ true
    not_empty [] e = absurd (true≢false e)
    not_empty (place ∷ list) e = refl

    beside_each_other : (upper work : Option (Location ℕ)) → (is_some upper && not (is_some work)) ≡ false
        → (is_some upper ≡ false → is_some work ≡ false)
        → same_bool (is_some (option_map layer upper)) (is_some (option_map layer work)) ≡ true
    beside_each_other None None e f = refl
    beside_each_other None (Some work) e f = absurd (true≢false (f refl))
    beside_each_other (Some upper) None e f = absurd (true≢false e)
    beside_each_other (Some upper) (Some work) e f = refl

    pub fit_layers : has_fit_layers overlay ≡ true
    fit_layers = grind (arith, common_steps, not_empty, length-map, no_fewer, beside_each_other)

    pub has_layers : option_to_list overlay.upper ++ overlay.lowers ≡ [] → ⊥
    has_layers = grind (arith, common_steps, layer, true≢false)
