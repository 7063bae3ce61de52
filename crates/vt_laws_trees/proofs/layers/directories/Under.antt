-- What layers show under a name is what the directories show that are merged under it.
use Rattle.std.proofs.Common.{◌≡◌, ◌≢◌, refl, ap, ◌∙◌, arith, ℕ, suc, ◌+◌, Bool, true, false, cond, ◌||◌, List, [], ◌∷◌, ◌++◌, Option, Some, None, option_and_then, option_map}
use Rattle.vt_spec.proofs.Common.{All-cons, All-head, All-nil, All-tail, Node, Tree, View, common_steps, cuts, hides, is_directory_node, led, node_led, none_is_some, prefixes, shown_from, shown_over, then_some, entry_at}
use Rattle.vt_spec.specs.Machine.Views.{Shown}
use Rattle.vt_laws_trees.specs.Layers.Layers.Directories.{AreViews, DirectoriesAreMerged, IsView, LayersAreViews, MergedAreViews, PlacedShowTheSame, PlacedView, PlacesAreCountedBack, ShownUnderName, merged_under, placed_from, shown_in, view_under}
use Rattle.vt_laws_trees.proofs.layers.layers.ShownDirectories.{led_is_there}
use Rattle.vt_laws_trees.proofs.layers.layers.ShownFronts.{prefix_found, list_any_of_map}
use Rattle.vt_laws_trees.proofs.layers.layers.UpperLine.{has_entries}
use Rattle.vt_spec.proofs.Trees.{found}

abbrev pub HasView : PlacedView ℕ → Type 0
HasView top = IsView top.view

-- nothing is cut where names lead to nothing
never_cuts : (view : View ℕ) (path : List (List ℕ)) → ((front : List (List ℕ)) → front ≢ [] → view.leads front ≡ None)
    → cuts view path ≡ false
never_cuts view path none = grind (arith, common_steps, prefix_found)

-- what is shown under a name of one layer, and of those below it
module _ (top : PlacedView ℕ) (is : IsView top.view) (name : List ℕ) where
  abbrev own : PlacedView ℕ
  own = record { layer = top.layer; view = view_under name top.view }

  abbrev node : Option (Node ℕ)
  node = node_led top.view (name ∷ [])

  -- under what is no directory there is nothing
  nothing_under : is_directory_node node ≡ false → (rest : List (List ℕ)) → rest ≢ []
      → top.view.leads (name ∷ rest) ≡ None
  nothing_under d rest n = by (top.view.leads (name ∷ rest)) refl
    where
      by : (o : Option ℕ) → top.view.leads (name ∷ rest) ≡ o → o ≡ None
      by None e = refl
      by (Some object) e = cc (is.through (name ∷ []) rest object n e)

  cuts_under : (rest : List (List ℕ)) → cuts top.view (name ∷ rest) ≡ (hides node || cuts own.view rest)
  cuts_under rest =
      ap (λ b. hides node || b) (list_any_of_map (λ front. hides (node_led top.view front)) (λ front. name ∷ front)
      (prefixes rest))

  opaque_shows : (found : Option ℕ) (cut : Bool) (lower : Option (Shown ℕ))
      → shown_over top.view top.layer found true lower ≡ shown_over own.view top.layer found cut None
  opaque_shows (Some object) cut lower = refl
  opaque_shows None true lower = refl
  opaque_shows None false lower = refl

  module _ (lower merged : List (PlacedView ℕ)) (rest : List (List ℕ)) (n : rest ≢ [])
      (below : shown_in lower (name ∷ rest) ≡ shown_in merged rest) where
    merged_shows : (d : Bool) → is_directory_node node ≡ d → (h : Bool) → hides node ≡ h
        → shown_over top.view top.layer (top.view.leads (name ∷ rest)) (h || cuts own.view rest)
        (shown_in lower (name ∷ rest)) ≡ shown_in (cond d (own ∷ []) [] ++ cond h [] merged) rest
    merged_shows true d true h = grind (arith, common_steps, opaque_shows)
    merged_shows true d false h = grind (arith, common_steps)
    merged_shows false d true h = grind (arith, common_steps, nothing_under)
    merged_shows false d false h = grind (arith, common_steps, nothing_under, never_cuts)

pub shown_under_name : ShownUnderName
shown_under_name [] name rest are n = refl
shown_under_name (top ∷ lower) name rest are n =
    ap (λ b. shown_over top.view top.layer (top.view.leads (name ∷ rest)) b (shown_in lower (name ∷ rest)))
    (cuts_under top (All-head HasView top lower are) name rest) ∙ merged_shows top (All-head HasView top lower are)
    name lower _ rest n (shown_under_name lower name rest (All-tail HasView top lower are) n) _ refl _ refl

-- a view that goes on from a name is one
pub view_goes_on : (view : View ℕ) (name : List ℕ) → IsView view → IsView (view_under name view)
view_goes_on view name is = record {
  there = λ path object e. is.there (name ∷ path) object e;
  through = λ front rest object n e. is.through (name ∷ front) rest object n e;
}

pub merged_are_views : MergedAreViews
merged_are_views [] name are = are
merged_are_views (top ∷ lower) name are = by _ _ (merged_are_views lower name (All-tail HasView top lower are))
  where
    own : PlacedView ℕ
    own = record { layer = top.layer; view = view_under name top.view }

    by : (d h : Bool) → AreViews (merged_under lower name)
        → AreViews (cond d (own ∷ []) [] ++ cond h [] (merged_under lower name))
    by true true rest = All-cons HasView own [] (view_goes_on _ name (All-head HasView top lower are)) (All-nil HasView)
    by true false rest = All-cons HasView own _ (view_goes_on top.view name (All-head HasView top lower are)) rest
    by false true rest = All-nil HasView
    by false false rest = rest

-- all layers show what they show with their places
placed_shows : (depth : ℕ) (views : List (View ℕ)) (path : List (List ℕ))
    → shown_from depth views path ≡ shown_in (placed_from depth views) path
placed_shows depth [] path = refl
placed_shows depth (view ∷ lower) path =
    ap (shown_over view depth (view.leads path) (cuts view path)) (placed_shows (depth + 1) lower path)

pub placed_show_the_same : PlacedShowTheSame
placed_show_the_same views path = placed_shows 0 views path

-- one layer more above
abbrev one_lower : Shown ℕ → Shown ℕ
one_lower seen = record { layer = suc seen.layer; object = seen.object }

shown_lower : (depth : ℕ) (views : List (View ℕ)) (path : List (List ℕ))
    → shown_from (suc depth) views path ≡ option_map one_lower (shown_from depth views path)
shown_lower depth [] path = refl
shown_lower depth (view ∷ lower) path = grind (arith, common_steps, shown_lower (depth + 1) lower path, one_lower)

pub places_are_counted_back : PlacesAreCountedBack
places_are_counted_back [] path = refl
places_are_counted_back (top ∷ lower) path =
    grind (arith, common_steps, places_are_counted_back lower path, one_lower, shown_lower)

-- names lead through directories
led_through : (tree : Tree ℕ) (from : ℕ) (front rest : List (List ℕ)) (object : ℕ) → rest ≢ []
    → led tree from (front ++ rest) ≡ Some object → is_directory_node (then_some (led tree from front) tree.node) ≡ true
led_through tree from [] [] object n e = absurd (n refl)
led_through tree from [] (name ∷ rest) object n e = grind (arith, common_steps, none_is_some, has_entries)
led_through tree from (name ∷ front) rest object n e =
    let next = found (λ next. led tree next (front ++ rest)) (entry_at tree from name) object e in
    ap (λ o. is_directory_node (then_some (option_and_then (λ next. led tree next front) o) tree.node)) next.1
    ∙ led_through tree next.0 front rest object n next.2

pub layers_are_views : LayersAreViews
layers_are_views layer tree directory = record {
  there = λ path object e. led_is_there layer tree directory path object e;
  through = λ front rest object n e. led_through layer.tree layer.directory front rest object n e;
}

-- in trees, the directories under a name are found by that name
pub directories_are_merged : DirectoriesAreMerged
directories_are_merged [] name = refl
directories_are_merged (top ∷ lower) name = grind (arith, common_steps, directories_are_merged lower name)
