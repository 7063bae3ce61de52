-- What is shown where a name of the upper layer was.
use Rattle.std.proofs.Common.{arith, ◌≡◌, refl, sym, ap, subst, ◌∙◌, true≢false, ℕ, Bool, true, false, cond, ◌||◌, List, [], ◌∷◌, ◌++◌, map, Option, Some, None, option_and_then, append-nil}
use Rattle.vt_spec.proofs.Common.{FileTree, IsTree, Move, Remove, Tree, View, common_steps, entry_at, holds_of, led, list_any, or-false, prefixes, shown_from}
use Rattle.vt_spec.specs.Machine.Views.{shown_in_lowers}
use Rattle.vt_laws_trees.specs.Layers.Layers.ShownAfter.{LeadAlikeTo, MovedShowsBelow, RemovedShowsBelow}
use Rattle.vt_laws_trees.specs.Layers.Layers.Views.{goes_through, names_entry, view_after, view_in}
use Rattle.vt_laws_trees.proofs.layers.layers.ShownFronts.{cons_is_not_empty, prefix_passes, list_any_of_map}
use Rattle.vt_laws_trees.proofs.layers.layers.UpperShown.{without_last_of_longer}
use Rattle.vt_laws_trees.proofs.layers.views.After.{fails, prefixes_fail, lead_alike}
use Rattle.vt_laws_trees.proofs.layers.views.Entries.{is_that_entry}
use Rattle.vt_laws_trees.proofs.layers.views.Fronts.{cuts_alike}
use Rattle.vt_laws_trees.proofs.layers.views.Moves.{led_parts, no_way_up, old_leads_nowhere, through_is_split}
use Rattle.vt_laws_trees.proofs.layers.views.Names.{remove_ends_paths}
use Rattle.vt_laws_trees.proofs.layers.views.Walks.{ends_in, names_it}
use Rattle.std.proofs.Math.Bool.{or_assoc}

-- the path of an entry is a way to its directory, and the name
abbrev pub IsNamed : Tree ℕ → ℕ → ℕ → List ℕ → List (List ℕ) → Type 0
IsNamed tree start directory name path =
    (way : List (List ℕ)) × (way ++ name ∷ [] ≡ path) × (led tree start way ≡ Some directory)

named_by : (tree : Tree ℕ) (directory : ℕ) (name : List ℕ) (path : List (List ℕ)) (start : ℕ)
    → ends_in tree directory name start path ≡ true → IsNamed tree start directory name path
named_by tree directory name [] start e = absurd (true≢false (sym e))
named_by tree directory name (word ∷ []) start e =
    let same = is_that_entry directory name start word e in
    ([], ap (λ w. w ∷ []) (sym same.1), ap Some same.0)
named_by tree directory name (word ∷ next ∷ rest) start e = by _ refl e (named_by tree directory name (next ∷ rest))
  where
    by : (o : Option ℕ) → entry_at tree start word ≡ o
        → holds_of (λ inner. ends_in tree directory name inner (next ∷ rest)) o ≡ true
        → ((inner : ℕ) → ends_in tree directory name inner (next ∷ rest) ≡ true
        → IsNamed tree inner directory name (next ∷ rest)) → IsNamed tree start directory name (word ∷ next ∷ rest)
    by None f e later = absurd (true≢false (sym e))
    by (Some inner) f e later =
        let found = later inner e in
        (word ∷ found.0, ap (λ p. word ∷ p) found.1, ap (option_and_then (λ n. led tree n found.0)) f ∙ found.2)

-- the fronts of a path with a word more
pub prefixes_longer : (test : List (List ℕ) → Bool) (way : List (List ℕ)) (name : List ℕ)
    → list_any test (prefixes (way ++ name ∷ [])) ≡ (list_any test (prefixes way) || test (way ++ name ∷ []))
prefixes_longer test [] name = or-false (test (name ∷ []))
prefixes_longer test (word ∷ way) name = ap (λ b. test (word ∷ []) || b) (list_any_of_map test (λ front. word ∷ front) _
    ∙ prefixes_longer (λ front. test (word ∷ front)) way name ∙ ap (λ b. b || test (word ∷ way ++ name ∷ []))
    (sym (list_any_of_map test (λ front. word ∷ front) (prefixes way)))) ∙ sym (or_assoc (test (word ∷ []))
    (list_any test (map (λ front. word ∷ front) (prefixes way))) (test (word ∷ way ++ name ∷ [])))

-- a layer that leads nowhere at a path, and on the way there as another
shown_under : (before after : View ℕ) (lowers : List (View ℕ)) (way : List (List ℕ)) (name : List ℕ)
    → after.leads (way ++ name ∷ []) ≡ None → LeadAlikeTo way before after
    → shown_from 0 (after ∷ lowers) (way ++ name ∷ []) ≡ shown_in_lowers before lowers (way ++ name ∷ [])
shown_under before after lowers way name gone alike =
    grind (arith, common_steps, prefixes_longer, or-false, cuts_alike, without_last_of_longer)

module _ (files : FileTree ℕ) (top directory : ℕ) (name : List ℕ) where
  pub is_named : (path : List (List ℕ)) → names_entry (view_in files top) directory name path ≡ true
      → IsNamed files.tree top directory name path
  is_named path e = named_by files.tree directory name path top (sym (names_it files.tree directory name path top) ∙ e)

  -- the path of an entry goes through it
  goes_through_named : (way : List (List ℕ)) → names_entry (view_in files top) directory name (way ++ name ∷ []) ≡ true
      → goes_through (view_in files top) directory name (way ++ name ∷ []) ≡ true
  goes_through_named way e =
      grind (arith, common_steps, prefix_passes, append-nil (way ++ name ∷ []), cons_is_not_empty)

  -- and the way to its directory does not
  pub way_goes_elsewhere : IsTree files.tree → (object : ℕ) → entry_at files.tree directory name ≡ Some object
      → (way : List (List ℕ)) → led files.tree top way ≡ Some directory
      → goes_through (view_in files top) directory name way ≡ false
  way_goes_elsewhere tree object named way e = fails _ (λ t. back (through_is_split files top directory name way t))
    where
      back : (first rest : List (List ℕ)) × (first ++ name ∷ rest ≡ way) × (led files.tree top first ≡ Some directory)
          → ⊥
      back parts = no_way_up files tree directory name object
          named parts.1 (cc (named, led_parts files.tree parts.0 (name ∷ parts.1) top directory parts.3, parts.2, e))

pub removed_shows_below : RemovedShowsBelow
removed_shows_below files top directory object name lowers tree is_top named path e =
    at (is_named files top directory name path e)
  where
    at : IsNamed files.tree top directory name path
        → shown_from 0 (view_after files (Remove directory name object) top ∷ lowers) path
        ≡ shown_in_lowers (view_in files top) lowers path
    at there = subst (λ p. shown_from 0 (view_after files (Remove directory name object) top ∷ lowers) p
        ≡ shown_in_lowers (view_in files top) lowers p) there.1
        (shown_under (view_in files top) _ lowers there.0 name (remove_ends_paths files top directory object name
        (there.0 ++ name ∷ []) ∙ ap (λ b. cond b None (led files.tree top (there.0 ++ name ∷ []))) (goes_through_named
        files top directory name there.0 (ap (names_entry (view_in files top) directory name) there.1 ∙ e)))
        (lead_alike files top tree is_top (Remove directory name object)
        tt there.0 (way_goes_elsewhere files top directory name tree object named there.0 there.2)))

pub moved_shows_below : MovedShowsBelow
moved_shows_below files top from to object old new lowers tree is_top can path e apart =
    at (is_named files top from old path e)
  where
    at : IsNamed files.tree top from old path
        → shown_from 0 (view_after files (Move from old to new object) top ∷ lowers) path
        ≡ shown_in_lowers (view_in files top) lowers path
    at there =
        let elsewhere : goes_through (view_in files top) to new (there.0 ++ old ∷ []) ≡ false = cc (there.1, apart) in
        subst (λ p. shown_from 0 (view_after files (Move from old to new object) top ∷ lowers) p
        ≡ shown_in_lowers (view_in files top) lowers p)
        there.1 (shown_under (view_in files top) _ lowers there.0 old (old_leads_nowhere files top from to object
        old new can (there.0 ++ old ∷ []) elsewhere ∙ ap (λ b. cond b None (led files.tree top (there.0 ++ old ∷ [])))
        (goes_through_named files top from old there.0 (ap (names_entry (view_in files top) from old) there.1 ∙ e)))
        (lead_alike files top tree is_top (Move from old to new object) can there.0
        (neither there.0 elsewhere (way_goes_elsewhere files top from old tree object can.named there.0 there.2))))
      where
        none_left : (test : List (List ℕ) → Bool) (way : List (List ℕ))
            → list_any test (prefixes (way ++ old ∷ [])) ≡ false → list_any test (prefixes way) ≡ false
        none_left test [] none = refl
        none_left test (word ∷ way) none = prefixes_fail test _ _ (old ∷ [], refl, cons_is_not_empty word way) none

        neither : (way : List (List ℕ)) → goes_through (view_in files top) to new (way ++ old ∷ []) ≡ false
            → goes_through (view_in files top) from old way ≡ false
            → (goes_through (view_in files top) to new way || goes_through (view_in files top) from old way) ≡ false
        neither way no_new no_old = cc (none_left (names_entry (view_in files top) to new) way no_new, no_old)
