-- Each directory on the way of a walk is searched: walks to names.
use Rattle.std.proofs.Common.{arith, ◌≡◌, refl, sym, subst, true≢false, ℕ, nat_eq, Bool, true, false, not, ◌&&◌, List, [], ◌∷◌, ◌++◌, is_some, Ok, Err, Result, reverse, if◌then◌else◌}
use Rattle.vt_spec.proofs.Common.{All-append, All-cons, All-nil, Dot, DotDot, Here, LastWord, Location, Named, NoWord, Place, Stop, Task, World, common_steps, ends_in_slash, final_word, followed, is_no_word, last_walked, last_word, looks_of, new_name_rules, path_text, prefix_walked, rename_new_walk, reverse-reverse, walk_start, words}
use mathlib.Core.List.{reverse-cons}
use Rattle.vt_laws_trees.proofs.calls.ways.WaysEnds.{object_searched}
use Rattle.vt_laws_trees.proofs.calls.ways.WaysSearched.{IsNamedAt, IsStep, placed_step, word_step}
use Rattle.vt_laws_trees.proofs.calls.ways.WaysWalked.{followed_searched, path_text_same, words_searched}
use Rattle.vt_laws_trees.specs.Calls.Searched.{IsSearchable, IsSearchedToName, IsSearchedWay, IsSearchedWayToName, NewLeafWaysAreSearched, NewNameWaysAreSearched, OldLeafWaysAreSearched, OldNameWaysAreSearched, PlaceWaysAreSearched, RenamedWaysAreSearched, SymlinkWaysAreSearched}
use Rattle.vt_laws_trees.specs.Calls.Searched.WayToName.{name_in, no_name}
use Rattle.vt_spec.specs.declared.errors.Rule.TheVariants.{W3, W6}
use Rattle.vt_spec.proofs.Walk.{is_directory_there, new_leaf_walk, new_walk, old_leaf_walk, old_walk, place_walk, placed, stepped, symlink_walk_by, word_walked}
use Rattle.vt_laws_trees.proofs.trees.TreesWalked.{Ends, at_end, ends_then, ends_unless}

some_word : (dot dots : Bool) (word : List ℕ)
    → is_no_word (if dot then Dot else if dots then DotDot else Named word) ≡ false
some_word true dots word = refl
some_word false true word = refl
some_word false false word = refl

module _ (world : World ℕ) (task : Task ℕ) where
  -- all words but the last, of words of which the last comes first
  abbrev pub IsFront : Location ℕ → List (List ℕ) → Location ℕ → Type 0
  IsFront start [] here = here ≡ start
  IsFront start (word ∷ front) here = IsSearchedWay world task start (reverse front) here

  pub prefix_searched : (start : Here ℕ) (ws : List (List ℕ)) → Ends (λ here. IsFront start.location ws here.location)
      (prefix_walked nat_eq world task (followed nat_eq world task) start ws)
  prefix_searched start [] = refl
  prefix_searched start (word ∷ front) = words_searched world task _ (followed_searched world task) start front

  -- the last word too, where it was looked up in a directory that may be searched
  pub name_searched : (start here : Location ℕ) (ws : List (List ℕ)) → IsFront start ws here
      → (is_no_word (final_word ws) ≡ false → IsSearchable world task here)
      → IsSearchedWayToName world task start (reverse ws) here (final_word ws)
  name_searched start here [] e searched = subst (λ from. IsSearchedWayToName world task from [] here NoWord) e
      (record { passed = []; way = no_name here; searched = All-nil (IsSearchable world task) })
  name_searched start here (word ∷ front) before searched =
      subst (λ ws. IsSearchedWayToName world task start ws here (last_word word)) (sym (reverse-cons word front))
      (record {
        passed = before.passed ++ here ∷ [];
        way = name_in start here (reverse front) word before.passed before.way;
        searched = All-append (IsSearchable world task) before.passed (here ∷ []) before.searched (All-cons
            (IsSearchable world task) here [] (searched (some_word _ _ word)) (All-nil (IsSearchable world task)));
      })

  pub text_name_searched : (start here : Location ℕ) (text : List ℕ) → IsFront start (reverse (words text)) here
      → (is_no_word (final_word (reverse (words text))) ≡ false → IsSearchable world task here)
      → IsSearchedWayToName world task start (words text) here (final_word (reverse (words text)))
  text_name_searched start here text before searched =
      subst (λ ws. IsSearchedWayToName world task start ws here (final_word (reverse (words text))))
      (reverse-reverse (words text)) (name_searched start here (reverse (words text)) before searched)

  -- where a name is looked up
  abbrev pub IsNameOf : Location ℕ → List ℕ → Place ℕ → Type 0
  IsNameOf start text place = IsSearchedWayToName world task start (words text) place.parent place.last

  pub named_searched : (start here : Location ℕ) (text : List ℕ) (place : Place ℕ)
      → IsFront start (reverse (words text)) here
      → IsNamedAt world task here (final_word (reverse (words text))) place → IsNameOf start text place
  named_searched start here text place before named =
      subst (λ last. IsSearchedWayToName world task start (words text) place.parent last) (sym named.last)
      (subst (λ directory. IsSearchedWayToName world task start (words text) directory
      (final_word (reverse (words text)))) (sym named.parent)
      (text_name_searched start here text before named.searched))

  -- symlinks
  abbrev IsLast : Location ℕ → LastWord → Here ℕ → Type 0
  IsLast here word next = (is_no_word word ≡ false → IsSearchable world task here)
      × (stepped nat_eq world task here word ≡ Ok next.location)

  worded : (here : Here ℕ) (word : LastWord)
      → Ends (λ next. IsLast here.location word next) (word_walked nat_eq world task here word)
  worded here word = by (word_walked nat_eq world task here word) (word_step world task here word)
    where
      by : (r : Result (Here ℕ) (Stop ℕ)) → Ends (IsStep world task here.location word) r
          → Ends (λ next. IsLast here.location word next) r
      by (Ok next) step = ((λ some. step.0), step.1)
      by (Err stop) step = tt

  last_searched : (here : Here ℕ) (word : LastWord)
      → Ends (λ next. IsLast here.location word next) (last_walked nat_eq world task here word)
  last_searched here NoWord = ((λ some. absurd (true≢false some)), refl)
  last_searched here Dot = worded here Dot
  last_searched here DotDot = worded here DotDot
  last_searched here (Named name) = worded here (Named name)

  module _ (path : List ℕ) where
    abbrev IsNamed : Here ℕ → Type 0
    IsNamed next = (directory : Location ℕ) × (last : LastWord) × IsSearchedToName world task path directory last
        × (stepped nat_eq world task directory last ≡ Ok next.location)

    symlink_named : Ends IsNamed (symlink_walk_by nat_eq false world task path)
    symlink_named = ends_then _ IsNamed (path_text path) _ (path_text_same path) (λ text e. ends_then _ IsNamed
        (prefix_walked nat_eq world task (followed nat_eq world task) (walk_start task text) (reverse (words text))) _
        (prefix_searched (walk_start task text) (reverse (words text))) (λ here before. ends_last
        text e here before (last_walked nat_eq world task here (final_word (reverse (words text))))
        (last_searched here (final_word (reverse (words text))))))
      where
        ends_last : (text : List ℕ) → text ≡ path → (here : Here ℕ)
            → IsFront (walk_start task text).location (reverse (words text)) here.location
            → (r : Result (Here ℕ) (Stop ℕ))
            → Ends (λ next. IsLast here.location (final_word (reverse (words text))) next) r → Ends IsNamed r
        ends_last text e here before (Ok next) last = (
          here.location,
          final_word (reverse (words text)),
          subst (λ written. IsSearchedToName world task written here.location (final_word (reverse (words text)))) e
              (text_name_searched (walk_start task text).location here.location text before last.0),
          last.1,
        )
        ends_last text e here before (Err stop) last = tt

    -- places
    abbrev IsNamePlace : Place ℕ → Type 0
    IsNamePlace place = IsSearchedToName world task path place.parent place.last

    place_searched : Ends IsNamePlace (place_walk nat_eq world task path)
    place_searched = ends_then _ IsNamePlace (path_text path) _ (path_text_same path) (λ text e. ends_then _ IsNamePlace
        (prefix_walked nat_eq world task (followed nat_eq world task) (walk_start task text) (reverse (words text))) _
        (prefix_searched (walk_start task text) (reverse (words text))) (λ here before. ends_placed
        text e here before (placed nat_eq world task here (final_word (reverse (words text))) (ends_in_slash text))
        (placed_step world task here (final_word (reverse (words text))) (ends_in_slash text))))
      where
        ends_placed : (text : List ℕ) → text ≡ path → (here : Here ℕ)
            → IsFront (walk_start task text).location (reverse (words text)) here.location
            → (r : Result (Place ℕ) (Stop ℕ))
            → Ends (IsNamedAt world task here.location (final_word (reverse (words text)))) r → Ends IsNamePlace r
        ends_placed text e here before (Ok place) named =
            subst (λ written. IsSearchedToName world task written place.parent place.last) e
            (named_searched (walk_start task text).location here.location text place before named)
        ends_placed text e here before (Err stop) named = tt

    new_searched : Ends IsNamePlace (new_walk nat_eq world task path)
    new_searched =
        ends_then IsNamePlace IsNamePlace (place_walk nat_eq world task path) _ place_searched (λ place searched.
        ends_unless IsNamePlace place.steps (new_name_rules nat_eq world place) place (λ passed. searched))

    new_leaf_searched : Ends IsNamePlace (new_leaf_walk nat_eq world task path)
    new_leaf_searched =
        ends_then IsNamePlace IsNamePlace (new_walk nat_eq world task path) _ new_searched (λ place searched.
        ends_unless IsNamePlace place.steps ((place.slash && not (is_some place.object), W6) ∷ []) place
        (λ passed. searched))

    old_searched : Ends IsNamePlace (old_walk nat_eq world task path)
    old_searched =
        ends_then IsNamePlace IsNamePlace (place_walk nat_eq world task path) _ place_searched (λ place searched.
        ends_unless IsNamePlace place.steps ((not (is_some place.object), W6) ∷ []) place (λ passed. searched))

    old_leaf_searched : Ends IsNamePlace (old_leaf_walk nat_eq world task path)
    old_leaf_searched =
        ends_then IsNamePlace IsNamePlace (old_walk nat_eq world task path) _ old_searched (λ place searched.
        ends_unless IsNamePlace place.steps
        ((place.slash && not (is_directory_there nat_eq world place), W3) ∷ []) place (λ passed. searched))

    renamed_searched : (directory : Bool)
        → Ends IsNamePlace (rename_new_walk nat_eq (looks_of nat_eq world) task path directory)
    renamed_searched directory =
        ends_then IsNamePlace IsNamePlace (new_walk nat_eq world task path) _ new_searched (λ place searched.
        ends_unless IsNamePlace place.steps ((place.slash && not directory, W3) ∷ []) place (λ passed. searched))

pub symlink_ways_are_searched : SymlinkWaysAreSearched
symlink_ways_are_searched world task path here e =
    grind (arith, common_steps, at_end, symlink_walk_by, object_searched, symlink_named)

pub place_ways_are_searched : PlaceWaysAreSearched
place_ways_are_searched world task path place e = at_end _ _ place (place_searched world task path) e

pub new_name_ways_are_searched : NewNameWaysAreSearched
new_name_ways_are_searched world task path place e = at_end _ _ place (new_searched world task path) e

pub new_leaf_ways_are_searched : NewLeafWaysAreSearched
new_leaf_ways_are_searched world task path place e = at_end _ _ place (new_leaf_searched world task path) e

pub old_name_ways_are_searched : OldNameWaysAreSearched
old_name_ways_are_searched world task path place e = at_end _ _ place (old_searched world task path) e

pub old_leaf_ways_are_searched : OldLeafWaysAreSearched
old_leaf_ways_are_searched world task path place e = at_end _ _ place (old_leaf_searched world task path) e

pub renamed_ways_are_searched : RenamedWaysAreSearched
renamed_ways_are_searched directory world task path place e = at_end _ _ place (renamed_searched world task path _) e
