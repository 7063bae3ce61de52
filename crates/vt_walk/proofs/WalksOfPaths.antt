-- What each walk is, once its path is parsed and its words are walked.
use Rattle.std.proofs.Common.{◌≡◌, ℕ, nat_eq, Bool, true, false, List, [], ◌∷◌, Option, Result, Ok, Err, refl, sym, ap, ◌∙◌, length, reverse, ◌||◌, nat_lt, not}
use Rattle.vt_spec.proofs.Common.{Dot, DotDot, Here, LastWord, Location, Looks, Named, NoWord, Place, Task, and_then, denial, directory_walk, ends_in_slash, final_word, is_empty, is_no_word, list_any, longest_name, longest_path, object_named, object_walk, parsed_path, place_walk, rest_of, search_rules, slash_rules, stopped_by, symlink_walk, symlink_walk_by, then_walk, unless, unless-let_through, walk_end, walk_start, words}
use Rattle.vt_spec.specs.declared.errors.Deny.{Deny}
use Rattle.vt_spec.specs.declared.errors.Rule.TheVariants.{W3}
use Rattle.vt_spec.specs.Machine.Looks.{is_directory_at}
use Rattle.vt_spec.specs.Machine.Walking
use Rattle.vt_spec.specs.Machine.Walking.{path_walked}
use Rattle.vt_text.proofs.Limits.{IsTooLong-from_test, not_walkable}
use Rattle.vt_text.specs.Walkable.{IsWalkable}
use Rattle.vt_walk.proofs.RefusalLemmas.{unless-stopped}
use Rattle.vt_walk.proofs.Trails.{all-plain, front-plain, last-of-plain, location-checked, location-plain, placed-of-plain}
use Rattle.vt_walk.specs.PlainWalks.{followed, prefix_walked, last_walked, placed, words_walked}
use Rattle.vt_walk.specs.WalkValue.{location_end, place_end}

is_empty-false : (text : List ℕ) → (text ≡ [] → ⊥) → is_empty text ≡ false
is_empty-false [] some = absurd (some refl)
is_empty-false (byte ∷ bytes) _ = refl

is-false : (test : Bool) → (test ≡ true → ⊥) → test ≡ false
is-false true never = absurd (never refl)
is-false false _ = refl

-- a text that may be walked is parsed as itself
pub parsed-walkable : (text : List ℕ) → IsWalkable text → parsed_path text ≡ Ok text
parsed-walkable text walkable =
    let some = is_empty-false text walkable.not_empty in
    let short = is-false (nat_lt longest_path (length text)
    || list_any (λ word. nat_lt longest_name (length word)) (words text))
    (λ test. not_walkable text (IsTooLong-from_test text test) walkable) in
    rw (some, short) refl

module _ (looks : Looks ℕ) (task : Task ℕ) where
  -- the walk by words, of which the first comes first
  abbrev pub walked_from : Here ℕ → List (List ℕ) → Result (Here ℕ) Deny
  walked_from start ws = words_walked looks task (followed looks task) start (reverse ws)

  prefix_walked-rest : (start : Here ℕ) (ws : List (List ℕ))
      → prefix_walked looks task start ws ≡ words_walked looks task (followed looks task) start (rest_of ws)
  prefix_walked-rest start [] = refl
  prefix_walked-rest start (word ∷ front) = refl

  pub prefix_walked-split : (start : Here ℕ) (text : List ℕ) (front : List (List ℕ))
      → reverse front ≡ rest_of (reverse (words text))
      → walked_from start front ≡ prefix_walked looks task start (reverse (words text))
  prefix_walked-split start text front split = ap (words_walked looks task (followed looks task) start) split
      ∙ sym (prefix_walked-rest start (reverse (words text)))

  -- what is asked at the end of a walk
  abbrev pub slash_checked : List ℕ → Location ℕ → Result (Location ℕ) Deny
  slash_checked path here = unless (slash_rules nat_eq looks path here) (Ok here)

  abbrev pub directory_checked : Location ℕ → Result (Location ℕ) Deny
  directory_checked here = unless ((not (is_directory_at looks here), W3) ∷ []) (Ok here)

  pub slash-refused : (path : List ℕ) (here : Location ℕ) (deny : Deny)
      → Err deny ≡ unless {A = Unit {0}} (slash_rules nat_eq looks path here) (Ok tt)
      → Err deny ≡ slash_checked path here
  slash-refused path here deny e = unless-stopped (slash_rules nat_eq looks path here) (Ok here) deny e

  pub slash-passed : (path : List ℕ) (here : Location ℕ)
      → Ok tt ≡ unless {A = Unit {0}} (slash_rules nat_eq looks path here) (Ok tt) → Ok here ≡ slash_checked path here
  slash-passed path here e = sym (unless-let_through (slash_rules nat_eq looks path here) (Ok here) e)

  pub directory-refused : (here : Location ℕ) → is_directory_at looks here ≡ false
      → Err (denial W3) ≡ directory_checked here
  directory-refused here e = sym (ap (λ b. unless ((not b, W3) ∷ []) (Ok here)) e)

  pub directory-passed : (here : Location ℕ) → is_directory_at looks here ≡ true → Ok here ≡ directory_checked here
  directory-passed here e = sym (ap (λ b. unless ((not b, W3) ∷ []) (Ok here)) e)

  -- the end of a walk whose words are walked
  module _ (path : List ℕ) (walkable : IsWalkable path) (bytes : List ℕ) (same : bytes ≡ path) (start : Here ℕ)
      (begun : start ≡ walk_start task bytes) where
    begun-path : start ≡ walk_start task path
    begun-path = begun ∙ ap (walk_start task) same

    module _ (r : Result (Here ℕ) Deny) (ws : List (List ℕ)) (all : ws ≡ words path)
        (walked : r ≡ walked_from start ws) where
      path_walked-by : location_end r ≡ location_end (walk_end (path_walked nat_eq looks task path))
      path_walked-by = (λ i. location_end ((walked ∙ (λ j. walked_from (begun-path j) (all j))
          ∙ sym (all-plain looks task (walk_start task path) (reverse (words path)))) i))
          ∙ location-plain (Walking.words_walked nat_eq looks task (Walking.followed nat_eq looks task)
          (walk_start task path) (reverse (words path)))
          ∙ sym (ap (λ r. location_end (walk_end (then_walk (stopped_by [] r) (λ text.
          Walking.words_walked nat_eq looks task (Walking.followed nat_eq looks task) (walk_start task text)
          (reverse (words text)))))) (parsed-walkable path walkable))

      pub object_walk-by : and_then (location_end r) (slash_checked bytes)
          ≡ location_end (walk_end (object_walk nat_eq looks task path))
      object_walk-by = (λ i. and_then (path_walked-by i) (slash_checked (same i)))
          ∙ location-checked (path_walked nat_eq looks task path) (slash_rules nat_eq looks path) (λ here. here)

      pub directory_walk-by : and_then (location_end r) directory_checked
          ≡ location_end (walk_end (directory_walk nat_eq looks task path))
      directory_walk-by = (λ i. and_then (path_walked-by i) directory_checked)
          ∙ location-checked (path_walked nat_eq looks task path) (λ here. (not (is_directory_at looks here), W3) ∷ [])
          (λ here. here)

    module _ (r : Result (Here ℕ) Deny) (front : List (List ℕ)) (last : LastWord)
        (split : reverse front ≡ rest_of (reverse (words bytes))) (ends : last ≡ final_word (reverse (words bytes)))
        (walked : r ≡ walked_from start front) where
      prefix_walked-by : r ≡ prefix_walked looks task (walk_start task path) (reverse (words path))
      prefix_walked-by = walked ∙ prefix_walked-split start bytes front split
          ∙ (λ i. prefix_walked looks task (begun-path i) (reverse (words (same i))))

      last-by : last ≡ final_word (reverse (words path))
      last-by = ends ∙ ap (λ text. final_word (reverse (words text))) same

      pub symlink_walk-by : ends_in_slash path ≡ false
          → location_end (and_then r (λ here. last_walked looks task here last))
          ≡ location_end (walk_end (symlink_walk nat_eq looks task path))
      symlink_walk-by no_slash = (λ i. location_end (and_then ((prefix_walked-by
          ∙ sym (front-plain looks task (walk_start task path) (reverse (words path)))) i)
          (λ here. last_walked looks task here (last-by i)))) ∙ ap location_end (sym (last-of-plain looks task
          (Walking.prefix_walked nat_eq looks task (Walking.followed nat_eq looks task) (walk_start task path)
          (reverse (words path))) (final_word (reverse (words path)))))
          ∙ location-plain (then_walk (Walking.prefix_walked nat_eq looks task (Walking.followed nat_eq looks task)
          (walk_start task path) (reverse (words path))) (λ here.
          Walking.last_walked nat_eq looks task here (final_word (reverse (words path)))))
          ∙ sym (ap (λ r. location_end (walk_end (then_walk (stopped_by [] r) (λ text.
          then_walk (Walking.prefix_walked nat_eq looks task (Walking.followed nat_eq looks task) (walk_start task text)
          (reverse (words text))) (λ here.
          Walking.last_walked nat_eq looks task here (final_word (reverse (words text))))))))
          (parsed-walkable path walkable))
          ∙ sym (ap (λ b. location_end (walk_end (symlink_walk_by nat_eq b looks task path))) no_slash)

      pub place_walk-by : and_then r (λ here. placed looks task here.location last (ends_in_slash path))
          ≡ place_end (walk_end (place_walk nat_eq looks task path))
      place_walk-by = (λ i. and_then ((prefix_walked-by
          ∙ sym (front-plain looks task (walk_start task path) (reverse (words path)))) i)
          (λ here. placed looks task here.location (last-by i) (ends_in_slash path))) ∙ sym (placed-of-plain looks task
          (Walking.prefix_walked nat_eq looks task (Walking.followed nat_eq looks task) (walk_start task path)
          (reverse (words path))) (final_word (reverse (words path))) (ends_in_slash path))
          ∙ sym (ap (λ r. place_end (walk_end (then_walk (stopped_by [] r) (λ text.
          then_walk (Walking.prefix_walked nat_eq looks task (Walking.followed nat_eq looks task) (walk_start task text)
          (reverse (words text))) (λ here.
          Walking.placed nat_eq looks task here (final_word (reverse (words text))) (ends_in_slash text))))))
          (parsed-walkable path walkable))

  pub symlink_walk-slash : (path : List ℕ) → ends_in_slash path ≡ true
      → location_end (walk_end (object_walk nat_eq looks task path))
      ≡ location_end (walk_end (symlink_walk nat_eq looks task path))
  symlink_walk-slash path slash = sym
      (ap (λ b. location_end (walk_end (symlink_walk_by nat_eq b looks task path))) slash)

  -- A place, with what was asked of its directory
  module _ (here : Location ℕ) (word : LastWord) (slash : Bool) (some : is_no_word word ≡ false) where
    abbrev pub place_named : Result (Option (Location ℕ)) Deny → Result (Place ℕ) Deny
    place_named r = and_then r (λ object.
        Ok (record { parent = here; last = word; object = object; slash = slash; steps = [] }))

    placed-by : place_named (unless (search_rules nat_eq looks task here) (object_named nat_eq looks task here word))
        ≡ placed looks task here word slash
    placed-by = by word some
      where
        by : (word : LastWord) → is_no_word word ≡ false
            → and_then (unless (search_rules nat_eq looks task here) (object_named nat_eq looks task here word))
            (λ object. Ok (record { parent = here; last = word; object = object; slash = slash; steps = [] }))
            ≡ placed looks task here word slash
        by NoWord e = absurd cc
        by Dot e = refl
        by DotDot e = refl
        by (Named name) e = refl

    pub placed-refused : (deny : Deny) → Err deny ≡ unless {A = Unit {0}} (search_rules nat_eq looks task here) (Ok tt)
        → Err deny ≡ placed looks task here word slash
    placed-refused deny e = ap place_named
        (unless-stopped (search_rules nat_eq looks task here) (object_named nat_eq looks task here word) deny e)
        ∙ placed-by

    pub placed-searched : (r : Result (Option (Location ℕ)) Deny)
        → Ok tt ≡ unless {A = Unit {0}} (search_rules nat_eq looks task here) (Ok tt)
        → r ≡ object_named nat_eq looks task here word → place_named r ≡ placed looks task here word slash
    placed-searched r searched e = ap place_named (e ∙ sym (unless-let_through (search_rules nat_eq looks task here)
        (object_named nat_eq looks task here word) searched)) ∙ placed-by
