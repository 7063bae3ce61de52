-- The turns of a file walk, each the walk of a path or of a final link's text.
use Rattle.std.proofs.Common.{nat_eq, true, not, is_some, ◌&&◌, [], ◌∷◌, refl, ◌≡◌, ℕ, suc, ◌+◌, ◌-◌, ◌<◌, ◌≤◌, Bool, false, List, None, Some, Result, Ok, Err, sym, ap, ◌∙◌, arith, reverse, ◌||◌}
use Rattle.vt_spec.proofs.Common.{Here, LastWord, Looks, Place, Task, and_then, denial, ends_in_slash, file_walk, final_word, follow_rules, rest_of, stopped_by, symlink_of, symlink_there, then_walk, unless, unless-refused, walk_end, walk_start, walk_unless, words}
use Rattle.vt_spec.specs.Machine.Walking
use Rattle.vt_spec.specs.Machine.Walking.{new_name_rules}
use Rattle.vt_walk.specs.PlainWalks.{entered, file_or_symlink, file_walked, prefix_walked, placed, symlink_start}
use Rattle.vt_spec.specs.declared.errors.Deny.{Deny}
use Rattle.vt_spec.specs.declared.errors.Rule.TheVariants.{W7, W8}
use Rattle.vt_walk.proofs.RefusalLemmas.{unless-answer}
use Rattle.vt_walk.proofs.Trails.{file-plain, place-checked}
use Rattle.vt_walk.proofs.WalksOfPaths.{prefix_walked-split, parsed-walkable, walked_from}
use Rattle.vt_text.specs.Walkable.{IsWalkable}
use Rattle.vt_walk.specs.WalkValue.{place_end}
use Rattle.vt_spec.proofs.Refusals.{unless-passed}

module _ (looks : Looks ℕ) (task : Task ℕ) where
  -- what is done at a place: a link there is followed
  abbrev pub linked : ℕ → Here ℕ → Bool → Place ℕ → Result (Place ℕ) Deny
  linked depth here slash place = file_or_symlink looks place (symlink_there nat_eq looks place) (λ inner.
      unless (follow_rules nat_eq looks (symlink_of here place) inner)
      (file_walked looks task depth (symlink_start looks task here.location (symlink_of here place) inner) inner slash))

  abbrev pub last_put : ℕ → Bool → LastWord → Here ℕ → Result (Place ℕ) Deny
  last_put depth slash last here = and_then (placed looks task here.location last slash) (linked depth here slash)

  -- the first turn
  pub file_walk-begun : (path bytes : List ℕ) (start : Here ℕ) → bytes ≡ path → start ≡ walk_start task bytes
      → file_walked looks task 41 start bytes false ≡ file_walked looks task 41 (walk_start task path) path false
  file_walk-begun path bytes start same begun =
      (λ i. file_walked looks task 41 ((begun ∙ ap (walk_start task) same) i) (same i) false)

  -- after the last
  pub file_walk-over : (turn : ℕ) (start : Here ℕ) (text : List ℕ) (slash : Bool) → 41 ≤ turn
      → Err (denial W7) ≡ file_walked looks task (41 - turn) start text slash
  file_walk-over turn start text slash over =
      let none : 0 ≡ 41 - turn = omega arith in
      ap (λ depth. file_walked looks task depth start text slash) none

  module _ (turn : ℕ) (below : turn < 41) (start : Here ℕ) (text : List ℕ) (slash : Bool) where
    one-turn : file_walked looks task (41 - turn) start text slash
        ≡ and_then (prefix_walked looks task start (reverse (words text)))
        (last_put (41 - (turn + 1)) (slash || ends_in_slash text) (final_word (reverse (words text))))
    one-turn =
        let some : 41 - turn ≡ suc (41 - (turn + 1)) = omega arith in
        ap (λ depth. file_walked looks task depth start text slash) some

    module _ (wanted : Bool) (asked : wanted ≡ (slash || ends_in_slash text)) (front : List (List ℕ)) (last : LastWord)
        (split : reverse front ≡ rest_of (reverse (words text))) (ends : last ≡ final_word (reverse (words text))) where
      pub file_walked-by : (r : Result (Here ℕ) Deny) → r ≡ walked_from looks task start front
          → and_then r (last_put (41 - (turn + 1)) wanted last) ≡ file_walked looks task (41 - turn) start text slash
      file_walked-by r walked = (λ i. and_then ((walked ∙ prefix_walked-split looks task start text front split) i)
          (last_put (41 - (turn + 1)) (asked i) (ends i))) ∙ sym one-turn

      module _ (here : Here ℕ) (walked : Ok here ≡ walked_from looks task start front) where
        pub place-refused : (deny : Deny) → Err deny ≡ placed looks task here.location last wanted
            → Err deny ≡ file_walked looks task (41 - turn) start text slash
        place-refused deny e = ap (λ p. and_then p (linked (41 - (turn + 1)) here wanted)) e
            ∙ file_walked-by (Ok here) walked

        module _ (place : Place ℕ) (put : Ok place ≡ placed looks task here.location last wanted) where
          at_place : (answer : Result (Place ℕ) Deny) → answer ≡ linked (41 - (turn + 1)) here wanted place
              → answer ≡ file_walked looks task (41 - turn) start text slash
          at_place answer e =
              e ∙ ap (λ p. and_then p (linked (41 - (turn + 1)) here wanted)) put ∙ file_walked-by (Ok here) walked

          -- no link stands there
          pub place-ended : None ≡ symlink_there nat_eq looks place
              → Ok (entered looks place) ≡ file_walked looks task (41 - turn) start text slash
          place-ended none = at_place (Ok (entered looks place)) (ap (λ t. file_or_symlink looks place t (λ inner.
              unless (follow_rules nat_eq looks (symlink_of here place) inner) (file_walked looks task (41 - (turn + 1))
              (symlink_start looks task here.location (symlink_of here place) inner) inner wanted))) none)

          -- a link stands there
          module _ (inner : List ℕ) (link : Here ℕ) (linked_there : Some inner ≡ symlink_there nat_eq looks place)
              (link-same : link ≡ symlink_of here place) where
            through : (answer : Result (Place ℕ) Deny) → answer ≡ unless (follow_rules nat_eq looks link inner)
                (file_walked looks task (41 - (turn + 1))
                (symlink_start looks task here.location link inner) inner wanted)
                → answer ≡ file_walked looks task (41 - turn) start text slash
            through answer e = at_place answer (e ∙ ap (λ l. unless (follow_rules nat_eq looks l inner)
                (file_walked looks task (41 - (turn + 1))
                (symlink_start looks task here.location l inner) inner wanted)) link-same
                ∙ ap (λ t. file_or_symlink looks place t (λ inner.
                unless (follow_rules nat_eq looks (symlink_of here place) inner)
                (file_walked looks task (41 - (turn + 1))
                (symlink_start looks task here.location (symlink_of here place) inner) inner wanted))) linked_there)

            pub link-refused : (deny : Deny) → Err deny ≡ unless (follow_rules nat_eq looks link inner)
                (Ok (symlink_start looks task here.location link inner))
                → Err deny ≡ file_walked looks task (41 - turn) start text slash
            link-refused deny e = through (Err deny) (sym (unless-refused (follow_rules nat_eq looks link inner)
                (symlink_start looks task here.location link inner) _ deny (sym e)))

            pub next-turn : (next : Here ℕ) → Ok next ≡ unless (follow_rules nat_eq looks link inner)
                (Ok (symlink_start looks task here.location link inner))
                → file_walked looks task (41 - (turn + 1)) next inner wanted
                ≡ file_walked looks task (41 - turn) start text slash
            next-turn next e = through (file_walked looks task (41 - (turn + 1)) next inner wanted)
                (ap (λ s. file_walked looks task (41 - (turn + 1)) s inner wanted)
                (sym (unless-answer (follow_rules nat_eq looks link inner)
                (symlink_start looks task here.location link inner) next (sym e)))
                ∙ sym (unless-passed (follow_rules nat_eq looks link inner)
                (symlink_start looks task here.location link inner) next _ (sym e)))

-- The whole walk, with what is asked at its end
module _ (looks : Looks ℕ) (task : Task ℕ) (path : List ℕ) (walkable : IsWalkable path) where
  pub file_walk-by : (r : Result (Place ℕ) Deny) → r ≡ file_walked looks task 41 (walk_start task path) path false
      → and_then r (λ place. unless (new_name_rules nat_eq looks place) (Ok place))
      ≡ place_end (walk_end (file_walk nat_eq looks task path))
  file_walk-by r e = (λ i. and_then ((e ∙ sym (file-plain looks task 41 (walk_start task path) path false)) i)
      (λ place. unless (new_name_rules nat_eq looks place) (Ok place)))
      ∙ place-checked (Walking.file_walked nat_eq 41 looks task (walk_start task path) path false)
      (new_name_rules nat_eq looks) (λ place. refl)
      ∙ sym (ap (λ r. place_end (walk_end (then_walk (stopped_by [] r) (λ text.
      then_walk (Walking.file_walked nat_eq 41 looks task (walk_start task text) text false)
      (λ place. walk_unless place.steps (new_name_rules nat_eq looks place) place))))) (parsed-walkable path walkable))

  -- a name is missing in a removed directory, or not
  module _ (place : Place ℕ) (walked : Ok place ≡ file_walked looks task 41 (walk_start task path) path false)
      (lacks : Bool) (is : lacks ≡ (not (is_some place.object) && looks.is_removed place.parent)) where
    by_test : unless ((lacks, W8) ∷ []) (Ok place) ≡ place_end (walk_end (file_walk nat_eq looks task path))
    by_test = ap (λ b. unless ((b, W8) ∷ []) (Ok place)) is ∙ file_walk-by (Ok place) walked

    pub new-refused : lacks ≡ true → Err (denial W8) ≡ place_end (walk_end (file_walk nat_eq looks task path))
    new-refused e = sym (ap (λ b. unless ((b, W8) ∷ []) (Ok place)) e) ∙ by_test

    pub new-passed : lacks ≡ false → Ok place ≡ place_end (walk_end (file_walk nat_eq looks task path))
    new-passed e = sym (ap (λ b. unless ((b, W8) ∷ []) (Ok place)) e) ∙ by_test
