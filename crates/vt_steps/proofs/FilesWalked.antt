-- The walk to a name, and that to a file, once the words before the last are walked.
use Rattle.std.proofs.Common.{◌≡◌, ◌<◌, ◌-◌, ◌||◌, ℕ, suc, nat_eq, Bool, false, List, ◌∷◌, reverse, Result, Ok, Err, Some, None, sym, ap, ◌∙◌, arith}
use Rattle.vt_spec.proofs.Common.{Dot, DotDot, Here, LastWord, Looks, Named, NoWord, Place, Stop, Task, and_then, ends_in_slash, final_word, follow_rules, is_no_word, search_rules, stopped_by, symlink_of, symlink_there, then_walk, unless, walk_unless, words}
use Rattle.vt_spec.specs.Machine.Walking.{entered, file_or_symlink, file_walked, followed, met_at, object_named, placed, prefix_walked, symlink_start}
use Rattle.vt_spec.specs.declared.errors.Deny.{Deny}
use Rattle.vt_steps.specs.declared.here.Halt.{Halt}
use Rattle.vt_steps.specs.declared.here.Named.{Named as CodeNamed}
use Rattle.vt_steps.specs.StepsValue.{EndsAtPlace, EndsBy, here_of, place_of}
use Rattle.vt_steps.proofs.Endings.{ends-alike, ends-halted, ends-then}

-- a last word that is refused
module _ (looks : Looks ℕ) (task : Task ℕ) (here : Here ℕ) (steps : List (List ℕ)) (slash : Bool) (deny : Deny) where
  by-word : (word : LastWord) → steps ≡ met_at nat_eq looks task here.location word ∷ here.steps
      → Err deny ≡ unless (search_rules nat_eq looks task here.location)
      (object_named nat_eq looks task here.location word)
      → Path (Result (Place ℕ) (Stop ℕ)) (stopped_by (met_at nat_eq looks task here.location word ∷ here.steps)
      (and_then (unless (search_rules nat_eq looks task here.location)
      (object_named nat_eq looks task here.location word)) (λ object. Ok (record {
        parent = here.location;
        last = word;
        object = object;
        slash = slash;
        steps = met_at nat_eq looks task here.location word ∷ here.steps;
      })))) (Err (record { deny = deny; steps = steps }))
  by-word word more e = sym (λ i. stopped_by (more i) (and_then (e i) (λ object. Ok (record {
    parent = here.location;
    last = word;
    object = object;
    slash = slash;
    steps = more i;
  }))))

  pub place-refused : (word : LastWord) → is_no_word word ≡ false
      → steps ≡ met_at nat_eq looks task here.location word ∷ here.steps
      → Err deny ≡ unless (search_rules nat_eq looks task here.location)
      (object_named nat_eq looks task here.location word)
      → placed nat_eq looks task here word slash ≡ Err (record { deny = deny; steps = steps })
  place-refused NoWord some more e = absurd cc
  place-refused Dot some more e = by-word Dot more e
  place-refused DotDot some more e = by-word DotDot more e
  place-refused (Named name) some more e = by-word (Named name) more e

-- One turn of a walk to a file
module _ (looks : Looks ℕ) (task : Task ℕ) (depth : ℕ) (deep : 0 < depth) (start : Here ℕ) (text : List ℕ)
    (slash : Bool) where
  abbrev prefix : Result (Here ℕ) (Stop ℕ)
  prefix = prefix_walked nat_eq looks task (followed nat_eq looks task) start (reverse (words text))

  abbrev file : Result (Place ℕ) (Stop ℕ)
  file = file_walked nat_eq depth looks task start text slash

  abbrev begun_at : Here ℕ → Here ℕ → List ℕ → Result (Here ℕ) (Stop ℕ)
  begun_at here symlink inner = walk_unless symlink.steps (follow_rules nat_eq looks symlink inner)
      (symlink_start nat_eq looks task here.location symlink inner)

  abbrev gone_on : Bool → Here ℕ → Here ℕ → List ℕ → Result (Place ℕ) (Stop ℕ)
  gone_on wanted here symlink inner = then_walk (begun_at here symlink inner) (λ next.
      file_walked nat_eq (depth - 1) looks task next inner wanted)

  abbrev linked : Bool → Here ℕ → Place ℕ → Result (Place ℕ) (Stop ℕ)
  linked wanted here place = file_or_symlink nat_eq looks place (symlink_there nat_eq looks place)
      (gone_on wanted here (symlink_of here place))

  abbrev named : Bool → LastWord → Here ℕ → Result (Place ℕ) (Stop ℕ)
  named wanted last here = then_walk (placed nat_eq looks task here last wanted) (linked wanted here)

  one-turn : file ≡ then_walk prefix (named (slash || ends_in_slash text) (final_word (reverse (words text))))
  one-turn = let e : depth ≡ suc (depth - 1) = omega (arith, deep) in
      ap (λ d. file_walked nat_eq d looks task start text slash) e

  pub front-halted : (halt : Halt) → EndsBy here_of prefix (Err halt) → EndsAtPlace file (Err halt)
  front-halted halt ended = ends-alike place_of _ _ (Err halt) (sym one-turn) (ends-halted here_of place_of prefix
      (named (slash || ends_in_slash text) (final_word (reverse (words text)))) halt ended)

  module _ (wanted : Bool) (asks : wanted ≡ (slash || ends_in_slash text)) (last : LastWord)
      (ends : last ≡ final_word (reverse (words text))) (here : Here ℕ) (walked : prefix ≡ Ok here) where
    at-last : named wanted last here ≡ file
    at-last = (λ i. named (asks i) (ends i) here)
        ∙ sym (one-turn ∙ ap (λ r. then_walk r
        (named (slash || ends_in_slash text) (final_word (reverse (words text))))) walked)

    pub name-halted : (halt : Halt) → EndsBy place_of (placed nat_eq looks task here last wanted) (Err halt)
        → EndsAtPlace file (Err halt)
    name-halted halt ended = ends-alike place_of _ _ (Err halt) at-last
        (ends-halted place_of place_of (placed nat_eq looks task here last wanted) (linked wanted here) halt ended)

    module _ (place : Place ℕ) (put : placed nat_eq looks task here last wanted ≡ Ok place) where
      at-place : linked wanted here place ≡ file
      at-place = sym (ap (λ r. then_walk r (linked wanted here)) put) ∙ at-last

      pub file-ended : None ≡ symlink_there nat_eq looks place → file ≡ Ok (entered nat_eq looks place)
      file-ended none = sym (ap (λ t. file_or_symlink nat_eq looks place t
          (gone_on wanted here (symlink_of here place))) none ∙ at-place)

      module _ (inner : List ℕ) (there : Some inner ≡ symlink_there nat_eq looks place) (symlink : Here ℕ)
          (same : symlink ≡ symlink_of here place) where
        at-link : gone_on wanted here symlink inner ≡ file
        at-link = ap (λ s. gone_on wanted here s inner) same
            ∙ ap (λ t. file_or_symlink nat_eq looks place t (gone_on wanted here (symlink_of here place))) there
            ∙ at-place

        pub link-halted : (halt : Halt) → EndsBy here_of (begun_at here symlink inner) (Err halt)
            → EndsAtPlace file (Err halt)
        link-halted halt ended = ends-alike place_of _ _ (Err halt) at-link
            (ends-halted here_of place_of (begun_at here symlink inner)
            (λ next. file_walked nat_eq (depth - 1) looks task next inner wanted) halt ended)

        pub link-gone : (next : Here ℕ) (result : Result CodeNamed Halt) → begun_at here symlink inner ≡ Ok next
            → EndsAtPlace (file_walked nat_eq (depth - 1) looks task next inner wanted) result
            → EndsAtPlace file result
        link-gone next result begun ended = ends-alike place_of _ _ result at-link (ends-then place_of
            (begun_at here symlink inner) (λ next. file_walked nat_eq (depth - 1) looks task next inner wanted)
            next result begun ended)
