-- What a walk met it has met after each further word.
use Rattle.std.proofs.Common.{arith, inr, ℕ, zero, suc, nat_eq, Bool, true, false, cond, List, [], ◌∷◌, ◌||◌, Option, Some, None, Ok, Err, Result, flat_map}
use Rattle.vt_spec.proofs.Common.{Among, Dot, DotDot, Here, LastWord, Location, Looks, Named, NoWord, Place, Rules, Stop, Task, all_met, also_met, among-append, among-append_left, among-append_right, and_then, common_steps, ends_in_slash, entered, entered_mounts, filesystems_of, follow_rules, is_no_word, last_word, met_at, met_by, object_named, placed, search_rules, stepped, steps_at, steps_with, stopped_by, symlink_of, symlink_start, symlink_there, then_walk, unless, walk_unless, word_walked}
use Rattle.vt_laws_turns.proofs.Common.{Deny}
use Rattle.vt_laws_turns.specs.Walks.ByWords.{steps_of}
use Rattle.vt_laws_turns.specs.Walks.Walkers.{Last, Pending, Walk, arrived, ended, first_words, gone_on, last_of, last_step, one_word, opened, text_word, walked_on}
use Rattle.vt_laws_turns.specs.Walks.Walkers.Last.{AsFile, AsName, AsOthers, NotFollowed}
use Rattle.vt_laws_turns.specs.Walks.Walkers.Walk.{Goes, Names, Reaches}

-- a filesystem is one of those met
abbrev pub Met : ℕ → List (List ℕ) → Type 0
Met f steps = Among f (flat_map (λ met. met) steps)

abbrev pub Sees : ℕ → Result (Walk ℕ) (Stop ℕ) → Type 0
Sees f walk = Met f (steps_of walk)

-- what the next word of a walk meets
abbrev last_met : Looks ℕ → Task ℕ → Location ℕ → Last → List ℕ
last_met looks task here AsOthers = []
last_met looks task here (NotFollowed NoWord) = []
last_met looks task here (NotFollowed word) = met_by nat_eq looks task here word
last_met looks task here (AsName NoWord slash) = []
last_met looks task here (AsName word slash) = met_at nat_eq looks task here word
last_met looks task here (AsFile NoWord slash) = []
last_met looks task here (AsFile word slash) = met_at nat_eq looks task here word

abbrev text_met : Looks ℕ → Task ℕ → Location ℕ → List (List ℕ) → List ℕ
text_met looks task here [] = []
text_met looks task here (word ∷ words) = met_by nat_eq looks task here (last_word word)

abbrev pub met_next : Looks ℕ → Task ℕ → Location ℕ → List Pending → Last → List ℕ
met_next looks task here [] last = last_met looks task here last
met_next looks task here (text ∷ others) last = text_met looks task here text.words

module _ (f : ℕ) where
  abbrev SeesHere : Result (Here ℕ) (Stop ℕ) → Type 0
  SeesHere (Ok here) = Met f here.steps
  SeesHere (Err stop) = Met f stop.steps

  abbrev SeesPlace : Result (Place ℕ) (Stop ℕ) → Type 0
  SeesPlace (Ok place) = Met f place.steps
  SeesPlace (Err stop) = Met f stop.steps

  here_then : (a : Result (Here ℕ) (Stop ℕ)) (g : Here ℕ → Result (Walk ℕ) (Stop ℕ)) → SeesHere a
      → ((here : Here ℕ) → Met f here.steps → Sees f (g here)) → Sees f (then_walk a g)
  here_then (Ok here) g sees next = next here sees
  here_then (Err stop) g sees next = sees

  place_then : (a : Result (Place ℕ) (Stop ℕ)) (g : Place ℕ → Result (Walk ℕ) (Stop ℕ)) → SeesPlace a
      → ((place : Place ℕ) → Met f place.steps → Sees f (g place)) → Sees f (then_walk a g)
  place_then (Ok place) g sees next = next place sees
  place_then (Err stop) g sees next = sees

  unless_then : (steps : List (List ℕ)) (rules : Rules) (here : Here ℕ) (g : Here ℕ → Result (Walk ℕ) (Stop ℕ))
      → Met f steps → Sees f (g here) → Sees f (then_walk (walk_unless steps rules here) g)
  unless_then steps [] here g met next = next
  unless_then steps ((true, rule) ∷ rules) here g met next = met
  unless_then steps ((false, rule) ∷ rules) here g met next = unless_then steps rules here g met next

  also_sees : (filesystem : ℕ) (steps : List (List ℕ)) → Met f steps → Met f (also_met filesystem steps)
  also_sees filesystem [] met = met
  also_sees filesystem (first ∷ steps) met = inr met

  all_sees : (filesystems : List ℕ) (steps : List (List ℕ)) → Met f steps → Met f (all_met filesystems steps)
  all_sees filesystems [] met = met
  all_sees filesystems (first ∷ steps) met =
      grind (arith, common_steps, among-append_left, among-append_right, among-append)

  module _ (looks : Looks ℕ) (task : Task ℕ) where
    walked_sees : (left : ℕ) (steps : List (List ℕ)) (rules : Rules) (found : Result (Location ℕ) Deny) → Met f steps
        → SeesHere (stopped_by steps (and_then (unless rules found)
        (λ reached. Ok (record { location = reached; left = left; steps = steps }))))
    walked_sees left steps [] (Ok reached) met = met
    walked_sees left steps [] (Err deny) met = met
    walked_sees left steps ((true, rule) ∷ rules) found met = met
    walked_sees left steps ((false, rule) ∷ rules) found met = walked_sees left steps rules found met

    word_sees : (here : Here ℕ) (word : LastWord) → Met f (steps_with nat_eq looks task here word)
        → SeesHere (word_walked nat_eq looks task here word)
    word_sees here word met =
        walked_sees here.left (steps_with nat_eq looks task here word) (search_rules nat_eq looks task here.location)
        (stepped nat_eq looks task here.location word) met

    named_sees : (steps : List (List ℕ)) (rules : Rules) (found : Result (Option (Location ℕ)) Deny)
        (place : Option (Location ℕ) → Place ℕ) → ((o : Option (Location ℕ)) → Met f (place o).steps) → Met f steps
        → SeesPlace (stopped_by steps (and_then (unless rules found) (λ o. Ok (place o))))
    named_sees steps [] (Ok o) place all met = all o
    named_sees steps [] (Err deny) place all met = met
    named_sees steps ((true, rule) ∷ rules) found place all met = met
    named_sees steps ((false, rule) ∷ rules) found place all met = named_sees steps rules found place all met

    place_at : Here ℕ → LastWord → Bool → Option (Location ℕ) → Place ℕ
    place_at here word slash object = record {
      parent = here.location;
      last = word;
      object = object;
      slash = slash;
      steps = steps_at nat_eq looks task here word;
    }

    placed_sees : (here : Here ℕ) (word : LastWord) (slash : Bool)
        → Met f (cond (is_no_word word) here.steps (steps_at nat_eq looks task here word))
        → SeesPlace (placed nat_eq looks task here word slash)
    unfolding place_at
    placed_sees here NoWord slash met = met
    placed_sees here Dot slash met =
        named_sees (steps_at nat_eq looks task here Dot) (search_rules nat_eq looks task here.location)
        (object_named nat_eq looks task here.location Dot) (place_at here Dot slash) (λ o. met) met
    placed_sees here DotDot slash met =
        named_sees (steps_at nat_eq looks task here DotDot) (search_rules nat_eq looks task here.location)
        (object_named nat_eq looks task here.location DotDot) (place_at here DotDot slash) (λ o. met) met
    placed_sees here (Named name) slash met =
        named_sees (steps_at nat_eq looks task here (Named name)) (search_rules nat_eq looks task here.location)
        (object_named nat_eq looks task here.location (Named name)) (place_at here (Named name) slash) (λ o. met) met

    -- one word more was met, if it is one
    more_met : (here : Here ℕ) (word : LastWord) → Met f here.steps
        → Met f (cond (is_no_word word) here.steps (steps_at nat_eq looks task here word))
    more_met here word met = grind (arith, common_steps, among-append_right)

    entered_sees : (place : Place ℕ) → Met f place.steps → Met f (entered nat_eq looks place).steps
    entered_sees place met = all_sees (filesystems_of nat_eq looks (entered_mounts nat_eq looks place)) place.steps met

    ended_sees : (here : Here ℕ) (last : Last) → Met f here.steps → Sees f (ended nat_eq looks task here last)
    ended_sees here last met = grind (arith, common_steps, place_then, placed_sees, more_met, entered_sees)

    gone_on_sees : (pending : List Pending) (here : Here ℕ) (last : Last) → Met f here.steps
        → Sees f (gone_on nat_eq looks task here pending last)
    gone_on_sees [] here last met = grind (arith, common_steps, ended_sees)
    gone_on_sees (text ∷ others) here last met =
        grind (arith, common_steps, unless_then, gone_on_sees others here last met)

    start_sees : (directory : Location ℕ) (symlink : Here ℕ) (text : List ℕ) → Met f symlink.steps
        → Met f (symlink_start nat_eq looks task directory symlink text).steps
    start_sees directory symlink text met = grind (arith, common_steps, also_sees)

    arrived_sees : (directory : Location ℕ) (next : Here ℕ) (pending : List Pending) (last : Last) → Met f next.steps
        → (text : Option (List ℕ)) → Sees f (arrived nat_eq looks task directory next pending last text)
    arrived_sees directory next pending last met text =
        search (arith, common_steps, gone_on_sees, unless_then, start_sees)

    opened_sees : (here : Here ℕ) (place : Place ℕ) (slash : Bool) → Met f place.steps → (text : Option (List ℕ))
        → Sees f (opened nat_eq looks task here place slash text)
    opened_sees here place slash met None = entered_sees place met
    opened_sees here place slash met (Some text) =
        unless_then place.steps (follow_rules nat_eq looks (symlink_of here place) text)
        (symlink_start nat_eq looks task here.location (symlink_of here place) text)
        (λ start. gone_on nat_eq looks task start (first_words text ∷ [])
        (AsFile (last_of text) (slash || ends_in_slash text))) met
        (gone_on_sees (first_words text ∷ []) (symlink_start nat_eq looks task here.location
        (symlink_of here place) text) (AsFile (last_of text) (slash || ends_in_slash text))
        (start_sees here.location (symlink_of here place) text met))

    abbrev AfterNext : Here ℕ → List Pending → Last → Type 0
    AfterNext here pending last = Met f (met_next looks task here.location pending last ∷ here.steps)

    last_sees : (here : Here ℕ) (last : Last) → AfterNext here [] last → Sees f (last_step nat_eq looks task here last)
    last_sees here AsOthers met = met
    last_sees here (NotFollowed NoWord) met = met
    last_sees here (NotFollowed Dot) met =
        here_then (word_walked nat_eq looks task here Dot) (λ next. Ok (Reaches next)) (word_sees here Dot met)
        (λ next m. m)
    last_sees here (NotFollowed DotDot) met =
        here_then (word_walked nat_eq looks task here DotDot) (λ next. Ok (Reaches next)) (word_sees here DotDot met)
        (λ next m. m)
    last_sees here (NotFollowed (Named name)) met =
        here_then (word_walked nat_eq looks task here (Named name)) (λ next. Ok (Reaches next))
        (word_sees here (Named name) met) (λ next m. m)
    last_sees here (AsName NoWord slash) met =
        place_then (placed nat_eq looks task here NoWord slash) (λ place. Ok (Names place))
        (placed_sees here NoWord slash met) (λ place m. m)
    last_sees here (AsName Dot slash) met =
        place_then (placed nat_eq looks task here Dot slash) (λ place. Ok (Names place))
        (placed_sees here Dot slash met) (λ place m. m)
    last_sees here (AsName DotDot slash) met =
        place_then (placed nat_eq looks task here DotDot slash) (λ place. Ok (Names place))
        (placed_sees here DotDot slash met) (λ place m. m)
    last_sees here (AsName (Named name) slash) met =
        place_then (placed nat_eq looks task here (Named name) slash) (λ place. Ok (Names place))
        (placed_sees here (Named name) slash met) (λ place m. m)
    last_sees here (AsFile NoWord slash) met = place_then (placed nat_eq looks task here NoWord slash)
        (λ place. opened nat_eq looks task here place slash (symlink_there nat_eq looks place))
        (placed_sees here NoWord slash met)
        (λ place m. opened_sees here place slash m (symlink_there nat_eq looks place))
    last_sees here (AsFile Dot slash) met = place_then (placed nat_eq looks task here Dot slash)
        (λ place. opened nat_eq looks task here place slash (symlink_there nat_eq looks place))
        (placed_sees here Dot slash met) (λ place m. opened_sees here place slash m (symlink_there nat_eq looks place))
    last_sees here (AsFile DotDot slash) met = place_then (placed nat_eq looks task here DotDot slash)
        (λ place. opened nat_eq looks task here place slash (symlink_there nat_eq looks place))
        (placed_sees here DotDot slash met)
        (λ place m. opened_sees here place slash m (symlink_there nat_eq looks place))
    last_sees here (AsFile (Named name) slash) met = place_then (placed nat_eq looks task here (Named name) slash)
        (λ place. opened nat_eq looks task here place slash (symlink_there nat_eq looks place))
        (placed_sees here (Named name) slash met)
        (λ place m. opened_sees here place slash m (symlink_there nat_eq looks place))

    text_sees : (here : Here ℕ) (list : List (List ℕ)) (slash : Bool) (others : List Pending) (last : Last)
        → Met f (text_met looks task here.location list ∷ here.steps)
        → Sees f (text_word nat_eq looks task here list slash others last)
    text_sees here list slash others last met =
        grind (arith, common_steps, gone_on_sees, here_then, word_sees, arrived_sees)

    -- one word
    pub word_by_sees : (here : Here ℕ) (pending : List Pending) (last : Last) → AfterNext here pending last
        → Sees f (one_word nat_eq looks task (record { here = here; pending = pending; last = last }))
    word_by_sees here [] last met = last_sees here last met
    word_by_sees here (text ∷ others) last met = text_sees here text.words text.slash others last met

    -- and several
    pub walked_on_sees : (count : ℕ) (walk : Walk ℕ) → Sees f (Ok walk)
        → Sees f (walked_on nat_eq count looks task walk)
    walked_on_sees zero walk sees = sees
    walked_on_sees (suc count) (Goes walker) sees = by (one_word nat_eq looks task walker)
        (word_by_sees walker.here walker.pending walker.last
        (among-append_right (met_next looks task walker.here.location walker.pending walker.last)
        (flat_map (λ met. met) walker.here.steps) f sees)) (walked_on_sees count)
      where
        by : (a : Result (Walk ℕ) (Stop ℕ)) → Sees f a
            → ((walk : Walk ℕ) → Sees f (Ok walk) → Sees f (walked_on nat_eq count looks task walk))
            → Sees f (then_walk a (walked_on nat_eq count looks task))
        by (Ok walk) s later = later walk s
        by (Err stop) s later = s
    walked_on_sees (suc count) (Reaches here) sees = sees
    walked_on_sees (suc count) (Names place) sees = sees
