-- What a walk meets is seen by its task.
use Rattle.std.proofs.Common.{◌≡◌, refl, sym, subst, ⊎_elim, ℕ, zero, suc, nat_eq, Bool, true, false, cond, List, [], ◌∷◌, ◌++◌, ◌||◌, Option, Some, None, Ok, Err, Result, flat_map, length, arith, option_to_list}
use Rattle.vt_spec.proofs.Common.{Among, Dot, DotDot, Here, IsWorld, LastWord, Location, Looks, Named, NoWord, Place, Rules, Stop, Task, World, all_met, also_met, among-append, among-append_left, among-append_right, among_from_contains, and_then, common_steps, ends_in_slash, entered, entered_mounts, filesystems_of, follow_rules, is_special, last_word, object_named, parsed_path, placed, search_rules, stepped, steps_at, steps_with, stopped_by, symlink_of, symlink_start, symlink_text, symlink_there, task_called, then_walk, unless, walk_start, walk_unless, word_walked}
use Rattle.vt_laws_turns.proofs.Common.{Deny, directory_ground, own_directory_found, root_found, root_ground, start_ground, step_ground}
use Rattle.vt_laws_turns.specs.Walks.ByWords.{Aim, StandsOnDirectories, begun, last_for, pending_for, steps_of, whole_walk}
use Rattle.vt_laws_turns.specs.Walks.HalfWalks.{met_in, words_walked_in}
use Rattle.vt_laws_turns.specs.Walks.Walkers.{Last, Pending, Walk, all_words, arrived, ended, first_words, gone_on, last_of, last_step, one_word, opened, text_word, walked_on}
use Rattle.vt_laws_turns.specs.Walks.Walkers.Last.{AsFile, AsName, AsOthers, NotFollowed}
use Rattle.vt_laws_turns.specs.Walks.Walkers.Walk.{Goes, Names, Reaches}
use Rattle.vt_laws_turns.proofs.walks.alike.Seeing.{Met}
use Rattle.vt_laws_turns.proofs.walks.by_words.Whole.{all_words_are_the_walk}
use Rattle.vt_laws_turns.specs.Holds.Held.{WordsMeetWhatIsSeen}
use Rattle.vt_laws_turns.proofs.holds.Grounds.{OnGround, Seen, looks, met_at_seen, met_seen, named_ground, object_ground, shown_on, shown_seen, there}

module _ (world : World ℕ) (is : IsWorld nat_eq world) (task : Task ℕ)
    (called : task_called world task.name ≡ Some task) where
  abbrev sees : Looks ℕ
  sees = looks world is task called

  abbrev Ground : Location ℕ → Type 0
  Ground = OnGround world is task called

  abbrev pub SeenOne : ℕ → Type 0
  SeenOne = Seen world is task called

  -- all that was met is seen
  abbrev pub AllSeen : List (List ℕ) → Type 0
  AllSeen steps = (f : ℕ) → Met f steps → SeenOne f

  abbrev FineHere : Result (Here ℕ) (Stop ℕ) → Type 0
  FineHere (Ok here) = Ground here.location × AllSeen here.steps
  FineHere (Err stop) = AllSeen stop.steps

  abbrev ObjectGround : Option (Location ℕ) → Type 0
  ObjectGround object = (l : Location ℕ) → object ≡ Some l → Ground l

  abbrev FinePlace : Result (Place ℕ) (Stop ℕ) → Type 0
  FinePlace (Ok place) = ObjectGround place.object × AllSeen place.steps
  FinePlace (Err stop) = AllSeen stop.steps

  abbrev pub Fine : Result (Walk ℕ) (Stop ℕ) → Type 0
  Fine (Ok (Goes walker)) = Ground walker.here.location × AllSeen walker.here.steps
  Fine (Ok (Reaches here)) = AllSeen here.steps
  Fine (Ok (Names place)) = AllSeen place.steps
  Fine (Err stop) = AllSeen stop.steps

  here_then : (a : Result (Here ℕ) (Stop ℕ)) (g : Here ℕ → Result (Walk ℕ) (Stop ℕ)) → FineHere a
      → ((here : Here ℕ) → Ground here.location → AllSeen here.steps → Fine (g here)) → Fine (then_walk a g)
  here_then (Ok here) g fine next = next here fine.0 fine.1
  here_then (Err stop) g fine next = fine

  place_then : (a : Result (Place ℕ) (Stop ℕ)) (g : Place ℕ → Result (Walk ℕ) (Stop ℕ)) → FinePlace a
      → ((place : Place ℕ) → ObjectGround place.object → AllSeen place.steps → Fine (g place)) → Fine (then_walk a g)
  place_then (Ok place) g fine next = next place fine.0 fine.1
  place_then (Err stop) g fine next = fine

  unless_then : (steps : List (List ℕ)) (rules : Rules) (here : Here ℕ) (g : Here ℕ → Result (Walk ℕ) (Stop ℕ))
      → AllSeen steps → Fine (g here) → Fine (then_walk (walk_unless steps rules here) g)
  unless_then steps [] here g seen next = next
  unless_then steps ((true, rule) ∷ rules) here g seen next = seen
  unless_then steps ((false, rule) ∷ rules) here g seen next = unless_then steps rules here g seen next

  -- What is met more

  more_seen : (met : List ℕ) (steps : List (List ℕ)) → ((f : ℕ) → Among f met → SeenOne f) → AllSeen steps
      → AllSeen (met ∷ steps)
  more_seen met steps now before f m = ⊎_elim (now f) (before f) (among-append met (flat_map (λ l. l) steps) f m)

  also_seen : (filesystem : ℕ) (steps : List (List ℕ)) → SeenOne filesystem → AllSeen steps
      → AllSeen (also_met filesystem steps)
  also_seen filesystem [] now before f m = before f m
  also_seen filesystem (first ∷ steps) now before f m = ⊎_elim (λ e. subst SeenOne (sym e) now) (λ n. before f n) m

  all_seen : (filesystems : List ℕ) (steps : List (List ℕ)) → ((f : ℕ) → Among f filesystems → SeenOne f)
      → AllSeen steps → AllSeen (all_met filesystems steps)
  all_seen filesystems [] now before f m = before f m
  all_seen filesystems (first ∷ steps) now before f m = ⊎_elim
      (λ n. ⊎_elim (now f) (λ k. before f (among-append_left first (flat_map (λ l. l) steps) f k))
      (among-append filesystems first f n)) (λ n. before f (among-append_right first (flat_map (λ l. l) steps) f n))
      (among-append (filesystems ++ first) (flat_map (λ l. l) steps) f m)

  -- One step

  walked_fine : (left : ℕ) (steps : List (List ℕ)) (rules : Rules) (found : Result (Location ℕ) Deny)
      → ((l : Location ℕ) → found ≡ Ok l → Ground l) → AllSeen steps
      → FineHere (stopped_by steps (and_then (unless rules found)
      (λ reached. Ok (record { location = reached; left = left; steps = steps }))))
  walked_fine left steps [] (Ok reached) ground seen = (ground reached refl, seen)
  walked_fine left steps [] (Err deny) ground seen = seen
  walked_fine left steps ((true, rule) ∷ rules) found ground seen = seen
  walked_fine left steps ((false, rule) ∷ rules) found ground seen = walked_fine left steps rules found ground seen

  word_fine : (here : Here ℕ) (word : LastWord) → Ground here.location → AllSeen here.steps
      → FineHere (word_walked nat_eq sees task here word)
  word_fine here word ground seen =
      walked_fine here.left (steps_with nat_eq sees task here word) (search_rules nat_eq sees task here.location)
      (stepped nat_eq sees task here.location word)
      (λ l e. step_ground world is task (there world is task called) here.location l word ground e)
      (more_seen _ here.steps (met_seen world is task called here.location word ground) seen)

  named_fine : (steps : List (List ℕ)) (rules : Rules) (found : Result (Option (Location ℕ)) Deny)
      (place : Option (Location ℕ) → Place ℕ)
      → ((o : Option (Location ℕ)) → found ≡ Ok o → FinePlace (Ok (place o))) → AllSeen steps
      → FinePlace (stopped_by steps (and_then (unless rules found) (λ o. Ok (place o))))
  named_fine steps [] (Ok o) place fine seen = fine o refl
  named_fine steps [] (Err deny) place fine seen = seen
  named_fine steps ((true, rule) ∷ rules) found place fine seen = seen
  named_fine steps ((false, rule) ∷ rules) found place fine seen = named_fine steps rules found place fine seen

  place_at : Here ℕ → LastWord → Bool → Option (Location ℕ) → Place ℕ
  place_at here word slash object = record {
    parent = here.location;
    last = word;
    object = object;
    slash = slash;
    steps = steps_at nat_eq sees task here word;
  }

  at_fine : (here : Here ℕ) (word : LastWord) (slash : Bool) → Ground here.location → AllSeen here.steps
      → FinePlace (stopped_by (steps_at nat_eq sees task here word)
      (and_then (unless (search_rules nat_eq sees task here.location)
      (object_named nat_eq sees task here.location word)) (λ o. Ok (place_at here word slash o))))
  unfolding place_at
  at_fine here word slash ground seen =
      let all = more_seen _ here.steps (met_at_seen world is task called here.location word ground) seen in
      named_fine (steps_at nat_eq sees task here word) (search_rules nat_eq sees task here.location)
      (object_named nat_eq sees task here.location word) (place_at here word slash)
      (λ o e. (named_ground world is task called here.location word ground o e, all)) all

  placed_fine : (here : Here ℕ) (word : LastWord) (slash : Bool) → Ground here.location → AllSeen here.steps
      → FinePlace (placed nat_eq sees task here word slash)
  unfolding place_at
  placed_fine here NoWord slash ground seen = grind (arith, common_steps, named_ground)
  placed_fine here Dot slash ground seen = at_fine here Dot slash ground seen
  placed_fine here DotDot slash ground seen = at_fine here DotDot slash ground seen
  placed_fine here (Named name) slash ground seen = at_fine here (Named name) slash ground seen

  entered_fine : (place : Place ℕ) → ObjectGround place.object → AllSeen place.steps
      → AllSeen (entered nat_eq sees place).steps
  entered_fine place ground seen = all_seen (filesystems_of nat_eq sees (entered_mounts nat_eq sees place)) place.steps
      (shown_on world is task called (entered_mounts nat_eq sees place) (by (is_special place.last))) seen
    where
      by : (b : Bool) (l : Location ℕ)
          → Among l (cond b [] (flat_map sees.mounts_over (option_to_list place.object))) → Ground l
      by true l m = absurd m
      by false l m = object_ground world is task called place.object ground l m

  -- Several words

  ended_fine : (here : Here ℕ) (last : Last) → Ground here.location → AllSeen here.steps
      → Fine (ended nat_eq sees task here last)
  ended_fine here AsOthers ground seen = seen
  ended_fine here (NotFollowed word) ground seen = seen
  ended_fine here (AsName word slash) ground seen =
      place_then (placed nat_eq sees task here word slash) (λ place. Ok (Names place))
      (placed_fine here word slash ground seen) (λ place object all. all)
  ended_fine here (AsFile word slash) ground seen =
      place_then (placed nat_eq sees task here word slash) (λ place. Ok (Names (entered nat_eq sees place)))
      (placed_fine here word slash ground seen) (λ place object all. entered_fine place object all)

  gone_on_fine : (pending : List Pending) (here : Here ℕ) (last : Last) → Ground here.location → AllSeen here.steps
      → Fine (gone_on nat_eq sees task here pending last)
  gone_on_fine [] here last ground seen = grind (arith, common_steps, ended_fine)
  gone_on_fine (text ∷ others) here last ground seen =
      grind (arith, common_steps, unless_then, gone_on_fine others here last ground seen)

  start_fine : (directory : Location ℕ) (symlink : Here ℕ) (text : List ℕ) → Ground directory
      → AllSeen symlink.steps → FineHere (Ok (symlink_start nat_eq sees task directory symlink text))
  start_fine directory symlink text ground seen =
      search (
        arith,
        common_steps,
        start_ground world is task (there world is task called),
        also_seen,
        shown_seen,
        root_ground world is task (there world is task called),
      )

  followed_fine : (directory : Location ℕ) (symlink : Here ℕ) (text : List ℕ) (pending : List Pending) (last : Last)
      → Ground directory → AllSeen symlink.steps
      → Fine (then_walk (walk_unless symlink.steps (follow_rules nat_eq sees symlink text)
      (symlink_start nat_eq sees task directory symlink text)) (λ start. gone_on nat_eq sees task start pending last))
  followed_fine directory symlink text pending last ground seen =
      let start = start_fine directory symlink text ground seen in
      unless_then symlink.steps (follow_rules nat_eq sees symlink text)
      (symlink_start nat_eq sees task directory symlink text) (λ begin. gone_on nat_eq sees task begin pending last)
      seen (gone_on_fine pending (symlink_start nat_eq sees task directory symlink text) last start.0 start.1)

  arrived_fine : (directory : Location ℕ) (next : Here ℕ) (pending : List Pending) (last : Last) → Ground directory
      → Ground next.location → AllSeen next.steps → (text : Option (List ℕ))
      → Fine (arrived nat_eq sees task directory next pending last text)
  arrived_fine directory next pending last from ground seen None = gone_on_fine pending next last ground seen
  arrived_fine directory next pending last from ground seen (Some text) =
      followed_fine directory next text (all_words text ∷ pending) last from seen

  opened_fine : (here : Here ℕ) (place : Place ℕ) (slash : Bool) → Ground here.location → ObjectGround place.object
      → AllSeen place.steps → (text : Option (List ℕ)) → Fine (opened nat_eq sees task here place slash text)
  opened_fine here place slash ground object seen None = entered_fine place object seen
  opened_fine here place slash ground object seen (Some text) =
      followed_fine here.location (symlink_of here place) text (first_words text ∷ [])
      (AsFile (last_of text) (slash || ends_in_slash text)) ground seen

  reached_fine : (here : Here ℕ) (word : LastWord) → Ground here.location → AllSeen here.steps
      → Fine (then_walk (word_walked nat_eq sees task here word) (λ next. Ok (Reaches next)))
  reached_fine here word ground seen = here_then (word_walked nat_eq sees task here word) (λ next. Ok (Reaches next))
      (word_fine here word ground seen) (λ next at all. all)

  last_fine : (here : Here ℕ) (last : Last) → Ground here.location → AllSeen here.steps
      → Fine (last_step nat_eq sees task here last)
  last_fine here AsOthers ground seen = seen
  last_fine here (NotFollowed NoWord) ground seen = seen
  last_fine here (NotFollowed Dot) ground seen = reached_fine here Dot ground seen
  last_fine here (NotFollowed DotDot) ground seen = reached_fine here DotDot ground seen
  last_fine here (NotFollowed (Named name)) ground seen = reached_fine here (Named name) ground seen
  last_fine here (AsName word slash) ground seen =
      place_then (placed nat_eq sees task here word slash) (λ place. Ok (Names place))
      (placed_fine here word slash ground seen) (λ place object all. all)
  last_fine here (AsFile word slash) ground seen = place_then (placed nat_eq sees task here word slash)
      (λ place. opened nat_eq sees task here place slash (symlink_there nat_eq sees place))
      (placed_fine here word slash ground seen)
      (λ place object all. opened_fine here place slash ground object all (symlink_there nat_eq sees place))

  text_fine : (here : Here ℕ) (list : List (List ℕ)) (slash : Bool) (others : List Pending) (last : Last)
      → Ground here.location → AllSeen here.steps → Fine (text_word nat_eq sees task here list slash others last)
  text_fine here [] slash others last ground seen =
      gone_on_fine (record { words = []; slash = slash } ∷ others) here last ground seen
  text_fine here (word ∷ list) slash others last ground seen =
      here_then (word_walked nat_eq sees task here (last_word word))
      (λ next. arrived nat_eq sees task here.location next (record { words = list; slash = slash } ∷ others) last
      (symlink_text (sees.node next.location))) (word_fine here (last_word word) ground seen)
      (λ next at all. arrived_fine here.location next (record { words = list; slash = slash } ∷ others) last ground at
      all (symlink_text (sees.node next.location)))

  one_word_fine : (here : Here ℕ) (pending : List Pending) (last : Last) → Ground here.location → AllSeen here.steps
      → Fine (one_word nat_eq sees task (record { here = here; pending = pending; last = last }))
  one_word_fine here [] last ground seen = last_fine here last ground seen
  one_word_fine here (text ∷ others) last ground seen = text_fine here text.words text.slash others last ground seen

  walked_on_fine : (count : ℕ) (a : Result (Walk ℕ) (Stop ℕ)) → Fine a
      → Fine (then_walk a (walked_on nat_eq count sees task))
  walked_on_fine zero (Ok walk) fine = fine
  walked_on_fine (suc count) (Ok (Goes walker)) fine = walked_on_fine count (one_word nat_eq sees task walker)
      (one_word_fine walker.here walker.pending walker.last fine.0 fine.1)
  walked_on_fine (suc count) (Ok (Reaches here)) fine = fine
  walked_on_fine (suc count) (Ok (Names place)) fine = fine
  walked_on_fine count (Err stop) fine = fine

  begun_fine : (aim : Aim) (path : List ℕ) → Fine (begun nat_eq aim sees task path)
  begun_fine aim path = by (parsed_path path)
    where
      none_met : AllSeen []
      none_met f m = absurd m

      by : (r : Result (List ℕ) Deny)
          → Fine (then_walk (stopped_by [] r) (λ text. gone_on nat_eq sees task (walk_start task text)
          (pending_for nat_eq aim text ∷ []) (last_for nat_eq aim text)))
      by (Ok text) = gone_on_fine (pending_for nat_eq aim text ∷ []) (walk_start task text) (last_for nat_eq aim text)
          (start_ground world is task (there world is task called) task.directory text
          (directory_ground world is task (there world is task called))) none_met
      by (Err deny) = none_met

  pub words_fine : (aim : Aim) (path : List ℕ) (count : ℕ) → Fine (words_walked_in count world task aim path)
  words_fine aim path count = walked_on_fine count (begun nat_eq aim sees task path) (begun_fine aim path)

  pub met_of : (a : Result (Walk ℕ) (Stop ℕ)) → Fine a → AllSeen (steps_of a)
  met_of a fine = grind (arith, common_steps)

  on_directories : StandsOnDirectories sees task
  on_directories = record {
    root = (root_found world is task called).1;
    directory = (own_directory_found world is task called).1;
  }

  -- so is what a whole walk meets
  pub walk_met : (aim : Aim) (path : List ℕ) → AllSeen (steps_of (whole_walk nat_eq aim sees task path))
  walk_met aim path =
      let count : ℕ = length (steps_of (whole_walk nat_eq aim sees task path)) in
      subst (λ r. AllSeen (steps_of r)) (all_words_are_the_walk sees task aim path count on_directories (omega arith))
      (met_of (words_walked_in count world task aim path) (words_fine aim path count))

pub words_meet_what_is_seen : WordsMeetWhatIsSeen
words_meet_what_is_seen world task aim path count is called filesystem met =
    met_of world is task called (words_walked_in count world task aim path)
    (words_fine world is task called aim path count) filesystem
    (among_from_contains (met_in (words_walked_in count world task aim path)) filesystem met)
