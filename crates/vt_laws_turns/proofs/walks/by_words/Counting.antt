-- One word is one step, so after as many words as a walk has steps nothing is left of it.
use Rattle.std.proofs.Common.{◌≡◌, refl, ap, ◌∙◌, cond, ℕ, suc, nat_eq, Bool, true, false, true≢false, not, List, [], ◌∷◌, ◌-◌, ◌≤◌, length, Option, Some, None, Ok, Err, Result, arith}
use Rattle.vt_spec.proofs.Common.{Dot, DotDot, Here, LastWord, Location, Looks, Named, NoWord, Place, Rules, Stop, Task, and_then, common_steps, entered, entered_mounts, filesystems_of, follow_rules, is_empty_list, is_no_word, last_word, most_symlinks, object_named, placed, search_rules, stepped, steps_at, steps_with, stopped_by, symlink_start, then_walk, unless, walk_unless, word_walked}
use Rattle.vt_laws_turns.proofs.Common.{Deny}
use Rattle.vt_laws_turns.specs.Walks.Walkers.{Last, Pending, Walk, Walker, all_words, arrived, ended, first_words, gone_on, has_no_word, last_of, last_step, one_word, opened}
use Rattle.vt_laws_turns.specs.Walks.Walkers.Last.{AsFile, AsName, AsOthers, NotFollowed}
use Rattle.vt_laws_turns.specs.Walks.Walkers.Walk.{Goes, Names, Reaches}
use Rattle.vt_laws_turns.proofs.walks.by_words.Depths.{length-also_met}
use Rattle.vt_laws_turns.proofs.walks.by_words.Files.{length-all_met}
use Rattle.vt_laws_turns.proofs.walks.by_words.Meanings.{IsQuiet}

-- the last word of a file's path is a word
abbrev pub HasItsWord : Last → Type 0
HasItsWord (AsFile word slash) = is_no_word word ≡ false
HasItsWord last = Unit {0}

-- a word is left
abbrev pub has_word : List Pending → Last → Bool
has_word [] last = not (has_no_word last)
has_word (text ∷ others) last = not (is_empty_list text.words)

-- a walk that is half done has no more symlinks left to follow than each walk begins with, and a word
pub record IsHalfDone (walker : Walker ℕ) : Type 0 where
  pub left : walker.here.left ≤ most_symlinks
  pub last : HasItsWord walker.last
  pub word : has_word walker.pending walker.last ≡ true

-- a walk that has so many steps now, and is half done if it is not at its end
abbrev pub HasSteps : ℕ → Result (Walk ℕ) (Stop ℕ) → Type 0
HasSteps count (Ok (Goes walker)) = IsHalfDone walker × (length walker.here.steps ≡ count)
HasSteps count (Ok (Reaches here)) = length here.steps ≡ count
HasSteps count (Ok (Names place)) = length place.steps ≡ count
HasSteps count (Err stop) = length stop.steps ≡ count

-- so many steps, and no more symlinks left
abbrev HereHasSteps : ℕ → Result (Here ℕ) (Stop ℕ) → Type 0
HereHasSteps count (Ok here) = (here.left ≤ most_symlinks) × (length here.steps ≡ count)
HereHasSteps count (Err stop) = length stop.steps ≡ count

abbrev PlaceHasSteps : ℕ → Result (Place ℕ) (Stop ℕ) → Type 0
PlaceHasSteps count (Ok place) = length place.steps ≡ count
PlaceHasSteps count (Err stop) = length stop.steps ≡ count

here_then : (count : ℕ) (a : Result (Here ℕ) (Stop ℕ)) (f : Here ℕ → Result (Walk ℕ) (Stop ℕ)) → HereHasSteps count a
    → ((here : Here ℕ) → here.left ≤ most_symlinks → length here.steps ≡ count → HasSteps count (f here))
    → HasSteps count (then_walk a f)
here_then count (Ok here) f has next = next here has.0 has.1
here_then count (Err stop) f has next = has

place_then : (count : ℕ) (a : Result (Place ℕ) (Stop ℕ)) (f : Place ℕ → Result (Walk ℕ) (Stop ℕ))
    → PlaceHasSteps count a → ((place : Place ℕ) → length place.steps ≡ count → HasSteps count (f place))
    → HasSteps count (then_walk a f)
place_then count (Ok place) f has next = next place has
place_then count (Err stop) f has next = has

unless_then : (count : ℕ) (steps : List (List ℕ)) (rules : Rules) (here : Here ℕ)
    (f : Here ℕ → Result (Walk ℕ) (Stop ℕ)) → length steps ≡ count → HasSteps count (f here)
    → HasSteps count (then_walk (walk_unless steps rules here) f)
unless_then count steps [] here f same next = next
unless_then count steps ((true, rule) ∷ rules) here f same next = same
unless_then count steps ((false, rule) ∷ rules) here f same next = unless_then count steps rules here f same next

module _ (looks : Looks ℕ) (task : Task ℕ) where
  pub is_quiet : (last : Last) → HasItsWord last → (here : Here ℕ) → IsQuiet looks task here last
  is_quiet last has here = grind (arith, common_steps, here, true≢false)

  -- a word is one step
  walked_steps : (left count : ℕ) (steps : List (List ℕ)) (rules : Rules) (found : Result (Location ℕ) Deny)
      → left ≤ most_symlinks → length steps ≡ count
      → HereHasSteps count (stopped_by steps (and_then (unless rules found)
      (λ reached. Ok (record { location = reached; left = left; steps = steps }))))
  walked_steps left count steps [] (Ok reached) few same = (few, same)
  walked_steps left count steps [] (Err deny) few same = same
  walked_steps left count steps ((true, rule) ∷ rules) found few same = same
  walked_steps left count steps ((false, rule) ∷ rules) found few same =
      walked_steps left count steps rules found few same

  word_steps : (here : Here ℕ) (word : LastWord) (count : ℕ) → here.left ≤ most_symlinks → length here.steps ≡ count
      → HereHasSteps (suc count) (word_walked nat_eq looks task here word)
  word_steps here word count few same = walked_steps here.left (suc count) (steps_with nat_eq looks task here word)
      (search_rules nat_eq looks task here.location) (stepped nat_eq looks task here.location word) few (ap suc same)

  named_steps : {A : Type 0} (count : ℕ) (steps : List (List ℕ)) (rules : Rules) (found : Result A Deny)
      (place : A → Place ℕ) → length steps ≡ count → ((a : A) → (place a).steps ≡ steps)
      → PlaceHasSteps count (stopped_by steps (and_then (unless rules found) (λ a. Ok (place a))))
  named_steps count steps [] (Ok a) place same is = cc (is a)
  named_steps count steps [] (Err deny) place same is = same
  named_steps count steps ((true, rule) ∷ rules) found place same is = same
  named_steps count steps ((false, rule) ∷ rules) found place same is =
      named_steps count steps rules found place same is

  placed_steps : (here : Here ℕ) (word : LastWord) (slash : Bool) (count : ℕ) → length here.steps ≡ count
      → is_no_word word ≡ false → PlaceHasSteps (suc count) (placed nat_eq looks task here word slash)
  placed_steps here NoWord slash count same some = absurd (true≢false some)
  placed_steps here Dot slash count same some =
      named_steps (suc count) (steps_at nat_eq looks task here Dot) (search_rules nat_eq looks task here.location)
      (object_named nat_eq looks task here.location Dot) (λ object. record {
        parent = here.location;
        last = Dot;
        object = object;
        slash = slash;
        steps = steps_at nat_eq looks task here Dot;
      }) (ap suc same) (λ object. refl)
  placed_steps here DotDot slash count same some =
      named_steps (suc count) (steps_at nat_eq looks task here DotDot) (search_rules nat_eq looks task here.location)
      (object_named nat_eq looks task here.location DotDot) (λ object. record {
        parent = here.location;
        last = DotDot;
        object = object;
        slash = slash;
        steps = steps_at nat_eq looks task here DotDot;
      }) (ap suc same) (λ object. refl)
  placed_steps here (Named name) slash count same some =
      named_steps (suc count) (steps_at nat_eq looks task here (Named name))
      (search_rules nat_eq looks task here.location)
      (object_named nat_eq looks task here.location (Named name)) (λ object. record {
        parent = here.location;
        last = Named name;
        object = object;
        slash = slash;
        steps = steps_at nat_eq looks task here (Named name);
      }) (ap suc same) (λ object. refl)

  entered_steps : (place : Place ℕ) (count : ℕ) → length place.steps ≡ count
      → length (entered nat_eq looks place).steps ≡ count
  entered_steps place count same =
      length-all_met (filesystems_of nat_eq looks (entered_mounts nat_eq looks place)) place.steps ∙ same

  -- an end is no step
  end_steps : (here : Here ℕ) (last : Last) (count : ℕ) → length here.steps ≡ count → here.left ≤ most_symlinks
      → HasItsWord last → (b : Bool) → has_no_word last ≡ b → HasSteps count (cond b (ended nat_eq looks task here last)
      (Ok (Goes (record { here = here; pending = []; last = last }))))
  end_steps here last count same few has b e = grind (arith, common_steps, here, true≢false)

  pub gone_on_steps : (pending : List Pending) (here : Here ℕ) (last : Last) (count : ℕ) → length here.steps ≡ count
      → here.left ≤ most_symlinks → HasItsWord last → HasSteps count (gone_on nat_eq looks task here pending last)
  gone_on_steps [] here last count same few has = end_steps here last count same few has (has_no_word last) refl
  gone_on_steps (text ∷ others) here last count same few has =
      grind (arith, common_steps, here, unless_then, gone_on_steps others here last count same few has)

  start_steps : (directory : Location ℕ) (symlink : Here ℕ) (text : List ℕ) (count : ℕ) → length symlink.steps ≡ count
      → length (symlink_start nat_eq looks task directory symlink text).steps ≡ count
  start_steps directory symlink text count same = grind (arith, common_steps, length-also_met)

  one_less : (n : ℕ) → n ≤ most_symlinks → n - 1 ≤ most_symlinks
  one_less n few = omega (arith, few)

  arrived_steps : (directory : Location ℕ) (next : Here ℕ) (pending : List Pending) (last : Last) (count : ℕ)
      → length next.steps ≡ count → next.left ≤ most_symlinks → HasItsWord last → (text : Option (List ℕ))
      → HasSteps count (arrived nat_eq looks task directory next pending last text)
  arrived_steps directory next pending last count same few has None = gone_on_steps pending next last count same few has
  arrived_steps directory next pending last count same few has (Some text) =
      unless_then count next.steps (follow_rules nat_eq looks next text)
      (symlink_start nat_eq looks task directory next text)
      (λ start. gone_on nat_eq looks task start (all_words text ∷ pending) last) same
      (gone_on_steps (all_words text ∷ pending) (symlink_start nat_eq looks task directory next text) last count
      (start_steps directory next text count same) (one_less next.left few) has)

  -- the last word of a text is none just where it has no words
  word_is_one : (word : List ℕ) → is_no_word (last_word word) ≡ false
  word_is_one word = grind (arith, common_steps)

  pub first_words_steps : (text : List ℕ) (slash : Bool) (start : Here ℕ) (count : ℕ) → length start.steps ≡ count
      → start.left ≤ most_symlinks
      → HasSteps count (gone_on nat_eq looks task start (first_words text ∷ []) (AsFile (last_of text) slash))
  first_words_steps text slash start count same few =
      grind (arith, common_steps, entered_steps, gone_on_steps, word_is_one)

  opened_steps : (here : Here ℕ) (place : Place ℕ) (slash : Bool) (count : ℕ) → length place.steps ≡ count
      → here.left ≤ most_symlinks → (text : Option (List ℕ))
      → HasSteps count (opened nat_eq looks task here place slash text)
  opened_steps here place slash count same few text =
      search (arith, common_steps, here, entered_steps, unless_then, first_words_steps, start_steps, one_less)

  turned : (b : Bool) → not b ≡ true → b ≡ false
  turned true e = cc
  turned false e = refl

  last_steps : (here : Here ℕ) (last : Last) (count : ℕ) → length here.steps ≡ count → here.left ≤ most_symlinks
      → has_no_word last ≡ false → HasSteps (suc count) (last_step nat_eq looks task here last)
  last_steps here AsOthers count same few some = absurd (true≢false some)
  last_steps here (NotFollowed NoWord) count same few some = absurd (true≢false some)
  last_steps here (NotFollowed Dot) count same few some =
      here_then (suc count) _ (λ next. Ok (Reaches next)) (word_steps here Dot count few same) (λ next fewer is. is)
  last_steps here (NotFollowed DotDot) count same few some =
      here_then (suc count) _ (λ next. Ok (Reaches next)) (word_steps here DotDot count few same) (λ next fewer is. is)
  last_steps here (NotFollowed (Named name)) count same few some = here_then (suc count) _ (λ next. Ok (Reaches next))
      (word_steps here (Named name) count few same) (λ next fewer is. is)
  last_steps here (AsName word slash) count same few some = place_then (suc count) _ (λ place. Ok (Names place))
      (placed_steps here word slash count same some) (λ place is. is)
  last_steps here (AsFile word slash) count same few some = place_then (suc count) _ _
      (placed_steps here word slash count same some) (λ place is. opened_steps here place slash (suc count) is few _)

  pub one_word_steps : (walker : Walker ℕ) → IsHalfDone walker
      → HasSteps (suc (length walker.here.steps)) (one_word nat_eq looks task walker)
  one_word_steps walker half =
      grind (arith, common_steps, true≢false, here_then, word_steps, arrived_steps, last_steps, turned)
