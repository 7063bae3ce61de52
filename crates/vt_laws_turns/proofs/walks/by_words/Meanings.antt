-- What is left of a walk after one word, as a whole, is what was left before it.
use Rattle.std.proofs.Common.{◌≡◌, refl, sym, ap, ◌∙◌, cond, ℕ, suc, nat_eq, Bool, true, false, true≢false, not, List, [], ◌∷◌, ◌++◌, ◌-◌, ◌≤◌, ◌||◌, length, reverse, Option, Some, None, Ok, Err, Result, arith, nat_lt, ◌==◌}
use Rattle.vt_spec.proofs.Common.{Follow, Here, LastWord, Location, Looks, NoWord, Place, Rules, Stop, Task, and_then, common_steps, ends_in_slash, follow_rules, if_symlink, is_no_word, last_word, list_any, longest_name, most_symlinks, placed, reverse-append, reverse-reverse, slash_rules, start_of, stopped_by, symlink_of, symlink_start, symlink_text, symlink_there, symlink_walked, then_walk, unless, walk_unless, word_walked, words, words_walked}
use Rattle.vt_laws_turns.proofs.Common.{Deny, W3, directory_no_link, file_walked, followed, is_directory_at, last_walked, mount_at, prefix_walked}
use Rattle.vt_laws_turns.specs.Walks.ByWords.{last_taken, names, reaches, rest_walked, texts_walked}
use Rattle.vt_laws_turns.specs.Walks.Walkers.{Last, Pending, Walk, Walker, all_words, arrived, end_rules, ended, first_words, gone_on, has_no_word, last_of, last_step, one_word, opened, text_word}
use Rattle.vt_laws_turns.specs.Walks.Walkers.Last.{AsFile, AsName, AsOthers, NotFollowed}
use Rattle.vt_laws_turns.specs.Walks.Walkers.Walk.{Goes, Names}
use Rattle.vt_laws_turns.proofs.walks.by_words.Depths.{followed_same, one_left, text_same, text_walked, texts_same, then_ok, then_same, then_then, then_within, word_within}
use Rattle.vt_laws_turns.proofs.walks.by_words.Files.{file_from, files_same, follow_alike, from_same, prefix_within}

-- The symlinks that stand in one another's texts: one more than are left to follow
module _ (looks : Looks ℕ) (task : Task ℕ) where
  abbrev pub follow : Follow ℕ
  follow = followed nat_eq looks task

  abbrev pub texts : Here ℕ → List Pending → Result (Here ℕ) (Stop ℕ)
  texts = texts_walked nat_eq looks task follow

  abbrev pub taken : Here ℕ → Last → Result (Walk ℕ) (Stop ℕ)
  taken = last_taken nat_eq most_symlinks looks task

  -- what is left from here on
  abbrev pub left_from : Here ℕ → List Pending → Last → Result (Walk ℕ) (Stop ℕ)
  left_from here pending last = then_walk (texts here pending) (λ there. taken there last)

  abbrev pub rest : Walk ℕ → Result (Walk ℕ) (Stop ℕ)
  rest = rest_walked nat_eq looks task

  -- what a text without words leads to is no symlink
  abbrev pub IsQuiet : Here ℕ → Last → Type 0
  IsQuiet here (AsFile NoWord slash) = symlink_text (looks.node here.location) ≡ None
  IsQuiet here last = Unit {0}

  -- the end of a walk, and what is then left
  end_means : (here : Here ℕ) (last : Last) → IsQuiet here last → (b : Bool) → has_no_word last ≡ b
      → then_walk (cond b (ended nat_eq looks task here last)
      (Ok (Goes (record { here = here; pending = []; last = last })))) rest ≡ taken here last
  end_means here last quiet b e = grind (arith, common_steps, true≢false)

  -- texts that are ended, and what is then left
  pub gone_on_means : (pending : List Pending) (here : Here ℕ) (last : Last) → IsQuiet here last
      → then_walk (gone_on nat_eq looks task here pending last) rest ≡ left_from here pending last
  gone_on_means [] here last quiet = end_means here last quiet (has_no_word last) refl
  gone_on_means (text ∷ others) here last quiet = grind (arith, common_steps, gone_on_means others here last quiet)

  -- words walked one after the other, the first one first
  words_append : (f : Follow ℕ) (here : Here ℕ) (last first : List (List ℕ))
      → words_walked nat_eq looks task f here (last ++ first)
      ≡ then_walk (words_walked nat_eq looks task f here first) (λ r. words_walked nat_eq looks task f r last)
  words_append f here [] first = sym (then_ok (words_walked nat_eq looks task f here first))
  words_append f here (word ∷ last) first = grind (arith, common_steps, then_then, words_append f here last first)

  first_word : (here : Here ℕ) (word : List ℕ) (list : List (List ℕ))
      → words_walked nat_eq looks task follow here (reverse (word ∷ list))
      ≡ then_walk (word_walked nat_eq looks task here (last_word word)) (λ next.
      then_walk (if_symlink next (symlink_text (looks.node next.location)) (follow here.location next)) (λ r.
      words_walked nat_eq looks task follow r (reverse list)))
  first_word here word list = grind (arith, common_steps, reverse-append, words_append, then_then)

  -- what a symlink's text leads to, and then
  abbrev less : ℕ
  less = most_symlinks - 1

  text_means : (text : List ℕ) (start : Here ℕ) → start.left ≤ less → (pending : List Pending) (last : Last)
      → left_from start (all_words text ∷ pending) last
      ≡ then_walk (text_walked looks task (symlink_walked nat_eq most_symlinks looks task) text start)
      (λ there. left_from there pending last)
  text_means text start few pending last = ap (λ r. then_walk r (λ there. taken there last))
      (sym (then_then (words_walked nat_eq looks task follow start (reverse (words text))) (λ reached.
      walk_unless reached.steps (slash_rules nat_eq looks text reached.location) reached)
      (λ there. texts there pending)))
      ∙ then_then (text_walked looks task follow text start) (λ there. texts there pending) (λ there. taken there last)
      ∙ ap (λ r. then_walk r (λ there. left_from there pending last))
      (sym (text_same looks task less most_symlinks (omega arith)
      (symlink_walked nat_eq most_symlinks looks task) follow
      (texts_same looks task less less most_symlinks (omega arith) (omega arith)) text start 0 few (omega arith)).0)

  module _ (here : Here ℕ) (left : List (List ℕ)) (slash : Bool) (others : List Pending) (last : Last)
      (quiet : (there : Here ℕ) → IsQuiet there last) where
    abbrev pending : List Pending
    pending = record { words = left; slash = slash } ∷ others

    abbrev after : Here ℕ → Result (Walk ℕ) (Stop ℕ)
    after reached =
        then_walk (then_walk (walk_unless reached.steps (end_rules nat_eq looks slash reached.location) reached)
        (λ there. texts there others)) (λ there. taken there last)

    left_is : (there : Here ℕ)
        → left_from there pending last ≡ then_walk (words_walked nat_eq looks task follow there (reverse left)) after
    left_is there = grind (arith, common_steps, then_then)

    arrived_means : (next : Here ℕ) → next.left ≤ most_symlinks → (text : Option (List ℕ))
        → then_walk (arrived nat_eq looks task here.location next pending last text) rest
        ≡ then_walk (then_walk (if_symlink next text (follow here.location next)) (λ r.
        words_walked nat_eq looks task follow r (reverse left))) after
    arrived_means next few None = gone_on_means pending next last (quiet next) ∙ left_is next
    arrived_means next few (Some text) =
        then_then unless_refused (λ begin. gone_on nat_eq looks task begin (all_words text ∷ pending) last) rest
        ∙ followed_same next.steps start (λ begin.
        then_walk (gone_on nat_eq looks task begin (all_words text ∷ pending) last) rest)
        (λ begin. then_walk (text_walked looks task (symlink_walked nat_eq most_symlinks looks task) text begin)
        (λ there. then_walk (words_walked nat_eq looks task follow there (reverse left)) after))
        (mount_at looks next.location).flags.nosymfollow (next.left == 0)
        (list_any (λ word. nat_lt longest_name (length word)) (words text)) (λ some_left.
        gone_on_means (all_words text ∷ pending) start last (quiet start)
        ∙ text_means text start (fewer (one_left next.left most_symlinks few some_left)) pending last
        ∙ then_same (text_walked looks task (symlink_walked nat_eq most_symlinks looks task) text start)
        (λ there. left_from there pending last)
        (λ there. then_walk (words_walked nat_eq looks task follow there (reverse left)) after) left_is)
        ∙ sym (then_then unless_refused (text_walked looks task (symlink_walked nat_eq most_symlinks looks task) text)
        (λ there. then_walk (words_walked nat_eq looks task follow there (reverse left)) after))
        ∙ sym (then_then (follow here.location next text) (λ r.
        words_walked nat_eq looks task follow r (reverse left)) after)
      where
        start : Here ℕ
        start = symlink_start nat_eq looks task here.location next text

        unless_refused : Result (Here ℕ) (Stop ℕ)
        unless_refused = walk_unless next.steps (follow_rules nat_eq looks next text) start

        fewer : (n : ℕ) × (most_symlinks ≡ suc n) × (next.left - 1 ≤ n) → next.left - 1 ≤ less
        fewer one = omega (arith, one.1, one.2)

    pub text_word_means : here.left ≤ most_symlinks → (word : List ℕ)
        → then_walk (text_word nat_eq looks task here (word ∷ left) slash others last) rest
        ≡ left_from here (record { words = word ∷ left; slash = slash } ∷ others) last
    text_word_means few word = then_then (word_walked nat_eq looks task here (last_word word)) (λ next.
        arrived nat_eq looks task here.location next pending last (symlink_text (looks.node next.location))) rest
        ∙ then_within most_symlinks 0 (word_walked nat_eq looks task here (last_word word)) (λ next.
        then_walk (arrived nat_eq looks task here.location next pending last
        (symlink_text (looks.node next.location))) rest) (λ next.
        then_walk (then_walk (if_symlink next (symlink_text (looks.node next.location))
        (follow here.location next)) (λ r. words_walked nat_eq looks task follow r (reverse left))) after)
        (word_within looks task most_symlinks 0 here (last_word word) few (omega arith))
        (λ next fewer long. arrived_means next fewer (symlink_text (looks.node next.location)))
        ∙ sym (then_then (word_walked nat_eq looks task here (last_word word)) (λ next.
        then_walk (if_symlink next (symlink_text (looks.node next.location)) (follow here.location next)) (λ r.
        words_walked nat_eq looks task follow r (reverse left))) after)
        ∙ ap (λ r. then_walk r after) (sym (first_word here word left))
        ∙ sym (then_then (words_walked nat_eq looks task follow here (reverse (word ∷ left))) (λ reached.
        then_walk (walk_unless reached.steps (end_rules nat_eq looks slash reached.location) reached) (λ there.
        texts there others)) (λ there. taken there last))

  -- The last word

  -- the first words of a text, and then its last
  pub first_words_mean : (text : List ℕ) (start : Here ℕ) (last : Last) → left_from start (first_words text ∷ []) last
      ≡ then_walk (prefix_walked nat_eq looks task follow start (reverse (words text))) (λ here. taken here last)
  first_words_mean text start last = grind (arith, common_steps, then_ok, reverse-reverse)

  pub file_means : (depth : ℕ) → depth ≤ most_symlinks → (text : List ℕ) (slash : Bool) (start : Here ℕ)
      → start.left ≤ depth → IsQuiet start (AsFile (last_of text) (slash || ends_in_slash text))
      → then_walk (gone_on nat_eq looks task start (first_words text ∷ [])
      (AsFile (last_of text) (slash || ends_in_slash text))) rest
      ≡ names nat_eq (file_walked nat_eq (suc depth) looks task start text slash)
  file_means depth small text slash start few quiet =
      gone_on_means (first_words text ∷ []) start (AsFile (last_of text) (slash || ends_in_slash text)) quiet
      ∙ first_words_mean text start (AsFile (last_of text) (slash || ends_in_slash text))
      ∙ then_within depth 0 (prefix_walked nat_eq looks task follow start (reverse (words text)))
      (λ here. names nat_eq (then_walk (placed nat_eq looks task here (last_of text) (slash || ends_in_slash text))
      (λ place. file_from looks task most_symlinks here place (slash || ends_in_slash text)
      (symlink_there nat_eq looks place))))
      (λ here. names nat_eq (then_walk (placed nat_eq looks task here (last_of text) (slash || ends_in_slash text))
      (λ place. file_from looks task depth here place (slash || ends_in_slash text)
      (symlink_there nat_eq looks place))))
      (prefix_within looks task depth follow (follow_alike looks task depth small) start 0 few (omega arith)
      (reverse (words text))) (λ here fewer long. ap (names nat_eq)
      (then_same (placed nat_eq looks task here (last_of text) (slash || ends_in_slash text)) _ _
      (λ place. from_same looks task depth most_symlinks depth same here fewer place (slash || ends_in_slash text)
      (symlink_there nat_eq looks place))))
      ∙ sym (then_then (prefix_walked nat_eq looks task follow start (reverse (words text))) (λ here.
      then_walk (placed nat_eq looks task here (last_of text) (slash || ends_in_slash text)) (λ place.
      file_from looks task depth here place (slash || ends_in_slash text) (symlink_there nat_eq looks place)))
      (λ place. Ok (Names place)))
    where
      same : (n : ℕ) → depth ≡ suc n → (next : Here ℕ) (inside : List ℕ) (behind : Bool) → next.left ≤ n
          → file_walked nat_eq most_symlinks looks task next inside behind
          ≡ file_walked nat_eq depth looks task next inside behind
      same n e next inside behind fewer =
          files_same looks task n less n (omega (arith, small, e)) (omega arith) (omega (arith, small, e)) next inside
          behind fewer ∙ ap (λ d. file_walked nat_eq d looks task next inside behind) (sym e)

  -- where a name is looked up, a directory is
  named_found : {A B : Type 0} (steps : List (List ℕ)) (rules : Rules) (found : Result A Deny) (make : A → B) (made : B)
      (is : Bool) → stopped_by steps (and_then (unless ((not is, W3) ∷ rules) found) (λ a. Ok (make a))) ≡ Ok made
      → is ≡ true
  named_found steps rules found make made true e = refl
  named_found steps rules found make made false e = cc

  searched : (here : Here ℕ) (word : LastWord) (slash : Bool) (place : Place ℕ) → is_no_word word ≡ false
      → placed nat_eq looks task here word slash ≡ Ok place → is_directory_at looks here.location ≡ true
  searched here word slash place some e = search (arith, common_steps, true≢false, named_found)

  pub quiet_at : (here : Here ℕ) (word : LastWord) (slash : Bool) → is_directory_at looks here.location ≡ true
      → IsQuiet here (AsFile word slash)
  quiet_at here word slash is = grind (arith, common_steps, directory_no_link)

  pub directory_at : is_directory_at looks task.root ≡ true → (directory : Location ℕ)
      → is_directory_at looks directory ≡ true → (text : List ℕ)
      → is_directory_at looks (start_of task directory text) ≡ true
  directory_at root directory is text = grind (arith, common_steps)

  -- what was found, and then what is left
  reached_rest : (a : Result (Here ℕ) (Stop ℕ)) → then_walk (reaches nat_eq a) rest ≡ reaches nat_eq a
  reached_rest (Ok here) = refl
  reached_rest (Err stop) = refl

  named_rest : (a : Result (Place ℕ) (Stop ℕ)) → then_walk (names nat_eq a) rest ≡ names nat_eq a
  named_rest (Ok place) = refl
  named_rest (Err stop) = refl

  opened_means : is_directory_at looks task.root ≡ true → (here : Here ℕ) → here.left ≤ most_symlinks
      → is_directory_at looks here.location ≡ true → (place : Place ℕ) (slash : Bool) (text : Option (List ℕ))
      → then_walk (opened nat_eq looks task here place slash text) rest
      ≡ names nat_eq (file_from looks task most_symlinks here place slash text)
  opened_means root here few is place slash None = refl
  opened_means root here few is place slash (Some text) =
      then_then unless_refused (λ begin. gone_on nat_eq looks task begin (first_words text ∷ [])
      (AsFile (last_of text) (slash || ends_in_slash text))) rest
      ∙ followed_same place.steps start (λ begin. then_walk (gone_on nat_eq looks task begin (first_words text ∷ [])
      (AsFile (last_of text) (slash || ends_in_slash text))) rest)
      (λ begin. names nat_eq (file_walked nat_eq most_symlinks looks task begin text slash))
      (mount_at looks (symlink_of here place).location).flags.nosymfollow (here.left == 0)
      (list_any (λ word. nat_lt longest_name (length word)) (words text))
      (λ some_left. file_means less (omega arith) text slash start
      (fewer (one_left here.left most_symlinks few some_left))
      (quiet_at start (last_of text) (slash || ends_in_slash text) (directory_at root here.location is text)))
      ∙ sym (then_then unless_refused (λ begin. file_walked nat_eq most_symlinks looks task begin text slash)
      (λ found. Ok (Names found)))
    where
      start : Here ℕ
      start = symlink_start nat_eq looks task here.location (symlink_of here place) text

      unless_refused : Result (Here ℕ) (Stop ℕ)
      unless_refused = walk_unless place.steps (follow_rules nat_eq looks (symlink_of here place) text) start

      fewer : (n : ℕ) × (most_symlinks ≡ suc n) × (here.left - 1 ≤ n) → here.left - 1 ≤ less
      fewer one = omega (arith, one.1, one.2)

  then_where : {A B : Type 0} (a : Result A (Stop ℕ)) (f g : A → Result B (Stop ℕ))
      → ((x : A) → a ≡ Ok x → f x ≡ g x) → then_walk a f ≡ then_walk a g
  then_where (Ok x) f g same = same x refl
  then_where (Err stop) f g same = refl

  last_word_means : is_directory_at looks task.root ≡ true → (here : Here ℕ) (last : Last) → here.left ≤ most_symlinks
      → has_no_word last ≡ false → then_walk (last_step nat_eq looks task here last) rest ≡ taken here last
  last_word_means root here AsOthers few some = refl
  last_word_means root here (NotFollowed word) few some = reached_rest (last_walked nat_eq looks task here word)
  last_word_means root here (AsName word slash) few some = named_rest (placed nat_eq looks task here word slash)
  last_word_means root here (AsFile word slash) few some = then_then (placed nat_eq looks task here word slash)
      (λ place. opened nat_eq looks task here place slash (symlink_there nat_eq looks place)) rest
      ∙ then_where (placed nat_eq looks task here word slash)
      (λ place. then_walk (opened nat_eq looks task here place slash (symlink_there nat_eq looks place)) rest)
      (λ place. names nat_eq (file_from looks task most_symlinks here place slash (symlink_there nat_eq looks place)))
      (λ place e. opened_means root here few (searched here word slash place some e) place slash
      (symlink_there nat_eq looks place)) ∙ sym (then_then (placed nat_eq looks task here word slash)
      (λ place. file_from looks task most_symlinks here place slash (symlink_there nat_eq looks place))
      (λ found. Ok (Names found)))

  -- one word of a walk, and what is then left of it
  pub one_word_means : is_directory_at looks task.root ≡ true → (walker : Walker ℕ) → walker.here.left ≤ most_symlinks
      → ((there : Here ℕ) → IsQuiet there walker.last) → (walker.pending ≡ [] → has_no_word walker.last ≡ false)
      → then_walk (one_word nat_eq looks task walker) rest ≡ rest (Goes walker)
  one_word_means root walker few quiet some = by walker.pending some
    where
      text_by : (list : List (List ℕ)) (slash : Bool) (others : List Pending)
          → then_walk (text_word nat_eq looks task walker.here list slash others walker.last) rest
          ≡ left_from walker.here (record { words = list; slash = slash } ∷ others) walker.last
      text_by [] slash others =
          gone_on_means (record { words = []; slash = slash } ∷ others) walker.here walker.last (quiet walker.here)
      text_by (word ∷ list) slash others = text_word_means walker.here list slash others walker.last quiet few word

      by : (pending : List Pending) → (pending ≡ [] → has_no_word walker.last ≡ false)
          → then_walk (one_word nat_eq looks task
          (record { here = walker.here; pending = pending; last = walker.last }))
          rest ≡ left_from walker.here pending walker.last
      by [] none = last_word_means root walker.here walker.last few (none refl)
      by (text ∷ others) none = text_by text.words text.slash others
