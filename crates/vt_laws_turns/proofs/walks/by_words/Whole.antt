-- Word by word each walk leads where it leads as a whole.
use Rattle.std.proofs.Common.{◌≡◌, refl, sym, ap, subst, ◌∙◌, cond, ℕ, zero, suc, nat_eq, Bool, true, false, true≢false, List, [], ◌∷◌, ◌+◌, ◌≤◌, length, reverse, Ok, Err, Result, arith}
use Rattle.vt_spec.proofs.Common.{Dot, DotDot, Here, LastWord, Looks, Named, NoWord, Place, Stop, Task, common_steps, ends_in_slash, most_symlinks, path_text, placed, symlink_there, symlink_walk_by, then_walk, walk_start, walk_unless, words, words_walked}
use Rattle.vt_laws_turns.proofs.Common.{file_walked, is_directory_at, last_walked, prefix_walked}
use Rattle.vt_laws_turns.specs.Walks.ByWords.{Aim, AllWordsAreTheWalk, FirstWordsAreOfTheWalk, StandsOnDirectories, begun, last_for, names, pending_for, reaches, steps_of, whole_walk}
use Rattle.vt_laws_turns.specs.Walks.ByWords.Aim.{File, InDirectory, Object, Symlink, Words}
use Rattle.vt_laws_turns.specs.Walks.Walkers.{Last, Pending, Walk, Walker, all_words, end_rules, first_words, gone_on, last_of, one_word, walked_on}
use Rattle.vt_laws_turns.specs.Walks.Walkers.Last.{AsFile, AsName, AsOthers, NotFollowed}
use Rattle.vt_laws_turns.specs.Walks.Walkers.Walk.{Goes, Names, Reaches}
use Rattle.vt_laws_turns.proofs.walks.by_words.Counting.{HasSteps, IsHalfDone, first_words_steps, gone_on_steps, has_word, is_quiet, one_word_steps}
use Rattle.vt_laws_turns.proofs.walks.by_words.Depths.{Within, same_then, then_ok, then_same, then_then, unless_same, word_within, words_same}
use Rattle.vt_laws_turns.proofs.walks.by_words.Files.{Longer, file_from, file_long, follow_alike, from_long, longer_place, placed_long}
use Rattle.vt_laws_turns.proofs.walks.by_words.Meanings.{directory_at, file_means, first_words_mean, follow, gone_on_means, one_word_means, quiet_at, rest, taken, texts}

-- what comes after the text of a path
text_then : {B : Type 0} (path : List ℕ) (f g : List ℕ → Result B (Stop ℕ)) → f path ≡ g path
    → then_walk (path_text path) f ≡ then_walk (path_text path) g
text_then path f g same = grind (arith, common_steps)

text_steps : (path : List ℕ) (f : List ℕ → Result (Walk ℕ) (Stop ℕ)) → HasSteps 0 (f path)
    → HasSteps 0 (then_walk (path_text path) f)
text_steps path f has = grind (arith, common_steps)

-- steps are kept by what comes after
long_then : (most least : ℕ) (a : Result (Here ℕ) (Stop ℕ)) (f : Here ℕ → Result (Walk ℕ) (Stop ℕ))
    → Within most least a
    → ((here : Here ℕ) → here.left ≤ most → least ≤ length here.steps → least ≤ length (steps_of (f here)))
    → least ≤ length (steps_of (then_walk a f))
long_then most least (Ok here) f w next = next here w.0 w.1
long_then most least (Err stop) f w next = w

names_long : (least : ℕ) (a : Result (Place ℕ) (Stop ℕ)) → Longer least a → least ≤ length (steps_of (names nat_eq a))
names_long least (Ok place) long = long
names_long least (Err stop) long = long

module _ (looks : Looks ℕ) (task : Task ℕ) where
  texts_within : (pending : List Pending) (here : Here ℕ) (least : ℕ) → here.left ≤ most_symlinks
      → least ≤ length here.steps → Within most_symlinks least (texts looks task here pending)
  texts_within [] here least few long = (few, long)
  texts_within (text ∷ others) here least few long =
      (same_then most_symlinks least (words_walked nat_eq looks task (follow looks task) here (reverse text.words))
      (words_walked nat_eq looks task (follow looks task) here (reverse text.words)) after after
      (words_same looks task most_symlinks (follow looks task) (follow looks task)
      (follow_alike looks task most_symlinks (omega arith)) here least few long (reverse text.words))
      (λ reached fewer longer.
      same_then most_symlinks least (ended reached) (ended reached) (λ there. texts looks task there others)
      (λ there. texts looks task there others)
      (unless_same most_symlinks least reached.steps (end_rules nat_eq looks text.slash reached.location) reached fewer
      longer longer) (λ there few_left many. (refl, texts_within others there least few_left many)))).1
    where
      ended : Here ℕ → Result (Here ℕ) (Stop ℕ)
      ended reached = walk_unless reached.steps (end_rules nat_eq looks text.slash reached.location) reached

      after : Here ℕ → Result (Here ℕ) (Stop ℕ)
      after reached = then_walk (ended reached) (λ there. texts looks task there others)

  reaches_long : (least : ℕ) (a : Result (Here ℕ) (Stop ℕ)) → Within most_symlinks least a
      → least ≤ length (steps_of (reaches nat_eq a))
  reaches_long least a w = long_then most_symlinks least a (λ here. Ok (Reaches here)) w (λ here few long. long)

  taken_long : (here : Here ℕ) (last : Last) (least : ℕ) → here.left ≤ most_symlinks → least ≤ length here.steps
      → least ≤ length (steps_of (taken looks task here last))
  taken_long here AsOthers least few long = long
  taken_long here (NotFollowed NoWord) least few long = long
  taken_long here (NotFollowed Dot) least few long =
      reaches_long least _ (word_within looks task most_symlinks least here Dot few long)
  taken_long here (NotFollowed DotDot) least few long =
      reaches_long least _ (word_within looks task most_symlinks least here DotDot few long)
  taken_long here (NotFollowed (Named name)) least few long =
      reaches_long least _ (word_within looks task most_symlinks least here (Named name) few long)
  taken_long here (AsName word slash) least few long =
      names_long least (placed nat_eq looks task here word slash) (placed_long looks task here word slash least long)
  taken_long here (AsFile word slash) least few long =
      names_long least (then_walk (placed nat_eq looks task here word slash) (λ place.
      file_from looks task most_symlinks here place slash (symlink_there nat_eq looks place)))
      (longer_place least (placed nat_eq looks task here word slash) (λ place.
      file_from looks task most_symlinks here place slash (symlink_there nat_eq looks place))
      (placed_long looks task here word slash least long) (λ place more. from_long looks task most_symlinks slash least
      (λ next inside fewer longer. file_long looks task most_symlinks next inside slash least fewer longer) here few
      place more (symlink_there nat_eq looks place)))

  rest_long : (walker : Walker ℕ) (least : ℕ) → walker.here.left ≤ most_symlinks → least ≤ length walker.here.steps
      → least ≤ length (steps_of (rest looks task (Goes walker)))
  rest_long walker least few long = long_then most_symlinks least (texts looks task walker.here walker.pending)
      (λ there. taken looks task there walker.last) (texts_within walker.pending walker.here least few long)
      (λ here fewer longer. taken_long here walker.last least fewer longer)

  after_long : (count : ℕ) (a : Result (Walk ℕ) (Stop ℕ)) → HasSteps count a
      → count ≤ length (steps_of (then_walk a (rest looks task)))
  after_long count a has = grind (arith, common_steps, rest_long)

  module _ (root : is_directory_at looks task.root ≡ true) where
    word_means : (walker : Walker ℕ) → IsHalfDone walker
        → then_walk (one_word nat_eq looks task walker) (rest looks task) ≡ rest looks task (Goes walker)
    word_means walker half = grind (arith, common_steps, one_word_means, is_quiet, has_word, true≢false)

    -- after any number of words the rest is the same
    after_steps : (count : ℕ) (a : Result (Walk ℕ) (Stop ℕ)) (f g : Walk ℕ → Result (Walk ℕ) (Stop ℕ))
        → HasSteps count a → ((walk : Walk ℕ) → HasSteps count (Ok walk) → f walk ≡ g walk)
        → then_walk a f ≡ then_walk a g
    after_steps count (Ok walk) f g has same = same walk has
    after_steps count (Err stop) f g has same = refl

    walked_means : (count n : ℕ) (walk : Walk ℕ) → HasSteps n (Ok walk)
        → then_walk (walked_on nat_eq count looks task walk) (rest looks task) ≡ rest looks task walk
    walked_means zero n walk has = refl
    walked_means (suc count) n (Goes walker) has =
        then_then (one_word nat_eq looks task walker) (walked_on nat_eq count looks task) (rest looks task)
        ∙ after_steps (suc (length walker.here.steps)) (one_word nat_eq looks task walker)
        (λ walk. then_walk (walked_on nat_eq count looks task walk) (rest looks task)) (rest looks task)
        (one_word_steps looks task walker has.0)
        (λ walk steps. walked_means count (suc (length walker.here.steps)) walk steps) ∙ word_means walker has.0
    walked_means (suc count) n (Reaches here) has = refl
    walked_means (suc count) n (Names place) has = refl

    -- after as many words as it has nothing is left
    walked_all : (count n : ℕ) (walk : Walk ℕ) → HasSteps n (Ok walk)
        → length (steps_of (rest looks task walk)) ≤ n + count
        → walked_on nat_eq count looks task walk ≡ rest looks task walk
    walked_all zero n (Goes walker) has few =
        let long = after_long (suc (length walker.here.steps)) (one_word nat_eq looks task walker)
        (one_word_steps looks task walker has.0) in
        let same : length (steps_of (then_walk (one_word nat_eq looks task walker) (rest looks task)))
        ≡ length (steps_of (rest looks task (Goes walker))) = ap (λ r. length (steps_of r)) (word_means walker has.0) in
        absurd (omega (arith, long, same, few, has.1))
    walked_all (suc count) n (Goes walker) has few =
        after_steps_in (one_word nat_eq looks task walker) (one_word_steps looks task walker has.0)
        (subst (λ r. length (steps_of r) ≤ n + suc count) (sym (word_means walker has.0)) few)
        (walked_all count (suc (length walker.here.steps))) ∙ word_means walker has.0
      where
        after_steps_in : (a : Result (Walk ℕ) (Stop ℕ)) → HasSteps (suc (length walker.here.steps)) a
            → length (steps_of (then_walk a (rest looks task))) ≤ n + suc count
            → ((walk : Walk ℕ) → HasSteps (suc (length walker.here.steps)) (Ok walk)
            → length (steps_of (rest looks task walk)) ≤ suc (length walker.here.steps) + count
            → walked_on nat_eq count looks task walk ≡ rest looks task walk)
            → then_walk a (walked_on nat_eq count looks task) ≡ then_walk a (rest looks task)
        after_steps_in (Ok walk) steps fewer later = later walk steps (omega (arith, fewer, has.1))
        after_steps_in (Err stop) steps fewer later = refl
    walked_all zero n (Reaches here) has few = refl
    walked_all zero n (Names place) has few = refl
    walked_all (suc count) n (Reaches here) has few = refl
    walked_all (suc count) n (Names place) has few = refl

  module _ (stands : StandsOnDirectories looks task) (path : List ℕ) where
    abbrev start : Here ℕ
    start = walk_start task path

    quiet_start : (word : LastWord) (slash : Bool)
        → Rattle.vt_laws_turns.proofs.walks.by_words.Meanings.IsQuiet looks task start (AsFile word slash)
    quiet_start word slash =
        quiet_at looks task start word slash (directory_at looks task stands.root task.directory stands.directory path)

    -- where the walk begins, and what is then left
    begun_at : (aim : Aim) → then_walk (begun nat_eq aim looks task path) (rest looks task)
        ≡ then_walk (path_text path) (λ text.
        then_walk (gone_on nat_eq looks task start (pending_for nat_eq aim path ∷ []) (last_for nat_eq aim path))
        (rest looks task))
    begun_at aim = grind (arith, common_steps, then_then, rest, text_then)

    object_means : then_walk (path_text path) (λ text.
        then_walk (gone_on nat_eq looks task start (all_words path ∷ []) AsOthers) (rest looks task))
        ≡ whole_walk nat_eq Object looks task path
    object_means = search (arith, common_steps, then_same, gone_on_means, then_ok, text_then, follow, then_then)

    symlink_means : (slash : Bool) → then_walk (path_text path) (λ text.
        then_walk (gone_on nat_eq looks task start (cond slash (all_words path) (first_words path) ∷ [])
        (cond slash AsOthers (NotFollowed (last_of path)))) (rest looks task))
        ≡ reaches nat_eq (symlink_walk_by nat_eq slash looks task path)
    symlink_means true = object_means
    symlink_means false =
        text_then path _ (λ text. reaches nat_eq (then_walk (prefix_walked nat_eq looks task (follow looks task)
        (walk_start task text) (reverse (words text))) (λ here. last_walked nat_eq looks task here (last_of text))))
        (gone_on_means looks task (first_words path ∷ []) start (NotFollowed (last_of path)) tt
        ∙ first_words_mean looks task path start (NotFollowed (last_of path))
        ∙ sym (then_then (prefix_walked nat_eq looks task (follow looks task) start (reverse (words path)))
        (λ here. last_walked nat_eq looks task here (last_of path)) (λ here. Ok (Reaches here))))
        ∙ sym (then_then (path_text path) _ (λ here. Ok (Reaches here)))

    begun_means : (aim : Aim) → then_walk (begun nat_eq aim looks task path) (rest looks task)
        ≡ whole_walk nat_eq aim looks task path
    begun_means Words = grind (arith, common_steps, begun_at, text_then, follow, gone_on_means, then_ok, then_then)
    begun_means Object = begun_at Object ∙ object_means
    begun_means Symlink = begun_at Symlink ∙ symlink_means (ends_in_slash path)
    begun_means InDirectory = begun_at InDirectory
        ∙ text_then path _ (λ text. names nat_eq (then_walk (prefix_walked nat_eq looks task (follow looks task)
        (walk_start task text) (reverse (words text)))
        (λ here. placed nat_eq looks task here (last_of text) (ends_in_slash text))))
        (gone_on_means looks task (first_words path ∷ []) start (AsName (last_of path) (ends_in_slash path)) tt
        ∙ first_words_mean looks task path start (AsName (last_of path) (ends_in_slash path))
        ∙ sym (then_then (prefix_walked nat_eq looks task (follow looks task) start (reverse (words path)))
        (λ here. placed nat_eq looks task here (last_of path) (ends_in_slash path)) (λ place. Ok (Names place))))
        ∙ sym (then_then (path_text path) _ (λ place. Ok (Names place)))
    begun_means File = begun_at File ∙ text_then path _ (λ text. names nat_eq
        (file_walked nat_eq (most_symlinks + 1) looks task (walk_start task text) text false))
        (file_means looks task most_symlinks (omega arith) path false start (omega arith)
        (quiet_start (last_of path) (ends_in_slash path)))
        ∙ sym (then_then (path_text path) _ (λ place. Ok (Names place)))

    pub begun_steps : (aim : Aim) → HasSteps 0 (begun nat_eq aim looks task path)
    begun_steps aim = text_steps path _ (by aim)
      where
        symlink_by : (slash : Bool) → HasSteps 0 (gone_on nat_eq looks task start
            (cond slash (all_words path) (first_words path) ∷ []) (cond slash AsOthers (NotFollowed (last_of path))))
        symlink_by true = gone_on_steps looks task (all_words path ∷ []) start AsOthers 0 refl (omega arith) tt
        symlink_by false =
            gone_on_steps looks task (first_words path ∷ []) start (NotFollowed (last_of path)) 0 refl (omega arith) tt

        by : (aim : Aim)
            → HasSteps 0 (gone_on nat_eq looks task start (pending_for nat_eq aim path ∷ []) (last_for nat_eq aim path))
        by aim = search (arith, common_steps, gone_on_steps, symlink_by, first_words_steps)

pub first_words_are_of_the_walk : FirstWordsAreOfTheWalk
first_words_are_of_the_walk looks task aim path count stands =
    then_then (begun nat_eq aim looks task path) (walked_on nat_eq count looks task) (rest looks task)
    ∙ after_steps looks task stands.root 0 (begun nat_eq aim looks task path)
    (λ walk. then_walk (walked_on nat_eq count looks task walk) (rest looks task)) (rest looks task)
    (begun_steps looks task stands path aim) (λ walk has. walked_means looks task stands.root count 0 walk has)
    ∙ begun_means looks task stands path aim

pub all_words_are_the_walk : AllWordsAreTheWalk
all_words_are_the_walk looks task aim path count stands few =
    by (begun nat_eq aim looks task path) (begun_steps looks task stands path aim)
    (subst (λ r. length (steps_of r) ≤ count) (sym (begun_means looks task stands path aim)) few)
    ∙ begun_means looks task stands path aim
  where
    by : (a : Result (Walk ℕ) (Stop ℕ)) → HasSteps 0 a → length (steps_of (then_walk a (rest looks task))) ≤ count
        → then_walk a (walked_on nat_eq count looks task) ≡ then_walk a (rest looks task)
    by (Ok walk) has fewer = walked_all looks task stands.root count 0 walk has (omega (arith, fewer))
    by (Err stop) has fewer = refl
