-- Word by word each walk of a call leads where it leads as a whole: path_resolution(7).
use Rattle.std.specs.Prelude.{Bool, Err, List, Ok, Result, [], false, if◌then◌else◌, length, nat_eq, reverse, true, ℕ, ◌+◌, ◌≡◌, ◌≤◌, ◌∷◌}
use Rattle.vt_spec.specs.Language.Limits.{most_symlinks}
use Rattle.vt_spec.specs.Machine.Looks.{Looks, is_directory_at}
use Rattle.vt_spec.specs.Machine.Walking.{Follow, Here, Place, Stop, file_or_symlink, file_walked, follow_rules, followed, last_walked, object_walk, path_text, path_walked, place_walk, placed, symlink_of, symlink_start, symlink_there, symlink_walk, then_walk, walk_start, walk_unless, words_walked}
use Rattle.vt_spec.specs.Machine.World.{Task}
use Rattle.vt_spec.specs.PathText.{ends_in_slash, words}
use Rattle.vt_laws_turns.specs.Walks.Walkers.{Last, Pending, Walk, all_words, end_rules, first_words, gone_on, last_of, walked_on}
use Rattle.vt_laws_turns.specs.Walks.Walkers.Last.{AsFile, AsName, AsOthers, NotFollowed}
use Rattle.vt_laws_turns.specs.Walks.Walkers.Walk.{Goes, Names, Reaches}

-- what the walks of a call's paths look for: path_resolution(7)
pub data Aim : Type 0 where
  -- what all words lead to, and that of a path, where a slash asks for a directory
  Words : Aim
  Object : Aim
  -- the object itself, though it be a symlink
  Symlink : Aim
  -- the directory in which the last word is a name
  InDirectory : Aim
  -- so, where a symlink of that name is followed
  File : Aim

-- the steps of a walk, the last one first
abbrev pub steps_of : {N : Type 0} → Result (Walk N) (Stop N) → List (List N)
steps_of (Ok (Goes walker)) = walker.here.steps
steps_of (Ok (Reaches here)) = here.steps
steps_of (Ok (Names place)) = place.steps
steps_of (Err stop) = stop.steps

module _ {N : Type 0} (eq : N → N → Bool) where
  abbrev pub reaches : Result (Here N) (Stop N) → Result (Walk N) (Stop N)
  reaches walk = then_walk walk (λ here. Ok (Reaches here))

  abbrev pub names : Result (Place N) (Stop N) → Result (Walk N) (Stop N)
  names walk = then_walk walk (λ place. Ok (Names place))

  -- a walk as a whole: as each call walks its paths, before the rules that it asks of where they end
  abbrev pub whole_walk : Aim → Looks N → Task N → List ℕ → Result (Walk N) (Stop N)
  whole_walk Words looks task path = reaches (path_walked eq looks task path)
  whole_walk Object looks task path = reaches (object_walk eq looks task path)
  whole_walk Symlink looks task path = reaches (symlink_walk eq looks task path)
  whole_walk InDirectory looks task path = names (place_walk eq looks task path)
  whole_walk File looks task path =
      names (then_walk (path_text path) (λ text.
      file_walked eq (most_symlinks + 1) looks task (walk_start task text) text false))

  -- the words of a path that are walked as all others, and how its last word is taken
  abbrev pub pending_for : Aim → List ℕ → Pending
  pending_for Words text = record { words = words text; slash = false }
  pending_for Object text = all_words text
  pending_for Symlink text = if ends_in_slash text then all_words text else first_words text
  pending_for InDirectory text = first_words text
  pending_for File text = first_words text

  abbrev pub last_for : Aim → List ℕ → Last
  last_for Words text = AsOthers
  last_for Object text = AsOthers
  last_for Symlink text = if ends_in_slash text then AsOthers else NotFollowed (last_of text)
  last_for InDirectory text = AsName (last_of text) (ends_in_slash text)
  last_for File text = AsFile (last_of text) (ends_in_slash text)

  -- a walk before its first word; a path without words is at its end
  abbrev pub begun : Aim → Looks N → Task N → List ℕ → Result (Walk N) (Stop N)
  begun aim looks task path =
      then_walk (path_text path) (λ text.
      gone_on eq looks task (walk_start task text) (pending_for aim text ∷ []) (last_for aim text))

  -- What is left of a walk, as a whole

  -- texts are walked one after the other, from the innermost on, each with the check of a slash at its end
  abbrev pub texts_walked : Looks N → Task N → Follow N → Here N → List Pending → Result (Here N) (Stop N)
  texts_walked looks task follow here [] = Ok here
  texts_walked looks task follow here (text ∷ others) =
      then_walk (words_walked eq looks task follow here (reverse text.words)) (λ reached.
      then_walk (walk_unless reached.steps (end_rules eq looks text.slash reached.location) reached) (λ there.
      texts_walked looks task follow there others))

  -- then the last word is taken, with the symlinks that may stand in one another's texts
  abbrev pub last_taken : ℕ → Looks N → Task N → Here N → Last → Result (Walk N) (Stop N)
  last_taken depth looks task here AsOthers = Ok (Reaches here)
  last_taken depth looks task here (NotFollowed word) = reaches (last_walked eq looks task here word)
  last_taken depth looks task here (AsName word slash) = names (placed eq looks task here word slash)
  last_taken depth looks task here (AsFile word slash) =
      names (then_walk (placed eq looks task here word slash) (λ place.
      file_or_symlink eq looks place (symlink_there eq looks place) (λ text.
      then_walk (walk_unless place.steps (follow_rules eq looks (symlink_of here place) text)
      (symlink_start eq looks task here.location (symlink_of here place) text)) (λ start.
      file_walked eq depth looks task start text slash))))

  abbrev pub rest_walked : Looks N → Task N → Walk N → Result (Walk N) (Stop N)
  rest_walked looks task (Goes walker) =
      then_walk (texts_walked looks task (followed eq looks task) walker.here walker.pending) (λ here.
      last_taken most_symlinks looks task here walker.last)
  rest_walked looks task (Reaches here) = Ok (Reaches here)
  rest_walked looks task (Names place) = Ok (Names place)

-- a task whose root and working directory are directories
pub record StandsOnDirectories (looks : Looks ℕ) (task : Task ℕ) : Type 0 where
  pub root : is_directory_at looks task.root ≡ true
  pub directory : is_directory_at looks task.directory ≡ true

-- After any number of words, what is left leads where the whole walk leads,
abbrev pub FirstWordsAreOfTheWalk : Type 0
FirstWordsAreOfTheWalk =
    (looks : Looks ℕ) (task : Task ℕ) (aim : Aim) (path : List ℕ) (count : ℕ) → StandsOnDirectories looks task
    → then_walk (then_walk (begun nat_eq aim looks task path) (walked_on nat_eq count looks task))
    (rest_walked nat_eq looks task)
    ≡ whole_walk nat_eq aim looks task path

-- and after as many words as it has, it is at its end.
abbrev pub AllWordsAreTheWalk : Type 0
AllWordsAreTheWalk =
    (looks : Looks ℕ) (task : Task ℕ) (aim : Aim) (path : List ℕ) (count : ℕ) → StandsOnDirectories looks task
    → length (steps_of (whole_walk nat_eq aim looks task path)) ≤ count
    → then_walk (begun nat_eq aim looks task path) (walked_on nat_eq count looks task)
    ≡ whole_walk nat_eq aim looks task path
