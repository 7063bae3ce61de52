-- Walks that go on word by word: what is left of a walk between two turns (profile).
use Rattle.std.specs.Prelude.{Bool, List, None, Ok, Option, Result, Some, [], false, if◌then◌else◌, not, reverse, suc, true, zero, ℕ, ◌||◌, ◌∷◌}
use Rattle.vt_spec.specs.declared.errors.Rule.TheVariants.{W3}
use Rattle.vt_spec.specs.Errors.{Rules}
use Rattle.vt_spec.specs.FileTree.{symlink_text}
use Rattle.vt_spec.specs.Lists.{is_empty_list, rest_of}
use Rattle.vt_spec.specs.Machine.Looks.{Looks, is_directory_at}
use Rattle.vt_spec.specs.Machine.Mounts.{Location}
use Rattle.vt_spec.specs.Machine.Walking.{Here, LastWord, Place, Stop, entered, final_word, follow_rules, is_no_word, last_walked, last_word, placed, symlink_of, symlink_start, symlink_there, then_walk, walk_unless, word_walked}
use Rattle.vt_spec.specs.Machine.World.{Task}
use Rattle.vt_spec.specs.PathText.{ends_in_slash, words}

-- the words that are left of a text, the next one first, and whether a slash behind them asks for a directory
pub record Pending : Type 0 where
  pub words : List (List ℕ)
  pub slash : Bool

-- How a walk takes the last word of its path: as each other word; so, but a final symlink itself, as lstat(2); as a
-- name in its directory, as mkdir(2) and unlink(2); or so, where a symlink of that name is followed, as open(2) with
-- O_CREAT.
pub data Last : Type 0 where
  AsOthers : Last
  NotFollowed : (word : LastWord) → Last
  AsName : (word : LastWord) → (slash : Bool) → Last
  AsFile : (word : LastWord) → (slash : Bool) → Last

-- a walk that is half done: where it stands, the texts of which words are left, the innermost first, and the last word
-- of its path
pub record Walker (N : Type 0) : Type 0 where
  pub here : Here N
  pub pending : List Pending
  pub last : Last

-- a walk: half done, or at its end, which is an object or a place
pub data Walk (N : Type 0) : Type 0 where
  Goes : (walker : Walker N) → Walk N
  Reaches : (here : Here N) → Walk N
  Names : (place : Place N) → Walk N

-- all words of a text
abbrev pub all_words : List ℕ → Pending
all_words text = record { words = words text; slash = ends_in_slash text }

-- the words of a text but the last
abbrev pub first_words : List ℕ → Pending
first_words text = record { words = reverse (rest_of (reverse (words text))); slash = false }

-- the last word of a text
abbrev pub last_of : List ℕ → LastWord
last_of text = final_word (reverse (words text))

-- no word is left for the end of a walk
abbrev pub has_no_word : Last → Bool
has_no_word AsOthers = true
has_no_word (NotFollowed word) = is_no_word word
has_no_word (AsName word slash) = is_no_word word
has_no_word (AsFile word slash) = is_no_word word

module _ {N : Type 0} (eq : N → N → Bool) where
  -- a slash behind the words of a text asks for a directory: path_resolution(7)
  abbrev pub end_rules : Looks N → Bool → Location N → Rules
  end_rules looks slash here = ((if slash then not (is_directory_at looks here) else false), W3) ∷ []

  -- the end of a walk where no word is left
  abbrev pub ended : Looks N → Task N → Here N → Last → Result (Walk N) (Stop N)
  ended looks task here AsOthers = Ok (Reaches here)
  ended looks task here (NotFollowed word) = Ok (Reaches here)
  ended looks task here (AsName word slash) =
      then_walk (placed eq looks task here word slash) (λ place. Ok (Names place))
  ended looks task here (AsFile word slash) =
      then_walk (placed eq looks task here word slash) (λ place. Ok (Names (entered eq looks place)))

  -- A text of which no word is left ends together with the word that was its last, and so do the texts around it.
  abbrev pub gone_on : Looks N → Task N → Here N → List Pending → Last → Result (Walk N) (Stop N)
  gone_on looks task here [] last =
      if has_no_word last then ended looks task here last
      else Ok (Goes (record { here = here; pending = []; last = last }))
  gone_on looks task here (text ∷ others) last =
      if is_empty_list text.words then
      then_walk (walk_unless here.steps (end_rules looks text.slash here.location) here) (λ reached.
      gone_on looks task reached others last)
      else Ok (Goes (record { here = here; pending = text ∷ others; last = last }))

  -- where a word leads: a symlink is followed, from the directory that it stands in
  abbrev pub arrived : Looks N → Task N → Location N → Here N → List Pending → Last → Option (List ℕ)
      → Result (Walk N) (Stop N)
  arrived looks task directory here pending last None = gone_on looks task here pending last
  arrived looks task directory here pending last (Some text) =
      then_walk (walk_unless here.steps (follow_rules eq looks here text)
      (symlink_start eq looks task directory here text))
      (λ start. gone_on looks task start (all_words text ∷ pending) last)

  -- the next word of a text
  abbrev pub text_word : Looks N → Task N → Here N → List (List ℕ) → Bool → List Pending → Last
      → Result (Walk N) (Stop N)
  text_word looks task here [] slash others last =
      gone_on looks task here (record { words = []; slash = slash } ∷ others) last
  text_word looks task here (word ∷ rest) slash others last =
      then_walk (word_walked eq looks task here (last_word word)) (λ next.
      arrived looks task here.location next (record { words = rest; slash = slash } ∷ others) last
      (symlink_text (looks.node next.location)))

  -- a file is opened or made; a symlink in its place is followed
  abbrev pub opened : Looks N → Task N → Here N → Place N → Bool → Option (List ℕ) → Result (Walk N) (Stop N)
  opened looks task here place slash None = Ok (Names (entered eq looks place))
  opened looks task here place slash (Some text) =
      then_walk (walk_unless place.steps (follow_rules eq looks (symlink_of here place) text)
      (symlink_start eq looks task here.location (symlink_of here place) text)) (λ start.
      gone_on looks task start (first_words text ∷ []) (AsFile (last_of text) (slash || ends_in_slash text)))

  -- the last word
  abbrev pub last_step : Looks N → Task N → Here N → Last → Result (Walk N) (Stop N)
  last_step looks task here AsOthers = Ok (Reaches here)
  last_step looks task here (NotFollowed word) =
      then_walk (last_walked eq looks task here word) (λ next. Ok (Reaches next))
  last_step looks task here (AsName word slash) =
      then_walk (placed eq looks task here word slash) (λ place. Ok (Names place))
  last_step looks task here (AsFile word slash) =
      then_walk (placed eq looks task here word slash) (λ place.
      opened looks task here place slash (symlink_there eq looks place))

  -- one word of a walk
  abbrev pub word_by : Looks N → Task N → Here N → List Pending → Last → Result (Walk N) (Stop N)
  word_by looks task here [] last = last_step looks task here last
  word_by looks task here (text ∷ others) last = text_word looks task here text.words text.slash others last

  abbrev pub one_word : Looks N → Task N → Walker N → Result (Walk N) (Stop N)
  one_word looks task walker = word_by looks task walker.here walker.pending walker.last

  -- so many words of a walk, one after the other
  abbrev pub walked_on : ℕ → Looks N → Task N → Walk N → Result (Walk N) (Stop N)
  walked_on zero looks task walk = Ok walk
  walked_on (suc count) looks task (Goes walker) =
      then_walk (one_word looks task walker) (walked_on count looks task)
  walked_on (suc count) looks task walk = Ok walk
