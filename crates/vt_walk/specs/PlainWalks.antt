-- The walks of the definitions without the filesystems that they meet, of which code keeps no record.
use Rattle.std.specs.Prelude.{Bool, List, None, Ok, Option, Result, Some, [], Err, nat_eq, option_map, reverse, suc, zero, ℕ, ◌+◌, ◌-◌, ◌||◌, ◌∷◌, false}
use Rattle.vt_spec.specs.declared.errors.Deny.{Deny}
use Rattle.vt_spec.specs.declared.errors.Rule.TheVariants.{W7}
use Rattle.vt_spec.specs.Errors.{and_then, denial, unless}
use Rattle.vt_spec.specs.FileTree.{symlink_text}
use Rattle.vt_spec.specs.Language.Limits.{most_symlinks}
use Rattle.vt_spec.specs.Machine.Looks.{Looks, topmost}
use Rattle.vt_spec.specs.Machine.Mounts.{Location}
use Rattle.vt_spec.specs.Machine.Walking.{Here, LastWord, Place, final_word, follow_rules, last_word, object_named, search_rules, slash_rules, start_of, stepped, symlink_of, symlink_there}
use Rattle.vt_spec.specs.Machine.Walking.LastWord.{Dot, DotDot, Named, NoWord}
use Rattle.vt_spec.specs.Machine.World.{Task}
use Rattle.vt_spec.specs.PathText.{ends_in_slash, words}

-- where a walk has come to, and how many symlinks it may still follow
abbrev pub standing : Location ℕ → ℕ → Here ℕ
standing location left = record { location = location; left = left; steps = [] }

-- how a symlink's text is walked: from the directory of the symlink
abbrev pub Follow : Type 0
Follow = Location ℕ → Here ℕ → List ℕ → Result (Here ℕ) Deny

abbrev pub if_symlink : Here ℕ → Option (List ℕ) → (List ℕ → Result (Here ℕ) Deny) → Result (Here ℕ) Deny
if_symlink here None follow = Ok here
if_symlink here (Some text) follow = follow text

abbrev pub entered : Looks ℕ → Place ℕ → Place ℕ
entered looks place = record place { object = option_map (topmost looks) place.object }

abbrev pub file_or_symlink : Looks ℕ → Place ℕ → Option (List ℕ) → (List ℕ → Result (Place ℕ) Deny)
    → Result (Place ℕ) Deny
file_or_symlink looks place None follow = Ok (entered looks place)
file_or_symlink looks place (Some text) follow = follow text

module _ (looks : Looks ℕ) (task : Task ℕ) where
  -- where a word leads, in a directory that may be searched
  abbrev pub word_led : Location ℕ → LastWord → Result (Location ℕ) Deny
  word_led here word = unless (search_rules nat_eq looks task here) (stepped nat_eq looks task here word)

  abbrev pub word_walked : Here ℕ → LastWord → Result (Here ℕ) Deny
  word_walked here word = and_then (word_led here.location word) (λ reached. Ok (standing reached here.left))

  -- the last word walked; a final symlink is not followed
  abbrev pub last_walked : Here ℕ → LastWord → Result (Here ℕ) Deny
  last_walked here NoWord = Ok here
  last_walked here Dot = word_walked here Dot
  last_walked here DotDot = word_walked here DotDot
  last_walked here (Named name) = word_walked here (Named name)

  -- the words walked, of which the last comes first; every symlink is followed
  abbrev pub words_walked : Follow → Here ℕ → List (List ℕ) → Result (Here ℕ) Deny
  words_walked follow here [] = Ok here
  words_walked follow here (word ∷ prefix) =
      and_then (words_walked follow here prefix) (λ reached.
      and_then (word_walked reached (last_word word)) (λ next.
      if_symlink next (symlink_text (looks.node next.location)) (follow reached.location next)))

  abbrev pub symlink_start : Location ℕ → Here ℕ → List ℕ → Here ℕ
  symlink_start directory link text = standing (start_of task directory text) (link.left - 1)

  -- a symlink's text walked, with symlinks in one another's texts no deeper than this
  abbrev pub symlink_walked : ℕ → Location ℕ → Here ℕ → List ℕ → Result (Here ℕ) Deny
  symlink_walked zero directory link text = Err (denial W7)
  symlink_walked (suc depth) directory link text =
      unless (follow_rules nat_eq looks link text)
      (and_then (words_walked (λ inside next inner. symlink_walked depth inside next inner)
      (symlink_start directory link text) (reverse (words text))) (λ reached.
      unless (slash_rules nat_eq looks text reached.location) (Ok reached)))

  abbrev pub followed : Location ℕ → Here ℕ → List ℕ → Result (Here ℕ) Deny
  followed directory link text = symlink_walked (most_symlinks + 1) directory link text

  -- all words but the last
  abbrev pub prefix_walked : Here ℕ → List (List ℕ) → Result (Here ℕ) Deny
  prefix_walked here [] = Ok here
  prefix_walked here (word ∷ prefix) = words_walked followed here prefix

  -- what a last word names in a directory, with no symlink followed and no mount entered
  abbrev pub placed : Location ℕ → LastWord → Bool → Result (Place ℕ) Deny
  placed here NoWord slash =
      Ok (record { parent = here; last = NoWord; object = Some here; slash = false; steps = [] })
  placed here word slash =
      and_then (unless (search_rules nat_eq looks task here) (object_named nat_eq looks task here word)) (λ object.
      Ok (record { parent = here; last = word; object = object; slash = slash; steps = [] }))

  -- the place of a file, a final symlink followed
  abbrev pub file_walked : ℕ → Here ℕ → List ℕ → Bool → Result (Place ℕ) Deny
  file_walked zero start text slash = Err (denial W7)
  file_walked (suc depth) start text slash =
      and_then (prefix_walked start (reverse (words text))) (λ here.
      and_then (placed here.location (final_word (reverse (words text))) (slash || ends_in_slash text)) (λ place.
      file_or_symlink looks place (symlink_there nat_eq looks place) (λ inner.
      unless (follow_rules nat_eq looks (symlink_of here place) inner)
      (file_walked depth (symlink_start here.location (symlink_of here place) inner) inner
      (slash || ends_in_slash text)))))
