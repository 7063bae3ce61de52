-- Walks of paths of one word, and of two, from the task's root to a destination.
use Rattle.std.proofs.Common.{arith, ◌≡◌, ap, ◌∙◌, ℕ, nat_eq, true, false, List, [], ◌∷◌, None, Some, Result, Ok, reverse}
use Rattle.vt_spec.proofs.Common.{Here, Location, Named, Stop, Task, World, common_steps, entries_in, entry_named, execute_right, filesystem_at, followed, if_symlink, is_absolute, is_directory_at, is_removed_at, last_word, most_symlinks, node_allows, node_at, passed, path_text, path_walked, symlink_text, then_walk, topmost, walk_unless, words}
use Rattle.vt_laws_later_calls.proofs.Common.{Deny, W8, destination_walk, directory_no_link, directory_walk, search_rules, source_walk, stepped, steps_with, word_walked, words_walked}

-- the path has one word, from the root on
pub record HasOneWord (path word : List ℕ) : Type 0 where
  pub parsed : path_text {N = ℕ} path ≡ Ok path
  pub absolute : is_absolute path ≡ true
  pub words_are : reverse (words path) ≡ word ∷ []
  pub named : last_word word ≡ Named word

-- the path has two words, from the root on
pub record HasTwoWords (path first second : List ℕ) : Type 0 where
  pub parsed : path_text {N = ℕ} path ≡ Ok path
  pub absolute : is_absolute path ≡ true
  pub words_are : reverse (words path) ≡ second ∷ first ∷ []
  pub first_named : last_word first ≡ Named first
  pub second_named : last_word second ≡ Named second

-- The task may search a directory, in which the word leads to an inode; the mounts over that end at a directory.
pub record WordLeads (world : World ℕ) (task : Task ℕ) (from : Location ℕ) (word : List ℕ) (object : ℕ)
    (next : Location ℕ) : Type 0 where
  pub searched : is_directory_at nat_eq world from ≡ true
  pub plain : (filesystem_at nat_eq world from).overlay ≡ None
  pub searches : node_allows task.credentials execute_right (node_at nat_eq world from) ≡ true
  pub entry : entry_named word (entries_in (node_at nat_eq world from)) ≡ Some object
  pub leads : topmost nat_eq world.mounts (record { mount = from.mount; node = object }) ≡ next
  pub directory : is_directory_at nat_eq world next ≡ true

module _ {world : World ℕ} {task : Task ℕ} {from next : Location ℕ} (left : ℕ) (steps : List (List ℕ)) {word : List ℕ}
    {object : ℕ} (way : WordLeads world task from word object next) where
  -- at the directory
  abbrev here : Here ℕ
  here = record { location = from; left = left; steps = steps }

  -- and where the word leads
  abbrev pub there : Here ℕ
  there = record { location = next; left = left; steps = steps_with nat_eq world task here (Named word) }

  -- the walk goes on from where a word led
  abbrev moved_on : Location ℕ → Result (Here ℕ) Deny
  moved_on reached =
      Ok (record { location = reached; left = left; steps = steps_with nat_eq world task here (Named word) })

  -- the word is walked
  word_is_walked : word_walked nat_eq world task here (Named word) ≡ Ok there
  word_is_walked = grind (arith, common_steps, steps_with, passed, search_rules, stepped)

  -- the word walked, and no symlink followed
  pub word_goes_on : then_walk (word_walked nat_eq world task here (Named word)) (λ reached.
      if_symlink reached (symlink_text (node_at nat_eq world reached.location))
      (followed nat_eq world task from reached)) ≡ Ok there
  word_goes_on = grind (arith, common_steps, followed, word_is_walked, directory_no_link)

-- a place that no mount covers, and that is not removed, is a destination
pub record IsDestination (world : World ℕ) (top : Location ℕ) : Type 0 where
  pub ends : topmost nat_eq world.mounts top ≡ top
  pub directory : is_directory_at nat_eq world top ≡ true
  pub stays : is_removed_at nat_eq world top ≡ false

module _ {world : World ℕ} (task : Task ℕ) (path : List ℕ) (end : Here ℕ)
    (walked : path_walked nat_eq world task path ≡ Ok end) (is : IsDestination world end.location) where
  -- a path that leads to such a place is walked to it as to a directory
  pub directory_is_walked : directory_walk nat_eq world task path ≡ Ok end
  directory_is_walked = cc (walked, is.directory)

  -- and as to a source
  source_is_walked : source_walk nat_eq world task path ≡ Ok end
  source_is_walked = cc (directory_is_walked, is.stays)

  -- and as to a destination, where it is the topmost mount
  pub destination_is_walked : destination_walk nat_eq world task path ≡ Ok end
  destination_is_walked = ap (λ walk. then_walk walk (λ here.
      walk_unless here.steps ((is_removed_at nat_eq world (topmost nat_eq world.mounts here.location), W8) ∷ [])
      (record here { location = topmost nat_eq world.mounts here.location }))) source_is_walked
      ∙ ap (λ place. walk_unless end.steps ((is_removed_at nat_eq world place, W8) ∷ [])
      (record end { location = place })) is.ends ∙ ap (λ b. walk_unless end.steps ((b, W8) ∷ []) end) is.stays

module _ (world : World ℕ) (task : Task ℕ) where
  -- at the task's root
  abbrev start : Here ℕ
  start = record { location = task.root; left = most_symlinks; steps = [] }

  -- what comes after a word: no symlink is followed at a directory
  abbrev after_word : Here ℕ → Here ℕ → Result (Here ℕ) (Stop ℕ)
  after_word reached next = if_symlink next (symlink_text (node_at nat_eq world next.location))
      (followed nat_eq world task reached.location next)

  -- words walked from somewhere, symlinks followed
  abbrev words_from : Here ℕ → List (List ℕ) → Result (Here ℕ) (Stop ℕ)
  words_from here list = words_walked nat_eq world task (followed nat_eq world task) here list

  -- an absolute path is walked from the task's root
  walked_from_root : (path : List ℕ) (list : List (List ℕ)) → path_text {N = ℕ} path ≡ Ok path
      → is_absolute path ≡ true → reverse (words path) ≡ list
      → path_walked nat_eq world task path ≡ words_from start list
  walked_from_root path list parsed absolute words_are = grind (arith, common_steps)

  -- a path of one word
  module _ {path word : List ℕ} (one : HasOneWord path word) {object : ℕ} {top : Location ℕ}
      (way : WordLeads world task task.root word object top) where
    -- where the walk ends
    abbrev pub end_of_one : Here ℕ
    end_of_one = there most_symlinks [] way

    -- the word is walked from the task's root
    pub one_word_leads : path_walked nat_eq world task path ≡ Ok end_of_one
    one_word_leads = walked_from_root path (word ∷ []) one.parsed one.absolute one.words_are
        ∙ ap (λ last. then_walk (word_walked nat_eq world task start last) (after_word start)) one.named
        ∙ word_goes_on most_symlinks [] way

  -- a path of two words
  module _ {path first second : List ℕ} (two : HasTwoWords path first second) {object inner : ℕ}
      {middle top : Location ℕ} (first_way : WordLeads world task task.root first object middle)
      (second_way : WordLeads world task middle second inner top) where
    abbrev between : Here ℕ
    between = there most_symlinks [] first_way

    -- where the walk ends
    abbrev pub end_of_two : Here ℕ
    end_of_two = there most_symlinks between.steps second_way

    -- the two words are walked one after the other
    pub two_words_lead : path_walked nat_eq world task path ≡ Ok end_of_two
    two_words_lead = walked_from_root path (second ∷ first ∷ []) two.parsed two.absolute two.words_are
        ∙ ap (λ last. then_walk (then_walk (word_walked nat_eq world task start last) (after_word start)) (λ reached.
        then_walk (word_walked nat_eq world task reached (last_word second)) (after_word reached))) two.first_named
        ∙ ap (λ walk. then_walk walk (λ reached.
        then_walk (word_walked nat_eq world task reached (last_word second)) (after_word reached)))
        (word_goes_on most_symlinks [] first_way)
        ∙ ap (λ last. then_walk (word_walked nat_eq world task between last) (after_word between)) two.second_named
        ∙ word_goes_on most_symlinks between.steps second_way
