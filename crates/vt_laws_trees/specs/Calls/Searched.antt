-- Each directory on the way of a walk is searched: path_resolution(7), "Permissions".
use Rattle.std.specs.Prelude.{Bool, List, None, Ok, Option, Result, Some, [], false, nat_eq, true, ℕ, ◌++◌, ◌∷◌, ◌≡◌}
use Rattle.std.specs.List.{All}
use Rattle.vt_spec.specs.FileTree.{symlink_text}
use Rattle.vt_spec.specs.Lists.{then_some}
use Rattle.vt_spec.specs.Machine.Looks.{Looks, looks_of, topmost}
use Rattle.vt_spec.specs.Machine.Mounts.{Location}
use Rattle.vt_spec.specs.Machine.Rightful.{mounter_allows, node_allows}
use Rattle.vt_spec.specs.Machine.Rules.Mounting
use Rattle.vt_spec.specs.Machine.Rules.Removing
use Rattle.vt_spec.specs.Machine.Walking.{Here, LastWord, Place, Stop, directory_walk, file_walk, is_no_word, last_word, new_leaf_walk, new_walk, object_named, object_walk, old_leaf_walk, old_walk, place_walk, placed, start_of, stepped, symlink_walk, word_walked}
use Rattle.vt_spec.specs.Machine.Walking.LastWord.{NoWord}
use Rattle.vt_spec.specs.Machine.World.{Task, World, filesystem_at, is_directory_at, node_at}
use Rattle.vt_spec.specs.PathText.{ends_in_slash, words}
use Rattle.vt_spec.specs.Rights.{execute_right}

-- a directory that the task, and on an overlay its mounter, may search
pub record IsSearchable (world : World ℕ) (task : Task ℕ) (here : Location ℕ) : Type 0 where
  pub directory : is_directory_at nat_eq world here ≡ true
  pub by_task : node_allows task.credentials execute_right (node_at nat_eq world here) ≡ true
  pub by_mounter :
      mounter_allows (filesystem_at nat_eq world here).overlay execute_right (node_at nat_eq world here) ≡ true

-- A word that was walked was looked up in such a directory.
abbrev pub EachWordIsLookedUpByRight : Type 0
EachWordIsLookedUpByRight =
    (world : World ℕ) (task : Task ℕ) (here next : Here ℕ) (word : LastWord)
    → word_walked nat_eq (looks_of nat_eq world) task here word ≡ Ok next → IsSearchable world task here.location

-- So was the last word of a path, where a call takes the name itself.
abbrev pub EachLastWordIsLookedUpByRight : Type 0
EachLastWordIsLookedUpByRight =
    (world : World ℕ) (task : Task ℕ) (here : Here ℕ) (place : Place ℕ) (word : LastWord) (slash : Bool)
    → is_no_word word ≡ false → placed nat_eq (looks_of nat_eq world) task here word slash ≡ Ok place
    → IsSearchable world task here.location

-- The way on which words lead through mounts and symlinks, path_resolution(7). Each word is looked up where the words
-- before it lead, the first one where the way starts. From what it names the way goes on, unless that is a symlink:
-- then it goes on from where the words of its text lead, which start in the directory of the symlink, or at the task's
-- root. The locations in which words are looked up are passed, in this order.
pub data Way (world : World ℕ) (task : Task ℕ)
    : Location ℕ → List (List ℕ) → List (Location ℕ) → Location ℕ → Type 0 where
  arrives : (here : Location ℕ) → Way world task here [] [] here
  goes_on : (here next end : Location ℕ) (word : List ℕ) (rest : List (List ℕ)) (passed : List (Location ℕ))
      → stepped nat_eq (looks_of nat_eq world) task here (last_word word) ≡ Ok next
      → symlink_text (node_at nat_eq world next) ≡ None
      → Way world task next rest passed end
      → Way world task here (word ∷ rest) (here ∷ passed) end
  follows : (here link inside end : Location ℕ) (word text : List ℕ) (rest : List (List ℕ))
      (in_text passed : List (Location ℕ))
      → stepped nat_eq (looks_of nat_eq world) task here (last_word word) ≡ Ok link
      → symlink_text (node_at nat_eq world link) ≡ Some text
      → Way world task (start_of task here text) (words text) in_text inside
      → Way world task inside rest passed end
      → Way world task here (word ∷ rest) (here ∷ (in_text ++ passed)) end

-- The way to the directory of the last word, where that word is looked up, too. Without words it ends where it starts.
pub data WayToName (world : World ℕ) (task : Task ℕ)
    : Location ℕ → List (List ℕ) → List (Location ℕ) → Location ℕ → LastWord → Type 0 where
  no_name : (here : Location ℕ) → WayToName world task here [] [] here NoWord
  name_in : (start directory : Location ℕ) (prefix : List (List ℕ)) (word : List ℕ) (passed : List (Location ℕ))
      → Way world task start prefix passed directory
      → WayToName world task start (prefix ++ word ∷ []) (passed ++ directory ∷ []) directory (last_word word)

-- The way to the directory of a file that is opened or made: if the last word names a symlink, that of its text.
pub data WayToFile (world : World ℕ) (task : Task ℕ)
    : Location ℕ → List (List ℕ) → List (Location ℕ) → Location ℕ → Type 0 where
  file_in : (start directory : Location ℕ) (path_words : List (List ℕ)) (last : LastWord) (object : Option (Location ℕ))
      (passed : List (Location ℕ))
      → WayToName world task start path_words passed directory last
      → object_named nat_eq (looks_of nat_eq world) task directory last ≡ Ok object
      → then_some object (λ found. symlink_text (node_at nat_eq world found)) ≡ None
      → WayToFile world task start path_words passed directory
  through_symlink : (start directory end : Location ℕ) (path_words : List (List ℕ)) (last : LastWord)
      (object : Option (Location ℕ)) (text : List ℕ) (passed in_text : List (Location ℕ))
      → WayToName world task start path_words passed directory last
      → object_named nat_eq (looks_of nat_eq world) task directory last ≡ Ok object
      → then_some object (λ found. symlink_text (node_at nat_eq world found)) ≡ Some text
      → WayToFile world task (start_of task directory text) (words text) in_text end
      → WayToFile world task start path_words (passed ++ in_text) end

-- Words have one such way at most.
abbrev pub WaysAreOne : Type 0
WaysAreOne =
    (world : World ℕ) (task : Task ℕ) (start end other_end : Location ℕ) (path_words : List (List ℕ))
    (passed other_passed : List (Location ℕ))
    → Way world task start path_words passed end → Way world task start path_words other_passed other_end
    → (passed ≡ other_passed) × (end ≡ other_end)

-- The words lead to a location, and each directory that is passed may be searched.
pub record IsSearchedWay (world : World ℕ) (task : Task ℕ) (start : Location ℕ) (path_words : List (List ℕ))
    (end : Location ℕ) : Type 0 where
  pub passed : List (Location ℕ)
  pub way : Way world task start path_words passed end
  pub searched : All (IsSearchable world task) passed

pub record IsSearchedWayToName (world : World ℕ) (task : Task ℕ) (start : Location ℕ) (path_words : List (List ℕ))
    (directory : Location ℕ) (last : LastWord) : Type 0 where
  pub passed : List (Location ℕ)
  pub way : WayToName world task start path_words passed directory last
  pub searched : All (IsSearchable world task) passed

pub record IsSearchedWayToFile (world : World ℕ) (task : Task ℕ) (start : Location ℕ) (path_words : List (List ℕ))
    (directory : Location ℕ) : Type 0 where
  pub passed : List (Location ℕ)
  pub way : WayToFile world task start path_words passed directory
  pub searched : All (IsSearchable world task) passed

-- so it is with a path, which starts in the task's working directory or at its root
abbrev pub IsSearchedTo : World ℕ → Task ℕ → List ℕ → Location ℕ → Type 0
IsSearchedTo world task path end = IsSearchedWay world task (start_of task task.directory path) (words path) end

abbrev pub IsSearchedToName : World ℕ → Task ℕ → List ℕ → Location ℕ → LastWord → Type 0
IsSearchedToName world task path directory last =
    IsSearchedWayToName world task (start_of task task.directory path) (words path) directory last

abbrev pub IsSearchedToFile : World ℕ → Task ℕ → List ℕ → Location ℕ → Type 0
IsSearchedToFile world task path directory =
    IsSearchedWayToFile world task (start_of task task.directory path) (words path) directory

-- Walks to objects and directories end where the words lead, after such a way.
abbrev pub ObjectWaysAreSearched : Type 0
ObjectWaysAreSearched =
    (world : World ℕ) (task : Task ℕ) (path : List ℕ) (here : Here ℕ)
    → object_walk nat_eq (looks_of nat_eq world) task path ≡ Ok here → IsSearchedTo world task path here.location

abbrev pub DirectoryWaysAreSearched : Type 0
DirectoryWaysAreSearched =
    (world : World ℕ) (task : Task ℕ) (path : List ℕ) (here : Here ℕ)
    → directory_walk nat_eq (looks_of nat_eq world) task path ≡ Ok here → IsSearchedTo world task path here.location

-- mount(2): a source or layer, and a destination, which is entered through the mounts over it
abbrev pub SourceWaysAreSearched : Type 0
SourceWaysAreSearched =
    (world : World ℕ) (task : Task ℕ) (path : List ℕ) (here : Here ℕ)
    → Mounting.source_walk nat_eq (looks_of nat_eq world) task path ≡ Ok here
    → IsSearchedTo world task path here.location

abbrev pub DestinationWaysAreSearched : Type 0
DestinationWaysAreSearched =
    (world : World ℕ) (task : Task ℕ) (path : List ℕ) (here : Here ℕ)
    → Mounting.destination_walk nat_eq (looks_of nat_eq world) task path ≡ Ok here
    → (directory : Location ℕ) × (here.location ≡ topmost (looks_of nat_eq world) directory)
    × IsSearchedTo world task path directory

-- lstat(2), readlink(2): a final symlink is not followed, unless a slash stands behind it
abbrev pub SymlinkWaysAreSearched : Type 0
SymlinkWaysAreSearched =
    (world : World ℕ) (task : Task ℕ) (path : List ℕ) (here : Here ℕ)
    → symlink_walk nat_eq (looks_of nat_eq world) task path ≡ Ok here
    → (ends_in_slash path ≡ true → IsSearchedTo world task path here.location)
    × (ends_in_slash path ≡ false → (directory : Location ℕ) × (last : LastWord)
    × IsSearchedToName world task path directory last
    × (stepped nat_eq (looks_of nat_eq world) task directory last ≡ Ok here.location))

-- Walks to names: what is made, linked, moved or removed
abbrev pub NameWaysAreSearched : (Looks ℕ → Task ℕ → List ℕ → Result (Place ℕ) (Stop ℕ)) → Type 0
NameWaysAreSearched walk =
    (world : World ℕ) (task : Task ℕ) (path : List ℕ) (place : Place ℕ)
    → walk (looks_of nat_eq world) task path ≡ Ok place → IsSearchedToName world task path place.parent place.last

abbrev pub PlaceWaysAreSearched : Type 0
PlaceWaysAreSearched = NameWaysAreSearched (place_walk nat_eq)

abbrev pub NewNameWaysAreSearched : Type 0
NewNameWaysAreSearched = NameWaysAreSearched (new_walk nat_eq)

abbrev pub NewLeafWaysAreSearched : Type 0
NewLeafWaysAreSearched = NameWaysAreSearched (new_leaf_walk nat_eq)

abbrev pub OldNameWaysAreSearched : Type 0
OldNameWaysAreSearched = NameWaysAreSearched (old_walk nat_eq)

abbrev pub OldLeafWaysAreSearched : Type 0
OldLeafWaysAreSearched = NameWaysAreSearched (old_leaf_walk nat_eq)

-- the new name of rename(2)
abbrev pub RenamedWaysAreSearched : Type 0
RenamedWaysAreSearched =
    (old_is_directory : Bool)
    → NameWaysAreSearched (λ looks task path. Removing.rename_new_walk nat_eq looks task path old_is_directory)

-- open(2), write(2)
abbrev pub FileWaysAreSearched : Type 0
FileWaysAreSearched =
    (world : World ℕ) (task : Task ℕ) (path : List ℕ) (place : Place ℕ)
    → file_walk nat_eq (looks_of nat_eq world) task path ≡ Ok place → IsSearchedToFile world task path place.parent
