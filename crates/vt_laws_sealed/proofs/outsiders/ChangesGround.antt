-- Where others change something: on mounts of their namespaces, where they stand, or where they have a file open.
use Rattle.std.proofs.Common.{◌≡◌, subst, inr, ℕ, nat_eq, Bool, true, false, List, [], ◌∷◌, Option, Some, Ok, is_some}
use Rattle.vt_spec.proofs.Common.{Among, Call, Change, CopyUp, Fresh, Here, IsWorld, LastWord, Location, Permit, Place, SetMark, Task, TaskName, World, among-map, descriptor_found, directory_used, file_walk, files_at, found_among, is_copied_up, looks_of, none_is_some, object_walk, overfills, same_Some, task_called, when, words, ⊤}
use Rattle.vt_laws_sealed.proofs.Common.{IsGranted, IsGround, at_end, change_asked, changes_mark, changes_mode, changes_owner, creates, creates_exclusively, directory_ground, directory_ways_are_searched, makes_directory, makes_hard_link, makes_symlink, makes_whiteout, name_found, new_leaf_ways_are_searched, new_name_ways_are_searched, object_ways_are_searched, old_leaf_ways_are_searched, old_name_ways_are_searched, opens, opens_existing, overwrites_file, removes_directory, renames, searched_ground, start_ground, unlinks, way_ground, writes_new_file, writes_part}
use Rattle.vt_laws_sealed.proofs.outsiders.OthersCalls.{IsOthersCall}
use Rattle.vt_laws_trees.specs.Calls.Inodes.{written_if_some}
use Rattle.vt_laws_trees.specs.Calls.Searched.{IsSearchedToFile, IsSearchedToName, WayToFile, WayToName}
use Rattle.vt_laws_trees.specs.Calls.Searched.WayToFile.{file_in, through_symlink}
use Rattle.vt_laws_trees.specs.Calls.Searched.WayToName.{name_in, no_name}
use Rattle.vt_laws_trees.proofs.calls.ways.WaysFiles.{file_ways_are_searched}
use Rattle.vt_laws_worlds.proofs.worlds.ReachedWalks.{directory_walk_end}
use Rattle.vt_laws_sealed.proofs.outsiders.Entering.{ground_outside, old_outside, task_there}
use Rattle.vt_laws_sealed.proofs.outsiders.Opening.{IsFileGround, file_walk_ground}
use Rattle.vt_laws_sealed.proofs.outsiders.OwnTasks.{IsOutside}

-- what is marked is there
abbrev pub MarksWhatIsThere : World ℕ → Location ℕ → Change ℕ → Type 0
MarksWhatIsThere world location (SetMark directory opaque) =
    is_some ((files_at nat_eq world location).tree.node directory) ≡ true
MarksWhatIsThere world location change = ⊤

-- The directory of a name
module _ (world : World ℕ) (is : IsWorld nat_eq world) (task : Task ℕ) (there : Among task world.tasks) where
  abbrev OnGround : Location ℕ → Type 0
  OnGround location = IsGround world is task there location.mount

  name_ground : (start directory : Location ℕ) (path_words : List (List ℕ)) (passed : List (Location ℕ))
      (last : LastWord) → WayToName world task start path_words passed directory last → OnGround start
      → OnGround directory
  name_ground start directory path_words passed last (no_name here) ground = ground
  name_ground start directory path_words passed last (name_in from at prefix word before way) ground =
      way_ground world is task there from at prefix before way ground

  file_way_ground : (start directory : Location ℕ) (path_words : List (List ℕ)) (passed : List (Location ℕ))
      → WayToFile world task start path_words passed directory → OnGround start → OnGround directory
  file_way_ground start directory path_words passed (file_in from at path last object before way named plain) ground =
      name_ground from at path before last way ground
  file_way_ground start directory path_words passed (through_symlink from at end path last object text before in_text
      way named linked rest) ground = file_way_ground _ end _ in_text rest (start_ground world is task there at text
      (name_ground from at path before last way ground))

  pub named_ground : (path : List ℕ) (directory : Location ℕ) (last : LastWord)
      → IsSearchedToName world task path directory last → OnGround directory
  named_ground path directory last searched = name_ground _ directory (words path) searched.passed last searched.way
      (start_ground world is task there task.directory path (directory_ground world is task there))

  pub file_ground : (path : List ℕ) (directory : Location ℕ) → IsSearchedToFile world task path directory
      → OnGround directory
  file_ground path directory searched = file_way_ground _ directory (words path) searched.passed searched.way
      (start_ground world is task there task.directory path (directory_ground world is task there))

module _ {world : World ℕ} {fresh : Fresh ℕ} {names : List TaskName} {name : TaskName} {call : Call}
    {task : Task ℕ} (outsider : IsOthersCall world fresh names name call task) where
  abbrev there : Among task world.tasks
  there = task_there outsider

  -- a change where others are
  abbrev pub IsTheirs : Location ℕ × Change ℕ → Type 0
  IsTheirs made = IsOutside world names made.0 × MarksWhatIsThere world made.0 made.1

  abbrev AreTheirs : Option (Location ℕ × Change ℕ) → Type 0
  AreTheirs asked = (made : Location ℕ × Change ℕ) → asked ≡ Some made → IsTheirs made

  at : (location : Location ℕ) → IsGround world outsider.is task there location.mount → IsOutside world names location
  at = ground_outside outsider

  of : (location : Location ℕ) (change : Change ℕ) → IsTheirs (location, change) → AreTheirs (Some (location, change))
  of location change is made e = subst IsTheirs (same_Some (location, change) made e) is

  object_at : (path : List ℕ) (here : Here ℕ) → object_walk nat_eq (looks_of nat_eq world) task path
      ≡ Ok here → IsOutside world names here.location
  object_at path here walk = at here.location (searched_ground world outsider.is task there path here.location
      (object_ways_are_searched world task path here walk))

  named_at : (path : List ℕ) (directory : Location ℕ) (last : LastWord)
      → IsSearchedToName world task path directory last → IsOutside world names directory
  named_at path directory last searched =
      at directory (named_ground world outsider.is task there path directory last searched)

  file_at : (path : List ℕ) (place : Place ℕ) → file_walk nat_eq (looks_of nat_eq world) task path ≡ Ok place
      → IsOutside world names place.parent
  file_at path place walk = at place.parent (file_ground world outsider.is task there path place.parent
      (file_ways_are_searched world task path place walk))

  found_at : (path : List ℕ) (place : Place ℕ) (file : Location ℕ)
      → file_walk nat_eq (looks_of nat_eq world) task path ≡ Ok place
      → place.object ≡ Some file → IsOutside world names file
  found_at path place file walk is_there = at file (at_end (IsFileGround world outsider.is task there) _ place
      (file_walk_ground world outsider.is task there path) walk file is_there)

  opened : (file : Location ℕ) → IsOutside world names file → (copied : Bool)
      → AreTheirs (when copied (file, CopyUp file.node))
  opened file outside true = of file (CopyUp file.node) (outside, tt)
  opened file outside false = λ made e. none_is_some made e

  written : (file : Location ℕ) → IsOutside world names file → (offset : ℕ) (bytes : List ℕ)
      → AreTheirs (written_if_some world file offset bytes)
  written file outside offset [] = λ made e. none_is_some made e
  written file outside offset (byte ∷ bytes) = of file _ (outside, tt)

  pub granted_theirs : (asked : Call) (permit : Permit ℕ)
      → IsGranted nat_eq (looks_of nat_eq world) (overfills nat_eq fresh world task) task asked permit
      → AreTheirs (change_asked fresh world permit)
  granted_theirs asked permit (overwrites_file path bytes place file walk named is_there passed) =
      of file _ (found_at path place file walk is_there, tt)
  granted_theirs asked permit (writes_new_file path bytes place walk named missing fits passed) =
      of place.parent _ (file_at path place walk, tt)
  granted_theirs asked permit (makes_directory path mode place walk passed) = of place.parent _
      (named_at path place.parent place.last (new_name_ways_are_searched world task path place walk), tt)
  granted_theirs asked permit (makes_symlink text path place fits walk passed) = of place.parent _
      (named_at path place.parent place.last (new_leaf_ways_are_searched world task path place walk), tt)
  granted_theirs asked permit (makes_whiteout path place walk passed) = of place.parent _
      (named_at path place.parent place.last (new_leaf_ways_are_searched world task path place walk), tt)
  granted_theirs asked permit (makes_hard_link old new from place from_walk walk named passed) = of place.parent _
      (named_at new place.parent place.last (new_leaf_ways_are_searched world task new place walk), tt)
  granted_theirs asked permit (unlinks path place walk named passed) = of place.parent _
      (named_at path place.parent place.last (old_leaf_ways_are_searched world task path place walk), tt)
  granted_theirs asked permit (removes_directory path place walk word passed) = of place.parent _
      (named_at path place.parent place.last (old_name_ways_are_searched world task path place walk), tt)
  granted_theirs asked permit (renames old new from to both two passed) = of from.parent _
      (named_at old from.parent from.last (old_leaf_ways_are_searched world task old from both.from_end), tt)
  granted_theirs asked permit (changes_mode path mode here walk passed) = of _ _ (object_at path here walk, tt)
  granted_theirs asked permit (changes_owner path uid gid here walk passed) = of _ _ (object_at path here walk, tt)
  granted_theirs asked permit (changes_mark path mark here admin walk passed) = of here.location _ (
    at here.location (searched_ground world outsider.is task there path here.location
        (directory_ways_are_searched world task path here walk)),
    directory_used (files_at nat_eq world here.location).tree here.location.node
        (at_end _ _ here (directory_walk_end world outsider.is task itself path) walk).1,
  )
    where
      itself : task_called world task.name ≡ Some task
      itself = cc (name_found world name task outsider.called, outsider.called)
  granted_theirs asked permit (opens path access here few walk passed) = opened _ (object_at path here walk) _
  granted_theirs asked permit (opens_existing path access mode place file few walk named is_there passed) =
      opened file (found_at path place file walk is_there) (is_copied_up nat_eq world file access)
  granted_theirs asked permit (creates path access mode place few walk named missing passed) =
      of place.parent _ (file_at path place walk, tt)
  granted_theirs asked permit (creates_exclusively path access mode place few walk named passed) = of place.parent _
      (named_at path place.parent place.last (new_name_ways_are_searched world task path place walk), tt)
  granted_theirs asked permit (writes_part number offset bytes descriptor found passed) = written descriptor.location
      (old_outside outsider descriptor.location (inr (inr (among-map _ task.descriptors descriptor
      (found_among _ _ descriptor (descriptor_found task number (λ d. d.writes) descriptor found).0))))) offset bytes
  granted_theirs asked permit granted = λ made e. none_is_some made e
