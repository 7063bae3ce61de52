-- Each directory on the way of a walk is searched: walks to objects and directories.
use Rattle.std.proofs.Common.{◌≡◌, refl, ℕ, nat_eq, not, List, [], ◌∷◌}
use Rattle.vt_spec.proofs.Common.{Here, Location, Task, World, at_topmost, destination_walk, is_directory_at, is_removed_at, looks_of, path_walked, source_walk}
use Rattle.vt_laws_trees.proofs.trees.TreesWalked.{Ends, at_end, ends_then, ends_unless}
use Rattle.vt_laws_trees.proofs.calls.ways.WaysWalked.{path_searched}
use Rattle.vt_laws_trees.specs.Calls.Searched.{DestinationWaysAreSearched, DirectoryWaysAreSearched, IsSearchedTo, ObjectWaysAreSearched, SourceWaysAreSearched}
use Rattle.vt_spec.specs.declared.errors.Rule.TheVariants.{W3, W8}
use Rattle.vt_spec.specs.Machine.Looks.{topmost}
use Rattle.vt_spec.proofs.Walk.{directory_walk, object_walk, slash_rules}

module _ (world : World ℕ) (task : Task ℕ) (path : List ℕ) where
  abbrev pub IsSearchedEnd : Here ℕ → Type 0
  IsSearchedEnd here = IsSearchedTo world task path here.location

  pub object_searched : Ends IsSearchedEnd (object_walk nat_eq world task path)
  object_searched =
      ends_then IsSearchedEnd IsSearchedEnd (path_walked nat_eq world task path) _ (path_searched world task path)
      (λ here searched.
      ends_unless IsSearchedEnd here.steps (slash_rules nat_eq world path here.location) here (λ passed. searched))

  directory_searched : Ends IsSearchedEnd (directory_walk nat_eq world task path)
  directory_searched =
      ends_then IsSearchedEnd IsSearchedEnd (path_walked nat_eq world task path) _ (path_searched world task path)
      (λ here searched.
      ends_unless IsSearchedEnd here.steps ((not (is_directory_at nat_eq world here.location), W3) ∷ []) here
      (λ passed. searched))

  source_searched : Ends IsSearchedEnd (source_walk nat_eq (looks_of nat_eq world) task path)
  source_searched = ends_then IsSearchedEnd IsSearchedEnd (directory_walk nat_eq world task path) _ directory_searched
      (λ here searched.
      ends_unless IsSearchedEnd here.steps ((is_removed_at nat_eq world here.location, W8) ∷ []) here
      (λ passed. searched))

  abbrev IsEntered : Here ℕ → Type 0
  IsEntered here = (directory : Location ℕ) × (here.location ≡ topmost (looks_of nat_eq world) directory)
      × IsSearchedTo world task path directory

  destination_searched : Ends IsEntered (destination_walk nat_eq (looks_of nat_eq world) task path)
  destination_searched =
      ends_then IsSearchedEnd IsEntered (source_walk nat_eq (looks_of nat_eq world) task path) _ source_searched
      (λ here searched.
      ends_unless IsEntered here.steps
      ((is_removed_at nat_eq world (topmost (looks_of nat_eq world) here.location), W8) ∷ [])
      (at_topmost (looks_of nat_eq world) here) (λ passed. (here.location, refl, searched)))

pub object_ways_are_searched : ObjectWaysAreSearched
object_ways_are_searched world task path here e = at_end _ _ here (object_searched world task path) e

pub directory_ways_are_searched : DirectoryWaysAreSearched
directory_ways_are_searched world task path here e = at_end _ _ here (directory_searched world task path) e

pub source_ways_are_searched : SourceWaysAreSearched
source_ways_are_searched world task path here e = at_end _ _ here (source_searched world task path) e

pub destination_ways_are_searched : DestinationWaysAreSearched
destination_ways_are_searched world task path here e = at_end _ _ here (destination_searched world task path) e
