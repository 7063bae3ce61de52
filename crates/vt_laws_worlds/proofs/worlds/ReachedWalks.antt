-- Where the walks of a task end: at what is there, on a mount of the task's namespace or on one that is in none.
use Rattle.std.proofs.Common.{◌≡◌, refl, ℕ, nat_eq, true, not, List, [], ◌∷◌, Some, Ok, Result, inl, inr}
use Rattle.vt_spec.proofs.Common.{Among, Here, IsWorld, LastWord, Location, Stop, Task, World, all_locations, among-flat_map, among_from_list_all, and_parts, followed, is_directory_at, is_directory_seen_in, is_located_well, locations_of, path_walked, prefix_walked, start_of, task_called, walk_start}
use Rattle.vt_spec.specs.declared.errors.Rule.TheVariants.{W3}
use Rattle.vt_spec.proofs.Walk.{directory_walk, symlink_walk, object_walk, search_rules, stepped, steps_with, word_walked}
use Rattle.vt_laws_trees.proofs.trees.TreesWalked.{Ends, ends_step, ends_then, ends_unless, not-false}
use Rattle.vt_laws_trees.proofs.trees.WalksEnd.{LeadsOn}
use Rattle.vt_laws_trees.proofs.trees.WalksEnd
use Rattle.vt_laws_worlds.proofs.worlds.Reached.{IsEnd, IsFound, IsFoundDirectory, directory_end, step_found}
use Rattle.vt_laws_trees.proofs.trees.TreesTasks.{called_there, called_stands}
pub use Rattle.vt_spec.proofs.Found.{found_among}

module _ (world : World ℕ) (whole : IsWorld nat_eq world) (task : Task ℕ)
    (called : task_called world task.name ≡ Some task) where
  abbrev pub Found : Location ℕ → Type 0
  Found location = IsFound world whole task location

  abbrev pub FoundDirectory : Location ℕ → Type 0
  FoundDirectory location = IsFoundDirectory world whole task location

  abbrev pub End : Location ℕ → Type 0
  End location = IsEnd world whole task location

  -- a task that is called is there
  pub task_among : Among task world.tasks
  task_among = called_there _ _ task called

  -- the task's own root and directory
  own_place : (location : Location ℕ) → Among location (locations_of task)
      → is_directory_seen_in nat_eq world task.namespace location ≡ true → FoundDirectory location
  own_place location m seen =
      let located = and_parts _ _
      (among_from_list_all (is_located_well nat_eq world) (all_locations world) whole.tasks.locations_live location
      (among-flat_map locations_of world.tasks task location task_among m)) in
      let parts = and_parts _ _ seen in
      ((located.0, parts.1), parts.0)

  pub root_found : FoundDirectory task.root
  root_found = own_place _ (inl refl) (and_parts _ _ (called_stands world whole task called)).0

  pub own_directory_found : FoundDirectory task.directory
  own_directory_found = own_place _ (inr (inl refl)) (and_parts _ _ (called_stands world whole task called)).1

  abbrev pub EndsFound : Result (Here ℕ) (Stop ℕ) → Type 0
  EndsFound walk = Ends (λ here. Found here.location) walk

  abbrev pub EndsAtEnd : Result (Here ℕ) (Stop ℕ) → Type 0
  EndsAtEnd walk = Ends (λ here. End here.location) walk

  word_found : (here : Here ℕ) (word : LastWord) → Found here.location → EndsFound
      (word_walked nat_eq world task here word)
  word_found here word is = ends_step (λ next. Found next.location) (steps_with nat_eq world task here word)
      (search_rules nat_eq world task here.location) (stepped nat_eq world task here.location word)
      (λ reached. Ok (record { location = reached; left = here.left; steps = steps_with nat_eq world task here word }))
      (λ passed reached e. step_found world whole task here.location word reached
      (is.0, not-false (is_directory_at nat_eq world here.location) passed.0) e)

  leads_on : LeadsOn world task Found End
  leads_on = record {
    root = directory_end world whole task _ root_found;
    own = directory_end world whole task _ own_directory_found;
    found = λ location end. end.0;
    word = word_found;
    no_link = λ location found none. (found, none);
  }

  pub start_end : (directory : Location ℕ) (path : List ℕ) → End directory → End (start_of task directory path)
  start_end = WalksEnd.start_end leads_on

  pub walk_start_end : (path : List ℕ) → End (walk_start task path).location
  walk_start_end = WalksEnd.walk_start_end leads_on

  pub object_end : (path : List ℕ) → EndsAtEnd (object_walk nat_eq world task path)
  object_end = WalksEnd.object_end leads_on

  pub front_end : (here : Here ℕ) → End here.location → (list : List (List ℕ))
      → EndsAtEnd (prefix_walked nat_eq world task (followed nat_eq world task) here list)
  front_end = WalksEnd.front_end leads_on

  pub link_walk_found : (path : List ℕ) → EndsFound (symlink_walk nat_eq world task path)
  link_walk_found = WalksEnd.link_walk_found leads_on

  abbrev pub EndsAtDirectory : Result (Here ℕ) (Stop ℕ) → Type 0
  EndsAtDirectory walk = Ends (λ here. FoundDirectory here.location) walk

  pub directory_walk_end : (path : List ℕ) → EndsAtDirectory (directory_walk nat_eq world task path)
  directory_walk_end path = ends_then (λ here. End here.location) (λ here. FoundDirectory here.location)
      (path_walked nat_eq world task path) _ (WalksEnd.path_end leads_on path) (λ here end.
      ends_unless (λ next. FoundDirectory next.location) here.steps ((
        not (is_directory_at nat_eq world here.location),
        W3,
      ) ∷ []) here (λ passed. (end.0.0, not-false (is_directory_at nat_eq world here.location) passed.0)))
