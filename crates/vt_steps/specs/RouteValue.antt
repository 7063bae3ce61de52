-- What the definitions see of the words of paths, as calls walk them.
use Rattle.std.specs.Global.{Vec}
use Rattle.std.specs.Prelude.{Bool, Err, List, None, Ok, Option, Result, false, if◌then◌else◌, is_err, map, nat_eq, reverse, slice_get, true, ℕ, ◌+◌}
use Rattle.vt_spec.specs.Language.Limits.{most_symlinks}
use Rattle.vt_spec.specs.Machine.Looks.{Looks}
use Rattle.vt_spec.specs.Machine.Rules.Mounting.{destination_walk, source_walk}
use Rattle.vt_spec.specs.Machine.Rules.Removing.{rename_new_walk}
use Rattle.vt_spec.specs.Machine.Turns.{Route as RouteMeant, here_route, is_failing, place_route, words_of}
use Rattle.vt_spec.specs.Machine.Walking.{Here, Place, Stop, directory_walk, file_walk, file_walked, final_word, followed, last_walked, new_leaf_walk, new_walk, object_walk, old_leaf_walk, old_walk, placed, prefix_walked, symlink_walk, then_walk, walk_start, words_walked}
use Rattle.vt_spec.specs.Machine.World.{Task}
use Rattle.vt_spec.specs.PathText.{ends_in_slash, words}
use Rattle.vt_steps.specs.declared.aims.Aim.{Aim}
use Rattle.vt_steps.specs.declared.aims.Aim.TheVariants as aim
use Rattle.vt_steps.specs.declared.paths.Route.{Route}
use Rattle.vt_steps.specs.StepsValue.{met_of}
use Rattle.vt_location.specs.declared.numbers.FilesystemId.{FilesystemId}

-- for each word, the first one first, the filesystems that it met
abbrev pub words_in : Vec (Vec FilesystemId) → List (List ℕ)
words_in steps = map met_of steps.items

abbrev pub route_of : Route → RouteMeant ℕ
route_of route = record { steps = words_in route.steps; fails = route.fails }

-- the words of a walk, the last one first, up to one that is refused
abbrev pub here_words : Result (Here ℕ) (Stop ℕ) → List (List ℕ)
here_words (Ok here) = here.steps
here_words (Err stop) = stop.steps

abbrev pub place_words : Result (Place ℕ) (Stop ℕ) → List (List ℕ)
place_words (Ok place) = place.steps
place_words (Err stop) = stop.steps

module _ (looks : Looks ℕ) (task : Task ℕ) where
  -- The walks of a text that may be walked, before what is asked of where they end: of all its words,
  abbrev pub all_walked : List ℕ → Result (Here ℕ) (Stop ℕ)
  all_walked text =
      words_walked nat_eq looks task (followed nat_eq looks task) (walk_start task text) (reverse (words text))

  -- of all but the last,
  abbrev pub front_walked : List ℕ → Result (Here ℕ) (Stop ℕ)
  front_walked text =
      prefix_walked nat_eq looks task (followed nat_eq looks task) (walk_start task text) (reverse (words text))

  -- of the last one too, a final symlink not followed,
  abbrev pub unfollowed : List ℕ → Result (Here ℕ) (Stop ℕ)
  unfollowed text =
      then_walk (front_walked text) (λ here. last_walked nat_eq looks task here (final_word (reverse (words text))))

  -- so unless a slash follows it,
  abbrev pub symlink_or_all : (slash : Bool) → List ℕ → Result (Here ℕ) (Stop ℕ)
  symlink_or_all true text = all_walked text
  symlink_or_all false text = unfollowed text

  -- to a name,
  abbrev pub name_walked : List ℕ → Result (Place ℕ) (Stop ℕ)
  name_walked text =
      then_walk (front_walked text)
      (λ here. placed nat_eq looks task here (final_word (reverse (words text))) (ends_in_slash text))

  -- to a file that is opened or made
  abbrev pub whole_file_walked : List ℕ → Result (Place ℕ) (Stop ℕ)
  whole_file_walked text = file_walked nat_eq (most_symlinks + 1) looks task (walk_start task text) text false

  -- the words of a text that may be walked, the first one first, by what it is walked for
  abbrev pub words_for : Aim → List ℕ → List (List ℕ)
  words_for aim.Object text = reverse (here_words (all_walked text))
  words_for aim.Symlink text = reverse (here_words (symlink_or_all (ends_in_slash text) text))
  words_for aim.Directory text = reverse (here_words (all_walked text))
  words_for aim.Source text = reverse (here_words (all_walked text))
  words_for aim.Destination text = reverse (here_words (all_walked text))
  words_for aim.File text = reverse (place_words (whole_file_walked text))
  words_for aim.New text = reverse (place_words (name_walked text))
  words_for aim.NewLeaf text = reverse (place_words (name_walked text))
  words_for aim.Old text = reverse (place_words (name_walked text))
  words_for aim.OldLeaf text = reverse (place_words (name_walked text))
  words_for (aim.Renamed directory) text = reverse (place_words (name_walked text))

  -- the route of a path, by what it is walked for
  abbrev pub route_for : Aim → List ℕ → RouteMeant ℕ
  route_for aim.Object path = here_route (object_walk nat_eq looks task path)
  route_for aim.Symlink path = here_route (symlink_walk nat_eq looks task path)
  route_for aim.Directory path = here_route (directory_walk nat_eq looks task path)
  route_for aim.Source path = here_route (source_walk nat_eq looks task path)
  route_for aim.Destination path = here_route (destination_walk nat_eq looks task path)
  route_for aim.File path = place_route (file_walk nat_eq looks task path)
  route_for aim.New path = place_route (new_walk nat_eq looks task path)
  route_for aim.NewLeaf path = place_route (new_leaf_walk nat_eq looks task path)
  route_for aim.Old path = place_route (old_walk nat_eq looks task path)
  route_for aim.OldLeaf path = place_route (old_leaf_walk nat_eq looks task path)
  route_for (aim.Renamed directory) path = place_route (rename_new_walk nat_eq looks task path directory)

  -- the walk is refused
  abbrev pub refuses : Aim → List ℕ → Bool
  refuses aim.Object path = is_err (object_walk nat_eq looks task path)
  refuses aim.Symlink path = is_err (symlink_walk nat_eq looks task path)
  refuses aim.Directory path = is_err (directory_walk nat_eq looks task path)
  refuses aim.Source path = is_err (source_walk nat_eq looks task path)
  refuses aim.Destination path = is_err (destination_walk nat_eq looks task path)
  refuses aim.File path = is_err (file_walk nat_eq looks task path)
  refuses aim.New path = is_err (new_walk nat_eq looks task path)
  refuses aim.NewLeaf path = is_err (new_leaf_walk nat_eq looks task path)
  refuses aim.Old path = is_err (old_walk nat_eq looks task path)
  refuses aim.OldLeaf path = is_err (old_leaf_walk nat_eq looks task path)
  refuses (aim.Renamed directory) path = is_err (rename_new_walk nat_eq looks task path directory)

-- What the next word of a call meets, after so many; none where the turn is the call's last: no word is left, or its
-- step fails.
abbrev pub met_next : List (RouteMeant ℕ) → ℕ → Option (List ℕ)
met_next ways walked = if is_failing ways walked then None else slice_get (words_of ways) walked
