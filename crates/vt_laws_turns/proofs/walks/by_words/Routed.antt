-- The rules that a call asks of where a walk ends add no word to it.
use Rattle.std.proofs.Common.{◌≡◌, refl, ap, ◌∙◌, ℕ, nat_eq, Bool, true, false, not, List, [], ◌∷◌, ◌&&◌, Ok, Err, Result, map, reverse, is_some, arith}
use Rattle.vt_spec.proofs.Common.{Here, Looks, Place, Route, Rules, Stop, Task, common_steps, destination_walk, directory_walk, file_walk, is_directory_there, new_leaf_walk, new_walk, object_walk, old_leaf_walk, old_walk, place_walk, rename_new_walk, source_walk, symlink_walk, then_walk, walk_unless}
use Rattle.vt_laws_turns.proofs.Common.{W3, W6, here_route, is_directory_at, new_name_rules, path_walked, place_route}
use Rattle.vt_laws_turns.specs.Walks.ByWords.{Aim, names, reaches, steps_of, whole_walk}
use Rattle.vt_laws_turns.specs.Walks.ByWords.Aim.{File, InDirectory, Object, Symlink, Words}
use Rattle.vt_laws_turns.specs.Walks.Routes.{RoutesAreWalks, Way, aim_of, name_aim_of, way, ways_of}
use Rattle.vt_spec.specs.Machine.Judging.{Aim as Leads, Judging, NameAim, judging, walk_to, walk_to_name}
use Rattle.vt_spec.specs.Machine.Judging.Aim.{ADestination, ADirectory, ASource, ASymlink, AnObject}
use Rattle.vt_spec.specs.Machine.Judging.Judging.{Layers, Names, Needs, Walks, Words as LastWords}
use Rattle.vt_spec.specs.Machine.Judging.NameAim.{AFile, ANewLeaf, ANewName, ARenamed, AnOldLeaf, AnOldName}
use Rattle.vt_spec.specs.Machine.Turns.{here_or_root, place_or_root, routes_of}
use Rattle.vt_laws_turns.proofs.walks.by_words.Depths.{then_then}

here_route_steps : (a : Result (Here ℕ) (Stop ℕ)) → (here_route a).steps ≡ reverse (steps_of (reaches nat_eq a))
here_route_steps (Ok here) = refl
here_route_steps (Err stop) = refl

place_route_steps : (a : Result (Place ℕ) (Stop ℕ)) → (place_route a).steps ≡ reverse (steps_of (names nat_eq a))
place_route_steps (Ok place) = refl
place_route_steps (Err stop) = refl

-- rules asked of where a walk ends
here_kept : (a : Result (Here ℕ) (Stop ℕ)) (rules : Here ℕ → Rules) (to : Here ℕ → Here ℕ)
    → ((here : Here ℕ) → (to here).steps ≡ here.steps)
    → steps_of (reaches nat_eq (then_walk a (λ here. walk_unless here.steps (rules here) (to here))))
    ≡ steps_of (reaches nat_eq a)
here_kept (Ok here) rules to same = by (rules here)
  where
    by : (list : Rules) → steps_of (reaches nat_eq (walk_unless here.steps list (to here))) ≡ here.steps
    by [] = same here
    by ((true, rule) ∷ list) = refl
    by ((false, rule) ∷ list) = by list
here_kept (Err stop) rules to same = refl

place_kept : (a : Result (Place ℕ) (Stop ℕ)) (rules : Place ℕ → Rules)
    → steps_of (names nat_eq (then_walk a (λ place. walk_unless place.steps (rules place) place)))
    ≡ steps_of (names nat_eq a)
place_kept (Ok place) rules = by (rules place)
  where
    by : (list : Rules) → steps_of (names nat_eq (walk_unless place.steps list place)) ≡ place.steps
    by [] = refl
    by ((true, rule) ∷ list) = refl
    by ((false, rule) ∷ list) = by list
place_kept (Err stop) rules = refl

module _ (looks : Looks ℕ) (task : Task ℕ) where
  abbrev met_for : Aim → List ℕ → List (List ℕ)
  met_for aim path = reverse (steps_of (whole_walk nat_eq aim looks task path))

  object_met : (path : List ℕ) → (here_route (object_walk nat_eq looks task path)).steps ≡ met_for Object path
  object_met path = here_route_steps (object_walk nat_eq looks task path)

  symlink_met : (path : List ℕ) → (here_route (symlink_walk nat_eq looks task path)).steps ≡ met_for Symlink path
  symlink_met path = here_route_steps (symlink_walk nat_eq looks task path)

  directory_kept : (path : List ℕ) → steps_of (reaches nat_eq (directory_walk nat_eq looks task path))
      ≡ steps_of (whole_walk nat_eq Words looks task path)
  directory_kept path =
      here_kept (path_walked nat_eq looks task path) (λ here. (not (is_directory_at looks here.location), W3) ∷ [])
      (λ here. here) (λ here. refl)

  source_kept : (path : List ℕ) → steps_of (reaches nat_eq (source_walk nat_eq looks task path))
      ≡ steps_of (whole_walk nat_eq Words looks task path)
  source_kept path = grind (arith, common_steps, here_kept, directory_kept)

  directory_met : (path : List ℕ) → (here_route (directory_walk nat_eq looks task path)).steps ≡ met_for Words path
  directory_met path = cc (here_route_steps (directory_walk nat_eq looks task path), directory_kept path)

  source_met : (path : List ℕ) → (here_route (source_walk nat_eq looks task path)).steps ≡ met_for Words path
  source_met path = cc (here_route_steps (source_walk nat_eq looks task path), source_kept path)

  destination_met : (path : List ℕ) → (here_route (destination_walk nat_eq looks task path)).steps ≡ met_for Words path
  destination_met path = grind (arith, common_steps, here_route_steps, here_kept, source_kept)

  new_kept : (path : List ℕ) → steps_of (names nat_eq (new_walk nat_eq looks task path))
      ≡ steps_of (whole_walk nat_eq InDirectory looks task path)
  new_kept path = place_kept (place_walk nat_eq looks task path) (new_name_rules nat_eq looks)

  old_kept : (path : List ℕ) → steps_of (names nat_eq (old_walk nat_eq looks task path))
      ≡ steps_of (whole_walk nat_eq InDirectory looks task path)
  old_kept path = place_kept (place_walk nat_eq looks task path) (λ place. (not (is_some place.object), W6) ∷ [])

  new_met : (path : List ℕ) → (place_route (new_walk nat_eq looks task path)).steps ≡ met_for InDirectory path
  new_met path = cc (place_route_steps (new_walk nat_eq looks task path), new_kept path)

  old_met : (path : List ℕ) → (place_route (old_walk nat_eq looks task path)).steps ≡ met_for InDirectory path
  old_met path = cc (place_route_steps (old_walk nat_eq looks task path), old_kept path)

  new_leaf_met : (path : List ℕ) → (place_route (new_leaf_walk nat_eq looks task path)).steps ≡ met_for InDirectory path
  new_leaf_met path = place_route_steps (new_leaf_walk nat_eq looks task path)
      ∙ ap reverse (place_kept (new_walk nat_eq looks task path)
      (λ place. (place.slash && not (is_some place.object), W6) ∷ []) ∙ new_kept path)

  old_leaf_met : (path : List ℕ) → (place_route (old_leaf_walk nat_eq looks task path)).steps ≡ met_for InDirectory path
  old_leaf_met path = place_route_steps (old_leaf_walk nat_eq looks task path)
      ∙ ap reverse (place_kept (old_walk nat_eq looks task path)
      (λ place. (place.slash && not (is_directory_there nat_eq looks place), W3) ∷ []) ∙ old_kept path)

  rename_new_met : (path : List ℕ) (from_directory : Bool)
      → (place_route (rename_new_walk nat_eq looks task path from_directory)).steps ≡ met_for InDirectory path
  rename_new_met path from_directory = place_route_steps (rename_new_walk nat_eq looks task path from_directory)
      ∙ ap reverse (place_kept (new_walk nat_eq looks task path)
      (λ place. (place.slash && not from_directory, W3) ∷ []) ∙ new_kept path)

  file_met : (path : List ℕ) → (place_route (file_walk nat_eq looks task path)).steps ≡ met_for File path
  file_met path = grind (arith, common_steps, place_route_steps, then_then, place_kept)

  layers_met : (paths : List (List ℕ))
      → map (λ (route : Route ℕ). route.steps) (map (λ path. here_route (source_walk nat_eq looks task path)) paths)
      ≡ map (λ (w : Way). met_for w.aim w.path) (map (way Words) paths)
  layers_met [] = refl
  layers_met (path ∷ paths) = cc (source_met path, layers_met paths)

  -- each path that is asked is walked so
  walk_met : (aim : Leads) (path : List ℕ)
      → (here_route (walk_to nat_eq looks task aim path)).steps ≡ met_for (aim_of aim) path
  walk_met AnObject path = object_met path
  walk_met ASymlink path = symlink_met path
  walk_met ADirectory path = directory_met path
  walk_met ASource path = source_met path
  walk_met ADestination path = destination_met path

  name_met : (aim : NameAim) (path : List ℕ)
      → (place_route (walk_to_name nat_eq looks task aim path)).steps ≡ met_for (name_aim_of aim) path
  name_met AFile path = file_met path
  name_met ANewName path = new_met path
  name_met ANewLeaf path = new_leaf_met path
  name_met AnOldName path = old_met path
  name_met AnOldLeaf path = old_leaf_met path
  name_met (ARenamed directory) path = rename_new_met path directory

  asked_met : (asked : Judging ℕ)
      → map (λ (route : Route ℕ). route.steps) (routes_of nat_eq looks task asked)
      ≡ map (λ (w : Way). met_for w.aim w.path) (ways_of looks task asked)
  asked_met (Needs rules next) = asked_met next
  asked_met (LastWords rules next) = asked_met next
  asked_met (Walks aim path next) = λ i. walk_met aim path i
      ∷ asked_met (next (here_or_root nat_eq looks task (walk_to nat_eq looks task aim path))) i
  asked_met (Names aim path next) = λ i. name_met aim path i
      ∷ asked_met (next (place_or_root nat_eq looks task (walk_to_name nat_eq looks task aim path))) i
  asked_met (Layers words next) = layers_met _
  asked_met asked = refl

pub routes_are_walks : RoutesAreWalks
routes_are_walks looks task call = asked_met looks task (judging nat_eq looks task call)
