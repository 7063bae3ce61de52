-- The words of a path are those of its words walked: what is asked of where a walk ends adds none.
use Rattle.std.proofs.Common.{◌≡◌, ℕ, nat_eq, Bool, true, false, not, List, [], ◌∷◌, ◌&&◌, ◌++◌, Ok, Err, Result, refl, sym, ap, ◌∙◌, is_err, reverse, is_some, arith}
use Rattle.std.proofs.Math.Bool.{and-false, and-true}
use Rattle.vt_spec.proofs.Common.{Here, Looks, Place, Rules, Stop, Task, common_steps, destination_walk, directory_walk, ends_in_slash, file_walk, is_directory_there, is_empty_list, new_leaf_walk, new_walk, object_walk, old_leaf_walk, old_walk, parsed_path, place_walk, rename_new_walk, slash_rules, source_walk, symlink_walk, symlink_walk_by, then_walk, walk_unless}
use Rattle.vt_spec.specs.declared.errors.Rule.TheVariants.{W3, W6}
use Rattle.vt_spec.specs.Machine.Looks.{is_directory_at}
use Rattle.vt_spec.specs.Machine.Turns.{here_route, place_route}
use Rattle.vt_spec.specs.Machine.Walking.{new_name_rules, path_walked}
use Rattle.vt_steps.specs.declared.aims.Aim.{Aim}
use Rattle.vt_steps.specs.declared.aims.Aim.TheVariants as aim
use Rattle.vt_steps.specs.RouteValue.{all_walked, here_words, name_walked, place_words, refuses, route_for, symlink_or_all, whole_file_walked, words_for}

here_steps : (a : Result (Here ℕ) (Stop ℕ)) → (here_route a).steps ≡ reverse (here_words a)
here_steps (Ok here) = refl
here_steps (Err stop) = refl

place_steps : (a : Result (Place ℕ) (Stop ℕ)) → (place_route a).steps ≡ reverse (place_words a)
place_steps (Ok place) = refl
place_steps (Err stop) = refl

-- rules asked of where a walk ends
here_kept : (a : Result (Here ℕ) (Stop ℕ)) (rules : Here ℕ → Rules) (to : Here ℕ → Here ℕ)
    → ((here : Here ℕ) → (to here).steps ≡ here.steps)
    → here_words (then_walk a (λ here. walk_unless here.steps (rules here) (to here))) ≡ here_words a
here_kept (Ok here) rules to same = by (rules here)
  where
    by : (list : Rules) → here_words (walk_unless here.steps list (to here)) ≡ here.steps
    by [] = same here
    by ((true, rule) ∷ list) = refl
    by ((false, rule) ∷ list) = by list
here_kept (Err stop) rules to same = refl

place_kept : (a : Result (Place ℕ) (Stop ℕ)) (rules : Place ℕ → Rules)
    → place_words (then_walk a (λ place. walk_unless place.steps (rules place) place)) ≡ place_words a
place_kept (Ok place) rules = by (rules place)
  where
    by : (list : Rules) → place_words (walk_unless place.steps list place) ≡ place.steps
    by [] = refl
    by ((true, rule) ∷ list) = refl
    by ((false, rule) ∷ list) = by list
place_kept (Err stop) rules = refl

-- the last word fails where there is one and the walk is refused
is_empty-snoc : {A : Type 0} (xs : List A) (x : A) → is_empty_list (xs ++ (x ∷ [])) ≡ false
is_empty-snoc [] x = refl
is_empty-snoc (y ∷ xs) x = refl

is_empty-reverse : {A : Type 0} (xs : List A) → is_empty_list (reverse xs) ≡ is_empty_list xs
is_empty-reverse [] = refl
is_empty-reverse (x ∷ xs) = grind (arith, common_steps, is_empty-snoc)

here_fails : (a : Result (Here ℕ) (Stop ℕ))
    → (here_route a).fails ≡ (not (is_empty_list (here_route a).steps) && is_err a)
here_fails (Ok here) = sym (and-false (not (is_empty_list (reverse here.steps))))
here_fails (Err stop) = ap not (sym (is_empty-reverse stop.steps))
    ∙ sym (and-true (not (is_empty_list (reverse stop.steps))))

place_fails : (a : Result (Place ℕ) (Stop ℕ))
    → (place_route a).fails ≡ (not (is_empty_list (place_route a).steps) && is_err a)
place_fails (Ok place) = sym (and-false (not (is_empty_list (reverse place.steps))))
place_fails (Err stop) = ap not (sym (is_empty-reverse stop.steps))
    ∙ sym (and-true (not (is_empty_list (reverse stop.steps))))

module _ (looks : Looks ℕ) (task : Task ℕ) where
  pub route_fails : (a : Aim) (path : List ℕ) → (route_for looks task a path).fails
      ≡ (not (is_empty_list (route_for looks task a path).steps) && refuses looks task a path)
  route_fails aim.Object path = here_fails (object_walk nat_eq looks task path)
  route_fails aim.Symlink path = here_fails (symlink_walk nat_eq looks task path)
  route_fails aim.Directory path = here_fails (directory_walk nat_eq looks task path)
  route_fails aim.Source path = here_fails (source_walk nat_eq looks task path)
  route_fails aim.Destination path = here_fails (destination_walk nat_eq looks task path)
  route_fails aim.File path = place_fails (file_walk nat_eq looks task path)
  route_fails aim.New path = place_fails (new_walk nat_eq looks task path)
  route_fails aim.NewLeaf path = place_fails (new_leaf_walk nat_eq looks task path)
  route_fails aim.Old path = place_fails (old_walk nat_eq looks task path)
  route_fails aim.OldLeaf path = place_fails (old_leaf_walk nat_eq looks task path)
  route_fails (aim.Renamed directory) path = place_fails (rename_new_walk nat_eq looks task path directory)

  -- a path that may be walked
  module _ (path : List ℕ) (parsed : parsed_path path ≡ Ok path) where
    words_here : path_walked nat_eq looks task path ≡ all_walked looks task path
    words_here = rw parsed refl

    object_words : here_words (object_walk nat_eq looks task path) ≡ here_words (all_walked looks task path)
    object_words = here_kept (path_walked nat_eq looks task path) (λ here. slash_rules nat_eq looks path here.location)
        (λ here. here) (λ here. refl) ∙ ap here_words words_here

    directory_words : here_words (directory_walk nat_eq looks task path) ≡ here_words (all_walked looks task path)
    directory_words = here_kept (path_walked nat_eq looks task path)
        (λ here. (not (is_directory_at looks here.location), W3) ∷ []) (λ here. here) (λ here. refl)
        ∙ ap here_words words_here

    source_words : here_words (source_walk nat_eq looks task path) ≡ here_words (all_walked looks task path)
    source_words = grind (arith, common_steps, here_kept, directory_words)

    destination_words : here_words (destination_walk nat_eq looks task path) ≡ here_words (all_walked looks task path)
    destination_words = grind (arith, common_steps, here_kept, source_words)

    symlink_by : (slash : Bool) → here_words (symlink_walk_by nat_eq slash looks task path)
        ≡ here_words (symlink_or_all looks task slash path)
    symlink_by true = object_words
    symlink_by false = rw parsed refl

    place_walked : place_walk nat_eq looks task path ≡ name_walked looks task path
    place_walked = rw parsed refl

    new_words : place_words (new_walk nat_eq looks task path) ≡ place_words (name_walked looks task path)
    new_words = place_kept (place_walk nat_eq looks task path) (new_name_rules nat_eq looks)
        ∙ ap place_words place_walked

    old_words : place_words (old_walk nat_eq looks task path) ≡ place_words (name_walked looks task path)
    old_words = place_kept (place_walk nat_eq looks task path) (λ place. (not (is_some place.object), W6) ∷ [])
        ∙ ap place_words place_walked

    new_leaf_words : place_words (new_leaf_walk nat_eq looks task path) ≡ place_words (name_walked looks task path)
    new_leaf_words = place_kept (new_walk nat_eq looks task path)
        (λ place. (place.slash && not (is_some place.object), W6) ∷ []) ∙ new_words

    old_leaf_words : place_words (old_leaf_walk nat_eq looks task path) ≡ place_words (name_walked looks task path)
    old_leaf_words = place_kept (old_walk nat_eq looks task path)
        (λ place. (place.slash && not (is_directory_there nat_eq looks place), W3) ∷ []) ∙ old_words

    renamed_words : (directory : Bool) → place_words (rename_new_walk nat_eq looks task path directory)
        ≡ place_words (name_walked looks task path)
    renamed_words directory = place_kept (new_walk nat_eq looks task path)
        (λ place. (place.slash && not directory, W3) ∷ []) ∙ new_words

    file_words : place_words (file_walk nat_eq looks task path) ≡ place_words (whole_file_walked looks task path)
    file_words = rw parsed (place_kept (whole_file_walked looks task path) (new_name_rules nat_eq looks))

    pub route_words : (a : Aim) → (route_for looks task a path).steps ≡ words_for looks task a path
    route_words aim.Object = here_steps (object_walk nat_eq looks task path) ∙ ap reverse object_words
    route_words aim.Symlink = here_steps (symlink_walk nat_eq looks task path)
        ∙ ap reverse (symlink_by (ends_in_slash path))
    route_words aim.Directory = here_steps (directory_walk nat_eq looks task path) ∙ ap reverse directory_words
    route_words aim.Source = here_steps (source_walk nat_eq looks task path) ∙ ap reverse source_words
    route_words aim.Destination = here_steps (destination_walk nat_eq looks task path) ∙ ap reverse destination_words
    route_words aim.File = place_steps (file_walk nat_eq looks task path) ∙ ap reverse file_words
    route_words aim.New = place_steps (new_walk nat_eq looks task path) ∙ ap reverse new_words
    route_words aim.NewLeaf = place_steps (new_leaf_walk nat_eq looks task path) ∙ ap reverse new_leaf_words
    route_words aim.Old = place_steps (old_walk nat_eq looks task path) ∙ ap reverse old_words
    route_words aim.OldLeaf = place_steps (old_leaf_walk nat_eq looks task path) ∙ ap reverse old_leaf_words
    route_words (aim.Renamed directory) = place_steps (rename_new_walk nat_eq looks task path directory)
        ∙ ap reverse (renamed_words directory)

  pub route-walked : (a : Aim) (path : List ℕ) → parsed_path path ≡ Ok path → (steps : List (List ℕ)) (fails : Bool)
      → steps ≡ words_for looks task a path
      → fails ≡ (not (is_empty_list steps) && refuses looks task a path)
      → record { steps = steps; fails = fails } ≡ route_for looks task a path
  route-walked a path parsed steps fails walked asked =
      let same = walked ∙ sym (route_words path parsed a) in
      λ i. record {
        steps = same i;
        fails = (asked ∙ ap (λ words. not (is_empty_list words) && refuses looks task a path) same
            ∙ sym (route_fails a path)) i;
      }
