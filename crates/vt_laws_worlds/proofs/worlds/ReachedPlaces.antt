-- Where walks to a name end: at a directory that is there, and at what has the name in it; and those of mount calls.
use Rattle.std.proofs.Common.{arith, ◌≡◌, refl, sym, ap, subst, ◌∙◌, true≢false, ℕ, zero, suc, nat_eq, Bool, true, false, not, List, [], ◌∷◌, ◌&&◌, ◌||◌, ◌+◌, reverse, Option, Some, None, is_some, Ok, Err, Result}
use Rattle.vt_spec.proofs.Common.{Dot, DotDot, Here, IsWorld, LastWord, Location, Named, NoWord, Place, Stop, Task, World, and_then, common_steps, ends_in_slash, file_or_symlink, file_walked, final_word, followed, is_directory_at, is_removed_at, is_special, most_symlinks, new_name_rules, node_at, none_is_not, path_text, prefix_walked, same_Some, symlink_of, symlink_text, task_called, then_some, then_walk, topmost, walk_start, walk_unless, words}
use Rattle.vt_spec.specs.declared.errors.Deny.{Deny}
use Rattle.vt_spec.specs.declared.errors.Rule.TheVariants.{W3, W6, W8}
use Rattle.vt_spec.proofs.Tables.{destination_walk, source_walk, rename_new_walk}
use Rattle.vt_spec.proofs.Walk.{directory_walk, entry_location, file_walk, follow_rules, is_directory_there, symlink_start, symlink_there, new_leaf_walk, new_walk, object_named, old_leaf_walk, old_walk, place_walk, placed, search_rules, stepped, steps_at}
use Rattle.vt_laws_trees.proofs.trees.TreesWalked.{Ends, ends_next, ends_step, ends_then, ends_unless, not-false, ok_same}
use Rattle.vt_laws_worlds.proofs.worlds.Reached.{IsDirectory, entry_found, step_found, topmost_directory, topmost_end}
use Rattle.vt_laws_worlds.proofs.worlds.ReachedWalks.{End, Found, FoundDirectory, directory_walk_end, front_end, start_end, walk_start_end}

no_answer : (deny : Deny) (o : Option (Location ℕ)) → Err deny ≡ Ok o → ⊥
no_answer deny o e = grind (arith, common_steps, true≢false)

module _ (world : World ℕ) (whole : IsWorld nat_eq world) (task : Task ℕ)
    (called : task_called world task.name ≡ Some task) where
  abbrev HereEnd : Here ℕ → Type 0
  HereEnd here = End world whole task called here.location

  -- a directory that is there, if the last word is a name, and what has that name
  abbrev pub IsPlaceIn : (Location ℕ → Type 0) → Place ℕ → Type 0
  IsPlaceIn P place = Found world whole task called place.parent
      × (is_special place.last ≡ false → IsDirectory world whole task place.parent)
      × ((object : Location ℕ) → place.object ≡ Some object → P object)

  abbrev pub IsFoundPlace : Place ℕ → Type 0
  IsFoundPlace = IsPlaceIn (Found world whole task called)

  abbrev pub IsEndPlace : Place ℕ → Type 0
  IsEndPlace = IsPlaceIn (End world whole task called)

  placed_found : (here : Here ℕ) → HereEnd here → (word : LastWord) (slash : Bool)
      → Ends IsFoundPlace (placed nat_eq world task here word slash)
  placed_found here is NoWord slash = (
    is.0,
    λ plain. absurd (true≢false plain),
    λ object e. subst (Found world whole task called) (same_Some here.location object e) is.0,
  )
  placed_found here is Dot slash =
      ends_step IsFoundPlace (steps_at nat_eq world task here Dot) (search_rules nat_eq world task here.location)
      (object_named nat_eq world task here.location Dot) _ (λ passed object e. (
        is.0,
        λ plain. absurd (true≢false plain),
        λ other f. subst (Found world whole task called) (same_Some here.location other
            (ok_same (Some here.location) object _ refl e ∙ f)) is.0,
      ))
  placed_found here is DotDot slash =
      ends_step IsFoundPlace (steps_at nat_eq world task here DotDot) (search_rules nat_eq world task here.location)
      (object_named nat_eq world task here.location DotDot) _ (λ passed object e. (
        is.0,
        λ plain. absurd (true≢false plain),
        λ other f. by (stepped nat_eq world task here.location DotDot) refl object e other f
            (is.0.0, not-false (is_directory_at nat_eq world here.location) passed.0),
      ))
    where
      by : (r : Result (Location ℕ) Deny) → stepped nat_eq world task here.location DotDot ≡ r
          → (object : Option (Location ℕ))
          → and_then r (λ parent. Ok (Some parent)) ≡ Ok object → (other : Location ℕ) → object ≡ Some other
          → FoundDirectory world whole task called here.location → Found world whole task called other
      by (Ok parent) g object e other f directory = step_found world whole task here.location DotDot other directory
          (g ∙ ap Ok (same_Some parent other (ok_same (Some parent) object _ refl e ∙ f)))
      by (Err deny) g object e other f directory = absurd (no_answer deny object e)
  placed_found here is (Named name) slash = ends_step IsFoundPlace (steps_at nat_eq world task here (Named name))
      (search_rules nat_eq world task here.location) (object_named nat_eq world task here.location (Named name)) _
      (λ passed object e.
      let directory = not-false (is_directory_at nat_eq world here.location) passed.0 in (
        is.0,
        λ plain. directory,
        λ other f. entry_found world whole task here.location name other (is.0.0, directory)
            (ok_same (entry_location nat_eq world here.location name) object _ refl e ∙ f),
      ))

  pub place_walk_found : (path : List ℕ) → Ends IsFoundPlace (place_walk nat_eq world task path)
  place_walk_found path = ends_next _ (path_text path) _ (λ text. ends_then _ _ _ _
      (front_end world whole task called _ (walk_start_end world whole task called text) (reverse (words text)))
      (λ here end. placed_found here end (final_word (reverse (words text))) (ends_in_slash text)))

  pub new_walk_found : (path : List ℕ) → Ends IsFoundPlace (new_walk nat_eq world task path)
  new_walk_found path =
      ends_then IsFoundPlace IsFoundPlace (place_walk nat_eq world task path) _ (place_walk_found path)
      (λ place is. ends_unless IsFoundPlace place.steps (new_name_rules nat_eq world place) place (λ passed. is))

  pub new_leaf_walk_found : (path : List ℕ) → Ends IsFoundPlace (new_leaf_walk nat_eq world task path)
  new_leaf_walk_found path =
      ends_then IsFoundPlace IsFoundPlace (new_walk nat_eq world task path) _ (new_walk_found path)
      (λ place is. ends_unless IsFoundPlace place.steps ((place.slash && not (is_some place.object), W6) ∷ []) place
      (λ passed. is))

  pub rename_new_walk_found : (path : List ℕ) (old_is_directory : Bool)
      → Ends IsFoundPlace (rename_new_walk nat_eq world task path old_is_directory)
  rename_new_walk_found path old_is_directory =
      ends_then IsFoundPlace IsFoundPlace (new_walk nat_eq world task path) _ (new_walk_found path)
      (λ place is. ends_unless IsFoundPlace place.steps ((place.slash && not old_is_directory, W3) ∷ []) place
      (λ passed. is))

  -- a name that is there
  abbrev pub IsOldPlace : Place ℕ → Type 0
  IsOldPlace place = IsFoundPlace place × (is_some place.object ≡ true)

  pub old_walk_found : (path : List ℕ) → Ends IsOldPlace (old_walk nat_eq world task path)
  old_walk_found path = ends_then IsFoundPlace IsOldPlace (place_walk nat_eq world task path) _ (place_walk_found path)
      (λ place is. ends_unless IsOldPlace place.steps ((not (is_some place.object), W6) ∷ []) place
      (λ passed. (is, not-false (is_some place.object) passed.0)))

  pub old_leaf_walk_found : (path : List ℕ) → Ends IsOldPlace (old_leaf_walk nat_eq world task path)
  old_leaf_walk_found path =
      grind (arith, common_steps, ends_then, old_walk, old_walk_found, ends_unless, is_directory_there)

  -- files
  no_link_there : (place : Place ℕ) → symlink_there nat_eq world place ≡ None → (object : Location ℕ)
      → place.object ≡ Some object → symlink_text (node_at nat_eq world object) ≡ None
  no_link_there place none object e =
      ap (λ o. then_some o (λ at. symlink_text (node_at nat_eq world at))) (sym e) ∙ none

  file_or_link_end : (place : Place ℕ) (follow : List ℕ → Result (Place ℕ) (Stop ℕ)) → IsFoundPlace place
      → ((inner : List ℕ) → Ends IsEndPlace (follow inner))
      → (text : Option (List ℕ)) → symlink_there nat_eq world place ≡ text
      → Ends IsEndPlace (file_or_symlink nat_eq world place text follow)
  file_or_link_end place follow is goes None e =
      grind (arith, common_steps, is.0, is.1, none_is_not, topmost_end, no_link_there)
  file_or_link_end place follow is goes (Some text) e = goes text

  -- where a link stands there, its text is walked
  abbrev linked_file : ℕ → List ℕ → Bool → Here ℕ → Place ℕ → List ℕ → Result (Place ℕ) (Stop ℕ)
  linked_file depth text slash here place inner =
      then_walk (walk_unless place.steps (follow_rules nat_eq world (symlink_of here place) inner)
      (symlink_start nat_eq world task here.location (symlink_of here place) inner))
      (λ next. file_walked nat_eq depth world task next inner (slash || ends_in_slash text))

  file_walked_end : (depth : ℕ) (start : Here ℕ) → HereEnd start → (text : List ℕ) (slash : Bool)
      → Ends IsEndPlace (file_walked nat_eq depth world task start text slash)
  file_walked_end zero start is text slash = tt
  file_walked_end (suc depth) start is text slash =
      ends_then HereEnd IsEndPlace (prefix_walked nat_eq world task (followed nat_eq world task) start
      (reverse (words text))) _ (front_end world whole task called start is (reverse (words text))) (λ here end.
      ends_then IsFoundPlace IsEndPlace (placed nat_eq world task here (final_word (reverse (words text)))
      (slash || ends_in_slash text)) (λ place. file_or_symlink nat_eq world place (symlink_there nat_eq world place)
      (linked_file depth text slash here place))
      (placed_found here end (final_word (reverse (words text))) (slash || ends_in_slash text)) (λ place place_is.
      file_or_link_end place (linked_file depth text slash here place) place_is (λ inner.
      ends_then HereEnd IsEndPlace (walk_unless place.steps (follow_rules nat_eq world (symlink_of here place) inner)
      (symlink_start nat_eq world task here.location (symlink_of here place) inner))
      (λ next. file_walked nat_eq depth world task next inner (slash || ends_in_slash text))
      (ends_unless HereEnd place.steps (follow_rules nat_eq world (symlink_of here place) inner)
      (symlink_start nat_eq world task here.location (symlink_of here place) inner)
      (λ passed. start_end world whole task called here.location inner end))
      (λ next next_is. file_walked_end depth next next_is inner (slash || ends_in_slash text)))
      (symlink_there nat_eq world place) refl))

  pub file_walk_end : (path : List ℕ) → Ends IsEndPlace (file_walk nat_eq world task path)
  file_walk_end path = ends_next IsEndPlace (path_text path) _ (λ text.
      ends_then IsEndPlace IsEndPlace (file_walked nat_eq (most_symlinks + 1) world task
      (walk_start task text) text false) _
      (file_walked_end (most_symlinks + 1) (walk_start task text) (walk_start_end world whole task called text) text
      false) (λ place is. ends_unless IsEndPlace place.steps (new_name_rules nat_eq world place) place (λ passed. is)))

  -- mount calls
  abbrev pub HereDirectory : Here ℕ → Type 0
  HereDirectory here = FoundDirectory world whole task called here.location

  pub source_walk_end : (path : List ℕ) → Ends HereDirectory (source_walk nat_eq world task path)
  source_walk_end path = ends_then HereDirectory HereDirectory (directory_walk nat_eq world task path) _
      (directory_walk_end world whole task called path)
      (λ here is. ends_unless HereDirectory here.steps ((is_removed_at nat_eq world here.location, W8) ∷ []) here
      (λ passed. is))

  -- a destination is the topmost over a place
  abbrev pub IsTopmost : Here ℕ → Type 0
  IsTopmost here = HereDirectory here × ((below : Location ℕ) × (here.location ≡ topmost nat_eq world.mounts below))

  pub destination_walk_end : (path : List ℕ) → Ends IsTopmost (destination_walk nat_eq world task path)
  destination_walk_end path =
      ends_then HereDirectory IsTopmost (source_walk nat_eq world task path) _ (source_walk_end path) (λ here is.
      ends_unless IsTopmost here.steps ((is_removed_at nat_eq world (topmost nat_eq world.mounts here.location), W8)
      ∷ []) (record here { location = topmost nat_eq world.mounts here.location })
      (λ passed. (topmost_directory world whole task here.location is, (here.location, refl))))
