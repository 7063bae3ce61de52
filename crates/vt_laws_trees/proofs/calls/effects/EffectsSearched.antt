-- The directory of a name that a walk ends at may be searched.
use Rattle.std.proofs.Common.{◌≡◌, ℕ, suc, zero, ◌+◌, nat_eq, Bool, true, false, not, ◌&&◌, ◌||◌, List, [], ◌∷◌, Option, Some, None, is_some, Result, reverse}
use Rattle.vt_spec.proofs.Common.{Dot, DotDot, Here, LastWord, Location, Named, NoWord, Place, Rules, Stop, Task, World, ends_in_slash, execute_right, file_or_symlink, file_walked, final_word, followed, is_special, looks_of, most_symlinks, new_name_rules, node_allows, node_at, path_text, prefix_walked, rename_new_walk, symlink_of, then_walk, walk_start, walk_unless, words}
use Rattle.vt_spec.specs.declared.errors.Rule.TheVariants.{W3, W6}
use Rattle.vt_spec.proofs.Walk.{file_walk, follow_rules, is_directory_there, symlink_start, symlink_there, new_leaf_walk, new_walk, object_named, old_leaf_walk, old_walk, place_walk, placed, search_rules, steps_at}
use Rattle.vt_laws_trees.proofs.trees.TreesWalked.{Ends, ends_next, ends_step, ends_then, ends_unless, not-false}

module _ (world : World ℕ) (task : Task ℕ) where
  abbrev pub MaySearch : Location ℕ → Type 0
  MaySearch here = node_allows task.credentials execute_right (node_at nat_eq world here) ≡ true

  abbrev pub IsSearched : Place ℕ → Type 0
  IsSearched place = is_special place.last ≡ false → MaySearch place.parent

  searched_placed : (here : Here ℕ) (word : LastWord) (slash : Bool)
      → Ends IsSearched (placed nat_eq world task here word slash)
  searched_placed here NoWord slash = λ named. cc
  searched_placed here Dot slash =
      ends_step IsSearched (steps_at nat_eq world task here Dot) (search_rules nat_eq world task here.location)
      (object_named nat_eq world task here.location Dot) _ (λ passed object e named. cc)
  searched_placed here DotDot slash =
      ends_step IsSearched (steps_at nat_eq world task here DotDot) (search_rules nat_eq world task here.location)
      (object_named nat_eq world task here.location DotDot) _ (λ passed object e named. cc)
  searched_placed here (Named name) slash =
      ends_step IsSearched (steps_at nat_eq world task here (Named name)) (search_rules nat_eq world task here.location)
      (object_named nat_eq world task here.location (Named name)) _ (λ passed object e named. not-false _ passed.1.0)

  searched_place_walk : (path : List ℕ) → Ends IsSearched (place_walk nat_eq world task path)
  searched_place_walk path = ends_next IsSearched (path_text path) _ (λ text.
      ends_next IsSearched (prefix_walked nat_eq world task (followed nat_eq world task) (walk_start task text)
      (reverse (words text))) _ (λ here. searched_placed here (final_word (reverse (words text))) (ends_in_slash text)))

  -- rules about the place where a walk ends move it nowhere
  searched_unless : (walk : Result (Place ℕ) (Stop ℕ)) (rules : Place ℕ → Rules) → Ends IsSearched walk
      → Ends IsSearched (then_walk walk (λ place. walk_unless place.steps (rules place) place))
  searched_unless walk rules searched = ends_then IsSearched IsSearched walk _ searched
      (λ place is. ends_unless IsSearched place.steps (rules place) place (λ passed. is))

  pub searched_new_walk : (path : List ℕ) → Ends IsSearched (new_walk nat_eq world task path)
  searched_new_walk path = searched_unless _ (new_name_rules nat_eq world) (searched_place_walk path)

  pub searched_new_leaf_walk : (path : List ℕ) → Ends IsSearched (new_leaf_walk nat_eq world task path)
  searched_new_leaf_walk path = searched_unless _ (λ place. (place.slash && not (is_some place.object), W6) ∷ [])
      (searched_new_walk path)

  pub searched_rename_walk : (path : List ℕ) (directory : Bool)
      → Ends IsSearched (rename_new_walk nat_eq (looks_of nat_eq world) task path directory)
  searched_rename_walk path directory =
      searched_unless _ (λ place. (place.slash && not directory, W3) ∷ []) (searched_new_walk path)

  pub searched_old_walk : (path : List ℕ) → Ends IsSearched (old_walk nat_eq world task path)
  searched_old_walk path = searched_unless _ (λ place. (not (is_some place.object), W6) ∷ []) (searched_place_walk path)

  pub searched_old_leaf_walk : (path : List ℕ) → Ends IsSearched (old_leaf_walk nat_eq world task path)
  searched_old_leaf_walk path =
      searched_unless _ (λ place. (place.slash && not (is_directory_there nat_eq world place), W3) ∷ [])
      (searched_old_walk path)

  -- the walk to a file, which goes on where a symlink leads
  searched_file_or_symlink : (place : Place ℕ) (text : Option (List ℕ)) (follow : List ℕ → Result (Place ℕ) (Stop ℕ))
      → IsSearched place → ((inner : List ℕ) → Ends IsSearched (follow inner))
      → Ends IsSearched (file_or_symlink nat_eq world place text follow)
  searched_file_or_symlink place None follow is followed = is
  searched_file_or_symlink place (Some text) follow is followed = followed text

  searched_file_walked : (depth : ℕ) (start : Here ℕ) (text : List ℕ) (slash : Bool)
      → Ends IsSearched (file_walked nat_eq depth world task start text slash)
  searched_file_walked zero start text slash = tt
  searched_file_walked (suc depth) start text slash =
      ends_next IsSearched (prefix_walked nat_eq world task (followed nat_eq world task) start (reverse (words text))) _
      (λ here. ends_then IsSearched IsSearched (placed nat_eq world task here _ (slash || ends_in_slash text)) _
      (searched_placed here (final_word (reverse (words text))) (slash || ends_in_slash text))
      (λ place is. searched_file_or_symlink place (symlink_there nat_eq world place) _ is
      (λ inner. ends_next IsSearched (walk_unless place.steps (follow_rules nat_eq world (symlink_of here place) inner)
      (symlink_start nat_eq world task here.location (symlink_of here place) inner)) _
      (λ next. searched_file_walked depth next inner (slash || ends_in_slash text)))))

  pub searched_file_walk : (path : List ℕ) → Ends IsSearched (file_walk nat_eq world task path)
  searched_file_walk path = ends_next IsSearched (path_text path) _ (λ text.
      searched_unless _ (new_name_rules nat_eq world)
      (searched_file_walked (most_symlinks + 1) (walk_start task text) text false))
