-- Each directory on the way of a walk is searched: walks to files that are opened or made.
use Rattle.std.proofs.Common.{◌≡◌, refl, sym, subst, ℕ, zero, suc, ◌+◌, nat_eq, Bool, false, ◌||◌, List, ◌++◌, Option, Some, None, Ok, Err, Result, reverse}
use Rattle.vt_spec.proofs.Common.{All-append, Here, Location, Place, Stop, Task, World, ends_in_slash, file_or_symlink, file_walked, final_word, followed, most_symlinks, new_name_rules, path_text, prefix_walked, start_of, symlink_of, then_walk, walk_start, walk_unless, words}
use Rattle.vt_laws_trees.proofs.calls.ways.WaysNamed.{IsFront, prefix_searched, text_name_searched}
use Rattle.vt_laws_trees.proofs.calls.ways.WaysSearched.{IsNamedAt, placed_step}
use Rattle.vt_laws_trees.proofs.calls.ways.WaysWalked.{path_text_same}
use Rattle.vt_laws_trees.specs.Calls.Searched.{FileWaysAreSearched, IsSearchable, IsSearchedToFile, IsSearchedWayToFile, IsSearchedWayToName}
use Rattle.vt_laws_trees.specs.Calls.Searched.WayToFile.{file_in, through_symlink}
use Rattle.vt_spec.proofs.Walk.{file_walk, follow_rules, placed, symlink_start, symlink_there}
use Rattle.vt_laws_trees.proofs.trees.TreesWalked.{Ends, at_end, ends_then, ends_unless}

module _ (world : World ℕ) (task : Task ℕ) where
  abbrev IsFileOf : Location ℕ → List ℕ → Place ℕ → Type 0
  IsFileOf start text place = IsSearchedWayToFile world task start (words text) place.parent

  -- where the walk of a file's name stands: the name was looked up
  module _ (start here : Location ℕ) (text : List ℕ) (place : Place ℕ)
      (before : IsFront world task start (reverse (words text)) here)
      (named : IsNamedAt world task here (final_word (reverse (words text))) place) where
    to_name : IsSearchedWayToName world task start (words text) here (final_word (reverse (words text)))
    to_name = text_name_searched world task start here text before named.searched

    pub ends_here : symlink_there nat_eq world place ≡ None → IsFileOf start text place
    ends_here plain =
        subst (λ directory. IsSearchedWayToFile world task start (words text) directory) (sym named.parent) (record {
          passed = to_name.passed;
          way = file_in start here (words text) _ place.object to_name.passed to_name.way named.object plain;
          searched = to_name.searched;
        })

    pub goes_through : (inner : List ℕ) → symlink_there nat_eq world place ≡ Some inner → (end : Place ℕ)
        → IsFileOf (start_of task here inner) inner end → IsFileOf start text end
    goes_through inner linked end further = record {
      passed = to_name.passed ++ further.passed;
      way = through_symlink start here end.parent _ _ _ inner _ _ to_name.way named.object linked further.way;
      searched = All-append (IsSearchable world task) to_name.passed further.passed to_name.searched further.searched;
    }

  abbrev next_text : ℕ → List ℕ → Bool → Here ℕ → Place ℕ → List ℕ → Result (Place ℕ) (Stop ℕ)
  next_text depth text slash here place inner =
      then_walk (walk_unless place.steps (follow_rules nat_eq world (symlink_of here place) inner)
      (symlink_start nat_eq world task here.location (symlink_of here place) inner))
      (λ next. file_walked nat_eq depth world task next inner (slash || ends_in_slash text))

  file_searched : (depth : ℕ) (start : Here ℕ) (text : List ℕ) (slash : Bool)
      → Ends (IsFileOf start.location text) (file_walked nat_eq depth world task start text slash)
  file_searched zero start text slash = tt
  file_searched (suc depth) start text slash = ends_then _ (IsFileOf start.location text)
      (prefix_walked nat_eq world task (followed nat_eq world task) start (reverse (words text))) _
      (prefix_searched world task start (reverse (words text))) (λ here before. ends_then _
      (IsFileOf start.location text) (placed nat_eq world task here _ (slash || ends_in_slash text)) _
      (placed_step world task here (final_word (reverse (words text))) (slash || ends_in_slash text))
      (λ place named. by_symlink (λ next inner. file_searched depth next inner _) here before place named _ refl))
    where
      further : (here : Here ℕ) → IsFront world task start.location (reverse (words text)) here.location
          → (place : Place ℕ)
          → IsNamedAt world task here.location (final_word (reverse (words text))) place → (inner : List ℕ)
          → symlink_there nat_eq world place ≡ Some inner → (next : Here ℕ)
          → next.location ≡ start_of task here.location inner
          → (r : Result (Place ℕ) (Stop ℕ)) → Ends (IsFileOf next.location inner) r
          → Ends (IsFileOf start.location text) r
      further here before place named inner linked next e (Ok end) found =
          goes_through start.location here.location text place before named inner linked end
          (subst (λ from. IsFileOf from inner end) e found)
      further here before place named inner linked next e (Err stop) found = tt

      by_symlink : ((next : Here ℕ) (inner : List ℕ) → Ends (IsFileOf next.location inner)
          (file_walked nat_eq depth world task next inner (slash || ends_in_slash text)))
          → (here : Here ℕ) → IsFront world task start.location (reverse (words text)) here.location → (place : Place ℕ)
          → IsNamedAt world task here.location (final_word (reverse (words text))) place → (o : Option (List ℕ))
          → symlink_there nat_eq world place ≡ o → Ends (IsFileOf start.location text)
          (file_or_symlink nat_eq world place o (next_text depth text slash here place))
      by_symlink rest here before place named None plain = ends_here _ here.location text place before named plain
      by_symlink rest here before place named (Some inner) linked = ends_then _ (IsFileOf start.location text)
          (walk_unless place.steps (follow_rules nat_eq world (symlink_of here place) inner)
          (symlink_start nat_eq world task here.location (symlink_of here place) inner)) _
          (ends_unless _ place.steps (follow_rules nat_eq world (symlink_of here place) inner) _ (λ passed. refl))
          (λ next e. further here before place named inner linked next e _ (rest next inner))

  module _ (path : List ℕ) where
    abbrev IsFilePlace : Place ℕ → Type 0
    IsFilePlace place = IsSearchedToFile world task path place.parent

    file_walk_searched : Ends IsFilePlace (file_walk nat_eq world task path)
    file_walk_searched = ends_then (λ text. text ≡ path) IsFilePlace (path_text path) _ (path_text_same path) (λ text e.
        ends_then (IsFileOf (walk_start task text).location text) IsFilePlace
        (file_walked nat_eq (most_symlinks + 1) world task (walk_start task text) text false) _
        (file_searched (most_symlinks + 1) (walk_start task text) text false) (λ place searched.
        ends_unless IsFilePlace place.steps (new_name_rules nat_eq world place) place (λ passed.
        subst (λ written. IsSearchedToFile world task written place.parent) e searched)))

pub file_ways_are_searched : FileWaysAreSearched
file_ways_are_searched world task path place e = at_end _ _ place (file_walk_searched world task path) e
