-- Where the walks of calls that make, remove and rename end.
use Rattle.std.proofs.Common.{Bool, List, Ok, [], nat_eq, not, ℕ, ◌&&◌, ◌∷◌, ◌≡◌}
use Rattle.vt_spec.proofs.Common.{Looks, Place, Task, World, file_walk, looks_of, new_leaf_walk, new_walk, old_leaf_walk, old_walk, rename_new_walk}
use Rattle.vt_spec.specs.declared.errors.Rule.TheVariants.{W3}
use Rattle.vt_laws_trees.proofs.trees.TreesSizes.{HasFitLast, fit_file_walk, fit_new_leaf_walk, fit_new_walk}
use Rattle.vt_laws_trees.proofs.trees.TreesWalked.{IsNewFilePlace, IsNewPlace, IsOldPlace, at_end, ends_both, ends_file_walk, ends_new_leaf_walk, ends_new_walk, ends_old_leaf_walk, ends_old_walk, ends_then, ends_unless}

module _ (world : World ℕ) (task : Task ℕ) where
  abbrev looks : Looks ℕ
  looks = looks_of nat_eq world

  -- where the walk for a new name ends: its directory is there, and the name is within its limit
  abbrev pub NewPlace : Place ℕ → Type 0
  NewPlace place = IsNewPlace world task place × HasFitLast world task place

  pub new_is : (path : List ℕ) (place : Place ℕ) → new_walk nat_eq looks task path ≡ Ok place → NewPlace place
  new_is path place e = (
    at_end _ (new_walk nat_eq looks task path) place (ends_new_walk world task path) e,
    at_end _ (new_walk nat_eq looks task path) place (fit_new_walk world task path) e,
  )

  pub new_leaf_is : (path : List ℕ) (place : Place ℕ) → new_leaf_walk nat_eq looks task path ≡ Ok place → NewPlace place
  new_leaf_is path place e = (
    at_end _ (new_leaf_walk nat_eq looks task path) place (ends_new_leaf_walk world task path) e,
    at_end _ (new_leaf_walk nat_eq looks task path) place (fit_new_leaf_walk world task path) e,
  )

  pub rename_new_is : (path : List ℕ) (old_is_directory : Bool) (place : Place ℕ)
      → rename_new_walk nat_eq looks task path old_is_directory ≡ Ok place → NewPlace place
  rename_new_is path old_is_directory place = at_end NewPlace _ place (ends_then NewPlace
      NewPlace (new_walk nat_eq looks task path) _ (ends_both (IsNewPlace world task) (HasFitLast world task)
      (new_walk nat_eq looks task path) (ends_new_walk world task path) (fit_new_walk world task path)) (λ place is.
      ends_unless NewPlace place.steps ((place.slash && not old_is_directory, W3) ∷ []) place (λ passed. is)))

  -- where the walk of a file ends
  abbrev pub NewFilePlace : Place ℕ → Type 0
  NewFilePlace place = IsNewFilePlace world task place × HasFitLast world task place

  pub file_is : (path : List ℕ) (place : Place ℕ) → file_walk nat_eq looks task path ≡ Ok place → NewFilePlace place
  file_is path place e = (
    at_end _ (file_walk nat_eq looks task path) place (ends_file_walk world task path) e,
    at_end _ (file_walk nat_eq looks task path) place (fit_file_walk world task path) e,
  )

  -- where the walk of an old name ends
  pub old_leaf_is : (path : List ℕ) (place : Place ℕ) → old_leaf_walk nat_eq looks task path ≡ Ok place
      → IsOldPlace world task place
  old_leaf_is path place = at_end _ (old_leaf_walk nat_eq looks task path) place (ends_old_leaf_walk world task path)

  pub old_is : (path : List ℕ) (place : Place ℕ) → old_walk nat_eq looks task path ≡ Ok place
      → IsOldPlace world task place
  old_is path place = at_end _ (old_walk nat_eq looks task path) place (ends_old_walk world task path)
