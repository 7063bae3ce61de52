-- Without dead mounts the part is as it was.
use Rattle.std.proofs.Common.{◌≡◌, refl, inl, inr, ⊎_elim, ℕ, nat_eq, Bool, true, true≢false, List, [], ◌∷◌, Option, Some, filter, eq-eqb, eqb-true, arith, filter_map}
use Rattle.vt_spec.proofs.Common.{Among, Location, Mount, Task, TaskName, World, all_locations, among-flat_map, among-from_filter, among-from_flat_map, any_among, any_from_among, common_steps, is_at, is_member_task, locations, locations_of, members, mount_lives, none_is_some, or_left, or_right, roots_and_directories, without_dead_mounts}
use Rattle.vt_laws_sealed.specs.Part.Parts.{DeadMountsAreInNoPart, SeesTheSame}
use Rattle.vt_laws_sealed.proofs.part.part.Observed.{part_same}
use Rattle.vt_laws_sealed.proofs.part.part.PartOfPart.{is_own, keep}

module _ (world : World ℕ) (names : List TaskName) where
  abbrev theirs : List (Task ℕ)
  theirs = members world names

  abbrev later : World ℕ
  later = without_dead_mounts nat_eq world

  abbrev kept : Mount ℕ → Option (Mount ℕ)
  kept = keep world names theirs

  abbrev lives : Mount ℕ → Bool
  lives = mount_lives nat_eq world

  -- a location of theirs is one of all
  among_all : (location : Location ℕ) → Among location (locations theirs) → Among location (all_locations world)
  among_all location m =
      let task = among-from_flat_map locations_of theirs location m in
      among-flat_map locations_of world.tasks task.0 location
      (among-from_filter (is_member_task names) world.tasks task.0 task.1).0 task.2

  located_lives : (x : Mount ℕ) (location : Location ℕ) → Among location (locations theirs)
      → nat_eq location.mount x.number ≡ true → lives x ≡ true
  located_lives x location m e = grind (arith, common_steps, or_right, any_from_among, among_all, eqb-true, eq-eqb)

  own_lives : (x : Mount ℕ) → is_own world names theirs x ≡ true → lives x ≡ true
  own_lives x e = grind (arith, common_steps, or_left)

  at_lives : (x : Mount ℕ) → is_at nat_eq (locations theirs) x ≡ true → lives x ≡ true
  at_lives x e =
      let found = any_among (λ (l : Location ℕ). nat_eq l.mount x.number) (locations theirs) e in
      located_lives x found.0 found.1 found.2

  -- roots and working directories are locations
  root_at : (x : Mount ℕ) → is_at nat_eq (roots_and_directories theirs) x ≡ true
      → is_at nat_eq (locations theirs) x ≡ true
  root_at x e =
      let found = any_among (λ (l : Location ℕ). nat_eq l.mount x.number) (roots_and_directories theirs) e in
      let task = among-from_flat_map (λ (t : Task ℕ). t.root ∷ t.directory ∷ []) theirs found.0 found.1 in
      any_from_among _ (locations theirs) found.0 (among-flat_map locations_of theirs task.0 found.0 task.1
      (⊎_elim (λ root. inl root) (λ rest. ⊎_elim (λ directory. inr (inl directory)) (λ none. absurd none) rest) task.2))
      found.2

  kept_lives : (x y : Mount ℕ) → kept x ≡ Some y → lives x ≡ true
  kept_lives x y e = grind (arith, common_steps, is_own, own_lives, at_lives, root_at, none_is_some)

  pub mounts_kept : (list : List (Mount ℕ)) → filter_map kept (filter lives list) ≡ filter_map kept list
  mounts_kept [] = refl
  mounts_kept (x ∷ rest) = grind (arith, common_steps, kept_lives, true≢false, mounts_kept rest)

  sees_the_same : SeesTheSame world later names
  sees_the_same = grind (arith, common_steps, mounts_kept)

pub dead_mounts_are_in_no_part : DeadMountsAreInNoPart
dead_mounts_are_in_no_part world names = part_same world _ names (sees_the_same world names)
