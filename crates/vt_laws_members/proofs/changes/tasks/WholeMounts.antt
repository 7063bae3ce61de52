-- A mount of theirs is whole in the part.
use Rattle.std.proofs.Common.{arith, ◌≡◌, sym, ap, subst, ◌∙◌, ⊎_elim, ℕ, nat_eq, eqb-true, true, List, Some, ◌||◌}
use Rattle.vt_spec.proofs.Common.{Among, IsWorld, Location, Mount, TaskName, World, among-from_filter_map, common_steps, is_at, members, mount_at, or_left, or_right, part_of, roots_and_directories, used_directly}
use Rattle.vt_laws_members.proofs.Common.{is_own, keep, kept_how, kept_whole, numbered, same_directly, same_members}
use Rattle.vt_laws_members.proofs.judging.Common.{IsTheirs, same_mount, theirs_directly}

module _ (world : World ℕ) (names : List TaskName) (is : IsWorld nat_eq world) (file : Location ℕ)
    (ground : IsTheirs world names is.mounts file.mount) where
  abbrev its_part : World ℕ
  its_part = part_of nat_eq world names

  whole_is : (is_own world names (members world names) ground.0
      || is_at nat_eq (roots_and_directories (members world names)) ground.0) ≡ true
  whole_is = ⊎_elim (or_left (is_own world names (members world names) ground.0) _)
      (λ stood. or_right (is_own world names (members world names) ground.0) _ stood.1) ground.3

  ground_is : (m : Mount ℕ) → Among m world.mounts → nat_eq file.mount m.number ≡ true → ground.0 ≡ m
  ground_is m n e = grind (arith, common_steps, numbered, eqb-true)

  pub whole_in_world : (m : Mount ℕ) → Among m world.mounts → nat_eq file.mount m.number ≡ true
      → (is_own world names (members world names) m
      || is_at nat_eq (roots_and_directories (members world names)) m) ≡ true
  whole_in_world m n e = rw (← ground_is m n e) whole_is

  pub whole_in_part : (m : Mount ℕ) → Among m its_part.mounts → nat_eq file.mount m.number ≡ true
      → (is_own its_part names (members its_part names) m
      || is_at nat_eq (roots_and_directories (members its_part names)) m) ≡ true
  whole_in_part m n e =
      let from = among-from_filter_map (keep world names (members world names)) world.mounts m n in
      let same : from.0.number ≡ m.number = sym (kept_number from.0 m from.2) in
      let its = whole_in_world from.0 from.1 (cc) in
      let it_is : from.0 ≡ m = cc (kept_whole world names (members world names) from.0 its) in
      ap (λ tasks. is_own world names tasks m || is_at nat_eq (roots_and_directories tasks) m)
      (same_members world names) ∙ subst (λ x. (is_own world names (members world names) x || is_at nat_eq
      (roots_and_directories (members world names)) x) ≡ true) it_is its
    where
      kept_number : (x y : Mount ℕ) → keep world names (members world names) x ≡ Some y → y.number ≡ x.number
      kept_number x y k = ⊎_elim (λ same. cc) (λ stub. cc stub.0) (kept_how world names (members world names) x y k)

  pub used_in_part : Among (mount_at nat_eq its_part file).filesystem (used_directly nat_eq its_part names)
  used_in_part = rw (ap (λ (m : Mount ℕ). m.filesystem) (same_mount world names is.mounts file.mount ground))
      (subst (Among (mount_at nat_eq world file).filesystem) (sym (same_directly world names))
      (theirs_directly world names is file ground))
