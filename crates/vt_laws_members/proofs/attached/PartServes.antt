-- A supply of numbers that a world does not use serves its part.
use Rattle.std.proofs.Common.{arith, sym, subst, inl, inr, ⊎_elim, ℕ, nat_eq, true≢false, List, [], ◌∷◌, ◌++◌, filter, flat_map, map}
use Rattle.vt_spec.proofs.Common.{Among, Filesystem, Fresh, Mount, Namespace, Serves, TaskName, World, among-append, among-append_left, among-append_right, among-flat_map, among-from_filter, among-from_filter_map, among-from_flat_map, among-from_map, among-map, among_numbers, common_steps, false_from_ne_true, is_among, is_among_numbers, is_own_namespace, lies_in_own_lower, members, numbers_in_use, part_of, part_of_filesystem, used_by_filesystem, used_by_mount}
use Rattle.vt_laws_members.proofs.Common.{keep, kept_how, shown_how}

module _ (world : World ℕ) (names : List TaskName) where
  abbrev part : World ℕ
  part = part_of nat_eq world names

  -- what the part uses, the world uses
  of_mount : (n : ℕ) (y : Mount ℕ) → Among y part.mounts → Among n (used_by_mount y)
      → Among n (flat_map used_by_mount world.mounts)
  of_mount n y m on =
      let x = among-from_filter_map (keep world names (members world names)) world.mounts y m in
      among-flat_map used_by_mount world.mounts x.0 n x.1
      (⊎_elim (λ same. subst (λ z. Among n (used_by_mount z)) (sym same) on)
      (λ stub. by x.0 (subst (λ z. Among n (used_by_mount z)) (sym stub.0) on))
      (kept_how world names (members world names) x.0 y x.2))
    where
      by : (x : Mount ℕ) → Among n (x.number ∷ []) → Among n (used_by_mount x)
      by x h = ⊎_elim inl (λ none. absurd none) h

  of_filesystem : (n : ℕ) (y : Filesystem ℕ) → Among y part.filesystems → Among n (used_by_filesystem y)
      → Among n (flat_map used_by_filesystem world.filesystems)
  of_filesystem n y m on =
      let x = among-from_filter_map (part_of_filesystem nat_eq world names) world.filesystems y m in
      among-flat_map used_by_filesystem world.filesystems x.0 n x.1
      (⊎_elim (λ whole. subst (λ z. Among n (used_by_filesystem z)) (sym whole.0) on)
      (λ low. by x.0 (subst (λ z. Among n (used_by_filesystem z)) (sym low.0) on)) (shown_how world names x.0 y x.2))
    where
      by : (x : Filesystem ℕ) → Among n (x.number ∷ filter (λ k. is_among nat_eq k
          (filter (lies_in_own_lower nat_eq world names x.number) x.files.numbers)) x.files.numbers)
          → Among n (used_by_filesystem x)
      by x h = ⊎_elim inl (λ rest. inr (among-from_filter (λ k. is_among nat_eq k
          (filter (lies_in_own_lower nat_eq world names x.number) x.files.numbers)) x.files.numbers n rest).0) h

  used_too : (n : ℕ) → Among n (numbers_in_use part) → Among n (numbers_in_use world)
  used_too n m = ⊎_elim (λ front. among-append_left (flat_map used_by_mount world.mounts ++ flat_map used_by_filesystem
      world.filesystems) (map (λ (k : Namespace ℕ). k.number) world.namespaces) n
      (⊎_elim (λ of. let y = among-from_flat_map used_by_mount part.mounts n of in among-append_left
      (flat_map used_by_mount world.mounts) (flat_map used_by_filesystem world.filesystems) n (of_mount n y.0 y.1 y.2))
      (λ of. let y = among-from_flat_map used_by_filesystem part.filesystems n of in among-append_right
      (flat_map used_by_mount world.mounts) (flat_map used_by_filesystem world.filesystems) n
      (of_filesystem n y.0 y.1 y.2)) (among-append (flat_map used_by_mount part.mounts)
      (flat_map used_by_filesystem part.filesystems) n front))) (λ back. let k = among-from_map
      (λ (k : Namespace ℕ). k.number) part.namespaces n back in let listed = among-from_filter
      (λ (k : Namespace ℕ). is_own_namespace nat_eq world names k.number) world.namespaces k.0 k.1 in among-append_right
      (flat_map used_by_mount world.mounts ++ flat_map used_by_filesystem world.filesystems)
      (map (λ (k : Namespace ℕ). k.number) world.namespaces) n (rw k.2
      (among-map (λ (k : Namespace ℕ). k.number) world.namespaces k.0 listed.0)))
      (among-append (flat_map used_by_mount part.mounts ++ flat_map used_by_filesystem part.filesystems)
      (map (λ (k : Namespace ℕ). k.number) part.namespaces) n m)

  pub serves_there : (fresh : Fresh ℕ) → Serves nat_eq world fresh → Serves nat_eq part fresh
  serves_there fresh serves =
      grind (arith, common_steps, false_from_ne_true, true≢false, is_among_numbers, used_too, among_numbers)
