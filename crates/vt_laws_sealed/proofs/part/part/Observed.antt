-- Worlds in which a set of tasks sees the same have one part for it.
use Rattle.std.proofs.Common.{◌≡◌, sym, ap, ◌∙◌, ℕ, nat_eq, List, [], ◌++◌, flat_map, filter, arith, filter_map}
use Rattle.vt_spec.proofs.Common.{Mount, Overlay, Task, TaskName, World, change_layers, common_steps, contains_from_among, each_once, filesystem_numbered, members, of_overlay, own_lowers, own_mounts, part_of, part_of_master, used_directly, used_filesystems}
use Rattle.vt_laws_sealed.proofs.Common.{flat_map_alike}
use Rattle.vt_laws_sealed.specs.Part.Parts.{PartIsByObservations, SeesTheSame, shown_of}
use Rattle.vt_laws_sealed.proofs.part.part.PartOfPart.{is_own, same_directly, same_members, same_own}

module _ (world later : World ℕ) (names : List TaskName) (same : SeesTheSame world later names) where
  -- members and mounts say which mounts are theirs, and what they use
  abbrev owned_by : List (Task ℕ) → List (Mount ℕ) → List (Mount ℕ)
  owned_by tasks mounts = filter (is_own world names tasks) mounts

  tasks_of_parts : members (part_of nat_eq later names) names ≡ members (part_of nat_eq world names) names
  tasks_of_parts = same_members later names ∙ same.tasks ∙ sym (same_members world names)

  pub own_mounts_same : own_mounts nat_eq later names ≡ own_mounts nat_eq world names
  own_mounts_same = sym (same_own later names)
      ∙ ap (λ tasks. owned_by tasks (part_of nat_eq later names).mounts) tasks_of_parts
      ∙ ap (owned_by (members (part_of nat_eq world names) names)) same.mounts ∙ same_own world names

  pub directly_same : used_directly nat_eq later names ≡ used_directly nat_eq world names
  directly_same = grind (arith, common_steps, same_directly, tasks_of_parts)

  abbrev direct : List ℕ
  direct = used_directly nat_eq world names

  pub used_same : used_filesystems nat_eq later names ≡ used_filesystems nat_eq world names
  used_same = ap (λ d. each_once nat_eq (d ++ flat_map (λ n. change_layers (filesystem_numbered nat_eq later n)) d))
      directly_same ∙ ap (λ l. each_once nat_eq (direct ++ l)) (flat_map_alike _ _ direct
      (λ n m. ap change_layers (same.direct n (contains_from_among direct n m))))

  pub lowers_same : own_lowers nat_eq later names ≡ own_lowers nat_eq world names
  lowers_same = ap (λ d. flat_map (λ n. of_overlay [] (λ (overlay : Overlay ℕ). overlay.lowers)
      (filesystem_numbered nat_eq later n)) d) directly_same
      ∙ flat_map_alike (λ n. of_overlay [] (λ (overlay : Overlay ℕ). overlay.lowers)
      (filesystem_numbered nat_eq later n))
      (λ n. of_overlay [] (λ (overlay : Overlay ℕ). overlay.lowers) (filesystem_numbered nat_eq world n)) direct
      (λ n m. ap (of_overlay [] (λ (overlay : Overlay ℕ). overlay.lowers))
      (same.direct n (contains_from_among direct n m)))

  masters_same : part_of_master nat_eq later names ≡ part_of_master nat_eq world names
  masters_same = grind (arith, common_steps, own_mounts_same)

  pub part_same : part_of nat_eq later names ≡ part_of nat_eq world names
  part_same = ap (λ m. record (part_of nat_eq later names) { mounts = m }) same.mounts
      ∙ ap (λ m. record (part_of nat_eq later names) { mounts = (part_of nat_eq world names).mounts; master = m })
      masters_same ∙ ap (λ f. record (part_of nat_eq world names) {
        filesystems = f;
        namespaces = (part_of nat_eq later names).namespaces;
        tasks = members later names;
      }) (ap (λ u. filter_map (shown_of later u (own_lowers nat_eq later names)) later.filesystems) used_same
      ∙ ap (λ l. filter_map (shown_of later (used_filesystems nat_eq world names) l) later.filesystems) lowers_same
      ∙ same.filesystems)
      ∙ ap (λ n. record (part_of nat_eq world names) { namespaces = n; tasks = members later names }) same.namespaces
      ∙ ap (λ t. record (part_of nat_eq world names) { tasks = t }) same.tasks

pub part_is_by_observations : PartIsByObservations
part_is_by_observations world later names same =
    grind (arith, common_steps, part_same, own_mounts_same, used_same, lowers_same)
