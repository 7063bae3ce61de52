-- The change numbers that calls of theirs hold are those of the part.
use Rattle.std.proofs.Common.{arith, ◌≡◌, refl, ap, ◌∙◌, inl, inr, ⊎_elim, ℕ, nat_eq, Bool, true, false, List, [], ◌∷◌, ◌||◌, filter, find, map, eqb-true, eq-eqb}
use Rattle.vt_spec.proofs.Common.{Among, IsWorld, Location, Mount, Progress, Task, TaskName, World, among-append_left, among-filter, among-flat_map, among-from_filter, among-map, any_among, any_from_among, common_steps, filesystem_change_of, first_of_list, holds_of, is_among, is_overtaken, is_stale, list_any, locations_of, members, mount_at, mounts_of, namespace_change_of, or_cases, own_mounts, part_of, used_filesystems}
use Rattle.vt_laws_members.proofs.judging.JudgedOverlays.{any_same}
use Rattle.vt_laws_containers.proofs.Common.{HoldsItsTask, filter_kept, find-filter, in_own, is_seen_by, located_used, shown_how, used_directly_used}

-- what is found is the first that passes
found_first : {A : Type 0} (p : A → Bool) (list : List A) → find p list ≡ first_of_list (filter p list)
found_first p [] = refl
found_first {A} p (a ∷ rest) = grind (arith, common_steps, found_first p rest)

module _ (world : World ℕ) (names : List TaskName) (is : IsWorld nat_eq world) (task : Task ℕ)
    (member : Among task (members world names)) where
  abbrev part : World ℕ
  part = part_of nat_eq world names

  abbrev uses : ℕ → Bool
  uses number = is_among nat_eq number (used_filesystems nat_eq world names)

  stood_used : (l : Location ℕ) → Among l (locations_of task) → (f : ℕ)
      → nat_eq f (mount_at nat_eq world l).filesystem ≡ true → uses f ≡ true
  stood_used l m f e = ap uses (eqb-true f (mount_at nat_eq world l).filesystem e)
      ∙ located_used world names is l (among-flat_map locations_of (members world names) task l member m)

  -- what one of their tasks sees is used
  pub seen_used : (f : ℕ) → is_seen_by world task f ≡ true → uses f ≡ true
  seen_used f seen = ⊎_elim (λ both. ⊎_elim of_mount (stood_used _ (inl refl) f) (or_cases _ _ both))
      (stood_used _ (inr (inl refl)) f) (or_cases _ _ seen)
    where
      of_mount : list_any (λ (m : Mount ℕ). nat_eq f m.filesystem) (mounts_of nat_eq world task.namespace) ≡ true
          → uses f ≡ true
      of_mount any =
          let found = any_among (λ (m : Mount ℕ). nat_eq f m.filesystem) _ any in
          let both = among-from_filter (λ (m : Mount ℕ). holds_of (nat_eq task.namespace) m.namespace) _ _ found.1 in
          ap uses (eqb-true f _ found.2) ∙ used_directly_used world names _
          (among-append_left (map (λ (m : Mount ℕ). m.filesystem) (own_mounts nat_eq world names)) _ _
          (among-map (λ (m : Mount ℕ). m.filesystem) _ _
          (among-filter _ world.mounts _ both.0 (in_own world names is task member found.0 both.1))))

  -- the part has the numbers of what they use,
  pub filesystem_same : (f : ℕ) → uses f ≡ true → filesystem_change_of nat_eq part f
      ≡ filesystem_change_of nat_eq world f
  filesystem_same f used = grind (arith, common_steps, found_first, filter_kept, eqb-true, shown_how)

  -- and of their namespaces
  pub namespace_same : namespace_change_of nat_eq part task.namespace ≡ namespace_change_of nat_eq world task.namespace
  namespace_same = grind (arith, common_steps, find-filter, any_from_among, eq-eqb, eqb-true)

  -- so a call that holds what is seen is overtaken in both or in neither
  pub overtaken_alike : (progress : Progress ℕ)
      → (HoldsItsTask world task progress → (held : ℕ × ℕ) → Among held progress.filesystems
      → is_seen_by world task held.0 ≡ true)
      → is_overtaken nat_eq part task progress ≡ is_overtaken nat_eq world task progress
  overtaken_alike progress seen =
      ap (λ n. is_stale progress.task_change task.change || is_stale progress.namespace_change n
      || list_any (stale_in part) progress.filesystems) namespace_same ∙ by _ _ refl refl
    where
      stale_in : World ℕ → ℕ × ℕ → Bool
      stale_in w held = is_stale held.1 (filesystem_change_of nat_eq w held.0)

      by : (a b : Bool) → is_stale progress.task_change task.change ≡ a
          → is_stale progress.namespace_change (namespace_change_of nat_eq world task.namespace) ≡ b
          → (a || b || list_any (stale_in part) progress.filesystems)
          ≡ (a || b || list_any (stale_in world) progress.filesystems)
      by true b e f = refl
      by false true e f = refl
      by false false e f = any_same _ _ _ (λ held m. ap (is_stale held.1)
          (filesystem_same _ (seen_used _ (seen (record { task_change = e; namespace_change = f }) held m))))
