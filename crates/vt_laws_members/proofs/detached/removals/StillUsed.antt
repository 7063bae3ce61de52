-- Where mounts of theirs go, but not the one of a location, its filesystem is used still, and it is seen as it was.
use Rattle.std.proofs.Common.{arith, ◌≡◌, refl, ap, subst, ◌∙◌, inl, inr, ⊎_elim, ℕ, nat_eq, eqb-true, Bool, true, false, List, [], ◌∷◌, find, map, unwrap_or}
use Rattle.vt_spec.proofs.Common.{Among, Location, Mount, Task, TaskName, World, among-append_left, among-append_right, among-filter, among-flat_map, among-from_flat_map, among-map, any_among, common_steps, filesystem_at, filesystem_numbered, is_among, is_going, is_own_mount, locations, locations_of, members, mount_at, no_mount, own_mounts, part_of, roots_and_directories, used_directly, used_filesystems}
use Rattle.vt_laws_members.proofs.Common.{is_own, used_directly_used}
use Rattle.vt_laws_members.proofs.judging.Common.{IsTheirs, its_mount}
use Rattle.vt_laws_members.proofs.changes.Common.{TheirsGo, all_stay, ended_mount, filesystem_after, group_lost, left_by, part_after, placed_so, shape_kept, world_after}

-- mounts that keep their numbers and filesystems, by their numbers
mapped_filesystem : (f : Mount ℕ → Mount ℕ) → ((m : Mount ℕ) → (f m).number ≡ m.number)
    → ((m : Mount ℕ) → (f m).filesystem ≡ m.filesystem) → (n : ℕ) (list : List (Mount ℕ))
    → (unwrap_or (find (λ (m : Mount ℕ). nat_eq n m.number) (map f list)) (no_mount n)).filesystem
    ≡ (unwrap_or (find (λ (m : Mount ℕ). nat_eq n m.number) list) (no_mount n)).filesystem
mapped_filesystem f number filesystem n [] = refl
mapped_filesystem f number filesystem n (x ∷ rest) =
    grind (arith, common_steps, mapped_filesystem f number filesystem n rest)

module _ {world : World ℕ} {names : List TaskName} {gone : List ℕ} (go : TheirsGo world names gone)
    (location : Location ℕ) where
  abbrev theirs : List (Task ℕ)
  theirs = members world names

  abbrev part : World ℕ
  part = part_of nat_eq world names

  abbrev here : World ℕ
  here = world_after go

  abbrev there : World ℕ
  there = part_after go

  abbrev is_flagged : Bool
  is_flagged = group_lost world gone

  abbrev after : Mount ℕ → Mount ℕ
  after = ended_mount is_flagged (left_by world gone) world gone

  -- the filesystem of the location
  pub seen_here : filesystem_at nat_eq here location ≡ filesystem_at nat_eq world location
  seen_here = ap (filesystem_numbered nat_eq world)
      (mapped_filesystem after (λ m. (shape_kept is_flagged (left_by world gone) world gone m).number)
      (λ m. (shape_kept is_flagged (left_by world gone) world gone m).filesystem) location.mount world.mounts)

  pub seen_there : filesystem_at nat_eq there location ≡ filesystem_at nat_eq part location
  seen_there = ap (filesystem_numbered nat_eq part)
      (mapped_filesystem (ended_mount is_flagged (left_by part gone) part gone)
      (λ m. (shape_kept is_flagged (left_by part gone) part gone m).number)
      (λ m. (shape_kept is_flagged (left_by part gone) part gone m).filesystem) location.mount part.mounts)

  -- it is used, if it is on a mount of theirs that stays
  module _ (on : IsTheirs world names go.is.mounts location.mount)
      (stays : is_own world names theirs on.0 ≡ true → is_going nat_eq gone on.0.number ≡ false) where
    abbrev number : ℕ
    number = (mount_at nat_eq world location).filesystem

    abbrev shown : List ℕ
    shown = map (λ (m : Mount ℕ). m.filesystem) (own_mounts nat_eq here names)

    abbrev placed : List ℕ
    placed = map (λ (l : Location ℕ). (mount_at nat_eq here l).filesystem) (locations theirs)

    of_mount : on.0.filesystem ≡ number
    of_mount = cc (its_mount world names go.is.mounts location.mount on)

    by_mount : is_own world names theirs on.0 ≡ true → Among number (used_directly nat_eq here names)
    by_mount own =
        let own_after : is_own world names theirs (after on.0) ≡ true = ⊎_elim (λ out. cc (out.2, stays own))
        (λ its. cc its.0) (placed_so is_flagged (left_by world gone) world gone on.0) in
        among-append_left shown placed number (subst (λ n. Among n shown)
        ((shape_kept is_flagged (left_by world gone) world gone on.0).filesystem ∙ of_mount)
        (among-map (λ (m : Mount ℕ). m.filesystem) (own_mounts nat_eq here names) (after on.0)
        (among-filter (is_own_mount nat_eq here names) here.mounts (after on.0) (among-map after world.mounts on.0 on.1)
        own_after)))

    by_task : (l : Location ℕ) → Among l (roots_and_directories theirs) → l.mount ≡ on.0.number
        → Among number (used_directly nat_eq here names)
    by_task l m e =
        let task = among-from_flat_map (λ (t : Task ℕ). t.root ∷ t.directory ∷ []) theirs l m in
        among-append_right shown placed number (subst (λ n. Among n placed)
        (cc (filesystem_after (all_stay go is_flagged) on.0 on.1 l e, on.2))
        (among-map (λ (k : Location ℕ). (mount_at nat_eq here k).filesystem) (locations theirs) l
        (among-flat_map locations_of theirs task.0 l task.1 (⊎_elim (λ root. inl root)
        (λ rest. ⊎_elim (λ directory. inr (inl directory)) (λ none. absurd none) rest) task.2))))

    pub still_direct : Among number (used_directly nat_eq here names)
    still_direct = ⊎_elim by_mount (λ stood.
        let at = any_among (λ (l : Location ℕ). nat_eq l.mount on.0.number) (roots_and_directories theirs) stood.1 in
        by_task at.0 at.1 (eqb-true at.0.mount on.0.number at.2)) on.3

    pub still_used : is_among nat_eq number (used_filesystems nat_eq here names) ≡ true
    still_used = used_directly_used here names number still_direct
