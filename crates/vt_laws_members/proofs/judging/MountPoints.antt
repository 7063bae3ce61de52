-- Which mounts are on what members reach is the same in the part.
use Rattle.std.proofs.Common.{◌≡◌, refl, sym, ◌∙◌, inl, inr, ⊎_elim, ℕ, nat_eq, Bool, true, false, ◌⊎◌, List, [], ◌∷◌, Some, None, ◌||◌, ◌&&◌, eqb-true, arith}
use Rattle.vt_spec.proofs.Common.{Among, IsWorld, Location, Mount, Task, TaskName, World, among-filter, among-filter_map, among-from_filter, among-from_filter_map, among-from_flat_map, any_among, any_from_among, common_steps, holds_of, is_at, is_point, list_any, locations, looks_of, members, mount_at, mounts_on, none_is_some, or_left, or_right, part_of, points_of, roots_and_directories, same_Some, same_truth, seen_by_descriptor, when}
use Rattle.vt_laws_members.proofs.Common.{cases_Option, is_own, keep, kept_how, kept_whole, numbered}
use Rattle.vt_laws_members.specs.Judging.{is_theirs}
use Rattle.vt_laws_members.proofs.judging.Grounds.{IsTheirs, parent_theirs, same_mount, theirs_from}
use Rattle.vt_laws_members.proofs.judging.JudgedRemoving.{PointsAlike}
use Rattle.vt_laws_members.proofs.judging.SeenInPart.{OnTheirs, directory_theirs, filesystem_alike, root_theirs}

module _ (world : World ℕ) (names : List TaskName) (is : IsWorld nat_eq world) where
  abbrev theirs : List (Task ℕ)
  theirs = members world names

  abbrev part : World ℕ
  part = part_of nat_eq world names

  abbrev owns : Mount ℕ → Bool
  owns = is_own world names theirs

  point_same : (mount : Mount ℕ) → Among mount world.mounts → owns mount ≡ true → (filesystem node : ℕ)
      → is_point nat_eq part filesystem node mount ≡ is_point nat_eq world filesystem node mount
  point_same mount m own filesystem node = elim (cases_Option mount.mount_point) [
    | inl e ↦ cc
    | inr its ↦ let below : IsTheirs world names is.mounts its.0.mount = parent_theirs world names is.mounts
        mount.number
        its.0 (mount, m, refl, inl own) (cc (numbered world names is.mounts mount m)) in
        cc (same_mount world names is.mounts its.0.mount below)
  ]
    where
      test : World ℕ → Location ℕ → Bool
      test w point = nat_eq point.node node && nat_eq (mount_at nat_eq w point).filesystem filesystem

  abbrev pub stands_on_one : World ℕ → List (ℕ × ℕ) → Mount ℕ → Bool
  stands_on_one w points mount = list_any (λ (point : ℕ × ℕ). is_point nat_eq w point.0 point.1 mount) points

  all_same : (mount : Mount ℕ) → Among mount world.mounts → owns mount ≡ true → (points : List (ℕ × ℕ))
      → stands_on_one part points mount ≡ stands_on_one world points mount
  all_same mount m own [] = refl
  all_same mount m own (point ∷ points) = cc (point_same mount m own point.0 point.1, all_same mount m own points)

  points_same : (here : Location ℕ) → OnTheirs world names is here
      → points_of nat_eq part here ≡ points_of nat_eq world here
  points_same here own = cc (filesystem_alike world names is here own)

  -- where a root or working directory of theirs is, they get
  stood_theirs : (l : Location ℕ) → Among l (roots_and_directories theirs) → OnTheirs world names is l
  stood_theirs l m =
      let of = among-from_flat_map (λ (t : Task ℕ). t.root ∷ t.directory ∷ []) theirs l m in
      ⊎_elim (λ root. rw root (root_theirs world names is of.0 of.1))
      (λ rest. ⊎_elim (λ directory. rw directory (directory_theirs world names is of.0 of.1)) (λ none. absurd none)
      rest) of.2

  -- a mount of the part is theirs, or detached
  pub part_mount : (x y : Mount ℕ) → Among x world.mounts → keep world names theirs x ≡ Some y
      → (owns y ≡ true) ⊎ (y.namespace ≡ None)
  part_mount x y m e = by (owns x) (is_at nat_eq (roots_and_directories theirs) x) refl refl
    where
      whole : (owns x || is_at nat_eq (roots_and_directories theirs) x) ≡ true → x ≡ y
      whole h = same_Some x y (sym (kept_whole world names theirs x h) ∙ e)

      stub : (c : Bool) → when c (seen_by_descriptor x) ≡ Some y → y.namespace ≡ None
      stub true h = cc (same_Some (seen_by_descriptor x) y h)
      stub false h = none_is_some y h

      by : (a b : Bool) → owns x ≡ a → is_at nat_eq (roots_and_directories theirs) x ≡ b
          → (owns y ≡ true) ⊎ (y.namespace ≡ None)
      by true b f g = inl (cc (whole (or_left (owns x) (is_at nat_eq (roots_and_directories theirs) x) f)))
      by false true f g =
          let same : x ≡ y = whole (or_right (owns x) (is_at nat_eq (roots_and_directories theirs) x) g) in
          let at = any_among (λ (l : Location ℕ). nat_eq l.mount x.number) (roots_and_directories theirs) g in
          let ground = stood_theirs at.0 at.1 in
          let it : ground.0 ≡ x = cc (
            numbered world names is.mounts ground.0 ground.1,
            ground.2,
            eqb-true at.0.mount
                x.number at.2,
            numbered world names is.mounts x m,
          ) in
          ⊎_elim (λ own. inl (cc)) (λ stood. inr (cc stood.0)) ground.3
      by false false f g = inr (stub (is_at nat_eq (locations theirs) x) (cc))

  -- Mounts that pass a test which no detached one passes, where those of the world are theirs
  pub found_alike : (test : Mount ℕ → Bool) → ((mount : Mount ℕ) → mount.namespace ≡ None → test mount ≡ false)
      → (here : Location ℕ) → OnTheirs world names is here
      → ((mount : Mount ℕ) → Among mount world.mounts → stands_on_one world (points_of nat_eq world here) mount ≡ true
      → test mount ≡ true → owns mount ≡ true)
      → list_any test (mounts_on nat_eq world here) ≡ list_any test (mounts_on nat_eq part here)
  found_alike test none here own theirs_all = same_truth _ _ (λ h. let at = any_among test (mounts_on nat_eq world here)
      h in let from = among-from_filter (stands_on_one world (points_of nat_eq world here)) world.mounts at.0 at.1
      in let its : owns at.0 ≡ true = theirs_all at.0 from.0 from.1 at.2 in any_from_among test _ at.0
      (among-filter _ part.mounts at.0 (among-filter_map (keep world names theirs) world.mounts at.0 at.0 from.0
      (kept_whole world names theirs at.0 (or_left _ _ its))) (cc (
        points_same here own,
        all_same at.0 from.0 its
            (points_of nat_eq world here),
      ))) at.2) (λ h. let at = any_among test (mounts_on nat_eq part here) h in let from =
      among-from_filter (stands_on_one part (points_of nat_eq part here)) part.mounts at.0 at.1 in let kept =
      among-from_filter_map (keep world names theirs) world.mounts at.0 from.0 in ⊎_elim
      (λ own. ⊎_elim (λ same. by at.0 at.2 from.1 (rw (← same) kept.1) own) (λ stub. cc (at.2, none at.0 (cc)))
      (kept_how world names theirs kept.0 at.0 kept.2)) (λ detached. cc (at.2, none at.0 detached))
      (part_mount kept.0 at.0 kept.1 kept.2))
    where
      by : (mount : Mount ℕ) → test mount ≡ true → stands_on_one part (points_of nat_eq part here) mount ≡ true
          → Among mount world.mounts → owns mount ≡ true → list_any test (mounts_on nat_eq world here) ≡ true
      by mount passes on m its = any_from_among test _ mount (among-filter _ world.mounts mount m
          (cc (all_same mount m its (points_of nat_eq world here), points_same here own))) passes

  module _ (task : Task ℕ) (member : Among task theirs) where
    pub in_own : (mount : Mount ℕ) → holds_of (nat_eq task.namespace) mount.namespace ≡ true → owns mount ≡ true
    in_own mount h = grind (arith, common_steps, any_from_among)

    pub points_alike : PointsAlike (looks_of nat_eq world) (looks_of nat_eq part) task (is_theirs world names)
    points_alike here e = found_alike (λ mount. holds_of (nat_eq task.namespace) mount.namespace) (λ mount none. cc)
        here (theirs_from world names is.mounts here.mount e) (λ mount m on passes. in_own mount passes)
