-- On filesystems that a set uses alone, only mounts of its own namespaces stand on directories.
use Rattle.std.proofs.Common.{inl, inr, arith, ◌≡◌, refl, sym, ap, ◌∙◌, ⊎_elim, ℕ, nat_eq, eqb-true, eq-eqb, true, false, true≢false, List, Option, Some, None, not, ◌&&◌}
use Rattle.vt_spec.proofs.Common.{cases_Bool, Among, IsWorld, Location, Mount, Stands, TaskName, World, among-filter, among-from_filter, among_from_all, and_parts, any_among, any_from_among, common_steps, filesystem_at, found_or_none, holds_of, is_own_namespace, is_point, list_any, mount_at, mount_numbered, mounts_on, no_outsider_on, none_is_some, not-true, other_mounts, points_of, used_alone}
use Rattle.vt_laws_members.proofs.Common.{found_itself, namespace_below}

module _ (world : World ℕ) (names : List TaskName) (is : IsWorld nat_eq world) where
  -- a mount on a filesystem that they use alone is of a namespace of theirs
  own_there : (number : ℕ) → used_alone nat_eq world names number ≡ true → (mount : Mount ℕ) → Among mount world.mounts
      → (point : Location ℕ) → mount.mount_point ≡ Some point → (mount_at nat_eq world point).filesystem ≡ number
      → (n : ℕ) → mount.namespace ≡ Some n → is_own_namespace nat_eq world names n ≡ true
  own_there number alone mount m point stands shows n placed = elim (cases_Bool
      (is_own_namespace nat_eq world names n)) [
        | inl own ↦ own
        | inr other ↦ absurd (true≢false
            (sym (any_from_among (λ (y : Mount ℕ). nat_eq number y.filesystem) (other_mounts nat_eq world names)
            (mount_at nat_eq world point)
            (among-filter (λ (y : Mount ℕ). holds_of (λ k. not (is_own_namespace nat_eq world names k)) y.namespace)
            world.mounts (mount_at nat_eq world point) above_there
            (ap (holds_of (λ k. not (is_own_namespace nat_eq world names k))) above_placed ∙ ap not other))
            (eq-eqb number (mount_at nat_eq world point).filesystem (sym shows))) ∙ nobody))
      ]
    where
      itself : mount_numbered nat_eq world mount.number ≡ mount
      itself = found_itself world.mounts is.mounts.one_number mount m

      above_placed : (mount_at nat_eq world point).namespace ≡ Some n
      above_placed = cc (
        namespace_below world mount.number point (among_from_all (λ (y : Mount ℕ). Stands nat_eq world y.number)
            world.mounts is.mounts.standing mount m) (cc itself),
        itself,
        placed,
      )

      above_there : Among (mount_at nat_eq world point) world.mounts
      above_there = ⊎_elim (λ k. k) (λ none. none_is_some n (cc above_placed)) (found_or_none world.mounts point.mount)

      nobody : list_any (λ (y : Mount ℕ). nat_eq number y.filesystem) (other_mounts nat_eq world names) ≡ false
      nobody = not-true _ (and_parts (not (list_any (λ (y : Mount ℕ). nat_eq number y.filesystem)
          (other_mounts nat_eq world names))) _ (and_parts (no_outsider_on nat_eq world names number) _ alone).0).0

  -- of a plain filesystem the points of a directory are its own
  pub plain_points : (directory : Location ℕ) → (filesystem_at nat_eq world directory).overlay ≡ None
      → used_alone nat_eq world names (filesystem_at nat_eq world directory).number ≡ true → (point : ℕ × ℕ)
      → Among point (points_of nat_eq world directory) → used_alone nat_eq world names point.0 ≡ true
  plain_points directory plain alone point m = grind (arith, common_steps)

  module _ (directory : Location ℕ) (alone : (point : ℕ × ℕ) → Among point (points_of nat_eq world directory)
      → used_alone nat_eq world names point.0 ≡ true) where
    pub own_here : (mount : Mount ℕ) → Among mount (mounts_on nat_eq world directory) → (n : ℕ)
        → mount.namespace ≡ Some n → is_own_namespace nat_eq world names n ≡ true
    own_here mount m n placed =
        let from = among-from_filter (λ (x : Mount ℕ). list_any (λ (point : ℕ × ℕ).
        is_point nat_eq world point.0 point.1 x) (points_of nat_eq world directory)) world.mounts mount m in
        let at = any_among (λ (point : ℕ × ℕ). is_point nat_eq world point.0 point.1 mount)
        (points_of nat_eq world directory) from.1 in
        by from.0 at.0 (alone at.0 at.1) mount.mount_point refl at.2
      where
        by : Among mount world.mounts → (at : ℕ × ℕ) → used_alone nat_eq world names at.0 ≡ true
            → (o : Option (Location ℕ)) → mount.mount_point ≡ o
            → holds_of (λ (point : Location ℕ). nat_eq point.node at.1
            && nat_eq (mount_at nat_eq world point).filesystem at.0) o ≡ true
            → is_own_namespace nat_eq world names n ≡ true
        by k at theirs None e h = cc
        by k at theirs (Some point) e h = own_there at.0 theirs mount k point e
            (eqb-true (mount_at nat_eq world point).filesystem at.0
            (and_parts (nat_eq point.node at.1) (nat_eq (mount_at nat_eq world point).filesystem at.0) h).1) n placed
