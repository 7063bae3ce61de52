-- Unmounts and moves of mounts are judged alike.
use Rattle.std.proofs.Common.{◌≡◌, refl, ◌∙◌, ℕ, nat_eq, Bool, true, false, not, List, [], ◌∷◌, Ok, is_some, ◌||◌, ◌&&◌}
use Rattle.vt_spec.proofs.Common.{Judgement, Location, Looks, Mount, Task, ToMove, ToUnmount, has_shared_parent, is_elsewhere, is_no_root, is_shared, is_unbindable, list_any, unless}
use Rattle.vt_laws_members.proofs.Common.{M10, M2, M4, M5, M6, M7, M8, M9, mount_at}
use Rattle.vt_laws_members.proofs.judging.Judged.{JudgesAlike}
use Rattle.vt_laws_members.proofs.judging.JudgedPivots.{ParentsAlike}
use Rattle.vt_laws_members.proofs.judging.Masks.{by_mask}

-- what these ask for besides: whether a mount of the task's namespace is busy, and trees of mounts
pub record TreesAlike (one other : Looks ℕ) (task : Task ℕ) (own : ℕ → Bool) : Type 0 where
  pub busy : (here : Location ℕ) → own here.mount ≡ true → is_elsewhere nat_eq one task here ≡ false
      → one.is_busy here.mount ≡ other.is_busy here.mount
  pub tree : (here : Location ℕ) → own here.mount ≡ true → one.mount_tree here.mount ≡ other.mount_tree here.mount

module _ {one other : Looks ℕ} {task : Task ℕ} {own : ℕ → Bool} (uses : ℕ → Bool)
    (alike : JudgesAlike one other task own uses) (parents : ParentsAlike one other task own)
    (trees : TreesAlike one other task own) where
  abbrev On : ℕ → Type 0
  On number = own number ≡ true

  -- the rules of umount(2), with whether the mount is busy
  abbrev unmount_by : Location ℕ → Bool → Looks ℕ → Judgement ℕ
  unmount_by here busy looks = unless ((is_elsewhere nat_eq looks task here, M2) ∷ (is_no_root nat_eq looks here, M7)
      ∷ (busy, M8) ∷ (not (is_some (mount_at looks here).mount_point), M10) ∷ []) (Ok (ToUnmount here.mount))

  busy_by : (here : Location ℕ) → On here.mount → (b : Bool) → is_elsewhere nat_eq one task here ≡ b
      → unmount_by here (one.is_busy here.mount) one ≡ unmount_by here (other.is_busy here.mount) one
  busy_by here on true e = cc (e)
  busy_by here on false e = cc (trees.busy here on e)

  pub unmount_alike : (here : Location ℕ) → On here.mount
      → unmount_by here (one.is_busy here.mount) one ≡ unmount_by here (other.is_busy here.mount) other
  unmount_alike here on = busy_by here on (is_elsewhere nat_eq one task here) refl
      ∙ by_mask own uses one other alike.rules (unmount_by here (other.is_busy here.mount))
      (λ looks. rw (is_elsewhere, is_no_root, mount_at, on) refl)

  -- the rules of a move, with the tree that moves and whether it has a shared parent
  abbrev move_by : Bool → Location ℕ → Location ℕ → (parent : Bool) → List (Mount ℕ) → Looks ℕ → Judgement ℕ
  move_by overfull from here parent tree looks =
      unless ((is_elsewhere nat_eq looks task from || is_elsewhere nat_eq looks task here, M2) ∷ (parent, M4)
      ∷ (is_shared (mount_at looks here).propagation && list_any (λ mount. is_unbindable mount.propagation) tree, M5)
      ∷ (list_any (λ mount. nat_eq mount.number here.mount) tree, M6) ∷ (is_no_root nat_eq looks from, M7)
      ∷ (overfull, M9) ∷ (not (is_some (mount_at looks from).mount_point), M10) ∷ []) (Ok (ToMove from.mount here))

  abbrev move_of : Bool → Location ℕ → Location ℕ → Looks ℕ → Looks ℕ → Judgement ℕ
  move_of overfull from here asked looks =
      move_by overfull from here (has_shared_parent asked from) (asked.mount_tree from.mount) looks

  pub move_alike : (overfull : Bool) (from here : Location ℕ) → On from.mount → On here.mount
      → move_of overfull from here one one ≡ move_of overfull from here other other
  move_alike overfull from here there on = cc (
    parents.parent from there,
    trees.tree from there,
    by_mask own uses one other alike.rules (move_of overfull from here other)
        (λ looks. rw (is_elsewhere, is_no_root, mount_at, there, on) refl),
  )
