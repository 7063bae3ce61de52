-- A change of a mount's flags, and of the root mount, are judged alike.
use Rattle.std.proofs.Common.{◌≡◌, refl, ◌∙◌, ℕ, nat_eq, Bool, true, false, not, [], ◌∷◌, Ok, ◌||◌, ◌&&◌}
use Rattle.vt_spec.proofs.Common.{Judgement, Location, Looks, MountFlags, Task, ToPivot, ToSetFlags, has_shared_parent, is_elsewhere, is_no_root, is_on_descendant, is_shared, lies_under_location, list_any, unless}
use Rattle.vt_laws_members.proofs.Common.{M11, M12, M2, M7, M8, mount_at}
use Rattle.vt_laws_members.proofs.judging.Judged.{JudgesAlike}
use Rattle.vt_laws_members.proofs.judging.Masks.{by_mask}

-- what these ask for besides: descriptors through a mount of the task's namespace, and mounts below a location
pub record ParentsAlike (one other : Looks ℕ) (task : Task ℕ) (own : ℕ → Bool) : Type 0 where
  pub written : (here : Location ℕ) → own here.mount ≡ true → is_elsewhere nat_eq one task here ≡ false
      → one.is_written_through here.mount ≡ other.is_written_through here.mount
  pub parent : (here : Location ℕ) → own here.mount ≡ true → has_shared_parent one here ≡ has_shared_parent other here
  pub below : (top here : Location ℕ) → own top.mount ≡ true → own here.mount ≡ true
      → lies_under_location nat_eq one top here ≡ lies_under_location nat_eq other top here
  pub descends : (mount : ℕ) (here : Location ℕ) → own here.mount ≡ true
      → is_on_descendant nat_eq one mount here ≡ is_on_descendant nat_eq other mount here

module _ {one other : Looks ℕ} {task : Task ℕ} {own : ℕ → Bool} (uses : ℕ → Bool)
    (alike : JudgesAlike one other task own uses) (parents : ParentsAlike one other task own) where
  abbrev On : ℕ → Type 0
  On number = own number ≡ true

  -- the rules of a change of flags, with whether a file is open for writing through the mount
  abbrev flags_by : MountFlags → Location ℕ → Bool → Looks ℕ → Judgement ℕ
  flags_by flags here written looks = unless ((is_elsewhere nat_eq looks task here, M2)
      ∷ (is_no_root nat_eq looks here, M7) ∷ (flags.read_only && written, M8) ∷ []) (Ok (ToSetFlags here.mount flags))

  by_namespace : (flags : MountFlags) (here : Location ℕ) → On here.mount → (b : Bool)
      → is_elsewhere nat_eq one task here ≡ b → flags_by flags here (one.is_written_through here.mount) one
      ≡ flags_by flags here (other.is_written_through here.mount) one
  by_namespace flags here on true e = cc (e)
  by_namespace flags here on false e = cc (parents.written here on e)

  pub flags_alike : (flags : MountFlags) (here : Location ℕ) → On here.mount
      → flags_by flags here (one.is_written_through here.mount) one
      ≡ flags_by flags here (other.is_written_through here.mount) other
  flags_alike flags here on = by_namespace flags here on (is_elsewhere nat_eq one task here) refl
      ∙ by_mask own uses one other alike.rules (flags_by flags here (other.is_written_through here.mount))
      (λ looks. rw (is_elsewhere, is_no_root, mount_at, on) refl)

  -- the rules of pivot_root(2), with what they ask of mounts below
  abbrev pivot_by : Location ℕ → Location ℕ → (descends below parent root : Bool) → Looks ℕ → Judgement ℕ
  pivot_by new put descends below parent root looks =
      unless ((list_any (is_elsewhere nat_eq looks task) (task.root ∷ new ∷ put ∷ []), M2)
      ∷ (is_no_root nat_eq looks new || is_no_root nat_eq looks task.root, M7)
      ∷ (nat_eq new.mount task.root.mount || nat_eq put.mount task.root.mount, M11)
      ∷ (not descends || not below || parent || root || is_shared (mount_at looks put).propagation, M12) ∷ [])
      (Ok (ToPivot new.mount put))

  abbrev pivot_of : Looks ℕ → Location ℕ → Location ℕ → Looks ℕ → Judgement ℕ
  pivot_of asked new put looks =
      pivot_by new put (is_on_descendant nat_eq asked task.root.mount new) (lies_under_location nat_eq asked new put)
      (has_shared_parent asked new) (has_shared_parent asked task.root) looks

  pub pivot_alike : (new put : Location ℕ) → On new.mount → On put.mount
      → pivot_of one new put one ≡ pivot_of other new put other
  pivot_alike new put on_new on_put =
      let on_root : own task.root.mount ≡ true = alike.walks.root in
      cc (
        by_mask own uses one other alike.rules (pivot_of one new put)
            (λ looks. rw (is_elsewhere, is_no_root, mount_at, on_root, on_new, on_put) refl),
        parents.descends task.root.mount
            new on_new,
        parents.below new put on_new on_put,
        parents.parent new on_new,
        parents.parent task.root on_root,
      )
