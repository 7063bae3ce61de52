-- rmdir(2) and rename(2) are judged alike.
use Rattle.std.proofs.Common.{◌≡◌, refl, sym, ap, ◌∙◌, inl, inr, ℕ, nat_eq, Bool, true, false, ◌||◌, ◌&&◌, not, List, [], ◌∷◌, ◌++◌, Option, Some, None, Ok, option_to_list}
use Rattle.vt_spec.proofs.Common.{Allowed, Judgement, Location, Looks, Place, Rules, Task, ToRemoveDirectory, ToRename, any_from_among, has_no_upper, holds_of, is_mount_point_anywhere, is_mount_point_in, is_one_object, is_read_only, list_any, may_not, moving, name_of, removing, same_object_rules, unless, write_right}
use Rattle.vt_spec.specs.declared.errors.Rule.{Rule}
use Rattle.vt_laws_members.proofs.Common.{B1, C1, C3, E2, E3, E4, E5, F1, F2, L1, O1, P1, P2, is_directory_at, mount_at}
use Rattle.vt_spec.specs.Machine.Rules.Conditions.{is_kept, mounter_may_not}
use Rattle.vt_spec.specs.Machine.Rules.Removing.{changes_parent, is_nonempty, is_stuck, same_filesystem}
use Rattle.vt_laws_members.proofs.judging.Judged.{IsFound, JudgesAlike}
use Rattle.vt_laws_members.proofs.judging.Masks.{by_both, by_mask, masked}

-- P1, as two worlds have to show it alike
abbrev pub PointsAlike : Looks ℕ → Looks ℕ → Task ℕ → (ℕ → Bool) → Type 0
PointsAlike one other task own = (here : Location ℕ) → own here.mount ≡ true
    → is_mount_point_in nat_eq one task.namespace here ≡ is_mount_point_in nat_eq other task.namespace here

-- P1 and O1 of rename(2): of what is not locked, mount points of other namespaces too
pub record RenamesAlike (one other : Looks ℕ) (own : ℕ → Bool) : Type 0 where
  pub anywhere : (here : Location ℕ) → own here.mount ≡ true → one.is_locked here ≡ false
      → is_mount_point_anywhere one here ≡ is_mount_point_anywhere other here
  pub lower : (here : Location ℕ) (name : List ℕ) → own here.mount ≡ true
      → one.has_lower_directory here name ≡ other.has_lower_directory here name

module _ {one other : Looks ℕ} {task : Task ℕ} {own uses : ℕ → Bool} (alike : JudgesAlike one other task own uses)
    (same_points : PointsAlike one other task own) where
  abbrev On : ℕ → Type 0
  On number = own number ≡ true

  abbrev IsFoundAt : Option (Location ℕ) → Type 0
  IsFoundAt = IsFound alike

  -- the rules of rmdir(2), with P1 given
  abbrev rmdir_by : Place ℕ → Location ℕ → Bool → Looks ℕ → Judgement ℕ
  rmdir_by place object point looks = unless ((not (is_directory_at looks object), E3) ∷ (is_nonempty looks object, E4)
      ∷ (is_read_only looks place.parent, F1) ∷ (has_no_upper looks place.parent, F2)
      ∷ (looks.is_locked object || looks.is_locked place.parent, L1) ∷ (point, P1)
      ∷ (may_not looks task place.parent write_right, C1) ∷ (is_kept looks task place.parent object, C3)
      ∷ (mounter_may_not looks place.parent write_right, B1) ∷ looks.mounter_rules place.parent (removing place object))
      (Ok (ToRemoveDirectory place.parent (name_of place.last) object))

  pub rmdir_alike : (place : Place ℕ) (object : Location ℕ) → On place.parent.mount → On object.mount
      → rmdir_by place object (is_mount_point_in nat_eq one task.namespace object) one
      ≡ rmdir_by place object (is_mount_point_in nat_eq other task.namespace object) other
  rmdir_alike place object on there =
      by_mask own uses one other alike.rules
      (rmdir_by place object (is_mount_point_in nat_eq one task.namespace object))
      (λ looks. rw (is_read_only, there, on) refl) ∙ ap (λ b. rmdir_by place object b other) (same_points object there)

  -- Renaming

  stops : (front rest others : Rules) (rule : Rule) (r : Judgement ℕ)
      → unless (front ++ (true, rule) ∷ rest) r ≡ unless (front ++ (true, rule) ∷ others) r
  stops [] rest others rule r = refl
  stops ((true, first) ∷ front) rest others rule r = refl
  stops ((false, first) ∷ front) rest others rule r = stops front rest others rule r

  abbrev rename_front : Place ℕ → Place ℕ → Location ℕ → Option (Location ℕ) → Looks ℕ → Rules
  rename_front from to old o looks = (not (is_directory_at looks old) && holds_of (is_directory_at looks) o, E2)
      ∷ (is_directory_at looks old && holds_of (λ new. not (is_directory_at looks new)) o, E3)
      ∷ (is_directory_at looks old && holds_of (is_nonempty looks) o, E4) ∷ (
        is_directory_at looks old && same_filesystem nat_eq looks old to.parent
            && looks.is_under (mount_at looks old).filesystem old.node to.parent.node,
        E5,
      ) ∷ (is_read_only looks from.parent || is_read_only looks to.parent, F1)
      ∷ (has_no_upper looks from.parent || has_no_upper looks to.parent, F2) ∷ []

  abbrev rename_rest : Place ℕ → Place ℕ → Location ℕ → Option (Location ℕ) → (point stuck : Bool) → Looks ℕ → Rules
  rename_rest from to old o point stuck looks = (point, P1) ∷ (not (nat_eq from.parent.mount to.parent.mount), P2)
      ∷ (may_not looks task from.parent write_right || may_not looks task to.parent write_right, C1)
      ∷ (changes_parent nat_eq looks from to old && may_not looks task old write_right, C1)
      ∷ (is_kept looks task from.parent old || holds_of (is_kept looks task to.parent) o, C3) ∷ (stuck, O1)
      ∷ (mounter_may_not looks from.parent write_right || mounter_may_not looks to.parent write_right, B1)
      ∷ (changes_parent nat_eq looks from to old && mounter_may_not looks old write_right, B1)
      ∷ looks.mounter_rules from.parent (moving from to old)

  -- the rules of rename(2), with P1 and O1 given
  abbrev rename_by : Place ℕ → Place ℕ → Location ℕ → Option (Location ℕ) → (point stuck : Bool) → Looks ℕ → Judgement ℕ
  rename_by from to old o point stuck looks = unless (rename_front from to old o looks
      ++ (list_any looks.is_locked (from.parent ∷ to.parent ∷ old ∷ option_to_list o), L1)
      ∷ rename_rest from to old o point stuck looks)
      (Ok (ToRename from.parent (name_of from.last) to.parent (name_of to.last) old o))

  abbrev point_by : Looks ℕ → Location ℕ → Option (Location ℕ) → Bool
  point_by looks old o = is_mount_point_anywhere looks old || holds_of (is_mount_point_in nat_eq looks task.namespace) o

  module _ (renames : RenamesAlike one other own) (from to : Place ℕ) (old : Location ℕ)
      (on_from : On from.parent.mount) (on_to : On to.parent.mount) (on_old : On old.mount) where
    used_there : uses (other.mount old.mount).filesystem ≡ true
    used_there = cc (alike.rules.mount old.mount on_old, alike.seen old.mount on_old)

    covered : (o : Option (Location ℕ)) → IsFoundAt o → (point stuck : Bool) (looks : Looks ℕ)
        → uses (looks.mount old.mount).filesystem ≡ true
        → rename_by from to old o point stuck (masked own uses looks) ≡ rename_by from to old o point stuck looks
    covered None found point stuck looks used = rw (is_read_only, on_from, on_to, on_old, used) refl
    covered (Some new) found point stuck looks used =
        let on_new : own new.mount ≡ true = found new refl in
        rw (is_read_only, on_from, on_to, on_old, on_new, used) refl

    points : (o : Option (Location ℕ)) → IsFoundAt o → holds_of (is_mount_point_in nat_eq one task.namespace) o
        ≡ holds_of (is_mount_point_in nat_eq other task.namespace) o
    points None found = refl
    points (Some new) found = same_points new (found new refl)

    by_lock : (o : Option (Location ℕ)) → IsFoundAt o → (stuck b : Bool) → one.is_locked old ≡ b
        → rename_by from to old o (point_by one old o) stuck other
        ≡ rename_by from to old o (point_by other old o) stuck other
    by_lock o found stuck true e =
        let lock : list_any other.is_locked (from.parent ∷ to.parent ∷ old ∷ option_to_list o) ≡ true = any_from_among
        other.is_locked (from.parent ∷ to.parent ∷ old ∷ option_to_list o) old (inr (inr (inl refl)))
        (sym (alike.rules.locked old on_old) ∙ e) in
        cc (stops (rename_front from to old o other) (rename_rest from to old o (point_by one old o) stuck other)
        (rename_rest from to old o (point_by other old o) stuck other) L1
        (Ok (ToRename from.parent (name_of from.last) to.parent (name_of to.last) old o)))
    by_lock o found stuck false e = cc (renames.anywhere old on_old e, points o found)

    stuck_same : is_stuck one from old ≡ is_stuck other from old
    stuck_same = cc (alike.rules.node old on_old, renames.lower from.parent (name_of from.last) on_from)

    pub rename_alike : (o : Option (Location ℕ)) → IsFoundAt o
        → rename_by from to old o (point_by one old o) (is_stuck one from old) one
        ≡ rename_by from to old o (point_by other old o) (is_stuck other from old) other
    rename_alike o found =
        by_both own uses one other alike.rules (rename_by from to old o (point_by one old o) (is_stuck one from old))
        (covered o found (point_by one old o) (is_stuck one from old) one (alike.seen old.mount on_old))
        (covered o found (point_by one old o) (is_stuck one from old) other used_there)
        ∙ by_lock o found (is_stuck one from old) (one.is_locked old) refl
        ∙ ap (λ b. rename_by from to old o (point_by other old o) b other) stuck_same

    abbrev nothing_by : Looks ℕ → Judgement ℕ
    nothing_by looks = unless (same_object_rules nat_eq looks from to) (Ok Allowed)

    pub nothing_alike : nothing_by one ≡ nothing_by other
    nothing_alike = by_mask own uses one other alike.rules nothing_by (λ looks. rw (is_read_only, on_from, on_to) refl)

    pub one_object_alike : (o : Option (Location ℕ)) → IsFoundAt o
        → is_one_object nat_eq one old o ≡ is_one_object nat_eq other old o
    one_object_alike None found = refl
    one_object_alike (Some new) found = cc (alike.rules.mount old.mount on_old, alike.rules.mount new.mount (found new refl))
