-- What calls ask of files is asked alike in two worlds that show them alike.
use Rattle.std.proofs.Common.{◌≡◌, refl, ap, ◌∙◌, ℕ, Bool, true, [], ◌∷◌, ◌++◌, ◌&&◌, Option, Some, None, Ok, arith, unwrap_or}
use Rattle.vt_spec.proofs.Common.{Access, Judgement, Location, Looks, Node, Place, Rules, Task, ToChange, ToOpen, common_steps, has_no_upper, is_read_only, is_special, make_permit, make_rules, may_not, new_file, object_there, open_new_permit, opens_for_writing, removing, unless, unlink_rules, unnumbered}
use Rattle.vt_laws_members.proofs.Common.{B1, C1, E2, F1, F2, L1, is_directory_at}
use Rattle.vt_spec.specs.declared.attributes.Kind.TheVariants.{White}
use Rattle.vt_spec.specs.declared.errors.Rule.TheVariants.{E9}
use Rattle.vt_spec.specs.Machine.Rules.Conditions.{kind_at, mounter_may_not}
use Rattle.vt_spec.specs.Machine.Rules.Descriptors.{access_rights, copy_rules, is_copied_up, open_rules}
use Rattle.vt_spec.specs.Machine.Rules.Making.{new_word_rules}
use Rattle.vt_laws_members.proofs.judging.Judged.{IsFound, IsPlaced, JudgesAlike}
use Rattle.vt_laws_members.proofs.judging.Masks.{by_mask, masked}

module _ {one other : Looks ℕ} {task : Task ℕ} {own uses : ℕ → Bool} (alike : JudgesAlike one other task own uses) where
  abbrev On : ℕ → Type 0
  On number = own number ≡ true

  -- what is asked of what is reached is the same in both
  pub asked_alike : {R : Type 0} (asked : Looks ℕ → R)
      → ((looks : Looks ℕ) → asked (masked own uses looks) ≡ asked looks) → asked one ≡ asked other
  asked_alike asked covered = by_mask own uses one other alike.rules asked covered

  abbrev made_by : Place ℕ → Node ℕ → Looks ℕ → Judgement ℕ
  made_by place node looks = unless (new_word_rules place ++ make_rules looks task place (unnumbered place node))
      (Ok (make_permit place node))

  pub made_alike : (place : Place ℕ) (node : Node ℕ) → On place.parent.mount
      → made_by place node one ≡ made_by place node other
  made_alike place node on = asked_alike (made_by place node) (λ looks. rw (is_read_only, on) refl)

  pub there_own : (place : Place ℕ) → IsPlaced alike place → On (object_there place).mount
  there_own place at = by place.object at.1
    where
      by : (o : Option (Location ℕ)) → IsFound alike o → On (unwrap_or o place.parent).mount
      by None found = at.0
      by (Some object) found = found object refl

  abbrev unlink_by : Place ℕ → Location ℕ → Looks ℕ → Judgement ℕ
  unlink_by place object looks = unless ((is_special place.last, E2) ∷ unlink_rules looks task place object)
      (Ok (ToChange place.parent (removing place object)))

  pub unlink_alike : (place : Place ℕ) (object : Location ℕ) → On place.parent.mount → On object.mount
      → unlink_by place object one ≡ unlink_by place object other
  unlink_alike place object on there =
      asked_alike (unlink_by place object) (λ looks. rw (is_read_only, there, on) refl)

  -- Open files

  copies_alike : (file : Location ℕ) (access : Access) → On file.mount
      → copy_rules (is_copied_up one file access) one file ≡ copy_rules (is_copied_up other file access) other file
  copies_alike file access on = grind (arith, common_steps)

  -- the rules of an open file, with those of its copy given
  abbrev open_by : Rules → Location ℕ → Access → Rules → Looks ℕ → Judgement ℕ
  open_by words file access copies looks = unless (words ++ ((is_directory_at looks file, E2)
      ∷ (kind_at looks file White, E9) ∷ (opens_for_writing access && is_read_only looks file, F1)
      ∷ (opens_for_writing access && has_no_upper looks file, F2) ∷ (opens_for_writing access && looks.is_locked file, L1)
      ∷ (may_not looks task file (access_rights access), C1) ∷ (mounter_may_not looks file (access_rights access), B1)
      ∷ copies)) (Ok (ToOpen file access))

  pub open_alike : (words : Rules) (file : Location ℕ) (access : Access) → On file.mount
      → Path (Judgement ℕ) (unless (words ++ open_rules one task file access) (Ok (ToOpen file access)))
      (unless (words ++ open_rules other task file access) (Ok (ToOpen file access)))
  open_alike words file access on =
      asked_alike (open_by words file access (copy_rules (is_copied_up one file access) one file))
      (λ looks. rw (is_read_only, on) refl)
      ∙ ap (λ copies. open_by words file access copies other) (copies_alike file access on)

  abbrev created_by : Rules → Place ℕ → Access → ℕ → Looks ℕ → Judgement ℕ
  created_by words place access mode looks =
      unless (words ++ make_rules looks task place (unnumbered place (new_file task mode [])))
      (Ok (open_new_permit task place access mode))

  pub create_alike : (words : Rules) (place : Place ℕ) (access : Access) (mode : ℕ) → On place.parent.mount
      → created_by words place access mode one ≡ created_by words place access mode other
  create_alike words place access mode on =
      asked_alike (created_by words place access mode) (λ looks. rw (is_read_only, on) refl)
