-- The rules of calls on open files.
use Rattle.std.specs.Prelude.{Bool, List, Option, Result, [], false, find, if◌then◌else◌, length, nat_le, nat_lt, not, ok_or, option_to_list, true, ℕ, ◌&&◌, ◌+◌, ◌==◌, ◌∷◌}
use Rattle.vt_spec.specs.Errors.{Rules, denial}
use Rattle.vt_spec.specs.Language.Calls.{Access, opens_for_reading, opens_for_writing}
use Rattle.vt_spec.specs.Language.Changes.Change.{CopyUp}
use Rattle.vt_spec.specs.Machine.Filesystems.{lies_only_in_lowers}
use Rattle.vt_spec.specs.Machine.Locked.{overlay_or}
use Rattle.vt_spec.specs.Machine.Looks.{Looks, is_directory_at}
use Rattle.vt_spec.specs.Machine.Mounts.{Location}
use Rattle.vt_spec.specs.Machine.Rules.Conditions.{has_no_upper, is_read_only, kind_at, may_not, mounter_may_not}
use Rattle.vt_spec.specs.Language.Limits.{largest_file, most_descriptors}
use Rattle.vt_spec.specs.Machine.Walking.{Place, is_special}
use Rattle.vt_spec.specs.Machine.World.{Descriptor, Task}
use Rattle.vt_spec.specs.PathText.{is_empty}
use Rattle.vt_spec.specs.Rights.{read_right, write_right}
use Rattle.vt_spec.specs.declared.attributes.Kind.TheVariants.{White}
use Rattle.vt_spec.specs.declared.errors.Deny.{Deny}
use Rattle.vt_spec.specs.declared.errors.Rule.TheVariants.{B1, C1, E1, E2, E6, E9, F1, F2, L1, S3, S4}

-- the rights that an access mode asks for, as one request: open(2)
abbrev pub access_rights : Access → ℕ
access_rights access =
    (if opens_for_reading access then read_right else 0) + (if opens_for_writing access then write_right else 0)

module _ {N : Type 0} where
  -- the task's descriptor of this number
  abbrev pub descriptor_numbered : Task N → ℕ → Option (Descriptor N)
  descriptor_numbered task number = find (λ descriptor. number == descriptor.number) task.descriptors

  -- EMFILE of open(2)
  abbrev pub descriptor_rules : Task N → Rules
  descriptor_rules task = (nat_le most_descriptors (length task.descriptors), S3) ∷ []

  -- the last word of open(2) with O_EXCL, before it is asked whether there is such a name: EEXIST, and EISDIR behind a
  -- slash
  abbrev pub exclusive_word_rules : Place N → Rules
  exclusive_word_rules place =
      (is_special place.last, E1)
      ∷ (place.slash, E2)
      ∷ []

  -- EBADF of pread(2) and pwrite(2): no such descriptor, or not opened for this
  abbrev pub descriptor_at : Task N → ℕ → (Descriptor N → Bool) → Result (Descriptor N) Deny
  descriptor_at task number fits = ok_or (find fits (option_to_list (descriptor_numbered task number))) (denial S4)

  -- an object that lies only in lower layers is copied up when it is opened for writing: overlayfs, "upper and lower"
  abbrev pub is_copied_up : Looks N → Location N → Access → Bool
  is_copied_up looks file access =
      opens_for_writing access && overlay_or false (λ overlay. lies_only_in_lowers overlay file.node)
      (looks.overlay file)

  -- B1 and B2 of that copy-up (profile; overlayfs, "permission model")
  abbrev pub copy_rules : (copied : Bool) → Looks N → Location N → Rules
  copy_rules true looks file = looks.mounter_rules file (CopyUp file.node)
  copy_rules false looks file = []

  -- open(2) of a file that is there: EISDIR, for reading too (profile), ENXIO, EROFS, EACCES
  abbrev pub open_rules : Looks N → Task N → Location N → Access → Rules
  open_rules looks task file access =
      (is_directory_at looks file, E2)
      ∷ (kind_at looks file White, E9)
      ∷ (opens_for_writing access && is_read_only looks file, F1)
      ∷ (opens_for_writing access && has_no_upper looks file, F2)
      ∷ (opens_for_writing access && looks.is_locked file, L1)
      ∷ (may_not looks task file (access_rights access), C1)
      ∷ (mounter_may_not looks file (access_rights access), B1)
      ∷ copy_rules (is_copied_up looks file access) looks file

  -- pwrite(2): EFBIG; and a locked layer refuses a descriptor that was opened before (profile)
  abbrev pub pwrite_rules : Looks N → Location N → ℕ → List ℕ → Rules
  pwrite_rules looks file offset bytes =
      (not (is_empty bytes) && nat_lt largest_file (offset + length bytes), E6)
      ∷ (looks.is_locked file, L1)
      ∷ []
