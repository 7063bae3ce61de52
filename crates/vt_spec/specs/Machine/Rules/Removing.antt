-- The rules of calls that remove and rename.
use Rattle.std.specs.List.{list_any}
use Rattle.std.specs.Prelude.{Bool, List, None, Option, Result, Some, [], false, not, option_to_list, unwrap_or, ℕ, ◌&&◌, ◌||◌, ◌∷◌}
use Rattle.vt_spec.specs.Errors.{Rules}
use Rattle.vt_spec.specs.Language.Changes.{Change}
use Rattle.vt_spec.specs.Language.Changes.Change.{Move, Remove}
use Rattle.vt_spec.specs.Lists.{holds_of, is_empty_list}
use Rattle.vt_spec.specs.Machine.Looks.{Looks, is_directory_at, mount_at}
use Rattle.vt_spec.specs.Machine.Mounts.{Location, same_location}
use Rattle.vt_spec.specs.Machine.Rules.Conditions.{has_no_upper, is_kept, is_mount_point_anywhere, is_mount_point_in, is_read_only, may_not, mounter_may_not}
use Rattle.vt_spec.specs.Machine.Walking.{Place, Stop, is_dot, is_dot_dot, is_no_word, is_special, name_of, new_walk, then_walk, walk_unless}
use Rattle.vt_spec.specs.Machine.World.{Task}
use Rattle.vt_spec.specs.Rights.{write_right}
use Rattle.vt_spec.specs.Tree.{entries_in}
use Rattle.vt_spec.specs.declared.errors.Rule.TheVariants.{B1, C1, C3, E2, E3, E4, E5, F1, F2, L1, O1, P1, P2, W3}

module _ {N : Type 0} where
  -- the change by which a name is removed: unlink(2), rmdir(2)
  abbrev pub removing : Place N → Location N → Change N
  removing place object = Remove place.parent.node (name_of place.last) object.node

  -- the object at a place where one exists
  abbrev pub object_there : Place N → Location N
  object_there place = unwrap_or place.object place.parent

  -- rmdir(2): a last `.` is EINVAL, `..` ENOTEMPTY, and the root directory EBUSY
  abbrev pub rmdir_word_rules : Place N → Rules
  rmdir_word_rules place =
      (is_dot_dot place.last, E4)
      ∷ (is_dot place.last, E5)
      ∷ (is_no_word place.last, P1)
      ∷ []

  -- P1: the last word of either path of a rename names no entry: rename(2), EBUSY
  abbrev pub old_word_rules : Place N → Rules
  old_word_rules place = (is_special place.last, P1) ∷ []

  -- the change by which an object gets another name: rename(2)
  abbrev pub moving : Place N → Place N → Location N → Change N
  moving from to old = Move from.parent.node (name_of from.last) to.parent.node (name_of to.last) old.node

  -- unlink(2): EISDIR, EROFS, EACCES, EPERM
  abbrev pub unlink_rules : Looks N → Task N → Place N → Location N → Rules
  unlink_rules looks task place object =
      (is_directory_at looks object, E2)
      ∷ (is_read_only looks place.parent, F1)
      ∷ (has_no_upper looks place.parent, F2)
      ∷ (looks.is_locked object || looks.is_locked place.parent, L1)
      ∷ (may_not looks task place.parent write_right, C1)
      ∷ (is_kept looks task place.parent object, C3)
      ∷ (mounter_may_not looks place.parent write_right, B1)
      ∷ looks.mounter_rules place.parent (removing place object)

  -- the directory is not empty
  abbrev pub is_nonempty : Looks N → Location N → Bool
  is_nonempty looks directory = not (is_empty_list (entries_in (looks.node directory)))

  -- O1: a directory that a lower layer has at this name too: overlayfs, "renaming directories"
  abbrev pub is_stuck : Looks N → Place N → Location N → Bool
  is_stuck looks from old = is_directory_at looks old && looks.has_lower_directory from.parent (name_of from.last)

module _ {N : Type 0} (eq : N → N → Bool) where
  -- rmdir(2): ENOTDIR, ENOTEMPTY, EROFS, EBUSY, EACCES, EPERM
  abbrev pub rmdir_rules : Looks N → Task N → Place N → Location N → Rules
  rmdir_rules looks task place object =
      (not (is_directory_at looks object), E3)
      ∷ (is_nonempty looks object, E4)
      ∷ (is_read_only looks place.parent, F1)
      ∷ (has_no_upper looks place.parent, F2)
      ∷ (looks.is_locked object || looks.is_locked place.parent, L1)
      ∷ (is_mount_point_in eq looks task.namespace object, P1)
      ∷ (may_not looks task place.parent write_right, C1)
      ∷ (is_kept looks task place.parent object, C3)
      ∷ (mounter_may_not looks place.parent write_right, B1)
      ∷ looks.mounter_rules place.parent (removing place object)

  -- the second path of a rename: a slash behind it asks that the old object is a directory
  abbrev pub rename_new_walk : Looks N → Task N → List ℕ → Bool → Result (Place N) (Stop N)
  rename_new_walk looks task path old_is_directory =
      then_walk (new_walk eq looks task path) (λ place.
      walk_unless place.steps ((place.slash && not old_is_directory, W3) ∷ []) place)

  -- two locations are in one filesystem
  abbrev pub same_filesystem : Looks N → Location N → Location N → Bool
  same_filesystem looks a b = eq (mount_at looks a).filesystem (mount_at looks b).filesystem

  -- the second location, if there is one, has the object of the first
  abbrev pub is_one_object : Looks N → Location N → Option (Location N) → Bool
  is_one_object looks old None = false
  is_one_object looks old (Some new) = same_filesystem looks old new && eq old.node new.node

  -- both names lead to one object: nothing is done: rename(2)
  abbrev pub same_object_rules : Looks N → Place N → Place N → Rules
  same_object_rules looks from to =
      (is_read_only looks from.parent || is_read_only looks to.parent, F1)
      ∷ (has_no_upper looks from.parent || has_no_upper looks to.parent, F2)
      ∷ (not (eq from.parent.mount to.parent.mount), P2)
      ∷ []

  -- a directory gets another parent: rename(2), EACCES
  abbrev pub changes_parent : Looks N → Place N → Place N → Location N → Bool
  changes_parent looks from to old = is_directory_at looks old && not (same_location eq from.parent to.parent)

  -- rename(2): EISDIR, ENOTDIR, ENOTEMPTY, EINVAL, EROFS, EBUSY, EXDEV, EACCES, EPERM
  abbrev pub rename_rules : Looks N → Task N → Place N → Place N → Location N → Rules
  rename_rules looks task from to old =
      (not (is_directory_at looks old) && holds_of (is_directory_at looks) to.object, E2)
      ∷ (is_directory_at looks old && holds_of (λ new. not (is_directory_at looks new)) to.object, E3)
      ∷ (is_directory_at looks old && holds_of (is_nonempty looks) to.object, E4)
      ∷ (
        is_directory_at looks old && same_filesystem looks old to.parent
            && looks.is_under (mount_at looks old).filesystem old.node to.parent.node,
        E5,
      )
      ∷ (is_read_only looks from.parent || is_read_only looks to.parent, F1)
      ∷ (has_no_upper looks from.parent || has_no_upper looks to.parent, F2)
      ∷ (list_any looks.is_locked (from.parent ∷ to.parent ∷ old ∷ option_to_list to.object), L1)
      ∷ (is_mount_point_anywhere looks old || holds_of (is_mount_point_in eq looks task.namespace) to.object, P1)
      ∷ (not (eq from.parent.mount to.parent.mount), P2)
      ∷ (may_not looks task from.parent write_right || may_not looks task to.parent write_right, C1)
      ∷ (changes_parent looks from to old && may_not looks task old write_right, C1)
      ∷ (is_kept looks task from.parent old || holds_of (is_kept looks task to.parent) to.object, C3)
      ∷ (is_stuck looks from old, O1)
      ∷ (mounter_may_not looks from.parent write_right || mounter_may_not looks to.parent write_right, B1)
      ∷ (changes_parent looks from to old && mounter_may_not looks old write_right, B1)
      ∷ looks.mounter_rules from.parent (moving from to old)
