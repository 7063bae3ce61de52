-- Parts of tables of rules that functions of their own ask.
use Rattle.std.specs.Prelude.{Bool, nat_eq, not, option_to_list, ◌&&◌, ◌||◌, ◌∷◌, [], ℕ}
use Rattle.std.specs.List.{list_any}
use Rattle.vt_spec.specs.declared.errors.Rule.TheVariants.{B1, C1, C3, E2, E3, E4, E5, F1, F2, L1, M2, M4, M5, M6, M7, O1, P1, P2}
use Rattle.vt_spec.specs.Errors.{Rules}
use Rattle.vt_spec.specs.Language.Changes.{Change}
use Rattle.vt_spec.specs.Lists.{holds_of}
use Rattle.vt_spec.specs.Machine.Looks.{Looks, is_directory_at, mount_at}
use Rattle.vt_spec.specs.Machine.Mounts as meant
use Rattle.vt_spec.specs.Machine.Mounts.{is_shared, is_unbindable}
use Rattle.vt_spec.specs.Machine.Rules.Conditions.{has_no_upper, is_elsewhere, is_kept, is_no_root, is_mount_point_anywhere, is_mount_point_in, is_read_only, may_not, mounter_may_not}
use Rattle.vt_spec.specs.Machine.Rules.Mounting.{has_shared_parent}
use Rattle.vt_spec.specs.Machine.Rules.Removing.{changes_parent, is_nonempty, is_stuck, moving, same_filesystem}
use Rattle.vt_spec.specs.Machine.Walking.{Place}
use Rattle.vt_spec.specs.Machine.World.{Task}
use Rattle.vt_spec.specs.Rights.{write_right}

-- the caller's rights where a name is taken away, and then an overlay's mounter's: unlink(2), EACCES and EPERM
abbrev pub remove_rules : Looks ℕ → Task ℕ → meant.Location ℕ → meant.Location ℕ → Change ℕ → Rules
remove_rules looks task directory object change =
    (may_not looks task directory write_right, C1)
    ∷ (is_kept looks task directory object, C3)
    ∷ (mounter_may_not looks directory write_right, B1)
    ∷ looks.mounter_rules directory change

-- what has the new name, and where that is: rename(2), EISDIR, ENOTDIR, ENOTEMPTY, EINVAL
abbrev pub kind_rules : (ℕ → ℕ → Bool) → Looks ℕ → Place ℕ → meant.Location ℕ → Rules
kind_rules eq looks to old =
    (not (is_directory_at looks old) && holds_of (is_directory_at looks) to.object, E2)
    ∷ (is_directory_at looks old && holds_of (λ new. not (is_directory_at looks new)) to.object, E3)
    ∷ (is_directory_at looks old && holds_of (is_nonempty looks) to.object, E4)
    ∷ (
      is_directory_at looks old && same_filesystem eq looks old to.parent
          && looks.is_under (mount_at looks old).filesystem old.node to.parent.node,
      E5,
    )
    ∷ []

-- where the two names are: rename(2), EROFS, EBUSY, EXDEV
abbrev pub way_rules : (ℕ → ℕ → Bool) → Looks ℕ → Task ℕ → Place ℕ → Place ℕ → meant.Location ℕ → Rules
way_rules eq looks task from to old =
    (is_read_only looks from.parent || is_read_only looks to.parent, F1)
    ∷ (has_no_upper looks from.parent || has_no_upper looks to.parent, F2)
    ∷ (list_any looks.is_locked (from.parent ∷ to.parent ∷ old ∷ option_to_list to.object), L1)
    ∷ (is_mount_point_anywhere looks old || holds_of (is_mount_point_in eq looks task.namespace) to.object, P1)
    ∷ (not (eq from.parent.mount to.parent.mount), P2)
    ∷ []

-- the caller's rights where a name changes: rename(2), EACCES, EPERM
abbrev pub right_rules : (ℕ → ℕ → Bool) → Looks ℕ → Task ℕ → Place ℕ → Place ℕ → meant.Location ℕ → Rules
right_rules eq looks task from to old =
    (may_not looks task from.parent write_right || may_not looks task to.parent write_right, C1)
    ∷ (changes_parent eq looks from to old && may_not looks task old write_right, C1)
    ∷ (is_kept looks task from.parent old || holds_of (is_kept looks task to.parent) to.object, C3)
    ∷ []

-- what layers, and the mounter of an overlay, ask of a rename: EXDEV, EACCES, EPERM
abbrev pub layer_rules : (ℕ → ℕ → Bool) → Looks ℕ → Place ℕ → Place ℕ → meant.Location ℕ → Rules
layer_rules eq looks from to old =
    (is_stuck looks from old, O1)
    ∷ (mounter_may_not looks from.parent write_right || mounter_may_not looks to.parent write_right, B1)
    ∷ (changes_parent eq looks from to old && mounter_may_not looks old write_right, B1)
    ∷ looks.mounter_rules from.parent (moving from to old)

-- mount(2) with MS_MOVE: EINVAL, ELOOP
abbrev pub move_table : Looks ℕ → Task ℕ → meant.Location ℕ → meant.Location ℕ → Rules
move_table looks task source place =
    (is_elsewhere nat_eq looks task source || is_elsewhere nat_eq looks task place, M2)
    ∷ (has_shared_parent looks source, M4)
    ∷ (
      is_shared (mount_at looks place).propagation
          && list_any (λ mount. is_unbindable mount.propagation) (looks.mount_tree source.mount),
      M5,
    )
    ∷ (list_any (λ mount. nat_eq mount.number place.mount) (looks.mount_tree source.mount), M6)
    ∷ (is_no_root nat_eq looks source, M7)
    ∷ []
