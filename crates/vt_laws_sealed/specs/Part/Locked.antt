-- What is wholly locked for a set of tasks, and what others may change: overlayfs, "changes to underlying filesystems".
use Rattle.std.specs.Prelude.{List, None, false, is_some, nat_eq, true, ℕ, ◌≡◌}
use Rattle.std.specs.List.{list_any}
use Rattle.vt_spec.specs.Language.Calls.{TaskName}
use Rattle.vt_spec.specs.Language.Changes.{Change}
use Rattle.vt_spec.specs.Lists.{Fresh, is_among}
use Rattle.vt_spec.specs.Machine.Filesystems.{with_change}
use Rattle.vt_spec.specs.Machine.Locked.{is_locked, is_locked_at}
use Rattle.vt_spec.specs.Machine.Mounts.{Location}
use Rattle.vt_spec.specs.Machine.Sealed.{no_outsider_on, own_lowers, part_of, sealed, used_filesystems, wholly_locked}
use Rattle.vt_spec.specs.Machine.World.{World, filesystem_at, filesystem_numbered, mount_at, node_at}
use Rattle.vt_laws_mounts.specs.LettingGo.InUse.{IsListedTree}

-- Each inode of a filesystem that is wholly locked for some tasks is locked.
abbrev pub WhollyLockedIsLocked : Type 0
WhollyLockedIsLocked =
    (world : World ℕ) (names : List TaskName) (number object : ℕ)
    → IsListedTree (filesystem_numbered nat_eq world number).files
    → wholly_locked nat_eq world names number ≡ true
    → is_some ((filesystem_numbered nat_eq world number).files.tree.node object) ≡ true
    → is_locked nat_eq world number object ≡ true

-- a location at which others may change something: something is there that is not locked, in a tree on which another
-- task has a mount or a location
pub record IsOthersToChange (world : World ℕ) (names : List TaskName) (location : Location ℕ) : Type 0 where
  pub listed : IsListedTree (filesystem_at nat_eq world location).files
  pub outsiders : no_outsider_on nat_eq world names (mount_at nat_eq world location).filesystem ≡ false
  pub there : is_some (node_at nat_eq world location) ≡ true
  pub free : is_locked_at nat_eq world location ≡ false

-- Such a location is in no filesystem that a sealed set uses,
abbrev pub OthersChangeWhatIsNotUsed : Type 0
OthersChangeWhatIsNotUsed =
    (world : World ℕ) (names : List TaskName) (location : Location ℕ) → sealed nat_eq world names ≡ true
    → IsOthersToChange world names location
    → is_among nat_eq (mount_at nat_eq world location).filesystem (used_filesystems nat_eq world names) ≡ false

-- and a change there, of a plain filesystem without a lower layer of theirs, leaves their part.
abbrev pub OthersChangesLeaveThePart : Type 0
OthersChangesLeaveThePart =
    (world : World ℕ) (names : List TaskName) (location : Location ℕ) (fresh : Fresh ℕ) (change : Change ℕ)
    → sealed nat_eq world names ≡ true → IsOthersToChange world names location
    → (filesystem_at nat_eq world location).overlay ≡ None
    → list_any (λ layer. nat_eq (mount_at nat_eq world location).filesystem layer.filesystem)
    (own_lowers nat_eq world names) ≡ false
    → part_of nat_eq (with_change nat_eq fresh world location change) names ≡ part_of nat_eq world names
