-- Which numbers a world has after a permit: those that it had, those that the permit names, and those that were handed
-- in.
use Rattle.std.specs.Prelude.{Bool, Some, option_map, false, true, ℕ, ◌&&◌, ◌≡◌}
use Rattle.vt_laws_rules.specs.Numbers.{IsSuppliedFrom, KeepsTo, location_named, node_named, none_or}
use Rattle.vt_laws_worlds.specs.Permits.Left.{left_by}
use Rattle.vt_spec.specs.Language.Changes.{Change}
use Rattle.vt_spec.specs.Language.Changes.Change.{AddName, CopyUp, Make, Move, Remove, SetAttr, SetBytes, SetMark}
use Rattle.vt_spec.specs.Lists.{Fresh}
use Rattle.vt_spec.specs.Machine.Permits.{Permit}
use Rattle.vt_spec.specs.Machine.Permits.Permit.{Allowed, ToBind, ToChange, ToClose, ToEnterNamespace, ToExit, ToFork, ToList, ToListMounts, ToMake, ToMountOverlay, ToMountPlain, ToMove, ToOpen, ToOpenNew, ToPivot, ToRead, ToReadPart, ToRemoveDirectory, ToRename, ToSetCredentials, ToSetDirectory, ToSetFlags, ToSetRoot, ToSetType, ToSetUmask, ToStat, ToUnmount, ToUnmountLazily, ToUnshare, ToWritePart}
use Rattle.vt_spec.specs.Machine.Renaming.{renamed_location, renamed_node, renamed_overlay}
use Rattle.vt_spec.specs.Machine.SameWorlds.{SameWorlds}
use Rattle.vt_spec.specs.Machine.World.{Task, World, task_called}
use Rattle.vt_laws_worlds.specs.Worlds.Kept.{IsPlain}
use Rattle.vt_laws_rules.specs.Renaming.{renamed_change}

-- a permit with other numbers
module _ {N M : Type 0} (there : N → M) (back : M → N) where
  abbrev pub renamed_permit : Permit N → Permit M
  renamed_permit Allowed = Allowed
  renamed_permit (ToList directory) = ToList (renamed_location there back directory)
  renamed_permit (ToStat object) = ToStat (renamed_location there back object)
  renamed_permit (ToRead file) = ToRead (renamed_location there back file)
  renamed_permit (ToReadPart file offset size) = ToReadPart (renamed_location there back file) offset size
  renamed_permit (ToChange location change) =
      ToChange (renamed_location there back location) (renamed_change there back change)
  renamed_permit (ToMake directory name node) =
      ToMake (renamed_location there back directory) name (renamed_node there back node)
  renamed_permit (ToRemoveDirectory parent name directory) =
      ToRemoveDirectory (renamed_location there back parent) name (renamed_location there back directory)
  renamed_permit (ToRename from old to new object replaced) =
      ToRename (renamed_location there back from) old (renamed_location there back to) new
      (renamed_location there back object) (option_map (renamed_location there back) replaced)
  renamed_permit (ToOpen file access) = ToOpen (renamed_location there back file) access
  renamed_permit (ToOpenNew directory name node access) =
      ToOpenNew (renamed_location there back directory) name (renamed_node there back node) access
  renamed_permit (ToWritePart file offset bytes) = ToWritePart (renamed_location there back file) offset bytes
  renamed_permit (ToClose descriptor) = ToClose descriptor
  renamed_permit (ToSetDirectory directory) = ToSetDirectory (renamed_location there back directory)
  renamed_permit (ToSetRoot root) = ToSetRoot (renamed_location there back root)
  renamed_permit (ToSetUmask umask) = ToSetUmask umask
  renamed_permit (ToSetCredentials credentials) = ToSetCredentials credentials
  renamed_permit (ToFork credentials) = ToFork credentials
  renamed_permit ToExit = ToExit
  renamed_permit ToUnshare = ToUnshare
  renamed_permit (ToEnterNamespace namespace) = ToEnterNamespace (there namespace)
  renamed_permit (ToMountPlain place flags) = ToMountPlain (renamed_location there back place) flags
  renamed_permit (ToMountOverlay place overlay flags) =
      ToMountOverlay (renamed_location there back place) (renamed_overlay there back overlay) flags
  renamed_permit (ToBind source place recursive) =
      ToBind (renamed_location there back source) (renamed_location there back place) recursive
  renamed_permit (ToMove mount place) = ToMove (there mount) (renamed_location there back place)
  renamed_permit (ToUnmount mount) = ToUnmount (there mount)
  renamed_permit (ToUnmountLazily mount) = ToUnmountLazily (there mount)
  renamed_permit (ToSetFlags mount flags) = ToSetFlags (there mount) flags
  renamed_permit (ToSetType mount word recursive) = ToSetType (there mount) word recursive
  renamed_permit (ToPivot new put) = ToPivot (there new) (renamed_location there back put)
  renamed_permit ToListMounts = ToListMounts

module _ (named : ℕ → Bool) where
  abbrev pub change_named : Change ℕ → Bool
  change_named (Make directory name number node) = named directory && named number && node_named named node
  change_named (AddName directory name object) = named directory && named object
  change_named (Remove directory name object) = named directory && named object
  change_named (Move from old to new object) = named from && named to && named object
  change_named (SetBytes file bytes) = named file
  change_named (SetAttr object attr) = named object
  change_named (SetMark directory opaque) = named directory
  change_named (CopyUp object) = named object

  -- each number that a permit has is one of these; false of the mount of an overlay
  abbrev pub permit_named : Permit ℕ → Bool
  permit_named Allowed = true
  permit_named (ToList directory) = location_named named directory
  permit_named (ToStat object) = location_named named object
  permit_named (ToRead file) = location_named named file
  permit_named (ToReadPart file offset size) = location_named named file
  permit_named (ToChange location change) = location_named named location && change_named change
  permit_named (ToMake directory name node) = location_named named directory && node_named named node
  permit_named (ToRemoveDirectory parent name directory) =
      location_named named parent && location_named named directory
  permit_named (ToRename from old to new object replaced) =
      location_named named from && location_named named to && location_named named object
      && none_or (location_named named) replaced
  permit_named (ToOpen file access) = location_named named file
  permit_named (ToOpenNew directory name node access) = location_named named directory && node_named named node
  permit_named (ToWritePart file offset bytes) = location_named named file
  permit_named (ToClose descriptor) = true
  permit_named (ToSetDirectory directory) = location_named named directory
  permit_named (ToSetRoot root) = location_named named root
  permit_named (ToSetUmask umask) = true
  permit_named (ToSetCredentials credentials) = true
  permit_named (ToFork credentials) = true
  permit_named ToExit = true
  permit_named ToUnshare = true
  permit_named (ToEnterNamespace namespace) = named namespace
  permit_named (ToMountPlain place flags) = location_named named place
  permit_named (ToMountOverlay place overlay flags) = false
  permit_named (ToBind source place recursive) = location_named named source && location_named named place
  permit_named (ToMove mount place) = named mount && location_named named place
  permit_named (ToUnmount mount) = named mount
  permit_named (ToUnmountLazily mount) = named mount
  permit_named (ToSetFlags mount flags) = named mount
  permit_named (ToSetType mount word recursive) = named mount
  permit_named (ToPivot new put) = named new && location_named named put
  permit_named ToListMounts = true

-- A world that keeps to some numbers, a supply from them and a permit of them: what the permit leaves keeps to them,
abbrev pub PermitsKeepToNumbers : Type 0
PermitsKeepToNumbers =
    (named : ℕ → Bool) (fresh : Fresh ℕ) (world : World ℕ) (task : Task ℕ) (permit : Permit ℕ)
    → task_called world task.name ≡ Some task → KeepsTo named world → IsSuppliedFrom named fresh
    → permit_named named permit ≡ true → KeepsTo named (left_by fresh world task permit)

-- and so does each world of plain filesystems that is the same.
abbrev pub SameKeepsToNumbersToo : Type 0
SameKeepsToNumbersToo =
    (named : ℕ → Bool) (fresh : Fresh ℕ) (world : World ℕ) (task : Task ℕ) (permit : Permit ℕ) (other : World ℕ)
    → task_called world task.name ≡ Some task → KeepsTo named world → IsSuppliedFrom named fresh
    → permit_named named permit ≡ true → SameWorlds (left_by fresh world task permit) other → IsPlain other
    → KeepsTo named other
