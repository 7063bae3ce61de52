-- What is done with a permit: the answer, and the world that the call leaves before the policy's last step, which lets
-- go of what nothing uses and raises change numbers.
use Rattle.std.specs.Prelude.{Bool, List, Option, [], drop, false, length, not, take, true, ℕ}
use Rattle.vt_spec.specs.Machine.Attach.{bound_at, has_too_many, moved_to}
use Rattle.vt_spec.specs.Language.Changes.Change.{Make, Move, Remove}
use Rattle.vt_spec.specs.Machine.Detach.{lazily_unmounted, unmounted, without_mounts_on, without_replaced}
use Rattle.vt_spec.specs.Machine.Filesystems.{changed_at, with_change}
use Rattle.vt_spec.specs.Machine.Listing.{mount_lines}
use Rattle.vt_spec.specs.Lists.{Fresh, evens, odds}
use Rattle.vt_spec.specs.Machine.Mounts.{Location}
use Rattle.vt_spec.specs.Machine.Namespaces.{namespace_entered, namespaces_ended, pivoted, unshared}
use Rattle.vt_spec.specs.Machine.Descriptors.{is_copied_up, opened, pwritten, with_copy, without_descriptor}
use Rattle.vt_spec.specs.Machine.NewMounts.{mounted, overlay_filesystem, plain_filesystem}
use Rattle.vt_spec.specs.Machine.Tasks.{child_name, child_of, with_child}
use Rattle.vt_spec.specs.Machine.Outcomes.{Outcome, granted}
use Rattle.vt_spec.specs.FileTree.{attr_in, is_opaque_in, kind_in}
use Rattle.vt_spec.specs.Language.Answers.{StatLine}
use Rattle.vt_spec.specs.Language.Answers.Answer.{Bytes, Child, Done, MountList, Names, Told}
use Rattle.vt_spec.specs.Machine.Permits.{Permit}
use Rattle.vt_spec.specs.Machine.Permits.Permit.{Allowed, ToBind, ToChange, ToClose, ToEnterNamespace, ToExit, ToFork, ToList, ToListMounts, ToMake, ToMountOverlay, ToMountPlain, ToMove, ToOpen, ToOpenNew, ToPivot, ToRead, ToReadPart, ToRemoveDirectory, ToRename, ToSetCredentials, ToSetDirectory, ToSetFlags, ToSetRoot, ToSetType, ToSetUmask, ToStat, ToUnmount, ToUnmountLazily, ToUnshare, ToWritePart}
use Rattle.vt_spec.specs.Machine.Types.{with_type}
use Rattle.vt_spec.specs.Machine.World.{Task, World, mount_at, mount_numbered, node_at, with_flags, with_task, without_task}
use Rattle.vt_spec.specs.PathText.{is_empty}
use Rattle.vt_spec.specs.Tree.{Node, bytes_in, names_in}

-- what stat(2) returns
abbrev pub stat_line : {N : Type 0} → Option (Node N) → StatLine
stat_line node = record {
  kind = kind_in node;
  attr = attr_in node;
  size = length (bytes_in node);
  opaque = is_opaque_in node;
}

module _ {N : Type 0} (eq : N → N → Bool) where
  -- the world with a new inode under a name of a directory
  abbrev pub with_new_inode : Fresh N → World N → Location N → List ℕ → Node N → World N
  with_new_inode fresh world directory name node =
      with_change eq (odds fresh) world directory (Make directory.node name (evens fresh 0) node)

  -- the outcome of a granted call of a task, to which new numbers are handed in for what it makes; each permit's call
  -- is named in `Permits.antt`
  abbrev pub apply : Fresh N → World N → Task N → Permit N → Outcome N
  apply fresh world task Allowed = granted Done world
  apply fresh world task (ToList directory) =
      granted (Names (names_in (node_at eq world directory))) world
  apply fresh world task (ToStat object) = granted (Told (stat_line (node_at eq world object))) world
  apply fresh world task (ToRead file) = granted (Bytes (bytes_in (node_at eq world file))) world
  apply fresh world task (ToReadPart file offset size) =
      granted (Bytes (take size (drop offset (bytes_in (node_at eq world file))))) world
  apply fresh world task (ToChange location change) =
      granted Done (with_change eq fresh world location change)
  apply fresh world task (ToMake directory name node) =
      granted Done (with_new_inode fresh world directory name node)
  apply fresh world task (ToRemoveDirectory parent name directory) =
      granted Done (with_change eq fresh (without_mounts_on eq world directory) parent
      (Remove parent.node name directory.node))
  apply fresh world task (ToRename from old to new object replaced) =
      granted Done (with_change eq fresh (without_replaced eq world replaced) from
      (Move from.node old to.node new object.node))
  apply fresh world task (ToOpen file access) =
      opened (with_copy eq (is_copied_up eq world file access) fresh world file) task file access
  apply fresh world task (ToOpenNew directory name node access) =
      opened (with_new_inode fresh world directory name node) task
      (record { mount = directory.mount; node = evens fresh 0 }) access
  apply fresh world task (ToWritePart file offset bytes) =
      granted Done (pwritten eq fresh world file offset bytes)
  apply fresh world task (ToClose descriptor) =
      granted Done (with_task world (without_descriptor task descriptor))
  apply fresh world task (ToSetDirectory directory) =
      granted Done (with_task world (record task { directory = directory }))
  apply fresh world task (ToSetRoot root) = granted Done (with_task world (record task { root = root }))
  apply fresh world task (ToSetUmask umask) =
      granted Done (with_task world (record task { umask = umask }))
  apply fresh world task (ToSetCredentials credentials) =
      granted Done (with_task world (record task { credentials = credentials }))
  apply fresh world task (ToFork credentials) =
      granted (Child (child_name task)) (with_child world task (child_of task credentials))
  apply fresh world task ToExit = granted Done (namespaces_ended eq (without_task world task.name))
  apply fresh world task ToUnshare = granted Done (namespaces_ended eq (unshared eq world fresh task))
  apply fresh world task (ToEnterNamespace namespace) =
      granted Done (namespaces_ended eq (namespace_entered eq world task namespace))
  apply fresh world task (ToMountPlain destination flags) =
      granted Done (mounted eq (odds fresh) world destination (plain_filesystem eq fresh) flags)
  apply fresh world task (ToMountOverlay destination overlay flags) =
      granted Done (mounted eq (odds fresh) world destination (overlay_filesystem eq (evens fresh) world overlay) flags)
  apply fresh world task (ToBind source destination recursive) =
      granted Done (bound_at eq fresh world source destination recursive)
  apply fresh world task (ToMove mount destination) = granted Done (moved_to eq fresh world mount destination)
  apply fresh world task (ToUnmount mount) = granted Done (unmounted eq world mount)
  apply fresh world task (ToUnmountLazily mount) = granted Done (lazily_unmounted eq world mount)
  apply fresh world task (ToSetFlags mount flags) = granted Done (with_flags eq world mount flags)
  apply fresh world task (ToSetType mount word recursive) =
      granted Done (with_type eq fresh world mount word recursive)
  apply fresh world task (ToPivot new put) =
      granted Done (pivoted eq world task.namespace (mount_at eq world task.root) (mount_numbered eq world new) put)
  apply fresh world task ToListMounts = granted (MountList (mount_lines eq world task.namespace)) world

  -- the filesystems that a change at a location changes, if it is made
  abbrev pub changed_if : (made : Bool) → World N → Location N → List N
  changed_if true world location = changed_at eq world location
  changed_if false world location = []

  -- the filesystems that a permit changes, by what stands in the world before the call (profile)
  abbrev pub filesystems_changed : World N → Permit N → List N
  filesystems_changed world (ToChange location change) = changed_at eq world location
  filesystems_changed world (ToMake directory name node) = changed_at eq world directory
  filesystems_changed world (ToRemoveDirectory parent name directory) =
      changed_at eq (without_mounts_on eq world directory) parent
  filesystems_changed world (ToRename from old to new object replaced) =
      changed_at eq (without_replaced eq world replaced) from
  filesystems_changed world (ToOpen file access) = changed_if (is_copied_up eq world file access) world file
  filesystems_changed world (ToOpenNew directory name node access) = changed_at eq world directory
  filesystems_changed world (ToWritePart file offset bytes) = changed_if (not (is_empty bytes)) world file
  filesystems_changed world permit = []

  -- M9: what a permit attaches leaves a namespace with too many mounts: mount(2), ENOSPC
  abbrev pub overfills : Fresh N → World N → Task N → Permit N → Bool
  overfills fresh world task permit = has_too_many eq (apply fresh world task permit).world
