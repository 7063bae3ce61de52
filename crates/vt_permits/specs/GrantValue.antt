-- What the definitions see of the code's grants: each is one of their permits.
use Rattle.std.specs.Prelude.{None, map, option_map, ℕ}
use Rattle.vt_spec.specs.Language.Changes.Change.{AddName, Remove, SetAttr, SetBytes, SetMark}
use Rattle.vt_spec.specs.Machine.Tasks.{with_dropped}
use Rattle.vt_spec.specs.Machine.Permits.{Permit}
use Rattle.vt_spec.specs.Machine.Permits.Permit.{Allowed, ToBind, ToChange, ToClose, ToEnterNamespace, ToExit, ToFork, ToList, ToListMounts, ToMake, ToMountOverlay as MeansToMerge, ToMountPlain, ToMove, ToOpen, ToOpenNew, ToPivot, ToRead, ToReadPart, ToRemoveDirectory, ToRename, ToSetCredentials, ToSetDirectory, ToSetFlags, ToSetRoot, ToSetType, ToSetUmask, ToStat, ToUnmount, ToUnmountLazily, ToUnshare, ToWritePart}
use Rattle.vt_spec.specs.Machine.Renaming.{renamed_node}
use Rattle.vt_spec.specs.Machine.World.{Layer, Overlay, Task}
use Rattle.vt_spec.specs.Tree.{Node}
use Rattle.vt_cred.specs.Caps.{capability_bits}
use Rattle.vt_cred.specs.MountFlags.{flags_of}
use Rattle.vt_location.specs.Locations.{location_of, number_of}
use Rattle.vt_location.specs.Numbers.{counted, exchanged, filesystem_number}
use Rattle.vt_location.specs.declared.births.Birth.{Birth}
use Rattle.vt_location.specs.declared.births.Birth.TheVariants.{Below, Here}
use Rattle.vt_location.specs.declared.locations.Location.{Location}
use Rattle.vt_location.specs.declared.locations.NodeRef.{NodeRef}
use Rattle.vt_request.specs.Requests.{access_of, type_word_of}
use Rattle.vt_permits.specs.declared.grant.Attachment.{Attachment}
use Rattle.vt_permits.specs.declared.grant.Attachment.TheVariants as attachment
use Rattle.vt_permits.specs.declared.grant.DescriptorGrant.{DescriptorGrant}
use Rattle.vt_permits.specs.declared.grant.DescriptorGrant.TheVariants as descriptor
use Rattle.vt_permits.specs.declared.grant.Grant.{Grant}
use Rattle.vt_permits.specs.declared.grant.Grant.TheVariants as granted
use Rattle.vt_permits.specs.declared.grant.LookGrant.{LookGrant}
use Rattle.vt_permits.specs.declared.grant.LookGrant.TheVariants as look
use Rattle.vt_permits.specs.declared.grant.NewLayer.{NewLayer}
use Rattle.vt_permits.specs.declared.grant.MakeGrant.{MakeGrant}
use Rattle.vt_permits.specs.declared.grant.MakeGrant.TheVariants as make
use Rattle.vt_permits.specs.declared.grant.MountGrant.{MountGrant}
use Rattle.vt_permits.specs.declared.grant.MountGrant.TheVariants as mount
use Rattle.vt_permits.specs.declared.grant.RemoveGrant.{RemoveGrant}
use Rattle.vt_permits.specs.declared.grant.RemoveGrant.TheVariants as remove
use Rattle.vt_permits.specs.declared.grant.TaskGrant.{TaskGrant}
use Rattle.vt_permits.specs.declared.grant.TaskGrant.TheVariants as task
use Rattle.vt_permits.specs.declared.grant.ToMountOverlay.{ToMountOverlay}
use Rattle.vt_permits.specs.declared.grant.ToRename.{ToRename as ToRenameGranted}
use Rattle.vt_permits.specs.declared.grant.WriteGrant.{WriteGrant}
use Rattle.vt_permits.specs.declared.grant.WriteGrant.TheVariants as write

-- the number of the inode in a slot of a directory's tree; a directory that was born below a layer is in no tree of its
-- own, and what is made in it has it for its parent
abbrev pub number_beside : NodeRef → Birth → ℕ → ℕ
number_beside directory Here slot = exchanged directory.filesystem.count slot
number_beside directory (Below layer parent rank) slot = number_of directory

-- an inode that is made in a directory, its parent by number
abbrev pub node_in : Location → Node ℕ → Node ℕ
node_in directory node = renamed_node (number_beside directory.node directory.node.birth)
    (exchanged directory.node.filesystem.count) node

-- to look
abbrev pub look_permit : LookGrant → Permit ℕ
look_permit look.Nothing = Allowed
look_permit (look.List directory) = ToList (location_of directory)
look_permit (look.Stat object) = ToStat (location_of object)
look_permit (look.Read file) = ToRead (location_of file)
look_permit (look.ReadPart part) = ToReadPart (location_of part.file) part.offset part.size
look_permit look.ListMounts = ToListMounts

-- to make names
abbrev pub make_permit : MakeGrant → Permit ℕ
make_permit (make.Node new) =
    ToMake (location_of new.directory) new.name.items (node_in new.directory new.node)
make_permit (make.Link new) = ToChange (location_of new.directory)
    (AddName (number_of new.directory.node) new.name.items (number_of new.object))

-- to rename
abbrev pub rename_permit : ToRenameGranted → Permit ℕ
rename_permit renamed =
    ToRename (location_of renamed.from) renamed.old.items (location_of renamed.to) renamed.new.items
    (location_of renamed.object) (option_map location_of renamed.replaced)

-- to take names away
abbrev pub remove_permit : RemoveGrant → Permit ℕ
remove_permit (remove.Unlink gone) = ToChange (location_of gone.directory)
    (Remove (number_of gone.directory.node) gone.name.items (number_of gone.object))
remove_permit (remove.Directory gone) =
    ToRemoveDirectory (location_of gone.parent) gone.name.items (location_of gone.directory)
remove_permit (remove.Rename renamed) = rename_permit renamed.value

-- to change the content, the owner and the mode of objects, and the mark of directories
abbrev pub write_permit : WriteGrant → Permit ℕ
write_permit (write.Content file bytes) = ToChange (location_of file) (SetBytes (number_of file.node) bytes.items)
write_permit (write.Part part) = ToWritePart (location_of part.file) part.offset part.bytes.items
write_permit (write.Attr object attr) = ToChange (location_of object) (SetAttr (number_of object.node) attr)
write_permit (write.Mark directory opaque) =
    ToChange (location_of directory) (SetMark (number_of directory.node) opaque)

-- to open and close files
abbrev pub descriptor_permit : DescriptorGrant → Permit ℕ
descriptor_permit (descriptor.Open file access) = ToOpen (location_of file) (access_of access)
descriptor_permit (descriptor.OpenNew new) = ToOpenNew (location_of new.directory) new.name.items
    (node_in new.directory new.node) (access_of new.access)
descriptor_permit (descriptor.Close number) = ToClose number

-- to change this task
abbrev pub task_permit : Task ℕ → TaskGrant → Permit ℕ
task_permit who (task.SetDirectory directory) = ToSetDirectory (location_of directory)
task_permit who (task.SetRoot root) = ToSetRoot (location_of root)
task_permit who (task.SetUmask umask) = ToSetUmask umask
task_permit who (task.DropCaps caps) = ToSetCredentials (with_dropped who.credentials (capability_bits caps))
task_permit who (task.Fork cred) = ToFork cred
task_permit who task.Exit = ToExit
task_permit who task.Unshare = ToUnshare
task_permit who (task.EnterNamespace namespace) = ToEnterNamespace (counted namespace.count)

-- to attach mounts
abbrev pub attachment_permit : Attachment → Permit ℕ
attachment_permit (attachment.Plain destination flags) = ToMountPlain (location_of destination) (flags_of flags)
attachment_permit (attachment.Bind bind) =
    ToBind (location_of bind.source) (location_of bind.destination) bind.recursive
attachment_permit (attachment.Move mount destination) = ToMove (counted mount.count) (location_of destination)

-- a layer of a new overlay
abbrev pub layer_of : NewLayer → Layer ℕ
layer_of layer = record { filesystem = filesystem_number layer.filesystem; directory = number_of layer.directory }

-- a new overlay that a task mounts, before any inode has a real object
abbrev pub overlay_of : Task ℕ → ToMountOverlay → Overlay ℕ
overlay_of who new = record {
  upper = option_map layer_of new.upper;
  work = option_map layer_of new.work;
  lowers = map layer_of new.lowers.items;
  mounter = who.credentials;
  real = λ number. None;
}

-- to mount an overlay
abbrev pub overlay_permit : Task ℕ → ToMountOverlay → Permit ℕ
overlay_permit who new = MeansToMerge (location_of new.destination) (overlay_of who new) (flags_of new.flags)

-- to change mounts
abbrev pub mount_permit : MountGrant → Permit ℕ
mount_permit (mount.Attach attached) = attachment_permit attached
mount_permit (mount.Unmount id) = ToUnmount (counted id.count)
mount_permit (mount.UnmountLazily id) = ToUnmountLazily (counted id.count)
mount_permit (mount.SetFlags id flags) = ToSetFlags (counted id.count) (flags_of flags)
mount_permit (mount.SetType change) =
    ToSetType (counted change.mount.count) (type_word_of change.word) change.recursive
mount_permit (mount.Pivot new put) = ToPivot (counted new.count) (location_of put)

-- what a task is granted
abbrev pub permit_of : Task ℕ → Grant → Permit ℕ
permit_of who (granted.Look grant) = look_permit grant
permit_of who (granted.Make grant) = make_permit grant
permit_of who (granted.Remove grant) = remove_permit grant
permit_of who (granted.Write grant) = write_permit grant
permit_of who (granted.Descriptor grant) = descriptor_permit grant
permit_of who (granted.Task grant) = task_permit who grant
permit_of who (granted.Mount grant) = mount_permit grant
permit_of who (granted.Overlay new) = overlay_permit who new
