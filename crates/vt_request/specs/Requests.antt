-- What requests ask for, in the policy's words, free of capacities.
use Rattle.vt_spec.specs.Language.Calls as spec
use Rattle.vt_cred.specs.Caps.{capability_bits}
use Rattle.vt_cred.specs.MountFlags.{flags_of}
use Rattle.std.specs.Prelude.{option_map}
use Rattle.std.specs.Result.{result_ok}
use Rattle.vt_request.specs.declared.request.CapsWord.{CapsWord}
use Rattle.vt_request.specs.declared.request.CapsWord.TheVariants.{Held, Named}
use Rattle.vt_request.specs.declared.request.Access.{Access}
use Rattle.vt_request.specs.declared.request.Access.TheVariants.{Read, Write, ReadWrite}
use Rattle.vt_request.specs.declared.request.Creation.{Creation}
use Rattle.vt_request.specs.declared.request.Directive.{Directive}
use Rattle.vt_request.specs.declared.request.Directive.TheVariants.{Peers, Sealed}
use Rattle.vt_request.specs.declared.request.Creation.TheVariants.{Never, OrCreate, Exclusive}
use Rattle.vt_request.specs.declared.request.ForkWords.{ForkWords}
use Rattle.vt_request.specs.declared.request.TypeWord.{TypeWord}
use Rattle.vt_request.specs.declared.request.TypeWord.TheVariants.{Private, Shared, Slave, Unbindable}
use Rattle.vt_request.specs.declared.request.Call.{Call}
use Rattle.vt_request.specs.declared.request.Call.TheVariants as call
use Rattle.vt_request.specs.declared.request.LookCall.{LookCall}
use Rattle.vt_request.specs.declared.request.LookCall.TheVariants as look
use Rattle.vt_request.specs.declared.request.MakeCall.{MakeCall}
use Rattle.vt_request.specs.declared.request.MakeCall.TheVariants as make
use Rattle.vt_request.specs.declared.request.RemoveCall.{RemoveCall}
use Rattle.vt_request.specs.declared.request.RemoveCall.TheVariants as remove
use Rattle.vt_request.specs.declared.request.WriteCall.{WriteCall}
use Rattle.vt_request.specs.declared.request.WriteCall.TheVariants as write
use Rattle.vt_request.specs.declared.request.DescriptorCall.{DescriptorCall}
use Rattle.vt_request.specs.declared.request.DescriptorCall.TheVariants as descriptor
use Rattle.vt_request.specs.declared.request.TaskCall.{TaskCall}
use Rattle.vt_request.specs.declared.request.TaskCall.TheVariants as task
use Rattle.vt_request.specs.declared.request.MountCall.{MountCall}
use Rattle.vt_request.specs.declared.request.MountCall.TheVariants as mount

-- the capabilities that a word names
abbrev pub capabilities_of : CapsWord → spec.CapabilityWord
capabilities_of Held = spec.CapabilityWord.Held
capabilities_of (Named caps) = spec.CapabilityWord.These (capability_bits caps)

-- what a file is opened for
abbrev pub access_of : Access → spec.Access
access_of Read = spec.Access.ReadOnly
access_of Write = spec.Access.WriteOnly
access_of ReadWrite = spec.Access.ReadWrite

-- what is done where the name is missing
abbrev pub creation_of : Creation → spec.Creation
creation_of Never = spec.Creation.NoCreation
creation_of (OrCreate mode) = spec.Creation.OrCreate mode
creation_of (Exclusive mode) = spec.Creation.Exclusive mode

-- the credentials that a child is given
abbrev pub fork_words_of : ForkWords → spec.ForkWords
fork_words_of words = record {
  uid = words.uid;
  gid = words.gid;
  groups = words.groups.items;
  capabilities = capabilities_of words.caps;
}

-- a propagation type
abbrev pub type_word_of : TypeWord → spec.TypeWord
type_word_of Shared = spec.TypeWord.ToShared
type_word_of Slave = spec.TypeWord.ToSlave
type_word_of Private = spec.TypeWord.ToPrivate
type_word_of Unbindable = spec.TypeWord.ToUnbindable

-- a call that only looks
abbrev pub look_call_of : LookCall → spec.Call
look_call_of (look.Ls path) = spec.Call.Ls path.now
look_call_of (look.Stat path) = spec.Call.Stat path.now
look_call_of (look.Lstat path) = spec.Call.Lstat path.now
look_call_of (look.Readlink path) = spec.Call.Readlink path.now
look_call_of (look.Read path) = spec.Call.Read path.now
look_call_of (look.Exec path) = spec.Call.Exec path.now
look_call_of (look.Pread descriptor offset size) = spec.Call.Pread descriptor offset size
look_call_of look.ListMounts = spec.Call.ListMounts

-- a call that makes a name
abbrev pub make_call_of : MakeCall → spec.Call
make_call_of (make.Mkdir path mode) = spec.Call.Mkdir path.now mode
make_call_of (make.Symlink text path) = spec.Call.SymlinkAt text.now path.now
make_call_of (make.Whiteout path) = spec.Call.MakeWhiteout path.now
make_call_of (make.Link old new) = spec.Call.LinkTo old.now new.now

-- a call that takes a name away
abbrev pub remove_call_of : RemoveCall → spec.Call
remove_call_of (remove.Unlink path) = spec.Call.Unlink path.now
remove_call_of (remove.Rmdir path) = spec.Call.Rmdir path.now
remove_call_of (remove.Rename old new) = spec.Call.Rename old.now new.now

-- a call that sets the content, the owner or the mode of an object, or the mark of a directory
abbrev pub write_call_of : WriteCall → spec.Call
write_call_of (write.Write path bytes) = spec.Call.Write path.now bytes.items
write_call_of (write.Pwrite descriptor offset bytes) = spec.Call.Pwrite descriptor offset bytes.items
write_call_of (write.Chmod path mode) = spec.Call.Chmod path.now mode
write_call_of (write.Chown path uid gid) = spec.Call.Chown path.now uid gid
write_call_of (write.Opaque path mark) = spec.Call.Opaque path.now mark

-- a call that opens or closes a file
abbrev pub descriptor_call_of : DescriptorCall → spec.Call
descriptor_call_of (descriptor.Open path access creation) =
    spec.Call.OpenFile path.now (access_of access) (creation_of creation)
descriptor_call_of (descriptor.Close number) = spec.Call.Close number

-- a call that changes the caller, or makes a task
abbrev pub task_call_of : TaskCall → spec.Call
task_call_of (task.Chdir path) = spec.Call.Chdir path.now
task_call_of (task.Chroot path) = spec.Call.Chroot path.now
task_call_of (task.Umask mode) = spec.Call.Umask mode
task_call_of (task.Drop caps) = spec.Call.Drop (capabilities_of caps)
task_call_of (task.Fork words) = spec.Call.Fork (option_map fork_words_of words)
task_call_of task.Exit = spec.Call.Exit
task_call_of task.Unshare = spec.Call.Unshare
task_call_of (task.Setns name) = spec.Call.Setns name

-- a call that changes mounts
abbrev pub mount_call_of : MountCall → spec.Call
mount_call_of (mount.Plain path flags) = spec.Call.MountPlain path.now (flags_of flags)
mount_call_of (mount.Overlay path options flags) =
    spec.Call.MountOverlay path.now (result_ok options) (flags_of flags)
mount_call_of (mount.Bind source path recursive) = spec.Call.Bind source.now path.now recursive
mount_call_of (mount.Move source path) = spec.Call.MoveMount source.now path.now
mount_call_of (mount.Umount path) = spec.Call.Umount path.now
mount_call_of (mount.Lazy path) = spec.Call.Lazy path.now
mount_call_of (mount.Remount path flags) = spec.Call.Remount path.now (flags_of flags)
mount_call_of (mount.SetType path word recursive) = spec.Call.SetType path.now (type_word_of word) recursive
mount_call_of (mount.Pivot new put) = spec.Call.PivotRoot new.now put.now

-- the call, in the policy's words
abbrev pub call_of : Call → spec.Call
call_of (call.Look asked) = look_call_of asked
call_of (call.Make asked) = make_call_of asked
call_of (call.Remove asked) = remove_call_of asked
call_of (call.Write asked) = write_call_of asked
call_of (call.Descriptor asked) = descriptor_call_of asked
call_of (call.Task asked) = task_call_of asked
call_of (call.Mount asked) = mount_call_of asked

-- a directive, in the policy's words
abbrev pub directive_of : Directive → spec.Directive
directive_of Peers = spec.Directive.AskPeers
directive_of (Sealed tasks) = spec.Directive.AskSealed tasks.items
