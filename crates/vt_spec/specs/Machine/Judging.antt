-- What each call asks, as one value: its walks and its tables of rules in their order, and then its permit. A call is
-- judged as the run of what it asks.
use Rattle.std.specs.Prelude.{Bool, List, None, Ok, Err, Option, Result, Some, [], cond, is_some, length, nat_lt, ok_or, true, unwrap_or, ℕ, ◌++◌, ◌||◌, ◌∷◌}
use Rattle.vt_spec.specs.declared.attributes.Attr.{Attr}
use Rattle.vt_spec.specs.declared.errors.Deny.{Deny}
use Rattle.vt_spec.specs.declared.errors.Rule.{Rule}
use Rattle.vt_spec.specs.declared.errors.Rule.TheVariants.{E1, E2, E6, K1, O2, S2}
use Rattle.vt_spec.specs.Errors.{Rules, and_then, denial, unless}
use Rattle.vt_spec.specs.Language.Calls.{Access, Call, Creation, MountFlags, OverlayWords, TaskName}
use Rattle.vt_spec.specs.Language.Calls.Call.{Bind, Chdir, Chmod, Chown, Chroot, Close, Drop, Exec, Exit, Fork, Lazy, LinkTo, ListMounts, Ls, Lstat, MakeWhiteout, Mkdir, MountOverlay, MountPlain, MoveMount, Opaque, OpenFile, PivotRoot, Pread, Pwrite, Read, Readlink, Remount, Rename, Rmdir, SetType, Setns, Stat, SymlinkAt, Umask, Umount, Unlink, Unshare, Write}
use Rattle.vt_spec.specs.Language.Calls.Creation.{Exclusive, NoCreation, OrCreate}
use Rattle.vt_spec.specs.Language.Changes.{Change}
use Rattle.vt_spec.specs.Language.Changes.Change.{SetAttr, SetBytes, SetMark}
use Rattle.vt_spec.specs.Language.Limits.{largest_file}
use Rattle.vt_spec.specs.Machine.Attributes.{attr_with_mode, attr_with_owner, may_chown}
use Rattle.vt_spec.specs.Machine.Looks.{Looks}
use Rattle.vt_spec.specs.Machine.Mounts.{Location}
use Rattle.vt_spec.specs.Machine.Permits.{Permit}
use Rattle.vt_spec.specs.Machine.Permits.Permit.{Allowed, ToBind, ToChange, ToClose, ToEnterNamespace, ToExit, ToFork, ToList, ToListMounts, ToMake, ToMountOverlay, ToMountPlain, ToMove, ToOpen, ToOpenNew, ToPivot, ToRead, ToReadPart, ToRemoveDirectory, ToRename, ToSetCredentials, ToSetDirectory, ToSetFlags, ToSetRoot, ToSetType, ToSetUmask, ToStat, ToUnmount, ToUnmountLazily, ToUnshare, ToWritePart}
use Rattle.vt_spec.specs.Machine.Rows.{directory_mode, exact_attr, file_mode, linking, making, new_attr, new_file, symlink_mode}
use Rattle.vt_spec.specs.Machine.Rules.Attributes.{attr_at, attr_rules, opaque_rules}
use Rattle.vt_spec.specs.Machine.Rules.Conditions.{lacks}
use Rattle.vt_spec.specs.Machine.Rules.Descriptors.{descriptor_at, descriptor_rules, exclusive_word_rules, open_rules, pwrite_rules}
use Rattle.vt_spec.specs.Machine.Rules.Looking.{exec_rules, list_rules, read_rules, readlink_rules}
use Rattle.vt_spec.specs.Machine.Rules.Making.{file_word_rules, hard_link_rules, make_rules, new_word_rules, rewrite_rules, symlink_text_rules, whiteout_rules}
use Rattle.vt_spec.specs.Machine.Rules.Mounting.{LayerLocations, admin_rules, bind_rules, destination_walk, layer_rules, layers_walked, lazy_rules, move_rules, new_mount_rules, overlay_at, pivot_rules, remount_rules, source_walk, type_rules, umount_rules}
use Rattle.vt_spec.specs.Machine.Rules.Removing.{is_one_object, object_there, old_word_rules, removing, rename_new_walk, rename_rules, rmdir_rules, rmdir_word_rules, same_object_rules, unlink_rules}
use Rattle.vt_spec.specs.Machine.Rules.Tasks.{enter_rules, fork_rules}
use Rattle.vt_spec.specs.Machine.Tasks.{capabilities_of, child_credentials, permission_bits, with_dropped}
use Rattle.vt_spec.specs.Machine.Walking.{Here, Place, Stop, directory_walk, file_walk, is_directory_there, is_special, name_of, new_leaf_walk, new_walk, object_walk, old_leaf_walk, old_walk, symlink_walk, walk_end}
use Rattle.vt_spec.specs.Machine.World.{Descriptor, Task}
use Rattle.vt_spec.specs.Rights.{cap_sys_admin, cap_sys_chroot, owns}
use Rattle.vt_spec.specs.Tree.{Node, new_directory}
use Rattle.vt_spec.specs.Tree.Content.{Symlink, Whiteout}

-- what a path has to lead to
pub data Aim : Type 0 where
  -- an object, a final symlink followed
  AnObject : Aim
  -- an object, a final symlink not followed
  ASymlink : Aim
  -- a directory
  ADirectory : Aim
  -- a directory that is not removed
  ASource : Aim
  -- that, and then the root of the topmost mount over it
  ADestination : Aim

-- what the last word of a path has to name
pub data NameAim : Type 0 where
  -- a file that exists, or a name for it; a final symlink is followed
  AFile : NameAim
  -- a name in a directory that is not removed, whether it exists or not; a slash behind it is accepted
  ANewName : NameAim
  -- so, but a slash behind a missing name is not accepted
  ANewLeaf : NameAim
  -- a name that exists
  AnOldName : NameAim
  -- so; a slash behind it asks for a directory
  AnOldLeaf : NameAim
  -- the new name of a rename: a slash behind it asks that what is renamed is a directory
  ARenamed : (directory : Bool) → NameAim

-- What a call asks, in its order, until it is granted. S and K rules come first (`Needs`, `FindsFile`, `FindsTask`),
-- then each path is walked (`Walks`, `Names`, `Layers`) and its special last words are checked (`Words`), and then one
-- table is (`Checks`, `Attaches`).
pub data Judging (N : Type 0) : Type 0 where
  -- the call is granted
  Grants : (permit : Permit N) → Judging N
  -- the last table, and then the permit
  Checks : (rules : Rules) → (permit : Permit N) → Judging N
  -- the same of a call that attaches mounts: M9 fails if the permit would leave a namespace with over 4,096 mounts
  Attaches : (rules : (overfull : Bool) → Rules) → (permit : Permit N) → Judging N
  -- no permit fits the call
  Refuses : (rule : Rule) → Judging N
  -- rules on the script and on capabilities, before any walk
  Needs : (rules : Rules) → (next : Judging N) → Judging N
  -- a descriptor of the task, opened for what is asked; else S4
  FindsFile : (number : ℕ) (fits : Descriptor N → Bool) → (next : Descriptor N → Judging N) → Judging N
  -- the namespace of a task; else S2
  FindsTask : (name : TaskName) → (next : N → Judging N) → Judging N
  -- a path that leads to an object
  Walks : (aim : Aim) (path : List ℕ) → (next : Here N → Judging N) → Judging N
  -- a path whose last word is a name in a directory
  Names : (aim : NameAim) (path : List ℕ) → (next : Place N → Judging N) → Judging N
  -- the layers of an overlay
  Layers : (words : OverlayWords) → (next : LayerLocations N → Judging N) → Judging N
  -- rules on a text, or on a special last word, which are checked with the walk
  Words : (rules : Rules) → (next : Judging N) → Judging N
  -- by whether there is an object at a place
  IfThere : (object : Option (Location N)) → (there : Location N → Judging N) → (missing : Judging N) → Judging N
  -- by a test
  IfSo : (test : Bool) → (so : Judging N) → (otherwise : Judging N) → Judging N

-- a permit, or the refusal by the first walk or rule that fails
abbrev pub Judgement : Type 0 → Type 0
Judgement N = Result (Permit N) Deny

-- by whether a value is there
abbrev pub by_option : {A B : Type 0} → (A → B) → B → Option A → B
by_option some none (Some a) = some a
by_option some none None = none

module _ {N : Type 0} where
  -- the change as the mounter's rules see it; they do not use the new inode's number
  abbrev pub unnumbered : Place N → Node N → Change N
  unnumbered place node = making place place.parent.node node

  -- the permit for a new inode at a place
  abbrev pub make_permit : Place N → Node N → Permit N
  make_permit place node = ToMake place.parent (name_of place.last) node

  -- the permit for a new, empty file at a place, and a descriptor for it
  abbrev pub open_new_permit : Task N → Place N → Access → ℕ → Permit N
  open_new_permit task place access mode = ToOpenNew place.parent (name_of place.last) (new_file task mode []) access

  -- the inode of mkdir(2), in the directory where its walk ends
  abbrev pub directory_made : Task N → Place N → Option ℕ → Node N
  directory_made task place mode =
      record { attr = new_attr task (unwrap_or mode directory_mode); content = new_directory place.parent.node }

  -- the inode of symlink(2)
  abbrev pub symlink_made : Task N → List ℕ → Node N
  symlink_made task text = record { attr = exact_attr task symlink_mode; content = Symlink text }

  -- the inode of mknod(2) of the character device 0/0
  abbrev pub whiteout_made : Task N → Node N
  whiteout_made task = record { attr = exact_attr task 0; content = Whiteout }

module _ {N : Type 0} (eq : N → N → Bool) (looks : Looks N) (task : Task N) where
  -- the walk of a path that leads to an object
  abbrev pub walk_to : Aim → List ℕ → Result (Here N) (Stop N)
  walk_to AnObject path = object_walk eq looks task path
  walk_to ASymlink path = symlink_walk eq looks task path
  walk_to ADirectory path = directory_walk eq looks task path
  walk_to ASource path = source_walk eq looks task path
  walk_to ADestination path = destination_walk eq looks task path

  -- the walk of a path whose last word is a name
  abbrev pub walk_to_name : NameAim → List ℕ → Result (Place N) (Stop N)
  walk_to_name AFile path = file_walk eq looks task path
  walk_to_name ANewName path = new_walk eq looks task path
  walk_to_name ANewLeaf path = new_leaf_walk eq looks task path
  walk_to_name AnOldName path = old_walk eq looks task path
  walk_to_name AnOldLeaf path = old_leaf_walk eq looks task path
  walk_to_name (ARenamed directory) path = rename_new_walk eq looks task path directory

  -- the permit, or the refusal by the first walk or rule that fails
  abbrev pub run : (Permit N → Bool) → Judging N → Judgement N
  run overfills (Grants permit) = Ok permit
  run overfills (Checks rules permit) = unless rules (Ok permit)
  run overfills (Attaches rules permit) = unless (rules (overfills permit)) (Ok permit)
  run overfills (Refuses rule) = Err (denial rule)
  run overfills (Needs rules next) = unless rules (run overfills next)
  run overfills (FindsFile number fits next) =
      and_then (descriptor_at task number fits) (λ descriptor. run overfills (next descriptor))
  run overfills (FindsTask name next) =
      and_then (ok_or (looks.namespace_called name) (denial S2)) (λ namespace. run overfills (next namespace))
  run overfills (Walks aim path next) = and_then (walk_end (walk_to aim path)) (λ here. run overfills (next here))
  run overfills (Names aim path next) =
      and_then (walk_end (walk_to_name aim path)) (λ place. run overfills (next place))
  run overfills (Layers words next) =
      and_then (layers_walked eq looks task words) (λ layers. run overfills (next layers))
  run overfills (Words rules next) = unless rules (run overfills next)
  run overfills (IfThere object there missing) =
      by_option (λ file. run overfills (there file)) (run overfills missing) object
  run overfills (IfSo test so otherwise) = cond test (run overfills so) (run overfills otherwise)

  -- a new inode at a place, of whose name it is asked that nothing has it: mkdir(2), symlink(2)
  abbrev pub makes_at : Place N → Node N → Judging N
  makes_at place node =
      Checks (new_word_rules place ++ make_rules looks task place (unnumbered place node)) (make_permit place node)

  -- open(2) of a file that exists
  abbrev pub opens_at : Rules → Location N → Access → Judging N
  opens_at words file access = Checks (words ++ open_rules looks task file access) (ToOpen file access)

  -- open(2) of a new file, by the rules on its directory; rights on the file itself are not checked
  abbrev pub creates_at : Rules → Place N → Access → ℕ → Judging N
  creates_at words place access mode =
      Checks (words ++ make_rules looks task place (unnumbered place (new_file task mode [])))
      (open_new_permit task place access mode)

  -- open(2), by what it does where the name is missing
  abbrev pub opens : List ℕ → Access → Creation → Judging N
  opens path access NoCreation = Walks AnObject path (λ here. opens_at [] here.location access)
  opens path access (OrCreate mode) =
      Names AFile path (λ place.
      IfThere place.object (λ file. opens_at (file_word_rules place) file access)
      (creates_at (file_word_rules place) place access mode))
  opens path access (Exclusive mode) =
      Names ANewName path (λ place.
      Words (exclusive_word_rules place)
      (creates_at ((is_some place.object, E1) ∷ []) place access mode))

  -- other attributes of an object, by one who is allowed to set them
  abbrev pub sets_attr : Location N → (permitted : Bool) → Attr → Judging N
  sets_attr object permitted attr =
      Checks (attr_rules looks object permitted attr) (ToChange object (SetAttr object.node attr))

  -- mount(2) of an overlay at a destination; ill-formed options are O2
  abbrev pub mounts_overlay_at : Location N → Option OverlayWords → MountFlags → Judging N
  mounts_overlay_at destination None flags = Refuses O2
  mounts_overlay_at destination (Some words) flags =
      Layers words (λ layers.
      Attaches (λ overfull.
      layer_rules eq looks layers (overlay_at looks task layers) ++ new_mount_rules eq looks task destination overfull)
      (ToMountOverlay destination (overlay_at looks task layers) flags))

  -- What each call asks, by its man page
  unfoldable pub judging : Call → Judging N
  -- open(2) with O_DIRECTORY, then getdents(2)
  judging (Ls path) =
      Walks ADirectory path (λ here. Checks (list_rules looks task here.location) (ToList here.location))
  -- stat(2)
  judging (Stat path) = Walks AnObject path (λ here. Grants (ToStat here.location))
  -- lstat(2)
  judging (Lstat path) = Walks ASymlink path (λ here. Grants (ToStat here.location))
  -- readlink(2)
  judging (Readlink path) =
      Walks ASymlink path (λ here. Checks (readlink_rules looks here.location) (ToRead here.location))
  -- open(2) with O_RDONLY, then read(2) to the end
  judging (Read path) =
      Walks AnObject path (λ here. Checks (read_rules looks task here.location) (ToRead here.location))
  -- open(2) with O_WRONLY, O_CREAT and O_TRUNC, then write(2)
  judging (Write path bytes) =
      Names AFile path (λ place.
      IfThere place.object (λ file.
      Checks (file_word_rules place ++ rewrite_rules looks task file bytes) (ToChange file (SetBytes file.node bytes)))
      (Checks (file_word_rules place ++ ((nat_lt largest_file (length bytes), E6)
      ∷ make_rules looks task place (unnumbered place (new_file task file_mode bytes))))
      (make_permit place (new_file task file_mode bytes))))
  -- execve(2), as far as it checks rights
  judging (Exec path) = Walks AnObject path (λ here. Checks (exec_rules looks task here.location) Allowed)
  -- mkdir(2)
  judging (Mkdir path mode) =
      Names ANewName path (λ place. makes_at place (directory_made task place mode))
  -- symlink(2)
  judging (SymlinkAt text path) =
      Words (symlink_text_rules text)
      (Names ANewLeaf path (λ place. makes_at place (symlink_made task text)))
  -- mknod(2) of the character device 0/0: overlayfs, "whiteouts and opaque directories"
  judging (MakeWhiteout path) =
      Names ANewLeaf path (λ place.
      Checks (whiteout_rules looks task place) (make_permit place (whiteout_made task)))
  -- link(2)
  judging (LinkTo old new) =
      Walks ASymlink old (λ from.
      Names ANewLeaf new (λ place.
      Checks ((is_special place.last, E1)
      ∷ hard_link_rules eq looks task from.location place (linking from.location place))
      (ToChange place.parent (linking from.location place))))
  -- unlink(2)
  judging (Unlink path) =
      Names AnOldLeaf path (λ place.
      Checks ((is_special place.last, E2) ∷ unlink_rules looks task place (object_there place))
      (ToChange place.parent (removing place (object_there place))))
  -- rmdir(2)
  judging (Rmdir path) =
      Names AnOldName path (λ place.
      Words (rmdir_word_rules place)
      (Checks (rmdir_rules eq looks task place (object_there place))
      (ToRemoveDirectory place.parent (name_of place.last) (object_there place))))
  -- rename(2); if both names lead to one object nothing is done
  judging (Rename old new) =
      Names AnOldLeaf old (λ from.
      Words (old_word_rules from)
      (Names (ARenamed (is_directory_there eq looks from)) new (λ to.
      Words (old_word_rules to)
      (IfSo (is_one_object eq looks (object_there from) to.object)
      (Checks (same_object_rules eq looks from to) Allowed)
      (Checks (rename_rules eq looks task from to (object_there from))
      (ToRename from.parent (name_of from.last) to.parent (name_of to.last) (object_there from) to.object))))))
  -- chmod(2)
  judging (Chmod path mode) =
      Walks AnObject path (λ here.
      sets_attr here.location (owns task.credentials (attr_at looks here.location))
      (attr_with_mode (attr_at looks here.location) mode))
  -- chown(2)
  judging (Chown path uid gid) =
      Walks AnObject path (λ here.
      sets_attr here.location
      (may_chown task.credentials (attr_at looks here.location) (attr_with_owner (attr_at looks here.location) uid gid))
      (attr_with_owner (attr_at looks here.location) uid gid))
  -- setxattr(2) of trusted.overlay.opaque: overlayfs, "whiteouts and opaque directories"
  judging (Opaque path mark) =
      Needs (admin_rules task)
      (Walks ADirectory path (λ here.
      Checks (opaque_rules looks here.location) (ToChange here.location (SetMark here.location.node mark))))
  -- open(2): EMFILE first (profile)
  judging (OpenFile path access creation) = Needs (descriptor_rules task) (opens path access creation)
  -- pread(2)
  judging (Pread number offset size) =
      FindsFile number (λ descriptor. descriptor.reads) (λ descriptor.
      Grants (ToReadPart descriptor.location offset size))
  -- pwrite(2)
  judging (Pwrite number offset bytes) =
      FindsFile number (λ descriptor. descriptor.writes) (λ descriptor.
      Checks (pwrite_rules looks descriptor.location offset bytes) (ToWritePart descriptor.location offset bytes))
  -- close(2)
  judging (Close number) = FindsFile number (λ descriptor. true) (λ descriptor. Grants (ToClose number))
  -- chdir(2)
  judging (Chdir path) =
      Walks ADirectory path (λ here. Checks (enter_rules looks task here.location) (ToSetDirectory here.location))
  -- chroot(2)
  judging (Chroot path) =
      Needs ((lacks task cap_sys_chroot, K1) ∷ [])
      (Walks ADirectory path (λ here. Checks (enter_rules looks task here.location) (ToSetRoot here.location)))
  -- umask(2)
  judging (Umask mode) = Grants (ToSetUmask (permission_bits mode))
  -- capset(2)
  judging (Drop which) =
      Grants (ToSetCredentials (with_dropped task.credentials (capabilities_of which task.credentials)))
  -- fork(2)
  judging (Fork words) =
      Needs (fork_rules task (child_credentials task.credentials words))
      (Grants (ToFork (child_credentials task.credentials words)))
  -- _exit(2)
  judging Exit = Grants ToExit
  -- unshare(2) with CLONE_NEWNS
  judging Unshare = Needs (admin_rules task) (Grants ToUnshare)
  -- setns(2)
  judging (Setns name) =
      FindsTask name (λ namespace.
      Needs ((lacks task cap_sys_admin || lacks task cap_sys_chroot, K1) ∷ []) (Grants (ToEnterNamespace namespace)))
  -- mount(2) of a tmpfs
  judging (MountPlain path flags) =
      Needs (admin_rules task)
      (Walks ADestination path (λ here.
      Attaches (new_mount_rules eq looks task here.location) (ToMountPlain here.location flags)))
  -- mount(2) of an overlay
  judging (MountOverlay path options flags) =
      Needs (admin_rules task) (Walks ADestination path (λ here. mounts_overlay_at here.location options flags))
  -- mount(2) with MS_BIND, and with MS_REC
  judging (Bind source path recursive) =
      Needs (admin_rules task)
      (Walks ASource source (λ from.
      Walks ADestination path (λ here.
      Attaches (bind_rules eq looks task from.location here.location)
      (ToBind from.location here.location recursive))))
  -- mount(2) with MS_MOVE
  judging (MoveMount source path) =
      Needs (admin_rules task)
      (Walks ASource source (λ from.
      Walks ADestination path (λ here.
      Attaches (move_rules eq looks task from.location here.location) (ToMove from.location.mount here.location))))
  -- umount(2)
  judging (Umount path) =
      Needs (admin_rules task)
      (Walks ADirectory path (λ here.
      Checks (umount_rules eq looks task here.location) (ToUnmount here.location.mount)))
  -- umount(2) with MNT_DETACH
  judging (Lazy path) =
      Needs (admin_rules task)
      (Walks ADirectory path (λ here.
      Checks (lazy_rules eq looks task here.location) (ToUnmountLazily here.location.mount)))
  -- mount(2) with MS_REMOUNT and MS_BIND
  judging (Remount path flags) =
      Needs (admin_rules task)
      (Walks ADirectory path (λ here.
      Checks (remount_rules eq looks task here.location flags) (ToSetFlags here.location.mount flags)))
  -- mount(2) with MS_SHARED, MS_SLAVE, MS_PRIVATE or MS_UNBINDABLE, and with MS_REC
  judging (SetType path word recursive) =
      Needs (admin_rules task)
      (Walks ADirectory path (λ here.
      Checks (type_rules eq looks task here.location) (ToSetType here.location.mount word recursive)))
  -- pivot_root(2)
  judging (PivotRoot new put) =
      Needs (admin_rules task)
      (Walks ASource new (λ root.
      Walks ADestination put (λ here.
      Checks (pivot_rules eq looks task root.location here.location) (ToPivot root.location.mount here.location))))
  -- mountinfo of proc(5)
  judging ListMounts = Grants ToListMounts
