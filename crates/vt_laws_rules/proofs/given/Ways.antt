-- The ways in which a call is granted, for proofs by cases: where its walks end, that no rule of its tables fails, and
-- its permit. `judge` permits nothing else.
use Rattle.std.proofs.Common.{Bool, List, None, Ok, Option, Some, [], false, is_some, length, nat_lt, ok_or, true, ℕ, ◌++◌, ◌||◌, ◌∷◌, ◌≡◌}
use Rattle.vt_spec.specs.Errors.{NoneFails, Rules, denial}
use Rattle.vt_spec.specs.Language.Calls.{Access, Call, CapabilityWord, ForkWords, MountFlags, OverlayWords, TaskName, TypeWord}
use Rattle.vt_spec.specs.Language.Calls.Call.{Bind, Chdir, Chmod, Chown, Chroot, Close, Drop, Exec, Exit, Fork, Lazy, LinkTo, ListMounts, Ls, Lstat, MakeWhiteout, Mkdir, MountOverlay, MountPlain, MoveMount, Opaque, OpenFile, PivotRoot, Pread, Pwrite, Read, Readlink, Remount, Rename, Rmdir, SetType, Setns, Stat, SymlinkAt, Umask, Umount, Unlink, Unshare, Write}
use Rattle.vt_spec.specs.Language.Calls.Creation.{Exclusive, NoCreation, OrCreate}
use Rattle.vt_spec.specs.Language.Changes.Change.{SetAttr, SetBytes, SetMark}
use Rattle.vt_spec.specs.Language.Limits.{largest_file}
use Rattle.vt_spec.specs.Machine.Judging.{make_permit, open_new_permit, unnumbered}
use Rattle.vt_spec.specs.Machine.Looks.{Looks}
use Rattle.vt_spec.specs.Machine.Mounts.{Location}
use Rattle.vt_spec.specs.Machine.Permits.{Permit}
use Rattle.vt_spec.specs.Machine.Permits.Permit.{Allowed, ToBind, ToChange, ToClose, ToEnterNamespace, ToExit, ToFork, ToList, ToListMounts, ToMountOverlay, ToMountPlain, ToMove, ToOpen, ToPivot, ToRead, ToReadPart, ToRemoveDirectory, ToRename, ToSetCredentials, ToSetDirectory, ToSetFlags, ToSetRoot, ToSetType, ToSetUmask, ToStat, ToUnmount, ToUnmountLazily, ToUnshare, ToWritePart}
use Rattle.vt_spec.specs.Machine.Rows.{file_mode, linking, new_file}
use Rattle.vt_spec.specs.Machine.Rules.Attributes.{attr_at, attr_rules, opaque_rules}
use Rattle.vt_spec.specs.Machine.Rules.Conditions.{lacks}
use Rattle.vt_spec.specs.Machine.Rules.Descriptors.{descriptor_at, descriptor_rules, exclusive_word_rules, open_rules, pwrite_rules}
use Rattle.vt_spec.specs.Machine.Rules.Looking.{exec_rules, list_rules, read_rules, readlink_rules}
use Rattle.vt_spec.specs.Machine.Rules.Making.{file_word_rules, hard_link_rules, make_rules, new_word_rules, rewrite_rules, symlink_text_rules, whiteout_rules}
use Rattle.vt_spec.specs.Machine.Rules.Mounting.{LayerLocations, admin_rules, bind_rules, destination_walk, layer_rules, layers_walked, lazy_rules, move_rules, new_mount_rules, overlay_at, pivot_rules, remount_rules, source_walk, type_rules, umount_rules}
use Rattle.vt_spec.specs.Machine.Rules.Removing.{is_one_object, object_there, old_word_rules, removing, rename_new_walk, rename_rules, rmdir_rules, rmdir_word_rules, same_object_rules, unlink_rules}
use Rattle.vt_spec.specs.Machine.Rules.Tasks.{enter_rules, fork_rules}
use Rattle.vt_spec.specs.Machine.Walking.{Here, Place, directory_walk, file_walk, is_directory_there, is_special, name_of, new_leaf_walk, new_walk, object_walk, old_leaf_walk, old_walk, symlink_walk}
use Rattle.vt_spec.specs.Machine.World.{Descriptor, Task}
use Rattle.vt_spec.specs.Rights.{cap_sys_admin, cap_sys_chroot, owns}
use Rattle.vt_spec.specs.declared.errors.Rule.TheVariants.{E1, E2, E6, K1, S2}
use Rattle.vt_spec.specs.Machine.Attributes.{attr_with_mode, attr_with_owner, may_chown}
use Rattle.vt_spec.specs.Machine.Tasks.{capabilities_of, child_credentials, permission_bits, with_dropped}
use Rattle.vt_spec.proofs.Common.{judge}
use Rattle.vt_laws_rules.proofs.given.Inversion.{IfGranted, call_is_granted, holds_of_granted}
use Rattle.vt_spec.specs.Machine.Judging.{directory_made, judging, symlink_made, whiteout_made}

-- where the two walks of rename(2) end, and that neither last word is special
pub record AreNames {N : Type 0} (eq : N → N → Bool) (looks : Looks N) (task : Task N) (old new : List ℕ)
    (from to : Place N) : Type 0 where
  pub from_end : old_leaf_walk eq looks task old ≡ Ok from
  pub from_named : NoneFails (old_word_rules from)
  pub to_end : rename_new_walk eq looks task new (is_directory_there eq looks from) ≡ Ok to
  pub to_named : NoneFails (old_word_rules to)

-- A call is granted a permit: one constructor for each way. `overfills` says whether a permit would leave a namespace
-- with over 4,096 mounts.
pub data IsGranted {N : Type 0} (eq : N → N → Bool) (looks : Looks N) (overfills : Permit N → Bool) (task : Task N)
    : Call → Permit N → Type 0 where
  -- open(2) with O_DIRECTORY, then getdents(2)
  lists_directory : (path : List ℕ) (here : Here N) → directory_walk eq looks task path ≡ Ok here
      → NoneFails (list_rules looks task here.location)
      → IsGranted eq looks overfills task (Ls path) (ToList here.location)
  -- stat(2)
  shows_object : (path : List ℕ) (here : Here N) → object_walk eq looks task path ≡ Ok here
      → IsGranted eq looks overfills task (Stat path) (ToStat here.location)
  -- lstat(2)
  shows_symlink : (path : List ℕ) (here : Here N) → symlink_walk eq looks task path ≡ Ok here
      → IsGranted eq looks overfills task (Lstat path) (ToStat here.location)
  -- readlink(2)
  reads_symlink : (path : List ℕ) (here : Here N) → symlink_walk eq looks task path ≡ Ok here
      → NoneFails (readlink_rules looks here.location)
      → IsGranted eq looks overfills task (Readlink path) (ToRead here.location)
  -- open(2) with O_RDONLY, then read(2) to the end
  reads_file : (path : List ℕ) (here : Here N) → object_walk eq looks task path ≡ Ok here
      → NoneFails (read_rules looks task here.location)
      → IsGranted eq looks overfills task (Read path) (ToRead here.location)
  -- execve(2), as far as it checks rights
  may_execute : (path : List ℕ) (here : Here N) → object_walk eq looks task path ≡ Ok here
      → NoneFails (exec_rules looks task here.location)
      → IsGranted eq looks overfills task (Exec path) Allowed
  -- open(2) with O_WRONLY, O_CREAT and O_TRUNC, then write(2), of a file that exists
  overwrites_file : (path bytes : List ℕ) (place : Place N) (file : Location N)
      → file_walk eq looks task path ≡ Ok place → NoneFails (file_word_rules place) → place.object ≡ Some file
      → NoneFails (rewrite_rules looks task file bytes)
      → IsGranted eq looks overfills task (Write path bytes) (ToChange file (SetBytes file.node bytes))
  -- the same, of a new file
  writes_new_file : (path bytes : List ℕ) (place : Place N) → file_walk eq looks task path ≡ Ok place
      → NoneFails (file_word_rules place) → place.object ≡ None
      → NoneFails ((nat_lt largest_file (length bytes), E6) ∷ [])
      → NoneFails (make_rules looks task place (unnumbered place (new_file task file_mode bytes)))
      → IsGranted eq looks overfills task (Write path bytes) (make_permit place (new_file task file_mode bytes))
  -- mkdir(2)
  makes_directory : (path : List ℕ) (mode : Option ℕ) (place : Place N) → new_walk eq looks task path ≡ Ok place
      → NoneFails (new_word_rules place
      ++ make_rules looks task place (unnumbered place (directory_made task place mode)))
      → IsGranted eq looks overfills task (Mkdir path mode) (make_permit place (directory_made task place mode))
  -- symlink(2)
  makes_symlink : (text path : List ℕ) (place : Place N) → NoneFails (symlink_text_rules text)
      → new_leaf_walk eq looks task path ≡ Ok place
      → NoneFails (new_word_rules place ++ make_rules looks task place (unnumbered place (symlink_made task text)))
      → IsGranted eq looks overfills task (SymlinkAt text path) (make_permit place (symlink_made task text))
  -- mknod(2) of the character device 0/0
  makes_whiteout : (path : List ℕ) (place : Place N) → new_leaf_walk eq looks task path ≡ Ok place
      → NoneFails (whiteout_rules looks task place)
      → IsGranted eq looks overfills task (MakeWhiteout path) (make_permit place (whiteout_made task))
  -- link(2)
  makes_hard_link : (old new : List ℕ) (from : Here N) (place : Place N)
      → symlink_walk eq looks task old ≡ Ok from → new_leaf_walk eq looks task new ≡ Ok place
      → NoneFails ((is_special place.last, E1) ∷ [])
      → NoneFails (hard_link_rules eq looks task from.location place (linking from.location place))
      → IsGranted eq looks overfills task (LinkTo old new) (ToChange place.parent (linking from.location place))
  -- unlink(2)
  unlinks : (path : List ℕ) (place : Place N) → old_leaf_walk eq looks task path ≡ Ok place
      → NoneFails ((is_special place.last, E2) ∷ []) → NoneFails (unlink_rules looks task place (object_there place))
      → IsGranted eq looks overfills task (Unlink path) (ToChange place.parent (removing place (object_there place)))
  -- rmdir(2)
  removes_directory : (path : List ℕ) (place : Place N) → old_walk eq looks task path ≡ Ok place
      → NoneFails (rmdir_word_rules place) → NoneFails (rmdir_rules eq looks task place (object_there place))
      → IsGranted eq looks overfills task (Rmdir path)
      (ToRemoveDirectory place.parent (name_of place.last) (object_there place))
  -- rename(2) of two names of one object: nothing is done
  keeps_names : (old new : List ℕ) (from to : Place N) → AreNames eq looks task old new from to
      → is_one_object eq looks (object_there from) to.object ≡ true → NoneFails (same_object_rules eq looks from to)
      → IsGranted eq looks overfills task (Rename old new) Allowed
  -- rename(2) of two names that are not of one object
  renames : (old new : List ℕ) (from to : Place N) → AreNames eq looks task old new from to
      → is_one_object eq looks (object_there from) to.object ≡ false
      → NoneFails (rename_rules eq looks task from to (object_there from))
      → IsGranted eq looks overfills task (Rename old new)
      (ToRename from.parent (name_of from.last) to.parent (name_of to.last) (object_there from) to.object)
  -- chmod(2)
  changes_mode : (path : List ℕ) (mode : ℕ) (here : Here N) → object_walk eq looks task path ≡ Ok here
      → NoneFails (attr_rules looks here.location (owns task.credentials (attr_at looks here.location))
      (attr_with_mode (attr_at looks here.location) mode))
      → IsGranted eq looks overfills task (Chmod path mode)
      (ToChange here.location (SetAttr here.location.node (attr_with_mode (attr_at looks here.location) mode)))
  -- chown(2)
  changes_owner : (path : List ℕ) (uid gid : Option ℕ) (here : Here N) → object_walk eq looks task path ≡ Ok here
      → NoneFails (attr_rules looks here.location
      (may_chown task.credentials (attr_at looks here.location) (attr_with_owner (attr_at looks here.location) uid gid))
      (attr_with_owner (attr_at looks here.location) uid gid))
      → IsGranted eq looks overfills task (Chown path uid gid)
      (ToChange here.location (SetAttr here.location.node (attr_with_owner (attr_at looks here.location) uid gid)))
  -- setxattr(2) of trusted.overlay.opaque
  changes_mark : (path : List ℕ) (mark : Bool) (here : Here N) → NoneFails (admin_rules task)
      → directory_walk eq looks task path ≡ Ok here → NoneFails (opaque_rules looks here.location)
      → IsGranted eq looks overfills task (Opaque path mark)
      (ToChange here.location (SetMark here.location.node mark))
  -- open(2)
  opens : (path : List ℕ) (access : Access) (here : Here N) → NoneFails (descriptor_rules task)
      → object_walk eq looks task path ≡ Ok here → NoneFails (open_rules looks task here.location access)
      → IsGranted eq looks overfills task (OpenFile path access NoCreation) (ToOpen here.location access)
  -- open(2) with O_CREAT, of a file that exists
  opens_existing : (path : List ℕ) (access : Access) (mode : ℕ) (place : Place N) (file : Location N)
      → NoneFails (descriptor_rules task) → file_walk eq looks task path ≡ Ok place
      → NoneFails (file_word_rules place) → place.object ≡ Some file → NoneFails (open_rules looks task file access)
      → IsGranted eq looks overfills task (OpenFile path access (OrCreate mode)) (ToOpen file access)
  -- open(2) with O_CREAT, of a new file
  creates : (path : List ℕ) (access : Access) (mode : ℕ) (place : Place N) → NoneFails (descriptor_rules task)
      → file_walk eq looks task path ≡ Ok place → NoneFails (file_word_rules place) → place.object ≡ None
      → NoneFails (make_rules looks task place (unnumbered place (new_file task mode [])))
      → IsGranted eq looks overfills task (OpenFile path access (OrCreate mode))
      (open_new_permit task place access mode)
  -- open(2) with O_CREAT and O_EXCL
  creates_exclusively : (path : List ℕ) (access : Access) (mode : ℕ) (place : Place N)
      → NoneFails (descriptor_rules task) → new_walk eq looks task path ≡ Ok place
      → NoneFails (exclusive_word_rules place ++ ((is_some place.object, E1) ∷ []))
      → NoneFails (make_rules looks task place (unnumbered place (new_file task mode [])))
      → IsGranted eq looks overfills task (OpenFile path access (Exclusive mode))
      (open_new_permit task place access mode)
  -- pread(2)
  reads_part : (number offset size : ℕ) (descriptor : Descriptor N)
      → descriptor_at task number (λ (d : Descriptor N). d.reads) ≡ Ok descriptor
      → IsGranted eq looks overfills task (Pread number offset size) (ToReadPart descriptor.location offset size)
  -- pwrite(2)
  writes_part : (number offset : ℕ) (bytes : List ℕ) (descriptor : Descriptor N)
      → descriptor_at task number (λ (d : Descriptor N). d.writes) ≡ Ok descriptor
      → NoneFails (pwrite_rules looks descriptor.location offset bytes)
      → IsGranted eq looks overfills task (Pwrite number offset bytes) (ToWritePart descriptor.location offset bytes)
  -- close(2)
  closes : (number : ℕ) (descriptor : Descriptor N)
      → descriptor_at task number (λ (d : Descriptor N). true) ≡ Ok descriptor
      → IsGranted eq looks overfills task (Close number) (ToClose number)
  -- chdir(2)
  changes_directory : (path : List ℕ) (here : Here N) → directory_walk eq looks task path ≡ Ok here
      → NoneFails (enter_rules looks task here.location)
      → IsGranted eq looks overfills task (Chdir path) (ToSetDirectory here.location)
  -- chroot(2)
  changes_root : (path : List ℕ) (here : Here N) → NoneFails ((lacks task cap_sys_chroot, K1) ∷ [])
      → directory_walk eq looks task path ≡ Ok here → NoneFails (enter_rules looks task here.location)
      → IsGranted eq looks overfills task (Chroot path) (ToSetRoot here.location)
  -- umask(2)
  changes_umask : (mode : ℕ) → IsGranted eq looks overfills task (Umask mode) (ToSetUmask (permission_bits mode))
  -- capset(2)
  drops_capabilities : (which : CapabilityWord)
      → IsGranted eq looks overfills task (Drop which)
      (ToSetCredentials (with_dropped task.credentials (capabilities_of which task.credentials)))
  -- fork(2)
  forks : (words : Option ForkWords) → NoneFails (fork_rules task (child_credentials task.credentials words))
      → IsGranted eq looks overfills task (Fork words) (ToFork (child_credentials task.credentials words))
  -- _exit(2)
  exits : IsGranted eq looks overfills task Exit ToExit
  -- unshare(2) with CLONE_NEWNS
  unshares : NoneFails (admin_rules task) → IsGranted eq looks overfills task Unshare ToUnshare
  -- setns(2)
  enters_namespace : (name : TaskName) (namespace : N)
      → ok_or (looks.namespace_called name) (denial S2) ≡ Ok namespace
      → NoneFails ((lacks task cap_sys_admin || lacks task cap_sys_chroot, K1) ∷ [])
      → IsGranted eq looks overfills task (Setns name) (ToEnterNamespace namespace)
  -- mount(2) of a tmpfs
  mounts_tmpfs : (path : List ℕ) (flags : MountFlags) (here : Here N) → NoneFails (admin_rules task)
      → destination_walk eq looks task path ≡ Ok here
      → NoneFails (new_mount_rules eq looks task here.location (overfills (ToMountPlain here.location flags)))
      → IsGranted eq looks overfills task (MountPlain path flags) (ToMountPlain here.location flags)
  -- mount(2) of an overlay
  mounts_overlayfs : (path : List ℕ) (words : OverlayWords) (flags : MountFlags) (here : Here N)
      (layers : LayerLocations N)
      → NoneFails (admin_rules task) → destination_walk eq looks task path ≡ Ok here
      → layers_walked eq looks task words ≡ Ok layers
      → NoneFails (layer_rules eq looks layers (overlay_at looks task layers))
      → NoneFails (new_mount_rules eq looks task here.location
      (overfills (ToMountOverlay here.location (overlay_at looks task layers) flags)))
      → IsGranted eq looks overfills task (MountOverlay path (Some words) flags)
      (ToMountOverlay here.location (overlay_at looks task layers) flags)
  -- mount(2) with MS_BIND, and with MS_REC
  binds : (source path : List ℕ) (recursive : Bool) (from here : Here N) → NoneFails (admin_rules task)
      → source_walk eq looks task source ≡ Ok from → destination_walk eq looks task path ≡ Ok here
      → NoneFails (bind_rules eq looks task from.location here.location
      (overfills (ToBind from.location here.location recursive)))
      → IsGranted eq looks overfills task (Bind source path recursive) (ToBind from.location here.location recursive)
  -- mount(2) with MS_MOVE
  moves_mount : (source path : List ℕ) (from here : Here N) → NoneFails (admin_rules task)
      → source_walk eq looks task source ≡ Ok from → destination_walk eq looks task path ≡ Ok here
      → NoneFails (move_rules eq looks task from.location here.location
      (overfills (ToMove from.location.mount here.location)))
      → IsGranted eq looks overfills task (MoveMount source path) (ToMove from.location.mount here.location)
  -- umount(2)
  unmounts : (path : List ℕ) (here : Here N) → NoneFails (admin_rules task)
      → directory_walk eq looks task path ≡ Ok here → NoneFails (umount_rules eq looks task here.location)
      → IsGranted eq looks overfills task (Umount path) (ToUnmount here.location.mount)
  -- umount(2) with MNT_DETACH
  unmounts_lazily : (path : List ℕ) (here : Here N) → NoneFails (admin_rules task)
      → directory_walk eq looks task path ≡ Ok here → NoneFails (lazy_rules eq looks task here.location)
      → IsGranted eq looks overfills task (Lazy path) (ToUnmountLazily here.location.mount)
  -- mount(2) with MS_REMOUNT and MS_BIND
  changes_flags : (path : List ℕ) (flags : MountFlags) (here : Here N) → NoneFails (admin_rules task)
      → directory_walk eq looks task path ≡ Ok here → NoneFails (remount_rules eq looks task here.location flags)
      → IsGranted eq looks overfills task (Remount path flags) (ToSetFlags here.location.mount flags)
  -- mount(2) with MS_SHARED, MS_SLAVE, MS_PRIVATE or MS_UNBINDABLE, and with MS_REC
  changes_type : (path : List ℕ) (word : TypeWord) (recursive : Bool) (here : Here N) → NoneFails (admin_rules task)
      → directory_walk eq looks task path ≡ Ok here → NoneFails (type_rules eq looks task here.location)
      → IsGranted eq looks overfills task (SetType path word recursive) (ToSetType here.location.mount word recursive)
  -- pivot_root(2)
  pivots_root : (new put : List ℕ) (root here : Here N) → NoneFails (admin_rules task)
      → source_walk eq looks task new ≡ Ok root → destination_walk eq looks task put ≡ Ok here
      → NoneFails (pivot_rules eq looks task root.location here.location)
      → IsGranted eq looks overfills task (PivotRoot new put) (ToPivot root.location.mount here.location)
  -- mountinfo of proc(5)
  lists_mounts : IsGranted eq looks overfills task ListMounts ToListMounts

-- no rule of two tables in one fails
none_of_both : (rules more : Rules) → NoneFails (rules ++ more) → NoneFails rules × NoneFails more
none_of_both [] more pass = (tt, pass)
none_of_both ((fails, rule) ∷ rows) more pass = let rest = none_of_both rows more pass.1 in ((pass.0, rest.0), rest.1)

module _ {N : Type 0} (eq : N → N → Bool) (looks : Looks N) (overfills : Permit N → Bool) (task : Task N) where
  -- the way of each call
  ways : (call : Call) → IfGranted eq looks overfills task (IsGranted eq looks overfills task call) (judging eq looks task call)
  unfolding judging
  ways (Ls path) = lists_directory path
  ways (Stat path) = shows_object path
  ways (Lstat path) = shows_symlink path
  ways (Readlink path) = reads_symlink path
  ways (Read path) = reads_file path
  ways (Exec path) = may_execute path
  ways (Write path bytes) = λ place end. (
    λ file there passed. overwrites_file path bytes place file end (passed.0, tt) there passed.1,
    λ missing passed. writes_new_file path bytes place end (passed.0, tt) missing (passed.1.0, tt) passed.1.1,
  )
  ways (Mkdir path mode) = makes_directory path mode
  ways (SymlinkAt text path) = λ fits place. makes_symlink text path place fits
  ways (MakeWhiteout path) = makes_whiteout path
  ways (LinkTo old new) = λ from from_end place end passed.
      makes_hard_link old new from place from_end end (passed.0, tt) passed.1
  ways (Unlink path) = λ place end passed. unlinks path place end (passed.0, tt) passed.1
  ways (Rmdir path) = removes_directory path
  ways (Rename old new) = λ from from_end from_named to to_end to_named.
      let names : AreNames eq looks task old new from to =
      record { from_end = from_end; from_named = from_named; to_end = to_end; to_named = to_named } in
      (keeps_names old new from to names, renames old new from to names)
  ways (Chmod path mode) = changes_mode path mode
  ways (Chown path uid gid) = changes_owner path uid gid
  ways (Opaque path mark) = λ admin here. changes_mark path mark here admin
  ways (OpenFile path access NoCreation) = λ room here. opens path access here room
  ways (OpenFile path access (OrCreate mode)) = λ room place end. (
    λ file there passed. opens_existing path access mode place file room end (passed.0, tt) there passed.1,
    λ missing passed. creates path access mode place room end (passed.0, tt) missing passed.1,
  )
  ways (OpenFile path access (Exclusive mode)) = λ room place end named passed.
      creates_exclusively path access mode place room end (named.0, (named.1.0, (passed.0, tt))) passed.1
  ways (Pread number offset size) = reads_part number offset size
  ways (Pwrite number offset bytes) = writes_part number offset bytes
  ways (Close number) = closes number
  ways (Chdir path) = changes_directory path
  ways (Chroot path) = λ capable here. changes_root path here capable
  ways (Umask mode) = changes_umask mode
  ways (Drop which) = drops_capabilities which
  ways (Fork words) = forks words
  ways Exit = exits
  ways Unshare = unshares
  ways (Setns name) = enters_namespace name
  ways (MountPlain path flags) = λ admin here. mounts_tmpfs path flags here admin
  ways (MountOverlay path None flags) = λ admin here end. tt
  ways (MountOverlay path (Some words) flags) = λ admin here end layers walked passed.
      let parts = none_of_both (layer_rules eq looks layers (overlay_at looks task layers))
      (new_mount_rules eq looks task here.location
      (overfills (ToMountOverlay here.location (overlay_at looks task layers) flags))) passed in
      mounts_overlayfs path words flags here layers admin end walked parts.0 parts.1
  ways (Bind source path recursive) = λ admin from from_end here. binds source path recursive from here admin from_end
  ways (MoveMount source path) = λ admin from from_end here. moves_mount source path from here admin from_end
  ways (Umount path) = λ admin here. unmounts path here admin
  ways (Lazy path) = λ admin here. unmounts_lazily path here admin
  ways (Remount path flags) = λ admin here. changes_flags path flags here admin
  ways (SetType path word recursive) = λ admin here. changes_type path word recursive here admin
  ways (PivotRoot new put) = λ admin root root_end here. pivots_root new put root here admin root_end
  ways ListMounts = lists_mounts

-- a call that is permitted is granted in one of these ways
pub calls_are_granted : {N : Type 0} (eq : N → N → Bool) (looks : Looks N) (overfills : Permit N → Bool) (task : Task N)
    (call : Call) (permit : Permit N) → judge eq looks overfills task call ≡ Ok permit
    → IsGranted eq looks overfills task call permit
calls_are_granted eq looks overfills task call permit e =
    holds_of_granted eq looks overfills task (IsGranted eq looks overfills task call) (judging eq looks task call) permit
    (ways eq looks overfills task call) (call_is_granted eq looks overfills task call permit e)
