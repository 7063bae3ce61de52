-- Each call asks the same wherever walks of theirs end.
use Rattle.std.proofs.Common.{◌≡◌, refl, subst, ℕ, nat_eq, nat_lt, Bool, true, List, [], ◌∷◌, ◌++◌, Some, None, Ok, is_some, length}
use Rattle.vt_spec.proofs.Common.{Call, Allowed, Among, Bind, Chdir, Chmod, Chown, Chroot, Close, Descriptor, Drop, Exclusive, Exec, Exit, Fork, Lazy, LinkTo, ListMounts, Looks, Ls, Lstat, MakeWhiteout, Mkdir, MountOverlay, MountPlain, MoveMount, NoCreation, Opaque, OpenFile, OrCreate, Permit, PivotRoot, Place, Pread, Pwrite, Read, Readlink, Remount, Rename, Rmdir, SetAttr, SetBytes, SetMark, SetType, Setns, Stat, SymlinkAt, Task, TaskName, ToBind, ToChange, ToList, ToMountPlain, ToMove, ToRead, ToSetDirectory, ToSetRoot, ToSetType, ToUnmountLazily, Umask, Umount, Unlink, Unshare, Write, attr_at, attr_rules, attr_with_mode, attr_with_owner, bind_rules, enter_rules, exec_rules, file_mode, file_word_rules, hard_link_rules, is_directory_there, is_elsewhere, is_no_root, is_read_only, is_special, largest_file, linking, list_rules, make_permit, make_rules, may_chown, mount_at, new_file, new_mount_rules, object_there, opaque_rules, owns, read_rules, readlink_rules, rename_new_walk, rewrite_rules, type_rules, unless, unnumbered, whiteout_rules}
use Rattle.vt_laws_members.proofs.judging.Judged.{AskedAlike, JudgesAlike, leads_alike, IsPlaced}
use Rattle.vt_laws_members.proofs.judging.JudgedFiles.{asked_alike, create_alike, made_alike, open_alike, there_own, unlink_alike}
use Rattle.vt_laws_members.proofs.judging.JudgedMoves.{TreesAlike, move_alike, unmount_alike}
use Rattle.vt_laws_members.proofs.judging.JudgedOverlays.{LayersAlike, layers_agree, overlay_alike}
use Rattle.vt_laws_members.proofs.judging.JudgedPivots.{ParentsAlike, flags_alike, pivot_alike}
use Rattle.vt_laws_members.proofs.judging.JudgedRemoving.{PointsAlike, RenamesAlike, nothing_alike, one_object_alike, rename_alike, rmdir_alike}
use Rattle.vt_laws_members.proofs.judging.WalksLead.{destination_agrees, directory_agrees, file_agrees, new_agrees, new_leaf_agrees, object_agrees, old_agrees, old_leaf_agrees, rename_new_agrees, same_directory_there, source_agrees, symlink_agrees, WalksAlike}
use Rattle.vt_spec.specs.Machine.Judging.{directory_made, judging, symlink_made, whiteout_made}
use Rattle.vt_laws_members.proofs.Common.{Agree, E6}
use Rattle.vt_spec.specs.declared.errors.Rule.TheVariants.{E1}
use Rattle.vt_spec.specs.Machine.Rules.Mounting.{lazy_rules}

module _ {one other : Looks ℕ} {task : Task ℕ} {own uses : ℕ → Bool} (alike : JudgesAlike one other task own uses)
    (points : PointsAlike one other task own) (renames : RenamesAlike one other own)
    (parents : ParentsAlike one other task own) (trees : TreesAlike one other task own)
    (layers : LayersAlike one other uses) (locked : (descriptor : Descriptor ℕ) → Among descriptor task.descriptors
    → one.is_locked descriptor.location ≡ other.is_locked descriptor.location) (overfills : Permit ℕ → Bool) where
  abbrev On : ℕ → Type 0
  On number = own number ≡ true

  abbrev leads : WalksAlike one other task On
  leads = leads_alike alike

  -- the new name of a rename
  renamed_agrees : (from : Place ℕ) → IsPlaced alike from → (path : List ℕ) → Agree (IsPlaced alike)
      (rename_new_walk nat_eq one task path (is_directory_there nat_eq one from))
      (rename_new_walk nat_eq other task path (is_directory_there nat_eq other from))
  renamed_agrees from at path = subst (λ directory. Agree (IsPlaced alike)
      (rename_new_walk nat_eq one task path (is_directory_there nat_eq one from))
      (rename_new_walk nat_eq other task path directory)) (same_directory_there leads from at)
      (rename_new_agrees leads path (is_directory_there nat_eq one from))

  pub calls_asked : (call : Call)
      → ((name : TaskName) → call ≡ Setns name → one.namespace_called name ≡ other.namespace_called name)
      → AskedAlike alike overfills (judging nat_eq one task call) (judging nat_eq other task call)
  unfolding judging
  calls_asked (Ls path) called = (
    directory_agrees leads path,
    λ here on. asked_alike alike
        (λ looks. unless (list_rules looks task here.location) (Ok (ToList here.location))) (λ looks. rw on refl),
  )
  calls_asked (Stat path) called = (object_agrees leads path, λ here on. refl)
  calls_asked (Lstat path) called = (symlink_agrees leads path, λ here on. refl)
  calls_asked (Readlink path) called = (
    symlink_agrees leads path,
    λ here on. asked_alike alike
        (λ looks. unless (readlink_rules looks here.location) (Ok (ToRead here.location))) (λ looks. rw on refl),
  )
  calls_asked (Read path) called = (
    object_agrees leads path,
    λ here on. asked_alike alike
        (λ looks. unless (read_rules looks task here.location) (Ok (ToRead here.location))) (λ looks. rw on refl),
  )
  calls_asked (Exec path) called = (
    object_agrees leads path,
    λ here on. asked_alike alike
        (λ looks. unless (exec_rules looks task here.location) (Ok Allowed)) (λ looks. rw on refl),
  )
  calls_asked (Write path bytes) called = (
    file_agrees leads path,
    λ place at. (
      refl,
      λ file there. let on : On file.mount = at.1 file there in asked_alike alike
          (λ looks. unless (file_word_rules place ++ rewrite_rules looks task file bytes)
          (Ok (ToChange file (SetBytes file.node bytes)))) (λ looks. rw (is_read_only, on) refl),
      let on : On place.parent.mount = at.0 in asked_alike alike
          (λ looks. unless (file_word_rules place ++ ((nat_lt largest_file (length bytes), E6)
          ∷ make_rules looks task place (unnumbered place (new_file task file_mode bytes))))
          (Ok (make_permit place (new_file task file_mode bytes)))) (λ looks. rw (is_read_only, on) refl),
    ),
  )
  calls_asked (Mkdir path mode) called =
      (new_agrees leads path, λ place at. made_alike alike place (directory_made task place mode) at.0)
  calls_asked (SymlinkAt text path) called =
      (refl, (new_leaf_agrees leads path, λ place at. made_alike alike place (symlink_made task text) at.0))
  calls_asked (MakeWhiteout path) called = (
    new_leaf_agrees leads path,
    λ place at.
        let on : On place.parent.mount = at.0 in asked_alike alike
        (λ looks. unless (whiteout_rules looks task place) (Ok (make_permit place (whiteout_made task))))
        (λ looks. rw (is_read_only, on) refl),
  )
  calls_asked (LinkTo old new) called = (
    symlink_agrees leads old,
    λ from there. (
      new_leaf_agrees leads new,
      λ place at. let on : On place.parent.mount = at.0 in asked_alike alike
          (λ looks. unless ((is_special place.last, E1)
          ∷ hard_link_rules nat_eq looks task from.location place (linking from.location place))
          (Ok (ToChange place.parent (linking from.location place)))) (λ looks. rw (is_read_only, there, on) refl),
    ),
  )
  calls_asked (Unlink path) called = (
    old_leaf_agrees leads path,
    λ place at.
        unlink_alike alike place (object_there place) at.0 (there_own alike place at),
  )
  calls_asked (Rmdir path) called = (
    old_agrees leads path,
    λ place at.
        (refl, rmdir_alike alike points place (object_there place) at.0 (there_own alike place at)),
  )
  calls_asked (Rename old new) called = (
    old_leaf_agrees leads old,
    λ from at. (
      refl,
      (
        renamed_agrees from at new,
        λ to stands. let on_old : On (object_there from).mount = there_own alike from at in (
          refl,
          (
            one_object_alike alike points renames from to (object_there from) at.0 stands.0 on_old to.object stands.1,
            nothing_alike alike points renames from to (object_there from) at.0 stands.0 on_old,
            rename_alike alike points renames from to (object_there from) at.0 stands.0 on_old to.object stands.1,
          ),
        ),
      ),
    ),
  )
  calls_asked (Chmod path mode) called = (
    object_agrees leads path,
    λ here on. asked_alike alike
        (λ looks. unless (attr_rules looks here.location (owns task.credentials (attr_at looks here.location))
        (attr_with_mode (attr_at looks here.location) mode))
        (Ok (ToChange here.location (SetAttr here.location.node (attr_with_mode (attr_at looks here.location) mode)))))
        (λ looks. rw (is_read_only, on) refl),
  )
  calls_asked (Chown path uid gid) called = (
    object_agrees leads path,
    λ here on. asked_alike alike
        (λ looks. unless (attr_rules looks here.location (may_chown task.credentials (attr_at looks here.location)
        (attr_with_owner (attr_at looks here.location) uid gid))
        (attr_with_owner (attr_at looks here.location) uid gid)) (Ok (ToChange here.location
        (SetAttr here.location.node (attr_with_owner (attr_at looks here.location) uid gid)))))
        (λ looks. rw (is_read_only, on) refl),
  )
  calls_asked (Opaque path mark) called = (
    refl,
    (
      directory_agrees leads path,
      λ here on. asked_alike alike
          (λ looks. unless (opaque_rules looks here.location)
          (Ok (ToChange here.location (SetMark here.location.node mark)))) (λ looks. rw (is_read_only, on) refl),
    ),
  )
  calls_asked (OpenFile path access NoCreation) called =
      (refl, (object_agrees leads path, λ here on. open_alike alike [] here.location access on))
  calls_asked (OpenFile path access (OrCreate mode)) called = (
    refl,
    (
      file_agrees leads path,
      λ place at. (
        refl,
        λ file there. open_alike alike (file_word_rules place) file access (at.1 file there),
        create_alike alike (file_word_rules place) place access mode at.0,
      ),
    ),
  )
  calls_asked (OpenFile path access (Exclusive mode)) called = (
    refl,
    (
      new_agrees leads path,
      λ place at.
          (refl, create_alike alike ((is_some place.object, E1) ∷ []) place access mode at.0),
    ),
  )
  calls_asked (Pread number offset size) called = (refl, λ descriptor m. refl)
  calls_asked (Pwrite number offset bytes) called = (refl, λ descriptor m. cc (locked descriptor m))
  calls_asked (Close number) called = (refl, λ descriptor m. refl)
  calls_asked (Chdir path) called = (
    directory_agrees leads path,
    λ here on. asked_alike alike
        (λ looks. unless (enter_rules looks task here.location) (Ok (ToSetDirectory here.location)))
        (λ looks. rw on refl),
  )
  calls_asked (Chroot path) called = (
    refl,
    (
      directory_agrees leads path,
      λ here on. asked_alike alike
          (λ looks. unless (enter_rules looks task here.location) (Ok (ToSetRoot here.location))) (λ looks. rw on refl),
    ),
  )
  calls_asked (Umask mode) called = refl
  calls_asked (Drop which) called = refl
  calls_asked (Fork words) called = (refl, refl)
  calls_asked Exit called = refl
  calls_asked Unshare called = (refl, refl)
  calls_asked (Setns name) called = (called name refl, λ namespace. (refl, refl))
  calls_asked (MountPlain path flags) called = (
    refl,
    (
      destination_agrees leads path,
      λ here on. asked_alike alike
          (λ looks. unless (new_mount_rules nat_eq looks task here.location (overfills (ToMountPlain here.location flags)))
          (Ok (ToMountPlain here.location flags))) (λ looks. rw (is_elsewhere, mount_at, on) refl),
    ),
  )
  calls_asked (MountOverlay path None flags) called = (refl, (destination_agrees leads path, λ here on. refl))
  calls_asked (MountOverlay path (Some words) flags) called = (
    refl,
    (
      destination_agrees leads path,
      λ here on. (
        layers_agree task own alike layers words,
        λ found all. overlay_alike task own alike layers overfills here.location on flags found all,
      ),
    ),
  )
  calls_asked (Bind source path recursive) called = (
    refl,
    (
      source_agrees leads source,
      λ from there. (
        destination_agrees leads path,
        λ here on. asked_alike alike
            (λ looks. unless (bind_rules nat_eq looks task from.location here.location
            (overfills (ToBind from.location here.location recursive)))
            (Ok (ToBind from.location here.location recursive))) (λ looks. rw (is_elsewhere, mount_at, there, on) refl),
      ),
    ),
  )
  calls_asked (MoveMount source path) called = (
    refl,
    (
      source_agrees leads source,
      λ from there. (
        destination_agrees leads path,
        λ here on. move_alike uses alike parents trees
            (overfills (ToMove from.location.mount here.location)) from.location here.location there on,
      ),
    ),
  )
  calls_asked (Umount path) called = (
    refl,
    (
      directory_agrees leads path,
      λ here on.
          unmount_alike uses alike parents trees here.location on,
    ),
  )
  calls_asked (Lazy path) called = (
    refl,
    (
      directory_agrees leads path,
      λ here on. asked_alike alike
          (λ looks. unless (lazy_rules nat_eq looks task here.location) (Ok (ToUnmountLazily here.location.mount)))
          (λ looks. rw (is_elsewhere, is_no_root, mount_at, on) refl),
    ),
  )
  calls_asked (Remount path flags) called = (
    refl,
    (
      directory_agrees leads path,
      λ here on.
          flags_alike uses alike parents flags here.location on,
    ),
  )
  calls_asked (SetType path word recursive) called = (
    refl,
    (
      directory_agrees leads path,
      λ here on. asked_alike alike
          (λ looks. unless (type_rules nat_eq looks task here.location)
          (Ok (ToSetType here.location.mount word recursive)))
          (λ looks. rw (is_elsewhere, is_no_root, mount_at, on) refl),
    ),
  )
  calls_asked (PivotRoot new put) called = (
    refl,
    (
      source_agrees leads new,
      λ root there.
          (destination_agrees leads put, λ here on. pivot_alike uses alike parents root.location here.location there on),
    ),
  )
  calls_asked ListMounts called = refl
