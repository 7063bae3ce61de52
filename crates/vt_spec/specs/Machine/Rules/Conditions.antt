-- Conditions that many tables of rules share.
use Rattle.std.specs.List.{list_any}
use Rattle.std.specs.Prelude.{Bool, false, is_some, not, ℕ}
use Rattle.vt_spec.specs.FileTree.{attr_in, is_kind_in}
use Rattle.vt_spec.specs.Lists.{holds_of}
use Rattle.vt_spec.specs.Machine.Locked.{overlay_or}
use Rattle.vt_spec.specs.Machine.Looks.{Looks, may, mount_at, mounter_may}
use Rattle.vt_spec.specs.Machine.Mounts.{Location}
use Rattle.vt_spec.specs.Machine.World.{Task}
use Rattle.vt_spec.specs.Rights.{has_all, may_delete_sticky}
use Rattle.vt_spec.specs.declared.attributes.Kind.{Kind}

module _ {N : Type 0} where
  -- K1: the caller does not have a capability: capabilities(7)
  abbrev pub lacks : Task N → ℕ → Bool
  lacks task capability = not (has_all task.credentials.capabilities capability)

  -- F1: the mount is read-only: mount(2), MS_RDONLY
  abbrev pub is_read_only : Looks N → Location N → Bool
  is_read_only looks location = (mount_at looks location).flags.read_only

  -- F2: an overlay without an upper layer: the kernel's overlayfs document, "multiple lower layers"
  abbrev pub has_no_upper : Looks N → Location N → Bool
  has_no_upper looks location = overlay_or false (λ overlay. not (is_some overlay.upper)) (looks.overlay location)

  -- C1: the caller does not have a right: path_resolution(7), "Permissions"
  abbrev pub may_not : Looks N → Task N → Location N → ℕ → Bool
  may_not looks task location wanted = not (may looks task location wanted)

  -- B1: the mounter of the overlay there does not have a right: overlayfs, "permission model"
  abbrev pub mounter_may_not : Looks N → Location N → ℕ → Bool
  mounter_may_not looks location wanted = not (mounter_may looks location wanted)

  -- the object is of this kind: inode(7)
  abbrev pub kind_at : Looks N → Location N → Kind → Bool
  kind_at looks location kind = is_kind_in kind (looks.node location)

  -- C3: a sticky directory keeps the object: unlink(2), EPERM
  abbrev pub is_kept : Looks N → Task N → Location N → Location N → Bool
  is_kept looks task directory object =
      not (may_delete_sticky task.credentials (attr_in (looks.node directory)) (attr_in (looks.node object)))

  -- P1: a mount has this mount point: rename(2), EBUSY; in whatever namespace it is (profile)
  abbrev pub is_mount_point_anywhere : Looks N → Location N → Bool
  is_mount_point_anywhere looks location = list_any (λ mount. is_some mount.namespace) (looks.mounts_on location)

  -- the location's filesystem is an overlay
  abbrev pub is_overlay_at : Looks N → Location N → Bool
  is_overlay_at looks location = is_some (looks.overlay location)

module _ {N : Type 0} (eq : N → N → Bool) where
  -- M2: the mount is not in the caller's namespace: EINVAL of mount(2)
  abbrev pub is_elsewhere : Looks N → Task N → Location N → Bool
  is_elsewhere looks task location = not (holds_of (eq task.namespace) (mount_at looks location).namespace)

  -- M7: the location is not the root of its mount: EINVAL of umount(2)
  abbrev pub is_no_root : Looks N → Location N → Bool
  is_no_root looks location = not (eq location.node (mount_at looks location).root)

  -- P1: a mount of this namespace has this mount point: rmdir(2), EBUSY, mount_namespaces(7), "restrictions"
  abbrev pub is_mount_point_in : Looks N → N → Location N → Bool
  is_mount_point_in looks namespace location =
      list_any (λ mount. holds_of (eq namespace) mount.namespace) (looks.mounts_on location)
