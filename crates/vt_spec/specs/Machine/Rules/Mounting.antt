-- The walks and rules of mount calls.
use Rattle.std.specs.List.{list_any}
use Rattle.std.specs.Prelude.{Bool, List, None, Ok, Option, Result, Some, [], false, if◌then◌else◌, is_some, length, map, nat_lt, not, option_map, option_to_list, true, ℕ, ◌&&◌, ◌++◌, ◌||◌, ◌∷◌}
use Rattle.vt_spec.specs.Language.Limits.{most_lowers}
use Rattle.vt_spec.specs.Errors.{Rules, and_then}
use Rattle.vt_spec.specs.Language.Calls.{MountFlags, OverlayWords}
use Rattle.vt_spec.specs.Lists.{any_pair, chain, holds_of, is_empty_list, rest_of}
use Rattle.vt_spec.specs.Machine.Locked.{upper_and_work}
use Rattle.vt_spec.specs.Machine.Looks.{Looks, mount_at, topmost}
use Rattle.vt_spec.specs.Machine.Mounts.{Location, is_shared, is_unbindable}
use Rattle.vt_spec.specs.Machine.Rules.Conditions.{is_elsewhere, is_no_root, is_overlay_at, is_read_only, lacks}
use Rattle.vt_spec.specs.Machine.Walking.{Here, Stop, directory_walk, then_walk, walk_end, walk_unless}
use Rattle.vt_spec.specs.Machine.World.{Layer, Overlay, Task}
use Rattle.vt_spec.specs.Rights.{cap_sys_admin}
use Rattle.vt_spec.specs.declared.errors.Deny.{Deny}
use Rattle.vt_spec.specs.declared.errors.Rule.TheVariants.{K1, M10, M11, M12, M2, M3, M4, M5, M6, M7, M8, M9, O2, O3, O5, W8}

-- a work directory without an upper one is not walked (profile)
abbrev pub work_walked : OverlayWords → Option (List ℕ)
work_walked words = if is_some words.upper then words.work else None

-- the locations of an overlay's layers, as their paths were walked
pub record LayerLocations (N : Type 0) : Type 0 where
  pub lowers : List (Location N)
  pub upper : Option (Location N)
  pub work : Option (Location N)

module _ {N : Type 0} where
  -- the locations of all layers
  abbrev pub layer_locations : LayerLocations N → List (Location N)
  layer_locations layers = layers.lowers ++ option_to_list layers.upper ++ option_to_list layers.work

  -- the locations of the upper and the work directory
  abbrev pub upper_and_work_locations : LayerLocations N → List (Location N)
  upper_and_work_locations layers = option_to_list layers.upper ++ option_to_list layers.work

  -- there is exactly one lower layer
  abbrev pub has_single_lower : List (Location N) → Bool
  has_single_lower [] = false
  has_single_lower (lower ∷ []) = true
  has_single_lower (lower ∷ other ∷ rest) = false

  -- K1: CAP_SYS_ADMIN, mount(2)
  abbrev pub admin_rules : Task N → Rules
  admin_rules task = (lacks task cap_sys_admin, K1) ∷ []

  -- the root of the topmost mount over the location reached
  abbrev pub at_topmost : Looks N → Here N → Here N
  at_topmost looks here = record here { location = topmost looks here.location }

  -- the directory at a location, as a layer
  abbrev pub layer_at : Looks N → Location N → Layer N
  layer_at looks location = record { filesystem = (mount_at looks location).filesystem; directory = location.node }

  -- a new overlay of these layers, with the task as its mounter, before any inode has a real object: overlayfs,
  -- "permission model"
  abbrev pub overlay_at : Looks N → Task N → LayerLocations N → Overlay N
  overlay_at looks task layers = record {
    upper = option_map (layer_at looks) layers.upper;
    work = option_map (layer_at looks) layers.work;
    lowers = map (layer_at looks) layers.lowers;
    mounter = task.credentials;
    real = λ number. None;
  }

  -- O2: the upper and the work directory overlap: overlayfs, "upper and lower"
  abbrev pub upper_overlaps_work : Looks N → Overlay N → Bool
  upper_overlaps_work looks overlay =
      list_any (looks.overlaps_one_of (option_to_list overlay.work)) (option_to_list overlay.upper)

  -- O5: the upper or the work directory overlaps a lower layer: overlayfs, "sharing and copying layers"
  abbrev pub overlap_upward : Looks N → Overlay N → Bool
  overlap_upward looks overlay =
      list_any (looks.overlaps_one_of overlay.lowers) (upper_and_work overlay)

  -- the location's mount has a shared parent: mount(2), MS_MOVE, EINVAL
  abbrev pub has_shared_parent : Looks N → Location N → Bool
  has_shared_parent looks source =
      holds_of (λ point. is_shared (mount_at looks point).propagation) (mount_at looks source).mount_point

module _ {N : Type 0} (eq : N → N → Bool) where
  -- a source, or a layer: a directory that is not removed (profile)
  abbrev pub source_walk : Looks N → Task N → List ℕ → Result (Here N) (Stop N)
  source_walk looks task path =
      then_walk (directory_walk eq looks task path) (λ here.
      walk_unless here.steps ((looks.is_removed here.location, W8) ∷ []) here)

  -- a destination: a directory that is not removed (profile), then the root of the topmost mount over it: mount(2)
  abbrev pub destination_walk : Looks N → Task N → List ℕ → Result (Here N) (Stop N)
  destination_walk looks task path =
      then_walk (source_walk looks task path) (λ here.
      walk_unless here.steps ((looks.is_removed (topmost looks here.location), W8) ∷ []) (at_topmost looks here))

  -- a new mount: EINVAL, ENOSPC of mount(2)
  abbrev pub new_mount_rules : Looks N → Task N → Location N → (overfull : Bool) → Rules
  new_mount_rules looks task destination overfull =
      (is_elsewhere eq looks task destination, M2)
      ∷ (overfull, M9)
      ∷ []

  -- the paths walked in their order, until one is refused
  abbrev pub each_walked : Looks N → Task N → List (List ℕ) → Result (List (Location N)) Deny
  each_walked looks task [] = Ok []
  each_walked looks task (path ∷ paths) =
      and_then (walk_end (source_walk looks task path)) (λ here.
      and_then (each_walked looks task paths) (λ rest. Ok (here.location ∷ rest)))

  -- a path walked, if it is given
  abbrev pub walked_if_given : Looks N → Task N → Option (List ℕ) → Result (Option (Location N)) Deny
  walked_if_given looks task None = Ok None
  walked_if_given looks task (Some path) =
      and_then (walk_end (source_walk looks task path)) (λ here. Ok (Some here.location))

  -- the lower layers are walked from the top down, then the upper and the work directory (profile)
  abbrev pub layers_walked : Looks N → Task N → OverlayWords → Result (LayerLocations N) Deny
  layers_walked looks task words =
      and_then (each_walked looks task words.lowers) (λ lowers.
      and_then (walked_if_given looks task words.upper) (λ upper.
      and_then (walked_if_given looks task (work_walked words)) (λ work.
      Ok (record { lowers = lowers; upper = upper; work = work }))))

  -- O2: the upper and the work directory are in two filesystems: overlayfs, "upper and lower"
  abbrev pub lie_apart : Looks N → Overlay N → Bool
  lie_apart looks overlay =
      any_pair (λ a b. not (eq a.filesystem b.filesystem)) (upper_and_work overlay)

  -- O5: of two lower layers one is at or under the other
  abbrev pub one_under_another : Looks N → Layer N → Layer N → Bool
  one_under_another looks a b =
      eq a.filesystem b.filesystem
      && (looks.is_under a.filesystem a.directory b.directory || looks.is_under a.filesystem b.directory a.directory)

  -- the kernel's overlayfs document, "multiple lower layers", "sharing and copying layers"; EINVAL, EBUSY, ELOOP
  abbrev pub layer_rules : Looks N → LayerLocations N → Overlay N → Rules
  layer_rules looks layers overlay =
      (is_empty_list layers.lowers, O2)
      ∷ (has_single_lower layers.lowers && not (is_some layers.upper), O2)
      ∷ (is_some layers.upper && not (is_some layers.work), O2)
      ∷ (nat_lt most_lowers (length layers.lowers), O2)
      ∷ (list_any (is_overlay_at looks) (layer_locations layers), O2)
      ∷ (lie_apart looks overlay, O2)
      ∷ (upper_overlaps_work looks overlay, O2)
      ∷ (list_any (is_read_only looks) (upper_and_work_locations layers), O2)
      ∷ (looks.is_in_use overlay, O3)
      ∷ (any_pair (one_under_another looks) overlay.lowers, O5)
      ∷ (overlap_upward looks overlay, O5)
      ∷ []

  -- mount(2) with MS_BIND, and with MS_REC: EINVAL, ENOSPC
  abbrev pub bind_rules : Looks N → Task N → Location N → Location N → (overfull : Bool) → Rules
  bind_rules looks task source destination overfull =
      (is_elsewhere eq looks task source || is_elsewhere eq looks task destination, M2)
      ∷ (is_unbindable (mount_at looks source).propagation, M3)
      ∷ (overfull, M9)
      ∷ []

  -- mount(2) with MS_MOVE: EINVAL, ELOOP, ENOSPC
  abbrev pub move_rules : Looks N → Task N → Location N → Location N → (overfull : Bool) → Rules
  move_rules looks task source destination overfull =
      (is_elsewhere eq looks task source || is_elsewhere eq looks task destination, M2)
      ∷ (has_shared_parent looks source, M4)
      ∷ (
        is_shared (mount_at looks destination).propagation
            && list_any (λ mount. is_unbindable mount.propagation) (looks.mount_tree source.mount),
        M5,
      )
      ∷ (list_any (λ mount. eq mount.number destination.mount) (looks.mount_tree source.mount), M6)
      ∷ (is_no_root eq looks source, M7)
      ∷ (overfull, M9)
      ∷ (not (is_some (mount_at looks source).mount_point), M10)
      ∷ []

  -- umount(2): EINVAL, EBUSY
  abbrev pub umount_rules : Looks N → Task N → Location N → Rules
  umount_rules looks task here =
      (is_elsewhere eq looks task here, M2)
      ∷ (is_no_root eq looks here, M7)
      ∷ (looks.is_busy here.mount, M8)
      ∷ (not (is_some (mount_at looks here).mount_point), M10)
      ∷ []

  -- umount(2) with MNT_DETACH: EINVAL
  abbrev pub lazy_rules : Looks N → Task N → Location N → Rules
  lazy_rules looks task here =
      (is_elsewhere eq looks task here, M2)
      ∷ (is_no_root eq looks here, M7)
      ∷ (not (is_some (mount_at looks here).mount_point), M10)
      ∷ []

  -- mount(2) with MS_REMOUNT and MS_BIND: EINVAL, EBUSY
  abbrev pub remount_rules : Looks N → Task N → Location N → MountFlags → Rules
  remount_rules looks task here flags =
      (is_elsewhere eq looks task here, M2)
      ∷ (is_no_root eq looks here, M7)
      ∷ (flags.read_only && looks.is_written_through here.mount, M8)
      ∷ []

  -- mount(2) with MS_SHARED, MS_SLAVE, MS_PRIVATE or MS_UNBINDABLE, and with MS_REC: EINVAL
  abbrev pub type_rules : Looks N → Task N → Location N → Rules
  type_rules looks task here =
      (is_elsewhere eq looks task here, M2)
      ∷ (is_no_root eq looks here, M7)
      ∷ []

  -- a location is at or under a directory, as seen through the mounts on the way up from it
  abbrev pub lies_under_location : Looks N → Location N → Location N → Bool
  lies_under_location looks top here =
      list_any (λ location. eq top.mount location.mount
      && looks.is_under (mount_at looks top).filesystem top.node location.node)
      (chain looks.mount_count (λ location. (mount_at looks location).mount_point) here)

  -- the location's mount is a descendant of the mount
  abbrev pub is_on_descendant : Looks N → N → Location N → Bool
  is_on_descendant looks mount here =
      list_any (λ location. eq mount location.mount)
      (rest_of (chain looks.mount_count (λ location. (mount_at looks location).mount_point) here))

  -- pivot_root(2): EINVAL, EBUSY; the new mount takes the root mount's mount point
  abbrev pub pivot_rules : Looks N → Task N → Location N → Location N → Rules
  pivot_rules looks task new put =
      (list_any (is_elsewhere eq looks task) (task.root ∷ new ∷ put ∷ []), M2)
      ∷ (is_no_root eq looks new || is_no_root eq looks task.root, M7)
      ∷ (eq new.mount task.root.mount || eq put.mount task.root.mount, M11)
      ∷ (
        not (is_on_descendant looks task.root.mount new) || not (lies_under_location looks new put)
            || has_shared_parent looks new || has_shared_parent looks task.root
            || is_shared (mount_at looks put).propagation,
        M12,
      )
      ∷ []
