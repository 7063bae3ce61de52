-- The lists of mounts and of peer groups: mountinfo of proc(5), in the profile's form. Filesystems and groups are
-- numbered by where they first stand in the list, from left to right.
use Rattle.std.specs.Prelude.{Bool, List, None, Option, Some, [], filter, find, flat_map, map, not, option_and_then, option_map, option_to_list, unwrap_or, ℕ, ◌&&◌, ◌∷◌}
use Rattle.vt_spec.specs.FileTree.{path_down}
use Rattle.vt_spec.specs.Lists.{counted_from, each_once, holds_of, index_from}
use Rattle.vt_spec.specs.Machine.Mounts.{Location, Mount, Propagation, is_shared, source_of}
use Rattle.vt_spec.specs.Machine.Mounts.Propagation.{Private, Shared, Slave, Unbindable}
use Rattle.vt_spec.specs.Language.Answers.{MountLine, PeerLine, Spot, TypeLine}
use Rattle.vt_spec.specs.Language.Answers.Spot.{Gone, Reached}
use Rattle.vt_spec.specs.Language.Answers.TypeLine.{PrivateLine, SharedLine, SlaveLine, UnbindableLine}
use Rattle.vt_spec.specs.Machine.Receives.{is_member_of}
use Rattle.vt_spec.specs.Machine.World.{Namespace, World, filesystem_numbered, is_overlay, mounts_of}

-- the path from one directory of a filesystem to another, or that there is none any more
abbrev pub spot_of : Option (List (List ℕ)) → Spot
spot_of None = Gone
spot_of (Some path) = Reached path

module _ {N : Type 0} where
  -- the groups of a mount as its line shows them
  abbrev pub groups_in_type : World N → Propagation N → List N
  groups_in_type world (Shared group) = group ∷ option_to_list (world.master group)
  groups_in_type world (Slave master) = master ∷ []
  groups_in_type world Private = []
  groups_in_type world Unbindable = []

  -- the groups that a mount's line shows
  abbrev pub groups_shown : World N → Mount N → List N
  groups_shown world mount = groups_in_type world mount.propagation

module _ {N : Type 0} (eq : N → N → Bool) where
  -- the index of a number in a list, from 1 on
  abbrev pub number_among : List N → N → ℕ
  number_among seen number = unwrap_or (index_from (eq number) 1 seen) 0

  -- the groups of these mounts, each once, as their lines show them from left to right
  abbrev pub groups_seen : World N → List (Mount N) → List N
  groups_seen world mounts = each_once eq (flat_map (groups_shown world) mounts)

  -- the filesystems of these mounts, each once, in their order
  abbrev pub filesystems_seen : List (Mount N) → List N
  filesystems_seen mounts = each_once eq (map (λ mount. mount.filesystem) mounts)

  -- the propagation type of a mount as its line shows it: optional fields in mountinfo, proc(5)
  abbrev pub type_line : World N → List N → Propagation N → TypeLine
  type_line world seen (Shared group) =
      SharedLine (number_among seen group) (option_map (number_among seen) (world.master group))
  type_line world seen (Slave master) = SlaveLine (number_among seen master)
  type_line world seen Private = PrivateLine
  type_line world seen Unbindable = UnbindableLine

  -- the path from the root of the parent to the mount point; there is none where the parent is not there
  abbrev pub mount_point_spot : World N → Location N → Spot
  mount_point_spot world point = spot_of (option_and_then
      (λ mount. path_down eq (filesystem_numbered eq world mount.filesystem).files mount.root point.node)
      (find (λ mount. eq point.mount mount.number) world.mounts))

  -- the path of a mount's root in its filesystem
  abbrev pub root_spot : World N → Mount N → Spot
  root_spot world mount =
      spot_of (path_down eq (filesystem_numbered eq world mount.filesystem).files
      (filesystem_numbered eq world mount.filesystem).files.tree.root mount.root)

  -- a mount's line in the list of its namespace: mountinfo of proc(5)
  abbrev pub mount_line : World N → List (Mount N) → Mount N → MountLine
  mount_line world mounts mount = record {
    mount_point = option_map
        (λ point. (number_among (map (λ other. other.number) mounts) point.mount, mount_point_spot world point))
        mount.mount_point;
    overlay = is_overlay (filesystem_numbered eq world mount.filesystem);
    filesystem = number_among (filesystems_seen mounts) mount.filesystem;
    root = root_spot world mount;
    flags = mount.flags;
    kind = type_line world (groups_seen world mounts) mount.propagation;
  }

  -- the mounts attached in a namespace, in order of attachment
  abbrev pub mount_lines : World N → N → List MountLine
  mount_lines world namespace = map (mount_line world (mounts_of eq world namespace)) (mounts_of eq world namespace)

  -- the mounts of one namespace, each with the index of its namespace and its own in it
  abbrev pub attached_in : World N → ℕ × Namespace N → List (ℕ × ℕ × Mount N)
  attached_in world namespace =
      map (λ mount. (namespace.0, mount.0, mount.1)) (counted_from 1 (mounts_of eq world namespace.1.number))

  -- the mounts of all namespaces, those in order of creation
  abbrev pub all_attached : World N → List (ℕ × ℕ × Mount N)
  all_attached world = flat_map (attached_in world) (counted_from 1 world.namespaces)

  -- a slave of a group that is in no group itself
  abbrev pub is_slave_of : N → Mount N → Bool
  is_slave_of group mount = not (is_shared mount.propagation) && holds_of (eq group) (source_of mount.propagation)

  -- the indices of all mounts that pass a test
  abbrev pub indices_with : World N → (Mount N → Bool) → List (ℕ × ℕ)
  indices_with world test = map (λ mount. (mount.0, mount.1)) (filter (λ mount. test mount.2) (all_attached world))

  -- the line of a peer group: its master, members and slaves (profile)
  abbrev pub peer_line : World N → List N → N → PeerLine
  peer_line world seen group = record {
    group = number_among seen group;
    master = option_map (number_among seen) (world.master group);
    peers = indices_with world (is_member_of eq group);
    slaves = indices_with world (is_slave_of group);
  }

  -- the lines of all peer groups, in the order in which mounts show them
  abbrev pub peer_lines : World N → List PeerLine
  peer_lines world =
      map (peer_line world (groups_seen world (map (λ mount. mount.2) (all_attached world))))
      (groups_seen world (map (λ mount. mount.2) (all_attached world)))
