-- Tasks that are sealed off: no other task has a mount, a location or a layer where theirs are (profile).
use Rattle.std.specs.Prelude.{Bool, List, None, Option, Some, [], false, filter, filter_map, flat_map, if◌then◌else◌, is_some, map, not, option_to_list, ◌&&◌, ◌++◌, ◌||◌, ◌∷◌}
use Rattle.std.specs.List.{list_all, list_any}
use Rattle.vt_spec.specs.declared.errors.Rule.TheVariants.{S2}
use Rattle.vt_spec.specs.Language.Calls.{Directive, TaskName, plain_flags, same_name}
use Rattle.vt_spec.specs.Language.Calls.Directive.{AskPeers, AskSealed}
use Rattle.vt_spec.specs.FileTree.{FileTree}
use Rattle.vt_spec.specs.Machine.Listing.{peer_lines}
use Rattle.vt_spec.specs.Lists.{each_once, holds_of, is_among, when}
use Rattle.vt_spec.specs.Machine.Locked.{lies_in_layer, of_overlay, overlays}
use Rattle.vt_spec.specs.Machine.Mounts.{Location, Mount, Propagation, detached, group_of}
use Rattle.vt_spec.specs.Machine.Mounts.Propagation.{Private, Shared, Slave, Unbindable}
use Rattle.vt_spec.specs.Machine.Outcomes.{Outcome, granted, judged}
use Rattle.vt_spec.specs.Language.Answers.Answer.{PeerList, YesNo}
use Rattle.vt_spec.specs.Machine.Receives.{is_member_of}
use Rattle.vt_spec.specs.Machine.Settled.{has_layer_on, named_in, only_among}
use Rattle.vt_spec.specs.Machine.World.{Filesystem, Layer, Task, World, filesystem_numbered, locations_of, mount_at, task_called}

module _ {N : Type 0} where
  -- the task is one of those of these names
  abbrev pub is_member_task : List TaskName → Task N → Bool
  is_member_task names task = is_among same_name task.name names

  -- the tasks of these names
  abbrev pub members : World N → List TaskName → List (Task N)
  members world names = filter (is_member_task names) world.tasks

  -- all other tasks
  abbrev pub outsiders : World N → List TaskName → List (Task N)
  outsiders world names = filter (λ task. not (is_member_task names task)) world.tasks

  -- the locations that tasks use
  abbrev pub locations : List (Task N) → List (Location N)
  locations tasks = flat_map locations_of tasks

  -- the master of a mount's group, or of the mount itself if it is a slave: sharedsubtree
  abbrev pub master_of : World N → Propagation N → Option N
  master_of world (Shared group) = world.master group
  master_of world (Slave master) = Some master
  master_of world Private = None
  master_of world Unbindable = None

  -- the filesystems with the upper and the work directory of an overlay
  abbrev pub change_layers : Filesystem N → List N
  change_layers filesystem =
      of_overlay [] (λ overlay. map (λ layer. layer.filesystem)
      (option_to_list overlay.upper ++ option_to_list overlay.work)) filesystem

  -- A directive is no task's call, and it changes nothing.

  -- no task has this name
  abbrev pub no_such_task : World N → TaskName → Bool
  no_such_task world name = not (is_some (task_called world name))

  -- what a descriptor shows of the mount that it is on: no mount point, and no flags
  abbrev pub seen_by_descriptor : Mount N → Mount N
  seen_by_descriptor mount = record (detached mount) { flags = plain_flags }

  -- the roots and working directories of tasks
  abbrev pub roots_and_directories : List (Task N) → List (Location N)
  roots_and_directories tasks = flat_map (λ task. task.root ∷ task.directory ∷ []) tasks

module _ {N : Type 0} (eq : N → N → Bool) where
  -- a task of those named is in the namespace
  abbrev pub is_own_namespace : World N → List TaskName → N → Bool
  is_own_namespace world names namespace = list_any (λ task. eq namespace task.namespace) (members world names)

  -- the mount is in a namespace of theirs
  abbrev pub is_own_mount : World N → List TaskName → Mount N → Bool
  is_own_mount world names mount = holds_of (is_own_namespace world names) mount.namespace

  -- the mounts in their namespaces
  abbrev pub own_mounts : World N → List TaskName → List (Mount N)
  own_mounts world names = filter (is_own_mount world names) world.mounts

  -- mounts of other namespaces; one that is in none is nobody's
  abbrev pub other_mounts : World N → List TaskName → List (Mount N)
  other_mounts world names =
      filter (λ mount. holds_of (λ namespace.
      not (is_own_namespace world names namespace)) mount.namespace) world.mounts

  -- no other task is in a namespace of theirs
  abbrev pub holds_all_tasks : World N → List TaskName → Bool
  holds_all_tasks world names =
      list_all (λ task. not (is_own_namespace world names task.namespace)) (outsiders world names)

  -- a mount receives the events of another: that one is its peer, or a member of its master or of its group's master
  abbrev pub receives_events_of : World N → Mount N → Mount N → Bool
  receives_events_of world a b =
      holds_of (λ group. is_member_of eq group b) (group_of a.propagation)
      || holds_of (λ group. is_member_of eq group b) (master_of world a.propagation)

  -- two mounts of which one receives the events of the other
  abbrev pub share_events : World N → Mount N → Mount N → Bool
  share_events world a b = receives_events_of world a b || receives_events_of world b a

  -- no mount of theirs shares events with a mount of another namespace
  abbrev pub shares_no_events : World N → List TaskName → Bool
  shares_no_events world names =
      list_all (λ own. list_all (λ other. not (share_events world own other)) (other_mounts world names))
      (own_mounts world names)

  -- the location is on a mount of theirs
  abbrev pub is_on_own_mount : World N → List TaskName → Location N → Bool
  is_on_own_mount world names location = is_own_mount world names (mount_at eq world location)

  -- no other task uses a location on a mount of theirs
  abbrev pub no_outsider_on_mounts : World N → List TaskName → Bool
  no_outsider_on_mounts world names =
      list_all (λ location. not (is_on_own_mount world names location)) (locations (outsiders world names))

  -- the filesystems that the tasks use by a mount or by a location
  abbrev pub used_directly : World N → List TaskName → List N
  used_directly world names =
      map (λ mount. mount.filesystem) (own_mounts world names)
      ++ map (λ location. (mount_at eq world location).filesystem) (locations (members world names))

  -- the filesystems that the tasks use: by a mount, by a location, or as an upper or work layer of an overlay in use
  abbrev pub used_filesystems : World N → List TaskName → List N
  used_filesystems world names =
      each_once eq (used_directly world names
      ++ flat_map (λ number. change_layers (filesystem_numbered eq world number)) (used_directly world names))

  -- no mount of another namespace and no location of another task is on the filesystem
  abbrev pub no_outsider_on : World N → List TaskName → N → Bool
  no_outsider_on world names filesystem =
      not (list_any (λ mount. eq filesystem mount.filesystem) (other_mounts world names))
      && not (list_any (λ location. eq filesystem (mount_at eq world location).filesystem)
      (locations (outsiders world names)))

  -- they alone use the filesystem, and each overlay with a layer in it, lower ones too; no overlay has a layer on
  -- another
  abbrev pub used_alone : World N → List TaskName → N → Bool
  used_alone world names filesystem =
      no_outsider_on world names filesystem
      && list_all (λ merged. not (has_layer_on eq filesystem merged) || no_outsider_on world names merged.number)
      (overlays world)

  -- an overlay has this root directory of the filesystem as a lower layer
  abbrev pub is_lower_root : N → N → Filesystem N → Bool
  is_lower_root filesystem root merged =
      of_overlay false (λ overlay. list_any
      (λ layer. eq filesystem layer.filesystem && eq root layer.directory) overlay.lowers) merged

  -- each inode but the root has a name
  abbrev pub all_named : FileTree N → Bool
  all_named files = list_all (λ number. eq number files.tree.root || is_among eq number (named_in files)) files.numbers

  -- wholly locked for them: its root is a lower layer of an overlay that they alone use, and each other inode has a
  -- name
  abbrev pub wholly_locked : World N → List TaskName → N → Bool
  wholly_locked world names filesystem =
      list_any (λ merged. is_lower_root filesystem (filesystem_numbered eq world filesystem).files.tree.root merged
      && used_alone world names merged.number) (overlays world)
      && all_named (filesystem_numbered eq world filesystem).files

  -- The tasks are sealed off: no other task is in their namespaces, no mount of theirs shares events with others, no
  -- other task is on one of them, and each filesystem that they use is used by them alone, or wholly locked for them
  -- (profile).
  unfoldable pub sealed : World N → List TaskName → Bool
  sealed world names =
      holds_all_tasks world names
      && shares_no_events world names
      && no_outsider_on_mounts world names
      && list_all (λ filesystem. used_alone world names filesystem || wholly_locked world names filesystem)
      (used_filesystems world names)

  -- the outcome of a directive: the list of peer groups, or whether tasks are sealed off, S2 where one of them does not
  -- exist (profile)
  abbrev pub directed : World N → Directive → Outcome N
  directed world AskPeers = granted (PeerList (peer_lines eq world)) world
  directed world (AskSealed names) =
      judged world ((list_any (no_such_task world) names, S2) ∷ []) (granted (YesNo (sealed world names)) world)

  -- The part of the world that is theirs: members, their namespaces, and the mounts in them and under members' roots
  -- and working directories. Of a mount that only a descriptor is on, it has what the descriptor shows.

  -- one of these locations is on the mount
  abbrev pub is_at : List (Location N) → Mount N → Bool
  is_at locations mount = list_any (λ location. eq location.mount mount.number) locations

  -- a mount of that part: whole, as a descriptor shows it, or not there
  abbrev pub part_of_mount : World N → List TaskName → Mount N → Option (Mount N)
  part_of_mount world names mount =
      if is_own_mount world names mount || is_at (roots_and_directories (members world names)) mount then Some mount
      else when (is_at (locations (members world names)) mount) (seen_by_descriptor mount)

  -- the lower layers of the overlays that they use
  abbrev pub own_lowers : World N → List TaskName → List (Layer N)
  own_lowers world names =
      flat_map (λ number. of_overlay [] (λ overlay. overlay.lowers) (filesystem_numbered eq world number))
      (used_directly world names)

  -- the inode lies in one of those layers
  abbrev pub lies_in_own_lower : World N → List TaskName → N → N → Bool
  lies_in_own_lower world names filesystem object =
      list_any (lies_in_layer eq world filesystem object) (own_lowers world names)

  -- the inodes of a filesystem that lie in those layers
  abbrev pub part_of_lower : World N → List TaskName → Filesystem N → Filesystem N
  part_of_lower world names filesystem = record filesystem {
    files = only_among eq
        (filter (lies_in_own_lower world names filesystem.number) filesystem.files.numbers) filesystem.files;
    change = 0;
  }

  -- a filesystem of that part: whole if they use it; of another what lies in a lower layer of their overlays
  abbrev pub part_of_filesystem : World N → List TaskName → Filesystem N → Option (Filesystem N)
  part_of_filesystem world names filesystem =
      if is_among eq filesystem.number (used_filesystems world names) then Some filesystem
      else when (list_any (λ layer. eq filesystem.number layer.filesystem) (own_lowers world names))
      (part_of_lower world names filesystem)

  -- the master of a group of their mounts
  abbrev pub part_of_master : World N → List TaskName → N → Option N
  part_of_master world names group =
      if list_any (is_member_of eq group) (own_mounts world names) then world.master group else None

  -- the part of the world that is theirs
  abbrev pub part_of : World N → List TaskName → World N
  part_of world names = record {
    mounts = filter_map (part_of_mount world names) world.mounts;
    master = part_of_master world names;
    filesystems = filter_map (part_of_filesystem world names) world.filesystems;
    namespaces = filter (λ namespace. is_own_namespace world names namespace.number) world.namespaces;
    tasks = members world names;
    change = 0;
  }
