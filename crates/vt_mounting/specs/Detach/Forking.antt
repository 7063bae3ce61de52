-- Room for further uses of a location, and a namespace with a task more: fork(2).
use Rattle.std.specs.Prelude.{List, if◌then◌else◌, map, nat_eq, ℕ, ◌+◌, ◌<◌, ◌≤◌}
use Rattle.vt_fs.specs.FilesystemsValue.{Filesystems, inodes_at}
use Rattle.vt_location.specs.declared.locations.Location.{Location}
use Rattle.vt_location.specs.Locations.{number_of}
use Rattle.vt_location.specs.Numbers.{counted, most_counted}
use Rattle.vt_mount.specs.MountsValue.{MountEntry, uses_of, writers_of}
use Rattle.vt_spec.specs.Inodes.{uses_in}
use Rattle.vt_world.specs.WorldValue.{NamespaceEntry}

-- the mount and the inode of a location may get so many uses more, none of them open for writing
pub record HasRoom (more : ℕ) (at : Location) (mounts : List MountEntry) (filesystems : Filesystems) : Type 0 where
  pub uses : uses_of mounts (counted at.mount.count) + more ≤ most_counted
  pub writers : writers_of mounts (counted at.mount.count) < most_counted
  pub inode : uses_in ((inodes_at filesystems at.node.filesystem.count).inode
      (number_of at.node)) + more ≤ most_counted

-- the namespaces, with one task more in that of this count
abbrev pub more_tasks : NamespaceEntry → NamespaceEntry
more_tasks entry = record entry { tasks = entry.tasks + 1 }

abbrev pub with_task_more : ℕ → List NamespaceEntry → List NamespaceEntry
with_task_more count all = map (λ entry. if nat_eq count entry.count then more_tasks entry else entry) all
