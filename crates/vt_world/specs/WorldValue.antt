-- What contracts see of the code's world, and what the definitions see of it.
use Rattle.std.specs.Prelude.{List, None, Option, find, map, nat_eq, ℕ}
use Rattle.vt_spec.specs.Machine.Merging.{MergedInode}
use Rattle.vt_spec.specs.Machine.NewMounts.{overlay_of_inodes}
use Rattle.vt_spec.specs.Machine.World as meant
use Rattle.vt_spec.specs.Rights.{Credentials}
use Rattle.vt_fs.specs.FilesystemsValue.{Filesystems, filesystems_seen}
use Rattle.vt_group.specs.Grouping.{Grouping, master_in}
use Rattle.vt_location.specs.Numbers.{counted}
use Rattle.vt_laws_worlds.specs.OverlaysStay.Woven.{woven}
use Rattle.vt_location.specs.declared.numbers.NamespaceId.{NamespaceId}
use Rattle.vt_mount.specs.MountsValue.{MountEntry, mounts_in}
use Rattle.vt_world.specs.declared.namespaces.Namespace.{Namespace}

-- a namespace: its count, and how many tasks are in it
pub record NamespaceEntry : Type 0 where
  pub count : ℕ
  pub tasks : ℕ

-- an overlay: its number, the inodes of its tree with their real objects, with or without a name; its upper and its work
-- directory, if it has them, and its lower layers from the top; who mounted it, and how many mounts show it
pub record OverlayEntry : Type 0 where
  pub number : ℕ
  pub root : ℕ
  pub inodes : List (MergedInode ℕ)
  pub upper : Option (meant.Layer ℕ)
  pub work : Option (meant.Layer ℕ)
  pub lowers : List (meant.Layer ℕ)
  pub mounter : Credentials
  pub mounts : ℕ

-- Filesystems are plain ones and overlays, each in the order of their numbers. `next` is what is counted next: all
-- mounts, filesystems and namespaces have lower counts. `births` is how many tasks there ever were.
pub record WorldValue : Type 0 where
  pub mounts : List MountEntry
  pub groups : Grouping
  pub filesystems : Filesystems
  pub overlays : List OverlayEntry
  pub namespaces : List NamespaceEntry
  pub tasks : List (meant.Task ℕ)
  pub births : ℕ
  pub next : ℕ

abbrev pub namespace_of : NamespaceEntry → meant.Namespace ℕ
namespace_of entry = record { number = counted entry.count; change = 0 }

-- an overlay as the definitions see it
abbrev pub overlay_seen : OverlayEntry → meant.Filesystem ℕ
overlay_seen entry =
    overlay_of_inodes nat_eq entry.number entry.root (record {
      upper = entry.upper;
      work = entry.work;
      lowers = entry.lowers;
      mounter = entry.mounter;
      real = λ number. None;
    }) entry.inodes

abbrev pub overlays_seen : List OverlayEntry → List (meant.Filesystem ℕ)
overlays_seen overlays = map overlay_seen overlays

-- the world: change numbers are aside
abbrev pub world_of : WorldValue → meant.World ℕ
world_of value = record {
  mounts = mounts_in value.mounts;
  master = master_in value.groups;
  filesystems = woven (filesystems_seen value.filesystems) (overlays_seen value.overlays);
  namespaces = map namespace_of value.namespaces;
  tasks = value.tasks;
  change = 0;
}

abbrev pub namespace_counted : WorldValue → ℕ → Option NamespaceEntry
namespace_counted value count = find (λ entry. nat_eq count entry.count) value.namespaces

-- the namespaces as they are kept
abbrev pub entry_of : NamespaceId × Namespace → NamespaceEntry
entry_of kept = record { count = kept.0.count; tasks = kept.1.tasks }

abbrev pub entries_of : List (NamespaceId × Namespace) → List NamespaceEntry
entries_of kept = map entry_of kept
