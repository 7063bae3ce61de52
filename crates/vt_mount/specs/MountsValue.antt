-- What the definitions see of the mounts that are kept.
use Rattle.std.specs.Prelude.{Bool, List, Option, Some, [], filter, find, if◌then◌else◌, is_some, map, nat_eq, nat_lt, not, option_map, true, unwrap_or, ℕ, ◌&&◌, ◌++◌, ◌+◌, ◌-◌, ◌≡◌, ◌∷◌}
use Rattle.std.specs.List.{list_all}
use Rattle.std.specs.FinMap.Entries.{put}
use Rattle.std.specs.Ordering.{nat_cmp}
use Rattle.std.specs.declared.cmp.Ordering.{Ordering}
use Rattle.vt_spec.specs.Lists.{holds_of}
use Rattle.vt_spec.specs.Machine.Mounts as meant
use Rattle.vt_location.specs.declared.locations.Location.{Location}
use Rattle.vt_location.specs.declared.mounts.Mount.{Mount}
use Rattle.vt_location.specs.declared.numbers.MountId.{MountId}
use Rattle.vt_location.specs.MountValue.{mount_of}
use Rattle.vt_location.specs.Numbers.{filesystem_number, mount_number}
use Rattle.vt_mount.specs.declared.mounted.Mounted.{Mounted}

-- a mount, how many roots, working directories and descriptors are on it, and how many of these are open for writing
pub record MountEntry : Type 0 where
  pub mount : meant.Mount ℕ
  pub uses : ℕ
  pub writers : ℕ

-- a mount that nothing uses yet
abbrev pub unused_entry : Mount → MountEntry
unused_entry mount = record { mount = mount_of mount; uses = 0; writers = 0 }

abbrev pub mounts_in : List MountEntry → List (meant.Mount ℕ)
mounts_in entries = map (λ entry. entry.mount) entries

-- each number is less than those after it
abbrev pub are_ascending : List (meant.Mount ℕ) → Bool
are_ascending [] = true
are_ascending (mount ∷ mounts) = list_all (λ later. nat_lt mount.number later.number) mounts && are_ascending mounts

-- with these after them, mounts that ascend still do
abbrev pub ComeAfter : List (meant.Mount ℕ) → List (meant.Mount ℕ) → Type 0
ComeAfter new mounts = are_ascending mounts ≡ true → are_ascending (mounts ++ new) ≡ true

-- the entry of the mount with this number
abbrev pub entry_numbered : List MountEntry → ℕ → Option MountEntry
entry_numbered entries number = find (λ entry. nat_eq number entry.mount.number) entries

abbrev pub uses_of : List MountEntry → ℕ → ℕ
uses_of entries number = unwrap_or (option_map (λ entry. entry.uses) (entry_numbered entries number)) 0

abbrev pub writers_of : List MountEntry → ℕ → ℕ
writers_of entries number = unwrap_or (option_map (λ entry. entry.writers) (entry_numbered entries number)) 0

-- the entries, with that of one mount changed
abbrev pub changed : ℕ → (MountEntry → MountEntry) → List MountEntry → List MountEntry
changed number change entries = map (λ entry. if nat_eq number entry.mount.number then change entry else entry) entries

-- the entries without that of one mount
abbrev pub without : ℕ → List MountEntry → List MountEntry
without number entries = filter (λ entry. not (nat_eq number entry.mount.number)) entries

-- a mount with one use more or less, which is open for writing or not
abbrev pub held : Bool → MountEntry → MountEntry
held writes entry = record entry { uses = entry.uses + 1; writers = entry.writers + (if writes then 1 else 0) }

abbrev pub released : Bool → MountEntry → MountEntry
released writes entry = record entry { uses = entry.uses - 1; writers = entry.writers - (if writes then 1 else 0) }

-- a mount in no namespace that nothing uses
abbrev pub is_unused : MountEntry → Bool
is_unused entry = not (is_some entry.mount.namespace) && nat_eq entry.uses 0

-- the mount's mount point is on the inode with this number, through whatever mount
abbrev pub stands_over : ℕ → meant.Mount ℕ → Bool
stands_over inode mount = holds_of (λ place. nat_eq place.node inode) mount.mount_point

-- the node of a location is in the filesystem that its mount shows
abbrev pub IsOnItsFilesystem : List (meant.Mount ℕ) → Location → Type 0
IsOnItsFilesystem mounts at = option_map (λ mount. mount.filesystem)
    (find (λ mount. nat_eq (mount_number at.mount) mount.number) mounts) ≡ Some (filesystem_number at.node.filesystem)

-- Mounts as they are kept

-- the mount that is kept under a number
abbrev pub mount_kept : MountId → Mounted → Mount
mount_kept number kept = record {
  number = number;
  namespace = kept.namespace;
  mount_point = kept.mount_point;
  root = kept.root;
  flags = kept.flags;
  propagation = kept.propagation;
}

-- one with one use more or less, which is open for writing or not
abbrev pub held_kept : Bool → Mounted → Mounted
held_kept writes kept = record kept { uses = kept.uses + 1; writers = kept.writers + (if writes then 1 else 0) }

abbrev pub released_kept : Bool → Mounted → Mounted
released_kept writes kept = record kept { uses = kept.uses - 1; writers = kept.writers - (if writes then 1 else 0) }

abbrev pub entry_of : MountId × Mounted → MountEntry
entry_of kept = record { mount = mount_of (mount_kept kept.0 kept.1); uses = kept.1.uses; writers = kept.1.writers }

abbrev pub id_cmp : MountId → MountId → Ordering
id_cmp a b = nat_cmp a.count b.count

-- the kept mounts, sorted by their numbers
abbrev pub in_order : List (MountId × Mounted) → List (MountId × Mounted)
in_order [] = []
in_order (kept ∷ rest) = put id_cmp kept.0 kept.1 (in_order rest)

abbrev pub entries_of : List (MountId × Mounted) → List MountEntry
entries_of kept = map entry_of (in_order kept)
