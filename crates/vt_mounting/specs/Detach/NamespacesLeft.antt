-- What a task leaves with its namespace. With its last task a namespace ends, and its mounts are detached:
-- mount_namespaces(7).
use Rattle.std.specs.List.{list_any}
use Rattle.std.specs.Prelude.{Bool, IfSome, List, None, Option, Some, [], false, filter, find, if◌then◌else◌, map, nat_eq, nat_le, not, option_map, true, ℕ, ◌-◌, ◌∷◌, ◌≡◌}
use Rattle.vt_location.specs.declared.locations.Location.{Location}
use Rattle.vt_location.specs.Locations.{is_small_node, location_of}
use Rattle.vt_group.specs.Grouping.{Grouping}
use Rattle.vt_group.specs.Together.{TakesAway}
use Rattle.vt_mount.specs.MountsValue.{MountEntry, entry_numbered, mounts_in}
use Rattle.vt_spec.specs.Language.Calls.{opens_for_writing}
use Rattle.vt_spec.specs.Lists.{holds_of}
use Rattle.vt_request.specs.Requests.{access_of}
use Rattle.vt_tasks.specs.declared.descriptors.OpenFile.{OpenFile}
use Rattle.vt_retype.specs.Retyping.{FollowTypes}
use Rattle.vt_mounting.specs.Detach.Uses.{Kept, without_attachment, without_location}
use Rattle.vt_world.specs.WorldValue.{NamespaceEntry}

-- Entries

abbrev pub namespace_entry : ℕ → List NamespaceEntry → Option NamespaceEntry
namespace_entry count all = find (λ entry. nat_eq count entry.count) all

-- the namespace ends when a task leaves it
abbrev pub has_one_task : NamespaceEntry → Bool
has_one_task entry = nat_le entry.tasks 1

abbrev pub one_task_less : NamespaceEntry → NamespaceEntry
one_task_less entry = record entry { tasks = entry.tasks - 1 }

abbrev pub left_if : ℕ → NamespaceEntry → NamespaceEntry
left_if count entry = if nat_eq count entry.count then one_task_less entry else entry

abbrev pub entries_left : ℕ → List NamespaceEntry → Option NamespaceEntry → List NamespaceEntry
entries_left count all None = all
entries_left count all (Some entry) =
    if has_one_task entry then filter (λ other. not (nat_eq count other.count)) all else map (left_if count) all

-- one task less of the namespace with this count, which goes with its last
abbrev pub with_one_task_less : ℕ → List NamespaceEntry → List NamespaceEntry
with_one_task_less count all = entries_left count all (namespace_entry count all)

-- Mounts

-- a mount that is detached, and its mount point
pub record Detached : Type 0 where
  pub number : ℕ
  pub point : Option Location

-- it is attached in this namespace, at this mount point
pub record IsAttached (namespace : ℕ) (k : Kept) (one : Detached) : Type 0 where
  pub entry : MountEntry
  pub found : entry_numbered k.mounts one.number ≡ Some entry
  pub inside : entry.mount.namespace ≡ Some namespace
  pub point : option_map location_of one.point ≡ entry.mount.mount_point
  pub slot : IfSome one.point (λ point. is_small_node point.node ≡ true)

-- mounts that are attached in a namespace are detached, one after the other
abbrev pub AreDetached : ℕ → List Detached → Kept → Kept → Type 0
AreDetached namespace [] old new = new ≡ old
AreDetached namespace (one ∷ rest) old new =
    IsAttached namespace old one × AreDetached namespace rest (without_attachment one.number one.point old) new

abbrev pub is_attached_in : ℕ → MountEntry → Bool
is_attached_in namespace entry = holds_of (nat_eq namespace) entry.mount.namespace

-- all its mounts are
pub record NamespaceEnds (namespace : ℕ) (old new : Kept) : Type 0 where
  pub gone : List Detached
  pub detached : AreDetached namespace gone old new
  pub none_left : list_any (is_attached_in namespace) new.mounts ≡ false

-- the numbers of the mounts in a namespace
abbrev pub numbers_inside : ℕ → List MountEntry → List ℕ
numbers_inside namespace entries =
    map (λ mount. mount.number) (filter (λ mount. holds_of (nat_eq namespace) mount.namespace) (mounts_in entries))

-- all its mounts are, and leave their groups at once; then each mount has the type that the groups tell
pub record NamespaceIsLeft (namespace : ℕ) (old : Kept) (before : Grouping) (new : Kept) (now : Grouping) : Type 0 where
  pub entries : List MountEntry
  pub ends : NamespaceEnds namespace old (record new { mounts = entries })
  pub groups : TakesAway before now (numbers_inside namespace old.mounts)
  pub types : FollowTypes before old.mounts now entries new.mounts

abbrev pub EndsIf : Bool → ℕ → Kept → Grouping → Kept → Grouping → Type 0
EndsIf true namespace old before new now = NamespaceIsLeft namespace old before new now
EndsIf false namespace old before new now = (new ≡ old) × (now ≡ before)

-- they are if the task is its last
abbrev pub MountsAreLeft : ℕ → Option NamespaceEntry → Kept → Grouping → Kept → Grouping → Type 0
MountsAreLeft namespace None old before new now = (new ≡ old) × (now ≡ before)
MountsAreLeft namespace (Some entry) old before new now = EndsIf (has_one_task entry) namespace old before new now

-- Open files

-- one use less for an open file
abbrev pub without_file : Kept → OpenFile → Kept
without_file k file = without_location file.location (opens_for_writing (access_of file.access)) k

abbrev pub is_small_file : OpenFile → Bool
is_small_file file = is_small_node file.location.node
