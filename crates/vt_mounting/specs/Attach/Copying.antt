-- Copies of a namespace's mounts in another one: unshare(2) with CLONE_NEWNS.
use Rattle.std.specs.List.{list_all}
use Rattle.std.specs.Prelude.{List, [], false, if◌then◌else◌, map, nat_eq, true, ℕ, ◌≡◌}
use Rattle.vt_group.specs.Grouping.{Grouping}
use Rattle.vt_group.specs.Together.{GrowsTo, typed}
use Rattle.vt_location.specs.declared.mounts.Mount.{Mount as Attached}
use Rattle.vt_location.specs.MountValue.{mount_of}
use Rattle.vt_location.specs.Numbers.{counted}
use Rattle.vt_mount.specs.Attached.{attached_in}
use Rattle.vt_mount.specs.MountsValue.{MountEntry, changed, held, released}
use Rattle.vt_laws_trees.specs.Runs.Handed.{counts_from}
use Rattle.vt_spec.specs.Lists.{odds}
use Rattle.vt_spec.specs.Machine.Mounts.{Location, Mount, numbers_by}
use Rattle.vt_spec.specs.Machine.Namespaces.{copied_mount, moved_location}
use Rattle.vt_mounting.specs.Attach.Room.{has_small_nodes}
use Rattle.vt_mounting.specs.Detach.Uses.{Kept, with_attached}

-- the numbers of copies, which are counted with their namespace from the next count on; and the copies
abbrev pub copy_numbers : ℕ → List (Mount ℕ) → ℕ → ℕ
copy_numbers next originals = numbers_by nat_eq (odds (counts_from next)) originals

abbrev pub copied_by : ℕ → List (Mount ℕ) → Mount ℕ → Mount ℕ
copied_by next originals mount = copied_mount (copy_numbers next originals) (counted next) mount

abbrev pub copies_of : ℕ → List (Mount ℕ) → List (Mount ℕ)
copies_of next originals = map (copied_by next originals) originals

-- the copies of a namespace's mounts were attached, and entered into the groups with their types
pub record CopiesAttached (next namespace : ℕ) (old : Kept) (before : Grouping) (new : Kept) (now : Grouping)
    : Type 0 where
  pub added : List Attached
  pub copied : map mount_of added ≡ copies_of next (attached_in namespace old.mounts)
  pub slots : list_all has_small_nodes added ≡ true
  pub attached : new ≡ with_attached added old
  pub grows : GrowsTo before now (map typed added) []

-- where a location of the caller is then
abbrev pub moved_in : ℕ → List (Mount ℕ) → Location ℕ → Location ℕ
moved_in next originals location = moved_location nat_eq originals (copy_numbers next originals) location

-- one use of a mount goes to another mount
abbrev pub with_use_moved : ℕ → ℕ → List MountEntry → List MountEntry
with_use_moved from to entries =
    if nat_eq from to then entries else changed from (released false) (changed to (held false) entries)
