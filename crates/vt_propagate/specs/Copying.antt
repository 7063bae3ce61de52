-- What an attachment makes, as code has it: copies of mounts, and new groups.
use Rattle.std.specs.Prelude.{List, None, Option, Some, [], find, length, map, nat_eq, not, option_map, if◌then◌else◌, ℕ, ◌*◌, ◌+◌, ◌<◌, ◌^◌}
use Rattle.vt_spec.specs.Lists.{Fresh, then_some, when}
use Rattle.vt_spec.specs.Machine.Attach as meant
use Rattle.vt_spec.specs.Machine.Attach.{Copies, Twig, copies_from, copy_number, copy_mount_point, image, is_destination}
use Rattle.vt_spec.specs.Machine.Attach.{twig_master, twig_of}
use Rattle.vt_spec.specs.Machine.Mounts.{Mount, Propagation, group_of}
use Rattle.vt_spec.specs.Machine.Mounts.Propagation.{Private, Shared, Slave, Unbindable}
use Rattle.vt_spec.specs.Machine.Receives.{groups_up, has_members, is_member_of, slave_of_heir}
use Rattle.vt_spec.specs.Machine.World.{World}
use Rattle.vt_group.specs.Grouping.{Grouping, master_in}
pub use Rattle.vt_group.specs.Together.{new_group}
use Rattle.vt_location.specs.Locations.{location_of}
use Rattle.vt_location.specs.MountValue.{mount_of}
use Rattle.vt_location.specs.Numbers.{counted}
use Rattle.vt_mount.specs.MountsValue.{MountEntry, mounts_in}
use Rattle.vt_propagate.specs.declared.copying.Counts.{Counts}
use Rattle.vt_propagate.specs.declared.copying.Graft.{Graft}
use Rattle.vt_propagate.specs.declared.numbering.Copying.{Copying}
use Rattle.vt_propagate.specs.Indexes.{IsIndexed}

-- the numbers of counts, each as far from the one before
abbrev pub counts_from : Counts → Fresh ℕ
counts_from counts k = counted (counts.first + counts.step * k)

-- the mounts and the masters that are kept, as a world without anything else
abbrev pub as_kept : List MountEntry → Grouping → World ℕ
as_kept kept grouping =
    record { mounts = mounts_in kept; master = master_in grouping; filesystems = []; namespaces = []; tasks = []; change = 0 }

-- what is copied and where, as the definitions have it

abbrev pub parts_seen : Copying → List (Mount ℕ)
parts_seen copying = map mount_of copying.graft.parts.now

abbrev pub tree_seen : Copying → List (Mount ℕ)
tree_seen copying = map mount_of copying.graft.tree.now

abbrev pub supply : Copying → Copies ℕ
supply copying = copies_from nat_eq (counts_from copying.counts) (parts_seen copying) (tree_seen copying)

abbrev pub twig : Copying → Mount ℕ → Twig ℕ
twig copying origin = twig_of (supply copying) (group_of (mount_of copying.destination).propagation) origin

abbrev pub graft_seen : Copying → meant.Graft ℕ
graft_seen copying =
    record {
      destination = location_of copying.graft.place;
      twigs = map (twig copying)
          (tree_seen copying);
      moves = copying.graft.moves;
    }

-- each count that is needed is below 2^64
abbrev pub HasRoomFor : Graft → Counts → Type 0
HasRoomFor graft counts =
    (0 < counts.step) × (counts.first + counts.step *
    (2 * (length graft.parts.now * length graft.tree.now)) < 2 ^ 64)

-- and the indexes are those of the graft
pub record IsReady (copying : Copying) : Type 0 where
  pub room : HasRoomFor copying.graft copying.counts
  pub indexed : IsIndexed copying.indexes.now copying.graft

-- the group that the copies of a mount form at the members of a group
abbrev pub image_seen : Copying → Mount ℕ → ℕ → ℕ
image_seen copying origin group =
    image nat_eq (supply copying) (mount_of copying.destination) (twig copying origin) group

-- the nearest group with a part, from this group up the masters
abbrev pub nearest_part : World ℕ → Copying → Option ℕ → Option ℕ
nearest_part world copying None = None
nearest_part world copying (Some group) = find (has_members nat_eq (parts_seen copying)) (groups_up world group)

-- the nearest master of a receiver of this type: of a slave, the nearest group with a part, from its master up
abbrev pub nearest_master_of : World ℕ → Copying → Propagation ℕ → Option ℕ
nearest_master_of world copying (Shared group) = None
nearest_master_of world copying (Slave master) = nearest_part world copying (Some master)
nearest_master_of world copying Private = None
nearest_master_of world copying Unbindable = None

-- the group above the new ones at a part of this type: the nearest with a part, from the master of its group up
abbrev pub above_of : World ℕ → Copying → Propagation ℕ → Option ℕ
above_of world copying (Shared group) =
    if is_member_of nat_eq group (mount_of copying.destination) then None
    else nearest_part world copying (world.master group)
above_of world copying (Slave master) = None
above_of world copying Private = None
above_of world copying Unbindable = None

-- the type of the copy of a mount at a receiver of this type, with its nearest master
abbrev pub type_by_master : Copying → Option ℕ → Mount ℕ → Propagation ℕ → Propagation ℕ
type_by_master copying nearest origin (Shared group) = Shared (image_seen copying origin group)
type_by_master copying nearest origin (Slave master) = slave_of_heir (option_map (image_seen copying origin) nearest)
type_by_master copying nearest origin Private = Private
type_by_master copying nearest origin Unbindable = Unbindable

-- a copy at a part with this nearest master
abbrev pub copied_by : Copying → Option ℕ → Mount ℕ → Mount ℕ → Mount ℕ
copied_by copying nearest part origin = record origin {
  number = copy_number nat_eq (supply copying) (graft_seen copying) part.number origin.number;
  namespace = part.namespace;
  mount_point = Some (copy_mount_point nat_eq (supply copying) (graft_seen copying) part.number origin);
  propagation =
      if is_destination nat_eq (graft_seen copying) part.number then (twig copying origin).propagation
      else type_by_master copying nearest origin part.propagation;
}

-- a copy at a part
abbrev pub copied : World ℕ → Copying → Mount ℕ → Mount ℕ → Mount ℕ
copied world copying part origin = copied_by copying (nearest_master_of world copying part.propagation) part origin

-- the new group of a copy at a part with this group above, if it forms one
abbrev pub made_by : Copying → Option ℕ → Mount ℕ → Mount ℕ → Option (ℕ × Option ℕ)
made_by copying above part origin =
    if is_destination nat_eq (graft_seen copying) part.number then twig_master (twig copying origin)
    else then_some (group_of part.propagation) (λ group.
    when (not (is_member_of nat_eq group (mount_of copying.destination)))
    (image_seen copying origin group, option_map (image_seen copying origin) above))

-- the new group of a copy at a part, if it forms one
abbrev pub made : World ℕ → Copying → Mount ℕ → Mount ℕ → Option (ℕ × Option ℕ)
made world copying part origin = made_by copying (above_of world copying part.propagation) part origin
