-- What an attachment makes in a world, with the numbers of these counts.
use Rattle.std.specs.Prelude.{List, Option, flat_map, map, nat_eq, ℕ}
use Rattle.vt_spec.specs.Machine.Attach as meant
use Rattle.vt_spec.specs.Machine.Attach.{Copies, all_groups_made, copies_at, copies_from, graft_of, parts_of}
use Rattle.vt_spec.specs.Machine.Mounts.{Mount}
use Rattle.vt_spec.specs.Machine.World.{World}
use Rattle.vt_location.specs.Locations.{location_of}
use Rattle.vt_location.specs.MountValue.{mount_of}
use Rattle.vt_propagate.specs.declared.copying.Counts.{Counts}
use Rattle.vt_propagate.specs.declared.copying.Graft.{Graft}
use Rattle.vt_propagate.specs.Copying.{counts_from}

-- the numbers of copies and of new groups
abbrev pub numbers_at : World ℕ → Graft → Counts → Copies ℕ
numbers_at world graft counts =
    copies_from nat_eq (counts_from counts) (parts_of nat_eq world (location_of graft.place))
    (map mount_of graft.tree.now)

-- the tree with the types of its mounts at the destination
abbrev pub graft_in : World ℕ → Graft → Counts → meant.Graft ℕ
graft_in world graft counts =
    graft_of nat_eq world (numbers_at world graft counts) (location_of graft.place) graft.moves
    (map mount_of graft.tree.now)

-- the copies at the destination, then those at the receivers
abbrev pub planned_copies : World ℕ → Graft → Counts → List (Mount ℕ)
planned_copies world graft counts =
    flat_map
    (copies_at nat_eq world (numbers_at world graft counts) (graft_in world graft counts)
    (parts_of nat_eq world (location_of graft.place)))
    (parts_of nat_eq world (location_of graft.place))

-- the groups that they form, with their masters
abbrev pub planned_groups : World ℕ → Graft → Counts → List (ℕ × Option ℕ)
planned_groups world graft counts =
    all_groups_made nat_eq world (numbers_at world graft counts) (graft_in world graft counts)
    (parts_of nat_eq world (location_of graft.place))
