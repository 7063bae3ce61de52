use Rattle.std.proofs.Common.{ap, arith, subst, sym, true, ◌≡◌, ◌∙◌}
use Rattle.vt_mounting.proofs.Common.{counted, shown}
use Rattle.vt_mounting.specs.Attach.Room.{point_has_room}
use Rattle.vt_mounting.specs.Detach.Uses.{inode_of, pinned_at, pinned_in}
use Rattle.vt_mounting.proofs.attach.RoomLemmas.{filesystem_has_room, mounted_placed, point_room_left, point_room_mounted, root_has_room}
use Rattle.vt_mounting.proofs.attach.attaching.show.Goals as goal

pub show_root-requires-clause-uses : goal.show_root-requires-clause-uses
show_root-requires-clause-uses c =
    let few = root_has_room 18446744073709551613 (shown c.args.store.now.plain) c.args.mount.now c.requires.room in
    omega (arith, few)

pub show_root-requires-clause-mounts : goal.show_root-requires-clause-mounts
show_root-requires-clause-mounts c =
    let few = filesystem_has_room 18446744073709551613 (shown c.args.store.now.plain) c.args.mount.now c.requires.room in
    omega (arith, few)

pub pin_point-requires-clause-room : goal.pin_point-requires-clause-room
pin_point-requires-clause-room c =
    let old = shown c.args.store.now.plain in
    let mount = c.args.mount.now in
    subst (λ all. point_has_room 18446744073709551614 all mount.mount_point ≡ true) (sym c.show_root.ensures.uses)
    (point_room_mounted 18446744073709551614 (counted mount.root.filesystem.count)
    (pinned_in (inode_of mount.root) old) mount.mount_point (point_room_left old mount c.requires.room))

pub returns-clause-uses : goal.returns-clause-uses
returns-clause-uses c =
    let mount = c.args.mount.now in
    c.pin_point.ensures.uses ∙ ap (pinned_at mount.mount_point) c.show_root.ensures.uses
    ∙ mounted_placed (counted mount.root.filesystem.count) mount.mount_point
    (pinned_in (inode_of mount.root) (shown c.args.store.now.plain))

pub returns-clause-overlays : goal.returns-clause-overlays
returns-clause-overlays c = c.pin_point.ensures.overlays ∙ c.show_root.ensures.overlays
