use Rattle.std.proofs.Common.{arith, map, refl}
use Rattle.vt_mounting.specs.Detach.Stored.{merged_of}
use Rattle.vt_mounting.proofs.detach.CountNoUses.{pins_plain, still_pinned, uses_are_plain}
use Rattle.vt_mounting.proofs.detach.uses.hold.Goals as goal

pub returns-clause-ok : goal.returns-clause-ok
returns-clause-ok c =
    let done = pins_plain c.args.store.now c.requires c.args.at.node c.pin.new.self c.in_default.ensures.ok in
    λ i. record {
      mounts = c.in_ok-hold.ensures.ok i;
      filesystems = done.0 i;
      overlays = map merged_of (done.1 i);
    }

pub returns-clause-overlays : goal.returns-clause-overlays
returns-clause-overlays c =
    (pins_plain c.args.store.now c.requires c.args.at.node c.pin.new.self c.in_default.ensures.ok).1

pub returns-clause-still : goal.returns-clause-still
returns-clause-still c = still_pinned c.args.store.now c.requires c.args.at.node c.pin.new.self c.in_default.ensures.ok

-- a node that is refused has as many uses as can be counted
pub returns-in-Err-clause-room : goal.returns-in-Err-clause-room
returns-in-Err-clause-room c = λ room.
    let full = c.in-Err.ensures.limit.0 refl in
    let same = uses_are_plain c.args.store.now c.requires c.args.at.node in
    let few = room.inode in
    absurd (omega (arith, full, same, few))
