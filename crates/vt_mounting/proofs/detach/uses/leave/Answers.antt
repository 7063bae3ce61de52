use Rattle.std.proofs.Common.{ap, map, ◌∙◌}
use Rattle.vt_mounting.proofs.Common.{counted}
use Rattle.vt_mounting.specs.Detach.Stored.{merged_of}
use Rattle.vt_mounting.specs.Detach.Uses.{let_go_mount}
use Rattle.vt_mounting.proofs.detach.CountNoUses.{still_unpinned, unpins_plain}
use Rattle.vt_mounting.proofs.detach.OverlaysListed.{left_itself, left_twice}
use Rattle.vt_mounting.proofs.detach.uses.leave.Goals as goal

pub let_go_mount-requires : goal.let_go_mount-requires
let_go_mount-requires c =
    still_unpinned c.args.store.now c.requires c.args.at.node c.unpin.new.self c.unpin.ensures

pub returns-clause-left : goal.returns-clause-left
returns-clause-left c =
    let done = unpins_plain c.args.store.now c.requires c.args.at.node c.unpin.new.self c.unpin.ensures in
    c.let_go_mount.ensures.left ∙ ap (let_go_mount (counted c.args.at.mount.count)) (λ i. record {
      mounts = c.release.ensures i;
      filesystems = done.0 i;
      overlays = map merged_of (done.1 i);
    })

pub returns-clause-overlays : goal.returns-clause-overlays
returns-clause-overlays c =
    let done = unpins_plain c.args.store.now c.requires c.args.at.node c.unpin.new.self c.unpin.ensures in
    left_twice c.args.store.now.overlays c.unpin.new.self.overlays c.let_go_mount.new.store.overlays
    (left_itself c.args.store.now.overlays c.unpin.new.self.overlays done.1) c.let_go_mount.ensures.overlays
