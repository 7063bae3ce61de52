use Rattle.std.proofs.Common.{map}
use Rattle.vt_mounting.proofs.Common.{counted}
use Rattle.vt_mounting.specs.Detach.Stored.{kept}
use Rattle.vt_mounting.proofs.detach.FollowedTypes.{turn_sourceless, turn_typed}
use Rattle.vt_mounting.proofs.detach.detaching.detach_together.Goals as goal

pub returns-clause-left : goal.returns-clause-left
returns-clause-left c =
    let numbers = map (λ id. counted id.count) c.args.ids.now in
    let old = kept c.args.mounts.now c.args.store.now in
    let left = kept c.detach_each.new.mounts c.detach_each.new.store in
    record {
      entries = c.detach_each.new.mounts;
      turn = c.detach_each.ensures.left;
      groups = c.leave_all.ensures.detached;
      types = λ ordered typed. c.leave_all.ensures.types ordered
          (turn_sourceless c.args.groups.now numbers old left c.detach_each.ensures.left typed)
          (turn_typed c.args.groups.now numbers old left c.detach_each.ensures.left typed);
    }

pub returns-clause-overlays : goal.returns-clause-overlays
returns-clause-overlays c = c.detach_each.ensures.overlays
