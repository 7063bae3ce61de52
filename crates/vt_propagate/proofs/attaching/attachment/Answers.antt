use Rattle.std.proofs.Common.{ap, length, map, ◌∙◌}
use Rattle.vt_location.specs.MountValue.{mount_of}
use Rattle.vt_propagate.specs.Falling.{point_of}
use Rattle.vt_propagate.proofs.Attached.{attached_by_plans}
use Rattle.vt_propagate.proofs.attaching.attachment.Goals as goal

pub pushes-requires : goal.pushes-requires
pushes-requires c = ap length c.deref.ensures.value ∙ c.in_ok-copies.ensures.length

pub returns-clause-ok : goal.returns-clause-ok
returns-clause-ok c world seen one_child parts =
    let copies = c.in_ok-copies.ensures.ok world seen parts in
    attached_by_plans world c.args.graft.now c.args.counts (map mount_of c.in_ok-copies.copies.items)
    (map point_of c.in_ok-points.points.items) copies (c.in_ok-new.ensures.ok world seen parts)
    (c.in_ok-points.ensures.ok world c.args.counts seen.mounts one_child parts (ap (map mount_of)
    c.deref.ensures.value ∙ copies)) c.in_ok-points.ensures.leaver

pub returns-clause-once : goal.returns-clause-once
returns-clause-once c = c.in_ok-points.ensures.once

pub returns-clause-leaver : goal.returns-clause-leaver
returns-clause-leaver c = c.in_ok-points.ensures.leaver
