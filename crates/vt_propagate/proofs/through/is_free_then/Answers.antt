use Rattle.std.proofs.Common.{sym, ◌∙◌}
use Rattle.vt_location.specs.MountValue.{mount_of}
use Rattle.vt_location.specs.Numbers.{counted}
use Rattle.vt_mount.specs.MountsValue.{mounts_in}
use Rattle.vt_propagate.proofs.Found.{counts}
use Rattle.vt_propagate.proofs.through.LookedThrough.{all_rest, free_if_all, one_does_not}
use Rattle.vt_propagate.proofs.through.is_free_then.Goals as goal

pub returns-then-not-rests_on_root : goal.returns-then-not-rests_on_root
returns-then-not-rests_on_root c =
    let mounts = mounts_in c.args.mounts.now in
    one_does_not mounts (counts c.args.gone.now.ids.now) (mount_of c.in-Some.mount)
    c.children-child-items.result.now c.loop-child.child-index _ c.loop-child-test.true
    (sym c.rests_on_root.ensures ∙ c.if-not-rests_on_root.true) c.loop-child.invariant
    ∙ free_if_all mounts (counts c.args.gone.now.ids.now) c.children-child-items.ensures.order (counted c.args.id.count)
    c.in-Some.ensures c.children-child-items.ensures.children

pub returns : goal.returns
returns c =
    let mounts = mounts_in c.args.mounts.now in
    all_rest mounts (counts c.args.gone.now.ids.now) (mount_of c.in-Some.mount) c.children-child-items.result.now
    c.loop-child.child-index c.loop-child-test.false c.loop-child.invariant
    ∙ free_if_all mounts (counts c.args.gone.now.ids.now) c.children-child-items.ensures.order (counted c.args.id.count)
    c.in-Some.ensures c.children-child-items.ensures.children
