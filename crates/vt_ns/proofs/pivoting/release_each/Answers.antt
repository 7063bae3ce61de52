use Rattle.std.proofs.Common.{add-one, ap, arith, false, map, sym, ◌∙◌}
use Rattle.vt_spec.proofs.Common.{common_steps}
use Rattle.vt_ns.proofs.Common.{counted, inode_of, kept, merged_of}
use Rattle.vt_mounting.specs.Detach.Uses.{released_use}
use Rattle.vt_mounting.proofs.detach.CountNoUses.{still_unpinned, unpins_plain}
use Rattle.vt_ns.specs.Pivoting.{without_uses}
use Rattle.vt_ns.proofs.pivoting.release_each.Goals as goal

pub loop-preserved : goal.loop-preserved
loop-preserved c =
    let at = c.args.at in
    let sofar = c.loop.invariant in
    let done = unpins_plain c.loop.store sofar.still at.node c.unpin.new.self c.unpin.ensures in
    record {
      left = (λ i. record {
        mounts = c.release.ensures i;
        filesystems = done.0 i;
        overlays = map merged_of (done.1 i);
      }) ∙ ap (released_use (counted at.mount.count) (inode_of at.node) false) sofar.left
          ∙ ap (λ n. without_uses n at (kept c.args.mounts.now c.args.store.now)) (sym (add-one c.loop.counter));
      overlays = done.1 ∙ sofar.overlays;
      still = still_unpinned c.loop.store sofar.still at.node c.unpin.new.self c.unpin.ensures;
    }

pub returns-clause-left : goal.returns-clause-left
returns-clause-left c = grind (arith, common_steps)
