use Rattle.std.proofs.Common.{◌≤◌, length, subst}
use Rattle.vt_mount.specs.Attached.{attached_in}
use Rattle.vt_mount.specs.MountsValue.{in_order}
use Rattle.vt_mount.proofs.MostLemmas.{attached_at_most}
use Rattle.vt_mount.proofs.mounts.Mounts.most_in_namespace.Goals as goal

pub returns : goal.returns
returns c namespace = subst (λ now. length (attached_in namespace now) ≤ c.most.result) c.self.view_is
    (attached_at_most c.self.inside.indexes (in_order c.self.inside.by_number.entries) c.self.invariant c.most.result
    c.most.ensures namespace)
