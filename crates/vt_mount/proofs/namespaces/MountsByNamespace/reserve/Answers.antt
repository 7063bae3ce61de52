use Rattle.vt_mount.proofs.MostLemmas.{none_more-same}
use Rattle.vt_mount.proofs.namespaces.MountsByNamespace.reserve.Goals as goal

pub invariant_of-self : goal.invariant_of-self
invariant_of-self c = record {
  bounded = none_more-same c.args.self.now.lists c.reserve.new.self _ c.reserve.ensures.same c.args.self.now.bounded;
}
