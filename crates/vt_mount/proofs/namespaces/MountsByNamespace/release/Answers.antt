use Rattle.vt_mount.proofs.MostLemmas.{none_more-same}
use Rattle.vt_mount.proofs.namespaces.MountsByNamespace.release.Goals as goal

pub invariant_of-self : goal.invariant_of-self
invariant_of-self c = record {
  bounded = none_more-same c.args.self.now.lists c.release.new.self _ c.release.ensures c.args.self.now.bounded;
}
