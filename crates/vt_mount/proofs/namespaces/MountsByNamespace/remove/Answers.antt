use Rattle.vt_mount.proofs.MostLemmas.{none_more-removed}
use Rattle.vt_mount.proofs.namespaces.MountsByNamespace.remove.Goals as goal

pub invariant_of-self : goal.invariant_of-self
invariant_of-self c = record {
  bounded = none_more-removed c.args.self.now.lists c.remove_again.new.self c.args.namespace _ _
      c.remove_again.ensures c.args.self.now.bounded;
}
