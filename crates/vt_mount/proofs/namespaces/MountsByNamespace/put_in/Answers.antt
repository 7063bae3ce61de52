use Rattle.vt_mount.proofs.MostLemmas.{none_more-added}
use Rattle.vt_mount.specs.Rising.{inserted, precedes}
use Rattle.vt_mount.proofs.namespaces.MountsByNamespace.put_in.Goals as goal

pub invariant_of-self : goal.invariant_of-self
invariant_of-self c = record {
  bounded = none_more-added c.args.self.now.lists c.put_in.new.self c.args.namespace (inserted precedes c.args.mount)
      c.get_again-count.result.now _ _ c.put_in.ensures.inserted c.get_again-count.ensures c.max-self.ensures
      c.args.self.now.bounded;
}
