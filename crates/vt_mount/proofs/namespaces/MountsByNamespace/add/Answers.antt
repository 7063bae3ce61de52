use Rattle.vt_mount.proofs.MostLemmas.{none_more-added, none_more-same}
use Rattle.vt_mount.specs.Rising.{inserted, precedes}
use Rattle.vt_mount.proofs.namespaces.MountsByNamespace.add.Goals as goal

pub invariant_of-self : goal.invariant_of-self
invariant_of-self c = record {
  bounded = none_more-same c.args.self.now.lists c.add_again.new.self _ c.in_err-add_again.ensures.err
      c.args.self.now.bounded;
}

pub invariant_of-self-2 : goal.invariant_of-self-2
invariant_of-self-2 c = record {
  bounded = none_more-added c.args.self.now.lists c.add_again.new.self c.args.namespace (inserted precedes c.args.mount)
      c.get_again-count.result.now _ _ c.in_ok-add_again.ensures.ok c.get_again-count.ensures c.max-self.ensures
      c.args.self.now.bounded;
}
