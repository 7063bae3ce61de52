use Rattle.std.proofs.Common.{nat_eq, subst}
use Rattle.vt_spec.proofs.Common.{Make}
use Rattle.vt_ns.proofs.Common.{ChangesInodes, node_seen, number_of}
use Rattle.vt_spec.specs.Inodes.{changed}
use Rattle.vt_ns.proofs.opening_files.create_next.Goals as goal

pub returns-clause-ok : goal.returns-clause-ok
returns-clause-ok c = record {
  made = subst (λ number. ChangesInodes c.args.directory.filesystem.count
      (λ inodes. changed nat_eq inodes (Make (number_of c.args.directory) c.args.name.items number
      (node_seen c.args.directory.filesystem.count c.args.node)))
      c.args.filesystems.now c.create.new.self) c.in_ok-create.ensures.number c.in_ok-create.ensures.ok;
}
