use Rattle.std.proofs.Common.{ap, is_some, rules, nat_eq, ◌∙◌}
use Rattle.vt_spec.proofs.Common.{mount_at}
use Rattle.vt_ns.proofs.Common.{lent_of_world, location_of, looks_of_value, number_of, store_stands, world_of}
use Rattle.vt_ns.proofs.looking.LooksKept.{object_is, seen_if_there}
use Rattle.vt_ns.proofs.world.ReadableFiles.{lent_there, readable_there}
use Rattle.vt_ns.proofs.world.World.readable.Goals as goal
use Rattle.vt_ns.specs.contracts.world.World.{the_view}

pub object_there-requires : goal.object_there-requires
object_there-requires c =
    let there = readable_there c.args.self.now c.args._name.now (location_of c.args.file) c.requires in
    let seen = seen_if_there (the_view c.self.inside) c.self.inside.store c.args.self.now c.self.view_is
    c.self.invariant c.args.file (search rules) there in record {
      standing = store_stands (the_view c.self.inside) c.self.inside.store c.self.invariant;
      there = ap is_some (object_is (the_view c.self.inside) c.self.inside.store c.args.self.now c.self.view_is
          c.self.invariant c.args.file (search rules) seen)
          ∙ lent_there ((looks_of_value c.args.self.now).node (location_of c.args.file))
          (lent_of_world (world_of c.args.self.now)
          (mount_at nat_eq (world_of c.args.self.now) (location_of c.args.file)).filesystem
          (number_of c.args.file.node)) there;
    }

pub returns : goal.returns
returns c =
    let there = readable_there c.args.self.now c.args._name.now (location_of c.args.file) c.requires in
    c.object_there.ensures
    ∙ object_is (the_view c.self.inside) c.self.inside.store c.args.self.now c.self.view_is c.self.invariant c.args.file
    (search rules)
    (seen_if_there (the_view c.self.inside) c.self.inside.store c.args.self.now c.self.view_is c.self.invariant
    c.args.file (search rules) there)
