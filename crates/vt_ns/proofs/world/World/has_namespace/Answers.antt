use Rattle.std.proofs.Common.{ap, find, is_some, nat_eq, sym, ◌∙◌}
use Rattle.vt_spec.proofs.Common.{Namespace}
use Rattle.vt_ns.proofs.Common.{WorldValue, counted, world_of}
use Rattle.vt_ns.proofs.world.FilesystemsThere.{namespace_there}
use Rattle.vt_ns.proofs.world.World.has_namespace.Goals as goal

pub returns : goal.returns
returns c = c.contains_key.ensures
    ∙ sym (namespace_there c.self.inside.namespaces.entries c.args.namespace.count)
    ∙ ap (λ (value : WorldValue). is_some (find (λ (one : Namespace _). nat_eq (counted c.args.namespace.count) one.number)
    (world_of value).namespaces)) c.self.view_is
