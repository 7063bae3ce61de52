use Rattle.std.proofs.Common.{ap, nat_lt, ◌∙◌}
use Rattle.std.proofs.lemmas.Map.Made.{is_some-lookup}
use Rattle.vt_location.specs.SameNodes.{same_node}
use Rattle.vt_births.specs.Kept.{KeptValue, is_kept, uses_of}
use Rattle.vt_births.proofs.Uses.{any-used}
use Rattle.vt_births.proofs.kept.Kept.has.Goals as goal

pub returns-clause-kept : goal.returns-clause-kept
returns-clause-kept c = c.contains_key.ensures
    ∙ is_some-lookup (same_node c.args.node) c.self.inside.by_node.entries
    ∙ ap (λ (kept : KeptValue). is_kept kept c.args.node) c.self.view_is

pub returns-clause-uses : goal.returns-clause-uses
returns-clause-uses c = c.contains_key.ensures
    ∙ is_some-lookup (same_node c.args.node) c.self.inside.by_node.entries
    ∙ any-used c.self.inside.by_node.entries c.self.invariant.used c.args.node
    ∙ ap (λ (kept : KeptValue). nat_lt 0 (uses_of kept c.args.node)) c.self.view_is
