use Rattle.std.proofs.Common.{ap, nat_lt, ◌∙◌}
use Rattle.std.specs.List.{list_any}
use Rattle.vt_location.specs.SameNodes.{same_node}
use Rattle.vt_births.specs.Kept.{KeptValue, uses_of}
use Rattle.vt_births.proofs.Uses.{any-used}
use Rattle.vt_births.proofs.kept.Kept.nodes.Goals as goal

pub returns : goal.returns
returns c = λ node. ap (list_any (same_node node)) (c.as_slice.ensures ∙ c.keys.ensures.rest)
    ∙ any-used c.self.inside.by_node.entries c.self.invariant.used node
    ∙ ap (λ (kept : KeptValue). nat_lt 0 (uses_of kept node)) c.self.view_is
