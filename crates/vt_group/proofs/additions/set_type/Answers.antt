use Rattle.std.proofs.Common.{ap, map, sym, ◌∙◌}
use Rattle.vt_location.specs.MountValue.{propagation_of}
use Rattle.vt_group.specs.Steps.{numbered_peer}
use Rattle.vt_group.proofs.Adding.{put_sourced}
use Rattle.vt_group.proofs.CountLemmas.{inserted-numbered}
use Rattle.vt_group.proofs.additions.set_type.Goals as goal

pub returns-then-is_some-clause-entries : goal.returns-then-is_some-clause-entries
returns-then-is_some-clause-entries c = ap (map numbered_peer) c.set.ensures.entries
    ∙ inserted-numbered propagation_of c.args.mount.count c.args.kind c.args.types.now.kinds.entries
    ∙ put_sourced c.source.result _ (map numbered_peer c.args.types.now.kinds.entries) _ c.source.ensures.number
    (sym c.is_some.ensures ∙ c.if-is_some.true)
