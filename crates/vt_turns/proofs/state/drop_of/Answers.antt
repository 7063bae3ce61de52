use Rattle.std.proofs.Common.{not, rules}
use Rattle.vt_spec.proofs.Common.{filter_same, same_name}
use Rattle.vt_turns.specs.declared.progress.UnderWay.{UnderWay}
use Rattle.vt_turns.proofs.state.drop_of.Goals as goal

pub returns : goal.returns
returns c = filter_same _ (λ (held : UnderWay). not (same_name c.args.name.now held.progress.task)) _
    (λ x b f' k. search rules) _ _ c.retain.ensures.filtered
