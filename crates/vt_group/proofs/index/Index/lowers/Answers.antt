use Rattle.std.proofs.Common.{ap, ◌∙◌}
use Rattle.vt_spec.proofs.Common.{list_any}
use Rattle.vt_group.specs.Sets.{has, kept_in, same_group}
use Rattle.vt_group.proofs.IndexLemmas.{any_flat}
use Rattle.vt_group.proofs.index.Index.lowers.Goals as goal

pub returns : goal.returns
returns c lower is = ap (list_any (same_group lower)) c.new.ensures
    ∙ any_flat (same_group lower) (λ name. kept_in name c.args.self.now.lowers) c.of.result.now
    ∙ ap (list_any (λ name. has same_group name lower c.args.self.now.lowers)) c.of.ensures ∙ is
