use Rattle.std.proofs.Common.{ap, ◌∙◌, nat_eq, option_map, find}
use Rattle.vt_tasks.specs.Open.{numbered}
use Rattle.vt_tasks.proofs.OpenLemmas.{find-opened}
use Rattle.vt_tasks.proofs.descriptors.Descriptors.get.Goals as goal

pub returns : goal.returns
returns c = ap (option_map (numbered c.args.number)) (c.copied.ensures ∙ c.get.ensures.value)
    ∙ find-opened c.args.number c.self.inside.by_number.entries
    ∙ ap (find (λ d. nat_eq c.args.number d.number)) c.self.view_is
