use Rattle.std.proofs.Common.{ap, ◌∙◌, nat_eq, option_map, filter, not, find}
use Rattle.vt_tasks.specs.Open.{are_ascending, numbered}
use Rattle.vt_tasks.proofs.OpenLemmas.{ascending-removed, find-opened, opened, opened-removed}
use Rattle.vt_tasks.proofs.descriptors.Descriptors.remove.Goals as goal

pub invariant_of-self : goal.invariant_of-self
invariant_of-self c = ap (are_ascending 0) c.shift_remove.ensures.entries
    ∙ ascending-removed c.args.number 0 c.self.inside.by_number.entries c.self.invariant

pub returns-clause-value : goal.returns-clause-value
returns-clause-value c = ap (option_map (numbered c.args.number)) c.shift_remove.ensures.value
    ∙ find-opened c.args.number c.self.inside.by_number.entries
    ∙ ap (find (λ d. nat_eq c.args.number d.number)) c.self.view_is

pub returns-clause-rest : goal.returns-clause-rest
returns-clause-rest c = ap opened c.shift_remove.ensures.entries
    ∙ opened-removed c.args.number 0 c.self.inside.by_number.entries c.self.invariant
    ∙ ap (filter (λ d. not (nat_eq c.args.number d.number))) c.self.view_is
