use Rattle.std.proofs.Common.{◌+◌, ap, sym, ◌∙◌, cond, ne_eqb}
use Rattle.vt_spec.proofs.Common.{free_from}
use Rattle.vt_tasks.proofs.OpenLemmas.{free_in, free_in-keys}
use Rattle.vt_tasks.proofs.descriptors.Descriptors.free_number.Goals as goal

pub returns-then-from-free-clause-value : goal.returns-then-from-free-clause-value
returns-then-from-free-clause-value c = sym (ap (free_in c.loop-number.free) c.in-Some.ensures.steps
    ∙ ap (λ b. cond b (free_in (c.loop-number.free + 1) c.next.new.self) c.loop-number.free)
    (ne_eqb c.in-Some.number.now c.loop-number.free (λ same. c.if-from-free.true (c.from.ensures ∙ same))))
    ∙ c.loop-number.invariant.0
    ∙ ap (free_in 0) (c.into_iter-number-iterator.ensures.into_iter_gives ∙ c.keys-number-items.ensures.rest)
    ∙ free_in-keys 0 c.self.inside.by_number.entries ∙ ap (free_from 0) c.self.view_is

pub returns-clause-value : goal.returns-clause-value
returns-clause-value c = sym (ap (free_in c.loop-number.free) c.in-None.ensures.steps.0) ∙ c.loop-number.invariant.0
    ∙ ap (free_in 0) (c.into_iter-number-iterator.ensures.into_iter_gives ∙ c.keys-number-items.ensures.rest)
    ∙ free_in-keys 0 c.self.inside.by_number.entries ∙ ap (free_from 0) c.self.view_is
