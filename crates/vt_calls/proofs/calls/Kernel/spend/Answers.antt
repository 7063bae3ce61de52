use Rattle.std.proofs.Common.{ap, subst, sym, ◌∙◌}
use Rattle.vt_world.specs.WorldValue.{WorldValue}
use Rattle.vt_calls.proofs.Numbered.{ends_seen, kept_where_done, kept_always}
use Rattle.vt_calls.specs.Counting.{CountsForTasks}
use Rattle.vt_calls.specs.KernelValue.{KernelValue}
use Rattle.vt_calls.specs.Permitted.{IsPermitted, MayBeSpent}
use Rattle.vt_calls.specs.contracts.calls.Kernel.{the_view}
use Rattle.vt_calls.proofs.calls.Kernel.spend.Goals as goal

pub apply-answer-requires : goal.apply-answer-requires
apply-answer-requires c = subst (λ (kernel : KernelValue). MayBeSpent kernel.world kernel.change c.args.name.now
    c.args.permit) (sym c.self.view_is) c.requires

pub returns-then-is_ok-clause-ends : goal.returns-then-is_ok-clause-ends
returns-then-is_ok-clause-ends c = λ call permitted.
    let new : KernelValue = record { world = c.apply-answer.new.world; change = c.saturating_add-after.result } in
    let given = subst (λ (kernel : KernelValue). IsPermitted kernel.world kernel.change c.args.name.now call
    c.args.permit) (sym c.self.view_is) permitted in
    ends_seen (the_view c.self.inside) _ new c.self.view_is given.given.held c.args.name.now call c.apply-answer.result
    (c.apply-answer.ensures.ends call given)
    (kept_where_done _ c.apply-answer.result (sym c.is_ok.ensures.value ∙ c.if-is_ok.true))

pub returns-clause-ends : goal.returns-clause-ends
returns-clause-ends c = λ call permitted.
    let new : KernelValue = record { world = c.apply-answer.new.world; change = c.self.inside.change } in
    let given = subst (λ (kernel : KernelValue). IsPermitted kernel.world kernel.change c.args.name.now call
    c.args.permit) (sym c.self.view_is) permitted in
    ends_seen (the_view c.self.inside) _ new c.self.view_is given.given.held c.args.name.now call c.apply-answer.result
    (c.apply-answer.ensures.ends call given) (kept_always c.apply-answer.result
    (ap (λ (world : WorldValue). record { world = world; change = c.self.inside.change })))

pub returns-then-is_ok-clause-counts : goal.returns-then-is_ok-clause-counts
returns-then-is_ok-clause-counts c = subst (λ (kernel : KernelValue). CountsForTasks kernel.world
    c.apply-answer.new.world) c.self.view_is c.apply-answer.ensures.counts

pub returns-clause-counts : goal.returns-clause-counts
returns-clause-counts c = subst (λ (kernel : KernelValue). CountsForTasks kernel.world
    c.apply-answer.new.world) c.self.view_is c.apply-answer.ensures.counts
