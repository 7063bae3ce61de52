use Rattle.std.proofs.Common.{ap, subst, sym, ◌∙◌}
use Rattle.vt_request.specs.Requests.{call_of}
use Rattle.vt_world.specs.WorldValue.{WorldValue}
use Rattle.vt_calls.proofs.Numbered.{ends_seen, kept_where_done, kept_always}
use Rattle.vt_answers.specs.Counters.{CountsFew}
use Rattle.vt_calls.specs.Counting.{counters_of, kernel_counters}
use Rattle.vt_calls.specs.KernelValue.{KernelValue}
use Rattle.vt_calls.specs.contracts.calls.Kernel.{the_view}
use Rattle.vt_calls.proofs.calls.KernelCalls.call.Goals as goal

pub returns-then-is_ok-clause-ends : goal.returns-then-is_ok-clause-ends
returns-then-is_ok-clause-ends c =
    let new : KernelValue = record { world = c.judged_call-answer.new.world; change = c.change_after-after.result } in
    ends_seen (the_view c.self.inside) _ new c.self.view_is c.judged_call-answer.ensures.held c.args.name.now (call_of c.args.call)
    c.judged_call-answer.result c.judged_call-answer.ensures.ends
    (kept_where_done _ c.judged_call-answer.result (sym c.is_ok.ensures.value ∙ c.if-is_ok.true))

pub returns-clause-ends : goal.returns-clause-ends
returns-clause-ends c =
    let new : KernelValue = record { world = c.judged_call-answer.new.world; change = c.self.inside.change } in
    ends_seen (the_view c.self.inside) _ new c.self.view_is c.judged_call-answer.ensures.held c.args.name.now (call_of c.args.call)
    c.judged_call-answer.result c.judged_call-answer.ensures.ends (kept_always c.judged_call-answer.result
    (ap (λ (world : WorldValue). record { world = world; change = c.self.inside.change })))

pub returns-then-is_ok-clause-counts : goal.returns-then-is_ok-clause-counts
returns-then-is_ok-clause-counts c =
    subst (λ kernel. CountsFew (kernel_counters kernel) (counters_of c.judged_call-answer.new.world)) c.self.view_is
    c.judged_call-answer.ensures.counts

pub returns-clause-counts : goal.returns-clause-counts
returns-clause-counts c =
    subst (λ kernel. CountsFew (kernel_counters kernel) (counters_of c.judged_call-answer.new.world)) c.self.view_is
    c.judged_call-answer.ensures.counts
