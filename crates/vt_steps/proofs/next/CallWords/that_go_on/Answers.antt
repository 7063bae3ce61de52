use Rattle.std.proofs.Common.{ap, take, ◌-◌, ◌∙◌}
use Rattle.vt_steps.specs.StepsValue.{met_of}
use Rattle.vt_steps.proofs.LastDropped.{last_dropped}
use Rattle.vt_steps.proofs.next.CallWords.that_go_on.Goals as goal

pub returns-then-self : goal.returns-then-self
returns-then-self c = last_dropped met_of c.args.self.steps.items c.truncate.new.self.items c.args.self.fails
    c.if-self.true (c.truncate.ensures.items ∙ ap (λ n. take n c.args.self.steps.items)
    (c.saturating_sub.ensures ∙ ap (λ n. n - 1) (c.len-count.ensures ∙ c.args.self.steps.ok.0)))
