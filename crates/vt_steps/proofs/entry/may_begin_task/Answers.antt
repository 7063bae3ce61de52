use Rattle.std.proofs.Common.{Ok, ap, nat_eq, option_map, ◌∙◌}
use Rattle.vt_spec.proofs.Common.{Fork, unless}
use Rattle.vt_spec.specs.Machine.Turns.{entry_rules}
use Rattle.vt_request.specs.Requests.{fork_words_of}
use Rattle.vt_tasks.specs.TaskValue.{task_of}
use Rattle.vt_steps.proofs.ForkRules.{map-copied}
use Rattle.vt_steps.proofs.entry.may_begin_task.Goals as goal

pub returns-in-Fork : goal.returns-in-Fork
returns-in-Fork c looks = rw c.in-Fork.is (
    c.may_begin_fork.ensures looks
    ∙ ap (λ words. unless (entry_rules nat_eq looks (task_of c.args.who.now) (Fork words)) (Ok tt))
    (map-copied fork_words_of c.as_ref.result ∙ ap (option_map fork_words_of) c.as_ref.ensures.value))
