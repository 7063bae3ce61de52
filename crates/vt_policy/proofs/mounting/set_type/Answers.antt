use Rattle.std.proofs.Common.{[], Ok}
use Rattle.vt_spec.proofs.Common.{ToSetType, err_from_is_err_and, judging}
use Rattle.vt_request.specs.Requests.{type_word_of}
use Rattle.vt_tasks.specs.TaskValue.{task_of}
use Rattle.vt_policy.proofs.MountLemmas.{root_refused}
use Rattle.vt_policy.proofs.mounting.set_type.Goals as goal

pub returns-in_err-here : goal.returns-in_err-here
unfolding judging
returns-in_err-here g c =
    let p = err_from_is_err_and c.from_residual.result c.from_residual.ensures.1 in
    rw (p.1, p.2) (root_refused (g.L.Look.looks c.args.world.now) (task_of c.args.who.now) c.args.path.now
    (λ at. []) (λ at. Ok (ToSetType at.mount (type_word_of c.args.word) c.args.recursive)) _ c.in_err-here.ensures.err)
