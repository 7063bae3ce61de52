use Rattle.std.proofs.Common.{ap, nat_eq, ◌∙◌}
use Rattle.vt_spec.proofs.Common.{each_walked, err_from_is_err_and, walked_if_given, work_walked}
use Rattle.vt_tasks.specs.TaskValue.{task_of}
use Rattle.vt_layers.specs.LayersValue.{first_lowers}
use Rattle.vt_layers.proofs.WalkLemmas.{all-walked, lowers-denied, upper-denied, work-denied}
use Rattle.vt_layers.proofs.walks.layers_walked.Goals as goal

pub returns-in_err-lowers : goal.returns-in_err-lowers
returns-in_err-lowers g c =
    let looks = g.L.Look.looks c.args.world.now in
    let task = task_of c.args.who.now in
    let words = c.args.options.now in
    let p = err_from_is_err_and c.from_residual.result c.from_residual.ensures.1 in
    rw (p.1, p.2) (lowers-denied (each_walked nat_eq looks task words.lowers)
    (walked_if_given nat_eq looks task words.upper) (walked_if_given nat_eq looks task (work_walked words)) _
    (c.in_err-lowers.ensures.err ∙ ap (λ paths. first_lowers (each_walked nat_eq looks task paths)) c.lowers.ensures))

pub returns-in_err-upper : goal.returns-in_err-upper
returns-in_err-upper g c =
    let looks = g.L.Look.looks c.args.world.now in
    let task = task_of c.args.who.now in
    let words = c.args.options.now in
    let p = err_from_is_err_and c.from_residual-in_err-upper.result c.from_residual-in_err-upper.ensures.1 in
    rw (p.1, p.2) (upper-denied (each_walked nat_eq looks task words.lowers)
    (walked_if_given nat_eq looks task words.upper) (walked_if_given nat_eq looks task (work_walked words)) _ _
    (c.in_ok-lowers.ensures.ok ∙ ap (λ paths. first_lowers (each_walked nat_eq looks task paths)) c.lowers.ensures)
    (c.in_err-upper.ensures ∙ ap (walked_if_given nat_eq looks task) c.upper.ensures))

pub returns-in_err-work : goal.returns-in_err-work
returns-in_err-work g c =
    let looks = g.L.Look.looks c.args.world.now in
    let task = task_of c.args.who.now in
    let words = c.args.options.now in
    let p = err_from_is_err_and c.from_residual-in_err-work.result c.from_residual-in_err-work.ensures.1 in
    rw (p.1, p.2) (work-denied (each_walked nat_eq looks task words.lowers)
    (walked_if_given nat_eq looks task words.upper) (walked_if_given nat_eq looks task (work_walked words)) _ _ _
    (c.in_ok-lowers.ensures.ok ∙ ap (λ paths. first_lowers (each_walked nat_eq looks task paths)) c.lowers.ensures)
    (c.in_ok-upper.ensures ∙ ap (walked_if_given nat_eq looks task) c.upper.ensures)
    (c.in_err-work.ensures ∙ ap (walked_if_given nat_eq looks task) c.work.ensures))

pub returns : goal.returns
returns g c =
    let looks = g.L.Look.looks c.args.world.now in
    let task = task_of c.args.who.now in
    let words = c.args.options.now in
    all-walked (each_walked nat_eq looks task words.lowers)
    (walked_if_given nat_eq looks task words.upper) (walked_if_given nat_eq looks task (work_walked words)) _ _ _
    (c.in_ok-lowers.ensures.ok ∙ ap (λ paths. first_lowers (each_walked nat_eq looks task paths)) c.lowers.ensures)
    (c.in_ok-upper.ensures ∙ ap (walked_if_given nat_eq looks task) c.upper.ensures)
    (c.in_ok-work.ensures ∙ ap (walked_if_given nat_eq looks task) c.work.ensures)
