use Rattle.std.proofs.Common.{Err, ap, arith, nat_eq, refl, sym, ◌∙◌}
use Rattle.vt_spec.proofs.Common.{err_from_is_err_and, symlink_walked}
use Rattle.vt_looks.specs.Places.{last_of}
use Rattle.vt_tasks.specs.TaskValue.{task_of}
use Rattle.vt_steps.specs.StepsValue.{here_of}
use Rattle.vt_steps.proofs.Endings.{ends-refused}
use Rattle.vt_steps.proofs.LeftToRight.{walk-ended}
use Rattle.vt_steps.proofs.WordsWalked.{asked-halted, begun-halted, inside-halted, link-ended, link-halted, link-refused, link-walked, word-halted}
use Rattle.vt_steps.proofs.words.+words_walked.Goals as goal

pub returns-in_err-next : goal.returns-in_err-next
returns-in_err-next g t c =
    let looks = g.L.Look.looks c.args.walker.now.world.now in
    let task = task_of c.args.walker.now.who.now in
    let p = err_from_is_err_and c.from_residual.result c.from_residual.ensures.1 in
    rw (p.1, p.2) (word-halted looks task (symlink_walked nat_eq c.args.depth looks task) (here_of c.args.start)
    (here_of c.loop-word.here) c.args.words c.loop-word.words c.loop-word.invariant c.in-Some.word.now
    c.next.new.self c.in-Some.ensures.steps (last_of c.of.result) c.of.ensures _ c.in_err-next.ensures)

pub returns-then-depth-eq0 : goal.returns-then-depth-eq0
returns-then-depth-eq0 g t c =
    let looks = g.L.Look.looks c.args.walker.now.world.now in
    let task = task_of c.args.walker.now.who.now in
    let here = here_of c.loop-word.here in
    let next = here_of c.in_ok-next.next in
    let text = c.in-Some-symlink_text.text.now in
    ends-refused here_of _ c.denial.result c.in_ok-next.next.steps c.refused.result c.refused.ensures
    (link-refused looks task (symlink_walked nat_eq c.args.depth looks task) (here_of c.args.start)
    here c.args.words c.loop-word.words c.loop-word.invariant c.in-Some.word.now
    c.next.new.self c.in-Some.ensures.steps (last_of c.of.result) c.of.ensures next c.in_ok-next.ensures text
    c.in-Some-symlink_text.ensures _
    (ap (λ depth. symlink_walked nat_eq depth looks task here.location next text) c.if-depth-eq0.true)
    ∙ ap (λ deny. Err (record { deny = deny; steps = next.steps })) (sym c.denial.ensures))

pub returns-in_err-begun-in-Some-symlink_text : goal.returns-in_err-begun-in-Some-symlink_text
returns-in_err-begun-in-Some-symlink_text g t c =
    let looks = g.L.Look.looks c.args.walker.now.world.now in
    let task = task_of c.args.walker.now.who.now in
    let here = here_of c.loop-word.here in
    let next = here_of c.in_ok-next.next in
    let text = c.in-Some-symlink_text.text.now in
    let p = err_from_is_err_and c.from_residual-in_err-begun-in-Some-symlink_text.result
    c.from_residual-in_err-begun-in-Some-symlink_text.ensures.1 in
    rw (p.1, p.2) (link-halted looks task (symlink_walked nat_eq c.args.depth looks task) (here_of c.args.start)
    here c.args.words c.loop-word.words c.loop-word.invariant c.in-Some.word.now
    c.next.new.self c.in-Some.ensures.steps (last_of c.of.result) c.of.ensures next c.in_ok-next.ensures text
    c.in-Some-symlink_text.ensures _ (begun-halted looks task c.args.depth (omega (arith, c.if-depth-eq0.false))
    here.location next text _ refl _ c.in_err-begun-in-Some-symlink_text.ensures))

pub returns-in_err-ended-in-Some-symlink_text : goal.returns-in_err-ended-in-Some-symlink_text
returns-in_err-ended-in-Some-symlink_text g t c =
    let looks = g.L.Look.looks c.args.walker.now.world.now in
    let task = task_of c.args.walker.now.who.now in
    let here = here_of c.loop-word.here in
    let next = here_of c.in_ok-next.next in
    let text = c.in-Some-symlink_text.text.now in
    let p = err_from_is_err_and c.from_residual-in_err-ended-in-Some-symlink_text.result
    c.from_residual-in_err-ended-in-Some-symlink_text.ensures.1 in
    rw (p.1, p.2) (link-halted looks task (symlink_walked nat_eq c.args.depth looks task) (here_of c.args.start)
    here c.args.words c.loop-word.words c.loop-word.invariant c.in-Some.word.now
    c.next.new.self c.in-Some.ensures.steps (last_of c.of.result) c.of.ensures next c.in_ok-next.ensures text
    c.in-Some-symlink_text.ensures _ (inside-halted looks task c.args.depth (omega (arith, c.if-depth-eq0.false))
    here.location next text c.words.result c.words.ensures (here_of c.in_ok-begun-in-Some-symlink_text.begun)
    c.in_ok-begun-in-Some-symlink_text.ensures _ c.in_err-ended-in-Some-symlink_text.ensures))

pub returns-in_err-here-in-Some-symlink_text : goal.returns-in_err-here-in-Some-symlink_text
returns-in_err-here-in-Some-symlink_text g t c =
    let looks = g.L.Look.looks c.args.walker.now.world.now in
    let task = task_of c.args.walker.now.who.now in
    let here = here_of c.loop-word.here in
    let next = here_of c.in_ok-next.next in
    let text = c.in-Some-symlink_text.text.now in
    let p = err_from_is_err_and c.from_residual-in_err-here-in-Some-symlink_text.result
    c.from_residual-in_err-here-in-Some-symlink_text.ensures.1 in
    rw (p.1, p.2) (link-halted looks task (symlink_walked nat_eq c.args.depth looks task) (here_of c.args.start)
    here c.args.words c.loop-word.words c.loop-word.invariant c.in-Some.word.now
    c.next.new.self c.in-Some.ensures.steps (last_of c.of.result) c.of.ensures next c.in_ok-next.ensures text
    c.in-Some-symlink_text.ensures _ (asked-halted looks task c.args.depth (omega (arith, c.if-depth-eq0.false))
    here.location next text c.words.result c.words.ensures (here_of c.in_ok-begun-in-Some-symlink_text.begun)
    c.in_ok-begun-in-Some-symlink_text.ensures (here_of c.in_ok-ended-in-Some-symlink_text.ended)
    c.in_ok-ended-in-Some-symlink_text.ensures _ c.in_err-here-in-Some-symlink_text.ensures))

pub loop-word-preserved-in_ok-here-in-Some-symlink_text :
    goal.loop-word-preserved-in_ok-here-in-Some-symlink_text
loop-word-preserved-in_ok-here-in-Some-symlink_text g t c =
    let looks = g.L.Look.looks c.args.walker.now.world.now in
    let task = task_of c.args.walker.now.who.now in
    let here = here_of c.loop-word.here in
    let next = here_of c.in_ok-next.next in
    let text = c.in-Some-symlink_text.text.now in
    link-walked looks task (symlink_walked nat_eq c.args.depth looks task) (here_of c.args.start)
    here c.args.words c.loop-word.words c.loop-word.invariant c.in-Some.word.now
    c.next.new.self c.in-Some.ensures.steps (last_of c.of.result) c.of.ensures next c.in_ok-next.ensures text
    c.in-Some-symlink_text.ensures (here_of c.in_ok-here-in-Some-symlink_text.here)
    (link-ended looks task c.args.depth (omega (arith, c.if-depth-eq0.false))
    here.location next text c.words.result c.words.ensures (here_of c.in_ok-begun-in-Some-symlink_text.begun)
    c.in_ok-begun-in-Some-symlink_text.ensures (here_of c.in_ok-ended-in-Some-symlink_text.ended)
    c.in_ok-ended-in-Some-symlink_text.ensures _ c.in_ok-here-in-Some-symlink_text.ensures)

pub returns : goal.returns
returns g t c =
    let looks = g.L.Look.looks c.args.walker.now.world.now in
    let task = task_of c.args.walker.now.who.now in
    sym (walk-ended looks task (symlink_walked nat_eq c.args.depth looks task)
    (here_of c.args.start) (here_of c.loop-word.here) c.args.words c.loop-word.words c.loop-word.invariant
    c.in_default.ensures.steps.0)
