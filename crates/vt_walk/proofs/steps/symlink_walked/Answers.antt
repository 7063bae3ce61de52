use Rattle.std.proofs.Common.{ap, arith, length, refl}
use Rattle.vt_spec.proofs.Common.{err_from_is_err_and}
use Rattle.vt_location.specs.Locations.{location_of}
use Rattle.vt_tasks.specs.TaskValue.{task_of}
use Rattle.vt_walk.proofs.PendingWalked.{first-begun, first-denied, last-link-begun, link-begun, link-denied, link_passed-as, next-walked}
use Rattle.vt_walk.proofs.LinksWalked.{begun-left}
use Rattle.vt_walk.specs.PlainWalks.{followed}
use Rattle.vt_walk.specs.WalkValue.{here_of}
use Rattle.vt_walk.proofs.steps.symlink_walked.Goals as goal
use Rattle.vt_walk.proofs.steps.symlink_walked.Goals.{then-is_unfinished, else-is_unfinished}

pub returns-in_err-here-clause-value : goal.returns-in_err-here-clause-value
returns-in_err-here-clause-value g c =
    let p = err_from_is_err_and c.from_residual.result c.from_residual.ensures.1 in
    rw (p.1, p.2)
    (first-denied (g.L.Look.looks c.args.world.now) (task_of c.args.who.now) (location_of c.args.link.directory)
    (here_of c.args.met) c.args.link.text.now c.args.link.behind c.args.met.few _ c.in_err-here.ensures.value)

pub texts-init : goal.texts-init
texts-init g c =
    let looks = g.L.Look.looks c.args.world.now in
    let task = task_of c.args.who.now in
    let once = rw c.new-pending.ensures at c.push.ensures.items in
    let taken = begun-left looks task (location_of c.args.link.directory) (here_of c.args.met)
    (here_of c.in_ok-here.here) c.args.link.text.now c.in_ok-here.ensures.value in
    let none = ap length c.new-pending.ensures in
    let longer = c.push.ensures.len in
    let few = c.args.met.few in (
      first-begun looks task (location_of c.args.link.directory)
          (here_of c.args.met) c.args.link.text.now c.args.link.behind c.args.met.few
          (here_of c.in_ok-here.here) c.in_ok-here.ensures.value _ c.of-top.result c.push.new.self.items once
          refl refl c.of-top.ensures.text c.of-top.ensures.words,
      omega arith,
      c.in_ok-here.ensures.lent,
    )

pub returns-in_err-here-in-Some-clause-value : goal.returns-in_err-here-in-Some-clause-value
returns-in_err-here-in-Some-clause-value g c =
    let looks = g.L.Look.looks c.args.world.now in
    let task = task_of c.args.who.now in
    let p = err_from_is_err_and c.from_residual-in_err-here-in-Some.result
    c.from_residual-in_err-here-in-Some.ensures.1 in
    rw (p.1, p.2) (link-denied looks task _ (here_of c.texts.here) c.texts.top c.texts.pending.items c.texts.invariant.0
    (location_of c.in-Some.link.directory) (here_of c.in_ok-reached.field-0.here) c.in-Some.link.text.now
    c.in-Some.link.behind c.in_ok-reached.field-0.here.few
    (link_passed-as looks task (followed looks task) (here_of c.in_ok-reached.field-0.here) _ _ _ c.in-Some.is
    (c.in_ok-reached.ensures.value (followed looks task))) _ c.in_err-here-in-Some.ensures.value)

pub texts-preserved-in-Some : goal.texts-preserved-in-Some
texts-preserved-in-Some g c =
    let looks = g.L.Look.looks c.args.world.now in
    let task = task_of c.args.who.now in
    let few = c.texts.invariant.1 in
    let same = c.in_ok-reached.ensures.left in
    let taken = begun-left looks task (location_of c.in-Some.link.directory) (here_of c.in_ok-reached.field-0.here)
    (here_of c.in_ok-here-in-Some.here) c.in-Some.link.text.now c.in_ok-here-in-Some.ensures.value in
    let met = link_passed-as looks task (followed looks task) (here_of c.in_ok-reached.field-0.here) _ _ _ c.in-Some.is
    (c.in_ok-reached.ensures.value (followed looks task)) in
    elim c.if-is_unfinished.branch [
      | then-is_unfinished w ↦
          let longer = w.push-then-is_unfinished.ensures.len in
          rw w.pending-is (
            link-begun looks task _ (here_of c.texts.here) c.texts.top c.texts.pending.items c.texts.invariant.0
                (location_of c.in-Some.link.directory) (here_of c.in_ok-reached.field-0.here) c.in-Some.link.text.now
                c.in-Some.link.behind c.in_ok-reached.field-0.here.few met (here_of c.in_ok-here-in-Some.here)
                c.in_ok-here-in-Some.ensures.value (record { text = c.texts.top.text; words = c.in-Some.link.behind })
                c.of-top-in-Some.result refl refl c.of-top-in-Some.ensures.text c.of-top-in-Some.ensures.words
                w.push-then-is_unfinished.new.self.items w.push-then-is_unfinished.ensures.items,
            omega arith,
            c.in_ok-here-in-Some.ensures.lent,
          )
      | else-is_unfinished w ↦
          let finished = c.is_unfinished.ensures w.if-is_unfinished.false in
          rw w.pending-is (
            last-link-begun looks task _ (here_of c.texts.here) c.texts.top c.texts.pending.items c.texts.invariant.0
                (location_of c.in-Some.link.directory) (here_of c.in_ok-reached.field-0.here) c.in-Some.link.text.now
                c.in-Some.link.behind c.in_ok-reached.field-0.here.few met (here_of c.in_ok-here-in-Some.here)
                c.in_ok-here-in-Some.ensures.value (record { text = c.texts.top.text; words = c.in-Some.link.behind })
                c.of-top-in-Some.result refl refl c.of-top-in-Some.ensures.text c.of-top-in-Some.ensures.words
                finished.0 finished.1,
            omega arith,
            c.in_ok-here-in-Some.ensures.lent,
          )
    ]

pub texts-preserved : goal.texts-preserved
texts-preserved g c =
    let looks = g.L.Look.looks c.args.world.now in
    let task = task_of c.args.who.now in
    let few = c.texts.invariant.1 in
    let same = c.in_ok-reached.ensures.left in
    let shorter = c.in-Some-pop.ensures.len in (
      next-walked looks task _ (here_of c.texts.here) c.texts.top c.texts.pending.items c.texts.invariant.0
          (here_of c.in_ok-reached.field-0.here)
          (link_passed-as looks task (followed looks task) (here_of c.in_ok-reached.field-0.here) _ _ _ c.in-None.is
          (c.in_ok-reached.ensures.value (followed looks task))) c.in_ok-asked_by_slash-in-None.ensures
          c.pop.new.self.items c.in-Some-pop.next c.in-Some-pop.ensures.items,
      omega arith,
      c.in_ok-reached.ensures.lent,
    )
