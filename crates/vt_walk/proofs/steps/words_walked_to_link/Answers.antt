use Rattle.std.proofs.Common.{IfSome, ap, option_copied, refl, subst, sym, ◌∙◌, ℕ}
use Rattle.vt_spec.proofs.Common.{Here, err_from_is_err_and}
use Rattle.vt_location.specs.declared.locations.Location.{Location}
use Rattle.vt_location.specs.Locations.{location_of}
use Rattle.vt_tasks.specs.TaskValue.{task_of}
use Rattle.vt_walk.proofs.LeftToRight.{led-refused, led-walked, link-met, no-link, walk-ended, word-refused}
use Rattle.vt_walk.proofs.NodeLemmas.{same-mount, text-there}
use Rattle.vt_walk.specs.PlainWalks.{standing, word_walked}
use Rattle.vt_looks.specs.Looking.{IsGround}
use Rattle.vt_looks.specs.Places.{last_of}
use Rattle.vt_walk.specs.WalkValue.{here_of}
use Rattle.vt_walk.proofs.steps.words_walked_to_link.Goals as goal
use Rattle.vt_walk.proofs.steps.words_walked_to_link.Goals.{in-Some-ground, in_default-ground+then-ne, in_default-ground+else-ne}

-- where a walk has come to, as the definitions see it
abbrev here_at : Location → ℕ → Here ℕ
here_at location left = standing (location_of location) left

pub returns-in_err-next-clause-value : goal.returns-in_err-next-clause-value
returns-in_err-next-clause-value g c follow =
    let looks = g.L.Look.looks c.args.world.now in
    let task = task_of c.args.who.now in
    let p = err_from_is_err_and c.from_residual.result c.from_residual.ensures.1 in
    rw (p.1, p.2) (word-refused looks task follow (here_of c.args.start)
    (here_at c.loop-word.location c.args.start.left) c.args.words c.loop-word.words (c.loop-word.invariant.0 follow)
    c.in-Some.word.now c.next.new.self c.in-Some.ensures.steps _
    (led-refused looks task (here_at c.loop-word.location c.args.start.left) (last_of c.of.result) _ c.in_err-next.ensures.value
    ∙ ap (word_walked looks task (here_at c.loop-word.location c.args.start.left)) c.of.ensures))

pub returns-in-Some-symlink_text-clause-value : goal.returns-in-Some-symlink_text-clause-value
returns-in-Some-symlink_text-clause-value g c follow =
    let looks = g.L.Look.looks c.args.world.now in
    let task = task_of c.args.who.now in
    let here = here_at c.loop-word.location c.args.start.left in
    let next = here_at c.in_ok-next.next.location c.args.start.left in
    link-met looks task follow (here_of c.args.start) here c.args.words c.loop-word.words
    (c.loop-word.invariant.0 follow) c.in-Some.word.now c.next.new.self c.in-Some.ensures.steps next
    (led-walked looks task here (last_of c.of.result)
    (location_of c.in_ok-next.next.location) next c.in_ok-next.ensures.value refl
    ∙ ap (word_walked looks task here) c.of.ensures) c.in-Some-symlink_text.text.now (c.in-Some-symlink_text.ensures
    ∙ text-there looks (g.L.Look.real c.args.world.now) (g.met.L.Look.alike c.args.world.now) c.in_ok-next.next.location
    (option_copied c.node_here-node-in-Some.result) c.node_here-node-in-Some.ensures c.in_ok-next.next.location refl)

pub loop-word-preserved : goal.loop-word-preserved
loop-word-preserved g c =
    let looks = g.L.Look.looks c.args.world.now in
    let task = task_of c.args.who.now in
    let here = here_at c.loop-word.location c.args.start.left in
    let next = here_at c.in_ok-next.next.location c.args.start.left in (
      (λ follow. no-link looks task follow (here_of c.args.start) here c.args.words c.loop-word.words
          (c.loop-word.invariant.0 follow) c.in-Some.word.now c.next.new.self c.in-Some.ensures.steps next
          (led-walked looks task here (last_of c.of.result)
          (location_of c.in_ok-next.next.location) next c.in_ok-next.ensures.value refl
          ∙ ap (word_walked looks task here) c.of.ensures) (c.in_default-symlink_text.ensures
          ∙ text-there looks (g.L.Look.real c.args.world.now) (g.met.L.Look.alike c.args.world.now)
          c.in_ok-next.next.location (option_copied c.node_here-node-in-Some.result) c.node_here-node-in-Some.ensures
          c.in_ok-next.next.location refl)),
      elim c.match-next-2.branch [
        | in-Some-ground w ↦ rw w.ground-is (subst
            (λ ground. IfSome ground (IsGround looks c.in_ok-next.next.location.mount)) w.in-Some-ground.is
            c.in_ok-next.ensures.ground)
        | in_default-ground+then-ne w ↦ rw w.ground-is w.ground-ground-then-ne.ensures
        | in_default-ground+else-ne w ↦ rw (
          w.ground-is,
          same-mount c.in_ok-next.next.location.mount c.loop-word.location.mount (sym w.ne.ensures ∙ w.if-ne.false),
        ) c.loop-word.invariant.1
      ],
      c.node_here-node-in-Some.ensures,
      c.in_ok-next.ensures.found,
    )

pub returns-clause-value : goal.returns-clause-value
returns-clause-value g c follow =
    walk-ended (g.L.Look.looks c.args.world.now) (task_of c.args.who.now) follow (here_of c.args.start)
    (here_at c.loop-word.location c.args.start.left) c.args.words c.loop-word.words
    (c.loop-word.invariant.0 follow) c.in_default.ensures.steps.0
