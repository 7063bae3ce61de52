use Rattle.std.proofs.Common.{ap, sym, ◌∙◌}
use Rattle.vt_turns.specs.ProgressValue.{held_meant, progress_meant}
use Rattle.vt_turns.proofs.Holding.{now_held, stays_held, with_held}
use Rattle.vt_turns.proofs.progress.Progress.hold.Goals as goal
use Rattle.std.proofs.Common.{map}

pub returns-then-holds : goal.returns-then-holds
returns-then-holds g c =
    ap (with_held (progress_meant c.args.self.now)) (sym (stays_held (g.C.TakesTurns.world c.args.world.now)
    c.args.filesystem c.args.self.now.filesystems.items (sym c.holds.ensures ∙ c.if-holds.true)))

pub returns : goal.returns
returns g c =
    ap (λ items. with_held (progress_meant c.args.self.now) (map held_meant items)) c.in_ok-push.ensures.items
    ∙ ap (with_held (progress_meant c.args.self.now)) (sym (now_held (g.C.TakesTurns.world c.args.world.now)
    c.args.filesystem c.args.self.now.filesystems.items (sym c.holds.ensures ∙ c.if-holds.false) c.change_of-change.result
    c.change_of-change.ensures))
