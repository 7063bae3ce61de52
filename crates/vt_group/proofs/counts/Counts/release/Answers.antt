use Rattle.std.proofs.Common.{◌≡◌, None, ap, arith, ◌∙◌}
use Rattle.vt_group.specs.Types.{count_of}
use Rattle.vt_group.proofs.Counted.{count_kept}
use Rattle.vt_group.proofs.counts.Counts.release.Goals as goal

pub returns-then-of-eq0 : goal.returns-then-of-eq0
returns-then-of-eq0 c other =
    let none : 0 ≡ count_of c.self.inside.counts.entries c.args.group =
    omega (arith, c.if-of-eq0.true, c.of.ensures, ap (λ counts. count_of counts c.args.group) c.self.view_is) in
    count_kept c.self.inside.counts.entries c.swap_remove.new.self.entries c.args.group None
    c.swap_remove.ensures.updates.0 none other ∙ ap (λ counts. count_of counts other) c.self.view_is
