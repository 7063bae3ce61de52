use Rattle.std.proofs.Common.{ap, map, sym, ◌∙◌}
use Rattle.vt_mount.specs.MountsValue.{mounts_in}
use Rattle.vt_propagate.specs.Falling.{point_of}
use Rattle.vt_propagate.proofs.Found.{counts}
use Rattle.vt_propagate.proofs.falling.GoneSets.{none_left}
use Rattle.vt_propagate.proofs.falling.all_left.Goals as goal

pub returns-then-not-have_children : goal.returns-then-not-have_children
returns-then-not-have_children c = ap (map point_of) c.new.ensures.items
    ∙ sym (none_left (mounts_in c.args.mounts.now) (counts c.args.gone.now) (counts c.args.gone.now)
    (sym c.have_children.ensures ∙ c.if-not-have_children.true))
