use Rattle.std.proofs.Common.{◌∙◌, arith}
use Rattle.vt_overlay.proofs.merge.PathEnds.{in_front, length-without_last}
use Rattle.vt_overlay.proofs.merge.ways.FrontWay.name.Goals as goal

pub name-requires : goal.name-requires
name-requires g c =
    let shorter = length-without_last (g.W.Way.names c.args.self.now.path.now) in
    let within = c.requires in
    omega (arith, shorter, within)

pub returns : goal.returns
returns g c = in_front (g.W.Way.names c.args.self.now.path.now) c.args.index c.requires ∙ c.name.ensures
