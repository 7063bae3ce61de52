use Rattle.std.proofs.Common.{◌≡◌, ◌-◌, ◌∙◌, arith, length, sym}
use Rattle.vt_overlay.proofs.merge.PathEnds.{length-without_last}
use Rattle.vt_overlay.proofs.merge.ways.FrontWay.len.Goals as goal

pub returns : goal.returns
returns g c =
    let names = g.W.Way.names c.args.self.now.path.now in
    let less : c.saturating_sub.result ≡ length names - 1 =
    (let all = c.len.ensures in let one = c.saturating_sub.ensures in omega (arith, all, one)) in
    less ∙ sym (length-without_last names)
