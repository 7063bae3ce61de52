use Rattle.std.proofs.Common.{◌∷◌, [], ap, arith, length, length-append}
use Rattle.vt_overlay.proofs.merge.climbing.UnderWay.len.Goals as goal

pub returns : goal.returns
returns c =
    let more = length-append c.self.inside.above.now (c.self.inside.name.now ∷ []) in
    let all = ap length c.self.view_is in
    let is = c.self.invariant in
    omega (arith, more, all, is)
