-- What looks alike is the same to walks and rules, which look at nothing else.
use Rattle.std.proofs.Common.{arith, ◌≡◌, ℕ}
use Rattle.vt_spec.proofs.Common.{Looks, common_steps}
use Rattle.vt_laws_rules.specs.Judged.{AlikeAreJudgedAlike, AlikeAreWalkedAlike, LookAlike}

same_looks : (one other : Looks ℕ) → LookAlike one other → one ≡ other
same_looks one other alike = grind (arith, common_steps)

pub alike_are_walked_alike : AlikeAreWalkedAlike
alike_are_walked_alike one other alike task path = grind (arith, common_steps, same_looks one other alike)

pub alike_are_judged_alike : AlikeAreJudgedAlike
alike_are_judged_alike one other alike overfills task call = cc (same_looks one other alike)
