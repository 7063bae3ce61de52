use Rattle.std.proofs.Common.{take}
use Rattle.vt_test.specs.Tested.{ComparesAll}
use Rattle.vt_test.proofs.compare.compare_each.Given as goal

-- those before this one are compared
abbrev pub invariant-loop-script : goal.invariant-loop-script
invariant-loop-script g l = ComparesAll g.T.Comparing.goes_on (take l.script-index l.scripts) l.initial.told l.told
