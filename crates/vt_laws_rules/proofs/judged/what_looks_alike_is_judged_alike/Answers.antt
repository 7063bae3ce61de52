use Rattle.vt_laws_rules.proofs.judged.LooksAlike.{alike_are_judged_alike, alike_are_walked_alike}
use Rattle.vt_laws_rules.proofs.judged.what_looks_alike_is_judged_alike.Goals as goal

pub returns-clause-walks : goal.returns-clause-walks
returns-clause-walks c = alike_are_walked_alike

pub returns-clause-calls : goal.returns-clause-calls
returns-clause-calls c = alike_are_judged_alike
