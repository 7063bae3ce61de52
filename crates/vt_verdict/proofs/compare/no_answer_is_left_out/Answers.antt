use Rattle.std.proofs.Common.{arith, length, ◌+◌}
use Rattle.vt_verdict.proofs.Compared.{have-all}
use Rattle.vt_verdict.proofs.compare.no_answer_is_left_out.Goals as goal

pub returns-clause-wanted : goal.returns-clause-wanted
returns-clause-wanted c wanted given = (have-all (length wanted + length given) wanted given (omega arith)).0

pub returns-clause-given : goal.returns-clause-given
returns-clause-given c wanted given = (have-all (length wanted + length given) wanted given (omega arith)).1
