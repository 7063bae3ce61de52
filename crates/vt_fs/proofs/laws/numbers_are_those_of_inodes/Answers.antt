use Rattle.vt_fs.proofs.Numbers.{numbers_apart_each, numbers_counted, numbers_listed}
use Rattle.vt_fs.proofs.laws.numbers_are_those_of_inodes.Goals as goal

pub returns-clause-listed : goal.returns-clause-listed
returns-clause-listed c = numbers_listed

pub returns-clause-apart : goal.returns-clause-apart
returns-clause-apart c = numbers_apart_each

pub returns-clause-counted : goal.returns-clause-counted
returns-clause-counted c = numbers_counted
