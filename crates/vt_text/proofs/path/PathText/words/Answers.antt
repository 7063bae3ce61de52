use Rattle.std.proofs.Common.{arith}
use Rattle.vt_text.proofs.PathWords.{length-words_between}
use Rattle.vt_text.proofs.path.PathText.words.Goals as goal

pub returns-clause-count : goal.returns-clause-count
returns-clause-count c = omega (arith, length-words_between 47 c.self.inside.text.now, c.self.invariant.path_limit)
