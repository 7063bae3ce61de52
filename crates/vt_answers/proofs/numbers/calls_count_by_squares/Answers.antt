use Rattle.vt_answers.proofs.CountersSmall.{calls_count_by_squares, counts_are_far_from_their_ends}
use Rattle.vt_answers.proofs.numbers.calls_count_by_squares.Goals as goal

pub returns-clause-squares : goal.returns-clause-squares
returns-clause-squares c = calls_count_by_squares

pub returns-clause-far : goal.returns-clause-far
returns-clause-far c = counts_are_far_from_their_ends
