mod ReachedLaws
mod RootsStay
mod ReachedWalks
use Rattle.vt_laws_trees.proofs.calls.inodes.calls_keep_to_their_paths.Answers.ReachedLaws.{calls_keep_to_their_paths}
use Rattle.vt_laws_trees.proofs.calls.inodes.calls_keep_to_their_paths.Answers.RootsStay.{roots_stay}
use Rattle.vt_laws_trees.proofs.calls.inodes.calls_keep_to_their_paths.Goals as goal

pub returns-clause-paths : goal.returns-clause-paths
returns-clause-paths c = calls_keep_to_their_paths

pub returns-clause-roots : goal.returns-clause-roots
returns-clause-roots c = roots_stay
