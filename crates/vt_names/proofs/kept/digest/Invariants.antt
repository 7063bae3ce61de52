use Rattle.std.proofs.Common.{length, ◌≡◌}
use Rattle.vt_names.specs.NamesValue.{digest, digest_from}
use Rattle.vt_names.proofs.kept.digest.Given as goal

abbrev pub invariant-loop-rest : goal.invariant-loop-rest
invariant-loop-rest l = digest_from l.sum l.rest ≡ digest l.fn.name

abbrev pub decreases-loop-rest : goal.decreases-loop-rest
decreases-loop-rest l = length l.rest
