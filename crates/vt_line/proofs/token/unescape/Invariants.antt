use Rattle.std.proofs.Common.{◌≡◌, ◌≤◌, ◌+◌, length}
use Rattle.vt_spec.proofs.Common.{Between}
use Rattle.vt_spec.specs.Language.Script.{spelled}
use Rattle.vt_line.proofs.TokenLemmas.{read_before}
use Rattle.vt_line.proofs.token.unescape.Given as goal

abbrev pub invariant-loop-byte : goal.invariant-loop-byte
invariant-loop-byte l = record {
  size : length l.text.items + length l.rest ≤ length l.initial.text.items + length l.fn.token;
  read : read_before l.text.items (spelled Between l.rest) ≡ read_before l.initial.text.items (spelled Between l.fn.token);
}

abbrev pub decreases-loop-byte : goal.decreases-loop-byte
decreases-loop-byte l = length l.rest
