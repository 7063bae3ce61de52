use Rattle.std.proofs.Common.{◌≡◌, ◌||◌, ◌==◌, take}
use Rattle.vt_spec.proofs.Common.{is_plain, list_all}
use Rattle.vt_line.proofs.token.are_unescaped_bytes.Given as goal

abbrev pub invariant-loop-byte : goal.invariant-loop-byte
invariant-loop-byte l = l.unescaped ≡ list_all (λ byte. byte == 32 || is_plain byte) (take l.byte-index l.fn.line)
