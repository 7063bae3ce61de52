use Rattle.std.proofs.Common.{◌≡◌, ◌≤◌, ◌+◌, drop, length, sum, sum_by}
use Rattle.vt_spec.proofs.Common.{each_of, raw_tokens, token_text}
use Rattle.vt_line.specs.Tokens.{cut}
use Rattle.vt_line.proofs.TokenLemmas.{read_before}
use Rattle.vt_line.proofs.token.append_texts.Given as goal

abbrev pub invariant-loop-token : goal.invariant-loop-token
invariant-loop-token l = record {
  can_next : (goal.iterator-loop-token).can_next l.token-iterator;
  is_finite : (goal.iterator-loop-token).is_finite l.token-iterator;
  count : length l.sizes.items ≡ length l.yielded;
  few : length l.sizes.items ≤ 66;
  room : length l.bytes.items + sum_by length (drop (length l.yielded) (raw_tokens l.line)) ≤ sum_by length
      (raw_tokens l.line);
  whole : sum l.sizes.items ≡ length l.bytes.items;
  read : read_before (cut l.bytes.items l.sizes.items)
      (each_of token_text (drop (length l.yielded) (raw_tokens l.line))) ≡ each_of token_text (raw_tokens l.line);
}
