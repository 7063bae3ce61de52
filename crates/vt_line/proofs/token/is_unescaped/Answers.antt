use Rattle.std.proofs.Common.{◌&&◌, ◌||◌, ◌-◌, ◌%◌, ◌≤◌, ◌==◌, ℕ, Bool, length, take, ap, arith, ◌∙◌}
use Rattle.vt_spec.proofs.Common.{is_plain, list_all}
use Rattle.vt_line.proofs.TokenLemmas.{list_all-covered}
use Rattle.vt_line.proofs.token.is_unescaped.Goals as goal

pub returns : goal.returns
returns c =
    let line = c.args.line.now in
    let bound : length line % 8 ≤ 7 = omega arith in
    let p : ℕ → Bool = λ byte. byte == 32 || is_plain byte in
    ap (λ b. b && c.are_unescaped_bytes-in_last.result) c.are_unescaped_bytes-in_groups.ensures
    ∙ ap (λ b. list_all p c.split_at.result.0.now && b) c.are_unescaped_bytes-in_last.ensures
    ∙ ap (λ front. list_all p front && list_all p c.split_at-2.result.1.now) c.split_at.ensures.front
    ∙ ap (λ back. list_all p (take (length line - length line % 8) line) && list_all p back) c.split_at-2.ensures.back
    ∙ list_all-covered p line (length line - 8) (length line - length line % 8) (omega (arith, bound))
