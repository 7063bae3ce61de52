use Rattle.std.proofs.Common.{arith, sym, ◌∙◌}
use Rattle.vt_spec.proofs.Common.{raw_tokens}
use Rattle.vt_line.proofs.TokenLemmas.{token-length}
use Rattle.vt_line.proofs.WhoLemmas.{first_text-plain}
use Rattle.vt_line.proofs.who.first_text.Goals as goal

pub returns-then-is_unescaped : goal.returns-then-is_unescaped
returns-then-is_unescaped c =
    let found = c.in_ok-token.ensures in
    first_text-plain c.args.line.now c.in_ok-token.token.now (raw_tokens c.in_ok-token.field-0-1.now) found.parts
    found.token (sym c.is_unescaped.ensures ∙ c.if-is_unescaped.true)

pub fill-requires : goal.fill-requires
fill-requires c =
    let short = token-length c.args.line.now c.in_ok-token.token.now (raw_tokens c.in_ok-token.field-0-1.now)
    c.in_ok-token.ensures.parts in
    omega (arith, short, c.requires)
