use Rattle.std.proofs.Common.{◌||◌, ◌&&◌, ◌==◌, take, sym, ap, ◌∙◌, take_all}
use Rattle.vt_spec.proofs.Common.{is_plain, list_all}
use Rattle.std.proofs.lemmas.List.Folds.{list_all_more}
use Rattle.vt_line.proofs.token.are_unescaped_bytes.Goals as goal

pub loop-byte-preserved : goal.loop-byte-preserved
loop-byte-preserved c =
    let line = c.args.line.now in
    let more = list_all_more (λ byte. byte == 32
    || is_plain byte) line c.loop-byte.byte-index 0 c.loop-byte-test.true in
    ap (λ before. before && c.is_unescaped_byte-unescaped.result) c.loop-byte.invariant
    ∙ ap (λ here. list_all (λ byte. byte == 32 || is_plain byte) (take c.loop-byte.byte-index line) && here)
    c.is_unescaped_byte-unescaped.ensures ∙ sym more

pub returns : goal.returns
returns c =
    let line = c.args.line.now in
    c.loop-byte.invariant ∙ ap (λ taken. list_all (λ byte. byte == 32 || is_plain byte) taken)
    (take_all c.loop-byte.byte-index line c.loop-byte-test.false)
