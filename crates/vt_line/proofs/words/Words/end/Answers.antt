use Rattle.std.proofs.Common.{◌≡◌, ap, sym, ◌∙◌}
use Rattle.vt_spec.proofs.Common.{is_empty_list, raw_tokens}
use Rattle.std.specs.Bool.{then_some}
use Rattle.vt_line.specs.Tokens.{cut, words_left}
use Rattle.vt_line.proofs.WordLemmas.{cut_end, words_end}
use Rattle.vt_line.proofs.words.Words.end.Goals as goal

pub returns-in-None : goal.returns-in-None
returns-in-None c =
    let left = c.args.self.now in
    let bytes = c.self.inside.bytes.now in
    let view : raw_tokens bytes ≡ left = ap (words_left bytes) (sym c.in-None.is) ∙ c.self.view_is in
    words_end left c.then_some.result
    (c.then_some.ensures ∙ ap (λ none. then_some none tt) (c.has_no_token.ensures ∙ ap is_empty_list view))

pub returns-in-Some : goal.returns-in-Some
returns-in-Some c =
    let left = c.args.self.now in
    let bytes = c.self.inside.bytes.now in
    let sizes = c.in-Some.sizes.now in
    let view : cut bytes sizes ≡ left = ap (words_left bytes) (sym c.in-Some.is) ∙ c.self.view_is in
    words_end left c.then_some-in-Some.result (c.then_some-in-Some.ensures
    ∙ ap (λ none. then_some none tt) (c.is_empty.ensures ∙ cut_end bytes sizes ∙ ap is_empty_list view))
