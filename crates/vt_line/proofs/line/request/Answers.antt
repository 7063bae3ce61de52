use Rattle.std.proofs.Common.{ap, subst, sym, ◌∙◌}
use Rattle.vt_spec.proofs.Common.{request_of_texts}
use Rattle.vt_spec.specs.Language.Script.{overlays}
use Rattle.vt_line.specs.Calls.{IsRequestRead}
use Rattle.vt_line.specs.Versions.{version_of}
use Rattle.vt_line.proofs.RequestLemmas.{request-plain}
use Rattle.vt_line.proofs.line.request.Goals as goal

pub returns : goal.returns
returns c =
    let plain = sym c.is_unescaped.ensures ∙ c.if-not-is_unescaped.false in
    let asked = request-plain (version_of c.args.version) c.args.line.now plain
    ∙ ap (request_of_texts (overlays (version_of c.args.version))) (sym c.of_tokens.ensures) in
    subst (λ asked. IsRequestRead asked c.words_request.result) (sym asked) c.words_request.ensures
