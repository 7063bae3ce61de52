use Rattle.std.proofs.Common.{Some, None, cond, inl, sym, ap, ◌∙◌, subst}
use Rattle.vt_spec.proofs.Common.{request_of_texts, then_some}
use Rattle.vt_spec.specs.Language.Script.{overlays}
use Rattle.vt_line.specs.Calls.{IsRequestRead}
use Rattle.vt_line.specs.Versions.{version_of}
use Rattle.vt_line.proofs.RequestLemmas.{request-few}
use Rattle.vt_line.proofs.line.escaped_request.Goals as goal

pub returns-then-not-fill : goal.returns-then-not-fill
returns-then-not-fill c =
    let none = sym c.fill.ensures ∙ ap (λ filled. cond filled (Some c.fill.new.self) None) c.if-not-fill.true in
    inl (
      c.denial.ensures,
      request-few (version_of c.args.version) c.args.line.now ∙ ap (λ texts. then_some texts (request_of_texts (overlays (version_of c.args.version)))) none,
    )

pub returns : goal.returns
returns c =
    let texts = sym c.fill.ensures ∙ ap (λ filled. cond filled (Some c.fill.new.self) None) c.if-not-fill.false in
    let asked = request-few (version_of c.args.version) c.args.line.now ∙ ap (λ texts. then_some texts (request_of_texts (overlays (version_of c.args.version)))) texts
    ∙ ap (request_of_texts (overlays (version_of c.args.version))) (sym c.of_texts.ensures) in
    subst (λ asked. IsRequestRead asked c.words_request.result) (sym asked) c.words_request.ensures
