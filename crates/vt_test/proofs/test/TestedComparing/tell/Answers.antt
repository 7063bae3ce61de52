use Rattle.std.proofs.Common.{ap, length, sym, ◌∙◌}
use Rattle.std.proofs.lemmas.List.{length-map}
use Rattle.vt_verdict.specs.Compared.{line_of}
use Rattle.vt_verdict.specs.Counts.{counted}
use Rattle.vt_test.proofs.test.TestedComparing.tell.Goals as goal

pub returns : goal.returns
returns c =
    c.say.ensures ∙ c.count.ensures
    ∙ ap (λ lines. counted lines c.args.self.now.totals) (sym (length-map c.args.found.now line_of))
