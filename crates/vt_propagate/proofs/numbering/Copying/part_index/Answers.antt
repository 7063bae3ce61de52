use Rattle.std.proofs.Common.{ap, ◌∙◌, unwrap_or}
use Rattle.vt_propagate.proofs.Places.{place_within}
use Rattle.vt_propagate.proofs.numbering.Copying.part_index.Goals as goal

pub returns-clause-value : goal.returns-clause-value
returns-clause-value c = c.unwrap_or.ensures ∙ ap (λ o. unwrap_or o 0) c.place_in.ensures

pub returns-clause-within : goal.returns-clause-within
returns-clause-within c some =
    place_within _ _ c.unwrap_or.result (c.unwrap_or.ensures ∙ ap (λ o. unwrap_or o 0) c.place_in.ensures) some
