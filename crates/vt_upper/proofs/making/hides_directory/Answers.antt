use Rattle.std.proofs.Common.{◌∙◌, ◌++◌, ◌<◌, ◌∷◌, [], ap, length, subst, sym}
use Rattle.vt_spec.proofs.Common.{none_is_some, same_Some}
use Rattle.vt_upper.specs.Below.{is_directory_below}
use Rattle.vt_upper.proofs.making.hides_directory.Goals as goal

pub returns-in_default : goal.returns-in_default
returns-in_default c = λ path upper lowers at is.
    none_is_some path (sym (ap (λ o. o) c.in_default.is) ∙ c.way.ensures.value ∙ at)

pub directory_below-requires : goal.directory_below-requires
directory_below-requires c = subst (λ l. 0 < length l) (sym c.layers.ensures) c.requires.standing.upper

pub returns : goal.returns
returns c = λ path upper lowers at is.
    c.directory_below.ensures upper lowers (c.layers.ensures ∙ is)
    ∙ ap (is_directory_below c.args.trees.now upper lowers) (c.under.ensures
    ∙ ap (λ p. p ++ c.args.name.now ∷ []) (same_Some c.in-Some.way path (sym c.in-Some.is ∙ c.way.ensures.value ∙ at)))
