use Rattle.std.proofs.Common.{ap, sym, ◌∙◌, option_copied}
use Rattle.vt_spec.proofs.Common.{option_flatten}
use Rattle.vt_group.specs.ByNumber.{value_at}
use Rattle.vt_group.proofs.Reserving.{value_found}
use Rattle.vt_group.proofs.by_number.ByNumber.get.Goals as goal

pub returns-in-Some : goal.returns-in-Some
returns-in-Some g c =
    rw (← c.number.ensures) (
    ap option_flatten (sym (ap option_copied c.in-Some.is) ∙ c.get.ensures.value)
    ∙ sym (value_found c.number.result c.self.inside.places.entries)
    ∙ ap (λ map. value_at map c.number.result) c.self.view_is)

pub returns-in-None : goal.returns-in-None
returns-in-None g c =
    rw (← c.number.ensures) (
    ap option_flatten (sym (ap option_copied c.in-None.is) ∙ c.get.ensures.value)
    ∙ sym (value_found c.number.result c.self.inside.places.entries)
    ∙ ap (λ map. value_at map c.number.result) c.self.view_is)
