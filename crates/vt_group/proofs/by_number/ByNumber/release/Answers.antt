use Rattle.std.proofs.Common.{None, ap, sym, ◌∙◌}
use Rattle.vt_spec.proofs.Common.{none_from_not_some}
use Rattle.vt_group.specs.ByNumber.{value_at}
use Rattle.vt_group.proofs.Reserving.{value_found, values_kept}
use Rattle.vt_group.proofs.by_number.ByNumber.release.Goals as goal

pub returns-then-not-has : goal.returns-then-not-has
returns-then-not-has g c =
    let none = rw (← c.number.ensures) at
    (none_from_not_some _ (sym c.has.ensures ∙ c.if-not-has.true)) in
    values_kept c.number.result c.self.inside.places.entries c.swap_remove.new.self.entries None
    c.swap_remove.ensures.updates.0 (sym (sym (value_found c.number.result c.self.inside.places.entries)
    ∙ ap (λ map. value_at map c.number.result) c.self.view_is ∙ none)) ∙ ap (λ map. map.entries) c.self.view_is
