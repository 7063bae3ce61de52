use Rattle.std.proofs.Common.{None, ap, cond, refl, sym, ◌∙◌, nat_cmp}
use Rattle.vt_spec.proofs.Common.{option_flatten, remove_entry}
use Rattle.std.specs.BTreeMap.{is_at}
use Rattle.vt_group.specs.ByNumber.{value_at}
use Rattle.vt_group.proofs.Reserving.{value_found, values_ascend, values_removed, values_updated}
use Rattle.vt_group.proofs.by_number.ByNumber.remove.Goals as goal

pub returns-clause-value : goal.returns-clause-value
returns-clause-value g c =
    rw (← c.number.ensures) (
    c.flatten.ensures ∙ ap option_flatten c.swap_remove.ensures.value
    ∙ sym (value_found c.number.result c.self.inside.places.entries)
    ∙ ap (λ map. value_at map c.number.result) c.self.view_is)

pub returns-clause-entries : goal.returns-clause-entries
returns-clause-entries g c =
    rw (← c.number.ensures) (
    values_removed c.number.result c.self.inside.places.entries c.swap_remove.new.self.entries None
    c.swap_remove.ensures.updates.0 refl
    ∙ ap (λ map. remove_entry (is_at (nat_cmp c.number.result)) map.entries) c.self.view_is)

pub returns-clause-updates : goal.returns-clause-updates
returns-clause-updates g c other =
    rw (← c.number.ensures) (
    values_updated c.number.result c.self.inside.places.entries c.swap_remove.new.self.entries None
    c.swap_remove.ensures.updates.0 other
    ∙ ap (λ map. cond (is_at (nat_cmp c.number.result) other) None (value_at map other)) c.self.view_is)

pub returns-clause-ordered : goal.returns-clause-ordered
returns-clause-ordered g c = values_ascend c.swap_remove.new.self.entries
