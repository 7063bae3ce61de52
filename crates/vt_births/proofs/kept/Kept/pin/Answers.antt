use Rattle.std.proofs.Common.{Some, ap, sym, ◌∙◌, ◌≡◌}
use Rattle.std.proofs.lemmas.Map.Steps.{set_value_same}
use Rattle.std.specs.Map.{lookup}
use Rattle.vt_spec.proofs.Common.{option_copied_mut}
use Rattle.vt_location.specs.SameNodes.{same_node}
use Rattle.vt_births.proofs.kept.Kept.pin.Goals as goal

-- what was lent is given back as it was
pub returns-in_default-checked_add-clause-err : goal.returns-in_default-checked_add-clause-err
returns-in_default-checked_add-clause-err c =
    let uses = c.in-Some.uses.now in
    let there : lookup (same_node c.args.node) c.self.inside.by_node.entries ≡ Some uses =
    sym c.get_mut.ensures.value ∙ ap option_copied_mut c.in-Some.is in
    let same = (c.get_mut.follows.holds uses).0
    ∙ set_value_same (same_node c.args.node) c.self.inside.by_node.entries uses there in
    (λ i. record { by_node = same i; promised = c.self.inside.promised }) ∙ c.self.view_is
