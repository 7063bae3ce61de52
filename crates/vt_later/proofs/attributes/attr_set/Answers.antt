use Rattle.std.proofs.Common.{[], ◌∷◌, not, refl, sym, ◌∙◌}
use Rattle.vt_spec.proofs.Common.{SetAttr}
use Rattle.vt_spec.specs.declared.errors.Rule.TheVariants.{C2, F1, F2, L1}
use Rattle.vt_location.specs.Locations.{location_of}
use Rattle.vt_later.specs.Past.{table_past}
use Rattle.vt_later.proofs.Rows.{mounter_asked}
use Rattle.vt_later.proofs.attributes.attr_set.Goals as goal

pub returns : goal.returns
returns g c asked attr =
    let looks = g.L.Look.looks c.args.world.now in
    let passed = c.args.passed.now in
    let at = location_of c.args.object in
    let change = SetAttr at.node attr in
    let mounter = c.mounter_refusal-mounter in
    c.unless.ensures
    ∙ mounter_asked passed ((c.is_read_only.result, F1) ∷ []) ((c.is_locked.result, L1) ∷ (not c.args.allowed, C2) ∷ [])
    (looks.mounter_rules at change) c.has_no_upper.result mounter.result (asked at change)
    (λ upper. mounter.ensures change refl (sym c.has_no_upper.ensures ∙ upper))
    ∙ (λ i. table_past passed ((c.is_read_only.ensures i, F1) ∷ (c.has_no_upper.ensures i, F2)
    ∷ (c.is_locked.ensures i, L1) ∷ (not c.args.allowed, C2) ∷ looks.mounter_rules at change))
