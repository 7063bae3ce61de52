use Rattle.std.proofs.Common.{[], ◌∷◌, not, refl, sym, ◌∙◌}
use Rattle.vt_spec.proofs.Common.{SetBytes}
use Rattle.vt_spec.specs.declared.errors.Rule.TheVariants.{B1, C1, E2, E6, E9, F1, F2, L1}
use Rattle.vt_location.specs.Locations.{location_of}
use Rattle.vt_later.specs.Past.{table_past}
use Rattle.vt_later.proofs.Rows.{mounter_asked}
use Rattle.vt_later.proofs.making.rewritten.Goals as goal

pub returns : goal.returns
returns g c asked =
    let looks = g.L.Look.looks c.args.world.now in
    let passed = c.args.passed.now in
    let at = location_of c.args.file in
    let change = SetBytes at.node c.args.bytes.now in
    let mounter = c.mounter_refusal-mounter in
    c.unless.ensures
    ∙ mounter_asked passed ((c.is_directory.result, E2) ∷ (c.is_too_large.result, E6) ∷ (c.is_kind.result, E9)
    ∷ (c.is_read_only.result, F1) ∷ [])
    ((c.is_locked.result, L1) ∷ (not c.may.result, C1) ∷ (not c.mounter_may.result, B1) ∷ [])
    (looks.mounter_rules at change) c.has_no_upper.result mounter.result (asked at change)
    (λ upper. mounter.ensures change refl (sym c.has_no_upper.ensures ∙ upper))
    ∙ (λ i. table_past passed ((c.is_directory.ensures i, E2) ∷ (c.is_too_large.ensures i, E6)
    ∷ (c.is_kind.ensures i, E9) ∷ (c.is_read_only.ensures i, F1) ∷ (c.has_no_upper.ensures i, F2)
    ∷ (c.is_locked.ensures i, L1) ∷ (not (c.may.ensures i), C1) ∷ (not (c.mounter_may.ensures i), B1)
    ∷ looks.mounter_rules at change))
