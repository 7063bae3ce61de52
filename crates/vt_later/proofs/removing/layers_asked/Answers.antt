use Rattle.std.proofs.Common.{[], ◌∷◌, ◌||◌, ◌&&◌, ap, not, sym, ◌∙◌, ℕ}
use Rattle.vt_spec.proofs.Common.{Location, moving, object_there, write_right}
use Rattle.vt_spec.specs.Machine.Looks.{mounter_may}
use Rattle.vt_spec.specs.declared.errors.Rule.TheVariants.{B1, O1}
use Rattle.vt_looks.specs.Asking.{asked_by}
use Rattle.vt_walk.specs.WalkValue.{place_of}
use Rattle.vt_later.specs.Past.{table_past}
use Rattle.vt_later.proofs.Rows.{with_mounter}
use Rattle.vt_later.proofs.removing.layers_asked.Goals as goal

pub returns : goal.returns
returns g c asked upper =
    let looks = g.L.Look.looks c.args.world.now in
    let passed = c.args.passed.now in
    let from = place_of c.args.from.now in
    let to = place_of c.args.to.now in
    let change = moving from to (object_there from) in
    let there = c.object_there-object.ensures in
    let mounter = c.mounter_refusal-mounter in
    let stuck = c.is_stuck.ensures upper in
    let turned = c.changes_parent-turned.ensures in
    let right = c.mounter_may-3.ensures ∙ ap (λ at. mounter_may looks at write_right) there in
    c.unless.ensures
    ∙ with_mounter passed ((c.is_stuck.result, O1) ∷ (not c.mounter_may.result || not c.mounter_may-2.result, B1)
    ∷ (c.changes_parent-turned.result && not c.mounter_may-3.result, B1) ∷ [])
    (looks.mounter_rules from.parent change) mounter.result (asked from.parent change)
    (mounter.ensures change (ap (λ (at : Location ℕ). asked_by (moving from to at)) (sym there)) upper)
    ∙ (λ i. table_past passed ((stuck i, O1) ∷ (not (c.mounter_may.ensures i) || not (c.mounter_may-2.ensures i), B1)
    ∷ (turned i && not (right i), B1) ∷ looks.mounter_rules from.parent change))
