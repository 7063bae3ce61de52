use Rattle.std.proofs.Common.{[], ◌∷◌, ◌&&◌, ap, not, sym, ◌∙◌}
use Rattle.vt_spec.proofs.Common.{may}
use Rattle.vt_spec.specs.Machine.Looks.{mounter_may}
use Rattle.vt_spec.specs.Machine.Rules.Descriptors.{copy_rules, is_copied_up}
use Rattle.vt_spec.specs.declared.errors.Rule.TheVariants.{B1, C1, E2, E9, F1, F2, L1}
use Rattle.vt_location.specs.Locations.{location_of}
use Rattle.vt_request.specs.Requests.{access_of}
use Rattle.vt_tasks.specs.TaskValue.{task_of}
use Rattle.vt_later.specs.Past.{table_past}
use Rattle.vt_later.proofs.Rows.{copies_stay, mounter_asked}
use Rattle.vt_later.proofs.descriptors.opened.Goals as goal

pub returns : goal.returns
returns g c asked =
    let looks = g.L.Look.looks c.args.world.now in
    let passed = c.args.passed.now in
    let task = task_of c.args.who.now in
    let at = location_of c.args.file in
    let writes = c.writes-writes in
    let copies = is_copied_up looks at (access_of c.args.access) in
    let right = c.may.ensures ∙ ap (λ wanted. may looks task at wanted) c.rights_of-wanted.ensures in
    let mounter_right = c.mounter_may.ensures ∙ ap (λ wanted. mounter_may looks at wanted) c.rights_of-wanted.ensures in
    let known = sym writes.ensures in
    let above = sym c.has_no_upper.ensures in
    c.unless.ensures
    ∙ mounter_asked passed
    ((c.is_directory.result, E2) ∷ (c.is_kind.result, E9) ∷ (writes.result && c.is_read_only.result, F1) ∷ [])
    ((writes.result && c.is_locked.result, L1) ∷ (not c.may.result, C1) ∷ (not c.mounter_may.result, B1) ∷ [])
    (copy_rules copies looks at) (writes.result && c.has_no_upper.result) c.copied-mounter.result
    (copies_stay looks at copies asked) (λ upper. c.copied-mounter.ensures ((λ i. known i && above i) ∙ upper))
    ∙ (λ i. table_past passed ((c.is_directory.ensures i, E2) ∷ (c.is_kind.ensures i, E9)
    ∷ (writes.ensures i && c.is_read_only.ensures i, F1) ∷ (writes.ensures i && c.has_no_upper.ensures i, F2)
    ∷ (writes.ensures i && c.is_locked.ensures i, L1) ∷ (not (right i), C1) ∷ (not (mounter_right i), B1)
    ∷ copy_rules copies looks at))
