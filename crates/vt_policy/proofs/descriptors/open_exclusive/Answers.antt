use Rattle.std.proofs.Common.{ap, is_some, nat_eq, sym, ◌∙◌}
use Rattle.vt_spec.proofs.Common.{Exclusive, is_special, new_walk, walk_end}
use Rattle.vt_spec.specs.declared.errors.Rule.TheVariants.{E1, E2}
use Rattle.vt_spec.specs.Machine.Judging.{opens}
use Rattle.vt_request.specs.Requests.{access_of}
use Rattle.vt_tasks.specs.TaskValue.{task_of}
use Rattle.vt_rules.proofs.Judged.{answers}
use Rattle.vt_rules.specs.Permitted.{create_file_permit}
use Rattle.vt_policy.specs.Judged.{run_by_looks}
use Rattle.vt_policy.proofs.PlaceLemmas.{is_some_mapped, went}
use Rattle.vt_rules.proofs.Rows.{skipped}
use Rattle.vt_policy.proofs.descriptors.open_exclusive.Goals as goal

pub returns : goal.returns
returns g c =
    let looks = g.L.Look.looks c.args.world.now in
    let task = task_of c.args.who.now in
    let access = access_of c.args.how.access in
    let at = c.in_ok-place.ensures.ok in
    answers task (run_by_looks looks task (opens nat_eq looks task c.args.path.now access (Exclusive c.args.how.mode)))
    (create_file_permit looks task at.0 access c.args.how.mode) c.create_file_permit.result
    (went (walk_end (new_walk nat_eq looks task c.args.path.now)) at.0 _ at.1
    ∙ skipped (is_special at.0.last) E1 _ _ (ap is_special at.2.last ∙ sym c.is_special.ensures ∙ c.if-is_special.false)
    ∙ skipped at.0.slash E2 _ _ (at.2.slash ∙ c.if-place.false) ∙ skipped (is_some at.0.object) E1 _ _
    (ap is_some at.2.object ∙ is_some_mapped c.in_ok-place.place.object ∙ sym c.is_some.ensures ∙ c.if-is_some.false))
    (c.create_file_permit.ensures at.0 at.2)
