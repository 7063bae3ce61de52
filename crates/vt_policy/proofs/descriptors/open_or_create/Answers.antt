use Rattle.std.proofs.Common.{ap, nat_eq, option_map, sym, ◌∙◌, ◌||◌}
use Rattle.vt_spec.proofs.Common.{OrCreate, by_option, file_walk, is_special, or_from, walk_end}
use Rattle.vt_spec.specs.declared.errors.Rule.TheVariants.{E2}
use Rattle.vt_spec.specs.Machine.Judging.{opens}
use Rattle.vt_location.specs.Locations.{location_of}
use Rattle.vt_request.specs.Requests.{access_of}
use Rattle.vt_tasks.specs.TaskValue.{task_of}
use Rattle.vt_rules.proofs.Judged.{answers}
use Rattle.vt_rules.specs.Permitted.{create_file_permit}
use Rattle.vt_policy.specs.Judged.{run_by_looks}
use Rattle.vt_policy.proofs.PlaceLemmas.{went}
use Rattle.vt_rules.proofs.Rows.{skipped}
use Rattle.vt_policy.proofs.descriptors.open_or_create.Goals as goal

pub returns-in-None : goal.returns-in-None
returns-in-None g c =
    let looks = g.L.Look.looks c.args.world.now in
    let task = task_of c.args.who.now in
    let access = access_of c.args.how.access in
    let at = c.in_ok-place.ensures.ok in
    answers task (run_by_looks looks task (opens nat_eq looks task c.args.path.now access (OrCreate c.args.how.mode)))
    (create_file_permit looks task at.0 access c.args.how.mode) c.create_file_permit.result
    (went (walk_end (file_walk nat_eq looks task c.args.path.now)) at.0 _ at.1
    ∙ ap (by_option _ _) (at.2.object ∙ ap (option_map location_of) c.in-None.is)
    ∙ skipped (is_special at.0.last || at.0.slash) E2 _ _
    (or_from _ _ (ap is_special at.2.last ∙ sym c.is_special.ensures ∙ c.if-is_special.false)
    (at.2.slash ∙ c.if-place.false))) (c.create_file_permit.ensures at.0 at.2)
