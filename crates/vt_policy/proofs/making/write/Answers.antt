use Rattle.std.proofs.Common.{ap, nat_eq, option_map, sym, ◌∙◌, ◌||◌}
use Rattle.vt_spec.proofs.Common.{Write, by_option, file_walk, is_special, judging, or_from, walk_end}
use Rattle.vt_spec.specs.declared.errors.Rule.TheVariants.{E2}
use Rattle.vt_location.specs.Locations.{location_of}
use Rattle.vt_tasks.specs.TaskValue.{task_of}
use Rattle.vt_rules.proofs.Judged.{answers, answers_without}
use Rattle.vt_rules.specs.Permitted.{new_file_permit, rewrite_permit}
use Rattle.vt_policy.specs.Judged.{judge_by_looks}
use Rattle.vt_policy.proofs.PlaceLemmas.{went}
use Rattle.vt_rules.proofs.Rows.{skipped}
use Rattle.vt_policy.proofs.making.write.Goals as goal

pub returns-in-Some : goal.returns-in-Some
unfolding judging
returns-in-Some g c =
    let looks = g.L.Look.looks c.args.world.now in
    let task = task_of c.args.who.now in
    let at = c.in_ok-place.ensures.ok in
    answers_without task (judge_by_looks looks task (Write c.args.path.now c.args.bytes.items))
    (rewrite_permit looks task (location_of c.in-Some.file) c.args.bytes.items) c.rewrite_permit.result
    (went (walk_end (file_walk nat_eq looks task c.args.path.now)) at.0 _ at.1
    ∙ ap (by_option _ _) (at.2.object ∙ ap (option_map location_of) c.in-Some.is)
    ∙ skipped (is_special at.0.last || at.0.slash) E2 _ _
    (or_from _ _ (ap is_special at.2.last ∙ sym c.is_special.ensures ∙ c.if-is_special.false)
    (at.2.slash ∙ c.if-place.false))) c.rewrite_permit.ensures

pub returns-in-None : goal.returns-in-None
unfolding judging
returns-in-None g c =
    let looks = g.L.Look.looks c.args.world.now in
    let task = task_of c.args.who.now in
    let at = c.in_ok-place.ensures.ok in
    answers task (judge_by_looks looks task (Write c.args.path.now c.args.bytes.items))
    (new_file_permit looks task at.0 c.args.bytes.items) c.new_file_permit.result
    (went (walk_end (file_walk nat_eq looks task c.args.path.now)) at.0 _ at.1
    ∙ ap (by_option _ _) (at.2.object ∙ ap (option_map location_of) c.in-None.is)
    ∙ skipped (is_special at.0.last || at.0.slash) E2 _ _
    (or_from _ _ (ap is_special at.2.last ∙ sym c.is_special.ensures ∙ c.if-is_special.false)
    (at.2.slash ∙ c.if-place.false))) (c.new_file_permit.ensures at.0 at.2)
