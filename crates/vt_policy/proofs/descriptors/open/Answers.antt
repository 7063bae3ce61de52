use Rattle.std.proofs.Common.{[], length, nat_eq, nat_le, ◌∙◌, rules}
use Rattle.vt_spec.proofs.Common.{NoCreation, OpenFile, judging, most_descriptors, object_walk, walk_end}
use Rattle.vt_spec.specs.declared.errors.Rule.TheVariants.{S3}
use Rattle.vt_location.specs.Locations.{location_of}
use Rattle.vt_request.specs.Requests.{access_of}
use Rattle.vt_tasks.specs.TaskValue.{task_of}
use Rattle.vt_rules.proofs.Judged.{answers_without}
use Rattle.vt_rules.specs.Permitted.{open_file_permit}
use Rattle.vt_policy.specs.Judged.{judge_by_looks}
use Rattle.vt_policy.proofs.MountLemmas.{reached}
use Rattle.vt_rules.proofs.Rows.{skipped}
use Rattle.vt_policy.proofs.descriptors.open.Goals as goal

pub returns-in_ok-file-in-Never : goal.returns-in_ok-file-in-Never
unfolding judging
returns-in_ok-file-in-Never g c =
    let looks = g.L.Look.looks c.args.world.now in
    let task = task_of c.args.who.now in
    let access = access_of c.args.how.access in
    let at = location_of c.in_ok-file-in-Never.file in
    rw c.in-Never.is (answers_without task (judge_by_looks looks task (OpenFile c.args.path.now access NoCreation))
    (open_file_permit looks task at access) c.open_file_permit.result
    (skipped (nat_le most_descriptors (length task.descriptors)) S3 [] _ (search rules)
    ∙ reached (walk_end (object_walk nat_eq looks task c.args.path.now)) at
    (λ at. open_file_permit looks task at access) c.in_ok-file-in-Never.ensures.ok) c.open_file_permit.ensures)
