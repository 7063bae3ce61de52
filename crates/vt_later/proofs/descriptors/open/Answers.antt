use Rattle.std.proofs.Common.{Bool, [], ap, sym, ◌∷◌, ◌∙◌}
use Rattle.vt_spec.proofs.Common.{descriptor_rules, judging, unless-let_through}
use Rattle.vt_spec.specs.declared.errors.Rule.TheVariants.{S3}
use Rattle.vt_request.specs.Requests.{access_of}
use Rattle.vt_tasks.specs.TaskValue.{task_of}
use Rattle.vt_later.specs.Passing.{lets_pass, without}
use Rattle.vt_later.specs.Past.{table_past}
use Rattle.vt_later.proofs.descriptors.open.Goals as goal

pub returns-in-OrCreate : goal.returns-in-OrCreate
unfolding judging
returns-in-OrCreate g c asked =
    let looks = g.L.Look.looks c.args.world.now in
    let passed = c.args.passed.now in
    let task = task_of c.args.who.now in
    let room = c.in_ok-first.ensures ∙ ap (λ (full : Bool). table_past passed ((full, S3) ∷ [])) c.has_no_room.ensures in
    rw c.in-OrCreate.is (c.open_or_create.ensures asked _
    ∙ sym (unless-let_through (without (lets_pass passed) (descriptor_rules task)) _ room))

pub returns-in-Exclusive : goal.returns-in-Exclusive
unfolding judging
returns-in-Exclusive g c asked =
    let looks = g.L.Look.looks c.args.world.now in
    let passed = c.args.passed.now in
    let task = task_of c.args.who.now in
    let room = c.in_ok-first.ensures ∙ ap (λ (full : Bool). table_past passed ((full, S3) ∷ [])) c.has_no_room.ensures in
    rw c.in-Exclusive.is (c.open_exclusive.ensures asked (access_of c.args.how.access) _
    ∙ sym (unless-let_through (without (lets_pass passed) (descriptor_rules task)) _ room))
