use Rattle.std.proofs.Common.{Some, ap, ◌∙◌}
use Rattle.vt_spec.proofs.Common.{allows}
use Rattle.vt_location.specs.Fronts.{front}
use Rattle.vt_cred.specs.Rights.{right_bits}
use Rattle.vt_location.specs.Locations.{location_of}
use Rattle.vt_tasks.specs.TaskValue.{task_of}
use Rattle.vt_rules.proofs.Alike.{allows-alike}
use Rattle.vt_rules.proofs.rights.may.Goals as goal

pub returns-in-Some : goal.returns-in-Some
returns-in-Some g c =
    let looks = g.L.Look.looks c.args.world.now in
    let who = (task_of c.args.who.now).credentials in
    let at = location_of c.args.at in
    let wanted = right_bits c.args.wanted in
    c.allows.ensures.value ∙ (λ i. allows who (c.attr.ensures i) (c.kind.ensures i) wanted)
    ∙ allows-alike who wanted (Some c.in-Some.node.now) (looks.node at)
    (ap front c.in-Some.ensures ∙ g.met.L.Look.alike c.args.world.now at)
