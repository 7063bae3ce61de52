use Rattle.std.proofs.Common.{Ok, ap, nat_eq, sym, ◌∙◌}
use Rattle.vt_spec.proofs.Common.{AddName, LinkTo, ToChange, err_from_is_err_and, hard_link_rules, is_special, linking, name_of, unless-let_through}
use Rattle.vt_location.specs.Locations.{location_of}
use Rattle.vt_tasks.specs.TaskValue.{task_of}
use Rattle.vt_rules.proofs.Judged.{refused, without_memory}
use Rattle.vt_rules.proofs.Refusals.{unless-stopped}
use Rattle.vt_policy.specs.Judged.{judge_by_looks}
use Rattle.vt_policy.proofs.PlaceLemmas.{link_asked}
use Rattle.vt_policy.proofs.making.link.Goals as goal

pub returns-in_err-may_link : goal.returns-in_err-may_link
returns-in_err-may_link g c =
    let looks = g.L.Look.looks c.args.world.now in
    let task = task_of c.args.who.now in
    let from = c.in_ok-object.ensures.ok in
    let at = c.in_ok-place.ensures.ok in
    let object = location_of c.in_ok-object.object in
    let rows = hard_link_rules nat_eq looks task object at.0 (linking object at.0) in
    let permit = ToChange at.0.parent (linking object at.0) in
    let asked = link_asked looks task c.args.old.now c.args.new.now from.0 at.0 object from.1 from.2 at.1
    (ap is_special at.2.last ∙ sym c.is_special.ensures ∙ c.if-is_special.false) in
    let p = err_from_is_err_and c.from_residual-in_err-may_link.result c.from_residual-in_err-may_link.ensures.1 in
    rw (p.1, p.2) (refused task (judge_by_looks looks task (LinkTo c.args.old.now c.args.new.now)) _
    (asked ∙ unless-stopped rows (Ok permit) _ (c.in_err-may_link.ensures at.0 at.2)))

pub returns-in_err-name_at : goal.returns-in_err-name_at
returns-in_err-name_at g c =
    let looks = g.L.Look.looks c.args.world.now in
    let task = task_of c.args.who.now in
    let from = c.in_ok-object.ensures.ok in
    let at = c.in_ok-place.ensures.ok in
    let object = location_of c.in_ok-object.object in
    let rows = hard_link_rules nat_eq looks task object at.0 (linking object at.0) in
    let permit = ToChange at.0.parent (linking object at.0) in
    let asked = link_asked looks task c.args.old.now c.args.new.now from.0 at.0 object from.1 from.2 at.1
    (ap is_special at.2.last ∙ sym c.is_special.ensures ∙ c.if-is_special.false) in
    let p = err_from_is_err_and c.from_residual-in_err-name_at.result c.from_residual-in_err-name_at.ensures.1 in
    rw (p.1, p.2) (without_memory task (judge_by_looks looks task (LinkTo c.args.old.now c.args.new.now)) permit _
    (asked ∙ unless-let_through rows (Ok permit) (c.in_ok-may_link.ensures at.0 at.2)) c.in_err-name_at.ensures.memory)

pub returns : goal.returns
returns g c =
    let looks = g.L.Look.looks c.args.world.now in
    let task = task_of c.args.who.now in
    let from = c.in_ok-object.ensures.ok in
    let at = c.in_ok-place.ensures.ok in
    let object = location_of c.in_ok-object.object in
    let rows = hard_link_rules nat_eq looks task object at.0 (linking object at.0) in
    let permit = ToChange at.0.parent (linking object at.0) in
    let asked = link_asked looks task c.args.old.now c.args.new.now from.0 at.0 object from.1 from.2 at.1
    (ap is_special at.2.last ∙ sym c.is_special.ensures ∙ c.if-is_special.false) in
    let name = ap name_of at.2.last ∙ sym c.in_ok-name_at.ensures.ok in
    asked ∙ unless-let_through rows (Ok permit) (c.in_ok-may_link.ensures at.0 at.2)
    ∙ (λ i. Ok (ToChange (at.2.parent i) (AddName (at.2.parent i).node (name i) object.node)))
