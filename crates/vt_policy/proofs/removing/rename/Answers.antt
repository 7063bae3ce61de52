use Rattle.std.proofs.Common.{Ok, ap, false, nat_eq, sym, true, unwrap_or, ◌∙◌}
use Rattle.vt_spec.proofs.Common.{Allowed, Rename, ToRename, err_from_is_err_and, holds_of, is_one_object, is_special, name_of, rename_new_walk, rename_rules, same_object_rules, unless-let_through, walk_end}
use Rattle.vt_spec.specs.Machine.Looks.{is_directory_at}
use Rattle.vt_location.specs.Locations.{location_of}
use Rattle.vt_permits.specs.GrantValue.{rename_permit as granted_permit}
use Rattle.vt_tasks.specs.TaskValue.{task_of}
use Rattle.vt_rules.proofs.Judged.{refused, without_memory}
use Rattle.vt_policy.specs.Judged.{judge_by_looks}
use Rattle.vt_policy.proofs.PlaceLemmas.{rename_asked}
use Rattle.vt_rules.proofs.Refusals.{unless-stopped}
use Rattle.vt_policy.proofs.removing.rename.Goals as goal

pub returns-in_err-may_stay : goal.returns-in_err-may_stay
returns-in_err-may_stay g c =
    let looks = g.L.Look.looks c.args.world.now in
    let task = task_of c.args.who.now in
    let from = c.in_ok-from.ensures.ok in
    let to = c.in_ok-to.ensures.ok in
    let object = location_of c.in_ok-from.from.object in
    let there = ap (λ object. unwrap_or object from.0.parent) from.2.object in
    let kind = ap (holds_of (is_directory_at looks)) from.2.object in
    let asked = rename_asked looks task c.args.old.now c.args.new.now from.0 to.0 object true
    from.1 (ap is_special from.2.last ∙ sym c.is_special.ensures ∙ c.if-is_special.false) there kind
    (ap (λ directory. walk_end (rename_new_walk nat_eq looks task c.args.new.now directory))
    (sym c.is_directory.ensures) ∙ to.1)
    (ap is_special to.2.last ∙ sym c.is_special-2.ensures ∙ c.if-is_special-2.false)
    (ap (is_one_object nat_eq looks object) to.2.object ∙ sym c.is_name_of.ensures ∙ c.if-is_name_of.true) in
    let p = err_from_is_err_and c.from_residual-in_err-may_stay.result c.from_residual-in_err-may_stay.ensures.1 in
    rw (p.1, p.2) (refused task (judge_by_looks looks task (Rename c.args.old.now c.args.new.now)) _
    (asked ∙ unless-stopped (same_object_rules nat_eq looks from.0 to.0) (Ok Allowed) _
    (c.in_err-may_stay.ensures from.0 to.0 from.2 to.2)))

pub returns-in_err-may_rename : goal.returns-in_err-may_rename
returns-in_err-may_rename g c =
    let looks = g.L.Look.looks c.args.world.now in
    let task = task_of c.args.who.now in
    let from = c.in_ok-from.ensures.ok in
    let to = c.in_ok-to.ensures.ok in
    let object = location_of c.in_ok-from.from.object in
    let there = ap (λ object. unwrap_or object from.0.parent) from.2.object in
    let kind = ap (holds_of (is_directory_at looks)) from.2.object in
    let asked = rename_asked looks task c.args.old.now c.args.new.now from.0 to.0 object false
    from.1 (ap is_special from.2.last ∙ sym c.is_special.ensures ∙ c.if-is_special.false) there kind
    (ap (λ directory. walk_end (rename_new_walk nat_eq looks task c.args.new.now directory))
    (sym c.is_directory.ensures) ∙ to.1)
    (ap is_special to.2.last ∙ sym c.is_special-2.ensures ∙ c.if-is_special-2.false)
    (ap (is_one_object nat_eq looks object) to.2.object ∙ sym c.is_name_of.ensures ∙ c.if-is_name_of.false) in
    let rows = rename_rules nat_eq looks task from.0 to.0 object in
    let permit = ToRename from.0.parent (name_of from.0.last) to.0.parent (name_of to.0.last) object to.0.object in
    let p = err_from_is_err_and c.from_residual-in_err-may_rename.result c.from_residual-in_err-may_rename.ensures.1 in
    rw (p.1, p.2) (refused task (judge_by_looks looks task (Rename c.args.old.now c.args.new.now)) _
    (asked ∙ unless-stopped rows (Ok permit) _ (c.in_err-may_rename.ensures from.0 to.0 from.2 to.2)))

pub returns-in_err-name_at : goal.returns-in_err-name_at
returns-in_err-name_at g c =
    let looks = g.L.Look.looks c.args.world.now in
    let task = task_of c.args.who.now in
    let from = c.in_ok-from.ensures.ok in
    let to = c.in_ok-to.ensures.ok in
    let object = location_of c.in_ok-from.from.object in
    let there = ap (λ object. unwrap_or object from.0.parent) from.2.object in
    let kind = ap (holds_of (is_directory_at looks)) from.2.object in
    let asked = rename_asked looks task c.args.old.now c.args.new.now from.0 to.0 object false
    from.1 (ap is_special from.2.last ∙ sym c.is_special.ensures ∙ c.if-is_special.false) there kind
    (ap (λ directory. walk_end (rename_new_walk nat_eq looks task c.args.new.now directory))
    (sym c.is_directory.ensures) ∙ to.1)
    (ap is_special to.2.last ∙ sym c.is_special-2.ensures ∙ c.if-is_special-2.false)
    (ap (is_one_object nat_eq looks object) to.2.object ∙ sym c.is_name_of.ensures ∙ c.if-is_name_of.false) in
    let rows = rename_rules nat_eq looks task from.0 to.0 object in
    let permit = ToRename from.0.parent (name_of from.0.last) to.0.parent (name_of to.0.last) object to.0.object in
    let p = err_from_is_err_and c.from_residual-in_err-name_at.result c.from_residual-in_err-name_at.ensures.1 in
    rw (p.1, p.2) (without_memory task (judge_by_looks looks task (Rename c.args.old.now c.args.new.now)) permit _
    (asked ∙ unless-let_through rows (Ok permit)
    (c.in_ok-may_rename.ensures from.0 to.0 from.2 to.2)) c.in_err-name_at.ensures.memory)

pub returns-in_err-name_at-2 : goal.returns-in_err-name_at-2
returns-in_err-name_at-2 g c =
    let looks = g.L.Look.looks c.args.world.now in
    let task = task_of c.args.who.now in
    let from = c.in_ok-from.ensures.ok in
    let to = c.in_ok-to.ensures.ok in
    let object = location_of c.in_ok-from.from.object in
    let there = ap (λ object. unwrap_or object from.0.parent) from.2.object in
    let kind = ap (holds_of (is_directory_at looks)) from.2.object in
    let asked = rename_asked looks task c.args.old.now c.args.new.now from.0 to.0 object false
    from.1 (ap is_special from.2.last ∙ sym c.is_special.ensures ∙ c.if-is_special.false) there kind
    (ap (λ directory. walk_end (rename_new_walk nat_eq looks task c.args.new.now directory))
    (sym c.is_directory.ensures) ∙ to.1)
    (ap is_special to.2.last ∙ sym c.is_special-2.ensures ∙ c.if-is_special-2.false)
    (ap (is_one_object nat_eq looks object) to.2.object ∙ sym c.is_name_of.ensures ∙ c.if-is_name_of.false) in
    let rows = rename_rules nat_eq looks task from.0 to.0 object in
    let permit = ToRename from.0.parent (name_of from.0.last) to.0.parent (name_of to.0.last) object to.0.object in
    let p = err_from_is_err_and c.from_residual-in_err-name_at-2.result c.from_residual-in_err-name_at-2.ensures.1 in
    rw (p.1, p.2) (without_memory task (judge_by_looks looks task (Rename c.args.old.now c.args.new.now)) permit _
    (asked ∙ unless-let_through rows (Ok permit)
    (c.in_ok-may_rename.ensures from.0 to.0 from.2 to.2)) c.in_err-name_at-2.ensures.memory)

pub returns-in_err-boxed : goal.returns-in_err-boxed
returns-in_err-boxed g c =
    let looks = g.L.Look.looks c.args.world.now in
    let task = task_of c.args.who.now in
    let from = c.in_ok-from.ensures.ok in
    let to = c.in_ok-to.ensures.ok in
    let object = location_of c.in_ok-from.from.object in
    let there = ap (λ object. unwrap_or object from.0.parent) from.2.object in
    let kind = ap (holds_of (is_directory_at looks)) from.2.object in
    let asked = rename_asked looks task c.args.old.now c.args.new.now from.0 to.0 object false
    from.1 (ap is_special from.2.last ∙ sym c.is_special.ensures ∙ c.if-is_special.false) there kind
    (ap (λ directory. walk_end (rename_new_walk nat_eq looks task c.args.new.now directory))
    (sym c.is_directory.ensures) ∙ to.1)
    (ap is_special to.2.last ∙ sym c.is_special-2.ensures ∙ c.if-is_special-2.false)
    (ap (is_one_object nat_eq looks object) to.2.object ∙ sym c.is_name_of.ensures ∙ c.if-is_name_of.false) in
    let rows = rename_rules nat_eq looks task from.0 to.0 object in
    let permit = ToRename from.0.parent (name_of from.0.last) to.0.parent (name_of to.0.last) object to.0.object in
    let p = err_from_is_err_and c.from_residual-in_err-boxed.result c.from_residual-in_err-boxed.ensures.1 in
    rw (p.1, p.2) (without_memory task (judge_by_looks looks task (Rename c.args.old.now c.args.new.now)) permit _
    (asked ∙ unless-let_through rows (Ok permit)
    (c.in_ok-may_rename.ensures from.0 to.0 from.2 to.2)) c.in_err-boxed.ensures.memory)

pub returns : goal.returns
returns g c =
    let looks = g.L.Look.looks c.args.world.now in
    let task = task_of c.args.who.now in
    let from = c.in_ok-from.ensures.ok in
    let to = c.in_ok-to.ensures.ok in
    let object = location_of c.in_ok-from.from.object in
    let there = ap (λ object. unwrap_or object from.0.parent) from.2.object in
    let kind = ap (holds_of (is_directory_at looks)) from.2.object in
    let asked = rename_asked looks task c.args.old.now c.args.new.now from.0 to.0 object false
    from.1 (ap is_special from.2.last ∙ sym c.is_special.ensures ∙ c.if-is_special.false) there kind
    (ap (λ directory. walk_end (rename_new_walk nat_eq looks task c.args.new.now directory))
    (sym c.is_directory.ensures) ∙ to.1)
    (ap is_special to.2.last ∙ sym c.is_special-2.ensures ∙ c.if-is_special-2.false)
    (ap (is_one_object nat_eq looks object) to.2.object ∙ sym c.is_name_of.ensures ∙ c.if-is_name_of.false) in
    let rows = rename_rules nat_eq looks task from.0 to.0 object in
    let permit = ToRename from.0.parent (name_of from.0.last) to.0.parent (name_of to.0.last) object to.0.object in
    let old_name = ap name_of from.2.last ∙ sym c.in_ok-name_at.ensures.ok in
    let new_name = ap name_of to.2.last ∙ sym c.in_ok-name_at-2.ensures.ok in
    asked ∙ unless-let_through rows (Ok permit) (c.in_ok-may_rename.ensures from.0 to.0 from.2 to.2)
    ∙ (λ i. Ok (ToRename (from.2.parent i) (old_name i) (to.2.parent i) (new_name i) object (to.2.object i)))
    ∙ ap (λ renamed. Ok (granted_permit renamed)) (sym c.in_ok-boxed.ensures.ok)
