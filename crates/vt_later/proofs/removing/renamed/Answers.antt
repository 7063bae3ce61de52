use Rattle.std.proofs.Common.{[], ◌∷◌, ◌||◌, nat_eq, not, ◌∙◌}
use Rattle.std.specs.Prelude.{option_to_list}
use Rattle.vt_spec.proofs.Common.{has_no_upper, holds_of, is_mount_point_anywhere, is_mount_point_in, is_read_only, list_any, object_there, or_false_left, unless}
use Rattle.vt_spec.specs.declared.errors.Rule.TheVariants.{F1, L1, P1, P2}
use Rattle.vt_rules.specs.Tables.{kind_rules, layer_rules, right_rules}
use Rattle.vt_tasks.specs.TaskValue.{task_of}
use Rattle.vt_walk.specs.WalkValue.{place_of}
use Rattle.vt_later.specs.Passing.{lets_pass, without}
use Rattle.vt_later.proofs.Renamed.{renamed_rows}
use Rattle.vt_later.proofs.removing.renamed.Goals as goal

pub returns : goal.returns
returns g c asked =
    let looks = g.L.Look.looks c.args.world.now in
    let passed = c.args.passed.now in
    let task = task_of c.args.who.now in
    let from = place_of c.args.from.now in
    let to = place_of c.args.to.now in
    let old = object_there from in
    let layers = c.layers_asked-layers in
    let rights = c.unless-rights.ensures
    ∙ (λ i. unless (without (lets_pass passed) (c.right_rows.ensures i)) layers.result) in
    let ways = c.unless-ways.ensures ∙ (λ i. unless (without (lets_pass passed) (c.way_rows.ensures i)) (rights i)) in
    c.unless.ensures ∙ (λ i. unless (without (lets_pass passed) (c.kind_rows.ensures i)) (ways i))
    ∙ renamed_rows passed (kind_rules nat_eq looks to old)
    ((is_read_only looks from.parent || is_read_only looks to.parent, F1) ∷ [])
    ((list_any looks.is_locked (from.parent ∷ to.parent ∷ old ∷ option_to_list to.object), L1)
    ∷ (is_mount_point_anywhere looks old || holds_of (is_mount_point_in nat_eq looks task.namespace) to.object, P1)
    ∷ (not (nat_eq from.parent.mount to.parent.mount), P2) ∷ [])
    (right_rules nat_eq looks task from to old) (layer_rules nat_eq looks from to old)
    (has_no_upper looks from.parent || has_no_upper looks to.parent) layers.result
    (λ upper. layers.ensures asked (or_false_left (has_no_upper looks from.parent) (has_no_upper looks to.parent) upper))
