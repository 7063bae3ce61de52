use Rattle.std.proofs.Common.{None, ap, false, subst, sym, true, ◌≡◌, ◌∙◌}
use Rattle.std.specs.Map.{KeepsOthers, lookup}
use Rattle.vt_world.specs.WorldValue.{world_of}
use Rattle.vt_changes.specs.Following.{has_task}
use Rattle.vt_changes.specs.Kept.{is_named, number_by}
use Rattle.vt_changes.proofs.Numbered.{same_key, task_gone, task_raised}
use Rattle.vt_changes.proofs.Told.{lent_there}
use Rattle.vt_changes.proofs.raising.follow_task.Goals as goal

pub returns-then-is_some-clause-numbers : goal.returns-then-is_some-clause-numbers
returns-then-is_some-clause-numbers c = λ other.
    let has : has_task (world_of c.args.world.now) c.args.name.now ≡ true =
    lent_there _ c.task.result _ c.task.ensures.found ∙ sym c.is_some.ensures ∙ c.if-is_some.true in
    ap (number_by (is_named other)) c.raise.ensures.entries
    ∙ task_raised c.args.name.now other c.args.key c.requires.key c.args.numbers.now.entries
    (has_task (world_of c.args.world.now) c.args.name.now) has

pub returns-else-is_some-clause-numbers : goal.returns-else-is_some-clause-numbers
returns-else-is_some-clause-numbers c = λ other.
    let has : has_task (world_of c.args.world.now) c.args.name.now ≡ false =
    lent_there _ c.task.result _ c.task.ensures.found ∙ sym c.is_some.ensures ∙ c.if-is_some.false in
    task_gone c.args.name.now other c.args.numbers.now.entries c.swap_remove-gone.new.self.entries
    (subst (λ name. lookup (is_named name) c.swap_remove-gone.new.self.entries ≡ None) c.numbers.ensures.value
    c.swap_remove-gone.ensures.updates.1)
    (subst (λ name. KeepsOthers same_key (is_named name) c.args.numbers.now.entries
    c.swap_remove-gone.new.self.entries) c.numbers.ensures.value c.swap_remove-gone.ensures.updates.3)
    (has_task (world_of c.args.world.now) c.args.name.now) has
