use Rattle.std.proofs.Common.{Bor, None, Option, Some, ap, false, is_some, option_copied, option_map, sym, true, ◌≡◌, ◌∙◌, ℕ}
use Rattle.vt_spec.proofs.Common.{Task, task_called}
use Rattle.vt_world.specs.WorldValue.{WorldValue, world_of}
use Rattle.vt_changes.specs.DatedValue.{DatedValue, dated_world}
use Rattle.vt_changes.specs.Following.{has_task}
use Rattle.vt_changes.specs.Kept.{is_named, number_by}
use Rattle.vt_changes.specs.contracts.dated.Dated.{the_view}
use Rattle.vt_changes.proofs.Kept.{named_by}
use Rattle.vt_changes.proofs.Told.{lent_there, no_task_told, task_told}
use Rattle.vt_changes.proofs.dated.Dated.change_of_task.Goals as goal

pub returns-in_err-_task : goal.returns-in_err-_task
returns-in_err-_task c =
    let name = c.args.name.now in
    let none : has_task (world_of c.self.inside.kernel.world) name ≡ false =
    ap (λ (value : WorldValue). has_task (world_of value) name) (sym c.world.ensures)
    ∙ lent_there _ c.task.result _ c.task.ensures.found ∙ ap is_some c.in_err-_task.was in
    c.from_residual.ensures ∙ no_task_told (the_view c.self.inside) name none
    ∙ ap (λ (value : DatedValue). option_map (λ (t : Task ℕ). t.change) (task_called (dated_world value) name))
    c.self.view_is

pub returns : goal.returns
returns c =
    let name = c.args.name.now in
    let there : has_task (world_of c.self.inside.kernel.world) name ≡ true =
    ap (λ (value : WorldValue). has_task (world_of value) name) (sym c.world.ensures)
    ∙ lent_there _ c.task.result _ c.task.ensures.found ∙ ap is_some c.in_ok-_task.was in
    ap Some (c.number_of.ensures
    ∙ ap (λ key. number_by (is_named key) c.self.inside.tasks.entries) c.numbers.ensures.value
    ∙ sym (named_by name c.self.inside.tasks.entries))
    ∙ task_told (the_view c.self.inside) name there
    ∙ ap (λ (value : DatedValue). option_map (λ (t : Task ℕ). t.change) (task_called (dated_world value) name))
    c.self.view_is
