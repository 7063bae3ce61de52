use Rattle.std.proofs.Common.{Err, ap, subst, sym, ◌∙◌}
use Rattle.vt_spec.proofs.Common.{err_from_is_err_and}
use Rattle.vt_spec.specs.Language.Script.{some_tasks}
use Rattle.vt_line.specs.Calls.{IsDirectiveRead}
use Rattle.vt_line.proofs.DirectiveLemmas.{named_keeps, named_read, none_read, some_named}
use Rattle.vt_line.proofs.directives.sealed.Goals as goal

pub named_tasks-requires : goal.named_tasks-requires
named_tasks-requires c = some_named c.args.words.now (sym c.are_some_tasks.ensures ∙ c.if-not-are_some_tasks.false)

pub returns-then-not-are_some_tasks : goal.returns-then-not-are_some_tasks
returns-then-not-are_some_tasks c = none_read _ (sym c.are_some_tasks.ensures ∙ c.if-not-are_some_tasks.true)

pub returns-in_err-tasks : goal.returns-in_err-tasks
returns-in_err-tasks c =
    let refused = err_from_is_err_and c.from_residual.result c.from_residual.ensures.1 in
    subst (IsDirectiveRead (some_tasks c.args.words.now)) (sym (refused.1 ∙ ap Err refused.2))
    (named_keeps c.args.words.now (sym c.are_some_tasks.ensures ∙ c.if-not-are_some_tasks.false))

pub returns : goal.returns
returns c = named_read c.args.words.now _ (sym c.are_some_tasks.ensures ∙ c.if-not-are_some_tasks.false)
    c.in_ok-tasks.ensures
