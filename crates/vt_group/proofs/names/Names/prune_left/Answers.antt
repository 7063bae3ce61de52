use Rattle.std.proofs.Common.{ap, ◌∙◌}
use Rattle.vt_location.specs.Numbers.{same_id}
use Rattle.vt_group.specs.Names.{is_under}
use Rattle.vt_group.specs.Sets.{same_group}
use Rattle.vt_group.proofs.names.Names.prune_left.Goals as goal

pub returns-then-notes_unused-clause-mounts : goal.returns-then-notes_unused-clause-mounts
returns-then-notes_unused-clause-mounts c mount at under =
    ap (λ names. is_under same_id names c.args.mounts.now mount at) c.notes_unused.ensures ∙ under

pub returns-then-notes_unused-clause-lowers : goal.returns-then-notes_unused-clause-lowers
returns-then-notes_unused-clause-lowers c lower at under =
    ap (λ names. is_under same_group names c.args.lowers.now lower at) c.notes_unused.ensures ∙ under

pub returns-clause-mounts : goal.returns-clause-mounts
returns-clause-mounts c mount at under = c.prune.ensures.mounts mount at
    (ap (λ names. is_under same_id names c.args.mounts.now mount at) c.notes_unused.ensures ∙ under)

pub returns-clause-lowers : goal.returns-clause-lowers
returns-clause-lowers c lower at under = c.prune.ensures.lowers lower at
    (ap (λ names. is_under same_group names c.args.lowers.now lower at) c.notes_unused.ensures ∙ under)
