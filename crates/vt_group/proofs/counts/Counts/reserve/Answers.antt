use Rattle.std.proofs.Common.{Some, ap, is_some, refl, sym, ◌∙◌, unwrap_or}
use Rattle.vt_spec.proofs.Common.{lookup, none_from_not_some}
use Rattle.vt_group.specs.Sets.{same_group}
use Rattle.vt_group.specs.Types.{count_of, counts_group}
use Rattle.vt_group.proofs.Counted.{count_kept, entries_kept}
use Rattle.vt_group.proofs.counts.Counts.reserve.Goals as goal

pub returns-then-contains_key-clause-room : goal.returns-then-contains_key-clause-room
returns-then-contains_key-clause-room c =
    sym (ap (λ counts. counts_group counts c.args.group) c.self.view_is) ∙ sym c.contains_key.ensures
    ∙ c.if-contains_key.true

pub returns-clause-room : goal.returns-clause-room
returns-clause-room c = ap is_some c.in_ok-insert.ensures.updates.1

pub returns-clause-kept : goal.returns-clause-kept
returns-clause-kept c other there =
    entries_kept c.self.inside.counts.entries c.insert.new.self.entries c.args.group (Some 0)
    c.in_ok-insert.ensures.updates.0 refl other (ap (λ counts. counts_group counts other) c.self.view_is ∙ there)

pub returns-clause-same : goal.returns-clause-same
returns-clause-same c other = count_kept c.self.inside.counts.entries c.insert.new.self.entries c.args.group (Some 0)
    c.in_ok-insert.ensures.updates.0
    (sym (ap (λ o. unwrap_or o 0) (none_from_not_some (lookup (same_group c.args.group) c.self.inside.counts.entries)
    (sym c.contains_key.ensures ∙ c.if-contains_key.false)))) other
    ∙ ap (λ counts. count_of counts other) c.self.view_is
