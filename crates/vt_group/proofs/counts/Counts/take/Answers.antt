use Rattle.std.proofs.Common.{Some, ap, arith, cond, is_some, refl, sym, ◌∙◌, eq-eqb, unwrap_or}
use Rattle.vt_spec.proofs.Common.{option_copied_mut}
use Rattle.vt_group.specs.Types.{count_of, counts_group}
use Rattle.vt_group.proofs.Counted.{count_updated, entries_kept}
use Rattle.vt_group.proofs.counts.Counts.take.Goals as goal

pub returns-clause-group : goal.returns-clause-group
returns-clause-group c =
    let group = c.args.group in
    let found = sym c.get_mut.ensures.value ∙ ap option_copied_mut c.in-Some.is in
    let was = ap (λ counts. count_of counts group) (sym c.self.view_is) ∙ ap (λ o. unwrap_or o 0) found in
    let now = count_updated c.self.inside.counts.entries (c.get_mut.follows.lender c.saturating_sub.result).entries group
    (Some c.saturating_sub.result) ((c.get_mut.follows.holds c.saturating_sub.result).3 (ap is_some found)).0 group
    ∙ ap (λ b. cond b c.saturating_sub.result (count_of c.self.inside.counts.entries group))
    (eq-eqb group.count group.count refl) in
    omega (arith, was, now, c.requires, c.saturating_sub.ensures)

pub returns-clause-others : goal.returns-clause-others
returns-clause-others c other apart =
    let found = sym c.get_mut.ensures.value ∙ ap option_copied_mut c.in-Some.is in
    count_updated c.self.inside.counts.entries (c.get_mut.follows.lender c.saturating_sub.result).entries c.args.group
    (Some c.saturating_sub.result) ((c.get_mut.follows.holds c.saturating_sub.result).3 (ap is_some found)).0 other
    ∙ ap (λ b. cond b c.saturating_sub.result (count_of c.self.inside.counts.entries other)) apart
    ∙ ap (λ counts. count_of counts other) c.self.view_is

pub returns-clause-kept : goal.returns-clause-kept
returns-clause-kept c other there =
    let found = sym c.get_mut.ensures.value ∙ ap option_copied_mut c.in-Some.is in
    entries_kept c.self.inside.counts.entries (c.get_mut.follows.lender c.saturating_sub.result).entries c.args.group
    (Some c.saturating_sub.result) ((c.get_mut.follows.holds c.saturating_sub.result).3 (ap is_some found)).0 refl other
    (ap (λ counts. counts_group counts other) c.self.view_is ∙ there)
