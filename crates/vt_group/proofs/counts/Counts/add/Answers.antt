use Rattle.std.proofs.Common.{◌≡◌, ◌+◌, Some, ap, arith, cond, is_some, refl, sym, true≢false, ◌∙◌, unwrap_or}
use Rattle.vt_spec.proofs.Common.{option_copied_mut}
use Rattle.vt_group.specs.Sets.{same_group}
use Rattle.vt_group.specs.Types.{count_of, counts_group}
use Rattle.vt_group.proofs.Counted.{count_updated, entries_kept}
use Rattle.vt_group.proofs.counts.Counts.add.Goals as goal

pub returns-clause-counts : goal.returns-clause-counts
returns-clause-counts c other =
    let found = sym c.get_mut.ensures.value ∙ ap option_copied_mut c.in-Some.is in
    let was = ap (λ counts. count_of counts c.args.group) (sym c.self.view_is) ∙ ap (λ o. unwrap_or o 0) found in
    let now : c.min.result ≡ count_of c.args.self.now c.args.group + 1 =
    omega (arith, was, c.requires.most, c.min.ensures, c.saturating_add.ensures) in
    count_updated c.self.inside.counts.entries (c.get_mut.follows.lender c.min.result).entries c.args.group
    (Some c.min.result) ((c.get_mut.follows.holds c.min.result).3 (ap is_some found)).0 other
    ∙ (λ i. cond (same_group c.args.group other) (now i) (count_of (c.self.view_is i) other))

pub returns-clause-kept : goal.returns-clause-kept
returns-clause-kept c other there =
    let found = sym c.get_mut.ensures.value ∙ ap option_copied_mut c.in-Some.is in
    entries_kept c.self.inside.counts.entries (c.get_mut.follows.lender c.min.result).entries c.args.group
    (Some c.min.result) ((c.get_mut.follows.holds c.min.result).3 (ap is_some found)).0 refl other
    (ap (λ counts. counts_group counts other) c.self.view_is ∙ there)

-- there is room

pub returns-in_default-clause-counts : goal.returns-in_default-clause-counts
returns-in_default-clause-counts c other =
    absurd (true≢false (sym (ap (λ counts. counts_group counts c.args.group) c.self.view_is ∙ c.requires.room)
    ∙ ap is_some (sym c.get_mut.ensures.value ∙ ap option_copied_mut c.in_default.is)))

pub returns-in_default-clause-kept : goal.returns-in_default-clause-kept
returns-in_default-clause-kept c other there =
    absurd (true≢false (sym (ap (λ counts. counts_group counts c.args.group) c.self.view_is ∙ c.requires.room)
    ∙ ap is_some (sym c.get_mut.ensures.value ∙ ap option_copied_mut c.in_default.is)))
