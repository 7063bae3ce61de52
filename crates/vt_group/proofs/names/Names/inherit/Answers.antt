use Rattle.std.proofs.Common.{◌≡◌, ◌+◌, ◌≤◌, ◌++◌, ◌∙◌, ap, arith, length, length-append, false, is_some, sym, true, Some, [], unwrap_or}
use Rattle.vt_spec.proofs.Common.{list_any, option_copied_mut}
use Rattle.vt_group.specs.Names.{count_names, names_of}
use Rattle.vt_group.specs.Sets.{same_group}
use Rattle.vt_group.proofs.names.NamesLemmas.{all_of_both, any_of_first, any_of_second, count_taken, count_written, one_has, one_keeps, others_keep}
use Rattle.vt_group.proofs.names.Names.inherit.Goals as goal

pub invariant_of-self-in-Some-get_mut : goal.invariant_of-self-in-Some-get_mut
invariant_of-self-in-Some-get_mut c =
    let own = c.in-Some-get_mut.own.now in
    let taken = count_taken (same_group c.args.lost) c.self.inside.lists.entries (Some c.in-Some.list)
    (sym c.in-Some.is ∙ c.swap_remove.ensures.value) in
    let found = sym c.get_mut.ensures.value ∙ ap option_copied_mut c.in-Some-get_mut.is in
    let written = count_written (same_group c.args.heir) c.swap_remove.new.self.entries own c.append.new.self found in
    let appended = all_of_both own c.in-Some.list c.append.new.self c.append.result c.append.ensures.items
    (c.append.ensures.succeeds
    (omega (arith, ap count_names c.swap_remove.ensures.entries, taken, count_written (same_group c.args.heir) c.swap_remove.new.self.entries own [] found, c.self.invariant.1, c.self.invariant.2))) in (
      c.self.invariant.0,
      omega (
        arith,
        ap count_names c.swap_remove.ensures.entries,
        taken,
        written,
        ap length appended,
        length-append own c.in-Some.list,
        c.self.invariant.1,
        ap count_names (c.get_mut.follows.holds c.append.new.self).0,
      ),
      c.self.invariant.2,
    )

pub returns-in-Some-get_mut-clause-own : goal.returns-in-Some-get_mut-clause-own
returns-in-Some-get_mut-clause-own c apart named test any =
    let own = c.in-Some-get_mut.own.now in
    let list = c.in-Some.list in
    let names = c.self.inside.lists.entries in
    let mid = c.swap_remove.new.self.entries in
    let taken = count_taken (same_group c.args.lost) names (Some list) (sym c.in-Some.is ∙ c.swap_remove.ensures.value) in
    let found = sym c.get_mut.ensures.value ∙ ap option_copied_mut c.in-Some-get_mut.is in
    let written = count_written (same_group c.args.heir) mid own [] found in
    let appended = all_of_both own list c.append.new.self c.append.result c.append.ensures.items
    (c.append.ensures.succeeds
    (omega (arith, ap count_names c.swap_remove.ensures.entries, taken, written, c.self.invariant.1, c.self.invariant.2))) in
    let all = sym (ap (λ o. unwrap_or o []) (sym c.in-Some.is ∙ c.swap_remove.ensures.value)
    ∙ ap (λ old. names_of old c.args.lost) c.self.view_is) in
    one_has mid (c.get_mut.follows.lender c.append.new.self).entries c.args.heir (Some c.append.new.self)
    (((c.get_mut.follows.holds c.append.new.self).3 (ap is_some found)).0) test
    (ap (list_any test) appended ∙ any_of_second test own list (ap (list_any test) (sym all) ∙ any))

pub returns-in-Some-get_mut-clause-kept : goal.returns-in-Some-get_mut-clause-kept
returns-in-Some-get_mut-clause-kept c at test apart any =
    let own = c.in-Some-get_mut.own.now in
    let list = c.in-Some.list in
    let mid = c.swap_remove.new.self.entries in
    let found = sym c.get_mut.ensures.value ∙ ap option_copied_mut c.in-Some-get_mut.is in
    one_keeps mid (c.get_mut.follows.lender c.append.new.self).entries c.args.heir (Some c.append.new.self)
    (((c.get_mut.follows.holds c.append.new.self).3 (ap is_some found)).0) test at
    (λ among. any_of_first test own list c.append.new.self c.append.result c.append.ensures.items
    (ap (λ o. list_any test (unwrap_or o [])) (sym found) ∙ among))
    (others_keep c.self.inside.lists.entries mid c.args.lost Rattle.std.proofs.Common.None c.swap_remove.ensures.updates.0 at test apart
    (ap (λ old. list_any test (names_of old at)) c.self.view_is ∙ any))

pub overflow_sub-self : goal.overflow_sub-self
overflow_sub-self c =
    let taken = count_taken (same_group c.args.lost) c.self.inside.lists.entries (Some c.in-Some.list)
    (sym c.in-Some.is ∙ c.swap_remove.ensures.value) in
    omega (arith, taken, c.self.invariant.1, ap length c.names.ensures, c.len.ensures.value)

pub invariant_of-self-in_default-get_mut : goal.invariant_of-self-in_default-get_mut
invariant_of-self-in_default-get_mut c =
    let taken = count_taken (same_group c.args.lost) c.self.inside.lists.entries (Some c.in-Some.list)
    (sym c.in-Some.is ∙ c.swap_remove.ensures.value) in (
      c.self.invariant.0,
      omega (
        arith,
        ap (λ m. count_names m.entries) c.get_mut.follows.holds-at-none,
        ap count_names c.swap_remove.ensures.entries,
        taken,
        c.self.invariant.1,
        ap length c.names.ensures,
        c.len.ensures.value,
      ),
      omega (arith, c.self.invariant.2),
    )
