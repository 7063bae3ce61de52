use Rattle.std.proofs.Common.{ap, arith, is_some, length, sym, ◌==◌, ◌∙◌}
use Rattle.vt_spec.proofs.Common.{option_copied_mut}
use Rattle.vt_location.specs.Numbers.{same_id}
use Rattle.vt_group.specs.Names.{count_names}
use Rattle.vt_group.specs.Sets.{has, same_group}
use Rattle.vt_group.proofs.names.NamesLemmas.{count_written, empty_keeps, names_within, nil_from_none, shorter_keeps}
use Rattle.vt_group.proofs.names.Names.prune.Goals as goal

pub overflow_sub-self : goal.overflow_sub-self
overflow_sub-self c =
    let found = sym c.get_mut.ensures.value ∙ ap option_copied_mut c.in-Some.is in
    let within = names_within (same_group c.args.group) c.self.inside.lists.entries c.in-Some.list.now found in
    omega (arith, within, c.keep_used.ensures.dropped, c.self.invariant.1)

pub invariant_of-self-then-is_empty : goal.invariant_of-self-then-is_empty
invariant_of-self-then-is_empty c =
    let found = sym c.get_mut.ensures.value ∙ ap option_copied_mut c.in-Some.is in
    let written = count_written (same_group c.args.group) c.self.inside.lists.entries c.in-Some.list.now c.keep_used.new.self found in
    let within = names_within (same_group c.args.group) c.self.inside.lists.entries c.in-Some.list.now found in (
      c.self.invariant.0,
      omega (
        arith,
        written,
        within,
        c.keep_used.ensures.dropped,
        c.self.invariant.1,
        ap count_names (c.get_mut.follows.holds c.keep_used.new.self).0,
      ),
      omega (arith, c.self.invariant.2),
    )

pub invariant_of-self-else-is_empty : goal.invariant_of-self-else-is_empty
invariant_of-self-else-is_empty c =
    let found = sym c.get_mut.ensures.value ∙ ap option_copied_mut c.in-Some.is in
    let written = count_written (same_group c.args.group) c.self.inside.lists.entries c.in-Some.list.now c.keep_used.new.self found in
    let within = names_within (same_group c.args.group) c.self.inside.lists.entries c.in-Some.list.now found in (
      c.self.invariant.0,
      omega (
        arith,
        written,
        within,
        c.keep_used.ensures.dropped,
        c.self.invariant.1,
        ap count_names (c.get_mut.follows.holds c.keep_used.new.self).0,
      ),
      omega (arith, c.self.invariant.2),
    )

pub returns-then-is_empty-clause-mounts : goal.returns-then-is_empty-clause-mounts
returns-then-is_empty-clause-mounts c mount at any =
    let found = sym c.get_mut.ensures.value ∙ ap option_copied_mut c.in-Some.is in
    empty_keeps c.self.inside.lists.entries (c.get_mut.follows.lender c.keep_used.new.self).entries
    c.args.group c.in-Some.list.now c.keep_used.new.self (sym found)
    (((c.get_mut.follows.holds c.keep_used.new.self).3 (ap is_some found)).0)
    (λ name. has same_id name mount c.args.mounts.now) (c.keep_used.ensures.mounts mount)
    (nil_from_none c.keep_used.new.self
    (ap (λ list. length list == 0) (sym c.names.ensures) ∙ sym c.is_empty.ensures ∙ c.if-is_empty.true))
    c.forget.new.self c.forget.ensures.kept at
    (ap (λ names. Rattle.vt_group.specs.Names.is_under same_id names c.args.mounts.now mount at) c.self.view_is ∙ any)

pub returns-else-is_empty-clause-mounts : goal.returns-else-is_empty-clause-mounts
returns-else-is_empty-clause-mounts c mount at any =
    let found = sym c.get_mut.ensures.value ∙ ap option_copied_mut c.in-Some.is in
    shorter_keeps c.self.inside.lists.entries (c.get_mut.follows.lender c.keep_used.new.self).entries
    c.args.group c.in-Some.list.now c.keep_used.new.self (sym found)
    (((c.get_mut.follows.holds c.keep_used.new.self).3 (ap is_some found)).0)
    (λ name. has same_id name mount c.args.mounts.now) (c.keep_used.ensures.mounts mount) at
    (ap (λ names. Rattle.vt_group.specs.Names.is_under same_id names c.args.mounts.now mount at) c.self.view_is ∙ any)

pub returns-then-is_empty-clause-lowers : goal.returns-then-is_empty-clause-lowers
returns-then-is_empty-clause-lowers c lower at any =
    let found = sym c.get_mut.ensures.value ∙ ap option_copied_mut c.in-Some.is in
    empty_keeps c.self.inside.lists.entries (c.get_mut.follows.lender c.keep_used.new.self).entries
    c.args.group c.in-Some.list.now c.keep_used.new.self (sym found)
    (((c.get_mut.follows.holds c.keep_used.new.self).3 (ap is_some found)).0)
    (λ name. has same_group name lower c.args.lowers.now) (c.keep_used.ensures.lowers lower)
    (nil_from_none c.keep_used.new.self
    (ap (λ list. length list == 0) (sym c.names.ensures) ∙ sym c.is_empty.ensures ∙ c.if-is_empty.true))
    c.forget.new.self c.forget.ensures.kept at
    (ap (λ names. Rattle.vt_group.specs.Names.is_under same_group names c.args.lowers.now lower at) c.self.view_is ∙ any)

pub returns-else-is_empty-clause-lowers : goal.returns-else-is_empty-clause-lowers
returns-else-is_empty-clause-lowers c lower at any =
    let found = sym c.get_mut.ensures.value ∙ ap option_copied_mut c.in-Some.is in
    shorter_keeps c.self.inside.lists.entries (c.get_mut.follows.lender c.keep_used.new.self).entries
    c.args.group c.in-Some.list.now c.keep_used.new.self (sym found)
    (((c.get_mut.follows.holds c.keep_used.new.self).3 (ap is_some found)).0)
    (λ name. has same_group name lower c.args.lowers.now) (c.keep_used.ensures.lowers lower) at
    (ap (λ names. Rattle.vt_group.specs.Names.is_under same_group names c.args.lowers.now lower at) c.self.view_is ∙ any)
