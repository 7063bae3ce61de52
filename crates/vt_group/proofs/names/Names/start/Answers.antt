use Rattle.std.proofs.Common.{arith, ap, cond, length, ◌∙◌, Some}
use Rattle.vt_spec.proofs.Common.{lookup}
use Rattle.vt_group.specs.Names.{count_names, names_of}
use Rattle.vt_group.specs.Sets.{same_group}
use Rattle.vt_group.proofs.names.NamesLemmas.{count_inserted, none_kept, one_keeps}
use Rattle.vt_group.proofs.names.Names.start.Goals as goal

pub invariant_of-self-2 : goal.invariant_of-self-2
invariant_of-self-2 c =
    let names = c.self.inside.lists.entries in
    let more = count_inserted names c.args.group c.in_ok-list.list in
    let one = ap length c.in_ok-list.ensures in (
      c.self.invariant.0,
      omega (
        arith,
        ap count_names c.in_ok-insert.ensures.entries,
        more,
        one,
        ap (λ all. length (names_of all c.args.group)) c.self.view_is,
        ap length c.requires,
        c.self.invariant.1,
      ),
      omega (arith, c.self.invariant.2, c.if-self-eq-MOST_NAMES.false),
    )

pub returns-clause-kept : goal.returns-clause-kept
returns-clause-kept c at test =
    one_keeps c.args.self.now c.insert.new.self.entries c.args.group (Some c.in_ok-list.list)
    (λ at. c.in_ok-insert.ensures.updates.0 at
    ∙ ap (λ names. cond (same_group c.args.group at) (Some c.in_ok-list.list) (lookup (same_group at) names))
    c.self.view_is) test at (none_kept (names_of c.args.self.now c.args.group) c.in_ok-list.list test c.requires)
