use Rattle.std.proofs.Common.{Some, ap, arith, length, sym, ◌∙◌}
use Rattle.vt_group.specs.Names.{count_names}
use Rattle.vt_group.specs.Sets.{same_group}
use Rattle.vt_group.proofs.names.NamesLemmas.{count_taken}
use Rattle.vt_group.proofs.names.Names.forget.Goals as goal

pub overflow_sub-self : goal.overflow_sub-self
overflow_sub-self c =
    let taken = count_taken (same_group c.args.lost) c.self.inside.lists.entries (Some c.in-Some.list)
    (sym c.in-Some.is ∙ c.swap_remove.ensures.value) in
    omega (arith, taken, c.self.invariant.1, ap length c.names.ensures, c.len.ensures.value)

pub invariant_of-self-2 : goal.invariant_of-self-2
invariant_of-self-2 c =
    let taken = count_taken (same_group c.args.lost) c.self.inside.lists.entries (Some c.in-Some.list)
    (sym c.in-Some.is ∙ c.swap_remove.ensures.value) in (
      c.self.invariant.0,
      omega (
        arith,
        ap count_names c.swap_remove.ensures.entries,
        taken,
        c.self.invariant.1,
        ap length c.names.ensures,
        c.len.ensures.value,
      ),
      omega (arith, c.self.invariant.2),
    )
