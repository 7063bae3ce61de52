use Rattle.std.proofs.Common.{ap, ◌∙◌}
use Rattle.vt_group.specs.declared.index.Index.{Index}
use Rattle.vt_group.specs.Names.{names_of, names_of_any}
use Rattle.vt_group.specs.Sets.{has, same_group}
use Rattle.vt_group.proofs.IndexLemmas.{any_still, stays_under}
use Rattle.vt_group.proofs.index.Index.part.Goals as goal

pub returns-clause-others : goal.returns-clause-others
returns-clause-others c other upper apart under =
    let old : Index = c.args.self.now in
    c.prune_left.ensures.lowers other upper
    (any_still (λ name. has same_group name other old.lowers) (λ name. has same_group name other c.take_out-left.new.sets)
    (λ at. c.take_out-left.ensures.others at other apart) (names_of old.names upper) under)

pub returns-clause-own : goal.returns-clause-own
returns-clause-own c upper is under =
    let old : Index = c.args.self.now in
    c.prune_left.ensures.lowers c.args.lower upper
    (stays_under same_group old.names old.lowers c.take_out-left.new.sets c.args.lower upper c.of_any-stays.result.now
    (c.of_any-stays.ensures ∙ ap (names_of_any old.names) is) (λ at. c.take_out-left.ensures.own at c.args.lower) under)
