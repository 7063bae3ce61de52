use Rattle.std.proofs.Common.{ap, ◌∙◌}
use Rattle.vt_spec.proofs.Common.{then_some}
use Rattle.vt_location.specs.Numbers.{same_id}
use Rattle.vt_group.specs.declared.index.Index.{Index}
use Rattle.vt_group.specs.Indexed.{source_of_kind}
use Rattle.vt_group.specs.Names.{names_of, names_of_any}
use Rattle.vt_group.specs.Sets.{has}
use Rattle.vt_group.proofs.IndexLemmas.{any_still, listed_still, source_told_kind, stays_under}
use Rattle.vt_group.proofs.index.Index.leave.Goals as goal

pub returns-clause-others : goal.returns-clause-others
returns-clause-others c other kind apart =
    let old : Index = c.args.self.now in
    let new : Index = record old { names = c.prune_left.new.self; mounts = c.take_out-left.new.sets } in
    listed_still old new other kind (λ group source under. c.prune_left.ensures.mounts other group
    (any_still (λ name. has same_id name other old.mounts) (λ name. has same_id name other new.mounts)
    (λ at. c.take_out-left.ensures.others at other apart) (names_of old.names group) under))

pub returns-clause-own : goal.returns-clause-own
returns-clause-own c kind is =
    let old : Index = c.args.self.now in
    let new : Index = record old { names = c.prune_left.new.self; mounts = c.take_out-left.new.sets } in
    let mount = c.args.mount in
    listed_still old new mount kind (λ group source under. c.prune_left.ensures.mounts mount group
    (stays_under same_id old.names old.mounts new.mounts mount group c.of_any-stays.result.now
    (c.of_any-stays.ensures ∙ ap (names_of_any old.names) (c.source_in-now.ensures
    ∙ ap (λ found. then_some found source_of_kind) is ∙ source_told_kind group kind source))
    (λ at. c.take_out-left.ensures.own at mount) under))
