use Rattle.vt_location.specs.Numbers.{same_id}
use Rattle.vt_group.specs.declared.index.Index.{Index}
use Rattle.vt_group.proofs.IndexLemmas.{listed_still, under_still}
use Rattle.vt_group.proofs.index.Index.list.Goals as goal

pub returns-in-Some-clause-kept : goal.returns-in-Some-clause-kept
returns-in-Some-clause-kept c other kind =
    let old : Index = c.args.self.now in
    let new : Index = record old { names = c.put.new.names; mounts = c.put.new.sets } in
    listed_still old new other kind
    (λ group source. under_still same_id old.names new.names old.mounts new.mounts other c.put.ensures.names
    (λ at. c.put.ensures.sets at other) group)
