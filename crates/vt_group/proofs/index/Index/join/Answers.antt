use Rattle.vt_group.specs.Sets.{same_group}
use Rattle.vt_group.proofs.IndexLemmas.{under_still}
use Rattle.vt_group.proofs.index.Index.join.Goals as goal

pub returns-clause-lower : goal.returns-clause-lower
returns-clause-lower c low up =
    under_still same_group c.args.self.now.names c.put.new.names c.args.self.now.lowers c.put.new.sets low
    c.put.ensures.names (λ at. c.put.ensures.sets at low) up
