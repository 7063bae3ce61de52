use Rattle.std.proofs.Common.{ap, arith, ◌∙◌}
use Rattle.vt_spec.proofs.Common.{new_directory}
use Rattle.vt_permits.specs.GrantValue.{node_in, number_beside}
use Rattle.vt_rules.proofs.NumbersBeside.{own_number_beside}
use Rattle.vt_rules.proofs.making.empty_directory.Goals as goal

pub returns : goal.returns
returns c =
    let directory = c.args.parent.node in
    let number = ap (number_beside directory directory.birth) c.new.ensures
    ∙ own_number_beside directory (omega arith) in
    ap (node_in c.args.parent) c.directory.ensures
    ∙ (λ i. record { attr = c.args.attr; content = new_directory (number i) })
