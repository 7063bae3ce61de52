use Rattle.std.proofs.Common.{◌∙◌}
use Rattle.vt_spec.proofs.Common.{IfOk-weaker}
use Rattle.vt_propagate.specs.declared.numbering.Copying.{Copying}
use Rattle.vt_propagate.proofs.copying.Planning.{first_part, groups_planned}
use Rattle.vt_propagate.proofs.copying.new_groups.Goals as goal

pub returns : goal.returns
returns c =
    let copying : Copying = record {
      graft = c.args.graft.now;
      destination = c.in-Some.destination.now;
      counts = c.args.counts;
      indexes = c.args.indexes;
    } in
    record {
      ok = IfOk-weaker c.all_groups.result _ _ (λ new is world seen are. is
          ∙ groups_planned seen copying (first_part c.args.graft.now.parts.now c.in-Some.ensures.value are)
          are) c.all_groups.ensures;
    }
