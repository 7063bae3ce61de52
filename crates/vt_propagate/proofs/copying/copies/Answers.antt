use Rattle.std.proofs.Common.{ap, length, sym, ◌∙◌, ◌*◌}
use Rattle.vt_spec.proofs.Common.{IfOk-weaker, length-map}
use Rattle.vt_location.specs.MountValue.{mount_of}
use Rattle.vt_propagate.specs.Copying.{as_kept, copied, parts_seen, tree_seen}
use Rattle.vt_propagate.proofs.Attached.{length-rows}
use Rattle.vt_propagate.specs.declared.numbering.Copying.{Copying}
use Rattle.vt_propagate.proofs.copying.Planning.{copies_planned, first_part}
use Rattle.vt_propagate.proofs.copying.copies.Goals as goal

pub returns-clause-ok : goal.returns-clause-ok
returns-clause-ok c =
    let copying : Copying = record {
      graft = c.args.graft.now;
      destination = c.in-Some.destination.now;
      counts = c.args.counts;
      indexes = c.args.indexes;
    } in
    IfOk-weaker c.all_copies.result _ _ (λ copies is world seen are. is
    ∙ copies_planned seen copying (first_part c.args.graft.now.parts.now c.in-Some.ensures.value are)
    are) c.all_copies.ensures

pub returns-clause-length : goal.returns-clause-length
returns-clause-length c =
    let copying : Copying = record {
      graft = c.args.graft.now;
      destination = c.in-Some.destination.now;
      counts = c.args.counts;
      indexes = c.args.indexes;
    } in
    IfOk-weaker c.all_copies.result _ _ (λ copies is. sym (length-map copies.items mount_of) ∙ ap length is
    ∙ length-rows (copied (as_kept c.args.mounts.now c.args.groups.now) copying) (tree_seen copying)
    (parts_seen copying)
    ∙ (λ i. length-map c.args.graft.now.parts.now mount_of i * length-map c.args.graft.now.tree.now mount_of i))
    c.all_copies.ensures
