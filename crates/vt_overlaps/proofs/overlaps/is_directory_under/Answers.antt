use Rattle.std.proofs.Common.{ap, nat_eq, subst, sym, ◌∙◌}
use Rattle.vt_spec.proofs.Common.{is_directory_under}
use Rattle.vt_fs.specs.FilesystemsValue.{files_at}
use Rattle.vt_fs.specs.Laws.{ParentsAreNamed}
use Rattle.vt_location.specs.declared.locations.NodeRef.{NodeRef}
use Rattle.vt_overlaps.proofs.overlaps.is_directory_under.Goals as goal

pub is_under-requires : goal.is_under-requires
is_under-requires c = record {
  named = subst (λ (n : NodeRef). ParentsAreNamed (files_at c.args.plain.now n.filesystem.count).tree)
      (sym c.node_ref-upper.ensures.value) c.requires;
  one_filesystem = ap (λ (n : NodeRef). n.filesystem) c.node_ref-lower.ensures.value
      ∙ sym (ap (λ (n : NodeRef). n.filesystem) c.node_ref-upper.ensures.value);
}

pub returns : goal.returns
returns c = c.is_under.ensures
    ∙ (λ i. is_directory_under nat_eq (files_at c.args.plain.now (c.node_ref-upper.ensures.value i).filesystem.count)
    (c.node_ref-upper.ensures.number i) (c.node_ref-lower.ensures.number i))
