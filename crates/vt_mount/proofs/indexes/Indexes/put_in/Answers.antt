use Rattle.std.proofs.Common.{[], ap, cond, ◌∙◌}
use Rattle.vt_location.specs.Numbers.{same_id}
use Rattle.vt_location.proofs.NodeLemmas.{same_node-itself}
use Rattle.vt_location.specs.declared.locations.Location.{Location}
use Rattle.vt_location.specs.SameNodes.{same_node}
use Rattle.vt_mount.specs.Listed.{inserted, listed}
use Rattle.vt_mount.specs.Standing.{stands_before}
use Rattle.vt_mount.proofs.CountLemmas.{count-entered}
use Rattle.vt_mount.proofs.ReservedLemmas.{reserves-less, is-reserved, same_id-itself}
use Rattle.vt_mount.proofs.indexes.Indexes.put_in.Goals as goal

pub put_in-requires : goal.put_in-requires
put_in-requires c = is-reserved same_id (λ (place : Location). place.mount) c.args.place [] c.args.self.now.by_parent
    (same_id-itself c.args.place.mount) c.requires.parent

pub put_in-requires-2 : goal.put_in-requires-2
put_in-requires-2 c = is-reserved same_node (λ (place : Location). place.node) c.args.place [] c.args.self.now.by_inode
    (same_node-itself c.args.place.node) c.requires.inode

pub returns-clause-reserves : goal.returns-clause-reserves
returns-clause-reserves c namespaces places has = record {
  namespace = has.namespace;
  parent = reserves-less same_id (λ (place : Location). place.mount) c.args.place places c.args.self.now.by_parent
      c.put_in.new.self c.put_in.ensures.reserved has.parent;
  inode = reserves-less same_node (λ (place : Location). place.node) c.args.place places c.args.self.now.by_inode
      c.put_in-2.new.self c.put_in-2.ensures.reserved has.inode;
}

pub returns-clause-place : goal.returns-clause-place
returns-clause-place c q one =
    let was = listed same_node q.node c.args.self.now.by_inode in
    count-entered q c.args.place one c.args.mount was _ (c.put_in-2.ensures.inserted q.node
    ∙ ap (λ s. cond (same_node q.node c.args.place.node) (inserted stands_before s was) was) c.standing.ensures)
