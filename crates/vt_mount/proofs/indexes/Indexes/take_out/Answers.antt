use Rattle.std.proofs.Common.{ap, cond, sym, ◌&&◌, ◌∙◌}
use Rattle.vt_spec.proofs.Common.{holds_of}
use Rattle.vt_location.specs.Numbers.{same_id}
use Rattle.vt_location.specs.declared.locations.Location.{Location}
use Rattle.vt_location.specs.SameNodes.{same_node}
use Rattle.vt_mount.specs.Indexes.{count_at, count_left, same_place}
use Rattle.vt_mount.specs.Listed.{listed}
use Rattle.vt_mount.specs.Standing.{same_standing}
use Rattle.vt_mount.proofs.CountLemmas.{count-gone}
use Rattle.vt_mount.proofs.RisingLemmas.{others_by}
use Rattle.vt_mount.proofs.ReservedLemmas.{reserves-same}
use Rattle.vt_mount.proofs.indexes.Indexes.take_out.Goals as goal

pub returns-in-Some-clause-reserves : goal.returns-in-Some-clause-reserves
returns-in-Some-clause-reserves c namespaces places has = record {
  namespace = has.namespace;
  parent = reserves-same same_id (λ (place : Location). place.mount) places c.args.self.now.by_parent
      c.take_out.new.self c.take_out.ensures.reserved has.parent;
  inode = reserves-same same_node (λ (place : Location). place.node) places c.args.self.now.by_inode
      c.take_out-in-Some.new.self c.take_out-in-Some.ensures.reserved has.inode;
}

pub returns-in-Some-clause-place : goal.returns-in-Some-clause-place
returns-in-Some-clause-place c q one =
    let place = c.in-Some.was in
    let was = listed same_node q.node c.args.self.now.by_inode in
    count-gone q place one c.args.mount was _ (c.take_out-in-Some.ensures.taken q.node
    ∙ ap (λ s. cond (same_node q.node place.node) (others_by same_standing s was) was) c.standing.ensures)
    ∙ ap (λ point. count_left (holds_of (same_place q) point && same_id one c.args.mount)
    (count_at c.args.self.now q one)) (sym c.in-Some.is)
