use Rattle.std.proofs.Common.{ap, cond, not, rules, ◌∙◌, insert}
use Rattle.std.proofs.lemmas.List.Sorted.{IsPartitionPoint-from_clause}
use Rattle.vt_deque.specs.SliceDeque.{items}
use Rattle.vt_mount.proofs.RisingLemmas.{is_parted, placed}
use Rattle.vt_mount.proofs.ascending.insert_into.Goals as goal

pub returns-else-goes_last-clause-items : goal.returns-else-goes_last-clause-items
returns-else-goes_last-clause-items g c =
    let list = items c.args.list.now in
    let one = c.args.element in
    let slice = c.as_slice.result.now in
    let is = c.as_slice.ensures in
    let parted = c.partition_point-place.ensures in
    let point = IsPartitionPoint-from_clause (λ other. not (g.T.Ordered.before one other)) slice _
    parted.partitioned (is_parted g.met.T.Ordered.order one _ list is c.requires.rising) (λ a r f called. search rules) in
    c.insert.ensures.items
    ∙ ap (λ b. cond b (insert list c.partition_point-place.result one) list) (c.insert.ensures.succeeds c.requires.room)
    ∙ placed g.met.T.Ordered.order one _ list is _ parted.bound point
