use Rattle.std.proofs.Common.{ap, cond, sym, ◌&&◌, ◌∙◌, ◌≡◌}
use Rattle.vt_spec.proofs.Common.{holds_of}
use Rattle.vt_location.specs.Numbers.{same_id}
use Rattle.vt_location.specs.declared.locations.Location.{Location}
use Rattle.vt_location.specs.declared.numbers.MountId.{MountId}
use Rattle.vt_location.specs.SameNodes.{same_node}
use Rattle.vt_mount.specs.Indexes.{count_at, count_left, count_put, same_place, stood_at, stood_on, taken}
use Rattle.vt_mount.specs.Listed.{count_of, inserted, listed}
use Rattle.vt_mount.specs.Standing.{same_standing, stands_before}
use Rattle.vt_mount.proofs.CountLemmas.{count-entered, left-put, standing_at}
use Rattle.vt_mount.proofs.KeptLemmas.{either-way, on-ok}
use Rattle.vt_mount.proofs.RisingLemmas.{rest_there}
use Rattle.vt_mount.proofs.indexes.Indexes.add_at.Goals as goal

pub returns-in_err-add_again-clause-parent_rest : goal.returns-in_err-add_again-clause-parent_rest
returns-in_err-add_again-clause-parent_rest c q = ap (taken (stood_on q c.args.place) c.args.mount) (c.in_err-add_again.ensures.err q)

pub returns-clause-parent_rest : goal.returns-clause-parent_rest
returns-clause-parent_rest c q =
    rest_there (λ (place : Location). same_id q place.mount) c.args.place c.in-Some.place c.in-Some.is c.args.mount _ _
    (c.in_ok-add_again.ensures.ok q)

-- what is listed where it was added
pub added : (c : goal.After-add) → ((q : _) → listed same_node q c.add.new.self
    ≡ cond (same_node q c.in-Some.place.node)
    (inserted stands_before c.standing.result (listed same_node q c.args.self.now.by_inode))
    (listed same_node q c.args.self.now.by_inode)) → (q : Location) (one : MountId)
    → count_at (record { by_namespace = c.args.self.now.by_namespace; by_parent = c.add_again.new.self; by_inode = c.add.new.self }) q one
    ≡ count_put (stood_at q c.args.place && same_id one c.args.mount) (count_at c.args.self.now q one)
added c more q one =
    let place = c.in-Some.place in
    let was = listed same_node q.node c.args.self.now.by_inode in
    count-entered q place one c.args.mount was _ (more q.node
    ∙ ap (λ s. cond (same_node q.node place.node) (inserted stands_before s was) was) c.standing.ensures)
    ∙ ap (λ point. count_put (holds_of (same_place q) point && same_id one c.args.mount)
    (count_at c.args.self.now q one)) (sym c.in-Some.is)

pub returns-clause-place_ok : goal.returns-clause-place_ok
returns-clause-place_ok c = on-ok c.add.result c.add.ensures.ok (added c)

pub returns-clause-place_rest : goal.returns-clause-place_rest
returns-clause-place_rest c q one =
    let here = stood_at q c.args.place && same_id one c.args.mount in
    either-way c.add.result c.add.ensures.ok c.add.ensures.err
    (λ more. ap (count_left here) (added c more q one) ∙ left-put here (count_at c.args.self.now q one))
    (λ same. ap (λ list. count_left here (count_of (same_standing (standing_at q one)) list)) (same q.node))
