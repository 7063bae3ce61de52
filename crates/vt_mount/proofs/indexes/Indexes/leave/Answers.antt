use Rattle.std.proofs.Common.{ap, cond, sym, ◌&&◌, ◌∙◌}
use Rattle.vt_spec.proofs.Common.{holds_of}
use Rattle.vt_location.specs.Numbers.{same_id}
use Rattle.vt_location.specs.declared.locations.Location.{Location}
use Rattle.vt_location.specs.declared.numbers.MountId.{MountId}
use Rattle.vt_location.specs.SameNodes.{same_node}
use Rattle.vt_mount.specs.Indexes.{count_at, count_left, listed_on, same_place, taken}
use Rattle.vt_mount.specs.Listed.{listed}
use Rattle.vt_mount.specs.Standing.{same_standing}
use Rattle.vt_mount.proofs.CountLemmas.{count-gone}
use Rattle.vt_mount.proofs.RisingLemmas.{others_by}
use Rattle.vt_mount.proofs.indexes.Indexes.leave.Goals as goal
use Rattle.vt_mount.proofs.indexes.Indexes.leave.Goals.{in-Some, in_default}

pub returns-in-Some-place-clause-parent : goal.returns-in-Some-place-clause-parent
returns-in-Some-place-clause-parent c =
    let number = c.args.mount in
    let place = c.in-Some-place.place in
    let at = λ (q : MountId). ap (λ point.
    taken (holds_of (λ place. same_id q place.mount) point) number (listed_on c.args.self.now q))
    (sym c.in-Some-place.is) in
    elim c.match-namespace.branch [
      | in-Some w ↦ λ q. c.remove_again.ensures q
          ∙ ap (λ self. taken (same_id q place.mount) number (listed_on self q)) w.self-is ∙ at q
      | in_default w ↦ λ q. c.remove_again.ensures q
          ∙ ap (λ self. taken (same_id q place.mount) number (listed_on self q)) w.self-is ∙ at q
    ]

pub returns-in-Some-place-clause-place : goal.returns-in-Some-place-clause-place
returns-in-Some-place-clause-place c =
    let number = c.args.mount in
    let place = c.in-Some-place.place in
    let at = λ (q : Location) (one : MountId). ap (λ point.
    count_left (holds_of (same_place q) point && same_id one number) (count_at c.args.self.now q one))
    (sym c.in-Some-place.is) in
    let was = λ (q : Location). listed same_node q.node c.match-namespace.self.by_inode in
    let gone = λ (q : Location). c.remove-in-Some-place.ensures q.node
    ∙ ap (λ s. cond (same_node q.node place.node) (others_by same_standing s (was q)) (was q)) c.standing.ensures in
    elim c.match-namespace.branch [
      | in-Some w ↦ λ q one. count-gone q place one number _ _ (gone q)
          ∙ ap (λ self. count_left (same_place q place && same_id one number) (count_at self q one)) w.self-is ∙ at q one
      | in_default w ↦ λ q one. count-gone q place one number _ _ (gone q)
          ∙ ap (λ self. count_left (same_place q place && same_id one number) (count_at self q one)) w.self-is ∙ at q one
    ]
