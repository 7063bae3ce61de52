use Rattle.std.proofs.Common.{◌≡◌, ap, true, rules, is_some, nat_eq, ◌∙◌, ℕ, find}
use Rattle.vt_spec.proofs.Common.{Mount, YieldsList-from_slice, any_from_yields_List, holds_of}
use Rattle.vt_location.specs.declared.numbers.MountId.{MountId}
use Rattle.vt_location.specs.Locations.{is_small_node, number_of}
use Rattle.vt_location.specs.Numbers.{counted}
use Rattle.vt_mount.specs.Indexes.{is_over}
use Rattle.vt_mount.specs.MountsValue.{in_order, mounts_in, stands_over}
use Rattle.vt_mount.specs.Indexed.{numbers_where}
use Rattle.vt_mount.specs.Listed.{count_of}
use Rattle.vt_mount.specs.Standing.{same_standing}
use Rattle.vt_mount.specs.declared.standing.Standing.{Standing}
use Rattle.vt_mount.proofs.OrderLemmas.{rises-in_order}
use Rattle.vt_mount.proofs.PlaceLemmas.{numbers-seen, over-agrees}
use Rattle.vt_mount.proofs.StandingLemmas.{any-alike, any-mounts, mounts_of, over-counts}
use Rattle.vt_mount.proofs.PointLemmas.{any-over}
use Rattle.vt_mount.proofs.mounts.Mounts.is_mount_point_anywhere.Goals as goal

pub returns : goal.returns
returns c =
    let inode = c.args.inode in
    let less : is_small_node inode ≡ true = search rules in
    let list = c.get.result.now in
    let kept = in_order c.self.inside.by_number.entries in
    let order = rises-in_order c.self.inside.by_number.entries in
    let p = (λ (mount : Mount ℕ). is_some mount.namespace) in
    let test = λ (id : MountId). holds_of p
    (find (λ mount. nat_eq (counted id.count) mount.number) (mounts_in c.args.self.now)) in
    any_from_yields_List (λ (one : Standing). test one.mount) _ _ _
    c.any.ensures.ran (YieldsList-from_slice list cc) (λ x b q k. search rules)
    ∙ any-mounts test list ∙ any-alike test (mounts_of list) (numbers_where (is_over inode) kept)
    (over-counts list kept inode c.get.ensures.rising order
    (λ parent m. ap (count_of (same_standing (record { parent = parent; mount = m }))) c.get.ensures.value
    ∙ c.self.invariant.place (record { mount = parent; node = inode }) m))
    ∙ any-over (stands_over (number_of inode)) p c.self.inside.by_number.entries c.args.self.now
    (numbers_where (is_over inode) kept) c.self.view_is
    (numbers-seen (is_over inode) (stands_over (number_of inode)) (over-agrees inode less) kept c.self.invariant.slots)
