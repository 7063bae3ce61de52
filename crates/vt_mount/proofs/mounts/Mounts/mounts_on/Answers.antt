use Rattle.std.proofs.Common.{◌≡◌, ℕ, Err, IfOk, List, Ok, Result, Vec, ap, filter, map, rules, true, ◌∙◌}
use Rattle.vt_location.specs.declared.numbers.MountId.{MountId}
use Rattle.vt_location.specs.Locations.{is_small_node, number_of}
use Rattle.vt_location.specs.Numbers.{mount_number, same_id}
use Rattle.vt_mount.specs.Indexed.{numbers_where}
use Rattle.vt_mount.specs.Indexes.{is_over}
use Rattle.vt_mount.specs.Listed.{count_of}
use Rattle.vt_mount.specs.MountsValue.{in_order, mounts_in, stands_over}
use Rattle.vt_mount.specs.Rising.{precedes, rises}
use Rattle.vt_mount.specs.Standing.{same_standing}
use Rattle.vt_mount.proofs.OrderLemmas.{rises-in_order}
use Rattle.vt_mount.proofs.PlaceLemmas.{numbers as seen_numbers, numbers-seen, over-agrees}
use Rattle.vt_mount.proofs.StandingLemmas.{mounts_of, numbers-rise, over-counts, same-lists}
use Rattle.vt_mount.proofs.mounts.Mounts.mounts_on.Goals as goal

-- mounts in order are the list in which each is as often
listed_so : {A E : Type 0} (r : Result (Vec MountId A) E) (all : List MountId) → rises precedes all ≡ true
    → IfOk r (λ ids. rises precedes ids.items ≡ true) → (list : List MountId)
    → IfOk r (λ ids. (id : MountId) → count_of (same_id id) ids.items ≡ count_of (same_id id) list)
    → ((id : MountId) → count_of (same_id id) list ≡ count_of (same_id id) all)
    → (seen : List ℕ) → map mount_number all ≡ seen → IfOk r (λ ids. map mount_number ids.items ≡ seen)
listed_so (Ok ids) all climbs rising list counts as_often seen is =
    ap (map mount_number) (same-lists ids.items all rising climbs (λ id. counts id ∙ as_often id)) ∙ is
listed_so (Err e) all climbs rising list counts as_often seen is = tt

pub returns : goal.returns
returns c =
    let inode = c.args.inode in
    let less : is_small_node inode ≡ true = search rules in
    let kept = in_order c.self.inside.by_number.entries in
    let order = rises-in_order c.self.inside.by_number.entries in
    let numbers = numbers_where (is_over inode) kept in
    let as_often = over-counts c.get.result.now kept inode c.get.ensures.rising order
    (λ parent m. ap (count_of (same_standing (record { parent = parent; mount = m }))) c.get.ensures.value
    ∙ c.self.invariant.place (record { mount = parent; node = inode }) m) in
    listed_so c.in_order.result numbers (numbers-rise (is_over inode) kept order) c.in_order.ensures.rising
    (mounts_of c.get.result.now) c.in_order.ensures.counts as_often _
    (numbers-seen (is_over inode) (stands_over (number_of inode)) (over-agrees inode less) kept c.self.invariant.slots
    ∙ ap (λ now. seen_numbers (filter (stands_over (number_of inode)) (mounts_in now))) c.self.view_is)
