use Rattle.std.proofs.Common.{◌≡◌, ap, true, rules, nat_eq, option_map, sym, ◌∙◌, slice_get}
use Rattle.vt_spec.proofs.Common.{child_at, stands_at}
use Rattle.vt_location.specs.Locations.{is_small_node, location_of}
use Rattle.vt_location.specs.Numbers.{counted}
use Rattle.vt_mount.specs.Indexes.{is_at}
use Rattle.vt_mount.specs.MountsValue.{are_ascending, in_order, mounts_in}
use Rattle.vt_mount.specs.Listed.{count_of}
use Rattle.vt_mount.specs.Standing.{same_standing}
use Rattle.vt_mount.proofs.OrderLemmas.{rises-in_order}
use Rattle.vt_mount.proofs.StandingLemmas.{upon-kept}
use Rattle.vt_mount.proofs.EntryLemmas.{entries}
use Rattle.vt_mount.proofs.MoveLemmas.{ascending-kept}
use Rattle.vt_mount.proofs.PlaceLemmas.{at-agrees, first-count, found-first, numbers-seen}
use Rattle.vt_mount.proofs.mounts.Mounts.child_at.Goals as goal

pub returns-clause-child : goal.returns-clause-child
returns-clause-child c =
    let place = c.args.place in
    let less : is_small_node place.node ≡ true = search rules in
    let kept = in_order c.self.inside.by_number.entries in
    let here = stands_at nat_eq (location_of place) in
    let list = c.get.result.now in
    ap (option_map (λ id. counted id.count)) (c.first_on.ensures ∙ ap (λ ids. slice_get ids 0)
    (upon-kept list kept place.node c.get.ensures.rising (rises-in_order c.self.inside.by_number.entries)
    (λ parent m. ap (count_of (same_standing (record { parent = parent; mount = m }))) c.get.ensures.value
    ∙ c.self.invariant.place (record { mount = parent; node = place.node }) m) place.mount)) ∙ sym (first-count _)
    ∙ ap (λ ids. slice_get ids 0) (numbers-seen (is_at place) here (at-agrees place less) kept c.self.invariant.slots)
    ∙ sym (found-first here (λ child. child.number) (mounts_in (entries kept)))
    ∙ ap (λ now. option_map (λ child. child.number)
    (child_at nat_eq (mounts_in now) (location_of place))) c.self.view_is

pub returns-clause-order : goal.returns-clause-order
returns-clause-order c =
    ap (λ now. are_ascending (mounts_in now)) (sym c.self.view_is) ∙ ascending-kept c.self.inside.by_number.entries
