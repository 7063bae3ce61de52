use Rattle.std.proofs.Common.{None, Some, ap, is_some, length, ltb-false, ltb-true, refl, rules, sym, ◌∙◌}
use Rattle.std.proofs.lemmas.List.Sorted.{IsPartitionPoint-from_clause}
use Rattle.std.proofs.lemmas.Option.{slice_get_read}
use Rattle.vt_mount.proofs.StandingLemmas.{first-there, is_parted_upon, none_at, stands_below}
use Rattle.vt_mount.proofs.standing.first_among.Goals as goal

pub returns-in-Some : goal.returns-in-Some
returns-in-Some c =
    let list = c.args.list.now in
    let parent = c.args.parent in
    let place = c.partition_point-place.result in
    let one = c.in-Some.one.now in
    let point = IsPartitionPoint-from_clause (stands_below parent) list _ c.partition_point-place.ensures.partitioned
    (is_parted_upon parent list c.requires) (λ a r f called. search rules) in
    let read = c.in-Some.ensures.lookup in
    c.mount_on.ensures ∙ sym (first-there parent list place c.requires point (Some one)
    (slice_get_read list (length list) place one refl (ltb-true _ _ (sym read.0)) read.1))

pub returns-in-None : goal.returns-in-None
returns-in-None c =
    let list = c.args.list.now in
    let parent = c.args.parent in
    let place = c.partition_point-place.result in
    let point = IsPartitionPoint-from_clause (stands_below parent) list _ c.partition_point-place.ensures.partitioned
    (is_parted_upon parent list c.requires) (λ a r f called. search rules) in
    sym (first-there parent list place c.requires point None (none_at list place
    (ltb-false _ _ (sym c.get.ensures.lookup.0 ∙ ap is_some c.in-None.is))))
