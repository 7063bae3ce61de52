use Rattle.std.proofs.Common.{Some, ap, drop, filter_map, map, option_map, sym, ◌+◌, ◌&&◌, ◌∙◌, ◌≡◌}
use Rattle.vt_location.specs.MountValue.{mount_of}
use Rattle.vt_world.specs.WorldValue.{world_of}
use Rattle.vt_changes.specs.SeenMounts.{same_all, seen_in, seen_of}
use Rattle.vt_spec.proofs.Common.{drop_all}
use Rattle.vt_changes.proofs.Seeing.{all_seen, behind_first, got, none_expected, none_left, none_more, pick, same_first}
use Rattle.vt_changes.proofs.mounts.are_same.Goals as goal

pub loop-id-preserved-in_default : goal.loop-id-preserved-in_default
loop-id-preserved-in_default c =
    let world = world_of c.args.world.now in
    ap (same_all (map seen_of c.loop-id.was.now)) (sym (none_more world c.attached_in-ids.result.now c.loop-id.id-index _
    c.loop-id-test.true
    (got c.args.world.now c.all_mounts-all.result.now c.all_mounts-all.ensures _ c.get.result c.get.ensures
    ∙ ap (λ found. option_map (seen_in world) (option_map mount_of found)) c.in_default.is))) ∙ c.loop-id.invariant

pub returns-in_default-was : goal.returns-in_default-was
returns-in_default-was c =
    let world = world_of c.args.world.now in
    sym (none_expected world c.attached_in-ids.result.now c.loop-id.id-index _ c.loop-id-test.true c.loop-id.was.now
    c.in_default-was.len_below _
    (got c.args.world.now c.all_mounts-all.result.now c.all_mounts-all.ensures _ c.get.result c.get.ensures
    ∙ ap (λ found. option_map (seen_in world) (option_map mount_of found)) c.in-Some.is)) ∙ c.loop-id.invariant
    ∙ ap (same_all (map seen_of c.args.before.now)) (all_seen c.args.world.now c.all_mounts-all.result.now
    c.all_mounts-all.ensures c.attached_in-ids.ensures.order c.args.namespace c.attached_in-ids.result.now
    c.attached_in-ids.ensures.are)

pub returns-then-not-is_same : goal.returns-then-not-is_same
returns-then-not-is_same c =
    let world = world_of c.args.world.now in
    let ids = c.attached_in-ids.result.now in
    let i = c.loop-id.id-index in
    let left = filter_map (pick world) (drop (i + 1) ids) in
    sym (same_first world ids i _ c.loop-id-test.true c.loop-id.was.now _ c.in-len1-up.len_at_least
    (seen_of c.summary_of.result)
    (got c.args.world.now c.all_mounts-all.result.now c.all_mounts-all.ensures _ c.get.result c.get.ensures
    ∙ ap (λ found. option_map (seen_in world) (option_map mount_of found)) c.in-Some.is
    ∙ ap Some (sym c.summary_of.ensures))
    ∙ ap (λ same. same && same_all (map seen_of (drop 1 c.loop-id.was.now)) left)
    (sym c.is_same.ensures ∙ c.if-not-is_same.true)) ∙ c.loop-id.invariant
    ∙ ap (same_all (map seen_of c.args.before.now)) (all_seen c.args.world.now c.all_mounts-all.result.now
    c.all_mounts-all.ensures c.attached_in-ids.ensures.order c.args.namespace ids c.attached_in-ids.ensures.are)

pub loop-id-preserved : goal.loop-id-preserved
loop-id-preserved c =
    let world = world_of c.args.world.now in
    let ids = c.attached_in-ids.result.now in
    let i = c.loop-id.id-index in
    let left = filter_map (pick world) (drop (i + 1) ids) in
    ap (λ others. same_all (map seen_of others) left) (behind_first c.loop-id.was.now)
    ∙ sym (same_first world ids i _ c.loop-id-test.true c.loop-id.was.now _ c.in-len1-up.len_at_least
    (seen_of c.summary_of.result)
    (got c.args.world.now c.all_mounts-all.result.now c.all_mounts-all.ensures _ c.get.result c.get.ensures
    ∙ ap (λ found. option_map (seen_in world) (option_map mount_of found)) c.in-Some.is
    ∙ ap Some (sym c.summary_of.ensures))
    ∙ ap (λ same. same && same_all (map seen_of (drop 1 c.loop-id.was.now)) left)
    (sym c.is_same.ensures ∙ c.if-not-is_same.false)) ∙ c.loop-id.invariant

pub returns : goal.returns
returns c =
    let world = world_of c.args.world.now in
    let ids = c.attached_in-ids.result.now in
    c.is_empty.ensures ∙ none_left c.loop-id.was.now
    ∙ ap (λ rest. same_all (map seen_of c.loop-id.was.now) (filter_map (pick world) rest))
    (sym (drop_all c.loop-id.id-index ids c.loop-id-test.false)) ∙ c.loop-id.invariant
    ∙ ap (same_all (map seen_of c.args.before.now)) (all_seen c.args.world.now c.all_mounts-all.result.now
    c.all_mounts-all.ensures c.attached_in-ids.ensures.order c.args.namespace ids c.attached_in-ids.ensures.are)
