use Rattle.std.proofs.Common.{Some, ap, filter_map, get_or, map, option_map, sym, ◌∙◌, ◌++◌, ◌≡◌}
use Rattle.vt_location.specs.MountValue.{mount_of}
use Rattle.vt_world.specs.WorldValue.{world_of}
use Rattle.vt_changes.specs.SeenMounts.{seen_in, seen_of}
use Rattle.vt_changes.proofs.Seeing.{got, list_seen, none_more, put_last}
use Rattle.vt_changes.proofs.mounts.mounts_in.Goals as goal

pub loop-id-preserved : goal.loop-id-preserved
loop-id-preserved c =
    let world = world_of c.args.world.now in
    put_last world c.attached_in-ids.result.now c.loop-id.id-index _ c.loop-id-test.true c.loop-id.mounts.items _
    c.summary_of.result c.in_ok-push.ensures.items
    (got c.args.world.now c.all_mounts-all.result.now c.all_mounts-all.ensures _ c.get.result c.get.ensures
    ∙ ap (λ found. option_map (seen_in world) (option_map mount_of found)) c.in-Some.is
    ∙ ap Some (sym c.summary_of.ensures)) ∙ c.loop-id.invariant

pub loop-id-preserved-in_default : goal.loop-id-preserved-in_default
loop-id-preserved-in_default c =
    let world = world_of c.args.world.now in
    ap (λ rest. map seen_of c.loop-id.mounts.items ++ rest)
    (sym (none_more world c.attached_in-ids.result.now c.loop-id.id-index _ c.loop-id-test.true
    (got c.args.world.now c.all_mounts-all.result.now c.all_mounts-all.ensures _ c.get.result c.get.ensures
    ∙ ap (λ found. option_map (seen_in world) (option_map mount_of found)) c.in_default.is)))
    ∙ c.loop-id.invariant

pub returns : goal.returns
returns c = record {
  ok = list_seen c.args.world.now c.all_mounts-all.result.now c.all_mounts-all.ensures c.attached_in-ids.ensures.order
      c.args.namespace c.attached_in-ids.result.now c.attached_in-ids.ensures.are c.loop-id.id-index
      c.loop-id-test.false _ c.loop-id.invariant;
}
