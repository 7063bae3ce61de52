use Rattle.std.proofs.Common.{ap, length, map, nat_eq, subst, sym, ◌∙◌}
use Rattle.vt_spec.proofs.Common.{IfOk-weaker, lookup}
use Rattle.vt_location.specs.Locations.{location_of}
use Rattle.vt_location.specs.MountValue.{mount_of}
use Rattle.vt_mount.specs.MountsValue.{are_ascending, mounts_in}
use Rattle.vt_propagate.specs.Pushing.{MovesOnce, PushesBy, leaver, pushes_from}
use Rattle.vt_propagate.proofs.Pushed.{all_pushed, leaver_stays}
use Rattle.vt_propagate.proofs.pushing.PushedOnce.{pushed_once}
use Rattle.vt_propagate.proofs.pushing.pushes.Goals as goal

pub returns-clause-ok : goal.returns-clause-ok
returns-clause-ok c =
    let graft = c.args.graft.now in
    IfOk-weaker c.all_pushes.result _ _ (λ points is world counts same one_child parts copies.
    subst (PushesBy world graft counts) (sym (is ∙ (λ i. pushes_from (same i) (leaver graft) (location_of graft.place)
    (length graft.tree.now) (parts i) (copies i))))
    (all_pushed world one_child (ap are_ascending (sym same) ∙ c.alloc.ensures.order) graft counts))
    c.all_pushes.ensures

pub returns-clause-leaver : goal.returns-clause-leaver
returns-clause-leaver c =
    let graft = c.args.graft.now in
    IfOk-weaker c.all_pushes.result _ _ (λ points is number leaves.
    ap (lookup (nat_eq number)) is ∙ leaver_stays (mounts_in c.args.mounts.now) (leaver graft) (location_of graft.place)
    (length graft.tree.now) number leaves (map mount_of graft.parts.now) (map mount_of c.args.copies.now))
    c.all_pushes.ensures

pub returns-clause-once : goal.returns-clause-once
returns-clause-once c =
    let graft = c.args.graft.now in
    IfOk-weaker c.all_pushes.result _ _ (λ points is apart.
    subst (MovesOnce (mounts_in c.args.mounts.now)) (sym is)
    (pushed_once (mounts_in c.args.mounts.now) c.alloc.ensures.order (leaver graft) (location_of graft.place)
    (length graft.tree.now) (map mount_of graft.parts.now) (map mount_of c.args.copies.now) apart)) c.all_pushes.ensures
