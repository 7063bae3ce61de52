use Rattle.std.proofs.Common.{Some, ap, find, map, nat_eq, option_map, rules, sym, ◌∙◌, take_all}
use Rattle.vt_mounting.proofs.Common.{counted, mount_of, mounts_in}
use Rattle.vt_mounting.specs.Attach.BoundMounts.{bound_mounts, rooted_at}
use Rattle.vt_mount.proofs.AttachedLemmas.{next_made, none_made}
use Rattle.vt_mounting.proofs.attach.bound.bound_mounts.Goals as goal
use Rattle.vt_mounting.proofs.attach.bound.bound_mounts.Goals.{in-Some+in_ok-push, in_default}

pub loop-id-preserved : goal.loop-id-preserved
loop-id-preserved c =
    let mounts = mounts_in c.args.mounts.now in
    elim c.match-get.branch [
      | in-Some+in_ok-push w ↦ ap (λ tree. map mount_of tree.items) w.tree-is
          ∙ ap (map mount_of) (let pushed = w.in_ok-push.ensures in search rules)
          ∙ next_made mount_of (λ id. option_map (rooted_at c.args.source)
          (find (λ mount. nat_eq (counted id.count) mount.number) mounts))
          c.loop-id.id-index _ c.args.origins.now (let more = c.loop-id-test.true in search rules)
          c.loop-id.tree.items c.loop-id.invariant w.rooted.result
          (ap (option_map (rooted_at c.args.source)) (sym c.get.ensures ∙ ap (option_map mount_of) w.in-Some.is)
          ∙ ap Some (sym w.rooted.ensures))
      | in_default w ↦ ap (λ tree. map mount_of tree.items) w.tree-is
          ∙ none_made mount_of (λ id. option_map (rooted_at c.args.source)
          (find (λ mount. nat_eq (counted id.count) mount.number) mounts))
          c.loop-id.id-index _ c.args.origins.now (let more = c.loop-id-test.true in search rules)
          c.loop-id.tree.items c.loop-id.invariant
          (ap (option_map (rooted_at c.args.source)) (sym c.get.ensures ∙ ap (option_map mount_of) w.in_default.is))
    ]

pub returns : goal.returns
returns c = c.loop-id.invariant ∙ ap (bound_mounts c.args.source (mounts_in c.args.mounts.now))
    (take_all c.loop-id.id-index c.args.origins.now (let done = c.loop-id-test.false in search rules))
