use Rattle.std.proofs.Common.{ap, arith, length, sym, [], ◌++◌, ◌≡◌, ◌∙◌}
use Rattle.vt_spec.proofs.Common.{nil_from_length}
use Rattle.vt_location.specs.Numbers.{counted}
use Rattle.vt_mount.specs.MountsValue.{mounts_in}
use Rattle.vt_mount.specs.Waiting.{to_come}
use Rattle.vt_mount.proofs.PlaceLemmas.{counts}
use Rattle.vt_mount.proofs.TreeLemmas.{numbers-whole, told-all, told-more}
use Rattle.vt_mount.proofs.mounts.Mounts.tree.Goals as goal

pub loop-next-smaller : goal.loop-next-smaller
loop-next-smaller c =
    let mounts = mounts_in c.args.self.now in
    let next = ap (to_come mounts) c.in-Some.ensures.items ∙ c.in_ok-push_children.ensures in
    omega (arith, ap length next)

pub loop-next-preserved : goal.loop-next-preserved
loop-next-preserved c =
    let mounts = mounts_in c.args.self.now in
    let next = ap (to_come mounts) c.in-Some.ensures.items ∙ c.in_ok-push_children.ensures in
    ap (λ tree. counts tree ++ to_come mounts c.push_children.new.waiting.items) c.in_ok-push-2.ensures.items
    ∙ told-more mounts c.loop-next.tree.items c.in-Some.next.mount c.loop-next.waiting.items c.push_children.new.waiting.items _ next c.loop-next.invariant

pub returns : goal.returns
returns c =
    let mounts = mounts_in c.args.self.now in
    let empty : c.loop-next.waiting.items ≡ [] = nil_from_length c.loop-next.waiting.items
    (omega (arith, c.loop-next.waiting.ok.0, c.in_default.ensures.cases.0)) in
    record {
      ok = told-all mounts c.loop-next.tree.items _
          (ap (λ waiting. counts c.loop-next.tree.items ++ to_come mounts waiting) (sym empty) ∙ c.loop-next.invariant)
          ∙ numbers-whole mounts (counted c.args.id.count);
    }
