use Rattle.std.proofs.Common.{ap, arith, drop, get_or, suc, true, false, Bool, ℕ, ◌≡◌, ◌+◌, ◌∷◌, ◌∙◌}
use Rattle.std.proofs.Math.Seq.{drop-cons}
use Rattle.vt_location.specs.Numbers.{same_id}
use Rattle.vt_mount.specs.Indexes.{count_put}
use Rattle.vt_mount.specs.Listed.{count_of}
use Rattle.vt_mount.specs.Rising.{precedes}
use Rattle.vt_mount.specs.declared.standing.Standing.{Standing}
use Rattle.vt_mount.proofs.CountLemmas.{count-inserted}
use Rattle.vt_mount.proofs.StandingLemmas.{mounts_of}
use Rattle.vt_mount.proofs.standing.in_order.Goals as goal

moved_on : (b : Bool) (was now rest later all : ℕ) → now ≡ count_put b was → rest ≡ count_put b later
    → was + rest ≡ all → now + later ≡ all
moved_on true was now rest later all put first sum = omega (arith, put, first, sum)
moved_on false was now rest later all put first sum = omega (arith, put, first, sum)

pub loop-one-preserved : goal.loop-one-preserved
loop-one-preserved c id =
    let i = c.loop-one.one-index in
    let list = c.args.list.now in
    let none : Standing = record { parent = record { count = 0 }; mount = record { count = 0 } } in
    let one = get_or list i none in
    let next : suc i ≡ i + 1 = omega arith in
    moved_on (same_id id one.mount) _ _ _ _ _
    (ap (count_of (same_id id)) c.in_ok-add.ensures.ok ∙ count-inserted (same_id id) precedes one.mount _)
    (ap (λ list. count_of (same_id id) (mounts_of list))
    (drop-cons list i none c.loop-one-test.true ∙ ap (λ n. one ∷ drop n list) next)) (c.loop-one.invariant id)
