use Rattle.vt_spec.proofs.Common.{common_steps}
use Rattle.std.proofs.Common.{add-one, arith, subst, ◌+◌, ◌-◌, ◌≡◌, ℕ, ap, false, sym, ◌∙◌}
use Rattle.vt_ns.proofs.Common.{HasRoom, kept, with_location}
use Rattle.vt_ns.proofs.CountingLemmas.{room_still}
use Rattle.vt_ns.specs.Pivoting.{with_uses}
use Rattle.vt_ns.proofs.pivoting.hold_each.Goals as goal

pub hold_once_more-requires-clause-room : goal.hold_once_more-requires-clause-room
hold_once_more-requires-clause-room c = grind (arith, common_steps)

pub loop-preserved : goal.loop-preserved
loop-preserved c =
    let left : ℕ = c.args.uses - (c.loop.counter + 1) in
    let one : c.args.uses - c.loop.counter ≡ left + 1 = omega (arith, c.loop-test.true) in record {
      held = c.hold_once_more.ensures.held ∙ ap (with_location c.args.at false) c.loop.invariant.held
          ∙ ap (λ n. with_uses n c.args.at (kept c.args.mounts.now c.args.store.now)) (sym (add-one c.loop.counter));
      overlays = c.hold_once_more.ensures.overlays ∙ c.loop.invariant.overlays;
      still = c.hold_once_more.ensures.still;
      room = room_still left c.args.at c.args.at c.loop.mounts c.hold_once_more.new.mounts c.loop.store
          c.hold_once_more.new.store
          (subst (λ n. HasRoom n c.args.at c.loop.mounts c.loop.store.plain) one c.loop.invariant.room)
          c.hold_once_more.ensures.held;
    }

pub returns-clause-held : goal.returns-clause-held
returns-clause-held c = grind (arith, common_steps)
