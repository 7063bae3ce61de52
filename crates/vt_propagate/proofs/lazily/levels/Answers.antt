use Rattle.std.proofs.Common.{ap, arith, eqb-true, suc, sym, [], ◌++◌, ◌+◌, ◌-◌, ◌≡◌, ◌∷◌, ◌∙◌}
use Rattle.smallvec.specs.SmallVec.{small_vec_len}
use Rattle.vt_spec.proofs.Common.{map-append}
use Rattle.vt_location.specs.Numbers.{counted}
use Rattle.vt_location.specs.declared.numbers.MountId.{MountId}
use Rattle.vt_mount.specs.MountsValue.{mounts_in}
use Rattle.vt_propagate.specs.LazyEvents.{children_of, levels_from}
use Rattle.vt_propagate.proofs.Found.{counts}
use Rattle.vt_propagate.proofs.lazily.LazyOrder.{next_level, no_next, none_counted}
use Rattle.vt_propagate.proofs.lazily.levels.Goals as goal

pub returns-then-is_empty : goal.returns-then-is_empty
returns-then-is_empty c =
    let mounts = mounts_in c.args.mounts.now in
    no_next mounts (counts c.loop.all.items) (counts c.loop.level.items) (c.len-end.result - c.loop.counter)
    (none_counted c.loop.level.items
    (eqb-true (small_vec_len c.loop.level) 0 (sym c.is_empty.ensures ∙ c.if-is_empty.true))) ∙ c.loop.invariant.1 ∙ ap (λ n. levels_from n mounts (counted c.args.id.count ∷ [])) c.loop.invariant.0

pub loop-preserved : goal.loop-preserved
loop-preserved c =
    let mounts = mounts_in c.args.mounts.now in
    let rest = c.len-end.result - (c.loop.counter + 1) in
    let one : suc rest ≡ c.len-end.result - c.loop.counter = omega (arith, c.loop-test.true) in (
      c.loop.invariant.0,
      next_level mounts (counts c.loop.all.items) (counts c.loop.level.items) rest
          (ap counts (c.in_ok-extend_from_slice.ensures.items
          ∙ ap (λ more. c.loop.all.items ++ more) c.deref.ensures)
          ∙ map-append (λ (id : MountId). counted id.count) c.loop.all.items c.loop.level.items)
          (c.in_ok-level.ensures ∙ ap (λ ids. children_of mounts (counts ids)) c.deref-in-loop.ensures)
          ∙ ap (λ n. counts c.loop.all.items ++ levels_from n mounts (counts c.loop.level.items)) one
          ∙ c.loop.invariant.1,
    )
