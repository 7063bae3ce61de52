use Rattle.std.proofs.Common.{◌≤◌, None, sym, ap, ◌∙◌, arith}
use Rattle.vt_spec.proofs.Common.{uses_in}
use Rattle.vt_fs.specs.Trees.Slots.{slot_at, put_at}
use Rattle.vt_fs.proofs.tree.SlotLemmas.{get-updates, used_once_less-last}
use Rattle.vt_fs.proofs.tree.slots.Slots.release.Goals as goal

-- the last use goes, and the node with it
pub returns-then-uses-le1-clause-released : goal.returns-then-uses-le1-clause-released
returns-then-uses-le1-clause-released c =
    let few : uses_in (slot_at c.args.self.now c.args.id) ≤ 1 = omega (arith, c.uses-uses.ensures) in
    let removed = rw c.index.ensures at c.try_remove.ensures.updates in
    get-updates c.self.inside.slab c.try_remove.new.self c.args.id None removed
    ∙ ap (λ table. put_at (slot_at table) c.args.id None) c.self.view_is
    ∙ ap (put_at (slot_at c.args.self.now) c.args.id)
    (sym (used_once_less-last (slot_at c.args.self.now c.args.id) few))
