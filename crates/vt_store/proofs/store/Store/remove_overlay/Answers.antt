use Rattle.vt_spec.proofs.Common.{common_steps}
use Rattle.std.proofs.Common.{ap, rules, ◌∙◌, ◌≡◌, arith}
use Rattle.vt_store.specs.OverlaysValue.{without_overlay}
use Rattle.vt_store.specs.StoreValue.{StoreValue}
use Rattle.vt_store.proofs.OverlaysGo.{absent_removed, stand_without}
use Rattle.vt_store.proofs.store.Store.remove_overlay.Goals as goal

pub returns-in-Some-clause-standing : goal.returns-in-Some-clause-standing
returns-in-Some-clause-standing c =
    let gone : c.match-overlay.self.overlays ≡ without_overlay c.args.filesystem.count c.args.self.now.overlays =
    search rules in
    stand_without c.args.filesystem.count c.args.self.now
    (record { plain = c.match-overlay.self.plain; overlays = c.match-overlay.self.overlays }) gone

pub returns-in_default-clause-none : goal.returns-in_default-clause-none
returns-in_default-clause-none c = grind (arith, common_steps, absent_removed)

pub returns-in_default-clause-standing : goal.returns-in_default-clause-standing
returns-in_default-clause-standing c = stand_without c.args.filesystem.count c.args.self.now
    (record { plain = c.self.inside.plain; overlays = c.remove.new.self }) (c.remove.ensures.removed
    ∙ ap (λ (store : StoreValue). without_overlay c.args.filesystem.count store.overlays) c.self.view_is)
