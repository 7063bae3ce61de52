use Rattle.std.proofs.Common.{None, rules, subst, ◌≡◌}
use Rattle.vt_spec.proofs.Common.{OnOk_then}
use Rattle.vt_store.specs.OverlaysValue.{layered_of}
use Rattle.vt_store.specs.Pins.{Pins}
use Rattle.vt_store.specs.StoreValue.{StoreValue}
use Rattle.vt_store.proofs.StorePinned.{pinned_plain}
use Rattle.vt_store.proofs.store.Store.pin.Goals as goal

pub returns-else-is_some-clause-ok : goal.returns-else-is_some-clause-ok
returns-else-is_some-clause-ok c =
    let base : StoreValue = record { plain = c.self.inside.plain; overlays = c.self.inside.overlays } in
    let none : layered_of c.self.inside.overlays c.args.node.filesystem.count ≡ None = search rules in
    OnOk_then c.pin-else-is_some.result (λ changes. subst (λ (store : StoreValue). Pins c.args.node store
    (record { plain = c.pin-else-is_some.new.self; overlays = c.self.inside.overlays })) c.self.view_is
    (pinned_plain c.args.node base c.pin-else-is_some.new.self none changes)) c.pin-else-is_some.ensures.ok
