use Rattle.std.proofs.Common.{None, Some, ap, is_some, rules, subst, sym, true, ◌∙◌, ◌≡◌}
use Rattle.vt_location.specs.declared.locations.NodeRef.{NodeRef}
use Rattle.vt_store.specs.OverlaysValue.{layered_of}
use Rattle.vt_store.specs.Pins.{Unpins}
use Rattle.vt_store.specs.StoreValue.{StoreValue}
use Rattle.vt_store.proofs.StorePinned.{lets_go_node, unpinned_over, unpinned_plain}
use Rattle.vt_store.proofs.store.Store.unpin.Goals as goal

pub returns-then-is_none : goal.returns-then-is_none
returns-then-is_none c =
    let base : StoreValue = record { plain = c.self.inside.plain; overlays = c.self.inside.overlays } in
    let none : layered_of c.self.inside.overlays c.args.node.filesystem.count ≡ None = search rules in
    subst (λ (store : StoreValue). Unpins c.args.node store
    (record { plain = c.unpin.new.self; overlays = c.self.inside.overlays })) c.self.view_is
    (unpinned_plain c.args.node base c.unpin.new.self none c.unpin.ensures)

pub returns-in-Some : goal.returns-in-Some
returns-in-Some c =
    let base : StoreValue = record { plain = c.self.inside.plain; overlays = c.self.inside.overlays } in
    let some : is_some (layered_of c.self.inside.overlays c.args.node.filesystem.count) ≡ true = search rules in
    subst (λ (store : StoreValue). Unpins c.args.node store
    (record { plain = c.unpin-in-Some.new.self; overlays = c.unpin-2.new.self })) c.self.view_is
    (unpinned_over c.args.node base c.unpin-2.new.self c.unpin-in-Some.new.self (Some c.in-Some.object) some
    (sym c.in-Some.is ∙ c.unpin-2.ensures.object)
    (lets_go_node c.in-Some.object c.node_ref.result c.self.inside.plain c.unpin-in-Some.new.self
    (ap (λ (node : NodeRef). node.filesystem) c.node_ref.ensures.value) c.node_ref.ensures.number
    c.unpin-in-Some.ensures) c.unpin-2.ensures.unpinned)
