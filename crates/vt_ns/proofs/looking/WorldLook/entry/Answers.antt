use Rattle.std.proofs.Common.{ap, option_map, rules, subst, sym, ◌≡◌, ◌∙◌, ℕ, IfSome, Option, option_copied}
use Rattle.vt_spec.proofs.Common.{Node, entries_in, entry_named}
use Rattle.vt_ns.proofs.Common.{IsHeld, lent_in, location_of, number_of, store_stands}
use Rattle.vt_looks.specs.declared.look.Entry.{Entry}
use Rattle.vt_overlay.specs.declared.nodes.Entry.{Entry as Found}
use Rattle.vt_ns.proofs.looking.LooksKept.{node_is, object_beside, object_is, seen_if_lent}
use Rattle.vt_ns.proofs.looking.LostKept.{entry_stays_found}
use Rattle.vt_ns.proofs.looking.WorldLook.entry.Goals as goal
use Rattle.vt_ns.specs.contracts.world.World.{the_view}

pub entry-requires : goal.entry-requires
entry-requires c = record {
  standing = store_stands (the_view c.self.inside) c.self.inside.store c.self.invariant;
  object =
      object_is (the_view c.self.inside) c.self.inside.store c.args.self.now c.self.view_is c.self.invariant c.args.at
      (search rules)
      (seen_if_lent (the_view c.self.inside) c.self.inside.store c.args.self.now c.self.view_is c.self.invariant
      c.args.at (search rules) c.args.object.now c.requires) ∙ c.requires;
}

pub returns-in_err-found-clause-node : goal.returns-in_err-found-clause-node
returns-in_err-found-clause-node c = ap (option_map (λ (entry : Entry). number_of entry.node)) c.from_residual.ensures
    ∙ ap (option_map (λ (found : Found). number_of found.node)) (sym c.in_err-found.was) ∙ c.entry.ensures.node
    ∙ ap (λ (node : Option (Node ℕ)). entry_named c.args.name.now (entries_in node))
    (node_is (the_view c.self.inside) c.self.inside.store c.args.self.now c.self.view_is c.self.invariant c.args.at
    (search rules)
    (seen_if_lent (the_view c.self.inside) c.self.inside.store c.args.self.now c.self.view_is c.self.invariant
    c.args.at (search rules) c.args.object.now c.requires))

pub returns-clause-node : goal.returns-clause-node
returns-clause-node c =
    ap (option_map (λ (found : Found). number_of found.node)) (sym c.in_ok-found.was) ∙ c.entry.ensures.node
    ∙ ap (λ (node : Option (Node ℕ)). entry_named c.args.name.now (entries_in node))
    (node_is (the_view c.self.inside) c.self.inside.store c.args.self.now c.self.view_is c.self.invariant c.args.at
    (search rules)
    (seen_if_lent (the_view c.self.inside) c.self.inside.store c.args.self.now c.self.view_is c.self.invariant
    c.args.at (search rules) c.args.object.now c.requires))

pub returns-clause-object : goal.returns-clause-object
returns-clause-object c = subst (λ (result : Option Found). IfSome result (λ (found : Found). option_copied found.object
    ≡ lent_in c.self.inside.store c.args.at.node.filesystem.count (number_of found.node))) c.in_ok-found.was
    c.entry.ensures.object
    ∙ object_beside (the_view c.self.inside) c.self.inside.store c.args.self.now c.self.view_is c.self.invariant
    c.args.at (search rules) _
    (seen_if_lent (the_view c.self.inside) c.self.inside.store c.args.self.now c.self.view_is c.self.invariant
    c.args.at (search rules) c.args.object.now c.requires)

pub returns-clause-found : goal.returns-clause-found
returns-clause-found c = entry_stays_found c.args.self.now (subst IsHeld c.self.view_is c.self.invariant)
    (location_of c.args.at) c.args.name.now (number_of c.in_ok-found.found.node) (returns-clause-node c)
