use Rattle.std.proofs.Common.{rules, sym, ◌∙◌}
use Rattle.vt_ns.proofs.looking.LocksLooked.{all_unlocked, below_unlocked, plain_parents, seen_locked, unseen_unlocked}
use Rattle.vt_ns.proofs.looking.WorldLook.is_locked.Goals as goal
use Rattle.vt_ns.specs.contracts.world.World.{the_view}

pub returns-then-not-has_overlays : goal.returns-then-not-has_overlays
returns-then-not-has_overlays c =
    sym (all_unlocked (the_view c.self.inside) c.self.inside.store c.self.invariant c.args.self.now c.self.view_is
    c.args.at (search rules) (c.has_overlays.ensures.0 c.if-not-has_overlays.true))

pub is_in_layer-requires : goal.is_in_layer-requires
is_in_layer-requires c =
    plain_parents (the_view c.self.inside) c.self.inside.store c.self.invariant c.in-Some.inode.filesystem.count

pub returns-in-Some : goal.returns-in-Some
returns-in-Some c = c.is_in_layer.ensures
    ∙ seen_locked (the_view c.self.inside) c.self.inside.store c.self.invariant c.args.self.now c.self.view_is c.args.at
    (search rules) c.in-Some.inode (sym c.plain.ensures ∙ c.in-Some.is) (sym c.is_seen.ensures ∙ c.if-is_seen.true)

pub returns-in_default : goal.returns-in_default
returns-in_default c =
    sym (unseen_unlocked (the_view c.self.inside) c.self.inside.store c.self.invariant c.args.self.now c.self.view_is
    c.args.at (search rules) (sym c.is_seen.ensures ∙ c.if-is_seen.false))

pub returns-in_default-2 : goal.returns-in_default-2
returns-in_default-2 c =
    sym (below_unlocked (the_view c.self.inside) c.self.inside.store c.self.invariant c.args.self.now c.self.view_is
    c.args.at (search rules) (sym c.plain.ensures ∙ c.in_default.is))
