use Rattle.std.proofs.Common.{rules, sym, ◌∙◌}
use Rattle.vt_ns.proofs.Common.{store_stands}
use Rattle.vt_ns.proofs.looking.LocksLooked.{plain_parents}
use Rattle.vt_ns.proofs.mount_looks.LayersLooked.{found_alike, other_missing, top_missing}
use Rattle.vt_ns.proofs.world.World.overlap.Goals as goal
use Rattle.vt_ns.specs.contracts.world.World.{the_view}

pub overlaps_one_of-requires-clause-standing : goal.overlaps_one_of-requires-clause-standing
overlaps_one_of-requires-clause-standing c =
    store_stands (the_view c.self.inside) c.self.inside.store c.self.invariant

pub overlaps_one_of-requires-clause-named : goal.overlaps_one_of-requires-clause-named
overlaps_one_of-requires-clause-named c =
    plain_parents (the_view c.self.inside) c.self.inside.store c.self.invariant

pub returns-in_default : goal.returns-in_default
returns-in_default c =
    sym (other_missing (the_view c.self.inside) c.self.inside.store c.self.invariant c.args.self.now c.self.view_is
    c.args.other c.args.at (search rules) c.requires.other (sym c.plain_at.ensures ∙ c.in_default.is))

pub returns-in-None : goal.returns-in-None
returns-in-None c =
    sym (top_missing (the_view c.self.inside) c.self.inside.store c.self.invariant c.args.self.now c.self.view_is
    c.args.other c.args.at (search rules) c.requires.at (sym c.plain_at-2.ensures ∙ c.in-None.is))

pub returns-in-Some-plain_at : goal.returns-in-Some-plain_at
returns-in-Some-plain_at c = c.overlaps_one_of.ensures
    ∙ found_alike (the_view c.self.inside) c.self.inside.store c.self.invariant c.args.self.now c.self.view_is
    c.args.other c.args.at c.in-Some.beside c.in-Some-plain_at.top (search rules) (search rules)
    (sym c.plain_at.ensures ∙ c.in-Some.is) (sym c.plain_at-2.ensures ∙ c.in-Some-plain_at.is) c.requires.other c.requires.at
