use Rattle.std.proofs.Common.{Bool, Option, Some, ap, false, nat_eq, option_map, option_to_list, rules, sym, ◌≡◌, ◌∙◌}
use Rattle.vt_spec.proofs.Common.{is_overlay_at, layer_at, list_any, live_layers, or-false, overlaps_one_of}
use Rattle.vt_location.specs.declared.locations.Location.{Location}
use Rattle.vt_ns.proofs.Common.{WorldValue, location_of, looks_of_value, world_of}
use Rattle.vt_ns.proofs.looking.LocksLooked.{plain_parents}
use Rattle.vt_ns.proofs.mount_looks.LayersLooked.{live_found, live_missing}
use Rattle.vt_ns.proofs.world.World.is_layered.Goals as goal
use Rattle.vt_ns.specs.contracts.world.World.{the_view}

-- the directory that is given is in no overlay
plain : (value : WorldValue) (given : Option Location) (at : Location) → given ≡ Some at
    → list_any (is_overlay_at (looks_of_value value)) (option_to_list (option_map location_of given)) ≡ false
    → is_overlay_at (looks_of_value value) (location_of at) ≡ false
plain value given at is none = sym (or-false _) ∙ ap (λ (one : Option Location).
    list_any (is_overlay_at (looks_of_value value)) (option_to_list (option_map location_of one))) (sym is) ∙ none

-- what is asked of it is asked of what is given
asked : (value : WorldValue) (given : Option Location) (at : Location) → given ≡ Some at → (result : Bool)
    → result ≡ overlaps_one_of nat_eq (world_of value) (live_layers (world_of value))
    (layer_at (looks_of_value value) (location_of at))
    → result ≡ list_any (overlaps_one_of nat_eq (world_of value) (live_layers (world_of value)))
    (option_to_list (option_map (layer_at (looks_of_value value)) (option_map location_of given)))
asked value given at is result found = found ∙ sym (or-false _) ∙ ap (λ (one : Option Location).
    list_any (overlaps_one_of nat_eq (world_of value) (live_layers (world_of value)))
    (option_to_list (option_map (layer_at (looks_of_value value)) (option_map location_of one)))) (sym is)

pub overlaps_live-requires : goal.overlaps_live-requires
overlaps_live-requires c =
    plain_parents (the_view c.self.inside) c.self.inside.store c.self.invariant c.in-Some-plain_at.top.filesystem.count

pub returns-in-Some-plain_at : goal.returns-in-Some-plain_at
returns-in-Some-plain_at c = asked c.args.self.now c.args.at c.in-Some.at c.in-Some.is c.overlaps_live.result
    (c.overlaps_live.ensures
    ∙ live_found (the_view c.self.inside) c.self.inside.store c.self.invariant c.args.self.now c.self.view_is
    c.in-Some.at (search rules) c.in-Some-plain_at.top
    (plain c.args.self.now c.args.at c.in-Some.at c.in-Some.is c.requires)
    (sym c.plain_at.ensures ∙ c.in-Some-plain_at.is))

pub returns-in-None : goal.returns-in-None
returns-in-None c = asked c.args.self.now c.args.at c.in-Some.at c.in-Some.is false
    (sym (live_missing (the_view c.self.inside) c.self.inside.store c.self.invariant c.args.self.now c.self.view_is
    c.in-Some.at (search rules) (plain c.args.self.now c.args.at c.in-Some.at c.in-Some.is c.requires)
    (sym c.plain_at.ensures ∙ c.in-None.is)))
