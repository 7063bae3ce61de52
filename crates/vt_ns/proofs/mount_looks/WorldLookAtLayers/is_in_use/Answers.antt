use Rattle.std.proofs.Common.{Bool, ap, false, nat_eq, option_to_list, subst, sym, true, ℕ, ◌≡◌, ◌∙◌, ◌||◌}
use Rattle.vt_spec.proofs.Common.{Overlay, in_use, list_any, live_layers, overlaps_one_of, overlay_at}
use Rattle.vt_layers.specs.LayersValue.{layers_of}
use Rattle.vt_layers.proofs.RuleLemmas.{upper_plain, work_plain}
use Rattle.vt_ns.proofs.Common.{IsHeld, WorldValue, looks_of_value, task_of, world_of}
use Rattle.vt_ns.proofs.LayersInUse.{in_use_above}
use Rattle.vt_ns.proofs.mount_looks.WorldLookAtLayers.is_in_use.Goals as goal

-- the upper directory is in use, or the work directory
either : (value : WorldValue) → IsHeld value → (wanted : Overlay ℕ) (upper : Bool)
    → upper ≡ list_any (overlaps_one_of nat_eq (world_of value) (live_layers (world_of value)))
    (option_to_list wanted.upper)
    → (upper || list_any (overlaps_one_of nat_eq (world_of value) (live_layers (world_of value)))
    (option_to_list wanted.work)) ≡ in_use nat_eq (world_of value) wanted
either value held wanted upper is = ap (λ b. b
    || list_any (overlaps_one_of nat_eq (world_of value) (live_layers (world_of value))) (option_to_list wanted.work)) is
    ∙ sym (in_use_above value held wanted)

pub is_layered-requires : goal.is_layered-requires
is_layered-requires c = upper_plain (looks_of_value c.args.self.now) (layers_of c.args.layers.now) c.requires

pub is_layered-requires-else-is_layered : goal.is_layered-requires-else-is_layered
is_layered-requires-else-is_layered c =
    work_plain (looks_of_value c.args.self.now) (layers_of c.args.layers.now) c.requires

pub returns-then-is_layered : goal.returns-then-is_layered
returns-then-is_layered c = c.if-is_layered.true ∙ either c.args.self.now (subst IsHeld c.self.view_is c.self.invariant)
    (overlay_at (looks_of_value c.args.self.now) (task_of c.args._who.now) (layers_of c.args.layers.now)) true
    (sym c.if-is_layered.true ∙ c.is_layered.ensures)

pub returns-else-is_layered : goal.returns-else-is_layered
returns-else-is_layered c = c.is_layered-else-is_layered.ensures
    ∙ either c.args.self.now (subst IsHeld c.self.view_is c.self.invariant)
    (overlay_at (looks_of_value c.args.self.now) (task_of c.args._who.now) (layers_of c.args.layers.now)) false
    (sym c.if-is_layered.false ∙ c.is_layered.ensures)
