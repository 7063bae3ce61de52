-- What the definitions see of the layers that options name.
use Rattle.std.specs.Prelude.{Err, None, Ok, Option, Result, Some, nat_eq, ℕ}
use Rattle.vt_spec.specs.declared.errors.Deny.{Deny}
use Rattle.vt_spec.specs.declared.errors.Rule.TheVariants.{O2}
use Rattle.vt_spec.specs.Errors.{and_then, denial, unless}
use Rattle.vt_spec.specs.Language.Calls.{OverlayWords}
use Rattle.vt_spec.specs.Machine.Looks.{Looks}
use Rattle.vt_spec.specs.Machine.Rules.Mounting.{LayerLocations, layer_rules, layers_walked, overlay_at}
use Rattle.vt_spec.specs.Machine.World.{Task}

module _ (looks : Looks ℕ) (task : Task ℕ) where
  -- the layers that options name, if the rules of layers let an overlay have them; ill-formed options are O2
  abbrev pub layers_named : Option OverlayWords → Result (LayerLocations ℕ) Deny
  layers_named None = Err (denial O2)
  layers_named (Some words) =
      and_then (layers_walked nat_eq looks task words) (λ layers.
      unless (layer_rules nat_eq looks layers (overlay_at looks task layers)) (Ok layers))
