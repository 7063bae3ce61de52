-- A mount of an overlay, once its layers are found.
use Rattle.std.proofs.Common.{◌≡◌, ◌++◌, Bool, Err, List, None, Ok, [], Option, Result, Some, ap, false, nat_eq, refl, true, ℕ, ◌∷◌, ◌∙◌}
use Rattle.vt_spec.proofs.Common.{LayerLocations, Location, Looks, MountFlags, OverlayWords, Permit, Rules, Task, ToMountOverlay, and_then, layers_walked, new_mount_rules, overlay_at, unless}
use Rattle.vt_spec.specs.declared.errors.Deny.{Deny}
use Rattle.vt_spec.specs.declared.errors.Rule.{Rule}
use Rattle.vt_spec.specs.Machine.Judging.{mounts_overlay_at}
use Rattle.vt_spec.specs.Machine.Rules.Mounting.{layer_rules}
use Rattle.vt_layers.specs.MountValue.{layers_named}
use Rattle.vt_later.specs.Passing.{StayAsked, lets_pass}
use Rattle.vt_later.specs.Past.{refusal_past, table_past}
use Rattle.vt_later.proofs.Rows.{appended, stay}

by_rules : {A B : Type 0} (rows : Rules) (a : A) (next : A → Result B Deny)
    → unless rows (next a) ≡ and_then (unless rows (Ok a)) next
by_rules [] a next = refl
by_rules ((true, rule) ∷ rows) a next = refl
by_rules ((false, rule) ∷ rows) a next = by_rules rows a next

module _ (looks : Looks ℕ) (task : Task ℕ) (passed : List Rule) (overfills : Permit ℕ → Bool) where
  -- the rules of a mount, of what layers
  abbrev pub mount_rules : Location ℕ → MountFlags → LayerLocations ℕ → Rules
  mount_rules place flags layers =
      new_mount_rules nat_eq looks task place (overfills (ToMountOverlay place (overlay_at looks task layers) flags))

  -- no rule of layers is let pass
  asked : (layers : LayerLocations ℕ) → StayAsked (layer_rules nat_eq looks layers (overlay_at looks task layers))
  asked layers =
      (refl, (refl, (refl, (refl, (refl, (refl, (refl, (refl, (refl, (refl, (refl, tt)))))))))))

  pub layered : (place : Location ℕ) (options : Option OverlayWords) (flags : MountFlags)
      → refusal_past looks task passed overfills (mounts_overlay_at nat_eq looks task place options flags)
      ≡ and_then (layers_named looks task options) (λ layers. table_past passed (mount_rules place flags layers))
  layered place None flags = refl
  layered place (Some words) flags = by_walk (layers_walked nat_eq looks task words) where
    by_walk : (walked : Result (LayerLocations ℕ) Deny)
        → and_then walked (λ layers. table_past passed
        (layer_rules nat_eq looks layers (overlay_at looks task layers) ++ mount_rules place flags layers))
        ≡ and_then (and_then walked (λ layers.
        unless (layer_rules nat_eq looks layers (overlay_at looks task layers)) (Ok layers)))
        (λ layers. table_past passed (mount_rules place flags layers))
    by_walk (Ok layers) =
        let rows = layer_rules nat_eq looks layers (overlay_at looks task layers) in
        appended (lets_pass passed) rows (mount_rules place flags layers) (Ok tt)
        ∙ ap (λ left. unless left (table_past passed (mount_rules place flags layers))) (stay passed rows (asked layers))
        ∙ by_rules rows layers (λ layers. table_past passed (mount_rules place flags layers))
    by_walk (Err deny) = refl
