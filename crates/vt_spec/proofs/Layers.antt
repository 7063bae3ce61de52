-- What layers show, as lemmas speak of it: each definition is that of its name in `Views.antt`, of layers.
use Rattle.std.specs.Prelude.{Bool, List, Option, map, ℕ}
use Rattle.vt_spec.specs.Machine.Layers.{OpenLayer, Shown, view_of}
use Rattle.vt_spec.specs.Machine.Views
use Rattle.vt_spec.specs.Tree.{Entries}

module _ {N : Type 0} where
  abbrev pub cuts : OpenLayer N → List (List ℕ) → Bool
  cuts layer path = Views.cuts (view_of layer) path

  abbrev pub shown_over : OpenLayer N → ℕ → Option N → Bool → Option (Shown N) → Option (Shown N)
  shown_over layer depth object cut lower = Views.shown_over (view_of layer) depth object cut lower

  abbrev pub shown_from : ℕ → List (OpenLayer N) → List (List ℕ) → Option (Shown N)
  shown_from depth layers path = Views.shown_from depth (map view_of layers) path

  abbrev pub names_at : List (OpenLayer N) → List (List ℕ) → Entries (Unit {0})
  names_at layers path = Views.names_at (map view_of layers) path
