-- A new overlay, which no mount shows yet: its layers are in use, and it comes after all others.
use Rattle.std.specs.Prelude.{[], ◌++◌, ◌∷◌, ◌≡◌}
use Rattle.vt_fs.specs.FilesystemsValue.{shown}
use Rattle.vt_mounting.specs.declared.attach.overlaid.NewOverlay.{NewOverlay}
use Rattle.vt_store.specs.LayersHeld.{new_overlay, with_layers}
use Rattle.vt_store.specs.OverlaysValue.{OverlayEntry}
use Rattle.vt_store.specs.StoreValue.{StoreValue}

pub record IsWithOverlay (entry : OverlayEntry) (old held : StoreValue) : Type 0 where
  pub overlays : held.overlays ≡ old.overlays ++ entry ∷ []
  pub layers : shown held.plain ≡ with_layers entry.overlay.lowers (shown old.plain)

-- as a store keeps it
abbrev pub new_entry : NewOverlay → OverlayEntry
new_entry new = new_overlay new.filesystem new.lowers.items new.mounter
