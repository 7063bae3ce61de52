-- What lower layers show, whatever the upper one has there: the kernel's overlayfs document, "whiteouts and opaque
-- directories".
use Rattle.std.specs.Prelude.{Bool, List, is_some, ℕ, ◌∷◌}
use Rattle.vt_spec.specs.Machine.CopyUp.{is_directory_shown}
use Rattle.vt_spec.specs.Machine.Layers.{shown_in_lowers}
use Rattle.vt_fs.specs.FilesystemsValue.{Filesystems}
use Rattle.vt_overlay.specs.declared.merge.layers.LayerRef.{LayerRef}
use Rattle.vt_overlay.specs.Merge.LayerValue.{layer_of, layers_of}

-- they show a directory at a path
abbrev pub is_directory_below : Filesystems → LayerRef → List LayerRef → List (List ℕ) → Bool
is_directory_below trees upper lowers path =
    is_directory_shown (layers_of trees (upper ∷ lowers))
    (shown_in_lowers (layer_of trees upper) (layers_of trees lowers) path)

-- they show something there
abbrev pub is_shown_below : Filesystems → LayerRef → List LayerRef → List (List ℕ) → Bool
is_shown_below trees upper lowers path =
    is_some (shown_in_lowers (layer_of trees upper) (layers_of trees lowers) path)
