use Rattle.std.proofs.Common.{◌≡◌, take}
use Rattle.vt_fs.specs.FilesystemsValue.{shown}
use Rattle.vt_store.specs.LayersHeld.{without_layers}
use Rattle.vt_store.proofs.layers.let_go_layers.Given as goal

abbrev pub invariant-loop-layer : goal.invariant-loop-layer
invariant-loop-layer l = shown l.plain ≡ without_layers (take l.layer-index l.layers) (shown l.fn.plain)
