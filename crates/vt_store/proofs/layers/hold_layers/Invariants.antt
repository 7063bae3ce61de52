use Rattle.std.proofs.Common.{◌≡◌, take}
use Rattle.vt_fs.specs.FilesystemsValue.{shown}
use Rattle.vt_store.specs.LayersHeld.{with_layers}
use Rattle.vt_store.proofs.layers.hold_layers.Given as goal

abbrev pub invariant-loop-layer : goal.invariant-loop-layer
invariant-loop-layer l = shown l.plain ≡ with_layers (take l.layer-index l.layers) (shown l.fn.plain)
