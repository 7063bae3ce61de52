-- What an overlay shows does not depend on how many uses what it keeps has: open(2), close(2).
use Rattle.std.specs.Prelude.{Option, Some, ℕ, ◌≡◌}
use Rattle.std.specs.Map.{keys_of}
use Rattle.vt_births.specs.declared.upper_nodes.UpperNodes.{UpperNodes}
use Rattle.vt_fs.specs.FilesystemsValue.{Filesystems}
use Rattle.vt_overlay.specs.MergedTree.{OverlayValue}
use Rattle.vt_layered.specs.LayeredTree.{StandsLayered, layered_files, layered_lent, layered_objects}
use Rattle.vt_layered.specs.LayeredValue.{Above}

-- an overlay is shown alike with this beside its layers as with that
pub record IsSeenAlike (trees : Filesystems) (overlay : OverlayValue) (old new : Option Above) : Type 0 where
  pub files : layered_files trees overlay new ≡ layered_files trees overlay old
  pub objects : layered_objects trees overlay new ≡ layered_objects trees overlay old
  pub lent : (number : ℕ) → layered_lent trees overlay new number ≡ layered_lent trees overlay old number

-- what is said of an overlay where the same nodes are kept, and births are the same
abbrev pub OfSameNodes : (Filesystems → OverlayValue → Above → Above → Type 0) → Type 0
OfSameNodes Said =
    (trees : Filesystems) (overlay : OverlayValue) (above : Above) (nodes : UpperNodes)
    → keys_of nodes.kept.by_node ≡ keys_of above.nodes.kept.by_node → nodes.births ≡ above.nodes.births
    → Said trees overlay above (record above { nodes = nodes })

-- It is shown alike,
abbrev pub UsesAreNotSeen : Type 0
UsesAreNotSeen = OfSameNodes (λ trees overlay old new. IsSeenAlike trees overlay (Some old) (Some new))

-- and stands as its looks ask, if it did.
abbrev pub UsesLeaveLayers : Type 0
UsesLeaveLayers =
    OfSameNodes (λ trees overlay old new. StandsLayered trees overlay (Some old) → StandsLayered trees overlay (Some new))
