-- A newly mounted overlay is what its layers show, so one that is mounted anew over the layers that another left shows
-- the same tree: the kernel's overlayfs document, "upper and lower" and "changes to underlying filesystems".
use Rattle.std.specs.Prelude.{List, Option, Some, [], is_some, map, nat_eq, true, ℕ, ⊤, ◌∷◌, ◌≡◌, ◌≢◌}
use Rattle.std.specs.List.{list_all}
use Rattle.vt_spec.specs.FileTree.{attr_in, is_opaque_in, kind_in}
use Rattle.vt_spec.specs.Machine.Layers.{OpenLayer, node_at_path}
use Rattle.vt_spec.specs.Lists.{Fresh, then_some}
use Rattle.vt_spec.specs.Machine.NewMounts.{overlay_filesystem}
use Rattle.vt_spec.specs.Machine.World.{Filesystem, Overlay, World, filesystem_numbered, open_layer, shown_layers}
use Rattle.vt_spec.specs.Machine.Invariants.{IsMerged, IsWorld, SameObject, is_plain_layer, number_at_path}
use Rattle.vt_spec.specs.Tree.{Node, bytes_in}

-- layers that may be mounted: there is one, and each is a directory of a plain tree
abbrev pub AreLayers : World ℕ → Overlay ℕ → Type 0
AreLayers world overlay =
    (shown_layers overlay ≢ []) × (list_all (is_plain_layer nat_eq world) (shown_layers overlay) ≡ true)

-- an overlay that is made of layers is one tree with a real object for each inode: at every path it has what they show
abbrev pub NewOverlayIsMerged : Type 0
NewOverlayIsMerged =
    (fresh : Fresh ℕ) (world : World ℕ) (overlay made : Overlay ℕ)
    → IsWorld nat_eq world → AreLayers world overlay → ((j k : ℕ) → fresh j ≡ fresh k → j ≡ k)
    → (overlay_filesystem nat_eq fresh world overlay).overlay ≡ Some made
    → IsMerged nat_eq world (overlay_filesystem nat_eq fresh world overlay) made

-- two filesystems have at every path the same kind of object, with one owner and mode and one content, or none
abbrev pub ShowTheSame : Filesystem ℕ → Filesystem ℕ → Type 0
ShowTheSame one other =
    (path : List (List ℕ))
    → SameObject (then_some (number_at_path one.files path) one.files.tree.node)
    (then_some (number_at_path other.files path) other.files.tree.node)

-- an inode as another: of one kind, owner and mode, with the same bytes or text, and the same mark
pub record IsAlike (one other : Option (Node ℕ)) : Type 0 where
  pub there : is_some other ≡ is_some one
  pub kind : kind_in other ≡ kind_in one
  pub attr : attr_in other ≡ attr_in one
  pub bytes : bytes_in other ≡ bytes_in one
  pub mark : is_opaque_in other ≡ is_opaque_in one

-- Layers are as others if each one's directory leads at every path to what the other's leads to. Numbers of inodes, and
-- what lies elsewhere in their trees, may differ.
abbrev pub AreAsOthers : List (OpenLayer ℕ) → List (OpenLayer ℕ) → Type 0
AreAsOthers [] [] = ⊤
AreAsOthers [] (other ∷ others) = ⊥
AreAsOthers (layer ∷ layers) [] = ⊥
AreAsOthers (layer ∷ layers) (other ∷ others) =
    ((path : List (List ℕ)) → IsAlike (node_at_path layer path) (node_at_path other path)) × AreAsOthers layers others

-- An overlay that is mounted anew over layers that are as another overlay left them shows the tree that the other
-- showed, whoever mounts it.
abbrev pub RemountShowsTheSame : Type 0
RemountShowsTheSame =
    (fresh : Fresh ℕ) (before later : World ℕ) (number : ℕ) (left anew : Overlay ℕ)
    → IsWorld nat_eq before → (filesystem_numbered nat_eq before number).overlay ≡ Some left
    → IsWorld nat_eq later → AreLayers later anew → ((j k : ℕ) → fresh j ≡ fresh k → j ≡ k)
    → AreAsOthers (map (open_layer nat_eq before) (shown_layers left))
    (map (open_layer nat_eq later) (shown_layers anew))
    → ShowTheSame (overlay_filesystem nat_eq fresh later anew) (filesystem_numbered nat_eq before number)
