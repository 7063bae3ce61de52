-- The last copy of a directory is empty.
use Rattle.std.proofs.Common.{◌≡◌, ◌∙◌, ◌∷◌, [], false, length, List, None, Option, refl, sym, true, true≢false, ℕ}
use Rattle.vt_spec.proofs.Common.{Node, entries_of-copied_content, is_directory_node, length-map, length-reverse}
use Rattle.vt_births.specs.Births.{BirthsValue}
use Rattle.vt_copyup.specs.declared.plans.Piece.{Piece}
use Rattle.vt_copyup.specs.declared.plans.Plan.{Plan}
use Rattle.vt_copyup.specs.Made.{AreMade}
use Rattle.vt_copyup.specs.Plans.{IsReady, copies_of, in_turn, many}
use Rattle.vt_fs.specs.FilesystemsValue.{Filesystems, files_at}
use Rattle.vt_location.specs.declared.locations.InodeRef.{InodeRef}
use Rattle.vt_location.specs.Locations.{inode_of}
use Rattle.vt_upper.specs.Copies.{IsLastOf}
use Rattle.vt_upper.specs.New.{IsEmptyNode}
use Rattle.vt_upper.proofs.LastMade.{copy_kind, last_is}

abbrev IsCopiedDirectory : Option (Node ℕ) → Type 0
IsCopiedDirectory node = is_directory_node node ≡ true

some_copied : (pieces : List Piece) (node : Option (Node ℕ))
    → IsLastOf IsCopiedDirectory (λ node. false ≡ true) pieces None → IsLastOf IsCopiedDirectory IsEmptyNode pieces node
some_copied [] _ is = absurd (true≢false (sym is))
some_copied (piece ∷ []) _ is = is
some_copied (piece ∷ next ∷ rest) node is = some_copied (next ∷ rest) node is

pub empty_copy : (plan : Plan) (trees : Filesystems) (births : BirthsValue) (room : ℕ) → IsReady plan trees births room
    → (after : Filesystems) (births_after : BirthsValue) (object : InodeRef)
    → AreMade plan.directory (copies_of (in_turn plan)) trees births after births_after object
    → IsLastOf IsCopiedDirectory (λ node. false ≡ true) (in_turn plan) None
    → IsEmptyNode ((files_at after plan.directory.filesystem.count).tree.node (inode_of object))
empty_copy plan trees births room ready after births_after object are is =
    last_is IsCopiedDirectory IsEmptyNode
    (λ parent node d. (copy_kind parent node ∙ d, entries_of-copied_content parent node.content))
    plan trees births room ready after births_after object are _ refl (some_copied (in_turn plan) _ is)

-- as many copies as pieces
pub many_copies : (plan : Plan) → length (copies_of (in_turn plan)) ≡ many plan
many_copies plan = length-map (in_turn plan) (λ (piece : Piece). piece.copy) ∙ length-reverse plan.pieces.items
