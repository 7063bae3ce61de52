-- A node and what is lent for it, of a plain tree or of an overlay.
use Rattle.std.proofs.Common.{◌≡◌, ◌∙◌, ap, None, option_map, Option, refl, Some, sym, ℕ}
use Rattle.vt_spec.proofs.Common.{Content, Directory, Node, Regular, Symlink, Whiteout}
use Rattle.vt_location.specs.Fronts.{front}
use Rattle.vt_fs.specs.FilesystemsValue.{node_seen}
use Rattle.vt_layered.specs.LayeredValue.{LayeredValue}
use Rattle.vt_layered.proofs.ObjectsLayered.{layered_alike}
use Rattle.vt_store.specs.Laws.{NodesAreLikeObjects}
use Rattle.vt_store.specs.StoreValue.{files_in, layered_in, lent_in}
use Rattle.vt_store.proofs.Looked.{over_lent, over_node, over_stands, plain_seen}

-- by slots it is alike
front_seen : (f : ℕ) (node : Option (Node ℕ)) → front (option_map (node_seen f) node) ≡ front node
front_seen f None = refl
front_seen f (Some node) = by node.content
  where
    by : (content : Content ℕ)
        → front (option_map (node_seen f) (Some (record { attr = node.attr; content = content })))
        ≡ front (Some (record { attr = node.attr; content = content }))
    by (Directory parent entries opaque) = refl
    by (Regular bytes) = refl
    by (Symlink text) = refl
    by Whiteout = refl

pub nodes_are_like_objects : NodesAreLikeObjects
nodes_are_like_objects store count number standing = by (layered_in store count) refl
  where
    by : (o : Option LayeredValue) → layered_in store count ≡ o
        → front (lent_in store count number) ≡ front ((files_in store count).tree.node number)
    by None e = ap front (sym (plain_seen store store.plain refl count e number))
        ∙ front_seen count ((files_in store count).tree.node number)
    by (Some layered) e = ap front (sym (over_lent store store.plain refl count layered e number))
        ∙ layered_alike store.plain layered.overlay layered.above number
        (over_stands store store.plain refl count layered e standing)
        ∙ ap front (over_node store store.plain refl count layered e number)
