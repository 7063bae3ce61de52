use Rattle.std.proofs.Common.{Bool, List, Some, ap, cond, false, nat_eq, option_copied, option_map, rules, sym, true, ℕ, ◌&&◌, ◌∙◌, ◌≡◌}
use Rattle.vt_spec.proofs.Common.{is_directory, is_directory_node, is_directory_under, is_file_under, kind_of, list_any}
use Rattle.vt_fs.specs.FilesystemsValue.{Filesystems, files_at, node_seen}
use Rattle.vt_location.specs.declared.locations.NodeRef.{NodeRef}
use Rattle.vt_location.specs.Locations.{inode_of}
use Rattle.vt_overlay.specs.declared.merge.layers.LayerRef.{LayerRef}
use Rattle.vt_store.proofs.AnyNamed.{named_in_one, none_stands}
use Rattle.vt_upper_overlay.proofs.Ranked.{directory_seen}
use Rattle.vt_store.proofs.locks.lies_in_any.Goals.{in_default-via-in-Some+else-is_directory, in_default-via-in_default}
use Rattle.vt_store.proofs.locks.lies_in_any.Goals as goal
use Rattle.vt_store.specs.Locks.{lies_in_overlay}
use Rattle.vt_store.specs.OverlaysValue.{OverlayEntry, layers_held}

-- a directory lies in a layer by its parents, and another inode by its names
by_kind : (plain : Filesystems) (count number : ℕ) (overlays : List OverlayEntry) (b : Bool)
    → is_directory_node ((files_at plain count).tree.node number) ≡ b
    → list_any (lies_in_overlay plain count number) overlays
    ≡ list_any (λ (entry : OverlayEntry). list_any (λ (layer : LayerRef). nat_eq count layer.directory.filesystem.count
    && cond b (is_directory_under nat_eq (files_at plain count) (inode_of layer.directory) number)
    (is_file_under nat_eq (files_at plain count) (inode_of layer.directory) number)) (layers_held entry)) overlays
by_kind plain count number overlays b kind =
    ap (λ b. list_any (λ (entry : OverlayEntry). list_any (λ (layer : LayerRef).
    nat_eq count layer.directory.filesystem.count
    && cond b (is_directory_under nat_eq (files_at plain count) (inode_of layer.directory) number)
    (is_file_under nat_eq (files_at plain count) (inode_of layer.directory) number)) (layers_held entry)) overlays)
    kind

pub returns-then-not-have_layer_in : goal.returns-then-not-have_layer_in
returns-then-not-have_layer_in c =
    sym (none_stands c.args.plain.now c.args.inode.filesystem.count (inode_of c.args.inode) c.args.overlays.now
    (sym c.have_layer_in.ensures ∙ c.if-not-have_layer_in.true))

pub returns-in-Some : goal.returns-in-Some
returns-in-Some c =
    let plain = c.args.plain.now in
    let count = c.args.inode.filesystem.count in
    let own = ap (λ (n : NodeRef). n.filesystem) c.node_ref.ensures.value in
    let there : Some (node_seen count c.in-Some.node.now) ≡ (files_at plain count).tree.node (inode_of c.args.inode) =
    (λ i. Some (node_seen (sym own i).count c.in-Some.node.now))
    ∙ sym (ap (λ o. option_map (node_seen c.node_ref.result.filesystem.count) (option_copied o)) c.in-Some.is)
    ∙ c.node.ensures ∙ (λ i. (files_at plain (own i).count).tree.node (c.node_ref.ensures.number i)) in
    let kind : is_directory (kind_of c.in-Some.node.now.content) ≡ true = search rules in
    let directory : is_directory_node ((files_at plain count).tree.node (inode_of c.args.inode)) ≡ true =
    sym (ap is_directory_node there) ∙ directory_seen count c.in-Some.node.now ∙ kind in
    c.have_layer_over.ensures ∙ sym (by_kind plain count (inode_of c.args.inode) c.args.overlays.now true directory)

pub returns-in_default : goal.returns-in_default
returns-in_default c =
    let plain = c.args.plain.now in
    let count = c.args.inode.filesystem.count in
    let own = ap (λ (n : NodeRef). n.filesystem) c.node_ref.ensures.value in
    let found = c.node.ensures ∙ (λ i. (files_at plain (own i).count).tree.node (c.node_ref.ensures.number i)) in
    let other : is_directory_node ((files_at plain count).tree.node (inode_of c.args.inode)) ≡ false =
    elim c.in_default.branch [
      | in_default-via-in-Some+else-is_directory w ↦
          let there : Some (node_seen count w.in-Some.node.now) ≡ (files_at plain count).tree.node
          (inode_of c.args.inode) =
          (λ i. Some (node_seen (sym own i).count w.in-Some.node.now))
          ∙ sym (ap (λ o. option_map (node_seen c.node_ref.result.filesystem.count) (option_copied o)) w.in-Some.is)
          ∙ found in
          let kind : is_directory (kind_of w.in-Some.node.now.content) ≡ false = search rules in
          sym (ap is_directory_node there) ∙ directory_seen count w.in-Some.node.now ∙ kind
      | in_default-via-in_default w ↦ sym (ap is_directory_node
          (sym (ap (λ o. option_map (node_seen c.node_ref.result.filesystem.count) (option_copied o)) w.in_default.is)
          ∙ found))
    ] in
    c.has_name_in_layer.ensures ∙ sym (named_in_one plain count (inode_of c.args.inode) c.args.overlays.now)
    ∙ sym (by_kind plain count (inode_of c.args.inode) c.args.overlays.now false other)
