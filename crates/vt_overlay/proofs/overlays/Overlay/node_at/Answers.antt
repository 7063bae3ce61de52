use Rattle.std.proofs.Common.{None, Some, ap, option_map, sym, ◌≡◌, ◌∙◌, slice_get}
use Rattle.vt_spec.proofs.Common.{none_is_some, same_Some, shown}
use Rattle.vt_location.specs.declared.locations.NodeRef.{NodeRef}
use Rattle.vt_location.specs.declared.numbers.FilesystemId.{FilesystemId}
use Rattle.vt_location.specs.Locations.{inode_of, number_of}
use Rattle.vt_location.specs.Numbers.{exchanged}
use Rattle.vt_overlay.specs.Merge.LayerValue.{layers_of, seen_of}
use Rattle.vt_overlay.specs.declared.merge.layers.LayerRef.{LayerRef}
use Rattle.vt_overlay.specs.MergedTree.{OverlayValue, birth_at}
use Rattle.vt_overlay.proofs.NodesShown.{no_number, node_is}
use Rattle.vt_overlay.proofs.TreeFound.{in_layer}
use Rattle.vt_overlay.proofs.overlays.Overlay.node_at.Goals as goal

pub returns-in_err-real : goal.returns-in_err-real
returns-in_err-real g c =
    let layers : c.as_slice.result.now ≡ c.args.self.now.lowers =
    c.as_slice.ensures.value ∙ ap (λ (overlay : OverlayValue). overlay.lowers) c.self.view_is in
    let names = g.W.Way.names c.args.path.now in
    let none : shown (layers_of c.args.trees.now c.args.self.now.lowers) names ≡ None =
    ap (λ l. shown (layers_of c.args.trees.now l) names) (sym layers) ∙ sym c.shown.ensures.value
    ∙ ap (option_map seen_of) c.in_err-real.was in
    ap (option_map number_of) c.from_residual.ensures
    ∙ sym (no_number c.args.trees.now c.args.self.now c.requires.layers names none)

pub birth_at-requires-clause-is : goal.birth_at-requires-clause-is
birth_at-requires-clause-is g c =
    let layers : c.as_slice.result.now ≡ c.args.self.now.lowers =
    c.as_slice.ensures.value ∙ ap (λ (overlay : OverlayValue). overlay.lowers) c.self.view_is in
    ap (λ l. shown (layers_of c.args.trees.now l) (g.W.Way.names c.args.path.now)) (sym layers)
    ∙ sym c.shown.ensures.value ∙ ap (option_map seen_of) c.in_ok-real.was

pub birth_at-requires-clause-tree : goal.birth_at-requires-clause-tree
birth_at-requires-clause-tree g c =
    let layers : c.as_slice.result.now ≡ c.args.self.now.lowers =
    c.as_slice.ensures.value ∙ ap (λ (overlay : OverlayValue). overlay.lowers) c.self.view_is in
    ap (λ l. option_map (λ (layer : LayerRef). layer.directory.filesystem) (slice_get l c.in_ok-real.real.layer))
    (sym layers) ∙ c.in_ok-real.ensures.tree

pub returns-in_err-birth : goal.returns-in_err-birth
returns-in_err-birth g c =
    let layers : c.as_slice.result.now ≡ c.args.self.now.lowers =
    c.as_slice.ensures.value ∙ ap (λ (overlay : OverlayValue). overlay.lowers) c.self.view_is in
    let names = g.W.Way.names c.args.path.now in
    let real = c.in_ok-real.real in
    let shows : shown (layers_of c.args.trees.now c.args.self.now.lowers) names ≡ Some (seen_of real) =
    ap (λ l. shown (layers_of c.args.trees.now l) names) (sym layers)
    ∙ sym c.shown.ensures.value ∙ ap (option_map seen_of) c.in_ok-real.was in
    let at = in_layer c.args.trees.now c.args.self.now c.requires.layers names (seen_of real) shows in
    none_is_some (birth_at c.args.trees.now real.layer at.0 names)
    (sym c.in_err-birth.was ∙ c.birth_at.ensures at.0 at.1)

pub returns : goal.returns
returns g c =
    let layers : c.as_slice.result.now ≡ c.args.self.now.lowers =
    c.as_slice.ensures.value ∙ ap (λ (overlay : OverlayValue). overlay.lowers) c.self.view_is in
    let names = g.W.Way.names c.args.path.now in
    let real = c.in_ok-real.real in
    let shows : shown (layers_of c.args.trees.now c.args.self.now.lowers) names ≡ Some (seen_of real) =
    ap (λ l. shown (layers_of c.args.trees.now l) names) (sym layers)
    ∙ sym c.shown.ensures.value ∙ ap (option_map seen_of) c.in_ok-real.was in
    let at = in_layer c.args.trees.now c.args.self.now c.requires.layers names (seen_of real) shows in
    let tree : at.0.directory.filesystem ≡ real.inode.filesystem =
    same_Some at.0.directory.filesystem real.inode.filesystem
    (ap (option_map (λ (layer : LayerRef). layer.directory.filesystem)) (sym at.1)
    ∙ ap (λ l. option_map (λ (layer : LayerRef). layer.directory.filesystem) (slice_get l real.layer)) (sym layers)
    ∙ c.in_ok-real.ensures.tree) in
    let birth : c.in_ok-birth.birth ≡ birth_at c.args.trees.now real.layer at.0 names =
    same_Some c.in_ok-birth.birth (birth_at c.args.trees.now real.layer at.0 names)
    (sym c.in_ok-birth.was ∙ c.birth_at.ensures at.0 at.1) in
    let slot : exchanged at.0.directory.filesystem.count (inode_of real.inode) ≡ real.inode.slot =
    ap (λ (id : FilesystemId). exchanged id.count (inode_of real.inode)) tree ∙ c.node_of.ensures.slot in
    ap (λ (node : NodeRef). Some (number_of node)) c.node_of.ensures.is
    ∙ ap (λ (overlay : OverlayValue). Some (number_of (record {
      filesystem = overlay.number;
      slot = real.inode.slot;
      birth = c.in_ok-birth.birth;
    }))) c.self.view_is
    ∙ node_is c.args.trees.now c.args.self.now c.requires.layers names real.layer (inode_of real.inode) at.0 shows at.1
    c.in_ok-birth.birth real.inode.slot birth slot
