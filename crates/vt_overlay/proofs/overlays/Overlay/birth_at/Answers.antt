use Rattle.std.proofs.Common.{None, Some, ap, arith, option_map, rules, sym, ◌≡◌, ◌≢◌, ◌≤◌, ◌-◌, ◌∙◌, [], length, slice_get, if◌then◌else◌}
use Rattle.vt_spec.proofs.Common.{at_path, entries_in, is_directory_node, last_or, same_Some, slice_get_within, without_last}
use Rattle.vt_location.specs.declared.numbers.FilesystemId.{FilesystemId}
use Rattle.vt_location.specs.Locations.{inode_of}
use Rattle.vt_location.specs.Numbers.{exchanged}
use Rattle.vt_fs.specs.FilesystemsValue.{files_at}
use Rattle.vt_overlay.specs.Merge.LayerValue.{layer_of}
use Rattle.vt_overlay.specs.declared.merge.layers.LayerRef.{LayerRef}
use Rattle.vt_node.specs.Ranks.{rank_among}
use Rattle.vt_overlay.proofs.NodesShown.{below_birth, front_there, last_by_index, root_birth}
use Rattle.vt_overlay.proofs.overlays.Overlay.birth_at.Goals as goal

pub returns-then-len-eq0 : goal.returns-then-len-eq0
returns-then-len-eq0 g c = λ lower layer.
    let none : length (g.W.Way.names c.args.path.now) ≡ 0 = search rules in
    root_birth c.args.trees.now c.args.self.now c.requires.layers (g.W.Way.names c.args.path.now) c.args.real.layer
    (inode_of c.args.real.inode) lower c.requires.is layer none

pub returns-in_err-directory : goal.returns-in_err-directory
returns-in_err-directory g c = λ lower layer.
    let names = g.W.Way.names c.args.path.now in
    let some : length names ≢ 0 = search rules in
    let at : slice_get c.args.self.now.lowers c.args.real.layer ≡ Some c.in_ok-lower.lower =
    sym c.layer_in.ensures ∙ c.in_ok-lower.was in
    let same : lower ≡ c.in_ok-lower.lower = same_Some lower c.in_ok-lower.lower (sym layer ∙ at) in
    let none : at_path (layer_of c.args.trees.now lower) (without_last names) ≡ None =
    ap (λ (l : LayerRef). at_path (layer_of c.args.trees.now l) (without_last names)) same
    ∙ sym c.led_to.ensures.object ∙ ap (option_map inode_of) c.in_err-directory.was in
    absurd (front_there c.args.trees.now c.args.self.now c.requires.layers names c.args.real.layer
    (inode_of c.args.real.inode) lower c.requires.is layer some none)

pub rank_in-rank-requires : goal.rank_in-rank-requires
rank_in-rank-requires g c =
    let at : slice_get c.args.self.now.lowers c.args.real.layer ≡ Some c.in_ok-lower.lower =
    sym c.layer_in.ensures ∙ c.in_ok-lower.was in
    same_Some c.args.real.inode.filesystem c.in_ok-lower.lower.directory.filesystem
    (sym c.requires.tree ∙ ap (option_map (λ (layer : LayerRef). layer.directory.filesystem)) at)
    ∙ sym c.in_ok-directory.ensures.filesystem

pub overflow_cast-layer : goal.overflow_cast-layer
overflow_cast-layer g c =
    let within = slice_get_within c.args.self.now.lowers c.args.real.layer c.in_ok-lower.lower
    (sym c.layer_in.ensures ∙ c.in_ok-lower.was) in
    let few : length c.args.self.now.lowers ≤ 129 = c.requires.few in
    omega (arith, within, few)

pub returns : goal.returns
returns g c = λ lower layer.
    let trees = c.args.trees.now in
    let names = g.W.Way.names c.args.path.now in
    let real = c.args.real in
    let directory = c.in_ok-directory.directory in
    let name = c.name-name.result.now in
    let some : length names ≢ 0 = search rules in
    let at : slice_get c.args.self.now.lowers real.layer ≡ Some c.in_ok-lower.lower =
    sym c.layer_in.ensures ∙ c.in_ok-lower.was in
    let same : lower ≡ c.in_ok-lower.lower = same_Some lower c.in_ok-lower.lower (sym layer ∙ at) in
    let own : real.inode.filesystem ≡ lower.directory.filesystem =
    same_Some real.inode.filesystem lower.directory.filesystem
    (sym c.requires.tree ∙ ap (option_map (λ (layer : LayerRef). layer.directory.filesystem)) layer) in
    let beside : directory.filesystem ≡ lower.directory.filesystem =
    c.in_ok-directory.ensures.filesystem ∙ ap (λ (l : LayerRef). l.directory.filesystem) (sym same) in
    let up : at_path (layer_of trees lower) (without_last names) ≡ Some (inode_of directory) =
    ap (λ (l : LayerRef). at_path (layer_of trees l) (without_last names)) same
    ∙ sym c.in_ok-directory.ensures.object in
    let slot : exchanged lower.directory.filesystem.count (inode_of directory) ≡ directory.slot =
    ap (λ (id : FilesystemId). exchanged id.count (inode_of directory)) (sym beside) ∙ c.born_in.ensures.slot in
    let many = c.len-2.ensures in
    let last : last_or [] names ≡ name =
    last_by_index names name [] (c.len-2.result - 1) (omega (arith, many, some)) c.name-name.ensures in
    let ranked : c.rank_in-rank.result
    ≡ (if is_directory_node ((files_at trees lower.directory.filesystem.count).tree.node (inode_of real.inode)) then 0
    else rank_among (entries_in ((files_at trees lower.directory.filesystem.count).tree.node (inode_of directory))) name
    (inode_of real.inode)) = c.rank_in-rank.ensures
    ∙ (λ i. if is_directory_node ((files_at trees (own i).count).tree.node (inode_of real.inode)) then 0
    else rank_among (entries_in ((files_at trees (beside i).count).tree.node (inode_of directory))) name
    (inode_of real.inode)) in
    ap Some c.born_in.ensures.is
    ∙ below_birth trees c.args.self.now c.requires.layers names real.layer
    (inode_of real.inode) lower c.requires.is layer
    some (inode_of directory) directory.slot c.rank_in-rank.result name up slot last ranked
