use Rattle.std.proofs.Common.{rules, ◌≡◌, ◌∙◌, ◌+◌, ◌≤◌, ◌||◌, ap, drop, false, length, subst, sym, true}
use Rattle.vt_spec.proofs.Common.{drop_all, hides}
use Rattle.vt_fs.specs.FilesystemsValue.{files_at}
use Rattle.vt_location.specs.declared.numbers.FilesystemId.{FilesystemId}
use Rattle.vt_location.specs.Locations.{inode_of}
use Rattle.vt_overlay.specs.declared.merge.layers.LayerEntry.{LayerEntry}
use Rattle.vt_overlay.specs.Merge.LayerValue.{cut_on}
use Rattle.vt_upper.proofs.CutsFollowed.{cuts_on, goes_on_cut, stops_cut}
use Rattle.vt_upper.proofs.CutsAlong.{found_at, is_beside, nothing_at}
use Rattle.vt_upper.proofs.lowers.is_cut.Goals as goal

pub returns-in_default : goal.returns-in_default
returns-in_default g c =
    let trees = c.args.trees.now in
    let names = g.W.Way.names c.args.path.now in
    let tree = (files_at trees c.args.directory.filesystem.count).tree in
    let here = c.loop-index.here in
    let at = c.loop-index.invariant in
    let none = nothing_at trees c.args.directory here at.beside c.name.result.now (c.entry_in.ensures.nothing
    c.in_default.is) in
    sym (cuts_on tree names (inode_of c.args.directory) ∙ at.cut
    ∙ stops_cut tree (inode_of here) names c.loop-index.index c.name.result.now c.name.ensures (sym none))

pub returns-then-hides : goal.returns-then-hides
returns-then-hides g c =
    let trees = c.args.trees.now in
    let names = g.W.Way.names c.args.path.now in
    let tree = (files_at trees c.args.directory.filesystem.count).tree in
    let here = c.loop-index.here in
    let at = c.loop-index.invariant in
    let found : LayerEntry = c.in-Some.found in
    let leads = found_at trees c.args.directory here at.beside c.name.result.now found c.in-Some.ensures.above
    c.in-Some.ensures.entry in
    let beside = is_beside trees c.args.directory here at.beside c.name.result.now found c.in-Some.ensures.above
    c.in-Some.ensures.entry in
    let yes : c.hides.result ≡ true = search rules in
    let hidden : hides (tree.node (inode_of found.object)) ≡ true =
    ap (λ (id : FilesystemId). hides ((files_at trees id.count).tree.node (inode_of found.object))) (sym beside)
    ∙ sym c.hides.ensures ∙ yes in
    sym (cuts_on tree names (inode_of c.args.directory) ∙ at.cut
    ∙ goes_on_cut tree (inode_of here) names c.loop-index.index c.name.result.now c.name.ensures (inode_of found.object)
    (sym leads)
    ∙ ap (λ b. b || cut_on tree (drop (c.loop-index.index + 1) names) (inode_of found.object)) hidden)

pub loop-index-preserved : goal.loop-index-preserved
loop-index-preserved g c =
    let trees = c.args.trees.now in
    let names = g.W.Way.names c.args.path.now in
    let tree = (files_at trees c.args.directory.filesystem.count).tree in
    let here = c.loop-index.here in
    let at = c.loop-index.invariant in
    let found : LayerEntry = c.in-Some.found in
    let leads = found_at trees c.args.directory here at.beside c.name.result.now found c.in-Some.ensures.above
    c.in-Some.ensures.entry in
    let beside = is_beside trees c.args.directory here at.beside c.name.result.now found c.in-Some.ensures.above
    c.in-Some.ensures.entry in
    let no : c.hides.result ≡ false = search rules in
    let shown : hides (tree.node (inode_of found.object)) ≡ false =
    ap (λ (id : FilesystemId). hides ((files_at trees id.count).tree.node (inode_of found.object))) (sym beside)
    ∙ sym c.hides.ensures ∙ no in
    record {
      cut = at.cut
          ∙ goes_on_cut tree (inode_of here) names c.loop-index.index c.name.result.now c.name.ensures
          (inode_of found.object) (sym leads)
          ∙ ap (λ b. b || cut_on tree (drop (c.loop-index.index + 1) names) (inode_of found.object)) shown;
      beside = beside;
    }

pub returns : goal.returns
returns g c =
    let names = g.W.Way.names c.args.path.now in
    let tree = (files_at c.args.trees.now c.args.directory.filesystem.count).tree in
    let here = c.loop-index.here in
    let past : length names ≤ c.loop-index.index =
    subst (λ n. n ≤ c.loop-index.index) c.len-index-end.ensures c.loop-index-test.false in
    sym (cuts_on tree names (inode_of c.args.directory) ∙ c.loop-index.invariant.cut
    ∙ ap (λ l. cut_on tree l (inode_of here)) (drop_all c.loop-index.index names past))
