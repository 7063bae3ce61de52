use Rattle.std.proofs.Common.{ap, arith, IsSome, None, option_copied, option_map, rules, Some, slice_get, subst, sym, ℕ, ◌+◌, ◌≡◌, ◌≢◌, ◌∙◌, ◌++◌, ◌∷◌, []}
use Rattle.vt_spec.proofs.Common.{none_is_some, same_Some, shown}
use Rattle.vt_location.specs.declared.locations.NodeRef.{NodeRef}
use Rattle.vt_location.specs.Locations.{number_of}
use Rattle.vt_location.specs.Numbers.{inode_number}
use Rattle.vt_location.proofs.NodeLemmas.{small_parts}
use Rattle.vt_fs.specs.FilesystemsValue.{files_at, node_seen}
use Rattle.vt_overlay.specs.Merge.LayerValue.{layers_of}
use Rattle.vt_upper_overlay.specs.MergedAbove.{number_at}
use Rattle.vt_upper_overlay.proofs.Shown.{looked_by}
use Rattle.vt_upper.proofs.BornBelow.{IsBornIn, found_name, is_born_in, layer_there}
use Rattle.vt_upper.proofs.copying.born_at.Goals as goal
use Rattle.vt_upper.proofs.copying.born_at.Goals.{After-name_ranked, In_ok-lower}

-- where the node was born
born : (c : In_ok-lower) → IsBornIn c.args.trees.now c.args.overlay.now c.args.node c.in-Below.directory c.in-Below.rank
    c.in_ok-lower.lower
born c =
    let trees = c.args.trees.now in
    let overlay = c.args.overlay.now in
    let node = c.args.node in
    is_born_in trees overlay (looked_by trees overlay node c.requires.standing c.requires.small c.requires.own) node
    (small_parts node c.requires.small) c.requires.shown c.requires.below c.in-Below.layer c.in-Below.directory
    c.in-Below.rank c.in-Below.is c.in_ok-lower.lower
    (ap (λ n. slice_get overlay.layers.lowers (n + 1)) (sym c.from.ensures) ∙ sym c.layer_at.ensures
    ∙ c.in_ok-lower.was)

-- the name that is found
name_found : (c : After-name_ranked) → (is : IsBornIn c.args.trees.now c.args.overlay.now c.args.node
    c.in-Below.directory c.in-Below.rank c.in_ok-lower.lower) → option_copied c.name_ranked.result ≡ Some is.name
name_found c is =
    let trees = c.args.trees.now in
    let f = c.in_ok-lower.lower.directory.filesystem.count in
    let inode = c.in_ok-inode.inode.now in
    let seen : Some (node_seen f inode) ≡ (files_at trees f).tree.node (inode_number f c.in-Below.directory) =
    ap (λ (n : NodeRef). Some (node_seen n.filesystem.count inode)) (sym c.node_ref.ensures.value)
    ∙ sym (ap (λ o. option_map (node_seen c.node_ref.result.filesystem.count) (option_copied o)) c.in_ok-inode.was)
    ∙ c.node.ensures
    ∙ ap (λ (n : NodeRef). (files_at trees n.filesystem.count).tree.node (number_of n)) c.node_ref.ensures.value in
    c.name_ranked.ensures
    ∙ found_name trees c.args.overlay.now c.args.node c.in-Below.directory c.in-Below.rank c.in_ok-lower.lower is inode
    seen c.new.result c.new.ensures

pub returns-in_err-lower-clause-some : goal.returns-in_err-lower-clause-some
returns-in_err-lower-clause-some c =
    let trees = c.args.trees.now in
    let overlay = c.args.overlay.now in
    let node = c.args.node in
    let none : slice_get overlay.layers.lowers (c.in-Below.layer + 1) ≡ None =
    ap (λ n. slice_get overlay.layers.lowers (n + 1)) (sym c.from.ensures) ∙ sym c.layer_at.ensures
    ∙ c.in_err-lower.was in
    none_is_some _ (sym none
    ∙ layer_there trees overlay (looked_by trees overlay node c.requires.standing c.requires.small c.requires.own) node
    (small_parts node c.requires.small) c.requires.shown c.requires.below c.in-Below.layer c.in-Below.directory
    c.in-Below.rank c.in-Below.is)

pub way_down-requires-clause-tree : goal.way_down-requires-clause-tree
way_down-requires-clause-tree c = (born (goal.at.way_down-requires-clause-tree c).In_ok-lower).layer.tree

pub returns-in_err-way-clause-some : goal.returns-in_err-way-clause-some
returns-in_err-way-clause-some c =
    let is = born (goal.at.returns-in_err-way-clause-some c).In_ok-lower in
    absurd (c.way_down.ensures.nowhere c.in_err-way.was is.is is.way is.leads)

pub returns-in_err-name-clause-some : goal.returns-in_err-name-clause-some
returns-in_err-name-clause-some c =
    let at = goal.at.returns-in_err-name-clause-some c in
    let is = born at.In_ok-lower in
    none_is_some is.name (sym (ap option_copied c.in_err-name.was) ∙ name_found at.After-name_ranked is)

pub returns-clause-node : goal.returns-clause-node
returns-clause-node c =
    let at = goal.at.returns-clause-node c in
    let is = born at.In_ok-lower in
    let way = is.only c.in_ok-way.way c.in_ok-way.ensures.leads in
    let name : c.in_ok-name.name.now ≡ is.name = same_Some c.in_ok-name.name.now is.name
    (sym (ap option_copied c.in_ok-name.was) ∙ name_found at.After-name_ranked is) in
    (λ i. number_at c.args.trees.now c.args.overlay.now (way i ++ name i ∷ [])) ∙ is.numbered

pub returns-clause-shown : goal.returns-clause-shown
returns-clause-shown c =
    let at = goal.at.returns-clause-shown c in
    let is = born at.In_ok-lower in
    let way = is.only c.in_ok-way.way c.in_ok-way.ensures.leads in
    let name : c.in_ok-name.name.now ≡ is.name = same_Some c.in_ok-name.name.now is.name
    (sym (ap option_copied c.in_ok-name.was) ∙ name_found at.After-name_ranked is) in
    (λ i. Rattle.std.proofs.Common.is_some (shown (layers_of c.args.trees.now c.args.overlay.now.layers.lowers)
    (way i ++ name i ∷ []))) ∙ is.shows
