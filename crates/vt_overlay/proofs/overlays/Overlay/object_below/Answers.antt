use Rattle.std.proofs.Common.{None, Some, ap, arith, length, option_map, rules, subst, sym, ℕ, ◌<◌, ◌≡◌, ◌≢◌, ◌≤◌, ◌++◌, ◌∷◌, ◌∙◌, [], slice_get, option_copied}
use Rattle.vt_spec.proofs.Common.{IsDirectory, Shown, Tree, entries_in, led, none_is_some, same_Some, shown, common_steps}
use Rattle.vt_location.specs.declared.locations.InodeRef.{InodeRef}
use Rattle.vt_location.specs.declared.locations.NodeRef.{NodeRef}
use Rattle.vt_location.specs.Locations.{inode_of, number_of}
use Rattle.vt_node.specs.Ranks.{name_ranked}
use Rattle.vt_fs.specs.FilesystemsValue.{Filesystems, files_at, node_seen}
use Rattle.vt_overlay.specs.Merge.LayerValue.{layers_of, seen_of}
use Rattle.vt_overlay.specs.MergedTree.{AreLayers, OverlayValue}
use Rattle.vt_overlay.proofs.BirthsFound.{Birthplace}
use Rattle.vt_overlay.proofs.BornNamed.{above, above_node, above_number, files, name_seen, no_directory, no_layer, no_name, no_way, object, shown_elsewhere, shown_here, start}
use Rattle.vt_overlay.proofs.overlays.Overlay.object_below.Goals as goal
use Rattle.vt_overlay.proofs.overlays.Overlay.object_below.Goals.{After-layer_at, After-name_ranked, After-shown, In_ok-lower}

-- where the object is said to be born
abbrev birthplace : (trees : Filesystems) (overlay : OverlayValue) → AreLayers trees overlay.lowers
    → length overlay.lowers ≤ 129 → (place directory rank slot : ℕ) → place < 18446744073709551616
    → directory < 18446744073709551616 → slot < 18446744073709551616 → Birthplace trees overlay
birthplace trees overlay are few place directory rank slot place_small directory_small slot_small = record {
  are = are;
  few = few;
  place = place;
  directory = directory;
  rank = rank;
  slot = slot;
  place_small = place_small;
  directory_small = directory_small;
  slot_small = slot_small;
}

abbrev born : (c : After-layer_at) → Birthplace c.args.trees.now c.args.self.now
born c = birthplace c.args.trees.now c.args.self.now c.requires.layers c.requires.few c.args.layer c.args.directory
    c.args.rank c.args.slot (omega (arith, c.ranges.layer.fits)) (omega (arith, c.ranges.directory.fits))
    (omega (arith, c.ranges.slot.fits))

-- the layer there
layer_there : (c : In_ok-lower) → slice_get c.args.self.now.lowers c.args.layer ≡ Some c.in_ok-lower.lower
layer_there c = sym c.layer_at.ensures ∙ c.in_ok-lower.was

-- What is found there, where the layer has the directory
abbrev born_named : (c : After-name_ranked) → Birthplace c.args.trees.now c.args.self.now
born_named c = birthplace c.args.trees.now c.args.self.now c.requires.layers c.requires.few c.args.layer
    c.args.directory c.args.rank c.args.slot (omega (arith, c.ranges.layer.fits))
    (omega (arith, c.ranges.directory.fits)) (omega (arith, c.ranges.slot.fits))

layer_is : (c : After-name_ranked) → slice_get c.args.self.now.lowers c.args.layer ≡ Some c.in_ok-lower.lower
layer_is c = sym c.layer_at.ensures ∙ c.in_ok-lower.was

abbrev tree : (c : After-name_ranked) → Tree ℕ
tree c = files c.args.trees.now c.args.self.now (born_named c) c.in_ok-lower.lower (layer_is c)

abbrev directory : (c : After-name_ranked) → ℕ
directory c = above c.args.trees.now c.args.self.now (born_named c) c.in_ok-lower.lower (layer_is c)

directory_is : (c : After-name_ranked) → inode_of c.inode_in-above.result ≡ directory c
directory_is c = grind (arith, common_steps)

way_leads : (c : After-name_ranked)
    → led (tree c) (start c.args.trees.now c.args.self.now (born_named c) c.in_ok-lower.lower (layer_is c))
    c.in_ok-way.way ≡ Some (directory c)
way_leads c = c.in_ok-way.ensures.leads ∙ ap Some (directory_is c)

is_directory : (c : After-name_ranked) → IsDirectory (tree c) (directory c)
is_directory c = subst (IsDirectory (tree c)) (directory_is c) c.in_ok-way.ensures.directory

-- the name is that of its rank
ranked : (c : After-name_ranked)
    → name_ranked (entries_in ((tree c).node (directory c)))
    (object c.args.trees.now c.args.self.now (born_named c) c.in_ok-lower.lower (layer_is c)) c.args.rank
    ≡ option_copied c.name_ranked.result
ranked c =
    let up = c.inode_in-above.result in
    let node = c.in_ok-node.node.now in
    let seen : Some (node_seen up.filesystem.count node) ≡ (files_at c.args.trees.now up.filesystem.count).tree.node
    (inode_of up) = (λ i. option_map (node_seen ((sym c.node_ref.ensures.value) i).filesystem.count) (option_copied
    ((sym c.in_ok-node.was) i))) ∙ c.node.ensures ∙ ap (λ (n : NodeRef). (files_at c.args.trees.now
    n.filesystem.count).tree.node (number_of n)) c.node_ref.ensures.value in
    let slot : c.slot_of.result ≡ c.args.slot = c.slot_of.ensures.value ∙ ap (λ (n : InodeRef). n.slot)
    c.inode_in-object.ensures.is in
    cc (
      name_seen c.args.trees.now c.args.self.now (born_named c) c.in_ok-lower.lower (layer_is c) up
          c.inode_in-above.ensures.is node seen c.slot_of.result slot,
      c.name_ranked.ensures,
    )

-- what all layers show under the way and the name
all_show : (c : After-shown) → shown (layers_of c.args.trees.now c.args.self.now.lowers)
    (c.in_ok-way.way ++ c.in_ok-name.name.now ∷ []) ≡ option_map seen_of c.shown.result
all_show c = grind (arith, common_steps, c.under.ensures, c.shown.ensures.value)

pub returns-in_err-lower-clause-value : goal.returns-in_err-lower-clause-value
returns-in_err-lower-clause-value c =
    ap (option_map seen_of) c.from_residual.ensures
    ∙ no_layer c.args.trees.now c.args.self.now (born (goal.at.returns-in_err-lower-clause-value c).After-layer_at)
    (sym c.layer_at.ensures ∙ c.in_err-lower.was)

pub way_down-requires-clause-tree : goal.way_down-requires-clause-tree
way_down-requires-clause-tree c =
    (c.requires.layers c.args.layer c.in_ok-lower.lower (sym c.layer_at.ensures ∙ c.in_ok-lower.was)).tree

pub returns-in_err-way-clause-value : goal.returns-in_err-way-clause-value
returns-in_err-way-clause-value c =
    let at = goal.at.returns-in_err-way-clause-value c in
    let trees = c.args.trees.now in
    let overlay = c.args.self.now in
    let b = born at.After-layer_at in
    let lower = c.in_ok-lower.lower in
    let layer = layer_there at.In_ok-lower in
    let number = above_number trees overlay b lower layer c.inode_in-above.result c.inode_in-above.ensures.is in
    ap (option_map seen_of) c.from_residual-in_err-way.ensures
    ∙ no_way trees overlay b lower layer (λ directory path leads.
    c.way_down.ensures.nowhere c.in_err-way.was
    (subst (IsDirectory (files trees overlay b lower layer)) (sym number) directory) path
    (leads ∙ ap Some (sym number)))

pub returns-in_err-node-clause-value : goal.returns-in_err-node-clause-value
returns-in_err-node-clause-value c =
    let at = goal.at.returns-in_err-node-clause-value c in
    let trees = c.args.trees.now in
    let overlay = c.args.self.now in
    let b = born at.After-layer_at in
    let lower = c.in_ok-lower.lower in
    let layer = layer_there at.In_ok-lower in
    let up = c.inode_in-above.result in
    let none : None ≡ (files_at trees up.filesystem.count).tree.node (inode_of up) =
    (λ i. option_map (node_seen ((sym c.node_ref.ensures.value) i).filesystem.count)
    (option_copied ((sym c.in_err-node.was) i))) ∙ c.node.ensures
    ∙ ap (λ (n : NodeRef). (files_at trees n.filesystem.count).tree.node (number_of n)) c.node_ref.ensures.value in
    ap (option_map seen_of) c.from_residual-in_err-node.ensures
    ∙ no_directory trees overlay b lower layer
    (sym (none ∙ above_node trees overlay b lower layer up c.inode_in-above.ensures.is))

pub returns-in_err-name-clause-value : goal.returns-in_err-name-clause-value
returns-in_err-name-clause-value c =
    let at = (goal.at.returns-in_err-name-clause-value c).After-name_ranked in
    ap (option_map seen_of) c.from_residual-in_err-name.ensures
    ∙ no_name c.args.trees.now c.args.self.now (born_named at) c.in_ok-lower.lower (layer_is at)
    (ranked at ∙ ap option_copied c.in_err-name.was)

pub returns-in_err-real-clause-value : goal.returns-in_err-real-clause-value
returns-in_err-real-clause-value c =
    let at = goal.at.returns-in_err-real-clause-value c in
    let there = at.After-name_ranked in
    ap (option_map seen_of) c.from_residual-in_err-real.ensures
    ∙ shown_elsewhere c.args.trees.now c.args.self.now (born_named there) c.in_ok-lower.lower (layer_is there)
    c.in_ok-way.way c.in_ok-name.name.now (way_leads there) (is_directory there)
    (ranked there ∙ ap option_copied c.in_ok-name.was)
    (λ seen e. none_is_some seen (sym (all_show at.After-shown ∙ ap (option_map seen_of) c.in_err-real.was) ∙ e))

pub returns-then-real-from-clause-value : goal.returns-then-real-from-clause-value
returns-then-real-from-clause-value c =
    let at = goal.at.returns-then-real-from-clause-value c in
    let there = at.After-name_ranked in
    let other : c.in_ok-real.real.layer ≢ c.args.layer = search rules in
    shown_elsewhere c.args.trees.now c.args.self.now (born_named there) c.in_ok-lower.lower (layer_is there)
    c.in_ok-way.way c.in_ok-name.name.now (way_leads there) (is_directory there)
    (ranked there ∙ ap option_copied c.in_ok-name.was) (λ seen e same.
    let it = same_Some seen (seen_of c.in_ok-real.real)
    (sym e ∙ all_show at.After-shown ∙ ap (option_map seen_of) c.in_ok-real.was) in
    other (ap (λ (s : Shown ℕ). s.layer) (sym it) ∙ same))

pub returns-clause-value : goal.returns-clause-value
returns-clause-value c =
    let at = goal.at.returns-clause-value c in
    let there = at.After-name_ranked in
    let same : c.in_ok-real.real.layer ≡ c.args.layer = search rules in
    shown_here c.args.trees.now c.args.self.now (born_named there) c.in_ok-lower.lower (layer_is there)
    c.in_ok-way.way c.in_ok-name.name.now (way_leads there) (is_directory there)
    (ranked there ∙ ap option_copied c.in_ok-name.was) (seen_of c.in_ok-real.real)
    (all_show at.After-shown ∙ ap (option_map seen_of) c.in_ok-real.was) same
