use Rattle.std.proofs.Common.{arith, ap, is_some, IsSome, None, Some, subst, sym, take, true≢false, ◌∙◌, ◌≡◌, ◌≢◌, ◌+◌, ◌-◌, ◌++◌, ◌∷◌, [], option_copied, option_map}
use Rattle.vt_spec.proofs.Common.{Node, shown}
use Rattle.vt_spec.specs.Machine.Layers.{at_path}
use Rattle.vt_location.specs.declared.locations.NodeRef.{NodeRef}
use Rattle.vt_location.specs.Locations.{inode_of, number_of}
use Rattle.vt_fs.specs.FilesystemsValue.{files_at, node_seen}
use Rattle.vt_overlay.specs.Merge.EntryValue.{IsFirstEntry}
use Rattle.vt_overlay.specs.Merge.LayerValue.{layers_of, opened}
use Rattle.vt_copyup.proofs.Seen.{copied-seen, inode_shown, is_lower, is_node_at, is_within, object_is_there}
use Rattle.vt_copyup.proofs.Ways.{take_next}
use Rattle.vt_copyup.proofs.planning.copy_at.Goals as goal

pub unreachable-requires : goal.unreachable-requires
unreachable-requires g c =
    let trees = c.args.source.trees.now in
    let layers = c.args.source.layers.now in
    let names = g.W.Way.names c.args.path.now in
    let next : take (c.args.index + 1) names ≡ take c.args.index names ++ c.name-name.result.now ∷ [] =
    take_next names c.args.index c.name-name.result.now c.name-name.ensures in
    let nothing : shown (layers_of trees layers)
    (take c.args.index names ++ c.name-name.result.now ∷ []) ≡ None = c.first_entry.ensures.nothing c.in_default.is in
    true≢false (sym c.requires.shown ∙ ap (λ p. is_some (shown (layers_of trees layers) p)) next
    ∙ ap is_some nothing)

pub unreachable-requires-in_default-node : goal.unreachable-requires-in_default-node
unreachable-requires-in_default-node g c =
    let trees = c.args.source.trees.now in
    let layers = c.args.source.layers.now in
    let names = g.W.Way.names c.args.path.now in
    let name = c.name-name.result.now in
    let found = c.in-Some.found in
    let some : IsSome (shown (layers_of trees layers) (take c.args.index names ++ name ∷ [])) =
    subst (λ p. IsSome (shown (layers_of trees layers) p))
    (take_next names c.args.index name c.name-name.ensures) c.requires.shown in
    let first : IsFirstEntry trees layers (take c.args.index names) name found = c.in-Some.ensures.first in
    let none : (files_at trees found.object.filesystem.count).tree.node (inode_of found.object) ≡ None =
    sym (ap (λ (n : NodeRef). (files_at trees n.filesystem.count).tree.node (number_of n)) c.node_ref.ensures.value)
    ∙ sym c.node.ensures
    ∙ ap (λ o. option_map (node_seen c.node_ref.result.filesystem.count) (option_copied o)) c.in_default-node.is in
    true≢false (sym (object_is_there trees layers c.requires.layers (take c.args.index names) name found
    first some) ∙ ap is_some none)

pub born_below-requires-clause-lower : goal.born_below-requires-clause-lower
born_below-requires-clause-lower g c =
    let trees = c.args.source.trees.now in
    let layers = c.args.source.layers.now in
    let names = g.W.Way.names c.args.path.now in
    let name = c.name-name.result.now in
    let found = c.in-Some.found in
    let next = take_next names c.args.index name c.name-name.ensures in
    let some : IsSome (shown (layers_of trees layers) (take c.args.index names ++ name ∷ [])) =
    subst (λ p. IsSome (shown (layers_of trees layers) p)) next c.requires.shown in
    let first : IsFirstEntry trees layers (take c.args.index names) name found = c.in-Some.ensures.first in
    let other : found.above.layer ≢ 0 =
    is_lower trees layers c.requires.layers (take c.args.index names) name found first some
    (λ upper top. ap (at_path (opened trees upper.directory)) (sym next) ∙ c.requires.nowhere upper top) in
    omega (arith, other)

pub born_below-requires-clause-few : goal.born_below-requires-clause-few
born_below-requires-clause-few g c =
    let trees = c.args.source.trees.now in
    let layers = c.args.source.layers.now in
    let names = g.W.Way.names c.args.path.now in
    let name = c.name-name.result.now in
    let found = c.in-Some.found in
    let some : IsSome (shown (layers_of trees layers) (take c.args.index names ++ name ∷ [])) =
    subst (λ p. IsSome (shown (layers_of trees layers) p))
    (take_next names c.args.index name c.name-name.ensures) c.requires.shown in
    let first : IsFirstEntry trees layers (take c.args.index names) name found = c.in-Some.ensures.first in
    let within = is_within trees layers c.requires.layers (take c.args.index names) name found first some in
    omega (arith, within, c.requires.few)

pub returns-clause-copy : goal.returns-clause-copy
returns-clause-copy g c =
    let trees = c.args.source.trees.now in
    let layers = c.args.source.layers.now in
    let names = g.W.Way.names c.args.path.now in
    let front = take c.args.index names in
    let name = c.name-name.result.now in
    let found = c.in-Some.found in
    let next = take_next names c.args.index name c.name-name.ensures in
    let some : IsSome (shown (layers_of trees layers) (front ++ name ∷ [])) =
    subst (λ p. IsSome (shown (layers_of trees layers) p)) next c.requires.shown in
    let first : IsFirstEntry trees layers front name found = c.in-Some.ensures.first in
    let f = found.object.filesystem.count in
    let node = c.in-Some-node.node.now in
    let is : Some (node_seen f node) ≡ (files_at trees f).tree.node (inode_of found.object) =
    ap (λ (n : NodeRef). Some (node_seen n.filesystem.count node)) (sym c.node_ref.ensures.value)
    ∙ sym (ap (λ o. option_map (node_seen c.node_ref.result.filesystem.count) (option_copied o)) c.in-Some-node.is)
    ∙ c.node.ensures
    ∙ ap (λ (n : NodeRef). (files_at trees n.filesystem.count).tree.node (number_of n)) c.node_ref.ensures.value in
    let other : found.above.layer ≢ 0 =
    is_lower trees layers c.requires.layers front name found first some
    (λ upper top. ap (at_path (opened trees upper.directory)) (sym next) ∙ c.requires.nowhere upper top) in
    let copied : name ≡ c.in_ok-copied_bytes.field-0.items = sym c.in_ok-copied_bytes.ensures.ok in
    let place : (found.above.layer - 1) + 1 ≡ found.above.layer = omega (arith, other) in
    record {
      inode = node_seen f node;
      shows = ap (λ n. Rattle.vt_spec.proofs.Common.then_some (shown (layers_of trees layers) (front ++ n ∷ []))
          (Rattle.vt_spec.specs.Machine.Merging.layer_node (layers_of trees layers))) (sym copied)
          ∙ inode_shown trees layers c.requires.layers front name found first some (node_seen f node) is;
      node = c.in_ok-of.ensures ∙ sym (copied-seen c.args.source.with_bytes f node);
      born = subst (λ n. Rattle.vt_copyup.specs.Planned.IsNodeAt trees layers c.args.source.overlay (front ++ n ∷ [])
          c.born_below.result) copied
          (is_node_at trees layers c.requires.layers front name found first some c.args.source.overlay
          (found.above.layer - 1) place c.born_below.result c.born_below.ensures.overlay c.born_below.ensures.slot
          (c.born_below.ensures.birth (found.above.layer - 1) place) c.born_below.ensures.object_slot
          c.born_below.ensures.directory_slot);
    }
