-- A node that has its object in a lower layer: the way to the directory in which it was born, and its name there.
use Rattle.std.proofs.Common.{◌≡◌, ◌∙◌, ◌<◌, ◌+◌, ◌∷◌, ◌++◌, [], ap, arith, refl, is_some, IsSome, List, None, option_map, Option, Some, slice_get, subst, suc, sym, true≢false, ⊎_elim, unwrap_or, ℕ}
use Rattle.vt_spec.proofs.Common.{IsDirectory, Node, Tree, at_path, entries_in, entries_of, led, none_is_some, same_Some, shown, slice_get_within, then_some, without_last}
use Rattle.vt_laws_trees.proofs.layers.layers.ShownPaths.{one_path}
use Rattle.vt_laws_trees.proofs.layers.layers.UpperLine.{has_entries}
use Rattle.vt_node.proofs.RankLemmas.{ranked_is_found}
use Rattle.vt_node.specs.Ranks.{name_ranked}
use Rattle.vt_births.specs.Births.{slot_above}
use Rattle.vt_fs.specs.FilesystemsValue.{Filesystems, files_at, node_seen}
use Rattle.vt_location.specs.declared.births.Birth.{Birth}
use Rattle.vt_location.specs.declared.births.Birth.TheVariants.{Below, Here}
use Rattle.vt_location.specs.declared.locations.NodeRef.{NodeRef}
use Rattle.vt_location.specs.Births.{IsSmallBirth}
use Rattle.vt_location.specs.Locations.{inode_of, number_of}
use Rattle.vt_location.specs.NodeNumbers.{IsSmall}
use Rattle.vt_location.specs.Numbers.{exchanged, inode_number}
use Rattle.vt_location.proofs.NumberLemmas.{exchanged_back, exchanged_slot}
use Rattle.vt_overlay.specs.declared.merge.layers.LayerRef.{LayerRef}
use Rattle.vt_overlay.specs.Merge.LayerValue.{layers_of, seen_of}
use Rattle.vt_overlay.specs.declared.merge.layers.Real.{Real as Object}
use Rattle.vt_overlay.specs.MergedTree.{IsLayer, longest, plain_world, rank_at, slot_at}
use Rattle.vt_overlay.proofs.BirthsFound.{Birthplace, IsBorn}
use Rattle.vt_overlay.proofs.BornNamed.{is_named}
use Rattle.vt_overlay.proofs.RanksSeen.{ranked_seen}
use Rattle.vt_upper_overlay.specs.MergedAbove.{held, number_at, object_shown, path_at, real_number, upper_seen}
use Rattle.vt_upper_overlay.specs.UpperValue.{UpperOverlayValue, real_at}
use Rattle.vt_upper_overlay.proofs.Objects.{real_shown_at}
use Rattle.vt_upper_overlay.proofs.Shown.{IsBelow, IsLooked, birth_below, shown_node, slot_is_above}
use Rattle.vt_upper_overlay.proofs.Ways as ways

-- it was born under a name of a directory of a layer, where it is shown
pub record IsBornIn (trees : Filesystems) (overlay : UpperOverlayValue) (node : NodeRef) (directory rank : ℕ)
    (lower : LayerRef) : Type 0 where
  pub way : List (List ℕ)
  pub name : List ℕ
  pub numbered : number_at trees overlay (way ++ name ∷ []) ≡ Some (number_of node)
  pub shows : IsSome (shown (layers_of trees overlay.layers.lowers) (way ++ name ∷ []))
  pub layer : IsLayer trees lower
  pub leads : led (files_at trees lower.directory.filesystem.count).tree (inode_of lower.directory) way
      ≡ Some (inode_number lower.directory.filesystem.count directory)
  pub is : IsDirectory (files_at trees lower.directory.filesystem.count).tree
      (inode_number lower.directory.filesystem.count directory)
  pub only : (other : List (List ℕ))
      → led (files_at trees lower.directory.filesystem.count).tree (inode_of lower.directory) other
      ≡ Some (inode_number lower.directory.filesystem.count directory) → other ≡ way
  pub named : name_ranked (entries_in ((files_at trees lower.directory.filesystem.count).tree.node
      (inode_number lower.directory.filesystem.count directory)))
      (exchanged lower.directory.filesystem.count node.slot) rank ≡ Some name

-- the name is found by its rank
module _ (trees : Filesystems) (overlay : UpperOverlayValue) (node : NodeRef) (directory rank : ℕ) (lower : LayerRef)
    (born : IsBornIn trees overlay node directory rank lower) where
  abbrev count : ℕ
  count = lower.directory.filesystem.count

  pub found_name : (inode : Node ℕ)
      → Some (node_seen count inode) ≡ (files_at trees count).tree.node (inode_number count directory)
      → (id : ℕ) → id ≡ node.slot → name_ranked (entries_of inode.content) id rank ≡ Some born.name
  found_name inode seen id same = ap (λ n. name_ranked (entries_of inode.content) n rank) same
      ∙ ranked_seen count inode node.slot rank
      ∙ ap (λ o. name_ranked (entries_in o) (exchanged count node.slot) rank) seen ∙ born.named

-- what a birth tells
place_in : Birth → ℕ
place_in Here = 0
place_in (Below layer directory rank) = layer

directory_in : Birth → ℕ
directory_in Here = 0
directory_in (Below layer directory rank) = directory

rank_in : Birth → ℕ
rank_in Here = 0
rank_in (Below layer directory rank) = rank

module _ (trees : Filesystems) (overlay : UpperOverlayValue) (looked : IsLooked trees overlay) (node : NodeRef)
    (node_small : IsSmall node) (some : IsSome (object_shown trees overlay (number_of node))) where
  abbrev number : ℕ
  number = number_of node

  -- the path at which it is
  pub at_its_path : (path : List (List ℕ)) × (number_at trees overlay path ≡ Some number)
  at_its_path = by (path_at trees overlay number) refl some
    where
      by : (o : Option (List (List ℕ))) → path_at trees overlay number ≡ o
          → IsSome (object_shown trees overlay number)
          → (path : List (List ℕ)) × (number_at trees overlay path ≡ Some number)
      by None e s = absurd (true≢false (sym s
          ∙ ap (λ o. is_some (then_some o (shown (layers_of trees overlay.layers.lowers)))) e))
      by (Some path) e s = (
        path,
        ways.found_numbered (real_number trees overlay) (held trees overlay)
            (longest trees overlay.layers.lowers) (plain_world trees) (upper_seen overlay) number path e,
      )

  -- what the layers show there
  pub is_shown : IsSome (shown (layers_of trees overlay.layers.lowers) at_its_path.0)
  is_shown = ⊎_elim (λ a. ap is_some a.is) (λ b. ap is_some b.is)
      (shown_node trees overlay looked at_its_path.0 node node_small at_its_path.1)

  -- it has a real object
  pub real_there : IsSome (real_at overlay node)
  real_there = by (real_at overlay node) refl
    where
      by : (o : Option Object) → real_at overlay node ≡ o → IsSome (real_at overlay node)
      by None e = absurd (true≢false (sym is_shown
          ∙ ap is_some (sym (real_shown_at trees overlay looked node node_small at_its_path.0 at_its_path.1)
          ∙ ap (option_map seen_of) e)))
      by (Some real) e = ap is_some e

  module _ (no_slot : slot_above overlay.nodes.births node ≡ None) where
    abbrev path : List (List ℕ)
    path = at_its_path.0

    abbrev below : IsBelow trees overlay looked path node
    below = ⊎_elim (λ a. none_is_some (exchanged looked.top.directory.filesystem.count a.object)
        (sym no_slot ∙ slot_is_above trees overlay looked path node a)) (λ b. b)
        (shown_node trees overlay looked path node node_small at_its_path.1)

    abbrev f : ℕ
    f = below.lower.directory.filesystem.count

    abbrev tree : Tree ℕ
    tree = (files_at trees f).tree

    abbrev start : ℕ
    start = inode_of below.lower.directory

    is_layer : IsLayer trees below.lower
    is_layer = looked.stands.layers (suc below.layer) below.lower below.at

    its_birth : node.birth ≡ Below below.layer (slot_at trees below.lower (without_last path))
        (rank_at trees below.lower path)
    its_birth = birth_below trees overlay looked path node below

    its_slot : node.slot ≡ exchanged f below.object
    its_slot = ap (λ (n : NodeRef). n.slot) (sym below.node_is)
        ∙ ap (λ o. exchanged f (unwrap_or o 0)) below.leads

    -- it is shown in a layer
    pub is_shown_below : IsSome (shown (layers_of trees overlay.layers.lowers) path)
    is_shown_below = ap is_some below.is

    module _ (layer directory rank : ℕ) (birth : node.birth ≡ Below layer directory rank) where
      same_layer : below.layer ≡ layer
      unfolding place_in
      same_layer = ap place_in (sym its_birth ∙ birth)

      same_directory : slot_at trees below.lower (without_last path) ≡ directory
      unfolding directory_in
      same_directory = ap directory_in (sym its_birth ∙ birth)

      same_rank : rank_at trees below.lower path ≡ rank
      unfolding rank_in
      same_rank = ap rank_in (sym its_birth ∙ birth)

      small : (directory < 18446744073709551616) × (layer < 18446744073709551616)
      small = subst IsSmallBirth birth node_small.birth

      abbrev birthplace : Birthplace trees overlay.layers
      birthplace =
          let within = slice_get_within overlay.layers.lowers (suc below.layer) below.lower below.at in
          let few = looked.stands.few in
          record {
            are = looked.stands.layers;
            few = few;
            place = suc below.layer;
            directory = directory;
            rank = rank;
            slot = node.slot;
            place_small = omega (arith, within, few);
            directory_small = small.0;
            slot_small = node_small.slot;
          }

      object_is : exchanged f node.slot ≡ below.object
      object_is = ap (exchanged f) its_slot ∙ exchanged_back f below.object

      born : IsBorn trees overlay.layers birthplace path below.lower
      born = record {
        layer = below.at;
        leads = below.leads ∙ ap Some (sym object_is);
        named = below.named;
        above = same_directory;
        ranked = same_rank;
        shown_there = below.is ∙ ap (λ n. Some (record { layer = suc below.layer; object = n })) (sym object_is);
      }

      in_number : exchanged f directory ≡ inode_number f directory
      in_number = exchanged_slot f directory small.0

      born_here : IsBornIn trees overlay node directory rank below.lower
      born_here =
          let n = is_named trees overlay.layers birthplace below.lower below.at path born in
          let leads : led tree start n.way ≡ Some (inode_number f directory) = n.leads ∙ ap Some in_number in
          let entry = ap (λ d. Rattle.vt_spec.proofs.Common.entry_at tree d n.name) (sym in_number) ∙ n.entry in
          let is : IsDirectory tree (inode_number f directory) =
          has_entries tree (inode_number f directory) n.name (exchanged f node.slot) entry in
          record {
            way = n.way;
            name = n.name;
            numbered = ap (number_at trees overlay) n.split ∙ at_its_path.1;
            shows = subst (λ p. IsSome (shown (layers_of trees overlay.layers.lowers) p)) (sym n.split) is_shown_below;
            layer = is_layer;
            leads = leads;
            is = is;
            only = λ other e. one_path tree is_layer.tree start other n.way (inode_number f directory) e leads is;
            named = ap (λ d. name_ranked (entries_in (tree.node d)) (exchanged f node.slot) rank) (sym in_number)
                ∙ ap (name_ranked (entries_in (tree.node (exchanged f directory))) (exchanged f node.slot)) n.ranked
                ∙ ranked_is_found n.name (exchanged f node.slot) (entries_in (tree.node (exchanged f directory)))
                (is_layer.tree.in_order (exchanged f directory)) n.entry;
          }

      -- the layer that it names
      pub layer_there : slice_get overlay.layers.lowers (layer + 1) ≡ Some below.lower
      layer_there =
          let same : layer + 1 ≡ suc below.layer = omega (arith, same_layer) in
          ap (slice_get overlay.layers.lowers) same ∙ below.at

      pub is_born_in : (lower : LayerRef) → slice_get overlay.layers.lowers (layer + 1) ≡ Some lower
          → IsBornIn trees overlay node directory rank lower
      is_born_in lower e = subst (IsBornIn trees overlay node directory rank)
          (same_Some below.lower lower (sym layer_there ∙ e)) born_here
