-- The node of the entry that decides under a name: its number, and its real object.
use Rattle.std.proofs.Common.{◌≡◌, ◌≢◌, ◌∙◌, ◌∷◌, ◌++◌, ◌<◌, ◌≤◌, [], arith, ap, false, length, length-append, List, None, option_map, Option, Some, subst, sym, true, ℕ, if◌then◌else◌, is_some, not}
use Rattle.vt_spec.proofs.Common.{Node, at_path, entries_in, entry_at, is_directory_node, is_kind_in, led-append, same_Some, shown, slice_get_within, when, common_steps}
use Rattle.vt_spec.specs.declared.attributes.Kind.TheVariants.{White}
use Rattle.vt_laws_trees.proofs.layers.layers.ShownDirectories.{led_is_there}
use Rattle.vt_laws_trees.proofs.layers.layers.ShownPaths.{last_of_longer}
use Rattle.vt_laws_trees.proofs.layers.layers.UpperShown.{without_last_of_longer}
use Rattle.vt_location.proofs.NumberLemmas.{exchanged_back}
use Rattle.vt_location.specs.declared.births.Birth.{Birth}
use Rattle.vt_location.specs.declared.births.Birth.TheVariants.{Below}
use Rattle.vt_location.specs.declared.numbers.FilesystemId.{FilesystemId}
use Rattle.vt_location.specs.Locations.{inode_of, number_of}
use Rattle.vt_location.specs.Numbers.{exchanged}
use Rattle.vt_fs.specs.FilesystemsValue.{Filesystems, files_at, node_seen}
use Rattle.vt_overlay.specs.Merge.EntryValue.{IsFirstEntry}
use Rattle.vt_overlay.specs.Merge.LayerValue.{layer_of}
use Rattle.vt_overlay.specs.declared.merge.layers.LayerEntry.{LayerEntry}
use Rattle.vt_overlay.specs.declared.merge.layers.LayerRef.{LayerRef}
use Rattle.vt_node.specs.Ranks.{rank_among}
use Rattle.vt_overlay.specs.Alike.{real_lent}
use Rattle.vt_overlay.specs.MergedTree.{AreLayers, IsLayer, OverlayValue, birth_at, born_below, number_at}
use Rattle.vt_overlay.proofs.BirthsFound.{Birthplace, in_slot}
use Rattle.vt_overlay.proofs.NodesShown.{below_birth, no_number, node_is}
use Rattle.vt_overlay.proofs.ObjectsAlike.{some_lent}
use Rattle.vt_overlay.proofs.ObjectsPlaced.{numbered_object}
use Rattle.vt_overlay.proofs.TreeFound.{layers}

module _ (trees : Filesystems) (overlay : OverlayValue) (are : AreLayers trees overlay.lowers)
    (few : length overlay.lowers ≤ 129) (path : List (List ℕ)) (name : List ℕ) (found : LayerEntry)
    (first : IsFirstEntry trees overlay.lowers path name found) where
  abbrev longer : List (List ℕ)
  longer = path ++ name ∷ []

  abbrev lower : LayerRef
  lower = first.above.lower

  abbrev f : ℕ
  f = lower.directory.filesystem.count

  abbrev object : ℕ
  object = inode_of found.object

  abbrev own_node : Option (Node ℕ)
  own_node = (files_at trees found.object.filesystem.count).tree.node object

  is_layer : IsLayer trees lower
  is_layer = are found.above.layer lower first.above.layer

  beside : found.object.filesystem ≡ lower.directory.filesystem
  beside = first.entry.filesystem ∙ first.above.filesystem

  leads : at_path (layer_of trees lower) longer ≡ Some object
  leads =
      cc (led-append (layer_of trees lower).tree (inode_of lower.directory) path name (inode_of
      found.above.directory) object first.above.leads (ap (λ (id : FilesystemId). entry_at (files_at trees
      id.count).tree (inode_of found.above.directory) name) (sym first.above.filesystem) ∙ first.entry.leads))

  -- it leads to something
  pub object_is_there : is_some own_node ≡ true
  object_is_there = ap (λ (id : FilesystemId). is_some ((files_at trees id.count).tree.node object)) beside
      ∙ led_is_there (layer_of trees lower) is_layer.tree is_layer.directory longer object leads

  shown_if : shown (layers trees overlay are) longer
      ≡ when (not (is_kind_in White own_node)) (record { layer = found.above.layer; object = object })
  shown_if = cc (first.shows, first.entry.filesystem)

  -- to a whiteout, and nothing is shown
  pub whiteout_shows_nothing : is_kind_in White own_node ≡ true → None ≡ number_at trees overlay longer
  whiteout_shows_nothing white = sym (no_number trees overlay are longer
      (shown_if ∙ ap (λ b. when (not b) (record { layer = found.above.layer; object = object })) white))

  module _ (white : is_kind_in White own_node ≡ false) (rank : ℕ) (ranked : rank ≡ (if is_directory_node own_node then 0
      else rank_among (entries_in ((files_at trees found.above.directory.filesystem.count).tree.node
      (inode_of found.above.directory))) name object))
      (slot : exchanged found.object.filesystem.count object ≡ found.object.slot)
      (above_slot : exchanged found.above.directory.filesystem.count (inode_of found.above.directory)
      ≡ found.above.directory.slot) where
    abbrev birth : Birth
    birth = Below found.above.layer found.above.directory.slot rank

    abbrev number : ℕ
    number = number_of (born_below overlay.number found.above.layer found.above.directory.slot rank found.object.slot)

    shows : shown (layers trees overlay are) longer ≡ Some (record { layer = found.above.layer; object = object })
    shows = shown_if ∙ ap (λ b. when (not b) (record { layer = found.above.layer; object = object })) white

    own_slot : exchanged f object ≡ found.object.slot
    own_slot = ap (λ (id : FilesystemId). exchanged id.count object) (sym beside) ∙ slot

    own_above_slot : exchanged f (inode_of found.above.directory) ≡ found.above.directory.slot
    own_above_slot = cc (first.above.filesystem, above_slot)

    own_rank : rank ≡ (if is_directory_node ((files_at trees f).tree.node object) then 0
        else rank_among (entries_in ((files_at trees f).tree.node (inode_of found.above.directory))) name object)
    own_rank = grind (arith, common_steps)

    some_names : length longer ≢ 0
    some_names none = let many = length-append path (name ∷ []) in absurd (omega (arith, many, none))

    birth_is : birth ≡ birth_at trees found.above.layer lower longer
    birth_is = same_Some birth (birth_at trees found.above.layer lower longer)
        (below_birth trees overlay are longer found.above.layer object lower shows first.above.layer some_names
        (inode_of found.above.directory) found.above.directory.slot rank name
        (ap (at_path (layer_of trees lower)) (without_last_of_longer path name) ∙ first.above.leads)
        own_above_slot (last_of_longer path name []) own_rank)

    pub is_numbered : Some number ≡ number_at trees overlay longer
    is_numbered =
        node_is trees overlay are longer found.above.layer object lower shows first.above.layer birth found.object.slot
        birth_is own_slot

    birthplace : Birthplace trees overlay
    birthplace =
        let within = slice_get_within overlay.lowers found.above.layer lower first.above.layer in
        let low = in_slot trees lower is_layer longer object leads in
        let high = in_slot trees lower is_layer path (inode_of found.above.directory) first.above.leads in
        record {
          are = are;
          few = few;
          place = found.above.layer;
          directory = found.above.directory.slot;
          rank = rank;
          slot = found.object.slot;
          place_small = omega (arith, within, few);
          directory_small = subst (λ n. n < 18446744073709551616) (high.1 ∙ own_above_slot) high.0;
          slot_small = subst (λ n. n < 18446744073709551616) (low.1 ∙ own_slot) low.0;
        }

    pub is_lent : (node : Option (Node ℕ))
        → option_map (node_seen found.object.filesystem.count) node ≡ own_node → node ≡ real_lent trees overlay number
    unfolding birthplace
    is_lent node seen = some_lent trees overlay are number (record { layer = found.above.layer; inode = found.object })
        (ap (λ n. Some (record { layer = found.above.layer; object = n }))
        (sym (exchanged_back f object) ∙ ap (exchanged f) own_slot)
        ∙ sym (numbered_object trees overlay birthplace lower first.above.layer longer (sym is_numbered)))
        (ap (option_map (λ (layer : LayerRef). layer.directory.filesystem)) first.above.layer ∙ ap Some (sym beside))
        node seen
