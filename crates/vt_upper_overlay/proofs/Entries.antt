-- What a plain look at a directory finds, told as what the overlay with an upper layer shows there.
use Rattle.std.proofs.Common.{◌≡◌, ◌∙◌, ◌∷◌, ◌++◌, [], ap, arith, Bool, false, IsSome, is_some, List, nat_eq, None, option_map, Option, refl, Some, subst, suc, sym, true, true≢false, unwrap_or, zero, ℕ, slice_get, if◌then◌else◌}
use Rattle.vt_spec.proofs.Common.{Entries, Node, OpenLayer, Overlay, Shown, World, entries_in, entry_named, is_directory_node, is_empty_list, is_root_path, node_shown, none_is_some, parent_in, real_node, same_Some, shown, slice_get_within, then_some, when, without_last, common_steps}
use Rattle.vt_laws_trees.specs.Overlays.MergedTrees.{node_as}
use Rattle.vt_laws_trees.specs.Overlays.TreesSeen.{node_by}
use Rattle.vt_location.specs.declared.births.Birth.{Birth}
use Rattle.vt_location.specs.declared.births.Birth.TheVariants.{Below, Here}
use Rattle.vt_location.specs.declared.locations.NodeRef.{NodeRef}
use Rattle.vt_location.specs.Births.{IsSmallBirth}
use Rattle.vt_location.specs.Locations.{inode_of, number_of}
use Rattle.vt_location.specs.NodeNumbers.{IsSmall}
use Rattle.vt_location.specs.Numbers.{exchanged}
use Rattle.vt_location.proofs.NodeLemmas.{one_to_one}
use Rattle.vt_location.proofs.NumberLemmas.{exchanged_back}
use Rattle.vt_births.specs.Births.{node_above}
use Rattle.vt_births.specs.Kept.{is_kept}
use Rattle.vt_births.proofs.NodesAbove.{born_here}
use Rattle.vt_fs.specs.FilesystemsValue.{Filesystems}
use Rattle.vt_overlay.specs.Alike.{real_lent}
use Rattle.vt_overlay.specs.Merge.LayerValue.{layers_of}
use Rattle.vt_overlay.specs.declared.merge.layers.LayerRef.{LayerRef}
use Rattle.vt_overlay.specs.MergedTree as through
use Rattle.vt_overlay.specs.MergedTree.{birth_at, longest, merged_tree, node_born, plain_world, rank_at, slot_at}
use Rattle.vt_overlay.proofs.BirthsFound.{in_slot}
use Rattle.vt_overlay.proofs.DirectoriesSeen as seen
use Rattle.vt_overlay.proofs.DirectoriesUnder.{no_entries}
use Rattle.vt_overlay.proofs.RootFound.{no_name}
use Rattle.vt_overlay.proofs.TreeFound as plain
use Rattle.vt_overlay.proofs.TreeFound.{IsAt}
use Rattle.vt_upper_overlay.specs.MergedAbove.{directory_path, held, lent, merged_above, number_at, object_lent, path_at, real_number, upper_seen}
use Rattle.vt_upper_overlay.specs.Naming.{only_directory}
use Rattle.vt_upper_overlay.specs.Standing as standing
use Rattle.vt_upper_overlay.specs.UpperValue.{UpperOverlayValue, node_for}
use Rattle.vt_upper_overlay.proofs.Named.{is_naming, same_names}
use Rattle.vt_upper_overlay.proofs.Objects.{real_shown_at, unkept}
use Rattle.vt_upper_overlay.proofs.Shown.{IsLooked, converted, no_number, plain_number, root_shown, small_above, small_born}
use Rattle.vt_upper_overlay.proofs.Ways as ways

abbrev layer_of_birth : Birth → ℕ
layer_of_birth Here = 0
layer_of_birth (Below layer directory rank) = layer

no_list : {A : Type 0} (list : List A) → is_empty_list list ≡ true → list ≡ []
no_list list e = grind (arith, common_steps)

none_filled : {A : Type 0} (o : Option A) → is_some o ≡ false → o ≡ None
none_filled o e = grind (arith, common_steps)

directory_as : (parent : ℕ) (entries : Entries ℕ) (node : Option (Node ℕ))
    → is_directory_node (option_map (node_as parent entries) node) ≡ is_directory_node node
directory_as parent entries object = grind (arith, common_steps)

module _ (trees : Filesystems) (overlay : UpperOverlayValue) (looked : IsLooked trees overlay) where
  abbrev layers : List (OpenLayer ℕ)
  layers = layers_of trees overlay.layers.lowers

  abbrev world : World ℕ
  world = plain_world trees

  abbrev over : Overlay ℕ
  over = upper_seen overlay

  abbrev plain_tree : ℕ → Option (Node ℕ)
  plain_tree = (merged_tree trees overlay.layers).node

  abbrev own_tree : ℕ → Option (Node ℕ)
  own_tree = (merged_above trees overlay).node

  abbrev are : through.AreLayers trees overlay.layers.lowers
  are = looked.stands.layers

  -- where a plain look finds nothing, nothing is shown
  nothing_too : (path : List (List ℕ)) → through.number_at trees overlay.layers path ≡ None
      → number_at trees overlay path ≡ None
  nothing_too path e = by (shown layers path) refl
    where
      by : (o : Option (Shown ℕ)) → shown layers path ≡ o → number_at trees overlay path ≡ None
      by None s = no_number trees overlay looked path s
      by (Some one) s =
          let at = plain.in_layer trees overlay.layers are path one s in
          none_is_some _ (sym e ∙ plain_number trees overlay looked path one.layer one.object at.0 s at.1)

  -- A directory that has one way for both
  module _ (number plain_number_of : ℕ)
      (same : through.directory_path trees overlay.layers plain_number_of ≡ directory_path trees overlay number) where
    abbrev own_way : Option (List (List ℕ))
    own_way = directory_path trees overlay number

    plain_is : (o : Option (List (List ℕ))) → own_way ≡ o
        → o ≡ through.directory_path trees overlay.layers plain_number_of
    plain_is o e = sym (same ∙ e)

    pub plain_is_shown : is_some own_way ≡ true
        → IsSome (through.object_shown trees overlay.layers plain_number_of)
    plain_is_shown some = by own_way refl
      where
        found : (path : List (List ℕ)) → Some path ≡ through.directory_path trees overlay.layers plain_number_of
            → (o : Option (List (List ℕ))) → through.path_at trees overlay.layers plain_number_of ≡ o
            → IsSome (then_some o (shown layers))
        found path e None p = none_is_some path (sym (e ∙ ap (through.only_of_directory trees overlay.layers) p))
        found path e (Some other) p =
            let at = plain.found_is_at trees overlay.layers are plain_number_of other p in
            subst IsSome (sym at.is) refl

        by : (o : Option (List (List ℕ))) → own_way ≡ o
            → IsSome (through.object_shown trees overlay.layers plain_number_of)
        by None e = absurd (true≢false (sym some ∙ ap is_some e))
        by (Some path) e = found path (plain_is (Some path) e) (through.path_at trees overlay.layers plain_number_of) refl

    pub no_entry : (name : List ℕ) → None ≡ entry_named name (entries_in (plain_tree plain_number_of))
        → None ≡ entry_named name (entries_in (own_tree number))
    no_entry name e = by own_way refl
      where
        by : (o : Option (List (List ℕ))) → own_way ≡ o → None ≡ entry_named name (entries_in (own_tree number))
        by None w = ways.no_entry_of (real_number trees overlay) (held trees overlay)
            (longest trees overlay.layers.lowers) world over number name w
        by (Some way) w = sym (nothing_too (way ++ name ∷ [])
            (seen.entry_of trees overlay.layers are plain_number_of way (plain_is (Some way) w) name ∙ sym e))
            ∙ ways.entry_of (real_number trees overlay) (held trees overlay)
            (longest trees overlay.layers.lowers) world over number way w name

    -- an entry leads to a node, at the way and the name
    pub record IsEntry (name : List ℕ) (node : NodeRef) : Type 0 where
      pub path : List (List ℕ)
      pub plainly : through.number_at trees overlay.layers path ≡ Some (number_of node)
      pub is : Some (number_of (node_for overlay node.slot node.birth))
          ≡ entry_named name (entries_in (own_tree number))

    pub entry : (name : List ℕ) (node : NodeRef) → IsSmall node
        → Some (number_of node) ≡ entry_named name (entries_in (plain_tree plain_number_of)) → IsEntry name node
    entry name node small e = by own_way refl
      where
        by : (o : Option (List (List ℕ))) → own_way ≡ o → IsEntry name node
        by None w = none_is_some (number_of node)
            (seen.no_entry_of trees overlay.layers are plain_number_of name (plain_is None w) ∙ sym e)
        by (Some way) w =
            let plainly = seen.entry_of trees overlay.layers are plain_number_of way (plain_is (Some way) w) name ∙ sym e
            in
            record {
              path = way ++ name ∷ [];
              plainly = plainly;
              is = sym (converted trees overlay looked (way ++ name ∷ []) node small plainly)
                  ∙ ways.entry_of (real_number trees overlay) (held trees overlay)
                  (longest trees overlay.layers.lowers) world over number way w name;
            }

    pub same_emptiness : is_empty_list (entries_in (plain_tree plain_number_of))
        ≡ is_empty_list (entries_in (own_tree number))
    same_emptiness = sym (no_entries (plain_tree plain_number_of))
        ∙ ap is_empty_list (same_names trees overlay looked number plain_number_of same)
        ∙ no_entries (own_tree number)

    pub empty_too : entries_in (own_tree number) ≡ [] → entries_in (plain_tree plain_number_of) ≡ []
    empty_too e = no_list (entries_in (plain_tree plain_number_of)) (same_emptiness ∙ ap is_empty_list e)

  -- Parents
  module _ (node : NodeRef) (node_small : IsSmall node) (unkept_node : is_kept overlay.nodes.kept node ≡ false) where
    abbrev number : ℕ
    number = number_of node

    abbrev parent : Option ℕ
    parent = when (is_directory_node (own_tree (number_of node))) (parent_in (number_of node) (own_tree (number_of node)))

    -- what has no way is no directory
    pub no_directory : directory_path trees overlay number ≡ None → is_directory_node (own_tree number) ≡ false
    no_directory e = by (path_at trees overlay number) refl
      where
        there : (path : List (List ℕ)) → path_at trees overlay number ≡ Some path → (b : Bool)
            → is_directory_node (node_shown nat_eq world over path) ≡ b → is_directory_node (own_tree number) ≡ false
        there path p true d = none_is_some path (sym e ∙ ap (only_directory world over) p
            ∙ ap (λ b. if b then Some path else None) d)
        there path p false d = ap (λ o. is_directory_node (node_by (real_number trees overlay) (held trees overlay)
            (longest trees overlay.layers.lowers) world over number o)) p
            ∙ directory_as _ _ (node_shown nat_eq world over path) ∙ d

        by : (o : Option (List (List ℕ))) → path_at trees overlay number ≡ o
            → is_directory_node (own_tree number) ≡ false
        by None p = ap (λ o. is_directory_node (node_by (real_number trees overlay) (held trees overlay)
            (longest trees overlay.layers.lowers) world over number o)) p
            ∙ ap (λ o. is_directory_node (option_map (node_as number []) (then_some o (real_node nat_eq world over))))
            (unkept trees overlay looked node node_small unkept_node)
        by (Some path) p = there path p (is_directory_node (node_shown nat_eq world over path)) refl

    pub no_parent_of_none : directory_path trees overlay number ≡ None → None ≡ parent
    no_parent_of_none e = ap (λ b. when b (parent_in number (own_tree number))) (sym (no_directory e))

    -- what is there is a directory just if it has a way
    pub kind_of_way : standing.is_there trees overlay node ≡ true
        → is_directory_node (own_tree number) ≡ is_some (directory_path trees overlay number)
    kind_of_way there = by (directory_path trees overlay number) refl
      where
        by : (o : Option (List (List ℕ))) → directory_path trees overlay number ≡ o
            → is_directory_node (own_tree number) ≡ is_some (directory_path trees overlay number)
        by None e = no_directory e ∙ sym (ap is_some e)
        by (Some way) e = ways.is_directory (real_number trees overlay) (held trees overlay)
            (longest trees overlay.layers.lowers) world over number way e ∙ sym (ap is_some e)

    module _ (plain_number_of : ℕ)
        (same : through.directory_path trees overlay.layers plain_number_of ≡ directory_path trees overlay number) where
      abbrev plain_parent : Option ℕ
      plain_parent = when (is_directory_node (plain_tree plain_number_of))
          (parent_in plain_number_of (plain_tree plain_number_of))

      -- the parent of a directory that has a way
      is_parent : (way : List (List ℕ)) → directory_path trees overlay number ≡ Some way
          → number_at trees overlay (without_last way) ≡ parent
      is_parent way e = ways.parent_of (real_number trees overlay) (held trees overlay)
          (longest trees overlay.layers.lowers) world over (is_naming trees overlay looked) number way e
          ∙ ap (λ b. when b (parent_in number (own_tree number))) (sym (ways.is_directory (real_number trees overlay)
          (held trees overlay) (longest trees overlay.layers.lowers) world over number way e))

      pub no_parent : None ≡ plain_parent → None ≡ parent
      no_parent e = by (directory_path trees overlay number) refl
        where
          by : (o : Option (List (List ℕ))) → directory_path trees overlay number ≡ o → None ≡ parent
          by None w = no_parent_of_none w
          by (Some way) w = sym (nothing_too (without_last way)
              (seen.parent_of trees overlay.layers are plain_number_of way (sym (same ∙ w)) ∙ sym e)) ∙ is_parent way w

      pub its_parent : (above : NodeRef) → IsSmall above → Some (number_of above) ≡ plain_parent
          → Some (number_of (node_for overlay above.slot above.birth)) ≡ parent
      its_parent above small e = by (directory_path trees overlay number) refl
        where
          by : (o : Option (List (List ℕ))) → directory_path trees overlay number ≡ o
              → Some (number_of (node_for overlay above.slot above.birth)) ≡ parent
          by None w = none_is_some (number_of above)
              (seen.no_parent_of trees overlay.layers are plain_number_of (sym (same ∙ w)) ∙ sym e)
          by (Some way) w = sym (converted trees overlay looked (without_last way) above small
              (seen.parent_of trees overlay.layers are plain_number_of way (sym (same ∙ w)) ∙ sym e)) ∙ is_parent way w

  -- The object that a plain look lends is that of the node.
  layer_born : (n : ℕ) (path : List (List ℕ)) (at : IsAt trees overlay.layers are path n)
      → layer_of_birth (birth_at trees at.place at.lower path) ≡ at.place
  layer_born n path at = by (is_root_path path) refl
    where
      by : (b : Bool) → is_root_path path ≡ b → layer_of_birth (if b then Here
          else Below at.place (slot_at trees at.lower (without_last path)) (rank_at trees at.lower path)) ≡ at.place
      by false r = refl
      by true r = ap (λ (s : Shown ℕ). s.layer) (same_Some (record { layer = 0; object = inode_of looked.top.directory })
          (record { layer = at.place; object = at.object })
          (sym (root_shown trees overlay.layers.lowers looked.top looked.first
          (are 0 looked.top looked.first).directory) ∙ ap (shown layers) (sym (no_name path r)) ∙ at.is))

  born_at : (node : NodeRef) → IsSmall node → (path : List (List ℕ))
      → (at : IsAt trees overlay.layers are path (number_of node))
      → node_born trees overlay.layers.number at.place at.lower path ≡ node
  born_at node small path at =
      let within = slice_get_within overlay.layers.lowers at.place at.lower at.layer in
      let few = looked.stands.few in
      one_to_one (node_born trees overlay.layers.number at.place at.lower path) node
      (small_born trees overlay looked path at.place at.object at.lower (omega (arith, within, few))
      (are at.place at.lower at.layer) at.leads) small at.numbered

  one_object : (node : NodeRef) → IsSmall node → (path other : List (List ℕ))
      → IsAt trees overlay.layers are path (number_of node) → IsAt trees overlay.layers are other (number_of node)
      → shown layers other ≡ shown layers path
  one_object node small path other a b =
      let born = born_at node small other b ∙ sym (born_at node small path a) in
      let place : b.place ≡ a.place = sym (layer_born (number_of node) other b)
      ∙ ap (λ (n : NodeRef). layer_of_birth n.birth) born ∙ layer_born (number_of node) path a in
      let lower : b.lower ≡ a.lower = same_Some b.lower a.lower
      (sym b.layer ∙ ap (slice_get overlay.layers.lowers) place ∙ a.layer) in
      let f = a.lower.directory.filesystem.count in
      let slot : exchanged f b.object ≡ exchanged f a.object =
      ap (λ (l : LayerRef). exchanged l.directory.filesystem.count b.object) (sym lower)
      ∙ sym (in_slot trees b.lower (are b.place b.lower b.layer) other b.object b.leads).1
      ∙ ap (λ (n : NodeRef). n.slot) born
      ∙ (in_slot trees a.lower (are a.place a.lower a.layer) path a.object a.leads).1 in
      let object : b.object ≡ a.object =
      sym (exchanged_back f b.object) ∙ ap (exchanged f) slot ∙ exchanged_back f a.object in
      b.is ∙ (λ i. Some (record { layer = place i; object = object i })) ∙ sym a.is

  plain_object : (node : NodeRef) → IsSmall node → (path : List (List ℕ))
      → through.number_at trees overlay.layers path ≡ Some (number_of node)
      → through.object_shown trees overlay.layers (number_of node) ≡ shown layers path
  plain_object node small path e = by (through.path_at trees overlay.layers (number_of node)) refl
    where
      at : IsAt trees overlay.layers are path (number_of node)
      at = plain.numbered_is_at trees overlay.layers are (number_of node) path e

      by : (o : Option (List (List ℕ))) → through.path_at trees overlay.layers (number_of node) ≡ o
          → through.object_shown trees overlay.layers (number_of node) ≡ shown layers path
      by None p = absurd (plain.at_is_found trees overlay.layers are (number_of node) path at p)
      by (Some other) p = ap (λ o. then_some o (shown layers)) p
          ∙ one_object node small path other at
          (plain.found_is_at trees overlay.layers are (number_of node) other p)

  small_for : (node : NodeRef) → IsSmall node → IsSmall (node_for overlay node.slot node.birth)
  small_for node small = by node.birth small.birth
    where
      above : IsSmall (node_above overlay.nodes.births overlay.layers.number node.slot)
      above = small_above overlay.nodes.births (born_here overlay.layers.number 0) node.slot looked.stands.one_to_one
          looked.small small.slot

      by : (birth : Birth) → IsSmallBirth birth → IsSmall (node_for overlay node.slot birth)
      by Here b = above
      by (Below zero directory rank) b = above
      by (Below (suc layer) directory rank) b = record {
        filesystem = looked.small;
        slot = small.slot;
        birth = (b.0, let less = b.1 in omega (arith, less));
      }

  pub lent_too : (node : NodeRef) → IsSmall node → (path : List (List ℕ)) → through.number_at trees overlay.layers path ≡ Some (number_of node)
      → real_lent trees overlay.layers (number_of node)
      ≡ object_lent trees overlay (node_for overlay node.slot node.birth)
  lent_too node small path e = ap (lent trees overlay) (plain_object node small path e
      ∙ sym (real_shown_at trees overlay looked (node_for overlay node.slot node.birth)
      (small_for node small) path
      (converted trees overlay looked path node small e)))

  -- the root
  pub root_too : (node : NodeRef) → IsSmall node → number_of node ≡ (merged_tree trees overlay.layers).root
      → number_of (node_for overlay node.slot node.birth) ≡ (merged_above trees overlay).root
  root_too node small is =
      let there = plain_number trees overlay looked [] 0 (inode_of looked.top.directory) looked.top
      (root_shown trees overlay.layers.lowers looked.top looked.first (are 0 looked.top looked.first).directory)
      looked.first in
      let numbered : through.number_at trees overlay.layers [] ≡ Some (number_of node) =
      there ∙ ap Some (sym (is ∙ ap (λ o. unwrap_or o 0) there)) in
      sym (ap (λ o. unwrap_or o 0) (converted trees overlay looked [] node small numbered))
