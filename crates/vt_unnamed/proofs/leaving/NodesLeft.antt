-- What an overlay keeps without a name before a permit that leaves it, and then.
use Rattle.std.proofs.Common.{◌≡◌, ◌∙◌, refl, sym, ap, subst, ℕ, suc, zero, nat_eq, nat_lt, eqb-true, eq-eqb, Bool, true, false, true≢false, cond, not, ◌||◌, List, [], ◌∷◌, ◌++◌, Contains, find, Option, Some, None, option_map, option_to_list, is_some, slice_get, unwrap_or, IsSome, ⊎_elim}
use Rattle.std.specs.Map.{keys_of}
use Rattle.vt_spec.proofs.Common.{Among, Filesystem, Fresh, Lower, Overlay, Permit, Real, Task, Upper, World, all_from_among, among-append, among-append_left, among-append_right, among-map, and_true_left, and_true_right, any_among, at_path, any_from_among, contains_from_among, filesystem_numbered, found_among, found_passes, holds_of, layers_of, node_at_path, none_is_some, open_layer, same_Some, same_truth, then_some}
use Rattle.vt_laws_kept.specs.Counts.{locations_on, real_staying, stays_in}
use Rattle.vt_laws_kept.specs.Kept.{is_unnamed}
use Rattle.vt_laws_kept.specs.Staying.{held_on}
use Rattle.vt_laws_kept.proofs.staying.Applied.{layers_are_left}
use Rattle.vt_laws_kept.proofs.staying.Named.{names_are_left}
use Rattle.vt_laws_trees.proofs.layers.layers.LowersWorld.{number_of_filesystem}
use Rattle.vt_laws_trees.specs.Overlays.MergedTrees.{IsNamedBy}
use Rattle.vt_laws_trees.proofs.overlays.seen.Paths.{all_at}
use Rattle.vt_laws_trees.specs.Layers.Layers.Untouched.{IsKept}
use Rattle.vt_laws_worlds.specs.Permits.Left.{left_by}
use Rattle.vt_location.specs.declared.births.Birth.{Birth}
use Rattle.vt_location.specs.declared.births.Birth.TheVariants.{Below, Here}
use Rattle.vt_location.specs.declared.locations.NodeRef.{NodeRef}
use Rattle.vt_location.specs.Locations.{inode_of, number_of}
use Rattle.vt_location.specs.Numbers.{counted, exchanged}
use Rattle.vt_location.specs.SameNodes.{same_node}
use Rattle.vt_location.proofs.NodeLemmas.{one_to_one, same_node-itself, small_parts}
use Rattle.vt_location.proofs.NumberLemmas.{exchanged_back, exchanged_slot}
use Rattle.vt_births.specs.Births.{node_of, slot_above}
use Rattle.vt_births.specs.Kept.{is_kept}
use Rattle.vt_births.specs.declared.upper_nodes.UpperNodes.{UpperNodes}
use Rattle.vt_births.proofs.Nodes.{same_node-is}
use Rattle.vt_fs.specs.FilesystemsValue.{Filesystems}
use Rattle.vt_overlay.specs.Merge.LayerValue.{layer_of}
use Rattle.vt_overlay.specs.declared.merge.layers.LayerRef.{LayerRef}
use Rattle.vt_overlay.specs.MergedTree.{AreLayers, IsLayer, OverlayValue, layer_seen, node_born}
use Rattle.vt_upper_overlay.specs.MergedAbove.{born_object, held, object_by, object_kept, path_born, real_number, upper_count}
use Rattle.vt_upper_overlay.specs.UpperValue.{UpperOverlayValue}
use Rattle.vt_upper_overlay.proofs.Shown.{all_layers}
use Rattle.vt_layered.specs.LayeredTree.{layered_objects}
use Rattle.vt_layered.specs.LayeredValue.{Above, upper_of}
use Rattle.vt_kept_nodes.specs.Forgetting.{is_gone}
use Rattle.vt_kept_nodes.specs.Looked.{is_forgotten, keeping, keeps_number}
use Rattle.vt_kept_nodes.proofs.forgetting.Forgotten.{kept_was}
use Rattle.vt_kept_nodes.proofs.forgetting.LookedAt.{held_are_kept_still, kept_find_their_objects, others_have_their_numbers}
use Rattle.vt_world.specs.OverlaysKept.Kept.{ShowsLayer}
use Rattle.vt_unnamed.specs.Kept.{with_its_objects}
use Rattle.vt_unnamed.specs.Left.{LeavesOverlay}
use Rattle.vt_unnamed.proofs.leaving.NodesKept.{all_small, among_kept, copy_small, held_itself, in_its_world, kept_unnamed, named_before, without_name}
use Rattle.vt_unnamed.proofs.leaving.LayersAlong.{StaysAlong, born_alike}
use Rattle.vt_unnamed.proofs.leaving.PathsBorn.{path_kept}

-- the real object at a path of a lower layer
abbrev lower_at : ℕ → List (List ℕ) → Real ℕ
lower_at layer path = Lower layer path

module _ {fresh : Fresh ℕ} {world : World ℕ} {task : Task ℕ} {permit : Permit ℕ} {old new : Filesystems}
    {overlay : OverlayValue} {above : Above} {nodes : UpperNodes}
    (is : LeavesOverlay fresh world task permit old new overlay above nodes) where
  abbrev pub number : ℕ
  number = counted overlay.number.count

  abbrev pub left : World ℕ
  left = left_by fresh world task permit

  abbrev pub merged : Filesystem ℕ
  merged = filesystem_numbered nat_eq world (counted overlay.number.count)

  abbrev pub before : UpperOverlayValue
  before = upper_of overlay above

  abbrev pub then : UpperOverlayValue
  then = keeping nodes (upper_of overlay above)

  abbrev pub real : ℕ → Option (Real ℕ)
  real = layered_objects old overlay (Some above)

  abbrev pub its : Overlay ℕ
  its = with_its_objects old overlay (Some above)

  abbrev pub stays : ℕ → Bool
  stays = stays_in left merged

  abbrev pub its_left : Overlay ℕ
  its_left = real_staying stays its

  abbrev numbered : ℕ → NodeRef → Bool
  numbered inode node = nat_eq inode (number_of node)

  -- an unnamed inode stays if a location is on it,
  stays_located : (inode : ℕ) → is_unnamed merged.files inode ≡ true
      → stays inode ≡ nat_lt 0 (locations_on left number inode)
  stays_located inode e = ap (λ b. not b || nat_lt 0 (locations_on left merged.number inode)) e
      ∙ ap (λ n. nat_lt 0 (locations_on left n inode)) (number_of_filesystem world number)

  -- and what is kept is kept still if one is on it
  kept_located : (node : NodeRef) → Among node (keys_of above.nodes.kept.by_node)
      → is_kept nodes.kept node ≡ nat_lt 0 (locations_on left number (number_of node))
  kept_located node m =
      let it = without_name is.kept node m in
      is.counted_after.used node
      ∙ ap (nat_lt 0) (is.counted_after.counts node it.small it.own.own
      ∙ ap (λ b. cond b (locations_on left number (number_of node)) 0) (kept_unnamed is.kept node m))

  pub kept_stays : (node : NodeRef) → Among node (keys_of above.nodes.kept.by_node)
      → is_kept nodes.kept node ≡ stays (number_of node)
  kept_stays node m = kept_located node m ∙ sym (stays_located (number_of node) (kept_unnamed is.kept node m))

  -- Layers stay along their paths

  pub stays_along : (place : ℕ) (layer : LayerRef) → slice_get overlay.lowers place ≡ Some layer
      → StaysAlong old new layer
  stays_along place layer at = record {
    leads = λ path. ap (λ l. at_path l path) (sym now_open) ∙ (paths path).0
        ∙ ap (λ l. at_path l path) old_open;
    keeps = λ path. subst (λ now. IsKept (node_at_path (layer_of old layer) path) (node_at_path now path)) now_open
        (subst (λ was. IsKept (node_at_path was path) (node_at_path (open_layer nat_eq left (layer_seen layer)) path))
        old_open (paths path).1);
  }
    where
      opened : (w : World ℕ) (trees : Filesystems) → ShowsLayer w trees layer
          → open_layer nat_eq w (layer_seen layer) ≡ layer_of trees layer
      opened w trees shows = λ i. record { tree = sym shows.tree i; directory = inode_of layer.directory }

      old_open : open_layer nat_eq world (layer_seen layer) ≡ layer_of old layer
      old_open = opened world old (all_at (ShowsLayer world old) overlay.lowers is.kept.shows.all place layer at)

      now_open : open_layer nat_eq left (layer_seen layer) ≡ layer_of new layer
      now_open = opened left new (all_at (ShowsLayer left new) overlay.lowers is.after.all place layer at)

      contained : Contains (layers_of its) (layer_seen layer)
      contained = contains_from_among (layers_of its) (layer_seen layer)
          (⊎_elim (λ upper. among-append_left (option_to_list its.upper ++ option_to_list its.work) its.lowers
          (layer_seen layer) (among-append_left (option_to_list its.upper) (option_to_list its.work) (layer_seen layer)
          upper))
          (λ lower. among-append_right (option_to_list its.upper ++ option_to_list its.work) its.lowers
          (layer_seen layer) lower)
          (among-append (option_to_list its.upper) its.lowers (layer_seen layer)
          (subst (Among (layer_seen layer)) (sym (all_layers overlay.lowers))
          (among-map layer_seen overlay.lowers layer (among_at overlay.lowers place at)))))
        where
          among_at : (layers : List LayerRef) (k : ℕ) → slice_get layers k ≡ Some layer → Among layer layers
          among_at layers k e = all_at (λ one. Among one layers) layers
              (all_from_among (λ one. Among one layers) layers (λ one m. m)) k layer e

      paths : (path : List (List ℕ))
          → (at_path (open_layer nat_eq left (layer_seen layer)) path
          ≡ at_path (open_layer nat_eq world (layer_seen layer)) path)
          × IsKept (node_at_path (open_layer nat_eq world (layer_seen layer)) path)
          (node_at_path (open_layer nat_eq left (layer_seen layer)) path)
      paths = (layers_are_left world fresh task permit number its is.kept.in_world is.given is.kept.is is.alone is.there).paths
          (layer_seen layer) contained

  -- What is left has the numbers that it had

  real_was : (inode : ℕ) (object : Real ℕ) → its_left.real inode ≡ Some object
      → (real inode ≡ Some object) × (stays inode ≡ true)
  real_was inode object e = by (stays inode) e
    where
      by : (b : Bool) → cond b (real inode) None ≡ Some object → (real inode ≡ Some object) × (b ≡ true)
      by true some = (some, refl)
      by false some = none_is_some object some

  not_forgotten : (inode object : ℕ) → its_left.real inode ≡ Some (Upper object)
      → is_forgotten before nodes (Upper object) ≡ false
  not_forgotten inode object e = by (node_of above.nodes.births (exchanged (upper_count before) object)) refl
    where
      was : (real inode ≡ Some (Upper object)) × (stays inode ≡ true)
      was = real_was inode (Upper object) e

      gone : (node : NodeRef) → node_of above.nodes.births (exchanged (upper_count before) object) ≡ Some node → (b : Bool)
          → is_gone above.nodes nodes node ≡ b → b ≡ false
      gone node f false g = refl
      gone node f true g =
          let small = copy_small is.kept (exchanged (upper_count before) object) node f in
          let has = is.kept.right.copies (exchanged (upper_count before) object) node f
          ∙ ap (λ n. Some (Upper n)) (sym (exchanged_slot (upper_count before) (exchanged (upper_count before) object) small) ∙ exchanged_back (upper_count before) object) in
          let same : inode ≡ number_of node = (in_its_world is.kept).merged.one_to_one inode (number_of node) (ap is_some was.0)
          (was.0 ∙ sym has) in
          let m = among_kept is.kept node (and_true_left _ _ g) in
          absurd (true≢false (sym was.1 ∙ ap stays same ∙ sym (kept_stays node m)
          ∙ not_true (is_kept nodes.kept node) (and_true_right (is_kept above.nodes.kept node) _ g)))
        where
          not_true : (b : Bool) → not b ≡ true → b ≡ false
          not_true true n = absurd (true≢false (sym n))
          not_true false n = refl

      by : (o : Option NodeRef) → node_of above.nodes.births (exchanged (upper_count before) object) ≡ o
          → holds_of (is_gone above.nodes nodes) o ≡ false
      by None f = refl
      by (Some node) f = gone node f (is_gone above.nodes nodes node) refl

  number_left : (inode : ℕ) (object : Real ℕ) → its_left.real inode ≡ Some object
      → real_number new then object ≡ real_number old before object
  number_left inode (Upper object) e =
      others_have_their_numbers old before nodes is.forgets (Upper object) (not_forgotten inode object e)
  number_left inode (Lower layer path) e = by (slice_get overlay.lowers (suc layer)) refl
    where
      by : (o : Option LayerRef) → slice_get overlay.lowers (suc layer) ≡ o
          → unwrap_or (option_map (λ lower. number_of (node_born new overlay.number layer lower path)) o) 0
          ≡ unwrap_or (option_map (λ lower. number_of (node_born old overlay.number layer lower path)) o) 0
      by None at = refl
      by (Some lower) at =
          ap number_of (born_alike old new lower (stays_along (suc layer) lower at) overlay.number layer path)

  -- and so what is held

  one_layer : (trees : Filesystems) → AreLayers trees overlay.lowers → (place : ℕ) (layer : LayerRef)
      → slice_get overlay.lowers place ≡ Some layer → AreLayers trees (layer ∷ [])
  one_layer trees are place layer at zero_place one e = by zero_place e
    where
      by : (k : ℕ) → slice_get (layer ∷ []) k ≡ Some one → IsLayer trees one
      by zero f = subst (IsLayer trees)
          (same_Some layer one f) (are place layer at)
      by (suc k) f = none_is_some one f

  object_left : (node : NodeRef) → Among node (keys_of above.nodes.kept.by_node) → is_kept nodes.kept node ≡ true
      → IsSome (object_kept old then node) → object_kept new then node ≡ object_kept old then node
  object_left node m kept some = by (slot_above nodes.births node) refl some
    where
      in_layer : (layer : ℕ) (lower : LayerRef) → slice_get overlay.lowers (suc layer) ≡ Some lower
          → (o : Option (List (List ℕ))) → path_born old then node layer lower ≡ o
          → IsSome (option_map (lower_at layer) o)
          → path_born new then node layer lower ≡ o
      in_layer layer lower at None p there = absurd (true≢false (sym there))
      in_layer layer lower at (Some path) p there =
          path_kept lower overlay.number node (small_parts node (without_name is.kept node m).small) layer old new
          (one_layer old is.kept.shows.are (suc layer) lower at) (one_layer new is.after.are (suc layer) lower at)
          (stays_along (suc layer) lower at) path p

      at_layer : (layer : ℕ) (o : Option LayerRef) → slice_get overlay.lowers (suc layer) ≡ o
          → IsSome (then_some o (λ lower. option_map (lower_at layer)
          (path_born old then node layer lower)))
          → then_some o (λ lower. option_map (lower_at layer) (path_born new then node layer lower))
          ≡ then_some o (λ lower. option_map (lower_at layer) (path_born old then node layer lower))
      at_layer layer None at there = refl
      at_layer layer (Some lower) at there = ap (option_map (lower_at layer))
          (in_layer layer lower at (path_born old then node layer lower) refl there)

      born : (birth : Birth) → IsSome (born_object old then node birth)
          → born_object new then node birth ≡ born_object old then node birth
      born Here there = refl
      born (Below layer directory rank) there = at_layer layer (slice_get overlay.lowers (suc layer)) refl there

      by : (o : Option ℕ) → slot_above nodes.births node ≡ o → IsSome (object_by old then node o)
          → object_by new then node o ≡ object_by old then node o
      by None s there = born node.birth there
      by (Some slot) s there = refl

  held_left : (inode : ℕ) → held new then inode ≡ held_on left number (held old before) inode
  held_left inode = over_trees (find (numbered inode) (keys_of nodes.kept.by_node)) refl
      ∙ held_are_kept_still old before nodes is.forgets (all_small is.kept) inode
      ∙ by_locations (find (numbered inode) (keys_of above.nodes.kept.by_node)) refl
    where
      was_kept : (node : NodeRef) → Among node (keys_of nodes.kept.by_node)
          → Among node (keys_of above.nodes.kept.by_node)
      was_kept = kept_was above.nodes nodes is.forgets

      -- what is kept still has an object
      there : (node : NodeRef) → Among node (keys_of nodes.kept.by_node) → IsSome (object_kept old then node)
      there node m =
          let it = without_name is.kept node (was_kept node m) in
          ap is_some (kept_find_their_objects old before nodes is.forgets node
          (any_from_among (same_node node) (keys_of nodes.kept.by_node) node m (same_node-itself node))
          ∙ sym (held_itself is.kept node (was_kept node m))
          ∙ sym ((named_before is.kept).unnamed (number_of node) it.unnamed it.other)) ∙ it.object

      over_trees : (o : Option NodeRef) → find (numbered inode) (keys_of nodes.kept.by_node) ≡ o
          → then_some o (object_kept new then) ≡ then_some o (object_kept old then)
      over_trees None e = refl
      over_trees (Some node) e =
          let m = found_among (numbered inode) (keys_of nodes.kept.by_node) node e in
          object_left node (was_kept node m)
          (any_from_among (same_node node) (keys_of nodes.kept.by_node) node m (same_node-itself node)) (there node m)

      -- a node of this number is kept still, just if the one that was kept is
      kept_numbered : (node : NodeRef) → find (numbered inode) (keys_of above.nodes.kept.by_node) ≡ Some node
          → keeps_number nodes inode ≡ is_kept nodes.kept node
      kept_numbered node e = same_truth (keeps_number nodes inode) (is_kept nodes.kept node)
          (λ some.
          let one = any_among (numbered inode) (keys_of nodes.kept.by_node) some in
          let same = one_to_one one.0 node (small_parts one.0 (without_name is.kept one.0 (was_kept one.0 one.1)).small)
          (small_parts node (without_name is.kept node m).small)
          (sym (eqb-true inode (number_of one.0) one.2) ∙ its_number) in
          any_from_among (same_node node) (keys_of nodes.kept.by_node) one.0 one.1
          (ap (same_node node) same ∙ same_node-itself node))
          (λ kept.
          let one = any_among (same_node node) (keys_of nodes.kept.by_node) kept in
          any_from_among (numbered inode) (keys_of nodes.kept.by_node) one.0 one.1
          (eq-eqb inode (number_of one.0) (its_number ∙ ap number_of (same_node-is node one.0 one.2))))
        where
          m : Among node (keys_of above.nodes.kept.by_node)
          m = found_among (numbered inode) (keys_of above.nodes.kept.by_node) node e

          its_number : inode ≡ number_of node
          its_number = eqb-true inode (number_of node)
              (found_passes (numbered inode) (keys_of above.nodes.kept.by_node) node e)

      by_locations : (o : Option NodeRef) → find (numbered inode) (keys_of above.nodes.kept.by_node) ≡ o
          → cond (keeps_number nodes inode) (then_some o (object_kept old before)) None
          ≡ cond (nat_lt 0 (locations_on left number inode)) (then_some o (object_kept old before)) None
      by_locations None e = both (keeps_number nodes inode) (nat_lt 0 (locations_on left number inode))
        where
          same_of : (b : Bool) (o : Option (Real ℕ)) → cond b o o ≡ o
          same_of true o = refl
          same_of false o = refl

          both : (a b : Bool) → cond a (then_some {A = NodeRef} None (object_kept old before)) None
              ≡ cond b (then_some {A = NodeRef} None (object_kept old before)) None
          both a b = same_of a None ∙ sym (same_of b None)
      by_locations (Some node) e =
          let m = found_among (numbered inode) (keys_of above.nodes.kept.by_node) node e in
          let same = eqb-true inode (number_of node)
          (found_passes (numbered inode) (keys_of above.nodes.kept.by_node) node e) in
          ap (λ b. cond b (object_kept old before node) None) (kept_numbered node e ∙ kept_located node m
          ∙ ap (λ n. nat_lt 0 (locations_on left number n)) (sym same))

  -- So it is named by what it keeps then.
  pub named_left : IsNamedBy (real_number new then) (held new then) (filesystem_numbered nat_eq left number) its_left
  named_left =
      let kept = names_are_left world fresh task permit number its is.kept.in_world is.given is.kept.is is.alone is.there
      (real_number old before) (held old before) (named_before is.kept) in
      record {
        numbered = λ inode object e. kept.numbered inode object e ∙ sym (number_left inode object e);
        unnamed = λ inode none other. kept.unnamed inode none other ∙ sym (held_left inode);
      }
