-- The overlay that is left is shown along its layers, and what it keeps is right.
use Rattle.std.proofs.Common.{◌≡◌, ◌∙◌, ◌≤◌, refl, ◌≢◌, inl, inr, ◌⊎◌, sym, ap, subst, arith, ℕ, nat_eq, Bool, true, false, true≢false, cond, not, ◌&&◌, List, [], ◌∷◌, All, length, map, Option, Some, None, is_some}
use Rattle.std.specs.Map.{keys_of}
use Rattle.vt_spec.proofs.Common.{All-cons, All-nil, Among, Filesystem, Fresh, HasName, Layer, ListsNumbers, Permit, Task, World, all_from_among, any_among, any_from_among, entries_in, entry_at, entry_named, filesystem_numbered, holds_of, none_is_some, reached_named}
use Rattle.vt_laws_kept.specs.Counts.{locations_on, only_staying}
use Rattle.vt_laws_kept.specs.Kept.{is_unnamed}
use Rattle.vt_laws_kept.proofs.staying.Applied.{overlay_left, tree_left}
use Rattle.vt_laws_kept.proofs.overlaps.Kept.{path_to}
use Rattle.vt_laws_kept.proofs.staying.Paths.{name_still, named_is_not_unnamed, not_unnamed_stays, root_is_not_unnamed}
use Rattle.vt_laws_trees.specs.Overlays.MergedTrees.{IsMergedTree}
use Rattle.vt_laws_trees.specs.Overlays.TreesSeen.{files_of, path_numbered, real_by, real_seen}
use Rattle.vt_laws_trees.proofs.overlays.merged.Numbers.{overlays_are_merged_trees}
use Rattle.vt_laws_trees.proofs.overlays.seen.SeenTrees.{trees_are_seen}
use Rattle.vt_laws_worlds.proofs.given.left.Permits.{given_permits_leave_every_world}
use Rattle.vt_location.specs.declared.locations.NodeRef.{NodeRef}
use Rattle.vt_location.specs.Locations.{number_of}
use Rattle.vt_location.specs.SameNodes.{same_node}
use Rattle.vt_location.proofs.NodeLemmas.{same_node-itself}
use Rattle.vt_births.specs.Births.{node_of}
use Rattle.vt_births.specs.Kept.{is_kept}
use Rattle.vt_births.specs.declared.upper_nodes.UpperNodes.{UpperNodes}
use Rattle.vt_births.proofs.Nodes.{same_node-is}
use Rattle.vt_fs.proofs.Numbers.{found_by_number, numbers_listed}
use Rattle.vt_fs.specs.FilesystemsValue.{Filesystems, entry_at as entry_of}
use Rattle.vt_overlay.specs.declared.merge.layers.LayerRef.{LayerRef}
use Rattle.vt_overlay.specs.MergedTree.{OverlayValue, layer_seen, longest, plain_world}
use Rattle.vt_upper_overlay.specs.Laws.{IsKeptRight, IsLeftWithoutName, with_objects}
use Rattle.vt_upper_overlay.specs.MergedAbove.{held, merged_above, real_number, upper_seen}
use Rattle.vt_upper_overlay.proofs.Shown.{all_layers}
use Rattle.vt_upper_overlay.proofs.TreesSame.{looks_see}
use Rattle.vt_layered.specs.LayeredTree.{layered_files, layered_objects}
use Rattle.vt_layered.specs.LayeredValue.{Above}
use Rattle.vt_layered.specs.Locations.{CountsLocations}
use Rattle.vt_kept_nodes.specs.Counted.{CountsNodes}
use Rattle.vt_kept_nodes.specs.Forgetting.{is_gone}
use Rattle.vt_kept_nodes.proofs.forgetting.Forgotten.{births_stay_one_to_one, kept_was, still_there}
use Rattle.vt_world.specs.OverlaysKept.Kept.{ShowsLayer}
use Rattle.vt_world.proofs.overlays_kept.events.KeptOverlays.{no_larger}
use Rattle.vt_unnamed.specs.Kept.{unnamed_in, with_its_objects}
use Rattle.vt_unnamed.specs.Left.{LeavesOverlay, LeftOverlaysAreShown, LeftOverlaysCountNodes, LeftOverlaysKeepRight, with_upper_nodes}
use Rattle.vt_unnamed.proofs.leaving.Alike.{merged_alike}
use Rattle.vt_unnamed.proofs.leaving.NodesKept.{unnamed_kept, unnamed_without, without_name}
use Rattle.vt_unnamed.proofs.leaving.NodesLeft.{its, its_left, kept_stays, left, merged, named_left, number, real, stays, then}

-- a plain tree shows itself
module _ (trees : Filesystems) where
  shows_itself : (layer : LayerRef) → ShowsLayer (plain_world trees) trees layer
  shows_itself layer = record {
    tree = ap (λ (filesystem : Filesystem ℕ). filesystem.files.tree)
        (sym (found_by_number trees layer.directory.filesystem.count));
    numbers = ap (λ (filesystem : Filesystem ℕ). length filesystem.files.numbers)
        (sym (found_by_number trees layer.directory.filesystem.count));
  }

  abbrev IsListed : Layer ℕ → Type 0
  IsListed layer = ListsNumbers nat_eq (files_of (plain_world trees) layer)

  listed : (layers : List LayerRef) → All IsListed (map layer_seen layers)
  listed [] = All-nil IsListed
  listed (layer ∷ rest) = All-cons IsListed (layer_seen layer) (map layer_seen rest)
      (subst (ListsNumbers nat_eq) (sym (ap (λ (filesystem : Filesystem ℕ). filesystem.files)
      (found_by_number trees layer.directory.filesystem.count)))
      (numbers_listed (entry_of trees layer.directory.filesystem.count))) (listed rest)

module _ {fresh : Fresh ℕ} {world : World ℕ} {task : Task ℕ} {permit : Permit ℕ} {old new : Filesystems}
    {overlay : OverlayValue} {above : Above} {nodes : UpperNodes}
    (is : LeavesOverlay fresh world task permit old new overlay above nodes) where
  abbrev found : Filesystem ℕ
  found = filesystem_numbered nat_eq (left is) (number is)

  its_overlay : found.overlay ≡ Some (its_left is)
  its_overlay = overlay_left world fresh task permit (number is) (its is) is.kept.in_world is.given is.kept.is is.alone is.there

  merged_left : IsMergedTree (plain_world new) found (with_objects (then is) (its_left is).real)
  merged_left = merged_alike (left is) new (then is) is.after (its_left is).real found
      (overlays_are_merged_trees (left is) (number is) (its_left is)
      (given_permits_leave_every_world world fresh task permit is.kept.in_world is.given) its_overlay)

  tree_shown : found.files.tree ≡ merged_above new (then is)
  tree_shown = looks_see new (then is) found (its_left is).real merged_left (named_left is)

  real_shown : (its_left is).real ≡ layered_objects new overlay (Some (with_upper_nodes nodes above))
  real_shown = (trees_are_seen (real_number new (then is)) (held new (then is)) (plain_world new) found
      (with_objects (then is) (its_left is).real) merged_left (named_left is) (longest new overlay.lowers)
      (subst (All (IsListed new)) (sym (all_layers overlay.lowers)) (listed new overlay.lowers))
      (subst (All (λ (layer : Layer ℕ). length (files_of (plain_world new) layer).numbers ≤ longest new overlay.lowers))
      (sym (all_layers overlay.lowers)) (no_larger (plain_world new) new overlay.lowers (longest new overlay.lowers)
      (omega arith) (all_from_among (ShowsLayer (plain_world new) new) overlay.lowers
      (λ layer m. shows_itself new layer))))).1 ∙ without_objects
    where
      without_objects : real_seen (real_number new (then is)) (held new (then is)) (longest new overlay.lowers)
          (plain_world new) (with_objects (then is) (its_left is).real)
          ≡ layered_objects new overlay (Some (with_upper_nodes nodes above))
      without_objects = λ i. λ inode. by inode (path_numbered (real_number new (then is))
          (longest new overlay.lowers) (plain_world new) (upper_seen (then is)) inode) i
        where
          by : (inode : ℕ) (o : Option (List (List ℕ)))
              → real_by (real_number new (then is)) (held new (then is)) (longest new overlay.lowers)
              (plain_world new) (with_objects (then is) (its_left is).real) inode o
              ≡ real_by (real_number new (then is)) (held new (then is)) (longest new overlay.lowers)
              (plain_world new) (upper_seen (then is)) inode o
          by inode None = refl
          by inode (Some path) = refl

  both_shown : (found.files.tree ≡ (layered_files new overlay (Some (with_upper_nodes nodes above))).tree)
      × (found.overlay ≡ Some (with_its_objects new overlay (Some (with_upper_nodes nodes above))))
  both_shown = (
    tree_shown,
    its_overlay ∙ ap Some (λ i. record (upper_seen (then is)) { real = real_shown i }),
  )

  -- What is kept still

  same : found ≡ only_staying (stays is) (merged is)
  same = tree_left world fresh task permit (number is) (its is) is.kept.in_world is.given is.kept.is is.alone is.there

  -- an inode that stays has its object
  object_stays : (inode : ℕ) → stays is inode ≡ true → (its_left is).real inode ≡ real is inode
  object_stays inode e = ap (λ b. cond b (real is inode) None) e

  -- what has a name had it
  name_was : (inode : ℕ) → HasName found.files.tree inode → HasName (merged is).files.tree inode
  name_was inode has = by (stays is has.0) refl
      (sym (ap (λ (f : Filesystem ℕ). entry_at f.files.tree has.0 has.1) same) ∙ has.2)
    where
      by : (b : Bool) → stays is has.0 ≡ b
          → entry_named has.1 (entries_in (cond b ((merged is).files.tree.node has.0) None)) ≡ Some inode
          → HasName (merged is).files.tree inode
      by true e entry = (has.0, has.1, entry)
      by false e entry = none_is_some inode entry

  -- a node that is not gone stays with its copy
  copy_stays : (slot : ℕ) (node : NodeRef) → node_of nodes.births slot ≡ Some node
      → stays is (number_of node) ≡ true
  copy_stays slot node e = by (is_kept above.nodes.kept node) refl
    where
      was : (node_of above.nodes.births slot ≡ Some node) × (is_gone above.nodes nodes node ≡ false)
      was = still_there above.nodes nodes is.forgets slot node e

      among : is_kept above.nodes.kept node ≡ true → Among node (keys_of above.nodes.kept.by_node)
      among kept =
          let one = any_among (same_node node) (keys_of above.nodes.kept.by_node) kept in
          subst (λ n. Among n (keys_of above.nodes.kept.by_node))
          (sym (same_node-is node one.0 one.2)) one.1

      still : (a b : Bool) → a ≡ true → (a && not b) ≡ false → b ≡ true
      still true true e gone = refl
      still true false e gone = absurd (true≢false gone)
      still false b e gone = absurd (true≢false (sym e))

      named : (b : Bool) → is_unnamed (merged is).files (number_of node) ≡ b → is_kept above.nodes.kept node ≡ false
          → stays is (number_of node) ≡ true
      named false f none = not_unnamed_stays (left is) (merged is) (number_of node) f
      named true f none = absurd (true≢false (sym (unnamed_kept is.kept node (is.kept.right.one_to_one.small slot node was.0)
          (is.kept.right.own slot node was.0) f (ap is_some (is.kept.right.copies slot node was.0))) ∙ none))

      by : (b : Bool) → is_kept above.nodes.kept node ≡ b → stays is (number_of node) ≡ true
      by true kept = sym (kept_stays is node (among kept))
          ∙ still (is_kept above.nodes.kept node) (is_kept nodes.kept node) kept was.1
      by false none = named (is_unnamed (merged is).files (number_of node)) refl none

  kept_right : IsKeptRight (then is) found.files.tree (its_left is).real
  kept_right = record {
    one_to_one = births_stay_one_to_one above.nodes nodes is.forgets is.kept.right.one_to_one;
    own = λ slot node e. is.kept.right.own slot node (still_there above.nodes nodes is.forgets slot node e).0;
    copies = λ slot node e. object_stays (number_of node) (copy_stays slot node e)
        ∙ is.kept.right.copies slot node (still_there above.nodes nodes is.forgets slot node e).0;
    kept = all_from_among (IsLeftWithoutName (then is) found.files.tree (its_left is).real)
        (keys_of nodes.kept.by_node) without;
  }
    where
      without : (node : NodeRef) → Among node (keys_of nodes.kept.by_node)
          → IsLeftWithoutName (then is) found.files.tree (its_left is).real node
      without node m =
          let among = kept_was above.nodes nodes is.forgets node m in
          let was = without_name is.kept node among in
          let stays_still = sym (kept_stays is node among) ∙ any_from_among (same_node node)
          (keys_of nodes.kept.by_node) node m (same_node-itself node) in
          record {
            small = was.small;
            own = record {
              own = was.own.own;
              alone = λ here. is.forgets.nodes node.slot ∙ ap (λ o. cond (holds_of
                  (is_gone above.nodes nodes) o) None o) (was.own.alone here);
            };
            unnamed = λ has. was.unnamed (name_was (number_of node) has);
            other = λ root. was.other (root ∙ ap (λ (f : Filesystem ℕ). f.files.tree.root) same);
            object = ap is_some (object_stays (number_of node) stays_still) ∙ was.object;
          }

  -- What is without a name was so

  is_tree : IsMergedTree (left is) found (its_left is)
  is_tree = overlays_are_merged_trees (left is) (number is) (its_left is)
      (given_permits_leave_every_world world fresh task permit is.kept.in_world is.given) its_overlay

  was_tree : IsMergedTree world (merged is) (its is)
  was_tree = overlays_are_merged_trees world (number is) (its is) is.kept.in_world is.kept.is

  root_same : (merged is).files.tree.root ≡ found.files.tree.root
  root_same = ap (λ (f : Filesystem ℕ). f.files.tree.root) (sym same)

  root_still : (inode : ℕ) → (merged is).files.tree.root ≡ inode → is_unnamed found.files inode ≡ false
  root_still inode root = subst (λ n. is_unnamed found.files n ≡ false) (sym root_same ∙ root)
      (root_is_not_unnamed found.files is_tree.tree is_tree.numbers)

  named_now : (inode : ℕ) → HasName (merged is).files.tree inode → HasName found.files.tree inode
  named_now inode has = subst (λ (f : Filesystem ℕ). HasName f.files.tree inode) (sym same)
      (name_still (merged is) was_tree.tree was_tree.numbers (stays is) (not_unnamed_stays (left is) (merged is))
      inode has)

  not_still : (inode : ℕ) → ((merged is).files.tree.root ≡ inode) ⊎ HasName (merged is).files.tree inode
      → is_unnamed found.files inode ≡ false
  not_still inode (inl root) = root_still inode root
  not_still inode (inr has) =
      named_is_not_unnamed found.files is_tree.tree is_tree.numbers inode (named_now inode has)

  still : (inode : ℕ) → is_unnamed (merged is).files inode ≡ true → is_unnamed found.files inode ≡ true
  still inode e = unnamed_without found.files is_tree.tree inode none other
    where
      none : ¬ (HasName found.files.tree inode)
      none has = true≢false (sym e ∙ named_is_not_unnamed (merged is).files was_tree.tree was_tree.numbers inode
          (name_was inode has))

      other : inode ≢ found.files.tree.root
      other root = true≢false (sym e ∙ subst (λ n. is_unnamed (merged is).files n ≡ false) (root_same ∙ sym root)
          (root_is_not_unnamed (merged is).files was_tree.tree was_tree.numbers))

  unnamed_still : (inode : ℕ) → is_unnamed found.files inode ≡ is_unnamed (merged is).files inode
  unnamed_still inode = by (is_unnamed (merged is).files inode) refl
    where
      by : (b : Bool) → is_unnamed (merged is).files inode ≡ b → is_unnamed found.files inode ≡ b
      by true e = still inode e
      by false e = not_still inode (reached_named (merged is).files.tree inode
          (path_to (merged is).files was_tree.tree inode e))

  nodes_counted : CountsNodes (unnamed_in (left is)) (locations_on (left is)) overlay.number.count overlay.number nodes
  nodes_counted = record {
    own = is.counted_after.own;
    births = is.counted_after.births;
    used = is.counted_after.used;
    counts = subst (λ unnamed. CountsLocations overlay.number unnamed (locations_on (left is) (number is)) nodes)
        (λ i. λ inode. sym (unnamed_still inode) i) is.counted_after.counts;
  }

pub left_overlays_count_nodes : LeftOverlaysCountNodes
left_overlays_count_nodes fresh world task permit old new overlay above nodes is = nodes_counted is

pub left_overlays_are_shown : LeftOverlaysAreShown
left_overlays_are_shown fresh world task permit old new overlay above nodes is = both_shown is

pub left_overlays_keep_right : LeftOverlaysKeepRight
left_overlays_keep_right fresh world task permit old new overlay above nodes is =
    subst (IsKeptRight (then is) (found is).files.tree) (real_shown is) (kept_right is)
