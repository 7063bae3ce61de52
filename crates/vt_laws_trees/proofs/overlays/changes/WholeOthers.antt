-- Every other overlay of a world, after a change through one.
use Rattle.std.proofs.Common.{arith, ◌≡◌, ◌≢◌, refl, sym, ap, subst, ◌∙◌, true≢false, eqb-true, eq-eqb, ⊎_elim, inl, inr, ℕ, nat_eq, Bool, true, false, map, List, [], ◌∷◌, ◌++◌, Option, Some, None, is_some, slice_get, option_map, option_to_list}
use Rattle.vt_spec.proofs.Common.{Call, Change, Filesystem, Fresh, IsMerged, IsWorld, Layer, Location, Lower, OpenLayer, Overlay, Real, SameObject, Shown, Task, Upper, World, among-append_left, among-append_right, at_path, call_outcome, common_steps, files_at, filesystem_at, filesystem_numbered, holds_of, is_plain_layer, is_there, layer_node, lies_or_counts_under, mount_at, node_at_path, none_is_some, number_at_path, open_layer, real_node, same_Some, shown, shown_layers, slice_get-map, task_called, then_some, upper_and_work, view_of, with_change}
use Rattle.vt_spec.proofs.Lists
use Rattle.vt_laws_trees.specs.Layers.Layers.Locked.{AreNoInodes, GoesThrough, LeadsAsBefore}
use Rattle.vt_laws_trees.specs.Layers.Layers.Mounted.{IsAlike}
use Rattle.vt_laws_trees.specs.Layers.Layers.Untouched.{IsKept, changes_no_mount}
use Rattle.vt_laws_trees.specs.Layers.Layers.Upper.{IsUpperObject, SpeaksOfWhatIsThere}
use Rattle.vt_laws_trees.specs.Layers.Layers.Views.{AllLeadAlike}
use Rattle.vt_laws_trees.proofs.layers.locked.Apart.{layer_among, layer_plain, no_lower, no_other, no_overlay_in, object_counts}
use Rattle.vt_laws_trees.proofs.layers.locked.Paths.{leads_as_before, lower_paths_are_locked, no_new, other_paths_stay}
use Rattle.vt_laws_trees.proofs.layers.layers.LowersKept.{kept_same}
use Rattle.vt_laws_trees.proofs.layers.layers.LowersWorld.{others_elsewhere}
use Rattle.vt_laws_trees.proofs.layers.layers.ShownAtPath.{computed}
use Rattle.vt_laws_trees.proofs.layers.views.Fronts.{shown_by_views}
use Rattle.vt_laws_trees.proofs.layers.views.Names.{alike_kept, alike_same}
use Rattle.vt_laws_trees.proofs.layers.layers.UpperWorld.{overlay_merges, upper_filesystem_keeps}
use Rattle.vt_laws_trees.specs.Overlays.WholeChanges.{CallsKeepOtherOverlays, OtherOverlaysStayMerged}
use Rattle.vt_laws_trees.proofs.overlays.steps.WholeGrown.{alike_objects}
use Rattle.vt_laws_trees.proofs.trees.Lists.{nth_among}
use Rattle.vt_laws_trees.specs.Trees.Settling.{inode_in}

-- An overlay whose layers lead as they did, and whose upper objects are as they were
module _ (world later : World ℕ) (filesystem : Filesystem ℕ) (other : Overlay ℕ)
    (leads : (layer : Layer ℕ) → Lists.Among layer (shown_layers other) → LeadsAsBefore world later layer)
    (own : (layer : Layer ℕ) (object : ℕ) → other.upper ≡ Some layer → IsUpperObject other object
    → IsKept (inode_in world layer.filesystem object) (inode_in later layer.filesystem object)) where
  abbrev one : Layer ℕ → OpenLayer ℕ
  one = open_layer nat_eq world

  abbrev two : Layer ℕ → OpenLayer ℕ
  two = open_layer nat_eq later

  all_alike : (layers : List (Layer ℕ))
      → ((layer : Layer ℕ) → Lists.Among layer layers → LeadsAsBefore world later layer)
      → AllLeadAlike (map view_of (map one layers)) (map view_of (map two layers))
  all_alike [] alike = tt
  all_alike (layer ∷ layers) alike = (
    record {
      leads = λ path. (alike layer (inl refl) path).0;
      inodes = λ path. alike_kept _ _ (alike layer (inl refl) path).1;
    },
    all_alike layers (λ l m. alike l (inr m)),
  )

  shown_same : (path : List (List ℕ))
      → shown (map two (shown_layers other)) path ≡ shown (map one (shown_layers other)) path
  shown_same path = shown_by_views (map view_of (map one (shown_layers other)))
      (map view_of (map two (shown_layers other))) (all_alike (shown_layers other) leads) path

  node_alike : (path : List (List ℕ)) (seen : Shown ℕ) → shown (map one (shown_layers other)) path ≡ Some seen
      → IsAlike (layer_node (map one (shown_layers other)) seen) (layer_node (map two (shown_layers other)) seen)
  node_alike path seen e =
      let is = (computed (map one (shown_layers other)) path seen).0 e in
      subst (λ x. IsAlike (then_some x (λ l. l.tree.node seen.object))
      (then_some (slice_get (map two (shown_layers other)) seen.layer) (λ l. l.tree.node seen.object)))
      (sym (slice_get-map one (shown_layers other) seen.layer)) (subst (λ x. IsAlike
      (then_some (option_map one (slice_get (shown_layers other) seen.layer)) (λ l. l.tree.node seen.object))
      (then_some x (λ l. l.tree.node seen.object))) (sym (slice_get-map two (shown_layers other) seen.layer))
      (by _ refl (λ layer f. ap (λ l. at_path l path) (same_Some layer is.has_uncut.0.0
      (sym f ∙ sym (slice_get-map one (shown_layers other) seen.layer) ∙ is.has_uncut.0.1)) ∙ is.has_uncut.0.2)))
    where
      by : (x : Option (Layer ℕ)) → slice_get (shown_layers other) seen.layer ≡ x
          → ((layer : OpenLayer ℕ) → option_map one x ≡ Some layer → at_path layer path ≡ Some seen.object)
          → IsAlike (then_some (option_map one x) (λ l. l.tree.node seen.object))
          (then_some (option_map two x) (λ l. l.tree.node seen.object))
      by None s at = alike_same None None refl
      by (Some layer) s at =
          let same = leads layer (nth_among (shown_layers other) seen.layer layer s) path in
          let here = at (one layer) refl in
          subst (λ o. IsAlike (then_some o (one layer).tree.node) ((two layer).tree.node seen.object)) here
          (subst (λ o. IsAlike (node_at_path (one layer) path) (then_some o (two layer).tree.node)) (same.0 ∙ here)
          (alike_kept _ _ same.1))

  behind_alike : (number : ℕ) (r : Option (Real ℕ)) → other.real number ≡ r
      → IsAlike (then_some r (real_node nat_eq world other)) (then_some r (real_node nat_eq later other))
  behind_alike number None e = alike_same None None refl
  behind_alike number (Some (Upper object)) e = grind (arith, common_steps, alike_same, alike_kept, own)
  behind_alike number (Some (Lower k path)) e =
      grind (arith, common_steps, alike_same, alike_kept, leads, among-append_right, nth_among)

  pub stays_merged : IsMerged nat_eq world filesystem other → IsMerged nat_eq later filesystem other
  stays_merged is = record {
    shows = λ path. subst (λ o. SameObject (then_some (number_at_path filesystem.files path) filesystem.files.tree.node)
        (then_some o (layer_node (map two (shown_layers other))))) (sym (shown_same path))
        (by path (shown (map one (shown_layers other)) path) refl (is.shows path));
    names = λ path number e. cc (is.names path number e, shown_same path);
    real_objects = λ number. alike_objects (filesystem.files.tree.node number) _ (filesystem.files.tree.node number) _
        (is.real_objects number) (alike_same _ _ refl) (behind_alike number (other.real number) refl);
    real_there = is.real_there;
    no_whiteout = is.no_whiteout;
    no_mark = is.no_mark;
    upper_there = λ number object e. there number object e other.upper refl (is.upper_there number object e);
    one_to_one = is.one_to_one;
  }
    where
      by : (path : List (List ℕ)) (o : Option (Shown ℕ)) → shown (map one (shown_layers other)) path ≡ o
          → SameObject (then_some (number_at_path filesystem.files path) filesystem.files.tree.node)
          (then_some o (layer_node (map one (shown_layers other))))
          → SameObject (then_some (number_at_path filesystem.files path) filesystem.files.tree.node)
          (then_some o (layer_node (map two (shown_layers other))))
      by path None e same = same
      by path (Some seen) e same = alike_objects _ _ _ _ same (alike_same _ _ refl) (node_alike path seen e)

      there : (number object : ℕ) → other.real number ≡ Some (Upper object) → (x : Option (Layer ℕ)) → other.upper ≡ x
          → holds_of (λ layer. is_there nat_eq world layer.filesystem object) x ≡ true
          → holds_of (λ layer. is_there nat_eq later layer.filesystem object) x ≡ true
      there number object e None u h = h
      there number object e (Some layer) u h = (own layer object u (number, e)).there ∙ h

-- A change keeps what lies under a layer that has none of its objects
module _ (fresh : Fresh ℕ) (world : World ℕ) (location : Location ℕ) (change : Change ℕ) (overlay : Overlay ℕ)
    (upper : Layer ℕ) (conditions : IsWorld nat_eq world)
    (is : (filesystem_at nat_eq world location).overlay ≡ Some overlay) (has : overlay.upper ≡ Some upper)
    (none : (filesystem : ℕ) → AreNoInodes fresh world filesystem)
    (speaks : SpeaksOfWhatIsThere (files_at nat_eq world location) change) where
  abbrev later : World ℕ
  later = with_change nat_eq fresh world location change

  pub inode_kept : (layer : Layer ℕ) → is_plain_layer nat_eq world layer ≡ true → (inode : ℕ)
      → is_some (inode_in world layer.filesystem inode) ≡ true
      → (upper.filesystem ≡ layer.filesystem → ¬ (IsUpperObject overlay inode))
      → IsKept (inode_in world layer.filesystem inode) (inode_in later layer.filesystem inode)
  inode_kept layer plain inode there apart = by (nat_eq layer.filesystem upper.filesystem) refl
    where
      by : (b : Bool) → nat_eq layer.filesystem upper.filesystem ≡ b
          → IsKept (inode_in world layer.filesystem inode) (inode_in later layer.filesystem inode)
      by true e =
          let same = eqb-true layer.filesystem upper.filesystem e in
          subst (λ n. IsKept (inode_in world n inode) (inode_in later n inode)) (sym same)
          (upper_filesystem_keeps fresh world location change overlay upper inode conditions is has speaks
          (no_new fresh world upper.filesystem inode (none upper.filesystem)
          (subst (λ n. is_some (inode_in world n inode) ≡ true) same there)) (apart (sym same)))
      by false e = kept_same (inode_in world layer.filesystem inode) _ (ap (λ f. f.files.tree.node inode)
          (others_elsewhere fresh world location change layer.filesystem
          (λ s. none_is_some overlay (cc (no_overlay_in world conditions layer plain)))
          (λ o u f g s. true≢false (sym (eq-eqb layer.filesystem upper.filesystem
          (s ∙ ap (λ l. l.filesystem) (same_Some u upper
          (sym g ∙ ap (λ v. v.upper) (same_Some o overlay (sym f ∙ is)) ∙ has)))) ∙ e))))

  module _ (number : ℕ) (other : Overlay ℕ) (differ : number ≢ (mount_at nat_eq world location).filesystem)
      (is_other : (filesystem_numbered nat_eq world number).overlay ≡ Some other) where
    in_upper : (layer : Layer ℕ) → other.upper ≡ Some layer → Lists.Among layer (upper_and_work other)
    in_upper layer e = subst (λ o. Lists.Among layer (option_to_list o ++ option_to_list other.work)) (sym e) (inl refl)

    -- no object of the changed overlay is under these
    apart_upper : (layer : Layer ℕ) → Lists.Among layer (upper_and_work other) → (inode : ℕ)
        → lies_or_counts_under nat_eq world layer.filesystem inode layer ≡ true
        → upper.filesystem ≡ layer.filesystem → ¬ (IsUpperObject overlay inode)
    apart_upper layer m inode lies same object = no_other world conditions (mount_at nat_eq world location).filesystem
        overlay is upper has inode object number differ other is_other layer m (cc (same, lies))

    apart_lower : (layer : Layer ℕ) → Lists.Among layer other.lowers → (inode : ℕ)
        → lies_or_counts_under nat_eq world layer.filesystem inode layer ≡ true
        → upper.filesystem ≡ layer.filesystem → ¬ (IsUpperObject overlay inode)
    apart_lower layer m inode lies same object =
        no_lower world conditions (mount_at nat_eq world location).filesystem overlay is upper has inode object layer
        (layer_among world (λ o. o.lowers) number other is_other layer m)
        (subst (λ n. lies_or_counts_under nat_eq world n inode layer ≡ true) (sym same) lies)

    leads : (layer : Layer ℕ) → Lists.Among layer (shown_layers other) → LeadsAsBefore world later layer
    leads layer m = ⊎_elim (up other.upper refl) low (Lists.among-append _ other.lowers layer m)
      where
        low : Lists.Among layer other.lowers → LeadsAsBefore world later layer
        low l =
            let plain = layer_plain world conditions number other is_other layer (among-append_right _ _ layer l) in
            leads_as_before world conditions layer plain later
            (λ inode lies there. inode_kept layer plain inode there (apart_lower layer l inode lies))

        up : (x : Option (Layer ℕ)) → other.upper ≡ x → Lists.Among layer (option_to_list x)
            → LeadsAsBefore world later layer
        up None e l = absurd l
        up (Some top) e (inr l) = absurd l
        up (Some top) e (inl same) =
            let m = in_upper layer (cc) in
            let plain = layer_plain world conditions number other is_other layer (among-append_left _ _ layer m) in
            leads_as_before world conditions layer plain later
            (λ inode lies there. inode_kept layer plain inode there (apart_upper layer m inode lies))

    own : (layer : Layer ℕ) (object : ℕ) → other.upper ≡ Some layer → IsUpperObject other object
        → IsKept (inode_in world layer.filesystem object) (inode_in later layer.filesystem object)
    own layer object e of =
        let m = in_upper layer e in
        let plain = layer_plain world conditions number other is_other layer (among-append_left _ _ layer m) in
        inode_kept layer plain object (ap (holds_of (λ l. is_there nat_eq world l.filesystem object)) (sym e)
        ∙ (overlay_merges world conditions number other is_other).upper_there of.0 object of.1)
        (apart_upper layer m object (object_counts world conditions number other is_other layer e object of))

    same_filesystem : filesystem_numbered nat_eq later number ≡ filesystem_numbered nat_eq world number
    same_filesystem = others_elsewhere fresh world location change number differ (λ o u f g s. none_is_some
        other (sym (no_overlay_in world conditions upper (layer_plain world conditions _ overlay
        is upper (subst (λ x. Lists.Among upper (option_to_list x ++ option_to_list overlay.work ++ overlay.lowers))
        (sym has) (inl refl)))) ∙ ap (λ n. (filesystem_numbered nat_eq world n).overlay) (ap (λ l. l.filesystem)
        (same_Some upper u (sym has ∙ ap (λ v. v.upper) (same_Some overlay o (sym is ∙ f)) ∙ g)) ∙ sym s) ∙ is_other))

    pub other_merged : (filesystem_numbered nat_eq later number ≡ filesystem_numbered nat_eq world number)
        × IsMerged nat_eq later (filesystem_numbered nat_eq world number) other
    other_merged = (
      same_filesystem,
      stays_merged world later _ other leads own (overlay_merges world conditions number other is_other),
    )

pub other_overlays_stay_merged : OtherOverlaysStayMerged
other_overlays_stay_merged fresh world location change overlay other upper number conditions is has none speaks differ
    is_other =
    other_merged fresh world location change overlay upper conditions is has none speaks number other differ is_other

-- A call that goes through another filesystem
module _ (fresh : Fresh ℕ) (world : World ℕ) (task : Task ℕ) (call : Call) (through number : ℕ) (other : Overlay ℕ)
    (conditions : IsWorld nat_eq world)
    (called : task_called world task.name ≡ Some task) (kind : changes_no_mount call ≡ true)
    (none : (filesystem : ℕ) → AreNoInodes fresh world filesystem)
    (goes : GoesThrough fresh world (call_outcome nat_eq fresh world task call).world through)
    (differ : number ≢ through) (is_other : (filesystem_numbered nat_eq world number).overlay ≡ Some other) where
  abbrev after : World ℕ
  after = (call_outcome nat_eq fresh world task call).world

  call_leads : (layer : Layer ℕ) → Lists.Among layer (shown_layers other) → LeadsAsBefore world after layer
  call_leads layer m = ⊎_elim (up other.upper refl) low (Lists.among-append _ other.lowers layer m)
    where
      low : Lists.Among layer other.lowers → LeadsAsBefore world after layer
      low l = lower_paths_are_locked fresh world task call number other layer conditions called kind is_other
          (Lists.contains_from_among other.lowers layer l) (none layer.filesystem)

      up : (x : Option (Layer ℕ)) → other.upper ≡ x → Lists.Among layer (option_to_list x)
          → LeadsAsBefore world after layer
      up None e l = absurd l
      up (Some top) e (inr l) = absurd l
      up (Some top) e (inl same) =
          other_paths_stay fresh world task call through number other layer conditions goes differ is_other
          (Lists.contains_from_among (upper_and_work other) layer
          (subst (λ o. Lists.Among layer (option_to_list o ++ option_to_list other.work))
          (sym (e ∙ ap Some (sym same))) (inl refl))) (none layer.filesystem)

  call_own : (layer : Layer ℕ) (object : ℕ) → other.upper ≡ Some layer → IsUpperObject other object
      → IsKept (inode_in world layer.filesystem object) (inode_in after layer.filesystem object)
  call_own layer object e of = goes.others number other layer object differ is_other
      (Lists.contains_from_among (upper_and_work other) layer
      (subst (λ o. Lists.Among layer (option_to_list o ++ option_to_list other.work)) (sym e) (inl refl)))
      (object_counts world conditions number other is_other layer e object of)
      (no_new fresh world layer.filesystem object (none layer.filesystem)
      (cc ((overlay_merges world conditions number other is_other).upper_there of.0 object of.1)))

  call_same : filesystem_numbered nat_eq after number ≡ filesystem_numbered nat_eq world number
  call_same = goes.elsewhere number differ (λ o u f g s. none_is_some other (sym (no_overlay_in world conditions u
      (layer_plain world conditions through o f u
      (subst (λ x. Lists.Among u (option_to_list x ++ option_to_list o.work ++ o.lowers)) (sym g) (inl refl))))
      ∙ ap (λ n. (filesystem_numbered nat_eq world n).overlay) (sym s) ∙ is_other))

  pub call_merged : (filesystem_numbered nat_eq after number ≡ filesystem_numbered nat_eq world number)
      × IsMerged nat_eq after (filesystem_numbered nat_eq world number) other
  call_merged = (
    call_same,
    stays_merged world after _ other call_leads call_own (overlay_merges world conditions number other is_other),
  )

pub calls_keep_other_overlays : CallsKeepOtherOverlays
calls_keep_other_overlays fresh world task call through number other conditions called kind none goes differ is_other =
    call_merged fresh world task call through number other conditions called kind none goes differ is_other
