-- What counts as under a layer lies there, or is kept.
use Rattle.std.proofs.Common.{◌≡◌, refl, sym, ap, subst, ◌∙◌, true≢false, ◌⊎◌, ⊎_elim, inl, inr, ℕ, zero, suc, nat_eq, eqb-true, eq-eqb, Bool, true, false, cond, not, ◌||◌, ◌&&◌, List, [], ◌∷◌, ◌++◌, map, filter_map, Option, Some, None, option_map}
use Rattle.vt_spec.proofs.Common.{Among, FileTree, Filesystem, IsTree, IsWorld, Layer, Overlay, Shown, Upper, World, among-filter, among-filter_map, among-flat_map, among-from_filter, among-from_filter_map, among-from_flat_map, and_from, and_true_left, and_true_right, any_among, any_from_among, at_path, counts_as_in_layer, entry_from, filesystem_numbered, holds_of, is_among, is_directory_under, is_file_under, is_locked, is_object_of, is_overlay, is_real_upper, layers_of, led, led-append, lies_in_layer, lies_or_counts_under, list_any, live_layers, named_in, none_is_some, number_at_path, of_overlay, OpenLayer, open_layer, or_cases, or_left, or_right, overlay_or, overlays, real_object, same_Some, same_truth, shown, targets_in, upper_object, upper_real}
use Rattle.vt_spec.proofs.Lists.{among_numbers, is_among_numbers}
use Rattle.vt_laws_trees.specs.Layers.Layers.Shown.{IsShown}
use Rattle.vt_laws_trees.proofs.layers.directories.Lower.{led_below}
use Rattle.vt_laws_trees.proofs.layers.layers.ShownAtPath.{computed}
use Rattle.vt_laws_trees.proofs.layers.layers.UpperLine.{is_reached_in}
use Rattle.vt_laws_trees.proofs.layers.layers.UpperShown.{way_to}
use Rattle.vt_laws_trees.proofs.layers.layers.UpperWorld.{overlay_tree, real_named}
use Rattle.vt_laws_trees.proofs.layers.locked.Apart.{layer_among, layer_plain, object_counts, upper_in_layers}
use Rattle.vt_laws_trees.proofs.layers.locked.Layers.{are_trees, numbers_listed}
use Rattle.vt_laws_trees.proofs.layers.locked.Paths.{layer_tree}
use Rattle.vt_laws_trees.proofs.overlays.whole.ApartThere.{counts_parts, own_number}
use Rattle.vt_laws_kept.specs.Kept.{is_unnamed, kept_in, objects_kept, unnamed_in}
use Rattle.vt_laws_kept.specs.Overlaps.{CountsUnderWhereKept, IsLockedWhereKept, keeps_in_layer}

module _ (files : FileTree ℕ) (tree : IsTree files.tree) where
  -- the root, or an inode that has a name, is at the end of a path
  pub path_to : (number : ℕ) → is_unnamed files number ≡ false
      → (path : List (List ℕ)) × (number_at_path files path ≡ Some number)
  path_to number e = by (nat_eq number files.tree.root) refl (is_among nat_eq number (named_in files)) refl
    where
      by : (p : Bool) → nat_eq number files.tree.root ≡ p → (q : Bool) → is_among nat_eq number (named_in files) ≡ q
          → (path : List (List ℕ)) × (number_at_path files path ≡ Some number)
      by true r q n = ([], ap Some (sym (eqb-true number files.tree.root r)))
      by false r true n =
          let from = among-from_flat_map (λ d. targets_in (files.tree.node d)) files.numbers number
          (among_numbers (named_in files) number n) in
          let entry = entry_from files.tree tree from.0 number
          (is_among_numbers (targets_in (files.tree.node from.0)) number from.2) in
          let reached = is_reached_in files tree from.0 entry.0 number entry.1 in
          let way = way_to files.tree reached.0 from.0 reached.1 in
          (way.0 ++ entry.0 ∷ [], led-append files.tree files.tree.root way.0 entry.0 from.0 number way.1 entry.1)
      by false r false n = absurd (true≢false (sym (ap not (ap (λ p. p || is_among nat_eq number (named_in files)) r
          ∙ n)) ∙ e))

module _ (world : World ℕ) (conditions : IsWorld nat_eq world) (number : ℕ) (overlay : Overlay ℕ)
    (is : (filesystem_numbered nat_eq world number).overlay ≡ Some overlay) (upper : Layer ℕ)
    (has : overlay.upper ≡ Some upper) where
  abbrev whole : FileTree ℕ
  whole = (filesystem_numbered nat_eq world number).files

  abbrev files : FileTree ℕ
  files = (filesystem_numbered nat_eq world upper.filesystem).files

  abbrev layers : List (OpenLayer ℕ)
  layers = open_layer nat_eq world upper ∷ map (open_layer nat_eq world) overlay.lowers

  -- a path of an upper object leads to it in the upper layer
  led_above : (path : List (List ℕ)) (inode object : ℕ) → number_at_path whole path ≡ Some inode
      → overlay.real inode ≡ Some (Upper object) → led files.tree upper.directory path ≡ Some object
  led_above path inode object e r =
      by (shown layers path) refl (sym r ∙ real_named world conditions number overlay is upper has path inode e)
    where
      at : (layer shown : ℕ) → IsShown layers path (record { layer = layer; object = shown })
          → Some (Upper object) ≡ Some (real_object true layer
          (record { path = path; seen = record { layer = layer; object = shown } }))
          → led files.tree upper.directory path ≡ Some object
      at zero shown so q =
          ap (λ l. at_path l path) (same_Some (open_layer nat_eq world upper) so.has_uncut.0.0 so.has_uncut.0.1)
          ∙ so.has_uncut.0.2 ∙ ap Some (sym (same_Some object shown (ap upper_object q)))
      at (suc layer) shown so q = none_is_some object (sym (ap upper_object q))

      by : (o : Option (Shown ℕ)) → shown layers path ≡ o
          → Some (Upper object) ≡ option_map (λ m. real_object true m.seen.layer m)
          (option_map (λ seen. record { path = path; seen = seen }) o)
          → led files.tree upper.directory path ≡ Some object
      by None f q = none_is_some (Upper object) (sym q)
      by (Some seen) f q = at seen.layer seen.object ((computed layers path seen).0 f) q

  -- so it lies where the upper directory lies, if it has a path
  pub lies_named : (layer : Layer ℕ) → lies_in_layer nat_eq world upper.filesystem upper.directory layer ≡ true
      → (inode object : ℕ) → is_unnamed whole inode ≡ false → overlay.real inode ≡ Some (Upper object)
      → lies_in_layer nat_eq world upper.filesystem object layer ≡ true
  lies_named layer lies inode object named real =
      let path = path_to whole (overlay_tree world conditions number overlay is) inode named in
      let plain = layer_plain world conditions number overlay is upper
      (upper_in_layers world conditions number overlay is upper has) in
      let directory = and_true_right (not (is_overlay (filesystem_numbered nat_eq world upper.filesystem))) _ plain in
      let under = sym (ap (λ b. cond b (is_directory_under nat_eq files layer.directory upper.directory)
      (is_file_under nat_eq files layer.directory upper.directory)) directory)
      ∙ and_true_right (nat_eq upper.filesystem layer.filesystem) _ lies in
      and_from _ _ (and_true_left _ _ lies) (led_below files (layer_tree world conditions upper plain)
      (numbers_listed world (are_trees world conditions.files) upper.filesystem) layer.directory upper.directory
      path.0
      object under directory (led_above path.0 inode object path.1 real))

-- an object that an overlay keeps: the parts of it
pub record Keeps (filesystem object : ℕ) (merged : Filesystem ℕ) : Type 0 where
  pub overlay : Overlay ℕ
  pub is : merged.overlay ≡ Some overlay
  pub upper : Layer ℕ
  pub has : overlay.upper ≡ Some upper
  pub there : filesystem ≡ upper.filesystem
  pub inode : ℕ
  pub unnamed : Among inode (unnamed_in merged.files)
  pub real : overlay.real inode ≡ Some (Upper object)

-- the upper objects of inodes without a name
abbrev pub kept_by : Filesystem ℕ → Overlay ℕ → List ℕ
kept_by merged overlay = filter_map (λ number. upper_object (overlay.real number)) (unnamed_in merged.files)

pub keeps_parts : (filesystem object : ℕ) (merged : Filesystem ℕ)
    → is_among nat_eq object (objects_kept filesystem merged) ≡ true → Keeps filesystem object merged
keeps_parts filesystem object merged e = by merged.overlay refl e
  where
    there : (overlay : Overlay ℕ) → merged.overlay ≡ Some overlay → (upper : Layer ℕ) → overlay.upper ≡ Some upper
        → (b : Bool) → nat_eq filesystem upper.filesystem ≡ b
        → is_among nat_eq object (cond b (kept_by merged overlay) []) ≡ true
        → Keeps filesystem object merged
    there overlay is upper has false f h = absurd (true≢false (sym h))
    there overlay is upper has true f h =
        let found = among-from_filter_map (λ number. upper_object (overlay.real number)) (unnamed_in merged.files)
        object
        (among_numbers (kept_by merged overlay) object h) in
        record {
          overlay = overlay;
          is = is;
          upper = upper;
          has = has;
          there = eqb-true filesystem upper.filesystem f;
          inode = found.0;
          unnamed = found.1;
          real = upper_real (overlay.real found.0) object
              (ap (holds_of (nat_eq object)) found.2 ∙ eq-eqb object object refl);
        }

    in_upper : (overlay : Overlay ℕ) → merged.overlay ≡ Some overlay → (o : Option (Layer ℕ)) → overlay.upper ≡ o
        → is_among nat_eq object (cond (holds_of (λ layer. nat_eq filesystem layer.filesystem) o) (kept_by merged
        overlay) [])
        ≡ true → Keeps filesystem object merged
    in_upper overlay is None has h = absurd (true≢false (sym h))
    in_upper overlay is (Some upper) has h = there overlay is upper has (nat_eq filesystem upper.filesystem) refl h

    by : (o : Option (Overlay ℕ)) → merged.overlay ≡ o → is_among nat_eq object (overlay_or [] (λ overlay.
        cond (holds_of (λ layer. nat_eq filesystem layer.filesystem) overlay.upper) (kept_by merged overlay) []) o)
        ≡ true
        → Keeps filesystem object merged
    by None is h = absurd (true≢false (sym h))
    by (Some overlay) is h = in_upper overlay is overlay.upper refl h

pub keeps_again : (filesystem object : ℕ) (merged : Filesystem ℕ) → Keeps filesystem object merged
    → is_among nat_eq object (objects_kept filesystem merged) ≡ true
keeps_again filesystem object merged keeps =
    ap (λ o. is_among nat_eq object (overlay_or [] (λ overlay.
    cond (holds_of (λ layer. nat_eq filesystem layer.filesystem) overlay.upper)
    (kept_by merged overlay) []) o)) keeps.is
    ∙ ap (λ o. is_among nat_eq object (cond (holds_of (λ layer. nat_eq filesystem layer.filesystem) o)
    (kept_by merged keeps.overlay) [])) keeps.has
    ∙ ap (λ b. is_among nat_eq object (cond b (kept_by merged keeps.overlay) []))
    (eq-eqb filesystem keeps.upper.filesystem keeps.there)
    ∙ is_among_numbers _ object (among-filter_map (λ number. upper_object (keeps.overlay.real number))
    (unnamed_in merged.files) keeps.inode object keeps.unnamed (ap upper_object keeps.real))

-- by a test
either : {A B : Type 0} (b : Bool) → (b ≡ true → A) → (b ≡ false → B) → B ⊎ A
either true a b = inr (a refl)
either false a b = inl (b refl)

-- the upper directory of an overlay lies in a layer
abbrev pub stands_in : World ℕ → Layer ℕ → Filesystem ℕ → Bool
stands_in world layer merged = of_overlay false (λ overlay.
    holds_of (λ upper. lies_in_layer nat_eq world upper.filesystem upper.directory layer) overlay.upper) merged

module _ (world : World ℕ) (conditions : IsWorld nat_eq world) (filesystem object : ℕ) where
  own : (merged : Filesystem ℕ) → Among merged world.filesystems
      → filesystem_numbered nat_eq world merged.number ≡ merged
  own = own_number world conditions.files.one_filesystem

  pub in_world : (merged : Filesystem ℕ) → Among merged (overlays world) → Among merged world.filesystems
  in_world merged m = (among-from_filter is_overlay world.filesystems merged m).0

  module _ (layer : Layer ℕ) where
    pub stands_where : (merged : Filesystem ℕ) (overlay : Overlay ℕ) → merged.overlay ≡ Some overlay
        → (upper : Layer ℕ)
        → overlay.upper ≡ Some upper
        → stands_in world layer merged ≡ lies_in_layer nat_eq world upper.filesystem upper.directory layer
    stands_where merged overlay is upper has =
        ap (overlay_or false (λ overlay.
        holds_of (λ upper. lies_in_layer nat_eq world upper.filesystem upper.directory layer) overlay.upper)) is
        ∙ ap (holds_of (λ upper. lies_in_layer nat_eq world upper.filesystem upper.directory layer)) has

    -- what counts under the layer by an overlay lies there, or is kept
    lies_or_kept : (merged : Filesystem ℕ) → Among merged (overlays world)
        → counts_as_in_layer nat_eq world filesystem object layer merged ≡ true
        → (lies_in_layer nat_eq world filesystem object layer ≡ true)
        ⊎ (keeps_in_layer world filesystem object layer merged ≡ true)
    lies_or_kept merged m e =
        let parts = counts_parts world layer filesystem object merged e in
        let upper = parts.upper_of_it in
        let found = any_among (is_real_upper nat_eq parts.overlay_of object) merged.files.numbers (and_true_right
        (holds_of (λ layer. nat_eq filesystem layer.filesystem) parts.overlay_of.upper) _ parts.object_of) in
        let real = upper_real (parts.overlay_of.real found.0) object found.2 in
        let there = eqb-true filesystem upper.filesystem
        (sym (ap (holds_of (λ layer. nat_eq filesystem layer.filesystem)) parts.has_it)
        ∙ and_true_left (holds_of (λ layer. nat_eq filesystem layer.filesystem) parts.overlay_of.upper) _
        parts.object_of) in
        let itself = own merged (in_world merged m) in
        let named : is_unnamed merged.files found.0 ≡ false
        → lies_in_layer nat_eq world filesystem object layer ≡ true = λ path.
        subst (λ n. lies_in_layer nat_eq world n object layer ≡ true) (sym there) (lies_named world conditions
        merged.number parts.overlay_of (ap (λ (f : Filesystem ℕ). f.overlay) itself ∙ parts.is_of) upper parts.has_it
        layer parts.lies found.0 object (ap (λ (f : Filesystem ℕ). is_unnamed f.files found.0) itself ∙ path) real) in
        let unnamed : is_unnamed merged.files found.0 ≡ true
        → keeps_in_layer world filesystem object layer merged ≡ true = λ none.
        and_from (stands_in world layer merged) _
        (stands_where merged parts.overlay_of parts.is_of upper parts.has_it ∙ parts.lies)
        (keeps_again filesystem object merged (record {
          overlay = parts.overlay_of;
          is = parts.is_of;
          upper = upper;
          has = parts.has_it;
          there = there;
          inode = found.0;
          unnamed = among-filter (is_unnamed merged.files) merged.files.numbers found.0 found.1 none;
          real = real;
        })) in
        either (is_unnamed merged.files found.0) unnamed named

    -- and what is kept so counts
    counts_where_kept : (merged : Filesystem ℕ) → keeps_in_layer world filesystem object layer merged ≡ true
        → counts_as_in_layer nat_eq world filesystem object layer merged ≡ true
    counts_where_kept merged e =
        let keeps = keeps_parts filesystem object merged (and_true_right (stands_in world layer merged) _ e) in
        let stands = sym (stands_where merged keeps.overlay keeps.is keeps.upper keeps.has)
        ∙ and_true_left (stands_in world layer merged) _ e in
        let among = (among-from_filter (is_unnamed merged.files) merged.files.numbers keeps.inode keeps.unnamed).0 in
        let object_of : is_object_of nat_eq filesystem object merged keeps.overlay ≡ true =
        and_from _ _ (ap (holds_of (λ layer. nat_eq filesystem layer.filesystem)) keeps.has
        ∙ eq-eqb filesystem keeps.upper.filesystem keeps.there) (any_from_among
        (is_real_upper nat_eq keeps.overlay object) merged.files.numbers keeps.inode among
        (ap (λ o. holds_of (nat_eq object) (upper_object o)) keeps.real ∙ eq-eqb object object refl)) in
        ap (overlay_or false (λ overlay.
        holds_of (λ upper. lies_in_layer nat_eq world upper.filesystem upper.directory layer) overlay.upper
        && is_object_of nat_eq filesystem object merged overlay)) keeps.is
        ∙ ap (λ o. holds_of (λ upper. lies_in_layer nat_eq world upper.filesystem upper.directory layer) o
        && is_object_of nat_eq filesystem object merged keeps.overlay) keeps.has
        ∙ and_from _ _ stands object_of

    abbrev lies : Bool
    lies = lies_in_layer nat_eq world filesystem object layer

    abbrev some_counts : Bool
    some_counts = list_any (counts_as_in_layer nat_eq world filesystem object layer) (overlays world)

    abbrev some_keeps : Bool
    some_keeps = list_any (keeps_in_layer world filesystem object layer) (overlays world)

    pub where_kept : lies_or_counts_under nat_eq world filesystem object layer ≡ (lies || some_keeps)
    where_kept = same_truth (lies || some_counts) (lies || some_keeps) forth back
      where
        forth : (lies || some_counts) ≡ true → (lies || some_keeps) ≡ true
        forth e = ⊎_elim (λ here. or_left lies some_keeps here) (λ counts.
            let found = any_among (counts_as_in_layer nat_eq world filesystem object layer) (overlays world) counts in
            ⊎_elim (λ here. or_left lies some_keeps here) (λ kept. or_right lies some_keeps
            (any_from_among (keeps_in_layer world filesystem object layer) (overlays world) found.0 found.1 kept))
            (lies_or_kept found.0 found.1 found.2)) (or_cases lies some_counts e)

        back : (lies || some_keeps) ≡ true → (lies || some_counts) ≡ true
        back e = ⊎_elim (λ here. or_left lies some_counts here) (λ kept.
            let found = any_among (keeps_in_layer world filesystem object layer) (overlays world) kept in
            or_right lies some_counts (any_from_among (counts_as_in_layer nat_eq world filesystem object layer)
            (overlays world) found.0 found.1 (counts_where_kept found.0 found.2))) (or_cases lies some_keeps e)

  -- an object that an overlay keeps is locked
  kept_is_locked : is_among nat_eq object (kept_in world filesystem) ≡ true → is_locked nat_eq world filesystem object
      ≡ true
  kept_is_locked e =
      let found = among-from_flat_map (objects_kept filesystem) world.filesystems object
      (among_numbers (kept_in world filesystem) object e) in
      let merged = found.0 in
      let keeps = keeps_parts filesystem object merged
      (is_among_numbers (objects_kept filesystem merged) object found.2) in
      let is = ap (λ (f : Filesystem ℕ). f.overlay) (own merged found.1) ∙ keeps.is in
      any_from_among (lies_or_counts_under nat_eq world filesystem object) (live_layers world) keeps.upper
      (layer_among world layers_of merged.number keeps.overlay is keeps.upper
      (upper_in_layers world conditions merged.number keeps.overlay is keeps.upper keeps.has))
      (subst (λ n. lies_or_counts_under nat_eq world n object keeps.upper ≡ true) (sym keeps.there)
      (object_counts world conditions merged.number keeps.overlay is keeps.upper keeps.has object
      (keeps.inode, keeps.real)))

  -- what is kept in a layer is kept
  pub kept_anywhere : (layer : Layer ℕ) → list_any (keeps_in_layer world filesystem object layer) (overlays world)
      ≡ true
      → is_among nat_eq object (kept_in world filesystem) ≡ true
  kept_anywhere layer e =
      let found = any_among (keeps_in_layer world filesystem object layer) (overlays world) e in
      is_among_numbers (kept_in world filesystem) object (among-flat_map (objects_kept filesystem) world.filesystems
      found.0 object
      (in_world found.0 found.1) (among_numbers (objects_kept filesystem found.0) object
      (and_true_right (stands_in world layer found.0) _ found.2)))

  abbrev some_lies : Bool
  some_lies = list_any (lies_in_layer nat_eq world filesystem object) (live_layers world)

  abbrev is_kept : Bool
  is_kept = is_among nat_eq object (kept_in world filesystem)

  pub locked_where_kept : is_locked nat_eq world filesystem object ≡ (some_lies || is_kept)
  locked_where_kept = same_truth (is_locked nat_eq world filesystem object) (some_lies || is_kept) forth back
    where
      forth : is_locked nat_eq world filesystem object ≡ true → (some_lies || is_kept) ≡ true
      forth e =
          let found = any_among (lies_or_counts_under nat_eq world filesystem object) (live_layers world) e in
          ⊎_elim (λ here. or_left some_lies is_kept
          (any_from_among (lies_in_layer nat_eq world filesystem object) (live_layers world) found.0 found.1 here))
          (λ kept. or_right some_lies is_kept (kept_anywhere found.0 kept))
          (or_cases (lies found.0) (some_keeps found.0) (sym (where_kept found.0) ∙ found.2))

      back : (some_lies || is_kept) ≡ true → is_locked nat_eq world filesystem object ≡ true
      back e = ⊎_elim (λ here.
          let found = any_among (lies_in_layer nat_eq world filesystem object) (live_layers world) here in
          any_from_among (lies_or_counts_under nat_eq world filesystem object) (live_layers world) found.0 found.1
          (or_left (lies found.0) (some_counts found.0) found.2)) kept_is_locked (or_cases some_lies is_kept e)

pub counts_under_where_kept : CountsUnderWhereKept
counts_under_where_kept world filesystem object layer conditions = where_kept world conditions filesystem object layer

pub is_locked_where_kept : IsLockedWhereKept
is_locked_where_kept world filesystem object conditions = locked_where_kept world conditions filesystem object
