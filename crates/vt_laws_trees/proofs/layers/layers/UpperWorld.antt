-- In a world, a change through an overlay writes to new inodes and to the overlay's own objects in the upper layer
-- alone.
use Rattle.std.proofs.Common.{◌≡◌, ◌≢◌, ◌<◌, All, refl, sym, ap, subst, ◌∙◌, true≢false, arith, ℕ, suc, nat_eq, Bool, true, false, cond, List, [], ◌∷◌, ◌++◌, map, length, Option, Some, None, is_some, find, option_to_list}
use Rattle.vt_spec.proofs.Common.{Change, FileTree, Filesystem, Fresh, IsMerged, IsTree, IsWorld, Layer, ListsNumbers, Location, Merge, Node, OpenLayer, Overlay, Real, World, a_name, and_true_left, and_true_right, common_steps, entry_at, files_at, filesystem_at, filesystem_changed, filesystem_numbered, is_directory_node, is_plain_layer, layers_of, led-append, list_all, merge_changed, merge_of, merged_at, none_is_some, number_at_path, of_overlay, open_layer, overlay_changed, overlay_or, real_object, same_Some, shown, stack_of, upper_object, with_change, with_files, with_filesystem, with_merge}
use Rattle.vt_laws_trees.specs.Layers.Layers.Mounted.{AreLayers}
use Rattle.vt_laws_trees.specs.Layers.Layers.Untouched.{IsKept}
use Rattle.vt_laws_trees.specs.Layers.Layers.Upper.{IsUpperObject, SpeaksOfWhatIsThere}
use Rattle.vt_laws_trees.proofs.layers.layers.LowersKept.{kept_same}
use Rattle.vt_laws_trees.proofs.layers.layers.LowersWorld.{filesystem_elsewhere, filesystem_there, number_of_filesystem}
use Rattle.vt_laws_trees.proofs.layers.layers.UpperChanges.{changes_keep}
use Rattle.vt_laws_trees.proofs.layers.layers.UpperCopies.{HasUpper}
use Rattle.vt_laws_trees.proofs.layers.layers.UpperLine.{is_reached_in, named_so}
use Rattle.vt_laws_trees.proofs.layers.layers.UpperShown.{below_is_at, without_last_of_longer, has_a_name, real_at, real_is_upper, upper_is_real, way_to}
use Rattle.vt_laws_trees.specs.Trees.Settling.{inode_in}

-- What holds of each filesystem of a list holds of the one that is found.
pub all_found : (P : Filesystem ℕ → Type 0) (test : Filesystem ℕ → Bool) (list : List (Filesystem ℕ)) → All P list
    → (filesystem : Filesystem ℕ) → find test list ≡ Some filesystem → P filesystem
all_found P test [] all filesystem e = none_is_some filesystem e
all_found P test (first ∷ list) all filesystem e = by (test first) e (all_found P test list
    (λ k d h. all (suc k) d (let l : suc k < suc (length list) = omega arith in l)) filesystem)
  where
    by : (b : Bool) → cond b (Some first) (find test list) ≡ Some filesystem
        → (find test list ≡ Some filesystem → P filesystem) → P filesystem
    by true e rest = subst P (same_Some first filesystem e)
        (all 0 first (let l : 0 < suc (length list) = omega arith in l))
    by false e rest = rest e

all_pass_found : (passes test : Filesystem ℕ → Bool) (list : List (Filesystem ℕ)) → list_all passes list ≡ true
    → (filesystem : Filesystem ℕ) → find test list ≡ Some filesystem → passes filesystem ≡ true
all_pass_found passes test [] all filesystem e = none_is_some filesystem e
all_pass_found passes test (first ∷ list) all filesystem e = grind (
  arith,
  common_steps,
  all_pass_found passes test list (and_true_right (passes first) _ all) filesystem,
  and_true_left,
)

-- an overlay is there
pub overlay_found : (world : World ℕ) (number : ℕ) (overlay : Overlay ℕ)
    → (filesystem_numbered nat_eq world number).overlay ≡ Some overlay
    → find (λ filesystem. nat_eq number filesystem.number) world.filesystems
    ≡ Some (filesystem_numbered nat_eq world number)
overlay_found world number overlay e = grind (arith, common_steps, none_is_some)

module _ (world : World ℕ) (conditions : IsWorld nat_eq world) (number : ℕ) (overlay : Overlay ℕ)
    (is : (filesystem_numbered nat_eq world number).overlay ≡ Some overlay) where
  abbrev merged : Filesystem ℕ
  merged = filesystem_numbered nat_eq world number

  abbrev files : FileTree ℕ
  files = merged.files

  pub overlay_tree : IsTree files.tree
  overlay_tree = all_found (λ filesystem. IsTree filesystem.files.tree)
      (λ filesystem. nat_eq number filesystem.number) world.filesystems conditions.files.trees merged
      (overlay_found world number overlay is)

  pub overlay_numbers : ListsNumbers nat_eq files
  overlay_numbers = all_found (λ filesystem. ListsNumbers nat_eq filesystem.files) _
      world.filesystems conditions.files.numbers merged (overlay_found world number overlay is)

  pub overlay_merges : IsMerged nat_eq world merged overlay
  overlay_merges = conditions.overlays.overlays_merge number overlay is

  plain_layers : list_all (is_plain_layer nat_eq world) (layers_of overlay) ≡ true
  plain_layers = sym (ap (overlay_or true (λ o. list_all (is_plain_layer nat_eq world) (layers_of o))) is)
      ∙ all_pass_found (of_overlay true (λ o. list_all (is_plain_layer nat_eq world) (layers_of o)))
      (λ filesystem. nat_eq number filesystem.number) world.filesystems conditions.overlays.plain_layers merged
      (overlay_found world number overlay is)

  -- its layers may be mounted
  pub overlay_layers : AreLayers world overlay
  overlay_layers = grind (
    arith,
    common_steps,
    plain_layers,
    and_true_left,
    all_pass_found,
    overlay_found,
    true≢false,
    and_true_right,
  )

  module _ (upper : Layer ℕ) (has : overlay.upper ≡ Some upper) where
    plain_upper : is_plain_layer nat_eq world upper ≡ true
    plain_upper = and_true_left _ _ (sym (ap (λ o. list_all (is_plain_layer nat_eq world)
        (option_to_list o ++ option_to_list overlay.work ++ overlay.lowers)) has) ∙ plain_layers)

    -- the upper layer is in another filesystem
    pub upper_elsewhere : upper.filesystem ≢ number
    upper_elsewhere e = grind (arith, common_steps, and_true_left, plain_upper, true≢false)

    upper_directory : is_directory_node
        ((filesystem_numbered nat_eq world upper.filesystem).files.tree.node upper.directory) ≡ true
    upper_directory = and_true_right _ _ plain_upper

    abbrev top : OpenLayer ℕ
    top = open_layer nat_eq world upper

    abbrev lower : List (OpenLayer ℕ)
    lower = map (open_layer nat_eq world) overlay.lowers

    -- the real object of what names lead to is the one that is shown there
    pub real_named : (path : List (List ℕ)) (object : ℕ) → number_at_path files path ≡ Some object
        → overlay.real object ≡ real_at top lower path
    real_named path object e = overlay_merges.names path object e
        ∙ ap (λ o. Rattle.std.specs.Prelude.option_map (λ m. real_object (is_some o) m.seen.layer m)
        (merged_at (map (open_layer nat_eq world) (option_to_list o ++ overlay.lowers)) path)) has

    pub root_is_upper : HasUpper overlay.real files.tree.root
    root_is_upper = ap (λ o. is_some (upper_object o))
        (real_named [] files.tree.root refl ∙ upper_is_real top lower [] upper.directory refl upper_directory)

    -- something is shown where names lead
    pub shown_there : (path : List (List ℕ)) (object : ℕ) → number_at_path files path ≡ Some object
        → is_some (files.tree.node object) ≡ true → is_some (shown (top ∷ lower) path) ≡ true
    shown_there path object e there = grind (arith, common_steps, overlay_merges.shows path, top, true≢false)

    -- a directory with an entry for an upper object is in the upper layer
    pub above_upper : (from : ℕ) (old : List ℕ) (object : ℕ) → entry_at files.tree from old ≡ Some object
        → HasUpper overlay.real object → HasUpper overlay.real from
    above_upper from old object e h =
        let reached = is_reached_in files overlay_tree from old object e in
        let way = way_to files.tree reached.0 from reached.1 in
        ap (λ o. is_some (upper_object o)) (real_named way.0 from way.1) ∙ real_is_upper top lower way.0 old
        (ap (λ o. is_some (upper_object o)) (sym (real_named (way.0 ++ old ∷ []) object
        (led-append files.tree files.tree.root way.0 old from object way.1 e))) ∙ h)

    -- what lies only below has one name
    pub one_below : (from other : ℕ) (old name : List ℕ) (object : ℕ) → entry_at files.tree from old ≡ Some object
        → entry_at files.tree other name ≡ Some object → is_some (upper_object (overlay.real object)) ≡ false
        → from ≡ other
    one_below from other old name object e f low =
        let reached = is_reached_in files overlay_tree from old object e in
        let way = way_to files.tree reached.0 from reached.1 in
        let reached_other = is_reached_in files overlay_tree other name object f in
        let way_other = way_to files.tree reached_other.0 other reached_other.1 in
        let here = led-append files.tree files.tree.root way.0 old from object way.1 e in
        let there = led-append files.tree files.tree.root way_other.0 name other object way_other.1 f in
        let same = below_is_at top lower (way.0 ++ old ∷ []) (way_other.0 ++ name ∷ [])
        (shown_there (way.0 ++ old ∷ []) object here (overlay_tree.alive from old object e))
        (ap (λ o. is_some (upper_object o)) (sym (real_named (way.0 ++ old ∷ []) object here)) ∙ low)
        (sym (real_named (way.0 ++ old ∷ []) object here) ∙ real_named (way_other.0 ++ name ∷ []) object there) in
        grind (arith, common_steps, same_Some, without_last_of_longer)

    -- so where an object that has a name is copied, the directory that it leaves is there
    pub from_too : (from : ℕ) (old : List ℕ) (object : ℕ) → entry_at files.tree from old ≡ Some object
        → (later : ℕ → Option (Real ℕ)) → ((n : ℕ) → HasUpper overlay.real n → HasUpper later n)
        → HasUpper later object → ((name : ℕ × List ℕ) → a_name nat_eq files object ≡ Some name
        → HasUpper later name.0) → HasUpper later from
    from_too from old object e later grows copied parent = by (is_some (upper_object (overlay.real object))) refl
      where
        named : is_some (upper_object (overlay.real object)) ≡ false → (o : Option (ℕ × List ℕ))
            → a_name nat_eq files object ≡ o → is_some o ≡ true → HasUpper later from
        named low None a h = absurd (true≢false (sym h))
        named low (Some name) a h = subst (HasUpper later) (one_below name.0 from name.1 old object
            (named_so files overlay_tree object name a) e low) (parent name a)

        by : (b : Bool) → is_some (upper_object (overlay.real object)) ≡ b → HasUpper later from
        by true h = grows from (above_upper from old object e h)
        by false low = named low (a_name nat_eq files object) refl (has_a_name files overlay_numbers from old object e)

    -- the change
    module _ (inode : ℕ) (not_object : ¬ (IsUpperObject overlay inode)) (fresh : Fresh ℕ)
        (new : (k : ℕ) → inode ≢ fresh k) (change : Change ℕ) (there : SpeaksOfWhatIsThere files change) where
      abbrev before : Option (Node ℕ)
      before = inode_in world upper.filesystem inode

      apart : (n : ℕ) → upper_object (overlay.real n) ≢ Some inode
      apart n e = grind (arith, common_steps, none_is_some)

      merge_keeps : IsKept before ((merge_changed nat_eq fresh (stack_of nat_eq world overlay upper)
          (merge_of nat_eq world merged overlay upper) change).upper.tree.node inode)
      merge_keeps = changes_keep files overlay_tree overlay_numbers inode before
          fresh new _ overlay.real _ (record { here = refl; apart = apart; root = root_is_upper }) change there from_too

      world_keeps : (merge : Merge ℕ) → IsKept before (merge.upper.tree.node inode)
          → IsKept before (inode_in (with_merge nat_eq world merged overlay upper merge) upper.filesystem inode)
      world_keeps merge kept = filesystem_there (λ f. IsKept before (f.files.tree.node inode))
          (with_filesystem nat_eq world changed_overlay)
          (with_files (filesystem_numbered nat_eq world upper.filesystem) merge.upper) upper.filesystem
          (sym (number_of_filesystem world upper.filesystem)) kept (λ none. kept_same before None
          (sym (ap (λ f. f.files.tree.node inode) (sym (filesystem_elsewhere world changed_overlay upper.filesystem
          (λ e. upper_elsewhere (e ∙ number_of_filesystem world number))) ∙ none))))
        where
          changed_overlay : Filesystem ℕ
          changed_overlay = record merged {
            files = merge.files;
            overlay = Some (record overlay { real = merge.real });
          }

      pub change_keeps : IsKept before
          (inode_in (filesystem_changed nat_eq fresh world merged merged.overlay change) upper.filesystem inode)
      change_keeps = subst (λ o. IsKept before (inode_in
          (filesystem_changed nat_eq fresh world merged o change) upper.filesystem inode)) (sym is)
          (subst (λ o. IsKept before (inode_in
          (overlay_changed nat_eq fresh world merged overlay o change) upper.filesystem inode)) (sym has)
          (world_keeps _ merge_keeps))

pub upper_filesystem_keeps : (fresh : Fresh ℕ) (world : World ℕ) (location : Location ℕ) (change : Change ℕ)
    (overlay : Overlay ℕ) (upper : Layer ℕ) (inode : ℕ) → IsWorld nat_eq world
    → (filesystem_at nat_eq world location).overlay ≡ Some overlay → overlay.upper ≡ Some upper
    → SpeaksOfWhatIsThere (files_at nat_eq world location) change
    → ((k : ℕ) → inode ≢ fresh k) → ¬ (IsUpperObject overlay inode) → IsKept (inode_in world upper.filesystem inode)
    (inode_in (with_change nat_eq fresh world location change) upper.filesystem inode)
upper_filesystem_keeps fresh world location change overlay upper inode conditions is has there new not_object =
    change_keeps world conditions _ overlay is upper has inode not_object fresh new change there
