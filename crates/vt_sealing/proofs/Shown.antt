-- Tasks are sealed off in each world that is shown just if they are in the one that is looked at.
use Rattle.std.proofs.Common.{◌≡◌, ℕ, Bool, true, false, not, cond, drop, ◌&&◌, ◌||◌, List, [], ◌∷◌, ◌++◌, find, filter, map, nat_eq, eqb-true, is_some, Option, None, Some, option_map, slice_get, unwrap_or, refl, sym, ap, subst, ◌∙◌, append-nil, true≢false, suc, ⊎_elim, All}
use Rattle.vt_spec.proofs.Common.{All-head, All-tail, any_pair, FileTree, Filesystem, Overlay, TaskName, World, each_once, filesystem_numbered, has_layer_on, is_directory_node, is_overlay, list_all, list_any, no_filesystem, or_cases, or_parts, overlays}
use Rattle.vt_spec.specs.Machine.Sealed.{all_named, change_layers, holds_all_tasks, is_lower_root, no_outsider_on, no_outsider_on_mounts, sealed, shares_no_events, used_alone, used_directly, used_filesystems, wholly_locked}
use Rattle.vt_fs.specs.FilesystemsValue.{FilesystemEntry, Filesystems, entry_of, files_at, files_seen, no_entry}
use Rattle.vt_location.proofs.AskedLemmas.{any_mapped, any_same}
use Rattle.vt_location.specs.Numbers.{counted}
use Rattle.vt_location.specs.Locations.{inode_of}
use Rattle.vt_overlay.specs.MergedTree.{AreLayers, IsLayer, OverlayValue}
use Rattle.vt_overlay.specs.declared.merge.layers.LayerRef.{LayerRef}
use Rattle.vt_group.specs.Grouping.{master_in}
use Rattle.vt_mount.specs.MountsValue.{mounts_in}
use Rattle.vt_layered.specs.LayeredValue.{Above}
use Rattle.vt_store.specs.OverlaysValue.{OverlayEntry}
use Rattle.vt_store.specs.StoreValue.{StandOnLayers, StandsOnLayers}
use Rattle.vt_sealing.specs.Seen.{IsShown, filesystems_in_use, has_root_layer, lower_layers, stands_in, without_tree, world_seen, written_under}
use Rattle.vt_sealing.specs.declared.sealing.Sealing.{Sealing}
use Rattle.vt_sealing.proofs.Lists.{adding_same, all_mapped, all_once, all_same}
use Rattle.vt_sealing.proofs.Looked.{locked_looked, overlays_looked, plain_looked, secured}

-- What is asked of an overlay is asked of its layers

layers_alone : (number : ℕ) (one : Filesystem ℕ) → has_layer_on nat_eq number one ≡ has_layer_on nat_eq number (without_tree one)
layers_alone number one = by one.overlay refl
  where
    by : (o : Option (Overlay ℕ)) → one.overlay ≡ o
        → has_layer_on nat_eq number one ≡ has_layer_on nat_eq number (without_tree one)
    by None e = (λ i. has_layer_on nat_eq number (record one { overlay = e i }))
        ∙ (λ i. has_layer_on nat_eq number (without_tree (record one { overlay = sym e i })))
    by (Some overlay) e = (λ i. has_layer_on nat_eq number (record one { overlay = e i }))
        ∙ (λ i. has_layer_on nat_eq number (without_tree (record one { overlay = sym e i })))

roots_alone : (number root : ℕ) (one : Filesystem ℕ)
    → is_lower_root nat_eq number root one ≡ is_lower_root nat_eq number root (without_tree one)
roots_alone number root one = by one.overlay refl
  where
    by : (o : Option (Overlay ℕ)) → one.overlay ≡ o
        → is_lower_root nat_eq number root one ≡ is_lower_root nat_eq number root (without_tree one)
    by None e = (λ i. is_lower_root nat_eq number root (record one { overlay = e i }))
        ∙ (λ i. is_lower_root nat_eq number root (without_tree (record one { overlay = sym e i })))
    by (Some overlay) e = (λ i. is_lower_root nat_eq number root (record one { overlay = e i }))
        ∙ (λ i. is_lower_root nat_eq number root (without_tree (record one { overlay = sym e i })))

changes_alone : (one : Filesystem ℕ) → change_layers one ≡ change_layers (without_tree one)
changes_alone one = by one.overlay refl
  where
    by : (o : Option (Overlay ℕ)) → one.overlay ≡ o → change_layers one ≡ change_layers (without_tree one)
    by None e = (λ i. change_layers (record one { overlay = e i }))
        ∙ (λ i. change_layers (without_tree (record one { overlay = sym e i })))
    by (Some overlay) e = (λ i. change_layers (record one { overlay = e i }))
        ∙ (λ i. change_layers (without_tree (record one { overlay = sym e i })))

-- What is found under a number

abbrev found : ℕ → List (Filesystem ℕ) → Filesystem ℕ
found number all = unwrap_or (find (λ (one : Filesystem ℕ). nat_eq number one.number) all) (no_filesystem number)

plain_unchanged : (one : Filesystem ℕ) → is_overlay one ≡ false → change_layers one ≡ []
plain_unchanged one plain = by one.overlay refl
  where
    by : (o : Option (Overlay ℕ)) → one.overlay ≡ o → change_layers one ≡ []
    by None e = λ i. change_layers (record one { overlay = e i })
    by (Some overlay) e = absurd (true≢false (sym (ap is_some e) ∙ plain))

module _ (number : ℕ) where
  -- no overlay has a number that no filesystem has
  none_over : (all : List (Filesystem ℕ)) → list_any (λ (one : Filesystem ℕ). nat_eq number one.number) all ≡ false
      → find (λ (one : Filesystem ℕ). nat_eq number one.number) (filter is_overlay all) ≡ None
  none_over [] none = refl
  none_over (one ∷ all) none =
      let parts = or_parts (nat_eq number one.number) _ none in
      by (is_overlay one) parts.0 (none_over all parts.1)
    where
      by : (b : Bool) → nat_eq number one.number ≡ false
          → find (λ (one : Filesystem ℕ). nat_eq number one.number) (filter is_overlay all) ≡ None
          → find (λ (one : Filesystem ℕ). nat_eq number one.number)
          (cond b (one ∷ filter is_overlay all) (filter is_overlay all)) ≡ None
      by true other rest =
          (λ i. cond (other i) (Some one) (find (λ (one : Filesystem ℕ). nat_eq number one.number) (filter is_overlay all)))
          ∙ rest
      by false other rest = rest

  -- what changes are written to is asked of overlays alone
  over_alone : (all : List (Filesystem ℕ)) → any_pair (λ (a b : Filesystem ℕ). nat_eq a.number b.number) all ≡ false
      → change_layers (found number all) ≡ change_layers (found number (filter is_overlay all))
  over_alone [] apart = refl
  over_alone (one ∷ all) apart =
      let parts = or_parts (list_any (λ (b : Filesystem ℕ). nat_eq one.number b.number) all) _ apart in
      by (nat_eq number one.number) refl (is_overlay one) refl parts.0 (over_alone all parts.1)
    where
      rest : Option (Filesystem ℕ)
      rest = find (λ (one : Filesystem ℕ). nat_eq number one.number) all

      rest_over : Option (Filesystem ℕ)
      rest_over = find (λ (one : Filesystem ℕ). nat_eq number one.number) (filter is_overlay all)

      by : (same : Bool) → nat_eq number one.number ≡ same → (over : Bool) → is_overlay one ≡ over
          → list_any (λ (b : Filesystem ℕ). nat_eq one.number b.number) all ≡ false
          → change_layers (unwrap_or rest (no_filesystem number))
          ≡ change_layers (unwrap_or rest_over (no_filesystem number))
          → change_layers (unwrap_or (cond same (Some one) rest) (no_filesystem number))
          ≡ change_layers (found number (cond over (one ∷ filter is_overlay all) (filter is_overlay all)))
      by true same true over others later = λ i. change_layers (unwrap_or (cond (sym same i) (Some one) rest_over)
          (no_filesystem number))
      by true same false over others later = plain_unchanged one over
          ∙ sym (ap (λ o. change_layers (unwrap_or o (no_filesystem number))) (none_over all
          (ap (λ n. list_any (λ (b : Filesystem ℕ). nat_eq n b.number) all) (eqb-true number one.number same) ∙ others)))
      by false same true over others later = later
          ∙ (λ i. change_layers (unwrap_or (cond (sym same i) (Some one) rest_over) (no_filesystem number)))
      by false same false over others later = later

  -- and of layers alone
  without_alone : (all : List (Filesystem ℕ))
      → change_layers (found number all) ≡ change_layers (found number (map without_tree all))
  without_alone [] = refl
  without_alone (one ∷ all) = by (nat_eq number one.number) (without_alone all)
    where
      by : (b : Bool) → change_layers (found number all) ≡ change_layers (found number (map without_tree all))
          → change_layers (unwrap_or (cond b (Some one) (find (λ (one : Filesystem ℕ). nat_eq number one.number) all))
          (no_filesystem number))
          ≡ change_layers (unwrap_or (cond b (Some (without_tree one))
          (find (λ (one : Filesystem ℕ). nat_eq number one.number) (map without_tree all))) (no_filesystem number))
      by true rest = changes_alone one
      by false rest = rest

-- A layer is in a plain filesystem that is there

nowhere : (count number : ℕ) → is_directory_node ((files_seen (no_entry count)).tree.node number) ≡ false
nowhere count number = refl

-- the number of a plain filesystem
abbrev IsPlain : Filesystems → ℕ → Type 0
IsPlain plain number = (count : ℕ) × (number ≡ counted count) × (is_some (entry_of plain count) ≡ true)

there : (plain : Filesystems) (number : ℕ) (layer : LayerRef) → IsLayer plain layer
    → nat_eq number (counted layer.directory.filesystem.count) ≡ true → IsPlain plain number
there plain number layer is same = (
  layer.directory.filesystem.count,
  eqb-true number (counted layer.directory.filesystem.count) same,
  by (entry_of plain layer.directory.filesystem.count) refl is.directory,
)
  where
    by : (o : Option FilesystemEntry) → entry_of plain layer.directory.filesystem.count ≡ o
        → is_directory_node ((files_seen (unwrap_or o (no_entry layer.directory.filesystem.count))).tree.node
        (inode_of layer.directory)) ≡ true
        → is_some (entry_of plain layer.directory.filesystem.count) ≡ true
    by None e directory = absurd (true≢false (sym directory ∙ nowhere layer.directory.filesystem.count
        (inode_of layer.directory)))
    by (Some entry) e directory = ap is_some e

layer_there : (plain : Filesystems) (number : ℕ) (layers : List LayerRef) → AreLayers plain layers
    → list_any (stands_in number) layers ≡ true → IsPlain plain number
layer_there plain number [] are some = absurd (true≢false (sym some))
layer_there plain number (layer ∷ layers) are some = ⊎_elim (there plain number layer (are 0 layer refl))
    (layer_there plain number layers (λ place layer at. are (suc place) layer at))
    (or_cases (nat_eq number (counted layer.directory.filesystem.count)) _ some)

-- the lower layers are among all layers
lowers_are : (plain : Filesystems) (overlay : OverlayValue) (above : Option Above) → AreLayers plain overlay.lowers
    → AreLayers plain (lower_layers overlay above)
lowers_are plain overlay None are = are
lowers_are plain overlay (Some above) are = by overlay.lowers are
  where
    by : (layers : List LayerRef) → AreLayers plain layers → AreLayers plain (drop 1 layers)
    by [] are = are
    by (top ∷ layers) are = λ place layer at. are (suc place) layer at

-- a lower layer of an overlay is in a filesystem
abbrev has_lower_in : ℕ → OverlayEntry → Bool
has_lower_in number entry = list_any (stands_in number) (lower_layers entry.overlay entry.above)

overlay_there : (plain : Filesystems) (number : ℕ) (entries : List OverlayEntry) → All (StandsOnLayers plain) entries
    → list_any (has_lower_in number) entries ≡ true → IsPlain plain number
overlay_there plain number [] stand some = absurd (true≢false (sym some))
overlay_there plain number (entry ∷ entries) stand some =
    ⊎_elim (layer_there plain number (lower_layers entry.overlay entry.above)
    (lowers_are plain entry.overlay entry.above (All-head (StandsOnLayers plain) entry entries stand).layers))
    (overlay_there plain number entries (All-tail (StandsOnLayers plain) entry entries stand))
    (or_cases (has_lower_in number entry) _ some)

module _ (world : World ℕ) (sealing : Sealing) (shows : IsShown world sealing)
    (standing : StandOnLayers sealing.store.now) where
  abbrev names : List TaskName
  names = sealing.names.now

  abbrev looked : World ℕ
  looked = world_seen sealing

  -- the world, with what is looked at in the place of what it has
  abbrev beside : World ℕ
  beside = record world {
    tasks = sealing.tasks.now.tasks;
    mounts = mounts_in sealing.mounts.now;
    master = master_in sealing.groups.now;
  }

  same_world : beside ≡ world
  same_world = λ i. record world {
    tasks = shows.tasks i;
    mounts = shows.mounts i;
    master = λ group. shows.masters group i;
  }

  -- what is asked of overlays without their trees
  asked_all : (test : Filesystem ℕ → Bool) → ((one : Filesystem ℕ) → test one ≡ test (without_tree one))
      → list_all test (overlays world) ≡ list_all test (overlays looked)
  asked_all test alone = all_same test (λ one. test (without_tree one)) alone (overlays world)
      ∙ sym (all_mapped test without_tree (overlays world)) ∙ ap (list_all test) (sym shows.overlays)
      ∙ ap (list_all test) (sym (overlays_looked sealing))

  asked_any : (test : Filesystem ℕ → Bool) → ((one : Filesystem ℕ) → test one ≡ test (without_tree one))
      → list_any test (overlays world) ≡ list_any test (overlays looked)
  asked_any test alone = any_same test (λ one. test (without_tree one)) alone (overlays world)
      ∙ sym (any_mapped test without_tree (overlays world)) ∙ ap (list_any test) (sym shows.overlays)
      ∙ ap (list_any test) (sym (overlays_looked sealing))

  alone_alike : (number : ℕ) → used_alone nat_eq beside names number ≡ used_alone nat_eq looked names number
  alone_alike number = ap (λ b. no_outsider_on nat_eq looked names number && b) (asked_all
      (λ (merged : Filesystem ℕ). not (has_layer_on nat_eq number merged)
      || no_outsider_on nat_eq looked names merged.number)
      (λ one. ap (λ b. not b || no_outsider_on nat_eq looked names one.number) (layers_alone number one)))

  abbrev locks : ℕ → ℕ → Filesystem ℕ → Bool
  locks number root merged =
      is_lower_root nat_eq number root merged && used_alone nat_eq looked names merged.number

  locks_alike : (number root : ℕ) → list_any (λ (merged : Filesystem ℕ). is_lower_root nat_eq number root merged
      && used_alone nat_eq beside names merged.number) (overlays world)
      ≡ list_any (locks number root) (overlays looked)
  locks_alike number root =
      any_same _ (locks number root) (λ merged.
      ap (λ b. is_lower_root nat_eq number root merged && b) (alone_alike merged.number)) (overlays world)
      ∙ asked_any (locks number root) (λ one.
      ap (λ b. b && used_alone nat_eq looked names one.number) (roots_alone number root one))

  -- where no layer is, no root is a layer
  no_root_layer : (number root : ℕ) (layers : List LayerRef)
      → list_any (stands_in number) layers ≡ false
      → list_any (λ (layer : LayerRef). stands_in number layer && nat_eq root (inode_of layer.directory)) layers ≡ false
  no_root_layer number root [] none = refl
  no_root_layer number root (layer ∷ layers) none =
      let parts = or_parts (nat_eq number (counted layer.directory.filesystem.count)) _ none in
      (λ i. (parts.0 i && nat_eq root (inode_of layer.directory)) || no_root_layer number root layers parts.1 i)

  no_locks : (number root : ℕ) (entries : List OverlayEntry)
      → list_any (has_lower_in number) entries ≡ false
      → list_any (λ (entry : OverlayEntry). has_root_layer number root entry.overlay entry.above
      && used_alone nat_eq looked names (counted entry.count)) entries ≡ false
  no_locks number root [] none = refl
  no_locks number root (entry ∷ entries) none =
      let parts = or_parts (has_lower_in number entry) _ none in
      (λ i. (no_root_layer number root (lower_layers entry.overlay entry.above) parts.0 i
      && used_alone nat_eq looked names (counted entry.count)) || no_locks number root entries parts.1 i)

  abbrev trees : ℕ → World ℕ → Bool
  trees number shown = list_any (locks number (filesystem_numbered nat_eq shown number).files.tree.root) (overlays looked)
      && all_named nat_eq (filesystem_numbered nat_eq shown number).files

  trees_alike : (number : ℕ) → trees number world ≡ trees number looked
  trees_alike number =
      by (list_any (has_lower_in number) sealing.store.now.overlays) refl
    where
      plain : Filesystems
      plain = sealing.store.now.plain

      kept : (count : ℕ) (o : Option FilesystemEntry) → entry_of plain count ≡ o → is_some o ≡ true
          → files_at plain count ≡ (filesystem_numbered nat_eq looked (counted count)).files
      kept count None e some = absurd (true≢false (sym some))
      kept count (Some entry) e some =
          ap (λ (o : Option FilesystemEntry). files_seen (unwrap_or o (no_entry count))) e
          ∙ sym (ap (λ (one : Filesystem ℕ). one.files) (plain_looked sealing count entry e))

      never : (root : ℕ)
          → list_any (has_lower_in number) sealing.store.now.overlays
          ≡ false → list_any (locks number root) (overlays looked) ≡ false
      never root none =
          locked_looked sealing number root ∙ no_locks number root sealing.store.now.overlays none

      by : (b : Bool)
          → list_any (has_lower_in number) sealing.store.now.overlays
          ≡ b → trees number world ≡ trees number looked
      by true e =
          let here : IsPlain plain number = overlay_there plain number sealing.store.now.overlays standing e in
          let same : (filesystem_numbered nat_eq world (counted here.0)).files
          ≡ (filesystem_numbered nat_eq looked (counted here.0)).files =
          sym (shows.trees here.0 here.2) ∙ kept here.0 (entry_of plain here.0) refl here.2 in
          ap (λ (files : FileTree ℕ). list_any (locks number files.tree.root) (overlays looked)
          && all_named nat_eq files) (subst (λ n. (filesystem_numbered nat_eq world n).files
          ≡ (filesystem_numbered nat_eq looked n).files) (sym here.1) same)
      by false e =
          ap (λ b. b && all_named nat_eq (filesystem_numbered nat_eq world number).files) (never _ e)
          ∙ sym (ap (λ b. b && all_named nat_eq (filesystem_numbered nat_eq looked number).files) (never _ e))

  locked_alike : (number : ℕ) → wholly_locked nat_eq beside names number ≡ wholly_locked nat_eq looked names number
  locked_alike number =
      ap (λ b. b && all_named nat_eq (filesystem_numbered nat_eq world number).files)
      (locks_alike number (filesystem_numbered nat_eq world number).files.tree.root)
      ∙ trees_alike number

  -- what changes are written to
  written_alike : (number : ℕ) → change_layers (filesystem_numbered nat_eq world number)
      ≡ written_under sealing.store.now.overlays number
  written_alike number = over_alone number world.filesystems shows.apart
      ∙ without_alone number (filter is_overlay world.filesystems)
      ∙ ap (λ all. change_layers (found number all)) (sym shows.overlays)

  secured_alike : list_all (λ filesystem. used_alone nat_eq beside names filesystem
      || wholly_locked nat_eq beside names filesystem) (used_filesystems nat_eq beside names)
      ≡ list_all (secured sealing) (filesystems_in_use sealing)
  secured_alike = all_same _ (secured sealing) (λ number i. alone_alike number i || locked_alike number i)
      (used_filesystems nat_eq beside names)
      ∙ all_once (secured sealing) _
      ∙ ap (λ more. list_all (secured sealing) (used_directly nat_eq looked names ++ more))
      (adding_same (λ number. change_layers (filesystem_numbered nat_eq world number))
      (written_under sealing.store.now.overlays) written_alike (used_directly nat_eq looked names))

  pub sealed_alike : (holds_all_tasks nat_eq looked names && shares_no_events nat_eq looked names
      && no_outsider_on_mounts nat_eq looked names
      && list_all (secured sealing) (filesystems_in_use sealing)) ≡ sealed nat_eq world names
  unfolding sealed
  sealed_alike = ap (λ b. holds_all_tasks nat_eq looked names && shares_no_events nat_eq looked names
      && no_outsider_on_mounts nat_eq looked names && b) (sym secured_alike)
      ∙ ap (λ (w : World ℕ). sealed nat_eq w names) same_world
