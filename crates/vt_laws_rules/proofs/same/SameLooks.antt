-- Worlds that are the same but for change numbers and the order of numbers beside trees look alike.
use Rattle.std.proofs.Common.{◌≡◌, refl, sym, ap, subst, ◌∙◌, ℕ, ◌+◌, nat_eq, Bool, true, false, cond, not, ◌||◌, ◌&&◌, List, [], ◌∷◌, ◌++◌, map, filter, flat_map, find, Option, Some, None, is_some, option_to_list, unwrap_or, arith}
use Rattle.vt_spec.proofs.Common.{Change, Filesystem, IsPermutation-refl, Layer, Location, LowerObjectsHaveOneName, Mount, Overlay, Rules, SameFilesystem, SameFilesystems, Tree, World, attr_in, before_first, counts_as_in_layer, execute_right, filesystem_at, filesystem_numbered, has_entry_to, has_lower_directory, has_lower_directory_at, in_use, is_kind_in, is_locked, is_overlay, is_point, is_removed, layers_of, lies_in_layer, lies_only_in_lowers, lies_or_counts_under, list_any, list_any-IsPermutation, live_layers, live_upper_and_work, looks_of, mount_at, mounter_rules, no_filesystem, node_allows, of_overlay, open_layer, overlaps_one_of, overlay_or, overlay_rules, read_right, upper_and_work, upper_points, write_right, common_steps}
use Rattle.vt_laws_rules.proofs.same.SameFiles.{ancestors_same, directory_same, directory_under_same, path_same, under_same}
use Rattle.vt_laws_rules.specs.Judged.{LookAlike}
use Rattle.vt_spec.specs.declared.attributes.Kind.TheVariants.{File}
use Rattle.vt_spec.specs.declared.errors.Rule.TheVariants.{B1, B2}
use Rattle.vt_spec.specs.Machine.Filesystems.{can_give_owner, directories_asked, directories_changed, directory_of_name, object_copied, path_of_name}

abbrev numbered : ℕ → List (Filesystem ℕ) → Filesystem ℕ
numbered number list = unwrap_or (find (λ filesystem. nat_eq number filesystem.number) list) (no_filesystem number)

pub found_same : (number : ℕ) (ones others : List (Filesystem ℕ)) → SameFilesystems ones others
    → SameFilesystem (numbered number ones) (numbered number others)
found_same number [] [] same =
    record { number = refl; files = record { tree = refl; numbers = IsPermutation-refl [] }; overlay = refl }
found_same number [] (other ∷ others) same = absurd same
found_same number (one ∷ ones) [] same = absurd same
found_same number (one ∷ ones) (other ∷ others) same = subst (λ n. SameFilesystem (numbered number (one ∷ ones))
    (unwrap_or (cond (nat_eq number n) (Some other) (find (λ filesystem. nat_eq number filesystem.number) others))
    (no_filesystem number))) same.0.number (by (nat_eq number one.number) (found_same number ones others same.1))
  where
    by : (b : Bool) → SameFilesystem (numbered number ones) (numbered number others) → SameFilesystem
        (unwrap_or (cond b (Some one) (find (λ filesystem. nat_eq number filesystem.number) ones))
        (no_filesystem number))
        (unwrap_or (cond b (Some other) (find (λ filesystem. nat_eq number filesystem.number) others))
        (no_filesystem number))
    by b later = grind (arith, common_steps)

-- the layers of the overlays
layers_same : (some : Overlay ℕ → List (Layer ℕ)) (ones others : List (Filesystem ℕ)) → SameFilesystems ones others
    → flat_map (of_overlay [] some) (filter is_overlay ones) ≡ flat_map (of_overlay [] some) (filter is_overlay others)
layers_same some [] [] same = refl
layers_same some [] (other ∷ others) same = absurd same
layers_same some (one ∷ ones) [] same = absurd same
layers_same some (one ∷ ones) (other ∷ others) same =
    grind (arith, common_steps, layers_same some ones others same.1, cond, is_some)

-- some overlay passes
any_same : (test again : Filesystem ℕ → Bool)
    → ((one other : Filesystem ℕ) → SameFilesystem one other → test one ≡ again other)
    → (ones others : List (Filesystem ℕ)) → SameFilesystems ones others
    → list_any test (filter is_overlay ones) ≡ list_any again (filter is_overlay others)
any_same test again alike [] [] same = refl
any_same test again alike [] (other ∷ others) same = absurd same
any_same test again alike (one ∷ ones) [] same = absurd same
any_same test again alike (one ∷ ones) (other ∷ others) same = step test one (filter is_overlay ones) (is_overlay one)
    ∙ (λ i. cond (is_some (same.0.overlay i))
    (alike one other same.0 i || any_same test again alike ones others same.1 i)
    (any_same test again alike ones others same.1 i))
    ∙ sym (step again other (filter is_overlay others) (is_overlay other))
  where
    step : (passes : Filesystem ℕ → Bool) (first : Filesystem ℕ) (rest : List (Filesystem ℕ)) (b : Bool)
        → list_any passes (cond b (first ∷ rest) rest)
        ≡ cond b (passes first || list_any passes rest) (list_any passes rest)
    step passes first rest e = grind (arith, common_steps)

-- what the mounter of an overlay is asked
module _ (one other : Filesystem ℕ) (same : SameFilesystem one other) (overlay : Overlay ℕ) (change : Change ℕ)
    (alone : (object a b : ℕ) → lies_only_in_lowers overlay object ≡ true
    → has_entry_to nat_eq one.files.tree a object ≡ true
    → has_entry_to nat_eq one.files.tree b object ≡ true → a ≡ b) where
  named_same : (objects : List ℕ)
      → flat_map (directory_of_name nat_eq one.files) (filter (lies_only_in_lowers overlay) objects)
      ≡ flat_map (directory_of_name nat_eq other.files) (filter (lies_only_in_lowers overlay) objects)
  named_same [] = refl
  named_same (object ∷ rest) = grind (arith, common_steps, named_same rest, cond, directory_same)

  asked_same : directories_asked nat_eq one overlay change ≡ directories_asked nat_eq other overlay change
  asked_same = ap (λ directories. directories ++ directories_changed change) (named_same (object_copied change))

  abbrev rules_by : Tree ℕ → (ℕ → List ℕ) → List ℕ → Rules
  rules_by tree above asked =
      let parents : List ℕ =
      flat_map (λ directory. before_first (λ d. not (lies_only_in_lowers overlay d)) (above directory)
      ++ option_to_list (find (λ d. not (lies_only_in_lowers overlay d)) (above directory))) asked in
      let copied : List ℕ =
      filter (lies_only_in_lowers overlay) (object_copied change) ++ filter (lies_only_in_lowers overlay) parents in (
        list_any (λ number. is_kind_in File (tree.node number)
            && not (node_allows overlay.mounter read_right (tree.node number))) copied,
        B1,
      ) ∷ (
        list_any (λ number. not (node_allows overlay.mounter (write_right + execute_right) (tree.node number))) parents,
        B1,
      ) ∷ (list_any (λ number. not (can_give_owner overlay.mounter (attr_in (tree.node number)))) copied, B2) ∷ []

  rules_same : overlay_rules nat_eq one change overlay ≡ overlay_rules nat_eq other change overlay
  rules_same = λ i.
      rules_by (same.files.tree i) (λ directory. ancestors_same one.files other.files same.files directory i)
      (asked_same i)

-- a world, and one with other lists of numbers beside its trees
module _ (world : World ℕ) (others : List (Filesystem ℕ)) (same : SameFilesystems world.filesystems others) where
  abbrev other : World ℕ
  other = record world { filesystems = others }

  found : (number : ℕ)
      → SameFilesystem (filesystem_numbered nat_eq world number) (filesystem_numbered nat_eq other number)
  found number = found_same number world.filesystems others same

  here : (location : Location ℕ)
      → SameFilesystem (filesystem_at nat_eq world location) (filesystem_at nat_eq other location)
  here location = found (mount_at nat_eq world location).filesystem

  lies_same : (filesystem object : ℕ) (layer : Layer ℕ)
      → lies_in_layer nat_eq world filesystem object layer ≡ lies_in_layer nat_eq other filesystem object layer
  lies_same filesystem object layer = cc (under_same _ _ (found filesystem).files layer.directory object)

  counts_same : (filesystem object : ℕ) (layer : Layer ℕ) (merged again : Filesystem ℕ) → SameFilesystem merged again
      → counts_as_in_layer nat_eq world filesystem object layer merged
      ≡ counts_as_in_layer nat_eq other filesystem object layer again
  counts_same filesystem object layer merged again alike =
      grind (arith, common_steps, lies_same, list_any-IsPermutation)

  lies_or_counts_same : (filesystem object : ℕ) (layer : Layer ℕ)
      → lies_or_counts_under nat_eq world filesystem object layer
      ≡ lies_or_counts_under nat_eq other filesystem object layer
  lies_or_counts_same filesystem object layer = grind (arith, common_steps, lies_same, any_same, other, counts_same)

  live_same : live_layers world ≡ live_layers other
  live_same = layers_same layers_of world.filesystems others same

  live_upper_and_work_same : live_upper_and_work world ≡ live_upper_and_work other
  live_upper_and_work_same = layers_same upper_and_work world.filesystems others same

  locked_same : (filesystem object : ℕ) → is_locked nat_eq world filesystem object
      ≡ is_locked nat_eq other filesystem object
  locked_same filesystem object = λ i. list_any (λ layer. lies_or_counts_same filesystem object layer i) (live_same i)

  overlaps_same : (layers : List (Layer ℕ)) (layer : Layer ℕ)
      → overlaps_one_of nat_eq world layers layer ≡ overlaps_one_of nat_eq other layers layer
  overlaps_same layers layer = list_any-IsPermutation
      (λ object. lies_or_counts_under nat_eq world layer.filesystem object layer
      && list_any (lies_or_counts_under nat_eq world layer.filesystem object) layers)
      (filesystem_numbered nat_eq world layer.filesystem).files.numbers
      (filesystem_numbered nat_eq other layer.filesystem).files.numbers (found layer.filesystem).files.numbers
      ∙ (λ i. list_any (λ object. lies_or_counts_same layer.filesystem object layer i
      && list_any (λ one. lies_or_counts_same layer.filesystem object one i) layers)
      (filesystem_numbered nat_eq other layer.filesystem).files.numbers)

  in_use_same : (wanted : Overlay ℕ) → in_use nat_eq world wanted ≡ in_use nat_eq other wanted
  in_use_same wanted = λ i. list_any (λ layer. overlaps_same (live_same i) layer i) (upper_and_work wanted)
      || list_any (λ layer. overlaps_same (live_upper_and_work_same i) layer i) wanted.lowers

  opened_same : (layer : Layer ℕ) → open_layer nat_eq world layer ≡ open_layer nat_eq other layer
  opened_same layer = λ i. record { tree = (found layer.filesystem).files.tree i; directory = layer.directory }

  path_of_name_same : (directory : Location ℕ) (name : List ℕ)
      → path_of_name nat_eq world directory name ≡ path_of_name nat_eq other directory name
  path_of_name_same directory name = λ i.
      unwrap_or (path_same _ _ (here directory).files ((here directory).files.tree i).root directory.node i) []
      ++ (name ∷ [])

  has_lower_same : (directory : Location ℕ) (name : List ℕ)
      → has_lower_directory_at nat_eq world directory name ≡ has_lower_directory_at nat_eq other directory name
  has_lower_same directory name = λ i. overlay_or false (λ overlay. has_lower_directory
      (map (λ layer. opened_same layer i) (option_to_list overlay.upper))
      (map (λ layer. opened_same layer i) overlay.lowers) (path_of_name_same directory name i))
      ((here directory).overlay i)

  mounter_same : LowerObjectsHaveOneName nat_eq world → (location : Location ℕ) (change : Change ℕ)
      → mounter_rules nat_eq world location change ≡ mounter_rules nat_eq other location change
  mounter_same alone location change = by (filesystem_at nat_eq world location).overlay refl
      ∙ ap (overlay_or [] (overlay_rules nat_eq (filesystem_at nat_eq other location) change)) (here location).overlay
    where
      by : (o : Option (Overlay ℕ)) → (filesystem_at nat_eq world location).overlay ≡ o
          → overlay_or [] (overlay_rules nat_eq (filesystem_at nat_eq world location) change) o
          ≡ overlay_or [] (overlay_rules nat_eq (filesystem_at nat_eq other location) change) o
      by None e = refl
      by (Some overlay) e =
          rules_same (filesystem_at nat_eq world location) (filesystem_at nat_eq other location) (here location) overlay
          change (alone (mount_at nat_eq world location).filesystem overlay e)

  points_same : (location : Location ℕ)
      → filter (λ mount. list_any (λ point. is_point nat_eq world point.0 point.1 mount)
      (Rattle.vt_spec.specs.Machine.Detach.points_of nat_eq world location)) world.mounts
      ≡ filter (λ mount. list_any (λ point. is_point nat_eq world point.0 point.1 mount)
      (Rattle.vt_spec.specs.Machine.Detach.points_of nat_eq other location)) world.mounts
  points_same location = λ i.
      filter (λ (mount : Mount ℕ). list_any (λ point. is_point nat_eq world point.0 point.1 mount)
      (((here location).number i, location.node)
      ∷ overlay_or [] (λ overlay. upper_points world (filesystem_at nat_eq world location) overlay location.node)
      ((here location).overlay i))) world.mounts

  pub others_look_alike : LowerObjectsHaveOneName nat_eq world
      → LookAlike (looks_of nat_eq world) (looks_of nat_eq other)
  others_look_alike alone = record {
    namespace_called = λ name. refl;
    mount = λ number. refl;
    mount_count = refl;
    mount_tree = λ number. refl;
    mounts_over = λ location. refl;
    mounts_on = points_same;
    is_busy = λ mount. refl;
    is_written_through = λ mount. refl;
    node = λ location. λ i. ((here location).files.tree i).node location.node;
    is_removed = λ location. λ i. is_removed nat_eq ((here location).files.tree i) location.node;
    is_under = λ filesystem top directory. directory_under_same _ _ (found filesystem).files top directory;
    overlay = λ location. (here location).overlay;
    mounter_rules = mounter_same alone;
    has_lower_directory = has_lower_same;
    is_locked = λ location. locked_same (mount_at nat_eq world location).filesystem location.node;
    overlaps_one_of = overlaps_same;
    is_in_use = in_use_same;
  }
