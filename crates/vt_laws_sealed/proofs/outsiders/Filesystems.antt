-- Filesystems that a set of tasks uses are there, and a new one is none of them.
use Rattle.std.proofs.Common.{inr, arith, ◌≡◌, refl, sym, ap, subst, ◌∙◌, inl, ⊎_elim, ℕ, nat_eq, true, false, cond, true≢false, List, [], ◌∷◌, ◌++◌, append-nil, Option, Some, None, filter, find, flat_map, is_some, map, not, ◌&&◌, eqb-true, option_to_list, unwrap_or, filter_map}
use Rattle.vt_spec.proofs.Common.{Among, Filesystem, Fresh, Layer, Mount, Namespace, Overlay, Serves, TaskName, World, all_locations, among-append, among-append_left, among-append_right, among-flat_map, among-from_filter, among-from_flat_map, among-from_map, among-map, among_from_contains, among_from_list_all, among_numbers, and_parts, change_layers, common_steps, cons_option, directory_used, false_from_ne_true, filesystem_numbered, filter-append, filter_map-append, found_among, is_among, is_among_left, is_among_numbers, is_among_right, is_directory_node, is_member_task, is_overlay, is_own_mount, is_plain_layer, is_under, layers_of, list_all, list_any, locations, locations_of, members, mount_at, no_filesystem, none_from_among, numbers_in_use, of_overlay, only_among, overlay_or, overlays, own_lowers, own_mounts, used_by_filesystem, used_by_mount, used_directly, used_filesystems, when}
use Rattle.vt_laws_sealed.specs.Part.Parts.{SeesTheSame, shown_of}
use Rattle.vt_laws_sealed.specs.Part.Seals.{IsApart}
use Rattle.vt_laws_sealed.proofs.part.Kept.{among-from_each_once, filter_map_same}
use Rattle.vt_laws_sealed.proofs.outsiders.Staying.{IsOfTheWorld}
use Rattle.vt_laws_sealed.proofs.Common.{cases_Option}

module _ {world : World ℕ} {names : List TaskName} (apart : IsApart world names) where
  abbrev numbers : List ℕ
  numbers = map (λ (filesystem : Filesystem ℕ). filesystem.number) world.filesystems

  -- where an inode is, a filesystem is
  there_by_node : (number object : ℕ)
      → is_some ((filesystem_numbered nat_eq world number).files.tree.node object) ≡ true
      → is_among nat_eq number numbers ≡ true
  there_by_node number object = search world.filesystems
    where
      search : (list : List (Filesystem ℕ))
          → is_some ((unwrap_or (find (λ (f : Filesystem ℕ). nat_eq number f.number) list)
          (no_filesystem number)).files.tree.node object) ≡ true
          → is_among nat_eq number (map (λ (f : Filesystem ℕ). f.number) list) ≡ true
      search [] h = cc
      search (f ∷ rest) h = grind (arith, common_steps, search rest)

  -- a mount shows a filesystem that is there, and so does the mount of a location
  directly_there : (number : ℕ) → Among number (used_directly nat_eq world names)
      → is_among nat_eq number numbers ≡ true
  directly_there number m = ⊎_elim (λ shown.
      let mount = among-from_map (λ (x : Mount ℕ). x.filesystem) (own_mounts nat_eq world names) number shown in
      let rooted = and_parts (is_directory_node ((filesystem_numbered nat_eq world mount.0.filesystem).files.tree.node
      mount.0.root)) _ (among_from_list_all _ world.mounts apart.is.roots mount.0
      (among-from_filter (is_own_mount nat_eq world names) world.mounts mount.0 mount.1).0) in
      ap (λ n. is_among nat_eq n numbers) mount.2 ∙ there_by_node mount.0.filesystem mount.0.root
      (directory_used (filesystem_numbered nat_eq world mount.0.filesystem).files.tree mount.0.root rooted.0))
      (λ located.
      let location = among-from_map _ (locations (members world names)) number located in
      let task = among-from_flat_map locations_of (members world names) location.0 location.1 in
      let well = and_parts (is_among nat_eq location.0.mount (map (λ (x : Mount ℕ). x.number) world.mounts))
      (is_some ((filesystem_numbered nat_eq world (mount_at nat_eq world location.0).filesystem).files.tree.node
      location.0.node)) (among_from_list_all _ (all_locations world) apart.is.tasks.locations_live location.0
      (among-flat_map locations_of world.tasks task.0 location.0 (among-from_filter (is_member_task names) world.tasks
      task.0 task.1).0 task.2)) in
      cc (location.2, there_by_node (mount_at nat_eq world location.0).filesystem location.0.node well.1))
      (among-append (map (λ (x : Mount ℕ). x.filesystem) (own_mounts nat_eq world names)) _ number m)

  -- a layer of an overlay is in one
  layer_there : (merged : Filesystem ℕ) → Among merged world.filesystems → (layer : Layer ℕ)
      → Among layer (of_overlay [] layers_of merged) → is_among nat_eq layer.filesystem numbers ≡ true
  layer_there merged there layer m = elim (cases_Option merged.overlay) [
    | inl e ↦ absurd (subst (Among layer) (ap (overlay_or [] layers_of) e) m)
    | inr its ↦ there_by_node layer.filesystem layer.directory
        (directory_used (filesystem_numbered nat_eq world layer.filesystem).files.tree layer.directory
        (and_parts (not (is_overlay (filesystem_numbered nat_eq world layer.filesystem)))
        (is_directory_node ((filesystem_numbered nat_eq world layer.filesystem).files.tree.node layer.directory))
        (among_from_list_all (is_plain_layer nat_eq world) (layers_of its.0)
        (sym (ap (overlay_or true (λ o. list_all (is_plain_layer nat_eq world) (layers_of o))) its.1)
        ∙ among_from_list_all (of_overlay true (λ o. list_all (is_plain_layer nat_eq world) (layers_of o)))
        world.filesystems apart.is.overlays.plain_layers merged there)
        layer (subst (Among layer) (ap (overlay_or [] layers_of) its.1) m))).1)
  ]

  -- of a filesystem that is found, layers are in filesystems that are there
  found_layer_there : (number : ℕ) (some : Overlay ℕ → List (Layer ℕ))
      → ((overlay : Overlay ℕ) (layer : Layer ℕ) → Among layer (some overlay) → Among layer (layers_of overlay))
      → (layer : Layer ℕ) → Among layer (of_overlay [] some (filesystem_numbered nat_eq world number))
      → is_among nat_eq layer.filesystem numbers ≡ true
  found_layer_there number some within layer = by _ refl
    where
      up : (o : Option (Overlay ℕ)) → Among layer (overlay_or [] some o) → Among layer (overlay_or [] layers_of o)
      up None m = m
      up (Some overlay) m = within overlay layer m

      by : (o : Option (Filesystem ℕ)) → find (λ (f : Filesystem ℕ). nat_eq number f.number) world.filesystems ≡ o
          → Among layer (of_overlay [] some (unwrap_or o (no_filesystem number)))
          → is_among nat_eq layer.filesystem numbers ≡ true
      by o e m = grind (arith, common_steps, layer_there, found_among, up)

  lower_there : (layer : Layer ℕ) → Among layer (own_lowers nat_eq world names)
      → is_among nat_eq layer.filesystem numbers ≡ true
  lower_there layer m = search (arith, common_steps, among-from_flat_map, found_layer_there, among-append_right)

  -- each filesystem that they use
  pub used_there : (number : ℕ) → Among number (used_filesystems nat_eq world names)
      → is_among nat_eq number numbers ≡ true
  used_there number m = ⊎_elim (directly_there number) (λ layered.
      let from = among-from_flat_map (λ n. change_layers (filesystem_numbered nat_eq world n))
      (used_directly nat_eq world names) number layered in
      changed (filesystem_numbered nat_eq world from.0) number from.2
      (λ layer n. found_layer_there from.0 (λ overlay. option_to_list overlay.upper ++ option_to_list overlay.work)
      (λ overlay l h. among-append_left (option_to_list overlay.upper ++ option_to_list overlay.work) overlay.lowers l
      h) layer n)) (among-append (used_directly nat_eq world names) _ number
      (among-from_each_once (used_directly nat_eq world names
      ++ flat_map (λ n. change_layers (filesystem_numbered nat_eq world n)) (used_directly nat_eq world names)) number
      m))
    where
      changed : (merged : Filesystem ℕ) (number : ℕ) → Among number (change_layers merged)
          → ((layer : Layer ℕ) → Among layer (of_overlay []
          (λ overlay. option_to_list overlay.upper ++ option_to_list overlay.work) merged)
          → is_among nat_eq layer.filesystem numbers ≡ true) → is_among nat_eq number numbers ≡ true
      changed merged number h there = grind (arith, common_steps, among-from_map)

  pub of_the_world_there : (number : ℕ) → IsOfTheWorld world names number → is_among nat_eq number numbers ≡ true
  of_the_world_there number of = ⊎_elim (λ there. there) (used_there number) of

  -- A new number is of none of them.
  module _ (fresh : Fresh ℕ) (serves : Serves nat_eq world fresh) where
    there_not_new : (number k : ℕ) → is_among nat_eq number numbers ≡ true → number ≡ fresh k → ⊥
    there_not_new number k there e =
        let at = among-from_map _ world.filesystems number (among_numbers numbers number there) in
        true≢false (sym (is_among_left number (flat_map used_by_mount world.mounts ++ flat_map used_by_filesystem
        world.filesystems) (map (λ (namespace : Namespace ℕ). namespace.number) world.namespaces)
        (is_among_right number (flat_map used_by_mount world.mounts) (flat_map used_by_filesystem world.filesystems)
        (is_among_numbers (flat_map used_by_filesystem world.filesystems) number
        (among-flat_map used_by_filesystem _ at.0 number at.1 (inl at.2))))) ∙ ap
        (λ n. is_among nat_eq n (numbers_in_use world)) e ∙ serves.unused k)

    pub not_of_the_world : (number k : ℕ) → IsOfTheWorld world names number → number ≡ fresh k → ⊥
    not_of_the_world number k of e = there_not_new number k (of_the_world_there number of) e

    -- With a new filesystem the set sees the same.
    module _ (added : Filesystem ℕ) (k : ℕ) (numbered : added.number ≡ fresh k) where
      abbrev larger : World ℕ
      larger = record world { filesystems = world.filesystems ++ added ∷ [] }

      abbrev used : List ℕ
      used = used_filesystems nat_eq world names

      abbrev lowers : List (Layer ℕ)
      lowers = own_lowers nat_eq world names

      found_still : (number : ℕ) → is_among nat_eq number numbers ≡ true
          → filesystem_numbered nat_eq larger number ≡ filesystem_numbered nat_eq world number
      found_still number = search world.filesystems
        where
          search : (list : List (Filesystem ℕ))
              → is_among nat_eq number (map (λ (f : Filesystem ℕ). f.number) list) ≡ true
              → unwrap_or (find (λ (f : Filesystem ℕ). nat_eq number f.number) (list ++ added ∷ []))
              (no_filesystem number)
              ≡ unwrap_or (find (λ (f : Filesystem ℕ). nat_eq number f.number) list) (no_filesystem number)
          search [] h = cc
          search (f ∷ rest) h = grind (arith, common_steps, search rest)

      added_unused : is_among nat_eq added.number used ≡ false
      added_unused = false_from_ne_true (is_among nat_eq added.number used) (λ h.
          there_not_new added.number k (used_there added.number (among_numbers used added.number h)) numbered)

      added_no_layer : list_any (λ (layer : Layer ℕ). nat_eq added.number layer.filesystem) lowers ≡ false
      added_no_layer =
          search (arith, common_steps, none_from_among, false_from_ne_true, there_not_new, lower_there, eqb-true)

      none_shown : shown_of larger used lowers added ≡ None
      none_shown = grind (arith, common_steps, added_unused, added_no_layer)

      pub larger_sees : SeesTheSame world larger names
      larger_sees = record {
        tasks = refl;
        mounts = refl;
        masters = λ group e. refl;
        direct = λ number m. found_still number
            (directly_there number (among_from_contains (used_directly nat_eq world names) number m));
        filesystems = filter_map-append (shown_of larger used lowers) world.filesystems (added ∷ [])
            ∙ ap (λ o. filter_map (shown_of larger used lowers) world.filesystems ++ cons_option o []) none_shown
            ∙ append-nil (filter_map (shown_of larger used lowers) world.filesystems)
            ∙ filter_map_same (shown_of larger used lowers) (shown_of world used lowers) world.filesystems
            (λ x m. ap (λ (there : Filesystem ℕ). cond (is_among nat_eq x.number used) (Some x)
            (when (list_any (λ (layer : Layer ℕ). nat_eq x.number layer.filesystem) lowers) (record x {
              files = only_among nat_eq
                  (filter (λ object. list_any (λ (layer : Layer ℕ). nat_eq x.number layer.filesystem
                  && is_under nat_eq there.files layer.directory object) lowers) x.files.numbers) x.files;
              change = 0;
            }))) (found_still x.number (is_among_numbers numbers x.number
            (among-map (λ (f : Filesystem ℕ). f.number) world.filesystems x m))));
        namespaces = refl;
      }

      pub larger_overlays : is_overlay added ≡ false → overlays larger ≡ overlays world
      larger_overlays plain = filter-append is_overlay world.filesystems (added ∷ [])
          ∙ ap (λ b. filter is_overlay world.filesystems ++ cond b (added ∷ []) []) plain
          ∙ append-nil (filter is_overlay world.filesystems)

      pub larger_with_overlay : is_overlay added ≡ true → overlays larger ≡ overlays world ++ added ∷ []
      larger_with_overlay merged = filter-append is_overlay world.filesystems (added ∷ [])
          ∙ ap (λ b. filter is_overlay world.filesystems ++ cond b (added ∷ []) []) merged
