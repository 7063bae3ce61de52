-- Once the layers of a new overlay are held, plain filesystems count them as their own, all mounts show directories
-- that are there, and all inodes are in use.
use Rattle.std.proofs.Common.{◌≡◌, refl, sym, ap, ◌∙◌, ⊎_elim, ℕ, ◌+◌, nat_eq, lt-ltb, true, cond, ◌||◌, List, [], ◌∷◌, ◌++◌, map, flat_map, Option, Some, None, unwrap_or, arith, option_to_list, ltb-true, ne_eqb}
use Rattle.vt_spec.proofs.Common.{All-weaker, Filesystem, Layer, Location, SameFilesystem, SameWorlds, World, and_from, and_parts, filesystem_numbered, has_its_root, is_among, is_directory_at, is_directory_node, layers_in, layers_of, list_all, list_any-IsPermutation, located_in, mount_at, named_in, nat_eq_turned, no_filesystem, objects_of_overlay, of_overlay, or_cases, overlay_or, used_in}
use Rattle.vt_mounting.proofs.Common.{Among, CountsItsMounts, FilesystemEntry, Filesystems, Inode, InodesInUse, Shown, WorldValue, alike_from_same, all_in_use, among_from_all, among_from_list_all, counted, directory_is_there, filesystems_seen, has_only_named, inode_uses, is_among_left, is_inode_used, layer_count, layer_seen, list_all_from_among, mounts_in, mounts_showing, or_left, or_right, overlay_of_store, overlay_seen, overlays_seen, times, world_of, woven}
use Rattle.vt_laws_mounts.proofs.letting_go.sweeps.UsesCounted.{used_while_counted}
use Rattle.vt_laws_trees.proofs.runs.answered.AlikeSettled.{used_permuted}
use Rattle.vt_laws_worlds.proofs.one_text.same.SameInvariants.{roots_keep}
use Rattle.vt_laws_trees.proofs.runs.EachHas.{each_holds}
use Rattle.vt_laws_trees.proofs.runs.Each.{each_flat}
use Rattle.vt_laws_trees.proofs.runs.Permuted.{list_all-IsPermutation}
use Rattle.vt_overlay.specs.declared.merge.layers.LayerRef.{LayerRef}
use Rattle.vt_store.specs.OverlaysValue as stored
use Rattle.vt_mounting.specs.Detach.Stored.{layer_of}
use Rattle.vt_mounting.proofs.attach.NewBase.{found_before}
use Rattle.vt_mounting.proofs.attach.NewFilesystems.{found_below}
use Rattle.vt_mounting.proofs.attach.NewOverlay.{all_last}
use Rattle.vt_mounting.proofs.attach.NewOverlayBase.{was_before}
use Rattle.vt_mounting.proofs.attach.NewOverlaySame.{same_with_layers_held}
use Rattle.vt_mounting.proofs.attach.NewOverlayUses.{LayersHeld, layers_more_there, overlay_last, uses_then}
use Rattle.vt_mounting.proofs.detach.LowerKept.{layers_are, no_objects}

-- Worlds that are the same but for change numbers and the order of the numbers beside trees

module _ (one other : World ℕ) (same : SameWorlds one other) where
  -- overlays have as many layers in each filesystem
  same_worlds_count_layers_alike : (number : ℕ) → layer_count one number ≡ layer_count other number
  same_worlds_count_layers_alike number = ap (times (λ (layer : Layer ℕ). nat_eq number layer.filesystem))
      (each_flat SameFilesystem (of_overlay [] layers_of) (of_overlay [] layers_of)
      (λ first second known. ap (overlay_or [] layers_of) known.overlay)
      one.filesystems other.filesystems (alike_from_same one other same).filesystems)

  -- where all inodes of one are in use, so are those of the other
  same_worlds_use_inodes_alike : InodesInUse one → InodesInUse other
  same_worlds_use_inodes_alike = each_holds SameFilesystem (λ f. list_all (is_inode_used one f) f.files.numbers ≡ true)
      (λ f. list_all (is_inode_used other f) f.files.numbers ≡ true)
      (λ a b alike is. sym (used_alike a b alike) ∙ is) one.filesystems other.filesystems
      (alike_from_same one other same).filesystems
    where
      used_alike : (a b : Filesystem ℕ) → SameFilesystem a b
          → list_all (is_inode_used one a) a.files.numbers ≡ list_all (is_inode_used other b) b.files.numbers
      used_alike a b alike =
          list_all-IsPermutation (is_inode_used one a) a.files.numbers b.files.numbers alike.files.numbers
          ∙ (λ i. list_all (λ number. list_any-IsPermutation (nat_eq number) (used_in nat_eq one a)
          (used_in nat_eq other b) (used_permuted one other (alike_from_same one other same) a b alike) i)
          b.files.numbers)

-- the layers in a filesystem are the uses that are held there
held_there : (number : ℕ) (lowers : List LayerRef)
    → times (λ (layer : Layer ℕ). nat_eq number layer.filesystem) (map layer_seen lowers)
    ≡ times (λ (inode : Inode). nat_eq inode.0 number) (map layer_of lowers)
held_there number [] = refl
held_there number (first ∷ rest) = λ i.
    cond (nat_eq_turned number (counted first.directory.filesystem.count) i) 1 0 + held_there number rest i

module _ {value : WorldValue} {base : Filesystems} {entry : stored.OverlayEntry} (it : LayersHeld value base entry) where
  open it use {whole, are, no_upper, count_is, held}

  abbrev world : World ℕ
  world = world_of value

  abbrev over : Filesystem ℕ
  over = overlay_seen (overlay_of_store base entry)

  abbrev layers : List Inode
  layers = map layer_of entry.overlay.lowers

  abbrev last : World ℕ
  last = overlay_last value base entry

  abbrev over_base : World ℕ
  over_base = record (world_of value) {
    filesystems = woven (filesystems_seen base) (overlays_seen (value.overlays ++ overlay_of_store base entry ∷ []));
  }

  same_when_held : SameWorlds last over_base
  same_when_held = same_with_layers_held whole base entry layers count_is held

  -- Mounts and layers are counted

  layers_when_held : (number : ℕ) → layer_count over_base number
      ≡ layer_count world number + times (λ (inode : Inode). nat_eq inode.0 number) layers
  layers_when_held number = sym (same_worlds_count_layers_alike last over_base same_when_held number)
      ∙ layers_more_there world over {layers = map layer_seen entry.overlay.lowers} (layers_are entry no_upper) (no_objects entry no_upper base) number
      ∙ ap (λ n. layer_count world number + n) (held_there number entry.overlay.lowers)

  pub mounts_when_held : (one : FilesystemEntry) → Among one base → one.mounts
      ≡ mounts_showing (world_of value) (counted one.count) + layer_count (record (world_of value) {
        filesystems = woven (filesystems_seen base) (overlays_seen (value.overlays ++ overlay_of_store base entry ∷ []));
      }) (counted one.count)
  mounts_when_held one m =
      let from = was_before it one m in
      let kept : one.mounts ≡ from.0.mounts + times (λ (inode : Inode). nat_eq inode.0 (counted from.0.count)) layers =
      ap (λ (s : Shown). s.mounts) from.2 in
      let counts = (among_from_all (CountsItsMounts world) value.filesystems whole.filesystems from.0 from.1).mounts in
      let more = layers_when_held (counted from.0.count) in
      let sum : one.mounts
      ≡ mounts_showing world (counted from.0.count) + layer_count over_base (counted from.0.count) =
      omega (arith, kept, counts, more) in
      sum ∙ ap (λ count. mounts_showing world (counted count) + layer_count over_base (counted count))
      (sym (ap (λ (s : Shown). s.count) from.2))

  -- Mounts show directories

  -- a directory that is there stays there
  stays : (number inode : ℕ)
      → is_directory_node ((filesystem_numbered nat_eq world number).files.tree.node inode) ≡ true
      → is_directory_node ((filesystem_numbered nat_eq last number).files.tree.node inode) ≡ true
  stays number inode is =
      let low = found_below value whole number inode
      (directory_is_there ((filesystem_numbered nat_eq world number).files.tree.node inode) is) in
      ap (λ (found : Option (Filesystem ℕ)).
      is_directory_node ((unwrap_or found (no_filesystem number)).files.tree.node inode))
      (found_before world.filesystems over number
      (ne_eqb number (counted entry.count) (λ same. absurd (omega (arith, low, same, count_is))))) ∙ is

  roots_last : list_all (has_its_root nat_eq last) (mounts_in value.mounts) ≡ true
  roots_last = list_all_from_among (has_its_root nat_eq last) (mounts_in value.mounts) (λ mount m.
      let parts = and_parts _ _
      (among_from_list_all (has_its_root nat_eq world) (mounts_in value.mounts) whole.in_world.roots mount
      m) in
      and_from _ _ (stays mount.filesystem mount.root parts.0) (by mount.mount_point parts.1))
    where
      by : (o : Option (Location ℕ)) → list_all (is_directory_at nat_eq world) (option_to_list o) ≡ true
          → list_all (is_directory_at nat_eq last) (option_to_list o) ≡ true
      by None is = refl
      by (Some location) is =
          and_from _ _ (stays (mount_at nat_eq world location).filesystem location.node (and_parts _ _ is).0) refl

  pub roots_when_held : list_all (has_its_root nat_eq (record (world_of value) {
    filesystems = woven (filesystems_seen base) (overlays_seen (value.overlays ++ overlay_of_store base entry ∷ []));
  })) (mounts_in value.mounts) ≡ true
  roots_when_held = roots_keep last over_base (alike_from_same last over_base same_when_held) roots_last

  -- Inodes are in use

  -- what is used is used
  used_still : (f : Filesystem ℕ) (number : ℕ) → is_inode_used world f number ≡ true
      → is_inode_used last f number ≡ true
  used_still f number is =
      let some = ltb-true 0 (inode_uses world f number) (sym (used_while_counted world f number) ∙ is) in
      let more = uses_then world over {layers = map layer_seen entry.overlay.lowers} (layers_are entry no_upper) (no_objects entry no_upper base) f number in
      used_while_counted last f number ∙ lt-ltb 0 (inode_uses last f number) (omega (arith, some, more))

  -- what has a name is used
  named_used : (f : Filesystem ℕ) → has_only_named f ≡ true → list_all (is_inode_used last f) f.files.numbers ≡ true
  named_used f named = list_all_from_among (is_inode_used last f) f.files.numbers (λ number m.
      ⊎_elim (λ root. or_left (nat_eq number f.files.tree.root) (is_among nat_eq number others) root)
      (λ name. or_right (nat_eq number f.files.tree.root) (is_among nat_eq number others)
      (is_among_left number (named_in f.files ++ located_in nat_eq last f.number ++ layers_in nat_eq last f.number)
      (flat_map (objects_of_overlay nat_eq f.number) last.filesystems)
      (is_among_left number (named_in f.files ++ located_in nat_eq last f.number) (layers_in nat_eq last f.number)
      (is_among_left number (named_in f.files) (located_in nat_eq last f.number) name))))
      (or_cases (nat_eq number f.files.tree.root) (is_among nat_eq number (named_in f.files))
      (among_from_list_all (λ n. nat_eq n f.files.tree.root || is_among nat_eq n (named_in f.files)) f.files.numbers
      named number m)))
    where
      others : List ℕ
      others = named_in f.files ++ located_in nat_eq last f.number ++ layers_in nat_eq last f.number
          ++ flat_map (objects_of_overlay nat_eq f.number) last.filesystems

  in_use_last : has_only_named over ≡ true → InodesInUse last
  in_use_last named =
      all_last (λ (f : Filesystem ℕ). list_all (is_inode_used last f) f.files.numbers ≡ true) world.filesystems over
      (All-weaker (λ (f : Filesystem ℕ). list_all (is_inode_used world f) f.files.numbers ≡ true)
      (λ f. list_all (is_inode_used last f) f.files.numbers ≡ true)
      (λ f used. list_all_from_among (is_inode_used last f) f.files.numbers (λ number m.
      used_still f number (among_from_list_all (is_inode_used world f) f.files.numbers used number m)))
      world.filesystems (all_in_use world whole.in_world).inodes) (named_used over named)

  pub in_use_when_held : has_only_named (overlay_seen (overlay_of_store base entry)) ≡ true
      → InodesInUse (record (world_of value) {
        filesystems = woven (filesystems_seen base) (overlays_seen (value.overlays ++ overlay_of_store base entry ∷ []));
      })
  in_use_when_held named = same_worlds_use_inodes_alike last over_base same_when_held (in_use_last named)
