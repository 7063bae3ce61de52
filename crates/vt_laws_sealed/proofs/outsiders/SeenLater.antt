-- What a set of tasks sees is there, where it sees the same: mounts, filesystems and lower layers.
use Rattle.std.proofs.Common.{arith, ◌≡◌, refl, sym, ap, subst, ℕ, nat_eq, Bool, true, false, cond, true≢false, List, [], ◌++◌, Option, Some, None, filter, find, flat_map, map, ◌&&◌, eqb-true, option_to_list, unwrap_or, filter_map}
use Rattle.vt_spec.proofs.Common.{Among, FileTree, Filesystem, Layer, Mount, Overlay, Task, TaskName, World, among-append_left, among-append_right, among-filter_map, among-from_filter, among-from_filter_map, among-from_flat_map, among-from_map, change_layers, common_steps, filesystem_numbered, found_among, found_passes, is_among, is_at, is_own_mount, is_under, layers_of, list_any, locations, members, no_filesystem, none_is_some, of_overlay, only_among, overlay_or, own_lowers, own_mounts, part_of, same_Some, seen_by_descriptor, used_directly, used_filesystems, when}
use Rattle.vt_laws_sealed.specs.Part.Parts.{SeesTheSame, shown_of}
use Rattle.vt_laws_sealed.proofs.part.part.Observed.{own_mounts_same}
use Rattle.vt_laws_sealed.proofs.part.part.PartOfPart.{keep, kept_how, used_directly_used}

-- A filesystem that is used is whole in a part, and so it is there where the part is the same.
module _ (used : List ℕ) (lowers : List (Layer ℕ)) where
  abbrev pub lowered_by : FileTree ℕ → Filesystem ℕ → Filesystem ℕ
  lowered_by files x = record x {
    files = only_among nat_eq (filter (λ object. list_any (λ (layer : Layer ℕ). nat_eq x.number layer.filesystem
        && is_under nat_eq files layer.directory object) lowers) x.files.numbers) x.files;
    change = 0;
  }

  pub shown_is : (a : World ℕ) (y x : Filesystem ℕ) → is_among nat_eq x.number used ≡ true
      → shown_of a used lowers y ≡ Some x → y ≡ x
  shown_is a y x is e = grind (arith, common_steps, same_Some, true≢false, none_is_some)

  pub used_across : (a b : World ℕ)
      → filter_map (shown_of a used lowers) a.filesystems ≡ filter_map (shown_of b used lowers) b.filesystems
      → (x : Filesystem ℕ) → Among x a.filesystems → is_among nat_eq x.number used ≡ true → Among x b.filesystems
  used_across a b same x m is =
      let shown : shown_of a used lowers x ≡ Some x =
      ap (λ c. cond c (Some x) (when (list_any (λ (layer : Layer ℕ). nat_eq x.number layer.filesystem) lowers)
      (lowered_by (filesystem_numbered nat_eq a x.number).files x))) is in
      let from = among-from_filter_map (shown_of b used lowers) b.filesystems x
      (subst (Among x) same (among-filter_map (shown_of a used lowers) a.filesystems x x m shown)) in
      subst (λ z. Among z b.filesystems) (shown_is b from.0 x is from.2) from.1

-- a mount at a location of theirs is in the part, whole or as a descriptor shows it
pub shown_at : (world : World ℕ) (names : List TaskName) (mount : Mount ℕ)
    → is_at nat_eq (locations (members world names)) mount ≡ true
    → (shown : Mount ℕ) × (keep world names (members world names) mount ≡ Some shown)
shown_at world names mount at = either _
  where
    either : (b : Bool) → (shown : Mount ℕ) × (cond b (Some mount)
        (when (is_at nat_eq (locations (members world names)) mount) (seen_by_descriptor mount)) ≡ Some shown)
    either true = (mount, refl)
    either false = (seen_by_descriptor mount, ap (λ b. when b (seen_by_descriptor mount)) at)

-- an upper or work layer of theirs is one of an overlay that is there
pub changed_of : (world : World ℕ) (names : List TaskName) (number : ℕ)
    → Among number (flat_map (λ n. change_layers (filesystem_numbered nat_eq world n))
    (used_directly nat_eq world names))
    → (merged : Filesystem ℕ) × Among merged world.filesystems × Among merged.number (used_directly nat_eq world names)
    × (layer : Layer ℕ) × Among layer (of_overlay [] layers_of merged) × (number ≡ layer.filesystem)
changed_of world names number m =
    let from = among-from_flat_map _ (used_directly nat_eq world names) number m in
    by from.0 from.1 (find (λ (f : Filesystem ℕ). nat_eq from.0 f.number) world.filesystems) refl from.2
  where
    up : (o : Option (Overlay ℕ)) → Among number (overlay_or [] (λ overlay. map (λ (layer : Layer ℕ). layer.filesystem)
        (option_to_list overlay.upper ++ option_to_list overlay.work)) o)
        → (layer : Layer ℕ) × Among layer (overlay_or [] layers_of o) × (number ≡ layer.filesystem)
    up o h = grind (arith, common_steps, among-from_map, among-append_left)

    by : (k : ℕ) → Among k (used_directly nat_eq world names) → (o : Option (Filesystem ℕ))
        → find (λ (f : Filesystem ℕ). nat_eq k f.number) world.filesystems ≡ o → Among number (change_layers (unwrap_or
        (find (λ (f : Filesystem ℕ). nat_eq k f.number) world.filesystems) (no_filesystem k)))
        → (merged : Filesystem ℕ) × Among merged world.filesystems
        × Among merged.number (used_directly nat_eq world names)
        × (layer : Layer ℕ) × Among layer (of_overlay [] layers_of merged) × (number ≡ layer.filesystem)
    by k direct None e h = absurd (subst (λ o. Among number (change_layers (unwrap_or o (no_filesystem k)))) e h)
    by k direct (Some merged) e h =
        let layer = up _ (subst (λ o. Among number (change_layers (unwrap_or o (no_filesystem k)))) e h) in (
          merged,
          found_among (λ (f : Filesystem ℕ). nat_eq k f.number) world.filesystems merged e,
          subst (λ n. Among n (used_directly nat_eq world names)) (eqb-true k merged.number
              (found_passes (λ (f : Filesystem ℕ). nat_eq k f.number) world.filesystems merged e)) direct,
          layer.0,
          layer.1,
          layer.2,
        )

-- What a set sees that is there: each mount that the part has, and each filesystem that the set uses.
module _ (world later : World ℕ) (names : List TaskName) (sees : SeesTheSame world later names) where
  abbrev theirs : List (Task ℕ)
  theirs = members world names

  kept_later : (mount shown : Mount ℕ) → Among mount world.mounts → keep world names theirs mount ≡ Some shown
      → (there : Mount ℕ) × Among there later.mounts × (keep world names theirs there ≡ Some shown)
  kept_later mount shown m e =
      let among : Among shown (part_of nat_eq later names).mounts =
      subst (Among shown) (sym sees.mounts) (among-filter_map (keep world names theirs) world.mounts mount shown m e) in
      let from = among-from_filter_map (keep later names (members later names)) later.mounts shown among in
      (from.0, from.1, cc (sees.tasks, from.2))

  kept_alike : (mount shown : Mount ℕ) → keep world names theirs mount ≡ Some shown
      → (shown.number ≡ mount.number) × (shown.filesystem ≡ mount.filesystem) × (shown.root ≡ mount.root)
  kept_alike mount shown e = grind (arith, common_steps, kept_how)

  -- a mount that the part has is there, with number, filesystem and root
  pub there_later : (mount shown : Mount ℕ) → Among mount world.mounts → keep world names theirs mount ≡ Some shown
      → (there : Mount ℕ) × Among there later.mounts × (there.number ≡ mount.number)
      × (there.filesystem ≡ mount.filesystem) × (there.root ≡ mount.root)
      × (keep later names (members later names) there ≡ Some shown)
  there_later mount shown m e = search (arith, common_steps, kept_later, kept_alike, keep)

  pub own_later : (mount : Mount ℕ) → Among mount (own_mounts nat_eq world names) → Among mount later.mounts
  own_later mount m = (among-from_filter (is_own_mount nat_eq later names) later.mounts mount
      (subst (Among mount) (sym (own_mounts_same world later names sees)) m)).0

  -- a filesystem that they use is there, and was
  pub used_later : (x : Filesystem ℕ) → Among x world.filesystems
      → is_among nat_eq x.number (used_filesystems nat_eq world names) ≡ true → Among x later.filesystems
  used_later = used_across _ (own_lowers nat_eq world names) world later (sym sees.filesystems)

  pub used_was : (x : Filesystem ℕ) → Among x later.filesystems
      → is_among nat_eq x.number (used_filesystems nat_eq world names) ≡ true → Among x world.filesystems
  used_was = used_across _ (own_lowers nat_eq world names) later world sees.filesystems

  -- a lower layer of theirs is one of an overlay that is there
  pub lower_of : (layer : Layer ℕ) → Among layer (own_lowers nat_eq world names)
      → (merged : Filesystem ℕ) × Among merged world.filesystems
      × (is_among nat_eq merged.number (used_filesystems nat_eq world names) ≡ true)
      × Among layer (of_overlay [] layers_of merged) × Among merged.number (used_directly nat_eq world names)
  lower_of layer m =
      let from = among-from_flat_map _ (used_directly nat_eq world names) layer m in
      by from.0 from.1 (find (λ (f : Filesystem ℕ). nat_eq from.0 f.number) world.filesystems) refl from.2
    where
      up : (o : Option (Overlay ℕ)) → Among layer (overlay_or [] (λ (overlay : Overlay ℕ). overlay.lowers) o)
          → Among layer (overlay_or [] layers_of o)
      up None h = h
      up (Some overlay) h =
          among-append_right (option_to_list overlay.upper ++ option_to_list overlay.work) overlay.lowers layer h

      by : (number : ℕ) → Among number (used_directly nat_eq world names) → (o : Option (Filesystem ℕ))
          → find (λ (f : Filesystem ℕ). nat_eq number f.number) world.filesystems ≡ o
          → Among layer (of_overlay [] (λ (overlay : Overlay ℕ). overlay.lowers) (unwrap_or
          (find (λ (f : Filesystem ℕ). nat_eq number f.number) world.filesystems) (no_filesystem number)))
          → (merged : Filesystem ℕ) × Among merged world.filesystems
          × (is_among nat_eq merged.number (used_filesystems nat_eq world names) ≡ true)
          × Among layer (of_overlay [] layers_of merged) × Among merged.number (used_directly nat_eq world names)
      by number direct o e h = search (arith, common_steps, eqb-true, found_passes, found_among, used_directly_used, up)
