-- The plain filesystems that are kept once the layers of a new overlay are held: their inodes and their mounts are
-- counted, and all filesystems stand in the order of their numbers.
use Rattle.std.proofs.Common.{◌≡◌, sym, ap, subst, ◌∙◌, ℕ, nat_eq, nat_lt, lt-ltb, true, List, [], ◌∷◌, ◌++◌, map, arith, All}
use Rattle.vt_spec.proofs.Common.{Filesystem, World, filesystem_numbered}
use Rattle.vt_mounting.proofs.Common.{Among, FilesystemEntry, Filesystems, HasOwnInodes, Inode, IsCounted, Shown, WorldValue, all_from_among, among-from_map, among-map, among_from_all, any_same_worlds_count_alike, are_rising, counted, exchanged, filesystems_seen, inodes_seen, list_all_from_among, overlay_of_store, overlay_seen, overlays_seen, shown, shown_entry, world_of, woven}
use Rattle.vt_store.specs.OverlaysValue as stored
use Rattle.vt_mounting.specs.Detach.Stored.{layer_of}
use Rattle.vt_mounting.proofs.detach.Finishing.{own_exchanged}
use Rattle.vt_mounting.proofs.detach.Overlaid.{same_files_rise}
use Rattle.vt_mounting.proofs.detach.OwnInodesKept.{IsOwn}
use Rattle.vt_mounting.proofs.attach.NewBase.{rising_last}
use Rattle.vt_mounting.proofs.attach.NewFilesystems.{number_below}
use Rattle.vt_mounting.proofs.attach.NewOverlaySame.{same_with_layers_held}
use Rattle.vt_mounting.proofs.attach.NewOverlayUses.{LayersHeld, counted_with_layers, held_by, overlay_last}

module _ {value : WorldValue} {base : Filesystems} {entry : stored.OverlayEntry} (it : LayersHeld value base entry) where
  open it use {whole, are, count_is, held}

  abbrev layers : List Inode
  layers = map layer_of entry.overlay.lowers

  abbrev over_base : World ℕ
  over_base = record (world_of value) {
    filesystems = woven (filesystems_seen base) (overlays_seen (value.overlays ++ overlay_of_store base entry ∷ []));
  }

  -- what one of them was
  pub was_before : (one : FilesystemEntry) → Among one base → (was : FilesystemEntry) × Among was value.filesystems
      × (shown_entry one ≡ held_by (map layer_of entry.overlay.lowers) (shown_entry was))
  was_before one m =
      let from = among-from_map (held_by layers) (shown value.filesystems) (shown_entry one)
      (subst (Among (shown_entry one)) held (among-map shown_entry base one m)) in
      let first = among-from_map shown_entry value.filesystems from.0 from.1 in (
        first.0,
        first.1,
        from.2 ∙ ap (held_by layers) first.2,
      )

  pub own_when_held : All HasOwnInodes base
  own_when_held = all_from_among HasOwnInodes base (λ one m.
      let from = was_before one m in
      subst (λ count. IsOwn count (inodes_seen one)) (sym (ap (λ (s : Shown). s.count) from.2))
      (subst (IsOwn from.0.count) (sym (ap (λ (s : Shown). s.inodes) from.2))
      (own_exchanged from.0.count layers [] (inodes_seen from.0)
      (among_from_all HasOwnInodes value.filesystems whole.own_inodes from.0 from.1))))

  -- inodes count the layers
  pub counted_when_held : (one : FilesystemEntry) → Among one base
      → IsCounted over_base (filesystem_numbered nat_eq over_base (counted one.count)) (inodes_seen one)
  counted_when_held one m =
      let from = was_before one m in
      subst (λ count. IsCounted over_base (filesystem_numbered nat_eq over_base (counted count)) (inodes_seen one))
      (sym (ap (λ (s : Shown). s.count) from.2))
      (subst (IsCounted over_base (filesystem_numbered nat_eq over_base (counted from.0.count)))
      (sym (ap (λ (s : Shown). s.inodes) from.2))
      (any_same_worlds_count_alike (overlay_last value base entry) over_base (counted from.0.count)
      (exchanged (counted from.0.count) layers [] (inodes_seen from.0))
      (same_with_layers_held whole base entry layers count_is held) (counted_with_layers it from.0 from.1)))

  -- all stand in order
  pub rising_when_held : are_rising (woven (filesystems_seen base)
      (overlays_seen (value.overlays ++ overlay_of_store base entry ∷ []))) ≡ true
  rising_when_held = same_files_rise (overlay_last value base entry).filesystems over_base.filesystems
      (same_with_layers_held whole base entry layers count_is held).filesystems
      (rising_last (world_of value).filesystems (overlay_seen (overlay_of_store base entry)) whole.overlays.all_rise
      (list_all_from_among (λ (f : Filesystem ℕ). nat_lt f.number (counted entry.count)) (world_of value).filesystems
      (λ f m.
      let low = number_below value whole f m in
      lt-ltb f.number (counted entry.count) (omega (arith, low, count_is)))))
