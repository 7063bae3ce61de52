-- From what code counts to what the sweep leaves: where inodes got uses and lost uses, and mounts and filesystems went
-- as the sweep says, the code's world is the one that the sweep leaves, and counts what is in it.
use Rattle.std.proofs.Common.{Bool, true, false, ◌≡◌, refl, sym, ap, subst, ◌∙◌, ℕ, nat_eq, List, [], ◌++◌, filter, filter_map, flat_map, map, Option, Some, None, is_some, option_to_list, append-nil}
use Rattle.vt_spec.proofs.Common.{Filesystem, IsWorld, Layer, Overlay, OverlayInvariants, SameWorlds, World, filesystem_numbered, is_mounted, is_overlay, none_from_not_some, of_overlay, overlay_or, settled, upper_object, without_changes, without_dead_filesystems}
use Rattle.vt_mounting.proofs.Common.{Among, AreThere, CountsItsMounts, Exchanges, FilesystemEntry, Has, Inode, IsCounted, IsHeld, IsUnderWay, OverlaysHaveNoUpper, WorldValue, all_from_among, among-filter, among-from_filter, among_from_all, are_rising, counted, exchanged, filesystem_seen, in_use_of, inodes_seen, mounts_in, overlays_seen, world_of}
use Rattle.vt_laws_mounts.proofs.letting_go.Lists.{flat_map_none}
use Rattle.vt_laws_pins.proofs.going.Above.{uses_go_beside_pins}
use Rattle.vt_laws_pins.specs.Gone.{is_let_go, let_go_in, pins_let_go}
use Rattle.vt_laws_upper_layers.proofs.counted.Uses.{uses_above_are_swept}
use Rattle.vt_laws_upper_layers.proofs.lowered.Counted.{numbered-lowered}
use Rattle.vt_laws_upper_layers.specs.Lowered.{Pins, inode_of_layer, lowered, lowered_filesystem}
use Rattle.vt_laws_upper_layers.specs.UnnamedPins.{pin_of, unnamed_pins}
use Rattle.vt_laws_worlds.proofs.overlays_stay.kept.OverlaysLeft.{no_upper_of_plain}
use Rattle.vt_world.proofs.counting.Lowered.{lowered_itself}
use Rattle.vt_mounting.proofs.detach.BesideOverlays.{swept_overlays}
use Rattle.vt_mounting.proofs.detach.LowerLayers.{of_lowers}
use Rattle.vt_mounting.proofs.detach.Overlaid.{KeepsOverlays, found_plain_one, is_plain_one, overlays_are, plain_numbers_left, swept_rise}
use Rattle.vt_mounting.proofs.detach.Showing.{ShowsAs, shown_has, shown_is_counted, shown_is_same}

-- An entry comes from one of the same filesystem, in which inodes got these uses and lost those, where overlays use the
-- directories of their layers alone.
pub record ComesFrom (old : WorldValue) (after : World ℕ) (gained lost : List Inode)
    (entry : FilesystemEntry) : Type 0 where
  pub was : FilesystemEntry
  pub among : Among was old.filesystems
  pub count : entry.count ≡ was.count
  pub there : AreThere (counted was.count) (inodes_seen was) gained
  pub inodes : inodes_seen entry ≡ exchanged (counted was.count) gained lost (inodes_seen was)
  pub exchanges : Exchanges gained lost (counted was.count) (of_lowers (world_of old)) (of_lowers (in_use_of after))

-- Mounts and filesystems are those that the sweep leaves, in their order, and overlays those of before that mounts show
-- still.
pub record IsSwept (old : WorldValue) (after : World ℕ) (gained lost : List Inode) (new : WorldValue) : Type 0 where
  pub files : after.filesystems ≡ (world_of old).filesystems
  pub midway : KeepsOverlays old after
  pub overlays : overlays_seen new.overlays
      ≡ filter (λ overlay. is_mounted nat_eq (in_use_of after) overlay.number) (overlays_seen old.overlays)
  pub mounts : (in_use_of after).mounts ≡ mounts_in new.mounts
  pub numbers : map (λ f. f.number) (filter is_plain_one (in_use_of after).filesystems)
      ≡ map (λ entry. counted entry.count) new.filesystems
  pub entries : (entry : FilesystemEntry) → Among entry new.filesystems → ComesFrom old after gained lost entry
  pub namespaces : (without_changes after).namespaces ≡ (without_changes (world_of new)).namespaces
  pub tasks : (without_changes after).tasks ≡ (without_changes (world_of new)).tasks

-- As much is left of a world as of one that is under way with the same filesystems, whose overlays have their invariants.
pub record MayBeSwept (after : World ℕ) : Type 0 where
  pub policy : World ℕ
  pub under : IsUnderWay policy
  pub overlays : OverlayInvariants nat_eq policy
  pub left : settled nat_eq policy ≡ settled nat_eq after
  pub files : policy.filesystems ≡ after.filesystems

-- Worlds with the same filesystems of which as much is left are the same as far as they are in use, but for the masters
-- of groups.
living_alike : (policy after : World ℕ) → settled nat_eq policy ≡ settled nat_eq after
    → policy.filesystems ≡ after.filesystems
    → record (in_use_of policy) { master = after.master } ≡ record (in_use_of after) { master = after.master }
living_alike policy after left files = λ i. without_dead_filesystems nat_eq (record {
  mounts = mounts i;
  master = after.master;
  filesystems = files i;
  namespaces = namespaces i;
  tasks = tasks i;
  change = change i;
})
  where
    mounts : (settled nat_eq policy).mounts ≡ (settled nat_eq after).mounts
    mounts = ap (λ (w : World ℕ). w.mounts) left

    namespaces : (settled nat_eq policy).namespaces ≡ (settled nat_eq after).namespaces
    namespaces = ap (λ (w : World ℕ). w.namespaces) left

    tasks : (settled nat_eq policy).tasks ≡ (settled nat_eq after).tasks
    tasks = ap (λ (w : World ℕ). w.tasks) left

    change : (settled nat_eq policy).change ≡ (settled nat_eq after).change
    change = ap (λ (w : World ℕ). w.change) left

module _ (old : WorldValue) (held : IsHeld old) (after : World ℕ) (ready : MayBeSwept after) (gained lost : List Inode)
    (new : WorldValue) (swept : IsSwept old after gained lost new) (has : Has (settled nat_eq after) new.groups)
    (is : IsWorld nat_eq (settled nat_eq after)) where
  abbrev left : World ℕ
  left = settled nat_eq after

  abbrev policy : World ℕ
  policy = ready.policy

  abbrev HasNoUpper : Filesystem ℕ → Type 0
  HasNoUpper f = of_overlay false (λ overlay. is_some overlay.upper) f ≡ false

  living : record (in_use_of policy) { master = after.master } ≡ record (in_use_of after) { master = after.master }
  living = living_alike policy after ready.left ready.files

  -- overlays without an upper layer let go of nothing
  nothing_goes : pins_let_go (settled nat_eq policy) (world_of old) ≡ []
  nothing_goes =
      flat_map_none (λ merged. of_overlay [] (let_go_in (settled nat_eq policy) merged) merged)
      (world_of old).filesystems
      (λ f m. by f f.overlay (among_from_all HasNoUpper (world_of old).filesystems held.overlays.read_only f m))
    where
      by : (f : Filesystem ℕ) (o : Option (Overlay ℕ)) → overlay_or false (λ overlay. is_some overlay.upper) o ≡ false
          → overlay_or [] (let_go_in (settled nat_eq policy) f) o ≡ []
      by f None none = refl
      by f (Some overlay) none = ap (λ upper. flat_map (λ (upper : Layer ℕ). map (pin_of upper)
          (filter_map (λ number. upper_object (overlay.real number))
          (filter (is_let_go (settled nat_eq policy) f) f.files.numbers))) (option_to_list upper))
          (none_from_not_some overlay.upper none)

  -- and the sweep leaves none that has one
  no_upper_left : OverlaysHaveNoUpper left
  no_upper_left = all_from_among HasNoUpper left.filesystems (λ f m. by f m (is_overlay f) refl)
    where
      by : (f : Filesystem ℕ) → Among f left.filesystems → (b : Bool) → is_overlay f ≡ b → HasNoUpper f
      by f m false e = no_upper_of_plain f e
      by f m true e =
          let seen = among-from_filter (λ overlay. is_mounted nat_eq (in_use_of after) overlay.number)
          (overlays_seen old.overlays) f (subst (λ all. Among f all) (swept_overlays old held after swept.midway)
          (among-filter is_overlay left.filesystems f m e)) in
          among_from_all HasNoUpper (world_of old).filesystems held.overlays.read_only f
          (among-from_filter is_overlay (world_of old).filesystems f
          (subst (λ all. Among f all) (sym (overlays_are old held.overlays)) seen.0)).0

  -- Uses that come and go are counted in the lowered worlds.
  module _ {entry : FilesystemEntry} (from : ComesFrom old after gained lost entry) where
    abbrev number : ℕ
    number = counted from.was.count

    abbrev pins : Pins
    pins = unnamed_pins (world_of old)

    abbrev pins_left : Pins
    pins_left = unnamed_pins (settled nat_eq policy)

    plain_one : filesystem_numbered nat_eq (world_of old) number ≡ filesystem_seen from.was
    plain_one = found_plain_one old held from.was from.among

    -- uses depend on no master of a group
    exchanges_beside : Exchanges gained lost number (of_lowers (world_of old)) (of_lowers (in_use_of policy))
    exchanges_beside =
        let exchanges = subst (λ (w : World ℕ). Exchanges gained lost number (of_lowers (world_of old)) (of_lowers w))
        (sym living) (same_beside from.exchanges) in record { same = exchanges.same; uses = exchanges.uses }
      where
        same_beside : Exchanges gained lost number (of_lowers (world_of old)) (of_lowers (in_use_of after))
            → Exchanges gained lost number (of_lowers (world_of old))
            (of_lowers (record (in_use_of after) { master = after.master }))
        same_beside exchanges = record { same = exchanges.same; uses = exchanges.uses }

    exchanges_above : Exchanges gained lost number (lowered pins (world_of old)) (in_use_of (lowered pins_left policy))
    exchanges_above = subst (λ all. Exchanges gained all number (lowered pins (world_of old))
        (in_use_of (lowered pins_left policy)))
        (ap (λ gone. lost ++ map inode_of_layer gone) nothing_goes ∙ append-nil lost)
        (uses_go_beside_pins (world_of old) policy gained lost number held.in_world ready.under ready.overlays
        (ready.files ∙ swept.files) (ap is_overlay plain_one) exchanges_beside)

    was_counted : IsCounted (lowered pins (world_of old))
        (filesystem_numbered nat_eq (lowered pins (world_of old)) number) (inodes_seen from.was)
    was_counted = subst (λ f. IsCounted (lowered pins (world_of old)) f (inodes_seen from.was))
        (sym (numbered-lowered pins (world_of old) number ∙ ap (lowered_filesystem pins) plain_one))
        (among_from_all (CountsItsMounts (world_of old)) old.filesystems held.filesystems from.was from.among).inodes

    counted_above : IsCounted (lowered (unnamed_pins left) left)
        (filesystem_numbered nat_eq (lowered (unnamed_pins left) left) number)
        (exchanged number gained lost (inodes_seen from.was))
    counted_above = subst (λ (w : World ℕ). IsCounted (lowered (unnamed_pins w) w)
        (filesystem_numbered nat_eq (lowered (unnamed_pins w) w) number)
        (exchanged number gained lost (inodes_seen from.was))) ready.left
        (uses_above_are_swept (world_of old) policy gained lost number (inodes_seen from.was) held.in_world ready.under
        ready.overlays exchanges_above was_counted from.there)

  counted_left : (entry : FilesystemEntry) → Among entry new.filesystems
      → IsCounted left (filesystem_numbered nat_eq left (counted entry.count)) (inodes_seen entry)
  counted_left entry m =
      let from = swept.entries entry m in
      subst (λ count. IsCounted left (filesystem_numbered nat_eq left (counted count)) (inodes_seen entry))
      (sym from.count)
      (subst (IsCounted left (filesystem_numbered nat_eq left (counted from.was.count))) (sym from.inodes)
      (subst (λ (w : World ℕ). IsCounted w (filesystem_numbered nat_eq w (counted from.was.count))
      (exchanged (counted from.was.count) gained lost (inodes_seen from.was)))
      (lowered_itself left is no_upper_left) (counted_above from)))

  -- the sweep leaves filesystems in the order of their numbers
  pub rise_left : are_rising left.filesystems ≡ true
  rise_left = swept_rise after swept.midway.rise

  -- what the sweep leaves shows as code's world does
  pub shows_left : ShowsAs left new
  shows_left = record {
    overlays = swept_overlays old held after swept.midway ∙ sym swept.overlays;
    rise = rise_left;
    mounts = swept.mounts;
    groups = has;
    numbers = plain_numbers_left after ∙ swept.numbers;
    inodes = counted_left;
    namespaces = swept.namespaces;
    tasks = swept.tasks;
  }

  -- the code's world is the one that the sweep leaves
  pub swept_is_same : SameWorlds left (world_of new)
  swept_is_same = shown_is_same shows_left is

  -- and has the groups that are kept
  pub swept_has : Has (world_of new) new.groups
  swept_has = shown_has shows_left is

  -- and its inodes count what is in it
  pub swept_is_counted : (entry : FilesystemEntry) → Among entry new.filesystems → IsWorld nat_eq (world_of new)
      → IsCounted (world_of new) (filesystem_seen entry) (inodes_seen entry)
  swept_is_counted = shown_is_counted shows_left is
