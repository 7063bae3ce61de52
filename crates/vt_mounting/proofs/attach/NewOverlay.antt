-- The code's world with an overlay more, which no mount shows yet: what an attachment asks of it.
use Rattle.std.proofs.Common.{◌≡◌, refl, sym, ap, subst, ◌∙◌, ⊎_elim, ℕ, nat_eq, nat_lt, lt-ltb, true, List, [], ◌∷◌, ◌++◌, arith, All, ne_eqb}
use Rattle.vt_spec.proofs.Common.{Filesystem, and_parts, filesystem_numbered, has_its_root, is_overlay, map-append}
use Rattle.vt_spec.specs.Machine.Mounts as meant
use Rattle.vt_mounting.proofs.Common.{CountsItsUses, CountsWhatIsInIt, Filesystems, HasOwnNodes, IsHeld, IsMountedSoOften, OverlayEntry, WorldValue, all_from_among, among-append, among_from_all, among_from_list_all, are_rising, counted, directory_is_there, list_all_from_among, mounts_in, mounts_showing, overlay_of_store, overlay_seen, overlays_seen, world_of}
use Rattle.vt_store.specs.OverlaysValue as stored
use Rattle.vt_mounting.proofs.detach.Grouped.{same_has}
use Rattle.vt_mounting.proofs.detach.LowerKept.{no_upper_seen}
use Rattle.vt_mounting.proofs.detach.PlainFound.{overlay_among}
use Rattle.vt_mounting.proofs.attach.AttachedCounts.{times_none}
use Rattle.vt_mounting.proofs.attach.Beside.{IsBeside, IsReadOnly, is_beside}
use Rattle.vt_mounting.proofs.attach.NewBase.{rising_last}
use Rattle.vt_mounting.proofs.attach.NewFilesystems.{found_below, number_below}
use Rattle.vt_mounting.proofs.attach.OverlayNodes.{CanBeKept, new_overlay_has_own}

-- no mount shows the next number
pub next_is_shown_by_none : (value : WorldValue) → IsHeld value → mounts_showing (world_of value) (counted value.next) ≡ 0
next_is_shown_by_none value whole =
    times_none (λ (mount : meant.Mount ℕ). nat_eq (counted value.next) mount.filesystem) (mounts_in value.mounts)
    (λ mount m.
    let root = (and_parts _ _ (among_from_list_all (has_its_root nat_eq (world_of value)) (world_of value).mounts
    whole.in_world.roots mount m)).0 in
    let low = found_below value whole mount.filesystem mount.root
    (directory_is_there ((filesystem_numbered nat_eq (world_of value) mount.filesystem).files.tree.node mount.root)
    root) in
    ne_eqb (counted value.next) mount.filesystem (λ same. absurd (omega (arith, low, same))))

-- what holds of all in a list and of one more
pub all_last : {A : Type 0} (P : A → Type 0) (list : List A) (last : A) → All P list → P last → All P (list ++ last ∷ [])
all_last {A = A} P list last all is = all_from_among P (list ++ last ∷ []) (λ one m.
    ⊎_elim (among_from_all P list all one) (λ n. ⊎_elim (λ same. subst P (sym same) is) (λ none. absurd none) n)
    (among-append list (last ∷ []) one m))

module _ {value : WorldValue} (whole : IsHeld value) {trees : Filesystems} {entry : stored.OverlayEntry}
    (new_entry : CanBeKept trees entry) (count_is : entry.count ≡ value.next) (none : entry.mounts ≡ 0) where
  abbrev over : OverlayEntry
  over = overlay_of_store trees entry

  abbrev pub with_new_overlay : WorldValue
  with_new_overlay = record value { overlays = value.overlays ++ overlay_of_store trees entry ∷ [] }

  seen_last : overlays_seen (value.overlays ++ over ∷ []) ≡ overlays_seen value.overlays ++ overlay_seen over ∷ []
  seen_last = map-append overlay_seen value.overlays (over ∷ [])

  all_seen : (P : Filesystem ℕ → Type 0) → All P (overlays_seen value.overlays) → P (overlay_seen over)
      → All P (overlays_seen (value.overlays ++ over ∷ []))
  all_seen P all is =
      subst (All P) (sym seen_last) (all_last P (overlays_seen value.overlays) (overlay_seen over) all is)

  rises : are_rising (overlays_seen (value.overlays ++ over ∷ [])) ≡ true
  rises = ap are_rising seen_last
      ∙ rising_last (overlays_seen value.overlays) (overlay_seen over) whole.overlays.overlays_rise
      (list_all_from_among (λ (f : Filesystem ℕ). nat_lt f.number (counted entry.count))
      (overlays_seen value.overlays) (λ f m.
      let low = number_below value whole f (overlay_among value whole.overlays f m).0 in
      ap (λ n. nat_lt f.number (counted n)) count_is ∙ lt-ltb f.number (counted value.next) low))

  pub new_is_beside : IsBeside with_new_overlay
  new_is_beside =
      let was = is_beside value whole in record {
        mounts_stand = record {
          one_number = was.mounts_stand.one_number;
          nowhere = was.mounts_stand.nowhere;
          on_attached = was.mounts_stand.on_attached;
        };
        locations_stand = was.locations_stand;
        merged = all_seen (λ filesystem. is_overlay filesystem ≡ true) was.merged refl;
        read_only = all_seen IsReadOnly was.read_only (no_upper_seen entry new_entry.no_upper);
        overlays_rise = rises;
        own_nodes = all_seen HasOwnNodes was.own_nodes
            (new_overlay_has_own new_entry);
        overlays = all_last (IsMountedSoOften (world_of with_new_overlay)) value.overlays over
            (all_from_among (IsMountedSoOften (world_of with_new_overlay)) value.overlays
            (among_from_all (IsMountedSoOften (world_of value)) value.overlays was.overlays))
            (none ∙ sym (ap (λ n. mounts_showing (world_of value) (counted n)) count_is
            ∙ next_is_shown_by_none value whole));
        groups = same_has (world_of with_new_overlay) was.groups refl (λ group. refl);
        uses = all_from_among (CountsItsUses (world_of with_new_overlay)) value.mounts (λ mount m.
            let counts = among_from_all (CountsItsUses (world_of value)) value.mounts was.uses mount m in
            record { uses = counts.uses; writers = counts.writers });
        namespaces = all_from_among (CountsWhatIsInIt (world_of with_new_overlay)) value.namespaces (λ one m.
            let counts = among_from_all (CountsWhatIsInIt (world_of value)) value.namespaces was.namespaces one m in
            record { tasks = counts.tasks });
      }
