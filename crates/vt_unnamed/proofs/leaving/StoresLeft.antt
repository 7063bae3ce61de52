-- A store after an event by which nodes are pinned and unpinned.
use Rattle.std.proofs.Common.{◌≡◌, ◌∙◌, ◌<◌, ◌≤◌, length, refl, sym, ap, subst, arith, ℕ, ◌+◌, ◌-◌, nat_eq, true, true≢false, List, Contains, Option, Some, None, is_some}
use Rattle.vt_spec.proofs.Common.{Among, Fresh, Permit, Task, World, all_from_among, among_from_all, among_from_contains, filesystem_numbered, is_overlay}
use Rattle.vt_laws_kept.specs.Counts.{locations_on}
use Rattle.vt_laws_kept.specs.Staying.{LeavesAlone}
use Rattle.vt_laws_worlds.specs.Permits.Left.{left_by}
use Rattle.vt_location.specs.declared.locations.NodeRef.{NodeRef}
use Rattle.vt_location.specs.declared.numbers.FilesystemId.{FilesystemId}
use Rattle.vt_location.specs.Numbers.{counted}
use Rattle.vt_overlay.specs.declared.merge.merging.TheConstants.{MOST_LAYERS}
use Rattle.vt_overlay.specs.MergedTree.{OverlayValue}
use Rattle.vt_upper_overlay.specs.Laws.{IsKeptRight}
use Rattle.vt_layered.specs.LayeredTree.{layered_objects}
use Rattle.vt_layered.specs.LayeredValue.{Above, upper_of}
use Rattle.vt_store.specs.OverlaysValue.{OverlayEntry}
use Rattle.vt_store.specs.StoreValue.{StoreValue}
use Rattle.vt_kept_nodes.specs.Counted.{CountNodes, CountsAbove, CountsNodes, Located}
use Rattle.vt_kept_nodes.specs.Left.{AboveForgets, IsLeftOf}
use Rattle.vt_kept_nodes.specs.Turns.{AreCountedAfter, located_after, times_on}
use Rattle.vt_kept_nodes.proofs.turns.Rows.{locations_after_steps}
use Rattle.vt_kept_nodes.proofs.turns.Turned.{steps_are_counted}
use Rattle.vt_world.specs.OverlaysKept.Kept.{ShowsLayers}
use Rattle.vt_unnamed.specs.Kept.{KeepsAbove, KeepsUnnamed, unnamed_in, with_its_objects}
use Rattle.vt_unnamed.specs.Left.{LeavesOverlay, LeavesReadOnly, with_upper_nodes}
use Rattle.vt_unnamed.specs.Stores.{IsHeldAs, IsShownIn, IsThereStill, LeavesStore, StoresAreLeft, exchange}
use Rattle.vt_unnamed.proofs.leaving.ReadOnly.{left_read_only_are_shown}
use Rattle.vt_unnamed.proofs.leaving.Shown.{left_overlays_are_shown, left_overlays_count_nodes, left_overlays_keep_right}

module _ {fresh : Fresh ℕ} {world : World ℕ} {task : Task ℕ} {permit : Permit ℕ} {old new : StoreValue}
    {gained lost : List NodeRef} (is : LeavesStore fresh world task permit old new gained lost) where
  abbrev left : World ℕ
  left = left_by fresh world task permit

  keeps_before : (entry : OverlayEntry) → Among entry old.overlays → KeepsAbove world old.plain entry entry.above
  keeps_before =
      among_from_all (λ (entry : OverlayEntry). KeepsAbove world old.plain entry entry.above) old.overlays is.unnamed

  -- what is counted before
  counts_before : CountNodes (unnamed_in world) (locations_on world) old.overlays
  counts_before = all_from_among Counts old.overlays (λ entry m. by entry entry.above (keeps_before entry m))
    where
      Counts : OverlayEntry → Type 0
      Counts entry = CountsAbove (unnamed_in world) (locations_on world) entry entry.above

      by : (entry : OverlayEntry) (above : Option Above) → KeepsAbove world old.plain entry above
          → CountsAbove (unnamed_in world) (locations_on world) entry above
      by entry None keeps = tt
      by entry (Some above) keeps = keeps.counts

  counted_in_turn : AreCountedAfter (unnamed_in world) (locations_on world) (exchange gained lost) old.overlays
      new.overlays
  counted_in_turn = steps_are_counted (unnamed_in world) (locations_on world) (exchange gained lost) old.overlays
      new.overlays is.small is.apart counts_before is.may is.nodes

  -- and then
  as_left : located_after (exchange gained lost) (locations_on world) ≡ locations_on left
  as_left = λ i. λ filesystem. λ number.
      (locations_after_steps gained lost (locations_on world) filesystem number
      ∙ taken (locations_on world filesystem number + times_on gained filesystem number)
      (locations_on left filesystem number) (times_on lost filesystem number) (is.located filesystem number)) i
    where
      taken : (a b c : ℕ) → a ≡ b + c → a - c ≡ b
      taken a b c e = omega (arith, e)

  counts_after : CountNodes (unnamed_in world) (locations_on left) new.overlays
  counts_after =
      subst (λ (on : Located). CountNodes (unnamed_in world) on new.overlays) as_left counted_in_turn.counts

  -- An overlay that is left
  module _ (entry : OverlayEntry) (m : Among entry new.overlays) where
    abbrev Was : OverlayEntry → Type 0
    Was one = (was : OverlayEntry) × Contains old.overlays was × IsLeftOf was one

    was : Was entry
    was = among_from_all Was new.overlays counted_in_turn.left entry m

    was_among : Among was.0 old.overlays
    was_among = among_from_contains old.overlays was.0 was.1

    held : IsHeldAs world old.plain was.0
    held = among_from_all (IsHeldAs world old.plain) old.overlays is.before was.0 was_among

    still : IsThereStill left new.plain entry
    still = among_from_all (IsThereStill left new.plain) new.overlays is.after entry m

    -- its number is its count
    own : entry.overlay.number.count ≡ entry.count
    own = ap (λ (o : OverlayValue). o.number.count) was.2.overlay
        ∙ ap (λ (id : FilesystemId). id.count) held.own ∙ sym was.2.count

    is_was : (above : Option Above) → was.0.above ≡ above
        → (filesystem_numbered nat_eq world (counted entry.overlay.number.count)).overlay
        ≡ Some (with_its_objects old.plain entry.overlay above)
    is_was above e = ap (λ n. (filesystem_numbered nat_eq world (counted n)).overlay) (own ∙ was.2.count) ∙ held.is
        ∙ (λ i. Some (with_its_objects old.plain (sym was.2.overlay i) (e i)))

    alone : LeavesAlone fresh world permit (counted entry.overlay.number.count)
    alone location change asked same = true≢false (sym (ap (λ o. is_some o) held.is)
        ∙ ap (λ n. is_overlay (filesystem_numbered nat_eq world n))
        (ap counted (sym (own ∙ was.2.count)) ∙ same) ∙ is.plain location change asked)

    there : is_overlay (filesystem_numbered nat_eq left (counted entry.overlay.number.count)) ≡ true
    there = ap (λ n. is_overlay (filesystem_numbered nat_eq left (counted n))) own ∙ still.there

    shows_before : ShowsLayers world old.plain entry.overlay
    shows_before = subst (ShowsLayers world old.plain) (sym was.2.overlay)
        held.shows

    read_only : was.0.above ≡ None → LeavesReadOnly fresh world task permit old.plain new.plain entry.overlay
    read_only e = record {
      in_world = is.in_world;
      given = is.given;
      alone = alone;
      was = is_was None e;
      there = there;
      before = shows_before;
      after = still.shows;
    }

    -- one with an upper layer, before and then
    module _ (before above : Above) (had : was.0.above ≡ Some before) (has : entry.above ≡ Some above)
        (forgets : AboveForgets (Some before) (Some above)) where
      keeps : KeepsUnnamed world old.plain was.0 before
      keeps = subst (KeepsAbove world old.plain was.0) had (keeps_before was.0 was_among)

      counts : CountsNodes (unnamed_in world) (locations_on left) entry.count entry.overlay.number above.nodes
      counts = subst (CountsAbove (unnamed_in world) (locations_on left) entry) has
          (among_from_all (λ (one : OverlayEntry). CountsAbove (unnamed_in world) (locations_on left) one one.above)
          new.overlays counts_after entry m)

      leaves : LeavesOverlay fresh world task permit old.plain new.plain entry.overlay before above.nodes
      leaves = record {
        kept = record {
          in_world = is.in_world;
          is = is_was (Some before) had;
          shows = shows_before;
          some = subst (λ (o : OverlayValue).
              0 < length o.lowers) (sym was.2.overlay) held.some;
          few = subst (λ (o : OverlayValue).
              length o.lowers ≤ MOST_LAYERS) (sym was.2.overlay) held.few;
          right = right_was;
          counts = counts_was;
        };
        given = is.given;
        alone = alone;
        there = there;
        after = still.shows;
        counted_after = subst (λ n. CountsNodes (unnamed_in world) (locations_on left) n entry.overlay.number
            above.nodes) (sym own) counts;
        forgets = forgets.1;
      }
        where
          right_was : IsKeptRight (upper_of entry.overlay before)
              (filesystem_numbered nat_eq world (counted entry.overlay.number.count)).files.tree
              (layered_objects old.plain entry.overlay (Some before))
          right_was = subst (λ n. IsKeptRight (upper_of entry.overlay before)
              (filesystem_numbered nat_eq world (counted n)).files.tree
              (layered_objects old.plain entry.overlay (Some before))) (sym (own ∙ was.2.count))
              (subst (λ (o : OverlayValue). IsKeptRight (upper_of o before)
              (filesystem_numbered nat_eq world (counted was.0.count)).files.tree
              (layered_objects old.plain o (Some before))) (sym was.2.overlay) keeps.right)

          counts_was : CountsNodes (unnamed_in world) (locations_on world) entry.overlay.number.count
              entry.overlay.number before.nodes
          counts_was = subst (λ n. CountsNodes (unnamed_in world) (locations_on world) n entry.overlay.number
              before.nodes) (sym (own ∙ was.2.count))
              (subst (λ (o : OverlayValue). CountsNodes (unnamed_in world)
              (locations_on world) was.0.count o.number before.nodes) (sym was.2.overlay) keeps.counts)

      same_above : with_upper_nodes above.nodes before ≡ above
      same_above = λ i. record { work = sym forgets.0 i; nodes = above.nodes }

      shown_above : IsShownIn left new.plain (record entry { above = Some above })
      shown_above =
          let both = left_overlays_are_shown fresh world task permit old.plain new.plain entry.overlay before above.nodes
          leaves in
          subst (λ (a : Above). IsShownIn left new.plain (record entry { above = Some a })) same_above (record {
            tree = ap (λ n. (filesystem_numbered nat_eq left (counted n)).files.tree) (sym own) ∙ both.0;
            overlay = ap (λ n. (filesystem_numbered nat_eq left (counted n)).overlay) (sym own) ∙ both.1;
          })

      unnamed_above : KeepsUnnamed left new.plain entry above
      unnamed_above = record {
        counts = subst (λ n. CountsNodes (unnamed_in left) (locations_on left) n entry.overlay.number above.nodes) own
            (left_overlays_count_nodes fresh world task permit old.plain new.plain entry.overlay before above.nodes
            leaves);
        right = subst (λ (a : Above). IsKeptRight (upper_of entry.overlay a)
            (filesystem_numbered nat_eq left (counted entry.count)).files.tree
            (layered_objects new.plain entry.overlay (Some a))) same_above
            (subst (λ n. IsKeptRight (upper_of entry.overlay (with_upper_nodes above.nodes before))
            (filesystem_numbered nat_eq left (counted n)).files.tree
            (layered_objects new.plain entry.overlay (Some (with_upper_nodes above.nodes before)))) own
            (left_overlays_keep_right fresh world task permit old.plain new.plain entry.overlay before above.nodes
            leaves));
      }

    shown_low : was.0.above ≡ None → IsShownIn left new.plain (record entry { above = None })
    shown_low e =
        let both = left_read_only_are_shown fresh world task permit old.plain new.plain entry.overlay (read_only e) in
        record {
          tree = ap (λ n. (filesystem_numbered nat_eq left (counted n)).files.tree) (sym own) ∙ both.0;
          overlay = ap (λ n. (filesystem_numbered nat_eq left (counted n)).overlay) (sym own) ∙ both.1;
        }

    both_left : IsShownIn left new.plain entry × KeepsAbove left new.plain entry entry.above
    both_left = by was.0.above entry.above refl refl was.2.above
      where
        by : (before above : Option Above) → was.0.above ≡ before → entry.above ≡ above → AboveForgets before above
            → IsShownIn left new.plain entry × KeepsAbove left new.plain entry entry.above
        by None None had has forgets = (
          subst (λ a. IsShownIn left new.plain (record entry { above = a })) (sym has) (shown_low had),
          subst (KeepsAbove left new.plain entry) (sym has) tt,
        )
        by None (Some above) had has forgets = absurd forgets
        by (Some before) None had has forgets = absurd forgets
        by (Some before) (Some above) had has forgets = (
          subst (λ a. IsShownIn left new.plain (record entry { above = a })) (sym has)
              (shown_above before above had has forgets),
          subst (KeepsAbove left new.plain entry) (sym has) (unnamed_above before above had has forgets),
        )

pub stores_are_left : StoresAreLeft
stores_are_left fresh world task permit old new gained lost is = record {
  shown = all_from_among (IsShownIn (left_by fresh world task permit) new.plain) new.overlays
      (λ entry m. (both_left is entry m).0);
  unnamed = all_from_among (λ (entry : OverlayEntry).
      KeepsAbove (left_by fresh world task permit) new.plain entry entry.above) new.overlays
      (λ entry m. (both_left is entry m).1);
  apart = (counted_in_turn is).apart;
}
