-- Locations are counted as their nodes are pinned and unpinned.
use Rattle.std.proofs.Common.{◌≡◌, ◌<◌, refl, sym, ap, subst, ◌∙◌, ℕ, nat_eq, eqb-true, Bool, true, false, true≢false, cond, Option, Some, None, Contains, is_some}
use Rattle.vt_spec.proofs.Common.{Among, all_from_among, among_from_all}
use Rattle.vt_births.specs.declared.upper_nodes.UpperNodes.{UpperNodes}
use Rattle.vt_location.specs.declared.locations.NodeRef.{NodeRef}
use Rattle.vt_location.specs.declared.numbers.FilesystemId.{FilesystemId}
use Rattle.vt_location.specs.Locations.{is_small_node, number_of}
use Rattle.vt_location.specs.Numbers.{counted}
use Rattle.vt_location.proofs.NumberLemmas.{counted_test}
use Rattle.vt_layered.specs.LayeredValue.{Above}
use Rattle.vt_layered.specs.Locations.{CountsLocations, with_one_on, without_one_on}
use Rattle.vt_layered.specs.Pins.{IsPinned, IsUnpinned, with_nodes}
use Rattle.vt_layered.proofs.LocationsCounted.{locations_come, locations_go, pinned_used, unpinned_used}
use Rattle.vt_store.specs.OverlaysValue.{OverlayEntry, Overlays}
use Rattle.vt_store.specs.Pins.{ChangesOverlay}
use Rattle.vt_kept_nodes.specs.Counted.{AreApart, CountNodes, CountsAbove, CountsNodes, Located, PinsAreCounted, Unnamed, UnpinsAreCounted, located_by, with_location_on, without_location_on}
use Rattle.vt_kept_nodes.proofs.counting.Changed.{each_changed, pins_change, unpins_change}
use Rattle.vt_kept_nodes.proofs.forgetting.Forgotten.{births_stay_one_to_one, last_uses_are_forgotten, pins_forget_nothing}

module _ (unnamed : Unnamed) (on : Located) (node : NodeRef) (by_one : (ℕ → ℕ) → ℕ → ℕ) where
  abbrev its : ℕ
  its = node.filesystem.count

  abbrev later : Located
  later = located_by by_one node on

  -- in its own overlay, and in others
  on_own : (count : ℕ) → nat_eq its count ≡ true → later (counted count) ≡ by_one (on (counted count))
  on_own count e = ap (λ b. cond b (by_one (on (counted count))) (on (counted count))) (counted_test its count ∙ e)

  on_other : (count : ℕ) → nat_eq its count ≡ false → later (counted count) ≡ on (counted count)
  on_other count e = ap (λ b. cond b (by_one (on (counted count))) (on (counted count))) (counted_test its count ∙ e)

  -- the node is one of the overlay
  is_own : (count : ℕ) (overlay : FilesystemId) → nat_eq its count ≡ true → overlay ≡ record { count = count }
      → node.filesystem ≡ overlay
  is_own count overlay e own = (λ i. record { count = eqb-true its count e i }) ∙ sym own

  counts_other : (entry : OverlayEntry) (above : Option Above) → (nat_eq its entry.count ≡ true → above ≡ None)
      → CountsAbove unnamed on entry above → CountsAbove unnamed later entry above
  counts_other entry None none was = tt
  counts_other entry (Some above) none was = by (nat_eq its entry.count) refl
    where
      by : (b : Bool) → nat_eq its entry.count ≡ b
          → CountsNodes unnamed later entry.count entry.overlay.number above.nodes
      by true e = absurd (true≢false (ap is_some (none e)))
      by false e = record {
        own = was.own;
        births = was.births;
        used = was.used;
        counts = subst (λ f. CountsLocations entry.overlay.number (unnamed (counted entry.count)) f above.nodes)
            (sym (on_other entry.count e)) was.counts;
      }

  -- what a change of one overlay's nodes leaves counted, it leaves counted of all
  module _ (change : UpperNodes → UpperNodes → Type 0)
      (step : (count : ℕ) (overlay : FilesystemId) (old new : UpperNodes) → nat_eq its count ≡ true → change old new
      → CountsNodes unnamed on count overlay old → CountsNodes unnamed later count overlay new) where
    pub all_counted : (old new : Overlays) → AreApart old → CountNodes unnamed on old
        → ChangesOverlay change its old new → CountNodes unnamed later new
    all_counted old new apart counts changes = all_from_among Counts new (λ entry m.
        (among_from_all (λ (one : OverlayEntry). (was : OverlayEntry) × Contains old was × Counts one) new
        (each_changed change its old apart (λ was now. Counts now)
        (λ entry m none. counts_other entry entry.above none (before entry m)) changed new changes) entry m).2)
      where
        Counts : OverlayEntry → Type 0
        Counts entry = CountsAbove unnamed later entry entry.above

        before : (entry : OverlayEntry) → Among entry old → CountsAbove unnamed on entry entry.above
        before = among_from_all (λ (entry : OverlayEntry). CountsAbove unnamed on entry entry.above) old counts

        changed : (entry : OverlayEntry) (above : Above) (nodes : UpperNodes) → Among entry old
            → nat_eq its entry.count ≡ true → entry.above ≡ Some above → change above.nodes nodes
            → CountsAbove unnamed later (record entry { above = with_nodes nodes entry.above })
            (with_nodes nodes entry.above)
        changed entry above nodes m e has changes = subst (λ o.
            CountsAbove unnamed later (record entry { above = with_nodes nodes o }) (with_nodes nodes o)) (sym has)
            (step entry.count entry.overlay.number above.nodes nodes e changes
            (subst (CountsAbove unnamed on entry) has (before entry m)))

-- where a node is pinned, and where it is unpinned
pub overlays_pinned : (unnamed : Unnamed) (on : Located) (node : NodeRef) (old new : Overlays)
    → is_small_node node ≡ true → AreApart old → CountNodes unnamed on old
    → (unnamed (counted node.filesystem.count) (number_of node) ≡ true
    → 0 < on (counted node.filesystem.count) (number_of node))
    → ChangesOverlay (IsPinned node) node.filesystem.count old new
    → CountNodes unnamed (with_location_on node on) new
overlays_pinned unnamed on node old new small apart counts there is =
    all_counted unnamed on node (with_one_on (number_of node)) (IsPinned node) one old new apart counts is
  where
    one : (count : ℕ) (overlay : FilesystemId) (before after : UpperNodes) → nat_eq node.filesystem.count count ≡ true
        → IsPinned node before after → CountsNodes unnamed on count overlay before
        → CountsNodes unnamed (located_by (with_one_on (number_of node)) node on) count overlay after
    one count overlay before after e pinned was = record {
      own = was.own;
      births = births_stay_one_to_one before after (pins_forget_nothing node before after pinned) was.births;
      used = pinned_used node before after was.used pinned;
      counts = subst (λ f. CountsLocations overlay (unnamed (counted count)) f after)
          (sym (on_own unnamed on node (with_one_on (number_of node)) count e))
          (locations_come overlay (unnamed (counted count)) (on (counted count)) node before after small
          (is_own unnamed on node (with_one_on (number_of node)) count overlay e was.own) was.counts pinned
          (subst (λ c. unnamed (counted c) (number_of node) ≡ true → 0 < on (counted c) (number_of node))
          (eqb-true node.filesystem.count count e) there));
    }

pub overlays_unpinned : (unnamed : Unnamed) (on : Located) (node : NodeRef) (old new : Overlays)
    → is_small_node node ≡ true → AreApart old → CountNodes unnamed on old
    → ChangesOverlay (IsUnpinned node) node.filesystem.count old new
    → CountNodes unnamed (without_location_on node on) new
overlays_unpinned unnamed on node old new small apart counts is =
    all_counted unnamed on node (without_one_on (number_of node)) (IsUnpinned node) one old new apart counts is
  where
    one : (count : ℕ) (overlay : FilesystemId) (before after : UpperNodes) → nat_eq node.filesystem.count count ≡ true
        → IsUnpinned node before after → CountsNodes unnamed on count overlay before
        → CountsNodes unnamed (located_by (without_one_on (number_of node)) node on) count overlay after
    one count overlay before after e unpinned was = record {
      own = was.own;
      births = births_stay_one_to_one before after
          (last_uses_are_forgotten node before after was.used was.births unpinned) was.births;
      used = unpinned_used node before after was.used unpinned;
      counts = subst (λ f. CountsLocations overlay (unnamed (counted count)) f after)
          (sym (on_own unnamed on node (without_one_on (number_of node)) count e))
          (locations_go overlay (unnamed (counted count)) (on (counted count)) node before after small
          (is_own unnamed on node (without_one_on (number_of node)) count overlay e was.own) was.counts unpinned);
    }

pub pins_are_counted : PinsAreCounted
pins_are_counted unnamed on node old new small apart counts there is =
    overlays_pinned unnamed on node old.overlays new.overlays small apart counts there (pins_change node old new is)

pub unpins_are_counted : UnpinsAreCounted
unpins_are_counted unnamed on node old new small apart counts is =
    overlays_unpinned unnamed on node old.overlays new.overlays small apart counts (unpins_change node old new is)
