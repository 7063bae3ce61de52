-- Overlays are left with their layers as nodes are pinned and unpinned.
use Rattle.std.proofs.Common.{◌≡◌, refl, sym, ap, subst, ◌∙◌, ℕ, nat_eq, true, cond, Option, Some, None, Contains}
use Rattle.vt_spec.proofs.Common.{Among, all_from_among, among_from_all, among_from_contains, holds_of}
use Rattle.vt_births.specs.Births.{copy_of, node_of}
use Rattle.vt_births.specs.Kept.{is_kept}
use Rattle.vt_births.specs.declared.upper_nodes.UpperNodes.{UpperNodes}
use Rattle.vt_location.specs.declared.locations.NodeRef.{NodeRef}
use Rattle.vt_layered.specs.LayeredValue.{Above}
use Rattle.vt_layered.specs.Pins.{IsPinned, IsUnpinned, with_nodes}
use Rattle.vt_store.specs.OverlaysValue.{OverlayEntry, Overlays}
use Rattle.vt_store.specs.Pins.{ChangesOverlay}
use Rattle.vt_kept_nodes.specs.Counted.{AreApart, CountNodes, CountsAbove, Located, Unnamed}
use Rattle.vt_kept_nodes.specs.Forgetting.{Forgets, is_gone}
use Rattle.vt_kept_nodes.specs.Left.{AboveForgets, AreLeftOf, IsLeftOf, LeavingGoesOn, PinsLeaveOverlays, UnpinsLeaveOverlays}
use Rattle.vt_kept_nodes.proofs.counting.Changed.{each_changed, having, pins_change, unpins_change}
use Rattle.vt_kept_nodes.proofs.forgetting.Forgotten.{forgetting_goes_on, last_uses_are_forgotten, not_both, pins_forget_nothing}

-- what stays as it is forgets nothing
forgets_nothing : (nodes : UpperNodes) → Forgets nodes nodes
forgets_nothing nodes = record {
  kept = λ node there. there;
  copies = λ node. sym (ap (λ b. cond b None (copy_of nodes.births node)) (not_both (is_kept nodes.kept node)));
  nodes = λ slot. by (node_of nodes.births slot);
}
  where
    by : (o : Option NodeRef) → o ≡ cond (holds_of (is_gone nodes nodes) o) None o
    by None = refl
    by (Some node) = sym (ap (λ b. cond b None (Some node)) (not_both (is_kept nodes.kept node)))

pub left_as_it_was : (entry : OverlayEntry) → IsLeftOf entry entry
left_as_it_was entry = record { count = refl; overlay = refl; above = by entry.above }
  where
    by : (above : Option Above) → AboveForgets above above
    by None = tt
    by (Some above) = (refl, forgets_nothing above.nodes)

-- nodes that change so forget at the most
module _ (change : UpperNodes → UpperNodes → Type 0) (count : ℕ) (old new : Overlays) (apart : AreApart old)
    (forgets : (entry : OverlayEntry) (above : Above) (nodes : UpperNodes) → Among entry old
    → entry.above ≡ Some above → change above.nodes nodes → Forgets above.nodes nodes)
    (changes : ChangesOverlay change count old new) where
  pub left_changed : AreLeftOf old new
  left_changed = each_changed change count old apart IsLeftOf (λ entry m none. left_as_it_was entry) changed new changes
    where
      changed : (entry : OverlayEntry) (above : Above) (nodes : UpperNodes) → Among entry old
          → nat_eq count entry.count ≡ true → entry.above ≡ Some above → change above.nodes nodes
          → IsLeftOf entry (having nodes entry)
      changed entry above nodes m e has is = record {
        count = refl;
        overlay = refl;
        above = subst (λ o. AboveForgets o (with_nodes nodes o)) (sym has)
            (refl, forgets entry above nodes m has is);
      }

pub overlays_left_pinned : (node : NodeRef) (old new : Overlays) → AreApart old
    → ChangesOverlay (IsPinned node) node.filesystem.count old new → AreLeftOf old new
overlays_left_pinned node old new apart = left_changed (IsPinned node) node.filesystem.count old new apart
    (λ entry above nodes m has pinned. pins_forget_nothing node above.nodes nodes pinned)

pub overlays_left_unpinned : (unnamed : Unnamed) (on : Located) (node : NodeRef) (old new : Overlays) → AreApart old
    → CountNodes unnamed on old → ChangesOverlay (IsUnpinned node) node.filesystem.count old new → AreLeftOf old new
overlays_left_unpinned unnamed on node old new apart counts =
    left_changed (IsUnpinned node) node.filesystem.count old new apart
    (λ entry above nodes m has unpinned.
    let was = subst (CountsAbove unnamed on entry) has
    (among_from_all (λ (one : OverlayEntry). CountsAbove unnamed on one one.above) old counts entry m) in
    last_uses_are_forgotten node above.nodes nodes was.used was.births unpinned)

pub pins_leave_overlays : PinsLeaveOverlays
pins_leave_overlays node old new apart is =
    overlays_left_pinned node old.overlays new.overlays apart (pins_change node old new is)

pub unpins_leave_overlays : UnpinsLeaveOverlays
unpins_leave_overlays unnamed on node old new apart counts is =
    overlays_left_unpinned unnamed on node old.overlays new.overlays apart counts (unpins_change node old new is)

above_goes_on : (first mid last : Option Above) → AboveForgets first mid → AboveForgets mid last
    → AboveForgets first last
above_goes_on None None last is later = later
above_goes_on None (Some mid) last is later = absurd is
above_goes_on (Some first) None last is later = absurd is
above_goes_on (Some first) (Some mid) None is later = absurd later
above_goes_on (Some first) (Some mid) (Some last) is later =
    (later.0 ∙ is.0, forgetting_goes_on first.nodes mid.nodes last.nodes is.1 later.1)

pub leaving_goes_on : LeavingGoesOn
leaving_goes_on first mid last is later = all_from_among (Left first) last (λ entry m.
    let between = among_from_all (Left mid) last later entry m in
    let was = among_from_all (Left first) mid is between.0 (among_from_contains mid between.0 between.1) in (
      was.0,
      was.1,
      record {
        count = between.2.count ∙ was.2.count;
        overlay = between.2.overlay ∙ was.2.overlay;
        above = above_goes_on was.0.above between.0.above entry.above was.2.above between.2.above;
      },
    ))
  where
    Left : Overlays → OverlayEntry → Type 0
    Left overlays entry = (was : OverlayEntry) × Contains overlays was × IsLeftOf was entry
