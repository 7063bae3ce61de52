-- Overlays of which one has other nodes beside its layers: what it keeps without a name, and births.
use Rattle.std.proofs.Common.{◌≡◌, ◌∙◌, refl, sym, ap, subst, ℕ, Bool, true, false, cond, nat_eq, nat_lt, eqb-true, T, is_some, List, [], ◌∷◌, Err, IsErr, Ok, OnErr, true≢false, arith, ◌+◌, ◌^◌, ◌↔◌, OnOk, Result, Option, Some, None, option_map, unwrap_or, ⊎_elim, All}
use Rattle.std.specs.Map.{keys_of, lookup, set_value}
use Rattle.std.proofs.lemmas.Map.Steps.{set_value_same}
use Rattle.std.proofs.lemmas.Map.Made.{is_some-lookup}
use Rattle.vt_spec.proofs.Common.{Among, OnOk_then, T_and_left, T_and_right, all_from_among, among-from_map, among_from_all, any_among, any_from_among, none_is_some, same_Some, then_some}
use Rattle.indexmap.specs.IndexMap.{IndexMap, WritesThrough, get_by}
use Rattle.vt_births.specs.declared.upper_nodes.UpperNodes.{UpperNodes}
use Rattle.vt_births.specs.Kept.{is_kept, uses_of}
use Rattle.vt_births.specs.KeptObjects.{AreOf, IsOf}
use Rattle.vt_births.proofs.Nodes.{same_node-is}
use Rattle.vt_location.specs.declared.locations.NodeRef.{NodeRef}
use Rattle.vt_location.specs.declared.numbers.FilesystemId.{FilesystemId}
use Rattle.vt_location.specs.SameNodes.{same_node}
use Rattle.vt_location.proofs.NodeLemmas.{same_node-itself}
use Rattle.vt_location.proofs.OrderLemmas.{apart-below, rises, rises-in_order}
use Rattle.vt_layered.specs.LayeredValue.{Above, KeepsItsOwn, LayeredValue, held_layers}
use Rattle.vt_layered.specs.Pins.{ChangesNodes, IsPinned, IsUnpinned, with_nodes}
use Rattle.vt_overlay.specs.MergedTree.{OverlayValue}
use Rattle.vt_store.specs.declared.layer_counts.LayerCounts.{LayerCounts}
use Rattle.vt_store.specs.declared.overlays.KeptOverlay.{KeptOverlay}
use Rattle.vt_store.specs.LayersAt.{AreCounted}
use Rattle.vt_store.specs.OverlaysValue.{AreKept, KeepTheirOwn, OverlayEntry, Overlays, all_layers, entries_kept, entry_kept, kept_overlay, kept_overlays, layered_of, with_overlay_changed}
use Rattle.vt_store.specs.Pins.{ChangesAbove, ChangesOverlay}
use Rattle.vt_store.proofs.KeptObjects.{own_of}
use Rattle.vt_store.proofs.KeptOverlays.{count_of, entry_kept-entries, entry_kept-kept, in_order, is_key, key_eq, layered_of-kept, of_count, own_written, writes}
use Rattle.vt_store.proofs.LayersKept.{layers_changed, no_key}

-- an overlay with other nodes, as the map has it, and as contracts see it
abbrev pub overlay_with : UpperNodes → KeptOverlay → KeptOverlay
overlay_with nodes one =
    record one { overlay = record one.overlay { above = with_nodes nodes one.overlay.above } }

abbrev pub entry_with : UpperNodes → OverlayEntry → OverlayEntry
entry_with nodes entry = record entry { above = with_nodes nodes entry.above }

-- it holds the layers that it held
layers_with : (nodes : UpperNodes) (overlay : OverlayValue) (above : Option Above)
    → held_layers overlay (with_nodes nodes above) ≡ held_layers overlay above
layers_with nodes overlay None = refl
layers_with nodes overlay (Some above) = refl

-- no two are of one count
only_one : (f : ℕ) (kept : List (FilesystemId × KeptOverlay)) → T (rises count_of kept) → (entry : OverlayEntry)
    → Among entry (entries_kept kept) → nat_eq f entry.count ≡ true → entry_kept (entries_kept kept) f ≡ Some entry
only_one f [] risen entry m is = absurd m
only_one f (e ∷ kept) risen entry m is = ⊎_elim
    (λ same. ap (λ (one : OverlayEntry). cond (nat_eq f one.count) (Some one) (entry_kept (entries_kept kept) f)) (sym same)
    ∙ ap (λ b. cond b (Some entry) (entry_kept (entries_kept kept) f)) is)
    (λ later. by (nat_eq f e.0.count) (eqb-true f e.0.count)
    (only_one f kept (T_and_right _ _ risen) entry later is)) m
  where
    absent : entry_kept (entries_kept kept) e.0.count ≡ None
    absent = entry_kept-entries e.0.count kept ∙ ap (option_map (of_count e.0.count))
        (no_key e.0 kept (apart-below count_of e.0 kept (T_and_left _ _ risen)))

    by : (b : Bool) → (b ≡ true → f ≡ e.0.count) → entry_kept (entries_kept kept) f ≡ Some entry
        → cond b (Some (kept_overlay e)) (entry_kept (entries_kept kept) f) ≡ Some entry
    by true here later =
        none_is_some entry (sym (ap (entry_kept (entries_kept kept)) (here refl) ∙ absent) ∙ later)
    by false here later = later

-- What is kept is so still where one has other nodes, which are its own
pub kept_with_nodes : {S : Type 0} (f : ℕ) (nodes : UpperNodes) (m n : IndexMap FilesystemId KeptOverlay S)
    (x w : KeptOverlay) (counts : LayerCounts) (oldest : ℕ) → AreKept m.entries counts oldest
    → get_by (is_key f) m ≡ Some x → w ≡ overlay_with nodes x → KeepsItsOwn w.overlay.overlay w.overlay.above
    → WritesThrough key_eq (is_key f) m w n → AreKept n.entries counts oldest
kept_with_nodes f nodes m n x w counts oldest is there so its through = record {
  own = own_written f m n x w is.own there (ap (λ (one : KeptOverlay). one.overlay.overlay.number) so) through;
  older = λ q less. older q less (nat_eq f q.count) (eqb-true f q.count) ((through.3 (ap is_some there)).0 q);
  layers = subst (λ layers. AreCounted layers counts) (sym (ap all_layers written ∙ layers_changed f (entry_with nodes)
      (λ entry. layers_with nodes entry.overlay entry.above) all)) is.layers;
  nodes = subst KeepTheirOwn (sym written) (all_from_among KeepsIts (with_overlay_changed f (entry_with nodes) all)
      (λ entry a. let was = among-from_map
      (λ (one : OverlayEntry). cond (nat_eq f one.count) (entry_with nodes one) one) all entry a in
      subst KeepsIts (sym was.2) (changed was.0 was.1 (nat_eq f was.0.count) refl
      (among_from_all KeepsIts all is.nodes was.0 was.1))));
}
  where
    KeepsIts : OverlayEntry → Type 0
    KeepsIts entry = KeepsItsOwn entry.overlay entry.above

    all : Overlays
    all = kept_overlays m.entries

    written : kept_overlays n.entries ≡ with_overlay_changed f (entry_with nodes) all
    written = writes f (overlay_with nodes) (entry_with nodes) m n all x w refl there so (λ k one. refl) through

    changed : (entry : OverlayEntry) → Among entry all → (b : Bool) → nat_eq f entry.count ≡ b → KeepsIts entry
        → KeepsIts (cond b (entry_with nodes entry) entry)
    changed entry a true e own =
        let found = only_one f (in_order m.entries) (rises-in_order count_of m.entries) entry a e in
        let here : entry ≡ of_count f x = same_Some entry (of_count f x)
        (sym found ∙ entry_kept-kept f m.entries ∙ ap (option_map (of_count f)) there) in
        subst (λ (one : OverlayEntry). KeepsIts (entry_with nodes one)) (sym here)
        (subst (λ (one : KeptOverlay). KeepsItsOwn one.overlay.overlay one.overlay.above) so its)
    changed entry a false e own = own

    older : (q : FilesystemId) → nat_lt q.count oldest ≡ true → (b : Bool) → (b ≡ true → f ≡ q.count)
        → lookup (is_key q.count) n.entries ≡ cond b (Some w) (lookup (is_key q.count) m.entries)
        → lookup (is_key q.count) n.entries ≡ None
    older q less true here written =
        none_is_some x (sym (is.older q less) ∙ ap (λ k. lookup (is_key k) m.entries) (sym (here refl)) ∙ there)
    older q less false here written = written ∙ is.older q less

-- What is kept is the overlay's own after a use more,
own_pinned : (id : FilesystemId) (node : NodeRef) (old new : UpperNodes) → IsPinned node old new → AreOf id old
    → AreOf id new
own_pinned id node old new is own =
    subst (λ births. All (IsOf id births) (keys_of new.kept.by_node)) (sym is.births)
    (subst (All (IsOf id old.births)) (sym is.nodes) own)

-- and after one less
module _ (id : FilesystemId) (node : NodeRef) (old new : UpperNodes) (is : IsUnpinned node old new)
    (own : AreOf id old) where
  used_kept : (other : NodeRef) → nat_lt 1 (uses_of old.kept other) ≡ true → is_kept old.kept other ≡ true
  used_kept other more = sym (is_some-lookup (same_node other) old.kept.by_node)
      ∙ by (lookup (same_node other) old.kept.by_node) more
    where
      by : (o : Option ℕ) → nat_lt 1 (unwrap_or o 0) ≡ true → is_some o ≡ true
      by None e = e
      by (Some uses) e = refl

  kept_before : (other : NodeRef) → (b : Bool)
      → cond b (nat_lt 1 (uses_of old.kept other)) (is_kept old.kept other) ≡ true → is_kept old.kept other ≡ true
  kept_before other true e = used_kept other e
  kept_before other false e = e

  was_of : (other : NodeRef) → is_kept old.kept other ≡ true → IsOf id old.births other
  was_of other e =
      let one = any_among (same_node other) (keys_of old.kept.by_node) e in
      subst (IsOf id old.births) (sym (same_node-is other one.0 one.2))
      (among_from_all (IsOf id old.births) (keys_of old.kept.by_node) own one.0 one.1)

  none_more : (b : Bool) (o : Option NodeRef) → o ≡ None → cond b None o ≡ None
  none_more true o e = refl
  none_more false o e = e

  own_unpinned : AreOf id new
  own_unpinned = all_from_among (IsOf id new.births) (keys_of new.kept.by_node) (λ other m.
      let was = was_of other (kept_before other (same_node node other) (sym (is.kept other)
      ∙ any_from_among (same_node other) (keys_of new.kept.by_node) other m (same_node-itself other))) in
      record { own = was.own; alone = λ here. is.nodes other.slot ∙ none_more _ _ (was.alone here) })

-- So it is of any overlay whose nodes are pinned or unpinned
pub keeps_pinned : (node : NodeRef) (old new : LayeredValue) → new.overlay ≡ old.overlay
    → ChangesNodes (IsPinned node) old.above new.above → KeepsItsOwn old.overlay old.above
    → KeepsItsOwn new.overlay new.above
keeps_pinned node old new same changes own = subst (λ overlay. KeepsItsOwn overlay new.above) (sym same)
    (by old.above changes own)
  where
    by : (above : Option Above) → ChangesNodes (IsPinned node) above new.above → KeepsItsOwn old.overlay above
        → KeepsItsOwn old.overlay new.above
    by None is own = subst (KeepsItsOwn old.overlay) (sym is) own
    by (Some above) is own = subst (KeepsItsOwn old.overlay) (sym is.2)
        (own_pinned old.overlay.number node above.nodes is.0 is.1 own)

pub keeps_unpinned : (node : NodeRef) (old new : LayeredValue) → new.overlay ≡ old.overlay
    → ChangesNodes (IsUnpinned node) old.above new.above → KeepsItsOwn old.overlay old.above
    → KeepsItsOwn new.overlay new.above
keeps_unpinned node old new same changes own = subst (λ overlay. KeepsItsOwn overlay new.above) (sym same)
    (by old.above changes own)
  where
    by : (above : Option Above) → ChangesNodes (IsUnpinned node) above new.above → KeepsItsOwn old.overlay above
        → KeepsItsOwn old.overlay new.above
    by None is own = subst (KeepsItsOwn old.overlay) (sym is) own
    by (Some above) is own = subst (KeepsItsOwn old.overlay) (sym is.2)
        (own_unpinned old.overlay.number node above.nodes is.0 is.1 own)

-- The overlay of a count, in the map, whose nodes change so
module _ {S : Type 0} (change : UpperNodes → UpperNodes → Type 0) (f : ℕ) (m n : IndexMap FilesystemId KeptOverlay S)
    (x : KeptOverlay) (new : LayeredValue) (there : get_by (is_key f) m ≡ Some x)
    (same : new.overlay ≡ x.overlay.overlay) (changes : ChangesNodes change x.overlay.above new.above)
    (through : WritesThrough key_eq (is_key f) m (record x { overlay = new }) n) where
  -- a read-only one stays as it is,
  as_it_was : x.overlay.above ≡ None → n.entries ≡ m.entries
  as_it_was none = through.0 ∙ ap (set_value (is_key f) m.entries) is
      ∙ set_value_same (is_key f) m.entries x there
    where
      above : new.above ≡ x.overlay.above
      above = subst (λ o. ChangesNodes change o new.above) none changes ∙ sym none

      is : record x { overlay = new } ≡ x
      is = λ i. record x { overlay = record { overlay = same i; above = above i } }

  -- and one with an upper layer has these nodes
  with_them : (above : Above) → x.overlay.above ≡ Some above
      → (nodes : UpperNodes) × change above.nodes nodes × (record x { overlay = new } ≡ overlay_with nodes x)
  with_them above has =
      let is = subst (λ o. ChangesNodes change o new.above) has changes in (
        is.0,
        is.1,
        (λ i. record x { overlay = record { overlay = same i; above = is.2 i } })
            ∙ (λ i. record x { overlay = record x.overlay { above = with_nodes is.0 (sym has i) } }),
      )

  pub entries_change : (all : Overlays) → kept_overlays m.entries ≡ all
      → ChangesOverlay change f all (kept_overlays n.entries)
  entries_change all view = subst (ChangesAbove change f all (kept_overlays n.entries)) (sym above)
      (by x.overlay.above refl)
    where
      above : then_some (layered_of all f) (λ (layered : LayeredValue). layered.above) ≡ x.overlay.above
      above = ap (λ o. then_some o (λ (layered : LayeredValue). layered.above))
          (sym (layered_of-kept f m.entries all (Some x) view (sym there)))

      by : (o : Option Above) → x.overlay.above ≡ o → ChangesAbove change f all (kept_overlays n.entries) o
      by None none = ap kept_overlays (as_it_was none) ∙ view
      by (Some above) has =
          let is = with_them above has in (
            is.0,
            is.1,
            writes f (overlay_with is.0) (entry_with is.0) m n all x (record x { overlay = new }) view there is.2
                (λ k one. refl) through,
          )

  pub entries_are_kept : (counts : LayerCounts) (oldest : ℕ) → AreKept m.entries counts oldest
      → KeepsItsOwn new.overlay new.above → AreKept n.entries counts oldest
  entries_are_kept counts oldest are own = by x.overlay.above refl
    where
      by : (o : Option Above) → x.overlay.above ≡ o → AreKept n.entries counts oldest
      by None none = subst (λ entries. AreKept entries counts oldest) (sym (as_it_was none)) are
      by (Some above) has =
          let is = with_them above has in
          kept_with_nodes f is.0 m n x (record x { overlay = new }) counts oldest are there is.2 own through

-- what is written as it was changes nothing,
pub written_same : {S : Type 0} (f : ℕ) (m n : IndexMap FilesystemId KeptOverlay S) (x : KeptOverlay)
    (new : LayeredValue) → get_by (is_key f) m ≡ Some x → new ≡ x.overlay
    → WritesThrough key_eq (is_key f) m (record x { overlay = new }) n → n.entries ≡ m.entries
written_same f m n x new there same through =
    through.0 ∙ ap (λ one. set_value (is_key f) m.entries (record x { overlay = one })) same
    ∙ set_value_same (is_key f) m.entries x there

-- what is found keeps its own
pub found_keeps : {S : Type 0} (f : ℕ) (m : IndexMap FilesystemId KeptOverlay S) (x : KeptOverlay)
    (counts : LayerCounts) (oldest : ℕ) → AreKept m.entries counts oldest → get_by (is_key f) m ≡ Some x
    → KeepsItsOwn x.overlay.overlay x.overlay.above
found_keeps f m x counts oldest are there = own_of (kept_overlays m.entries) f are.nodes x.overlay
    (sym (layered_of-kept f m.entries (kept_overlays m.entries) (Some x) refl (sym there)))

-- where there is none, all is as it was
pub none_changes : (change : UpperNodes → UpperNodes → Type 0) (f : ℕ) (es new : List (FilesystemId × KeptOverlay))
    (all : Overlays) → kept_overlays es ≡ all → lookup (is_key f) es ≡ None → new ≡ es
    → ChangesOverlay change f all (kept_overlays new)
none_changes change f es new all view absent is =
    subst (λ o. ChangesAbove change f all (kept_overlays new) (then_some o (λ (layered : LayeredValue). layered.above)))
    (layered_of-kept f es all None view (sym absent)) (ap kept_overlays is ∙ view)

-- What is pinned may be at its limit: then all is as it was
module _ {S A E : Type 0} (node : NodeRef) (f : ℕ) (m n : IndexMap FilesystemId KeptOverlay S) (x : KeptOverlay)
    (new : LayeredValue) (r : Result A E) (there : get_by (is_key f) m ≡ Some x)
    (same : new.overlay ≡ x.overlay.overlay) (ok : OnOk r (ChangesNodes (IsPinned node) x.overlay.above new.above))
    (err : OnErr r (new ≡ x.overlay)) (through : WritesThrough key_eq (is_key f) m (record x { overlay = new }) n) where
  pub pin_keeps : (counts : LayerCounts) (oldest : ℕ) → AreKept m.entries counts oldest → AreKept n.entries counts oldest
  pin_keeps counts oldest are = by r ok err
    where
      by : (r : Result A E) → OnOk r (ChangesNodes (IsPinned node) x.overlay.above new.above)
          → OnErr r (new ≡ x.overlay) → AreKept n.entries counts oldest
      by (Ok a) changes none = entries_are_kept (IsPinned node) f m n x new there same changes through counts oldest are
          (keeps_pinned node x.overlay new same changes (found_keeps f m x counts oldest are there))
      by (Err e) none is = subst (λ entries. AreKept entries counts oldest)
          (sym (written_same f m n x new there is through)) are

  pub pin_changes : (all : Overlays) → kept_overlays m.entries ≡ all
      → OnOk r (ChangesOverlay (IsPinned node) f all (kept_overlays n.entries))
  pin_changes all view = OnOk_then r
      (λ changes. entries_change (IsPinned node) f m n x new there same changes through all view) ok

  pub pin_leaves : (all : Overlays) → kept_overlays m.entries ≡ all → OnErr r (kept_overlays n.entries ≡ all)
  pin_leaves all view = by r err
    where
      by : (r : Result A E) → OnErr r (new ≡ x.overlay) → OnErr r (kept_overlays n.entries ≡ all)
      by (Ok a) is = is
      by (Err e) is = ap kept_overlays (written_same f m n x new there is through) ∙ view

-- and where there is none, it is never
pub never_at_limit : {A E : Type 0} (r : Result A E) (a : A) → r ≡ Ok a → IsErr r ↔ (0 + 1 ≡ 2 ^ 64)
never_at_limit r a is = subst (λ result. IsErr result ↔ (0 + 1 ≡ 2 ^ 64)) (sym is)
    (λ e. absurd (true≢false (sym e)), λ e. absurd (omega (arith, e)))
