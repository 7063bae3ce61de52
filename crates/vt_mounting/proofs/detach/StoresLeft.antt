-- A store in which a filesystem has one mount less, as contracts of vt_store change it.
use Rattle.std.proofs.Common.{◌≡◌, ◌≢◌, refl, sym, ap, ◌∙◌, ℕ, nat_eq, ◌-◌, eq-eqb, ne_eqb, Bool, true, false, cond, List, [], ◌∷◌, map, Some, None, is_some, option_map, unwrap_or, IfSome, arith}
use Rattle.vt_spec.proofs.Common.{common_steps, folded, map_alike, none_from_not_some}
use Rattle.vt_mounting.proofs.Common.{Overlays, Shown, StoreValue, counted, counted_test, entry_in, entry_kept, filter_alike, shown, with_mounts, with_mounts_by, with_overlay_changed, without_overlay}
use Rattle.vt_mount.proofs.EntryLemmas.{is_some_mapped}
use Rattle.vt_overlay.specs.declared.merge.layers.LayerRef.{LayerRef}
use Rattle.vt_store.specs.Counts.{mounts_by, mounts_in}
use Rattle.vt_store.specs.LayersHeld as Stored
use Rattle.vt_store.specs.LayersHeld.{held_in, without_layers}
use Rattle.vt_layered.specs.LayeredValue.{held_layers}
use Rattle.vt_store.proofs.KeptObjects.{layered_entry}
use Rattle.vt_store.specs.OverlaysValue.{OverlayEntry, layered_of, layers_held}
use Rattle.vt_mounting.specs.Detach.Stored.{kept, layer_of, merged_of}
use Rattle.vt_mounting.specs.Detach.Uses.{leave_filesystem, let_go_filesystem, merged_at, merged_left_by, mounts_shown, released_in, released_merged, shown_left_by, without_layer, without_merged}
use Rattle.vt_mounting.proofs.detach.Shown.{unpinned_shown}

-- Overlays by their numbers

pub found_merged : (count : ℕ) (overlays : Overlays)
    → merged_at (counted count) (map merged_of overlays) ≡ option_map merged_of (entry_kept overlays count)
found_merged count [] = refl
found_merged count (entry ∷ rest) = grind (arith, common_steps, found_merged count rest, counted_test)

-- an overlay is kept just if there is one
pub merged_there : (count : ℕ) (overlays : Overlays)
    → is_some (merged_at (counted count) (map merged_of overlays)) ≡ is_some (layered_of overlays count)
merged_there count overlays =
    ap is_some (found_merged count overlays) ∙ is_some_mapped merged_of (entry_kept overlays count)
    ∙ sym (is_some_mapped layered_entry (entry_kept overlays count))

abbrev less : OverlayEntry → OverlayEntry
less entry = record entry { mounts = entry.mounts - 1 }

released : (count : ℕ) (overlays : Overlays) → map merged_of (with_overlay_changed count less overlays)
    ≡ released_merged (counted count) (map merged_of overlays)
released count [] = refl
released count (entry ∷ rest) = grind (arith, common_steps, released count rest, counted_test)

removed : (count : ℕ) (overlays : Overlays)
    → map merged_of (without_overlay count (with_overlay_changed count less overlays))
    ≡ without_merged (counted count) (map merged_of overlays)
removed count [] = refl
removed count (entry ∷ rest) = grind (arith, common_steps, removed count rest, counted_test)

found_less : (count : ℕ) (overlays : Overlays) (entry : OverlayEntry) → entry_kept overlays count ≡ Some entry
    → entry_kept (with_overlay_changed count less overlays) count ≡ Some (less entry)
found_less count [] entry e = absurd cc
found_less count (first ∷ rest) entry e = grind (arith, common_steps, found_less count rest entry)

-- Layers

mounts_seen : (count : ℕ) (all : List Shown) → Stored.mounts_shown count all ≡ mounts_shown (counted count) all
mounts_seen count [] = refl
mounts_seen count (one ∷ rest) = grind (arith, common_steps, mounts_seen count rest, counted_test)

layer_less : (all : List Shown) (layer : LayerRef) → Stored.without_layer all layer ≡ without_layer all (layer_of layer)
layer_less all layer = grind (arith, common_steps, mounts_seen, filter_alike, counted_test, map_alike, unpinned_shown)

layers_less : (layers : List LayerRef) (all : List Shown)
    → without_layers layers all ≡ folded without_layer all (map layer_of layers)
layers_less [] all = refl
layers_less (layer ∷ rest) all = layers_less rest (Stored.without_layer all layer)
    ∙ ap (λ left. folded without_layer left (map layer_of rest)) (layer_less all layer)

-- An overlay

module _ (count : ℕ) (old : StoreValue) {held : StoreValue}
    (is_held : held ≡ with_mounts count (λ mounts. mounts - 1) old) {n : ℕ}
    (is : n ≡ mounts_in held count) where
  module _ {entry : OverlayEntry} (e : entry_kept old.overlays count ≡ Some entry) where
    held_so : held ≡ record old { overlays = with_overlay_changed count less old.overlays }
    held_so = is_held ∙ ap (with_mounts_by count (λ mounts. mounts - 1) old) e

    merged_so : merged_at (counted count) (map merged_of old.overlays) ≡ Some (merged_of entry)
    merged_so = found_merged count old.overlays ∙ ap (option_map merged_of) e

    entry_so : entry_in held count ≡ Some (less entry)
    entry_so = ap (λ (store : StoreValue). entry_kept store.overlays count) held_so
        ∙ found_less count old.overlays entry e

    mounts_so : n ≡ entry.mounts - 1
    mounts_so = is ∙ ap (mounts_by held.plain count) entry_so

    left_by : {b : Bool} → nat_eq (entry.mounts - 1) 0 ≡ b → (new : StoreValue)
        → shown new.plain ≡ cond b (folded without_layer (shown old.plain) (map layer_of (layers_held entry)))
        (shown old.plain)
        → map merged_of new.overlays ≡ cond b (without_merged (counted count) (map merged_of old.overlays))
        (released_merged (counted count) (map merged_of old.overlays))
        → kept [] new ≡ leave_filesystem (counted count) (kept [] old)
    left_by t new plain overlays = λ i. record {
      mounts = [];
      filesystems = (plain
          ∙ ap (λ c. cond c (folded without_layer (shown old.plain) (map layer_of (layers_held entry)))
          (shown old.plain)) (sym t) ∙ sym (ap (λ o. shown_left_by (counted count) o (shown old.plain)) merged_so)) i;
      overlays = (overlays ∙ ap (λ c. cond c (without_merged (counted count) (map merged_of old.overlays))
          (released_merged (counted count) (map merged_of old.overlays))) (sym t)
          ∙ sym (ap (λ o. merged_left_by (counted count) o (map merged_of old.overlays)) merged_so)) i;
    }

  abbrev IsLeft : StoreValue → Type 0
  IsLeft new = IfSome (merged_at (counted count) (map merged_of old.overlays))
      (λ one. kept [] new ≡ leave_filesystem (counted count) (kept [] old))

  by_entry : (new : StoreValue) → ((entry : OverlayEntry) → entry_kept old.overlays count ≡ Some entry
      → kept [] new ≡ leave_filesystem (counted count) (kept [] old)) → IsLeft new
  by_entry new left = grind (arith, common_steps, found_merged)

  -- It goes with its last mount, and its layers with it,
  pub overlay_goes : n ≡ 0 → (new : StoreValue) → new.overlays ≡ without_overlay count held.overlays
      → shown new.plain ≡ without_layers (held_in held count) (shown held.plain) → IsLeft new
  overlay_goes zero new overlays plain = by_entry new (λ entry e.
      left_by e (eq-eqb (entry.mounts - 1) 0 (sym (mounts_so e) ∙ zero)) new (plain
      ∙ (λ i. without_layers (unwrap_or (option_map (λ layered. held_layers layered.overlay layered.above)
      (option_map layered_entry (entry_so e i))) []) (shown (held_so e i).plain))
      ∙ layers_less (layers_held entry) (shown old.plain)) (ap (map merged_of)
      (overlays ∙ ap (λ (store : StoreValue). without_overlay count store.overlays) (held_so e))
      ∙ removed count old.overlays))

  -- and stays while another shows it.
  pub overlay_stays : n ≢ 0 → IsLeft held
  overlay_stays some = by_entry held (λ entry e.
      left_by e (ne_eqb (entry.mounts - 1) 0 (λ none. some (mounts_so e ∙ none))) held
      (ap (λ (store : StoreValue). shown store.plain) (held_so e))
      (ap (λ (store : StoreValue). map merged_of store.overlays) (held_so e) ∙ released count old.overlays))

-- The filesystem is an overlay,
pub merged_leaves : (number : ℕ) (old new : StoreValue) → IfSome (merged_at number (map merged_of old.overlays))
    (λ one. kept [] new ≡ leave_filesystem number (kept [] old))
    → is_some (merged_at number (map merged_of old.overlays)) ≡ true
    → kept [] new ≡ leave_filesystem number (kept [] old)
merged_leaves number old new left there = grind (arith, common_steps)

-- or a plain one.
pub plain_leaves : (number : ℕ) (old new : StoreValue) → is_some (merged_at number (map merged_of old.overlays)) ≡ false
    → shown new.plain ≡ let_go_filesystem number (released_in number (shown old.plain)) → new.overlays ≡ old.overlays
    → kept [] new ≡ leave_filesystem number (kept [] old)
plain_leaves number old new none plain overlays = λ i. record {
  mounts = [];
  filesystems = (plain ∙ sym (ap (λ o. shown_left_by number o (shown old.plain)) absent)) i;
  overlays = (ap (map merged_of) overlays
      ∙ sym (ap (λ o. merged_left_by number o (map merged_of old.overlays)) absent)) i;
}
  where
    absent : merged_at number (map merged_of old.overlays) ≡ None
    absent = none_from_not_some (merged_at number (map merged_of old.overlays)) none
