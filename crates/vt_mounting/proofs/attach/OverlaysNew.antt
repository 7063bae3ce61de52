-- A new overlay in a store: its layers are in use, and it comes after all others.
use Rattle.std.proofs.Common.{◌≡◌, ◌≤◌, refl, sym, ap, subst, ◌∙◌, ⊎_elim, ℕ, ◌+◌, nat_eq, eq-eqb, nat_lt, Bool, true, false, cond, not, ◌&&◌, List, [], ◌∷◌, ◌++◌, length, map, Option, Some, None, option_map, unwrap_or, arith, nat_le, le-leb, leb-true, ltb-true, ne_eqb}
use Rattle.vt_spec.proofs.Common.{and_parts, common_steps, folded, list_all, map_alike, pinned}
use Rattle.vt_mounting.proofs.Common.{Among, Inode, Overlays, Shown, StoreValue, all_from_among, among-append, among-from_map, among-map, among_from_all, among_from_list_all, counted, counted_test, entry_kept, list_all_from_among, held_in, pinned_if, shown, shown_with, with_layers, without_overlay}
use Rattle.vt_laws_mounts.proofs.letting_go.Lists.{filter_here, filter_skip}
use Rattle.vt_location.specs.declared.locations.Location.{Location}
use Rattle.vt_location.specs.declared.mounts.Mount.{Mount}
use Rattle.vt_overlay.specs.declared.merge.layers.LayerRef.{LayerRef}
use Rattle.vt_store.specs.LayersHeld as Stored
use Rattle.vt_layered.specs.LayeredValue.{held_layers}
use Rattle.vt_store.proofs.KeptObjects.{layered_entry}
use Rattle.vt_store.specs.OverlaysValue.{OverlayEntry, layers_held}
use Rattle.vt_mounting.specs.Detach.Stored.{CountNoUses, CountsNoUses, has_count, layer_of, layered_kept, under_counts}
use Rattle.vt_mounting.specs.Detach.Uses.{Merged, inode_of, merged_at, mounted_in, mounts_shown, pinned_in}
use Rattle.vt_mounting.proofs.detach.CountNoUses.{NoneComes, none_mounted, none_pinned}
use Rattle.vt_mounting.proofs.detach.Shown.{changed_inodes, counted_eq_back}
use Rattle.vt_mounting.specs.Attach.Room.{has_room, merged_has_room, point_has_room, uses_shown}
use Rattle.vt_mounting.proofs.attach.RoomLemmas.{mounted_mounts, mounted_uses, pinned_mounts, pinned_uses}

-- Layers

-- a layer more, by numbers: a use of its directory, and a mount of its filesystem
abbrev pub with_layer : List Shown → Inode → List Shown
with_layer all inode = mounted_in inode.0 (pinned_in inode all)

pinned_shown : (count number : ℕ) (all : List Shown)
    → shown_with count (λ inodes. pinned nat_eq inodes number) all ≡ pinned_in (counted count, number) all
pinned_shown count number all = changed_inodes count (λ inodes. pinned nat_eq inodes number)
    (λ filesystem inodes. pinned_if filesystem inodes (counted count, number))
    (λ other inodes. ap (λ b. cond b (pinned nat_eq inodes number) inodes) (counted_eq_back other count)) all

layer_more : (all : List Shown) (layer : LayerRef) → Stored.with_layer all layer ≡ with_layer all (layer_of layer)
layer_more all layer = grind (arith, common_steps, map_alike, counted_test, pinned_shown)

-- those of an overlay, as they are counted
pub layers_more : (layers : List LayerRef) (all : List Shown)
    → with_layers layers all ≡ folded with_layer all (map layer_of layers)
layers_more [] all = refl
layers_more (layer ∷ rest) all = layers_more rest (Stored.with_layer all layer)
    ∙ ap (λ more. folded with_layer more (map layer_of rest)) (layer_more all layer)

-- one use more of an inode, and one mount of a filesystem, for each at the most

uses_with : (layers : List Inode) (other : Inode) (all : List Shown)
    → uses_shown other (folded with_layer all layers) ≤ uses_shown other all + length layers
uses_with [] other all = omega arith
uses_with (inode ∷ rest) other all =
    let later = uses_with rest other (with_layer all inode) in
    let pinned_so = pinned_uses inode other all in
    let mounted_so = mounted_uses inode.0 other (pinned_in inode all) in
    omega (arith, later, pinned_so, mounted_so)

mounts_with : (layers : List Inode) (other : ℕ) (all : List Shown)
    → mounts_shown other (folded with_layer all layers) ≤ mounts_shown other all + length layers
mounts_with [] other all = omega arith
mounts_with (inode ∷ rest) other all =
    let later = mounts_with rest other (with_layer all inode) in
    let pinned_so = pinned_mounts inode other all in
    let mounted_so = mounted_mounts inode.0 other (pinned_in inode all) in
    omega (arith, later, pinned_so, mounted_so)

-- Room for what comes beside

module _ (layers : List Inode) (all : List Shown) (less most : ℕ) (fits : less + length layers ≤ most) where
  uses_fit : (other : Inode) → nat_le (uses_shown other all) less ≡ true
      → nat_le (uses_shown other (folded with_layer all layers)) most ≡ true
  uses_fit other room =
      let was = leb-true (uses_shown other all) less room in
      let more = uses_with layers other all in
      le-leb (uses_shown other (folded with_layer all layers)) most (omega (arith, was, more, fits))

  point_fits : (point : Option Location) → point_has_room less all point ≡ true
      → point_has_room most (folded with_layer all layers) point ≡ true
  point_fits None room = refl
  point_fits (Some point) room = uses_fit (inode_of point.node) room

  mount_fits : (mount : Mount) → has_room less all mount ≡ true
      → has_room most (folded with_layer all layers) mount ≡ true
  mount_fits mount room =
      let number = counted mount.root.filesystem.count in
      let both = and_parts (nat_le (uses_shown (inode_of mount.root) all) less
      && point_has_room less all mount.mount_point) (nat_le (mounts_shown number all) less) room in
      let uses = and_parts (nat_le (uses_shown (inode_of mount.root) all) less)
      (point_has_room less all mount.mount_point) both.0 in
      let was = leb-true (mounts_shown number all) less both.1 in
      let more = mounts_with layers number all in
      let shows : nat_le (mounts_shown number (folded with_layer all layers)) most ≡ true =
      le-leb (mounts_shown number (folded with_layer all layers)) most (omega (arith, was, more, fits)) in
      λ i. uses_fit (inode_of mount.root) uses.0 i && point_fits mount.mount_point uses.1 i && shows i

  -- the copies have room with the layers,
  pub copies_fit : (copies : List Mount) → list_all (has_room less all) copies ≡ true
      → list_all (has_room most (folded with_layer all layers)) copies ≡ true
  copies_fit copies room = list_all_from_among (has_room most (folded with_layer all layers)) copies (λ mount m.
      mount_fits mount (among_from_list_all (has_room less all) copies room mount m))

  -- and so have mount points
  pub points_fit : {A : Type 0} (place : A → Location) (points : List A)
      → list_all (λ point. point_has_room less all (Some (place point))) points ≡ true
      → list_all (λ point. point_has_room most (folded with_layer all layers) (Some (place point))) points ≡ true
  points_fit {A = A} place points room =
      list_all_from_among (λ (point : A). point_has_room most (folded with_layer all layers) (Some (place point)))
      points
      (λ point m. point_fits (Some (place point))
      (among_from_list_all (λ (one : A). point_has_room less all (Some (place one))) points room point m))

-- Overlays

-- one without mounts leaves as much room
same_mounts : (number : ℕ) (all : List Merged) (one : Merged) → one.mounts ≡ 0
    → unwrap_or (option_map (λ (m : Merged). m.mounts) (merged_at number (all ++ one ∷ []))) 0
    ≡ unwrap_or (option_map (λ (m : Merged). m.mounts) (merged_at number all)) 0
same_mounts number [] one none = by (nat_eq number one.number)
  where
    by : (b : Bool) → unwrap_or (option_map (λ (m : Merged). m.mounts) (cond b (Some one) None)) 0 ≡ 0
    by true = none
    by false = refl
same_mounts number (first ∷ rest) one none = grind (arith, common_steps, same_mounts number rest one none)

pub overlays_fit : (most : ℕ) (all : List Merged) (one : Merged) → one.mounts ≡ 0 → (copies : List Mount)
    → list_all (merged_has_room most all) copies ≡ true
    → list_all (merged_has_room most (all ++ one ∷ [])) copies ≡ true
overlays_fit most all one none copies room = list_all_from_among (merged_has_room most (all ++ one ∷ [])) copies
    (λ mount m.
    ap (λ n. nat_le n most) (same_mounts (counted mount.root.filesystem.count) all one none)
    ∙ among_from_list_all (merged_has_room most all) copies room mount m)

-- the new one is found by its count,
found_new : (overlays : Overlays) (entry : OverlayEntry)
    → list_all (λ (other : OverlayEntry). nat_lt other.count entry.count) overlays ≡ true
    → entry_kept (overlays ++ entry ∷ []) entry.count ≡ Some entry
found_new [] entry above = ap (λ b. cond b (Some entry) None) (eq-eqb entry.count entry.count refl)
found_new (first ∷ rest) entry above =
    let parts = and_parts (nat_lt first.count entry.count)
    (list_all (λ (other : OverlayEntry). nat_lt other.count entry.count) rest) above in
    let low = ltb-true first.count entry.count parts.0 in
    ap (λ b. cond b (Some first) (entry_kept (rest ++ entry ∷ []) entry.count))
    (ne_eqb entry.count first.count (λ same. absurd (omega (arith, low, same)))) ∙ found_new rest entry parts.1

pub lowers_new : (store : StoreValue) (entry : OverlayEntry)
    → list_all (λ (other : OverlayEntry). nat_lt other.count entry.count) store.overlays ≡ true
    → held_in (record store { overlays = store.overlays ++ entry ∷ [] }) entry.count ≡ layers_held entry
lowers_new store entry above =
    ap (λ o. unwrap_or (option_map (λ layered. held_layers layered.overlay layered.above) (option_map layered_entry o)) [])
    (found_new store.overlays entry above)

-- and without it the others are left
pub withdrawn : (overlays : Overlays) (entry : OverlayEntry)
    → list_all (λ (other : OverlayEntry). nat_lt other.count entry.count) overlays ≡ true
    → without_overlay entry.count (overlays ++ entry ∷ []) ≡ overlays
withdrawn [] entry above = filter_skip (λ (other : OverlayEntry). not (nat_eq entry.count other.count)) entry []
    (ap not (eq-eqb entry.count entry.count refl))
withdrawn (first ∷ rest) entry above =
    let parts = and_parts (nat_lt first.count entry.count)
    (list_all (λ (other : OverlayEntry). nat_lt other.count entry.count) rest) above in
    let low = ltb-true first.count entry.count parts.0 in
    filter_here (λ (other : OverlayEntry). not (nat_eq entry.count other.count)) first (rest ++ entry ∷ [])
    (ap not (ne_eqb entry.count first.count (λ same. absurd (omega (arith, low, same)))))
    ∙ ap (λ others. first ∷ others) (withdrawn rest entry parts.1)

-- Overlays count no uses still

none_with_layers : (layers : List Inode) (all : List Shown) → NoneComes all (folded with_layer all layers)
none_with_layers [] all count none = none
none_with_layers (layer ∷ rest) all count none = none_with_layers rest (with_layer all layer) count
    (none_mounted layer.0 (pinned_in layer all) count (none_pinned layer all count none))

pub still_with : (old new : StoreValue) (entry : OverlayEntry) (layers : List LayerRef) → entry.above ≡ None
    → has_count entry.count (shown old.plain) ≡ false → CountNoUses old → new.overlays ≡ old.overlays ++ entry ∷ []
    → shown new.plain ≡ with_layers layers (shown old.plain) → CountNoUses new
still_with old new entry layers low apart none overlays plain =
    all_from_among (CountsNoUses (shown new.plain)) (under_counts new.overlays) (λ one m.
    let from = among-from_map layered_kept (old.overlays ++ entry ∷ []) one
    (subst (λ all. Among one (under_counts all)) overlays m) in
    subst (CountsNoUses (shown new.plain)) (sym from.2) (⊎_elim (λ was.
    let counts = among_from_all (CountsNoUses (shown old.plain)) (under_counts old.overlays) none
    (layered_kept from.0) (among-map layered_kept old.overlays from.0 was) in
    record { low = counts.low; apart = fewer from.0.count counts.apart })
    (λ last. subst (λ other. CountsNoUses (shown new.plain) (layered_kept other)) (only last)
    (record { low = low; apart = fewer entry.count apart }))
    (among-append old.overlays (entry ∷ []) from.0 from.1)))
  where
    fewer : NoneComes (shown old.plain) (shown new.plain)
    fewer count absent = ap (has_count count) (plain ∙ layers_more layers (shown old.plain))
        ∙ none_with_layers (map layer_of layers) (shown old.plain) count absent

    only : {other : OverlayEntry} → Among other (entry ∷ []) → entry ≡ other
    only m = ⊎_elim (λ same. sym same) (λ none. absurd none) m
