-- How many mounts show overlays, as code counts them: those that come are room for, and are counted.
use Rattle.std.proofs.Common.{◌≡◌, refl, sym, ap, subst, ◌∙◌, ℕ, ◌+◌, ◌-◌, ◌<◌, ◌≤◌, true, false, ◌&&◌, List, [], ◌∷◌, map, length, Option, Some, None, is_some, option_map, unwrap_or, take, get_or, arith, le-leb, leb-true, length-take-le}
use Rattle.vt_spec.proofs.Common.{and_parts, common_steps, folded, list_all}
use Rattle.vt_location.specs.Numbers.{most_counted}
use Rattle.vt_mounting.proofs.Common.{Overlays, StoreValue, among_from_list_all, counted, counted_test, entry_in, entry_kept, layered_in, with_mounts, with_mounts_by, with_overlay_changed}
use Rattle.vt_location.specs.declared.mounts.Mount.{Mount}
use Rattle.vt_store.specs.Counts.{mounts_in}
use Rattle.vt_layered.specs.LayeredValue.{LayeredValue}
use Rattle.vt_store.proofs.KeptObjects.{layered_entry}
use Rattle.vt_store.specs.OverlaysValue.{OverlayEntry}
use Rattle.vt_mounting.specs.Attach.Room.{merged_has_room}
use Rattle.vt_mounting.specs.Detach.Stored.{merged_of}
use Rattle.vt_mounting.specs.Detach.Uses.{Merged, merged_at, merged_by, mounted_merged}
use Rattle.vt_mounting.proofs.attach.EnteringLemmas.{among_at}
use Rattle.vt_mounting.proofs.detach.StoresLeft.{found_merged}

-- how many mounts show an overlay
abbrev pub mounts_merged : ℕ → List Merged → ℕ
mounts_merged number all = unwrap_or (option_map (λ (one : Merged). one.mounts) (merged_at number all)) 0

-- Overlays of a store

-- one mount more of it
merged_held : (count : ℕ) (all : Overlays)
    → map merged_of (with_overlay_changed count (λ one. record one { mounts = one.mounts + 1 }) all)
    ≡ mounted_merged (counted count) (map merged_of all)
merged_held count [] = refl
merged_held count (entry ∷ rest) = grind (arith, common_steps, merged_held count rest, counted_test)

-- what is no overlay is none of them
none_held : (count : ℕ) (all : Overlays) → is_some (entry_kept all count) ≡ false
    → mounted_merged (counted count) (map merged_of all) ≡ map merged_of all
none_held count [] none = refl
none_held count (entry ∷ rest) none = grind (arith, common_steps, none_held count rest, counted_test)

module _ (store : StoreValue) (count : ℕ) where
  -- whether a filesystem is an overlay
  pub overlay_there : (found : Option LayeredValue) → found ≡ layered_in store count
      → is_some found ≡ is_some (entry_in store count)
  overlay_there found is = ap is_some is ∙ by (entry_in store count)
    where
      by : (o : Option OverlayEntry) → is_some (option_map layered_entry o) ≡ is_some o
      by None = refl
      by (Some entry) = refl

  pub mounts_are_merged : is_some (entry_in store count) ≡ true
      → mounts_in store count ≡ mounts_merged (counted count) (map merged_of store.overlays)
  mounts_are_merged there = grind (arith, common_steps, found_merged)

  pub none_merged : is_some (entry_in store count) ≡ false
      → mounts_merged (counted count) (map merged_of store.overlays) ≡ 0
  none_merged none = grind (arith, common_steps, found_merged)

  -- one mount more of an overlay
  pub held_over : is_some (entry_in store count) ≡ true → (new : StoreValue)
      → new ≡ with_mounts count (λ mounts. mounts + 1) store → (new.plain ≡ store.plain)
      × (map merged_of new.overlays ≡ mounted_merged (counted count) (map merged_of store.overlays))
  held_over there new is = by (entry_in store count) there is
    where
      by : (o : Option OverlayEntry) → is_some o ≡ true → new ≡ with_mounts_by count (λ mounts. mounts + 1) store o
          → (new.plain ≡ store.plain)
          × (map merged_of new.overlays ≡ mounted_merged (counted count) (map merged_of store.overlays))
      by None there e = absurd cc
      by (Some entry) there e = (
        ap (λ (one : StoreValue). one.plain) e,
        ap (λ (one : StoreValue). map merged_of one.overlays) e ∙ merged_held count store.overlays,
      )

  pub none_over : is_some (entry_in store count) ≡ false
      → map merged_of store.overlays ≡ mounted_merged (counted count) (map merged_of store.overlays)
  none_over none = sym (none_held count store.overlays none)

-- Room

more_merged : (number other : ℕ) (all : List Merged)
    → mounts_merged other (mounted_merged number all) ≤ mounts_merged other all + 1
more_merged number other [] = omega arith
more_merged number other (one ∷ rest) = grind (arith, common_steps, more_merged number other rest)

merged_by_all : (new : List Mount) (other : ℕ) (all : List Merged)
    → mounts_merged other (folded merged_by all new) ≤ mounts_merged other all + length new
merged_by_all [] other all = omega arith
merged_by_all (mount ∷ new) other all =
    let rest = merged_by_all new other (merged_by all mount) in
    let first = more_merged (counted mount.root.filesystem.count) other all in
    omega (arith, rest, first)

-- where there is room for all before the first, there is room for each when its turn comes
pub merged_room_at : (new : List Mount) (all : List Merged) {now : List Merged} (i : ℕ) (d : Mount) → i < length new
    → length new ≤ most_counted
    → list_all (merged_has_room (most_counted - length new) all) new ≡ true → now ≡ folded merged_by all (take i new)
    → merged_has_room (most_counted - 1) now (get_or new i d) ≡ true
merged_room_at new all i d less fits room so_far =
    let mount = get_or new i d in
    let number = counted mount.root.filesystem.count in
    let was = leb-true (mounts_merged number all) (most_counted - length new)
    (among_from_list_all (merged_has_room (most_counted - length new) all) new room mount (among_at new i d less)) in
    let more = merged_by_all (take i new) number all in
    let size = length-take-le i new (omega (arith, less)) in
    subst (λ later. merged_has_room (most_counted - 1) later mount ≡ true) (sym so_far)
    (le-leb (mounts_merged number (folded merged_by all (take i new))) (most_counted - 1)
    (omega (arith, was, more, size, less, fits)))

-- less room is enough for less
pub merged_room_stays : (most less : ℕ) (all : List Merged) → less ≤ most → (new : List Mount)
    → list_all (merged_has_room less all) new ≡ true → list_all (merged_has_room most all) new ≡ true
merged_room_stays most less all fewer [] room = refl
merged_room_stays most less all fewer (mount ∷ rest) room =
    let number = counted mount.root.filesystem.count in
    let parts = and_parts (merged_has_room less all mount) (list_all (merged_has_room less all) rest) room in
    let few = leb-true (mounts_merged number all) less parts.0 in
    λ i. le-leb (mounts_merged number all) most (omega (arith, few, fewer)) i
    && merged_room_stays most less all fewer rest parts.1 i
