-- Plain filesystems and overlays, found by their numbers.
use Rattle.std.proofs.Common.{◌≡◌, ◌∙◌, ◌∷◌, ◌⊎◌, [], arith, ap, Bor, cond, List, inl, inr, nat_eq, nat_lt, None, option_map, Option, refl, Some, sym, ℕ, find, is_some, option_copied, unwrap_or}
use Rattle.vt_spec.proofs.Common.{Among, Filesystem, found_among, no_filesystem, none_is_some, same_Some, common_steps}
use Rattle.vt_laws_trees.specs.Overlays.InOrder.{put_in}
use Rattle.vt_location.proofs.NumberLemmas.{counted_test}
use Rattle.vt_location.specs.Numbers.{counted}
use Rattle.vt_fs.proofs.Numbers.{found_by_number}
use Rattle.vt_fs.specs.FilesystemsValue.{FilesystemEntry, Filesystems, entry_at, entry_of, files_at, filesystem_seen, filesystems_seen, inodes_seen}
use Rattle.vt_layered.specs.LayeredTree.{layered_files}
use Rattle.vt_layered.specs.LayeredValue.{LayeredValue}
use Rattle.vt_store.specs.OverlaysValue.{OverlayEntry}
use Rattle.vt_store.specs.StoreValue.{StoreValue, entry_in, filesystem_found, filesystem_in, files_in, layered_in, overlay_filesystem, root_in, woven}

-- what is put in is found by its number, and all others as before
find-put_in : (number : ℕ) (filesystem : Filesystem ℕ) (others : List (Filesystem ℕ))
    → find (λ (one : Filesystem ℕ). nat_eq number one.number) (put_in filesystem others)
    ≡ cond (nat_eq number filesystem.number) (Some filesystem)
    (find (λ (one : Filesystem ℕ). nat_eq number one.number) others)
find-put_in number filesystem [] = refl
find-put_in number filesystem (first ∷ rest) =
    grind (arith, common_steps, find-put_in number filesystem rest, nat_lt first.number filesystem.number)

-- what is put in is there, and all others are
among-put_in : (one filesystem : Filesystem ℕ) (others : List (Filesystem ℕ))
    → (one ≡ filesystem) ⊎ Among one others → Among one (put_in filesystem others)
among-put_in one filesystem [] among = among
among-put_in one filesystem (first ∷ rest) among =
    grind (arith, common_steps, among-put_in one filesystem rest, nat_lt first.number filesystem.number)

pub among-woven : (plain : Filesystems) (entry : OverlayEntry) (entries : List OverlayEntry) → Among entry entries
    → Among (overlay_filesystem plain entry) (woven plain entries)
among-woven plain entry [] among = absurd among
among-woven plain entry (first ∷ entries) (inl same) =
    among-put_in (overlay_filesystem plain entry) (overlay_filesystem plain first) (woven plain entries)
    (inl (ap (overlay_filesystem plain) same))
among-woven plain entry (first ∷ entries) (inr later) =
    grind (arith, common_steps, among-woven plain entry entries later, among-put_in)

-- the overlay of this count, or what is found among others
abbrev over : Filesystems → Option OverlayEntry → Option (Filesystem ℕ) → Option (Filesystem ℕ)
over plain None other = other
over plain (Some entry) other = Some (overlay_filesystem plain entry)

find-woven : (plain : Filesystems) (count : ℕ) (entries : List OverlayEntry)
    → find (λ (one : Filesystem ℕ). nat_eq (counted count) one.number) (woven plain entries)
    ≡ over plain (find (λ (entry : OverlayEntry). nat_eq count entry.count) entries)
    (find (λ (one : Filesystem ℕ). nat_eq (counted count) one.number) (filesystems_seen plain))
find-woven plain count [] = refl
find-woven plain count (entry ∷ entries) =
    grind (
      arith,
      common_steps,
      find-woven plain count entries,
      find-put_in (counted count) (overlay_filesystem plain
          entry) (woven plain entries),
      counted_test count entry.count,
      nat_eq count entry.count,
    )

module _ (store : StoreValue) (count : ℕ) where
  found_by : (o : Option OverlayEntry) → entry_in store count ≡ o → filesystem_found store count ≡ over store.plain o
      (find (λ (one : Filesystem ℕ). nat_eq (counted count) one.number) (filesystems_seen store.plain))
  found_by o e = cc (find-woven store.plain count store.overlays)

  found_so : (o : Option OverlayEntry) → entry_in store count ≡ o → filesystem_in store count
      ≡ unwrap_or (over store.plain o
      (find (λ (one : Filesystem ℕ). nat_eq (counted count) one.number) (filesystems_seen store.plain)))
      (no_filesystem (counted count))
  found_so o e = ap (λ found. unwrap_or found (no_filesystem (counted count))) (found_by o e)

  -- an entry with what it keeps beside its layers
  abbrev layered_entry : OverlayEntry → LayeredValue
  layered_entry entry = record { overlay = entry.overlay; above = entry.above }

  -- a filesystem without an overlay of its count is a plain one
  pub is_plain : layered_in store count ≡ None
      → filesystem_in store count ≡ filesystem_seen (entry_at store.plain count)
  is_plain none = by (entry_in store count) refl none
    where
      by : (o : Option OverlayEntry) → entry_in store count ≡ o → option_map layered_entry o ≡ None
          → filesystem_in store count ≡ filesystem_seen (entry_at store.plain count)
      by None e none = found_so None e ∙ found_by_number store.plain count
      by (Some entry) e none = none_is_some (layered_entry entry) (sym none)

  -- and one with an overlay of its count is that
  pub record IsOver (layered : LayeredValue) : Type 0 where
    pub entry : OverlayEntry
    pub holds : layered_entry entry ≡ layered
    pub among : Among entry store.overlays
    pub is : filesystem_in store count ≡ overlay_filesystem store.plain entry

  pub is_over : (layered : LayeredValue) → layered_in store count ≡ Some layered → IsOver layered
  is_over layered some = by (entry_in store count) refl some
    where
      by : (o : Option OverlayEntry) → entry_in store count ≡ o
          → option_map layered_entry o ≡ Some layered → IsOver layered
      by None e some = none_is_some layered some
      by (Some entry) e some = record {
        entry = entry;
        holds = same_Some (layered_entry entry) layered some;
        among = found_among (λ (one : OverlayEntry). nat_eq count one.count) store.overlays entry e;
        is = found_so (Some entry) e;
      }

  pub files_over : (layered : LayeredValue) → layered_in store count ≡ Some layered
      → layered_files store.plain layered.overlay layered.above ≡ files_in store count
  files_over layered some =
      let over = is_over layered some in
      sym (ap (λ (filesystem : Filesystem ℕ). filesystem.files) over.is
      ∙ ap (λ (one : LayeredValue). layered_files store.plain one.overlay one.above) over.holds)

  pub files_plain : layered_in store count ≡ None → files_at store.plain count ≡ files_in store count
  files_plain none = sym (ap (λ (filesystem : Filesystem ℕ). filesystem.files) (is_plain none))

  -- it is an overlay if there is one of its count
  pub is_overlay_in : is_some (layered_in store count) ≡ is_some (filesystem_in store count).overlay
  is_overlay_in = by (layered_in store count) refl
    where
      by : (o : Option LayeredValue) → layered_in store count ≡ o
          → is_some o ≡ is_some (filesystem_in store count).overlay
      by None e = sym (ap (λ (filesystem : Filesystem ℕ). is_some filesystem.overlay) (is_plain e))
      by (Some layered) e = sym (ap (λ (filesystem : Filesystem ℕ). is_some filesystem.overlay) (is_over layered e).is)

-- a plain filesystem is found by its count
found_plain : (plain : Filesystems) (count : ℕ)
    → find (λ (one : Filesystem ℕ). nat_eq (counted count) one.number) (filesystems_seen plain)
    ≡ option_map filesystem_seen (entry_of plain count)
found_plain [] count = refl
found_plain (entry ∷ plain) count =
    grind (arith, common_steps, found_plain plain count, counted_test count entry.count, nat_eq count entry.count)

-- The root directory

-- of a plain filesystem,
pub root_plain : (store : StoreValue) (count : ℕ) → layered_in store count ≡ None
    → option_map (λ entry. (inodes_seen entry).root) (entry_of store.plain count) ≡ root_in store count
root_plain store count none = by (entry_in store count) refl none
  where
    same : (o : Option FilesystemEntry) → option_map (λ entry. (inodes_seen entry).root) o
        ≡ option_map (λ (one : Filesystem ℕ). one.files.tree.root) (option_map filesystem_seen o)
    same o = grind (arith, common_steps)

    by : (o : Option OverlayEntry) → entry_in store count ≡ o
        → option_map (layered_entry store count) o ≡ None
        → option_map (λ entry. (inodes_seen entry).root) (entry_of store.plain count) ≡ root_in store count
    by None e none = same (entry_of store.plain count) ∙ ap (option_map (λ (one : Filesystem ℕ). one.files.tree.root))
        (sym (found_by store count None e ∙ found_plain store.plain count))
    by (Some entry) e none = none_is_some (layered_entry store count entry) (sym none)

-- and of an overlay
pub root_over : (store : StoreValue) (count : ℕ) (layered : LayeredValue) → layered_in store count ≡ Some layered
    → Some (layered_files store.plain layered.overlay layered.above).tree.root ≡ root_in store count
root_over store count layered some = by (entry_in store count) refl some
  where
    by : (o : Option OverlayEntry) → entry_in store count ≡ o → option_map (layered_entry store count) o ≡ Some layered
        → Some (layered_files store.plain layered.overlay layered.above).tree.root ≡ root_in store count
    by None e some = none_is_some layered some
    by (Some entry) e some = ap (λ (one : LayeredValue). Some (layered_files store.plain one.overlay
        one.above).tree.root) (sym (same_Some (layered_entry store count entry) layered some))
        ∙ ap (option_map (λ (one : Filesystem ℕ). one.files.tree.root)) (sym (found_by store count (Some entry) e))

-- what is found is there just if something is lent
pub some_copied : (o : Option (Bor LayeredValue)) → is_some o ≡ is_some (option_copied o)
some_copied o = grind (arith, common_steps)
