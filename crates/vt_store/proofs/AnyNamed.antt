-- What lies in a layer by a name: the names are looked through once, and the layers for each.
use Rattle.std.proofs.Common.{Bool, List, [], ap, false, refl, sym, true, ◌&&◌, ◌||◌, ◌∙◌, ◌∷◌, ◌≡◌, nat_eq, ℕ, arith}
use Rattle.vt_spec.proofs.Common.{has_entry_to, is_directory_under, is_file_under, list_any, or_false_left, or_false_right, common_steps}
use Rattle.vt_fs.specs.FilesystemsValue.{Filesystems, files_at}
use Rattle.vt_location.specs.Locations.{inode_of}
use Rattle.vt_overlay.specs.declared.merge.layers.LayerRef.{LayerRef}
use Rattle.vt_store.specs.Locks.{directory_lies_in, directory_lies_in_overlay, lies_in_overlay, names_in_layer, overlay_stands_in}
use Rattle.vt_store.specs.OverlaysValue.{OverlayEntry, layers_held}

-- a test that passes for no more elements than another
pub any-fewer : {X : Type 0} (p q : X → Bool) → ((x : X) → p x ≡ false → q x ≡ false) → (xs : List X)
    → list_any p xs ≡ false → list_any q xs ≡ false
any-fewer p q less [] none = refl
any-fewer p q less (x ∷ xs) none = ap (λ b. b || list_any q xs) (less x (or_false_left (p x) (list_any p xs) none))
    ∙ any-fewer p q less xs (or_false_right (p x) (list_any p xs) none)

module _ {D : Type 0} (has : D → Bool) where
  each_or : (h p q m n : Bool) → ((h && p || m) || (h && q || n)) ≡ (h && (p || q) || (m || n))
  each_or h p q m n = grind (arith, common_steps)

  any-or : (p q : D → Bool) (ds : List D) → (list_any (λ d. has d && p d) ds || list_any (λ d. has d && q d) ds)
      ≡ list_any (λ d. has d && (p d || q d)) ds
  any-or p q [] = refl
  any-or p q (d ∷ ds) = grind (arith, common_steps, any-or p q ds, each_or)

  never : (ds : List D) → list_any (λ d. has d && false) ds ≡ false
  never [] = refl
  never (d ∷ ds) = grind (arith, common_steps, never ds, has d)

  -- what does not depend on the element
  pub any-and : (b : Bool) (p : D → Bool) (ds : List D)
      → (b && list_any (λ d. has d && p d) ds) ≡ list_any (λ d. has d && (b && p d)) ds
  any-and true p ds = refl
  any-and false p ds = sym (never ds)

  -- two lists, in the other order
  pub any-swapped : {X : Type 0} (test : X → D → Bool) (xs : List X) (ds : List D)
      → list_any (λ x. list_any (λ d. has d && test x d) ds) xs ≡ list_any
      (λ d. has d && list_any (λ x. test x d) xs) ds
  any-swapped test [] ds = sym (never ds)
  any-swapped test (x ∷ xs) ds = cc (any-swapped test xs ds, any-or (test x) (λ d. list_any (λ x. test x d) xs) ds)

-- nothing lies in a layer of a filesystem that has none
pub none_stands : (plain : Filesystems) (count number : ℕ) (overlays : List OverlayEntry)
    → list_any (overlay_stands_in count) overlays ≡ false
    → list_any (lies_in_overlay plain count number) overlays ≡ false
none_stands plain count number = grind (arith, common_steps, any-fewer)

module _ (plain : Filesystems) (count file : ℕ) where
  abbrev names_it : ℕ → Bool
  names_it directory = has_entry_to nat_eq (files_at plain count).tree directory file

  -- a file has a name in the directory of a layer, or under it
  abbrev pub file_lies_in : LayerRef → Bool
  file_lies_in layer = nat_eq count layer.directory.filesystem.count
      && is_file_under nat_eq (files_at plain count) (inode_of layer.directory) file

  pub named_in_one : (overlays : List OverlayEntry)
      → list_any (λ (entry : OverlayEntry). list_any file_lies_in (layers_held entry)) overlays
      ≡ list_any (names_in_layer plain overlays count file) (files_at plain count).numbers
  named_in_one overlays = (λ i. list_any (λ (entry : OverlayEntry). list_any (λ (layer : LayerRef).
      any-and names_it (nat_eq count layer.directory.filesystem.count)
      (is_directory_under nat_eq (files_at plain count) (inode_of layer.directory))
      (files_at plain count).numbers i) (layers_held entry)) overlays) ∙ (λ i. list_any (λ (entry : OverlayEntry).
      any-swapped names_it (λ layer directory. directory_lies_in plain count directory layer) (layers_held entry)
      (files_at plain count).numbers i) overlays)
      ∙ any-swapped names_it (λ entry directory. directory_lies_in_overlay plain count directory entry) overlays
      (files_at plain count).numbers
