-- What counts as under a directory tells nothing that the upper directory of its overlay does not.
use Rattle.std.proofs.Common.{◌≡◌, ◌∙◌, ◌&&◌, ap, subst, sym, ⊎_elim, Bool, eq-eqb, eqb-true, is_some, nat_eq, not, None, Option, Some, true, true≢false, ℕ}
use Rattle.vt_spec.proofs.Common.{Among, FileTree, Filesystem, IsWorld, Layer, Node, World, among-from_filter, and_from, and_true_left, and_true_right, any_among, any_from_among, counts_as_in_layer, filesystem_numbered, is_directory_node, is_locked, is_overlay, is_under, layers_of, lies_in_layer, lies_or_counts_under, live_layers, or_cases, or_left, overlaps_one_of, overlays, same_truth}
use Rattle.vt_laws_trees.proofs.layers.locked.Apart.{layer_among, layer_plain, under_itself, upper_in_layers}
use Rattle.vt_laws_trees.proofs.layers.locked.Layers.{are_trees, inode_listed}
use Rattle.vt_laws_trees.proofs.overlays.whole.ApartThere.{counts_parts, own_number}
use Rattle.vt_fs.specs.FilesystemsValue.{files_at}
use Rattle.vt_location.specs.Numbers.{counted}
use Rattle.vt_store.specs.StoreValue.{StoreValue}
use Rattle.vt_overlaps.specs.Laws.{IsLockedAlike, OverlapsAreWithLiveLayers}
use Rattle.vt_overlaps.specs.Overlaps.{lies_in_both, overlaps_live}

directory_there : (o : Option (Node ℕ)) → is_directory_node o ≡ true → is_some o ≡ true
directory_there None is = absurd (true≢false (sym is))
directory_there (Some node) is = λ i. true

module _ (store : StoreValue) (world : World ℕ) (count top : ℕ) (conditions : IsWorld nat_eq world)
    (alike : IsLockedAlike store world count) where
  abbrev here : ℕ
  here = counted count

  abbrev layer : Layer ℕ
  layer = record { filesystem = counted count; directory = top }

  abbrev numbers : FileTree ℕ
  numbers = (filesystem_numbered nat_eq world (counted count)).files

  abbrev in_both : ℕ → Bool
  in_both number = lies_or_counts_under nat_eq world (counted count) number layer
      && is_locked nat_eq world (counted count) number

  -- what lies in the directory lies in it as in a layer
  lies_so : (number : ℕ) → lies_in_layer nat_eq world (counted count) number layer
      ≡ is_under nat_eq (files_at store.plain count) top number
  lies_so number = λ i. eq-eqb here here (λ j. here) i && is_under nat_eq (alike.files i) top number

  listed : (number : ℕ) → Among number (files_at store.plain count).numbers → Among number numbers.numbers
  listed number m = subst (λ (files : FileTree ℕ). Among number files.numbers) (sym alike.files) m

  listed_back : (number : ℕ) → Among number numbers.numbers → Among number (files_at store.plain count).numbers
  listed_back number m = subst (λ (files : FileTree ℕ). Among number files.numbers) alike.files m

  -- an inode that is locked and lies in the directory
  both : (number : ℕ) → Among number numbers.numbers → is_locked nat_eq world (counted count) number ≡ true
      → lies_in_layer nat_eq world (counted count) number layer ≡ true → overlaps_live store count top ≡ true
  both number m locked lies = any_from_among (lies_in_both store count top) (files_at store.plain count).numbers number
      (listed_back number m)
      (and_from _ _ (alike.locked number ∙ locked) (sym (lies_so number) ∙ lies))

  -- an upper directory is locked, and if it lies there, it overlaps a layer
  upper_lies : (merged : Filesystem ℕ) → Among merged (overlays world) → (number : ℕ)
      → counts_as_in_layer nat_eq world (counted count) number layer merged ≡ true → overlaps_live store count top ≡ true
  upper_lies merged m number counts =
      let parts = counts_parts world layer (counted count) number merged counts in
      let upper = parts.upper_of_it in
      let own = own_number world conditions.files.one_filesystem merged
      (among-from_filter is_overlay world.filesystems merged m).0 in
      let is = ap (λ (f : Filesystem ℕ). f.overlay) own ∙ parts.is_of in
      let among = upper_in_layers world conditions merged.number parts.overlay_of is upper parts.has_it in
      let plain = layer_plain world conditions merged.number parts.overlay_of is upper among in
      let directory = and_true_right (not (is_overlay (filesystem_numbered nat_eq world upper.filesystem))) _ plain in
      let itself : lies_in_layer nat_eq world upper.filesystem upper.directory upper ≡ true =
      and_from _ _ (eq-eqb upper.filesystem upper.filesystem (λ i. upper.filesystem))
      (under_itself (filesystem_numbered nat_eq world upper.filesystem).files upper.directory directory) in
      let locked : is_locked nat_eq world upper.filesystem upper.directory ≡ true =
      any_from_among (lies_or_counts_under nat_eq world upper.filesystem upper.directory) (live_layers world) upper
      (layer_among world layers_of merged.number parts.overlay_of is upper among)
      (or_left _ _ itself) in
      let there = inode_listed world (are_trees world conditions.files) upper.filesystem upper.directory
      (directory_there _ directory) in
      let same : upper.filesystem ≡ counted count =
      eqb-true upper.filesystem (counted count) (and_true_left _ _ parts.lies) in
      both upper.directory
      (subst (λ n. Among upper.directory (filesystem_numbered nat_eq world n).files.numbers) same there)
      (subst (λ n. is_locked nat_eq world n upper.directory ≡ true) same locked)
      (subst (λ n. lies_in_layer nat_eq world n upper.directory layer ≡ true) same parts.lies)

  forth : overlaps_live store count top ≡ true → overlaps_one_of nat_eq world (live_layers world) layer ≡ true
  forth e =
      let found = any_among (lies_in_both store count top) (files_at store.plain count).numbers e in
      any_from_among in_both numbers.numbers found.0 (listed found.0 found.1)
      (and_from _ _ (or_left _ _ (lies_so found.0 ∙ and_true_right _ _ found.2))
      (sym (alike.locked found.0) ∙ and_true_left _ _ found.2))

  back : overlaps_one_of nat_eq world (live_layers world) layer ≡ true → overlaps_live store count top ≡ true
  back e =
      let found = any_among in_both numbers.numbers e in
      ⊎_elim (both found.0 found.1 (and_true_right _ _ found.2))
      (λ counts.
      let some = any_among (counts_as_in_layer nat_eq world (counted count) found.0 layer) (overlays world) counts in
      upper_lies some.0 some.1 found.0 some.2)
      (or_cases (lies_in_layer nat_eq world (counted count) found.0 layer) _ (and_true_left _ _ found.2))

  same_overlap : overlaps_live store count top ≡ overlaps_one_of nat_eq world (live_layers world) layer
  same_overlap = same_truth _ _ forth back

pub overlaps_are_with_live_layers : OverlapsAreWithLiveLayers
overlaps_are_with_live_layers store world count top conditions alike = same_overlap store world count top conditions alike
