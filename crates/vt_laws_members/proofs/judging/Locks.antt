-- What is locked in the world is locked in the part, and the other way round.
use Rattle.std.proofs.Common.{◌≡◌, refl, sym, ap, subst, ◌∙◌, ⊎_elim, ℕ, nat_eq, true, true≢false, List, [], Option, Some, None, find, is_some, ◌||◌, ◌&&◌, eq-eqb, eqb-true, arith, unwrap_or}
use Rattle.vt_spec.proofs.Common.{Among, FileTree, Filesystem, IsTree, Layer, ListsNumbers, Overlay, TaskName, World, all_named, among-append_left, among-append_right, among-filter, among-filter_map, among-flat_map, among-from_filter, among-from_filter_map, among-from_flat_map, among_from_all, among_from_contains, among_from_list_all, among_numbers, and_from, and_parts, any_among, any_from_among, common_steps, contains_from_among, counts_as_in_layer, filesystem_numbered, found_among, has_layer_on, holds_of, is_among, is_directory_node, is_locked, is_lower_root, is_object_of, is_overlay, is_real_upper, is_there, is_under, layers_of, lies_in_layer, lies_or_counts_under, list_any, live_layers, named_in, no_filesystem, of_overlay, or_cases, or_left, or_right, overlays, part_of, part_of_filesystem, same_truth, upper_real, used_alone, used_filesystems, wholly_locked}
use Rattle.vt_laws_members.proofs.Common.{IsSealed, found, found_filesystem, layer_directory, led_is_there, lower_plain, named_under, overlay_without_others, root_under, shown_how, their_overlays_are_in_the_part, under_led, used_are_free}

-- an overlay with one of its layers in the filesystem
pub has_layer : (number : ℕ) (merged : Filesystem ℕ) (layer : Layer ℕ) → Among layer (of_overlay [] layers_of merged)
    → nat_eq number layer.filesystem ≡ true → has_layer_on nat_eq number merged ≡ true
has_layer number merged layer m e = grind (arith, common_steps, any_from_among)

-- what counts under a layer is an object of an overlay
pub record Counts (world : World ℕ) (number object : ℕ) (layer : Layer ℕ) (merged : Filesystem ℕ) : Type 0 where
  pub overlay : Overlay ℕ
  pub upper : Layer ℕ
  pub is : merged.overlay ≡ Some overlay
  pub has : overlay.upper ≡ Some upper
  pub inside : number ≡ upper.filesystem
  pub lies : lies_in_layer nat_eq world upper.filesystem upper.directory layer ≡ true
  pub object_of : is_object_of nat_eq number object merged overlay ≡ true

pub counts_how : (world : World ℕ) (number object : ℕ) (layer : Layer ℕ) (merged : Filesystem ℕ)
    → counts_as_in_layer nat_eq world number object layer merged ≡ true → Counts world number object layer merged
counts_how world number object layer merged h = grind (arith, common_steps, true≢false, eqb-true, and_parts)

-- What is locked stays so where each overlay with a layer in the filesystem is.
module _ (a b : World ℕ) (number : ℕ) (same : filesystem_numbered nat_eq b number ≡ filesystem_numbered nat_eq a number)
    (within : (merged : Filesystem ℕ) → Among merged (overlays a) → has_layer_on nat_eq number merged ≡ true
    → Among merged (overlays b)) where
  pub lies_at : (object : ℕ) (layer : Layer ℕ) → lies_in_layer nat_eq a number object layer ≡ true
      → lies_in_layer nat_eq b number object layer ≡ true
  lies_at object layer h = cc (same, h)

  counts_at : (object : ℕ) (layer : Layer ℕ) (merged : Filesystem ℕ) → Among merged (overlays a)
      → counts_as_in_layer nat_eq a number object layer merged ≡ true
      → Among merged (overlays b) × (counts_as_in_layer nat_eq b number object layer merged ≡ true)
      × (nat_eq number layer.filesystem ≡ true)
  counts_at object layer merged m h =
      grind (arith, common_steps, counts_how, among-append_left, lies_at, has_layer, eq-eqb, and_from, and_parts)

  pub under_at : (object : ℕ) (layer : Layer ℕ) → lies_or_counts_under nat_eq a number object layer ≡ true
      → (lies_or_counts_under nat_eq b number object layer ≡ true) × (nat_eq number layer.filesystem ≡ true)
  under_at object layer h = ⊎_elim (λ lies. (
    or_left (lies_in_layer nat_eq b number object layer) _ (lies_at object layer lies),
    (and_parts (nat_eq number layer.filesystem)
        (is_under nat_eq (filesystem_numbered nat_eq a number).files layer.directory object) lies).0,
  )) (λ counts.
      let at = any_among (counts_as_in_layer nat_eq a number object layer) (overlays a) counts in
      let there = counts_at object layer at.0 at.1 at.2 in (
        or_right (lies_in_layer nat_eq b number object layer)
            (list_any (counts_as_in_layer nat_eq b number object layer) (overlays b))
            (any_from_among (counts_as_in_layer nat_eq b number object layer) (overlays b) at.0 there.0 there.1),
        there.2,
      )) (or_cases (lies_in_layer nat_eq a number object layer)
      (list_any (counts_as_in_layer nat_eq a number object layer) (overlays a)) h)

  pub locked_at : (object : ℕ) → is_locked nat_eq a number object ≡ true → is_locked nat_eq b number object ≡ true
  locked_at object h =
      let at = any_among (lies_or_counts_under nat_eq a number object) (live_layers a) h in
      let from = among-from_flat_map (of_overlay [] layers_of) (overlays a) at.0 at.1 in
      let under = under_at object at.0 at.2 in
      any_from_among _ (live_layers b) at.0 (among-flat_map (of_overlay [] layers_of) (overlays b) from.0 at.0
      (within from.0 from.1 (has_layer number from.0 at.0 from.2 under.1)) from.2) under.0

-- In a world, and in the part of a sealed set
module _ {world : World ℕ} {names : List TaskName} (sealing : IsSealed world names) where
  abbrev part : World ℕ
  part = part_of nat_eq world names

  used_in_part : (merged : Filesystem ℕ) → Among merged (overlays world)
      → is_among nat_eq merged.number (used_filesystems nat_eq world names) ≡ true → Among merged (overlays part)
  used_in_part merged m used =
      let from = among-from_filter is_overlay world.filesystems merged m in
      among-filter is_overlay part.filesystems merged (among-filter_map _ _ merged merged from.0 (cc)) from.1

  -- overlays with a layer in what they use alone are theirs
  pub alone_in_part : (number : ℕ) → used_alone nat_eq world names number ≡ true → (merged : Filesystem ℕ)
      → Among merged (overlays world) → has_layer_on nat_eq number merged ≡ true → Among merged (overlays part)
  alone_in_part number alone merged m has =
      grind (arith, common_steps, among_from_list_all, and_parts, used_in_part, overlay_without_others)

  -- an overlay of the part is one of the world
  pub part_in_world : (merged : Filesystem ℕ) → Among merged (overlays part) → Among merged (overlays world)
  part_in_world merged m =
      let from = among-from_filter is_overlay part.filesystems merged m in
      let kept = among-from_filter_map (part_of_filesystem nat_eq world names) world.filesystems merged from.0 in
      among-filter is_overlay world.filesystems merged (⊎_elim
      (λ whole. subst (λ f. Among f world.filesystems) whole.0 kept.1) (λ lower. absurd
      (true≢false (sym from.1 ∙ ap is_overlay (sym lower.0) ∙ ap is_overlay
      (sym (found_filesystem world.filesystems sealing.is.files.one_filesystem kept.0 kept.1)) ∙ lower_plain world names
      sealing.is kept.0.number lower.2))) (shown_how world names kept.0 merged kept.2)) from.1

  abbrev pub files_of : ℕ → FileTree ℕ
  files_of number = (filesystem_numbered nat_eq world number).files

  -- a filesystem that has a directory is there
  pub tree_there : (number directory : ℕ) → is_directory_node ((files_of number).tree.node directory) ≡ true
      → IsTree (files_of number).tree × ListsNumbers nat_eq (files_of number)
  tree_there number directory = by (find (λ (f : Filesystem ℕ). nat_eq number f.number) world.filesystems) refl
    where
      by : (o : Option (Filesystem ℕ)) → find (λ (f : Filesystem ℕ). nat_eq number f.number) world.filesystems ≡ o
          → is_directory_node ((unwrap_or o (no_filesystem number)).files.tree.node directory) ≡ true
          → IsTree (unwrap_or o (no_filesystem number)).files.tree
          × ListsNumbers nat_eq (unwrap_or o (no_filesystem number)).files
      by None e h = cc
      by (Some x) e h =
          let m = found_among (λ (f : Filesystem ℕ). nat_eq number f.number) world.filesystems x e in (
            among_from_all (λ (f : Filesystem ℕ). IsTree f.files.tree) world.filesystems sealing.is.files.trees x m,
            among_from_all (λ (f : Filesystem ℕ). ListsNumbers nat_eq f.files) world.filesystems
                sealing.is.files.numbers x m,
          )

  lies_there : (number object : ℕ) (layer : Layer ℕ) (merged : Filesystem ℕ) → Among merged (overlays world)
      → Among layer (of_overlay [] layers_of merged) → lies_in_layer nat_eq world number object layer ≡ true
      → is_some ((files_of number).tree.node object) ≡ true
  lies_there number object layer merged m at lies =
      let both = and_parts (nat_eq number layer.filesystem) (is_under nat_eq (files_of number) layer.directory object)
      lies in
      let directory : is_directory_node ((files_of number).tree.node layer.directory) ≡ true = cc (
        eqb-true number layer.filesystem both.0,
        layer_directory world names sealing.is merged
            (among-from_filter is_overlay world.filesystems merged m).0 layer at,
      ) in
      let tree = tree_there number layer.directory directory in
      let way = under_led (files_of number) tree.0 layer.directory object both.1 in
      led_is_there _ tree.0 directory way.0 object way.1

  counts_there : (number object : ℕ) (layer : Layer ℕ) (merged : Filesystem ℕ) → Among merged (overlays world)
      → counts_as_in_layer nat_eq world number object layer merged ≡ true
      → is_some ((files_of number).tree.node object) ≡ true
  counts_there number object layer merged m h =
      let c = counts_how world number object layer merged h in
      let there = (among-from_filter is_overlay world.filesystems merged m).0 in
      let real = any_among (is_real_upper nat_eq c.overlay object) merged.files.numbers
      (and_parts (holds_of (λ (l : Layer ℕ). nat_eq number l.filesystem) c.overlay.upper)
      (list_any (is_real_upper nat_eq c.overlay object) merged.files.numbers) c.object_of).1 in
      let merge = sealing.is.overlays.overlays_merge merged.number c.overlay
      (ap (λ (f : Filesystem ℕ). f.overlay) (found_filesystem world.filesystems sealing.is.files.one_filesystem merged
      there)
      ∙ c.is) in
      subst (λ n. is_some ((files_of n).tree.node object) ≡ true) (sym c.inside)
      (sym (ap (holds_of (λ (l : Layer ℕ). is_there nat_eq world l.filesystem object)) c.has)
      ∙ merge.upper_there real.0 object (upper_real (c.overlay.real real.0) object real.2))

  -- what is locked is there
  pub locked_there : (number object : ℕ) → is_locked nat_eq world number object ≡ true
      → is_some ((files_of number).tree.node object) ≡ true
  locked_there number object h =
      grind (arith, common_steps, any_among, among-from_flat_map, lies_there, counts_there, or_cases)

  -- an overlay with a lower layer there
  lower_layer : (number root : ℕ) (merged : Filesystem ℕ) → is_lower_root nat_eq number root merged ≡ true
      → (layer : Layer ℕ) × Among layer (of_overlay [] layers_of merged)
      × Among layer (of_overlay [] (λ (overlay : Overlay ℕ). overlay.lowers) merged)
      × (number ≡ layer.filesystem) × (root ≡ layer.directory)
  lower_layer number root merged h =
      grind (arith, common_steps, true≢false, any_among, and_parts, among-append_right, eqb-true)

  -- what locks a filesystem wholly
  pub record IsWhole (number : ℕ) : Type 0 where
    pub merged : Filesystem ℕ
    pub overlaid : Among merged (overlays world)
    pub alone : used_alone nat_eq world names merged.number ≡ true
    pub layer : Layer ℕ
    pub layered : Among layer (of_overlay [] layers_of merged)
    pub lower : Among layer (of_overlay [] (λ (overlay : Overlay ℕ). overlay.lowers) merged)
    pub inside : number ≡ layer.filesystem
    pub at_root : (files_of number).tree.root ≡ layer.directory
    -- all that is there lies under the root
    pub under : (object : ℕ) → is_some ((files_of number).tree.node object) ≡ true
        → is_under nat_eq (files_of number) (files_of number).tree.root object ≡ true

  pub whole_how : (number : ℕ) → wholly_locked nat_eq world names number ≡ true → IsWhole number
  whole_how number whole =
      let both = and_parts (list_any (λ merged. is_lower_root nat_eq number (files_of number).tree.root merged
      && used_alone nat_eq world names merged.number) (overlays world)) (all_named nat_eq (files_of number)) whole in
      let at = any_among (λ (merged : Filesystem ℕ). is_lower_root nat_eq number (files_of number).tree.root merged
      && used_alone nat_eq world names merged.number) (overlays world) both.0 in
      let two = and_parts (is_lower_root nat_eq number (files_of number).tree.root at.0)
      (used_alone nat_eq world names at.0.number) at.2 in
      let layer = lower_layer number (files_of number).tree.root at.0 two.0 in
      let directory : is_directory_node ((files_of number).tree.node (files_of number).tree.root) ≡ true =
      subst (λ n. is_directory_node ((files_of n).tree.node (files_of number).tree.root) ≡ true) (sym layer.3)
      (subst (λ d. is_directory_node ((files_of layer.0.filesystem).tree.node d) ≡ true) (sym layer.4)
      (layer_directory world names sealing.is at.0
      (among-from_filter is_overlay world.filesystems at.0 at.1).0 layer.0 layer.1)) in
      let tree = tree_there number (files_of number).tree.root directory in
      record {
        merged = at.0;
        overlaid = at.1;
        alone = two.1;
        layer = layer.0;
        layered = layer.1;
        lower = layer.2;
        inside = layer.3;
        at_root = layer.4;
        under = λ object there. ⊎_elim
            (λ root. subst (λ o. is_under nat_eq (files_of number) (files_of number).tree.root o ≡ true)
            (sym (eqb-true object (files_of number).tree.root root)) (root_under (files_of number) tree.0 tree.1))
            (λ name. named_under (files_of number) tree.0 tree.1 object
            (among_numbers (named_in (files_of number)) object name))
            (or_cases (nat_eq object (files_of number).tree.root) (is_among nat_eq object (named_in (files_of number)))
            (among_from_list_all (λ n. nat_eq n (files_of number).tree.root
            || is_among nat_eq n (named_in (files_of number))) (files_of number).numbers both.1 object
            (among_numbers (files_of number).numbers object (tree.1 object ∙ there))));
      }

  -- what is wholly locked is locked in the part
  wholly_in_part : (number object : ℕ) → is_among nat_eq number (used_filesystems nat_eq world names) ≡ true
      → IsWhole number → is_some ((files_of number).tree.node object) ≡ true
      → is_locked nat_eq part number object ≡ true
  wholly_in_part number object used whole there =
      let in_part : Among whole.merged (overlays part) = among_from_contains (overlays part) whole.merged
      (their_overlays_are_in_the_part world names whole.merged sealing.is
      (contains_from_among (overlays world) whole.merged whole.overlaid) whole.alone) in
      any_from_among _ (live_layers part) whole.layer (among-flat_map _ (overlays part) whole.merged whole.layer in_part
      whole.layered) (or_left _ _ (and_from _ _ (eq-eqb number whole.layer.filesystem whole.inside)
      (ap (λ (f : Filesystem ℕ). is_under nat_eq f.files whole.layer.directory object) (found world names number used)
      ∙ subst (λ d. is_under nat_eq (files_of number) d object ≡ true) whole.at_root (whole.under object there))))

  pub locked_alike : (number : ℕ) → is_among nat_eq number (used_filesystems nat_eq world names) ≡ true → (object : ℕ)
      → is_locked nat_eq world number object ≡ is_locked nat_eq part number object
  locked_alike number used object =
      same_truth (is_locked nat_eq world number object) (is_locked nat_eq part number object) (λ h. ⊎_elim
      (λ alone. locked_at world part number (found world names number used) (alone_in_part number alone) object h)
      (λ whole. wholly_in_part number object used (whole_how number whole) (locked_there number object h))
      (or_cases (used_alone nat_eq world names number) (wholly_locked nat_eq world names number)
      (used_are_free world names sealing.sealed_off number (among_numbers (used_filesystems nat_eq world names) number
      used)))) (λ h. locked_at part world number (sym (found world names number used))
      (λ merged m has. part_in_world merged m) object h)
