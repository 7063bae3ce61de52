-- Layers of a new overlay overlap others in the part as in the world: overlayfs, "sharing and copying layers".
use Rattle.std.proofs.Common.{arith, ◌≡◌, refl, sym, ◌∙◌, inl, ⊎_elim, ℕ, nat_eq, true, List, [], Some, ◌&&◌, eqb-true, option_to_list}
use Rattle.vt_spec.proofs.Common.{Among, Filesystem, Layer, Overlay, TaskName, World, among-append_left, among-flat_map, among-from_filter, among-from_flat_map, among_numbers, any_among, any_from_among, common_steps, counts_as_in_layer, filesystem_numbered, is_among, is_overlay, layers_of, lies_in_layer, lies_or_counts_under, list_any, live_layers, live_upper_and_work, of_overlay, or_cases, or_left, overlaps_one_of, overlays, part_of, same_truth, upper_and_work, used_alone, used_filesystems, wholly_locked}
use Rattle.vt_laws_members.proofs.Common.{IsSealed, found, used_are_free}
use Rattle.vt_laws_members.proofs.judging.Anywhere.{not_whole}
use Rattle.vt_laws_members.proofs.judging.Locks.{alone_in_part, counts_how, has_layer, locked_alike, part_in_world, under_at}

-- an upper or work directory is a layer
written_layer : (merged : Filesystem ℕ) (layer : Layer ℕ) → Among layer (of_overlay [] upper_and_work merged)
    → (overlay : Overlay ℕ) × (merged.overlay ≡ Some overlay) × Among layer (upper_and_work overlay)
    × Among layer (of_overlay [] layers_of merged)
written_layer merged layer m = grind (arith, common_steps, among-append_left)

module _ {world : World ℕ} {names : List TaskName} (sealing : IsSealed world names) (number : ℕ)
    (used : is_among nat_eq number (used_filesystems nat_eq world names) ≡ true) where
  abbrev part : World ℕ
  part = part_of nat_eq world names

  abbrev Alone : Type 0
  Alone = used_alone nat_eq world names number ≡ true

  abbrev Whole : Type 0
  Whole = wholly_locked nat_eq world names number ≡ true

  how : {A : Type 0} → (Alone → A) → (Whole → A) → A
  how alone whole = ⊎_elim alone whole (or_cases (used_alone nat_eq world names number)
      (wholly_locked nat_eq world names number) (used_are_free world names sealing.sealed_off number
      (among_numbers _ number used)))

  same : filesystem_numbered nat_eq part number ≡ filesystem_numbered nat_eq world number
  same = found world names number used

  -- no change of an overlay is written into what is wholly locked
  none_written : Whole → (merged : Filesystem ℕ) → Among merged (overlays world) → (overlay : Overlay ℕ)
      → merged.overlay ≡ Some overlay → (layer : Layer ℕ) → Among layer (upper_and_work overlay)
      → number ≡ layer.filesystem → ⊥
  none_written whole merged m overlay e layer its inside = not_whole sealing merged (among-from_filter is_overlay
      world.filesystems merged m).0 e layer its (rw (← inside) whole)

  pub under_alike : (object : ℕ) (layer : Layer ℕ)
      → lies_or_counts_under nat_eq world number object layer ≡ lies_or_counts_under nat_eq part number object layer
  under_alike object layer = same_truth (lies_or_counts_under nat_eq world number object layer)
      (lies_or_counts_under nat_eq part number object layer) (λ h. how
      (λ alone. (under_at world part number same (alone_in_part sealing number alone) object layer h).0)
      (λ whole. ⊎_elim (λ lies. or_left (lies_in_layer nat_eq part number object layer) _ (cc same))
      (λ counts. let at = any_among (counts_as_in_layer nat_eq world number object layer) (overlays world) counts in let c
      = counts_how world number object layer at.0 at.2 in absurd (none_written whole at.0 at.1 c.overlay c.is c.upper
      (among-append_left (option_to_list c.overlay.upper) (option_to_list c.overlay.work) c.upper (rw c.has (inl refl)))
      c.inside)) (or_cases (lies_in_layer nat_eq world number object layer)
      (list_any (counts_as_in_layer nat_eq world number object layer) (overlays world)) h)))
      (λ h. (under_at part world number (sym same) (λ merged m has. part_in_world sealing merged m) object layer h).0)

  -- under one of the layers that live overlays change
  written_alike : (object : ℕ) → list_any (lies_or_counts_under nat_eq world number object) (live_upper_and_work world)
      ≡ list_any (lies_or_counts_under nat_eq part number object) (live_upper_and_work part)
  written_alike object =
      same_truth (list_any (lies_or_counts_under nat_eq world number object) (live_upper_and_work world))
      (list_any (lies_or_counts_under nat_eq part number object) (live_upper_and_work part)) (λ h.
      let at = any_among (lies_or_counts_under nat_eq world number object) (live_upper_and_work world) h in
      let from = among-from_flat_map (of_overlay [] upper_and_work) (overlays world) at.0 at.1 in
      let here = (under_at world world number refl (λ merged m has. m) object at.0 at.2).1 in
      let written = written_layer from.0 at.0 from.2 in
      how (λ alone.
      any_from_among (lies_or_counts_under nat_eq part number object) (live_upper_and_work part) at.0
      (among-flat_map (of_overlay [] upper_and_work) (overlays part) from.0 at.0
      (alone_in_part sealing number alone from.0 from.1 (has_layer number from.0 at.0 written.3 here)) from.2)
      (sym (under_alike object at.0) ∙ at.2)) (λ whole. absurd (none_written whole from.0 from.1 written.0 written.1
      at.0 written.2 (eqb-true number at.0.filesystem here)))) (λ h.
      let at = any_among (lies_or_counts_under nat_eq part number object) (live_upper_and_work part) h in
      let from = among-from_flat_map (of_overlay [] upper_and_work) (overlays part) at.0 at.1 in
      any_from_among (lies_or_counts_under nat_eq world number object) (live_upper_and_work world) at.0
      (among-flat_map (of_overlay [] upper_and_work) (overlays world) from.0 at.0 (part_in_world sealing from.0 from.1)
      from.2) (under_alike object at.0 ∙ at.2))

  -- a directory of the filesystem, as a layer
  module _ (directory : ℕ) where
    abbrev layer : Layer ℕ
    layer = record { filesystem = number; directory = directory }

    pub overlaps_alike : (others : List (Layer ℕ))
        → overlaps_one_of nat_eq world others layer ≡ overlaps_one_of nat_eq part others layer
    overlaps_alike others i =
        list_any (λ object. under_alike object layer i && list_any (λ other. under_alike object other i) others)
        (sym same i).files.numbers

    -- O3
    pub overlaps_live : overlaps_one_of nat_eq world (live_layers world) layer
        ≡ overlaps_one_of nat_eq part (live_layers part) layer
    overlaps_live i =
        list_any (λ object. under_alike object layer i && locked_alike sealing number used object i)
        (sym same i).files.numbers

    pub overlaps_written : overlaps_one_of nat_eq world (live_upper_and_work world) layer
        ≡ overlaps_one_of nat_eq part (live_upper_and_work part) layer
    overlaps_written i =
        list_any (λ object. under_alike object layer i && written_alike object i) (sym same i).files.numbers
