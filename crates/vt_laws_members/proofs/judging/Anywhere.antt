-- Mounts of other namespaces stand on nothing that members reach but what is locked.
use Rattle.std.proofs.Common.{inr, ◌≡◌, refl, sym, ap, subst, ◌∙◌, inl, ⊎_elim, ℕ, nat_eq, Bool, true, false, true≢false, not, List, [], ◌++◌, Option, Some, None, is_some, ◌&&◌, eq-eqb, eqb-true, arith, option_map, option_to_list}
use Rattle.vt_spec.proofs.Common.{cases_Bool, Among, Filesystem, Layer, Location, Mount, Overlay, Stands, TaskName, World, among-append_left, among-filter, among-flat_map, among_from_all, among_from_list_all, among_numbers, and_from, and_parts, any_among, any_from_among, common_steps, directory_used, filesystem_at, filesystem_numbered, found_or_none, holds_of, is_among, is_directory_at, is_directory_node, is_locked, is_locked_at, is_overlay, is_own_namespace, is_point, is_under, lies_in_layer, lies_or_counts_under, list_any, live_lowers, locations, members, mount_at, mounts_on, no_outsider_on, none_among, none_is_some, not-true, of_overlay, or_cases, or_left, other_mounts, outsiders, overlaps_one_of, overlays, part_of, points_of, then_some, upper_and_work, upper_object, upper_points, used_alone, used_filesystems, wholly_locked}
use Rattle.vt_laws_members.proofs.Common.{IsSealed, all_locked, is_own, layer_directory, namespace_below, numbered, used_are_free}
use Rattle.vt_laws_trees.proofs.layers.layers.LowersWorld.{number_of_filesystem}
use Rattle.vt_laws_trees.proofs.layers.locked.Apart.{under_itself}
use Rattle.vt_laws_members.proofs.judging.Locks.{tree_there, whole_how}
use Rattle.vt_laws_members.proofs.judging.LowersSeen.{overlay_there, upper_used}
use Rattle.vt_laws_members.proofs.judging.MountPoints.{found_alike, stands_on_one}
use Rattle.vt_laws_members.proofs.judging.SeenInPart.{OnTheirs, theirs_used}

module _ {world : World ℕ} {names : List TaskName} (sealing : IsSealed world names) where
  abbrev uses : ℕ → Bool
  uses number = is_among nat_eq number (used_filesystems nat_eq world names)

  -- a mount of another namespace, at a point
  module _ (mount : Mount ℕ) (there : Among mount world.mounts) {n : ℕ} (placed : mount.namespace ≡ Some n)
      (outside : is_own_namespace nat_eq world names n ≡ false) {point : Location ℕ}
      (at : mount.mount_point ≡ Some point) where
    abbrev shows : ℕ
    shows = (mount_at nat_eq world point).filesystem

    below_placed : (mount_at nat_eq world point).namespace ≡ Some n
    below_placed = sym (namespace_below world mount.number point
        (among_from_all (λ (x : Mount ℕ). Stands nat_eq world x.number) world.mounts sealing.is.mounts.standing mount
        there) (ap (λ (x : Mount ℕ). x.mount_point) (numbered world names sealing.is.mounts mount there) ∙ at)) ∙ ap
        (λ (x : Mount ℕ). x.namespace) (numbered world names sealing.is.mounts mount there) ∙ placed

    below_there : Among (mount_at nat_eq world point) world.mounts
    below_there = ⊎_elim (λ found. found) (λ none. none_is_some n (cc below_placed)) (found_or_none _ point.mount)

    -- what it stands on is not theirs alone
    not_alone : used_alone nat_eq world names shows ≡ true → ⊥
    not_alone alone =
        let free = and_parts (no_outsider_on nat_eq world names shows) _ alone in
        let none = not-true (list_any (λ (m : Mount ℕ). nat_eq shows m.filesystem) (other_mounts nat_eq world names))
        (and_parts (not (list_any (λ (m : Mount ℕ). nat_eq shows m.filesystem) (other_mounts nat_eq world names)))
        (not (list_any (λ (l : Location ℕ). nat_eq shows (mount_at nat_eq world l).filesystem)
        (locations (outsiders world names)))) free.0).0 in
        true≢false (sym (any_from_among (λ (m : Mount ℕ). nat_eq shows m.filesystem) (other_mounts nat_eq world names)
        (mount_at nat_eq world point) (among-filter (λ (m : Mount ℕ). holds_of
        (λ k. not (is_own_namespace nat_eq world names k)) m.namespace) world.mounts (mount_at nat_eq world point)
        below_there (cc below_placed)) (eq-eqb shows shows refl)) ∙ none)

    whole : uses shows ≡ true → wholly_locked nat_eq world names shows ≡ true
    whole used = ⊎_elim (λ alone. absurd (not_alone alone)) (λ locked. locked)
        (or_cases (used_alone nat_eq world names shows) (wholly_locked nat_eq world names shows)
        (used_are_free world names sealing.sealed_off shows (among_numbers _ shows used)))

    directory : is_directory_at nat_eq world point ≡ true
    directory = grind (arith, common_steps, among_from_list_all)

    -- so it is locked
    locked : uses shows ≡ true → is_locked nat_eq world shows point.node ≡ true
    locked used = grind (arith, common_steps, tree_there, directory, all_locked, whole, directory_used)

  -- an upper or work directory is in nothing that is wholly locked
  module _ (merged : Filesystem ℕ) (there : Among merged world.filesystems) {overlay : Overlay ℕ}
      (e : merged.overlay ≡ Some overlay) (upper : Layer ℕ) (its : Among upper (upper_and_work overlay)) where
    upper_apart : overlaps_one_of nat_eq world (live_lowers nat_eq world) upper ≡ false
    upper_apart = none_among _ _ sealing.is.overlays.lowers_apart upper (among-flat_map (of_overlay [] upper_and_work)
        (overlays world) merged upper (among-filter is_overlay world.filesystems merged there (cc)) (rw e its))

    upper_directory : is_directory_node
        ((filesystem_numbered nat_eq world upper.filesystem).files.tree.node upper.directory) ≡ true
    upper_directory =
        layer_directory world names sealing.is merged there upper (rw e
        (among-append_left (option_to_list overlay.upper ++ option_to_list overlay.work) overlay.lowers upper its))

    pub not_whole : wholly_locked nat_eq world names upper.filesystem ≡ true → ⊥
    not_whole wholly =
        let how = whole_how sealing upper.filesystem wholly in
        let tree = tree_there sealing upper.filesystem upper.directory upper_directory in
        let object = directory_used (filesystem_numbered nat_eq world upper.filesystem).files.tree upper.directory
        upper_directory in
        true≢false (sym (any_from_among (λ object. lies_or_counts_under nat_eq world upper.filesystem object upper &&
        list_any (lies_or_counts_under nat_eq world upper.filesystem object) (live_lowers nat_eq world))
        (filesystem_numbered nat_eq world upper.filesystem).files.numbers upper.directory
        (among_numbers (filesystem_numbered nat_eq world upper.filesystem).files.numbers upper.directory
        (tree.1 upper.directory ∙ object)) (and_from (lies_or_counts_under nat_eq world upper.filesystem upper.directory
        upper) (list_any (lies_or_counts_under nat_eq world upper.filesystem upper.directory)
        (live_lowers nat_eq world)) (or_left (lies_in_layer nat_eq world upper.filesystem upper.directory upper) _
        (and_from (nat_eq upper.filesystem upper.filesystem) (is_under nat_eq
        (filesystem_numbered nat_eq world upper.filesystem).files upper.directory upper.directory)
        (eq-eqb upper.filesystem upper.filesystem refl) (under_itself (filesystem_numbered nat_eq world
        upper.filesystem).files upper.directory upper_directory))) (any_from_among
        (lies_or_counts_under nat_eq world upper.filesystem upper.directory) (live_lowers nat_eq world) how.layer
        (among-flat_map (of_overlay [] (λ (o : Overlay ℕ). o.lowers)) (overlays world) how.merged how.layer how.overlaid
        how.lower) (or_left (lies_in_layer nat_eq world upper.filesystem upper.directory how.layer) _
        (and_from (nat_eq upper.filesystem how.layer.filesystem) (is_under nat_eq
        (filesystem_numbered nat_eq world upper.filesystem).files how.layer.directory upper.directory)
        (eq-eqb upper.filesystem how.layer.filesystem how.inside) (rw (← how.at_root)
        (how.under upper.directory object))))))) ∙ upper_apart)

  module _ (here : Location ℕ) (own : OnTheirs world names sealing.is here)
      (free : is_locked_at nat_eq world here ≡ false) where
    abbrev number : ℕ
    number = (mount_at nat_eq world here).filesystem

    -- none of another namespace is at one of the points
    module _ (mount : Mount ℕ) (there : Among mount world.mounts) (n : ℕ) (placed : mount.namespace ≡ Some n)
        (outside : is_own_namespace nat_eq world names n ≡ false) where
      at_point : (filesystem node : ℕ) → is_point nat_eq world filesystem node mount ≡ true
          → (point : Location ℕ) × (mount.mount_point ≡ Some point) × (point.node ≡ node)
          × ((mount_at nat_eq world point).filesystem ≡ filesystem)
      at_point filesystem node h = grind (arith, common_steps, true≢false, and_parts, eqb-true)

      not_here : (filesystem node : ℕ) → filesystem ≡ number → node ≡ here.node
          → is_point nat_eq world filesystem node mount ≡ true → ⊥
      not_here filesystem node f k h =
          let at = at_point filesystem node h in
          let same : (mount_at nat_eq world at.0).filesystem ≡ number = cc in
          true≢false (cc (
            at.2,
            locked mount there placed outside at.1 (cc (theirs_used world names sealing.is here own)),
          ))

      not_above : (overlay : Overlay ℕ) → (filesystem_at nat_eq world here).overlay ≡ Some overlay
          → (p : ℕ × ℕ) → Among p (upper_points world (filesystem_at nat_eq world here) overlay here.node)
          → is_point nat_eq world p.0 p.1 mount ≡ true → ⊥
      not_above overlay e p m h = by overlay.upper refl m
        where
          of_upper : (upper : Layer ℕ) → overlay.upper ≡ Some upper → (o : Option ℕ)
              → Among p (option_to_list (option_map (λ object. (upper.filesystem, object)) o)) → ⊥
          of_upper upper u None m = absurd m
          of_upper upper u (Some object) m =
              let same : p ≡ (upper.filesystem, object) = ⊎_elim (λ s. s) (λ none. absurd none) m in
              let at = at_point p.0 p.1 h in
              let shows : (mount_at nat_eq world at.0).filesystem ≡ upper.filesystem = cc at.3 in
              not_whole (filesystem_at nat_eq world here) (overlay_there world names sealing.is number overlay e) e
              upper (among-append_left (option_to_list overlay.upper) (option_to_list overlay.work) upper
              (rw u (inl refl))) (rw (← shows) (whole mount there placed outside at.1
              (ap uses shows ∙ upper_used world names sealing.is here own overlay e upper
              (subst (λ o. Among upper (option_to_list o)) (sym u) (inl refl)))))

          by : (o : Option (Layer ℕ)) → overlay.upper ≡ o
              → Among p (option_to_list (then_some o (λ layer. option_map (λ object. (layer.filesystem, object))
              (upper_object (overlay.real here.node))))) → ⊥
          by None u m = absurd m
          by (Some upper) u m = of_upper upper u (upper_object (overlay.real here.node)) m

      none_stands : stands_on_one world names sealing.is world (points_of nat_eq world here) mount ≡ true → ⊥
      none_stands h =
          let at = any_among (λ (p : ℕ × ℕ). is_point nat_eq world p.0 p.1 mount) (points_of nat_eq world here) h in
          ⊎_elim (λ first. not_here at.0.0 at.0.1 (cc (number_of_filesystem world number)) (cc) at.2)
          (λ rest. by (filesystem_at nat_eq world here).overlay refl at.0 rest at.2) at.1
        where
          by : (o : Option (Overlay ℕ)) → (filesystem_at nat_eq world here).overlay ≡ o → (p : ℕ × ℕ)
              → Among p (of_overlay []
              (λ (overlay : Overlay ℕ). upper_points world (filesystem_at nat_eq world here) overlay
              here.node) (filesystem_at nat_eq world here)) → is_point nat_eq world p.0 p.1 mount ≡ true → ⊥
          by o e p m h = grind (arith, common_steps, not_above)

    pub anywhere_alike : list_any (λ (mount : Mount ℕ). is_some mount.namespace) (mounts_on nat_eq world here)
        ≡ list_any (λ (mount : Mount ℕ). is_some mount.namespace) (mounts_on nat_eq (part_of nat_eq world names) here)
    anywhere_alike = found_alike world names sealing.is (λ (mount : Mount ℕ). is_some mount.namespace)
        (λ mount none. cc) here own (λ mount m on attached. by mount m on mount.namespace refl attached)
      where
        by : (mount : Mount ℕ) → Among mount world.mounts
            → stands_on_one world names sealing.is world (points_of nat_eq world here) mount ≡ true → (o : Option ℕ)
            → mount.namespace ≡ o → is_some mount.namespace ≡ true
            → is_own world names (members world names) mount ≡ true
        by mount m on None e attached = cc
        by mount m on (Some n) e attached = elim (cases_Bool (is_own_namespace nat_eq world names n)) [
          | inl its ↦ cc
          | inr its ↦ absurd (none_stands mount m n e its on)
        ]
