-- The part and the footholds of others decide whether a set of tasks is sealed off.
use Rattle.std.proofs.Common.{◌≡◌, refl, sym, ap, subst, ◌∙◌, ◌⊎◌, inl, inr, ⊎_elim, ℕ, nat_eq, Bool, true, false, cond, true≢false, List, [], ◌∷◌, Option, Some, None, map, find, not, ◌||◌, ◌&&◌, eq-eqb, eqb-true, arith, unwrap_or}
use Rattle.vt_spec.proofs.Common.{Among, Filesystem, IsWorld, Layer, Location, Mount, Overlay, Task, TaskName, World, all_locations, all_named, among-append_left, among-append_right, among-filter, among-filter_map, among-flat_map, among-from_filter, among-from_filter_map, among-from_flat_map, among-map, among_from_contains, among_from_list_all, among_numbers, and_from, and_parts, any_among, any_from_among, common_steps, contains_from_among, filesystem_numbered, found_among, has_layer_on, is_among, is_among_numbers, is_directory_node, is_located, is_lower_root, is_member_task, is_mounted, is_overlay, is_own_namespace, layers_of, list_all, list_all_from_among, list_any, locations, locations_of, members, mount_at, mount_lives, mount_numbered, no_filesystem, no_outsider_on, not-true, of_overlay, or_cases, or_left, or_right, other_mounts, outsiders, overlay_or, overlays, own_lowers, own_mounts, part_of, part_of_filesystem, part_of_lower, same_truth, sealed, used_alone, used_directly, used_filesystems, when, wholly_locked}
use Rattle.vt_laws_sealed.proofs.Common.{all_in_use, found_filesystem, found_itself}
use Rattle.vt_laws_sealed.specs.Part.Seals.{FewerFootholdsSealToo, IsApart, SealedIsByPartAndFootholds, TheirOverlaysAreInThePart, is_locked_whole, is_sealed_by}
use Rattle.vt_laws_sealed.proofs.part.part.PartOfPart.{found, same_used, shown_how, used_directly_used}

module _ (world : World ℕ) (names : List TaskName) (is : IsWorld nat_eq world) where
  -- a location of a task is one of a member, or of an outsider
  located_by : (number filesystem : ℕ) (mount : Mount ℕ) → mount_numbered nat_eq world number ≡ mount
      → mount.filesystem ≡ filesystem → no_outsider_on nat_eq world names filesystem ≡ true
      → is_located nat_eq world number ≡ true → Among filesystem (used_directly nat_eq world names)
  located_by number filesystem mount numbered shows alone located =
      let at = any_among (λ (l : Location ℕ). nat_eq number l.mount) (all_locations world) located in
      let of = among-from_flat_map locations_of world.tasks at.0 at.1 in
      let here : (mount_at nat_eq world at.0).filesystem ≡ filesystem =
      ap (λ n. (mount_numbered nat_eq world n).filesystem) (sym (eqb-true number at.0.mount at.2))
      ∙ ap (λ (m : Mount ℕ). m.filesystem) numbered ∙ shows in
      by at.0 of.0 of.1 of.2 here (is_member_task names of.0) refl
    where
      by : (location : Location ℕ) (task : Task ℕ) → Among task world.tasks → Among location (locations_of task)
          → (mount_at nat_eq world location).filesystem ≡ filesystem
          → (b : Bool) → is_member_task names task ≡ b → Among filesystem (used_directly nat_eq world names)
      by location task there at here true member =
          among-append_right (map (λ (m : Mount ℕ). m.filesystem) (own_mounts nat_eq world names)) _ filesystem
          (subst (λ f. Among f (map (λ (l : Location ℕ). (mount_at nat_eq world l).filesystem)
          (locations (members world names)))) here (among-map _ _ location (among-flat_map locations_of _ task location
          (among-filter (is_member_task names) world.tasks task there member) at)))
      by location task there at here false member = absurd (true≢false
          (sym (any_from_among _ _ location (among-flat_map locations_of (outsiders world names) task location
          (among-filter (λ t. not (is_member_task names t)) world.tasks task there (ap not member)) at)
          (eq-eqb filesystem _ (sym here))) ∙ not-true _ (and_parts (not
          (list_any (λ (m : Mount ℕ). nat_eq filesystem m.filesystem) (other_mounts nat_eq world names))) _ alone).1))

  -- a mount is in their namespaces, in others, or in none, with a location on it
  mounted_by : (filesystem : ℕ) (mount : Mount ℕ) → Among mount world.mounts → mount.filesystem ≡ filesystem
      → no_outsider_on nat_eq world names filesystem ≡ true → Among filesystem (used_directly nat_eq world names)
  mounted_by filesystem mount there shows alone = by mount.namespace refl
    where
      by : (o : Option ℕ) → mount.namespace ≡ o → Among filesystem (used_directly nat_eq world names)
      by None none = located_by _ filesystem mount (found_itself _ is.mounts.one_number mount there) shows alone
          (cc (among_from_list_all (mount_lives nat_eq world) world.mounts (all_in_use world is).mounts mount there))
      by (Some namespace) at = which (is_own_namespace nat_eq world names namespace) refl
        where
          which : (b : Bool) → is_own_namespace nat_eq world names namespace ≡ b
              → Among filesystem (used_directly nat_eq world names)
          which true own = grind (arith, common_steps, among-append_left, among-map, among-filter)
          which false other =
              grind (arith, common_steps, true≢false, any_from_among, among-filter, eq-eqb, not-true, and_parts)

  -- layers of overlays are in plain trees
  pub layer_plain : (merged : Filesystem ℕ) → Among merged world.filesystems → (layer : Layer ℕ)
      → Among layer (of_overlay [] layers_of merged)
      → is_overlay (filesystem_numbered nat_eq world layer.filesystem) ≡ false
  layer_plain merged there layer m = grind (arith, common_steps, Among, not-true, among_from_list_all)

  -- at directories
  pub layer_directory : (merged : Filesystem ℕ) → Among merged world.filesystems → (layer : Layer ℕ)
      → Among layer (of_overlay [] layers_of merged)
      → is_directory_node ((filesystem_numbered nat_eq world layer.filesystem).files.tree.node layer.directory) ≡ true
  layer_directory merged there layer m = grind (arith, common_steps, Among, among_from_list_all)

  -- so an overlay is no layer of another
  no_layer : (merged other : Filesystem ℕ) → Among merged world.filesystems → Among other world.filesystems
      → is_overlay merged ≡ true → has_layer_on nat_eq merged.number other ≡ true → ⊥
  no_layer merged other there other_there overlaid has = by other.overlay refl
    where
      by : (o : Option (Overlay ℕ)) → other.overlay ≡ o → ⊥
      by None e = cc
      by (Some overlay) e =
          let at = any_among (λ (layer : Layer ℕ). nat_eq merged.number layer.filesystem) (layers_of overlay)
          (cc) in
          true≢false (sym overlaid ∙ ap is_overlay (sym (found_filesystem _ is.files.one_filesystem merged there)) ∙ ap
          (λ n. is_overlay (filesystem_numbered nat_eq world n)) (eqb-true merged.number at.0.filesystem at.2)
          ∙ layer_plain other other_there at.0 (subst (Among at.0) (sym (ap (overlay_or [] layers_of) e)) at.1))

  overlay_mounted : (merged : Filesystem ℕ) → Among merged world.filesystems → is_overlay merged ≡ true
      → is_mounted nat_eq world merged.number ≡ true
  overlay_mounted merged there overlaid = ⊎_elim (λ mounted. mounted) (λ layered.
      let at = any_among (λ (other : Filesystem ℕ). has_layer_on nat_eq merged.number other
      && is_mounted nat_eq world other.number) world.filesystems layered in
      absurd (no_layer merged at.0 there at.1 overlaid (and_parts (has_layer_on nat_eq merged.number at.0)
      (is_mounted nat_eq world at.0.number) at.2).0)) (or_cases (is_mounted nat_eq world merged.number) _
      (among_from_list_all _ world.filesystems (all_in_use world is).filesystems merged there))

  -- one on which no other is
  pub overlay_without_others : (merged : Filesystem ℕ) → Among merged (overlays world)
      → no_outsider_on nat_eq world names merged.number ≡ true
      → is_among nat_eq merged.number (used_filesystems nat_eq world names) ≡ true
  overlay_without_others merged there alone =
      let from = among-from_filter is_overlay world.filesystems merged there in
      let at = any_among (λ (m : Mount ℕ). nat_eq merged.number m.filesystem) world.mounts
      (overlay_mounted merged from.0 from.1) in
      used_directly_used world names merged.number
      (mounted_by merged.number at.0 at.1 (sym (eqb-true merged.number at.0.filesystem at.2)) alone)

  overlay_used : (merged : Filesystem ℕ) → Among merged (overlays world)
      → used_alone nat_eq world names merged.number ≡ true
      → is_among nat_eq merged.number (used_filesystems nat_eq world names) ≡ true
  overlay_used merged there alone =
      overlay_without_others merged there (and_parts (no_outsider_on nat_eq world names merged.number) _ alone).0

  overlay_in_part : (merged : Filesystem ℕ) → Among merged (overlays world)
      → used_alone nat_eq world names merged.number ≡ true → Among merged (overlays (part_of nat_eq world names))
  overlay_in_part merged there alone =
      let from = among-from_filter is_overlay world.filesystems merged there in
      among-filter is_overlay _ merged (among-filter_map (part_of_filesystem nat_eq world names) world.filesystems
      merged merged from.0 (ap (λ b. cond b (Some merged) (when (list_any
      (λ layer. nat_eq merged.number layer.filesystem) (own_lowers nat_eq world names))
      (part_of_lower nat_eq world names merged))) (overlay_used merged there alone))) from.1

  -- an overlay of the part is one of the world, with its layers
  from_part : (merged : Filesystem ℕ) → Among merged (overlays (part_of nat_eq world names))
      → (whole : Filesystem ℕ) × Among whole (overlays world) × (whole.number ≡ merged.number)
      × (whole.overlay ≡ merged.overlay) × ((is_among nat_eq whole.number (used_filesystems nat_eq world names) ≡ true)
      ⊎ (list_any (λ layer. nat_eq whole.number layer.filesystem) (own_lowers nat_eq world names) ≡ true))
  from_part merged there =
      let from = among-from_filter is_overlay (part_of nat_eq world names).filesystems merged there in
      let kept = among-from_filter_map (part_of_filesystem nat_eq world names) world.filesystems merged from.0 in
      grind (arith, common_steps, among-filter, shown_how)

  -- a lower layer of theirs is in no overlay
  pub lower_plain : (number : ℕ)
      → list_any (λ layer. nat_eq number layer.filesystem) (own_lowers nat_eq world names) ≡ true
      → is_overlay (filesystem_numbered nat_eq world number) ≡ false
  lower_plain number has =
      let at = any_among (λ (layer : Layer ℕ). nat_eq number layer.filesystem) (own_lowers nat_eq world names) has in
      let from = among-from_flat_map _ (used_directly nat_eq world names) at.0 at.1 in
      ap (λ n. is_overlay (filesystem_numbered nat_eq world n)) (eqb-true number at.0.filesystem at.2)
      ∙ by from.0 (find (λ (f : Filesystem ℕ). nat_eq from.0 f.number) world.filesystems) refl at.0 from.2
    where
      layered : (merged : Filesystem ℕ) (layer : Layer ℕ)
          → Among layer (of_overlay [] (λ (overlay : Overlay ℕ). overlay.lowers) merged)
          → Among layer (of_overlay [] layers_of merged)
      layered merged layer = grind (arith, common_steps, among-append_right)

      by : (number : ℕ) (o : Option (Filesystem ℕ))
          → find (λ (f : Filesystem ℕ). nat_eq number f.number) world.filesystems ≡ o → (layer : Layer ℕ)
          → Among layer (of_overlay [] (λ (overlay : Overlay ℕ). overlay.lowers) (unwrap_or
          (find (λ (f : Filesystem ℕ). nat_eq number f.number) world.filesystems) (no_filesystem number)))
          → is_overlay (filesystem_numbered nat_eq world layer.filesystem) ≡ false
      by number None e layer m =
          absurd (subst (λ o. Among layer (of_overlay [] (λ (overlay : Overlay ℕ). overlay.lowers)
          (unwrap_or o (no_filesystem number)))) e m)
      by number (Some merged) e layer m = layer_plain merged (found_among _ world.filesystems merged e) layer
          (layered merged layer (subst (λ o. Among layer (of_overlay [] (λ (overlay : Overlay ℕ). overlay.lowers)
          (unwrap_or o (no_filesystem number)))) e m))

  -- so an overlay of the part is used
  part_overlay_used : (merged : Filesystem ℕ) → Among merged (overlays (part_of nat_eq world names))
      → Among merged.number (used_filesystems nat_eq world names)
  part_overlay_used merged there =
      let whole = from_part merged there in
      let from = among-from_filter is_overlay world.filesystems whole.0 whole.1 in
      subst (λ n. Among n (used_filesystems nat_eq world names)) whole.2 (⊎_elim (among_numbers _ whole.0.number)
      (λ lower. absurd (true≢false (sym from.1 ∙ ap is_overlay (sym (found_filesystem world.filesystems
      is.files.one_filesystem whole.0 from.0)) ∙ lower_plain whole.0.number lower))) whole.4)

  -- wholly locked: by the part and the footholds
  abbrev locks : ℕ → Filesystem ℕ → Bool
  locks filesystem merged =
      is_lower_root nat_eq filesystem (filesystem_numbered nat_eq world filesystem).files.tree.root merged
      && used_alone nat_eq world names merged.number

  locks_by_overlay : (filesystem : ℕ) (a b : Filesystem ℕ) → a.number ≡ b.number → a.overlay ≡ b.overlay
      → locks filesystem a ≡ locks filesystem b
  locks_by_overlay filesystem a b number overlay = cc (overlay, number)

  same_locks : (filesystem : ℕ) → list_any (locks filesystem) (overlays (part_of nat_eq world names))
      ≡ list_any (locks filesystem) (overlays world)
  same_locks filesystem = same_truth _ (list_any (locks filesystem) (overlays world))
      (λ h. let at = any_among (locks filesystem) (overlays (part_of nat_eq world names)) h in
      let whole = from_part at.0 at.1 in
      any_from_among _ (overlays world) whole.0 whole.1 (locks_by_overlay filesystem whole.0 at.0 whole.2 whole.3
      ∙ at.2)) (λ h. let at = any_among (locks filesystem) (overlays world) h in
      any_from_among (locks filesystem) _ at.0 (overlay_in_part at.0 at.1
      (and_parts (is_lower_root nat_eq filesystem (filesystem_numbered nat_eq world filesystem).files.tree.root at.0)
      (used_alone nat_eq world names at.0.number) at.2).1) at.2)

  locked_by_part : (filesystem : ℕ) → Among filesystem (used_filesystems nat_eq world names)
      → is_locked_whole (part_of nat_eq world names) (used_alone nat_eq world names) filesystem
      ≡ wholly_locked nat_eq world names filesystem
  locked_by_part filesystem m =
      ap (λ (f : Filesystem ℕ). list_any (λ merged. is_lower_root nat_eq filesystem f.files.tree.root merged
      && used_alone nat_eq world names merged.number) (overlays (part_of nat_eq world names)) && all_named nat_eq
      f.files) (found world names filesystem (is_among_numbers (used_filesystems nat_eq world names) filesystem m)) ∙ ap
      (λ b. b && all_named nat_eq (filesystem_numbered nat_eq world filesystem).files) (same_locks _)

  abbrev free_or_locked : ℕ → Bool
  free_or_locked filesystem = used_alone nat_eq world names filesystem || wholly_locked nat_eq world names filesystem

  same_all : (p q : ℕ → Bool) (list : List ℕ) → ((x : ℕ) → Among x list → p x ≡ q x) → list_all p list ≡ list_all q list
  same_all p q [] same = refl
  same_all p q (x ∷ rest) same = cc (same x (inl refl), same_all p q rest (λ y m. same y (inr m)))

  pub used_by_part : is_sealed_by (part_of nat_eq world names) names (used_alone nat_eq world names)
      ≡ list_all free_or_locked (used_filesystems nat_eq world names)
  used_by_part = grind (arith, common_steps, same_used, same_all, locked_by_part)

pub their_overlays_are_in_the_part : TheirOverlaysAreInThePart
their_overlays_are_in_the_part world names merged is there alone = contains_from_among _ merged
    (overlay_in_part world names is merged (among_from_contains (overlays world) merged there) alone)

pub sealed_is_by_part_and_footholds : SealedIsByPartAndFootholds
unfolding sealed
sealed_is_by_part_and_footholds world names apart = grind (arith, common_steps, used_by_part)

-- a world with all invariants, in which a set is sealed off
pub record IsSealed (world : World ℕ) (names : List TaskName) : Type 0 where
  pub is : IsWorld nat_eq world
  pub sealed_off : sealed nat_eq world names ≡ true

abbrev pub sealed_by : {world : World ℕ} {names : List TaskName} → IsWorld nat_eq world → sealed nat_eq world
    names ≡ true
    → IsSealed world names
sealed_by is sealed_off = record { is = is; sealed_off = sealed_off }

-- the first three of what makes a set sealed off
pub apart_if_sealed : {world : World ℕ} {names : List TaskName} → IsSealed world names → IsApart world names
unfolding sealed
apart_if_sealed sealing = grind (arith, common_steps, and_parts)

-- each filesystem that they use has no foothold of others, or is wholly locked
pub used_are_free : (world : World ℕ) (names : List TaskName) → sealed nat_eq world names ≡ true → (number : ℕ)
    → Among number (used_filesystems nat_eq world names)
    → (used_alone nat_eq world names number || wholly_locked nat_eq world names number) ≡ true
unfolding sealed
used_are_free world names all number m = grind (arith, common_steps, among_from_list_all, and_parts)

-- fewer footholds seal too
more_free : (part : World ℕ) (names : List TaskName) (free more : ℕ → Bool)
    → ((filesystem : ℕ) → Among filesystem (used_filesystems nat_eq part names) → free filesystem ≡ true
    → more filesystem ≡ true)
    → ((merged : Filesystem ℕ) → Among merged (overlays part) → free merged.number ≡ true → more merged.number ≡ true)
    → is_sealed_by part names free ≡ true → is_sealed_by part names more ≡ true
more_free part names free more used over h = grind (
  arith,
  common_steps,
  list_all_from_among,
  or_left,
  or_right,
  or_cases,
  among_from_list_all,
  any_among,
  and_from,
  any_from_among,
)

pub fewer_footholds_seal_too : FewerFootholdsSealToo
fewer_footholds_seal_too world other names apart other_is parts no_more other_sealed =
    let by_other : is_sealed_by (part_of nat_eq world names) names (used_alone nat_eq other names) ≡ true =
    ap (λ p. is_sealed_by p names (used_alone nat_eq other names)) parts ∙ sym
    (sealed_is_by_part_and_footholds other names (apart_if_sealed (sealed_by other_is other_sealed)))
    ∙ other_sealed in
    sealed_is_by_part_and_footholds world names apart
    ∙ more_free (part_of nat_eq world names) names (used_alone nat_eq other names) (used_alone nat_eq world names)
    (λ f m. no_more f (contains_from_among (used_filesystems nat_eq world names) f
    (subst (Among f) (same_used world names) m)))
    (λ merged m. no_more merged.number (contains_from_among (used_filesystems nat_eq world names) merged.number
    (part_overlay_used world names apart.is merged m))) by_other
