-- A world in which others are as they were beside a set: they have the footholds that they had.
use Rattle.std.proofs.Common.{arith, ◌≡◌, refl, sym, ap, subst, ◌∙◌, ◌⊎◌, inl, inr, ⊎_elim, ℕ, nat_eq, Bool, true, false, true≢false, List, [], Option, Some, None, find, not, ◌&&◌, ◌||◌, eqb-true, option_map, unwrap_or}
use Rattle.vt_spec.proofs.Common.{Among, Filesystem, IsWorld, Layer, Location, Mount, Overlay, Task, TaskName, World, among-append, among-append_right, among-filter, among-flat_map, among-from_filter, among-from_flat_map, among_from_contains, among_from_list_all, and_from, and_parts, any_among, change_layers, common_steps, directory_is_there, false_from_ne_true, filesystem_numbered, found_among, found_passes, has_layer_on, holds_all_tasks, holds_of, is_among, is_among_numbers, is_member_task, is_overlay, is_own_namespace, layers_of, list_all, list_all_from_among, list_any, locations, locations_of, mount_at, no_filesystem, no_outsider_on, no_outsider_on_mounts, or_left, or_right, other_mounts, outsiders, overlay_or, overlays, same_truth, shares_no_events, used_alone, used_directly, used_filesystems}
use Rattle.vt_laws_later_calls.proofs.last_use.OverlaysUnmounted.{any_alike}
use Rattle.vt_laws_containers.proofs.Common.{among-each_once, among-from_each_once, found_filesystem, layer_directory, used_directly_used}
use Rattle.vt_laws_containers.specs.Footholds.{LeavesOthersOut}
use Rattle.vt_laws_containers.proofs.scripts.UsedThere.{IsThere, located_is_there, mounted_is_there, there_with_inode}
use Rattle.vt_laws_members.proofs.changes.letting_go.Ready.{layered_overlay}

-- the layers of a filesystem, if it is an overlay
abbrev pub without_real : Overlay ℕ → Overlay ℕ
without_real overlay = record overlay { real = λ number. None }

abbrev pub layered_as : Filesystem ℕ → Option (Overlay ℕ)
layered_as filesystem = option_map without_real filesystem.overlay

-- It is in the place of one of the world, with its layers. Or its number is new, and if it is an overlay with an upper
-- layer, the set used the filesystem of that.
abbrev pub GoesOn : World ℕ → List TaskName → Filesystem ℕ → Type 0
GoesOn world names filesystem = ((old : Filesystem ℕ) × Among old world.filesystems × (old.number ≡ filesystem.number)
    × (layered_as filesystem ≡ layered_as old)) ⊎ ((IsThere world filesystem.number → ⊥)
    × ((number : ℕ) → Among number (change_layers filesystem)
    → is_among nat_eq number (used_filesystems nat_eq world names) ≡ true))

-- Others are as they were, and the set has its namespaces and mounts for itself.
pub record OthersAsBefore (world left : World ℕ) (names set : List TaskName) : Type 0 where
  pub others : outsiders left set ≡ outsiders world names
  pub mounts : other_mounts nat_eq left set ≡ other_mounts nat_eq world names
  pub shown : (location : Location ℕ) → Among location (locations (outsiders world names))
      → (mount_at nat_eq left location).filesystem ≡ (mount_at nat_eq world location).filesystem
  pub tasks : holds_all_tasks nat_eq left set ≡ true
  pub events : shares_no_events nat_eq left set ≡ true
  pub places : no_outsider_on_mounts nat_eq left set ≡ true
  pub filesystems : (filesystem : Filesystem ℕ) → Among filesystem left.filesystems → GoesOn world names filesystem
  -- what the set uses directly it used, or it is new
  pub direct : (number : ℕ) → Among number (used_directly nat_eq left set)
      → Among number (used_directly nat_eq world names) ⊎ (IsThere world number → ⊥)

-- What layers say of an overlay
overlays_alike : (one other : Filesystem ℕ) → layered_as one ≡ layered_as other → is_overlay one ≡ is_overlay other
overlays_alike one other same = grind (arith, common_steps)

layers_alike : (number : ℕ) (one other : Filesystem ℕ) → layered_as one ≡ layered_as other
    → has_layer_on nat_eq number one ≡ has_layer_on nat_eq number other
layers_alike number one other same = grind (arith, common_steps)

pub changes_alike : (one other : Filesystem ℕ) → layered_as one ≡ layered_as other
    → change_layers one ≡ change_layers other
changes_alike one other same = grind (arith, common_steps)

-- what an overlay has a layer on is there
layer_is_there : (world : World ℕ) (names : List TaskName) → IsWorld nat_eq world → (merged : Filesystem ℕ)
    → Among merged world.filesystems → (number : ℕ) → has_layer_on nat_eq number merged ≡ true → IsThere world number
layer_is_there world names is merged there number h = by merged.overlay refl h
  where
    by : (o : Option (Overlay ℕ)) → merged.overlay ≡ o
        → overlay_or false (λ (overlay : Overlay ℕ). list_any (λ l. nat_eq number l.filesystem) (layers_of overlay)) o
        ≡ true → IsThere world number
    by None e k = cc
    by (Some overlay) e k =
        let at = any_among (λ (layer : Layer ℕ). nat_eq number layer.filesystem) _ k in
        subst (IsThere world) (sym (eqb-true _ _ at.2)) (there_with_inode world _ _ (directory_is_there _
        (layer_directory world names is _ there at.0 (subst (Among at.0) (sym (ap (overlay_or [] layers_of) e)) at.1))))

-- a filesystem on which others are is there
others_there : (world : World ℕ) (names : List TaskName) → IsWorld nat_eq world → (number : ℕ)
    → no_outsider_on nat_eq world names number ≡ false → IsThere world number
others_there world names is number h = by _ refl
    (list_any (λ (l : Location ℕ). nat_eq number (mount_at nat_eq world l).filesystem) (locations _)) refl h
  where
    by : (a : Bool)
        → list_any (λ (mount : Mount ℕ). nat_eq number mount.filesystem) (other_mounts nat_eq world names) ≡ a
        → (b : Bool) → list_any (λ (l : Location ℕ). nat_eq number (mount_at nat_eq world l).filesystem)
        (locations (outsiders world names)) ≡ b
        → (not (list_any (λ (mount : Mount ℕ). nat_eq number mount.filesystem) (other_mounts nat_eq world names))
        && not (list_any (λ (l : Location ℕ). nat_eq number (mount_at nat_eq world l).filesystem)
        (locations (outsiders world names)))) ≡ false → IsThere world number
    by true e b f k =
        let at = any_among (λ (mount : Mount ℕ). nat_eq number mount.filesystem) _ e in
        subst (IsThere world) (sym (eqb-true _ _ at.2)) (mounted_is_there world names is at.0 (among-from_filter (λ
        (mount : Mount ℕ). holds_of (λ n. not (is_own_namespace nat_eq world names n)) mount.namespace) _ at.0 at.1).0)
    by false e true f k =
        let at = any_among (λ (l : Location ℕ). nat_eq number (mount_at nat_eq world l).filesystem) _ f in
        let of = among-from_flat_map locations_of _ at.0 at.1 in
        subst (IsThere world) (sym (eqb-true _ (mount_at nat_eq world at.0).filesystem at.2))
        (located_is_there world names is at.0 (among-flat_map locations_of world.tasks of.0 at.0
        (among-from_filter (λ (t : Task ℕ). not (is_member_task names t)) _ of.0 of.1).0 of.2))
    by false e false f k = cc

module _ {world left : World ℕ} {names set : List TaskName} (is : IsWorld nat_eq world)
    (left_is : IsWorld nat_eq left) (others : OthersAsBefore world left names set) where
  -- others are on the same filesystems
  no_outsider_same : (number : ℕ) → no_outsider_on nat_eq left set number ≡ no_outsider_on nat_eq world names number
  no_outsider_same number = grind (arith, common_steps, any_alike)

  abbrev free_in : World ℕ → List TaskName → ℕ → Filesystem ℕ → Bool
  free_in w q number merged = not (has_layer_on nat_eq number merged) || no_outsider_on nat_eq w q merged.number

  -- on what is new no other is
  none_on_unknown : (number : ℕ) → (IsThere world number → ⊥) → no_outsider_on nat_eq left set number ≡ true
  none_on_unknown number new = grind (arith, common_steps, no_outsider_same, others_there world names is number)

  -- an overlay that is left has no more layers
  still_free : (number : ℕ) → used_alone nat_eq world names number ≡ true → used_alone nat_eq left set number ≡ true
  still_free number alone =
      let parts = and_parts (no_outsider_on nat_eq world names number)
      (list_all (free_in world names number) (overlays world)) alone in
      and_from _ _ (no_outsider_same _ ∙ parts.0) (list_all_from_among _ (overlays left) (λ merged m.
      let from = among-from_filter is_overlay _ _ m in
      ⊎_elim (λ old. ap (λ b. not b || no_outsider_on nat_eq left set merged.number) (layers_alike _ merged old.0 old.3)
      ∙ ap (λ b. not (has_layer_on nat_eq number old.0) || b)
      (no_outsider_same _ ∙ ap (no_outsider_on nat_eq world names) (sym old.2)) ∙ among_from_list_all _ _ parts.1 old.0
      (among-filter _ _ old.0 old.1 (sym (overlays_alike merged old.0 old.3) ∙ from.1)))
      (λ new. or_right _ _ (none_on_unknown _ new.0)) (others.filesystems merged from.0)))

  -- an overlay on which others are is left, with its layers
  was_free : (number : ℕ) → used_alone nat_eq left set number ≡ true → used_alone nat_eq world names number ≡ true
  was_free number alone =
      let parts = and_parts (no_outsider_on nat_eq left set number)
      (list_all (free_in left set number) (overlays left)) alone in
      and_from _ _ (sym (no_outsider_same _) ∙ parts.0)
      (list_all_from_among _ (overlays world) (λ merged m. which parts.1 merged (among-from_filter is_overlay _ _ m).0
      (has_layer_on nat_eq number merged) refl (no_outsider_on nat_eq world names merged.number) refl))
    where
      clash : list_all (free_in left set number) (overlays left) ≡ true → (merged : Filesystem ℕ)
          → Among merged world.filesystems → has_layer_on nat_eq number merged ≡ true
          → no_outsider_on nat_eq world names merged.number ≡ false → ⊥
      clash all merged there layered used =
          let now = others_there left set left_is _ (no_outsider_same _ ∙ used) in
          ⊎_elim (λ old.
          let same : old.0 ≡ merged = sym (found_filesystem _ is.files.one_filesystem old.0 old.1) ∙ ap
          (filesystem_numbered nat_eq world) (old.2 ∙ now.2) ∙ found_filesystem _ is.files.one_filesystem _ there in
          let has : has_layer_on nat_eq number now.0 ≡ true = cc (layers_alike _ now.0 old.0 old.3, same, layered) in
          true≢false (sym (ap (λ b. not b || no_outsider_on nat_eq left set now.0.number) (sym has)
          ∙ among_from_list_all (free_in left set number) (overlays left) all now.0
          (among-filter is_overlay left.filesystems now.0 now.1 (layered_overlay number now.0 has)))
          ∙ ap (no_outsider_on nat_eq left set) now.2 ∙ no_outsider_same merged.number ∙ used))
          (λ new. new.0 (merged, there, sym now.2)) (others.filesystems now.0 now.1)

      which : list_all (free_in left set number) (overlays left) ≡ true → (merged : Filesystem ℕ)
          → Among merged world.filesystems → (a : Bool) → has_layer_on nat_eq number merged ≡ a → (b : Bool)
          → no_outsider_on nat_eq world names merged.number ≡ b → free_in world names number merged ≡ true
      which all merged there a e b f = grind (arith, common_steps, or_left, or_right, clash)

  same_footholds : (number : ℕ) → used_alone nat_eq left set number ≡ used_alone nat_eq world names number
  same_footholds number = same_truth _ _ (was_free number) (still_free _)

  -- on what is new others have no foothold
  free_if_new : (number : ℕ) → (IsThere world number → ⊥) → used_alone nat_eq left set number ≡ true
  free_if_new number new = and_from _ _ (none_on_unknown _ new)
      (list_all_from_among (free_in left set number) (overlays left) (λ merged m.
      let from = among-from_filter is_overlay _ _ m in
      ⊎_elim (λ old. or_left _ (no_outsider_on nat_eq left set merged.number) (ap not (false_from_ne_true _ (λ layered.
      new (layer_is_there world names is old.0 old.1 number (cc (layers_alike number merged old.0 old.3)))))))
      (λ fresh. or_right (not (has_layer_on nat_eq number merged)) _ (none_on_unknown _ fresh.0))
      (others.filesystems merged from.0)))

  -- what the set uses, and did not use, is new
  abbrev used : List ℕ
  used = used_filesystems nat_eq world names

  abbrev changed_in : World ℕ → ℕ → List ℕ
  changed_in w number = change_layers (filesystem_numbered nat_eq w number)

  changed_used : (number k : ℕ) → Among k (used_directly nat_eq world names) → Among number (changed_in world k)
      → is_among nat_eq number used ≡ true
  changed_used number k direct m = is_among_numbers used _
      (among-each_once _ _ (among-append_right _ _ _ (among-flat_map _ _ k _ direct m)))

  used_or_new : (number : ℕ) → Among number (used_filesystems nat_eq left set)
      → (is_among nat_eq number used ≡ true) ⊎ (IsThere world number → ⊥)
  used_or_new number m = ⊎_elim
      (λ direct. ⊎_elim (λ was. inl (used_directly_used world names _ was)) inr (others.direct number direct))
      (λ layered.
      let from = among-from_flat_map _ _ _ layered in
      inl (over _ from.1 _ refl from.2)) (among-append _ _ _ (among-from_each_once _ _ m))
    where
      over : (k : ℕ) → Among k (used_directly nat_eq left set) → (o : Option (Filesystem ℕ))
          → find (λ (f : Filesystem ℕ). nat_eq k f.number) left.filesystems ≡ o → Among number (change_layers (unwrap_or
          (find (λ (f : Filesystem ℕ). nat_eq k f.number) left.filesystems) (no_filesystem k)))
          → is_among nat_eq number used ≡ true
      over k direct None e n = absurd (subst (λ o. Among number (change_layers (unwrap_or o (no_filesystem k)))) e n)
      over k direct (Some merged) e n =
          let of : Among number (change_layers merged) =
          subst (λ o. Among number (change_layers (unwrap_or o (no_filesystem k)))) e n in
          let its_number : k ≡ merged.number = eqb-true k merged.number
          (found_passes (λ (f : Filesystem ℕ). nat_eq k f.number) left.filesystems merged e) in
          ⊎_elim (λ old. ⊎_elim (λ was. changed_used number k was
          (subst (λ (f : Filesystem ℕ). Among number (change_layers f))
          (sym (ap (filesystem_numbered nat_eq world) (its_number ∙ sym old.2)
          ∙ found_filesystem world.filesystems is.files.one_filesystem old.0 old.1))
          (subst (Among number) (changes_alike merged old.0 old.3) of)))
          (λ new. absurd (new (old.0, old.1, cc (old.2)))) (others.direct k direct))
          (λ new. new.1 number of)
          (others.filesystems merged (found_among (λ (f : Filesystem ℕ). nat_eq k f.number) left.filesystems merged e))

  pub leaves_others_out : LeavesOthersOut world left names set
  leaves_others_out = record {
    tasks = others.tasks;
    events = others.events;
    locations = others.places;
    as_before = λ filesystem m was. same_footholds filesystem;
    none_on_new = λ filesystem m new. ⊎_elim (λ was. absurd cc) (free_if_new filesystem)
        (used_or_new filesystem (among_from_contains (used_filesystems nat_eq left set) filesystem m));
  }
