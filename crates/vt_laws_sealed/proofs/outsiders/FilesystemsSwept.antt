-- The sweeps of mounts, groups and filesystems take nothing that a sealed set sees.
use Rattle.std.proofs.Common.{arith, ◌≡◌, refl, sym, ap, ◌∙◌, ⊎_elim, ℕ, nat_eq, Bool, true, false, cond, true≢false, List, [], ◌∷◌, Option, Some, None, filter, find, map, ◌&&◌, ◌||◌, eq-eqb, eqb-true, unwrap_or, filter_map}
use Rattle.vt_spec.proofs.Common.{Among, Filesystem, Layer, Mount, TaskName, World, among-append, among-flat_map, among-from_filter, among-from_flat_map, among-from_map, among_from_contains, among_numbers, and_from, any_among, any_from_among, common_steps, false_from_ne_true, filesystem_lives, filesystem_numbered, has_layer_on, is_among, is_member_of, is_member_task, is_mounted, layers_of, list_any, locations, locations_of, members, mount_numbered, no_filesystem, of_overlay, or_left, or_right, own_lowers, own_mounts, used_directly, used_filesystems, when, without_dead_filesystems, without_dead_groups, without_dead_mounts}
use Rattle.vt_laws_sealed.proofs.Common.{found_itself}
use Rattle.vt_laws_sealed.specs.Part.Parts.{SeesTheSame, shown_of}
use Rattle.vt_laws_sealed.specs.Part.Seals.{IsApart}
use Rattle.vt_laws_sealed.proofs.part.Kept.{among-from_each_once}
use Rattle.vt_laws_sealed.proofs.part.part.DeadMounts.{mounts_kept}
use Rattle.vt_laws_sealed.proofs.part.part.PartOfPart.{used_directly_used}
use Rattle.vt_laws_sealed.proofs.outsiders.OtherMounts.{located_there}
use Rattle.vt_laws_sealed.proofs.outsiders.SeenLater.{lowered_by, shown_at, changed_of, there_later, own_later, used_later, lower_of}

-- what a filter takes is not kept, and what it leaves is kept alike
pub filter_map_filtered : {A B : Type 0} (k later : A → Option B) (p : A → Bool) (xs : List A)
    → ((x : A) → Among x xs → p x ≡ true → later x ≡ k x) → ((x : A) → Among x xs → p x ≡ false → k x ≡ None)
    → filter_map later (filter p xs) ≡ filter_map k xs
filter_map_filtered k later p [] same none = refl
filter_map_filtered k later p (x ∷ xs) same none = grind (arith, common_steps, filter_map_filtered k later p xs)

-- Mounts: those go that nothing uses.
module _ (world before : World ℕ) (names : List TaskName) (sees : SeesTheSame world before names) where
  pub mounts_swept : SeesTheSame world (without_dead_mounts nat_eq before) names
  mounts_swept = grind (arith, common_steps, mounts_kept before names before.mounts)

  pub groups_swept : SeesTheSame world (without_dead_groups nat_eq before) names
  groups_swept = record {
    tasks = sees.tasks;
    mounts = sees.mounts;
    masters = λ group h.
        let member = any_among (is_member_of nat_eq group) (own_mounts nat_eq world names) h in
        ap (λ b. cond b (before.master group) None) (any_from_among (is_member_of nat_eq group) before.mounts member.0
        (own_later world before names sees member.0 member.1) member.2) ∙ sees.masters group h;
    direct = sees.direct;
    filesystems = sees.filesystems;
    namespaces = sees.namespaces;
  }

-- Filesystems: those go that no mount shows, and that are no layer of an overlay that one shows.
module _ (world before : World ℕ) (names : List TaskName) (apart : IsApart world names)
    (sees : SeesTheSame world before names) where
  abbrev direct : List ℕ
  direct = used_directly nat_eq world names

  abbrev alive : ℕ → Bool
  alive number = is_mounted nat_eq before number
      || list_any (λ merged. has_layer_on nat_eq number merged && is_mounted nat_eq before merged.number)
      before.filesystems

  mounted_if_shown : (number : ℕ) (mount : Mount ℕ) → Among mount before.mounts → mount.filesystem ≡ number
      → is_mounted nat_eq before number ≡ true
  mounted_if_shown number mount m e = any_from_among _ before.mounts mount m (eq-eqb number mount.filesystem (sym e))

  -- what they use directly is mounted
  direct_mounted : (number : ℕ) → Among number direct → is_mounted nat_eq before number ≡ true
  direct_mounted number m = ⊎_elim (λ shown. let mount = among-from_map _ _ number shown in
      mounted_if_shown number mount.0 (own_later world before names sees mount.0 mount.1) (sym mount.2)) (λ located.
      let at = among-from_map _ (locations (members world names)) number located in
      let task = among-from_flat_map locations_of (members world names) at.0 at.1 in
      let there = located_there apart at.0 (among-flat_map locations_of world.tasks task.0 at.0
      (among-from_filter (is_member_task names) world.tasks task.0 task.1).0 task.2) in
      let shown = shown_at world names there.0 (any_from_among _ (locations (members world names)) at.0 at.1 there.2) in
      let later = there_later world before names sees there.0 shown.0 there.1 shown.1 in
      mounted_if_shown number later.0 later.1 (later.3 ∙ ap (λ (x : Mount ℕ). x.filesystem)
      (sym (found_itself world.mounts apart.is.mounts.one_number there.0 there.1))
      ∙ ap (λ n. (mount_numbered nat_eq world n).filesystem) (sym (eqb-true at.0.mount there.0.number there.2))
      ∙ sym at.2)) (among-append (map (λ (x : Mount ℕ). x.filesystem) (own_mounts nat_eq world names)) _ number m)

  -- a layer of an overlay that they use directly is alive
  layer_alive : (number : ℕ) (merged : Filesystem ℕ) → Among merged world.filesystems → Among merged.number direct
      → has_layer_on nat_eq number merged ≡ true → alive number ≡ true
  layer_alive number merged m used has = or_right (is_mounted nat_eq before number) _
      (any_from_among _ before.filesystems merged (used_later world before names sees merged m
      (used_directly_used world names merged.number used)) (and_from _ _ has (direct_mounted merged.number used)))

  layered : (number : ℕ) (merged : Filesystem ℕ) (layer : Layer ℕ) → Among layer (of_overlay [] layers_of merged)
      → nat_eq number layer.filesystem ≡ true → has_layer_on nat_eq number merged ≡ true
  layered number merged layer m e = grind (arith, common_steps, any_from_among)

  lower_alive : (number : ℕ)
      → list_any (λ (layer : Layer ℕ). nat_eq number layer.filesystem) (own_lowers nat_eq world names) ≡ true
      → alive number ≡ true
  lower_alive number h =
      let at = any_among (λ (layer : Layer ℕ). nat_eq number layer.filesystem) (own_lowers nat_eq world names) h in
      let of = lower_of world before names sees at.0 at.1 in
      layer_alive number of.0 of.1 of.4 (layered number of.0 at.0 of.3 at.2)

  used_alive : (number : ℕ) → Among number (used_filesystems nat_eq world names) → alive number ≡ true
  used_alive number m = ⊎_elim (λ d. or_left (is_mounted nat_eq before number) _ (direct_mounted number d))
      (λ changed. let of = changed_of world names number changed in
      layer_alive number of.0 of.1 of.2 (layered number of.0 of.3 of.4 (eq-eqb number of.3.filesystem of.5)))
      (among-append direct _ number (among-from_each_once _ number m))

  abbrev alive_world : World ℕ
  alive_world = without_dead_filesystems nat_eq before

  found_alive : (number : ℕ) → alive number ≡ true
      → filesystem_numbered nat_eq alive_world number ≡ filesystem_numbered nat_eq before number
  found_alive number is = ap (λ o. unwrap_or o (no_filesystem number)) (search before.filesystems)
    where
      search : (list : List (Filesystem ℕ))
          → find (λ (f : Filesystem ℕ). nat_eq number f.number) (filter (filesystem_lives nat_eq before) list)
          ≡ find (λ (f : Filesystem ℕ). nat_eq number f.number) list
      search [] = refl
      search (f ∷ rest) = grind (arith, common_steps, true≢false, eqb-true, search rest)

  abbrev lowers_there : List (Layer ℕ)
  lowers_there = own_lowers nat_eq world names

  abbrev used_there : List ℕ
  used_there = used_filesystems nat_eq world names

  dead_not_shown : (x : Filesystem ℕ) → filesystem_lives nat_eq before x ≡ false
      → shown_of before used_there lowers_there x ≡ None
  dead_not_shown x dead =
      cc (
        false_from_ne_true (is_among nat_eq x.number used_there) (λ h.
            true≢false (sym (used_alive x.number (among_numbers used_there x.number h)) ∙ dead)),
        false_from_ne_true (list_any (λ (layer : Layer ℕ). nat_eq x.number layer.filesystem) lowers_there) (λ h.
            true≢false (sym (lower_alive x.number h) ∙ dead)),
      )

  pub filesystems_swept : SeesTheSame world alive_world names
  filesystems_swept = record {
    tasks = sees.tasks;
    mounts = sees.mounts;
    masters = sees.masters;
    direct = λ number m. found_alive number (or_left (is_mounted nat_eq before number) _
        (direct_mounted number (among_from_contains direct number m))) ∙ sees.direct number m;
    filesystems =
        filter_map_filtered (shown_of before used_there lowers_there) (shown_of alive_world used_there lowers_there)
        (filesystem_lives nat_eq before) before.filesystems
        (λ x m lives. ap (λ (f : Filesystem ℕ). cond (is_among nat_eq x.number used_there) (Some x)
        (when (list_any (λ (layer : Layer ℕ). nat_eq x.number layer.filesystem) lowers_there)
        (lowered_by used_there lowers_there f.files x))) (found_alive x.number lives))
        (λ x m dead. dead_not_shown x dead) ∙ sees.filesystems;
    namespaces = sees.namespaces;
  }
