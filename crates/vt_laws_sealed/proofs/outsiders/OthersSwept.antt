-- After the sweep others are where they were, and have no more footholds.
use Rattle.std.proofs.Common.{arith, ◌≡◌, refl, sym, ap, ◌∙◌, inl, inr, ℕ, nat_eq, Bool, true, true≢false, List, [], ◌∷◌, filter, find, is_some, not, ◌||◌, eq-eqb, eqb-true, unwrap_or}
use Rattle.vt_spec.proofs.Common.{Among, Filesystem, Location, Mount, TaskName, World, all_locations, among-filter, among-from_filter, among-from_map, among_from_list_all, and_from, and_parts, any_from_among, common_steps, false_from_ne_true, filesystem_lives, has_layer_on, is_member_task, is_overlay, is_own_mount, list_all, list_all_from_among, list_any, locations, locations_of, mount_at, mount_lives, no_mount, no_outsider_on, not-true, number-only_used, only_used, or_cases, or_left, or_right, other_mounts, outsiders, overlays, own_mounts, receives_events_of, settled, shares_no_events, used_alone, without_dead_filesystems, without_dead_in, without_dead_mounts}
use Rattle.vt_laws_sealed.proofs.Common.{among-flat_map_filter, filter_less}
use Rattle.vt_laws_sealed.proofs.part.part.PartOfPart.{located}
use Rattle.vt_laws_sealed.proofs.outsiders.Staying.{OthersStayOut}
use Rattle.vt_laws_sealed.proofs.outsiders.InodesSwept.{cut_overlay, cut_layers}

-- Others are where they were.
module _ (world before : World ℕ) (names : List TaskName) (others : OthersStayOut world before names) where
  abbrev last : World ℕ
  last = settled nat_eq before

  owns_stay : own_mounts nat_eq last names ≡ own_mounts nat_eq before names
  owns_stay = grind (arith, common_steps, filter_less, located, true≢false)

  others_stay : other_mounts nat_eq last names ≡ other_mounts nat_eq before names
  others_stay = grind (arith, common_steps, filter_less, located, true≢false)

  -- a mount with a location on it lives
  found_living : (location : Location ℕ) → Among location (all_locations before)
      → mount_at nat_eq last location ≡ mount_at nat_eq before location
  found_living location m = ap (λ o. unwrap_or o (no_mount location.mount)) (search before.mounts)
    where
      located : (mount : Mount ℕ) → nat_eq location.mount mount.number ≡ true → mount_lives nat_eq before mount ≡ true
      located mount e = or_right (is_some mount.namespace) _ (any_from_among _ (all_locations before) location m
          (eq-eqb mount.number location.mount (sym (eqb-true location.mount mount.number e))))

      search : (list : List (Mount ℕ))
          → find (λ (x : Mount ℕ). nat_eq location.mount x.number) (filter (mount_lives nat_eq before) list)
          ≡ find (λ (x : Mount ℕ). nat_eq location.mount x.number) list
      search [] = refl
      search (x ∷ rest) = grind (arith, common_steps, true≢false, located, search rest)

  of_outsiders : (location : Location ℕ) → Among location (locations (outsiders before names))
      → Among location (all_locations before)
  of_outsiders = among-flat_map_filter locations_of (λ t. not (is_member_task names t)) before.tasks

  -- fewer masters, fewer events
  fewer_events : (a b : Mount ℕ) → receives_events_of nat_eq last a b ≡ true
      → receives_events_of nat_eq before a b ≡ true
  fewer_events a b h = grind (arith, common_steps, or_left, or_right, or_cases, true≢false)

  events_stay : shares_no_events nat_eq last names ≡ true
  events_stay = search (
    arith,
    common_steps,
    owns_stay,
    others_stay,
    list_all_from_among,
    false_from_ne_true,
    true≢false,
    or_left,
    fewer_events,
    or_right,
    or_cases,
    not-true,
    among_from_list_all,
  )

  any_alike : (p q : Location ℕ → Bool) (list : List (Location ℕ)) → ((x : Location ℕ) → Among x list → p x ≡ q x)
      → list_any p list ≡ list_any q list
  any_alike p q [] same = refl
  any_alike p q (x ∷ rest) same = cc (same x (inl refl), any_alike p q rest (λ y m. same y (inr m)))

  no_outsider_same : (number : ℕ) → no_outsider_on nat_eq last names number ≡ no_outsider_on nat_eq before names number
  no_outsider_same number = search (arith, common_steps, others_stay, any_alike, found_living, of_outsiders)

  -- an overlay that is left was there, with its layers
  overlay_was : (merged : Filesystem ℕ) → Among merged (overlays last)
      → (old : Filesystem ℕ) × Among old (overlays before) × (old.number ≡ merged.number)
      × ((number : ℕ) → has_layer_on nat_eq number old ≡ has_layer_on nat_eq number merged)
  overlay_was merged m =
      let out = among-from_filter is_overlay last.filesystems merged m in
      let second = among-from_map (λ f. only_used nat_eq first (not (is_overlay f)) f) first.filesystems merged out.0 in
      let one = among-from_map (λ f. only_used nat_eq living (is_overlay f) f) living.filesystems second.0 second.1 in
      let alive = among-from_filter (filesystem_lives nat_eq (without_dead_mounts nat_eq before)) before.filesystems
      one.0 one.1 in
      let way : Path (Filesystem ℕ) merged (twice one.0) =
      cc (second.2, one.2) in (
        one.0,
        among-filter is_overlay before.filesystems one.0 alive.0
            (cc (overlay_kept one.0, out.1)),
        sym (cc (number_kept one.0)),
        λ number. sym (cc (layers_kept number one.0)),
      )
    where
      living : World ℕ
      living = without_dead_filesystems nat_eq (without_dead_mounts nat_eq before)

      first : World ℕ
      first = without_dead_in nat_eq is_overlay living

      twice : Filesystem ℕ → Filesystem ℕ
      twice f = only_used nat_eq first (not (is_overlay (only_used nat_eq living (is_overlay f) f)))
          (only_used nat_eq living (is_overlay f) f)

      number_kept : (f : Filesystem ℕ) → (twice f).number ≡ f.number
      number_kept f = number-only_used first _ (only_used nat_eq living (is_overlay f) f)
          ∙ number-only_used living (is_overlay f) f

      overlay_kept : (f : Filesystem ℕ) → is_overlay (twice f) ≡ is_overlay f
      overlay_kept f =
          cut_overlay first _ (only_used nat_eq living (is_overlay f) f) ∙ cut_overlay living (is_overlay f) f

      layers_kept : (number : ℕ) (f : Filesystem ℕ)
          → has_layer_on nat_eq number (twice f) ≡ has_layer_on nat_eq number f
      layers_kept number f = cut_layers number first _ (only_used nat_eq living (is_overlay f) f)
          ∙ cut_layers number living (is_overlay f) f

  free_stays : (number : ℕ) → used_alone nat_eq before names number ≡ true → used_alone nat_eq last names number ≡ true
  free_stays number alone =
      let parts = and_parts (no_outsider_on nat_eq before names number)
      (list_all (λ merged. not (has_layer_on nat_eq number merged)
      || no_outsider_on nat_eq before names merged.number) (overlays before)) alone in
      and_from (no_outsider_on nat_eq last names number) _ (no_outsider_same number ∙ parts.0)
      (list_all_from_among (λ merged. not (has_layer_on nat_eq number merged)
      || no_outsider_on nat_eq last names merged.number) (overlays last) (λ merged m. let was = overlay_was merged m in
      ap (λ b. not b || no_outsider_on nat_eq last names merged.number) (sym (was.3 number))
      ∙ ap (λ b. not (has_layer_on nat_eq number was.0) || b)
      (no_outsider_same merged.number ∙ ap (no_outsider_on nat_eq before names) (sym was.2))
      ∙ among_from_list_all (λ old. not (has_layer_on nat_eq number old)
      || no_outsider_on nat_eq before names old.number) (overlays before) parts.1 was.0 was.1))

  pub others_swept : OthersStayOut world last names
  others_swept = record {
    tasks = others.tasks;
    events = events_stay;
    locations = list_all_from_among (λ location. not (is_own_mount nat_eq before names (mount_at nat_eq last location)))
        (locations (outsiders before names))
        (λ location m. ap (λ (x : Mount ℕ). not (is_own_mount nat_eq before names x))
        (found_living location (of_outsiders location m))
        ∙ among_from_list_all (λ l. not (is_own_mount nat_eq before names (mount_at nat_eq before l)))
        (locations (outsiders before names)) others.locations location m);
    free = λ number of alone. free_stays number (others.free number of alone);
  }
