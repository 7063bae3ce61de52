-- The sweep leaves overlays whose inodes have names.
use Rattle.std.proofs.Common.{arith, ◌≡◌, refl, ap, ◌∙◌, ⊎_elim, ℕ, nat_eq, Bool, true, false, ◌||◌, List, [], ◌∷◌, ◌++◌, map, filter, flat_map}
use Rattle.vt_spec.proofs.Common.{Filesystem, World, common_steps, filesystem_lives, filesystem_numbered, is_among, is_among_left, is_overlay, layers_in, list_all, located_in, map_twice, named_in, objects_of_overlay, only_used, only_used_by, or_cases, settled, used_in, without_dead_mounts}
use Rattle.vt_laws_mounts.specs.LettingGo.Keeping.{has_only_named}
use Rattle.vt_laws_mounts.specs.LettingGo.TreesOverlays.{in_use_of}
use Rattle.vt_laws_mounts.proofs.letting_go.Lists.{Among, among-from_filter, among_from_all, among_from_list_all, list_all_from_among, or_left, or_right}
use Rattle.vt_laws_mounts.proofs.letting_go.sweeps.InUse.{after_first, after_second, number-first, number-second, overlay-left, second_leaves}
use Rattle.vt_laws_mounts.specs.Counts.OverlaysStay.{NamedOverlayStays, NamedOverlaysStay, OverlaysAreNamed}
use Rattle.vt_laws_mounts.proofs.counts.using.Exchanged.{found_mapped, numbers_mapped}
use Rattle.vt_laws_mounts.proofs.counts.using.Swept.{found_is, not_found}

-- a filter of what is changed
pub filter_stays : {A : Type 0} (step : A → A) (p : A → Bool) (list : List A)
    → ((a : A) → Among a list → p (step a) ≡ p a) → ((a : A) → Among a list → p a ≡ true → step a ≡ a)
    → filter p (map step list) ≡ filter p list
filter_stays step p [] same stays = refl
filter_stays step p (first ∷ rest) same stays = grind (arith, common_steps, stays, filter_stays step p rest)

module _ (world : World ℕ) (named : OverlaysAreNamed world) where
  abbrev lives : World ℕ
  lives = in_use_of world

  abbrev swept : Filesystem ℕ → Filesystem ℕ
  swept f = after_second world (after_first world f)

  is_named : (f : Filesystem ℕ) → Among f lives.filesystems → is_overlay f ≡ true → has_only_named f ≡ true
  is_named f m = among_from_all (λ g. is_overlay g ≡ true → has_only_named g ≡ true) world.filesystems named f
      (among-from_filter (filesystem_lives nat_eq (without_dead_mounts nat_eq world)) world.filesystems f m).0

  -- what is the root or has a name is used
  all_used : (f : Filesystem ℕ) → has_only_named f ≡ true
      → list_all (λ n. is_among nat_eq n (used_in nat_eq lives f)) f.files.numbers ≡ true
  all_used f only = list_all_from_among (λ n. is_among nat_eq n (used_in nat_eq lives f)) f.files.numbers (λ n m.
      ⊎_elim (λ root. or_left (nat_eq n f.files.tree.root) _ root) (λ name. or_right (nat_eq n f.files.tree.root) _
      (is_among_left n (named_in f.files ++ located_in nat_eq lives f.number ++ layers_in nat_eq lives f.number)
      (flat_map (objects_of_overlay nat_eq f.number) lives.filesystems)
      (is_among_left n (named_in f.files ++ located_in nat_eq lives f.number) (layers_in nat_eq lives f.number)
      (is_among_left n (named_in f.files) (located_in nat_eq lives f.number) name))))
      (or_cases (nat_eq n f.files.tree.root) (is_among nat_eq n (named_in f.files))
      (among_from_list_all (λ k. nat_eq k f.files.tree.root || is_among nat_eq k (named_in f.files)) f.files.numbers
      only n m)))

  stays : (f : Filesystem ℕ) → Among f lives.filesystems → is_overlay f ≡ true → swept f ≡ f
  stays f m e = ap (after_second world) (ap (λ b. only_used nat_eq lives b f) e
      ∙ ap (λ b. only_used_by nat_eq b (used_in nat_eq lives f) f) (all_used f (is_named f m e)))
      ∙ second_leaves world f e

  same_kind : (f : Filesystem ℕ) → is_overlay (swept f) ≡ is_overlay f
  same_kind f = grind (arith, common_steps, after_first, overlay-left)

  all_stay : filter is_overlay (settled nat_eq world).filesystems ≡ filter is_overlay lives.filesystems
  all_stay = ap (filter is_overlay) (map_twice (after_second world) (after_first world) lives.filesystems)
      ∙ filter_stays swept is_overlay lives.filesystems (λ f m. same_kind f) stays

  one_stays : (number : ℕ) → is_overlay (filesystem_numbered nat_eq lives number) ≡ true
      → filesystem_numbered nat_eq (settled nat_eq world) number ≡ filesystem_numbered nat_eq lives number
  one_stays number e = found_mapped _ (number-second world) _ number
      (ap (is_among nat_eq number) (numbers_mapped _ (number-first world) _) ∙ there _ refl) ∙ ap (after_second world)
      (found_mapped _ (number-first world) _ number (there _ refl)) ∙ stays _ (found_is _ number (there _ refl)) e
    where
      there : (b : Bool) → is_among nat_eq number (map (λ f. f.number) lives.filesystems) ≡ b
          → is_among nat_eq number (map (λ f. f.number) lives.filesystems) ≡ true
      there true h = h
      there false h = absurd (cc (e, not_found _ number h))

pub named_overlays_stay : NamedOverlaysStay
named_overlays_stay world named = all_stay world named

pub named_overlay_stays : NamedOverlayStays
named_overlay_stays world number named e = one_stays world named number e
