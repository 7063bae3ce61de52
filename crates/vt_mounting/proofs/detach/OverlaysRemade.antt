-- The overlays that code keeps when mounts have gone, as entries of those of before.
use Rattle.std.proofs.Common.{◌≡◌, refl, sym, ap, subst, ◌∙◌, inl, inr, ⊎_elim, ℕ, nat_eq, eq-eqb, Bool, true, false, cond, List, [], ◌∷◌, map, filter, Option, Some, None, option_map, All, arith}
use Rattle.vt_spec.proofs.Common.{Filesystem, World, any_pair, common_steps, cons_option, is_mounted, is_overlay, list_any, or_parts, pair-filter}
use Rattle.vt_mounting.proofs.Common.{Among, IsHeld, IsMountedSoOften, OverlayEntry, WorldValue, all_from_among, among-map, among_from_all, mounts_showing, none_among, overlay_seen, overlays_seen, world_of}
use Rattle.vt_mounting.specs.Detach.Uses.{Merged, merged_at, merged_seen, overlays_kept}
use Rattle.vt_mounting.proofs.detach.BesideOverlays.{mounted_at_first}
use Rattle.vt_mounting.proofs.detach.Moving.{nat_eq_turned}
use Rattle.vt_mounting.proofs.detach.MountsLeave.{LeavesOverlays, leaves_at_first, merged_at_first}
use Rattle.vt_mounting.proofs.detach.Overlaid.{overlays_are}
use Rattle.vt_mounting.proofs.detach.OverlaysGone.{merged_in}

module _ (world : World ℕ) where
  abbrev is_shown : Filesystem ℕ → Bool
  is_shown overlay = is_mounted nat_eq world overlay.number

  abbrev kept_of_list : List (Filesystem ℕ) → List Merged
  kept_of_list list = map (merged_in world) (filter is_shown list)

  none_found : (list : List (Filesystem ℕ)) (number : ℕ)
      → ((overlay : Filesystem ℕ) → Among overlay list → nat_eq number overlay.number ≡ false)
      → merged_at number (kept_of_list list) ≡ None
  none_found [] number apart = refl
  none_found (first ∷ rest) number apart = grind (arith, common_steps, none_found rest number, merged_in)

  -- an overlay is found by its number, if a mount shows it
  pub merged_found : (list : List (Filesystem ℕ))
      → any_pair (λ (a b : Filesystem ℕ). nat_eq a.number b.number) list ≡ false
      → (overlay : Filesystem ℕ) → Among overlay list → merged_at overlay.number (kept_of_list list)
      ≡ cond (is_shown overlay) (Some (merged_in world overlay)) None
  merged_found [] distinct overlay m = absurd m
  merged_found (first ∷ rest) distinct overlay m = ⊎_elim
      (λ here. subst (λ (one : Filesystem ℕ). merged_at one.number (kept_of_list (first ∷ rest))
      ≡ cond (is_shown one) (Some (merged_in world one)) None) (sym here) (at_first (is_shown first)))
      (λ later. behind (is_shown first) overlay (nat_eq_turned overlay.number first.number
      ∙ none_among (λ (b : Filesystem ℕ). nat_eq first.number b.number) rest parts.0 overlay later)
      ∙ merged_found rest parts.1 overlay later) m
    where
      parts : (list_any (λ (b : Filesystem ℕ). nat_eq first.number b.number) rest ≡ false)
          × (any_pair (λ (a b : Filesystem ℕ). nat_eq a.number b.number) rest ≡ false)
      parts = or_parts (list_any (λ (b : Filesystem ℕ). nat_eq first.number b.number) rest)
          (any_pair (λ (a b : Filesystem ℕ). nat_eq a.number b.number) rest) distinct

      at_first : (b : Bool) → merged_at first.number (map (merged_in world) (cond b (first ∷ filter is_shown rest)
          (filter is_shown rest))) ≡ cond b (Some (merged_in world first)) None
      at_first true = ap (λ c. cond c (Some (merged_in world first)) (merged_at first.number (kept_of_list rest)))
          (eq-eqb first.number first.number refl)
      at_first false = none_found rest first.number
          (λ other n. none_among (λ (b : Filesystem ℕ). nat_eq first.number b.number) rest parts.0 other n)

      behind : (b : Bool) (other : Filesystem ℕ) → nat_eq other.number first.number ≡ false
          → merged_at other.number (map (merged_in world) (cond b (first ∷ filter is_shown rest)
          (filter is_shown rest))) ≡ merged_at other.number (kept_of_list rest)
      behind true other apart =
          ap (λ c. cond c (Some (merged_in world first)) (merged_at other.number (kept_of_list rest))) apart
      behind false other apart = refl

-- an entry with its count, if it is kept
abbrev counted_again : OverlayEntry → Option Merged → Option OverlayEntry
counted_again entry found = option_map (λ (one : Merged). record entry { mounts = one.mounts }) found

module _ {old : WorldValue} (held : IsHeld old) {world : World ℕ} (leaves : LeavesOverlays old world)
    {overlays : List Merged} (merged : overlays ≡ map (merged_in world) (filter is_overlay world.filesystems)) where
  abbrev shows : OverlayEntry → Bool
  shows entry = is_mounted nat_eq world entry.number

  overlays_distinct : any_pair (λ (a b : Filesystem ℕ). nat_eq a.number b.number) (overlays_seen old.overlays) ≡ false
  overlays_distinct = subst (λ list. any_pair (λ (a b : Filesystem ℕ). nat_eq a.number b.number) list ≡ false)
      (overlays_are old held.overlays)
      (pair-filter (λ (a b : Filesystem ℕ). nat_eq a.number b.number) is_overlay (world_of old).filesystems
      held.in_world.files.one_filesystem)

  found_so : (entry : OverlayEntry) → Among entry old.overlays
      → merged_at entry.number overlays ≡ cond (shows entry) (Some (merged_in world (overlay_seen entry))) None
  found_so entry m = ap (merged_at entry.number) (merged ∙ ap (map (merged_in world)) leaves.overlays)
      ∙ merged_found world (overlays_seen old.overlays) overlays_distinct (overlay_seen entry)
      (among-map overlay_seen old.overlays entry m)

  abbrev FoundSo : List OverlayEntry → Type 0
  FoundSo list = (entry : OverlayEntry) → Among entry list
      → merged_at entry.number overlays ≡ cond (shows entry) (Some (merged_in world (overlay_seen entry))) None

  seen_of : (list : List OverlayEntry) → FoundSo list → overlays_seen (overlays_kept overlays list)
      ≡ filter (λ (overlay : Filesystem ℕ). is_mounted nat_eq world overlay.number) (overlays_seen list)
  seen_of [] found = refl
  seen_of (first ∷ rest) found = grind (arith, common_steps, seen_of rest, merged_in)

  -- those that are kept are those that mounts show,
  pub seen_kept : overlays_seen (overlays_kept overlays old.overlays)
      ≡ filter (λ (overlay : Filesystem ℕ). is_mounted nat_eq world overlay.number) (overlays_seen old.overlays)
  seen_kept = seen_of old.overlays found_so

  counted_of : (list : List OverlayEntry) → FoundSo list → (entry : OverlayEntry)
      → Among entry (overlays_kept overlays list) → IsMountedSoOften world entry
  counted_of [] found entry m = absurd m
  counted_of (first ∷ rest) found entry m = grind (arith, common_steps, counted_of rest, merged_in)

  -- as often as they are
  pub counted_kept : All (IsMountedSoOften world) (overlays_kept overlays old.overlays)
  counted_kept =
      all_from_among (IsMountedSoOften world) (overlays_kept overlays old.overlays) (counted_of old.overlays found_so)

-- Where no mount goes, all are kept as they are.
pub kept_itself : (value : WorldValue) → IsHeld value
    → overlays_kept (map merged_seen value.overlays) value.overlays ≡ value.overlays
kept_itself value whole = all value.overlays (λ entry m. m)
  where
    all : (list : List OverlayEntry) → ((entry : OverlayEntry) → Among entry list → Among entry value.overlays)
        → overlays_kept (map merged_seen value.overlays) list ≡ list
    all [] within = refl
    all (first ∷ rest) within = ap (λ o. cons_option (counted_again first o)
        (overlays_kept (map merged_seen value.overlays) rest))
        (found_so whole (leaves_at_first value whole) (merged_at_first value whole) first (within first (inl refl))
        ∙ ap (λ b. cond b (Some (merged_in (world_of value) (overlay_seen first))) None) shown)
        ∙ (λ i. record first { mounts = sym often i } ∷ all rest (λ entry m. within entry (inr m)) i)
      where
        shown : is_mounted nat_eq (world_of value) first.number ≡ true
        shown = among_from_all (λ (overlay : Filesystem ℕ). is_mounted nat_eq (world_of value) overlay.number ≡ true)
            (overlays_seen value.overlays) (mounted_at_first value whole) (overlay_seen first)
            (among-map overlay_seen value.overlays first (within first (inl refl)))

        often : first.mounts ≡ mounts_showing (world_of value) first.number
        often = among_from_all (IsMountedSoOften (world_of value)) value.overlays whole.overlays.mounts first
            (within first (inl refl))
