-- Overlays where mounts come: each mount is one more of its overlay, and all overlays stay.
use Rattle.std.proofs.Common.{◌≡◌, refl, sym, ap, subst, ◌∙◌, inl, inr, ⊎_elim, ℕ, ◌+◌, nat_eq, eq-eqb, nat_lt, Bool, true, false, cond, ◌||◌, List, [], ◌∷◌, ◌++◌, map, filter, Option, Some, option_map, arith, All, ltb-true, ne_eqb, map-id}
use Rattle.vt_spec.proofs.Common.{Filesystem, Mount, World, and_parts, cons_option, folded, is_mounted, is_overlay, list_all, map_alike, map_twice}
use Rattle.std.proofs.Math.Seq.{append_snoc}
use Rattle.vt_mounting.proofs.Common.{Among, IsHeld, IsMountedSoOften, OverlayEntry, WorldValue, all_from_among, among-append, among-from_map, among-map, among_from_all, among_from_list_all, are_rising, counted, mount_of, mounted_while_counted, mounts_showing, overlay_seen, overlays_seen, times, times_append, world_of}
use Rattle.vt_location.specs.declared.mounts.Mount.{Mount as Attached}
use Rattle.vt_mounting.specs.Detach.Uses.{Merged, merged_at, merged_by, merged_seen, overlays_kept}
use Rattle.vt_mounting.proofs.detach.BesideOverlays.{mounted_at_first, some_of_both}
use Rattle.vt_mounting.proofs.detach.MountsLeave.{LeavesOverlays, merged_at_first}
use Rattle.vt_mounting.proofs.detach.Moving.{nat_eq_turned}
use Rattle.vt_mounting.proofs.detach.Overlaid.{AreStillMounted, all_shown, overlays_are}
use Rattle.vt_mounting.proofs.detach.OverlaysGone.{layers_used, merged_in}

-- an overlay with as many mounts more as are added
abbrev pub mounted_more : List (Mount ℕ) → Merged → Merged
mounted_more added one =
    record one { mounts = one.mounts + times (λ (mount : Mount ℕ). nat_eq one.number mount.filesystem) added }

-- each mount that comes is one more of its overlay
pub merged_by_all : (copies : List Attached) (all : List Merged)
    → folded merged_by all copies ≡ map (mounted_more (map mount_of copies)) all
merged_by_all [] all = sym (map-id all)
    ∙ map_alike (λ (one : Merged). one) (mounted_more []) all (λ one m. λ i. record one { mounts = same one.mounts i })
  where
    same : (n : ℕ) → n ≡ n + 0
    same n = omega arith
merged_by_all (copy ∷ rest) all = merged_by_all rest (merged_by all copy) ∙ map_twice (mounted_more later) step all
    ∙ map_alike (λ (one : Merged). mounted_more later (step one)) (mounted_more (mount_of copy ∷ later)) all
    (λ one m. by one (nat_eq (counted copy.root.filesystem.count) one.number)
    ∙ ap (λ b. record one { mounts = one.mounts + (cond b 1 0 + showing one) })
    (nat_eq_turned (counted copy.root.filesystem.count) one.number))
  where
    later : List (Mount ℕ)
    later = map mount_of rest

    showing : Merged → ℕ
    showing one = times (λ (mount : Mount ℕ). nat_eq one.number mount.filesystem) (map mount_of rest)

    step : Merged → Merged
    step one = cond (nat_eq (counted copy.root.filesystem.count) one.number) (record one { mounts = one.mounts + 1 })
        one

    by : (one : Merged) (b : Bool)
        → mounted_more (map mount_of rest) (cond b (record one { mounts = one.mounts + 1 }) one) ≡ record one {
          mounts = one.mounts + (cond b 1 0
              + times (λ (mount : Mount ℕ). nat_eq one.number mount.filesystem) (map mount_of rest));
        }
    by one true = λ i. record one {
      mounts = one_more one.mounts
          (times (λ (mount : Mount ℕ). nat_eq one.number mount.filesystem) (map mount_of rest)) i;
    }
      where
        one_more : (n k : ℕ) → n + 1 + k ≡ n + (1 + k)
        one_more n k = omega arith
    by one false = λ i. record one {
      mounts = none_more one.mounts
          (times (λ (mount : Mount ℕ). nat_eq one.number mount.filesystem) (map mount_of rest)) i;
    }
      where
        none_more : (n k : ℕ) → n + k ≡ n + (0 + k)
        none_more n k = omega arith

module _ (value : WorldValue) (whole : IsHeld value) (added : List (Mount ℕ)) where
  abbrev world : World ℕ
  world = world_of value

  abbrev pub grown : World ℕ
  grown = record world { mounts = world.mounts ++ added }

  more_shown : (n : ℕ)
      → mounts_showing world n + times (λ (mount : Mount ℕ). nat_eq n mount.filesystem) added ≡ mounts_showing grown n
  more_shown n = sym (times_append (λ (mount : Mount ℕ). nat_eq n mount.filesystem) world.mounts added)

  still_shown : AreStillMounted value grown
  still_shown = all_from_among (λ (overlay : Filesystem ℕ). is_mounted nat_eq grown overlay.number ≡ true)
      (overlays_seen value.overlays) (λ overlay m.
      mounted_while_counted grown overlay.number ∙ ap (nat_lt 0) (sym (more_shown overlay.number))
      ∙ sym (some_of_both (mounts_showing world overlay.number)
      (times (λ (mount : Mount ℕ). nat_eq overlay.number mount.filesystem) added))
      ∙ ap (λ b. b || nat_lt 0 (times (λ (mount : Mount ℕ). nat_eq overlay.number mount.filesystem) added))
      (sym (mounted_while_counted world overlay.number)
      ∙ among_from_all (λ (one : Filesystem ℕ). is_mounted nat_eq world one.number ≡ true)
      (overlays_seen value.overlays) (mounted_at_first value whole) overlay m))

  pub leaves_grown : LeavesOverlays value grown
  leaves_grown = record {
    overlays = overlays_are value whole.overlays ∙ all_shown value grown still_shown;
    rise = whole.overlays.all_rise;
  }

  pub merged_grown : map (mounted_more added) (map merged_seen value.overlays)
      ≡ map (merged_in grown) (filter is_overlay grown.filesystems)
  merged_grown = ap (map (mounted_more added)) (merged_at_first value whole)
      ∙ map_twice (mounted_more added) (merged_in world) (filter is_overlay world.filesystems)
      ∙ map_alike (λ overlay. mounted_more added (merged_in world overlay)) (merged_in grown)
      (filter is_overlay world.filesystems) (λ overlay m. λ i. record {
        number = overlay.number;
        mounts = more_shown overlay.number i;
        layers = layers_used overlay;
      })

-- Whatever mounts show them

abbrev again : OverlayEntry → Option Merged → Option OverlayEntry
again entry found = option_map (λ (one : Merged). record entry { mounts = one.mounts }) found

abbrev more : List (Mount ℕ) → OverlayEntry → OverlayEntry
more added entry = record entry {
  mounts = entry.mounts + times (λ (mount : Mount ℕ). nat_eq entry.number mount.filesystem) added;
}

-- each is found again, with the mounts that came
kept_more : (added : List (Mount ℕ)) (front back : List OverlayEntry)
    → ((entry : OverlayEntry) → Among entry back → (other : OverlayEntry) → Among other front
    → nat_eq entry.number other.number ≡ false) → are_rising (overlays_seen back) ≡ true
    → overlays_kept (map (mounted_more added) (map merged_seen (front ++ back))) back ≡ map (more added) back
kept_more added front [] apart rising = refl
kept_more added front (entry ∷ rest) apart rising =
    ap (λ o. cons_option (again entry o) (overlays_kept (map (mounted_more added)
    (map merged_seen (front ++ entry ∷ rest))) rest)) (found front (apart entry (inl refl)))
    ∙ ap (λ list. more added entry ∷ list)
    (ap (λ list. overlays_kept (map (mounted_more added) (map merged_seen list)) rest) (sym (append_snoc front entry rest))
    ∙ kept_more added (front ++ entry ∷ []) rest (λ other m one n.
    ⊎_elim (apart other (inr m) one)
    (λ last. ⊎_elim (λ same. ap (λ (o : OverlayEntry). nat_eq other.number o.number) same
    ∙ (let less = ltb-true entry.number other.number
    (among_from_list_all (λ (f : Filesystem ℕ). nat_lt entry.number f.number)
    (overlays_seen rest) parts.0 (overlay_seen other) (among-map overlay_seen rest other m)) in
    ne_eqb other.number entry.number (λ e. absurd (omega (arith, less, e))))) (λ none. absurd none) last)
    (among-append front (entry ∷ []) one n)) parts.1)
  where
    parts : (list_all (λ (f : Filesystem ℕ). nat_lt entry.number f.number) (overlays_seen rest) ≡ true)
        × (are_rising (overlays_seen rest) ≡ true)
    parts = and_parts (list_all (λ (f : Filesystem ℕ). nat_lt entry.number f.number) (overlays_seen rest))
        (are_rising (overlays_seen rest)) rising

    found : (list : List OverlayEntry)
        → ((other : OverlayEntry) → Among other list → nat_eq entry.number other.number ≡ false)
        → merged_at entry.number (map (mounted_more added) (map merged_seen (list ++ entry ∷ rest)))
        ≡ Some (mounted_more added (merged_seen entry))
    found [] apart = ap (λ b. cond b (Some (mounted_more added (merged_seen entry)))
        (merged_at entry.number (map (mounted_more added) (map merged_seen rest))))
        (eq-eqb entry.number entry.number refl)
    found (first ∷ list) apart = ap (λ b. cond b (Some (mounted_more added (merged_seen first)))
        (merged_at entry.number (map (mounted_more added) (map merged_seen (list ++ entry ∷ rest)))))
        (apart first (inl refl)) ∙ found list (λ other m. apart other (inr m))

more_seen : (added : List (Mount ℕ)) (list : List OverlayEntry)
    → overlays_seen (map (more added) list) ≡ overlays_seen list
more_seen added [] = refl
more_seen added (entry ∷ rest) = ap (λ all. overlay_seen entry ∷ all) (more_seen added rest)

module _ (value : WorldValue) (rise : are_rising (overlays_seen value.overlays) ≡ true) (added : List (Mount ℕ))
    {overlays : List Merged} (are : overlays ≡ map (mounted_more added) (map merged_seen value.overlays)) where
  all_more : overlays_kept overlays value.overlays ≡ map (more added) value.overlays
  all_more = ap (λ list. overlays_kept list value.overlays) are
      ∙ kept_more added [] value.overlays (λ entry m other none. absurd none) rise

  -- the overlays of before are kept,
  pub seen_more : overlays_seen (overlays_kept overlays value.overlays) ≡ overlays_seen value.overlays
  seen_more = ap overlays_seen all_more ∙ more_seen added value.overlays

  -- as often as they are mounted then
  pub counted_more : All (IsMountedSoOften (world_of value)) value.overlays
      → All (IsMountedSoOften (record (world_of value) { mounts = (world_of value).mounts ++ added }))
      (overlays_kept overlays value.overlays)
  counted_more counts = subst (All (IsMountedSoOften after)) (sym all_more)
      (all_from_among (IsMountedSoOften after) (map (more added) value.overlays) (λ entry m.
      let from = among-from_map (more added) value.overlays entry m in
      subst (IsMountedSoOften after) (sym from.2)
      (ap (λ n. n + times (λ (mount : Mount ℕ). nat_eq from.0.number mount.filesystem) added)
      (among_from_all (IsMountedSoOften (world_of value)) value.overlays counts from.0 from.1)
      ∙ sym (times_append (λ (mount : Mount ℕ). nat_eq from.0.number mount.filesystem) (world_of value).mounts added))))
    where
      after : World ℕ
      after = record (world_of value) { mounts = (world_of value).mounts ++ added }
