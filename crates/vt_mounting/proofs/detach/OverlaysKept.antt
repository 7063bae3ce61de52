-- What code keeps of overlays where a mount goes: those that mounts show still, with a mount less of that one.
use Rattle.std.proofs.Common.{◌≡◌, refl, sym, ap, ◌∙◌, inl, inr, ℕ, ◌+◌, ◌-◌, nat_eq, eqb-true, Bool, true, false, cond, not, List, [], ◌∷◌, map, filter, Option, Some, None, arith}
use Rattle.vt_spec.proofs.Common.{Filesystem, World, any_pair, common_steps, is_mounted, list_any, or_parts}
use Rattle.vt_mounting.proofs.Common.{Among, mounts_showing, none_among, without_mount}
use Rattle.vt_mounting.specs.Detach.Uses.{Merged, merged_at, merged_left_by, released_merged, without_merged}
use Rattle.vt_mounting.proofs.detach.OverlaysGone.{Takes, goes_at_one, merged_in, others_shown}

module _ {world : World ℕ} {number filesystem : ℕ} (taking : Takes world number filesystem) where
  open taking use {showing as takes}

  abbrev mounted : World ℕ
  mounted = without_mount world number

  abbrev is_shown : Filesystem ℕ → Bool
  is_shown overlay = is_mounted nat_eq mounted overlay.number

  same_merged : (overlay : Filesystem ℕ) → nat_eq filesystem overlay.number ≡ false
      → merged_in mounted overlay ≡ merged_in world overlay
  same_merged overlay apart = grind (arith, common_steps)

  -- overlays of other numbers stay as they are kept
  record StayAsKept (list : List (Filesystem ℕ)) : Type 0 where
    left : map (merged_in mounted) (filter is_shown list) ≡ map (merged_in world) list
    without : without_merged filesystem (map (merged_in world) list) ≡ map (merged_in world) list
    released : released_merged filesystem (map (merged_in world) list) ≡ map (merged_in world) list

  others_stay : (list : List (Filesystem ℕ))
      → ((overlay : Filesystem ℕ) → Among overlay list → is_mounted nat_eq world overlay.number ≡ true)
      → ((overlay : Filesystem ℕ) → Among overlay list → nat_eq filesystem overlay.number ≡ false) → StayAsKept list
  others_stay [] shown apart = record { left = refl; without = refl; released = refl }
  others_stay (overlay ∷ rest) shown apart =
      let later = others_stay rest (λ other m. shown other (inr m)) (λ other m. apart other (inr m)) in
      let other = apart overlay (inl refl) in record {
        left = ap (λ b. map (merged_in mounted) (cond b (overlay ∷ filter is_shown rest) (filter is_shown rest)))
            (others_shown taking overlay.number other ∙ shown overlay (inl refl))
            ∙ (λ i. same_merged overlay other i ∷ later.left i);
        without = ap (λ b. cond (not b)
            (merged_in world overlay ∷ without_merged filesystem (map (merged_in world) rest))
            (without_merged filesystem (map (merged_in world) rest))) other
            ∙ ap (λ all. merged_in world overlay ∷ all) later.without;
        released = λ i. cond (other i)
            (record (merged_in world overlay) { mounts = mounts_showing world overlay.number - 1 })
            (merged_in world overlay) ∷ later.released i;
      }

  -- Code keeps those that are shown still, and how often.
  pub merged_then : (list : List (Filesystem ℕ))
      → any_pair (λ (a b : Filesystem ℕ). nat_eq a.number b.number) list ≡ false
      → ((overlay : Filesystem ℕ) → Among overlay list → is_mounted nat_eq world overlay.number ≡ true)
      → merged_left_by filesystem (merged_at filesystem (map (merged_in world) list)) (map (merged_in world) list)
      ≡ map (merged_in mounted) (filter is_shown list)
  merged_then [] distinct shown = refl
  merged_then (overlay ∷ rest) distinct shown =
      by (nat_eq filesystem overlay.number) refl (merged_then rest parts.1 (λ other m. shown other (inr m)))
    where
      parts : (list_any (λ (b : Filesystem ℕ). nat_eq overlay.number b.number) rest ≡ false)
          × (any_pair (λ (a b : Filesystem ℕ). nat_eq a.number b.number) rest ≡ false)
      parts = or_parts (list_any (λ (b : Filesystem ℕ). nat_eq overlay.number b.number) rest)
          (any_pair (λ (a b : Filesystem ℕ). nat_eq a.number b.number) rest) distinct

      was : Merged
      was = merged_in world overlay

      kept : List Merged
      kept = map (merged_in world) rest

      less : Merged
      less = record was { mounts = was.mounts - 1 }

      at_it : nat_eq filesystem overlay.number ≡ true → merged_left_by filesystem (Some was) (was ∷ kept)
          ≡ map (merged_in mounted) (filter is_shown (overlay ∷ rest))
      at_it e = chosen (nat_eq (mounts_showing world overlay.number - 1) 0) refl
        where
          stay : StayAsKept rest
          stay = others_stay rest (λ other m. shown other (inr m)) (λ other m.
              ap (λ n. nat_eq n other.number) (eqb-true filesystem overlay.number e)
              ∙ none_among (λ (b : Filesystem ℕ). nat_eq overlay.number b.number) rest parts.0 other m)

          turned : (b : Bool) → not (is_shown overlay) ≡ b → is_shown overlay ≡ not b
          turned b h = twice (is_shown overlay) ∙ ap not h
            where
              twice : (c : Bool) → c ≡ not (not c)
              twice true = refl
              twice false = refl

          fewer : mounts_showing mounted overlay.number ≡ mounts_showing world overlay.number - 1
          fewer =
              let took : mounts_showing world overlay.number ≡ mounts_showing mounted overlay.number + 1 =
              takes overlay.number ∙ ap (λ b. mounts_showing mounted overlay.number + cond b 1 0) e in
              omega (arith, took)

          chosen : (b : Bool) → nat_eq (mounts_showing world overlay.number - 1) 0 ≡ b
              → cond b (without_merged filesystem (was ∷ kept)) (released_merged filesystem (was ∷ kept))
              ≡ map (merged_in mounted) (cond (is_shown overlay) (overlay ∷ filter is_shown rest) (filter is_shown rest))
          chosen true g =
              cc (stay.without, stay.left, turned true (goes_at_one taking overlay e ∙ g))
          chosen false g = (λ i. cond (e i) less was ∷ stay.released i)
              ∙ (λ i. record was { mounts = sym fewer i } ∷ sym stay.left i)
              ∙ sym (ap (λ b. map (merged_in mounted) (cond b (overlay ∷ filter is_shown rest) (filter is_shown rest)))
              (turned false (goes_at_one taking overlay e ∙ g)))

      behind : (o : Option Merged) → nat_eq filesystem overlay.number ≡ false
          → merged_left_by filesystem o (was ∷ kept) ≡ was ∷ merged_left_by filesystem o kept
      behind None e = refl
      behind (Some one) e = chosen (nat_eq (one.mounts - 1) 0)
        where
          chosen : (b : Bool)
              → cond b (without_merged filesystem (was ∷ kept)) (released_merged filesystem (was ∷ kept))
              ≡ was ∷ cond b (without_merged filesystem kept) (released_merged filesystem kept)
          chosen true = ap (λ b. cond (not b) (was ∷ without_merged filesystem kept) (without_merged filesystem kept)) e
          chosen false = ap (λ b. cond b less was ∷ released_merged filesystem kept) e

      by : (b : Bool) → nat_eq filesystem overlay.number ≡ b
          → merged_left_by filesystem (merged_at filesystem kept) kept ≡ map (merged_in mounted) (filter is_shown rest)
          → merged_left_by filesystem (cond b (Some was) (merged_at filesystem kept)) (was ∷ kept)
          ≡ map (merged_in mounted) (filter is_shown (overlay ∷ rest))
      by true e later = at_it e
      by false e later = behind (merged_at filesystem kept) e ∙ (λ i. sym (same_merged overlay e) i ∷ later i)
          ∙ sym (ap (λ b. map (merged_in mounted) (cond b (overlay ∷ filter is_shown rest) (filter is_shown rest)))
          (others_shown taking overlay.number e ∙ shown overlay (inl refl)))
