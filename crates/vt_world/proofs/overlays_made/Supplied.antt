-- The numbers at the places of a supply for an overlay.
use Rattle.std.proofs.Common.{List, Some, [], ap, arith, cond, eq-eqb, false, ne_eqb, refl, zero, suc, slice_get, ℕ, ◌*◌, ◌+◌, ◌∙◌, ◌∷◌, ◌≡◌, ◌≢◌}
use Rattle.vt_spec.proofs.Common.{Merged, Real, none_is_some, real_object, same_Some}
use Rattle.vt_laws_worlds.specs.Given.NumbersHanded.{handed_at}
use Rattle.vt_world.specs.OverlaysMade.Made.{InodesGetTheirNumbers, MountsGetCounts, OverlaysGetTheirCount, handed_for, objects_shown, placed_from}
use Rattle.vt_laws_trees.specs.Runs.Handed.{counts_from}
use Rattle.vt_overlay.specs.MergedTree.{real_number}

module _ (number_of : Real ℕ → ℕ) (next : ℕ) where
  -- the object at each place
  handed_so : (place : ℕ) (objects : List (Merged ℕ)) (k : ℕ) (object : Merged ℕ) → slice_get objects k ≡ Some object
      → handed_at next (placed_from number_of place objects) (place + 4 * k)
      ≡ number_of (real_object false object.seen.layer object)
  handed_so place [] k object e = none_is_some object e
  handed_so place (first ∷ objects) zero object e =
      ap (λ b. cond b (number_of (real_object false first.seen.layer first))
      (handed_at next (placed_from number_of (place + 4) objects) (place + 4 * 0)))
      (eq-eqb (place + 4 * 0) place (omega arith))
      ∙ ap (λ (o : Merged ℕ). number_of (real_object false o.seen.layer o)) (same_Some first object e)
  handed_so place (first ∷ objects) (suc k) object e =
      ap (λ b. cond b (number_of (real_object false first.seen.layer first))
      (handed_at next (placed_from number_of (place + 4) objects) (place + 4 * suc k)))
      (ne_eqb (place + 4 * suc k) place (λ same. let no : ⊥ = omega (arith, same) in no))
      ∙ ap (handed_at next (placed_from number_of (place + 4) objects)) (omega arith)
      ∙ handed_so (place + 4) objects k object e

  -- a place that is none of them
  counted_beside : (place k : ℕ) → ((i : ℕ) → k ≢ place + 4 * i) → (objects : List (Merged ℕ))
      → handed_at next (placed_from number_of place objects) k ≡ counts_from next k
  counted_beside place k beside [] = refl
  counted_beside place k beside (first ∷ objects) =
      ap (λ b. cond b (number_of (real_object false first.seen.layer first))
      (handed_at next (placed_from number_of (place + 4) objects) k))
      (ne_eqb k place (λ same. beside 0 (let all : k ≡ place + 4 * 0 = omega (arith, same) in all)))
      ∙ counted_beside (place + 4) k
      (λ i same. beside (suc i) (let all : k ≡ place + 4 * suc i = omega (arith, same) in all)) objects

pub overlays_get_their_count : OverlaysGetTheirCount
overlays_get_their_count most trees overlay = counted_beside (real_number trees overlay) overlay.number.count 2 0
    (λ i same. let no : ⊥ = omega (arith, same) in no) (objects_shown most trees overlay) ∙ omega arith

pub inodes_get_their_numbers : InodesGetTheirNumbers
inodes_get_their_numbers most trees overlay place object e = ap (handed_for most trees overlay) (omega arith)
    ∙ handed_so (real_number trees overlay) overlay.number.count 2 (objects_shown most trees overlay) place object e

pub mounts_get_counts : MountsGetCounts
mounts_get_counts most trees overlay k = counted_beside (real_number trees overlay) overlay.number.count 2 (2 * k + 1)
    (λ i same. let no : ⊥ = omega (arith, same) in no) (objects_shown most trees overlay)
