-- Layers that are counted one by one.
use Rattle.std.proofs.Common.{Bool, List, [], arith, cond, refl, ℕ, ◌+◌, ◌++◌, ◌-◌, ◌∷◌, ◌≡◌, ◌≤◌, count_by, nat_lt}
use Rattle.vt_spec.proofs.Common.{list_any, sum_by-cons, common_steps}
use Rattle.vt_store.specs.LayersAt.{HasRoomForLayers}
use Rattle.vt_store.specs.declared.layer_counts.LayerCounts.{LayerCounts}

-- one more at the end,
pub counted_more : {X : Type 0} (test : X → Bool) (xs : List X) (x : X)
    → count_by test (xs ++ x ∷ []) ≡ cond (test x) (count_by test xs + 1) (count_by test xs)
counted_more test xs x = grind (arith, common_steps)

-- and one less at the front
pub counted_less : {X : Type 0} (test : X → Bool) (x : X) (xs : List X)
    → cond (test x) (count_by test (x ∷ xs) - 1) (count_by test (x ∷ xs)) ≡ count_by test xs
counted_less test x xs = grind (arith, common_steps)

-- some are counted where one is
pub any_counted : {X : Type 0} (test : X → Bool) (xs : List X) → nat_lt 0 (count_by test xs) ≡ list_any test xs
any_counted test [] = refl
any_counted test (x ∷ xs) = grind (arith, common_steps, any_counted test xs, sum_by-cons, cond, count_by)

-- room for some is room for fewer
pub room_for_fewer : (fewer more : ℕ) (counts : LayerCounts) → fewer ≤ more → HasRoomForLayers more counts
    → HasRoomForLayers fewer counts
room_for_fewer fewer more counts less room = record {
  filesystems = omega (arith, less, room.filesystems);
  directories = omega (arith, less, room.directories);
  few = omega (arith, less, room.few);
}
