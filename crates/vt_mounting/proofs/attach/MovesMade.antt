-- Mounts that moved: which mount points they got and left.
use Rattle.std.proofs.Common.{Result, Ok, Err, IfOk, ◌≡◌, refl, ap, ◌∙◌, ℕ, true, ◌&&◌, List, [], ◌∷◌, ◌++◌, Option, Some, flat_map, map, option_to_list, append-nil, arith}
use Rattle.vt_spec.proofs.Common.{and_parts, common_steps, flat_map-append, list_all, list_all-append, map-append}
use Rattle.vt_location.specs.declared.locations.Location.{Location}
use Rattle.vt_mounting.proofs.Common.{MountEntry, location_of}
use Rattle.vt_mount.specs.declared.moving.Moved.{Moved}
use Rattle.vt_mount.specs.Moving.{all_moves, is_small_point, is_small as has_small_points, move_of}
use Rattle.vt_spec.specs.Machine.Mounts as meant
use Rattle.vt_mounting.specs.Attach.Planned.{AreMoves, Point, is_small, left_of, points_left, points_taken, taken_of}
use Rattle.vt_mounting.proofs.attach.PlannedMoves.{mapped_points}

-- The mount points that were taken and left

abbrev place_taken : ℕ × Option (meant.Location ℕ) × Location → Location
place_taken move = move.2

abbrev places_left : List (ℕ × Option (meant.Location ℕ) × Location) → List (meant.Location ℕ)
places_left moves = flat_map (λ (move : ℕ × Option (meant.Location ℕ) × Location). option_to_list move.1) moves

taken-moves : (points : List Point) (entries : List MountEntry)
    → map place_taken (all_moves points entries) ≡ points_taken points entries
taken-moves [] entries = refl
taken-moves (point ∷ rest) entries = grind (arith, common_steps, taken-moves rest entries, map-append)

left-moves : (points : List Point) (entries : List MountEntry)
    → places_left (all_moves points entries) ≡ points_left points entries
left-moves [] entries = refl
left-moves (point ∷ rest) entries = grind (arith, common_steps, left-moves rest entries, flat_map-append, append-nil)

taken-moved : (moved : List Moved) → taken_of moved ≡ map place_taken (map move_of moved)
taken-moved [] = refl
taken-moved (one ∷ rest) = ap (λ places. one.to ∷ places) (taken-moved rest)

left-moved : (moved : List Moved) → map location_of (left_of moved) ≡ places_left (map move_of moved)
left-moved [] = refl
left-moved (one ∷ rest) = map-append location_of (option_to_list one.from) (left_of rest)
    ∙ (λ i. mapped_points one.from i ++ left-moved rest i)

small-taken : (moved : List Moved) → list_all has_small_points moved ≡ true → list_all is_small (taken_of moved) ≡ true
small-taken [] all = refl
small-taken (one ∷ rest) all =
    let parts = and_parts (has_small_points one) (list_all has_small_points rest) all in
    λ i. (and_parts (is_small_point one.from) (is_small_point (Some one.to)) parts.0).1 i && small-taken rest parts.1 i

small-left : (moved : List Moved) → list_all has_small_points moved ≡ true → list_all is_small (left_of moved) ≡ true
small-left [] all = refl
small-left (one ∷ rest) all = grind (arith, common_steps, small-left rest, list_all-append)

pub are_moves : (points : List Point) (entries : List MountEntry) (moved : List Moved)
    → map move_of moved ≡ all_moves points entries → list_all has_small_points moved ≡ true
    → AreMoves points entries (taken_of moved) (left_of moved)
are_moves points entries moved are small = record {
  taken_are = taken-moved moved ∙ ap (map place_taken) are ∙ taken-moves points entries;
  left_are = left-moved moved ∙ ap places_left are ∙ left-moves points entries;
  taken_small = small-taken moved small;
  left_small = small-left moved small;
}

-- what two clauses say of a result that is no refusal
pub if_both : {A E : Type 0} {P Q R : A → Type 0} (r : Result A E) → IfOk r P → IfOk r Q
    → ((a : A) → P a → Q a → R a) → IfOk r R
if_both (Ok a) p q both = both a p q
if_both (Err e) p q both = tt
