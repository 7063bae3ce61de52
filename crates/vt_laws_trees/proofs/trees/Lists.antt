-- Lists that are filtered, and what stands at a place of a list.
use Rattle.std.proofs.Common.{arith, ◌≡◌, ◌≤◌, refl, true≢false, ℕ, Bool, true, List, [], ◌∷◌, Some, filter, find, flat_map, length, slice_get}
use Rattle.vt_spec.proofs.Common.{Among, among-flat_map, among-from_filter, among-from_flat_map, among_from_contains, common_steps, get_or_from_slice_get, slice_get_within}

pub length-filter_le : {A : Type 0} (p : A → Bool) (list : List A) → length (filter p list) ≤ length list
length-filter_le p [] = omega arith
length-filter_le {A} p (first ∷ rest) = grind (arith, common_steps, length-filter_le p rest)

-- a search finds the same where all that it may find is kept
pub find-filter : {A : Type 0} (p q : A → Bool) (list : List A) → ((a : A) → p a ≡ true → q a ≡ true)
    → find p (filter q list) ≡ find p list
find-filter p q [] keeps = refl
find-filter {A} p q (a ∷ rest) keeps = grind (arith, common_steps, true≢false, find-filter p q rest keeps)

pub nth_among : {A : Type 0} (list : List A) (k : ℕ) (a : A) → slice_get list k ≡ Some a → Among a list
nth_among list k a e = among_from_contains list a (k, slice_get_within list k a e, get_or_from_slice_get list k a a e)

-- what comes of the elements that pass comes of all
pub among-flat_map_filter : {A B : Type 0} (f : A → List B) (p : A → Bool) (list : List A) (b : B)
    → Among b (flat_map f (filter p list)) → Among b (flat_map f list)
among-flat_map_filter f p list b m =
    let of = among-from_flat_map f (filter p list) b m in
    among-flat_map f list of.0 b (among-from_filter p list of.0 of.1).0 of.2
