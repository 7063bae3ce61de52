-- Items behind those that have left: what an edit of the whole list does to them.
use Rattle.std.proofs.Common.{◌≡◌, ◌<◌, ◌≤◌, ◌+◌, ◌-◌, ◌^◌, ◌++◌, ◌∷◌, ℕ, suc, List, ap, append_assoc, arith, drop, length, sym, take, ◌∙◌}
use Rattle.std.proofs.lemmas.List.{drop-append-le, drop-drop, drop-take, length-take-le}
use Rattle.std.specs.List.{copy_within, insert, remove}
use Rattle.vt_deque.specs.SliceDeque.{room}
use Rattle.vt_deque.specs.declared.slice_deque.SliceDeque.{SliceDeque}

module _ {X : Type 0} (list : List X) (start : ℕ) where
  -- those up to a place, and those from there on
  front : (rest : List X) (place at : ℕ) → at ≡ start + place → at ≤ length list
      → drop start (take at list ++ rest) ≡ take place (drop start list) ++ rest
  front rest place at is within =
      let taken = length-take-le at list within in
      drop-append-le start (take at list) rest (omega (arith, taken, is))
      ∙ ap (λ front. front ++ rest) (ap (λ at. drop start (take at list)) is ∙ drop-take start place list)

  back : (place at : ℕ) → at ≡ start + place → drop at list ≡ drop place (drop start list)
  back place at is = ap (λ at. drop at list) is ∙ sym (drop-drop place start list)

  pub drop-insert : (place : ℕ) (one : X) → start + place ≤ length list
      → drop start (insert list (start + place) one) ≡ insert (drop start list) place one
  drop-insert place one within = front (one ∷ drop (start + place) list) place (start + place) (omega arith) within
      ∙ ap (λ rest. take place (drop start list) ++ one ∷ rest) (back place (start + place) (omega arith))

  pub drop-remove : (place : ℕ) → start + place < length list
      → drop start (remove list (start + place)) ≡ remove (drop start list) place
  drop-remove place within =
      front (drop (suc (start + place)) list) place (start + place) (omega arith) (omega (arith, within))
      ∙ ap (λ rest. take place (drop start list) ++ rest) (back (suc place) (suc (start + place)) (omega arith))

-- the items before a place move up by one
pub drop-copied : {X : Type 0} (list : List X) (start place : ℕ) → start + place < length list
    → drop (start + 1) (copy_within list start (start + place) (start + 1)) ≡ remove (drop start list) place
drop-copied list start place within =
    let moved = start + place - start in
    let is : moved ≡ place = omega arith in
    let before = take moved (drop start list) in
    let rest = drop (start + 1 + moved) list in
    ap (drop (start + 1)) (append_assoc (take (start + 1) list) before rest)
    ∙ front list (start + 1) (before ++ rest) 0 (start + 1) (omega arith) (omega (arith, within))
    ∙ ap (λ n. take n (drop start list) ++ drop (start + 1 + n) list) is
    ∙ ap (λ rest. take place (drop start list) ++ rest) (back list start (suc place) (start + 1 + place) (omega arith))

-- a block of memory is bounded, and so is the room in it
pub room-bounded : {X : Type 0} (deque : SliceDeque X) → room deque < 2 ^ 63
unfolding room
room-bounded deque = omega (arith, deque.list.small)
