-- More bytes of the line that is being read.
use Rattle.std.proofs.Common.{◌≡◌, ℕ, ◌+◌, ◌-◌, ◌≤◌, Bool, true, false, not, eqb, leb, ltb, ◌||◌, List, ◌++◌, length, min, take, refl, sym, ◌∙◌, ap, arith, length-take, length-append}
use Rattle.std.proofs.Math.Seq.{take-append-add}
use Rattle.std.proofs.lemmas.List.{take_all, take_min, take-append-le}
use Rattle.std.proofs.lemmas.Bool.Decides.{nat_tests}
use Rattle.vt_io.specs.LineBuffer.{LineSoFar, Holds}

-- a front as long as there is room for
pub front-extended : (limit : ℕ) (old bytes : List ℕ) (size : ℕ) → length old ≤ limit
    → size ≡ min (length bytes) (limit - length old) → old ++ take size bytes ≡ take limit (old ++ bytes)
front-extended limit old bytes size within is =
    let room = limit - length old in
    let all : length old + room ≡ limit = omega arith in
    let same : size ≡ min room (length bytes) = omega (arith, is) in
    ap (λ n. old ++ take n bytes) same ∙ ap (λ xs. old ++ xs) (take_min room bytes)
    ∙ sym (take-append-add old bytes room) ∙ ap (λ n. take n (old ++ bytes)) all

-- what is cut off a line is not needed
front-of_front : (limit : ℕ) (line bytes : List ℕ) → take limit (take limit line ++ bytes) ≡ take limit (line ++ bytes)
front-of_front limit line bytes = by_test (leb (length line) limit) refl where
  by_test : (test : Bool) → leb (length line) limit ≡ test
      → take limit (take limit line ++ bytes) ≡ take limit (line ++ bytes)
  by_test true e =
      let short : length line ≤ limit = grind (arith, nat_tests) in
      ap (λ front. take limit (front ++ bytes)) (take_all limit line short)
  by_test false e =
      let long : limit ≤ length line = grind (arith, nat_tests) in
      let size : length (take limit line) ≡ limit = omega (arith, length-take limit line) in
      take-append-le limit (take limit line) bytes (omega arith) ∙ take_all limit (take limit line) (omega arith)
      ∙ sym (take-append-le limit line bytes long)

over-extended : (limit line bytes kept size : ℕ) → kept ≡ min limit line → size ≡ min bytes (limit - kept)
    → (ltb limit line || not (eqb (bytes - size) 0)) ≡ ltb limit (line + bytes)
over-extended limit line bytes kept size is same = grind (arith, nat_tests)

-- more bytes of a line
pub Holds-extended : (line bytes : List ℕ) (old new : LineSoFar) (size over : ℕ) → Holds line old
    → length old.bytes ≤ 8192 → size ≡ min (length bytes) (8192 - length old.bytes) → over ≡ length bytes - size
    → new.bytes ≡ old.bytes ++ take size bytes →
    new.overlong ≡ (old.overlong || not (eqb over 0)) → Holds (line ++ bytes) new
Holds-extended line bytes old new size over held within is rest kept long = record {
  bytes = kept ∙ front-extended 8192 old.bytes bytes size within is
      ∙ ap (λ front. take 8192 (front ++ bytes)) held.bytes ∙ front-of_front 8192 line bytes;
  overlong =
      let kept_size : length old.bytes ≡ min 8192 (length line) = ap length held.bytes ∙ length-take 8192 line in
      long ∙ ap (λ overlong. overlong || not (eqb over 0)) held.overlong
      ∙ ap (λ over. ltb 8192 (length line) || not (eqb over 0)) rest
      ∙ over-extended 8192 (length line) (length bytes) (length old.bytes) size kept_size is
      ∙ ap (ltb 8192) (sym (length-append line bytes));
}
