-- Bytes that are written over others from an offset on.
use Rattle.std.proofs.Common.{◌≡◌, ℕ, zero, suc, ◌+◌, ◌-◌, ◌≤◌, List, [], ◌++◌, length, take, drop, max, replicate, sym, ap, ◌∙◌, arith, append_assoc, length-append, length-drop, drop-drop, ⊎_elim, append-nil, length-take-le}
use Rattle.vt_spec.proofs.Common.{cases_lt, overwritten, padded, take-append-le, take-append_seam}
use Rattle.std.proofs.lemmas.List.{length-replicate, take-replicate}
use Rattle.std.proofs.Math.Seq.{take-append-add}
use Rattle.std.proofs.Math.ListN.{drop_of_length-le}

length-padded : (n : ℕ) (old : List ℕ) → length (padded n old) ≡ max (length old) n
length-padded n old = omega (
  arith,
  length-append old (replicate (n - length old) 0),
  length-replicate {A = ℕ} (n - length old) 0,
)

take_all : (n : ℕ) (list : List ℕ) → length list ≤ n → take n list ≡ list
take_all n list few =
    let sum : n ≡ length list + (n - length list) = omega arith in
    sym (ap (take n) (append-nil list)) ∙ ap (λ m. take m (list ++ [])) sum ∙ take-append-add list [] (n - length list)
    ∙ none (n - length list)
  where
    none : (m : ℕ) → list ++ take m [] ≡ list
    none zero = append-nil list
    none (suc m) = append-nil list

-- zeros up to a later place are those up to an earlier one, and more
front-padded : (offset n : ℕ) (old : List ℕ) → offset ≤ n → take offset (padded n old) ≡ take offset (padded offset old)
front-padded offset n old within = ⊎_elim (λ short.
    let there : offset ≤ length old = omega arith in
    take-append-le offset old (replicate (n - length old) 0) there
    ∙ sym (take-append-le offset old (replicate (offset - length old) 0) there))
    (λ long. beyond n within long ∙ sym (beyond offset (omega arith) long)) (cases_lt offset (length old))
  where
    beyond : (m : ℕ) → offset ≤ m → length old ≤ offset
        → take offset (padded m old) ≡ old ++ replicate (offset - length old) 0
    beyond m most long =
        let sum : offset ≡ length old + (offset - length old) = omega arith in
        ap (λ k. take k (padded m old)) sum ∙ take-append-add old (replicate (m - length old) 0) (offset - length old)
        ∙ ap (λ zeros. old ++ zeros) (take-replicate (offset - length old) (m - length old) 0 (omega arith))

-- zeros up to a place add nothing from there on
back-padded : (n : ℕ) (old : List ℕ) → drop n (padded n old) ≡ drop n old
back-padded n old = ⊎_elim (λ short.
    let none : n - length old ≡ 0 = omega arith in
    ap (λ k. drop n (old ++ replicate k 0)) none ∙ ap (drop n) (append-nil old)) (λ long.
    drop_of_length-le (padded n old) (let size = length-padded n old in omega (arith, size, long))
    ∙ sym (drop_of_length-le old long)) (cases_lt n (length old))

-- What is kept of a file that gets longer, with the bytes in their place
pub overwritten-grown : (old bytes grown : List ℕ) (offset longer : ℕ)
    → longer ≡ max (length old) (offset + length bytes) → grown ≡ take longer old ++ replicate (longer - length old) 0
    → take offset grown ++ (bytes ++ drop (offset + length bytes) grown) ≡ overwritten offset bytes old
overwritten-grown old bytes grown offset longer most is =
    let end : ℕ = offset + length bytes in
    let same : longer - length old ≡ end - length old = omega arith in
    let whole : take longer old ≡ old = take_all longer old (omega arith) in
    let room : grown ≡ padded end old = is ∙ (λ i. whole i ++ replicate (same i) 0) in
    (λ i. take offset (room i) ++ (bytes ++ drop end (room i)))
    ∙ (λ i. front-padded offset end old (omega arith) i ++ (bytes ++ back-padded end old i))
    ∙ sym (append_assoc (take offset (padded offset old)) bytes (drop end old))

-- and the same where the bytes were copied into their place
module _ (old bytes grown copy rest : List ℕ) (offset longer count : ℕ)
    (most : longer ≡ max (length old) (offset + length bytes))
    (is : grown ≡ take longer old ++ replicate (longer - length old) 0)
    (copied : copy ≡ bytes) (size : length grown ≡ count) (long : count ≡ longer) where
  abbrev all : List ℕ
  all = take offset grown ++ (copy ++ drop (offset + length bytes - offset) (drop offset grown))

  after : drop (offset + length bytes - offset) (drop offset grown) ≡ drop (offset + length bytes) grown
  after =
      let sum : offset + (offset + length bytes - offset) ≡ offset + length bytes = omega arith in
      drop-drop (offset + length bytes - offset) offset grown ∙ ap (λ n. drop n grown) sum

  length-all : length all ≡ count
  length-all =
      let within : offset ≤ length grown = omega arith in
      let front = length-take-le offset grown within in
      omega (
        arith,
        front,
        ap length copied,
        length-append (take offset grown) (copy ++ drop (offset + length bytes - offset) (drop offset grown)),
        length-append copy (drop (offset + length bytes - offset) (drop offset grown)),
        length-drop (offset + length bytes - offset) (drop offset grown),
        length-drop offset grown,
      )

  pub overwritten-in_place : take count (all ++ drop (length all) rest) ≡ overwritten offset bytes old
  overwritten-in_place =
      ap (λ n. take n (all ++ drop (length all) rest)) (sym length-all) ∙ take-append_seam all (drop (length all) rest)
      ∙ (λ i. take offset grown ++ (copied i ++ after i)) ∙ overwritten-grown old bytes grown offset longer most is
