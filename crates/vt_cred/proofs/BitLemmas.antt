-- Sets of bits: what `has_all` and a mask say of each bit.
use Rattle.std.proofs.Common.{◌≡◌, ◌==◌, ℕ, ◌+◌, ◌-◌, ◌*◌, ◌^◌, ◌<◌, ◌≤◌, ◌⊎◌, ◌↔◌, sym, ◌∙◌, ap, inl, inr, arith, Decides, bit_and, IsBitSet, pow_pos}
use Rattle.vt_spec.proofs.Common.{cases_lt, has_all}
use Rattle.std.specs.Int.{bit_at}
use Rattle.std.proofs.lemmas.Bool.Decides.{Decides-eqb}
use Rattle.std.proofs.lemmas.Nat.{and_assoc, and-not, and_comm, and_mask, bit_set_by_shift, pow_below}
use Rattle.std.proofs.lemmas.Nat.Bits.{bit_at-lt, bit_at_above, bit_at_and, shr_and_one, same_from_bits, and_pow}
use Rattle.vt_spec.specs.Rights.{masked}
use Rattle.vt_cred.specs.Access.{Includes, IsWithout}

one-from_IsBitSet : (n place : ℕ) → IsBitSet n place → bit_at n place ≡ 1
one-from_IsBitSet n place is_set = sym (shr_and_one n place) ∙ (bit_set_by_shift n place).1 is_set

IsBitSet-from_one : (n place : ℕ) → bit_at n place ≡ 1 → IsBitSet n place
IsBitSet-from_one n place one = (bit_set_by_shift n place).0 (shr_and_one n place ∙ one)

zero_or_one : (b : ℕ) → b < 2 → (b ≡ 0) ⊎ (b ≡ 1)
zero_or_one b small = grind (arith, cases_lt b 1)

-- where an and has all of the wanted bits, the set has each of them
bit-from_and : (set wanted place : ℕ) → bit_and set wanted ≡ wanted → IsBitSet wanted place → IsBitSet set place
bit-from_and set wanted place same is_wanted =
    let one = one-from_IsBitSet wanted place is_wanted in
    let both = bit_at_and set wanted place in
    let here : bit_at (bit_and set wanted) place ≡ bit_at wanted place = ap (λ n. bit_at n place) same in
    let small = bit_at-lt set place in
    IsBitSet-from_one set place (omega arith)

-- where the set has each of the wanted bits, an and has all of them
and-includes : (set wanted : ℕ) → Includes set wanted → bit_and set wanted ≡ wanted
and-includes set wanted includes = same_from_bits (bit_and set wanted) wanted (λ place.
    let both = bit_at_and set wanted place in
    elim (zero_or_one (bit_at wanted place) (bit_at-lt wanted place)) [
      | inl zero ↦ omega arith
      | inr one ↦
          let held = one-from_IsBitSet set place (includes place (IsBitSet-from_one wanted place one)) in
          omega arith
    ])

pub Decides-has_all : (set wanted : ℕ) → Decides (has_all set wanted) (Includes set wanted)
Decides-has_all set wanted =
    let test = Decides-eqb (bit_and set wanted) wanted in (
      (λ held place is_wanted. bit-from_and set wanted place (test.0 held) is_wanted),
      (λ includes. test.1 (and-includes set wanted includes)),
    )

-- of a number below 2 ^ w that is taken from the w ones, a bit is left where the number has none
bit-from_ones : (w taken place : ℕ) → taken < 2 ^ w → place < w
    → bit_at (2 ^ w - 1 - taken) place + bit_at taken place ≡ 1
bit-from_ones w taken place small within =
    let rest = bit_at (2 ^ w - 1 - taken) place in
    let gone = bit_at taken place in
    let split = and-not w taken (2 ^ place) small (pow_below place w within) in
    let by_rest = and_pow (2 ^ w - 1 - taken) place in
    let by_gone = and_pow taken place in
    let positive = pow_pos place in
    elim (zero_or_one rest (bit_at-lt (2 ^ w - 1 - taken) place)) [
      | inl rest_zero ↦ elim (zero_or_one gone (bit_at-lt taken place)) [
        | inl gone_zero ↦ absurd (omega (arith, ap (λ n. n * 2 ^ place) rest_zero, ap (λ n. n * 2 ^ place) gone_zero))
        | inr gone_one ↦ omega arith
      ]
      | inr rest_one ↦ elim (zero_or_one gone (bit_at-lt taken place)) [
        | inl gone_zero ↦ omega arith
        | inr gone_one ↦ absurd (omega (arith, ap (λ n. n * 2 ^ place) rest_one, ap (λ n. n * 2 ^ place) gone_one))
      ]
    ]

-- a place at which the mask has a bit just where what is taken has none
without-inside : (set taken mask place : ℕ) → bit_at mask place + bit_at taken place ≡ 1
    → IsBitSet (bit_and set mask) place ↔ (IsBitSet set place × ¬ IsBitSet taken place)
without-inside set taken mask place apart =
    let both = bit_at_and set mask place in
    let set_small = bit_at-lt set place in (
      (λ left.
          let one = one-from_IsBitSet (bit_and set mask) place left in (
            IsBitSet-from_one set place (omega arith),
            λ gone.
                let gone_one = one-from_IsBitSet taken place gone in omega arith,
          )),
      (λ kept.
          let one = one-from_IsBitSet set place kept.0 in
          elim (zero_or_one (bit_at taken place) (bit_at-lt taken place)) [
            | inl gone_zero ↦ IsBitSet-from_one (bit_and set mask) place (omega arith)
            | inr gone_one ↦ absurd (kept.1 (IsBitSet-from_one taken place gone_one))
          ]),
    )

-- a place at which the set has no bit
without-outside : (set taken mask place : ℕ) → bit_at set place ≡ 0
    → IsBitSet (bit_and set mask) place ↔ (IsBitSet set place × ¬ IsBitSet taken place)
without-outside set taken mask place none =
    let both = bit_at_and set mask place in (
      (λ left. let one = one-from_IsBitSet (bit_and set mask) place left in absurd (omega arith)),
      (λ kept. let one = one-from_IsBitSet set place kept.0 in absurd (omega arith)),
    )

-- a mask of the w ones without some bits takes just those bits away
pub IsWithout-and : (w set taken : ℕ) → set < 2 ^ w → taken < 2 ^ w
    → IsWithout set taken (bit_and set (2 ^ w - 1 - taken))
IsWithout-and w set taken set_small taken_small = λ place. elim (cases_lt place w) [
  | inl within ↦ without-inside set taken (2 ^ w - 1 - taken) place (bit-from_ones w taken place taken_small within)
  | inr above ↦ without-outside set taken (2 ^ w - 1 - taken) place (bit_at_above set w place set_small above)
]

-- of a mode, the 16 bits without the umask keep what the bits of a mode without the umask do
pub and-not_umask : (umask asked : ℕ) → umask ≤ 1023 → asked ≤ 1023 → bit_and asked (65535 - umask) ≡ masked umask asked
and-not_umask umask asked umask_small asked_small =
    let whole : bit_and asked 1023 ≡ asked = and_mask asked 10 ∙ omega arith in
    let low : bit_and 1023 (65535 - umask) ≡ 1023 - umask = and_comm 1023 (65535 - umask) ∙ and_mask (65535 - umask) 10
    ∙ omega arith in
    ap (λ n. bit_and n (65535 - umask)) (sym whole) ∙ and_assoc (65535 - umask) asked 1023 ∙ ap (bit_and asked) low

pub Decides-IsBitSet : (n place : ℕ) → Decides (bit_at n place == 1) (IsBitSet n place)
Decides-IsBitSet n place =
    let test = Decides-eqb (bit_at n place) 1 in
    ((λ one. IsBitSet-from_one n place (test.0 one)), (λ is_set. test.1 (one-from_IsBitSet n place is_set)))
