-- Mounts that are found by their numbers.
use Rattle.std.proofs.Common.{◌≡◌, ℕ, Bool, true, false, cond, List, [], ◌∷◌, filter, nat_eq, Option, None, Some, refl, sym, ap, ◌∙◌, arith, inl, inr, eq-eqb, ne_eqb, find, ltb-true}
use Rattle.vt_spec.proofs.Common.{Among, Mount, among_from_list_all, and_parts, common_steps, cons_option}
use Rattle.vt_location.specs.declared.numbers.MountId.{MountId}
use Rattle.vt_location.specs.Numbers.{counted}
use Rattle.vt_mount.specs.MountsValue.{are_ascending}
pub use Rattle.vt_mount.proofs.PlaceLemmas.{counts}
use Rattle.vt_propagate.specs.Seen.{mounts_numbered}
use Rattle.vt_laws_mounts.specs.Mounts.Attaching.{numbers_of}

-- the first mount with a number
abbrev pub numbered : List (Mount ℕ) → ℕ → Option (Mount ℕ)
numbered mounts number = find (λ mount. nat_eq number mount.number) mounts

-- those of the mounts with these numbers that pass
module _ (test : Mount ℕ → Bool) (all : List (Mount ℕ)) where
  -- the mounts of a list of numbers that pass a test
  abbrev pub passing : List MountId → List (Mount ℕ)
  passing ids = filter test (mounts_numbered all (counts ids))

  -- a number that no mount has adds none
  pub passing-missing : (id : MountId) (ids : List MountId) → None ≡ numbered all (counted id.count)
      → passing (id ∷ ids) ≡ passing ids
  passing-missing id ids e = ap (λ o. filter test (cons_option o (mounts_numbered all (counts ids)))) (sym e)

  -- a mount that passes is added
  pub passing-here : (id : MountId) (ids : List MountId) {mount : Mount ℕ}
      → Some mount ≡ numbered all (counted id.count) → test mount ≡ true → passing (id ∷ ids) ≡ mount ∷ passing ids
  passing-here id ids {mount} e passes = ap (λ o. filter test (cons_option o (mounts_numbered all (counts ids))))
      (sym e)
      ∙ ap (λ b. cond b (mount ∷ passing ids) (passing ids)) passes

  -- and one that does not is not
  pub passing-not : (id : MountId) (ids : List MountId) {mount : Mount ℕ} → Some mount ≡ numbered all (counted id.count)
      → test mount ≡ false → passing (id ∷ ids) ≡ passing ids
  passing-not id ids {mount} e fails = ap (λ o. filter test (cons_option o (mounts_numbered all (counts ids)))) (sym e)
      ∙ ap (λ b. cond b (mount ∷ passing ids) (passing ids)) fails

-- each mount of an ascending list is found by its number
pub numbered_among : (all : List (Mount ℕ)) → are_ascending all ≡ true → (mount : Mount ℕ) → Among mount all
    → numbered all mount.number ≡ Some mount
numbered_among [] up mount m = absurd m
numbered_among (first ∷ rest) up mount m = grind (
  arith,
  common_steps,
  numbered_among rest,
  eq-eqb,
  and_parts,
  among_from_list_all,
  ne_eqb,
  ltb-true,
)

-- the mounts of an ascending list that are numbered like some of them are these
pub numbered_again : (all some : List (Mount ℕ)) → are_ascending all ≡ true
    → ((mount : Mount ℕ) → Among mount some → Among mount all) → mounts_numbered all (numbers_of some) ≡ some
numbered_again all [] up within = refl
numbered_again all (mount ∷ some) up within = ap (λ o. cons_option o (mounts_numbered all (numbers_of some)))
    (numbered_among all up mount (within mount (inl refl)))
    ∙ ap (λ l. mount ∷ l) (numbered_again all some up (λ other m. within other (inr m)))
