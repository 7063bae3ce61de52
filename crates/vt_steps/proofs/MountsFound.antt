-- A mount that is found by its place is the one found by its number.
use Rattle.std.proofs.Common.{◌≡◌, refl, ap, sym, ◌∙◌, ℕ, nat_eq, Bool, true, List, find, Option, Some, None, option_map}
use Rattle.vt_spec.proofs.Common.{Mount, found_among, root_of}
use Rattle.vt_mount.proofs.AttachedLemmas.{ascending_found}
use Rattle.vt_mount.specs.MountsValue.{are_ascending}

module _ (mounts : List (Mount ℕ)) (rising : are_ascending mounts ≡ true) (stands : Mount ℕ → Bool) (number : ℕ)
    (told : Some number ≡ option_map (λ (m : Mount ℕ). m.number) (find stands mounts)) where
  found_again : find (λ (m : Mount ℕ). nat_eq number m.number) mounts ≡ find stands mounts
  found_again = by (find stands mounts) refl told
    where
      by : (found : Option (Mount ℕ)) → find stands mounts ≡ found
          → Some number ≡ option_map (λ (m : Mount ℕ). m.number) found
          → find (λ (m : Mount ℕ). nat_eq number m.number) mounts ≡ find stands mounts
      by None e same = absurd cc
      by (Some m) e same =
          let is : number ≡ m.number = cc in
          ap (λ n. find (λ (x : Mount ℕ). nat_eq n x.number) mounts) is
          ∙ ascending_found mounts rising m (found_among stands mounts m e) ∙ sym e

  pub root_again : (got : Option (Mount ℕ)) → got ≡ find (λ (m : Mount ℕ). nat_eq number m.number) mounts
      → option_map root_of got ≡ option_map root_of (find stands mounts)
  root_again got e = ap (option_map root_of) (e ∙ found_again)
