-- Two mounts that get other mount points, one after the other, change places as in pivot_root(2).
use Rattle.std.proofs.Common.{◌≡◌, ℕ, Bool, true, false, cond, List, [], ◌∷◌, map, nat_eq, Option, Some, eq-eqb, eqb-true, refl, sym, ap, ◌∙◌}
use Rattle.vt_spec.proofs.Common.{Location, Mount}
use Rattle.vt_mount.specs.Moving.{pivoted_entry}
use Rattle.vt_mount.specs.MountsValue.{MountEntry, changed}

-- a mount with this mount point, or none
abbrev pub pointed : Option (Location ℕ) → MountEntry → MountEntry
pointed point entry = record entry { mount = record entry.mount { mount_point = point } }

pub eq_turned : (a b : ℕ) → nat_eq a b ≡ nat_eq b a
eq_turned a b = by (nat_eq a b) (nat_eq b a) refl refl
  where
    by : (t u : Bool) → nat_eq a b ≡ t → nat_eq b a ≡ u → t ≡ u
    by true true p q = refl
    by true false p q = sym (eq-eqb b a (sym (eqb-true a b p))) ∙ q
    by false true p q = sym p ∙ eq-eqb a b (sym (eqb-true b a q))
    by false false p q = refl

module _ (root new : Mount ℕ) (put : Location ℕ) where
  one_pivoted : (entry : MountEntry)
      → (let inner = cond (nat_eq root.number entry.mount.number) (pointed (Some put) entry) entry in
      cond (nat_eq new.number inner.mount.number) (pointed root.mount_point inner) inner)
      ≡ pivoted_entry root new put entry
  one_pivoted entry = by (nat_eq root.number entry.mount.number) (nat_eq new.number entry.mount.number) refl
      ∙ (λ i. record entry {
        mount = cond (eq_turned new.number entry.mount.number i) (record entry.mount { mount_point = root.mount_point })
            (cond (eq_turned root.number entry.mount.number i) (record entry.mount { mount_point = Some put }) entry.mount);
      })
    where
      by : (a b : Bool) → nat_eq new.number entry.mount.number ≡ b
          → cond (nat_eq new.number (cond a (pointed (Some put) entry) entry).mount.number)
          (pointed root.mount_point (cond a (pointed (Some put) entry) entry)) (cond a (pointed (Some put) entry) entry)
          ≡ record entry {
            mount = cond b (record entry.mount { mount_point = root.mount_point })
                (cond a (record entry.mount { mount_point = Some put }) entry.mount);
          }
      by true true is =
          ap (λ b. cond b (pointed root.mount_point (pointed (Some put) entry)) (pointed (Some put) entry)) is
      by true false is =
          ap (λ b. cond b (pointed root.mount_point (pointed (Some put) entry)) (pointed (Some put) entry)) is
      by false true is = ap (λ b. cond b (pointed root.mount_point entry) entry) is
      by false false is = ap (λ b. cond b (pointed root.mount_point entry) entry) is

  pub both_pivoted : (entries : List MountEntry)
      → changed new.number (pointed root.mount_point) (changed root.number (pointed (Some put)) entries)
      ≡ map (pivoted_entry root new put) entries
  both_pivoted [] = refl
  both_pivoted (entry ∷ entries) = λ i. one_pivoted entry i ∷ both_pivoted entries i
