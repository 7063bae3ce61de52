-- Mounts that get types one after another.
use Rattle.std.proofs.Common.{◌≡◌, ℕ, Bool, true, false, ◌||◌, List, [], ◌∷◌, ◌++◌, ◌+◌, ◌<◌, get_or, length, map, nat_eq, refl, ap, sym, take, ◌∙◌, if◌then◌else◌, eqb-true}
use Rattle.vt_spec.proofs.Common.{Propagation, among_from_all, folded, is_among, map-append, map_same, nat_eq-swapped, take_more}
use Rattle.vt_group.specs.Grouping.{Grouping, propagation_in}
use Rattle.vt_group.proofs.Together.{is_among-snoc}
use Rattle.vt_group.proofs.Adding.{folded_more}
use Rattle.vt_group.specs.Together.{typed}
use Rattle.vt_location.specs.Numbers.{counted}
use Rattle.vt_location.specs.declared.mounts.Mount.{Mount}
use Rattle.vt_location.specs.declared.numbers.GroupId.{GroupId}
use Rattle.vt_location.specs.declared.numbers.MountId.{MountId}
use Rattle.vt_mount.specs.MountsValue.{MountEntry, changed}
use Rattle.vt_retype.specs.Retyping.{AreTypedBut, shared_by, typed_entry, with_kind, with_type_in}

module _ (groups : Grouping) (numbers : List ℕ) (number : ℕ) where
  abbrev told : MountEntry → MountEntry
  told entry = with_kind (propagation_in groups entry.mount.number) entry

  -- one more is shared
  shared_more : (entry : MountEntry) → (if nat_eq number (shared_by groups numbers entry).mount.number
      then with_kind (propagation_in groups number) (shared_by groups numbers entry)
      else shared_by groups numbers entry) ≡ shared_by groups (numbers ++ number ∷ []) entry
  shared_more entry = by (is_among nat_eq entry.mount.number numbers) (nat_eq number entry.mount.number) refl
      ∙ sym (ap (λ b. if b then told entry else entry) (is_among-snoc entry.mount.number number numbers))
    where
      same : nat_eq number entry.mount.number ≡ true
          → propagation_in groups number ≡ propagation_in groups entry.mount.number
      same is = ap (propagation_in groups) (eqb-true number entry.mount.number is)

      by : (a b : Bool) → nat_eq number entry.mount.number ≡ b
          → (if nat_eq number (if a then told entry else entry).mount.number
          then with_kind (propagation_in groups number) (if a then told entry else entry)
          else (if a then told entry else entry))
          ≡ (if a || nat_eq entry.mount.number number then told entry else entry)
      by true true is = ap (λ b. if b then with_kind (propagation_in groups number) (told entry) else told entry) is
          ∙ ap (λ kind. with_kind kind (told entry)) (same is)
      by true false is = ap (λ b. if b then with_kind (propagation_in groups number) (told entry) else told entry) is
      by false true is = ap (λ b. if b then with_kind (propagation_in groups number) entry else entry) is
          ∙ ap (λ kind. with_kind kind entry) (same is)
          ∙ sym (ap (λ b. if b then told entry else entry) (nat_eq-swapped number entry.mount.number true is))
      by false false is = ap (λ b. if b then with_kind (propagation_in groups number) entry else entry) is
          ∙ sym (ap (λ b. if b then told entry else entry) (nat_eq-swapped number entry.mount.number false is))

  pub changed-shared : (entries : List MountEntry)
      → changed number (with_kind (propagation_in groups number)) (map (shared_by groups numbers) entries)
      ≡ map (shared_by groups (numbers ++ number ∷ [])) entries
  changed-shared [] = refl
  changed-shared (entry ∷ entries) = λ i. shared_more entry i ∷ changed-shared entries i

module _ (groups : Grouping) (old now new : List MountEntry) (named : List (MountId × GroupId)) (i : ℕ)
    (default : MountId × GroupId) (less : i < length named) (kind : Propagation ℕ)
    (told : kind ≡ propagation_in groups (counted (get_or named i default).0.count)) where
  pub shared_next : new ≡ changed (counted (get_or named i default).0.count) (with_kind kind) now
      → now ≡ map (shared_by groups (map (λ pair. counted pair.0.count) (take i named))) old
      → new ≡ map (shared_by groups (map (λ pair. counted pair.0.count) (take (i + 1) named))) old
  shared_next next sofar = next
      ∙ (λ j. changed (counted (get_or named i default).0.count) (with_kind (told j)) (sofar j))
      ∙ changed-shared groups (map (λ pair. counted pair.0.count) (take i named))
      (counted (get_or named i default).0.count) old ∙ ap (λ numbers. map (shared_by groups numbers) old)
      (sym (map-append (λ (pair : MountId × GroupId). counted pair.0.count) (take i named)
      (get_or named i default ∷ [])) ∙ ap (map (λ pair. counted pair.0.count)) (sym (take_more named i default less)))

-- one more has the type that it is given
pub typed_next : (old now new : List MountEntry) (types : List Mount) (i : ℕ) (default : Mount) → i < length types
    → new ≡ with_type_in now (typed (get_or types i default)) → now ≡ folded with_type_in old (map typed (take i types))
    → new ≡ folded with_type_in old (map typed (take (i + 1) types))
typed_next old now new types i default less next sofar =
    next ∙ ap (λ mounts. with_type_in mounts (typed (get_or types i default))) sofar
    ∙ sym (folded_more with_type_in old typed types i default less)

pub none_shared : (groups : Grouping) (entries : List MountEntry) → entries ≡ map (shared_by groups []) entries
none_shared groups [] = refl
none_shared groups (entry ∷ entries) = ap (λ rest. entry ∷ rest) (none_shared groups entries)

-- where each mount has the type that the groups tell, it has it
pub typed_already : (groups : Grouping) (entries : List MountEntry) → AreTypedBut groups [] entries
    → entries ≡ map (typed_entry groups) entries
typed_already groups entries typed = sym (map_same (typed_entry groups) entries (λ entry m.
    among_from_all (λ (one : MountEntry). is_among nat_eq one.mount.number [] ≡ false
    → typed_entry groups one ≡ one) entries typed entry m refl))
