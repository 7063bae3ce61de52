-- Mounts that come after all others, one after the other.
use Rattle.std.proofs.Common.{◌≡◌, refl, sym, ap, subst, ◌∙◌, ℕ, suc, arith, ◌<◌, nat_eq, Bool, true, false, cond, ◌&&◌, List, [], ◌∷◌, ◌++◌, ◌+◌, map, length, take, drop, get_or, nat_lt, append_assoc, take-append-drop}
use Rattle.vt_spec.proofs.Common.{and_parts, list_all, list_all-append, map-append, take_more}
use Rattle.std.proofs.Math.Seq.{drop-cons}
use Rattle.vt_location.specs.declared.mounts.Mount.{Mount}
use Rattle.vt_location.specs.MountValue.{mount_of}
use Rattle.vt_location.specs.Numbers.{counted}
use Rattle.vt_mount.specs.declared.moving.NewPoint.{NewPoint}
use Rattle.vt_mount.specs.Moving.{placed_entry, with_points}
use Rattle.vt_mount.specs.MountsValue.{MountEntry, are_ascending, changed, mounts_in, unused_entry, without}
use Rattle.vt_mount.proofs.KeptLemmas.{without-last}
use Rattle.vt_spec.specs.Machine.Mounts as meant

pub mounts_entered : (old : List MountEntry) (new : List Mount)
    → mounts_in (old ++ map unused_entry new) ≡ mounts_in old ++ map mount_of new
mounts_entered [] [] = refl
mounts_entered [] (mount ∷ new) = ap (λ rest. mount_of mount ∷ rest) (mounts_entered [] new)
mounts_entered (entry ∷ old) new = ap (λ rest. entry.mount ∷ rest) (mounts_entered old new)

numbers_around : (old : List MountEntry) (before after : List Mount)
    → mounts_in (old ++ map unused_entry before) ++ map mount_of after ≡ mounts_in old ++ map mount_of (before ++ after)
numbers_around old before after = ap (λ first. first ++ map mount_of after) (mounts_entered old before)
    ∙ append_assoc (mounts_in old) (map mount_of before) (map mount_of after)
    ∙ ap (λ rest. mounts_in old ++ rest) (sym (map-append mount_of before after))

all_before : (entries : List MountEntry) (mount : meant.Mount ℕ) (after : List (meant.Mount ℕ))
    → are_ascending (mounts_in entries ++ mount ∷ after) ≡ true
    → list_all (λ entry. nat_lt entry.mount.number mount.number) entries ≡ true
all_before [] mount after is = refl
all_before (entry ∷ entries) mount after is =
    let later = λ (other : meant.Mount ℕ). nat_lt entry.mount.number other.number in
    let parts = and_parts (list_all later (mounts_in entries ++ mount ∷ after))
    (are_ascending (mounts_in entries ++ mount ∷ after)) is in
    let ends = and_parts (list_all later (mounts_in entries)) (list_all later (mount ∷ after))
    (sym (list_all-append later (mounts_in entries) (mount ∷ after)) ∙ parts.0) in
    λ i. (and_parts (later mount) (list_all later after) ends.1).0 i && all_before entries mount after parts.1 i

-- A list of mounts, at one of them

pub at_index : (new : List Mount) (i : ℕ) (d : Mount) → i < length new
    → new ≡ take i new ++ get_or new i d ∷ drop (i + 1) new
at_index new i d less =
    sym (take-append-drop (i + 1) new) ∙ ap (λ front. front ++ drop (i + 1) new) (take_more new i d less)
    ∙ append_assoc (take i new) (get_or new i d ∷ []) (drop (i + 1) new)

pub drop_more : (new : List Mount) (i : ℕ) (d : Mount) → i < length new → drop i new ≡ get_or new i d ∷ drop (i + 1) new
drop_more new i d less = drop-cons new i d less ∙ ap (λ n. get_or new i d ∷ drop n new) (next i)
  where
    next : (n : ℕ) → suc n ≡ n + 1
    next n = omega arith

-- one more has come
pub entered_at : (old entries now : List MountEntry) (new : List Mount) (i : ℕ) (d : Mount) → i < length new
    → entries ≡ old ++ map unused_entry (take i new) → now ≡ entries ++ unused_entry (get_or new i d) ∷ []
    → now ≡ old ++ map unused_entry (take (i + 1) new)
entered_at old entries now new i d less so_far one =
    one ∙ ap (λ first. first ++ unused_entry (get_or new i d) ∷ []) so_far
    ∙ append_assoc old (map unused_entry (take i new)) (unused_entry (get_or new i d) ∷ [])
    ∙ ap (λ rest. old ++ rest) (sym (map-append unused_entry (take i new) (get_or new i d ∷ [])))
    ∙ ap (λ all. old ++ map unused_entry all) (sym (take_more new i d less))

-- each may come when its turn comes
pub may_enter_at : (old entries : List MountEntry) (new : List Mount) (i : ℕ) (d : Mount) → i < length new
    → are_ascending (mounts_in old ++ map mount_of new) ≡ true → entries ≡ old ++ map unused_entry (take i new)
    → list_all (λ entry. nat_lt entry.mount.number (counted (get_or new i d).number.count)) entries ≡ true
may_enter_at old entries new i d less is so_far =
    let mount = get_or new i d in
    subst (λ all. list_all (λ entry. nat_lt entry.mount.number (counted mount.number.count)) all ≡ true) (sym so_far)
    (all_before (old ++ map unused_entry (take i new)) (mount_of mount) (map mount_of (drop (i + 1) new))
    (ap are_ascending (numbers_around old (take i new) (mount ∷ drop (i + 1) new))
    ∙ ap (λ all. are_ascending (mounts_in old ++ map mount_of all)) (sym (at_index new i d less)) ∙ is))

-- those in front ascend too
ascending-front : (front rest : List (meant.Mount ℕ)) → are_ascending (front ++ rest) ≡ true
    → are_ascending front ≡ true
ascending-front [] rest is = refl
ascending-front (mount ∷ front) rest is =
    let later = λ (other : meant.Mount ℕ). nat_lt mount.number other.number in
    let parts = and_parts (list_all later (front ++ rest)) (are_ascending (front ++ rest)) is in
    let ends = and_parts (list_all later front) (list_all later rest)
    (sym (list_all-append later front rest) ∙ parts.0) in
    λ i. ends.0 i && ascending-front front rest parts.1 i

pub ascending-taken : (old : List MountEntry) (new : List Mount) (i : ℕ)
    → are_ascending (mounts_in old ++ map mount_of new) ≡ true
    → are_ascending (mounts_in old ++ map mount_of (take i new)) ≡ true
ascending-taken old new i is = ascending-front (mounts_in old ++ map mount_of (take i new)) (map mount_of (drop i new))
    (ap are_ascending (append_assoc (mounts_in old) (map mount_of (take i new)) (map mount_of (drop i new))
    ∙ ap (λ all. mounts_in old ++ all)
    (sym (map-append mount_of (take i new) (drop i new)) ∙ ap (map mount_of) (take-append-drop i new))) ∙ is)

-- the last of those that came goes again
pub withdrawn : (old entries : List MountEntry) (rest back : List Mount) (mount : Mount)
    → are_ascending (mounts_in old ++ map mount_of (rest ++ mount ∷ back)) ≡ true
    → entries ≡ old ++ map unused_entry (rest ++ mount ∷ [])
    → without (counted mount.number.count) entries ≡ old ++ map unused_entry rest
withdrawn old entries rest back mount is so_far = ap (without (counted mount.number.count))
    (so_far ∙ ap (λ come. old ++ come) (map-append unused_entry rest (mount ∷ []))
    ∙ sym (append_assoc old (map unused_entry rest) (unused_entry mount ∷ [])))
    ∙ without-last (counted mount.number.count) (unused_entry mount) (old ++ map unused_entry rest)
    (all_before (old ++ map unused_entry rest) (mount_of mount) (map mount_of back)
    (ap are_ascending (numbers_around old rest (mount ∷ back)) ∙ is)) refl

-- Moves keep the numbers

module _ (number : ℕ) (change : MountEntry → MountEntry)
    (same : (entry : MountEntry) → (change entry).mount.number ≡ entry.mount.number) (rest : List (meant.Mount ℕ)) where
  number-changed : (entry : MountEntry) (b : Bool) → (cond b (change entry) entry).mount.number ≡ entry.mount.number
  number-changed entry true = same entry
  number-changed entry false = refl

  all-changed : (test : ℕ → Bool) (entries : List MountEntry)
      → list_all (λ mount. test mount.number) (mounts_in (changed number change entries) ++ rest)
      ≡ list_all (λ mount. test mount.number) (mounts_in entries ++ rest)
  all-changed test [] = refl
  all-changed test (entry ∷ entries) =
      λ i. test (number-changed entry (nat_eq number entry.mount.number) i) && all-changed test entries i

  ascending-changed : (entries : List MountEntry)
      → are_ascending (mounts_in (changed number change entries) ++ rest) ≡ are_ascending (mounts_in entries ++ rest)
  ascending-changed [] = refl
  ascending-changed (entry ∷ entries) = (λ i. list_all (λ (later : meant.Mount ℕ).
      nat_lt (number-changed entry (nat_eq number entry.mount.number) i) later.number)
      (mounts_in (changed number change entries) ++ rest) && ascending-changed entries i)
      ∙ ap (λ b. b && are_ascending (mounts_in entries ++ rest)) (all-changed (nat_lt entry.mount.number) entries)

pub ascending-moved : (points : List NewPoint) (entries : List MountEntry) (rest : List (meant.Mount ℕ))
    → are_ascending (mounts_in (with_points points entries) ++ rest) ≡ are_ascending (mounts_in entries ++ rest)
ascending-moved [] entries rest = refl
ascending-moved (point ∷ points) entries rest =
    ascending-changed (counted point.mount.count) (placed_entry point.place) (λ entry. refl) rest
    (with_points points entries) ∙ ascending-moved points entries rest
