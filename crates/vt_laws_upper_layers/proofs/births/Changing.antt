-- Births follow changes.
use Rattle.std.proofs.Common.{◌≡◌, ◌≢◌, refl, sym, ap, subst, ◌∙◌, true≢false, arith, ℕ, ◌+◌, ◌*◌, nat_eq, eqb-true, Bool, true, false, List, [], ◌∷◌, Option, Some, None, is_some}
use Rattle.std.specs.Prelude.{unwrap_or}
use Rattle.vt_spec.proofs.Common.{AddName, Change, CopyUp, Fresh, Make, Merge, Move, Node, Real, Remove, SetAttr, SetBytes, SetMark, Stack, Upper, copied_each, copied_up, copy_of, evens, is_in_upper, line_to, merge_changed, odds, same_Some, with_real}
use Rattle.vt_laws_trees.specs.Overlays.WhatIsShown.{IsWhole}
use Rattle.vt_laws_trees.specs.Overlays.WholeChanges.{IsAskedWell}
use Rattle.vt_laws_worlds.specs.Merging.UpperChanges.{AreNew}
use Rattle.vt_laws_upper_layers.specs.Births.{AreBirths, Births, BirthsFollowChanges, BirthsFollowCopies, IsBornAbove, births_after, births_up, number_by}
use Rattle.vt_laws_upper_layers.proofs.births.Copying.{IsUnused, kept_each, real_by, up_copied}

-- what is not there has no real object after copies
absent_one : (merge : Merge ℕ) (object copy number : ℕ) (o : Option (Node ℕ)) (b : Bool)
    → merge.files.tree.node object ≡ o → merge.files.tree.node number ≡ None → merge.real number ≡ None
    → (copy_of nat_eq merge object copy o b).real number ≡ None
absent_one merge object copy number None b is gone none = none
absent_one merge object copy number (Some node) true is gone none = none
absent_one merge object copy number (Some node) false is gone none = by (nat_eq number object) refl
  where
    by : (t : Bool) → nat_eq number object ≡ t → with_real nat_eq merge.real object (Upper copy) number ≡ None
    by true t = absurd (true≢false (ap is_some
        (sym is ∙ ap merge.files.tree.node (sym (eqb-true number object t)) ∙ gone)))
    by false t = real_by merge.real object copy number false t ∙ none

pub files_of_one : (merge : Merge ℕ) (object copy : ℕ) (o : Option (Node ℕ)) (b : Bool)
    → (copy_of nat_eq merge object copy o b).files ≡ merge.files
files_of_one merge object copy None b = refl
files_of_one merge object copy (Some node) true = refl
files_of_one merge object copy (Some node) false = refl

absent_each : (fresh : Fresh ℕ) (number : ℕ) (list : List ℕ) (k : ℕ) (merge : Merge ℕ)
    → merge.files.tree.node number ≡ None → merge.real number ≡ None
    → (copied_each nat_eq fresh k merge list).real number ≡ None
absent_each fresh number [] k merge gone none = none
absent_each fresh number (object ∷ rest) k merge gone none =
    let o = merge.files.tree.node object in
    let b = is_in_upper merge object in
    absent_each fresh number rest (k + 1) (copy_of nat_eq merge object (fresh k) o b)
    (ap (λ files. files.tree.node number) (files_of_one merge object (fresh k) o b) ∙ gone)
    (absent_one merge object (fresh k) number o b refl gone none)

module _ (born : Real ℕ → ℕ) (fresh : Fresh ℕ) (distinct : (j k : ℕ) → fresh j ≡ fresh k → j ≡ k)
    (merge : Merge ℕ) (births : Births) (spare : (k : ℕ) → IsUnused merge.real (fresh k))
    (are : AreBirths born births merge.real) where
  even_distinct : (j k : ℕ) → evens fresh j ≡ evens fresh k → j ≡ k
  even_distinct j k e = let same = distinct (2 * j) (2 * k) e in omega (arith, same)

  odd_distinct : (j k : ℕ) → odds fresh j ≡ odds fresh k → j ≡ k
  odd_distinct j k e = let same = distinct (2 * j + 1) (2 * k + 1) e in omega (arith, same)

  apart : (k j : ℕ) → odds fresh k ≢ evens fresh j
  apart k j e = let same = distinct (2 * k + 1) (2 * j) e in omega (arith, same)

  by_evens : (object : ℕ) → AreBirths born (births_up (evens fresh) merge births object)
      (copied_up nat_eq (evens fresh) merge object).real
  by_evens object =
      up_copied born (evens fresh) even_distinct merge births object (λ k number. spare (2 * k) number) are

  odds_spare : (object k : ℕ) → IsUnused (copied_up nat_eq (evens fresh) merge object).real (odds fresh k)
  odds_spare object k = kept_each (evens fresh) (odds fresh k) (apart k) (line_to nat_eq merge.files object) 0 merge
      (spare (2 * k + 1))

  -- what is made
  module _ (directory number : ℕ) (is : number ≡ born (Upper (odds fresh 0)))
      (gone : merge.files.tree.node number ≡ None) (none : merge.real number ≡ None) where
    abbrev copied : ℕ → Option (Real ℕ)
    copied = (copied_up nat_eq (evens fresh) merge directory).real

    abbrev all : Births
    all = births_up (evens fresh) merge births directory

    abbrev made_real : ℕ → Option (Real ℕ)
    made_real = with_real nat_eq copied number (Upper (odds fresh 0))

    still_none : copied number ≡ None
    still_none = absent_each (evens fresh) number (line_to nat_eq merge.files directory) 0 merge gone none

    not_born : (o : Option ℕ) → all (odds fresh 0) ≡ o → number ≡ unwrap_or o (born (Upper (odds fresh 0)))
    not_born None e = is
    not_born (Some other) e =
        absurd (odds_spare directory 0 other ((by_evens directory).copies (odds fresh 0) other e))

    made : AreBirths born all made_real
    made = record { numbered = numbered; copies = copies }
      where
        numbered : (n : ℕ) (r : Real ℕ) → made_real n ≡ Some r → n ≡ number_by born all r
        numbered n r e = by (nat_eq n number) refl
          where
            by : (b : Bool) → nat_eq n number ≡ b → n ≡ number_by born all r
            by true t = subst (λ x. n ≡ number_by born all x)
                (same_Some (Upper (odds fresh 0)) r (sym (real_by copied number (odds fresh 0) n true t) ∙ e))
                (eqb-true n number t ∙ not_born (all (odds fresh 0)) refl)
            by false t = (by_evens directory).numbered n r (sym (real_by copied number (odds fresh 0) n false t) ∙ e)

        copies : (upper n : ℕ) → all upper ≡ Some n → made_real n ≡ Some (Upper upper)
        copies upper n e = by (nat_eq n number) refl
          where
            there : copied n ≡ Some (Upper upper)
            there = (by_evens directory).copies upper n e

            by : (b : Bool) → nat_eq n number ≡ b → made_real n ≡ Some (Upper upper)
            by true t = absurd (cc (there, still_none, ap copied (eqb-true n number t)))
            by false t = real_by copied number (odds fresh 0) n false t ∙ there

  changed : (stack : Stack ℕ) → IsWhole stack merge → (change : Change ℕ) → IsAskedWell stack merge change
      → IsBornAbove born fresh change
      → AreBirths born (births_after fresh merge births change) (merge_changed nat_eq fresh stack merge change).real
  changed stack whole (Make directory name number node) asked is = made directory number is asked.0.number_is_new
      (whole.shown.real_there number asked.0.number_is_new)
  changed stack whole (AddName directory name object) asked is =
      up_copied born (odds fresh) odd_distinct (copied_up nat_eq (evens fresh) merge object)
      (births_up (evens fresh) merge births object) directory (λ k. odds_spare object k) (by_evens object)
  changed stack whole (Remove directory name object) asked is = by_evens directory
  changed stack whole (Move from old to new object) asked is =
      up_copied born (evens (odds fresh))
      (λ j k e. let same = odd_distinct (2 * j) (2 * k) e in omega (arith, same))
      (copied_up nat_eq (evens fresh) merge object) (births_up (evens fresh) merge births object) to
      (λ k. odds_spare object (2 * k)) (by_evens object)
  changed stack whole (SetBytes file bytes) asked is = up_copied born fresh distinct merge births file spare are
  changed stack whole (SetAttr object attr) asked is = up_copied born fresh distinct merge births object spare are
  changed stack whole (SetMark directory opaque) asked is = absurd asked
  changed stack whole (CopyUp object) asked is = up_copied born fresh distinct merge births object spare are

-- new numbers are no upper objects
are_unused : (fresh : Fresh ℕ) (stack : Stack ℕ) (merge : Merge ℕ) → IsWhole stack merge → AreNew fresh merge.upper
    → (k : ℕ) → IsUnused merge.real (fresh k)
are_unused fresh stack merge whole new k number e =
    true≢false (sym (whole.shown.upper_there number (fresh k) e) ∙ ap is_some (new.unused k))

pub births_follow_copies : BirthsFollowCopies
births_follow_copies fresh stack merge whole new born births object are =
    up_copied born fresh new.distinct merge births object (are_unused fresh stack merge whole new) are

pub births_follow_changes : BirthsFollowChanges
births_follow_changes fresh stack merge whole new born births change asked is are =
    changed born fresh new.distinct merge births (are_unused fresh stack merge whole new) are stack whole change asked is
