-- What births tell.
use Rattle.std.proofs.Common.{◌≡◌, refl, sym, ap, ◌∙◌, true≢false, ℕ, Bool, true, false, Option, Some, None, is_some}
use Rattle.std.specs.Option.{option_map_or}
use Rattle.std.specs.Prelude.{unwrap_or}
use Rattle.vt_spec.proofs.Common.{Lower, Real, Upper, none_is_some, same_Some, then_some}
use Rattle.vt_spec.specs.Lists.{when}
use Rattle.vt_laws_upper_layers.specs.Births.{BirthsGoWithInodes, InodesFindTheirObjects, InodesHaveOneCopy, InodesHaveOwnObjects, births_left, number_by}
use Rattle.vt_laws_upper_layers.proofs.births.Copying.{same_upper}

pub inodes_have_own_objects : InodesHaveOwnObjects
inodes_have_own_objects born births real a b object are first second =
    are.numbered a object first ∙ sym (are.numbered b object second)

pub inodes_have_one_copy : InodesHaveOneCopy
inodes_have_one_copy born births real a b number are first second =
    same_upper a b (real number) (are.copies a number first) (are.copies b number second)

pub inodes_find_their_objects : InodesFindTheirObjects
inodes_find_their_objects origin born births copies real number object are turned origins there =
    by (copies number) refl
  where
    old : (r : Real ℕ) → object ≡ r → copies number ≡ None → origin number ≡ object
    old (Lower layer path) e none =
        ap origin (are.numbered number object there ∙ ap (number_by born births) e ∙ ap born (sym e))
        ∙ origins number object there
    old (Upper u) e none = at (births u) refl
      where
        is : number ≡ unwrap_or (births u) (born (Upper u))
        is = are.numbered number object there ∙ ap (number_by born births) e

        at : (o : Option ℕ) → births u ≡ o → origin number ≡ object
        at None f = ap origin (is ∙ ap (λ x. unwrap_or x (born (Upper u))) f ∙ ap born (sym e))
            ∙ origins number object there
        at (Some other) f =
            let same : number ≡ other = is ∙ ap (λ x. unwrap_or x (born (Upper u))) f in
            none_is_some u (sym none ∙ turned.there u number (f ∙ ap (λ n. Some n) (sym same)))

    by : (o : Option ℕ) → copies number ≡ o → option_map_or (λ copy. Upper copy) (copies number) (origin number) ≡ object
    by None e = ap (λ o. option_map_or (λ copy. Upper copy) o (origin number)) e ∙ old object refl e
    by (Some copy) e = ap (λ o. option_map_or (λ copy. Upper copy) o (origin number)) e
        ∙ same_Some (Upper copy) object (sym (are.copies copy number (turned.back copy number e)) ∙ there)

pub births_go_with_inodes : BirthsGoWithInodes
births_go_with_inodes born births real later same are = record { numbered = numbered; copies = copies }
  where
    numbered : (number : ℕ) (object : Real ℕ) → later number ≡ Some object
        → number ≡ number_by born (births_left later births) object
    numbered number (Lower layer path) e = are.numbered number (Lower layer path) (same number (Lower layer path) e)
    numbered number (Upper u) e = by (births u) refl
      where
        is : number ≡ unwrap_or (births u) (born (Upper u))
        is = are.numbered number (Upper u) (same number (Upper u) e)

        by : (o : Option ℕ) → births u ≡ o
            → number ≡ unwrap_or (then_some (births u) (λ n. when (is_some (later n)) n)) (born (Upper u))
        by None f = is ∙ ap (λ o. unwrap_or o (born (Upper u))) f
            ∙ sym (ap (λ o. unwrap_or (then_some o (λ n. when (is_some (later n)) n)) (born (Upper u))) f)
        by (Some other) f =
            let equal : number ≡ other = is ∙ ap (λ o. unwrap_or o (born (Upper u))) f in
            let left : is_some (later other) ≡ true = ap (λ n. is_some (later n)) (sym equal) ∙ ap is_some e in
            equal ∙ sym (ap (λ o. unwrap_or (then_some o (λ n. when (is_some (later n)) n)) (born (Upper u))) f
            ∙ ap (λ b. unwrap_or (when b other) (born (Upper u))) left)

    copies : (copy number : ℕ) → births_left later births copy ≡ Some number → later number ≡ Some (Upper copy)
    copies copy number e = by (births copy) refl
      where
        at : (other : ℕ) → births copy ≡ Some other → (b : Bool) → is_some (later other) ≡ b
            → when b other ≡ Some number → later number ≡ Some (Upper copy)
        at other f false t g = none_is_some number g
        at other f true t g =
            let equal : other ≡ number = same_Some other number g in
            there (later number) refl (ap (λ n. is_some (later n)) (sym equal) ∙ t)
            (are.copies copy number (f ∙ ap (λ n. Some n) equal))
          where
            there : (o : Option (Real ℕ)) → later number ≡ o → is_some (later number) ≡ true
                → real number ≡ Some (Upper copy) → later number ≡ Some (Upper copy)
            there None f some is = absurd (true≢false (sym some ∙ ap is_some f))
            there (Some object) f some is = f ∙ sym (same number object f) ∙ is

        by : (o : Option ℕ) → births copy ≡ o → later number ≡ Some (Upper copy)
        by None f = none_is_some number
            (sym (ap (λ o. then_some o (λ n. when (is_some (later n)) n)) f) ∙ e)
        by (Some other) f = at other f (is_some (later other)) refl
            (sym (ap (λ o. then_some o (λ n. when (is_some (later n)) n)) f) ∙ e)
