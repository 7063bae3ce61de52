-- What the answers of several functions share.
use Rattle.std.proofs.Common.{◌≡◌, ℕ, Bool, false, suc, refl, sym, ap, ◌∙◌, map, nat_eq, Option, None, Some, option_map, List, [], ◌∷◌, ◌++◌, ◌||◌, true≢false, ne_eqb, Err, Ok, OnOk, Result, is_err, unwrap_or, nat_cmp}
use Rattle.vt_spec.proofs.Common.{Private, chain, chain_goes_on, eqb-false, group_of, holds_of, is_among, list_any, lookup, values_of}
use Rattle.std.specs.BTreeMap.{is_at}
use Rattle.vt_location.specs.declared.mounts.Propagation.{Propagation}
use Rattle.vt_group.specs.Grouping.{Grouping, propagation_in}
use Rattle.vt_location.specs.Numbers.{counted}
use Rattle.vt_location.specs.MountValue.{propagation_of}
use Rattle.vt_group.specs.Steps.{is_member, numbered_peer, type_or_private}
use Rattle.vt_group.proofs.CountLemmas.{lookup-numbered}

-- members among the types of mounts

-- some type of a list is that of a member of the group
abbrev pub any_in : ℕ → List Propagation → Bool
any_in group [] = false
any_in group (kind ∷ rest) = holds_of (nat_eq group) (group_of (propagation_of kind)) || any_in group rest

-- the types of a map hold a member just where its entries do
pub members-valued : (group : ℕ) (es : List (ℕ × Propagation))
    → any_in group (values_of es) ≡ list_any (is_member group) (map numbered_peer es)
members-valued group [] = refl
members-valued group (e ∷ es) = ap (λ b. holds_of (nat_eq group) (group_of (propagation_of e.1)) || b)
    (members-valued group es)

-- one step up the masters

-- a group that is not the one looked for is above a group just where it is above its master
pub one_up : (next : ℕ → Option ℕ) (group here above n k : ℕ) → n ≡ suc k → nat_eq here group ≡ false
    → next here ≡ Some above → is_among nat_eq group (chain k next above) ≡ is_among nat_eq group (chain n next here)
one_up next group here above n k e apart is = sym (ap (λ m. is_among nat_eq group (chain m next here)) e
    ∙ ap (is_among nat_eq group) (chain_goes_on next k here above is)
    ∙ ap (λ b. b || is_among nat_eq group (chain k next above))
    (ne_eqb group here (λ same. eqb-false here group apart (sym same))))

-- what is found by a count

found-type : (o : Option Propagation) → type_or_private o ≡ unwrap_or (option_map propagation_of o) Private
found-type None = refl
found-type (Some kind) = refl

module _ (count : ℕ) (es : List (ℕ × Propagation)) (masters : List (ℕ × ℕ)) (groups : Grouping)
    (view : record { peers = map numbered_peer es; masters = masters } ≡ groups) where
  -- the type that a map has for a mount is the one that the groups have
  pub shown-type : (old : Option Propagation) → old ≡ lookup (is_at (nat_cmp count)) es
      → type_or_private old ≡ propagation_in groups (counted count)
  shown-type old e = ap type_or_private e ∙ found-type _
      ∙ ap (λ o. unwrap_or o Private) (sym (lookup-numbered propagation_of count es))
      ∙ (λ i. propagation_in (view i) (counted count))

-- nothing put behind a list leaves it
pub nothing-behind : (numbers : List ℕ) → numbers ++ [] ≡ numbers
nothing-behind [] = refl
nothing-behind (number ∷ rest) = ap (λ l. number ∷ l) (nothing-behind rest)

-- what holds of a success holds where the result is none
pub listed_ok : {T E P : Type 0} (r : Result T E) → OnOk r P → is_err r ≡ false → P
listed_ok (Ok t) p err = p
listed_ok (Err e) p err = absurd (true≢false err)
