-- What is under groups, once one set of them changed.
use Rattle.std.proofs.Common.{◌≡◌, Bool, true, false, cond, List, [], Option, None, option_map, refl, sym, ap, ◌∙◌, eqb-true, if◌then◌else◌, unwrap_or, ◌&&◌}
use Rattle.vt_spec.proofs.Common.{list_any, lookup}
use Rattle.vt_location.specs.declared.numbers.GroupId.{GroupId}
use Rattle.vt_group.specs.declared.set.Set.{Set}
use Rattle.vt_group.specs.declared.sets.Sets.{Sets}
use Rattle.vt_group.specs.Sets.{elements, has, kept_in, same_group}

-- groups that are the same are one
pub same_number : (a b : GroupId) → same_group a b ≡ true → b ≡ a
same_number a b same = λ i. record { count = sym (eqb-true a.count b.count same) i }

module _ {T : Type 0} (eq : T → T → Bool) (old new : Sets T) (group : GroupId) where
  -- another set under the group
  pub kept-written : (found : Option (Set T)) → ((at : GroupId) → lookup (same_group at) new.sets.entries
      ≡ cond (same_group group at) found (lookup (same_group at) old.sets.entries)) → (at : GroupId) → kept_in at new
      ≡ (if same_group group at then unwrap_or (option_map elements found) [] else kept_in at old)
  kept-written found writes at = ap (λ o. unwrap_or (option_map elements o) []) (writes at) ∙ by (same_group group at)
    where
      by : (b : Bool) → unwrap_or (option_map elements (cond b found (lookup (same_group at) old.sets.entries))) []
          ≡ (if b then unwrap_or (option_map elements found) [] else kept_in at old)
      by true = refl
      by false = refl

  -- what is kept in the set is kept
  pub has-onto : (was now : List T)
      → ((at : GroupId) → kept_in at new ≡ (if same_group group at then now else kept_in at old))
      → kept_in group old ≡ was → (other : T) → (list_any (eq other) was ≡ true → list_any (eq other) now ≡ true)
      → (at : GroupId) → has eq at other old ≡ true → has eq at other new ≡ true
  has-onto was now keeps is other stays at there = ap (list_any (eq other)) (keeps at) ∙ by (same_group group at) refl
    where
      by : (b : Bool) → same_group group at ≡ b → list_any (eq other) (if b then now else kept_in at old) ≡ true
      by true same = stays
          (ap (list_any (eq other)) (sym is ∙ ap (λ id. kept_in id old) (sym (same_number group at same))) ∙ there)
      by false apart = there

  -- and all but the one that was removed
  pub has-left : (was now : List T) (one : T)
      → ((at : GroupId) → kept_in at new ≡ (if same_group group at then now else kept_in at old))
      → kept_in group old ≡ was
      → ((other : T) → eq one other ≡ false → list_any (eq other) was ≡ true → list_any (eq other) now ≡ true)
      → (at : GroupId) (other : T) → (same_group group at && eq one other) ≡ false
      → has eq at other old ≡ true → has eq at other new ≡ true
  has-left was now one keeps is stays at other apart there =
      ap (list_any (eq other)) (keeps at) ∙ by (same_group group at) refl apart
    where
      by : (b : Bool) → same_group group at ≡ b → (b && eq one other) ≡ false
          → list_any (eq other) (if b then now else kept_in at old) ≡ true
      by true same apart = stays other apart
          (ap (list_any (eq other)) (sym is ∙ ap (λ id. kept_in id old) (sym (same_number group at same))) ∙ there)
      by false differ apart = there

-- an entry that is dropped is not found
pub dropped-empty : {A : Type 0} (b : Bool) (found rest : Option A) → cond b None (cond b found rest) ≡ cond b None rest
dropped-empty true found rest = refl
dropped-empty false found rest = refl
