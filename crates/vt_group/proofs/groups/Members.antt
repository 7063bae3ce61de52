-- Whether a group has members, told by the types that are kept.
use Rattle.std.proofs.Common.{◌≡◌, ℕ, Bool, true, false, cond, ◌||◌, List, [], ◌∷◌, map, nat_eq, Option, None, Some, is_some, refl, sym, ap, ◌∙◌, true≢false, eqb-true, if◌then◌else◌, unwrap_or}
use Rattle.vt_spec.proofs.Common.{Private as MeansPrivate, Propagation as Type_of_mount, group_of, holds_of, list_any, lookup, remove_entry, same_Some}
use Rattle.vt_location.specs.declared.mounts.Propagation.{Propagation}
use Rattle.vt_location.specs.declared.mounts.Propagation.TheVariants.{Private, Shared, Slave, Unbindable}
use Rattle.vt_location.specs.declared.numbers.GroupId.{GroupId}
use Rattle.vt_location.specs.MountValue.{propagation_of}
use Rattle.vt_location.specs.Numbers.{group_number}
use Rattle.vt_location.proofs.NumberLemmas.{counted_test}
use Rattle.vt_group.specs.Grouping.{Grouping, propagation_in}
use Rattle.vt_group.specs.Indexed.{group_of_kind}
use Rattle.vt_group.specs.Leaving.{if_lone, lone_group}
use Rattle.vt_group.specs.Sets.{same_group}
use Rattle.vt_group.specs.Steps.{is_member, numbered_peer}
use Rattle.vt_group.specs.Types.{is_in_group}

found_any : (test : ℕ × Type_of_mount ℕ → Bool) (key : ℕ) (kind : Type_of_mount ℕ) (es : List (ℕ × Type_of_mount ℕ))
    → lookup (nat_eq key) es ≡ Some kind → test (key, kind) ≡ true → list_any test es ≡ true
found_any test key kind [] found passes = absurd (true≢false (sym (ap is_some found)))
found_any test key kind (e ∷ es) found passes = by (nat_eq key e.0) refl found (found_any test key kind es)
  where
    or_true : (b : Bool) → (b || true) ≡ true
    or_true true = refl
    or_true false = refl

    by : (b : Bool) → nat_eq key e.0 ≡ b → cond b (Some e.1) (lookup (nat_eq key) es) ≡ Some kind
        → (lookup (nat_eq key) es ≡ Some kind → test (key, kind) ≡ true → list_any test es ≡ true)
        → list_any test (e ∷ es) ≡ true
    by true same found later = ap (λ b. b || list_any test es)
        ((λ i. test (sym (eqb-true key e.0 same) i, same_Some e.1 kind found i)) ∙ passes)
    by false apart found later = ap (λ b. test e || b) (later found passes) ∙ or_true (test e)

-- members among some entries
abbrev member_in : ℕ → List (ℕ × Type_of_mount ℕ) → ℕ → Bool
member_in group es mount = holds_of (nat_eq group) (group_of (unwrap_or (lookup (nat_eq mount) es) MeansPrivate))

-- a group with a member among the entries has one
pub member_found : (group mount : ℕ) (es : List (ℕ × Type_of_mount ℕ)) → member_in group es mount ≡ true
    → list_any (is_member group) es ≡ true
member_found group mount es is = by (lookup (nat_eq mount) es) refl is
  where
    by : (found : Option (Type_of_mount ℕ)) → lookup (nat_eq mount) es ≡ found
        → holds_of (nat_eq group) (group_of (unwrap_or found MeansPrivate)) ≡ true → list_any (is_member group) es ≡ true
    by None at is = absurd (true≢false (sym is))
    by (Some kind) at is = found_any (is_member group) mount kind es at is

-- a type that is kept is that of a member where it means one
same_group_kept : (group : GroupId) (kind : Propagation)
    → holds_of (same_group group) (group_of_kind kind) ≡ holds_of (nat_eq (group_number group)) (group_of (propagation_of kind))
same_group_kept group (Shared own) = sym (counted_test group.count own.count)
same_group_kept group (Slave master) = refl
same_group_kept group Private = refl
same_group_kept group Unbindable = refl

-- so the types that are kept tell the members
pub any_numbered : (group : GroupId) (es : List (ℕ × Propagation))
    → list_any (is_in_group group) es ≡ list_any (is_member (group_number group)) (map numbered_peer es)
any_numbered group [] = refl
any_numbered group (e ∷ es) = λ i. same_group_kept group e.1 i || any_numbered group es i

-- a mount whose group has no other member is alone in it
pub lone_told : (groups : Grouping) (mount group : ℕ) → group_of (propagation_in groups mount) ≡ Some group → (told : Bool)
    → told ≡ list_any (is_member group) (remove_entry (nat_eq mount) groups.peers)
    → (if told then None else Some group) ≡ lone_group groups mount
lone_told groups mount group own told is =
    ap (λ b. if b then None else Some group) is ∙ ap (if_lone groups mount) (sym own)
