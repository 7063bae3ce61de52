-- What a group that has ended leaves under its names becomes its heir's.
use Rattle.std.proofs.Common.{◌≡◌, Bool, true, false, List, [], ◌∷◌, Option, None, Some, is_some, option_map, refl, sym, ap, ◌∙◌, true≢false, if◌then◌else◌, unwrap_or}
use Rattle.vt_spec.proofs.Common.{list_any, lookup, nat_eq-swapped, same_Some}
use Rattle.vt_location.specs.declared.mounts.Propagation.{Propagation}
use Rattle.vt_location.specs.declared.mounts.Propagation.TheVariants.{Private, Shared, Slave, Unbindable}
use Rattle.vt_location.specs.declared.numbers.GroupId.{GroupId}
use Rattle.vt_location.specs.declared.numbers.MountId.{MountId}
use Rattle.vt_group.specs.declared.index.Index.{Index}
use Rattle.vt_group.specs.Handing.{group_handed, kind_handed}
use Rattle.vt_group.specs.Indexed.{is_listed, is_lower, is_relative}
use Rattle.vt_group.specs.Names.{Named, names_of}
use Rattle.vt_group.specs.Sets.{same_group}
use Rattle.vt_group.proofs.IndexLemmas.{}
use Rattle.vt_group.proofs.SetsLemmas.{same_number}

-- a group that has a name is named
pub named_by : (names : Named) (group : GroupId) (test : GroupId → Bool) → list_any test (names_of names group) ≡ true
    → is_some (lookup (same_group group) names) ≡ true
named_by names group test any = by (lookup (same_group group) names) any
  where
    by : (found : Option (List GroupId)) → list_any test (unwrap_or found []) ≡ true → is_some found ≡ true
    by None any = absurd (true≢false (sym any))
    by (Some list) any = refl

apart_from : (lost group : GroupId) → (Shared group ≡ Shared lost → ⊥) → same_group lost group ≡ false
apart_from lost group apart = by (same_group lost group) refl
  where
    by : (b : Bool) → same_group lost group ≡ b → same_group lost group ≡ false
    by true same = absurd (apart (ap Shared (same_number lost group same)))
    by false differ = differ

module _ (lost heir : GroupId) where
  -- the master of one is the heir, or was another than the group
  by_handed : (P : GroupId → Type 0) (Q : GroupId → Type 0) (was upper : GroupId)
      → (Q lost → P heir) → ((group : GroupId) → same_group lost group ≡ false → Q group → P group)
      → group_handed lost (Some heir) was ≡ Some upper → Q was → P upper
  by_handed P Q was upper own kept handed holds = by (same_group was lost) refl handed
    where
      by : (b : Bool) → same_group was lost ≡ b → (if b then Some heir else Some was) ≡ Some upper → P upper
      by true same is = Rattle.std.proofs.Common.subst P (same_Some heir upper is)
          (own (Rattle.std.proofs.Common.subst Q (sym (same_number was lost same)) holds))
      by false differ is = Rattle.std.proofs.Common.subst P (same_Some was upper is)
          (kept was (nat_eq-swapped was.count lost.count false differ) holds)

  -- a mount stays listed where its type is handed on
  pub handed_kind : (old new : Index) (mount : MountId)
      → ((group : GroupId) → same_group lost group ≡ false → is_relative old mount group ≡ true
      → is_relative new mount group ≡ true) → (is_relative old mount lost ≡ true → is_relative new mount heir ≡ true)
      → (was kind : Propagation) → (was ≡ Shared lost → ⊥) → kind_handed lost (Some heir) was ≡ Some kind
      → is_listed old mount was ≡ true → is_listed new mount kind ≡ true
  handed_kind old new mount kept own (Shared group) kind apart handed listed =
      ap (is_listed new mount) (sym (same_Some (Shared group) kind handed))
      ∙ kept group (apart_from lost group apart) listed
  handed_kind old new mount kept own (Slave master) kind apart handed listed =
      slave (group_handed lost (Some heir) master) refl handed
    where
      slave : (found : Option GroupId) → group_handed lost (Some heir) master ≡ found
          → option_map Slave found ≡ Some kind → is_listed new mount kind ≡ true
      slave None at is = absurd (true≢false (sym (ap is_some is)))
      slave (Some upper) at is = ap (is_listed new mount) (sym (same_Some (Slave upper) kind is))
          ∙ by_handed (λ group. is_relative new mount group ≡ true) (λ group. is_relative old mount group ≡ true)
          master upper own kept at listed
  handed_kind old new mount kept own Private kind apart handed listed =
      ap (is_listed new mount) (sym (same_Some Private kind handed))
  handed_kind old new mount kept own Unbindable kind apart handed listed =
      ap (is_listed new mount) (sym (same_Some Unbindable kind handed))

  -- and a group where its master is
  pub handed_group : (old new : Index) (lower : GroupId)
      → ((group : GroupId) → same_group lost group ≡ false → is_lower old lower group ≡ true
      → is_lower new lower group ≡ true) → (is_lower old lower lost ≡ true → is_lower new lower heir ≡ true)
      → (was upper : GroupId) → group_handed lost (Some heir) was ≡ Some upper
      → is_lower old lower was ≡ true → is_lower new lower upper ≡ true
  handed_group old new lower kept own was upper handed under =
      by_handed (λ group. is_lower new lower group ≡ true) (λ group. is_lower old lower group ≡ true)
      was upper own kept handed under
