-- Where a set of tasks sees the same, its namespaces have the mounts that they had.
use Rattle.std.proofs.Common.{arith, ◌≡◌, refl, sym, ap, subst, ◌∙◌, inl, inr, ℕ, nat_eq, Bool, true, false, true≢false, List, [], ◌∷◌, Option, Some, None, filter, eq-eqb, eqb-true}
use Rattle.vt_spec.proofs.Common.{Among, HasLivingGroups, Lives, Location, Mount, MountFlags, MountInvariants, Propagation, TaskName, World, among-from_filter, among_from_all, and_from, any_from_among, common_steps, false_from_ne_true, has_members, holds_of, is_own_mount, is_own_namespace, master_above, mounts_of, own_mounts, same_bool, same_flags, same_list, same_location, same_mount, same_mounts_in, same_option, same_propagation, shares_no_events, source_of}
use Rattle.vt_laws_sealed.proofs.Common.{filter_less, same_location_itself}
use Rattle.vt_laws_sealed.specs.Part.Parts.{SeesTheSame}
use Rattle.vt_laws_sealed.proofs.part.groups.ReceiversAlike.{own_member}
use Rattle.vt_laws_sealed.proofs.part.part.Observed.{own_mounts_same}
use Rattle.vt_laws_sealed.proofs.part.groups.EventsApart.{start_hears}

-- what is compared with itself is the same
pub same_bool_itself : (b : Bool) → same_bool b b ≡ true
same_bool_itself true = refl
same_bool_itself false = refl

pub same_flags_itself : (flags : MountFlags) → same_flags flags flags ≡ true
same_flags_itself flags = grind (arith, common_steps, and_from, same_bool_itself)

pub same_point_itself : (point : Option (Location ℕ)) → same_option (same_location nat_eq) point point ≡ true
same_point_itself None = refl
same_point_itself (Some location) = same_location_itself location

pub same_group_itself : (group : Option ℕ) → same_option nat_eq group group ≡ true
same_group_itself None = refl
same_group_itself (Some group) = eq-eqb group group refl

pub same_propagation_itself : (kind : Propagation ℕ) → same_propagation nat_eq kind kind ≡ true
same_propagation_itself kind = grind (arith, common_steps, eq-eqb)

same_mount_itself : (before later : World ℕ) (mount : Mount ℕ) → master_above later mount ≡ master_above before mount
    → same_mount nat_eq before later mount mount ≡ true
same_mount_itself before later mount same = grind (
  arith,
  common_steps,
  and_from,
  eq-eqb,
  same_point_itself,
  same_flags_itself,
  same_propagation_itself,
  same_group_itself,
)

same_list_itself : {A : Type 0} (same : A → A → Bool) (list : List A) → ((a : A) → Among a list → same a a ≡ true)
    → same_list same list list ≡ true
same_list_itself same [] each = refl
same_list_itself same (a ∷ list) each = and_from (same a a) (same_list same list list) (each a (inl refl))
    (same_list_itself same list (λ b m. each b (inr m)))

module _ {before later : World ℕ} {names : List TaskName} (sees : SeesTheSame before later names)
    (is : MountInvariants nat_eq before) (apart : shares_no_events nat_eq before names ≡ true) where
  -- a mount of theirs is a member of each group that one receives from, and its master is as it was
  pub source_master : (own : Mount ℕ) (source : ℕ) → Among own (own_mounts nat_eq before names)
      → source_of own.propagation ≡ Some source → later.master source ≡ before.master source
  source_master own source m e =
      let lives : Lives (has_members nat_eq before.mounts) before.master source =
      among_from_all (HasLivingGroups nat_eq before) before.mounts is.groups own
      (among-from_filter (is_own_mount nat_eq before names) before.mounts own m).0 source e in
      let member = own_member before names is apart source (own, m, start_hears before source _ e) lives in
      grind (arith, common_steps, any_from_among)

  above_same : (own : Mount ℕ) → Among own (own_mounts nat_eq before names)
      → master_above later own ≡ master_above before own
  above_same own m = grind (arith, common_steps, source_master)

  -- mounts of a namespace of theirs are among theirs
  of_own : (world : World ℕ) (namespace : ℕ) → is_own_namespace nat_eq world names namespace ≡ true
      → filter (λ (mount : Mount ℕ). holds_of (nat_eq namespace) mount.namespace) (own_mounts nat_eq world names)
      ≡ mounts_of nat_eq world namespace
  of_own world namespace own = grind (arith, common_steps, filter_less, false_from_ne_true, true≢false, eqb-true)

  -- so a namespace of theirs has the mounts that it had
  pub same_mounts : (namespace : ℕ) → is_own_namespace nat_eq before names namespace ≡ true
      → same_mounts_in nat_eq before later namespace ≡ true
  same_mounts namespace own =
      let in_later : is_own_namespace nat_eq later names namespace ≡ true =
      cc (sees.tasks, own) in
      let same : mounts_of nat_eq later namespace ≡ mounts_of nat_eq before namespace =
      sym (of_own later namespace in_later) ∙ ap (filter (λ (mount : Mount ℕ). holds_of (nat_eq namespace)
      mount.namespace)) (own_mounts_same before later names sees) ∙ of_own before _ own in
      ap (same_list (same_mount nat_eq before later) (mounts_of nat_eq before namespace)) same ∙ same_list_itself
      (same_mount nat_eq before later) (mounts_of nat_eq before namespace) (λ mount m. same_mount_itself before later
      mount (above_same mount (among-from_filter (λ (mount : Mount ℕ). holds_of (nat_eq namespace) mount.namespace)
      (own_mounts nat_eq before names) mount (subst (Among mount) (sym (of_own before _ own)) m)).0))
