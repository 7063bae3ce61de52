-- A regrouped world has the types and masters of its groups.
use Rattle.std.proofs.Common.{◌≡◌, refl, sym, subst, ◌∙◌, true, false, Bool, None, Option, Some, map, ℕ, nat_eq, if◌then◌else◌}
use Rattle.vt_spec.proofs.Common.{Among, Mount, Private, Propagation, Shared, Slave, Unbindable, World, among-map, among_from_all, heir, inherited, inheriting, is_unbindable, list_any, lost_a_group, map_alike, regrouped, regrouped_by, slave_of_heir, without_dead_groups}
use Rattle.vt_group.specs.Grouping.{Grouping, Has, master_in, propagation_in}
use Rattle.vt_group.specs.Laws.{RegroupedIsTyped, shown, typed_by}
use Rattle.vt_group.proofs.Showing.{shows_types}
use Rattle.vt_laws_mounts.proofs.Groups.{mounts-regrouped}

module _ (world : World ℕ) (groups : Grouping) (has : Has (regrouped nat_eq world) groups) where
  typed : (mount : Mount ℕ) → Among mount world.mounts → inheriting nat_eq world mount ≡ typed_by groups mount
  typed mount m = λ i. record mount { propagation = by mount.propagation told i }
    where
      told : propagation_in groups mount.number ≡ shown (inherited nat_eq world mount.propagation)
      told = among_from_all (λ x. propagation_in groups x.number ≡ shown x.propagation) (regrouped nat_eq world).mounts
          (shows_types (regrouped nat_eq world) groups has) (inheriting nat_eq world mount)
          (subst (Among (inheriting nat_eq world mount)) (sym (mounts-regrouped world)) (among-map
          (inheriting nat_eq world) world.mounts mount m))

      slave : (o : Option ℕ) → shown (slave_of_heir o) ≡ slave_of_heir o
      slave None = refl
      slave (Some master) = refl

      by : (kind : Propagation ℕ) → propagation_in groups mount.number ≡ shown (inherited nat_eq world kind)
          → inherited nat_eq world kind ≡
          (if is_unbindable kind then Unbindable else propagation_in groups mount.number)
      by (Shared group) e = sym e
      by (Slave master) e = sym (e ∙ slave (heir nat_eq world (Some master)))
      by Private e = sym e
      by Unbindable e = refl

  all_else : (b : Bool) → regrouped_by nat_eq b world
      ≡ record world { mounts = (regrouped_by nat_eq b world).mounts; master = (regrouped_by nat_eq b world).master }
  all_else true = refl
  all_else false = refl

  -- a regrouped world has the types and masters of its groups
  pub is_typed : without_dead_groups nat_eq (regrouped nat_eq world)
      ≡ record world { mounts = map (typed_by groups) world.mounts; master = master_in groups }
  is_typed = (λ i. record (all_else (list_any (lost_a_group nat_eq world) world.mounts) i) {
    master = λ group. sym (has.masters group) i;
  }) ∙ (λ i. record world {
    mounts = (mounts-regrouped world ∙ map_alike (inheriting nat_eq world) (typed_by groups) world.mounts typed) i;
    master = master_in groups;
  })

-- so has each regrouped world
pub regrouped_is_typed : RegroupedIsTyped
regrouped_is_typed = is_typed
