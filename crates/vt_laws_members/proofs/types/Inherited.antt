-- Groups whose members have changed: what mounts and groups inherit, and what the sweep leaves of them.
use Rattle.std.proofs.Common.{arith, ◌≡◌, refl, ap, ◌∙◌, ℕ, nat_eq, Bool, true, false, cond, Option, None, map}
use Rattle.vt_spec.proofs.Common.{Mount, Propagation, World, any_among, common_steps, find-chain_start, has_members, heir, inherited, inheriting, list_any, lost_a_group, map_twice, none_among, not-false, or_parts, regrouped, regrouped_by, settled}
use Rattle.vt_laws_members.proofs.Common.{AllInUse, member_group, members-inherited, mounts-regrouped, source_from_group, types_keep_all, with_changed}

-- a group that has a member inherits its master, also where nothing is lost
pub master-inherited : (t : World ℕ) (group : ℕ) → has_members nat_eq t.mounts group ≡ true
    → (regrouped nat_eq t).master group ≡ heir nat_eq t (t.master group)
master-inherited t group h =
    grind (
      arith,
      common_steps,
      any_among,
      or_parts,
      none_among,
      source_from_group,
      member_group,
      find-chain_start,
      not-false,
    )

module _ (w : World ℕ) (kind : Mount ℕ → Propagation ℕ) (masters : ℕ → Option ℕ) where
  -- the world with other types and masters, before groups inherit
  abbrev pub between : World ℕ
  between = with_changed w (λ m. record m { propagation = kind m }) masters

  abbrev pub kind_left : Mount ℕ → Propagation ℕ
  kind_left m = inherited nat_eq between (kind m)

  abbrev after : Mount ℕ → Mount ℕ
  after m = record m { propagation = kind_left m }

  -- the masters of the groups that have members
  abbrev pub master_left : ℕ → Option ℕ
  master_left group =
      cond (has_members nat_eq (map after w.mounts) group) ((regrouped nat_eq between).master group) None

  regrouped_keeps : (b : Bool) → regrouped_by nat_eq b between ≡ record between {
    mounts = (regrouped_by nat_eq b between).mounts;
    master = (regrouped_by nat_eq b between).master;
  }
  regrouped_keeps true = refl
  regrouped_keeps false = refl

  mounts_left : (regrouped nat_eq between).mounts ≡ map after w.mounts
  mounts_left = mounts-regrouped between ∙ map_twice (inheriting nat_eq between) _ w.mounts

  regrouped_so : regrouped nat_eq between ≡ with_changed w after (regrouped nat_eq between).master
  regrouped_so = cc (regrouped_keeps (list_any (lost_a_group nat_eq between) between.mounts), mounts_left)

  -- nothing but groups goes
  pub settled_so : AllInUse w → settled nat_eq (regrouped nat_eq between) ≡ with_changed w after master_left
  settled_so all = ap (settled nat_eq) regrouped_so ∙ ap (λ (x : World ℕ). record x {
    master = λ group. cond (has_members nat_eq x.mounts group) ((regrouped nat_eq between).master group) None;
  }) (types_keep_all w after (λ group. None) all (record {
    number = λ m. refl;
    namespace = λ m. refl;
    mount_point = λ m. refl;
    filesystem = λ m. refl;
    root = λ m. refl;
  }) (λ group none. refl))

  pub master_left_so : (group : ℕ) → has_members nat_eq between.mounts group ≡ true
      → master_left group ≡ heir nat_eq between (masters group)
  master_left_so group h = cc (
    map_twice (inheriting nat_eq between) (λ
        (m : Mount ℕ). record m { propagation = kind m }) w.mounts,
    members-inherited between between.mounts group,
    master-inherited between group h,
  )
