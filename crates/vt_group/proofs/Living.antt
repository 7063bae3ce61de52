-- Groups live on through a change of one mount's type.
use Rattle.std.proofs.Common.{◌≡◌, refl, sym, ap, subst, ◌∙◌, true, false, Bool, None, Option, Some, eq-eqb, ne_eqb, is_some, map, true≢false, ℕ, nat_eq, IfSome, if◌then◌else◌}
use Rattle.vt_spec.proofs.Common.{Among, HasLivingGroups, Lives, Mount, Private, Propagation, Shared, Slave, World, among-from_map, among_from_all, any_among, has_members, is_member_of, regrouped, same_Some, source_of, with_master}
use Rattle.vt_group.specs.Grouping.{retyped_if, HasGroup}
use Rattle.vt_group.specs.Laws.{JoiningKeepsGroups, LeavingKeepsGroups, SlavesKeepGroups, StartingKeepsGroups}
use Rattle.vt_group.proofs.Peers.{retyped_other, retyped_same}
use Rattle.vt_laws_mounts.proofs.GroupsKept.{member_shared}
use Rattle.vt_laws_mounts.specs.Mounts.Receivers.{AllGroupsLive}
use Rattle.vt_laws_mounts.proofs.GroupsLiving.{all_live}
use Rattle.vt_laws_mounts.proofs.GroupsKept.{lives_end, regrouped_live}
use Rattle.vt_laws_mounts.proofs.GroupsUp.{EndsUp}
use Rattle.vt_laws_mounts.proofs.GroupsUp.EndsUp.{at_top, goes_up}

-- One mount changes its type
module _ (world : World ℕ) (live : AllGroupsLive world) (number : ℕ) (kind : Propagation ℕ) (master : ℕ → Option ℕ)
    (same : (group : ℕ) → has_members nat_eq world.mounts group ≡ true → master group ≡ world.master group)
    (ends : (source : ℕ) → source_of kind ≡ Some source → EndsUp master source) where
  abbrev changed : World ℕ
  changed = record world { mounts = map (retyped_if number kind) world.mounts; master = master }

  -- groups live on where one mount changes its type
  pub changed_live : AllGroupsLive (regrouped nat_eq changed)
  changed_live = all_live (regrouped nat_eq changed) (regrouped_live changed (λ mount m source e.
      let from = among-from_map (retyped_if number kind) world.mounts mount m in
      by from.0 from.1 (nat_eq number from.0.number) refl source (sym (ap (λ x. source_of x.propagation) from.2) ∙ e)))
    where
      by : (old : Mount ℕ) → Among old world.mounts → (b : Bool) → nat_eq number old.number ≡ b
          → (source : ℕ) → source_of (retyped_if number kind old).propagation ≡ Some source → EndsUp master source
      by old m true is source e = ends source
          (sym (ap (λ x. source_of x.propagation) (retyped_same number kind old is)) ∙ e)
      by old m false is source e = lives_end (has_members nat_eq world.mounts) world.master master same source
          (among_from_all (HasLivingGroups nat_eq world) world.mounts live old m source
          (sym (ap (λ x. source_of x.propagation) (retyped_other number kind old is)) ∙ e))

-- a group with members lives
pub group_lives : (world : World ℕ) → AllGroupsLive world → (group : ℕ) → has_members nat_eq world.mounts group ≡ true
    → Lives (has_members nat_eq world.mounts) world.master group
group_lives world live group h =
    let member = any_among (is_member_of nat_eq group) world.mounts h in
    among_from_all (HasLivingGroups nat_eq world) world.mounts live member.0 member.1 group
    (ap source_of (member_shared group member.0 member.2))

-- groups live on where a mount leaves its group
pub leaving_keeps_groups : LeavingKeepsGroups
leaving_keeps_groups world mount live = changed_live world live mount Private world.master (λ group h. refl)
    (λ source e. absurd (true≢false (sym (ap is_some e))))

-- where it becomes a slave
pub slaves_keep_groups : SlavesKeepGroups
slaves_keep_groups world mount master live h =
    changed_live world live mount (Slave master) world.master (λ group h. refl) (λ source e.
    subst (EndsUp world.master) (same_Some master source e)
    (lives_end (has_members nat_eq world.mounts) world.master world.master (λ group h. refl) master
    (group_lives world live master h)))

-- where it joins a group
pub joining_keeps_groups : JoiningKeepsGroups
joining_keeps_groups world mount group live fresh =
    changed_live world live mount (Shared group) world.master (λ group h. refl) (λ source e.
    subst (EndsUp world.master) (same_Some group source e) (by (has_members nat_eq world.mounts group) refl))
  where
    by : (b : Bool) → has_members nat_eq world.mounts group ≡ b → EndsUp world.master group
    by true h = lives_end (has_members nat_eq world.mounts) world.master world.master (λ group h. refl) group
        (group_lives world live group h)
    by false h = at_top group (fresh h)

-- and where it starts one
pub starting_keeps_groups : StartingKeepsGroups
starting_keeps_groups world mount group master live fresh h =
    changed_live world live mount (Shared group) (with_master nat_eq world.master group master) (agrees master)
    (λ source e. subst (EndsUp (with_master nat_eq world.master group master)) (same_Some group source e) (by master h))
  where
    agrees : (up : Option ℕ) (other : ℕ) → has_members nat_eq world.mounts other ≡ true
        → with_master nat_eq world.master group up other ≡ world.master other
    agrees up other w = ap (λ b. if b then up else world.master other)
        (ne_eqb other group (λ is. true≢false (sym w ∙ ap (has_members nat_eq world.mounts) is ∙ fresh)))

    is_above : (up : Option ℕ) → with_master nat_eq world.master group up group ≡ up
    is_above up = ap (λ b. if b then up else world.master group) (eq-eqb group group refl)

    by : (up : Option ℕ) → IfSome up (HasGroup world) → EndsUp (with_master nat_eq world.master group up) group
    by None h = at_top group (is_above None)
    by (Some up) h = goes_up group up (is_above (Some up))
        (lives_end (has_members nat_eq world.mounts) world.master (with_master nat_eq world.master group (Some up))
        (agrees (Some up)) up (group_lives world live up h))
