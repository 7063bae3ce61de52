-- Where a tree of theirs moves, the worlds that are left have one part after the sweep.
use Rattle.std.proofs.Common.{◌≡◌, refl, sym, ap, subst, ◌∙◌, ℕ, nat_eq, true, cond, List, [], ◌++◌, Option, Some, None, filter, map, All}
use Rattle.vt_spec.proofs.Common.{Among, HasLivingGroups, Location, Mount, TaskName, World, all_locations, among-filter, among-from_filter, among_from_all, among_from_list_all, filter_all, has_members, is_among, is_nowhere_or_attached, is_own_mount, list_all, master_above, members, mount_lives, numbers_raised, own_lowers, part_of, settled, source_of, then_some, used_filesystems, with_mounts}
use Rattle.vt_laws_members.proofs.Common.{AllStand, IsSealed, OneNumberEach, all_in_use, is_own, live_members, locations_of_worlds_stand}
use Rattle.vt_laws_members.proofs.changes.Common.{Ready, part_in_use, part_ready, swept_of, tasks_stay, world_ready}
use Rattle.vt_laws_members.proofs.attached.AttachedAlike.{one_part, own_alike}
use Rattle.vt_laws_members.proofs.attached.Destination.{located_there}
use Rattle.vt_laws_members.proofs.attached.GrownPart.{Grows}
use Rattle.vt_laws_members.proofs.attached.GrownReady.{all_live, grown, grown_settled, without_new}
use Rattle.vt_laws_members.proofs.attached.PartGrows.{part_grows}
use Rattle.vt_laws_members.proofs.attached.RaisedAlike.{parts_left}

module _ {world : World ℕ} {names : List TaskName} (sealing : IsSealed world names) where
  abbrev part : World ℕ
  part = part_of nat_eq world names

  pub ready_here : Ready world names (used_filesystems nat_eq world names) (own_lowers nat_eq world names)
  ready_here = subst (λ l. Ready (with_mounts world l) names (used_filesystems nat_eq world names)
      (own_lowers nat_eq world names)) (filter_all (mount_lives nat_eq world) world.mounts
      (among_from_list_all (mount_lives nat_eq world) world.mounts (all_in_use world sealing.is).mounts))
      (world_ready sealing names world.tasks world.change (tasks_stay sealing).lets)

  pub ready_there : Ready part names (used_filesystems nat_eq world names) (own_lowers nat_eq world names)
  ready_there = rw (← filter_all (mount_lives nat_eq part) part.mounts (among_from_list_all (mount_lives nat_eq part)
      part.mounts (part_in_use sealing).mounts)) (part_ready (tasks_stay sealing) world.change part.change)

-- Where such a change leaves mounts that stand, and groups that live
pub record Stays (w : World ℕ) : Type 0 where
  pub one : OneNumberEach w
  pub stands : AllStand w
  pub nowhere : list_all is_nowhere_or_attached w.mounts ≡ true
  pub groups : All (HasLivingGroups nat_eq w) w.mounts

module _ {world : World ℕ} {names : List TaskName} (sealing : IsSealed world names) {change : Mount ℕ → Mount ℕ}
    {added : List (Mount ℕ)} {master : ℕ → Option ℕ} (master_too : ℕ → Option ℕ)
    (grows : Grows world names change added [] master)
    (known : (y : Mount ℕ) → Among y (map change world.mounts ++ added)
    → is_own world names (members world names) y ≡ true → (g : ℕ) → source_of y.propagation ≡ Some g
    → master_too g ≡ master g) where
  abbrev pub left_here : World ℕ
  left_here =
      grown (ready_here sealing) grows

  abbrev pub grows_there : Grows (part_of nat_eq world names) names change added [] master_too
  grows_there = part_grows sealing.is master_too grows

  abbrev pub left_there : World ℕ
  left_there = grown
      (ready_there sealing) grows_there

  module _ (stays : Stays left_here) (stays_there : Stays left_there) where
    settled_here : part_of nat_eq (settled nat_eq left_here) names ≡ swept_of names (part_of nat_eq left_here names)
    settled_here = grown_settled
        (ready_here sealing) grows (among_from_list_all
        (λ (l : Location ℕ). is_among nat_eq l.mount (map (λ (m : Mount ℕ). m.number) world.mounts))
        (all_locations world) (locations_of_worlds_stand world sealing.is)) stays.one stays.stands stays.nowhere

    settled_there : part_of nat_eq (settled nat_eq left_there) names ≡ swept_of names (part_of nat_eq left_there names)
    settled_there =
        grown_settled (ready_there sealing) grows_there (located_there world names sealing.is)
        stays_there.one stays_there.stands stays_there.nowhere

    same_part : part_of nat_eq left_there names ≡ part_of nat_eq left_here names
    same_part = sym (ap (λ w. part_of nat_eq w names)
        (without_new (ready_there sealing) grows_there)) ∙ one_part sealing
        master_too grows known ∙ ap (λ w. part_of nat_eq w names) (without_new (ready_here sealing) grows)

    swept_alike : part_of nat_eq (settled nat_eq left_there) names ≡ part_of nat_eq (settled nat_eq left_here) names
    swept_alike = cc (settled_there, same_part, settled_here)

    -- all mounts stay
    mounts_here : filter (mount_lives nat_eq left_here) left_here.mounts ≡ left_here.mounts
    mounts_here = all_live
        (ready_here sealing) grows (among_from_list_all
        (λ (l : Location ℕ). is_among nat_eq l.mount (map (λ (m : Mount ℕ). m.number) world.mounts))
        (all_locations world) (locations_of_worlds_stand world sealing.is)) stays.one stays.stands stays.nowhere

    mounts_there : filter (mount_lives nat_eq left_there) left_there.mounts ≡ left_there.mounts
    mounts_there =
        all_live (ready_there sealing) grows_there (located_there world names sealing.is)
        stays_there.one stays_there.stands stays_there.nowhere

    -- so groups of theirs keep their masters
    above_alike : (m : Mount ℕ) → Among m (settled nat_eq left_here).mounts
        → is_own world names (members world names) m ≡ true
        → master_above (settled nat_eq left_there) m ≡ master_above (settled nat_eq left_here) m
    above_alike m n own = by (source_of m.propagation) refl
      where
        here : Among m left_here.mounts
        here = (among-from_filter (mount_lives nat_eq left_here) left_here.mounts m n).0

        there : Among m left_there.mounts
        there = (among-from_filter (is_own_mount nat_eq left_there names) left_there.mounts m
            (rw (own_alike sealing master_too grows known) (among-filter (is_own_mount nat_eq left_here names)
            left_here.mounts m here own))).0

        members_in : (w : World ℕ) → Stays w → filter (mount_lives nat_eq w) w.mounts ≡ w.mounts → Among m w.mounts
            → (g : ℕ) → source_of m.propagation ≡ Some g
            → has_members nat_eq (filter (mount_lives nat_eq w) w.mounts) g ≡ true
        members_in w it all at g e = cc (live_members w.master (has_members nat_eq w.mounts) g
            (among_from_all (HasLivingGroups nat_eq w) w.mounts it.groups m at g e))

        by : (o : Option ℕ) → source_of m.propagation ≡ o
            → then_some o (settled nat_eq left_there).master ≡ then_some o (settled nat_eq left_here).master
        by None e = refl
        by (Some g) e = ap (λ b. cond b (master_too g) None) (members_in left_there stays_there mounts_there there g e)
            ∙ known m here own g e
            ∙ sym (ap (λ b. cond b (master g) None) (members_in left_here stays mounts_here here g e))

    pub moved_alike : (name : TaskName)
        → part_of nat_eq (numbers_raised nat_eq world name [] (settled nat_eq left_here)) names
        ≡ part_of nat_eq (numbers_raised nat_eq (part_of nat_eq world names) name [] (settled nat_eq left_there)) names
    moved_alike name = parts_left sealing (settled nat_eq left_here).mounts _ _ _ _ _ swept_alike above_alike name
