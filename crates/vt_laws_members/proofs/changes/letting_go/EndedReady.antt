-- Where mounts of theirs are detached, the world is ready to be swept.
use Rattle.std.proofs.Common.{arith, ◌≡◌, refl, sym, ◌∙◌, ◌⊎◌, inl, inr, ⊎_elim, ℕ, nat_eq, true, true≢false, List, Option, Some, None, filter, not, eq-eqb, eqb-true}
use Rattle.vt_spec.proofs.Common.{Among, Location, Mount, Task, TaskName, World, all_locations, among-filter, among-flat_map, among-from_filter, among-from_flat_map, among-from_map, among-map, among_numbers, and_parts, any_among, any_from_among, common_steps, is_at, is_member_task, is_own_namespace, locations, locations_of, members, mount_at, mount_lives, no_outsider_on, none_among, or_cases, or_right, outsiders, own_lowers, pair-filter, roots_and_directories, used_alone, used_filesystems, wholly_locked, without_dead_mounts}
use Rattle.vt_laws_members.proofs.Common.{OneNumberEach, found_itself, is_own, lowers_same, nowhere_stands, used_are_free, used_same}
use Rattle.vt_laws_members.proofs.changes.letting_go.Changed.{mount_under}
use Rattle.vt_laws_members.proofs.changes.letting_go.LessSeen.{used_was}
use Rattle.vt_laws_members.proofs.changes.letting_go.NamespaceLess.{Detaches, KeepsShape, LeavesWorlds, ended, ended_less, ended_mount, one_after, place_shown, placed_so, root_ground, shape_kept}
use Rattle.vt_laws_members.proofs.changes.letting_go.Ready.{Alone, NoOthers, Ready}
use Rattle.vt_laws_members.proofs.changes.letting_go.Regrouped.{left_by}
use Rattle.vt_laws_members.proofs.changes.letting_go.WorldReady.{all_named_there, plain_in, sees_living, whole_cut}
use Rattle.vt_laws_members.proofs.changes.letting_go.Living.{of_all, overlay_alone, own_locations, parent_lives}

module _ {world : World ℕ} {names set : List TaskName} {gone : List ℕ} (it : Detaches world names set gone)
    (leaves : LeavesWorlds it) where
  abbrev old : List (Task ℕ)
  old = members world names

  abbrev new : List (Task ℕ)
  new = filter (is_member_task set) it.tasks

  abbrev after_world : World ℕ
  after_world = ended it

  abbrev after : Mount ℕ → Mount ℕ
  after = ended_mount it.regroups (left_by world gone) world gone

  abbrev living : World ℕ
  living = without_dead_mounts nat_eq after_world

  was : (y : Mount ℕ) → Among y living.mounts → (m : Mount ℕ) × Among m world.mounts × (y ≡ after m)
  was y n = among-from_map after _ y (among-from_filter (mount_lives nat_eq after_world) after_world.mounts y n).0

  located_lives : (m : Mount ℕ) (l : Location ℕ) → Among m world.mounts → Among l (all_locations after_world)
      → l.mount ≡ m.number → Among (after m) living.mounts
  located_lives m l at n e =
      grind (arith, common_steps, among-filter, among-map, or_right, any_from_among, eq-eqb, shape_kept, left_by)

  shape : (m : Mount ℕ) → KeepsShape m (after m)
  shape m = shape_kept it.regroups (left_by world gone) world gone m

  one_living : OneNumberEach living
  one_living =
      pair-filter (λ (p q : Mount ℕ). nat_eq p.number q.number) (mount_lives nat_eq after_world) after_world.mounts
      (one_after it)

  -- a mount in a namespace of theirs is theirs after, or in none
  own_after : (m : Mount ℕ) (n : ℕ) → Among m world.mounts → m.namespace ≡ Some n
      → is_own_namespace nat_eq world names n ≡ true
      → (is_own world names new (after m) ≡ true) ⊎ ((after m).namespace ≡ None)
  own_after m n at e own = grind (arith, common_steps, placed_so, left_by)

  none_after : (m : Mount ℕ) → m.namespace ≡ None → (after m).namespace ≡ None
  none_after m e = ⊎_elim (λ out. out.0) (λ stays. stays.0 ∙ e)
      (placed_so it.regroups (left_by world gone) world gone m)

  -- where others have no foothold
  module _ (number : ℕ) (none : no_outsider_on nat_eq world names number ≡ true) where
    by_mount : (m : Mount ℕ) → Among m world.mounts → m.filesystem ≡ number → (o : Option ℕ) → m.namespace ≡ o
        → (is_own world names new (after m) ≡ true) ⊎ ((after m).namespace ≡ None)
    by_mount m n e o f =
        grind (arith, common_steps, none_after, is_own, own_after, true≢false, eq-eqb, number, none_among, among-filter)

    mounts_own : (y : Mount ℕ) → Among y living.mounts → y.filesystem ≡ number
        → (is_own world names new y ≡ true) ⊎ (y.namespace ≡ None)
    mounts_own y n e =
        let from = was y n in
        rw from.2 (by_mount from.0 from.1 (cc ((shape from.0).filesystem)) from.0.namespace refl)

    shows : (l : Location ℕ) → Among l (all_locations living) → Among l (locations (outsiders world names))
        → (mount_at nat_eq living l).filesystem ≡ (mount_at nat_eq world l).filesystem
    shows l m out =
        let from = among-from_flat_map locations_of (outsiders world names) l out in
        let under = mount_under it.sealing l (among-flat_map locations_of world.tasks from.0 l
        (among-from_filter (λ y. not (is_member_task names y)) world.tasks from.0 from.1).0 from.2) in
        cc (
          under.2,
          (shape under.0).number,
          found_itself living.mounts one_living (after under.0) (located_lives under.0 l under.1 m under.2),
          (shape under.0).filesystem,
          found_itself world.mounts it.is.mounts.one_number under.0 under.1,
        )

    pub no_others : NoOthers living set number
    no_others = record {
      mounts = mounts_own;
      locations = own_locations world living names set number none leaves.others shows;
    }

  pub alone : (number : ℕ) → used_alone nat_eq world names number ≡ true → Alone living set number
  alone number h = record {
    itself = no_others number (and_parts _ _ h).0;
    overlays = λ merged m has. no_others merged.number (overlay_alone world names number h merged m has);
  }

  located_so : (l : Location ℕ) → Among l (locations new) → (y : Mount ℕ) × Among y living.mounts × (l.mount ≡ y.number)
  located_so l m =
      let on = place_shown it l m in
      (after on.0, located_lives on.0 l on.1 (of_all set it.tasks l m) on.2, on.2 ∙ sym (shape on.0).number)

  stood_so : (y : Mount ℕ) → Among y living.mounts → is_at nat_eq (roots_and_directories new) y ≡ true
      → (is_own world names new y ≡ true) ⊎ (y.mount_point ≡ None)
  stood_so y n h =
      let from = was y n in
      let l = any_among (λ (p : Location ℕ). nat_eq p.mount y.number) (roots_and_directories new) h in
      let ground = root_ground it l.0 l.1 from.0 from.1 (eqb-true l.0.mount from.0.number
      (cc (from.2, (shape from.0).number, l.2))) in
      rw from.2 (by from.0 from.1 (⊎_elim inl (λ stood. inr stood.0) ground) from.0.namespace refl from.0.mount_point
      refl)
    where
      by : (m : Mount ℕ) → Among m world.mounts → (is_own world names old m ≡ true) ⊎ (m.namespace ≡ None)
          → (o : Option ℕ) → m.namespace ≡ o → (p : Option (Location ℕ)) → m.mount_point ≡ p
          → (is_own world names new (after m) ≡ true) ⊎ ((after m).mount_point ≡ None)
      by m at how o e None f = grind (arith, common_steps, placed_so, left_by)
      by m at (inr none) o e (Some l) f = absurd (nowhere_stands world names it.is.mounts m l at none f)
      by m at (inl own) None e (Some l) f = absurd (nowhere_stands world names it.is.mounts m l at e f)
      by m at (inl own) (Some j) e (Some l) f = grind (arith, common_steps, placed_so, left_by)

  pub ended_ready : Ready living set (used_filesystems nat_eq after_world set) (own_lowers nat_eq after_world set)
  ended_ready = record {
    used_are = used_same after_world living set (sees_living after_world set);
    lowers_are = lowers_same after_world living set (sees_living after_world set);
    one = one_living;
    lives = λ y n. (among-from_filter (mount_lives nat_eq after_world) after_world.mounts y n).1;
    located = located_so;
    parents = parent_lives after_world leaves.kept;
    stood = stood_so;
    one_filesystem = it.is.files.one_filesystem;
    plain = plain_in world names it.is;
    free = λ x m u. ⊎_elim (λ h. inl (alone x.number h)) (λ h. inr (all_named_there world names it.is x m h))
        (or_cases (used_alone nat_eq world names x.number) (wholly_locked nat_eq world names x.number)
        (used_are_free world names it.sealed_off x.number
        (among_numbers (used_filesystems nat_eq world names) x.number (used_was it.is (ended_less it) x.number u))));
    cut = λ x m unused low. whole_cut world it.is (own_lowers nat_eq after_world set) x m;
  }
