-- Where mounts of theirs change and new ones come, the world is ready to be swept.
use Rattle.std.proofs.Common.{arith, ◌≡◌, refl, sym, ap, ◌∙◌, ◌⊎◌, inl, inr, ⊎_elim, ℕ, nat_eq, true, true≢false, List, Option, None, filter, map, not, eq-eqb, eqb-true}
use Rattle.vt_spec.proofs.Common.{Among, Location, Mount, Task, TaskName, World, all_locations, among-append, among-append_right, among-filter, among-flat_map, among-from_filter, among-from_flat_map, among-from_map, among_numbers, and_parts, any_among, common_steps, is_at, is_member_task, locations, locations_of, members, mount_at, mount_lives, no_outsider_on, none_among, or_cases, outsiders, own_lowers, pair-filter, roots_and_directories, used_alone, used_filesystems, wholly_locked, without_dead_mounts}
use Rattle.vt_laws_members.proofs.Common.{OneNumberEach, found_itself, is_own, lowers_same, used_are_free, used_same}
use Rattle.vt_laws_members.proofs.judging.Common.{IsTheirs}
use Rattle.vt_laws_members.proofs.changes.letting_go.Changed.{mount_under}
use Rattle.vt_laws_members.proofs.changes.letting_go.LessSeen.{used_was}
use Rattle.vt_laws_members.proofs.changes.letting_go.NamespaceLess.{ground_at}
use Rattle.vt_laws_members.proofs.changes.letting_go.Ready.{Alone, NoOthers, Ready}
use Rattle.vt_laws_members.proofs.changes.letting_go.WorldReady.{all_named_there, plain_in, sees_living, whole_cut}
use Rattle.vt_laws_members.proofs.namespaces.Remade.{ChangesTheirs, MovesTheirs, OnAdded, Remaking, filesystem_after, placed_old, remade_less, shown_after, turned_in, v}
use Rattle.vt_laws_members.proofs.changes.letting_go.Living.{located_lives, nowhere_pointed, of_all, overlay_alone, own_locations, parent_lives}

module _ (it : Remaking) (does : ChangesTheirs it) (moves : MovesTheirs it) where
  abbrev world : World ℕ
  world = it.world

  abbrev names : List TaskName
  names = it.names

  abbrev turn : Mount ℕ → Mount ℕ
  turn = it.plan.turn

  abbrev old : List (Task ℕ)
  old = members world names

  abbrev new : List (Task ℕ)
  new = filter (is_member_task names) it.tasks

  abbrev after : World ℕ
  after = v it does moves

  abbrev living : World ℕ
  living = without_dead_mounts nat_eq after

  abbrev Fits : Mount ℕ → Type 0
  Fits y = (is_own world names new y ≡ true) ⊎ (y.namespace ≡ None)

  was : (y : Mount ℕ) → Among y living.mounts → Among y after.mounts
  was y n = (among-from_filter (mount_lives nat_eq after) after.mounts y n).0

  one_living : OneNumberEach living
  one_living = pair-filter (λ (p q : Mount ℕ). nat_eq p.number q.number) (mount_lives nat_eq after) after.mounts
      does.kept.one_number

  -- a mount of theirs is theirs after, or in no namespace; one of none stays so
  pub own_after : (m : Mount ℕ) → Among m world.mounts → is_own world names old m ≡ true → Fits (turn m)
  own_after m n own = ⊎_elim inr (λ stays. inl (cc (stays.0, stays.1))) (does.placed m n own)

  pub none_after : (m : Mount ℕ) → Among m world.mounts → m.namespace ≡ None → Fits (turn m)
  none_after m n none = inr (cc ((does.others m n (cc)).0))

  -- where others have no foothold
  module _ (number : ℕ) (none : no_outsider_on nat_eq world names number ≡ true) where
    by_mount : (m : Mount ℕ) → Among m world.mounts → m.filesystem ≡ number → (o : Option ℕ) → m.namespace ≡ o
        → Fits (turn m)
    by_mount m n e o f =
        grind (arith, common_steps, none_after, own_after, true≢false, eq-eqb, none_among, among-filter)

    mounts_own : (y : Mount ℕ) → Among y living.mounts → y.filesystem ≡ number → Fits y
    mounts_own y n e = ⊎_elim (λ turned. let from = among-from_map turn world.mounts y turned in rw from.2
        (by_mount from.0 from.1 (sym (does.shape from.0).filesystem ∙ ap (λ (q : Mount ℕ). q.filesystem) (sym from.2) ∙
        e) from.0.namespace refl)) (λ fresh. inl (does.owned y fresh))
        (among-append (map turn world.mounts) it.plan.added y (was y n))

    -- a location of others shows what it showed
    other_shows : (l : Location ℕ) → Among l (all_locations after) → Among l (locations (outsiders world names))
        → (mount_at nat_eq living l).filesystem ≡ (mount_at nat_eq world l).filesystem
    other_shows l m out =
        let from = among-from_flat_map locations_of (outsiders world names) l out in
        let under = mount_under it.sealing l (among-flat_map locations_of world.tasks from.0 l
        (among-from_filter (λ y. not (is_member_task names y)) world.tasks from.0 from.1).0 from.2) in
        let number : l.mount ≡ (turn under.0).number = under.2 ∙ sym (does.shape under.0).number in
        let there = turned_in it does moves under.0 under.1 in
        cc (
          found_itself living.mounts one_living (turn under.0) (located_lives after (turn under.0) l there m number),
          shown_after it does moves (turn under.0) there l number,
          filesystem_after it does moves under.0 under.1 l
              under.2,
        )

    pub no_others : NoOthers living names number
    no_others = record {
      mounts = mounts_own;
      locations = own_locations world living names names number none moves.outside other_shows;
    }

  alone : (number : ℕ) → used_alone nat_eq world names number ≡ true → Alone living names number
  alone number h = record {
    itself = no_others number (and_parts _ _ h).0;
    overlays = λ merged m has. no_others merged.number (overlay_alone world names number h merged m has);
  }

  located_so : (l : Location ℕ) → Among l (locations new) → (y : Mount ℕ) × Among y living.mounts × (l.mount ≡ y.number)
  located_so l m = ⊎_elim (λ before. let on = placed_old it does moves l before in of_before on.0 on.1 on.2)
      (λ rest. ⊎_elim (λ on. of_before on.0 on.1 (sym on.2)) (λ fresh. (
        fresh.0,
        located_lives after _ l (among-append_right (map turn world.mounts) it.plan.added fresh.0 fresh.1) all fresh.2,
        fresh.2,
      )) rest) (moves.places l m)
    where
      all : Among l (all_locations after)
      all = of_all names it.tasks l m

      of_before : (k : Mount ℕ) → Among k world.mounts → l.mount ≡ k.number
          → (y : Mount ℕ) × Among y living.mounts × (l.mount ≡ y.number)
      of_before k n e =
          let number : l.mount ≡ (turn k).number = e ∙ sym (does.shape k).number in
          (turn k, located_lives after (turn k) l (turned_in it does moves k n) all number, number)

  stood_so : (y : Mount ℕ) → Among y living.mounts → is_at nat_eq (roots_and_directories new) y ≡ true
      → (is_own world names new y ≡ true) ⊎ (y.mount_point ≡ None)
  stood_so y n h = ⊎_elim turned (λ fresh. inl (does.owned y fresh))
      (among-append (map turn world.mounts) it.plan.added y (was y n))
    where
      point_too : Fits y → (is_own world names new y ≡ true) ⊎ (y.mount_point ≡ None)
      point_too (inl own) = inl own
      point_too (inr none) = inr (nowhere_pointed after does.kept y (was y n) none)

      turned : Among y (map turn world.mounts) → (is_own world names new y ≡ true) ⊎ (y.mount_point ≡ None)
      turned m =
          let from = among-from_map turn world.mounts y m in
          let l = any_among (λ (p : Location ℕ). nat_eq p.mount y.number) (roots_and_directories new) h in
          let on : l.0.mount ≡ from.0.number = cc (eqb-true l.0.mount y.number l.2, from.2, (does.shape from.0).number)
          in
          point_too (rw from.2 (by from.0 from.1 l.0 on (moves.roots l.0 l.1)))
        where
          by : (m : Mount ℕ) → Among m world.mounts → (l : Location ℕ) → l.mount ≡ m.number
              → IsTheirs world names it.is.mounts l.mount ⊎ OnAdded it.plan l → Fits (turn m)
          by m k l e (inl theirs) =
              ⊎_elim (own_after m k) (λ stood. none_after m k stood.0) (ground_at world names it.is l theirs m k e)
          by m k l e (inr (y, c, f)) = absurd (does.apart y m c k (sym f ∙ e))

  pub remade_ready : Ready living names (used_filesystems nat_eq after names) (own_lowers nat_eq after names)
  remade_ready = record {
    used_are = used_same after living names (sees_living after names);
    lowers_are = lowers_same after living names (sees_living after names);
    one = one_living;
    lives = λ y n. (among-from_filter (mount_lives nat_eq after) after.mounts y n).1;
    located = located_so;
    parents = parent_lives after does.kept;
    stood = stood_so;
    one_filesystem = it.is.files.one_filesystem;
    plain = plain_in world names it.is;
    free = λ x m u. ⊎_elim (λ h. inl (alone x.number h)) (λ h. inr (all_named_there world names it.is x m h))
        (or_cases (used_alone nat_eq world names x.number) (wholly_locked nat_eq world names x.number)
        (used_are_free world names it.sealed_off x.number (among_numbers (used_filesystems nat_eq world names) x.number
        (used_was it.is (remade_less it does moves) x.number u))));
    cut = λ x m unused low. whole_cut world it.is (own_lowers nat_eq after names) x m;
  }
