-- So is the part, where the same is done in it.
use Rattle.std.proofs.Common.{◌≡◌, sym, ap, subst, ◌∙◌, ◌⊎◌, inl, inr, ⊎_elim, ℕ, nat_eq, true, List, Option, Some, None, filter, map}
use Rattle.vt_spec.proofs.Common.{Among, Location, Mount, Task, TaskName, World, among-append, among-append_left, among-append_right, among-filter, among-filter_map, among-flat_map, among-from_filter, among-from_filter_map, among-from_flat_map, among-from_map, among-map, is_at, is_member_task, locations, locations_of, members, mount_lives, own_lowers, pair-filter, part_of, roots_and_directories, used_filesystems, without_dead_mounts}
use Rattle.vt_laws_members.proofs.Common.{is_own, keep, kept_how, lowers_same, used_same}
use Rattle.vt_laws_members.proofs.judging.Common.{part_mount}
use Rattle.vt_laws_members.proofs.changes.letting_go.LessSeen.{AreLess, less_lowers, less_used}
use Rattle.vt_laws_members.proofs.changes.letting_go.PartFiles.{cut_in_part, numbers_in_part, plain_in_part}
use Rattle.vt_laws_members.proofs.changes.letting_go.Ready.{NoOthers, Ready}
use Rattle.vt_laws_members.proofs.changes.letting_go.WorldReady.{sees_living}
use Rattle.vt_laws_members.proofs.namespaces.Remade.{ChangesTheirs, MovesTheirs, Remaking, place_shown, remade_less, v, v_part}
use Rattle.vt_laws_members.proofs.namespaces.RemadeReady.{none_after, own_after}
use Rattle.vt_laws_members.proofs.changes.letting_go.Living.{located_lives, nowhere_pointed, of_all, parent_lives}

module _ (it : Remaking) (does : ChangesTheirs it) (moves : MovesTheirs it) where
  abbrev world : World ℕ
  world = it.world

  abbrev names : List TaskName
  names = it.names

  abbrev part : World ℕ
  part = part_of nat_eq world names

  abbrev turn : Mount ℕ → Mount ℕ
  turn = it.plan.turn

  abbrev old : List (Task ℕ)
  old = members world names

  abbrev new : List (Task ℕ)
  new = filter (is_member_task names) it.tasks_too

  abbrev kept : Mount ℕ → Option (Mount ℕ)
  kept = keep world names old

  abbrev after_world : World ℕ
  after_world = v it does moves

  abbrev after : World ℕ
  after = v_part it does moves

  abbrev living : World ℕ
  living = without_dead_mounts nat_eq after

  less : AreLess world names names after_world after
  less = remade_less it does moves

  abbrev Fits : Mount ℕ → Type 0
  Fits y = (is_own world names new y ≡ true) ⊎ (y.namespace ≡ None)

  was : (y : Mount ℕ) → Among y living.mounts → Among y after.mounts
  was y n = (among-from_filter (mount_lives nat_eq after) after.mounts y n).0

  number_kept : (m y : Mount ℕ) → kept m ≡ Some y → y.number ≡ m.number
  number_kept m y e = ⊎_elim (λ its. cc) (λ stub. cc stub.0) (kept_how world names old m y e)

  located_so : (l : Location ℕ) → Among l (locations new) → (y : Mount ℕ) × Among y living.mounts × (l.mount ≡ y.number)
  located_so l m = ⊎_elim (λ on. let there = among-filter_map kept world.mounts on.0 on.3 on.1 on.4 in
      let number : l.mount ≡ (turn on.3).number = cc (number_kept on.0 on.3 on.4, (does.shape on.3).number) in (
        turn on.3,
        located_lives after (turn on.3) l (among-append_left _ _ (turn on.3) (among-map turn _ on.3 there)) all number,
        number,
      )) (λ fresh. (
        fresh.0,
        located_lives after _ l (among-append_right (map turn part.mounts) it.plan.added fresh.0 fresh.1) all fresh.2,
        fresh.2,
      )) (place_shown it does moves l (rw (← moves.same) m))
    where
      all : Among l (locations it.tasks_too)
      all = of_all names it.tasks_too l m

  -- all is theirs
  in_new : (y : Mount ℕ) → (is_own world names (filter (is_member_task names) it.tasks) y ≡ true) ⊎ (y.namespace ≡ None)
      → Fits y
  in_new y (inl own) = inl (cc moves.same)
  in_new y (inr none) = inr none

  in_or_out : (z : Mount ℕ) → Among z part.mounts → Fits (turn z)
  in_or_out z n =
      let from = among-from_filter_map kept world.mounts z n in
      in_new (turn z) (⊎_elim (λ same. let there = subst (λ q. Among q world.mounts) same from.1 in
      ⊎_elim (own_after it does moves z there) (none_after it does moves z there)
      (part_mount world names it.is from.0 z from.1 from.2))
      (λ stub. inr (ap (λ (q : Mount ℕ). (turn q).namespace) (sym stub.0)
      ∙ ap (λ (q : Mount ℕ). q.namespace) (does.others from.0 from.1 stub.1).1))
      (kept_how world names old from.0 z from.2))

  fits : (y : Mount ℕ) → Among y living.mounts → Fits y
  fits y n = ⊎_elim (λ turned. let from = among-from_map turn _ y turned in rw from.2 (in_or_out from.0 from.1))
      (λ fresh. in_new y (inl (does.owned y fresh))) (among-append (map turn part.mounts) it.plan.added y (was y n))

  alone : (number : ℕ) → NoOthers living names number
  alone number = record {
    mounts = λ y n e. fits y n;
    locations = λ l m e. let t = among-from_flat_map locations_of it.tasks_too l m in
        among-flat_map locations_of new t.0 l
        (among-filter (is_member_task names) it.tasks_too t.0 t.1 (moves.all t.0 t.1)) t.2;
  }

  stood_so : (y : Mount ℕ) → Among y living.mounts → is_at nat_eq (roots_and_directories new) y ≡ true
      → (is_own world names new y ≡ true) ⊎ (y.mount_point ≡ None)
  stood_so y n h = ⊎_elim inl (λ none. inr (nowhere_pointed after does.kept_there y (was y n) none)) (fits y n)

  pub remade_part_ready : Ready living names (used_filesystems nat_eq after_world names)
      (own_lowers nat_eq after_world names)
  remade_part_ready = record {
    used_are = used_same after living names (sees_living after names)
        ∙ less_used it.is less;
    lowers_are = lowers_same after living names (sees_living after names)
        ∙ less_lowers it.is less;
    one = pair-filter (λ (p q : Mount ℕ). nat_eq p.number q.number) (mount_lives nat_eq after) after.mounts
        does.kept_there.one_number;
    lives = λ y n. (among-from_filter (mount_lives nat_eq after) after.mounts y n).1;
    located = located_so;
    parents = parent_lives after does.kept_there;
    stood = stood_so;
    one_filesystem = numbers_in_part world names it.is;
    plain = plain_in_part world names it.is;
    free = λ y m u. inl (record { itself = alone y.number; overlays = λ merged n has. alone merged.number });
    cut = cut_in_part world names it.is names after_world after less;
  }
