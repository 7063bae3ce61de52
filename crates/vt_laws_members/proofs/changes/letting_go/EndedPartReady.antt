-- So is the part, where they are detached in it, too.
use Rattle.std.proofs.Common.{arith, ◌≡◌, refl, sym, ap, ◌∙◌, ◌⊎◌, inl, inr, ⊎_elim, ℕ, nat_eq, true, List, Option, Some, None, filter}
use Rattle.vt_spec.proofs.Common.{Among, Location, Mount, Task, TaskName, World, among-filter, among-filter_map, among-flat_map, among-from_filter, among-from_filter_map, among-from_flat_map, among-from_map, among-map, common_steps, holds_of, is_at, is_member_task, list_any, locations, locations_of, members, mount_lives, own_lowers, pair-filter, pair-map, part_of, roots_and_directories, used_filesystems, without_dead_mounts}
use Rattle.vt_laws_members.proofs.Common.{OneNumberEach, is_own, keep, kept_how, lowers_same, used_same}
use Rattle.vt_laws_members.proofs.judging.Common.{part_mount, part_one_number}
use Rattle.vt_laws_members.proofs.changes.letting_go.LessSeen.{AreLess, less_lowers, less_used}
use Rattle.vt_laws_members.proofs.changes.letting_go.NamespaceLess.{Detaches, KeepsShape, LeavesWorlds, ended, ended_less, ended_mount, ended_part, place_shown, placed_so, shape_kept}
use Rattle.vt_laws_members.proofs.changes.letting_go.PartFiles.{cut_in_part, numbers_in_part, plain_in_part}
use Rattle.vt_laws_members.proofs.changes.letting_go.Ready.{NoOthers, Ready}
use Rattle.vt_laws_members.proofs.changes.letting_go.Regrouped.{left_by}
use Rattle.vt_laws_members.proofs.changes.letting_go.WorldReady.{sees_living}
use Rattle.vt_laws_members.proofs.changes.letting_go.Living.{located_lives, nowhere_pointed, parent_lives}

module _ {world : World ℕ} {names set : List TaskName} {gone : List ℕ} (it : Detaches world names set gone)
    (leaves : LeavesWorlds it) where
  abbrev part : World ℕ
  part = part_of nat_eq world names

  abbrev old : List (Task ℕ)
  old = members world names

  abbrev new : List (Task ℕ)
  new = filter (is_member_task set) it.tasks_too

  abbrev kept : Mount ℕ → Option (Mount ℕ)
  kept = keep world names old

  abbrev after_world : World ℕ
  after_world = ended it

  abbrev after_part : World ℕ
  after_part = ended_part it

  less : AreLess world names set after_world after_part
  less = ended_less it

  abbrev t_part : World ℕ
  t_part = left_by part gone

  abbrev after : Mount ℕ → Mount ℕ
  after = ended_mount it.regroups t_part part gone

  abbrev living : World ℕ
  living = without_dead_mounts nat_eq after_part

  shape : (m : Mount ℕ) → KeepsShape m (after m)
  shape m = shape_kept it.regroups t_part part gone m

  was : (y : Mount ℕ) → Among y living.mounts → (z : Mount ℕ) × Among z part.mounts × (y ≡ after z)
  was y n = among-from_map after _ y (among-from_filter (mount_lives nat_eq after_part) after_part.mounts y n).0

  one_living : OneNumberEach living
  one_living = grind (arith, common_steps, pair-filter, pair-map, shape, part_one_number)

  number_kept : (m y : Mount ℕ) → kept m ≡ Some y → y.number ≡ m.number
  number_kept m y e = ⊎_elim (λ its. cc) (λ stub. cc stub.0) (kept_how world names old m y e)

  located_so : (l : Location ℕ) → Among l (locations new) → (y : Mount ℕ) × Among y living.mounts × (l.mount ≡ y.number)
  located_so l m =
      let on = place_shown it l (rw (← it.same) m) in
      let shown : (y : Mount ℕ) × (kept on.0 ≡ Some y) = (on.3, on.4) in
      let there = among-filter_map kept world.mounts on.0 shown.0 on.1 shown.1 in
      let t = among-from_flat_map locations_of new l m in
      let number : l.mount ≡ (after shown.0).number =
      on.2 ∙ sym (number_kept on.0 shown.0 shown.1) ∙ sym (shape shown.0).number in (
        after shown.0,
        located_lives after_part (after shown.0) l (among-map after part.mounts shown.0 there)
            (among-flat_map locations_of it.tasks_too t.0 l
            (among-from_filter (is_member_task set) it.tasks_too t.0 t.1).0 t.2) number,
        number,
      )

  -- a mount of theirs is theirs after, or in no namespace
  own_after : (z : Mount ℕ) → Among z world.mounts → is_own world names old z ≡ true →
      (is_own world names new (after z) ≡ true) ⊎ ((after z).namespace ≡ None)
  own_after z at own = ⊎_elim (λ out. inr out.0) (λ stays. inl (ap (λ ts. is_own world names ts (after z)) it.same
      ∙ ap (holds_of (λ i. list_any (λ (t : Task ℕ). nat_eq i t.namespace) (filter (is_member_task set) it.tasks)))
      stays.0 ∙ leaves.still z at stays.2 own)) (placed_so it.regroups t_part part gone z)

  none_after : (z : Mount ℕ) → z.namespace ≡ None → (after z).namespace ≡ None
  none_after z e = ⊎_elim (λ out. out.0) (λ stays. stays.0 ∙ e) (placed_so it.regroups t_part part gone z)

  in_or_out : (z : Mount ℕ) → Among z part.mounts
      → (is_own world names new (after z) ≡ true) ⊎ ((after z).namespace ≡ None)
  in_or_out z n =
      let from = among-from_filter_map kept world.mounts z n in
      ⊎_elim (λ whole. ⊎_elim (own_after z (rw (← whole) from.1)) (λ none. inr (none_after z none))
      (part_mount world names it.is from.0 z from.1 from.2)) (λ stub. inr (none_after z (cc stub.0)))
      (kept_how world names old from.0 z from.2)

  pub alone : (number : ℕ) → NoOthers living set number
  alone number = record {
    mounts = λ y n e. let from = was y n in
        rw from.2 (in_or_out from.0 from.1);
    locations = λ l m e. let t = among-from_flat_map locations_of it.tasks_too l m in among-flat_map locations_of new
        t.0 l (among-filter (is_member_task set) it.tasks_too t.0 t.1
        (leaves.all t.0 t.1)) t.2;
  }

  stood_so : (y : Mount ℕ) → Among y living.mounts → is_at nat_eq (roots_and_directories new) y ≡ true
      → (is_own world names new y ≡ true) ⊎ (y.mount_point ≡ None)
  stood_so y n h = ⊎_elim inl (λ none. inr (nowhere_pointed after_part leaves.kept_there y
      (among-from_filter (mount_lives nat_eq after_part) after_part.mounts y n).0 none)) ((alone _).mounts y n refl)

  pub ended_part_ready : Ready living set (used_filesystems nat_eq after_world set) (own_lowers nat_eq after_world set)
  ended_part_ready = record {
    used_are = used_same after_part living set (sees_living after_part set)
        ∙ less_used it.is less;
    lowers_are = lowers_same after_part living set (sees_living after_part set)
        ∙ less_lowers it.is less;
    one = one_living;
    lives = λ y n. (among-from_filter (mount_lives nat_eq after_part) after_part.mounts y n).1;
    located = located_so;
    parents = parent_lives after_part leaves.kept_there;
    stood = stood_so;
    one_filesystem = numbers_in_part world names it.is;
    plain = plain_in_part world names it.is;
    free = λ y m u. inl (record { itself = alone y.number; overlays = λ merged n has. alone merged.number });
    cut = cut_in_part world names it.is set after_world after_part less;
  }
