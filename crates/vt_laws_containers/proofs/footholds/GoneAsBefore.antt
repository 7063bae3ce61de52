-- Mounts of a set that go, and files that change, leave others as they were.
use Rattle.std.proofs.Common.{◌≡◌, refl, sym, subst, ℕ, nat_eq, Bool, true, false, cond, true≢false, List, [], ◌∷◌, Some, None, filter, find, length, eq-eqb, eqb-true, arith, option_map}
use Rattle.vt_spec.proofs.Common.{Among, Call, Fresh, Location, Mount, Task, TaskName, World, after_going, among-from_filter, among_numbers, any_among, any_from_among, chain, common_steps, detached, false_from_ne_true, holds_of, is_among, is_among_numbers, is_going, is_own_namespace, last_or, list_any, map_alike, mount_numbered, mount_point_of_parent, taken_away}
use Rattle.vt_laws_containers.proofs.footholds.ServedCalls.{IsServedCall}
use Rattle.vt_laws_containers.proofs.Common.{found_itself}
use Rattle.vt_laws_containers.proofs.footholds.AsBefore.{OthersAsBefore}
use Rattle.vt_laws_containers.proofs.footholds.EndsAsBefore.{going_on}
use Rattle.vt_laws_containers.proofs.footholds.FilesGoOn.{ChangesFiles}
use Rattle.vt_laws_containers.proofs.footholds.TakingPermits.{gone_as_before}

-- Files that change after something else
pub files_as_before : (world base left : World ℕ) (names set : List TaskName) → OthersAsBefore world base names set
    → ChangesFiles base left → OthersAsBefore world left names set
files_as_before world base left names set others changes =
    subst (λ w. OthersAsBefore world w names set) (sym changes.same) (record {
      others = others.others;
      mounts = others.mounts;
      shown = others.shown;
      tasks = others.tasks;
      events = others.events;
      places = others.places;
      filesystems = λ f m.
          let was = changes.placed f m in
          going_on world names was.0 f (sym was.2) was.3 (others.filesystems was.0 was.1);
      direct = others.direct;
    })

-- Of the numbers that go only those of mounts matter.
kept_among : (test : ℕ → Bool) (number : ℕ) → test number ≡ true → (list : List ℕ)
    → is_among nat_eq number (filter test list) ≡ is_among nat_eq number list
kept_among test number e [] = refl
kept_among test number e (x ∷ rest) =
    grind (arith, common_steps, false_from_ne_true, true≢false, kept_among test number e rest)

none_among : (test : ℕ → Bool) (number : ℕ) → test number ≡ false → (list : List ℕ)
    → is_among nat_eq number (filter test list) ≡ false
none_among test number e [] = refl
none_among test number e (x ∷ rest) =
    grind (arith, common_steps, false_from_ne_true, true≢false, none_among test number e rest)

none_found : (p : Mount ℕ → Bool) (list : List (Mount ℕ)) → list_any p list ≡ false → find p list ≡ None
none_found p [] h = refl
none_found p (x ∷ rest) h = grind (arith, common_steps, true≢false, none_found p rest)

module _ (world : World ℕ) (gone : List ℕ) where
  abbrev pub is_mount : ℕ → Bool
  is_mount number = list_any (λ (mount : Mount ℕ). nat_eq number mount.number) world.mounts

  abbrev pub gone_there : List ℕ
  gone_there = filter is_mount gone

  parent_same : (point : Location ℕ)
      → mount_point_of_parent nat_eq world gone_there point ≡ mount_point_of_parent nat_eq world gone point
  parent_same point = grind (arith, common_steps, none_found, kept_among, none_among)

  after_same : (mount : Mount ℕ) → Among mount world.mounts
      → after_going nat_eq world gone_there mount ≡ after_going nat_eq world gone mount
  after_same mount m = λ i. cond (kept_among is_mount mount.number
      (any_from_among (λ (x : Mount ℕ). nat_eq mount.number x.number) world.mounts mount m
      (eq-eqb mount.number mount.number refl)) gone i) (detached mount) (record mount {
        mount_point = option_map (λ point.
            last_or point (chain (length world.mounts) (λ l. parent_same l i) point)) mount.mount_point;
      })

  pub taken_there : taken_away nat_eq world gone_there ≡ taken_away nat_eq world gone
  taken_there =
      cc (map_alike (after_going nat_eq world gone_there) (after_going nat_eq world gone) world.mounts after_same)

-- Mounts of theirs that go
module _ {world : World ℕ} {names : List TaskName} {name : TaskName} {call : Call} {fresh : Fresh ℕ}
    {task : Task ℕ} (it : IsServedCall world names name call fresh task) where
  abbrev ours : ℕ → Bool
  ours = is_own_namespace nat_eq world names

  placed_by : (mount : Mount ℕ) → holds_of ours mount.namespace ≡ true
      → (n : ℕ) × (mount.namespace ≡ Some n) × (ours n ≡ true)
  placed_by mount h = grind (arith, common_steps, true≢false)

  pub own_gone_before : (gone : List ℕ)
      → ((mount : Mount ℕ) → Among mount world.mounts → is_going nat_eq gone mount.number ≡ true
      → holds_of ours mount.namespace ≡ true)
      → ((mount : Mount ℕ) → Among mount (taken_away nat_eq world gone).mounts → (n : ℕ) → mount.namespace ≡ Some n
      → (t : Task ℕ) × Among t world.tasks × (t.namespace ≡ n))
      → OthersAsBefore world (taken_away nat_eq world gone) names names
  own_gone_before gone own tasked = subst (λ w. OthersAsBefore world w names names) (taken_there world gone)
      (gone_as_before it (gone_there world gone) [] goes (λ mount m n e. tasked mount
      (subst (λ (w : World ℕ). Among mount w.mounts) (taken_there world gone) m) n e))
    where
      goes : (number : ℕ) → is_going nat_eq (gone_there world gone) number ≡ true
          → (n : ℕ) × ((mount_numbered nat_eq world number).namespace ≡ Some n) × (ours n ≡ true)
      goes number h =
          let from = among-from_filter (is_mount world gone) gone number
          (among_numbers (gone_there world gone) number h) in
          let at = any_among (λ (mount : Mount ℕ). nat_eq number mount.number) world.mounts from.1 in
          let same : number ≡ at.0.number = eqb-true number at.0.number at.2 in
          grind (arith, common_steps, placed_by, is_among_numbers, found_itself)
