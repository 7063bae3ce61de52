-- Where mounts of theirs go, in the world and in the part, the part is what is left of the part.
use Rattle.std.proofs.Common.{◌≡◌, refl, sym, ap, ◌∙◌, ℕ, nat_eq, Bool, true, List, [], ◌∷◌, filter, map}
use Rattle.vt_spec.proofs.Common.{MountInvariants, Namespace, TaskName, World, after_going, among-from_filter, is_member_task, list_any, lost_a_group, map_twice, numbers_raised, part_of, regrouped_by, settled, taken_away}
use Rattle.vt_laws_members.proofs.Common.{same_members}
use Rattle.vt_laws_members.proofs.changes.letting_go.Detached.{detached_parts}
use Rattle.vt_laws_members.proofs.changes.letting_go.NamespaceLess.{Detaches, LeavesWorlds, ended, ended_part, less_of_fewer}
use Rattle.vt_laws_members.proofs.changes.letting_go.Regrouped.{TheirsGo, flags_same, left_by, regroup_is, regrouped_mount, regrouped_so}

-- all of a list pass
filter_true : {A : Type 0} (xs : List A) → filter (λ (x : A). true) xs ≡ xs
filter_true [] = refl
filter_true (x ∷ xs) = cc (filter_true xs)

-- mounts of a world go
module _ (w : World ℕ) (gone : List ℕ) where
  -- whether some mount lost its group or its master
  abbrev pub group_lost : Bool
  group_lost = list_any (lost_a_group nat_eq (left_by w gone)) (map (after_going nat_eq w gone) w.mounts)

  taken_so : (b : Bool) → group_lost ≡ b → taken_away nat_eq w gone ≡ record (regrouped_so b (left_by w gone)) {
    mounts = map (λ m. regrouped_mount b (left_by w gone) (after_going nat_eq w gone m)) w.mounts;
    namespaces = filter (λ (n : Namespace ℕ). true) w.namespaces;
  }
  taken_so b lost = ap (λ c. regrouped_by nat_eq c (left_by w gone)) lost ∙ regroup_is b (left_by w gone)
      ∙ (λ i. record (regrouped_so b (left_by w gone)) {
        mounts = map_twice (regrouped_mount b (left_by w gone)) (after_going nat_eq w gone) w.mounts i;
        namespaces = sym (filter_true w.namespaces) i;
      })

-- These mounts of theirs go
module _ {world : World ℕ} {names : List TaskName} {gone : List ℕ} (go : TheirsGo world names gone) where
  abbrev part : World ℕ
  part = part_of nat_eq world names

  -- and all tasks and namespaces stay
  abbrev pub all_stay : Bool → Detaches world names names gone
  all_stay b = record {
    go = go;
    lasts = λ n. true;
    tasks = world.tasks;
    tasks_too = part.tasks;
    change = world.change;
    change_too = part.change;
    same = same_members world names;
    fewer = less_of_fewer world names go.is names world.tasks (λ t m. m);
    regroups = b;
  }

  -- what is left of the world, and of the part
  abbrev pub world_after : World ℕ
  world_after = ended (all_stay (group_lost world gone))

  abbrev pub part_after : World ℕ
  part_after = ended_part (all_stay (group_lost world gone))

  pub world_taken : taken_away nat_eq world gone ≡ world_after
  world_taken = taken_so world gone (group_lost world gone) refl

  pub part_taken : taken_away nat_eq part gone ≡ part_after
  part_taken = taken_so part gone (group_lost world gone) (sym (flags_same go))

  module _ (kept_world : MountInvariants nat_eq (taken_away nat_eq world gone))
      (kept_part : MountInvariants nat_eq (taken_away nat_eq part gone)) where
    pub worlds_left : LeavesWorlds (all_stay (group_lost world gone))
    worlds_left = record {
      others = λ l m. m;
      all = λ t m. (among-from_filter (is_member_task names) world.tasks t m).1;
      still = λ m there out its. its;
      kept = rw (← world_taken) kept_world;
      kept_there = rw (← part_taken) kept_part;
    }

    pub taken_parts : (name : TaskName)
        → part_of nat_eq (numbers_raised nat_eq world name [] (settled nat_eq (taken_away nat_eq world gone))) names
        ≡ part_of nat_eq (numbers_raised nat_eq part name [] (settled nat_eq (taken_away nat_eq part gone))) names
    taken_parts name = cc (world_taken, detached_parts (all_stay (group_lost world gone)) worlds_left name, part_taken)
