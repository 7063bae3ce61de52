-- The sweep of a part is the part of the sweep, where the tasks of a sealed set use no more than before.
use Rattle.std.proofs.Common.{sym, inl, ⊎_elim, ℕ, nat_eq, List, [], ◌∷◌, filter, not}
use Rattle.vt_spec.proofs.Common.{Among, Location, Task, TaskName, World, among-from_filter, among-from_flat_map, among_from_contains, contains_from_among, is_member_task, locations, members, outsiders, part_of, roots_and_directories}
use Rattle.vt_laws_members.proofs.Common.{IsSealed, filter_again, sealed_by}
use Rattle.vt_laws_members.proofs.judging.Common.{IsTheirs, directory_theirs, root_theirs}
use Rattle.vt_laws_members.specs.Changes.LettingGo.{LessIsSeenAlike, SweepsAlike, UsesNoMore}
use Rattle.vt_laws_members.proofs.changes.Common.{LetsGo, Retasks, part_of_less, sees_less}
use Rattle.vt_laws_members.proofs.changes.letting_go.SweptAlike.{swept_alike}

module _ {world : World ℕ} {names : List TaskName} (set : List TaskName) (sealing : IsSealed world names)
    (tasks : List (Task ℕ))
    (uses : UsesNoMore world names set tasks) where
  abbrev old : List (Task ℕ)
  old = members world names

  abbrev new : List (Task ℕ)
  new = filter (is_member_task set) tasks

  -- a root or working directory of theirs
  stood : (l : Location ℕ) → Among l (roots_and_directories old) → IsTheirs world names sealing.is.mounts l.mount
  stood l m =
      let from = among-from_flat_map (λ (t : Task ℕ). t.root ∷ t.directory ∷ []) old l m in
      ⊎_elim (λ e. rw e (root_theirs world names sealing.is from.0 from.1))
      (λ rest. ⊎_elim (λ e. rw e (directory_theirs world names sealing.is from.0 from.1)) (λ none. absurd none) rest)
      from.2

  lets_go : LetsGo sealing set tasks
  lets_go = record {
    own = uses.namespaces;
    roots = λ l m. stood l (among_from_contains (roots_and_directories old) l
        (uses.roots l (contains_from_among (roots_and_directories new) l m)));
    places = λ l m. inl (among_from_contains (locations old) l
        (uses.locations_used l (contains_from_among (locations new) l m)));
    others = λ l m. among_from_contains (locations (outsiders world names)) l
        (uses.others l (contains_from_among (locations (filter (λ t. not (is_member_task set t)) tasks)) l m));
  }

pub less_is_seen_alike : LessIsSeenAlike
less_is_seen_alike world names set is sealed_off tasks uses =
    let lets = lets_go set (sealed_by is sealed_off) tasks uses in
    sym (part_of_less is (filter (is_member_task set) tasks)
    (part_of nat_eq world names).change (sees_less (sealed_by is sealed_off) set tasks world.change lets)
    (filter_again (is_member_task set) tasks))

pub sweeps_alike : SweepsAlike
sweeps_alike world names set is sealed_off tasks uses =
    let retasks : Retasks world names set = record {
      sealing = sealed_by is sealed_off;
      tasks = tasks;
      tasks_too = filter (is_member_task set) tasks;
      lets = lets_go set (sealed_by is sealed_off) tasks uses;
      same = filter_again (is_member_task set) tasks;
      all = λ t m. (among-from_filter (is_member_task set) tasks t m).1;
    } in
    swept_alike retasks
