-- The world in which a namespace is filled that has a receiver of another's shared mount.
use Rattle.std.proofs.Common.{◌≡◌, refl, ap, ℕ, suc, nat_eq, true, false, List, [], ◌∷◌, None, Some, filter, length, map, arith, codes, unwrap_or}
use Rattle.vt_spec.proofs.Common.{Call, Directory, Filesystem, Fork, Mkdir, Mount, MountPlain, Namespace, One, Private, SetType, Shared, Task, TaskName, ToShared, Unshare, World, entries_in, entry_named, everything, execute_right, first_of_list, first_task, first_world, holds_of, is_directory_at, is_directory_node, is_directory_under, is_removed, is_removed_at, mount_in, no_filesystem, node_allows, node_at, numbers_for, plain_flags, policy, request_of, rest_of, root_attr, task_called, topmost, whole}
use Rattle.vt_laws_later_calls.proofs.Common.{Kept, calls_keep_worlds, mounts_overlay, names_few_groups, opening_is_a_world, plain_numbered}
use Rattle.vt_laws_later_calls.proofs.limits.ScriptLines.{AsksFor, numbers_go_on}
use Rattle.vt_laws_later_calls.proofs.limits.StackedMounts.{IsStack}
use Rattle.vt_laws_later_calls.proofs.limits.Supplies.{HasNumbersUntil, next_numbers_serve, opening_has_first_numbers}

-- the world after one line more
abbrev pub next_world : ℕ → World ℕ → TaskName → Call → World ℕ
next_world number world name call = (policy nat_eq (numbers_for number) world name call).world

-- the worlds after the first lines
abbrev pub world_1 : World ℕ
world_1 = next_world 1 first_world [] (Mkdir (codes "/s") None)

abbrev pub world_2 : World ℕ
world_2 = next_world 2 world_1 [] (Mkdir (codes "/q") None)

abbrev pub world_3 : World ℕ
world_3 = next_world 3 world_2 [] (MountPlain (codes "/s") plain_flags)

abbrev pub world_4 : World ℕ
world_4 = next_world 4 world_3 [] (SetType (codes "/s") ToShared false)

abbrev pub world_5 : World ℕ
world_5 = next_world 5 world_4 [] (Mkdir (codes "/s/d") None)

abbrev pub world_6 : World ℕ
world_6 = next_world 6 world_5 [] (Fork None)

-- a child of the first task has unshared its namespace: the shared mount has a peer there
abbrev pub world_7 : World ℕ
world_7 = next_world 7 world_6 (1 ∷ []) Unshare

-- its four mounts: the root mount and the shared mount of each namespace
abbrev pub root_mount : ℕ → ℕ → Mount ℕ
root_mount number namespace = record {
  number = number;
  namespace = Some namespace;
  mount_point = None;
  filesystem = 2;
  root = 3;
  flags = plain_flags;
  propagation = Private;
}

-- the mount of the shared filesystem in a namespace
abbrev pub shared_mount : ℕ → ℕ → ℕ → Mount ℕ
shared_mount number namespace parent = record {
  number = number;
  namespace = Some namespace;
  mount_point = Some (record { mount = parent; node = 6 });
  filesystem = 13;
  root = 22;
  flags = plain_flags;
  propagation = Shared 18;
}

-- all four
abbrev pub four_mounts : List (Mount ℕ)
four_mounts = root_mount 0 1 ∷ shared_mount 17 1 0 ∷ root_mount 47 39 ∷ shared_mount 66 39 47 ∷ []

-- its two tasks
abbrev pub first_of_two : ℕ → Task ℕ
first_of_two change = record (first_task nat_eq (λ place. place)) { forks = 1; change = change }

-- the child has its own namespace
abbrev pub second_of_two : Task ℕ
second_of_two = record (first_task nat_eq (λ place. place)) {
  name = 1 ∷ [];
  namespace = 39;
  root = record { mount = 47; node = 3 };
  directory = record { mount = 47; node = 3 };
  change = 1;
}

-- these are its mounts
pub mounts_are_four : world_7.mounts ≡ four_mounts
unfolding everything
mounts_are_four = refl

-- its namespaces
pub namespaces_are_two : map (λ (namespace : Namespace ℕ). namespace.number) world_7.namespaces ≡ 1 ∷ 39 ∷ []
unfolding everything
namespaces_are_two = refl

-- and its tasks
pub first_is_called : task_called world_7 [] ≡ Some (first_of_two 6)
unfolding everything
first_is_called = refl

pub second_is_called : task_called world_7 (1 ∷ []) ≡ Some second_of_two
unfolding everything
second_is_called = refl

-- its two trees
abbrev pub first_tree : Filesystem ℕ
first_tree = unwrap_or (first_of_list world_7.filesystems) (no_filesystem 0)

abbrev pub second_tree : Filesystem ℕ
second_tree = unwrap_or (first_of_list (rest_of world_7.filesystems)) (no_filesystem 0)

-- there are two filesystems
two_there_are : length world_7.filesystems ≡ 2
unfolding everything
two_there_are = refl

-- a list of two has a first and a second
list_of_two : {A : Type 0} (default : A) (list : List A) → length list ≡ 2
    → list ≡ unwrap_or (first_of_list list) default ∷ unwrap_or (first_of_list (rest_of list)) default ∷ []
list_of_two default [] e = absurd (omega arith)
list_of_two default (a ∷ []) e = absurd (omega arith)
list_of_two default (a ∷ b ∷ []) e = refl
list_of_two default (a ∷ b ∷ c ∷ list) e = absurd (omega arith)

-- these are its filesystems
pub filesystems_are_two : world_7.filesystems ≡ first_tree ∷ second_tree ∷ []
filesystems_are_two = list_of_two _ world_7.filesystems two_there_are

-- the numbers of the trees
pub first_number : first_tree.number ≡ 2
unfolding everything
first_number = refl

pub second_number : second_tree.number ≡ 13
unfolding everything
second_number = refl

-- the first tree has `q` and `s`
pub first_root : first_tree.files.tree.node 3 ≡ Some (record {
  attr = root_attr;
  content = Directory 3 ((codes "q", 9) ∷ (codes "s", 6) ∷ []) false;
})
unfolding everything
first_root = refl

-- the second one has `d`
pub second_root : second_tree.files.tree.node 22 ≡ Some (record {
  attr = root_attr;
  content = Directory 22 ((codes "d", 24) ∷ []) false;
})
unfolding everything
second_root = refl

-- which is a directory
pub second_place : is_directory_node (second_tree.files.tree.node 24) ≡ true
unfolding everything
second_place = refl

-- is not removed
pub second_place_stays : is_removed nat_eq second_tree.files.tree 24 ≡ false
unfolding everything
second_place_stays = refl

-- and lies under the root
pub second_place_reached : is_directory_under nat_eq second_tree.files 22 24 ≡ true
unfolding everything
second_place_reached = refl

-- The second task's root leads to `q`, on which no mount stands
pub own_root : node_at nat_eq world_7 (record { mount = 47; node = 3 }) ≡ Some (record {
  attr = root_attr;
  content = Directory 3 ((codes "q", 9) ∷ (codes "s", 6) ∷ []) false;
})
unfolding everything
own_root = refl

-- `q` is a directory
own_place : is_directory_at nat_eq world_7 (record { mount = 47; node = 9 }) ≡ true
unfolding everything
own_place = refl

-- and not removed
own_place_stays : is_removed_at nat_eq world_7 (record { mount = 47; node = 9 }) ≡ false
unfolding everything
own_place_stays = refl

-- what so many lines led to
pub record IsReached (last : ℕ) (world : World ℕ) : Type 0 where
  pub kept : Kept world
  pub has : HasNumbersUntil last world

-- a line of the whole language leads on
line_leads : (last : ℕ) (world : World ℕ) (line : List ℕ) (name : TaskName) (call : Call)
    → AsksFor (whole One) line name call → mounts_overlay call ≡ false → names_few_groups call ≡ true
    → IsReached last world → IsReached (suc last) (next_world (suc last) world name call)
line_leads last world line name call asked plainly few reached = record {
  kept = calls_keep_worlds world _ name call reached.kept.0 reached.kept.1
      (next_numbers_serve world last reached.has) plainly few;
  has = numbers_go_on (whole One) line name call asked world last
      _ reached.has refl;
}

-- the first seven lines lead to a world with the invariants
pub seven_are_reached : IsReached 7 world_7
unfolding request_of
seven_are_reached = line_leads 6 world_6 (codes "t.1 unshare") (1 ∷ []) Unshare
    (record { short = refl; loud = refl; asks = refl }) refl refl
    (line_leads 5 world_5 (codes "t fork") [] (Fork None) (record { short = refl; loud = refl; asks = refl }) refl refl
    (line_leads 4 world_4 (codes "t mkdir /s/d") [] (Mkdir (codes "/s/d") None)
    (record { short = refl; loud = refl; asks = refl }) refl refl
    (line_leads 3 world_3 (codes "t type /s shared") [] (SetType (codes "/s") ToShared false)
    (record { short = refl; loud = refl; asks = refl }) refl refl
    (line_leads 2 world_2 (codes "t mount plain /s") [] (MountPlain (codes "/s") plain_flags)
    (record { short = refl; loud = refl; asks = refl }) refl refl
    (line_leads 1 world_1 (codes "t mkdir /q") [] (Mkdir (codes "/q") None)
    (record { short = refl; loud = refl; asks = refl }) refl refl
    (line_leads 0 first_world (codes "t mkdir /s") [] (Mkdir (codes "/s") None)
    (record { short = refl; loud = refl; asks = refl }) refl refl (record {
      kept = opening_is_a_world (λ place. place) (λ j k same. same);
      has = opening_has_first_numbers;
    })))))))

-- the second task may stack mounts on `q`, beside the two that its namespace has
pub second_starts : IsStack world_7 (1 ∷ []) (codes "q") 2
second_starts = record {
  is = seven_are_reached.kept.0;
  plain = seven_are_reached.kept.1;
  task = second_of_two;
  called = second_is_called;
  admin = refl;
  object = 9;
  top = record { mount = 47; node = 9 };
  way = record {
    searched = ap is_directory_node own_root;
    plain = plain_numbered world_7 seven_are_reached.kept.1 _;
    searches = ap (node_allows second_of_two.credentials execute_right) own_root;
    entry = ap (λ node. entry_named (codes "q") (entries_in node)) own_root;
    leads = ap (λ mounts. topmost nat_eq mounts (record { mount = 47; node = 9 })) mounts_are_four;
    directory = own_place;
  };
  destination = record {
    ends = ap (λ mounts. topmost nat_eq mounts (record { mount = 47; node = 9 })) mounts_are_four;
    directory = own_place;
    stays = own_place_stays;
  };
  private = ap (λ mounts. (mount_in nat_eq mounts 47).propagation) mounts_are_four;
  inside = ap (λ mounts. (mount_in nat_eq mounts 47).namespace) mounts_are_four;
  counted = ap (λ mounts. length (filter (λ (mount : Mount ℕ). holds_of (nat_eq 39) mount.namespace) mounts))
      mounts_are_four;
}

-- in its own namespace
pub second_is_own : second_starts.task.namespace ≡ 39
unfolding second_starts
second_is_own = refl
