-- The second task fills its namespace, and unmounts one mount.
use Rattle.std.proofs.Common.{◌≡◌, refl, ap, subst, ◌∙◌, ℕ, suc, nat_eq, nat_lt, Bool, true, false, ◌&&◌, ◌+◌, ◌<◌, [], ◌∷◌, ◌++◌, Some, Ok, append_assoc, codes}
use Rattle.vt_spec.proofs.Common.{Done, Filesystem, Fresh, Mount, MountPlain, Serves, Umount, World, denial, denied, holds_of, list_all-append, most_mounts, most_symlinks, plain_flags, policy}
use Rattle.vt_laws_later_calls.proofs.Common.{Kept, M9, calls_keep_worlds, mount_count}
use Rattle.vt_laws_later_calls.proofs.Granted.{called_raised}
use Rattle.vt_laws_later_calls.specs.Limits.Room.{NeedsRoom, lacks_room}
use Rattle.vt_laws_later_calls.proofs.limits.AddedMount.{added_filesystem, added_mount}
use Rattle.vt_laws_later_calls.proofs.limits.PathWalks.{HasOneWord}
use Rattle.vt_laws_later_calls.proofs.limits.StackGrows.{filesystems_are, filesystems_not_raised, grown_namespace, grown_stack, mounts_are, numbers-raised_namespaces, stacked_world}
use Rattle.vt_laws_later_calls.proofs.limits.StackUnmounted.{top_is_unmounted, unmounted_world, world_given_back}
use Rattle.vt_laws_later_calls.proofs.limits.StackedMounts.{IsStack, mounted_world}
use Rattle.vt_laws_later_calls.proofs.limits.full_namespace.ReceiverRoom.{HasReceiver, TwoTrees, is_other, no_rule_fails, path_leads, place, room_of_other}
use Rattle.vt_laws_later_calls.proofs.limits.full_namespace.ReceiverWorld.{filesystems_are_two, first_is_called, first_number, first_of_two, first_root, first_tree, four_mounts, mounts_are_four, namespaces_are_two, second_number, second_place, second_place_reached, second_place_stays, second_root, second_is_own, second_starts, second_tree, world_7}
use Rattle.vt_laws_later_calls.proofs.limits.room.Refused.{new_mount_needs_room}

-- the path of the mount point
pub path_has_one_word : HasOneWord (codes "/q") (codes "q")
path_has_one_word = record { parsed = refl; absolute = refl; words_are = refl; named = refl }

-- the second task has stacked mounts, and its namespace has so many
pub record IsFilled (count : ℕ) (world : World ℕ) : Type 0 where
  pub stack : IsStack world (1 ∷ []) (codes "q") count
  pub own : stack.task.namespace ≡ 39
  pub receiver : HasReceiver first_tree second_tree world

-- the two trees
trees : TwoTrees first_tree second_tree
trees = record {
  first_number = first_number;
  second_number = second_number;
  first_root = first_root;
  second_root = second_root;
  place = second_place;
  stays = second_place_stays;
  reached = second_place_reached;
}

-- the namespace has two mounts at first
pub first_is_filled : IsFilled 2 world_7
first_is_filled = record {
  stack = second_starts;
  own = second_is_own;
  receiver = record {
    rest = [];
    more = [];
    mounts = mounts_are_four;
    filesystems = filesystems_are_two;
    others = refl;
    change = 6;
    called = first_is_called;
    listed = namespaces_are_two;
  };
}

module _ {count : ℕ} {world : World ℕ} (filled : IsFilled count world) {fresh : Fresh ℕ}
    (serves : Serves nat_eq world fresh) (room : count < most_mounts) where
  abbrev pub one_more : World ℕ
  one_more = stacked_world
      path_has_one_word filled.stack fresh plain_flags serves room

  -- the mount that comes
  abbrev new : Mount ℕ
  new = added_mount fresh world filled.stack.top plain_flags

  -- the filesystem that it shows
  abbrev added : Filesystem ℕ
  added = added_filesystem fresh world filled.stack.top plain_flags

  -- the world with both, before change numbers are raised
  abbrev mounted : World ℕ
  mounted = mounted_world path_has_one_word filled.stack fresh plain_flags

  -- one mount more
  pub fills_on : IsFilled (suc count) one_more
  fills_on = record {
    stack = grown_stack path_has_one_word filled.stack fresh plain_flags
        serves room;
    own = grown_namespace path_has_one_word filled.stack fresh plain_flags
        serves room ∙ filled.own;
    receiver = record {
      rest = filled.receiver.rest ++ (new ∷ []);
      more = filled.receiver.more ++ (added ∷ []);
      mounts = mounts_are path_has_one_word filled.stack fresh plain_flags
          serves room ∙ ap (λ mounts. mounts ++ (new ∷ [])) filled.receiver.mounts
          ∙ append_assoc four_mounts filled.receiver.rest (new ∷ []);
      filesystems = filesystems_are path_has_one_word filled.stack fresh
          plain_flags serves room ∙ ap (λ filesystems. filesystems ++ (added ∷ [])) filled.receiver.filesystems;
      others = list_all-append is_other filled.receiver.rest (new ∷ []) ∙ (λ i. filled.receiver.others i
          && (holds_of (nat_eq 39) ((filled.stack.inside ∙ ap (λ n. Some n) filled.own) i) && true));
      change = filled.receiver.change;
      called = called_raised (1 ∷ []) [] (first_of_two filled.receiver.change) world.tasks filled.receiver.called;
      listed = numbers-raised_namespaces world mounted world.namespaces ∙ filled.receiver.listed;
    };
  }

  -- the topmost mount unmounted
  abbrev pub one_less : World ℕ
  one_less = unmounted_world
      path_has_one_word filled.stack plain_flags serves room

  -- that world before change numbers are raised
  abbrev left : World ℕ
  left = world_given_back path_has_one_word filled.stack plain_flags
      serves room

  -- the first task finds what it found
  pub receiver_is_left : HasReceiver first_tree second_tree one_less
  receiver_is_left = record {
    rest = filled.receiver.rest;
    more = filled.receiver.more;
    mounts = filled.receiver.mounts;
    filesystems = filesystems_not_raised world.filesystems ∙ filled.receiver.filesystems;
    others = filled.receiver.others;
    change = filled.receiver.change;
    called = called_raised (1 ∷ []) [] (first_of_two filled.receiver.change) one_more.tasks
        (called_raised (1 ∷ []) [] (first_of_two filled.receiver.change) world.tasks filled.receiver.called);
    listed = numbers-raised_namespaces one_more left one_more.namespaces
        ∙ numbers-raised_namespaces world mounted world.namespaces ∙ filled.receiver.listed;
  }

  -- and the invariants hold
  pub one_less_is_kept : (handed : Fresh ℕ) → Serves nat_eq one_more handed → Kept one_less
  one_less_is_kept handed handed_serves =
      subst Kept (ap (λ outcome. outcome.world) (top_is_unmounted
      path_has_one_word filled.stack plain_flags serves room handed))
      (calls_keep_worlds one_more handed (1 ∷ []) (Umount (codes "/q")) fills_on.stack.is fills_on.stack.plain
      handed_serves refl refl)

-- The mount on the shared one
module _ {world : World ℕ} (kept : Kept world) (receiver : HasReceiver first_tree second_tree world) {count : ℕ}
    (counted : mount_count world 39 ≡ count) (fresh : Fresh ℕ) where
  -- needs room in the other namespace
  abbrev lacking : Bool
  lacking = lacks_room world place 1

  needs_room : NeedsRoom world (policy nat_eq fresh world [] (MountPlain (codes "/s/d") plain_flags)) lacking
  needs_room = new_mount_needs_room world fresh [] (first_of_two receiver.change) (codes "/s/d") plain_flags (record {
    location = place;
    left = most_symlinks;
    steps = (path_leads trees kept.0 kept.1 receiver).0;
  }) kept.0 receiver.called refl (path_leads trees kept.0 kept.1 receiver).1
      (no_rule_fails trees kept.0 kept.1 receiver)

  -- is refused while that is full
  pub full_receiver_refuses : nat_lt most_mounts (count + 1) ≡ true
      → policy nat_eq fresh world [] (MountPlain (codes "/s/d") plain_flags) ≡ denied world (denial M9)
  full_receiver_refuses full = needs_room.0 (room_of_other trees kept.0 kept.1 receiver count counted ∙ full)

  -- and granted while it is not
  pub receiver_with_room_grants : nat_lt most_mounts (count + 1) ≡ false
      → (policy nat_eq fresh world [] (MountPlain (codes "/s/d") plain_flags)).answer ≡ Ok Done
  receiver_with_room_grants has = needs_room.1 (room_of_other trees kept.0 kept.1 receiver count counted ∙ has)
