-- What is attached in a namespace of a task keeps the invariants of mounts: binds, new mounts and moves.
use Rattle.std.proofs.Common.{◌≡◌, ap, subst, ◌∙◌, sym, true, nat_eq, ℕ, Bool, List, [], inl, inr, ◌⊎◌, ◌∷◌, ◌++◌, arith, flat_map, is_some, map, true≢false, ⊎_elim, ◌*◌, ◌+◌}
use Rattle.vt_spec.proofs.Common.{Among, Filesystem, Fresh, Location, MountFlags, MountInvariants, Namespace, Serves, Task, World, among-append, among-append_left, among-append_right, among-flat_map, among-from_flat_map, among-map, among_numbers, and_parts, bound_at, false_from_ne_true, found_or_none, is_among, is_among_numbers, is_there, mount_at, mount_numbered, mounted, moved_to, number-mount_in, numbers_in_use, odds, plain_filesystem, served-distinct, used_by_filesystem, used_by_mount, with_new_filesystem}
use Rattle.vt_laws_mounts.specs.Mounts.Attached.{IsAttachedAt}
use Rattle.vt_laws_mounts.specs.Mounts.Attaching.{is_mount, numbers_of}
use Rattle.vt_laws_mounts.specs.Mounts.Moving.{CanMove}
use Rattle.vt_laws_mounts.proofs.GroupsLiving.{all_live, tested_live}
use Rattle.vt_laws_mounts.proofs.attached.AttachedKept.{binds_keep_groups, moves_keep_groups, new_mounts_keep_groups}
use Rattle.vt_laws_mounts.proofs.attached.AttachedNowhere.{binds_keep_nowhere, moves_keep_nowhere, new_mounts_keep_nowhere}
use Rattle.vt_laws_mounts.proofs.attached.BindsStand.{binds_keep_numbers, binds_keep_places, binds_keep_standing, moves_keep_numbers, new_mounts_keep_numbers, new_mounts_keep_places, new_mounts_keep_standing}
use Rattle.vt_laws_mounts.proofs.moves.Moving.{moves_keep_places, moves_keep_standing}
use Rattle.vt_laws_worlds.specs.Worlds.Permits.{IsDestination, IsOwn, MayMoveTo}

-- The supply for what a new filesystem is mounted with serves beside it: its number and its root are of the other half.
module _ (world : World ℕ) (fresh : Fresh ℕ) (serves : Serves nat_eq world fresh) where
  abbrev new : Filesystem ℕ
  new = plain_filesystem nat_eq fresh

  abbrev of_mounts : List ℕ
  of_mounts = flat_map used_by_mount world.mounts

  abbrev of_filesystems : List ℕ
  of_filesystems = flat_map used_by_filesystem world.filesystems

  abbrev of_namespaces : List ℕ
  of_namespaces = map (λ (namespace : Namespace ℕ). namespace.number) world.namespaces

  abbrev in_use_with_new : List ℕ
  in_use_with_new = numbers_in_use (with_new_filesystem world new)

  -- what is in use with the new filesystem was so before, or is a number of its own
  used_with : (number : ℕ) → Among number in_use_with_new
      → Among number (numbers_in_use world) ⊎ Among number (used_by_filesystem new)
  used_with number m = ⊎_elim (λ l.
      ⊎_elim (λ of. inl (among-append_left (of_mounts ++ of_filesystems) of_namespaces number
      (among-append_left of_mounts of_filesystems number of))) (λ of.
      let from = among-from_flat_map used_by_filesystem (world.filesystems ++ (new ∷ [])) number of in
      ⊎_elim (λ old. inl (among-append_left (of_mounts ++ of_filesystems) of_namespaces number
      (among-append_right of_mounts of_filesystems number
      (among-flat_map used_by_filesystem world.filesystems from.0 number old from.2)))) (λ last. ⊎_elim
      (λ same. inr (subst (λ f. Among number (used_by_filesystem f)) same from.2)) (λ none. absurd none) last)
      (among-append world.filesystems (new ∷ []) from.0 from.1))
      (among-append of_mounts (flat_map used_by_filesystem (world.filesystems ++ (new ∷ []))) number l))
      (λ r. inl (among-append_right (of_mounts ++ of_filesystems) of_namespaces number r))
      (among-append (of_mounts ++ flat_map used_by_filesystem (world.filesystems ++ (new ∷ []))) of_namespaces number m)

  pub serves_with_new : Serves nat_eq (with_new_filesystem world (plain_filesystem nat_eq fresh)) (odds fresh)
  serves_with_new = record {
    unused = λ k. false_from_ne_true (is_among nat_eq (odds fresh k) in_use_with_new) (λ is.
        ⊎_elim (λ old.
        true≢false (sym (is_among_numbers (numbers_in_use world) (odds fresh k) old) ∙ serves.unused (2 * k + 1)))
        (own k) (used_with (odds fresh k) (among_numbers in_use_with_new (odds fresh k) is)));
    apart = λ j k e.
        let same : 2 * j + 1 ≡ 2 * k + 1 = serves.apart (2 * j + 1) (2 * k + 1) e in
        omega (arith, same);
  }
    where
      own : (k : ℕ) → Among (odds fresh k) (used_by_filesystem new) → ⊥
      own k m = ⊎_elim (λ e. let same : 2 * k + 1 ≡ 2 * 0 = served-distinct world fresh serves _ _ e in
          omega (arith, same)) (λ later. ⊎_elim
          (λ e. let same : 2 * k + 1 ≡ 2 * 1 = served-distinct world fresh serves _ _ e in
          omega (arith, same)) (λ none. none) later) m

module _ (world : World ℕ) (task : Task ℕ) (place : Location ℕ) (destination : IsDestination world task place) where
  pub destination_there : is_mount world place.mount ≡ true
  destination_there = (and_parts (is_mount world place.mount)
      (is_there nat_eq world (mount_at nat_eq world place).filesystem place.node) destination.directory.reached.there).0

  attached : IsAttachedAt world place
  attached = cc

  pub new_mount_kept : (fresh : Fresh ℕ) (flags : MountFlags) → Serves nat_eq world fresh → MountInvariants nat_eq world
      → MountInvariants nat_eq (mounted nat_eq (odds fresh) world place (plain_filesystem nat_eq fresh) flags)
  new_mount_kept fresh flags serves kept =
      let new = plain_filesystem nat_eq fresh in
      let larger = serves_with_new world fresh serves in
      record {
        one_number = new_mounts_keep_numbers world (odds fresh) place new flags larger kept.one_number;
        one_child = new_mounts_keep_places world (odds fresh) place new flags larger kept.one_number kept.nowhere
            kept.standing destination_there destination.free kept.one_child;
        standing = new_mounts_keep_standing world (odds fresh) place new flags larger kept.one_number kept.nowhere
            kept.standing destination_there;
        nowhere = new_mounts_keep_nowhere world (odds fresh) place new flags kept.nowhere attached;
        groups = all_live (mounted nat_eq (odds fresh) world place new flags)
            (new_mounts_keep_groups world (odds fresh) place new flags larger (tested_live world kept.groups));
      }

  pub bind_kept : (fresh : Fresh ℕ) (source : Location ℕ) (recursive : Bool) → Serves nat_eq world fresh
      → MountInvariants nat_eq world → MountInvariants nat_eq (bound_at nat_eq fresh world source place recursive)
  bind_kept fresh source recursive serves kept = record {
    one_number = binds_keep_numbers world fresh source place recursive serves kept.one_number kept.standing;
    one_child = binds_keep_places world fresh source place recursive serves kept.one_number kept.nowhere kept.standing
        destination_there destination.free kept.one_child;
    standing = binds_keep_standing world fresh source place recursive serves kept.one_number kept.nowhere kept.standing
        destination_there;
    nowhere = binds_keep_nowhere world fresh source place recursive kept.nowhere attached;
    groups = all_live (bound_at nat_eq fresh world source place recursive)
        (binds_keep_groups world fresh source place recursive serves kept.one_number kept.standing
        (tested_live world kept.groups));
  }

-- a mount of a namespace is there
pub own_there : (world : World ℕ) (task : Task ℕ) (mount : ℕ) → IsOwn world task mount → is_mount world mount ≡ true
own_there world task mount own = ⊎_elim (λ there. subst (λ n. is_mount world n ≡ true) (number-mount_in _ mount)
    (is_among_numbers (numbers_of world.mounts) (mount_numbered nat_eq world mount).number (among-map _ _ _ there)))
    (λ none. cc) (found_or_none _ mount)

-- the root of a mount, by its number
abbrev pub at_root_of : World ℕ → ℕ → Location ℕ
at_root_of world number = record { mount = number; node = (mount_numbered nat_eq world number).root }

pub move_kept : (world : World ℕ) (task : Task ℕ) (mount : ℕ) (place : Location ℕ) (fresh : Fresh ℕ)
    → MayMoveTo world task mount place → Serves nat_eq world fresh → MountInvariants nat_eq world
    → MountInvariants nat_eq (moved_to nat_eq fresh world (at_root_of world mount).mount place)
move_kept world task mount place fresh may serves kept =
    let source = at_root_of world mount in
    let can : CanMove world source place = record {
      placed = may.placed;
      one_namespace = may.destination.own ∙ sym may.own;
      outside = may.not_inside;
    } in
    record {
      one_number = moves_keep_numbers world fresh source place serves kept.one_number kept.standing;
      one_child = moves_keep_places world fresh source place serves kept can may.destination.free;
      standing = moves_keep_standing world fresh source place serves kept can;
      nowhere = moves_keep_nowhere world fresh source place kept.nowhere (ap is_some may.destination.own);
      groups = all_live (moved_to nat_eq fresh world source.mount place)
          (moves_keep_groups world fresh source place serves kept.one_number kept.standing
          (own_there world task mount may.own) (tested_live world kept.groups));
    }
