-- The flags of a mount are set: mount(2) with MS_REMOUNT.
use Rattle.std.proofs.Common.{◌≡◌, refl, sym, ap, subst, ◌∙◌, ℕ, nat_eq, true, cond, List, [], ◌∷◌, map, Some, is_some, arith, option_to_list}
use Rattle.vt_spec.proofs.Common.{Fresh, Mount, MountFlags, Permit, TaskName, ToSetFlags, apply, map_alike, mount_numbered, settled, with_mounts}
use Rattle.vt_mounting.proofs.Common.{Among, Exchanges, Has, IsHeld, Shown, WorldValue, among-map, changed, found_is_there, inode_at, is_among_numbers, is_counted_before, is_inode, mounts_in, number-mount_in, permit_named, shown, times, world_of}
use Rattle.vt_laws_mounts.specs.LettingGo.Keeping.{flags_if}
use Rattle.vt_laws_mounts.proofs.letting_go.leaving.UsesKept.{flags_are_of_one}
use Rattle.vt_mounting.specs.Detach.Events.{Permits}
use Rattle.vt_mounting.proofs.detach.FileEvents.{permit_fits}
use Rattle.vt_mounting.proofs.detach.FilesSeen.{mount_named}
use Rattle.vt_mounting.proofs.detach.LookLemmas.{nat_eq_turned}
use Rattle.vt_mounting.proofs.detach.Moving.{exchanged_shown}
use Rattle.vt_mounting.proofs.detach.MountsChanged.{KeepsWhatItShows, attached_entry, kind_kept, mount_is_changed, mounts_changed, next_of, one_changed, places_exchanged, with_mount_changed}
use Rattle.vt_mounting.proofs.detach.Remaining.{remade}
use Rattle.vt_mounting.proofs.detach.Staying.{IsDone}

-- A mount that keeps its mount point too

same_shown : (all : List Shown) → all ≡ map (exchanged_shown [] []) all
same_shown [] = refl
same_shown (one ∷ rest) = ap (λ others. one ∷ others) (same_shown rest)

-- a mount in a namespace has a counted number
pub attached_named : (value : WorldValue) → IsHeld value → (number namespace : ℕ)
    → (mount_numbered nat_eq (world_of value) number).namespace ≡ Some namespace
    → is_counted_before value.next number ≡ true
attached_named value held number namespace own = mount_named value held number
    (is_among_numbers number (map (λ (mount : Mount ℕ). mount.number) (mounts_in value.mounts))
    (subst (λ n. Among n (map (λ (mount : Mount ℕ). mount.number) (mounts_in value.mounts)))
    (number-mount_in (mounts_in value.mounts) number)
    (among-map (λ (mount : Mount ℕ). mount.number) (mounts_in value.mounts)
    (mount_numbered nat_eq (world_of value) number) (found_is_there (mounts_in value.mounts) number (ap is_some own)))))

module _ {value : WorldValue} (whole : IsHeld value) {name : TaskName} (number : ℕ) {permit : Permit ℕ}
    {change : Mount ℕ → Mount ℕ}
    (keeps : KeepsWhatItShows change) (stays : (mount : Mount ℕ) → (change mount).mount_point ≡ mount.mount_point)
    (permits : Permits value name permit)
    (own : (mount_numbered nat_eq (world_of value) number).namespace ≡ Some permits.task.namespace) where
  nothing_exchanged : (filesystem : ℕ)
      → Exchanges [] [] filesystem (world_of value) (next_of whole number keeps)
  nothing_exchanged filesystem =
      let found = attached_entry value number permits.task.namespace own in
      let moved = places_exchanged whole number keeps found.1 filesystem in
      record {
        same = moved.same;
        uses = λ n.
            let uses = moved.uses n in
            let same : times (is_inode filesystem n)
            (map (inode_at (world_of value)) (option_to_list (change found.0.mount).mount_point))
            ≡ times (is_inode filesystem n) (map (inode_at (world_of value)) (option_to_list found.0.mount.mount_point))
            = ap (λ o. times (is_inode filesystem n) (map (inode_at (world_of value)) (option_to_list o)))
            (stays found.0.mount) in
            omega (arith, uses, same);
      }

  -- the event of a change of one mount that keeps its mount point
  pub mount_is_retouched : Has (settled nat_eq (next_of whole number keeps)) value.groups
      → permit_named (is_counted_before value.next) permit ≡ true
      → ((fresh : Fresh ℕ) → (apply nat_eq fresh (world_of value) permits.task permit).world
      ≡ next_of whole number keeps) → IsDone value name permit (remade value
      (changed number (with_mount_changed change) value.mounts) value.filesystems value.tasks)
  mount_is_retouched has named applied = mount_is_changed whole number keeps [] [] value.filesystems
      (same_shown (shown value.filesystems)) nothing_exchanged (λ was m. refl) {name = name} {permit = permit}
      {task = permits.task}
      (record { called = permits.called; given = permits.given; named = named; applied = applied }) has

-- Flags

abbrev with_flags : MountFlags → Mount ℕ → Mount ℕ
with_flags flags mount = record mount { flags = flags }

flags_keep : (flags : MountFlags) → KeepsWhatItShows (with_flags flags)
flags_keep flags = record {
  number = λ mount. refl;
  namespace = λ mount. refl;
  filesystem = λ mount. refl;
  root = λ mount. refl;
}

pub flags_are_set : (value : WorldValue) → IsHeld value → (name : TaskName) (number : ℕ) (flags : MountFlags)
    → Permits value name (ToSetFlags number flags) → IsDone value name (ToSetFlags number flags)
    (remade value (changed number (λ entry.
    record entry { mount = record entry.mount { flags = flags } }) value.mounts) value.filesystems value.tasks)
flags_are_set value whole name number flags permits =
    let own = (permit_fits value whole name (ToSetFlags number flags) permits).names in
    mount_is_retouched whole number (flags_keep flags) (λ mount. refl) permits own
    (kind_kept whole number (flags_keep flags) (λ mount. refl))
    (attached_named value whole number permits.task.namespace own) (λ fresh. flags_are_of_one (world_of value)
    (record { mount = number; node = number }) flags whole.in_world.mounts.one_number
    ∙ ap (with_mounts (world_of value))
    (map_alike (flags_if number flags) (one_changed number (with_flags flags)) (mounts_in value.mounts)
    (λ mount m. ap (λ b. cond b (with_flags flags mount) mount) (nat_eq_turned mount.number number))
    ∙ sym (mounts_changed number (with_flags flags) value.mounts)))
