-- Events of tasks after which one location is left.
use Rattle.std.proofs.Common.{◌≡◌, ◌≢◌, refl, sym, ap, subst, ◌∙◌, ℕ, nat_eq, eqb-true, Bool, true, false, true≢false, cond, not, ◌&&◌, ◌||◌, List, [], ◌∷◌, map, find, Option, Some, None, option_map, is_some, unwrap_or, arith, nat_lt, lt-ltb}
use Rattle.vt_spec.proofs.Common.{Mount, Permit, Task, TaskName, World, common_steps, eqb-false, is_among, mount_numbered, no_mount, without_dead_mounts}
use Rattle.vt_laws_mounts.proofs.counts.going.Gone.{mount_goes_at_zero}
use Rattle.vt_mounting.proofs.Common.{Among, CountsItsUses, Filesystems, IsHeld, MountEntry, Tasks, WorldValue, all_in_use, among-from_map, among_from_list_all, entry_numbered, mount_uses, mounts_go_one_by_one, mounts_of_worlds_stand, times, without_mount, world_of}
pub use Rattle.vt_laws_mounts.proofs.letting_go.Lists.{found_in}
use Rattle.vt_laws_mounts.proofs.letting_go.leaving.PlacesLeft.{mounts_but}
use Rattle.vt_mounting.specs.Detach.Uses as meant
use Rattle.vt_mounting.specs.Detach.Uses.{Kept, Merged, kept_of, kept_with, overlays_kept}
use Rattle.vt_mounting.proofs.detach.Finishing.{IsApplied}
use Rattle.vt_mounting.proofs.detach.Going.{gone_done}
use Rattle.vt_mounting.proofs.detach.Moving.{Moves, Use, entry_counts, folded_entry, mounts_moved, moved_kept, moved_overlays, only_left, same_moved_mounts}
use Rattle.vt_mounting.proofs.detach.OverlaysRemade.{kept_itself}
use Rattle.vt_mounting.proofs.detach.Remaining.{remade, remade_with, remains_done}
use Rattle.vt_mounting.proofs.detach.Shown.{found_entry}
use Rattle.vt_mounting.proofs.detach.Staying.{IsDone, after}

pub none_among : (number : ℕ) (mounts : List (Mount ℕ)) → find (λ x. nat_eq number x.number) mounts ≡ None
    → is_among nat_eq number (map (λ x. x.number) mounts) ≡ false
none_among number [] e = refl
none_among number (x ∷ xs) e = grind (arith, common_steps, none_among number xs)

-- A use is left, with its mount if nothing is on it then, and each namespace has as many tasks as before.
pub record LeavesUse (value : WorldValue) (tasks : Tasks) (more : List Use) (left_use : Use)
    (mounts : List MountEntry) (filesystems : Filesystems) (overlays : List Merged) (name : TaskName)
    (permit : Permit ℕ) (task : Task ℕ) : Type 0 where
  pub whole : IsHeld value
  pub moves : Moves value tasks more (left_use ∷ [])
  pub is_kept : kept_with mounts filesystems overlays ≡ meant.let_go_mount left_use.location.mount
      (moved_kept (world_of value) more (left_use ∷ []) (kept_of value))
  pub is : IsApplied value name permit task (world_of (after value tasks))
  pub inside : (namespace : ℕ) → times (λ task. nat_eq namespace task.namespace) tasks
      ≡ times (λ task. nat_eq namespace task.namespace) value.tasks

module _ {value : WorldValue} {tasks : Tasks} {more : List Use} {left_use : Use} {mounts : List MountEntry}
    {filesystems : Filesystems} {overlays : List Merged} {name : TaskName} {permit : Permit ℕ} {task : Task ℕ}
    (leaves : LeavesUse value tasks more left_use mounts filesystems overlays name permit task) where
  open leaves use {whole, moves, is_kept, is, inside}

  abbrev world : World ℕ
  world = world_of value

  abbrev next : World ℕ
  next = world_of (after value tasks)

  abbrev number : ℕ
  number = left_use.location.mount

  abbrev moved : Kept
  moved = moved_kept world more (left_use ∷ []) (kept_of value)

  -- the mount is one of the world
  mount_listed : is_among nat_eq number (map (λ x. x.number) world.mounts) ≡ true
  mount_listed = grind (arith, common_steps, among_from_list_all)

  -- the sweep looks at that mount alone
  looked : without_dead_mounts nat_eq next
      ≡ cond (is_some (mount_numbered nat_eq next number).namespace || nat_lt 0 (mount_uses next number)) next
      (without_mount next number)
  looked = mounts_go_one_by_one next (number ∷ [])
      (mounts_but world tasks (left_use.location ∷ []) (all_in_use world whole.in_world)
      (mounts_of_worlds_stand world whole.in_world) (only_left value whole tasks more (left_use ∷ []) moves))
      ∙ mount_goes_at_zero next number whole.in_world.mounts.one_number

  pub left_done : IsDone value name permit (remade_with value mounts filesystems overlays tasks)
  left_done = by (entry_numbered moved.mounts number) refl
    where
      by : (o : Option MountEntry) → entry_numbered moved.mounts number ≡ o
          → IsDone value name permit (remade_with value mounts filesystems overlays tasks)
      by None e = absurd (true≢false (sym mount_listed ∙ none_among number world.mounts
          (ap (find (λ x. nat_eq number x.number)) (sym (same_moved_mounts world more (left_use ∷ []) (kept_of value)))
          ∙ found_entry number moved.mounts ∙ ap (option_map (λ entry. entry.mount)) e)))
      by (Some entry) e = chosen (is_some entry.mount.namespace) refl (nat_eq entry.uses 0) refl
        where
          found : Among entry moved.mounts × (nat_eq number entry.mount.number ≡ true)
          found = found_in (λ (x : MountEntry). nat_eq number x.mount.number) moved.mounts entry e

          numbered : number ≡ entry.mount.number
          numbered = eqb-true number entry.mount.number found.1

          mount_is : mount_numbered nat_eq world number ≡ entry.mount
          mount_is = ap (λ o. unwrap_or o (no_mount number)) (ap (find (λ x. nat_eq number x.number))
              (sym (same_moved_mounts world more (left_use ∷ []) (kept_of value)))
              ∙ found_entry number moved.mounts ∙ ap (option_map (λ entry. entry.mount)) e)

          uses_are : entry.uses ≡ mount_uses next number
          uses_are =
              let from = among-from_map (folded_entry more (left_use ∷ [])) value.mounts entry
              (subst (λ all. Among entry all) (mounts_moved world more (left_use ∷ []) (kept_of value)) found.0) in
              let counts = subst (CountsItsUses next) (sym from.2)
              (entry_counts value whole tasks more (left_use ∷ []) moves from.0 from.1) in
              counts.uses ∙ ap (mount_uses next) (sym numbered)

          kept_so : (b c : Bool) → is_some entry.mount.namespace ≡ b → nat_eq entry.uses 0 ≡ c
              → kept_with mounts filesystems overlays ≡ cond (not b && c) (meant.without_mount number entry.mount moved) moved
          kept_so b c f g = is_kept ∙ ap (meant.let_go_entry number moved) e
              ∙ (λ i. cond (not (f i) && g i) (meant.without_mount number entry.mount moved) moved)

          looked_so : (b c : Bool) → is_some entry.mount.namespace ≡ b → nat_lt 0 entry.uses ≡ c
              → without_dead_mounts nat_eq next ≡ cond (b || c) next (without_mount next number)
          looked_so b c f g = looked ∙ (λ i. cond (is_some (mount_is i).namespace || nat_lt 0 (sym uses_are i)) next
              (without_mount next number)) ∙ (λ i. cond (f i || g i) next (without_mount next number))

          some_uses : nat_eq entry.uses 0 ≡ false → nat_lt 0 entry.uses ≡ true
          some_uses g = let some : entry.uses ≢ 0 = eqb-false entry.uses 0 g in lt-ltb 0 entry.uses
              (omega (arith, some))

          stays : without_dead_mounts nat_eq next ≡ next → kept_with mounts filesystems overlays ≡ moved
              → IsDone value name permit (remade_with value mounts filesystems overlays tasks)
          stays stay same = subst (λ all. IsDone value name permit (record (remade value mounts filesystems tasks) {
            overlays = all;
          })) (sym (ap (λ all. overlays_kept all value.overlays)
              (ap (λ (k : Kept). k.overlays) same ∙ moved_overlays world more (left_use ∷ []) (kept_of value))
              ∙ kept_itself value whole))
              (remains_done value whole tasks more (left_use ∷ []) moves mounts filesystems overlays same stay name
              permit task is inside)

          chosen : (b : Bool) → is_some entry.mount.namespace ≡ b → (c : Bool) → nat_eq entry.uses 0 ≡ c
              → IsDone value name permit (remade_with value mounts filesystems overlays tasks)
          chosen true f c g = stays (looked_so true (nat_lt 0 entry.uses) f refl) (kept_so true c f g)
          chosen false f false g = stays (looked_so false true f (some_uses g)) (kept_so false false f g)
          chosen false f true g =
              gone_done (record {
                whole = whole;
                moves = moves;
                found_so = mount_is;
                there = mount_listed;
                nowhere = f;
                unused = sym uses_are ∙ eqb-true entry.uses 0 g;
                dead = looked_so false false f (ap (nat_lt 0) (eqb-true entry.uses 0 g));
                is_kept = kept_so false true f g;
              }) is inside
