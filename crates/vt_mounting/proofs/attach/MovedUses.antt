-- What code counts once mounts are attached and a task's root and working directory have gone to them.
use Rattle.std.proofs.Common.{◌≡◌, ◌≤◌, refl, sym, ap, subst, ◌∙◌, ⊎_elim, ℕ, ◌+◌, nat_eq, eqb-true, Bool, true, false, cond, ◌&&◌, List, [], ◌∷◌, ◌++◌, map, arith}
use Rattle.vt_spec.proofs.Common.{Descriptor, Location, Mount, World, all_locations, any_pair, common_steps, is_among, list_any, locations_of, map-append, map_alike, map_twice, or_parts}
use Rattle.vt_laws_mounts.proofs.counts.using.MountRoots as Roots
use Rattle.vt_mounting.proofs.Common.{Among, CountsItsUses, IsHeld, MountEntry, OneNumberAMount, Tasks, WorldValue, among-append, among-append_right, among-from_map, among-map, among_from_all, among_from_list_all, among_numbers, changed, held, locations_in, mount_of, mount_uses, mounts_in, none_among, one_if, released, times, times_append, world_of, writes_of, writes_on}
use Rattle.vt_location.specs.declared.mounts.Mount.{Mount as Attached}
use Rattle.vt_mounting.specs.Attach.Copying.{with_use_moved}
use Rattle.vt_mounting.specs.Detach.Uses.{unused_entry}
use Rattle.vt_mounting.proofs.attach.AddedBegins.{IsAdded}
use Rattle.vt_mounting.proofs.detach.Moving.{nat_eq_turned}

-- One use goes from a mount to another

abbrev held_at : ℕ → MountEntry → MountEntry
held_at to entry = cond (nat_eq to entry.mount.number) (held false entry) entry

abbrev released_at : ℕ → MountEntry → MountEntry
released_at from entry = cond (nat_eq from entry.mount.number) (released false entry) entry

abbrev pub moved_entry : ℕ → ℕ → MountEntry → MountEntry
moved_entry from to entry = cond (nat_eq from to) entry (released_at from (held_at to entry))

pub moved_each : (from to : ℕ) (entries : List MountEntry)
    → with_use_moved from to entries ≡ map (moved_entry from to) entries
moved_each from to entries = by (nat_eq from to)
  where
    itself : (list : List MountEntry) → list ≡ map (λ entry. entry) list
    itself [] = refl
    itself (entry ∷ rest) = ap (λ list. entry ∷ list) (itself rest)

    by : (b : Bool) → cond b entries (changed from (released false) (changed to (held false) entries))
        ≡ map (λ entry. cond b entry (released_at from (held_at to entry))) entries
    by true = itself entries
    by false = map_twice (released_at from) (held_at to) entries

pub record IsMovedEntry (from to : ℕ) (was is : MountEntry) : Type 0 where
  pub mount : is.mount ≡ was.mount
  pub uses : is.uses + one_if (nat_eq was.mount.number from) ≡ was.uses + one_if (nat_eq was.mount.number to)
  pub writers : is.writers ≡ was.writers

pub entry_is_moved : (from to : ℕ) (was : MountEntry) → one_if (nat_eq was.mount.number from) ≤ was.uses
    → IsMovedEntry from to was (moved_entry from to was)
entry_is_moved from to was some = by (nat_eq from to) refl
  where
    n : ℕ
    n = was.mount.number

    two : (c d : Bool) → nat_eq to n ≡ c → nat_eq from n ≡ d → one_if (nat_eq n from) ≡ one_if d
        → one_if (nat_eq n to) ≡ one_if c → IsMovedEntry from to was (released_at from (cond c (held false was) was))
    two true true e f g h = record {
      mount = ap (λ b. (cond b (released false (held false was)) (held false was)).mount) f;
      uses = ap (λ b. (cond b (released false (held false was)) (held false was)).uses + one_if (nat_eq n from)) f
          ∙ omega (arith, g, h, some);
      writers = ap (λ b. (cond b (released false (held false was)) (held false was)).writers) f ∙ omega arith;
    }
    two true false e f g h = record {
      mount = ap (λ b. (cond b (released false (held false was)) (held false was)).mount) f;
      uses = ap (λ b. (cond b (released false (held false was)) (held false was)).uses + one_if (nat_eq n from)) f
          ∙ omega (arith, g, h);
      writers = ap (λ b. (cond b (released false (held false was)) (held false was)).writers) f ∙ omega arith;
    }
    two false true e f g h = record {
      mount = ap (λ b. (cond b (released false was) was).mount) f;
      uses = ap (λ b. (cond b (released false was) was).uses + one_if (nat_eq n from)) f ∙ omega (arith, g, h, some);
      writers = ap (λ b. (cond b (released false was) was).writers) f ∙ omega arith;
    }
    two false false e f g h = record {
      mount = ap (λ b. (cond b (released false was) was).mount) f;
      uses = ap (λ b. (cond b (released false was) was).uses + one_if (nat_eq n from)) f ∙ omega (arith, g, h);
      writers = ap (λ b. (cond b (released false was) was).writers) f;
    }

    by : (b : Bool) → nat_eq from to ≡ b → IsMovedEntry from to was (cond b was (released_at from (held_at to was)))
    by true e = record {
      mount = refl;
      uses = ap (λ k. was.uses + one_if (nat_eq n k)) (eqb-true from to e);
      writers = refl;
    }
    by false e = two (nat_eq to n) (nat_eq from n) refl refl (ap one_if (nat_eq_turned n from))
        (ap one_if (nat_eq_turned n to))

-- Mounts that nothing is on

apart_from : (xs ys : List (Mount ℕ)) → OneNumberAMount (xs ++ ys) → (x y : Mount ℕ) → Among x xs → Among y ys
    → nat_eq y.number x.number ≡ false
apart_from [] ys one x y m n = absurd m
apart_from (first ∷ xs) ys one x y m n =
    let parts = or_parts (list_any (λ b. nat_eq first.number b.number) (xs ++ ys))
    (any_pair (λ (a b : Mount ℕ). nat_eq a.number b.number) (xs ++ ys)) one in
    ⊎_elim (λ same. ap (λ (z : Mount ℕ). nat_eq y.number z.number) same ∙ nat_eq_turned y.number first.number
    ∙ none_among (λ b. nat_eq first.number b.number) (xs ++ ys) parts.0 y (among-append_right xs ys y n))
    (λ later. apart_from xs ys parts.1 x y later n) m

none_on : (n : ℕ) (locations : List (Location ℕ))
    → ((location : Location ℕ) → Among location locations → nat_eq n location.mount ≡ false)
    → times (λ location. nat_eq n location.mount) locations ≡ 0
none_on n [] none = refl
none_on n (first ∷ rest) none = grind (arith, common_steps, none_on n rest)

writes_below : (n : ℕ) (tasks : Tasks)
    → writes_of n tasks ≤ times (λ location. nat_eq n location.mount) (locations_in tasks)
writes_below n [] = omega arith
writes_below n (task ∷ tasks) =
    let rest = writes_below n tasks in
    let all = times_append (λ (location : Location ℕ). nat_eq n location.mount) (locations_of task)
    (locations_in tasks) in
    let own = files task.descriptors in
    omega (arith, rest, all, own)
  where
    one : (a b : Bool) → one_if (a && b) ≤ one_if b
    one true true = omega arith
    one true false = omega arith
    one false true = omega arith
    one false false = omega arith

    files : (descriptors : List (Descriptor ℕ))
        → times (writes_on n) descriptors ≤ times (λ (location : Location ℕ). nat_eq n location.mount)
        (map (λ (d : Descriptor ℕ). d.location) descriptors)
    files [] = omega arith
    files (d ∷ rest) = let later = files rest in let here = one d.writes (nat_eq n d.location.mount) in omega
        (arith, later, here)

-- The mounts with those that were attached, and two uses that went to them
module _ {value : WorldValue} (whole : IsHeld value) (copies : List Attached) {tasks : Tasks} {goes : Mount ℕ → Bool}
    {root directory new_root new_directory : Location ℕ}
    (is : IsAdded value (map mount_of copies) tasks (new_root ∷ new_directory ∷ []) (root ∷ directory ∷ []) goes) where
  abbrev world : World ℕ
  world = world_of value

  abbrev pub attached_entries : List MountEntry
  attached_entries = value.mounts ++ map unused_entry copies

  abbrev pub moved_entries : List MountEntry
  moved_entries = with_use_moved directory.mount new_directory.mount
      (with_use_moved root.mount new_root.mount attached_entries)

  abbrev both : MountEntry → MountEntry
  both entry = moved_entry directory.mount new_directory.mount (moved_entry root.mount new_root.mount entry)

  pub record StartsAs (entry : MountEntry) : Type 0 where
    pub uses : entry.uses ≡ mount_uses world entry.mount.number
    pub writers : entry.writers ≡ writes_of entry.mount.number value.tasks

  starts : (entry : MountEntry) → Among entry attached_entries → StartsAs entry
  starts entry m = ⊎_elim
      (λ old. let counts = among_from_all (CountsItsUses world) value.mounts whole.mounts entry old in record { uses = counts.uses; writers = counts.writers })
      (λ new.
      let from = among-from_map unused_entry copies entry new in
      let none : mount_uses world (mount_of from.0).number
      ≡ 0 = none_on (mount_of from.0).number (all_locations world) (λ location n.
      let there = among_from_list_all (λ (l : Location ℕ). is_among nat_eq l.mount (map (λ x. x.number) world.mounts))
      (all_locations world) (Roots.locations_of_worlds_stand world whole.in_world) location n in
      let mount = among-from_map (λ (x : Mount ℕ). x.number) world.mounts location.mount
      (among_numbers location.mount (map (λ (x : Mount ℕ). x.number) world.mounts) there) in
      ap (nat_eq (mount_of from.0).number) mount.2
      ∙ apart_from world.mounts (map mount_of copies) is.one_number mount.0 (mount_of from.0) mount.1
      (among-map mount_of copies from.0 from.1)) in
      let below = writes_below (mount_of from.0).number value.tasks in
      let written : writes_of (mount_of from.0).number value.tasks ≡ 0 = omega (arith, none, below) in
      subst StartsAs (sym from.2) (record { uses = sym none; writers = sym written }))
      (among-append value.mounts (map unused_entry copies) entry m)

  enough : (n : ℕ) → one_if (nat_eq n root.mount) + one_if (nat_eq n directory.mount) ≤ mount_uses world n
  enough n = grind (arith, common_steps, times_append)

  pub record EndsAs (was entry : MountEntry) : Type 0 where
    pub mount : entry.mount ≡ was.mount
    pub uses : entry.uses + times (λ (location : Location ℕ). nat_eq entry.mount.number location.mount)
        (root ∷ directory ∷ []) ≡ mount_uses world entry.mount.number + times
        (λ (location : Location ℕ). nat_eq entry.mount.number location.mount) (new_root ∷ new_directory ∷ [])
    pub writers : entry.writers ≡ writes_of entry.mount.number value.tasks

  ends : (was : MountEntry) → StartsAs was → EndsAs was (both was)
  ends was counts =
      let n = was.mount.number in
      let some = enough n in
      let start = counts.uses in
      let first = entry_is_moved root.mount new_root.mount was (omega (arith, some, start)) in
      let first_uses = first.uses in
      let middle = moved_entry root.mount new_root.mount was in
      let enough_left : one_if (nat_eq middle.mount.number directory.mount) ≤ middle.uses =
      subst (λ (x : Mount ℕ). one_if (nat_eq x.number directory.mount) ≤ middle.uses) (sym first.mount)
      (omega (arith, some, start, first_uses)) in
      let second = entry_is_moved directory.mount new_directory.mount middle enough_left in
      let second_uses = second.uses ∙ ap
      (λ (x : Mount ℕ). middle.uses + one_if (nat_eq x.number new_directory.mount)) first.mount in
      let left = ap (λ (x : Mount ℕ). (both was).uses + one_if (nat_eq x.number directory.mount)) (sym first.mount) in
      let same : (both was).mount ≡ was.mount = second.mount ∙ first.mount in
      subst (λ (x : Mount ℕ). ((both was).mount ≡ was.mount)
      × ((both was).uses + times (λ (location : Location ℕ). nat_eq x.number location.mount) (root ∷ directory ∷ [])
      ≡ mount_uses world x.number + times (λ (location : Location ℕ). nat_eq x.number location.mount)
      (new_root ∷ new_directory ∷ []))
      × ((both was).writers ≡ writes_of x.number value.tasks) → EndsAs was (both was)) same
      (λ parts. record { mount = parts.0; uses = parts.1; writers = parts.2 })
      (same, omega (arith, start, first_uses, second_uses, left), second.writers ∙ first.writers ∙ counts.writers)

  entries_each : moved_entries ≡ map both attached_entries
  entries_each =
      cc (
        moved_each directory.mount new_directory.mount (with_use_moved root.mount new_root.mount attached_entries),
        moved_each root.mount new_root.mount attached_entries,
        map_twice (moved_entry directory.mount
            new_directory.mount) (moved_entry root.mount new_root.mount) attached_entries,
      )

  pub moved_was : (entry : MountEntry) → Among entry moved_entries → (was : MountEntry) × EndsAs was entry
  moved_was entry m =
      let from = among-from_map both attached_entries entry (subst (Among entry) entries_each m) in
      (from.0, subst (EndsAs from.0) (sym from.2) (ends from.0 (starts from.0 from.1)))

  pub moved_mounts : mounts_in moved_entries ≡ world.mounts ++ map mount_of copies
  moved_mounts = ap mounts_in entries_each ∙ map_twice (λ (entry : MountEntry). entry.mount) both attached_entries
      ∙ map_alike (λ entry. (both entry).mount) (λ entry. entry.mount) attached_entries
      (λ entry m. (ends entry (starts entry m)).mount)
      ∙ map-append (λ (entry : MountEntry). entry.mount) value.mounts (map unused_entry copies)
      ∙ ap (λ new. world.mounts ++ new) (map_twice (λ (entry : MountEntry). entry.mount) unused_entry copies)
