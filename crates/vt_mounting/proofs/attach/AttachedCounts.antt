-- Mounts that come after all others: nothing is on them, and their numbers are greater.
use Rattle.std.proofs.Common.{◌≡◌, refl, sym, ◌∙◌, ℕ, ◌<◌, ◌%◌, ◌/◌, ◌==◌, nat_eq, eqb-true, nat_lt, Bool, true, false, true≢false, ◌&&◌, ◌||◌, List, [], ◌∷◌, ◌++◌, map, flat_map, arith, ltb-true, ne_eqb}
use Rattle.vt_spec.proofs.Common.{Task, all_locations, and-false, common_steps, is_among, list_all, locations_of}
use Rattle.vt_spec.specs.Machine.Mounts as meant
use Rattle.vt_mounting.proofs.Common.{Among, CountsItsUses, IsHeld, WorldValue, among-append_left, among-append_right, among-from_map, among-map, among_from_list_all, among_numbers, are_ascending, counted, is_among_numbers, is_counted_before, mount_of, mounts_in, times, world_of, writes_of}
use Rattle.vt_location.specs.declared.mounts.Mount.{Mount}
use Rattle.vt_mounting.specs.Detach.Uses.{unused_entry}
use Rattle.vt_mounting.proofs.attach.Beside.{IsBeside}
use Rattle.vt_mounting.proofs.attach.EnteringLemmas.{apart}
use Rattle.vt_mounting.proofs.detach.FilesSeen.{mount_named}

-- what no element passes is counted 0 times
pub times_none : {A : Type 0} (test : A → Bool) (xs : List A) → ((x : A) → Among x xs → test x ≡ false)
    → times test xs ≡ 0
times_none test [] none = refl
times_none test (x ∷ xs) none = grind (arith, common_steps, times_none test xs)

writes_none : (number : ℕ) (tasks : List (Task ℕ))
    → ((location : meant.Location ℕ) → Among location (flat_map locations_of tasks)
    → nat_eq number location.mount ≡ false) → writes_of number tasks ≡ 0
writes_none number [] none = refl
writes_none number (task ∷ tasks) none =
    grind (
      arith,
      common_steps,
      writes_none number tasks,
      times_none,
      among-append_left,
      among-map,
      among-append_right,
      and-false,
    )

-- Mounts that come after all others: nothing is on them
module _ {value : WorldValue} (whole : IsBeside value) (new : List Mount)
    (ascending : are_ascending (mounts_in value.mounts ++ map mount_of new) ≡ true) where
  -- no location is on one of them
  not_on_new : (mount : Mount) → Among mount new → (location : meant.Location ℕ)
      → Among location (all_locations (world_of value)) → nat_eq (counted mount.number.count) location.mount ≡ false
  not_on_new mount m location n =
      let on = among_numbers location.mount (map (λ (x : meant.Mount ℕ). x.number) (mounts_in value.mounts))
      (among_from_list_all (λ location. is_among nat_eq location.mount
      (map (λ (x : meant.Mount ℕ). x.number) (mounts_in value.mounts))) (all_locations (world_of value))
      whole.locations_stand location n) in
      let from = among-from_map (λ (x : meant.Mount ℕ). x.number) (mounts_in value.mounts) location.mount on in
      let less = apart (mounts_in value.mounts) (map mount_of new) ascending from.0 (mount_of mount) from.1
      (among-map mount_of new mount m) in
      let same_number : location.mount ≡ from.0.number = from.2 in
      ne_eqb (counted mount.number.count) location.mount (λ same. absurd (omega (arith, less, same_number, same)))

  pub unused_counts : (mount : Mount) → Among mount new → CountsItsUses (world_of value) (unused_entry mount)
  unused_counts mount m = record {
    uses = sym (times_none (λ (location : meant.Location ℕ). nat_eq (counted mount.number.count) location.mount)
        (all_locations (world_of value)) (not_on_new mount m));
    writers = sym (writes_none (counted mount.number.count) value.tasks (not_on_new mount m));
  }

-- Mounts of a world have lower numbers than what is counted next.
pub lower_numbers : (value : WorldValue) → IsHeld value
    → list_all (λ mount. mount.number % 4 == 1) (mounts_in value.mounts) ≡ true
    → (mount : meant.Mount ℕ) → Among mount (mounts_in value.mounts) → mount.number < counted value.next
lower_numbers value whole counts mount m =
    by (mount.number % 2 == 0) refl (nat_lt (mount.number / 4) value.next) refl named
  where
    is_odd : mount.number % 4 ≡ 1
    is_odd = eqb-true (mount.number % 4) 1
        (among_from_list_all (λ x. x.number % 4 == 1) (mounts_in value.mounts) counts mount m)

    named : is_counted_before value.next mount.number ≡ true
    named = mount_named value whole mount.number (any_number (mounts_in value.mounts) m)
      where
        any_number : (some : List (meant.Mount ℕ)) → Among mount some
            → is_among nat_eq mount.number (map (λ (x : meant.Mount ℕ). x.number) some) ≡ true
        any_number some n = is_among_numbers mount.number (map (λ (x : meant.Mount ℕ). x.number) some)
            (among-map (λ (x : meant.Mount ℕ). x.number) some mount n)

    by : (even : Bool) → (mount.number % 2 == 0) ≡ even → (less : Bool) → nat_lt (mount.number / 4) value.next ≡ less
        → (even || ((mount.number % 4 == 1) && less)) ≡ true → mount.number < counted value.next
    by true e less f g = let zero = eqb-true (mount.number % 2) 0 e in absurd (omega (arith, zero, is_odd))
    by false e true f g = let below = ltb-true (mount.number / 4) value.next f in omega (arith, below, is_odd)
    by false e false f g = absurd (true≢false (sym g ∙ and-false (mount.number % 4 == 1)))
