-- Lists of what is counted: what a step takes from them.
use Rattle.std.proofs.Common.{◌≡◌, not, refl, ap, ◌∙◌, ℕ, ◌+◌, nat_eq, eqb-true, eq-eqb, Bool, true, false, cond, ◌||◌, List, [], ◌∷◌, ◌++◌, filter, find, flat_map, Some, unwrap_or, arith, nat_lt, lt-ltb}
use Rattle.vt_spec.proofs.Common.{Filesystem, Mount, World, any_pair, common_steps, eqb-false, filesystem_numbered, folded, list_any, map_alike, map_twice, no_filesystem, or_parts}
use Rattle.vt_mounting.proofs.Common.{Among, Exchanges, Inode, MountEntry, OneNumberAMount, Shown, among-from_filter, among-map, changed, counted, entry_numbered, inode_uses, is_inode, mounts_in, none_among, none_from_among, times}
use Rattle.vt_mounting.specs.Detach.Uses.{mounts_shown}

-- a fold over two lists put together is one after the other
pub folded_append : {A B : Type 0} (f : A → B → A) (z : A) (xs ys : List B)
    → folded f z (xs ++ ys) ≡ folded f (folded f z xs) ys
folded_append f z [] ys = refl
folded_append f z (x ∷ xs) ys = folded_append f (f z x) xs ys

-- a number is above zero where it is not zero
pub positive : (a : ℕ) → nat_lt 0 a ≡ not (nat_eq a 0)
positive a = grind (arith, common_steps, eqb-true, eqb-false, lt-ltb)

-- what is lost may stand in another order
pub lost_alike : {gained lost : List Inode} (other : List Inode) {k : ℕ} {one two : World ℕ}
    → ((n : ℕ) → times (is_inode k n) lost ≡ times (is_inode k n) other) → Exchanges gained lost k one two
    → Exchanges gained other k one two
lost_alike other {k} {two} same exchanges = record {
  same = exchanges.same;
  uses = λ n. exchanges.uses n ∙ ap (λ t. inode_uses two (filesystem_numbered nat_eq two k) n + t) (same n);
}

-- a filter that skips only what gives nothing
pub flat_map_less : {A B : Type 0} (g : A → List B) (q : A → Bool) (xs : List A)
    → ((x : A) → Among x xs → q x ≡ false → g x ≡ []) → flat_map g (filter q xs) ≡ flat_map g xs
flat_map_less g q [] none = refl
flat_map_less g q (x ∷ xs) none = grind (arith, common_steps, flat_map_less g q xs)

-- a filesystem that passes is found also where others are left out
pub found_unless : (p : Filesystem ℕ → Bool) (filesystems : List (Filesystem ℕ)) (k : ℕ)
    → ((x : Filesystem ℕ) → Among x filesystems → x.number ≡ k → p x ≡ true)
    → unwrap_or (find (λ x. nat_eq k x.number) (filter p filesystems)) (no_filesystem k)
    ≡ unwrap_or (find (λ x. nat_eq k x.number) filesystems) (no_filesystem k)
found_unless p [] k stays = refl
found_unless p (x ∷ xs) k stays = grind (arith, common_steps, found_unless p xs k, eqb-true)

-- where each counts what a rule says, so does what is found
pub shown_by_rule : {f : ℕ} (counts : ℕ → ℕ) (all : List Shown)
    → ((one : Shown) → Among one all → one.mounts ≡ counts (counted one.count))
    → (one : Shown) → Among one all → f ≡ counted one.count → mounts_shown f all ≡ counts f
shown_by_rule counts [] each one m same = absurd m
shown_by_rule {f} counts (first ∷ rest) each one m same =
    grind (arith, common_steps, shown_by_rule {f = f} counts rest, eqb-true, eq-eqb)

-- Mounts by their numbers

-- mounts with one number each have it also where some are left out
pub one_number_less : (p : Mount ℕ → Bool) (mounts : List (Mount ℕ)) → OneNumberAMount mounts
    → OneNumberAMount (filter p mounts)
one_number_less p [] one = refl
one_number_less p (x ∷ xs) one =
    let parts = or_parts (list_any (λ b. nat_eq x.number b.number) xs)
    (any_pair (λ (a b : Mount ℕ). nat_eq a.number b.number) xs) one in
    by (p x) parts.0 (one_number_less p xs parts.1)
  where
    by : (b : Bool) → list_any (λ b. nat_eq x.number b.number) xs ≡ false → OneNumberAMount (filter p xs)
        → OneNumberAMount (cond b (x ∷ filter p xs) (filter p xs))
    by true others later = (λ i. none_from_among (λ b. nat_eq x.number b.number) (filter p xs)
        (λ y m. none_among (λ b. nat_eq x.number b.number) xs others y (among-from_filter p xs y m).0) i || later i)
    by false others later = later

-- an entry is found by its number
pub entry_itself : (entries : List MountEntry) → OneNumberAMount (mounts_in entries) → (entry : MountEntry)
    → Among entry entries → entry_numbered entries entry.mount.number ≡ Some entry
entry_itself [] one entry m = absurd m
entry_itself (x ∷ xs) one entry m =
    grind (arith, common_steps, entry_itself xs, eq-eqb, eqb-true, none_among, among-map)

-- a change that keeps each mount
pub mounts_unchanged : (number : ℕ) (change : MountEntry → MountEntry) (entries : List MountEntry)
    → ((entry : MountEntry) → (change entry).mount ≡ entry.mount)
    → mounts_in (changed number change entries) ≡ mounts_in entries
mounts_unchanged number change entries same = grind (arith, common_steps, map_twice, map_alike)

-- an entry that is found is there, and has the number
pub entry_found_at : (entries : List MountEntry) (number : ℕ) (entry : MountEntry)
    → entry_numbered entries number ≡ Some entry → Among entry entries × (number ≡ entry.mount.number)
entry_found_at [] number entry e = absurd cc
entry_found_at (x ∷ xs) number entry e = grind (arith, common_steps, entry_found_at xs number entry, eqb-true)
