-- The mounts of a namespace, by their numbers.
use Rattle.std.proofs.Common.{◌≡◌, ℕ, nat_eq, Bool, List, map}
use Rattle.vt_spec.proofs.Common.{Among, Mount, World, among-filter, among-from_filter, among-from_map, among-map, among_numbers, holds_of, is_among_numbers, is_going, mounts_of, same_truth}
use Rattle.vt_laws_members.proofs.Common.{OneNumberEach, found_itself}

-- the mount is in the namespace
abbrev pub in_space : ℕ → Mount ℕ → Bool
in_space k m = holds_of (nat_eq k) m.namespace

abbrev pub numbers_in : World ℕ → ℕ → List ℕ
numbers_in b k = map (λ (m : Mount ℕ). m.number) (mounts_of nat_eq b k)

pub in_same : (b : World ℕ) (k : ℕ) → OneNumberEach b → (m : Mount ℕ) → Among m b.mounts
    → is_going nat_eq (numbers_in b k) m.number ≡ in_space k m
in_same b k one m n = same_truth _ _ (λ h. let at = among-from_map _ _ m.number (among_numbers _ m.number h) in
    let from = among-from_filter (in_space k) b.mounts at.0 at.1 in
    let same : at.0 ≡ m = cc (found_itself b.mounts one at.0 from.0, found_itself b.mounts one m n) in
    cc) (λ h. is_among_numbers (numbers_in b k) m.number (among-map _ _ m (among-filter (in_space k) b.mounts m n h)))
