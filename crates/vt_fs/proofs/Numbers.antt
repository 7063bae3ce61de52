-- The numbers beside a tree.
use Rattle.std.proofs.Common.{◌≡◌, refl, sym, ap, ◌∙◌, ℕ, zero, suc, ◌+◌, ◌<◌, nat_eq, eq-eqb, ne_eqb, eqb-true, Bool, true, false, cond, ◌||◌, List, [], ◌∷◌, map, length, slice_index_or, count_by, Option, Some, None, is_some, option_map, unwrap_or, arith, find}
use Rattle.vt_spec.proofs.Common.{Filesystem, Inode, any_pair, is_among, no_filesystem, node_in, or_false_left, or_false_right, renamed_inode, same_truth, sum_by-cons}
use Rattle.vt_location.specs.Numbers.{counted, exchanged, inode_number, is_inode_of}
use Rattle.vt_fs.specs.FilesystemsValue.{Filesystems, entry_of, filesystem_seen, filesystems_seen, filled_from, no_entry}
use Rattle.vt_fs.specs.Laws.{FilesystemsAreFound, NumbersAreApart, NumbersAreCounted, NumbersAreListed}
use Rattle.vt_location.proofs.NumberLemmas.{counted_test, exchanged_back, inode_same, slot_of}

abbrev Slots : Type 0
Slots = List (Option (Inode ℕ))

-- As many as there are inodes

length-filled : (slot : ℕ) (slots : Slots) → length (filled_from slot slots) ≡ count_by is_some slots
length-filled slot [] = refl
length-filled slot (None ∷ rest) = length-filled (slot + 1) rest
    ∙ sym (sum_by-cons (λ (o : Option (Inode ℕ)). cond (is_some o) 1 0) None rest ∙ omega arith)
length-filled slot (Some inode ∷ rest) =
    let more = length-filled (slot + 1) rest in
    let all = sum_by-cons (λ (o : Option (Inode ℕ)). cond (is_some o) 1 0) (Some inode) rest in
    ap suc more ∙ sym (all ∙ omega arith)

length-map : (f : ℕ → ℕ) (list : List ℕ) → length (map f list) ≡ length list
length-map f [] = refl
length-map f (n ∷ rest) = ap suc (length-map f rest)

pub numbers_counted : NumbersAreCounted
numbers_counted entry = length-map (exchanged entry.count) (filled_from 0 entry.tree.slots)
    ∙ length-filled 0 entry.tree.slots

-- Those that are there

below_none : (k slot : ℕ) (slots : Slots) → k < slot → is_among nat_eq k (filled_from slot slots) ≡ false
below_none k slot [] low = refl
below_none k slot (None ∷ rest) low = below_none k (slot + 1) rest (omega arith)
below_none k slot (Some inode ∷ rest) low =
    (λ i. ne_eqb k slot (λ e. omega (arith, e, low)) i || below_none k (slot + 1) rest (omega arith) i)

among-filled : (slot j : ℕ) (slots : Slots)
    → is_among nat_eq (slot + j) (filled_from slot slots) ≡ is_some (slice_index_or slots j None)
among-filled slot j [] = refl
among-filled slot zero (None ∷ rest) = below_none (slot + 0) (slot + 1) rest (omega arith)
among-filled slot zero (Some inode ∷ rest) = ap (λ b. b || is_among nat_eq (slot + 0) (filled_from (slot + 1) rest))
    (eq-eqb (slot + 0) slot (omega arith))
among-filled slot (suc j) (None ∷ rest) =
    let next : slot + suc j ≡ (slot + 1) + j = omega arith in
    ap (λ n. is_among nat_eq n (filled_from (slot + 1) rest)) next ∙ among-filled (slot + 1) j rest
among-filled slot (suc j) (Some inode ∷ rest) =
    let next : slot + suc j ≡ (slot + 1) + j = omega arith in
    ap (λ b. b || is_among nat_eq (slot + suc j) (filled_from (slot + 1) rest))
    (ne_eqb (slot + suc j) slot (λ e. omega (arith, e)))
    ∙ ap (λ n. is_among nat_eq n (filled_from (slot + 1) rest)) next ∙ among-filled (slot + 1) j rest

module _ (f : ℕ) where
  same_test : (a b : ℕ) → nat_eq a (exchanged f b) ≡ nat_eq (exchanged f a) b
  same_test a b = same_truth _ _
      (λ e. eq-eqb (exchanged f a) b (ap (exchanged f) (eqb-true a (exchanged f b) e) ∙ exchanged_back f b))
      (λ e. eq-eqb a (exchanged f b) (sym (exchanged_back f a) ∙ ap (exchanged f) (eqb-true (exchanged f a) b e)))

  among-numbers : (number : ℕ) (list : List ℕ)
      → is_among nat_eq number (map (exchanged f) list) ≡ is_among nat_eq (exchanged f number) list
  among-numbers number [] = refl
  among-numbers number (n ∷ rest) = λ i. same_test number n i || among-numbers number rest i

  apart-numbers : (list : List ℕ) → any_pair nat_eq list ≡ false → any_pair nat_eq (map (exchanged f) list) ≡ false
  apart-numbers [] e = refl
  apart-numbers (n ∷ rest) e =
      (λ i. (among-numbers (exchanged f n) rest ∙ ap (λ k. is_among nat_eq k rest) (exchanged_back f n)
      ∙ or_false_left (is_among nat_eq n rest) _ e) i
      || apart-numbers rest (or_false_right (is_among nat_eq n rest) _ e) i)

pub numbers_listed : NumbersAreListed
numbers_listed entry number =
    let slot = exchanged entry.count number in
    let from : slot ≡ 0 + slot = omega arith in
    among-numbers entry.count number (filled_from 0 entry.tree.slots)
    ∙ ap (λ n. is_among nat_eq n (filled_from 0 entry.tree.slots)) from ∙ among-filled 0 slot entry.tree.slots
    ∙ by (slice_index_or entry.tree.slots slot None)
  where
    by : (o : Option (Inode ℕ)) → is_some o
        ≡ is_some (node_in (option_map (renamed_inode (exchanged entry.count) (exchanged entry.count)) o))
    by None = refl
    by (Some inode) = refl

-- Each once

apart-filled : (slot : ℕ) (slots : Slots) → any_pair nat_eq (filled_from slot slots) ≡ false
apart-filled slot [] = refl
apart-filled slot (None ∷ rest) = apart-filled (slot + 1) rest
apart-filled slot (Some inode ∷ rest) =
    (λ i. below_none slot (slot + 1) rest (omega arith) i || apart-filled (slot + 1) rest i)

pub numbers_apart_each : NumbersAreApart
numbers_apart_each entry = apart-numbers entry.count (filled_from 0 entry.tree.slots) (apart-filled 0 entry.tree.slots)

-- the number of an inode is one of a single filesystem
pub inode_of_one : (count filesystem slot : ℕ) → slot < 18446744073709551616
    → is_inode_of count (inode_number filesystem slot) ≡ true → count ≡ filesystem
inode_of_one count filesystem slot small e =
    let place = slot_of count (inode_number filesystem slot) e in
    sym (inode_same filesystem count slot place.0 small place.1 place.2).0

-- A filesystem is found by its number

pub found_by_number : FilesystemsAreFound
found_by_number fs count = found fs
  where
    nowhere : no_filesystem (counted count) ≡ filesystem_seen (no_entry count)
    nowhere = λ i. record {
      number = counted count;
      files = record {
        tree = record { root = sym (exchanged_back count (counted count)) i; node = λ n. None };
        numbers = [];
      };
      overlay = None;
      change = 0;
    }

    found : (fs : Filesystems)
        → unwrap_or (find (λ (filesystem : Filesystem ℕ). nat_eq (counted count) filesystem.number)
        (filesystems_seen fs)) (no_filesystem (counted count))
        ≡ filesystem_seen (unwrap_or (entry_of fs count) (no_entry count))
    found [] = nowhere
    found (x ∷ fs) = ap (λ b. unwrap_or (cond b (Some (filesystem_seen x))
        (find (λ (filesystem : Filesystem ℕ). nat_eq (counted count) filesystem.number) (filesystems_seen fs)))
        (no_filesystem (counted count))) (counted_test count x.count) ∙ by (nat_eq count x.count) (found fs)
      where
        by : (b : Bool) → unwrap_or (find (λ (filesystem : Filesystem ℕ). nat_eq (counted count) filesystem.number)
            (filesystems_seen fs)) (no_filesystem (counted count))
            ≡ filesystem_seen (unwrap_or (entry_of fs count) (no_entry count))
            → unwrap_or (cond b (Some (filesystem_seen x))
            (find (λ (filesystem : Filesystem ℕ). nat_eq (counted count) filesystem.number) (filesystems_seen fs)))
            (no_filesystem (counted count))
            ≡ filesystem_seen (unwrap_or (cond b (Some x) (entry_of fs count)) (no_entry count))
        by true rest = refl
        by false rest = rest
