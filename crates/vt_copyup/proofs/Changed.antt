-- Filesystems in which the inodes of one have changed.
use Rattle.std.proofs.Common.{◌≡◌, ◌∙◌, ◌+◌, ◌-◌, ◌∷◌, [], arith, ap, cond, eq-eqb, find, is_some, List, map, nat_eq, None, option_map, Option, refl, Some, sym, true, ℕ, false, Bool}
use Rattle.vt_spec.proofs.Common.{Inodes, common_steps, none_is_some, same_Some}
use Rattle.vt_spec.specs.TreeInvariant.{IsDirectory}
use Rattle.vt_fs.proofs.Standing.{count_found}
use Rattle.vt_fs.specs.FilesystemsValue.{ChangesInodes, FilesystemEntry, Filesystems, Shown, entry_at, entry_of, files_at, giving_back, inodes_at, inodes_promised, inodes_seen, no_entry, promising, shown, shown_entry, shown_if, shown_with, with_changed, without}

abbrev found : ℕ → List Shown → Option Shown
found count all = find (λ (one : Shown). nat_eq count one.count) all

find-counted : (count : ℕ) (change : Shown → Shown) → ((one : Shown) → (change one).count ≡ one.count)
    → (all : List Shown) → found count (map change all) ≡ option_map change (found count all)
find-counted count change kept [] = refl
find-counted count change kept (one ∷ all) =
    grind (arith, common_steps, find-counted count change kept all, kept one, nat_eq count one.count)

found-shown : (count : ℕ) (trees : Filesystems)
    → found count (shown trees) ≡ option_map shown_entry (entry_of trees count)
found-shown count [] = refl
found-shown count (entry ∷ rest) = grind (arith, common_steps, found-shown count rest, nat_eq count entry.count)

module _ (count : ℕ) (change : Inodes ℕ → Inodes ℕ) (old new : Filesystems)
    (changes : ChangesInodes count change old new) where
  found_after : found count (shown new) ≡ option_map (shown_if count change) (found count (shown old))
  found_after = ap (found count) changes.changed
      ∙ find-counted count (shown_if count change) (λ one. by (nat_eq count one.count) one) (shown old)
    where
      by : (b : Bool) (one : Shown)
          → (cond b (record one { inodes = change one.inodes }) one).count ≡ one.count
      by true one = refl
      by false one = refl

  entries_after : (was now : Option FilesystemEntry) → entry_of old count ≡ was → entry_of new count ≡ now
      → option_map shown_entry now ≡ option_map (shown_if count change) (option_map shown_entry was)
  entries_after was now e f = ap (option_map shown_entry) (sym f) ∙ sym (found-shown count new) ∙ found_after
      ∙ ap (option_map (shown_if count change)) (found-shown count old ∙ ap (option_map shown_entry) e)

  -- the inodes after a change
  pub inodes_after : is_some (entry_of old count) ≡ true → inodes_at new count ≡ change (inodes_at old count)
  inodes_after there = by (entry_of old count) (entry_of new count) refl refl there
    where
      by : (was now : Option FilesystemEntry) → entry_of old count ≡ was → entry_of new count ≡ now
          → is_some was ≡ true → inodes_at new count ≡ change (inodes_at old count)
      by None now e f s = cc
      by (Some was) None e f s = none_is_some _ (entries_after (Some was) None e f)
      by (Some was) (Some now) e f s =
          let same = same_Some _ _ (entries_after (Some was) (Some now) e f) in
          let own : nat_eq count was.count ≡ true = eq-eqb count was.count (sym (count_found old count was e)) in
          ap (λ o. inodes_seen (Rattle.std.specs.Prelude.unwrap_or o (no_entry count))) f
          ∙ ap (λ (s : Shown). s.inodes) same
          ∙ ap (λ b. (cond b (record (shown_entry was) { inodes = change (inodes_seen was) }) (shown_entry was)).inodes) own
          ∙ ap (λ o. change (inodes_seen (Rattle.std.specs.Prelude.unwrap_or o (no_entry count)))) (sym e)

  pub still_there : is_some (entry_of old count) ≡ true → is_some (entry_of new count) ≡ true
  still_there there = by (entry_of old count) (entry_of new count) refl refl there
    where
      by : (was now : Option FilesystemEntry) → entry_of old count ≡ was → entry_of new count ≡ now
          → is_some was ≡ true → is_some (entry_of new count) ≡ true
      by None now e f s = cc
      by (Some was) None e f s = none_is_some _ (entries_after (Some was) None e f)
      by (Some was) (Some now) e f s = ap is_some f

  pub was_there : is_some (entry_of new count) ≡ true → is_some (entry_of old count) ≡ true
  was_there there = by (entry_of old count) (entry_of new count) refl refl there
    where
      by : (was now : Option FilesystemEntry) → entry_of old count ≡ was → entry_of new count ≡ now
          → is_some now ≡ true → is_some (entry_of old count) ≡ true
      by None None e f s = cc
      by None (Some now) e f s = none_is_some _ (sym (entries_after None (Some now) e f))
      by (Some was) now e f s = ap is_some e

-- one change after another
shown-twice : (count : ℕ) (first second : Inodes ℕ → Inodes ℕ) (all : List Shown)
    → shown_with count second (shown_with count first all) ≡ shown_with count (λ inodes. second (first inodes)) all
shown-twice count first second [] = refl
shown-twice count first second (one ∷ rest) =
    λ i. by (nat_eq count one.count) refl i ∷ shown-twice count first second rest i
  where
    by : (b : Bool) → nat_eq count one.count ≡ b
        → shown_if count second (cond b (record one { inodes = first one.inodes }) one)
        ≡ cond b (record one { inodes = second (first one.inodes) }) one
    by true e = ap (λ b. cond b (record one { inodes = second (first one.inodes) })
        (record one { inodes = first one.inodes })) e
    by false e = ap (λ b. cond b (record one { inodes = second one.inodes }) one) e

pub changes_then : (count : ℕ) (first second : Inodes ℕ → Inodes ℕ) (old between new : Filesystems)
    → ChangesInodes count first old between → ChangesInodes count second between new
    → ChangesInodes count (λ inodes. second (first inodes)) old new
changes_then count first second old between new one two = record {
  changed = two.changed ∙ ap (shown_with count second) one.changed ∙ shown-twice count first second (shown old);
  others = two.others ∙ one.others;
}

shown-same : (count : ℕ) (all : List Shown) → shown_with count (λ inodes. inodes) all ≡ all
shown-same count [] = refl
shown-same count (one ∷ rest) = λ i. by (nat_eq count one.count) i ∷ shown-same count rest i
  where
    by : (b : Bool) → cond b (record one { inodes = one.inodes }) one ≡ one
    by true = refl
    by false = refl

pub nothing_changes : (count : ℕ) (trees : Filesystems) → ChangesInodes count (λ inodes. inodes) trees trees
nothing_changes count trees = record { changed = sym (shown-same count (shown trees)); others = refl }

-- a filesystem with a directory exists
pub is_there : (trees : Filesystems) (count number : ℕ) → IsDirectory (files_at trees count).tree number
    → is_some (entry_of trees count) ≡ true
is_there trees count number directory = by (entry_of trees count) refl
  where
    by : (o : Option FilesystemEntry) → entry_of trees count ≡ o → is_some (entry_of trees count) ≡ true
    by None e = grind (arith, common_steps)
    by (Some entry) e = ap is_some e

-- What is promised, and given back

pub given_back : (count inodes : ℕ) (trees : Filesystems)
    → with_changed count (giving_back inodes) (with_changed count (promising inodes) trees) ≡ trees
given_back count inodes [] = refl
given_back count inodes (entry ∷ rest) = λ i. by (nat_eq count entry.count) refl i ∷ given_back count inodes rest i
  where
    by : (b : Bool) → nat_eq count entry.count ≡ b
        → Rattle.vt_fs.specs.FilesystemsValue.changed_if count (giving_back inodes)
        (cond b (promising inodes entry) entry) ≡ entry
    by true e = ap (λ b. cond b (giving_back inodes (promising inodes entry)) (promising inodes entry)) e
        ∙ (λ i. record entry { tree = record entry.tree { promised = same i } })
      where
        same : entry.tree.promised + inodes - inodes ≡ entry.tree.promised
        same = omega arith
    by false e = ap (λ b. cond b (giving_back inodes entry) entry) e

pub promises_given_back : (count inodes : ℕ) (old promised new : Filesystems)
    → promised ≡ with_changed count (promising inodes) old
    → new ≡ with_changed count (giving_back inodes) promised → new ≡ old
promises_given_back count inodes old promised new made back =
    back ∙ ap (with_changed count (giving_back inodes)) made ∙ given_back count inodes old

module _ (count inodes : ℕ) where
  promised_entry : (trees : Filesystems)
      → entry_of (with_changed count (promising inodes) trees) count
      ≡ option_map (promising inodes) (entry_of trees count)
  promised_entry [] = refl
  promised_entry (entry ∷ rest) = by (nat_eq count entry.count) refl (promised_entry rest)
    where
      by : (b : Bool) → nat_eq count entry.count ≡ b
          → entry_of (with_changed count (promising inodes) rest) count
          ≡ option_map (promising inodes) (entry_of rest count)
          → entry_of (with_changed count (promising inodes) (entry ∷ rest)) count
          ≡ option_map (promising inodes) (entry_of (entry ∷ rest) count)
      by b e after = grind (arith, common_steps)

  -- the files stay as they are where inodes are promised
  pub promised_files : (trees : Filesystems)
      → files_at (with_changed count (promising inodes) trees) count ≡ files_at trees count
  promised_files trees = ap (λ o. Rattle.vt_fs.specs.FilesystemsValue.files_seen
      (Rattle.std.specs.Prelude.unwrap_or o (no_entry count))) (promised_entry trees) ∙ by (entry_of trees count)
    where
      by : (o : Option FilesystemEntry)
          → Rattle.vt_fs.specs.FilesystemsValue.files_seen
          (Rattle.std.specs.Prelude.unwrap_or (option_map (promising inodes) o) (no_entry count))
          ≡ Rattle.vt_fs.specs.FilesystemsValue.files_seen (Rattle.std.specs.Prelude.unwrap_or o (no_entry count))
      by None = refl
      by (Some entry) = refl

  pub promised_more : (trees : Filesystems) → is_some (entry_of trees count) ≡ true
      → inodes_promised (with_changed count (promising inodes) trees) count ≡ inodes_promised trees count + inodes
  promised_more trees there = ap (λ o. (Rattle.std.specs.Prelude.unwrap_or o (no_entry count)).tree.promised)
      (promised_entry trees) ∙ by (entry_of trees count) there
    where
      by : (o : Option FilesystemEntry) → is_some o ≡ true
          → (Rattle.std.specs.Prelude.unwrap_or (option_map (promising inodes) o) (no_entry count)).tree.promised
          ≡ (Rattle.std.specs.Prelude.unwrap_or o (no_entry count)).tree.promised + inodes
      by None s = cc
      by (Some entry) s = refl
