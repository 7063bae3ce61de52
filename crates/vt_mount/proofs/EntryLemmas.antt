-- The entries that contracts see of what is kept.
use Rattle.std.proofs.Common.{◌≡◌, ℕ, suc, Bool, true, false, cond, ◌&&◌, List, [], ◌∷◌, ◌++◌, map, length, not, nat_eq, nat_lt, Option, None, Some, is_some, option_map, slice_get, refl, sym, ap, ◌∙◌, ◌<◌, ◌⊎◌, inl, inr, arith, eq-eqb, ne_eqb, find, eqb-true}
use Rattle.vt_spec.proofs.Common.{and_true_left, and_true_right, keys_of, list_all, lookup}
use Rattle.std.specs.List.{IsDistinct}
use Rattle.vt_spec.specs.Machine.Mounts as meant
use Rattle.vt_location.specs.declared.numbers.MountId.{MountId}
use Rattle.vt_location.specs.declared.numbers.NamespaceId.{NamespaceId}
use Rattle.vt_location.specs.MountValue.{mount_of}
use Rattle.vt_location.specs.Numbers.{counted, same_id}
use Rattle.vt_mount.specs.declared.mounted.Mounted.{Mounted}
use Rattle.vt_mount.specs.MountsValue.{MountEntry, changed, entries_of, entry_numbered, entry_of, in_order, is_unused, mount_kept, mounts_in, without}
use Rattle.vt_mount.proofs.IndexLemmas.{same_mount_id}
use Rattle.vt_mount.proofs.OrderLemmas.{change_kept, found, found-in_order, in_order-changed, in_order-last, in_order-removed, is_above, length-in_order, tied, without_kept}
use Rattle.vt_location.proofs.NumberLemmas.{counted_less}
pub use Rattle.vt_location.proofs.NumberLemmas.{counted_test}

abbrev pub entries : List (MountId × Mounted) → List MountEntry
entries kept = map entry_of kept

length-entries : (kept : List (MountId × Mounted)) → length (entries kept) ≡ length kept
length-entries [] = refl
length-entries (one ∷ kept) = ap suc (length-entries kept)

pub length-kept : (es : List (MountId × Mounted)) → IsDistinct same_id (keys_of es) → length (entries_of es) ≡ length es
length-kept es distinct = length-entries (in_order es) ∙ length-in_order es distinct

-- the first mount is found under its number
pub first-found : (id first : MountId) (one : Mounted) (es : List (MountId × Mounted))
    → Some (first, one) ≡ slice_get es 0 → same_id first id ≡ true → Some one ≡ lookup (same_id id) es
first-found id first one [] at is = absurd cc
first-found id first one (e ∷ es) at is =
    let here : e ≡ (first, one) = cc in
    sym (ap (λ e. lookup (same_id id) (e ∷ es)) here ∙ ap (λ b. cond b (Some one) (lookup (same_id id) es))
    (eq-eqb id.count first.count (sym (eqb-true first.count id.count is))))

-- a number finds its mount

abbrev pub mount_under : MountId → Mounted → meant.Mount ℕ
mount_under number kept = mount_of (mount_kept number kept)

pub found-mount : (number : MountId) (kept : List (MountId × Mounted))
    → find (λ mount. nat_eq (counted number.count) mount.number) (mounts_in (entries kept))
    ≡ option_map (mount_under number) (found number kept)
found-mount number [] = refl
found-mount number (one ∷ kept) =
    (λ i. cond (counted_test number.count one.0.count i) (Some (mount_under one.0 one.1)) (found-mount number kept i))
    ∙ by (same_id number one.0) (same_mount_id number one.0)
    ∙ ap (λ b. option_map (mount_under number) (cond b (Some one.1) (found number kept))) (sym (tied number one.0))
  where
    by : (b : Bool) → (b ≡ true → number ≡ one.0)
        → cond b (Some (mount_under one.0 one.1)) (option_map (mount_under number) (found number kept))
        ≡ option_map (mount_under number) (cond b (Some one.1) (found number kept))
    by true is = ap (λ n. Some (mount_under n one.1)) (sym (is refl))
    by false is = refl

found-entry : (number : MountId) (kept : List (MountId × Mounted))
    → entry_numbered (entries kept) (counted number.count)
    ≡ option_map (λ one. entry_of (number, one)) (found number kept)
found-entry number [] = refl
found-entry number (one ∷ kept) =
    (λ i. cond (counted_test number.count one.0.count i) (Some (entry_of one)) (found-entry number kept i))
    ∙ by (same_id number one.0) (same_mount_id number one.0)
    ∙ ap (λ b. option_map (λ one. entry_of (number, one)) (cond b (Some one.1) (found number kept)))
    (sym (tied number one.0))
  where
    by : (b : Bool) → (b ≡ true → number ≡ one.0)
        → cond b (Some (entry_of one)) (option_map (λ one. entry_of (number, one)) (found number kept))
        ≡ option_map (λ one. entry_of (number, one)) (cond b (Some one.1) (found number kept))
    by true is = ap (λ n. Some (entry_of (n, one.1))) (sym (is refl))
    by false is = refl

pub kept-mount : (number : MountId) (es : List (MountId × Mounted))
    → find (λ mount. nat_eq (counted number.count) mount.number) (mounts_in (entries_of es))
    ≡ option_map (mount_under number) (lookup (same_id number) es)
kept-mount number es = found-mount number (in_order es)
    ∙ ap (option_map (mount_under number)) (found-in_order number es)

pub kept-entry : (number : MountId) (es : List (MountId × Mounted))
    → entry_numbered (entries_of es) (counted number.count)
    ≡ option_map (λ one. entry_of (number, one)) (lookup (same_id number) es)
kept-entry number es = found-entry number (in_order es)
    ∙ ap (option_map (λ one. entry_of (number, one))) (found-in_order number es)

-- the same, of what contracts see
pub mount-found : (id : MountId) (es : List (MountId × Mounted)) (now : List MountEntry) (r : Option Mounted)
    → entries_of es ≡ now → lookup (same_id id) es ≡ r → option_map (mount_under id) r
    ≡ find (λ mount. nat_eq (counted id.count) mount.number) (mounts_in now)
mount-found id es now r view is = ap (option_map (mount_under id)) (sym is) ∙ sym (kept-mount id es)
    ∙ ap (λ now. find (λ mount. nat_eq (counted id.count) mount.number) (mounts_in now)) view

pub entry-found : (id : MountId) (es : List (MountId × Mounted)) (now : List MountEntry) (r : Option Mounted)
    → entries_of es ≡ now
    → lookup (same_id id) es ≡ r → option_map (λ one. entry_of (id, one)) r ≡ entry_numbered now (counted id.count)
entry-found id es now r view is = ap (option_map (λ one. entry_of (id, one))) (sym is) ∙ sym (kept-entry id es)
    ∙ ap (λ now. entry_numbered now (counted id.count)) view

-- One that is changed

module _ (number : MountId) (change : MountEntry → MountEntry) (change_it : Mounted → Mounted)
    (so : (n : MountId) (one : Mounted) → entry_of (n, change_it one) ≡ change (entry_of (n, one))) where
  entries-changed : (kept : List (MountId × Mounted))
      → entries (map (change_kept number change_it) kept) ≡ changed (counted number.count) change (entries kept)
  entries-changed [] = refl
  entries-changed (one ∷ kept) = (λ i. by (same_id number one.0) i ∷ entries-changed kept i)
      ∙ ap (λ b. cond b (change (entry_of one)) (entry_of one) ∷ changed (counted number.count) change (entries kept))
      (sym (counted_test number.count one.0.count))
    where
      by : (b : Bool) → entry_of (one.0, cond b (change_it one.1) one.1) ≡ cond b (change (entry_of one)) (entry_of one)
      by true = so one.0 one.1
      by false = refl

  pub kept-changed : (es new : List (MountId × Mounted)) → ((q : MountId) → lookup (same_id q) new
      ≡ cond (same_id number q) (option_map change_it (lookup (same_id q) es)) (lookup (same_id q) es))
      → entries_of new ≡ changed (counted number.count) change (entries_of es)
  kept-changed es new is = ap entries (in_order-changed number change_it es new is) ∙ entries-changed (in_order es)

-- One that is taken out

entries-without : (number : MountId) (kept : List (MountId × Mounted))
    → entries (without_kept number kept) ≡ without (counted number.count) (entries kept)
entries-without number [] = refl
entries-without number (one ∷ kept) = by (same_id number one.0) (entries-without number kept)
    ∙ ap (λ b. cond (not b) (entry_of one ∷ without (counted number.count) (entries kept))
    (without (counted number.count) (entries kept))) (sym (counted_test number.count one.0.count))
  where
    by : (b : Bool) → entries (without_kept number kept) ≡ without (counted number.count) (entries kept)
        → entries (cond (not b) (one ∷ without_kept number kept) (without_kept number kept))
        ≡ cond (not b) (entry_of one ∷ without (counted number.count) (entries kept))
        (without (counted number.count) (entries kept))
    by true rest = rest
    by false rest = ap (λ l. entry_of one ∷ l) rest

pub kept-without : (number : MountId) (es new : List (MountId × Mounted))
    → ((q : MountId) → lookup (same_id q) new ≡ cond (same_id number q) None (lookup (same_id q) es))
    → entries_of new ≡ without (counted number.count) (entries_of es)
kept-without number es new is = ap entries (in_order-removed number es new is) ∙ entries-without number (in_order es)

-- One behind all others

pub above-entries : (number : MountId) (kept : List (MountId × Mounted))
    → list_all (λ entry. nat_lt entry.mount.number (counted number.count)) (entries kept) ≡ true
    → is_above number kept ≡ true
above-entries number [] above = refl
above-entries number (one ∷ kept) above =
    (λ i. sym (counted_less one.0.count number.count) i && above-entries number kept (and_true_right _ _ above) i)
    ∙ ap (λ b. b && true) (and_true_left _ _ above)

entries-last : (one : MountId × Mounted) (kept : List (MountId × Mounted))
    → entries (kept ++ one ∷ []) ≡ entries kept ++ entry_of one ∷ []
entries-last one [] = refl
entries-last one (other ∷ kept) = ap (λ l. entry_of other ∷ l) (entries-last one kept)

module _ (number : MountId) (one : Mounted) (es new : List (MountId × Mounted))
    (above : list_all (λ entry. nat_lt entry.mount.number (counted number.count)) (entries_of es) ≡ true)
    (is : (q : MountId) → lookup (same_id q) new ≡ cond (same_id number q) (Some one) (lookup (same_id q) es)) where
  pub kept-last : entries_of new ≡ entries_of es ++ entry_of (number, one) ∷ []
  kept-last = ap entries (in_order-last number one es new (above-entries number (in_order es) above) is)
      ∙ entries-last (number, one) (in_order es)

-- One that is in a namespace or in use, and one that is not

pub is_some_mapped : {A B : Type 0} (f : A → B) (o : Option A) → is_some (option_map f o) ≡ is_some o
is_some_mapped f None = refl
is_some_mapped f (Some a) = refl

module _ (id : MountId) (kept : Mounted) where
  abbrev unused_in : Option NamespaceId → Bool
  unused_in o = not (is_some (option_map (λ (namespace : NamespaceId). counted namespace.count) o))
      && nat_eq kept.uses 0

  pub used_kept : (is_some kept.namespace ≡ true) ⊎ (0 < kept.uses) → is_unused (entry_of (id, kept)) ≡ false
  used_kept used = by kept.namespace used
    where
      by : (o : Option NamespaceId) → (is_some o ≡ true) ⊎ (0 < kept.uses) → unused_in o ≡ false
      by (Some namespace) used = refl
      by None (inl there) = absurd cc
      by None (inr some) = ne_eqb kept.uses 0 (λ none. omega (arith, some, none))

  pub unused_kept : is_some kept.namespace ≡ false → kept.uses ≡ 0 → is_unused (entry_of (id, kept)) ≡ true
  unused_kept nowhere none = by kept.namespace nowhere
    where
      by : (o : Option NamespaceId) → is_some o ≡ false → unused_in o ≡ true
      by (Some namespace) nowhere = absurd cc
      by None nowhere = eq-eqb kept.uses 0 none
