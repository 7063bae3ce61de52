-- A mount is found by its own number.
use Rattle.std.proofs.Common.{◌≡◌, ℕ, suc, zero, Bool, true, false, cond, ◌&&◌, ◌||◌, T, List, [], ◌∷◌, filter, nat_eq, Option, None, Some, option_map, refl, sym, ap, ◌∙◌, eq-eqb, ne_eqb, true≢false, Ordering, Less, Equal, Greater, find, is_eq, is_lt}
use Rattle.vt_spec.proofs.Common.{T_and_left, T_and_right, below_all, chain, child_at, eq_by_cmp, holds_of, last_or, list_any, lookup, or_false_left, or_false_right, same_location, stands_at, stands_on}
use Rattle.vt_spec.specs.Machine.Mounts as meant
use Rattle.vt_location.specs.declared.numbers.MountId.{MountId}
use Rattle.vt_location.specs.Numbers.{counted, same_id}
use Rattle.vt_mount.specs.declared.mounted.Mounted.{Mounted}
use Rattle.vt_mount.specs.MountsValue.{MountEntry, entries_of, id_cmp, in_order, mounts_in}
use Rattle.vt_mount.proofs.EntryLemmas.{entries, found-mount, mount_under}
use Rattle.vt_mount.proofs.OrderLemmas.{found, found-in_order, rises, rises-in_order, tied}
use Rattle.vt_mount.proofs.PlaceLemmas.{counts, numbers}

-- each one of a part is found in the whole by its number
abbrev pub Owns : List (MountId × Mounted) → List (MountId × Mounted) → Type 0
Owns whole [] = Unit {0}
Owns whole (one ∷ part) = (found one.0 whole ≡ Some one.1) × Owns whole part

-- one more before the others, which is below them
owns-more : (one : MountId × Mounted) (whole part : List (MountId × Mounted)) → T (below_all id_cmp one.0 part)
    → Owns whole part → Owns (one ∷ whole) part
owns-more one whole [] below owns = tt
owns-more one whole (other ∷ part) below owns = (
  ap (λ b. cond b (Some one.1) (found other.0 whole)) apart ∙ owns.0,
  owns-more one whole part (T_and_right _ _ below) owns.1,
)
  where
    apart : eq_by_cmp id_cmp other.0 one.0 ≡ false
    apart = tied other.0 one.0 ∙ ne_eqb other.0.count one.0.count (λ is. below_apart (T_and_left _ _ below) (sym is))
      where
        less-apart : (o : Ordering) → T (is_lt o) → is_eq o ≡ true → ⊥
        less-apart Less less tie = true≢false (sym tie)
        less-apart Equal less tie = less
        less-apart Greater less tie = less

        below_apart : T (is_lt (id_cmp one.0 other.0)) → one.0.count ≡ other.0.count → ⊥
        below_apart less is = less-apart (id_cmp one.0 other.0) less
            (tied one.0 other.0 ∙ eq-eqb one.0.count other.0.count is)

pub owns-all : (kept : List (MountId × Mounted)) → T (rises kept) → Owns kept kept
owns-all [] rising = tt
owns-all (one ∷ kept) rising = (
  ap (λ b. cond b (Some one.1) (found one.0 kept)) (tied one.0 one.0 ∙ eq-eqb one.0.count one.0.count refl),
  owns-more one kept kept (T_and_left _ _ rising) (owns-all kept (T_and_right _ _ rising)),
)

module _ (whole : List (MountId × Mounted)) where
  abbrev pub under : ℕ → Option (meant.Mount ℕ)
  under number = find (λ mount. nat_eq number mount.number) (mounts_in (entries whole))

  own : (one : MountId × Mounted) → found one.0 whole ≡ Some one.1
      → under (counted one.0.count) ≡ Some (mount_under one.0 one.1)
  own one is = found-mount one.0 whole ∙ ap (option_map (mount_under one.0)) is

  -- a mount that passes a test, found by its number
  pub found-own : (p : meant.Mount ℕ → Bool) (m : meant.Mount ℕ) (part : List (MountId × Mounted)) → Owns whole part
      → find p (mounts_in (entries part)) ≡ Some m → under m.number ≡ Some m
  found-own p m [] owns is = absurd cc
  found-own p m (one ∷ part) owns is = by (p (mount_under one.0 one.1)) is (found-own p m part owns.1)
    where
      by : (b : Bool) → cond b (Some (mount_under one.0 one.1)) (find p (mounts_in (entries part))) ≡ Some m
          → (find p (mounts_in (entries part)) ≡ Some m → under m.number ≡ Some m) → under m.number ≡ Some m
      by true is rest =
          let here : mount_under one.0 one.1 ≡ m = cc in
          (λ i. under (sym here i).number) ∙ own one owns.0 ∙ ap Some here
      by false is rest = rest is

  -- a test of those that pass another, each found by its number
  pub any-own : (over p : meant.Mount ℕ → Bool) (part : List (MountId × Mounted)) → Owns whole part
      → list_any (λ number. holds_of p (under number)) (numbers (filter over (mounts_in (entries part))))
      ≡ list_any (λ mount. over mount && p mount) (mounts_in (entries part))
  any-own over p [] owns = refl
  any-own over p (one ∷ part) owns = by (over (mount_under one.0 one.1)) (any-own over p part owns.1)
    where
      by : (b : Bool)
          → list_any (λ number. holds_of p (under number)) (numbers (filter over (mounts_in (entries part))))
          ≡ list_any (λ mount. over mount && p mount) (mounts_in (entries part))
          → list_any (λ number. holds_of p (under number))
          (numbers (cond b (mount_under one.0 one.1 ∷ filter over (mounts_in (entries part)))
          (filter over (mounts_in (entries part)))))
          ≡ ((b && p (mount_under one.0 one.1)) || list_any (λ mount. over mount && p mount) (mounts_in (entries part)))
      by true rest = λ i. holds_of p (own one owns.0 i) || rest i
      by false rest = rest

pub any-counts : (q : ℕ → Bool) (ids : List MountId)
    → list_any (λ id. q (counted id.count)) ids ≡ list_any q (counts ids)
any-counts q [] = refl
any-counts q (id ∷ ids) = ap (λ b. q (counted id.count) || b) (any-counts q ids)

-- what stands on an inode, and is of some kind
pub any-over : (over p : meant.Mount ℕ → Bool) (es : List (MountId × Mounted)) (now : List MountEntry)
    (ids : List MountId) → entries_of es ≡ now → counts ids ≡ numbers (filter over (mounts_in (entries_of es)))
    → list_any (λ id. holds_of p (find (λ mount. nat_eq (counted id.count) mount.number) (mounts_in now))) ids
    ≡ list_any (λ mount. over mount && p mount) (mounts_in now)
any-over over p es now ids view is =
    ap (λ now. list_any (λ id. holds_of p (find (λ mount. nat_eq (counted id.count) mount.number) (mounts_in now))) ids)
    (sym view) ∙ any-counts (λ number. holds_of p (under (in_order es) number)) ids
    ∙ ap (list_any (λ number. holds_of p (under (in_order es) number))) is
    ∙ any-own (in_order es) over p (in_order es) (owns-all (in_order es) (rises-in_order es))
    ∙ ap (λ now. list_any (λ mount. over mount && p mount) (mounts_in now)) view

-- the mount that passes a test, from its number
found-child : (p : meant.Mount ℕ → Bool) (kept : List (MountId × Mounted)) (child : MountId) → Owns kept kept
    → Some (counted child.count) ≡ option_map (λ mount. mount.number) (find p (mounts_in (entries kept)))
    → option_map (mount_under child) (found child kept) ≡ find p (mounts_in (entries kept))
found-child p kept child owns is = by (find p (mounts_in (entries kept))) refl is
  where
    by : (r : Option (meant.Mount ℕ)) → find p (mounts_in (entries kept)) ≡ r
        → Some (counted child.count) ≡ option_map (λ mount. mount.number) r
        → option_map (mount_under child) (found child kept) ≡ find p (mounts_in (entries kept))
    by None there is = absurd cc
    by (Some m) there is =
        let number : counted child.count ≡ m.number = cc in
        sym (found-mount child kept) ∙ ap (under kept) number ∙ found-own kept p m kept owns there ∙ sym there

pub child-found : (place : meant.Location ℕ) (es : List (MountId × Mounted)) (now : List MountEntry) (child : MountId)
    (r : Option Mounted) → entries_of es ≡ now
    → Some (counted child.count) ≡ option_map (λ child. child.number) (child_at nat_eq (mounts_in now) place)
    → lookup (same_id child) es ≡ r → option_map (mount_under child) r ≡ child_at nat_eq (mounts_in now) place
child-found place es now child r view is there =
    ap (option_map (mount_under child)) (sym there ∙ sym (found-in_order child es))
    ∙ found-child (stands_at nat_eq place) (in_order es) child (owns-all (in_order es) (rises-in_order es))
    (is ∙ ap (λ now. option_map (λ child. child.number) (child_at nat_eq (mounts_in now) place)) (sym view))
    ∙ ap (λ now. child_at nat_eq (mounts_in now) place) view

-- no mount stands at a location on a mount on which none stands
not_on : (at : meant.Location ℕ) (place : Option (meant.Location ℕ))
    → holds_of (λ (place : meant.Location ℕ). nat_eq at.mount place.mount) place ≡ false
    → holds_of (same_location nat_eq at) place ≡ false
not_on at None none = refl
not_on at (Some place) none = ap (λ b. b && nat_eq at.node place.node) none

pub none_at : (at : meant.Location ℕ) (mounts : List (meant.Mount ℕ))
    → list_any (stands_on nat_eq at.mount) mounts ≡ false → child_at nat_eq mounts at ≡ None
none_at at [] none = refl
none_at at (mount ∷ mounts) none =
    ap (λ b. cond b (Some mount) (child_at nat_eq mounts at)) (not_on at mount.mount_point (or_false_left _ _ none))
    ∙ none_at at mounts (or_false_right _ _ none)

-- Chains of locations end where their rest ends

module _ {A : Type 0} (next : A → Option A) where
  abbrev pub end_of : ℕ → A → A
  end_of most a = last_or a (chain most next a)

  any-start : (most : ℕ) (a b : A) → last_or a (chain most next b) ≡ end_of most b
  any-start zero a b = refl
  any-start (suc most) a b = by (next b)
    where
      by : (r : Option A) → last_or a (elim r [ None ↦ b ∷ [] | Some c ↦ b ∷ chain most next c ])
          ≡ last_or b (elim r [ None ↦ b ∷ [] | Some c ↦ b ∷ chain most next c ])
      by None = refl
      by (Some c) = refl

  pub end-more : (most : ℕ) (a b : A) → next a ≡ Some b → end_of (suc most) a ≡ end_of most b
  end-more most a b is = ap (λ r. last_or a (elim r [ None ↦ a ∷ [] | Some c ↦ a ∷ chain most next c ])) is
      ∙ any-start most a b

  pub end-here : (most : ℕ) (a : A) → next a ≡ None → end_of most a ≡ a
  end-here zero a is = refl
  end-here (suc most) a is = ap (λ r. last_or a (elim r [ None ↦ a ∷ [] | Some c ↦ a ∷ chain most next c ])) is
