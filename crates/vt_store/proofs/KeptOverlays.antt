-- The overlays as the map keeps them, and as contracts see them.
use Rattle.std.proofs.Common.{◌≡◌, ◌<◌, refl, sym, ap, ◌∙◌, ℕ, Bool, true, false, cond, ◌&&◌, nat_eq, nat_lt, List, [], ◌∷◌, ◌++◌, map, filter, not, slice_get, eq-eqb, Option, Some, None, option_map, is_some, IfSome, IsSome, length, eqb-true, arith}
use Rattle.vt_spec.proofs.Common.{list_all, lookup, nil_from_length, put, common_steps}
use Rattle.indexmap.specs.IndexMap.{IndexMap, WritesThrough, get_by}
use Rattle.vt_location.specs.declared.numbers.FilesystemId.{FilesystemId}
use Rattle.vt_location.specs.InOrder.{cmp_by, in_order_by}
use Rattle.vt_location.proofs.OrderLemmas.{IsChanged, change_kept, changed-by, in_order-changed, in_order-last, in_order-removed, is_above, looked-in_order}
use Rattle.vt_layered.specs.LayeredValue.{LayeredValue}
use Rattle.vt_store.specs.declared.overlays.KeptOverlay.{KeptOverlay}
use Rattle.vt_store.specs.OverlaysValue.{AreOwn, OverlayEntry, Overlays, entries_kept, entry_kept, kept_overlay, kept_overlays, layered_of, with_overlay_changed, without_overlay}

-- the equality of numbers as the map compares them, and the test by which it finds one
abbrev pub key_eq : FilesystemId → FilesystemId → Bool
key_eq a b = nat_eq a.count b.count

abbrev pub is_key : ℕ → FilesystemId → Bool
is_key f id = nat_eq f id.count

abbrev pub count_of : FilesystemId → ℕ
count_of id = id.count

abbrev pub id_of : ℕ → FilesystemId
id_of f = record { count = f }

whole : (x y : FilesystemId) → x.count ≡ y.count → x ≡ y
whole x y is = ap (λ n. record { count = n }) is

-- what is kept, in the order of the counts
abbrev pub in_order : List (FilesystemId × KeptOverlay) → List (FilesystemId × KeptOverlay)
in_order es = in_order_by count_of es

-- an entry of this count
abbrev pub of_count : ℕ → KeptOverlay → OverlayEntry
of_count f one = record {
  count = f;
  overlay = one.overlay.overlay;
  above = one.overlay.above;
  mounts = one.mounts;
}

same : (a b : ℕ) → nat_eq a b ≡ true → b ≡ a
same a b e = sym (eqb-true a b e)

-- where nothing is kept, nothing is found, and contracts see no overlays
pub none_found : (f : ℕ) (es : List (FilesystemId × KeptOverlay)) → length es ≡ 0 → None ≡ lookup (is_key f) es
none_found f es none = sym (ap (lookup (is_key f)) (nil_from_length es none))

-- the first overlay is found under its count
pub first_found : (id first : FilesystemId) (x : KeptOverlay) (es : List (FilesystemId × KeptOverlay))
    → Some (first, x) ≡ slice_get es 0 → key_eq first id ≡ true → Some x ≡ lookup (is_key id.count) es
first_found id first x [] at is = absurd cc
first_found id first x (e ∷ es) at is = cc (eq-eqb id.count first.count (sym (eqb-true first.count id.count is)))

pub none_kept : (es : List (FilesystemId × KeptOverlay)) → length es ≡ 0 → kept_overlays es ≡ []
none_kept es none = ap kept_overlays (nil_from_length es none)

-- where contracts see no overlays, nothing is kept
some_put : (kept : FilesystemId × KeptOverlay) (es : List (FilesystemId × KeptOverlay))
    → ¬ (entries_kept (put (cmp_by count_of) kept.0 kept.1 es) ≡ [])
some_put kept [] none = cc
some_put kept (e ∷ es) none = grind (arith, common_steps)

pub none_under : (es : List (FilesystemId × KeptOverlay)) → kept_overlays es ≡ [] → length es ≡ 0
none_under [] none = refl
none_under (e ∷ es) none = absurd (some_put e (in_order es) none)

module _ (f : ℕ) where
  -- a count finds the overlay that it is the key of
  pub entry_kept-entries : (es : List (FilesystemId × KeptOverlay))
      → entry_kept (entries_kept es) f ≡ option_map (of_count f) (lookup (is_key f) es)
  entry_kept-entries [] = refl
  entry_kept-entries (e ∷ es) =
      grind (arith, common_steps, entry_kept-entries es, nat_eq f e.0.count, same f e.0.count)

  pub entry_kept-kept : (es : List (FilesystemId × KeptOverlay))
      → entry_kept (kept_overlays es) f ≡ option_map (of_count f) (lookup (is_key f) es)
  entry_kept-kept es = cc (entry_kept-entries (in_order es), looked-in_order count_of (id_of f) es)

  -- the overlay of a count is changed
  entries-changed : (written : KeptOverlay → KeptOverlay) (change : OverlayEntry → OverlayEntry)
      → ((k : ℕ) (one : KeptOverlay) → of_count k (written one) ≡ change (of_count k one))
      → (kept : List (FilesystemId × KeptOverlay)) → entries_kept (map (change_kept count_of (id_of f) written) kept)
      ≡ with_overlay_changed f change (entries_kept kept)
  entries-changed written change so [] = refl
  entries-changed written change so (e ∷ kept) =
      λ i. by (nat_eq f e.0.count) i ∷ entries-changed written change so kept i
    where
      by : (b : Bool)
          → of_count e.0.count (cond b (written e.1) e.1) ≡ cond b (change (kept_overlay e)) (kept_overlay e)
      by b = grind (arith, common_steps)

  kept-changed : (written : KeptOverlay → KeptOverlay) (change : OverlayEntry → OverlayEntry)
      (es new : List (FilesystemId × KeptOverlay))
      → ((k : ℕ) (one : KeptOverlay) → of_count k (written one) ≡ change (of_count k one))
      → IsChanged count_of (id_of f) written es new
      → kept_overlays new ≡ with_overlay_changed f change (kept_overlays es)
  kept-changed written change es new so writes =
      ap entries_kept (in_order-changed count_of whole (id_of f) written es new writes)
      ∙ entries-changed written change so (in_order es)

  -- where the count finds nothing, nothing is changed
  pub absent_changed : (change : OverlayEntry → OverlayEntry) (all : Overlays) → entry_kept all f ≡ None
      → with_overlay_changed f change all ≡ all
  absent_changed change [] absent = refl
  absent_changed change (e ∷ all) absent = grind (arith, common_steps, absent_changed change all, nat_eq f e.count)

  -- the overlay of a count is removed
  entries-without : (kept : List (FilesystemId × KeptOverlay))
      → entries_kept (filter (λ one. not (nat_eq f one.0.count)) kept) ≡ without_overlay f (entries_kept kept)
  entries-without [] = refl
  entries-without (e ∷ kept) = grind (arith, common_steps, entries-without kept, nat_eq f e.0.count)

  pub removed : (es new : List (FilesystemId × KeptOverlay))
      → ((q : FilesystemId) → lookup (key_eq q) new ≡ cond (nat_eq f q.count) None (lookup (key_eq q) es))
      → kept_overlays new ≡ without_overlay f (kept_overlays es)
  removed es new goes = cc (in_order-removed count_of whole (id_of f) es new goes, entries-without (in_order es))

-- what the map has under a count is the overlay of that count
pub layered_of-kept : (f : ℕ) (es : List (FilesystemId × KeptOverlay)) (all : Overlays) (o : Option KeptOverlay)
    → kept_overlays es ≡ all → o ≡ lookup (is_key f) es
    → option_map (λ (one : KeptOverlay). one.overlay) o ≡ layered_of all f
layered_of-kept f es all o view is = by o
    ∙ ap (option_map layered) (ap (option_map (of_count f)) is ∙ sym (entry_kept-kept f es))
    ∙ ap (λ overlays. layered_of overlays f) view
  where
    layered : OverlayEntry → LayeredValue
    layered entry = record { overlay = entry.overlay; above = entry.above }

    by : (o : Option KeptOverlay)
        → option_map (λ (one : KeptOverlay). one.overlay) o ≡ option_map layered (option_map (of_count f) o)
    by None = refl
    by (Some one) = refl

-- and so many mounts show it
pub mounts-kept : (f : ℕ) (es : List (FilesystemId × KeptOverlay)) (all : Overlays) (o : Option KeptOverlay)
    → kept_overlays es ≡ all → o ≡ lookup (is_key f) es → option_map (λ (one : KeptOverlay). one.mounts) o
    ≡ option_map (λ (entry : OverlayEntry). entry.mounts) (entry_kept all f)
mounts-kept f es all o view is = grind (arith, common_steps, entry_kept-kept, entry_kept)

-- what was written to the overlay of a count, and what is written to none
pub writes : {S : Type 0} (f : ℕ) (written : KeptOverlay → KeptOverlay) (change : OverlayEntry → OverlayEntry)
    (m n : IndexMap FilesystemId KeptOverlay S) (all : Overlays) (x w : KeptOverlay) → kept_overlays m.entries ≡ all
    → get_by (is_key f) m ≡ Some x → w ≡ written x
    → ((k : ℕ) (one : KeptOverlay) → of_count k (written one) ≡ change (of_count k one))
    → WritesThrough key_eq (is_key f) m w n → kept_overlays n.entries ≡ with_overlay_changed f change all
writes f written change m n all x w view there is so through = kept-changed f written change m.entries n.entries so
    (changed-by count_of whole (id_of f) written m.entries n.entries x w there is (through.3 some).0)
    ∙ ap (with_overlay_changed f change) view
  where
    some : IsSome (get_by (is_key f) m)
    some = ap is_some there

pub writes_none : (f : ℕ) (change : OverlayEntry → OverlayEntry) (es new : List (FilesystemId × KeptOverlay))
    (all : Overlays) → kept_overlays es ≡ all
    → lookup (is_key f) es ≡ None → new ≡ es → kept_overlays new ≡ with_overlay_changed f change all
writes_none f change es new all view absent is = ap kept_overlays is ∙ view ∙ sym (absent_changed f change all
    (ap (λ l. entry_kept l f) (sym view) ∙ entry_kept-kept f es ∙ ap (option_map (of_count f)) absent))

-- A new overlay

entries_behind : (e : FilesystemId × KeptOverlay) (kept : List (FilesystemId × KeptOverlay))
    → entries_kept (kept ++ e ∷ []) ≡ entries_kept kept ++ kept_overlay e ∷ []
entries_behind e [] = refl
entries_behind e (first ∷ kept) = ap (λ l. kept_overlay first ∷ l) (entries_behind e kept)

above_entries : (k : FilesystemId) (kept : List (FilesystemId × KeptOverlay))
    → list_all (λ (entry : OverlayEntry). nat_lt entry.count k.count) (entries_kept kept) ≡ is_above count_of k kept
above_entries k [] = refl
above_entries k (e ∷ kept) = ap (λ b. nat_lt e.0.count k.count && b) (above_entries k kept)

pub added : (es new : List (FilesystemId × KeptOverlay)) (all : Overlays) (k : FilesystemId) (x : KeptOverlay)
    → kept_overlays es ≡ all → list_all (λ (entry : OverlayEntry). nat_lt entry.count k.count) all ≡ true
    → ((q : FilesystemId) → lookup (key_eq q) new ≡ cond (key_eq k q) (Some x) (lookup (key_eq q) es))
    → kept_overlays new ≡ all ++ kept_overlay (k, x) ∷ []
added es new all k x view above comes = ap entries_kept (in_order-last count_of whole k x es new last comes)
    ∙ entries_behind (k, x) (in_order es) ∙ ap (λ l. l ++ kept_overlay (k, x) ∷ []) view
  where
    last : is_above count_of k (in_order es) ≡ true
    last = cc (above_entries k (in_order es), view, above)

-- Each under its own number

pub is_own : (id : FilesystemId) (kept : List (FilesystemId × KeptOverlay)) → AreOwn kept
    → (one : KeptOverlay) → Some one ≡ lookup (is_key id.count) kept → one.overlay.overlay.number ≡ id
is_own id kept own one e = own id one (sym e)

-- still where one is put in under its own,
pub own_added : (es new : List (FilesystemId × KeptOverlay)) (k : FilesystemId) (x : KeptOverlay) → AreOwn es
    → x.overlay.overlay.number ≡ k
    → ((q : FilesystemId) → lookup (key_eq q) new ≡ cond (key_eq k q) (Some x) (lookup (key_eq q) es)) → AreOwn new
own_added es new k x own its comes id one e = grind (arith, common_steps)

-- where one is taken out,
pub own_removed : (f : ℕ) (es new : List (FilesystemId × KeptOverlay)) → AreOwn es
    → ((q : FilesystemId) → lookup (key_eq q) new ≡ cond (nat_eq f q.count) None (lookup (key_eq q) es)) → AreOwn new
own_removed f es new own goes id one e = grind (arith, common_steps)

-- and where one is changed, but for its number
pub own_written : {S : Type 0} (f : ℕ) (m n : IndexMap FilesystemId KeptOverlay S) (x w : KeptOverlay)
    → AreOwn m.entries → get_by (is_key f) m ≡ Some x → w.overlay.overlay.number ≡ x.overlay.overlay.number
    → WritesThrough key_eq (is_key f) m w n → AreOwn n.entries
own_written f m n x w own there is through id one e =
    by (nat_eq f id.count) (eqb-true f id.count) (sym ((through.3 (ap is_some there)).0 id) ∙ e)
  where
    by : (b : Bool) → (b ≡ true → f ≡ id.count)
        → cond b (Some w) (lookup (key_eq id) m.entries) ≡ Some one → one.overlay.overlay.number ≡ id
    by true here written = cc (is, own (id_of f) x there, whole (id_of f) id (here refl))
    by false here written = own id one written

-- what is found has no more mounts than its entry says
pub mounts_below : (f most : ℕ) (es : List (FilesystemId × KeptOverlay)) (all : Overlays) (x : KeptOverlay)
    → kept_overlays es ≡ all → lookup (is_key f) es ≡ Some x
    → IfSome (entry_kept all f) (λ (entry : OverlayEntry). entry.mounts < most) → x.mounts < most
mounts_below f most es all x view there less = grind (arith, common_steps, entry_kept-kept f es)
