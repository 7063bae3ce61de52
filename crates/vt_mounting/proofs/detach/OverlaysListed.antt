-- The overlays of a store under their counts: what is left of them, one event after the other.
use Rattle.std.proofs.Common.{◌≡◌, refl, sym, ap, subst, ◌∙◌, inl, inr, ℕ, nat_eq, ◌-◌, eq-eqb, Bool, true, false, cond, not, ◌&&◌, List, [], ◌∷◌, map, filter, Option, Some, None, option_map, arith}
use Rattle.vt_spec.proofs.Common.{Filesystem, Permit, TaskName, any_pair, common_steps, cons_option, is_overlay, list_any, nat_eq_turned, or_parts, pair-filter}
use Rattle.vt_mounting.proofs.Common.{Among, Filesystems, IsHeld, Overlays, StoreValue, WorldValue, among-from_filter, among-from_map, among-map, counted, entry_in, filter-map, filter_all, filter_twice, none_among, overlay_of_store, overlay_seen, overlays_of_store, overlays_seen, with_mounts, with_mounts_by, with_overlay_changed, with_store, without_overlay, world_of}
use Rattle.vt_layered.specs.LayeredValue.{LayeredValue}
use Rattle.vt_store.specs.OverlaysValue.{OverlayEntry}
use Rattle.vt_world.specs.WorldValue as worlds
use Rattle.vt_mounting.specs.Detach.Events.{Permits}
use Rattle.vt_mounting.specs.Detach.Stored.{OverlaysLeft, OverlaysStay, layered_kept, merged_of, under_counts}
use Rattle.vt_mounting.specs.Detach.Uses.{Merged, merged_at, overlays_kept}
use Rattle.vt_mounting.proofs.detach.Overlaid.{overlays_are}
use Rattle.vt_mounting.proofs.detach.Staying.{IsDone}
use Rattle.vt_mounting.proofs.detach.StoreStays.{store_stays}

-- all are left where they stay
pub left_still : (old new : Overlays) → OverlaysStay old new → OverlaysLeft old new
left_still old new stay = (λ one. true, stay ∙ sym (filter_all (λ one. true) (under_counts old) (λ one m. refl)))

pub left_itself : (old new : Overlays) → new ≡ old → OverlaysLeft old new
left_itself old new same = left_still old new (ap under_counts same)

-- what is left of those that are left
pub left_twice : (old middle new : Overlays) → OverlaysLeft old middle → OverlaysLeft middle new → OverlaysLeft old new
left_twice old middle new first second = (
  λ one. first.0 one && second.0 one,
  second.1 ∙ ap (filter second.0) first.1
      ∙ filter_twice second.0 first.0 (λ one. first.0 one && second.0 one) (λ one. refl) (under_counts old),
)

-- another number of mounts
pub counted_stay : (count : ℕ) (change : ℕ → ℕ) (overlays : Overlays)
    → OverlaysStay overlays (with_overlay_changed count (λ entry. record entry { mounts = change entry.mounts }) overlays)
counted_stay count change [] = refl
counted_stay count change (entry ∷ rest) = grind (arith, common_steps, counted_stay count change rest)

pub counted_stay_in : (store : StoreValue) (count : ℕ) (change : ℕ → ℕ)
    → OverlaysStay store.overlays (with_mounts count change store).overlays
counted_stay_in store count change = by (entry_in store count)
  where
    by : (o : Option OverlayEntry) → OverlaysStay store.overlays (with_mounts_by count change store o).overlays
    by None = refl
    by (Some entry) = counted_stay count change store.overlays

-- one goes
pub left_without : (count : ℕ) (overlays : Overlays) → OverlaysLeft overlays (without_overlay count overlays)
left_without count overlays = (
  λ one. not (nat_eq count one.0),
  sym (filter-map (λ (one : ℕ × LayeredValue). not (nat_eq count one.0))
      layered_kept overlays (λ entry. refl)),
)

-- a store with one mount less of an overlay, and one without it
pub left_released : (count : ℕ) (old new : StoreValue) → new ≡ with_mounts count (λ mounts. mounts - 1) old
    → OverlaysLeft old.overlays new.overlays
left_released count old new is = left_still old.overlays new.overlays
    (ap (λ (store : StoreValue). under_counts store.overlays) is ∙ counted_stay_in old count (λ mounts. mounts - 1))

pub left_removed : (count : ℕ) (old : StoreValue) {middle : StoreValue} (new : StoreValue) → middle
    ≡ with_mounts count (λ mounts. mounts - 1) old
    → new.overlays ≡ without_overlay count middle.overlays → OverlaysLeft old.overlays new.overlays
left_removed count old {middle} new released removed =
    left_twice old.overlays middle.overlays new.overlays (left_released count old middle released)
    (left_so (left_without count middle.overlays))
  where
    left_so : OverlaysLeft middle.overlays (without_overlay count middle.overlays)
        → OverlaysLeft middle.overlays new.overlays
    left_so left = (left.0, ap under_counts removed ∙ left.1)

-- Those that are left were there.
pub were_there : (old new : Overlays) → OverlaysLeft old new → (entry : OverlayEntry) → Among entry new
    → (was : OverlayEntry) × Among was old × (was.count ≡ entry.count) × (was.overlay ≡ entry.overlay)
were_there old new left entry m =
    let first = among-from_filter left.0 (under_counts old) (layered_kept entry)
    (subst (Among (layered_kept entry)) left.1
    (among-map layered_kept new entry m)) in
    let was = among-from_map layered_kept old (layered_kept entry)
    first.0 in (
      was.0,
      was.1,
      sym (ap (λ (one : ℕ × LayeredValue). one.0) was.2),
      sym (ap (λ (one : ℕ × LayeredValue). one.1.overlay) was.2),
    )

-- What a world has of the overlays of a store

-- of an overlay that code keeps still, the count
abbrev pub counted_again : worlds.OverlayEntry → Option Merged → Option worlds.OverlayEntry
counted_again entry found = option_map (λ (one : Merged). record entry { mounts = one.mounts }) found

kept_less : (one : Merged) (others : List Merged) (list : List worlds.OverlayEntry)
    → ((entry : worlds.OverlayEntry) → Among entry list → nat_eq entry.number one.number ≡ false)
    → overlays_kept (one ∷ others) list ≡ overlays_kept others list
kept_less one others [] apart = refl
kept_less one others (first ∷ rest) apart =
    cc (apart first (inl refl), kept_less one others rest (λ entry m. apart entry (inr m)))

none_at : (number : ℕ) (overlays : Overlays)
    → ((entry : OverlayEntry) → Among entry overlays → nat_eq number (counted entry.count) ≡ false)
    → merged_at number (map merged_of overlays) ≡ None
none_at number [] apart = refl
none_at number (first ∷ rest) apart =
    ap (λ b. cond b (Some (merged_of first)) (merged_at number (map merged_of rest))) (apart first (inl refl))
    ∙ none_at number rest (λ entry m. apart entry (inr m))

-- overlays with numbers of their own
abbrev pub AreApart : Filesystems → Overlays → Type 0
AreApart plain overlays = any_pair (λ (a b : Filesystem ℕ). nat_eq a.number b.number)
    (overlays_seen (map (overlay_of_store plain) overlays)) ≡ false

-- those that are left are what the store keeps, where each has a number of its own
pub kept_by : (plain : Filesystems) (stays : ℕ × LayeredValue → Bool) (old new : Overlays)
    → under_counts new ≡ filter stays (under_counts old) → AreApart plain old
    → overlays_kept (map merged_of new) (map (overlay_of_store plain) old) ≡ map (overlay_of_store plain) new
kept_by plain stays [] [] left apart = refl
kept_by plain stays [] (entry ∷ new) left apart = absurd cc
kept_by plain stays (first ∷ rest) new left apart =
    by (kept_by plain stays rest) (stays (layered_kept first)) refl
  where
    Later : Type 0
    Later = (news : Overlays) → under_counts news ≡ filter stays (under_counts rest) → AreApart plain rest
        → overlays_kept (map merged_of news) (map (overlay_of_store plain) rest) ≡ map (overlay_of_store plain) news

    over : OverlayEntry → worlds.OverlayEntry
    over = overlay_of_store plain

    parts : (list_any (λ (b : Filesystem ℕ). nat_eq (counted first.count) b.number) (overlays_seen (map over rest))
        ≡ false) × AreApart plain rest
    parts = or_parts (list_any (λ (b : Filesystem ℕ). nat_eq (counted first.count) b.number)
        (overlays_seen (map over rest)))
        (any_pair (λ (a b : Filesystem ℕ). nat_eq a.number b.number) (overlays_seen (map over rest))) apart

    others : (entry : OverlayEntry) → Among entry rest → nat_eq (counted first.count) (counted entry.count) ≡ false
    others entry m =
        none_among (λ (b : Filesystem ℕ). nat_eq (counted first.count) b.number) (overlays_seen (map over rest)) parts.0
        (overlay_seen (over entry)) (among-map overlay_seen (map over rest) (over entry) (among-map over rest entry m))

    stays_with : Later → (news : Overlays) → under_counts news ≡ layered_kept first ∷ filter stays (under_counts rest)
        → overlays_kept (map merged_of news) (over first ∷ map over rest) ≡ map over news
    stays_with later [] e = absurd cc
    stays_with later (entry ∷ more) e =
        let heads : layered_kept entry ≡ layered_kept first = cc in
        let tails : under_counts more ≡ filter stays (under_counts rest) = cc in
        let count : first.count ≡ entry.count = sym (ap (λ (one : ℕ × LayeredValue). one.0) heads) in
        let layered : (layered_kept first).1 ≡ (layered_kept entry).1 =
        sym (ap (λ (one : ℕ × LayeredValue). one.1) heads) in
        ap (λ b. cons_option (counted_again (over first) (cond b (Some (merged_of entry))
        (merged_at (counted first.count) (map merged_of more))))
        (overlays_kept (map merged_of (entry ∷ more)) (map over rest)))
        (eq-eqb (counted first.count) (counted entry.count) (ap counted count))
        ∙ (λ i. over (record entry { count = count i; overlay = (layered i).overlay; above = (layered i).above })
        ∷ (kept_less (merged_of entry) (map merged_of more) (map over rest) (λ one m.
        let was = among-from_map over rest one m in
        ap (λ (o : worlds.OverlayEntry). nat_eq o.number (counted entry.count)) was.2
        ∙ nat_eq_turned (counted was.0.count) (counted entry.count)
        ∙ ap (λ n. nat_eq (counted n) (counted was.0.count)) (sym count) ∙ others was.0 was.1)
        ∙ later more tails parts.1) i)

    goes : Later → under_counts new ≡ filter stays (under_counts rest)
        → overlays_kept (map merged_of new) (over first ∷ map over rest) ≡ map over new
    goes later e =
        ap (λ o. cons_option (counted_again (over first) o) (overlays_kept (map merged_of new) (map over rest)))
        (none_at (counted first.count) new (λ entry m.
        let was = were_there rest new (stays, e) entry m in
        ap (λ n. nat_eq (counted first.count) (counted n)) (sym was.2) ∙ others was.0 was.1)) ∙ later new e parts.1

    by : Later → (b : Bool) → stays (layered_kept first) ≡ b
        → overlays_kept (map merged_of new) (over first ∷ map over rest) ≡ map over new
    by later true e =
        stays_with later new (left ∙ ap (λ b. cond b (layered_kept first ∷ filter stays (under_counts rest))
        (filter stays (under_counts rest))) e)
    by later false e =
        goes later (left ∙ ap (λ b. cond b (layered_kept first ∷ filter stays (under_counts rest))
        (filter stays (under_counts rest))) e)

-- Those that are left of its overlays, as often as they are mounted, are those that the store keeps, as the old plain
-- trees show them.
pub kept_in_store : (base : WorldValue) (old new : StoreValue) → IsHeld (with_store old base)
    → OverlaysLeft old.overlays new.overlays → overlays_kept (map merged_of new.overlays) (overlays_of_store old)
    ≡ map (overlay_of_store old.plain) new.overlays
kept_in_store base old new held left = kept_by old.plain left.0 old.overlays new.overlays left.1
    (subst (λ list. any_pair (λ (a b : Filesystem ℕ). nat_eq a.number b.number) list ≡ false)
    (overlays_are (with_store old base) held.overlays)
    (pair-filter (λ (a b : Filesystem ℕ). nat_eq a.number b.number) is_overlay
    (world_of (with_store old base)).filesystems held.in_world.files.one_filesystem))

-- An event that is done in a world, whose overlays are those that are left, is done in the world of the store.
pub done_in_store : (base new_base : WorldValue) (old new : StoreValue) → IsHeld (with_store old base)
    → OverlaysLeft old.overlays new.overlays → (name : TaskName) (permit : Permit ℕ)
    → Permits (with_store old base) name permit → IsDone (with_store old base) name permit (record new_base {
      filesystems = new.plain;
      overlays = overlays_kept (map merged_of new.overlays) (overlays_of_store old);
    }) → IsDone (with_store old base) name permit (with_store new new_base)
done_in_store base new_base old new held left name permit permits done =
    subst (IsDone (with_store old base) name permit)
    (store_stays base new_base old new permits.task permit held permits.given there.held
    (there.becomes permits.task permits.called) (were_there old.overlays new.overlays left)) there
  where
    there : IsDone (with_store old base) name permit
        (record new_base { filesystems = new.plain; overlays = map (overlay_of_store old.plain) new.overlays })
    there = subst (λ overlays. IsDone (with_store old base) name permit
        (record new_base { filesystems = new.plain; overlays = overlays })) (kept_in_store base old new held left) done
