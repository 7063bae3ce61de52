-- The overlays of a world count no uses of nodes, and go on to count none where plain filesystems change.
use Rattle.std.proofs.Common.{◌≡◌, refl, sym, ap, subst, ◌∙◌, ℕ, nat_eq, nat_lt, ltb-true, ne_eqb, Bool, true, false, cond, ◌||◌, List, [], ◌∷◌, ◌++◌, arith}
use Rattle.vt_spec.proofs.Common.{Inodes, common_steps, list_all, nat_eq_turned}
use Rattle.vt_fs.specs.FilesystemsValue.{shown_if, shown_with}
use Rattle.vt_laws_mounts.proofs.letting_go.Lists.{none_from_among}
use Rattle.vt_store.specs.OverlaysValue as stored
use Rattle.vt_ns.proofs.Common.{ChangesInodes, FilesystemEntry, Filesystems, IsHeld, Shown, StoreValue, WorldValue, all_from_among, among-from_map, among-map, among_from_all, among_from_list_all, counted_test, overlay_of_store, overlay_seen, overlays_of_store, shown, shown_entry, with_store}
use Rattle.vt_mounting.specs.Detach.Stored.{CountNoUses, CountsNoUses, has_count, layered_kept, under_counts}
use Rattle.vt_mounting.proofs.detach.CountNoUses.{still_same}
use Rattle.vt_mounting.proofs.detach.Overlaid.{overlay_apart}
use Rattle.vt_mounting.proofs.detach.StoreShown.{kept_lower}

pub counts_none : (base : WorldValue) (store : StoreValue) → IsHeld (with_store store base) → CountNoUses store
counts_none base store held = all_from_among (CountsNoUses (shown store.plain)) (under_counts store.overlays) (λ one m.
    let from = among-from_map layered_kept store.overlays one m in
    subst (CountsNoUses (shown store.plain)) (sym from.2) (record {
      low = kept_lower base store held from.0 from.1;
      apart = none_from_among (λ (other : Shown). nat_eq from.0.count other.count) (shown store.plain) (λ other n.
          let entry = among-from_map shown_entry store.plain other n in
          ap (λ (seen : Shown). nat_eq from.0.count seen.count) entry.2
          ∙ nat_eq_turned from.0.count entry.0.count ∙ sym (counted_test entry.0.count from.0.count)
          ∙ overlay_apart held entry.0 entry.1 (overlay_seen (overlay_of_store store.plain from.0))
          (among-map overlay_seen (overlays_of_store store) (overlay_of_store store.plain from.0)
          (among-map (overlay_of_store store.plain) store.overlays from.0 from.1)));
    }))

-- Trees change,
changed_count : (count : ℕ) (change : Inodes ℕ → Inodes ℕ) (one : Shown) → (shown_if count change one).count ≡ one.count
changed_count count change one = by (nat_eq count one.count)
  where
    by : (b : Bool) → (cond b (record one { inodes = change one.inodes }) one).count ≡ one.count
    by true = refl
    by false = refl

changed_counts : (at : ℕ) (change : Inodes ℕ → Inodes ℕ) (count : ℕ) (all : List Shown)
    → has_count count (shown_with at change all) ≡ has_count count all
changed_counts at change count [] = refl
changed_counts at change count (one ∷ rest) =
    grind (arith, common_steps, changed_counts at change count rest, changed_count)

pub still_changed : (store : StoreValue) → CountNoUses store → (plain : Filesystems) {count : ℕ}
    {change : Inodes ℕ → Inodes ℕ} → ChangesInodes count change store.plain plain
    → CountNoUses (record store { plain = plain })
still_changed store none plain {count} {change} changes = still_same store none (record store { plain = plain }) refl
    (λ other absent. ap (has_count other) changes.changed ∙ changed_counts count change other (shown store.plain)
    ∙ absent)

-- and a filesystem comes that is younger than they are.
younger : (count : ℕ) (entry : FilesystemEntry) (plain : Filesystems) → nat_eq count entry.count ≡ false
    → has_count count (shown plain) ≡ false → has_count count (shown (plain ++ entry ∷ [])) ≡ false
younger count entry [] other none = ap (λ b. b || false) other
younger count entry (first ∷ rest) other none = grind (arith, common_steps, younger count entry rest)

below_is_other : (a b : ℕ) → nat_lt a b ≡ true → nat_eq a b ≡ false
below_is_other a b low = let less = ltb-true a b low in ne_eqb a b (λ same. omega (arith, less, same))

pub still_added : (store : StoreValue) → CountNoUses store → (plain : Filesystems) (entry : FilesystemEntry) {count : ℕ}
    → entry.count ≡ count
    → list_all (λ (other : stored.OverlayEntry). nat_lt other.count count) store.overlays ≡ true
    → plain ≡ store.plain ++ entry ∷ [] → CountNoUses (record store { plain = plain })
still_added store none plain entry {count} is above added =
    all_from_among (CountsNoUses (shown plain)) (under_counts store.overlays) (λ one m.
    let from = among-from_map layered_kept store.overlays one m in
    let counts = among_from_all (CountsNoUses (shown store.plain)) (under_counts store.overlays) none one m in
    record {
      low = counts.low;
      apart = ap (λ all. has_count one.0 (shown all)) added ∙ younger one.0 entry store.plain
          (ap (λ (other : ℕ). nat_eq other entry.count) (ap (λ one. one.0) from.2)
          ∙ ap (nat_eq from.0.count) is ∙ below_is_other from.0.count count
          (among_from_list_all (λ (other : stored.OverlayEntry). nat_lt other.count count) store.overlays above from.0
          from.1)) counts.apart;
    })

-- No filesystem has a count that is above all.
pub none_so_young : (count : ℕ) (plain : Filesystems)
    → list_all (λ (entry : FilesystemEntry). nat_lt entry.count count) plain ≡ true
    → has_count count (shown plain) ≡ false
none_so_young count plain above = none_from_among (λ (one : Shown). nat_eq count one.count) (shown plain) (λ one m.
    let entry = among-from_map shown_entry plain one m in
    ap (λ (seen : Shown). nat_eq count seen.count) entry.2 ∙ nat_eq_turned count entry.0.count
    ∙ below_is_other entry.0.count count
    (among_from_list_all (λ (other : FilesystemEntry). nat_lt other.count count) plain above entry.0 entry.1))
