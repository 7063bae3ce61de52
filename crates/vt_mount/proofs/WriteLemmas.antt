-- What is written to one mount.
use Rattle.std.proofs.Common.{◌≡◌, ℕ, ◌+◌, ◌-◌, nat_eq, arith, Bool, true, false, cond, List, map, None, Some, option_map, refl, sym, ap, ◌∙◌, IsSome, is_some, unwrap_or, ◌&&◌, ◌∷◌, []}
use Rattle.vt_spec.proofs.Common.{holds_of, list_all, lookup}
use Rattle.indexmap.specs.IndexMap.{IndexMap, WritesThrough, get_by}
use Rattle.vt_location.specs.Numbers.{counted, same_id}
use Rattle.vt_location.specs.declared.numbers.MountId.{MountId}
use Rattle.vt_mount.specs.declared.indexes.Indexes.{Indexes}
use Rattle.vt_mount.specs.declared.mounted.Mounted.{Mounted}
use Rattle.vt_mount.specs.Indexed.{IsIndexed, is_kept_small, numbers_where}
use Rattle.vt_location.specs.Locations.{is_small_node}
use Rattle.vt_mount.specs.Indexes.{is_at, is_in, is_on, same_namespace, same_place}
use Rattle.vt_mount.specs.Listed.{count_of as times}
use Rattle.vt_mount.specs.MountsValue.{MountEntry, changed, entries_of, entry_of, held, in_order, released}
use Rattle.vt_mount.proofs.EntryLemmas.{kept-changed}
use Rattle.vt_mount.proofs.IndexLemmas.{numbers-changed}
use Rattle.vt_location.proofs.OrderLemmas.{changed-by, changed-none}
use Rattle.vt_mount.proofs.OrderLemmas.{change_kept, count_of, in_order-changed, whole}

-- a map in which one mount is changed by a function, if it is there
abbrev pub IsWritten : MountId → (Mounted → Mounted) → List (MountId × Mounted) → List (MountId × Mounted) → Type 0
IsWritten id change es new = (q : MountId) → lookup (same_id q) new
    ≡ cond (same_id id q) (option_map change (lookup (same_id q) es)) (lookup (same_id q) es)

module _ {S : Type 0} (id : MountId) (change : Mounted → Mounted) (m n : IndexMap MountId Mounted S) where
  pub is-written : (x w : Mounted) → get_by (same_id id) m ≡ Some x → w ≡ change x
      → WritesThrough same_id (same_id id) m w n → IsWritten id change m.entries n.entries
  is-written x w there is writes =
      changed-by count_of whole id change m.entries n.entries x w there is (writes.3 some).0
    where
      some : IsSome (get_by (same_id id) m)
      some = ap is_some there

pub not-written : {S : Type 0} (id : MountId) (change : Mounted → Mounted) (m : IndexMap MountId Mounted S)
    (new : List (MountId × Mounted))
    → get_by (same_id id) m ≡ None → new ≡ m.entries → IsWritten id change m.entries new
not-written id change m new none is = changed-none count_of whole id change m.entries new none is

-- the lists stay right where a mount stays where it is
module _ (id : MountId) (change : Mounted → Mounted)
    (namespaces : (one : Mounted) → (change one).namespace ≡ one.namespace)
    (places : (one : Mounted) → (change one).mount_point ≡ one.mount_point) where
  slots-changed : (kept : List (MountId × Mounted))
      → list_all is_kept_small (map (change_kept id change) kept) ≡ list_all is_kept_small kept
  slots-changed [] = refl
  slots-changed (one ∷ kept) = λ i. by (same_id id one.0) i && slots-changed kept i
    where
      by : (b : Bool) → is_kept_small (one.0, cond b (change one.1) one.1) ≡ is_kept_small one
      by true = ap (λ point. unwrap_or (option_map (λ place. is_small_node place.node) point) true) (places one.1)
      by false = refl

  pub indexed-written : (indexes : Indexes) (es new : List (MountId × Mounted)) → IsWritten id change es new
      → IsIndexed indexes (in_order es) → IsIndexed indexes (in_order new)
  indexed-written indexes es new writes old =
      let order = in_order-changed id change es new writes in
      record {
        namespace = λ q. old.namespace q ∙ sym (ap (numbers_where (is_in q)) order
            ∙ numbers-changed (is_in q) id change (λ n one. ap (holds_of (same_namespace q)) (namespaces one))
            (in_order es));
        parent = λ q. old.parent q ∙ sym (ap (numbers_where (is_on q)) order
            ∙ numbers-changed (is_on q) id change (λ n one. ap (holds_of (λ place. same_id q place.mount)) (places one))
            (in_order es));
        place = λ q mount. old.place q mount ∙ ap (times (same_id mount)) (sym (ap (numbers_where (is_at q)) order
            ∙ numbers-changed (is_at q) id change (λ n one. ap (holds_of (same_place q)) (places one)) (in_order es)));
        slots = ap (list_all is_kept_small) order ∙ slots-changed (in_order es) ∙ old.slots;
      }

-- what contracts see of it
pub entries-written : (id : MountId) (change : Mounted → Mounted) (seen : MountEntry → MountEntry)
    (es new : List (MountId × Mounted)) (old : List MountEntry)
    → ((n : MountId) (one : Mounted) → entry_of (n, change one) ≡ seen (entry_of (n, one))) → IsWritten id change es new
    → entries_of es ≡ old → entries_of new ≡ changed (counted id.count) seen old
entries-written id change seen es new old so writes is =
    kept-changed id seen change so es new writes ∙ ap (changed (counted id.count) seen) is

-- one that is written back as it was
unchanged : (id : MountId) (kept : List (MountId × Mounted)) → map (change_kept id (λ one. one)) kept ≡ kept
unchanged id [] = refl
unchanged id (one ∷ kept) = λ i. (one.0, by (same_id id one.0) i) ∷ unchanged id kept i
  where
    by : (b : Bool) → cond b one.1 one.1 ≡ one.1
    by true = refl
    by false = refl

pub order-unwritten : (id : MountId) (es new : List (MountId × Mounted)) → IsWritten id (λ one. one) es new
    → in_order new ≡ in_order es
order-unwritten id es new writes = in_order-changed id (λ one. one) es new writes ∙ unchanged id (in_order es)

pub entries-unwritten : (id : MountId) (es new : List (MountId × Mounted)) (old : List MountEntry)
    → IsWritten id (λ one. one) es new → entries_of es ≡ old → entries_of new ≡ old
entries-unwritten id es new old writes is = ap (map entry_of) (order-unwritten id es new writes) ∙ is

-- Counted and counted no more

more-less : (n m : ℕ) → n + m - m ≡ n
more-less n m = omega arith

pub released-held : (writes : Bool) (entry : MountEntry) → released writes (held writes entry) ≡ entry
released-held true entry = λ i.
    record { mount = entry.mount; uses = more-less entry.uses 1 i; writers = more-less entry.writers 1 i }
released-held false entry = λ i.
    record { mount = entry.mount; uses = more-less entry.uses 1 i; writers = more-less entry.writers 0 i }

pub released-all : (number : ℕ) (writes : Bool) (entries : List MountEntry)
    → changed number (released writes) (changed number (held writes) entries) ≡ entries
released-all number writes [] = refl
released-all number writes (entry ∷ entries) = λ i. by (nat_eq number entry.mount.number) refl i
    ∷ released-all number writes entries i
  where
    by : (b : Bool) → nat_eq number entry.mount.number ≡ b
        → cond (nat_eq number (cond b (held writes entry) entry).mount.number)
        (released writes (cond b (held writes entry) entry)) (cond b (held writes entry) entry) ≡ entry
    by true is = ap (λ b. cond b (released writes (held writes entry)) (held writes entry)) is
        ∙ released-held writes entry
    by false is = ap (λ b. cond b (released writes entry) entry) is
