-- Entries of namespaces, as a map keeps them and as contracts see them.
use Rattle.std.proofs.Common.{◌≡◌, refl, sym, ap, ◌∙◌, ℕ, nat_eq, eqb-true, Bool, true, false, cond, not, List, [], ◌∷◌, map, filter, find, Option, Some, None, option_map, arith}
use Rattle.vt_spec.proofs.Common.{AllByRecursion, IsDistinct-head, IsDistinct-tail, common_steps, keys_of, lookup, remove_entry, same_Some, set_value}
use Rattle.std.specs.List.{IsDistinct}
use Rattle.vt_location.specs.declared.numbers.NamespaceId.{NamespaceId}
pub use Rattle.vt_mount.specs.Indexes.{same_namespace}
use Rattle.vt_world.specs.declared.namespaces.Namespace.{Namespace}
use Rattle.vt_mounting.proofs.Common.{NamespaceEntry, entries_of}
use Rattle.vt_world.specs.WorldValue.{entry_of}

abbrev pub is_id : ℕ → NamespaceId → Bool
is_id count id = nat_eq count id.count

abbrev pub Entries : Type 0
Entries = List (NamespaceId × Namespace)

pub entry_found : (count : ℕ) (es : Entries) (o : Option Namespace) → lookup (is_id count) es ≡ o
    → find (λ entry. nat_eq count entry.count) (entries_of es)
    ≡ option_map (λ (one : Namespace). record { count = count; tasks = one.tasks }) o
entry_found count [] None e = refl
entry_found count [] (Some x) e = absurd cc
entry_found count (e ∷ es) o is = grind (arith, common_steps, entry_found count es o, eqb-true)

-- the entries of the others stay
others_stay : (count : ℕ) (change : NamespaceEntry → NamespaceEntry) (first : NamespaceId) (es : Entries)
    → nat_eq count first.count ≡ true → AllByRecursion (λ other. same_namespace first other ≡ false) (keys_of es)
    → map (λ (entry : NamespaceEntry). cond (nat_eq count entry.count) (change entry) entry) (entries_of es)
    ≡ entries_of es
others_stay count change first [] here apart = refl
others_stay count change first (e ∷ es) here apart =
    λ i. cond ((ap (λ n. nat_eq n e.0.count) (eqb-true count first.count here) ∙ apart.0) i) (change (entry_of e))
    (entry_of e) ∷ others_stay count change first es here apart.1 i

pub entries_written : (count : ℕ) (change : NamespaceEntry → NamespaceEntry) (es : Entries) (old new : Namespace)
    → IsDistinct same_namespace (keys_of es)
    → lookup (is_id count) es ≡ Some old → ((id : NamespaceId) → entry_of (id, new) ≡ change (entry_of (id, old)))
    → entries_of (set_value (is_id count) es new)
    ≡ map (λ (entry : NamespaceEntry). cond (nat_eq count entry.count) (change entry) entry) (entries_of es)
entries_written count change [] old new distinct found same = absurd cc
entries_written count change (e ∷ es) old new distinct found same = by (nat_eq count e.0.count) refl found
    (λ f. entries_written count change es old new (IsDistinct-tail same_namespace e.0 (keys_of es) distinct) f same)
  where
    by : (b : Bool) → nat_eq count e.0.count ≡ b → cond b (Some e.1) (lookup (is_id count) es) ≡ Some old
        → (lookup (is_id count) es ≡ Some old → entries_of (set_value (is_id count) es new)
        ≡ map (λ (entry : NamespaceEntry). cond (nat_eq count entry.count) (change entry) entry) (entries_of es))
        → entries_of (cond b ((e.0, new) ∷ es) (e ∷ set_value (is_id count) es new))
        ≡ cond b (change (entry_of e)) (entry_of e)
        ∷ map (λ (entry : NamespaceEntry). cond (nat_eq count entry.count) (change entry) entry) (entries_of es)
    by true t f later = (λ i. (same e.0 ∙ ap (λ n. change (entry_of (e.0, n))) (sym (same_Some e.1 old f))) i
        ∷ sym (others_stay count change e.0 es t (IsDistinct-head same_namespace e.0 (keys_of es) distinct)) i)
    by false t f later = ap (λ rest. entry_of e ∷ rest) (later f)

-- where no namespace has the count, no entry is changed
pub none_written : (count : ℕ) (change : NamespaceEntry → NamespaceEntry) (es : Entries)
    → lookup (is_id count) es ≡ None
    → map (λ (entry : NamespaceEntry). cond (nat_eq count entry.count) (change entry) entry) (entries_of es)
    ≡ entries_of es
none_written count change [] none = refl
none_written count change (e ∷ es) none = grind (arith, common_steps, none_written count change es)

-- an entry that is written back as it was
pub written_back : (count : ℕ) (es : Entries) (namespace : Namespace) → lookup (is_id count) es ≡ Some namespace
    → set_value (is_id count) es namespace ≡ es
written_back count [] namespace found = refl
written_back count (e ∷ es) namespace found = grind (arith, common_steps, written_back count es namespace)

none_filtered : (count : ℕ) (es : Entries) → lookup (is_id count) es ≡ None
    → filter (λ (other : NamespaceEntry). not (nat_eq count other.count)) (entries_of es) ≡ entries_of es
none_filtered count [] none = refl
none_filtered count (e ∷ es) none = grind (arith, common_steps, none_filtered count es)

pub entries_removed : (count : ℕ) (es : Entries) → lookup (is_id count) (remove_entry (is_id count) es) ≡ None
    → entries_of (remove_entry (is_id count) es)
    ≡ filter (λ (other : NamespaceEntry). not (nat_eq count other.count)) (entries_of es)
entries_removed count [] absent = refl
entries_removed count (e ∷ es) absent = grind (arith, common_steps, entries_removed count es, none_filtered)
