-- What is kept by hash under the key of a name is what is in its place.
use Rattle.std.proofs.Common.{Bool, List, None, Option, Some, [], ap, arith, cond, eq-eqb, eqb-true, false, inl, inr, length, nat_eq, not, refl, suc, sym, take, true, true≢false, zero, ℕ, ◌&&◌, ◌++◌, ◌-◌, ◌<◌, ◌≤◌, ◌∙◌, ◌∷◌, ◌≡◌}
use Rattle.std.specs.Cmp.Lexicographic.{same_text}
use Rattle.std.specs.List.{IsDistinct, find}
use Rattle.std.specs.Map.{keys_of, lookup, lookup_entry, remove_entry}
use Rattle.std.specs.Option.{option_map, option_map_or}
use Rattle.std.specs.Str.{bytes_eq}
use Rattle.std.proofs.lemmas.List.{length-map, map-append, take-map, take_all}
use Rattle.std.proofs.lemmas.Map.{lookup-none}
use Rattle.std.proofs.lemmas.Map.Entries.{none_past_head}
use Rattle.std.proofs.lemmas.Map.Keys.{IsDistinct-tail}
use Rattle.lru.specs.LruCache.{IsValid, LruCache, promoted, put_entries}
use Rattle.lru.proofs.CallerLemmas.{Contains-lookup_entry, Contains-put_entries}
use Rattle.lru.proofs.Splits.{Contains-head, Contains-tail}
use Rattle.vt_spec.proofs.Common.{and_true_left, and_true_right}
use Rattle.vt_spec.specs.Lists.{then_some}
use Rattle.vt_location.specs.SameNodes.{same_node}
use Rattle.vt_location.specs.declared.locations.NodeRef.{NodeRef}
use Rattle.vt_names.specs.contracts.kept.NameKeyPartialEq.TheImpl as key_eq
use Rattle.vt_names.specs.contracts.kept.NameKeyEq.TheImpl.Laws.{laws-law}
use Rattle.vt_names.specs.declared.kept.KeptName.{KeptName}
use Rattle.vt_names.specs.declared.kept.NameKey.{NameKey}
use Rattle.vt_names.specs.NamesValue.{digest, first_in_place, is_in_place_of, is_of, kept_first, others_than, said}
use Rattle.vt_names.specs.Pairs.{AreByDigest, Pairs, entries_of, entry_of, key_of, said_by}
use Rattle.vt_names.proofs.Filtered.{filter-map, nothing_removed, of_key, of_others, one_removed, others-removed, promoted-first}
use Rattle.vt_names.proofs.Nodes.{one_node}

abbrev pub same_key : NameKey → NameKey → Bool
same_key = key_eq.ghosts.eq

-- a pair without the first of some
by_digest-tail : (pair : NameKey × KeptName) (pairs : Pairs) → AreByDigest (pair ∷ pairs) → AreByDigest pairs
by_digest-tail pair pairs by_digest one there = by_digest one (Contains-tail pair pairs one there)

three : (a b c : Bool) → (c ≡ true → b ≡ true) → (a && c) ≡ ((a && b) && c)
three true true c is = refl
three true false true is = absurd (true≢false (sym (is refl)))
three true false false is = refl
three false b c is = refl

then_cond : {A B : Type 0} (b : Bool) (a : A) (other : Option A) (next : A → Option B)
    → then_some (cond b (Some a) other) next ≡ cond b (next a) (then_some other next)
then_cond true a other next = refl
then_cond false a other next = refl

take_cons : {A : Type 0} (n : ℕ) (x : A) (xs : List A) → 0 < n → take n (x ∷ xs) ≡ x ∷ take (n - 1) xs
take_cons zero x xs some = absurd (let no : ⊥ = omega (arith, some) in no)
take_cons (suc m) x xs some = let one : suc m - 1 ≡ m = omega arith in ap (λ k. x ∷ take k xs) (sym one)

module _ (directory : NodeRef) (name : List ℕ) where
  abbrev pub key : NameKey
  key = key_of directory name

  -- a pair is under the key of a name just if its entry is in the name's place
  place-key : (pair : NameKey × KeptName) → pair.0.digest ≡ digest pair.1.name.items
      → is_in_place_of directory name (entry_of pair) ≡ same_key key pair.0
  place-key pair is = (λ i. same_node directory pair.0.directory && nat_eq (digest name) (sym is i))

  -- and is of the name, if its name is this one
  of-key : (pair : NameKey × KeptName) → pair.0.digest ≡ digest pair.1.name.items
      → is_of directory name (entry_of pair) ≡ (same_key key pair.0 && bytes_eq name pair.1.name.items)
  of-key pair is =
      three (same_node directory pair.0.directory) (nat_eq (digest name) pair.0.digest)
      (bytes_eq name pair.1.name.items)
      (λ same. eq-eqb (digest name) pair.0.digest (ap digest (same_text name pair.1.name.items (sym same)) ∙ sym is))

  pub others-entries : (pairs : Pairs) → AreByDigest pairs → IsDistinct same_key (keys_of pairs)
      → entries_of (remove_entry (same_key key) pairs) ≡ others_than directory name (entries_of pairs)
  others-entries pairs by_digest distinct = ap entries_of (sym (others-removed laws-law key pairs distinct))
      ∙ sym (filter-map entry_of (λ pair. not (same_key key pair.0))
      (λ entry. not (is_in_place_of directory name entry)) pairs
      (λ pair there. ap not (place-key pair (by_digest pair there))))

  pub first-entries : (pairs : Pairs) → AreByDigest pairs → IsDistinct same_key (keys_of pairs)
      → entries_of (promoted (same_key key) pairs) ≡ first_in_place directory name (entries_of pairs)
  first-entries pairs by_digest distinct = ap entries_of (promoted-first laws-law key pairs distinct)
      ∙ map-append entry_of (of_key laws-law key pairs) (of_others laws-law key pairs)
      ∙ (λ i. sym (filter-map entry_of (λ pair. same_key key pair.0) (is_in_place_of directory name) pairs
      (λ pair there. place-key pair (by_digest pair there))) i
      ++ sym (filter-map entry_of (λ pair. not (same_key key pair.0))
      (λ entry. not (is_in_place_of directory name entry)) pairs
      (λ pair there. ap not (place-key pair (by_digest pair there)))) i)

  -- what a look-up finds answers, if it is of this name
  pub said-lookup : (pairs : Pairs) → AreByDigest pairs → IsDistinct same_key (keys_of pairs)
      → said (entries_of pairs) directory name ≡ then_some (lookup (same_key key) pairs) (said_by name)
  said-lookup [] by_digest distinct = refl
  said-lookup (pair ∷ pairs) by_digest distinct =
      let rest = said-lookup pairs (by_digest-tail pair pairs by_digest)
      (IsDistinct-tail same_key pair.0 (keys_of pairs) distinct) in
      by (same_key key pair.0) (bytes_eq name pair.1.name.items) (is_of directory name (entry_of pair))
      (of-key pair (by_digest pair (Contains-head pair pairs))) rest
      (λ same. rest ∙ ap (λ found. then_some found (said_by name))
      (lookup-none (same_key key) pairs (none_past_head laws-law key pair pairs distinct same)))
      ∙ sym (then_cond (same_key key pair.0) pair.1 (lookup (same_key key) pairs) (said_by name))
    where
      by : (keyed named of : Bool) → of ≡ (keyed && named)
          → said (entries_of pairs) directory name ≡ then_some (lookup (same_key key) pairs) (said_by name)
          → (keyed ≡ true → said (entries_of pairs) directory name ≡ None)
          → option_map (λ entry. entry.node)
          (cond of (Some (entry_of pair)) (find (is_of directory name) (entries_of pairs)))
          ≡ cond keyed (cond named (Some pair.1.node) None) (then_some (lookup (same_key key) pairs) (said_by name))
      by true true true same rest none = refl
      by true true false same rest none = absurd (true≢false (sym same))
      by true false true same rest none = absurd (true≢false same)
      by true false false same rest none = none refl
      by false named true same rest none = absurd (true≢false same)
      by false named false same rest none = rest

-- A pair that is put

module _ (cache : LruCache NameKey KeptName) (directory : NodeRef) (kept : KeptName) (by_digest : AreByDigest cache.entries) where
  abbrev own : NameKey
  own = key_of directory kept.name.items

  pub digests-put : AreByDigest (put_entries same_key cache own kept)
  digests-put pair there = elim (Contains-put_entries same_key cache own kept pair there) [
    | inl was ↦ by_digest pair was
    | inr put ↦ elim put.1 [
      | inl same ↦ ap (λ k. k.digest) same ∙ ap (λ (one : KeptName). digest one.name.items) (sym put.0)
      | inr old ↦ sym (eqb-true (digest kept.name.items) pair.0.digest (and_true_right (same_node directory pair.0.directory) _ old.2))
          ∙ ap (λ (one : KeptName). digest one.name.items) (sym put.0)
    ]
  ]

  pub kept-entries : IsValid same_key cache → entries_of (put_entries same_key cache own kept)
      ≡ kept_first cache.cap (entry_of (own, kept)) (entries_of cache.entries)
  kept-entries valid = by (lookup_entry (same_key own) cache.entries) refl
      (others-entries directory kept.name.items cache.entries by_digest valid.0)
    where
      by : (found : Option (NameKey × KeptName)) → lookup_entry (same_key own) cache.entries ≡ found
          → entries_of (remove_entry (same_key own) cache.entries)
          ≡ others_than directory kept.name.items (entries_of cache.entries)
          → entries_of (option_map_or (λ e. (e.0, kept) ∷ remove_entry (same_key own) cache.entries) found
          ((own, kept) ∷ take (cache.cap - 1) cache.entries))
          ≡ kept_first cache.cap (entry_of (own, kept)) (entries_of cache.entries)
      by None is others =
          ap (λ l. entry_of (own, kept) ∷ l) (sym (take-map entry_of (cache.cap - 1) cache.entries)
          ∙ ap (take (cache.cap - 1)) (ap entries_of (sym (nothing_removed laws-law own cache.entries is)) ∙ others))
          ∙ sym (take_cons cache.cap (entry_of (own, kept))
          (others_than directory kept.name.items (entries_of cache.entries)) valid.2)
      by (Some e) is others =
          let there = Contains-lookup_entry (same_key own) cache.entries e is in
          let same : directory ≡ e.0.directory = one_node directory e.0.directory
          (and_true_left (same_node directory e.0.directory) _ there.1) in
          let mapped : length (entries_of (remove_entry (same_key own) cache.entries))
          ≡ length (remove_entry (same_key own) cache.entries) = length-map _ entry_of in
          let fewer = one_removed laws-law own cache.entries e is in
          let as_long = ap length others in
          let fits : length (entry_of (own, kept) ∷ others_than directory kept.name.items (entries_of cache.entries))
          ≤ cache.cap = omega (arith, mapped, fewer, as_long, valid.1) in
          (λ i. record { directory = sym same i; name = kept.name.items; node = kept.node } ∷ others i)
          ∙ sym (take_all cache.cap (entry_of (own, kept)
          ∷ others_than directory kept.name.items (entries_of cache.entries)) fits)
