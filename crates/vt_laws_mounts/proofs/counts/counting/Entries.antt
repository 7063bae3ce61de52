-- How often the entries of directories lead to an inode, after each change of entries.
use Rattle.std.proofs.Common.{◌≡◌, ◌≢◌, refl, sym, ap, subst, ◌∙◌, ⊎_elim, inl, inr, ◌⊎◌, ℕ, ◌+◌, ◌≤◌, nat_eq, eq-eqb, ne_eqb, Bool, true, false, cond, not, ◌&&◌, List, [], ◌∷◌, map, flat_map, Option, Some, None, arith, is_eq, is_lt, bytes_eq, Ordering, Less, Equal, Greater}
use Rattle.vt_spec.proofs.Common.{Content, Directory, Entries, Node, Regular, Symlink, T_from_true, Whiteout, and_parts, below_all, by_order, bytes_decides, common_steps, entries_in, entries_of, entry_named, entry_named-below, eqb_tells, find-where_key, is_directory, is_sorted, is_sorted-where_key, kind_of, name_cmp, nat_list_cmp_total, new_directory, passes, targets_in, texts_ties, with_entry, without_entry}
use Rattle.vt_laws_mounts.proofs.counts.counting.Times.{times_append, times_in}

abbrev pub targets : Entries ℕ → List ℕ
targets entries = map (λ entry. entry.1) entries

-- one if it is this number
abbrev pub one_if : ℕ → ℕ → ℕ
one_if number other = cond (nat_eq number other) 1 0

abbrev pub one_if_some : ℕ → Option ℕ → ℕ
one_if_some number None = 0
one_if_some number (Some other) = one_if number other

is_less : (o : Ordering) → is_lt o ≡ true → o ≡ Less
is_less Less e = refl
is_less Equal e = cc
is_less Greater e = cc

below_less : (name other : List ℕ) (entries : Entries ℕ) → name_cmp name other ≡ Less
    → below_all name_cmp other entries ≡ true → below_all name_cmp name entries ≡ true
below_less name other [] less e = refl
below_less name other (entry ∷ rest) less e =
    let parts = and_parts (is_lt (name_cmp other entry.0)) (below_all name_cmp other rest) e in
    (λ i. is_lt (nat_list_cmp_total.trans name other entry.0 less (is_less _ parts.0) i)
    && below_less name other rest less parts.1 i)

-- an entry more, in the place of the one with its name
pub times_put : (number : ℕ) (name : List ℕ) (object : ℕ) (entries : Entries ℕ) → is_sorted name_cmp entries ≡ true
    → times_in number (targets (with_entry name object entries)) + one_if_some number
    (entry_named name entries) ≡ times_in number (targets entries) + one_if number object
times_put number name object [] sorted = omega arith
times_put number name object (entry ∷ rest) sorted = by _ refl (times_put number name object rest parts.1)
  where
    parts : (below_all name_cmp entry.0 rest ≡ true) × (is_sorted name_cmp rest ≡ true)
    parts = and_parts (below_all name_cmp entry.0 rest) (is_sorted name_cmp rest) sorted

    by : (o : Ordering) → name_cmp name entry.0 ≡ o
        → times_in number (targets (with_entry name object rest)) + one_if_some number (entry_named name rest)
        ≡ times_in number (targets rest) + one_if number object → times_in number
        (targets (by_order o ((name, object) ∷ entry ∷ rest) ((entry.0, object) ∷ rest)
        (entry ∷ with_entry name object rest))) + one_if_some number
        (cond (is_eq o) (Some entry.1) (entry_named name rest))
        ≡ times_in number (targets (entry ∷ rest)) + one_if number object
    by o e later = grind (arith, common_steps, later, entry_named-below, below_less, parts, times_in)

-- an entry less
pub times_without : (number : ℕ) (name : List ℕ) (entries : Entries ℕ) → is_sorted name_cmp entries ≡ true
    → times_in number (targets (without_entry name entries)) + one_if_some number (entry_named name entries)
    ≡ times_in number (targets entries)
times_without number name [] sorted = omega arith
times_without number name (entry ∷ rest) sorted = by _ refl _ refl (times_without number name rest parts.1)
  where
    parts : (below_all name_cmp entry.0 rest ≡ true) × (is_sorted name_cmp rest ≡ true)
    parts = and_parts (below_all name_cmp entry.0 rest) (is_sorted name_cmp rest) sorted

    by : (b : Bool) → bytes_eq entry.0 name ≡ b → (c : Bool) → is_eq (name_cmp name entry.0) ≡ c
        → times_in number (targets (without_entry name rest)) + one_if_some number (entry_named name rest)
        ≡ times_in number (targets rest) → times_in number
        (targets (cond (not b) (entry ∷ without_entry name rest) (without_entry name rest))) + one_if_some number
        (cond c (Some entry.1) (entry_named name rest)) ≡ one_if number entry.1 + times_in number (targets rest)
    by true e true f later =
        let same : entry.0 ≡ name = (bytes_decides entry.0 name).0 e in
        let none : entry_named name rest ≡ None =
        entry_named-below name rest (subst (λ n. below_all name_cmp n rest ≡ true) same parts.0) in
        let all : times_in number (targets (without_entry name rest)) + 0 ≡ times_in number (targets rest) =
        subst (λ o. times_in number (targets (without_entry name rest)) + one_if_some number o ≡ times_in number
        (targets rest)) none later in
        omega arith
    by true e false f later =
        let same : name ≡ entry.0 = sym ((bytes_decides entry.0 name).0 e) in
        absurd (cc (texts_ties name entry.0, (bytes_decides name entry.0).1 same, f))
    by false e true f later =
        let same : name ≡ entry.0 = (bytes_decides name entry.0).0 (texts_ties name entry.0 ∙ f) in
        absurd (cc ((bytes_decides entry.0 name).1 (sym same), e))
    by false e false f later = omega arith

pub sorted_without : (name : List ℕ) (entries : Entries ℕ) → is_sorted name_cmp entries ≡ true
    → is_sorted name_cmp (without_entry name entries) ≡ true
sorted_without name entries sorted =
    passes _ (is_sorted-where_key name_cmp (λ key. not (bytes_eq key name)) entries (T_from_true _ sorted))

-- an entry that is found is one
pub found_target : (number : ℕ) (name : List ℕ) (entries : Entries ℕ)
    → one_if_some number (entry_named name entries) ≤ times_in number (targets entries)
found_target number name [] = omega arith
found_target number name (entry ∷ rest) = grind (arith, common_steps, found_target number name rest)

-- Of all directories
abbrev pub changed_at : (ℕ → Option (Node ℕ)) → ℕ → Option (Node ℕ) → ℕ → Option (Node ℕ)
changed_at node place new other = cond (nat_eq other place) new (node other)

abbrev pub named_by : (ℕ → Option (Node ℕ)) → List ℕ → List ℕ
named_by node numbers = flat_map (λ directory. targets_in (node directory)) numbers

-- a directory that is not among them does not count
pub named_apart : (node : ℕ → Option (Node ℕ)) (place : ℕ) (new : Option (Node ℕ)) (numbers : List ℕ)
    → times_in place numbers ≡ 0 → named_by (changed_at node place new) numbers ≡ named_by node numbers
named_apart node place new [] none = refl
named_apart node place new (first ∷ rest) none =
    grind (arith, common_steps, ne_eqb, eqb_tells, named_apart node place new rest)

-- one that is among them once has its new entries for its old ones
pub named_changed : (number : ℕ) (node : ℕ → Option (Node ℕ)) (place : ℕ) (new : Option (Node ℕ)) (numbers : List ℕ)
    → times_in place numbers ≡ 1 → times_in number (named_by (changed_at node place new) numbers) + times_in number
    (targets_in (node place)) ≡ times_in number (named_by node numbers) + times_in number (targets_in new)
named_changed number node place new [] one = absurd (omega arith)
named_changed number node place new (first ∷ rest) one = grind (
  arith,
  common_steps,
  eqb_tells,
  times_in,
  times_append,
  named_apart,
  eq-eqb,
  ne_eqb,
  named_changed number node place new rest,
)

-- a node changed where it stands
abbrev pub at_place : (ℕ → Option (Node ℕ)) → ℕ → (Option (Node ℕ) → Option (Node ℕ)) → ℕ → Option (Node ℕ)
at_place node place change = changed_at node place (change (node place))

pub part_at : {A : Type 0} (part : Option (Node ℕ) → A) (node : ℕ → Option (Node ℕ)) (place : ℕ)
    (change : Option (Node ℕ) → Option (Node ℕ)) → part (change (node place)) ≡ part (node place) → (n : ℕ)
    → part (at_place node place change n) ≡ part (node n)
part_at part node place change same n = ⊎_elim (λ t. cc (t.0, t.1))
    (λ t. ap (λ b. part (cond b (change (node place)) (node n))) t.0) (eqb_tells n place)

pub at_other : (node : ℕ → Option (Node ℕ)) (place : ℕ) (change : Option (Node ℕ) → Option (Node ℕ)) (n : ℕ) → n ≢ place
    → at_place node place change n ≡ node n
at_other node place change n other = ap (λ b. cond b (change (node place)) (node n)) (ne_eqb n place other)

pub sorted_at : (node : ℕ → Option (Node ℕ)) (place : ℕ) (change : Option (Node ℕ) → Option (Node ℕ))
    → ((n : ℕ) → is_sorted name_cmp (entries_in (node n)) ≡ true)
    → (is_sorted name_cmp (entries_in (change (node place))) ≡ true) → (n : ℕ)
    → is_sorted name_cmp (entries_in (at_place node place change n)) ≡ true
sorted_at node place change all here n = ⊎_elim
    (λ t. subst (λ b. is_sorted name_cmp (entries_in (cond b (change (node place)) (node n))) ≡ true) (sym t.0) here)
    (λ t. subst (λ b. is_sorted name_cmp (entries_in (cond b (change (node place)) (node n))) ≡ true) (sym t.0) (all n))
    (eqb_tells n place)

-- what a new object holds
pub new_entries : (directory : ℕ) (content : Content ℕ)
    → ((content ≡ new_directory directory) ⊎ (is_directory (kind_of content) ≡ false)) → entries_of content ≡ []
new_entries directory (Directory parent entries opaque) (inl e) = ap entries_of e
new_entries directory (Directory parent entries opaque) (inr e) = cc
new_entries directory (Regular bytes) e = refl
new_entries directory (Symlink text) e = refl
new_entries directory Whiteout e = refl

-- changes at two places may change places
pub commute : (node : ℕ → Option (Node ℕ)) (a b : ℕ) (f g : Option (Node ℕ) → Option (Node ℕ)) → a ≢ b → (n : ℕ)
    → at_place (at_place node a f) b g n ≡ at_place (at_place node b g) a f n
commute node a b f g apart n = grind (arith, common_steps, at_other, eqb_tells)

-- entries of another name stay
pub find_without : (name other : List ℕ) (entries : Entries ℕ) → (bytes_eq other name ≡ false)
    → entry_named other (without_entry name entries) ≡ entry_named other entries
find_without name other entries apart = find-where_key name_cmp (λ key. not (bytes_eq key name)) other
    (λ key same. ap (λ k. not (bytes_eq k name))
    (sym ((bytes_decides other key).0 (texts_ties other key ∙ ap Rattle.std.specs.Ordering.is_eq same)))) entries
    ∙ ap (λ b. cond (not b) (entry_named other entries) None) apart
