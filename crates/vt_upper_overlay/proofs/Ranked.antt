-- What a directory leads to has a first name: one of rank 0.
use Rattle.std.proofs.Common.{Bool, List, None, Option, Some, [], ap, arith, cond, eq-eqb, false, is_some, length, map, nat_eq, option_map, refl, suc, sym, true, true≢false, zero, ⊎_elim, ℕ, ◌&&◌, ◌+◌, ◌∙◌, ◌∷◌, ◌<◌, ◌≡◌, ◌≤◌, is_lt, Ordering, Less, filter, find}
use Rattle.vt_spec.proofs.Common.{Among, Entries, Node, Tree, and_true_left, and_true_right, entries_in, entries_of, found_among, found_passes, has_entry_to, is_among, is_directory, is_directory_node, kind_of, name_cmp, nat_list_cmp_total, tied_itself, common_steps}
use Rattle.vt_fs.specs.FilesystemsValue.{node_seen}
use Rattle.vt_location.proofs.NumberLemmas.{exchanged_slot}
use Rattle.vt_location.specs.Numbers.{exchanged, inode_number}
use Rattle.vt_node.proofs.RankLemmas.{before}
use Rattle.vt_node.specs.Ranks.{has_rank, name_ranked, rank_among}
use Rattle.vt_overlay.proofs.BornNamed.{none_counts}
use Rattle.vt_overlay.proofs.RanksSeen.{ranked_seen}

some_found : {A : Type 0} (p : A → Bool) (xs : List A) (x : A) → Among x xs → p x ≡ true → is_some (find p xs) ≡ true
some_found p [] x m e = absurd m
some_found p (first ∷ xs) x m e =
    ⊎_elim (λ same. ap (λ b. is_some (cond b (Some first) (find p xs))) (ap p (sym same) ∙ e))
    (λ l. later (p first) (some_found p xs x l e)) m
  where
    later : (b : Bool) → is_some (find p xs) ≡ true → is_some (cond b (Some first) (find p xs)) ≡ true
    later b h = grind (arith, common_steps)

-- how many pass the one test and the other
module _ {A : Type 0} (p q : A → Bool) (also : (x : A) → p x ≡ true → q x ≡ true) where
  each : (b c : Bool) (n : ℕ) (x : A) (ps qs : List A) → (b ≡ true → c ≡ true) → n + length ps ≤ length qs
      → n + length (cond b (x ∷ ps) ps) ≤ length (cond c (x ∷ qs) qs)
  each b c n x ps qs h few = grind (arith, common_steps)

  no_more : (xs : List A) → 0 + length (filter p xs) ≤ length (filter q xs)
  no_more [] = omega arith
  no_more (x ∷ xs) = each (p x) (q x) 0 x (filter p xs) (filter q xs) (also x) (no_more xs)

  fewer : (xs : List A) (x : A) → Among x xs → p x ≡ false → q x ≡ true
      → 1 + length (filter p xs) ≤ length (filter q xs)
  fewer [] x m out within = absurd m
  fewer (first ∷ xs) x m out within =
      ⊎_elim (λ same. here (p first) (q first) (ap p (sym same) ∙ out) (ap q (sym same) ∙ within))
      (λ l. each (p first) (q first) 1 first (filter p xs) (filter q xs) (also first) (fewer xs x l out within)) m
    where
      here : (b c : Bool) → b ≡ false → c ≡ true
          → 1 + length (cond b (first ∷ filter p xs) (filter p xs)) ≤ length
          (cond c (first ∷ filter q xs) (filter q xs))
      here b c e f = grind (arith, common_steps, no_more)

less_so : (o : Ordering) → is_lt o ≡ true → o ≡ Less
less_so o e = grind (arith, common_steps)

not_before_itself : (id : ℕ) (entry : List ℕ × ℕ) → before id entry.0 entry ≡ false
not_before_itself id entry =
    grind (arith, common_steps, nat_eq id entry.1, name_cmp entry.0 entry.0, tied_itself nat_list_cmp_total entry.0)

-- of the names that lead to a node one has the rank 0, if one has it where there is a smaller rank
first_by : (entries : Entries ℕ) (id : ℕ) (entry : List ℕ × ℕ) → Among entry entries → nat_eq id entry.1 ≡ true
    → ((other : List ℕ × ℕ) → Among other entries → nat_eq id other.1 ≡ true
    → 1 + rank_among entries other.0 id ≤ rank_among entries entry.0 id
    → is_some (find (has_rank entries id 0) entries) ≡ true) → is_some (find (has_rank entries id 0) entries) ≡ true
first_by entries id entry m leads smaller = by (find (before id entry.0) entries) refl
  where
    by : (o : Option (List ℕ × ℕ)) → find (before id entry.0) entries ≡ o
        → is_some (find (has_rank entries id 0) entries) ≡ true
    by None e = grind (arith, common_steps, some_found, eq-eqb, none_counts)
    by (Some other) e =
        let among = found_among (before id entry.0) entries other e in
        let passes = found_passes (before id entry.0) entries other e in
        let less = less_so (name_cmp other.0 entry.0) (and_true_right (nat_eq id other.1) _ passes) in
        smaller other among (and_true_left (nat_eq id other.1) _ passes) (fewer (before id other.0) (before id entry.0)
        (λ x h. λ i. and_true_left (nat_eq id x.1) _ h i && is_lt (nat_list_cmp_total.trans x.0 other.0 entry.0
        (less_so (name_cmp x.0 other.0) (and_true_right (nat_eq id x.1) _ h)) less i))
        entries other among (not_before_itself id other) passes)

first_ranked : (n : ℕ) (entries : Entries ℕ) (id : ℕ) (entry : List ℕ × ℕ) → Among entry entries
    → nat_eq id entry.1 ≡ true → rank_among entries entry.0 id ≤ n
    → is_some (find (has_rank entries id 0) entries) ≡ true
first_ranked zero entries id entry m leads within = first_by entries id entry m leads (λ other among leads_too smaller.
    absurd (let no : ⊥ = omega (arith, smaller, within) in no))
first_ranked (suc n) entries id entry m leads within =
    first_by entries id entry m leads (λ other among leads_too smaller.
    first_ranked n entries id other among leads_too (omega (arith, smaller, within)))

-- so a name of rank 0 tells whether some name leads there
pub some_ranked : (id : ℕ) (entries : Entries ℕ)
    → is_some (name_ranked entries id 0) ≡ is_among nat_eq id (map (λ (entry : List ℕ × ℕ). entry.1) entries)
some_ranked id entries = by (find (λ (entry : List ℕ × ℕ). nat_eq id entry.1) entries) refl
  where
    some_mapped : (o : Option (List ℕ × ℕ)) → is_some (option_map (λ (entry : List ℕ × ℕ). entry.0) o) ≡ is_some o
    some_mapped o = grind (arith, common_steps)

    among : (list : Entries ℕ) → is_among nat_eq id (map (λ (entry : List ℕ × ℕ). entry.1) list)
        ≡ is_some (find (λ (entry : List ℕ × ℕ). nat_eq id entry.1) list)
    among [] = refl
    among (first ∷ list) = grind (arith, common_steps, among list, nat_eq id first.1)

    none : (o : Option (List ℕ × ℕ)) → find (has_rank entries id 0) entries ≡ o
        → find (λ (entry : List ℕ × ℕ). nat_eq id entry.1) entries ≡ None → is_some o ≡ false
    none None e f = refl
    none (Some entry) e f = absurd (true≢false (sym (some_found (λ (x : List ℕ × ℕ). nat_eq id x.1) entries entry
        (found_among (has_rank entries id 0) entries entry e)
        (and_true_left (nat_eq id entry.1) _ (found_passes (has_rank entries id 0) entries entry e))) ∙ ap is_some f))

    by : (o : Option (List ℕ × ℕ)) → find (λ (entry : List ℕ × ℕ). nat_eq id entry.1) entries ≡ o
        → is_some (name_ranked entries id 0) ≡ is_among nat_eq id (map (λ (entry : List ℕ × ℕ). entry.1) entries)
    by None e = grind (arith, common_steps, some_mapped, none, among, is_some)
    by (Some entry) e =
        cc (
          some_mapped (find (has_rank entries id 0) entries),
          first_ranked (rank_among entries entry.0 id) entries id entry
              (found_among (λ (x : List ℕ × ℕ). nat_eq id x.1) entries entry e)
              (found_passes (λ (x : List ℕ × ℕ). nat_eq id x.1) entries entry e) (omega arith),
          among entries,
        )

-- a directory has a name for an inode where it has one of rank 0 for its slot
pub has_name : (count : ℕ) (tree : Tree ℕ) (directory : ℕ) (node : Node ℕ) (slot : ℕ) → slot < 18446744073709551616
    → Some (node_seen count node) ≡ tree.node directory → is_some (name_ranked (entries_of node.content) slot 0)
    ≡ has_entry_to nat_eq tree directory (inode_number count slot)
has_name count tree directory node slot small there =
    cc (
      ranked_seen count node slot 0,
      some_ranked (exchanged count slot) (entries_in (Some (node_seen count node))),
      exchanged_slot count slot small,
    )

-- a node keeps its kind, by slots and by numbers
pub directory_seen : (count : ℕ) (node : Node ℕ)
    → is_directory_node (Some (node_seen count node)) ≡ is_directory (kind_of node.content)
directory_seen count node = grind (arith, common_steps)
