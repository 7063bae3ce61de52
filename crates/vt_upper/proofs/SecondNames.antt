-- Two names of a directory for one inode: then one has the rank 1.
use Rattle.std.proofs.Common.{◌≡◌, ◌≢◌, ◌∙◌, ◌+◌, ◌≤◌, ◌&&◌, ◌∷◌, [], ap, arith, Bool, cond, eq-eqb, eqb-true, false, filter, find, Greater, is_eq, is_lt, is_some, length, Less, Equal, List, lt-ltb, ltb-true, nat_eq, nat_lt, None, Option, Ordering, refl, Some, subst, suc, sym, true, true≢false, zero, inl, inr, ⊎_elim, ℕ}
use Rattle.std.specs.Ordering.{ordering_reverse}
use Rattle.vt_spec.proofs.Common.{Among, Entries, and_true_left, and_true_right, below_all, entry_named, entry_named-below, eq_by_cmp, found_among, found_passes, is_sorted, name_cmp, nat_list_cmp_total, none_is_some, some_from_is_some, tied_itself, common_steps}
use Rattle.vt_spec.proofs.Nodes.{same_name}
use Rattle.vt_node.proofs.RankLemmas.{before, found_is_there, rank_less, ranked_is_there, same_rank, some_is_found}
use Rattle.vt_node.specs.Ranks.{has_rank, name_ranked, rank_among}
use Rattle.vt_overlay.proofs.BornNamed.{none_counts}
use Rattle.vt_upper_overlay.proofs.ThereAbove.{some_mapped}

-- an entry that is among sorted ones is found by its name
among_named : (entries : Entries ℕ) → is_sorted name_cmp entries ≡ true → (entry : List ℕ × ℕ) → Among entry entries
    → entry_named entry.0 entries ≡ Some entry.1
among_named [] sorted entry m = absurd m
among_named (first ∷ rest) sorted entry m = ⊎_elim here (λ l. later (eq_by_cmp name_cmp entry.0 first.0) refl
    (among_named rest (and_true_right (below_all name_cmp first.0 rest) _ sorted) entry l)) m
  where
    here : entry ≡ first → entry_named entry.0 (first ∷ rest) ≡ Some entry.1
    here same = subst (λ (e : List ℕ × ℕ). entry_named e.0 (first ∷ rest) ≡ Some e.1) (sym same)
        (ap (λ o. cond (is_eq o) (Some first.1) (entry_named first.0 rest)) (tied_itself nat_list_cmp_total first.0))

    later : (is : Bool) → eq_by_cmp name_cmp entry.0 first.0 ≡ is → entry_named entry.0 rest ≡ Some entry.1
        → cond is (Some first.1) (entry_named entry.0 rest) ≡ Some entry.1
    later true t named = none_is_some entry.1 (sym (ap (λ n. entry_named n rest) (same_name entry.0 first.0 t)
        ∙ entry_named-below first.0 rest (and_true_left (below_all name_cmp first.0 rest) _ sorted)) ∙ named)
    later false t named = named

-- where all that passes has one name, at most one entry passes
at_most_one : (p : List ℕ × ℕ → Bool) (entries : Entries ℕ) → is_sorted name_cmp entries ≡ true
    → ((x y : List ℕ × ℕ) → Among x entries → Among y entries → p x ≡ true → p y ≡ true → x.0 ≡ y.0)
    → length (filter p entries) ≤ 1
at_most_one p [] sorted same = omega arith
at_most_one p (first ∷ rest) sorted same = by (p first) refl (find p rest) refl
    (at_most_one p rest (and_true_right (below_all name_cmp first.0 rest) _ sorted)
    (λ x y m n. same x y (inr m) (inr n)))
  where
    by : (b : Bool) → p first ≡ b → (o : Option (List ℕ × ℕ)) → find p rest ≡ o → length (filter p rest) ≤ 1
        → length (cond b (first ∷ filter p rest) (filter p rest)) ≤ 1
    by false e o found later = later
    by true e None found later = let none = none_counts p rest found in omega (arith, none)
    by true e (Some other) found later =
        let names : first.0 ≡ other.0 = same first other (inl refl) (inr (found_among p rest other found)) e
        (found_passes p rest other found) in
        let there = found_is_there p rest other (and_true_right (below_all name_cmp first.0 rest) _ sorted) found in
        none_is_some other.1 (sym (entry_named-below first.0 rest
        (and_true_left (below_all name_cmp first.0 rest) _ sorted)) ∙ ap (λ n. entry_named n rest) names ∙ there)

nothing_less : (n : ℕ) → nat_lt 0 n ≡ false → n ≡ 0
nothing_less zero e = refl
nothing_less (suc n) e = absurd (true≢false (sym (lt-ltb 0 (suc n) (omega arith)) ∙ e))

less_so : (o : Ordering) → is_lt o ≡ true → o ≡ Less
less_so o e = grind (arith, common_steps)

module _ (entries : Entries ℕ) (sorted : is_sorted name_cmp entries ≡ true) (id : ℕ) where
  abbrev Leads : List ℕ → Type 0
  Leads name = entry_named name entries ≡ Some id

  abbrev rank : List ℕ → ℕ
  rank name = rank_among entries name id

  abbrev IsSecond : Type 0
  IsSecond = is_some (name_ranked entries id 1) ≡ true

  -- an entry before a name is another name
  leads_before : (name : List ℕ) (entry : List ℕ × ℕ) → entry_named entry.0 entries ≡ Some entry.1
      → before id name entry ≡ true → Leads entry.0
  leads_before name entry there is =
      there ∙ ap Some (sym (eqb-true id entry.1 (and_true_left (nat_eq id entry.1) _ is)))

  less_before : (name : List ℕ) (entry : List ℕ × ℕ) → entry_named entry.0 entries ≡ Some entry.1
      → before id name entry ≡ true → 1 + rank entry.0 ≤ rank name
  less_before name entry there is = rank_less entry.0 name id
      (less_so (name_cmp entry.0 name) (and_true_right (nat_eq id entry.1) _ is)) entries
      (leads_before name entry there is)

  -- one that has another one before it
  abbrev before_not_first : List ℕ → List ℕ × ℕ → Bool
  before_not_first name entry = before id name entry && nat_lt 0 (rank entry.0)

  -- if there is none, at most one name is before
  few_before : (name : List ℕ) → find (before_not_first name) entries ≡ None → rank name ≤ 1
  few_before name none = at_most_one (before id name) entries sorted (λ x y m n b c.
      let x_there = among_named entries sorted x m in
      let y_there = among_named entries sorted y n in
      same_rank x.0 y.0 id entries (leads_before name x x_there b) (leads_before name y y_there c)
      (is_first x x_there b ∙ sym (is_first y y_there c)))
    where
      is_first : (x : List ℕ × ℕ) → entry_named x.0 entries ≡ Some x.1 → before id name x ≡ true → rank x.0 ≡ 0
      is_first x there b = by (nat_lt 0 (rank x.0)) refl
        where
          by : (t : Bool) → nat_lt 0 (rank x.0) ≡ t → rank x.0 ≡ 0
          by false e = nothing_less (rank x.0) e
          by true e = absurd (true≢false (sym (some_is_found (before_not_first name) x.0 x.1 entries there
              (λ i. b i && e i)) ∙ ap is_some none))

  -- so of two names one is the second
  second : (n : ℕ) (name : List ℕ) → Leads name → 1 ≤ rank name → rank name ≤ n → IsSecond
  second zero name leads one few = absurd (let no : ⊥ = omega (arith, one, few) in no)
  second (suc n) name leads one few = by (find (before_not_first name) entries) refl (second n)
    where
      by : (o : Option (List ℕ × ℕ)) → find (before_not_first name) entries ≡ o
          → ((other : List ℕ) → Leads other → 1 ≤ rank other → rank other ≤ n → IsSecond) → IsSecond
      by None none smaller =
          let few_there = few_before name none in
          let is : 1 ≡ rank name = omega (arith, few_there, one) in
          some_mapped (λ (entry : List ℕ × ℕ). entry.0) (find (has_rank entries id 1) entries)
          ∙ some_is_found (has_rank entries id 1) name id entries leads
          (λ i. eq-eqb id id refl i && eq-eqb 1 (rank name) is i)
      by (Some entry) found smaller =
          let both = found_passes (before_not_first name) entries entry found in
          let is = and_true_left (before id name entry) _ both in
          let there = found_is_there (before_not_first name) entries entry sorted found in
          let less = less_before name entry there is in
          let more = ltb-true 0 (rank entry.0) (and_true_right (before id name entry) _ both) in
          smaller entry.0 (leads_before name entry there is) (omega (arith, more)) (omega (arith, less, few))

  two_names : (a b : List ℕ) → Leads a → Leads b → name_cmp a b ≡ Less → IsSecond
  two_names a b one other less =
      let ranks = rank_less a b id less entries one in
      second (rank b) b other (omega (arith, ranks)) (omega arith)

  pub one_name : (a b : List ℕ) → Leads a → Leads b → is_some (name_ranked entries id 1) ≡ false → a ≡ b
  one_name a b one other none = by (name_cmp a b) refl
    where
      by : (o : Ordering) → name_cmp a b ≡ o → a ≡ b
      by Less e = absurd (true≢false (sym (two_names a b one other e) ∙ none))
      by Equal e = same_name a b (ap is_eq e)
      by Greater e = absurd (true≢false (sym (two_names b a other one
          (nat_list_cmp_total.antisymm b a ∙ ap ordering_reverse e)) ∙ none))

  -- and if there is a second one, it or the first is another name
  pub other_name : (name : List ℕ) → Leads name → is_some (name_ranked entries id 1) ≡ true
      → (word : List ℕ) × (Leads word) × (word ≢ name)
  other_name name leads some =
      let found = some_from_is_some (name_ranked entries id 1) some in
      let there = ranked_is_there id 1 entries found.0 sorted found.1 in
      by (nat_eq 1 (rank name)) refl found.0 there.0 there.1
    where
      first : (o : Option (List ℕ × ℕ)) → find (before id name) entries ≡ o → 1 ≡ rank name
          → (word : List ℕ) × (Leads word) × (word ≢ name)
      first None none one =
          let nothing = none_counts (before id name) entries none in
          absurd (let no : ⊥ = omega (arith, nothing, one) in no)
      first (Some entry) found one =
          let is = found_passes (before id name) entries entry found in
          let there = found_is_there (before id name) entries entry sorted found in
          let less = less_before name entry there is in (
            entry.0,
            leads_before name entry there is,
            λ same. let ranks = ap rank same in let no : ⊥ = omega (arith, less, ranks) in no,
          )

      by : (b : Bool) → nat_eq 1 (rank name) ≡ b → (word : List ℕ) → Leads word → 1 ≡ rank word
          → (word : List ℕ) × (Leads word) × (word ≢ name)
      by true e word word_leads its = first (find (before id name) entries) refl (eqb-true 1 (rank name) e)
      by false e word word_leads its =
          (word, word_leads, λ same. true≢false (sym (eq-eqb 1 (rank name) (its ∙ ap rank same)) ∙ e))
