-- The copies of two plans, those that both have made once.
use Rattle.std.proofs.Common.{◌≡◌, ◌≢◌, ◌∙◌, ◌-◌, ◌<◌, ◌≤◌, ◌∷◌, ◌++◌, [], arith, ap, drop, get_or, length, List, refl, reverse, slice_get, Some, subst, suc, sym, take, ℕ}
use Rattle.std.proofs.lemmas.List.{get_or-reverse, length-drop, length-reverse, reverse-append, take-append-drop, take-append-le, take_all}
use Rattle.vt_spec.proofs.Common.{map-append, slice_get-get_or, slice_get-map, slice_get_within}
use Rattle.vt_fs.specs.FilesystemsValue.{Filesystems}
use Rattle.vt_copyup.specs.Forks.{AreShared, HasRoom, HeadsDiffer, IsForkOf, pieces_in}
use Rattle.vt_copyup.specs.Planned.{names_of}
use Rattle.vt_copyup.specs.Plans.{in_turn, many}
use Rattle.vt_copyup.specs.declared.forks.Fork.{Fork}
use Rattle.vt_copyup.specs.declared.plans.Piece.{Piece}
use Rattle.vt_copyup.specs.declared.plans.Plan.{Plan}

-- the name at a place, counted from the first copy that is made
pub name_at : (plan : Plan) (index : ℕ) (piece : Piece) → index < many plan
    → piece ≡ get_or plan.pieces.items (length plan.pieces.items - 1 - index) piece
    → slice_get (names_of (in_turn plan)) index ≡ Some piece.copy.name.items
name_at plan index piece within is =
    let items = plan.pieces.items in
    let turned = length-reverse items in
    slice_get-map (λ (p : Piece). p.copy.name.items) (reverse items) index
    ∙ ap (Rattle.std.specs.Prelude.option_map (λ (p : Piece). p.copy.name.items))
    (slice_get-get_or (reverse items) index piece (omega (arith, turned, within))
    ∙ ap Some (get_or-reverse items index piece within ∙ sym is))

pub names_both : (xs ys : List Piece) → names_of (xs ++ ys) ≡ names_of xs ++ names_of ys
names_both xs ys = map-append (λ (piece : Piece). piece.copy.name.items) xs ys

names_length : (xs : List Piece) → length (names_of xs) ≡ length xs
names_length [] = refl
names_length (x ∷ xs) = ap suc (names_length xs)

-- a list in its turn: the last copies stand first in it
turned : (items : List Piece) (k : ℕ) → reverse items ≡ reverse (drop k items) ++ reverse (take k items)
turned items k = ap reverse (sym (take-append-drop k items)) ∙ reverse-append (take k items) (drop k items)

length_back : (items : List Piece) (n : ℕ) → n ≤ length items → length (reverse (drop (length items - n) items)) ≡ n
length_back items n few =
    let one = length-reverse (drop (length items - n) items) in
    let two = length-drop (length items - n) items in omega (arith, one, two, few)

front_names : (items : List Piece) (n : ℕ) → n ≤ length items
    → take n (names_of (reverse items)) ≡ names_of (reverse (drop (length items - n) items))
front_names items n few =
    let k = length items - n in
    let first = reverse (drop k items) in
    let long = names_length first in
    let count = length_back items n few in
    ap (λ l. take n (names_of l)) (turned items k)
    ∙ ap (take n) (names_both first (reverse (take k items)))
    ∙ take-append-le n (names_of first) (names_of (reverse (take k items))) (omega (arith, long, count))
    ∙ take_all n (names_of first) (omega (arith, long, count))

at_end : (names : List (List ℕ)) (name : List ℕ) (rest : List (List ℕ))
    → slice_get (names ++ name ∷ rest) (length names) ≡ Some name
at_end [] name rest = refl
at_end (first ∷ names) name rest = at_end names name rest

-- the name after so many
next_name : (items : List Piece) (n : ℕ) → n ≤ length items → (name : List ℕ) (rest : List (List ℕ))
    → names_of (reverse (take (length items - n) items)) ≡ name ∷ rest
    → slice_get (names_of (reverse items)) n ≡ Some name
next_name items n few name rest is =
    let k = length items - n in
    let first = reverse (drop k items) in
    ap (λ l. slice_get (names_of l) n) (turned items k)
    ∙ ap (λ l. slice_get l n) (names_both first (reverse (take k items)) ∙ ap (λ l. names_of first ++ l) is)
    ∙ ap (slice_get (names_of first ++ name ∷ rest)) (sym (names_length first ∙ length_back items n few))
    ∙ at_end (names_of first) name rest

heads : (names others : List (List ℕ))
    → ((name other : List ℕ) (rest other_rest : List (List ℕ)) → names ≡ name ∷ rest → others ≡ other ∷ other_rest
    → name ≢ other) → HeadsDiffer names others
heads [] others differ = tt
heads (name ∷ names) [] differ = tt
heads (name ∷ names) (other ∷ others) differ = differ name other names others refl refl

module _ (trees : Filesystems) (first second : Plan) (n : ℕ) (few : n ≤ many first) (second_few : n ≤ many second)
    (shared : AreShared first second n) (fork : Fork) (directory : fork.directory ≡ first.directory)
    (other : fork.other ≡ second.directory)
    (front : fork.shared.pieces.items ≡ drop (length first.pieces.items - n) first.pieces.items)
    (later : fork.first.pieces.items ≡ take (length first.pieces.items - n) first.pieces.items)
    (own : fork.second.pieces.items ≡ take (length second.pieces.items - n) second.pieces.items) where
  abbrev twice : List Piece
  twice = reverse (drop (length second.pieces.items - n) second.pieces.items)

  many_shared : length fork.shared.pieces.items ≡ n
  many_shared =
      let long = ap length front in
      let two = length-drop (length first.pieces.items - n) first.pieces.items in
      omega (arith, long, two, few)

  pub fork_of : (0 < length fork.shared.pieces.items → HasRoom trees first.directory fork.shared)
      → (0 < length fork.first.pieces.items → 1 < fork.first.room)
      → (0 < length fork.first.pieces.items → n ≡ 0 → HasRoom trees first.directory fork.first)
      → (0 < length fork.second.pieces.items → 1 < fork.second.room)
      → (0 < length fork.second.pieces.items → n ≡ 0 → HasRoom trees second.directory fork.second)
      → IsForkOf trees first second fork
  fork_of shared_room first_room first_there second_room second_there = record {
    directory = directory;
    other = other;
    twice = twice;
    first_is = turned first.pieces.items (length first.pieces.items - n)
        ∙ (λ i. reverse (sym front i) ++ reverse (sym later i));
    second_is = turned second.pieces.items (length second.pieces.items - n)
        ∙ ap (λ l. twice ++ reverse l) (sym own);
    same = sym (front_names second.pieces.items n second_few) ∙ sym shared.same
        ∙ front_names first.pieces.items n few ∙ ap (λ l. names_of (reverse l)) (sym front);
    beside = λ some. shared.beside (subst (λ m. 0 < m) many_shared some);
    differ = λ there. heads (names_of (pieces_in fork.first)) (names_of (pieces_in fork.second))
        (λ name word rest words is are. shared.differ there name word
        (next_name first.pieces.items n few name rest (ap (λ l. names_of (reverse l)) (sym later) ∙ is))
        (next_name second.pieces.items n second_few word words (ap (λ l. names_of (reverse l)) (sym own) ∙ are)));
    shared_room = shared_room;
    first_room = λ some. (first_room some, λ none. first_there some (sym many_shared ∙ none));
    second_room = λ some. (second_room some, λ none. second_there some (sym many_shared ∙ none));
  }

-- past all copies of a plan there is no name
pub no_name_after : (plan : Plan) (n : ℕ) (name : List ℕ) {P : Type 0} → many plan ≤ n
    → slice_get (names_of (in_turn plan)) n ≡ Some name → P
no_name_after plan n name past at =
    let within = slice_get_within (names_of (in_turn plan)) n name at in
    let long = names_length (in_turn plan) in
    let turned = length-reverse plan.pieces.items in
    absurd (let no : ⊥ = omega (arith, within, long, turned, past) in no)
