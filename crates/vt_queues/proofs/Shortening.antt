-- A list of which one item after the other is changed.
use Rattle.std.proofs.Common.{◌≡◌, sym, ap, ◌∙◌, ℕ, ◌+◌, ◌<◌, suc, List, [], ◌∷◌, ◌++◌, length, map, take, drop, arith, append_assoc, add-one}
use Rattle.std.specs.Prelude.{slice_index_or, slice_set}
use Rattle.std.proofs.Math.ListN.{get_or-map, length-map, length-take}
use Rattle.std.proofs.Math.Seq.{drop-cons, take-suc}
use Rattle.std.proofs.lemmas.List.{get_or_at, map-append, map-set, set_at}

-- The places below this one are changed,
pub next_changed : {A : Type 0} (change : A → A) (list now : List A) (place : ℕ) (x : A) → place < length list
    → now ≡ map change (take place list) ++ drop place list
    → slice_set now place (change (slice_index_or now place x))
    ≡ map change (take (place + 1) list) ++ drop (place + 1) list
next_changed {A} change list now place x within is =
    let one : A = slice_index_or list place x in
    let rest : List A = drop (suc place) list in
    let front : List A = map change (take place list) in
    let count : length front ≡ place = simp (length-map, length-take) (omega arith) in
    let split : now ≡ front ++ one ∷ rest = is ∙ ap (λ l. front ++ l) (drop-cons list place x within) in
    let there : slice_index_or now place x ≡ one =
    ap (λ l. slice_index_or l place x) split ∙ get_or_at front one rest x place count in
    ap (λ a. slice_set now place (change a)) there
    ∙ ap (λ l. slice_set l place (change one)) split
    ∙ set_at front one rest (change one) place count
    ∙ sym (append_assoc front (change one ∷ []) rest)
    ∙ ap (λ l. l ++ rest) (sym (map-append change (take place list) (one ∷ [])))
    ∙ ap (λ l. map change l ++ rest) (sym (take-suc list place x within))
    ∙ ap (λ n. map change (take n list) ++ drop n list) (sym (add-one place))

-- and so are their meanings, where one item is changed that means what is changed.
pub next_meant : {A B : Type 0} (meaning : A → B) (change : B → B) (list : List B) (now : List A) (place : ℕ)
    (old new : A) → place < length list → map meaning now ≡ map change (take place list) ++ drop place list
    → meaning new ≡ change (meaning (slice_index_or now place old))
    → map meaning (slice_set now place new) ≡ map change (take (place + 1) list) ++ drop (place + 1) list
next_meant meaning change list now place old new within is changes =
    map-set meaning now place new
    ∙ ap (slice_set (map meaning now) place) (changes ∙ ap change (sym (get_or-map meaning now place old)))
    ∙ next_changed change list (map meaning now) place (meaning old) within is
