-- A walk from left to right is the walk by recursion on the front of its words.
use Rattle.std.proofs.Common.{◌≡◌, ℕ, nat_eq, List, [], ◌∷◌, ◌++◌, reverse, Result, Ok, Err, sym, ap, refl, ◌∙◌, append_assoc, append-nil}
use Rattle.vt_spec.proofs.Common.{Follow, Here, Looks, Stop, Task, if_symlink, last_word, reverse-append, symlink_text, then_walk, word_walked, words_walked}

then-ok : {A : Type 0} (r : Result A (Stop ℕ)) → then_walk r (λ a. Ok a) ≡ r
then-ok (Ok a) = refl
then-ok (Err stop) = refl

then-then : {A B C : Type 0} (r : Result A (Stop ℕ)) (f : A → Result B (Stop ℕ)) (h : B → Result C (Stop ℕ))
    → then_walk (then_walk r f) h ≡ then_walk r (λ a. then_walk (f a) h)
then-then (Ok a) f h = refl
then-then (Err stop) f h = refl

module _ (looks : Looks ℕ) (task : Task ℕ) (follow : Follow ℕ) where
  -- a symlink followed, if a word led to one
  abbrev pub arrived : Here ℕ → Here ℕ → Result (Here ℕ) (Stop ℕ)
  arrived here next = if_symlink next (symlink_text (looks.node next.location)) (follow here.location next)

  -- a word walked, and then the symlink that it may lead to
  abbrev pub step : Here ℕ → List ℕ → Result (Here ℕ) (Stop ℕ)
  step here word = then_walk (word_walked nat_eq looks task here (last_word word)) (arrived here)

  -- the walk by the words, of which the first comes first
  abbrev pub walked_on : Here ℕ → List (List ℕ) → Result (Here ℕ) (Stop ℕ)
  walked_on here [] = Ok here
  walked_on here (word ∷ rest) = then_walk (step here word) (λ next. walked_on next rest)

  walked-after : (start : Here ℕ) (words front : List (List ℕ))
      → words_walked nat_eq looks task follow start (reverse words ++ front)
      ≡ then_walk (words_walked nat_eq looks task follow start front) (λ here. walked_on here words)
  walked-after start [] front = sym (then-ok (words_walked nat_eq looks task follow start front))
  walked-after start (word ∷ words) front =
      ap (λ xs. words_walked nat_eq looks task follow start (xs ++ front)) (reverse-append (word ∷ []) words)
      ∙ ap (words_walked nat_eq looks task follow start) (append_assoc (reverse words) (word ∷ []) front)
      ∙ walked-after start words (word ∷ front)
      ∙ then-then (words_walked nat_eq looks task follow start front) (λ here. step here word)
      (λ next. walked_on next words)

  pub words_walked-reverse : (start : Here ℕ) (words : List (List ℕ))
      → words_walked nat_eq looks task follow start (reverse words) ≡ walked_on start words
  words_walked-reverse start words =
      ap (words_walked nat_eq looks task follow start) (sym (append-nil (reverse words)))
      ∙ walked-after start words []

  -- A walk that has come so far, and its next word
  module _ (start here : Here ℕ) (words left : List (List ℕ))
      (so_far : walked_on here left ≡ walked_on start words) where
    pub walk-ended : left ≡ [] → Ok here ≡ words_walked nat_eq looks task follow start (reverse words)
    walk-ended none = ap (walked_on here) (sym none) ∙ so_far ∙ sym (words_walked-reverse start words)

    -- what is left, by the word that is walked
    pub by-word : (word : List ℕ) (rest : List (List ℕ)) → left ≡ word ∷ rest
        → then_walk (then_walk (word_walked nat_eq looks task here (last_word word)) (arrived here))
        (λ next. walked_on next rest)
        ≡ words_walked nat_eq looks task follow start (reverse words)
    by-word word rest first =
        ap (walked_on here) (sym first) ∙ so_far ∙ sym (words_walked-reverse start words)
