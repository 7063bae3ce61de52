-- A walk from left to right is the walk by recursion on the front of its words.
use Rattle.std.proofs.Common.{◌≡◌, ℕ, List, None, Some, [], ◌∷◌, ◌++◌, reverse, Result, Ok, Err, sym, ap, ◌∙◌, append_assoc, append-nil}
use Rattle.vt_spec.proofs.Common.{Here, LastWord, Location, Looks, Task, and_then, last_word, reverse-append, symlink_text}
use Rattle.vt_walk.specs.PlainWalks.{Follow, if_symlink, standing, word_led, word_walked, words_walked}
use Rattle.vt_spec.specs.declared.errors.Deny.{Deny}
use Rattle.vt_walk.proofs.RefusalLemmas.{and_then-ok, and_then-and_then}

-- a word walked, and then the link that it may lead to
abbrev pub step : Looks ℕ → Task ℕ → Follow → Here ℕ → List ℕ → Result (Here ℕ) Deny
step looks task follow here word = and_then (word_walked looks task here (last_word word)) (λ next.
    if_symlink next (symlink_text (looks.node next.location)) (follow here.location next))

-- the walk by the words, of which the first comes first
abbrev pub walked_on : Looks ℕ → Task ℕ → Follow → Here ℕ → List (List ℕ) → Result (Here ℕ) Deny
walked_on looks task follow here [] = Ok here
walked_on looks task follow here (word ∷ rest) =
    and_then (step looks task follow here word) (λ next. walked_on looks task follow next rest)

module _ (looks : Looks ℕ) (task : Task ℕ) (follow : Follow) where
  walked-after : (start : Here ℕ) (words front : List (List ℕ))
      → words_walked looks task follow start (reverse words ++ front)
      ≡ and_then (words_walked looks task follow start front) (λ here. walked_on looks task follow here words)
  walked-after start [] front = sym (and_then-ok (words_walked looks task follow start front))
  walked-after start (word ∷ words) front =
      ap (λ xs. words_walked looks task follow start (xs ++ front)) (reverse-append (word ∷ []) words)
      ∙ ap (words_walked looks task follow start) (append_assoc (reverse words) (word ∷ []) front)
      ∙ walked-after start words (word ∷ front)
      ∙ and_then-and_then (words_walked looks task follow start front) (λ here. step looks task follow here word)
      (λ next. walked_on looks task follow next words)

  pub words_walked-reverse : (start : Here ℕ) (words : List (List ℕ))
      → words_walked looks task follow start (reverse words) ≡ walked_on looks task follow start words
  words_walked-reverse start words =
      ap (words_walked looks task follow start) (sym (append-nil (reverse words))) ∙ walked-after start words []

  -- a walk that has come so far
  module _ (start here : Here ℕ) (words left : List (List ℕ))
      (so_far : walked_on looks task follow here left ≡ walked_on looks task follow start words) where
    -- the walk ends with its words
    pub walk-ended : left ≡ [] → Ok here ≡ words_walked looks task follow start (reverse words)
    walk-ended none = ap (walked_on looks task follow here) (sym none) ∙ so_far ∙ sym (words_walked-reverse start words)

    module _ (word : List ℕ) (rest : List (List ℕ)) (first : left ≡ word ∷ rest) where
      by-word : (answer : Result (Here ℕ) Deny) → answer ≡ walked_on looks task follow here (word ∷ rest)
          → answer ≡ walked_on looks task follow start words
      by-word answer e = e ∙ ap (walked_on looks task follow here) (sym first) ∙ so_far

      -- a word that is refused ends the walk
      pub word-refused : (deny : Deny) → Err deny ≡ word_walked looks task here (last_word word)
          → Err deny ≡ words_walked looks task follow start (reverse words)
      word-refused deny refused = by-word (Err deny) (ap (λ r. and_then
          (and_then r (λ next. if_symlink next (symlink_text (looks.node next.location))
          (follow here.location next))) (λ there. walked_on looks task follow there rest)) refused)
          ∙ sym (words_walked-reverse start words)

      module _ (next : Here ℕ) (walked : Ok next ≡ word_walked looks task here (last_word word)) where
        by-place : (answer : Result (Here ℕ) Deny)
            → answer ≡ and_then (if_symlink next (symlink_text (looks.node next.location)) (follow here.location next))
            (λ there. walked_on looks task follow there rest) → answer ≡ walked_on looks task follow start words
        by-place answer e = by-word answer (e ∙ ap (λ r. and_then
            (and_then r (λ next. if_symlink next (symlink_text (looks.node next.location))
            (follow here.location next))) (λ there. walked_on looks task follow there rest)) walked)

        -- a word that leads to no link
        pub no-link : None ≡ symlink_text (looks.node next.location)
            → walked_on looks task follow next rest ≡ walked_on looks task follow start words
        no-link none = by-place (walked_on looks task follow next rest)
            (ap (λ t. and_then (if_symlink next t (follow here.location next))
            (λ there. walked_on looks task follow there rest)) none)

        -- a word that leads to a link
        pub link-met : (text : List ℕ) → Some text ≡ symlink_text (looks.node next.location)
            → and_then (follow here.location next text) (λ there. words_walked looks task follow there (reverse rest))
            ≡ words_walked looks task follow start (reverse words)
        link-met text link =
            (λ i. and_then (follow here.location next text) (λ there. words_walked-reverse there rest i))
            ∙ by-place (and_then (follow here.location next text) (λ there. walked_on looks task follow there rest))
            (ap (λ t. and_then (if_symlink next t (follow here.location next))
            (λ there. walked_on looks task follow there rest)) link) ∙ sym (words_walked-reverse start words)

-- where a word leads, the links left are as before
module _ (looks : Looks ℕ) (task : Task ℕ) (here : Here ℕ) (word : LastWord) where
  pub led-refused : (deny : Deny) → Err deny ≡ word_led looks task here.location word
      → Err deny ≡ word_walked looks task here word
  led-refused deny e = ap (λ r. and_then r (λ reached. Ok (standing reached here.left))) e

  pub led-walked : (reached : Location ℕ) (next : Here ℕ) → Ok reached ≡ word_led looks task here.location word
      → next ≡ standing reached here.left → Ok next ≡ word_walked looks task here word
  led-walked reached next e is = ap (λ h. Ok h) is ∙ ap (λ r. and_then r (λ reached. Ok (standing reached here.left))) e
