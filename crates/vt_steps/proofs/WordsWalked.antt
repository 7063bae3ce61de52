-- A word walked, the symlink that it may lead to, and the words after it.
use Rattle.std.proofs.Common.{◌≡◌, ◌<◌, ◌-◌, ℕ, suc, nat_eq, List, ◌∷◌, reverse, Result, Ok, Err, Some, refl, sym, ap, ◌∙◌, arith}
use Rattle.vt_spec.proofs.Common.{Follow, Here, LastWord, Location, Looks, Stop, Task, and_then, follow_rules, if_symlink, last_word, met_by, search_rules, slash_rules, stepped, stopped_by, symlink_start, symlink_text, symlink_walked, then_walk, unless, walk_unless, word_walked, words, words_walked}
use Rattle.vt_spec.specs.declared.errors.Deny.{Deny}
use Rattle.vt_spec.specs.Machine.Walking.{last_walked}
use Rattle.vt_looks.specs.declared.places.LastWord.{LastWord as CodeWord}
use Rattle.vt_looks.specs.declared.places.LastWord.TheVariants.{Dot, DotDot, Named, NoWord}
use Rattle.vt_looks.specs.Places.{last_of}
use Rattle.vt_steps.specs.declared.here.Halt.{Halt}
use Rattle.vt_steps.specs.StepsValue.{EndsBy, here_of}
use Rattle.vt_steps.proofs.Endings.{ends-alike, ends-halted, ends-then}
use Rattle.vt_steps.proofs.LeftToRight.{arrived, by-word, walked_on, words_walked-reverse}

-- a word that is refused
module _ (looks : Looks ℕ) (task : Task ℕ) (here : Here ℕ) (word : LastWord) (steps : List (List ℕ))
    (more : steps ≡ met_by nat_eq looks task here.location word ∷ here.steps) where
  pub word-refused : (deny : Deny)
      → Err deny ≡ unless (search_rules nat_eq looks task here.location) (stepped nat_eq looks task here.location word)
      → word_walked nat_eq looks task here word ≡ Err (record { deny = deny; steps = steps })
  word-refused deny e = sym (λ i. stopped_by (more i) (and_then (e i) (λ reached.
      Ok (record { location = reached; left = here.left; steps = more i }))))

-- A symlink followed
module _ (looks : Looks ℕ) (task : Task ℕ) (depth : ℕ) (deep : 0 < depth) (directory : Location ℕ) (symlink : Here ℕ)
    (text : List ℕ) (inner : List (List ℕ)) (are : inner ≡ words text) where
  abbrev begun_by : Result (Here ℕ) (Stop ℕ)
  begun_by = walk_unless symlink.steps (follow_rules nat_eq looks symlink text)
      (symlink_start nat_eq looks task directory symlink text)

  abbrev inside : Here ℕ → Result (Here ℕ) (Stop ℕ)
  inside start =
      words_walked nat_eq looks task (symlink_walked nat_eq (depth - 1) looks task) start (reverse inner)

  abbrev asked : Here ℕ → Result (Here ℕ) (Stop ℕ)
  asked reached = walk_unless reached.steps (slash_rules nat_eq looks text reached.location) reached

  abbrev pub link : Result (Here ℕ) (Stop ℕ)
  link = symlink_walked nat_eq depth looks task directory symlink text

  deeper : link ≡ then_walk begun_by (λ start. then_walk (inside start) asked)
  deeper = let e : depth ≡ suc (depth - 1) = omega (arith, deep) in
      ap (λ d. symlink_walked nat_eq d looks task directory symlink text) e
      ∙ ap (λ ws. then_walk begun_by (λ start. then_walk
      (words_walked nat_eq looks task (symlink_walked nat_eq (depth - 1) looks task) start (reverse ws)) asked))
      (sym are)

  pub begun-halted : (halt : Halt) → EndsBy here_of begun_by (Err halt) → EndsBy here_of link (Err halt)
  begun-halted halt ended = ends-alike here_of _ _ (Err halt) (sym deeper)
      (ends-halted here_of here_of begun_by (λ start. then_walk (inside start) asked) halt ended)

  module _ (begun : Here ℕ) (begins : begun_by ≡ Ok begun) where
    pub inside-halted : (halt : Halt) → EndsBy here_of (inside begun) (Err halt) → EndsBy here_of link (Err halt)
    inside-halted halt ended = ends-alike here_of _ _ (Err halt) (sym deeper)
        (ends-then here_of begun_by (λ start. then_walk (inside start) asked) begun (Err halt) begins
        (ends-halted here_of here_of (inside begun) asked halt ended))

    module _ (ended : Here ℕ) (ends : inside begun ≡ Ok ended) where
      link-asked : link ≡ asked ended
      link-asked = deeper ∙ ap (λ r. then_walk r (λ start. then_walk (inside start) asked)) begins
          ∙ ap (λ r. then_walk r asked) ends

      pub asked-halted : (halt : Halt) → EndsBy here_of (asked ended) (Err halt) → EndsBy here_of link (Err halt)
      asked-halted halt stopped = ends-alike here_of _ _ (Err halt) (sym link-asked) stopped

      pub link-ended : (reached : Here ℕ) → asked ended ≡ Ok reached → link ≡ Ok reached
      link-ended reached e = link-asked ∙ e

-- A walk that has come so far, and its next word
module _ (looks : Looks ℕ) (task : Task ℕ) (follow : Follow ℕ) (start here : Here ℕ) (all left : List (List ℕ))
    (so_far : walked_on looks task follow here left ≡ walked_on looks task follow start all)
    (word : List ℕ) (rest : List (List ℕ)) (first : left ≡ word ∷ rest) (last : LastWord)
    (is : last ≡ last_word word) where
  abbrev whole : Result (Here ℕ) (Stop ℕ)
  whole = words_walked nat_eq looks task follow start (reverse all)

  abbrev after : Here ℕ → Result (Here ℕ) (Stop ℕ)
  after there = walked_on looks task follow there rest

  whole-by : then_walk (then_walk (word_walked nat_eq looks task here last) (arrived looks task follow here)) after
      ≡ whole
  whole-by =
      ap (λ l. then_walk (then_walk (word_walked nat_eq looks task here l) (arrived looks task follow here)) after) is
      ∙ by-word looks task follow start here all left so_far word rest first

  pub word-halted : (halt : Halt) → EndsBy here_of (word_walked nat_eq looks task here last) (Err halt)
      → EndsBy here_of whole (Err halt)
  word-halted halt ended = ends-alike here_of _ _ (Err halt) whole-by (ends-halted here_of here_of
      (then_walk (word_walked nat_eq looks task here last) (arrived looks task follow here)) after halt
      (ends-halted here_of here_of (word_walked nat_eq looks task here last) (arrived looks task follow here) halt
      ended))

  module _ (next : Here ℕ) (walked : word_walked nat_eq looks task here last ≡ Ok next) (text : List ℕ)
      (linked : Some text ≡ symlink_text (looks.node next.location)) where
    whole-linked : then_walk (follow here.location next text) after ≡ whole
    whole-linked =
        ap (λ t. then_walk (if_symlink next t (follow here.location next)) after) linked
        ∙ sym (ap (λ r. then_walk (then_walk r (arrived looks task follow here)) after) walked) ∙ whole-by

    pub link-halted : (halt : Halt) → EndsBy here_of (follow here.location next text) (Err halt)
        → EndsBy here_of whole (Err halt)
    link-halted halt ended = ends-alike here_of _ _ (Err halt) whole-linked
        (ends-halted here_of here_of (follow here.location next text) after halt ended)

    pub link-refused : (stop : Stop ℕ) → follow here.location next text ≡ Err stop → whole ≡ Err stop
    link-refused stop e = sym whole-linked ∙ ap (λ r. then_walk r after) e

    pub link-walked : (reached : Here ℕ) → follow here.location next text ≡ Ok reached
        → walked_on looks task follow reached rest ≡ walked_on looks task follow start all
    link-walked reached e = sym (ap (λ r. then_walk r after) e) ∙ whole-linked
        ∙ words_walked-reverse looks task follow start all

-- a last word that is there
pub last-some : (looks : Looks ℕ) (task : Task ℕ) (here : Here ℕ) (word : CodeWord) → (word ≡ NoWord → ⊥)
    → word_walked nat_eq looks task here (last_of word) ≡ last_walked nat_eq looks task here (last_of word)
last-some looks task here NoWord some = absurd (some refl)
last-some looks task here Dot some = refl
last-some looks task here DotDot some = refl
last-some looks task here (Named name) some = refl
