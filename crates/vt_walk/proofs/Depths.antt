-- How deep symlinks may stand in one another's texts does not matter, where fewer are left to follow.
use Rattle.std.proofs.Common.{◌≡◌, ◌∙◌, ◌-◌, ◌≤◌, ℕ, zero, suc, Bool, true, false, List, [], ◌∷◌, Option, Some, None, Ok, Err, Result, nat_eq, refl, ap, arith, reverse, ◌==◌}
use Rattle.vt_spec.proofs.Common.{Here, Location, Looks, Rules, Task, and_then, follow_rules, last_word, slash_rules, symlink_text, unless, words}
use Rattle.vt_spec.specs.declared.errors.Deny.{Deny}
use Rattle.vt_spec.specs.declared.errors.Rule.TheVariants.{W7, W9}
use Rattle.vt_spec.specs.Machine.Looks.{mount_at}
use Rattle.vt_walk.specs.PlainWalks.{Follow, followed, if_symlink, standing, symlink_start, symlink_walked, word_led, word_walked, words_walked}

-- a walk has no more symlinks left to follow than this
abbrev Within : ℕ → Result (Here ℕ) Deny → Type 0
Within most (Ok here) = here.left ≤ most
Within most (Err deny) = Unit {0}

-- two walks are one, which has no more symlinks left
abbrev Same : ℕ → Result (Here ℕ) Deny → Result (Here ℕ) Deny → Type 0
Same most a b = (a ≡ b) × Within most a

same_then : (most : ℕ) (a b : Result (Here ℕ) Deny) (f g : Here ℕ → Result (Here ℕ) Deny) → Same most a b
    → ((here : Here ℕ) → here.left ≤ most → Same most (f here) (g here)) → Same most (and_then a f) (and_then b g)
same_then most (Ok here) b f g (e, w) next =
    let n = next here w in (n.0 ∙ ap (λ r. and_then r g) e, n.1)
same_then most (Err deny) b f g (e, w) next = (ap (λ r. and_then r g) e, tt)

same_unless : (most : ℕ) (rows : Rules) (a b : Result (Here ℕ) Deny) → Same most a b
    → Same most (unless rows a) (unless rows b)
same_unless most [] a b same = same
same_unless most ((true, rule) ∷ rows) a b same = (refl, tt)
same_unless most ((false, rule) ∷ rows) a b same = same_unless most rows a b same

-- what stands behind the rules by which a symlink is followed: some are left
same_followed : (most : ℕ) (closed none : Bool) (rows : Rules) (a b : Result (Here ℕ) Deny)
    → (none ≡ false → Same most a b)
    → Same most (unless ((closed, W9) ∷ (none, W7) ∷ rows) a) (unless ((closed, W9) ∷ (none, W7) ∷ rows) b)
same_followed most true none rows a b same = (refl, tt)
same_followed most false true rows a b same = (refl, tt)
same_followed most false false rows a b same = same_unless most rows a b (same refl)

none_left : (left : ℕ) → left ≤ 0 → (left == 0) ≡ false → ⊥
none_left zero few e = cc
none_left (suc left) few e = omega (arith, few)

module _ (looks : Looks ℕ) (task : Task ℕ) where
  word_within : (most left : ℕ) (led : Result (Location ℕ) Deny) → left ≤ most
      → Within most (and_then led (λ reached. Ok (standing reached left)))
  word_within most left (Ok reached) few = few
  word_within most left (Err deny) few = tt

  -- two ways to follow symlinks of which no more are left
  abbrev FollowAlike : ℕ → Follow → Follow → Type 0
  FollowAlike most f g = (directory : Location ℕ) (link : Here ℕ) (text : List ℕ) → link.left ≤ most
      → Same most (f directory link text) (g directory link text)

  symlink_by : (most : ℕ) (f g : Follow) → FollowAlike most f g → (directory : Location ℕ) (next : Here ℕ)
      → next.left ≤ most → (text : Option (List ℕ))
      → Same most (if_symlink next text (f directory next)) (if_symlink next text (g directory next))
  symlink_by most f g alike directory next few None = (refl, few)
  symlink_by most f g alike directory next few (Some text) = alike directory next text few

  words_same : (most : ℕ) (f g : Follow) → FollowAlike most f g → (here : Here ℕ) → here.left ≤ most
      → (list : List (List ℕ)) → Same most (words_walked looks task f here list) (words_walked looks task g here list)
  words_same most f g alike here few [] = (refl, few)
  words_same most f g alike here few (word ∷ prefix) =
      same_then most (words_walked looks task f here prefix) (words_walked looks task g here prefix) _ _
      (words_same most f g alike here few prefix) (λ reached fewer.
      same_then most (word_walked looks task reached (last_word word)) (word_walked looks task reached (last_word word))
      _ _ (refl, word_within most reached.left (word_led looks task reached.location (last_word word)) fewer)
      (λ next left. symlink_by most f g alike reached.location next left (symlink_text (looks.node next.location))))

  -- the words of a symlink's text, and the check of a slash at its end
  abbrev text_walked : Follow → List ℕ → Here ℕ → Result (Here ℕ) Deny
  text_walked f text start = and_then (words_walked looks task f start (reverse (words text))) (λ reached.
      unless (slash_rules nat_eq looks text reached.location) (Ok reached))

  text_same : (most : ℕ) (f g : Follow) → FollowAlike most f g → (text : List ℕ) (start : Here ℕ) → start.left ≤ most
      → Same most (text_walked f text start) (text_walked g text start)
  text_same most f g alike text start few =
      same_then most (words_walked looks task f start (reverse (words text)))
      (words_walked looks task g start (reverse (words text))) _ _
      (words_same most f g alike start few (reverse (words text))) (λ reached fewer.
      same_unless most (slash_rules nat_eq looks text reached.location) (Ok reached) (Ok reached) (refl, fewer))

  within_more : (most : ℕ) (a : Result (Here ℕ) Deny) → Within most a → Within (suc most) a
  within_more most (Ok here) few = omega (arith, few)
  within_more most (Err deny) few = tt

  -- the texts of symlinks: where no more symlinks are left to follow, two depths are alike
  texts_same : (most d e : ℕ) → most ≤ d → most ≤ e
      → FollowAlike most (symlink_walked looks task (suc d)) (symlink_walked looks task (suc e))
  texts_same zero d e deep deeper directory link text few =
      same_followed zero (mount_at looks link.location).flags.nosymfollow (link.left == 0) _
      (text_walked (symlink_walked looks task d) text (symlink_start looks task directory link text))
      (text_walked (symlink_walked looks task e) text (symlink_start looks task directory link text))
      (λ some. absurd (none_left link.left few some))
  texts_same (suc most) zero e deep deeper directory link text few = absurd (omega (arith, deep))
  texts_same (suc most) (suc d) zero deep deeper directory link text few = absurd (omega (arith, deeper))
  texts_same (suc most) (suc d) (suc e) deep deeper directory link text few =
      let start = symlink_start looks task directory link text in
      let same = text_same most (symlink_walked looks task (suc d)) (symlink_walked looks task (suc e))
      (texts_same most d e (omega (arith, deep)) (omega (arith, deeper))) text start (omega (arith, few)) in
      same_followed (suc most) (mount_at looks link.location).flags.nosymfollow (link.left == 0) _
      (text_walked (symlink_walked looks task (suc d)) text start)
      (text_walked (symlink_walked looks task (suc e)) text start)
      (λ some. (same.0, within_more most (text_walked (symlink_walked looks task (suc d)) text start) same.1))

  -- a symlink that is followed: those in its text are followed alike
  pub followed-again : (directory : Location ℕ) (link : Here ℕ) (text : List ℕ) → link.left ≤ 40
      → followed looks task directory link text ≡ unless (follow_rules nat_eq looks link text)
      (text_walked (followed looks task) text (symlink_start looks task directory link text))
  followed-again directory link text few = ap (unless (follow_rules nat_eq looks link text))
      (text_same 39 (symlink_walked looks task 40) (symlink_walked looks task 41)
      (texts_same 39 39 40 (omega arith) (omega arith)) text (symlink_start looks task directory link text)
      (omega (arith, few))).0
