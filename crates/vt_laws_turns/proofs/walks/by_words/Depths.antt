-- How deep symlinks may stand in one another's texts does not matter, where fewer are left to follow; and a walk has
-- each step that it had.
use Rattle.std.proofs.Common.{◌≡◌, refl, ap, subst, ℕ, zero, suc, pred, nat_eq, Bool, true, false, List, [], ◌∷◌, ◌-◌, ◌≤◌, length, reverse, Option, Some, None, Ok, Err, Result, arith, nat_lt, ◌==◌}
use Rattle.vt_spec.proofs.Common.{Follow, Here, LastWord, Location, Looks, Rules, Stop, Task, also_met, and_then, common_steps, follow_rules, if_symlink, last_word, list_any, longest_name, search_rules, slash_rules, stepped, steps_with, stopped_by, symlink_start, symlink_text, symlink_walked, then_walk, unless, walk_unless, word_walked, words, words_walked}
use Rattle.vt_laws_turns.proofs.Common.{Deny, W2, W7, W9, mount_at}

-- What comes after walks

pub then_ok : {A : Type 0} (a : Result A (Stop ℕ)) → then_walk a (λ x. Ok x) ≡ a
then_ok (Ok x) = refl
then_ok (Err stop) = refl

pub then_then : {A B C : Type 0} (a : Result A (Stop ℕ)) (f : A → Result B (Stop ℕ)) (g : B → Result C (Stop ℕ))
    → then_walk (then_walk a f) g ≡ then_walk a (λ x. then_walk (f x) g)
then_then (Ok x) f g = refl
then_then (Err stop) f g = refl

pub then_same : {A B : Type 0} (a : Result A (Stop ℕ)) (f g : A → Result B (Stop ℕ)) → ((x : A) → f x ≡ g x)
    → then_walk a f ≡ then_walk a g
then_same (Ok x) f g same = same x
then_same (Err stop) f g same = refl

-- a walk has no more symlinks left to follow than this, and no fewer steps
abbrev pub Within : ℕ → ℕ → Result (Here ℕ) (Stop ℕ) → Type 0
Within most least (Ok here) = (here.left ≤ most) × (least ≤ length here.steps)
Within most least (Err stop) = least ≤ length stop.steps

pub within_more : (most more least : ℕ) (a : Result (Here ℕ) (Stop ℕ)) → most ≤ more → Within most least a
    → Within more least a
within_more most more least (Ok here) few w = (omega (arith, few, w.0), w.1)
within_more most more least (Err stop) few w = w

-- two walks are one, which has no more symlinks left and no fewer steps
abbrev pub Same : ℕ → ℕ → Result (Here ℕ) (Stop ℕ) → Result (Here ℕ) (Stop ℕ) → Type 0
Same most least a b = (a ≡ b) × Within most least a

pub same_then : (most least : ℕ) (a b : Result (Here ℕ) (Stop ℕ)) (f g : Here ℕ → Result (Here ℕ) (Stop ℕ))
    → Same most least a b
    → ((here : Here ℕ) → here.left ≤ most → least ≤ length here.steps → Same most least (f here) (g here))
    → Same most least (then_walk a f) (then_walk b g)
same_then most least (Ok here) b f g (e, w) next =
    let n = next here w.0 w.1 in (cc (n.0), n.1)
same_then most least (Err stop) b f g (e, w) next = (ap (λ r. then_walk r g) e, w)

-- what comes after a walk within these bounds
pub then_within : {B : Type 0} (most least : ℕ) (a : Result (Here ℕ) (Stop ℕ)) (f g : Here ℕ → Result B (Stop ℕ))
    → Within most least a → ((here : Here ℕ) → here.left ≤ most → least ≤ length here.steps → f here ≡ g here)
    → then_walk a f ≡ then_walk a g
then_within most least (Ok here) f g w same = same here w.0 w.1
then_within most least (Err stop) f g w same = refl

pub unless_same : (most least : ℕ) (steps : List (List ℕ)) (rules : Rules) (here : Here ℕ) → here.left ≤ most
    → least ≤ length here.steps → least ≤ length steps
    → Same most least (walk_unless steps rules here) (walk_unless steps rules here)
unless_same most least steps [] here few long longer = (refl, (few, long))
unless_same most least steps ((true, rule) ∷ rules) here few long longer = (refl, longer)
unless_same most least steps ((false, rule) ∷ rules) here few long longer =
    unless_same most least steps rules here few long longer

-- what comes after the rules by which a symlink is followed: some are left
pub followed_same : {A B : Type 0} (steps : List (List ℕ)) (start : A) (f g : A → Result B (Stop ℕ)) (a b c : Bool)
    → (b ≡ false → f start ≡ g start) → then_walk (walk_unless steps ((a, W9) ∷ (b, W7) ∷ (c, W2) ∷ []) start) f
    ≡ then_walk (walk_unless steps ((a, W9) ∷ (b, W7) ∷ (c, W2) ∷ []) start) g
followed_same steps start f g a b c same = grind (arith, common_steps, start)

followed_within : (most least : ℕ) (steps : List (List ℕ)) (start : Here ℕ)
    (f : Here ℕ → Result (Here ℕ) (Stop ℕ)) (a b c : Bool) → least ≤ length steps
    → (b ≡ false → Within most least (f start))
    → Within most least (then_walk (walk_unless steps ((a, W9) ∷ (b, W7) ∷ (c, W2) ∷ []) start) f)
followed_within most least steps start f a b c long next = grind (arith, common_steps, start)

-- a symlink is left to follow
pub one_left : (left most : ℕ) → left ≤ most → (left == 0) ≡ false → (less : ℕ) × (most ≡ suc less) × (left - 1 ≤ less)
one_left zero most few e = grind (arith, common_steps)
one_left (suc left) zero few e = absurd (omega (arith, few))
one_left (suc left) (suc most) few e = (most, refl, omega (arith, few))

pub length-also_met : (filesystem : ℕ) (steps : List (List ℕ)) → length (also_met filesystem steps) ≡ length steps
length-also_met filesystem [] = refl
length-also_met filesystem (met ∷ steps) = refl

module _ (looks : Looks ℕ) (task : Task ℕ) where
  -- one word is one step more
  abbrev walked_by : ℕ → List (List ℕ) → Rules → Result (Location ℕ) Deny → Result (Here ℕ) (Stop ℕ)
  walked_by left steps rules found = stopped_by steps (and_then (unless rules found)
      (λ reached. Ok (record { location = reached; left = left; steps = steps })))

  walked_within : (most least left : ℕ) (steps : List (List ℕ)) (rules : Rules) (found : Result (Location ℕ) Deny)
      → left ≤ most → least ≤ length steps → Within most least (walked_by left steps rules found)
  walked_within most least left steps [] (Ok reached) few long = (few, long)
  walked_within most least left steps [] (Err deny) few long = long
  walked_within most least left steps ((true, rule) ∷ rules) found few long = long
  walked_within most least left steps ((false, rule) ∷ rules) found few long =
      walked_within most least left steps rules found few long

  pub word_within : (most least : ℕ) (here : Here ℕ) (word : LastWord) → here.left ≤ most
      → least ≤ length here.steps → Within most least (word_walked nat_eq looks task here word)
  word_within most least here word few long =
      walked_within most least here.left (steps_with nat_eq looks task here word)
      (search_rules nat_eq looks task here.location) (stepped nat_eq looks task here.location word) few
      (more (length here.steps) long)
    where
      more : (n : ℕ) → least ≤ n → least ≤ suc n
      more n h = omega (arith, h)

  -- two ways to follow symlinks of which no more are left
  abbrev pub FollowAlike : ℕ → Follow ℕ → Follow ℕ → Type 0
  FollowAlike most f g = (directory : Location ℕ) (symlink : Here ℕ) (text : List ℕ) (least : ℕ) → symlink.left ≤ most
      → least ≤ length symlink.steps → Same most least (f directory symlink text) (g directory symlink text)

  symlink_by : (most : ℕ) (f g : Follow ℕ) → FollowAlike most f g → (directory : Location ℕ) (next : Here ℕ) (least : ℕ)
      → next.left ≤ most → least ≤ length next.steps → (text : Option (List ℕ))
      → Same most least (if_symlink next text (f directory next)) (if_symlink next text (g directory next))
  symlink_by most f g alike directory next least few long None = (refl, (few, long))
  symlink_by most f g alike directory next least few long (Some text) = alike directory next text least few long

  pub words_same : (most : ℕ) (f g : Follow ℕ) → FollowAlike most f g → (here : Here ℕ) (least : ℕ) → here.left ≤ most
      → least ≤ length here.steps → (list : List (List ℕ))
      → Same most least (words_walked nat_eq looks task f here list) (words_walked nat_eq looks task g here list)
  words_same most f g alike here least few long [] = (refl, (few, long))
  words_same most f g alike here least few long (word ∷ prefix) = same_then most least _ _ _ _
      (words_same most f g alike here least few long prefix) (λ reached fewer longer. same_then most least _ _ _ _
      (refl, word_within most least reached (last_word word) fewer longer) (λ next few_left many. symlink_by most f g
      alike reached.location next least few_left many (symlink_text (looks.node next.location))))

  pub start_long : (directory : Location ℕ) (symlink : Here ℕ) (text : List ℕ) (least : ℕ)
      → least ≤ length symlink.steps → least ≤ length (symlink_start nat_eq looks task directory symlink text).steps
  start_long directory symlink text least long = grind (arith, common_steps, length-also_met)

  -- the words of a symlink's text, and the check of a slash at its end
  abbrev pub text_walked : Follow ℕ → List ℕ → Here ℕ → Result (Here ℕ) (Stop ℕ)
  text_walked f text start = then_walk (words_walked nat_eq looks task f start (reverse (words text))) (λ reached.
      walk_unless reached.steps (slash_rules nat_eq looks text reached.location) reached)

  pub text_same : (less most : ℕ) → less ≤ most → (f g : Follow ℕ) → FollowAlike less f g → (text : List ℕ)
      (start : Here ℕ) (least : ℕ) → start.left ≤ less → least ≤ length start.steps
      → Same most least (text_walked f text start) (text_walked g text start)
  text_same less most fewer f g alike text start least few long =
      let s = same_then less least (words_walked nat_eq looks task f start (reverse (words text))) _ _ _
      (words_same less f g alike start least few long (reverse (words text))) (λ reached few_left longer. unless_same
      less least reached.steps (slash_rules nat_eq looks text reached.location) reached few_left longer longer) in
      (s.0, within_more less most least (text_walked f text start) fewer s.1)

  -- a symlink followed in two ways that are alike where one symlink less is left
  symlink_same : (most : ℕ) (f g : Follow ℕ)
      → ((less : ℕ) → most ≡ suc less → FollowAlike less f g) → (directory : Location ℕ) (symlink : Here ℕ)
      (text : List ℕ) (least : ℕ) → symlink.left ≤ most → least ≤ length symlink.steps → Same most least
      (then_walk (walk_unless symlink.steps (follow_rules nat_eq looks symlink text)
      (symlink_start nat_eq looks task directory symlink text)) (text_walked f text))
      (then_walk (walk_unless symlink.steps (follow_rules nat_eq looks symlink text)
      (symlink_start nat_eq looks task directory symlink text)) (text_walked g text))
  symlink_same most f g alike directory symlink text least few long = (
    followed_same symlink.steps start (text_walked f text) (text_walked g text) closed (symlink.left == 0) too_long
        (λ left. (inside left).0),
    followed_within most least symlink.steps start (text_walked f text) closed (symlink.left == 0) too_long long
        (λ left. (inside left).1),
  )
    where
      start : Here ℕ
      start = symlink_start nat_eq looks task directory symlink text

      closed : Bool
      closed = (mount_at looks symlink.location).flags.nosymfollow

      too_long : Bool
      too_long = list_any (λ word. nat_lt longest_name (length word)) (words text)

      inside : (symlink.left == 0) ≡ false → Same most least (text_walked f text start) (text_walked g text start)
      inside left =
          let one = one_left symlink.left most few left in
          text_same one.0 most (omega (arith, one.1)) f g (alike one.0 one.1) text start least one.2
          (start_long directory symlink text least long)

  -- the texts of symlinks: where no more symlinks are left to follow, two depths are alike
  pub texts_same : (most d e : ℕ) → most ≤ d → most ≤ e
      → FollowAlike most (symlink_walked nat_eq (suc d) looks task) (symlink_walked nat_eq (suc e) looks task)
  texts_same zero d e deep deeper directory symlink text least few long =
      symlink_same zero _ _ (λ less same. absurd (omega (arith, same))) directory symlink text least few long
  texts_same (suc most) zero e deep deeper directory symlink text least few long = absurd (omega (arith, deep))
  texts_same (suc most) (suc d) zero deep deeper directory symlink text least few long = absurd (omega (arith, deeper))
  texts_same (suc most) (suc d) (suc e) deep deeper directory symlink text least few long = symlink_same (suc most) _
      (symlink_walked nat_eq (suc e) looks task) (λ less same. subst (λ n. FollowAlike n
      (symlink_walked nat_eq (suc d) looks task) (symlink_walked nat_eq (suc e) looks task)) (ap pred same)
      (texts_same most d e (omega (arith, deep)) (omega (arith, deeper)))) directory symlink text least few long
