-- A walk with texts pending: its top is walked as far as a link, whose text then stands above what is left.
use Rattle.std.proofs.Common.{nat_eq, ◌≡◌, ◌≤◌, ℕ, List, [], ◌∷◌, ◌++◌, Option, Result, Ok, Err, false, not, cond, sym, ap, ◌∙◌, reverse}
use Rattle.vt_spec.proofs.Common.{Here, Location, Looks, Task, and_then, ends_in_slash, follow_rules, reverse-append, slash_rules, unless, unless-let_through, words}
use Rattle.vt_walk.specs.PlainWalks.{Follow, followed, symlink_start, words_walked}
use Rattle.vt_spec.specs.declared.errors.Deny.{Deny}
use Rattle.vt_spec.specs.declared.errors.Rule.TheVariants.{W3}
use Rattle.vt_spec.specs.Machine.Looks.{is_directory_at}
use Rattle.vt_walk.proofs.LinksWalked.{begun-walked, follow-refused}
use Rattle.vt_walk.proofs.RefusalLemmas.{and_then-and_then, and_then-ok}
use Rattle.vt_walk.specs.declared.steps.LinkMet.{LinkMet}
use Rattle.vt_walk.specs.declared.steps.Pending.{Pending}
use Rattle.vt_walk.specs.PendingTexts.{link_passed, texts_walked}

reverse-push : {X : Type 0} (texts others : List X) (top : X) → texts ≡ others ++ top ∷ []
    → reverse texts ≡ top ∷ reverse others
reverse-push texts others top pushed = ap reverse pushed ∙ reverse-append others (top ∷ [])

-- a walk behind a link, or behind none, as it was met
pub link_passed-as : (looks : Looks ℕ) (task : Task ℕ) (follow : Follow) (here : Here ℕ) (link as_met : Option LinkMet)
    (walked : Result (Here ℕ) Deny) → link ≡ as_met
    → link_passed looks task follow here link ≡ walked → link_passed looks task follow here as_met ≡ walked
link_passed-as looks task follow here link as_met walked same e = ap (link_passed looks task follow here) (sym same) ∙ e

-- a text without words that are left, and without a slash at its end, need not wait
pub nothing-left : (looks : Looks ℕ) (task : Task ℕ) (here : Here ℕ) (left : Pending) (others : List Pending)
    → left.words ≡ [] → ends_in_slash left.text.now ≡ false
    → texts_walked looks task here (left ∷ others) ≡ texts_walked looks task here others
nothing-left looks task here left others none plain =
    ap (λ ws. and_then (words_walked looks task (followed looks task) here (reverse ws)) (λ reached.
    unless (slash_rules nat_eq looks left.text.now reached.location) (texts_walked looks task reached others))) none
    ∙ ap (λ slash. unless ((cond slash (not (is_directory_at looks here.location)) false, W3) ∷ [])
    (texts_walked looks task here others)) plain

-- a link in a text: its own text is walked before what is left of that one
pub link-followed : (looks : Looks ℕ) (task : Task ℕ) (directory : Location ℕ) (link : Here ℕ) (inner : List ℕ)
    (behind : List (List ℕ)) → link.left ≤ 40 → (next : Here ℕ)
    → Ok next ≡ unless (follow_rules nat_eq looks link inner) (Ok (symlink_start looks task directory link inner))
    → (left above : Pending) (others : List Pending)
    → left.words ≡ behind → above.text.now ≡ inner → above.words ≡ words inner
    → texts_walked looks task next (above ∷ left ∷ others)
    ≡ and_then (and_then (followed looks task directory link inner)
    (λ there. words_walked looks task (followed looks task) there (reverse behind)))
    (λ reached. unless (slash_rules nat_eq looks left.text.now reached.location) (texts_walked looks task reached others))
link-followed looks task directory link inner behind few next begun left above others rest inside all =
    let after : Here ℕ → Result (Here ℕ) Deny = λ reached.
    unless (slash_rules nat_eq looks left.text.now reached.location) (texts_walked looks task reached others) in
    let walked : Here ℕ → Result (Here ℕ) Deny = λ there.
    words_walked looks task (followed looks task) there (reverse behind) in
    (λ i. and_then (words_walked looks task (followed looks task) next (reverse (all i))) (λ reached.
    unless (slash_rules nat_eq looks (inside i) reached.location)
    (and_then (words_walked looks task (followed looks task) reached (reverse (rest i))) after)))
    ∙ begun-walked looks task directory link inner few next begun (λ there. and_then (walked there) after)
    ∙ sym (and_then-and_then (followed looks task directory link inner) walked after)

-- a link that is met while nothing waits: the words behind it wait, with no check of a slash
pub first-begun : (looks : Looks ℕ) (task : Task ℕ) (directory : Location ℕ) (link : Here ℕ) (inner : List ℕ)
    (behind : List (List ℕ)) → link.left ≤ 40 → (next : Here ℕ)
    → Ok next ≡ unless (follow_rules nat_eq looks link inner) (Ok (symlink_start looks task directory link inner))
    → (left above : Pending) (once : List Pending) → once ≡ [] ++ left ∷ []
    → left.text.now ≡ [] → left.words ≡ behind → above.text.now ≡ inner → above.words ≡ words inner
    → texts_walked looks task next (above ∷ reverse once) ≡ and_then (followed looks task directory link inner)
    (λ there. words_walked looks task (followed looks task) there (reverse behind))
first-begun looks task directory link inner behind few next begun left above once first text rest inside all =
    ap (λ ts. texts_walked looks task next (above ∷ ts)) (reverse-push once [] left first)
    ∙ link-followed looks task directory link inner behind few next begun left above [] rest inside all
    ∙ (λ i. and_then (and_then (followed looks task directory link inner)
    (λ there. words_walked looks task (followed looks task) there (reverse behind)))
    (λ reached. unless (slash_rules nat_eq looks (text i) reached.location) (Ok reached)))
    ∙ and_then-ok (and_then (followed looks task directory link inner)
    (λ there. words_walked looks task (followed looks task) there (reverse behind)))

-- and where it is not followed
pub first-denied : (looks : Looks ℕ) (task : Task ℕ) (directory : Location ℕ) (link : Here ℕ) (inner : List ℕ)
    (behind : List (List ℕ)) → link.left ≤ 40 → (deny : Deny)
    → Err deny ≡ unless (follow_rules nat_eq looks link inner) (Ok (symlink_start looks task directory link inner))
    → Err deny ≡ and_then (followed looks task directory link inner)
    (λ there. words_walked looks task (followed looks task) there (reverse behind))
first-denied looks task directory link inner behind few deny refused =
    ap (λ r. and_then r (λ there. words_walked looks task (followed looks task) there (reverse behind)))
    (follow-refused looks task directory link inner few deny refused)

-- a walk that has come into a text, while others wait
module _ (looks : Looks ℕ) (task : Task ℕ) (whole : Result (Here ℕ) Deny) (here : Here ℕ) (top : Pending)
    (texts : List Pending) (so_far : texts_walked looks task here (top ∷ reverse texts) ≡ whole) where
  -- how the text is walked, and what is done behind it
  abbrev pub top_walked : Result (Here ℕ) Deny
  top_walked = words_walked looks task (followed looks task) here (reverse top.words)

  abbrev pub others_walked : Here ℕ → Result (Here ℕ) Deny
  others_walked reached = unless (slash_rules nat_eq looks top.text.now reached.location)
      (texts_walked looks task reached (reverse texts))

  module _ (reached : Here ℕ) (walked : Ok reached ≡ top_walked) where
    module _ (passed : Ok tt ≡ unless {A = Unit {0}} (slash_rules nat_eq looks top.text.now reached.location) (Ok tt))
      where
        top-ended : texts_walked looks task reached (reverse texts) ≡ whole
        top-ended = sym (unless-let_through (slash_rules nat_eq looks top.text.now reached.location)
            (texts_walked looks task reached (reverse texts)) passed)
            ∙ ap (λ r. and_then r others_walked) walked ∙ so_far

        pub next-walked : (others : List Pending) (next : Pending) → texts ≡ others ++ next ∷ []
            → texts_walked looks task reached (next ∷ reverse others) ≡ whole
        next-walked others next popped =
            ap (texts_walked looks task reached) (sym (reverse-push texts others next popped)) ∙ top-ended

  -- a link in the text
  module _ (directory : Location ℕ) (link : Here ℕ) (inner : List ℕ) (behind : List (List ℕ)) (few : link.left ≤ 40)
      (met : and_then (followed looks task directory link inner)
      (λ next. words_walked looks task (followed looks task) next (reverse behind)) ≡ top_walked) where
    pub link-denied : (deny : Deny) → Err deny ≡ unless (follow_rules nat_eq looks link inner)
        (Ok (symlink_start looks task directory link inner)) → Err deny ≡ whole
    link-denied deny refused =
        ap (λ r. and_then (and_then r
        (λ next. words_walked looks task (followed looks task) next (reverse behind))) others_walked)
        (follow-refused looks task directory link inner few deny refused)
        ∙ ap (λ r. and_then r others_walked) met ∙ so_far

    module _ (next : Here ℕ) (begun : Ok next ≡ unless (follow_rules nat_eq looks link inner)
        (Ok (symlink_start looks task directory link inner)))
        (left above : Pending) (text : left.text.now ≡ top.text.now) (rest : left.words ≡ behind)
        (inside : above.text.now ≡ inner) (all : above.words ≡ words inner) where
      both-wait : texts_walked looks task next (above ∷ left ∷ reverse texts) ≡ whole
      both-wait =
          link-followed looks task directory link inner behind few next begun left above (reverse texts) rest inside all
          ∙ ap (λ slash. and_then (and_then (followed looks task directory link inner)
          (λ there. words_walked looks task (followed looks task) there (reverse behind)))
          (λ reached. unless (slash_rules nat_eq looks slash reached.location)
          (texts_walked looks task reached (reverse texts)))) text
          ∙ ap (λ r. and_then r others_walked) met ∙ so_far

      pub link-begun : (more : List Pending) → more ≡ texts ++ left ∷ []
          → texts_walked looks task next (above ∷ reverse more) ≡ whole
      link-begun more pushed =
          ap (λ ts. texts_walked looks task next (above ∷ ts)) (reverse-push more texts left pushed) ∙ both-wait

      pub last-link-begun : behind ≡ [] → ends_in_slash top.text.now ≡ false
          → texts_walked looks task next (above ∷ reverse texts) ≡ whole
      last-link-begun none plain =
          (λ i. and_then (words_walked looks task (followed looks task) next (reverse above.words)) (λ reached.
          unless (slash_rules nat_eq looks above.text.now reached.location)
          (sym (nothing-left looks task reached left (reverse texts) (rest ∙ none) (ap ends_in_slash text ∙ plain)) i)))
          ∙ both-wait
