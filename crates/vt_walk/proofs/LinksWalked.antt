-- A link followed, or refused.
use Rattle.std.proofs.Common.{nat_eq, Bool, true, false, ◌≡◌, ◌+◌, ◌-◌, ◌<◌, ◌≤◌, ℕ, zero, suc, List, ◌∷◌, reverse, Result, Ok, Err, sym, ap, ◌∙◌, arith, ◌==◌}
use Rattle.vt_spec.proofs.Common.{Here, Location, Looks, Rules, Task, and_then, follow_rules, slash_rules, unless, unless-refused, words}
use Rattle.vt_walk.specs.PlainWalks.{followed, symlink_start, words_walked}
use Rattle.vt_spec.specs.declared.errors.Deny.{Deny}
use Rattle.vt_spec.specs.declared.errors.Rule.TheVariants.{W7, W9}
use Rattle.vt_spec.specs.Machine.Looks.{mount_at}
use Rattle.vt_walk.proofs.Depths.{followed-again}
use Rattle.vt_walk.proofs.RefusalLemmas.{and_then-and_then, unless-and_then, unless-answer}
use Rattle.vt_spec.proofs.Refusals.{unless-passed}

-- a link that may be followed is one of those that are left
some-left : (nosymfollow : Bool) (left : ℕ) (rows : Rules) (start next : Here ℕ)
    → Ok next ≡ unless ((nosymfollow, W9) ∷ (left == 0, W7) ∷ rows) (Ok start) → 0 < left
some-left true left rows start next e = absurd cc
some-left false zero rows start next e = absurd cc
some-left false (suc left) rows start next e = omega arith

pub begun-left : (looks : Looks ℕ) (task : Task ℕ) (directory : Location ℕ) (link next : Here ℕ) (text : List ℕ)
    → Ok next ≡ unless (follow_rules nat_eq looks link text) (Ok (symlink_start looks task directory link text))
    → next.left + 1 ≡ link.left
begun-left looks task directory link next text e =
    let some = some-left (mount_at looks link.location).flags.nosymfollow link.left _
    (symlink_start looks task directory link text) next e in
    let less : link.left - 1 ≡ next.left = ap (λ here. here.left)
    (unless-answer (follow_rules nat_eq looks link text) (symlink_start looks task directory link text) next (sym e)) in
    omega arith

module _ (looks : Looks ℕ) (task : Task ℕ) where
  -- the words of a text
  abbrev pub inside_walked : Here ℕ → List (List ℕ) → Result (Here ℕ) Deny
  inside_walked start ws = words_walked looks task (followed looks task) start (reverse ws)

  abbrev pub slash_checked : List ℕ → Here ℕ → Result (Here ℕ) Deny
  slash_checked text reached = unless (slash_rules nat_eq looks text reached.location) (Ok reached)

  module _ (directory : Location ℕ) (link : Here ℕ) (text : List ℕ) (few : link.left ≤ 40) where
    pub follow-refused : (deny : Deny) →
        Err deny ≡ unless (follow_rules nat_eq looks link text) (Ok (symlink_start looks task directory link text))
        → Err deny ≡ followed looks task directory link text
    follow-refused deny refused =
        sym (unless-refused (follow_rules nat_eq looks link text) (symlink_start looks task directory link text) _ deny
        (sym refused)) ∙ sym (followed-again looks task directory link text few)

    pub follow-begun : (start : Here ℕ) →
        Ok start ≡ unless (follow_rules nat_eq looks link text) (Ok (symlink_start looks task directory link text))
        → and_then (inside_walked start (words text)) (slash_checked text) ≡ followed looks task directory link text
    follow-begun start begun = ap (λ s. and_then (inside_walked s (words text)) (slash_checked text))
        (sym (unless-answer (follow_rules nat_eq looks link text) (symlink_start looks task directory link text) start
        (sym begun))) ∙ sym (unless-passed (follow_rules nat_eq looks link text)
        (symlink_start looks task directory link text) start _ (sym begun))
        ∙ sym (followed-again looks task directory link text few)

    -- a link that is followed, and then what comes after it
    pub begun-walked : (start : Here ℕ) →
        Ok start ≡ unless (follow_rules nat_eq looks link text) (Ok (symlink_start looks task directory link text))
        → (after : Here ℕ → Result (Here ℕ) Deny)
        → and_then (inside_walked start (words text)) (λ reached.
        unless (slash_rules nat_eq looks text reached.location) (after reached))
        ≡ and_then (followed looks task directory link text) after
    begun-walked start begun after =
        (λ i. and_then (inside_walked start (words text))
        (λ reached. unless-and_then (slash_rules nat_eq looks text reached.location) reached after i))
        ∙ sym (and_then-and_then (inside_walked start (words text)) (slash_checked text) after)
        ∙ ap (λ r. and_then r after) (follow-begun start begun)
