-- Tables without the rows of rules that are let pass.
use Rattle.std.proofs.Common.{◌≡◌, ◌+◌, ◌<◌, ◌&&◌, ◌++◌, ℕ, Bool, true, false, List, [], ◌∷◌, Result, Ok, Err, drop, get_or, length, not, refl, ap, sym, ◌∙◌}
use Rattle.vt_spec.proofs.Common.{CopyUp, Location, Looks, Rules, at_drop_more, denial, unless}
use Rattle.vt_spec.specs.Machine.Rules.Descriptors.{copy_rules}
use Rattle.vt_spec.specs.declared.errors.Deny.{Deny}
use Rattle.vt_spec.specs.declared.errors.Rule.{Rule}
use Rattle.vt_spec.specs.declared.errors.Rule.TheVariants.{F2}
use Rattle.vt_laws_rules.specs.RuleRanks.{is_among}
use Rattle.vt_later.specs.Passing.{MountersStayAsked, StayAsked, lets_pass, row_unless, without}
use Rattle.vt_later.specs.Past.{Refusal, table_past}

-- a row, before others that come to the same
pub same_row : {A : Type 0} (passes : Bool) (row : Bool × Rule) (rows others : Rules) (answer other : Result A Deny)
    → unless rows answer ≡ unless others other
    → unless (row_unless passes row rows) answer ≡ unless (row_unless passes row others) other
same_row true row rows others answer other e = e
same_row false (true, rule) rows others answer other e = refl
same_row false (false, rule) rows others answer other e = e

-- rows after rows
pub appended : {A : Type 0} (passes : Rule → Bool) (rows others : Rules) (answer : Result A Deny)
    → unless (without passes (rows ++ others)) answer
    ≡ unless (without passes rows) (unless (without passes others) answer)
appended passes [] others answer = refl
appended passes (row ∷ rows) others answer = same_row (passes row.1) row (without passes (rows ++ others))
    (without passes rows) answer (unless (without passes others) answer) (appended passes rows others answer)

-- rows of which none can be let pass
pub stay : (passed : List Rule) (rows : Rules) → StayAsked rows → without (lets_pass passed) rows ≡ rows
stay passed [] asked = refl
stay passed ((fails, rule) ∷ rows) asked =
    λ i. row_unless (asked.0 i && is_among rule passed) (fails, rule) (stay passed rows asked.1 i)

-- rows, and then what the mounter of an overlay is asked
pub with_mounter : (passed : List Rule) (rows mounter : Rules) (answer : Refusal) → StayAsked mounter
    → answer ≡ unless mounter (Ok tt)
    → unless (without (lets_pass passed) rows) answer ≡ table_past passed (rows ++ mounter)
with_mounter passed rows mounter answer asked e =
    ap (λ r. unless (without (lets_pass passed) rows) r)
    (e ∙ ap (λ left. unless left (Ok tt)) (sym (stay passed mounter asked)))
    ∙ sym (appended (lets_pass passed) rows mounter (Ok tt))

-- behind F2, which is not let pass, it is known that there is an upper layer
pub behind_upper : (passed : List Rule) (before rows others : Rules) (no_upper : Bool) (answer other : Refusal)
    → (no_upper ≡ false
    → unless (without (lets_pass passed) rows) answer ≡ unless (without (lets_pass passed) others) other)
    → unless (without (lets_pass passed) (before ++ ((no_upper, F2) ∷ rows))) answer
    ≡ unless (without (lets_pass passed) (before ++ ((no_upper, F2) ∷ others))) other
behind_upper passed [] rows others true answer other same = refl
behind_upper passed [] rows others false answer other same = same refl
behind_upper passed (row ∷ before) rows others no_upper answer other same =
    same_row (lets_pass passed row.1) row (without (lets_pass passed) (before ++ ((no_upper, F2) ∷ rows)))
    (without (lets_pass passed) (before ++ ((no_upper, F2) ∷ others))) answer other
    (behind_upper passed before rows others no_upper answer other same)

-- so what the mounter is asked is asked of an upper layer alone
pub mounter_asked : (passed : List Rule) (before behind mounter : Rules) (no_upper : Bool) (answer : Refusal)
    → StayAsked mounter → (no_upper ≡ false → answer ≡ unless mounter (Ok tt))
    → unless (without (lets_pass passed) (before ++ ((no_upper, F2) ∷ behind))) answer
    ≡ table_past passed (before ++ ((no_upper, F2) ∷ (behind ++ mounter)))
mounter_asked passed before behind mounter no_upper answer asked e =
    behind_upper passed before behind (behind ++ mounter) no_upper answer (Ok tt)
    (λ upper. with_mounter passed behind mounter answer asked (e upper))

refusing : {A : Type 0} (passes : Bool) (row : Bool × Rule) (rows : Rules) (answer : Result A Deny)
    → (row.0 && not passes) ≡ true → unless (row_unless passes row rows) answer ≡ Err (denial row.1)
refusing true (true, rule) rows answer e = absurd cc
refusing true (false, rule) rows answer e = absurd cc
refusing false (true, rule) rows answer e = refl
refusing false (false, rule) rows answer e = absurd cc

leaving : {A : Type 0} (passes : Bool) (row : Bool × Rule) (rows : Rules) (answer : Result A Deny)
    → (row.0 && not passes) ≡ false → unless (row_unless passes row rows) answer ≡ unless rows answer
leaving true row rows answer e = refl
leaving false (true, rule) rows answer e = absurd cc
leaving false (false, rule) rows answer e = refl

-- a row that does not fail
pub row_gone : {A : Type 0} (passes : Rule → Bool) (fails : Bool) (rule : Rule) (rows : Rules) (answer : Result A Deny)
    → fails ≡ false → unless (without passes ((fails, rule) ∷ rows)) answer ≡ unless (without passes rows) answer
row_gone passes fails rule rows answer e = leaving (passes rule) (fails, rule) (without passes rows) answer
    (ap (λ b. b && not (passes rule)) e)

-- the row at a place refuses
pub row_refuses : {A : Type 0} (passes : Rule → Bool) (rows : Rules) (i : ℕ) (d : Bool × Rule) (answer : Result A Deny)
    (test : Bool) → i < length rows → test ≡ ((get_or rows i d).0 && not (passes (get_or rows i d).1)) → test ≡ true
    → unless (without passes (drop i rows)) answer ≡ Err (denial (get_or rows i d).1)
row_refuses passes rows i d answer test within is holds =
    at_drop_more (λ left. unless (without passes left) answer) rows i d within
    ∙ refusing (passes (get_or rows i d).1) (get_or rows i d) (without passes (drop (i + 1) rows)) answer
    (sym is ∙ holds)

-- or it is left behind
pub row_left : {A : Type 0} (passes : Rule → Bool) (rows : Rules) (i : ℕ) (d : Bool × Rule) (answer : Result A Deny)
    (test : Bool) → i < length rows → test ≡ ((get_or rows i d).0 && not (passes (get_or rows i d).1)) → test ≡ false
    → unless (without passes (drop (i + 1) rows)) answer ≡ unless (without passes (drop i rows)) answer
row_left passes rows i d answer test within is fails =
    sym (at_drop_more (λ left. unless (without passes left) answer) rows i d within
    ∙ leaving (passes (get_or rows i d).1) (get_or rows i d) (without passes (drop (i + 1) rows)) answer
    (sym is ∙ fails))

-- what is asked for a copy stays asked
pub copies_stay : (looks : Looks ℕ) (at : Location ℕ) (copied : Bool) → MountersStayAsked looks
    → StayAsked (copy_rules copied looks at)
copies_stay looks at true asked = asked at (CopyUp at.node)
copies_stay looks at false asked = tt
