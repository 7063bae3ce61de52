use Rattle.std.proofs.Common.{ℕ, true, not, eqb, Option, option_map, sym, ap, ◌∙◌, rules, tests}
use Rattle.vt_spec.proofs.Common.{YieldsList-from_slice, option_map_or}
use Rattle.std.proofs.lemmas.Iterator.Search.{find_from_yields_List}
use Rattle.vt_line.proofs.TokenLemmas.{is_silent-first}
use Rattle.vt_wanted.proofs.entry.is_silent.Goals as goal

pub returns-in-None : goal.returns-in-None
returns-in-None c =
    let found = find_from_yields_List (λ byte. not (eqb byte 32)) _ _ c.find.result c.find.ensures.ran
    (YieldsList-from_slice c.args.line.now cc) (λ x b q k. search (rules, tests)) in
    let none = ap (option_map (λ x. x.now)) (sym c.in-None.is) ∙ found in
    ap (λ (first : Option ℕ). option_map_or (λ byte. eqb byte 35) first true) none
    ∙ sym (is_silent-first c.args.line.now)

pub returns-in-Some : goal.returns-in-Some
returns-in-Some c =
    let found = find_from_yields_List (λ byte. not (eqb byte 32)) _ _ c.find.result c.find.ensures.ran
    (YieldsList-from_slice c.args.line.now cc) (λ x b q k. search (rules, tests)) in
    let some = ap (option_map (λ x. x.now)) (sym c.in-Some.is) ∙ found in
    ap (λ (first : Option ℕ). option_map_or (λ byte. eqb byte 35) first true) some
    ∙ sym (is_silent-first c.args.line.now)
