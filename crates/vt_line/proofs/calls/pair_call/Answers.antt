use Rattle.std.proofs.Common.{Some, ap, refl, sym, option_map, ◌∙◌}
use Rattle.vt_spec.proofs.Common.{One}
use Rattle.vt_line.specs.declared.names.CallName.TheVariants.{Pair}
use Rattle.vt_line.proofs.CallLemmas.{pair_asked, pair_refused}
use Rattle.vt_line.proofs.calls.pair_call.Goals as goal

pub returns-in_default : goal.returns-in_default
returns-in_default c = pair_refused One c.args.name c.args.words.now (sym c.path_pair.ensures
    ∙ ap (option_map (λ paths. (paths.0.now, paths.1.now))) c.in_default.is)

pub returns : goal.returns
returns c =
    pair_asked One (Pair c.args.name) c.args.name c.args.words.now c.in-Some.first.now c.in-Some.second.now refl
    (sym c.path_pair.ensures ∙ ap (option_map (λ paths. (paths.0.now, paths.1.now))) c.in-Some.is)
    ∙ ap Some (sym c.call.ensures)
