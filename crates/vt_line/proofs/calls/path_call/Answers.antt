use Rattle.std.proofs.Common.{Some, ap, refl, sym, option_map, ◌∙◌}
use Rattle.vt_spec.proofs.Common.{One}
use Rattle.vt_line.specs.declared.names.CallName.TheVariants.{Path}
use Rattle.vt_line.proofs.CallLemmas.{path_asked, path_refused}
use Rattle.vt_line.proofs.calls.path_call.Goals as goal

pub returns-in_default : goal.returns-in_default
returns-in_default c =
    path_refused One c.args.name c.args.words.now (sym c.lone_path.ensures ∙ ap (option_map (λ path. path.now)) c.in_default.is)

pub returns : goal.returns
returns c =
    path_asked One (Path c.args.name) c.args.name c.args.words.now c.in-Some.path.now refl
    (sym c.lone_path.ensures ∙ ap (option_map (λ path. path.now)) c.in-Some.is) ∙ ap Some (sym c.call.ensures)
