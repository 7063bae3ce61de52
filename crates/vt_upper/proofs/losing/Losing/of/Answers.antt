use Rattle.std.proofs.Common.{refl, rules, subst, true, false, ◌++◌, ◌≡◌, ◌∷◌, []}
use Rattle.vt_upper.proofs.NamedUnkept.{not_kept}
use Rattle.vt_upper.specs.LastName.{IsToldLast}
use Rattle.vt_location.proofs.NodeLemmas.{small_parts}
use Rattle.vt_location.specs.Locations.{is_small_node, number_of}
use Rattle.vt_upper_overlay.proofs.Shown.{looked_by}
use Rattle.vt_upper.proofs.losing.Losing.of.Goals as goal

pub returns-then-is_last_name-clause-loses : goal.returns-then-is_last_name-clause-loses
returns-then-is_last_name-clause-loses c = λ path name at. (
  refl,
  refl,
  subst (λ b. IsToldLast b c.args.trees.now c.args.overlay.now (number_of c.args.node) (path ++ name ∷ []))
      c.if-is_last_name.true (c.is_last_name.ensures.told path name at),
)

pub returns-then-is_last_name-clause-not_kept : goal.returns-then-is_last_name-clause-not_kept
returns-then-is_last_name-clause-not_kept c = λ path name at.
    let directory_small : is_small_node c.args.directory ≡ true = search rules in
    not_kept c.args.trees.now c.args.overlay.now
    (looked_by c.args.trees.now c.args.overlay.now c.args.directory c.requires.standing directory_small c.requires.own)
    c.args.node (small_parts c.args.node c.is_last_name.ensures.small) (path ++ name ∷ []) at.leads

pub returns-clause-loses : goal.returns-clause-loses
returns-clause-loses c = λ path name at.
    let no : c.is_last_name.result ≡ false = search rules in
    subst (λ b. IsToldLast b c.args.trees.now c.args.overlay.now (number_of c.args.node) (path ++ name ∷ [])) no
    (c.is_last_name.ensures.told path name at)
