use Rattle.std.proofs.Common.{nat_eq, refl, rules, ◌∙◌}
use Rattle.vt_spec.proofs.Common.{YieldsList-from_slice, any_from_yields_List}
use Rattle.vt_location.specs.declared.numbers.MountId.{MountId}
use Rattle.vt_location.specs.Numbers.{counted}
use Rattle.vt_propagate.proofs.Indexing.{any-seen}
use Rattle.vt_propagate.proofs.falling.is_gone.Goals as goal

pub returns-then-gone-le-FEW : goal.returns-then-gone-le-FEW
returns-then-gone-le-FEW c =
    any_from_yields_List (λ (one : MountId). nat_eq (counted c.args.id.count) (counted one.count)) _ _ _ c.any.ensures.ran
    (YieldsList-from_slice c.args.gone.now.ids.now cc) (λ x b q k. search rules)
    ∙ any-seen (λ (one : MountId). counted one.count)
    (λ (one : MountId). nat_eq (counted c.args.id.count) (counted one.count))
    (nat_eq (counted c.args.id.count)) (λ one. refl) c.args.gone.now.ids.now

pub returns : goal.returns
returns c = c.contains.ensures ∙ c.requires.many c.if-gone-le-FEW.false c.args.id
