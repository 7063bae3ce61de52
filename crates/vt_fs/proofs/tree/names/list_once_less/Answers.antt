use Rattle.std.proofs.Common.{Some, ap, arith, cond, eqb-true, nat_eq, sym, ⊎_elim, ℕ, ◌∙◌, ◌≡◌}
use Rattle.std.proofs.lemmas.List.Quantifiers.{position-Some}
use Rattle.std.proofs.lemmas.List.Sums.{sum_by-swap_remove}
use Rattle.std.specs.List.{position, sum_by}
use Rattle.vt_spec.proofs.Common.{eqb_tells}
use Rattle.vt_fs.proofs.tree.NamesListed.{absent_never, often_is}
use Rattle.vt_fs.proofs.tree.names.list_once_less.Goals as goal
use Rattle.vt_fs.specs.Trees.Names.{how_often, one_if}

pub returns : goal.returns
returns c = λ other.
    let items = c.args.list.now.items in
    let place = c.in-Some.place in
    let last = c.swap_remove.result in
    let there : position (λ (number : ℕ). nat_eq number c.args.directory) items ≡ Some place =
    ap (position (λ (number : ℕ). nat_eq number c.args.directory)) (sym c.as_slice.ensures)
    ∙ sym c.place_of.ensures ∙ c.in-Some.is in
    let found = position-Some (λ (number : ℕ). nat_eq number c.args.directory) items place last there in
    omega (
      arith,
      often_is other items,
      often_is other c.swap_remove.new.self.items,
      ap (sum_by (one_if other)) c.swap_remove.ensures.items,
      sum_by-swap_remove (one_if other) items place last found.0,
      ap (one_if other) (eqb-true _ _ found.1),
    )

-- what is not listed stays so
pub returns-in_default : goal.returns-in_default
returns-in_default c = λ other.
    let none = ap (position (λ (number : ℕ). nat_eq number c.args.directory)) (sym c.as_slice.ensures)
    ∙ sym c.place_of.ensures ∙ c.in_default.is in
    let never = absent_never c.args.directory c.args.list.now.items none in
    ⊎_elim
    (λ t. omega (arith, never, ap (λ n. how_often n c.args.list.now.items) t.1, ap {B = ℕ} (λ b. cond b 1 0) t.0))
    (λ t. omega (arith, ap {B = ℕ} (λ b. cond b 1 0) t.0)) (eqb_tells other c.args.directory)
