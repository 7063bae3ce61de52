use Rattle.std.proofs.Common.{List, Some, ap, arith, eqb-true, nat_eq, slice_index_or, slice_set, sym, ℕ, ◌∙◌, ◌≡◌}
use Rattle.smallvec.specs.SmallVec.{small_vec_len}
use Rattle.std.proofs.lemmas.List.Quantifiers.{position-Some}
use Rattle.std.proofs.lemmas.List.Sums.{sum_by-set}
use Rattle.std.specs.List.{position, refill}
use Rattle.vt_fs.proofs.tree.NamesListed.{absent_never, often_is, often_listed, written_back}
use Rattle.vt_fs.proofs.tree.names.list_instead.Goals as goal
use Rattle.vt_fs.specs.Trees.Names.{how_often, one_if}

pub returns : goal.returns
returns c = λ other.
    let items = c.args.list.now.items in
    let place = c.in-Some.place in
    let there : position (λ (number : ℕ). nat_eq number c.args.from) items ≡ Some place =
    ap (position (λ (number : ℕ). nat_eq number c.args.from)) (sym c.as_slice.ensures)
    ∙ sym c.place_of.ensures ∙ c.in-Some.is in
    let found = position-Some (λ (number : ℕ). nat_eq number c.args.from) items place 0 there in
    let was : slice_index_or items place 0 ≡ c.args.from = eqb-true _ _ found.1 in
    let written = ap (λ (list : List ℕ). refill (small_vec_len c.args.list.now) items (slice_set list place c.args.to))
    c.deref_mut.ensures.value ∙ written_back items place c.args.to in
    omega (
      arith,
      ap (how_often other) written,
      often_is other items,
      often_is other (slice_set items place c.args.to),
      sum_by-set (one_if other) items place c.args.to 0 found.0,
      ap (one_if other) was,
      often_listed 0 items place other found.0,
    )

-- it is listed
pub returns-in_default : goal.returns-in_default
returns-in_default c = λ other.
    let none = ap (position (λ (number : ℕ). nat_eq number c.args.from)) (sym c.as_slice.ensures)
    ∙ sym c.place_of.ensures ∙ c.in_default.is in
    let never = absent_never c.args.from c.args.list.now.items none in
    absurd (omega (arith, never, c.requires))
