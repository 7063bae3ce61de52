use Rattle.std.proofs.Common.{◌≡◌, ◌∙◌, ◌-◌, ◌<◌, ap, drop, length, nat_eq, refl, subst, take}
use Rattle.std.specs.Global.{Vec}
use Rattle.vt_copyup.specs.declared.plans.Piece.{Piece}
use Rattle.vt_copyup.proofs.ForksMade.{fork_of}
use Rattle.vt_copyup.proofs.forks.Fork.of.Goals as goal

pub returns : goal.returns
returns c =
    let first = c.args.first in
    let second = c.args.second in
    let n = c.shared_by-many.result in
    let shared = c.in_ok-shared in
    let begun = c.in_ok-begun in
    let next = c.in_ok-next in
    let front : shared.shared.pieces.items ≡ drop (length first.pieces.items - n) first.pieces.items =
    ap (λ (v : Vec Piece). v.items) shared.ensures.pieces ∙ c.in_ok-front.ensures.tail
    ∙ ap (λ m. drop (m - n) first.pieces.items) (c.len.ensures ∙ first.pieces.ok.0) in
    let later : begun.begun.pieces.items ≡ take (length first.pieces.items - n) first.pieces.items =
    ap (λ (v : Vec Piece). v.items) begun.ensures.pieces ∙ c.in_ok-front.ensures.items
    ∙ ap (λ m. take (m - n) first.pieces.items) (c.len.ensures ∙ first.pieces.ok.0) in
    let own : next.next.pieces.items ≡ take (length second.pieces.items - n) second.pieces.items =
    ap (λ (v : Vec Piece). v.items) next.ensures.pieces ∙ c.truncate.ensures.items
    ∙ ap (λ m. take (m - n) second.pieces.items) (c.len-2.ensures ∙ second.pieces.ok.0) in
    let shared_long = ap (λ (v : Vec Piece). length v.items) shared.ensures.pieces in
    let begun_long = ap (λ (v : Vec Piece). length v.items) begun.ensures.pieces in
    let next_long = ap (λ (v : Vec Piece). length v.items) next.ensures.pieces in
    fork_of c.args.trees.now first second n c.shared_by-many.ensures.few c.shared_by-many.ensures.second_few
    c.shared_by-many.ensures.shared (record {
      directory = first.directory;
      other = second.directory;
      shared = shared.shared;
      first = begun.begun;
      second = next.next;
    }) refl refl front later own
    (λ some. shared.ensures.there (subst (λ m. 0 < m) shared_long some) refl)
    (λ some. begun.ensures.room (subst (λ m. 0 < m) begun_long some))
    (λ some none. begun.ensures.there (subst (λ m. 0 < m) begun_long some) (ap (λ m. nat_eq m 0) none))
    (λ some. next.ensures.room (subst (λ m. 0 < m) next_long some))
    (λ some none. next.ensures.there (subst (λ m. 0 < m) next_long some) (ap (λ m. nat_eq m 0) none))
