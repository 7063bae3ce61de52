use Rattle.std.proofs.Common.{rules, ◌≡◌, ◌+◌, ◌≤◌, ◌&&◌, ◌∙◌, Some, ap, arith, cond, eq-eqb, false, length, nat_eq, sym, true}
use Rattle.vt_node.specs.Ranks.{has_rank, name_ranked, rank_among}
use Rattle.vt_node.proofs.RankLemmas.{AreColumns, found_all, found_from, found_none, found_or_later, ranked-listed}
use Rattle.vt_node.proofs.entries.DirectoryEntries.name_ranked.Goals as goal
use Rattle.vt_node.proofs.entries.DirectoryEntries.name_ranked.Goals.{else-eq-via-then-eq+else-rank-rank_of, else-eq-via-else-eq}

pub returns-then-rank-rank_of : goal.returns-then-rank-rank_of
returns-then-rank-rank_of c =
    let names = c.as_slice-names.result.now in
    let numbers = c.as_slice-numbers.result.now in
    let columns : AreColumns c.self.inside.by_name.entries names numbers = record {
      names_are = c.as_slice-names.ensures ∙ c.keys.ensures.rest;
      numbers_are = c.as_slice-numbers.ensures ∙ c.values.ensures.rest;
    } in
    let has = has_rank c.args.self.now c.args.id c.args.rank in
    let key = c.index-names-place.result in
    let leads : nat_eq c.args.id c.index-numbers-place.result ≡ true = sym c.eq.ensures ∙ c.if-eq.true in
    let same : c.args.rank ≡ rank_among c.args.self.now key.items c.args.id = c.if-rank-rank_of.true ∙ c.rank_of.ensures
    ∙ ap (λ name. rank_among c.args.self.now name c.args.id) c.as_slice-name.ensures.value in
    ap Some c.as_slice-name.ensures.value
    ∙ sym (ap (λ entries. name_ranked entries c.args.id c.args.rank) (sym c.self.view_is)
    ∙ ranked-listed c.args.id c.args.rank c.self.inside.by_name.entries c.keys.ensures.unique
    ∙ sym (found_all columns (has_rank _ c.args.id c.args.rank))
    ∙ ap (λ entries. found_from (has_rank entries c.args.id c.args.rank) 0 names numbers) c.self.view_is
    ∙ c.loop-place.invariant
    ∙ found_or_later columns has c.loop-place.place key c.index-numbers-place.result c.loop-place-test.true
    c.index-names-place.is c.index-numbers-place.is
    ∙ ap (λ b. cond b (Some key.items) (found_from has (c.loop-place.place + 1) names numbers))
    (λ i. leads i && eq-eqb c.args.rank (rank_among c.args.self.now key.items c.args.id) same i))

pub loop-place-preserved : goal.loop-place-preserved
loop-place-preserved c =
    let names = c.as_slice-names.result.now in
    let numbers = c.as_slice-numbers.result.now in
    let columns : AreColumns c.self.inside.by_name.entries names numbers = record {
      names_are = c.as_slice-names.ensures ∙ c.keys.ensures.rest;
      numbers_are = c.as_slice-numbers.ensures ∙ c.values.ensures.rest;
    } in
    let has = has_rank c.args.self.now c.args.id c.args.rank in
    let key = c.index-names-place.result in
    let number = c.index-numbers-place.result in
    let rank = rank_among c.args.self.now key.items c.args.id in
    let fails : has (key.items, number) ≡ false = elim c.else-eq.branch as (λ _. has (key.items, number) ≡ false) [
      | else-eq-via-then-eq+else-rank-rank_of w ↦
          let leads : nat_eq c.args.id number ≡ true = sym c.eq.ensures ∙ w.if-eq.true in
          let apart : nat_eq c.args.rank w.rank_of.result ≡ false = search rules in
          let its : w.rank_of.result ≡ rank = w.rank_of.ensures
          ∙ ap (λ name. rank_among c.args.self.now name c.args.id) c.as_slice-name.ensures.value in
          (λ i. leads i && (sym (ap (nat_eq c.args.rank) its) ∙ apart) i)
      | else-eq-via-else-eq w ↦
          let elsewhere : nat_eq c.args.id number ≡ false = sym c.eq.ensures ∙ w.if-eq.false in
          ap (λ b. b && nat_eq c.args.rank rank) elsewhere
    ] in
    c.loop-place.invariant
    ∙ found_or_later columns has c.loop-place.place key number c.loop-place-test.true c.index-names-place.is
    c.index-numbers-place.is
    ∙ ap (λ b. cond b (Some key.items) (found_from has (c.loop-place.place + 1) names numbers)) fails

pub returns : goal.returns
returns c =
    let names = c.as_slice-names.result.now in
    let numbers = c.as_slice-numbers.result.now in
    let columns : AreColumns c.self.inside.by_name.entries names numbers = record {
      names_are = c.as_slice-names.ensures ∙ c.keys.ensures.rest;
      numbers_are = c.as_slice-numbers.ensures ∙ c.values.ensures.rest;
    } in
    let far : length numbers ≤ c.loop-place.place = omega (arith, c.loop-place-test.false) in
    sym (ap (λ entries. name_ranked entries c.args.id c.args.rank) (sym c.self.view_is)
    ∙ ranked-listed c.args.id c.args.rank c.self.inside.by_name.entries c.keys.ensures.unique
    ∙ sym (found_all columns (has_rank _ c.args.id c.args.rank))
    ∙ ap (λ entries. found_from (has_rank entries c.args.id c.args.rank) 0 names numbers) c.self.view_is
    ∙ c.loop-place.invariant
    ∙ found_none columns (has_rank c.args.self.now c.args.id c.args.rank) c.loop-place.place far)
