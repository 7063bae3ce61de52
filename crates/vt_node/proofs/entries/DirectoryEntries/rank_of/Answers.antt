use Rattle.std.proofs.Common.{◌≡◌, ◌+◌, ◌≤◌, ◌&&◌, ◌∙◌, ap, arith, false, length, nat_eq, sym, true, is_lt}
use Rattle.vt_spec.proofs.Common.{name_cmp}
use Rattle.vt_node.specs.Ranks.{rank_among}
use Rattle.vt_node.proofs.RankLemmas.{AreColumns, before, count-listed, counted_all, counted_to, counts_none, counts_one, is_smaller, key_at}
use Rattle.vt_node.proofs.entries.DirectoryEntries.rank_of.Goals as goal
use Rattle.vt_node.proofs.entries.DirectoryEntries.rank_of.Goals.{then-eq+then-lt, else-eq, else-eq-via-then-eq+else-lt, else-eq-via-else-eq}

pub loop-place-preserved : goal.loop-place-preserved
loop-place-preserved c =
    let names = c.as_slice-names.result.now in
    let numbers = c.as_slice-numbers.result.now in
    let columns : AreColumns c.self.inside.by_name.entries names numbers = record {
      names_are = c.as_slice-names.ensures ∙ c.keys.ensures.rest;
      numbers_are = c.as_slice-numbers.ensures ∙ c.values.ensures.rest;
    } in
    let place = c.loop-place.place in
    let number = c.index-numbers-place.result in
    let test = before c.args.id c.args.name.now in
    let sofar = c.loop-place.invariant.counted in
    elim c.if-eq.branch as (λ _. record {
      counted : c.if-eq.rank ≡ counted_to test (place + 1) names numbers;
      few : c.if-eq.rank ≤ place + 1;
    }) [
      | then-eq+then-lt w ↦
          let leads : nat_eq c.args.id number ≡ true = sym c.eq.ensures ∙ w.if-eq.true in
          let smaller : is_lt (name_cmp w.index-names-place.result.items c.args.name.now) ≡ true =
          ap (λ n. is_lt (name_cmp n c.args.name.now)) (sym w.as_slice.ensures.value)
          ∙ sym (is_smaller w.as_slice.result.now c.args.name.now) ∙ sym w.lt.ensures ∙ w.if-lt.true in
          record {
            counted = w.rank-is ∙ ap (λ n. n + 1) sofar
                ∙ sym (counts_one columns test place w.index-names-place.result number c.loop-place-test.true
                w.index-names-place.is c.index-numbers-place.is (λ i. leads i && smaller i));
            few = omega (arith, w.rank-is, c.loop-place.invariant.few);
          }
      | else-eq w ↦ elim w.else-eq.branch as (λ _. record {
        counted : c.if-eq.rank ≡ counted_to test (place + 1) names numbers;
        few : c.if-eq.rank ≤ place + 1;
      }) [
        | else-eq-via-then-eq+else-lt w' ↦
            let leads : nat_eq c.args.id number ≡ true = sym c.eq.ensures ∙ w'.if-eq.true in
            let greater : is_lt (name_cmp w'.index-names-place.result.items c.args.name.now) ≡ false =
            ap (λ n. is_lt (name_cmp n c.args.name.now)) (sym w'.as_slice.ensures.value)
            ∙ sym (is_smaller w'.as_slice.result.now c.args.name.now) ∙ sym w'.lt.ensures ∙ w'.if-lt.false in
            record {
              counted = w.rank-is ∙ sofar
                  ∙ sym (counts_none columns test place w'.index-names-place.result number c.loop-place-test.true
                  w'.index-names-place.is c.index-numbers-place.is (λ i. leads i && greater i));
              few = omega (arith, w.rank-is, c.loop-place.invariant.few);
            }
        | else-eq-via-else-eq w' ↦
            let key = key_at columns test place c.loop-place-test.true in
            let elsewhere : nat_eq c.args.id number ≡ false = sym c.eq.ensures ∙ w'.if-eq.false in
            record {
              counted = w.rank-is ∙ sofar
                  ∙ sym (counts_none columns test place key.0 number c.loop-place-test.true key.1
                  c.index-numbers-place.is (λ i. elsewhere i && is_lt (name_cmp key.0.items c.args.name.now)));
              few = omega (arith, w.rank-is, c.loop-place.invariant.few);
            }
      ]
    ]

pub returns : goal.returns
returns c =
    let columns : AreColumns c.self.inside.by_name.entries c.as_slice-names.result.now c.as_slice-numbers.result.now =
    record {
      names_are = c.as_slice-names.ensures ∙ c.keys.ensures.rest;
      numbers_are = c.as_slice-numbers.ensures ∙ c.values.ensures.rest;
    } in
    let far : length c.as_slice-numbers.result.now ≤ c.loop-place.place = omega (arith, c.loop-place-test.false) in
    c.loop-place.invariant.counted ∙ counted_all columns (before c.args.id c.args.name.now) c.loop-place.place far
    ∙ sym (count-listed (before c.args.id c.args.name.now) c.self.inside.by_name.entries c.keys.ensures.unique)
    ∙ ap (λ entries. rank_among entries c.args.name.now c.args.id) c.self.view_is
