use Rattle.std.proofs.Common.{◌≡◌, ◌<◌, ◌∷◌, ◌++◌, ◌||◌, [], Bool, take, length-append, ap, arith, get_or, length, nat_eq, sym, true, ◌∙◌, ℕ, take_all}
use Rattle.vt_spec.proofs.Common.{source_of}
use Rattle.vt_location.specs.declared.numbers.GroupId.{GroupId}
use Rattle.vt_location.specs.Numbers.{counted, group_number}
use Rattle.vt_group.specs.Grouping.{propagation_in}
use Rattle.vt_group.specs.Receiving.{is_in, receivers_from, receives_from}
use Rattle.vt_group.proofs.groups.Found.{each_more, few_found, in_at, in_longer, known_more, lower_more, reaches_more, taken_more}
use Rattle.vt_group.proofs.groups.Relatives.{receivers_noted}
use Rattle.vt_group.proofs.groups.Groups.receiving_below.Goals as goal

pub loop-next-smaller : goal.loop-next-smaller
loop-next-smaller c =
    let few = few_found c.args.self.now (counted c.args.group.count) c.loop-next.found.keys c.len.ensures.unique
    c.loop-next.invariant.known in
    omega (arith, few, c.loop-next-test.true, c.len.ensures.len)

pub loop-next-preserved : goal.loop-next-preserved
loop-next-preserved c =
    let groups = c.args.self.now in
    let group = counted c.args.group.count in
    let keys = c.loop-next.found.keys in
    let new = c.add_lowers.new.found.keys in
    let next = c.loop-next.next in
    let default : GroupId = record { count = 0 } in
    let here = get_or c.as_slice.result.now next default in
    let same = ap (λ list. get_or list next default) c.as_slice.ensures.keys in
    let less : next < length keys = omega (arith, c.loop-next-test.true, c.len.ensures.len) in
    let longer = c.in_ok-add_lowers.ensures.longer in
    let there : is_in keys (group_number here) ≡ true = ap (λ (g : GroupId). is_in keys (group_number g)) same
    ∙ in_at keys next default less in
    let taken = taken_more keys new next default less longer
    ∙ ap (λ (g : GroupId). take next keys ++ g ∷ []) (sym same) in
    let below = c.in_ok-add_lowers.ensures.lower in
    let known = c.loop-next.invariant in
    record {
      within = omega (arith, less, ap length longer.1, length-append keys longer.0);
      first = in_longer keys new longer group known.first;
      known = known_more groups group keys new next here there taken longer below known.known;
      reaches = reaches_more groups group keys new next here there taken longer below known.reaches;
      lower = lower_more groups group keys new next here there taken longer below c.in_ok-add_lowers.ensures.all
          known.lower;
      each = λ mount. c.in_ok-add_relatives.ensures mount
          ∙ ap (λ b. receives_from groups (nat_eq (group_number here)) (counted mount) || b) (known.each mount)
          ∙ each_more groups group keys new next here there taken longer below
          (source_of (propagation_in groups (counted mount)));
    }

pub returns : goal.returns
returns c =
    let groups = c.args.self.now in
    let keys = c.loop-next.found.keys in
    let found : ℕ → Bool = is_in keys in
    let known = c.loop-next.invariant in
    let all = take_all c.loop-next.next keys (omega (arith, c.loop-next-test.false, c.len.ensures.len)) in (
      found,
      record {
        first = known.first;
        lower = λ one upper is inside. known.lower one upper is (ap (λ list. is_in list upper) all ∙ inside);
        reaches = known.reaches;
      },
      receivers_noted found c.self.inside.mounts.kinds.entries c.put_in_order.new.mounts.items
          c.self.invariant.ordered c.put_in_order.ensures.ordered (λ count.
          c.put_in_order.ensures.same count ∙ known.each count
          ∙ ap (λ list. receives_from groups (is_in list) (counted count)) all
          ∙ ap (λ groups. receives_from groups found (counted count)) (sym c.self.view_is))
          ∙ ap (λ groups. receivers_from found groups.peers) c.self.view_is,
    )
