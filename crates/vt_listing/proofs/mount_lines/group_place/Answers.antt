use Rattle.std.proofs.Common.{Some, None, arith, length, rules, sym, ◌∙◌, ◌+◌, ◌<◌, ◌≡◌}
use Rattle.std.proofs.lemmas.List.{length-take-le}
use Rattle.vt_listing.proofs.MountLines.{grouped_index}
use Rattle.vt_listing.proofs.mount_lines.group_place.Goals as goal

pub returns-in-Some : goal.returns-in-Some
returns-in-Some c =
    let within : c.in-Some.index < length c.as_slice.result.now = search rules in
    length-take-le (c.in-Some.index + 1) c.as_slice.result.now (omega (arith, within))
    ∙ (let same : c.in-Some.index + 1 ≡ 1 + c.in-Some.index = omega arith in same)
    ∙ sym (grouped_index c.args.id c.args.groups.now.keys (Some c.in-Some.index)
    (sym c.get_index_of.ensures.index ∙ c.in-Some.is))

pub returns-in-None : goal.returns-in-None
returns-in-None c = sym (grouped_index c.args.id c.args.groups.now.keys None
    (sym c.get_index_of.ensures.index ∙ c.in-None.is))
