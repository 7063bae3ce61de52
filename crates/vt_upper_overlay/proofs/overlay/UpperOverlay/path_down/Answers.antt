use Rattle.std.proofs.Common.{rules, ◌≡◌, ◌∙◌, Some, ap, drop, false, length, map, sym, true}
use Rattle.vt_spec.proofs.Common.{drop-append_seam}
use Rattle.vt_location.specs.Locations.{number_of}
use Rattle.vt_upper_overlay.specs.MergedAbove.{directory_path}
use Rattle.vt_upper_overlay.proofs.Deep.{down_by_ways, not_down, to_itself, under_by_ways, under_no_directory, under_no_top}
use Rattle.vt_upper_overlay.proofs.Shown.{looked_by}
use Rattle.vt_upper_overlay.proofs.overlay.UpperOverlay.path_down.Goals as goal

pub returns-in_default : goal.returns-in_default
returns-in_default c =
    let looked = looked_by c.args.trees.now c.args.self.now c.args.directory c.requires.standing c.way.ensures.small
    c.requires.own in
    let top = number_of c.args.top in
    let directory = number_of c.args.directory in
    c.path_to_itself.ensures ∙ to_itself c.args.trees.now c.args.self.now looked top directory
    (under_no_directory c.args.trees.now c.args.self.now looked top directory
    (sym c.way.ensures.value ∙ c.in_default.is))

pub returns-in_default-way : goal.returns-in_default-way
returns-in_default-way c =
    let looked = looked_by c.args.trees.now c.args.self.now c.args.directory c.requires.standing c.way.ensures.small
    c.requires.own in
    let top = number_of c.args.top in
    let directory = number_of c.args.directory in
    c.path_to_itself-in_default-way.ensures ∙ to_itself c.args.trees.now c.args.self.now looked top directory
    (under_no_top c.args.trees.now c.args.self.now looked top directory c.in-Some.lower
    (sym c.way-2.ensures.value ∙ c.in_default-way.is) (sym c.way.ensures.value ∙ c.in-Some.is))

pub returns-then-not-starts_with : goal.returns-then-not-starts_with
returns-then-not-starts_with c =
    let looked = looked_by c.args.trees.now c.args.self.now c.args.directory c.requires.standing c.way.ensures.small
    c.requires.own in
    let top = number_of c.args.top in
    let directory = number_of c.args.directory in
    let apart : c.starts_with.result ≡ false = search rules in
    not_down c.args.trees.now c.args.self.now looked top directory
    (sym (under_by_ways c.args.trees.now c.args.self.now looked top directory
    c.in-Some-way.upper c.in-Some.lower (sym c.way-2.ensures.value ∙ c.in-Some-way.is)
    (sym c.way.ensures.value ∙ c.in-Some.is) c.starts_with.result c.starts_with.ensures.yes c.starts_with.ensures.no)
    ∙ apart)

pub returns : goal.returns
returns c =
    let looked = looked_by c.args.trees.now c.args.self.now c.args.directory c.requires.standing c.way.ensures.small
    c.requires.own in
    let top = number_of c.args.top in
    let directory = number_of c.args.directory in
    let trees = c.args.trees.now in
    let overlay = c.args.self.now in
    let upper = c.in-Some-way.upper in
    let lower = c.in-Some.lower in
    let begins : c.starts_with.result ≡ true = search rules in
    let more = c.starts_with.ensures.yes begins in
    let top_is : directory_path trees overlay top ≡ Some upper = sym c.way-2.ensures.value ∙ c.in-Some-way.is in
    let is : directory_path trees overlay directory ≡ Some lower = sym c.way.ensures.value ∙ c.in-Some.is in
    let under = sym (under_by_ways trees overlay looked top directory upper lower top_is is
    c.starts_with.result c.starts_with.ensures.yes c.starts_with.ensures.no) ∙ begins in
    let names : map (λ name. name.items) c.in_ok-names.names.items ≡ more.0 =
    c.in_ok-names.ensures ∙ ap (λ n. drop n lower) c.len.ensures ∙ ap (drop (length upper)) (sym more.1)
    ∙ drop-append_seam upper more.0 in
    ap Some names ∙ down_by_ways trees overlay looked top directory upper more.0 top_is (is ∙ ap Some (sym more.1)) under
