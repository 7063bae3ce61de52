use Rattle.std.proofs.Common.{◌≡◌, ◌≢◌, ◌<◌, [], length, get_or, rules, false}
use Rattle.vt_spec.proofs.Common.{is_empty_list, words}
use Rattle.vt_text.proofs.PathWords.{words_between_none, words_between_some}
use Rattle.vt_text.proofs.path.Words.is_empty.Goals as goal

pub returns-in-None : goal.returns-in-None
returns-in-None c =
    let none : words c.self.inside.text.now ≡ [] = words_between_none 47 c.self.inside.text.now (search rules) in
    search rules

pub returns-in-Some : goal.returns-in-Some
returns-in-Some c =
    let text = c.self.inside.text.now in
    let start = c.in-Some.field-0 in
    let inside : start < length text = search rules in
    let first : get_or text start 0 ≢ 47 = search rules in
    let some : is_empty_list (words text) ≡ false = words_between_some 47 text start inside first in
    search rules
