use Rattle.std.proofs.Common.{◌≡◌, ◌≢◌, ◌<◌, [], length, get_or, rules, false}
use Rattle.vt_spec.proofs.Common.{is_empty_list, raw_tokens}
use Rattle.vt_text.proofs.PathWords.{words_between_none, words_between_some}
use Rattle.vt_line.proofs.token.has_no_token.Goals as goal

pub returns-in-None : goal.returns-in-None
returns-in-None c =
    let none : raw_tokens c.args.line.now ≡ [] = words_between_none 32 c.args.line.now (search rules) in
    search rules

pub returns-in-Some : goal.returns-in-Some
returns-in-Some c =
    let line = c.args.line.now in
    let start = c.in-Some.field-0 in
    let inside : start < length line = search rules in
    let first : get_or line start 0 ≢ 32 = search rules in
    let some : is_empty_list (raw_tokens line) ≡ false = words_between_some 32 line start inside first in
    search rules
