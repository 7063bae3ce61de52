-- Whom the first token of a line names.
use Rattle.std.proofs.Common.{◌≡◌, refl, List, Option, Some, None, [], option_to_list, ℕ}
use Rattle.vt_spec.proofs.Common.{each_of, raw_tokens, token_text, with_first}
use Rattle.vt_spec.specs.Language.Script.{who_of}
use Rattle.vt_spec.specs.Lists.{first_of_list, then_some}
use Rattle.vt_spec.specs.Machine.Turns.{first_token, first_who}
use Rattle.vt_line.specs.Tokens.{first_text}

pub first_named : (line : List ℕ) → first_who (each_of token_text (first_token line)) ≡ then_some (first_text line) who_of
first_named line = by (first_of_list (raw_tokens line))
  where
    by_text : (text : Option (List ℕ)) → first_who (with_first text (Some [])) ≡ then_some text who_of
    by_text None = refl
    by_text (Some text) = refl

    by : (first : Option (List ℕ)) → first_who (each_of token_text (option_to_list first))
        ≡ then_some (then_some first token_text) who_of
    by None = refl
    by (Some token) = by_text (token_text token)
