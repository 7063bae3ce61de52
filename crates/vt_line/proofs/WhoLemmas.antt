-- The text of a line's first token.
use Rattle.std.proofs.Common.{◌≡◌, ◌∙◌, ◌∷◌, ◌||◌, ℕ, List, [], Some, ap, eqb, sym, true}
use Rattle.vt_spec.proofs.Common.{each_of, is_plain, list_all, raw_tokens, then_some, token_text, with_first}
use Rattle.vt_spec.specs.Lists.{first_of_list}
use Rattle.vt_line.specs.Tokens.{first_text}
use Rattle.vt_line.proofs.TokenLemmas.{one_text, plain-tokens}

-- a token that is its own text
pub first_text-plain : (line token : List ℕ) (rest : List (List ℕ)) → raw_tokens line ≡ token ∷ rest
    → raw_tokens token ≡ token ∷ [] → list_all (λ byte. eqb byte 32 || is_plain byte) token ≡ true
    → Some token ≡ first_text line
first_text-plain line token rest first alone plain =
    let spelled : with_first (token_text token) (Some []) ≡ Some (token ∷ []) =
    sym (ap (each_of token_text) alone) ∙ plain-tokens token plain ∙ ap Some alone in
    let text = one_text (token_text token) (token ∷ []) (sym spelled) in
    let is = text.1 in
    let same = text.2 in
    let value : token_text token ≡ Some token = cc in
    sym (ap (λ tokens. then_some (first_of_list tokens) token_text) first ∙ value)
