-- The texts of a line, free of capacities.
use Rattle.std.specs.Prelude.{List, None, Option, Some, [], drop, if◌then◌else◌, length, nat_le, take, ℕ, ◌∷◌}
use denote.Ref.{Bor}
use Rattle.vt_spec.specs.Language.Script.{each_of, raw_tokens, token_text}
use Rattle.vt_spec.specs.Lists.{first_of_list, then_some}
use Rattle.vt_line.specs.declared.token.TheConstants.{MOST_TEXTS}

-- the texts of a line, if each token spells one and they are not too many for any call
abbrev pub few_texts : List ℕ → Option (List (List ℕ))
few_texts line = if nat_le (length (raw_tokens line)) MOST_TEXTS then each_of token_text (raw_tokens line) else None

-- the text of a line's first token, if it has one that spells a text
abbrev pub first_text : List ℕ → Option (List ℕ)
first_text line = then_some (first_of_list (raw_tokens line)) token_text

-- texts that stand behind one another, by their lengths
abbrev pub cut : List ℕ → List ℕ → List (List ℕ)
cut bytes [] = []
cut bytes (size ∷ sizes) = take size bytes ∷ cut (drop size bytes) sizes

-- the words that are left of bytes: texts behind one another where their sizes are known, and else tokens
abbrev pub words_left : List ℕ → Option (Bor (List ℕ)) → List (List ℕ)
words_left bytes None = raw_tokens bytes
words_left bytes (Some sizes) = cut bytes sizes.now
