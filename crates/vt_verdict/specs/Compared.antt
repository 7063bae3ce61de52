-- Which lines of a script are answered otherwise than is wanted.
use Rattle.std.specs.Prelude.{Bool, List, None, Option, Some, [], codes, drop, false, filter, flat_map, if◌then◌else◌, length, nat_eq, nat_le, not, suc, take, zero, ℕ, ◌&&◌, ◌+◌, ◌==◌, ◌≡◌, ◌||◌, ◌∷◌}
use Rattle.std.specs.List.{list_all, list_any, prefix_len, slice_split, starts_with, zip}
use Rattle.std.specs.Option.{option_map_or}
use Rattle.std.specs.Str.{bytes_eq}
use Rattle.vt_verdict.specs.declared.compare.Answer.{Answer}
use Rattle.vt_verdict.specs.declared.compare.Difference.{Difference}

-- One line

-- the words of a text stand between spaces
abbrev pub words_of : List ℕ → List (List ℕ)
words_of text = slice_split (λ byte. byte == 32) text

abbrev pub has_word : List ℕ → List ℕ → Bool
has_word text word = list_any (λ other. bytes_eq other word) (words_of text)

abbrev pub has_words : List ℕ → List ℕ → Bool
has_words text words = list_all (has_word text) (words_of words)

-- `ok`, with a value or without
abbrev pub is_any_ok : List ℕ → Bool
is_any_ok text = bytes_eq text (codes "ok") || starts_with nat_eq text (codes "ok ")

abbrev pub is_any_denial : List ℕ → Bool
is_any_denial text = starts_with nat_eq text (codes "deny ")

-- `ok ..` wants any `ok`
abbrev pub wants_any_ok : List ℕ → Bool
wants_any_ok wanted = bytes_eq wanted (codes "ok ..")

-- `deny` wants any denial, and `deny EBUSY M8` one with these words
abbrev pub wants_a_denial : List ℕ → Bool
wants_a_denial wanted = bytes_eq wanted (codes "deny") || starts_with nat_eq wanted (codes "deny ")

-- a line is what is wanted: the same, or of the kind that is wanted
abbrev pub is_met : List ℕ → List ℕ → Bool
is_met wanted given =
    bytes_eq wanted given
    || (wants_any_ok wanted && is_any_ok given)
    || (wants_a_denial wanted && is_any_denial given && has_words given wanted)

-- The lines of an answer

-- each line is what is wanted, as far as there are both
abbrev pub pair_is_met : Answer × Answer → Bool
pair_is_met pair = is_met pair.0.text.now pair.1.text.now

abbrev pub are_alike : List Answer → List Answer → Bool
are_alike wanted given = list_all pair_is_met (zip wanted given)

-- `ok ..` alone is wanted, and something is given
abbrev pub takes_more : List Answer → List Answer → Bool
takes_more (wanted ∷ []) (given ∷ more) = wants_any_ok wanted.text.now
takes_more wanted given = false

-- the answer is what is wanted: line by line, with no further ones, unless `ok ..` takes them
abbrev pub are_met : List Answer → List Answer → Bool
are_met wanted given =
    are_alike wanted given && (length wanted == length given || takes_more wanted given)

-- The lines of a script

-- a line that is answered, or has a wanted answer
pub record Line : Type 0 where
  pub number : ℕ
  pub wanted : List Answer
  pub given : List Answer

abbrev pub line_of : Difference → Line
line_of difference = record {
  number = difference.number;
  wanted = difference.wanted.now;
  given = difference.given.now;
}

-- the number of the first line of wanted and given answers
abbrev pub first_number : List Answer → List Answer → Option ℕ
first_number [] [] = None
first_number (wanted ∷ more) [] = Some wanted.number
first_number [] (given ∷ more) = Some given.number
first_number (wanted ∷ more_wanted) (given ∷ more_given) =
    Some (if nat_le wanted.number given.number then wanted.number else given.number)

abbrev pub is_of : ℕ → Answer → Bool
is_of number answer = answer.number == number

-- how many of the first answers are of the line of this number; these, and the others
abbrev pub count_of_line : ℕ → List Answer → ℕ
count_of_line number answers = prefix_len (is_of number) answers

abbrev pub of_line : ℕ → List Answer → List Answer
of_line number answers = take (count_of_line number answers) answers

abbrev pub after_line : ℕ → List Answer → List Answer
after_line number answers = drop (count_of_line number answers) answers

-- the lines of wanted and given answers, of which there are no more than this many
abbrev pub lines_within : ℕ → List Answer → List Answer → List Line
lines_within zero wanted given = []
lines_within (suc most) wanted given =
    option_map_or (λ number.
    record { number = number; wanted = of_line number wanted; given = of_line number given }
    ∷ lines_within most (after_line number wanted) (after_line number given))
    (first_number wanted given) []

-- each line has an answer, so there are no more lines than answers
abbrev pub lines_of : List Answer → List Answer → List Line
lines_of wanted given = lines_within (length wanted + length given) wanted given

-- those that are answered otherwise than is wanted
abbrev pub differs : Line → Bool
differs line = not (are_met line.wanted line.given)

abbrev pub differing : List Answer → List Answer → List Line
differing wanted given = filter differs (lines_of wanted given)

-- none is left out: the lines have all wanted and all given answers, in their order
abbrev pub HaveAllWanted : Type 0
HaveAllWanted =
    (wanted given : List Answer) → flat_map (λ line. line.wanted) (lines_of wanted given) ≡ wanted

abbrev pub HaveAllGiven : Type 0
HaveAllGiven =
    (wanted given : List Answer) → flat_map (λ line. line.given) (lines_of wanted given) ≡ given

-- the first line of wanted and given answers, and what follows it
pub record IsSplit (wanted given : List Answer) (line : Line) (more_wanted more_given : List Answer) : Type 0 where
  pub number : first_number wanted given ≡ Some line.number
  pub of_wanted : line.wanted ≡ of_line line.number wanted
  pub of_given : line.given ≡ of_line line.number given
  pub after_wanted : more_wanted ≡ after_line line.number wanted
  pub after_given : more_given ≡ after_line line.number given
