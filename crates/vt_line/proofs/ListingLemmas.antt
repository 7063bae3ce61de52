-- The lines of a list of mounts, one after another.
use Rattle.std.proofs.Common.{◌≡◌, ◌<◌, ◌+◌, ℕ, List, [], ◌∷◌, ◌++◌, append_assoc, codes, decimal, drop, get_or, length, map, refl, sym, ap, ◌∙◌, arith, flat_map}
use Rattle.vt_spec.proofs.Common.{counted_from, drop_more, mount_point_words, printed_byte, printed_line, spaced}
use Rattle.std.proofs.lemmas.List.Concat.{flat_map-append}
use Rattle.std.specs.Global.{Vec}
use Rattle.vt_spec.specs.Language.Printed.{mount_line_words, printed_path}
use Rattle.vt_request.specs.Answers.{mount_line_of}
use Rattle.vt_request.specs.declared.answer.MountLine.{MountLine}
use Rattle.vt_spec.specs.Language.Answers.{MountLine as Line}
use Rattle.vt_line.specs.Printing.{printed_steps, shown_words}

-- the line of one mount, and of those from a place on
abbrev pub printed_mount : ℕ → ℕ → MountLine → List ℕ
printed_mount number place line = printed_line number (mount_line_words (place, mount_line_of line))

abbrev pub printed_from : ℕ → ℕ → List MountLine → List ℕ
printed_from number place lines =
    flat_map (printed_line number) (map mount_line_words (counted_from place (map mount_line_of lines)))

pub printed_from-more : (number place : ℕ) (lines : List MountLine) (n : ℕ) (d : MountLine) → n < length lines →
    printed_from number place (drop n lines) ≡ printed_mount number place (get_or lines n d)
    ++ printed_from number (place + 1) (drop (n + 1) lines)
printed_from-more number place lines n d within = ap (printed_from number place) (drop_more lines n d within)

-- the names of a path
steps : (names : List (Vec ℕ)) →
    flat_map (λ word. 47 ∷ flat_map printed_byte word) (map (λ name. name.items) names) ≡ printed_steps names
steps [] = refl
steps (name ∷ names) = ap (λ rest. (47 ∷ flat_map printed_byte name.items) ++ rest) (steps names)

pub printed_path-steps : (names : List (Vec ℕ)) → 0 < length names
    → printed_path (map (λ name. name.items) names) ≡ printed_steps names
printed_path-steps [] some = absurd (omega arith)
printed_path-steps (name ∷ names) some = steps (name ∷ names)

-- the line of a mount, piece by piece
pub mount_text : (digits : List ℕ) (number place : ℕ) (line : Line) → digits ≡ decimal number →
    printed_line number (mount_line_words (place, line))
    ≡ digits ++ ((32 ∷ decimal place) ++ (spaced (mount_point_words line.mount_point)
    ++ (spaced (shown_words line) ++ codes "\n")))
mount_text digits number place line e =
    let first : List ℕ = 32 ∷ decimal place in
    let point = spaced (mount_point_words line.mount_point) in
    let shown = spaced (shown_words line) in
    ap (λ digits. (digits ++ (first ++ spaced (mount_point_words line.mount_point ++ shown_words line)))
    ++ codes "\n") (sym e)
    ∙ append_assoc digits (first ++ spaced (mount_point_words line.mount_point ++ shown_words line)) (codes "\n")
    ∙ ap (λ words. digits ++ ((first ++ words) ++ codes "\n")) (flat_map-append (λ word. 32
    ∷ word) (mount_point_words line.mount_point) (shown_words line))
    ∙ ap (λ rest. digits ++ rest) (append_assoc first (point ++ shown) (codes "\n"))
    ∙ ap (λ rest. digits ++ (first ++ rest)) (append_assoc point shown (codes "\n"))
