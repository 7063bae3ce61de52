-- The list of peer groups as its lines, and the members of a group one behind the other.
use Rattle.std.proofs.Common.{◌≡◌, refl, ap, ℕ, List, [], ◌∷◌, ◌++◌, map, flat_map}
use Rattle.vt_spec.proofs.Common.{peer_line_words, printed_line, printed_member}
use Rattle.vt_request.specs.Answers.{mount_place_of, peer_line_of}
use Rattle.vt_request.specs.declared.answer.MountPlace.{MountPlace}
use Rattle.vt_request.specs.declared.answer.PeerLine.{PeerLine}
use Rattle.vt_line.specs.Printing.{printed_further_members, printed_peers}

pub further_members : (others : List MountPlace)
    → flat_map (λ other. 44 ∷ printed_member other) (map mount_place_of others) ≡ printed_further_members others
further_members [] = refl
further_members (other ∷ others) =
    ap (λ rest. (44 ∷ printed_member (mount_place_of other)) ++ rest) (further_members others)

pub peer_rows : (number : ℕ) (lines : List PeerLine)
    → flat_map (printed_line number) (map peer_line_words (map peer_line_of lines)) ≡ printed_peers number lines
peer_rows number [] = refl
peer_rows number (line ∷ lines) =
    ap (λ rest. printed_line number (peer_line_words (peer_line_of line)) ++ rest) (peer_rows number lines)
