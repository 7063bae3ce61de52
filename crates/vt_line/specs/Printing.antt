-- What is printed, piece by piece.
use Rattle.std.specs.Prelude.{if◌then◌else◌, ℕ, List, [], ◌∷◌, ◌++◌, Result, Ok, Err, codes, decimal, map}
use Rattle.std.specs.List.{flat_map}
use Rattle.std.specs.Global.{Vec}
use Rattle.vt_spec.specs.Errors.{errno_name, number_of, rule_name}
use Rattle.vt_spec.specs.declared.attributes.Kind.{Kind}
use Rattle.vt_spec.specs.declared.attributes.Kind.TheVariants.{Dir, File, Symlink, White}
use Rattle.vt_spec.specs.declared.errors.Deny.{Deny}
use Rattle.vt_spec.specs.Language.Answers as spec
use Rattle.vt_spec.specs.Language.Answers.{Answer, StatLine}
use Rattle.vt_spec.specs.Language.Printed.{kind_word, mount_line_words, printed_byte, peer_line_words, printed_flags, printed_line, printed_member, printed_spot, printed_text, printed_type, printed_value}
use Rattle.vt_spec.specs.Lists.{counted_from}
use Rattle.vt_request.specs.Answers.{mount_line_of, mount_place_of, peer_line_of, spot_of}
use Rattle.vt_request.specs.declared.answer.MountLine.{MountLine}
use Rattle.vt_request.specs.declared.answer.MountPlace.{MountPlace}
use Rattle.vt_request.specs.declared.answer.PeerLine.{PeerLine}
use Rattle.vt_request.specs.declared.answer.Spot.{Spot}

-- names, behind a space each
abbrev pub printed_names : List (Vec ℕ) → List ℕ
printed_names names = flat_map (λ name. 32 ∷ printed_text name.items) names

-- what an object is called
abbrev pub kind_text : Kind → List ℕ
kind_text Dir = codes "dir"
kind_text File = codes "file"
kind_text Symlink = codes "link"
kind_text White = codes "white"

-- what is told of an object beside its owner
abbrev pub further_words : Kind → StatLine → List (List ℕ)
further_words Dir line = if line.opaque then codes "opaque" ∷ [] else []
further_words File line = decimal line.size ∷ []
further_words Symlink line = decimal line.size ∷ []
further_words White line = []

-- the numbers of a task's name, behind a point each
abbrev pub printed_numbers : List ℕ → List ℕ
printed_numbers numbers = flat_map (λ number. 46 ∷ decimal number) numbers

-- the words of a reply's first line
abbrev pub reply_words : Result Answer Deny → List (List ℕ)
reply_words (Ok answer) = codes "ok" ∷ printed_value answer
reply_words (Err deny) = codes "deny" ∷ decimal (number_of deny.errno) ∷ errno_name deny.errno ∷ rule_name deny.rule ∷ []

-- the names of a path, behind a slash each
abbrev pub printed_steps : List (Vec ℕ) → List ℕ
printed_steps names = flat_map (λ name. 47 ∷ flat_map printed_byte name.items) names

-- where a mount stands, by the place of the mount that it stands on
abbrev pub mount_point_of : ℕ × Spot → ℕ × spec.Spot
mount_point_of point = (point.0, spot_of point.1)

-- the words of a mount's line behind its mount point
abbrev pub shown_words : spec.MountLine → List (List ℕ)
shown_words line =
    (kind_word line.overlay ++ decimal line.filesystem) ∷ printed_spot line.root ∷ printed_flags line.flags
    ∷ printed_type line.kind ∷ []

-- the lines of a list of mounts
abbrev pub printed_mounts : ℕ → List MountLine → List ℕ
printed_mounts number lines = flat_map (printed_line number)
    (map mount_line_words (counted_from 1 (map mount_line_of lines)))

-- the members of a peer group behind the first, behind a comma each
abbrev pub printed_further_members : List MountPlace → List ℕ
printed_further_members others = flat_map (λ other. 44 ∷ printed_member (mount_place_of other)) others

-- the lines of a list of peer groups
abbrev pub printed_peers : ℕ → List PeerLine → List ℕ
printed_peers number lines = flat_map (λ line. printed_line number (peer_line_words (peer_line_of line))) lines
