-- What calls answer, in the policy's words, free of capacities.
use Rattle.std.specs.Prelude.{map, option_map, Result, Ok, Err, ℕ}
use Rattle.vt_spec.specs.Language.Answers as spec
use Rattle.vt_spec.specs.declared.errors.Deny.{Deny}
use Rattle.vt_cred.specs.MountFlags.{flags_of}
use Rattle.vt_request.specs.declared.answer.MountLine.{MountLine}
use Rattle.vt_request.specs.declared.answer.MountPlace.{MountPlace}
use Rattle.vt_request.specs.declared.answer.PeerLine.{PeerLine}
use Rattle.vt_request.specs.declared.answer.Spot.{Spot}
use Rattle.vt_request.specs.declared.answer.Spot.TheVariants.{Gone, Reached}
use Rattle.vt_request.specs.declared.answer.StatLine.{StatLine}
use Rattle.vt_request.specs.declared.answer.TypeLine.{TypeLine}
use Rattle.vt_request.specs.declared.answer.TypeLine.TheVariants.{Private, Shared, Slave, Unbindable}
use Rattle.vt_request.specs.declared.answer.Answer.{Answer}
use Rattle.vt_request.specs.declared.answer.Answer.TheVariants.{Done, Bytes, Names, Told, Opened, Child, MountList, PeerList, YesNo}

-- what is told of an object
abbrev pub stat_line_of : StatLine → spec.StatLine
stat_line_of line = record { kind = line.kind; attr = line.attr; size = line.size; opaque = line.opaque }

-- where a mount stands or begins
abbrev pub spot_of : Spot → spec.Spot
spot_of Gone = spec.Spot.Gone
spot_of (Reached path) = spec.Spot.Reached (map (λ name. name.items) path.items)

abbrev pub type_line_of : TypeLine → spec.TypeLine
type_line_of (Shared group master) = spec.TypeLine.SharedLine group master
type_line_of (Slave master) = spec.TypeLine.SlaveLine master
type_line_of Private = spec.TypeLine.PrivateLine
type_line_of Unbindable = spec.TypeLine.UnbindableLine

-- a line of the list of mounts
abbrev pub mount_line_of : MountLine → spec.MountLine
mount_line_of line = record {
  mount_point = option_map (λ point. (point.0, spot_of point.1)) line.mount_point;
  overlay = line.overlay;
  filesystem = line.filesystem;
  root = spot_of line.root;
  flags = flags_of line.flags;
  kind = type_line_of line.kind;
}

-- a mount by its namespace and its place
abbrev pub mount_place_of : MountPlace → ℕ × ℕ
mount_place_of at = (at.namespace, at.place)

-- a line of the list of peer groups
abbrev pub peer_line_of : PeerLine → spec.PeerLine
peer_line_of line = record {
  group = line.group;
  master = line.master;
  peers = map mount_place_of line.members.items;
  slaves = map mount_place_of line.slaves.items;
}

-- an answer, in the policy's words
abbrev pub answer_of : Answer → spec.Answer
answer_of Done = spec.Answer.Done
answer_of (Bytes bytes) = spec.Answer.Bytes bytes.items
answer_of (Names names) = spec.Answer.Names (map (λ name. name.items) names.items)
answer_of (Told line) = spec.Answer.Told (stat_line_of line)
answer_of (Opened descriptor) = spec.Answer.Opened descriptor
answer_of (Child name) = spec.Answer.Child name
answer_of (MountList lines) = spec.Answer.MountList (map mount_line_of lines.items)
answer_of (PeerList lines) = spec.Answer.PeerList (map peer_line_of lines.items)
answer_of (YesNo yes_or_no) = spec.Answer.YesNo yes_or_no

-- how a call or a directive ended, in the policy's words
abbrev pub result_of : Result Answer Deny → Result spec.Answer Deny
result_of (Ok answer) = Ok (answer_of answer)
result_of (Err deny) = Err deny
