use Rattle.std.proofs.Common.{◌≡◌, ◌++◌, flat_map, take}
use Rattle.vt_written.specs.Json.{json_byte}
use Rattle.vt_written.proofs.json.push_text.Given as goal

abbrev pub invariant-loop-byte : goal.invariant-loop-byte
invariant-loop-byte l = l.text.items ≡ l.initial.text.items ++ flat_map json_byte (take l.byte-index l.bytes)
