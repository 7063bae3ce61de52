use Rattle.std.proofs.Common.{◌≡◌, ◌≤◌, drop}
use Rattle.vt_spec.proofs.Common.{value_from}
use Rattle.vt_spec.specs.Language.Script.{digits_below}
use Rattle.vt_line.proofs.number.number.Given as goal

abbrev pub invariant-loop-byte : goal.invariant-loop-byte
invariant-loop-byte l = record {
  small : l.value ≤ l.limit;
  digits : digits_below l.base (drop l.byte-index l.text) ≡ digits_below l.base l.text;
  value : value_from l.base l.value (drop l.byte-index l.text) ≡ value_from l.base 0 l.text;
}
