use Rattle.std.proofs.Common.{◌≡◌, length, drop}
use Rattle.vt_spec.proofs.Common.{capability_named, each_of, parts}
use Rattle.vt_cred.specs.Caps.{capability_bits}
use Rattle.vt_line.proofs.WordLemmas.{united}
use Rattle.vt_line.proofs.words.capabilities_word.Given as goal

abbrev pub invariant-loop-name : goal.invariant-loop-name
invariant-loop-name l = record {
  can_next : (goal.iterator-loop-name).can_next l.name-iterator;
  is_finite : (goal.iterator-loop-name).is_finite l.name-iterator;
  read : united (capability_bits l.caps) (each_of capability_named (drop (length l.yielded) (parts 44 l.fn.text)))
      ≡ united 0 (each_of capability_named (parts 44 l.fn.text));
}
