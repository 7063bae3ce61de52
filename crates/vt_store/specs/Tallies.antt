-- How often keys were counted.
use Rattle.std.specs.Prelude.{Bool, unwrap_or, ℕ}
use Rattle.std.specs.Map.{lookup}
use Rattle.indexmap.specs.IndexMap.{spare}
use Rattle.vt_store.specs.declared.tally.Tally.{Tally}

-- how often a key was counted
abbrev pub times : {K : Type 0} → (K → K → Bool) → K → Tally K → ℕ
times eq key tally = unwrap_or (lookup (eq key) tally.counts.entries) 0

-- how many keys more can be counted without an allocation
abbrev pub room : {K : Type 0} → Tally K → ℕ
room tally = spare tally.counts
