use Rattle.std.proofs.Common.{◌≡◌, ◌≤◌}
use Rattle.vt_node.proofs.RankLemmas.{before, counted_to}
use Rattle.vt_node.proofs.entries.DirectoryEntries.rank_of.Given as goal

-- the smaller names so far
abbrev pub invariant-loop-place : goal.invariant-loop-place
invariant-loop-place l = record {
  counted : l.rank ≡ counted_to (before l.id l.name) l.place l.names l.numbers;
  few : l.rank ≤ l.place;
}
