use Rattle.std.proofs.Common.{◌≡◌}
use Rattle.vt_node.specs.Ranks.{has_rank}
use Rattle.vt_node.proofs.RankLemmas.{found_from}
use Rattle.vt_node.proofs.entries.DirectoryEntries.name_ranked.Given as goal

-- none of the entries so far is it
abbrev pub invariant-loop-place : goal.invariant-loop-place
invariant-loop-place l = found_from (has_rank l.self l.id l.rank) 0 l.names l.numbers
    ≡ found_from (has_rank l.self l.id l.rank) l.place l.names l.numbers
