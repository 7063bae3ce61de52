use Rattle.std.proofs.Common.{rules, arith, ◌≡◌, ◌<◌, ◌++◌, ◌∙◌, ◌∷◌, [], ap, length, sym}
use Rattle.std.proofs.lemmas.List.{length-append}
use Rattle.indexmap.specs.IndexMap.{spare}
use Rattle.vt_node.specs.Listed.{listed}
use Rattle.vt_node.proofs.ListedLemmas.{listed-insert}
use Rattle.vt_node.proofs.Moved.{before_last, before_none, listed_before, where_ok}
use Rattle.vt_node.proofs.rooms.move_entries.Goals as goal

pub loop-entry-init : goal.loop-entry-init
loop-entry-init c = (
  ap (λ es. listed_before c.args.from.now.entries (listed es)) c.requires.empty ∙ before_none c.args.from.now.entries,
  omega arith,
)

-- the last entry moves
pub loop-entry-preserved : goal.loop-entry-preserved
loop-entry-preserved c =
    let to = c.loop-entry.to in
    let left = c.pop.new.self.entries in
    let popped : c.loop-entry.from.entries ≡ left ++ c.in-Some.entry ∷ [] = search rules in
    let more = ap length popped ∙ length-append left (c.in-Some.entry ∷ []) in
    let room : 0 < spare to = omega (arith, more, c.loop-entry.invariant.1, c.requires.room) in
    let updates = where_ok c.insert.result (c.insert.ensures.succeeds room) c.insert.ensures.updates in
    let placed = listed-insert to.entries c.insert.new.self.entries c.in-Some.entry.0.items c.in-Some.entry.1 updates.1
    updates.3 in (
      ap (listed_before left) placed ∙ sym (before_last left c.in-Some.entry (listed to.entries))
          ∙ ap (λ es. listed_before es (listed to.entries)) (sym popped) ∙ c.loop-entry.invariant.0,
      omega (arith, more, c.insert.ensures.spare, c.loop-entry.invariant.1),
    )
