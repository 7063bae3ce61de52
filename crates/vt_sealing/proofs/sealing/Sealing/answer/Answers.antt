use Rattle.std.proofs.Common.{◌≡◌, ℕ, List, true≢false, refl, sym, ap, ◌∙◌}
use Rattle.vt_spec.proofs.Common.{Task, TaskName, World, list_any}
use Rattle.vt_spec.specs.Machine.Sealed.{no_such_task}
use Rattle.vt_sealing.specs.Seen.{IsShown, world_seen}
use Rattle.vt_sealing.specs.declared.sealing.Sealing.{Sealing}
use Rattle.vt_sealing.proofs.sealing.Sealing.answer.Goals as goal

-- the same tasks are missing in each world that is shown
missing_alike : (world : World ℕ) (sealing : Sealing) → IsShown world sealing
    → list_any (no_such_task (world_seen sealing)) sealing.names.now
    ≡ list_any (no_such_task world) sealing.names.now
missing_alike world sealing shows =
    ap (λ (tasks : List (Task ℕ)). list_any (no_such_task (record world { tasks = tasks })) sealing.names.now) shows.tasks

pub returns-then-lacks_a_member-clause-there : goal.returns-then-lacks_a_member-clause-there
returns-then-lacks_a_member-clause-there c = λ world shows.
    let lacks = sym (missing_alike world c.args.self.now shows) ∙ sym c.lacks_a_member.ensures
    ∙ c.if-lacks_a_member.true in
    (λ done. absurd (true≢false (sym done)), λ there. absurd (true≢false (sym lacks ∙ there)))

pub returns-clause-there : goal.returns-clause-there
returns-clause-there c = λ world shows.
    let there = sym (missing_alike world c.args.self.now shows) ∙ sym c.lacks_a_member.ensures
    ∙ c.if-lacks_a_member.false in
    (λ done. there, λ none. refl)
