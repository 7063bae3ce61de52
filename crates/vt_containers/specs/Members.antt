-- How a call of a task of a sealed set ends (profile).
use Rattle.std.specs.Prelude.{Err, List, Result, nat_eq, ℕ, ◌≡◌, ◌⊎◌}
use Rattle.vt_spec.specs.declared.errors.Deny.{Deny}
use Rattle.vt_spec.specs.declared.errors.Rule.TheVariants.{S5}
use Rattle.vt_spec.specs.Errors.{denial}
use Rattle.vt_spec.specs.Language.Calls.{Call, TaskName}
use Rattle.vt_spec.specs.Lists.{Fresh}
use Rattle.vt_spec.specs.Machine.Policy.{policy}
use Rattle.vt_spec.specs.Machine.Run.{Serves}
use Rattle.vt_spec.specs.Machine.Sealed.{part_of}
use Rattle.vt_spec.specs.Machine.World.{World}
use Rattle.vt_laws_members.specs.Changes.Changes.{IsCallOfTheirs, grown}
use Rattle.vt_laws_containers.specs.SameSets.Members.{EndsTheSame}
use Rattle.vt_request.specs.declared.answer.Answer.{Answer}
use Rattle.vt_request.specs.Answers.{result_of}
use Rattle.vt_answers.specs.Ends.{Ends}

-- the answer is the policy's in the part of the set, by numbers that are not in use, and of the set that the call leaves
-- the part is the same as there
abbrev pub EndsAsInTheirPart : World ℕ → World ℕ → List TaskName → TaskName → Call → Result Answer Deny → Type 0
EndsAsInTheirPart world later names name call result =
    (fresh : Fresh ℕ) × Serves nat_eq world fresh
    × EndsTheSame (grown names name call (result_of result)) (result_of result) later
    (policy nat_eq fresh (part_of nat_eq world names) name call)

-- So each call of theirs ends, or it is refused memory and changes nothing.
abbrev pub MembersEndAsInTheirPart : {W : Type 0} → (W → World ℕ) → Type 0
MembersEndAsInTheirPart {W} seen =
    (old new : W) (names : List TaskName) (name : TaskName) (call : Call) (result : Result Answer Deny)
    → IsCallOfTheirs (seen old) names name call → Ends seen old name call result new
    → EndsAsInTheirPart (seen old) (seen new) names name call result ⊎ ((result ≡ Err (denial S5)) × (new ≡ old))
