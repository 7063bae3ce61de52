-- The numbers that a world opens with, and the change number after a call.
use Rattle.std.specs.Prelude.{Ok, nat_eq, ℕ, ◌≡◌}
use Rattle.vt_spec.specs.Language.Answers.{Answer}
use Rattle.vt_spec.specs.Language.Calls.{Call, TaskName}
use Rattle.vt_spec.specs.Lists.{Fresh}
use Rattle.vt_spec.specs.Machine.Policy.{policy}
use Rattle.vt_spec.specs.Machine.World.{World, opening}
use Rattle.vt_laws_trees.specs.Runs.Handed.{may_be_given}
use Rattle.vt_laws_trees.specs.Runs.Runs.{OpensInHand}
use Rattle.vt_answers.specs.Ends.{change_after}

-- the definitions' opening world, of numbers that may be given
abbrev pub IsOpened : World ℕ → Type 0
IsOpened world = (fresh : Fresh ℕ) × OpensInHand may_be_given fresh × (world ≡ opening nat_eq fresh)

-- the policy leaves that change number, whatever numbers are handed in
abbrev pub RaisesTheChangeNumber : Type 0
RaisesTheChangeNumber =
    (fresh : Fresh ℕ) (world : World ℕ) (name : TaskName) (call : Call) (answer : Answer)
    → (policy nat_eq fresh world name call).answer ≡ Ok answer
    → (policy nat_eq fresh world name call).world.change ≡ change_after call world.change
