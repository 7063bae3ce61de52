-- A world keeps to its numbers and to those that a permit takes.
use Rattle.std.proofs.Common.{◌≡◌, ◌∙◌, true≢false, ℕ, ◌≤◌, lt-ltb, ltb-true, true, arith}
use Rattle.vt_spec.proofs.Common.{common_steps}
use Rattle.vt_laws_worlds.proofs.permits.named.NamedPermits.{permit_left}
use Rattle.vt_laws_worlds.proofs.permits.named.PermitsKeepTo.{left_renamed}
use Rattle.vt_laws_worlds.proofs.permits.taken.TakenFirst.{only_the_first_are_taken}
use Rattle.vt_laws_worlds.specs.Permits.Taken.{CountsGoOn, PermitsKeepToTaken}
use Rattle.vt_laws_trees.specs.Runs.Handed.{is_counted_before}

pub permits_keep_to_taken : PermitsKeepToTaken
permits_keep_to_taken before later world task permit fresh more whole plain ungrouped called keeps is taken renaming
    leaves = left_renamed renaming fresh world task permit called
    (keeps renaming (λ number named. leaves number (more number named)))
    (permit_left before renaming (λ number named. leaves number (more number named)) permit is)
    ∙ only_the_first_are_taken before world task permit
    (λ k. renaming.there (fresh k)) fresh whole plain ungrouped called is (λ k low. leaves (fresh k) (taken k low))

-- what is counted before a count is counted before a later one
pub counted_later : (next later number : ℕ) → next ≤ later → is_counted_before next number ≡ true
    → is_counted_before later number ≡ true
counted_later next later number low = grind (arith, common_steps, ltb-true, lt-ltb, true≢false)

pub counts_go_on : CountsGoOn
counts_go_on next later world task permit fresh low whole plain ungrouped called keeps is taken =
    permits_keep_to_taken (is_counted_before next) (is_counted_before later) world task permit fresh
    (λ number named. counted_later next later number low named) whole plain ungrouped called keeps is taken
