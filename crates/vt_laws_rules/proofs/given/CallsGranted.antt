-- What a granted call leaves: what its permit leaves.
use Rattle.std.proofs.Common.{arith, nat_eq, true≢false, Ok, ℕ, ◌≡◌}
use Rattle.vt_spec.proofs.Common.{Answer, Call, Fresh, Permit, Task, World, apply, call_outcome, common_steps, looks_of, overfills}
use Rattle.vt_laws_rules.proofs.given.Ways.{calls_are_granted}
use Rattle.vt_laws_rules.proofs.given.Ways.{IsGranted}

-- what holds of a world, and of what each permit leaves by which a call may be granted, holds after the call
pub call_holds : (P : World ℕ → Type 0) (fresh : Fresh ℕ) (world : World ℕ) (task : Task ℕ) (call : Call) → P world
    → ((permit : Permit ℕ)
    → IsGranted nat_eq (looks_of nat_eq world) (overfills nat_eq fresh world task) task call permit
    → P (apply nat_eq fresh world task permit).world) → P (call_outcome nat_eq fresh world task call).world
call_holds P fresh world task call p h = grind (arith, common_steps, calls_are_granted)

-- and what holds of that alone holds after a call that is granted
pub answered_holds : (P : World ℕ → Type 0) (fresh : Fresh ℕ) (world : World ℕ) (task : Task ℕ) (call : Call)
    (answer : Answer) → (call_outcome nat_eq fresh world task call).answer ≡ Ok answer → ((permit : Permit ℕ)
    → IsGranted nat_eq (looks_of nat_eq world) (overfills nat_eq fresh world task) task call permit
    → P (apply nat_eq fresh world task permit).world) → P (call_outcome nat_eq fresh world task call).world
answered_holds P fresh world task call answer granted h = grind (arith, common_steps, calls_are_granted, true≢false)
