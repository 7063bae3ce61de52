-- How walks of code that follow one another end.
use Rattle.std.proofs.Common.{◌≡◌, List, Ok, Err, Result, sym, ap, subst, ℕ}
use Rattle.vt_spec.proofs.Common.{Rules, Stop, stopped_by, then_walk, unless, walk_unless}
use Rattle.vt_spec.specs.declared.errors.Deny.{Deny}
use Rattle.vt_steps.specs.declared.here.Halt.{Halt}
use Rattle.vt_steps.specs.declared.here.Halt.TheVariants.{NoMemory, Refused}
use Rattle.vt_steps.specs.StepsValue.{EndsBy, steps_of}
use Rattle.vt_location.specs.declared.numbers.FilesystemId.{FilesystemId}
use Rattle.std.specs.Global.{Vec}

-- what comes after a walk that halts
pub ends-halted : {A B C D : Type 0} (one : A → B) (other : C → D) (end : Result B (Stop ℕ))
    (next : B → Result D (Stop ℕ)) (halt : Halt) → EndsBy one end (Err halt)
    → EndsBy other (then_walk end next) (Err halt)
ends-halted one other end next (Refused stop) ended = ap (λ r. then_walk r next) ended
ends-halted one other end next (NoMemory fault) ended = tt

-- a walk that halts ends so, whatever is made of where it ends
pub ends-as-halted : {A B C : Type 0} (one : A → B) (other : C → B) (end : Result B (Stop ℕ)) (halt : Halt)
    → EndsBy one end (Err halt) → EndsBy other end (Err halt)
ends-as-halted one other end (Refused stop) ended = ended
ends-as-halted one other end (NoMemory fault) ended = tt

-- what comes after a walk that comes to its end
pub ends-then : {A B C : Type 0} (other : C → B) (end : Result A (Stop ℕ)) (next : A → Result B (Stop ℕ)) (a : A)
    (result : Result C Halt) → end ≡ Ok a → EndsBy other (next a) result → EndsBy other (then_walk end next) result
ends-then {A = A} other end next a result is ended =
    subst (λ (r : Result A (Stop ℕ)). EndsBy other (then_walk r next) result) (sym is) ended

pub ends-alike : {A B : Type 0} (meaning : A → B) (one other : Result B (Stop ℕ)) (result : Result A Halt)
    → one ≡ other → EndsBy meaning one result → EndsBy meaning other result
ends-alike {B = B} meaning one other result is ended =
    subst (λ (r : Result B (Stop ℕ)). EndsBy meaning r result) is ended

-- a refusal
pub ends-refused : {A B : Type 0} (meaning : A → B) (end : Result B (Stop ℕ)) (deny : Deny)
    (steps : Vec (Vec FilesystemId)) (result : Result A Halt)
    → result ≡ Err (Refused (record { deny = deny; steps = steps }))
    → end ≡ Err (record { deny = deny; steps = steps_of steps }) → EndsBy meaning end result
ends-refused {A = A} meaning end deny steps result is ended =
    subst (λ (r : Result A Halt). EndsBy meaning end r) (sym is) ended

-- rules that refuse a walk
pub walk_unless-refused : {A : Type 0} (rules : Rules) (a : A) (steps : List (List ℕ)) (deny : Deny)
    → unless rules (Ok a) ≡ Err deny → walk_unless steps rules a ≡ Err (record { deny = deny; steps = steps })
walk_unless-refused rules a steps deny e = ap (stopped_by steps) e
