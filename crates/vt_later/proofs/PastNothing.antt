-- Where no rule is let pass, a call is judged as ever; and what the mounter of an overlay is asked.
use Rattle.std.proofs.Common.{◌≡◌, ℕ, Bool, [], ◌∷◌, Option, None, Some, Result, Ok, Err, ap, cond, nat_eq, ok_or, refl}
use Rattle.vt_spec.proofs.Common.{Call, Judgement, Location, Looks, Permit, Rules, Task, World, and-false, and_then, by_option, denial, descriptor_at, judging, layers_walked, run, unless, walk_end}
use Rattle.vt_spec.specs.declared.errors.Deny.{Deny}
use Rattle.vt_spec.specs.declared.errors.Rule.TheVariants.{S2}
use Rattle.vt_spec.specs.Language.Changes.{Change}
use Rattle.vt_spec.specs.Machine.Filesystems.{mounter_rules, overlay_rules}
use Rattle.vt_spec.specs.Machine.Judging.{Judging, walk_to, walk_to_name}
use Rattle.vt_spec.specs.Machine.Judging.Judging.{Attaches, Checks, FindsFile, FindsTask, Grants, IfSo, IfThere, Layers, Names, Needs, Refuses, Walks, Words}
use Rattle.vt_spec.specs.Machine.Locked.{overlay_or}
use Rattle.vt_spec.specs.Machine.World.{Filesystem, Overlay, filesystem_at}
use Rattle.vt_later.specs.Passing.{StayAsked, can_pass, lets_pass, past, row_unless, without}

-- no row is left out
all_rows : (rules : Rules) → without (lets_pass []) rules ≡ rules
all_rows [] = refl
all_rows ((fails, rule) ∷ rows) = λ i. row_unless (and-false (can_pass rule) i) (fails, rule) (all_rows rows i)

step_same : {A : Type 0} (step : Result A Deny) (next other : A → Judgement ℕ) → ((a : A) → next a ≡ other a)
    → and_then step next ≡ and_then step other
step_same (Ok a) next other e = e a
step_same (Err deny) next other e = refl

option_same : (object : Option (Location ℕ)) (there other : Location ℕ → Judgement ℕ) (missing none : Judgement ℕ)
    → ((at : Location ℕ) → there at ≡ other at) → missing ≡ none
    → by_option there missing object ≡ by_option other none object
option_same (Some at) there other missing none e f = e at
option_same None there other missing none e f = f

module _ (looks : Looks ℕ) (task : Task ℕ) (overfills : Permit ℕ → Bool) where
  abbrev judged : Judging ℕ → Judgement ℕ
  judged asked = run nat_eq looks task overfills asked

  abbrev left : Judging ℕ → Judgement ℕ
  left asked = judged (past (lets_pass []) asked)

  pub as_ever : (asked : Judging ℕ) → left asked ≡ judged asked
  as_ever (Grants permit) = refl
  as_ever (Checks rules permit) = ap (λ rows. unless rows (Ok permit)) (all_rows rules)
  as_ever (Attaches rules permit) = ap (λ rows. unless rows (Ok permit)) (all_rows (rules (overfills permit)))
  as_ever (Refuses rule) = refl
  as_ever (Needs rules next) = λ i. unless (all_rows rules i) (as_ever next i)
  as_ever (FindsFile number fits next) = step_same (descriptor_at task number fits)
      (λ descriptor. left (next descriptor)) (λ descriptor. judged (next descriptor))
      (λ descriptor. as_ever (next descriptor))
  as_ever (FindsTask name next) = step_same (ok_or (looks.namespace_called name) (denial S2))
      (λ namespace. left (next namespace)) (λ namespace. judged (next namespace))
      (λ namespace. as_ever (next namespace))
  as_ever (Walks aim path next) = step_same (walk_end (walk_to nat_eq looks task aim path))
      (λ here. left (next here)) (λ here. judged (next here)) (λ here. as_ever (next here))
  as_ever (Names aim path next) = step_same (walk_end (walk_to_name nat_eq looks task aim path))
      (λ place. left (next place)) (λ place. judged (next place)) (λ place. as_ever (next place))
  as_ever (Layers words next) = step_same (layers_walked nat_eq looks task words)
      (λ layers. left (next layers)) (λ layers. judged (next layers)) (λ layers. as_ever (next layers))
  as_ever (Words rules next) = λ i. unless (all_rows rules i) (as_ever next i)
  as_ever (IfThere object there missing) = option_same object (λ file. left (there file))
      (λ file. judged (there file)) (left missing) (judged missing) (λ file. as_ever (there file)) (as_ever missing)
  as_ever (IfSo test so otherwise) = λ i. cond test (as_ever so i) (as_ever otherwise i)

pub nothing_let_pass : (looks : Looks ℕ) (overfills : Permit ℕ → Bool) (task : Task ℕ) (call : Call)
    → left looks task overfills (judging nat_eq looks task call) ≡ judged looks task overfills (judging nat_eq looks task call)
nothing_let_pass looks overfills task call = as_ever looks task overfills (judging nat_eq looks task call)

asked_of : (filesystem : Filesystem ℕ) (change : Change ℕ) (overlay : Option (Overlay ℕ))
    → StayAsked (overlay_or [] (overlay_rules nat_eq filesystem change) overlay)
asked_of filesystem change None = tt
asked_of filesystem change (Some overlay) = (refl, (refl, (refl, tt)))

pub worlds_ask_mounters : (world : World ℕ) (at : Location ℕ) (change : Change ℕ)
    → StayAsked (mounter_rules nat_eq world at change)
worlds_ask_mounters world at change =
    asked_of (filesystem_at nat_eq world at) change (filesystem_at nat_eq world at).overlay
