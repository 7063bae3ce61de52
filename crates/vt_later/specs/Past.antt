-- What code answers of a call where rules are let pass: nothing, or the refusal by the first rule that is left.
use Rattle.std.specs.Prelude.{Bool, Err, List, Ok, Result, cond, false, nat_eq, ok_or, ℕ, ◌≡◌, ◌⊎◌}
use Rattle.vt_spec.specs.declared.errors.Deny.{Deny}
use Rattle.vt_spec.specs.declared.errors.Rule.{Rule}
use Rattle.vt_spec.specs.declared.errors.Rule.TheVariants.{S2, S5}
use Rattle.vt_spec.specs.Errors.{Rules, and_then, denial, unless}
use Rattle.vt_spec.specs.Language.Calls.{Call}
use Rattle.vt_spec.specs.Machine.Judging.{Judging, by_option, judging, walk_to, walk_to_name}
use Rattle.vt_spec.specs.Machine.Judging.Judging.{Attaches, Checks, FindsFile, FindsTask, Grants, IfSo, IfThere, Layers, Names, Needs, Refuses, Walks, Words}
use Rattle.vt_spec.specs.Machine.Looks.{Looks}
use Rattle.vt_spec.specs.Machine.Permits.{Permit}
use Rattle.vt_spec.specs.Machine.Rules.Descriptors.{descriptor_at}
use Rattle.vt_spec.specs.Machine.Rules.Mounting.{layers_walked}
use Rattle.vt_spec.specs.Machine.Walking.{Here, Place, walk_end}
use Rattle.vt_spec.specs.Machine.World.{Task}
use Rattle.vt_location.specs.declared.locations.Location.{Location}
use Rattle.vt_location.specs.Locations.{location_of}
use Rattle.vt_looks.specs.declared.places.Place.{Place as PlaceFound}
use Rattle.vt_walk.specs.WalkValue.{place_of, without_steps}
use Rattle.vt_later.specs.Passing.{lets_pass, without}

-- a walk ends at a location
abbrev pub EndsAt : Result (Here ℕ) Deny → Location → Type 0
EndsAt end at = (here : Here ℕ) × (end ≡ Ok here) × (here.location ≡ location_of at)

-- or at a place
abbrev pub EndsAtPlace : Result (Place ℕ) Deny → PlaceFound → Type 0
EndsAtPlace end place = (seen : Place ℕ) × (end ≡ Ok seen) × (without_steps seen ≡ place_of place)

-- nothing, or a refusal
abbrev pub Refusal : Type 0
Refusal = Result (Unit {0}) Deny

-- a table without the rows of rules that are let pass
abbrev pub table_past : List Rule → Rules → Refusal
table_past passed rules = unless (without (lets_pass passed) rules) (Ok tt)

module _ (looks : Looks ℕ) (task : Task ℕ) (passed : List Rule) (overfills : Permit ℕ → Bool) where
  -- the refusal by the first walk or rule that fails, of what is left
  abbrev pub refusal_past : Judging ℕ → Refusal
  refusal_past (Grants permit) = Ok tt
  refusal_past (Checks rules permit) = table_past passed rules
  refusal_past (Attaches rules permit) = table_past passed (rules (overfills permit))
  refusal_past (Refuses rule) = Err (denial rule)
  refusal_past (Needs rules next) = unless (without (lets_pass passed) rules) (refusal_past next)
  refusal_past (FindsFile number fits next) =
      and_then (descriptor_at task number fits) (λ descriptor. refusal_past (next descriptor))
  refusal_past (FindsTask name next) =
      and_then (ok_or (looks.namespace_called name) (denial S2)) (λ namespace. refusal_past (next namespace))
  refusal_past (Walks aim path next) =
      and_then (walk_end (walk_to nat_eq looks task aim path)) (λ here. refusal_past (next here))
  refusal_past (Names aim path next) =
      and_then (walk_end (walk_to_name nat_eq looks task aim path)) (λ place. refusal_past (next place))
  refusal_past (Layers words next) =
      and_then (layers_walked nat_eq looks task words) (λ layers. refusal_past (next layers))
  refusal_past (Words rules next) = unless (without (lets_pass passed) rules) (refusal_past next)
  refusal_past (IfThere object there missing) =
      by_option (λ file. refusal_past (there file)) (refusal_past missing) object
  refusal_past (IfSo test so otherwise) = cond test (refusal_past so) (refusal_past otherwise)

-- what is asked behind the rules on the script and on capabilities
abbrev pub behind_needs : Judging ℕ → Judging ℕ
behind_needs (Needs rules next) = next
behind_needs asked = asked

-- a call that attaches no mount
abbrev pub by_looks : Looks ℕ → Task ℕ → List Rule → Judging ℕ → Refusal
by_looks looks task passed asked = refusal_past looks task passed (λ permit. false) asked

abbrev pub call_past : Looks ℕ → Task ℕ → List Rule → Call → Refusal
call_past looks task passed call = by_looks looks task passed (judging nat_eq looks task call)

-- code refuses so, or for want of memory
abbrev pub RefusesAs : Refusal → Refusal → Type 0
RefusesAs past (Ok done) = past ≡ Ok tt
RefusesAs past (Err deny) = (past ≡ Err deny) ⊎ (deny ≡ denial S5)
