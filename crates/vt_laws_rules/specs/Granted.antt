-- What is granted by what a call asks.
use Rattle.std.specs.Prelude.{Bool, None, Ok, Some, false, ok_or, true, ℕ, ◌≡◌, ◌⊎◌}
use Rattle.vt_spec.specs.declared.errors.Rule.TheVariants.{S2}
use Rattle.vt_spec.specs.Errors.{NoneFails, denial}
use Rattle.vt_spec.specs.Language.Calls.{Call}
use Rattle.vt_spec.specs.Machine.Judge.{judge}
use Rattle.vt_spec.specs.Machine.Judging.{Judging, judging, walk_to, walk_to_name}
use Rattle.vt_spec.specs.Machine.Judging.Judging.{Attaches, Checks, FindsFile, FindsTask, Grants, IfSo, IfThere, Layers, Names, Needs, Refuses, Walks, Words}
use Rattle.vt_spec.specs.Machine.Looks.{Looks}
use Rattle.vt_spec.specs.Machine.Mounts.{Location}
use Rattle.vt_spec.specs.Machine.Permits.{Permit}
use Rattle.vt_spec.specs.Machine.Rules.Descriptors.{descriptor_at}
use Rattle.vt_spec.specs.Machine.Rules.Mounting.{LayerLocations, layers_walked}
use Rattle.vt_spec.specs.Machine.Walking.{Here, Place}
use Rattle.vt_spec.specs.Machine.World.{Descriptor, Task}

module _ {N : Type 0} (eq : N → N → Bool) (looks : Looks N) (overfills : Permit N → Bool) (task : Task N) where
  -- a permit is granted: each walk ends somewhere, no rule fails, and the permit is that of the places where walks end
  abbrev pub IsGrantedBy : Judging N → Permit N → Type 0
  IsGrantedBy (Grants given) permit = given ≡ permit
  IsGrantedBy (Checks rules given) permit = NoneFails rules × (given ≡ permit)
  IsGrantedBy (Attaches rules given) permit = NoneFails (rules (overfills given)) × (given ≡ permit)
  IsGrantedBy (Refuses rule) permit = ⊥
  IsGrantedBy (Needs rules next) permit = NoneFails rules × IsGrantedBy next permit
  IsGrantedBy (FindsFile number fits next) permit =
      (descriptor : Descriptor N) × (descriptor_at task number fits ≡ Ok descriptor)
      × IsGrantedBy (next descriptor) permit
  IsGrantedBy (FindsTask name next) permit =
      (namespace : N) × (ok_or (looks.namespace_called name) (denial S2) ≡ Ok namespace)
      × IsGrantedBy (next namespace) permit
  IsGrantedBy (Walks aim path next) permit =
      (here : Here N) × (walk_to eq looks task aim path ≡ Ok here) × IsGrantedBy (next here) permit
  IsGrantedBy (Names aim path next) permit =
      (place : Place N) × (walk_to_name eq looks task aim path ≡ Ok place) × IsGrantedBy (next place) permit
  IsGrantedBy (Layers words next) permit =
      (layers : LayerLocations N) × (layers_walked eq looks task words ≡ Ok layers) × IsGrantedBy (next layers) permit
  IsGrantedBy (Words rules next) permit = NoneFails rules × IsGrantedBy next permit
  IsGrantedBy (IfThere object there missing) permit =
      ((file : Location N) × (object ≡ Some file) × IsGrantedBy (there file) permit)
      ⊎ ((object ≡ None) × IsGrantedBy missing permit)
  IsGrantedBy (IfSo test so otherwise) permit =
      ((test ≡ true) × IsGrantedBy so permit) ⊎ ((test ≡ false) × IsGrantedBy otherwise permit)

-- What `judge` permits is granted by what the call asks.
abbrev pub CallsAreGranted : Type 0
CallsAreGranted =
    (eq : ℕ → ℕ → Bool) (looks : Looks ℕ) (overfills : Permit ℕ → Bool) (task : Task ℕ) (call : Call)
    (permit : Permit ℕ)
    → judge eq looks overfills task call ≡ Ok permit
    → IsGrantedBy eq looks overfills task (judging eq looks task call) permit

-- What is granted by what the call asks, `judge` permits.
abbrev pub GrantsAreJudged : Type 0
GrantsAreJudged =
    (eq : ℕ → ℕ → Bool) (looks : Looks ℕ) (overfills : Permit ℕ → Bool) (task : Task ℕ) (call : Call)
    (permit : Permit ℕ)
    → IsGrantedBy eq looks overfills task (judging eq looks task call) permit
    → judge eq looks overfills task call ≡ Ok permit
