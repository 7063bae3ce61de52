-- Calls that ask the same wherever walks of theirs end are judged alike.
use Rattle.std.proofs.Common.{◌≡◌, refl, ap, ◌∙◌, ℕ, nat_eq, Bool, true, Option, Some, None, Ok, Err, Result, ok_or, ◌==◌}
use Rattle.vt_spec.proofs.Common.{Among, Descriptor, Here, Judgement, LayerLocations, Location, Looks, Permit, Place, Task, and_then, denial, descriptor_at, descriptor_found, found_among, layer_locations, layers_walked, unless}
use Rattle.vt_laws_members.proofs.Common.{Agree, Alike, Deny, Each}
use Rattle.vt_laws_members.proofs.judging.Masks.{RulesSeeAlike}
use Rattle.vt_laws_members.proofs.judging.WalksLead.{FoundAt, HereAt, PlaceAt, WalksAlike, judged_alike}
use Rattle.vt_spec.proofs.Given.{same_then}
use Rattle.vt_spec.specs.Machine.Judging.{Judging, by_option, run, walk_to, walk_to_name}
use Rattle.vt_spec.specs.Machine.Judging.Judging.{Attaches, Checks, FindsFile, FindsTask, Grants, IfSo, IfThere, Layers, Names, Needs, Refuses, Walks, Words}
use Rattle.vt_spec.specs.declared.errors.Rule.TheVariants.{S2}

-- all that two worlds have to show alike, where calls of the task are judged alike
pub record JudgesAlike (one other : Looks ℕ) (task : Task ℕ) (own uses : ℕ → Bool) : Type 0 where
  pub walks : Alike one other task (λ number. own number ≡ true)
  pub directory : own task.directory.mount ≡ true
  pub rules : RulesSeeAlike one other own uses
  pub seen : (number : ℕ) → own number ≡ true → uses (one.mount number).filesystem ≡ true

-- what comes after a step that agrees
step_alike : {A : Type 0} (Q : A → Type 0) (a b : Result A Deny) (f g : A → Judgement ℕ) → Agree Q a b
    → ((x : A) → Q x → f x ≡ g x) → and_then a f ≡ and_then b g
step_alike Q (Ok x) b f g (e, q) same = cc (same x q)
step_alike Q (Err deny) b f g (e, q) same = cc

-- what comes after a descriptor that is one of the task's
found_alike : (task : Task ℕ) (number : ℕ) (fits : Descriptor ℕ → Bool) (f g : Descriptor ℕ → Judgement ℕ)
    → ((descriptor : Descriptor ℕ) → Among descriptor task.descriptors → f descriptor ≡ g descriptor)
    → and_then (descriptor_at task number fits) f ≡ and_then (descriptor_at task number fits) g
found_alike task number fits f g same = by (descriptor_at task number fits) refl
  where
    by : (step : Result (Descriptor ℕ) Deny) → descriptor_at task number fits ≡ step → and_then step f ≡ and_then step g
    by (Ok descriptor) e = same descriptor (found_among (λ (d : Descriptor ℕ). number == d.number) task.descriptors
        descriptor (descriptor_found task number fits descriptor e).0)
    by (Err deny) e = refl

option_alike : (o p : Option (Location ℕ)) (f g : Location ℕ → Judgement ℕ) (a b : Judgement ℕ) → o ≡ p
    → ((file : Location ℕ) → o ≡ Some file → f file ≡ g file) → a ≡ b → by_option f a o ≡ by_option g b p
option_alike None p f g a b e some none = cc (e, none)
option_alike (Some file) p f g a b e some none = cc (e, some file refl)

module _ {one other : Looks ℕ} {task : Task ℕ} {own uses : ℕ → Bool} (alike : JudgesAlike one other task own uses) where
  -- so its walks lead alike
  pub leads_alike : WalksAlike one other task (λ number. own number ≡ true)
  leads_alike = record { walks = alike.walks; directory = alike.directory; removed = alike.rules.removed }

  abbrev pub Stands : Here ℕ → Type 0
  Stands = HereAt leads_alike

  abbrev pub IsPlaced : Place ℕ → Type 0
  IsPlaced = PlaceAt leads_alike

  abbrev pub IsFound : Option (Location ℕ) → Type 0
  IsFound = FoundAt leads_alike

  abbrev pub AreAt : LayerLocations ℕ → Type 0
  AreAt layers = Each (λ (here : Location ℕ). own here.mount ≡ true) (layer_locations layers)

  module _ (overfills : Permit ℕ → Bool) where
    -- the same is asked wherever walks of theirs end
    abbrev pub AskedAlike : Judging ℕ → Judging ℕ → Type 0
    AskedAlike (Grants a) (Grants b) = a ≡ b
    AskedAlike (Checks rules a) (Checks others b) = Path (Judgement ℕ) (unless rules (Ok a)) (unless others (Ok b))
    AskedAlike (Attaches rules a) (Attaches others b) =
        Path (Judgement ℕ) (unless (rules (overfills a)) (Ok a)) (unless (others (overfills b)) (Ok b))
    AskedAlike (Refuses a) (Refuses b) = a ≡ b
    AskedAlike (Needs rules a) (Needs others b) = (rules ≡ others) × AskedAlike a b
    AskedAlike (FindsFile number fits a) (FindsFile same also b) =
        (descriptor_at task number fits ≡ descriptor_at task same also)
        × ((descriptor : Descriptor ℕ) → Among descriptor task.descriptors → AskedAlike (a descriptor) (b descriptor))
    AskedAlike (FindsTask name a) (FindsTask same b) =
        (one.namespace_called name ≡ other.namespace_called same)
        × ((namespace : ℕ) → AskedAlike (a namespace) (b namespace))
    AskedAlike (Walks aim path a) (Walks same also b) =
        Agree Stands (walk_to nat_eq one task aim path) (walk_to nat_eq other task same also)
        × ((here : Here ℕ) → Stands here → AskedAlike (a here) (b here))
    AskedAlike (Names aim path a) (Names same also b) =
        Agree IsPlaced (walk_to_name nat_eq one task aim path) (walk_to_name nat_eq other task same also)
        × ((place : Place ℕ) → IsPlaced place → AskedAlike (a place) (b place))
    AskedAlike (Layers words a) (Layers same b) =
        Agree AreAt (layers_walked nat_eq one task words) (layers_walked nat_eq other task same)
        × ((layers : LayerLocations ℕ) → AreAt layers → AskedAlike (a layers) (b layers))
    AskedAlike (Words rules a) (Words others b) = (rules ≡ others) × AskedAlike a b
    AskedAlike (IfThere object there missing) (IfThere same also lacking) =
        (object ≡ same) × ((file : Location ℕ) → object ≡ Some file → AskedAlike (there file) (also file))
        × AskedAlike missing lacking
    AskedAlike (IfSo test so otherwise) (IfSo same also differs) =
        (test ≡ same) × AskedAlike so also × AskedAlike otherwise differs
    AskedAlike a b = ⊥

    abbrev runs : Looks ℕ → Judging ℕ → Judgement ℕ
    runs looks asked = run nat_eq looks task overfills asked

    pub run_alike : (a b : Judging ℕ) → AskedAlike a b → runs one a ≡ runs other b
    run_alike (Grants a) (Grants b) same = ap Ok same
    run_alike (Checks rules a) (Checks others b) same = same
    run_alike (Attaches rules a) (Attaches others b) same = same
    run_alike (Refuses a) (Refuses b) same = cc (same)
    run_alike (Needs rules a) (Needs others b) (same, next) = cc (same, run_alike a b next)
    run_alike (FindsFile number fits a) (FindsFile same also b) (e, next) =
        found_alike task number fits (λ descriptor. runs one (a descriptor)) (λ descriptor. runs other (b descriptor))
        (λ descriptor m. run_alike (a descriptor) (b descriptor) (next descriptor m))
        ∙ ap (λ step. and_then step (λ descriptor. runs other (b descriptor))) e
    run_alike (FindsTask name a) (FindsTask same b) (e, next) =
        ap (λ o. and_then (ok_or o (denial S2)) (λ namespace. runs one (a namespace))) e
        ∙ same_then (ok_or (other.namespace_called same) (denial S2)) (λ namespace. runs one (a namespace))
        (λ namespace. runs other (b namespace)) (λ namespace. run_alike (a namespace) (b namespace) (next namespace))
    run_alike (Walks aim path a) (Walks same also b) (agree, next) =
        judged_alike Stands (walk_to nat_eq one task aim path) (walk_to nat_eq other task same also)
        (λ here. runs one (a here)) (λ here. runs other (b here)) agree
        (λ here at. run_alike (a here) (b here) (next here at))
    run_alike (Names aim path a) (Names same also b) (agree, next) =
        judged_alike IsPlaced (walk_to_name nat_eq one task aim path) (walk_to_name nat_eq other task same also)
        (λ place. runs one (a place)) (λ place. runs other (b place)) agree
        (λ place at. run_alike (a place) (b place) (next place at))
    run_alike (Layers words a) (Layers same b) (agree, next) =
        step_alike AreAt (layers_walked nat_eq one task words) (layers_walked nat_eq other task same)
        (λ layers. runs one (a layers)) (λ layers. runs other (b layers)) agree
        (λ layers at. run_alike (a layers) (b layers) (next layers at))
    run_alike (Words rules a) (Words others b) (same, next) = cc (same, run_alike a b next)
    run_alike (IfThere object there missing) (IfThere same also lacking) (e, some, none) =
        option_alike object same (λ file. runs one (there file)) (λ file. runs other (also file)) (runs one missing)
        (runs other lacking) e (λ file is. run_alike (there file) (also file) (some file is))
        (run_alike missing lacking none)
    run_alike (IfSo test so otherwise) (IfSo same also differs) (e, first, second) =
        cc (e, run_alike so also first, run_alike otherwise differs second)
    run_alike a b same = absurd same
