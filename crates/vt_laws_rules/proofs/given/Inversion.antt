-- What `judge` permits is granted by what the call asks, and what is granted so, `judge` permits.
use Rattle.std.proofs.Common.{◌≡◌, refl, subst, ap, ◌∙◌, Bool, true, false, Result, Ok, Err, Some, None, ok_or, inl, inr, [], ◌∷◌}
use Rattle.vt_spec.proofs.Common.{Call, Descriptor, Here, Judgement, LayerLocations, Location, Looks, Place, NoneFails, Permit, Rules, Stop, Task, and_then, denial, descriptor_at, judge, layers_walked, unless, walk_end, ⊤}
use Rattle.vt_spec.proofs.Given.{by_rules, by_step, by_walk}
use Rattle.vt_spec.specs.declared.errors.Deny.{Deny}
use Rattle.vt_spec.specs.Machine.Judging.Judging.{Attaches, Checks, FindsFile, FindsTask, Grants, IfSo, IfThere, Layers, Names, Needs, Refuses, Walks, Words}
use Rattle.vt_laws_rules.specs.Granted.{IsGrantedBy}
use Rattle.vt_spec.specs.Machine.Judging.{Judging, judging, run, walk_to, walk_to_name}
use Rattle.vt_spec.specs.declared.errors.Rule.TheVariants.{S2}

module _ {N : Type 0} where
  rules_pass : (rules : Rules) (answer : Judgement N) (permit : Permit N) → unless rules answer ≡ Ok permit
      → NoneFails rules × (answer ≡ Ok permit)
  rules_pass [] answer permit e = (tt, e)
  rules_pass ((true, rule) ∷ rows) answer permit e = cc
  rules_pass ((false, rule) ∷ rows) answer permit e =
      let rest = rules_pass rows answer permit e in ((refl, rest.0), rest.1)

  step_ends : {A : Type 0} (step : Result A Deny) (next : A → Judgement N) (permit : Permit N)
      → and_then step next ≡ Ok permit → (a : A) × (step ≡ Ok a) × (next a ≡ Ok permit)
  step_ends (Ok a) next permit e = (a, refl, e)
  step_ends (Err deny) next permit e = cc

  walk_ends : {A : Type 0} (walk : Result A (Stop N)) (next : A → Judgement N) (permit : Permit N)
      → and_then (walk_end walk) next ≡ Ok permit → (a : A) × (walk ≡ Ok a) × (next a ≡ Ok permit)
  walk_ends (Ok a) next permit e = (a, refl, e)
  walk_ends (Err stop) next permit e = cc

module _ {N : Type 0} (eq : N → N → Bool) (looks : Looks N) (overfills : Permit N → Bool) (task : Task N) where
  abbrev runs : Judging N → Judgement N
  runs asked = run eq looks task overfills asked

  abbrev Granted : Judging N → Permit N → Type 0
  Granted asked permit = IsGrantedBy eq looks overfills task asked permit

  run_granted : (asked : Judging N) (permit : Permit N) → runs asked ≡ Ok permit → Granted asked permit
  run_granted (Grants given) permit e = cc
  run_granted (Checks rules given) permit e =
      let passed = rules_pass rules (Ok given) permit e in (passed.0, cc (passed.1))
  run_granted (Attaches rules given) permit e =
      let passed = rules_pass (rules (overfills given)) (Ok given) permit e in (passed.0, cc (passed.1))
  run_granted (Refuses rule) permit e = cc
  run_granted (Needs rules next) permit e =
      let passed = rules_pass rules (runs next) permit e in (passed.0, run_granted next permit passed.1)
  run_granted (FindsFile number fits next) permit e =
      let ends = step_ends (descriptor_at task number fits) _ permit e in
      (ends.0, ends.1, run_granted (next ends.0) permit ends.2)
  run_granted (FindsTask name next) permit e =
      let ends = step_ends (ok_or (looks.namespace_called name) (denial S2)) _ permit e in
      (ends.0, ends.1, run_granted (next ends.0) permit ends.2)
  run_granted (Walks aim path next) permit e =
      let ends = walk_ends (walk_to eq looks task aim path) _ permit e in
      (ends.0, ends.1, run_granted (next ends.0) permit ends.2)
  run_granted (Names aim path next) permit e =
      let ends = walk_ends (walk_to_name eq looks task aim path) _ permit e in
      (ends.0, ends.1, run_granted (next ends.0) permit ends.2)
  run_granted (Layers words next) permit e =
      let ends = step_ends (layers_walked eq looks task words) _ permit e in
      (ends.0, ends.1, run_granted (next ends.0) permit ends.2)
  run_granted (Words rules next) permit e =
      let passed = rules_pass rules (runs next) permit e in (passed.0, run_granted next permit passed.1)
  run_granted (IfThere (Some file) there missing) permit e = inl (file, refl, run_granted (there file) permit e)
  run_granted (IfThere None there missing) permit e = inr (refl, run_granted missing permit e)
  run_granted (IfSo true so otherwise) permit e = inl (refl, run_granted so permit e)
  run_granted (IfSo false so otherwise) permit e = inr (refl, run_granted otherwise permit e)

  granted_runs : (asked : Judging N) (permit : Permit N) → Granted asked permit → runs asked ≡ Ok permit
  granted_runs (Grants given) permit e = ap Ok e
  granted_runs (Checks rules given) permit (passed, e) = by_rules rules (Ok given) (Ok permit) passed (ap Ok e)
  granted_runs (Attaches rules given) permit (passed, e) =
      by_rules (rules (overfills given)) (Ok given) (Ok permit) passed (ap Ok e)
  granted_runs (Refuses rule) permit none = absurd none
  granted_runs (Needs rules next) permit (passed, given) =
      by_rules rules (runs next) (Ok permit) passed (granted_runs next permit given)
  granted_runs (FindsFile number fits next) permit (descriptor, found, given) =
      by_step (descriptor_at task number fits) descriptor _ (Ok permit) found
      (granted_runs (next descriptor) permit given)
  granted_runs (FindsTask name next) permit (namespace, found, given) =
      by_step (ok_or (looks.namespace_called name) (denial S2)) namespace _ (Ok permit) found
      (granted_runs (next namespace) permit given)
  granted_runs (Walks aim path next) permit (here, end, given) =
      by_walk (walk_to eq looks task aim path) here _ (Ok permit) end (granted_runs (next here) permit given)
  granted_runs (Names aim path next) permit (place, end, given) =
      by_walk (walk_to_name eq looks task aim path) place _ (Ok permit) end (granted_runs (next place) permit given)
  granted_runs (Layers words next) permit (layers, walked, given) =
      by_step (layers_walked eq looks task words) layers _ (Ok permit) walked (granted_runs (next layers) permit given)
  granted_runs (Words rules next) permit (passed, given) =
      by_rules rules (runs next) (Ok permit) passed (granted_runs next permit given)
  granted_runs (IfThere object there missing) permit (inl (file, e, given)) = cc (e, granted_runs (there file) permit given)
  granted_runs (IfThere object there missing) permit (inr (e, given)) = cc (e, granted_runs missing permit given)
  granted_runs (IfSo test so otherwise) permit (inl (e, given)) = cc (e, granted_runs so permit given)
  granted_runs (IfSo test so otherwise) permit (inr (e, given)) = cc (e, granted_runs otherwise permit given)

  -- this holds of the permit, in whatever way it may be granted
  abbrev pub IfGranted : (Permit N → Type 0) → Judging N → Type 0
  IfGranted P (Grants permit) = P permit
  IfGranted P (Checks rules permit) = NoneFails rules → P permit
  IfGranted P (Attaches rules permit) = NoneFails (rules (overfills permit)) → P permit
  IfGranted P (Refuses rule) = ⊤
  IfGranted P (Needs rules next) = NoneFails rules → IfGranted P next
  IfGranted P (FindsFile number fits next) =
      (descriptor : Descriptor N) → descriptor_at task number fits ≡ Ok descriptor → IfGranted P (next descriptor)
  IfGranted P (FindsTask name next) =
      (namespace : N) → ok_or (looks.namespace_called name) (denial S2) ≡ Ok namespace → IfGranted P (next namespace)
  IfGranted P (Walks aim path next) =
      (here : Here N) → walk_to eq looks task aim path ≡ Ok here → IfGranted P (next here)
  IfGranted P (Names aim path next) =
      (place : Place N) → walk_to_name eq looks task aim path ≡ Ok place → IfGranted P (next place)
  IfGranted P (Layers words next) =
      (layers : LayerLocations N) → layers_walked eq looks task words ≡ Ok layers → IfGranted P (next layers)
  IfGranted P (Words rules next) = NoneFails rules → IfGranted P next
  IfGranted P (IfThere object there missing) =
      ((file : Location N) → object ≡ Some file → IfGranted P (there file)) × (object ≡ None → IfGranted P missing)
  IfGranted P (IfSo test so otherwise) = (test ≡ true → IfGranted P so) × (test ≡ false → IfGranted P otherwise)

  -- then it holds of one that is
  pub holds_of_granted : (P : Permit N → Type 0) (asked : Judging N) (permit : Permit N)
      → IfGranted P asked → Granted asked permit → P permit
  holds_of_granted P (Grants given) permit h e = subst P e h
  holds_of_granted P (Checks rules given) permit h (passed, e) = subst P e (h passed)
  holds_of_granted P (Attaches rules given) permit h (passed, e) = subst P e (h passed)
  holds_of_granted P (Refuses rule) permit h none = absurd none
  holds_of_granted P (Needs rules next) permit h (passed, given) = holds_of_granted P next permit (h passed) given
  holds_of_granted P (FindsFile number fits next) permit h (descriptor, found, given) =
      holds_of_granted P (next descriptor) permit (h descriptor found) given
  holds_of_granted P (FindsTask name next) permit h (namespace, found, given) =
      holds_of_granted P (next namespace) permit (h namespace found) given
  holds_of_granted P (Walks aim path next) permit h (here, end, given) =
      holds_of_granted P (next here) permit (h here end) given
  holds_of_granted P (Names aim path next) permit h (place, end, given) =
      holds_of_granted P (next place) permit (h place end) given
  holds_of_granted P (Layers words next) permit h (layers, walked, given) =
      holds_of_granted P (next layers) permit (h layers walked) given
  holds_of_granted P (Words rules next) permit h (passed, given) = holds_of_granted P next permit (h passed) given
  holds_of_granted P (IfThere object there missing) permit h (inl (file, e, given)) =
      holds_of_granted P (there file) permit (h.0 file e) given
  holds_of_granted P (IfThere object there missing) permit h (inr (e, given)) =
      holds_of_granted P missing permit (h.1 e) given
  holds_of_granted P (IfSo test so otherwise) permit h (inl (e, given)) = holds_of_granted P so permit (h.0 e) given
  holds_of_granted P (IfSo test so otherwise) permit h (inr (e, given)) =
      holds_of_granted P otherwise permit (h.1 e) given

  pub call_is_granted : (call : Call) (permit : Permit N) → judge eq looks overfills task call ≡ Ok permit
      → Granted (judging eq looks task call) permit
  call_is_granted call permit e = run_granted (judging eq looks task call) permit e

  pub grant_is_judged : (call : Call) (permit : Permit N) → Granted (judging eq looks task call) permit
      → judge eq looks overfills task call ≡ Ok permit
  grant_is_judged call permit given = granted_runs (judging eq looks task call) permit given
