-- What a call asks where some rules are let pass: each table without their rows.
use Rattle.std.specs.Prelude.{Bool, Err, List, None, Ok, Option, Some, [], false, nat_eq, true, ⊤, ℕ, ◌&&◌, ◌∷◌, ◌≡◌}
use Rattle.vt_laws_rules.specs.RuleRanks.{is_among}
use Rattle.vt_spec.specs.declared.errors.Rule.{Rule}
use Rattle.vt_spec.specs.declared.errors.Rule.TheVariants.{C1, C2, C3, E1, E2, E3, E4, E5, E6, E7, E8, E9, F1, F3, K1, L1, M10, M11, M12, M2, M3, M4, M5, M6, M7, M8, M9, P1, P2, S3, S6}
use Rattle.vt_spec.specs.Errors.{Rules}
use Rattle.vt_spec.specs.Language.Calls.{Call}
use Rattle.vt_spec.specs.Language.Changes.{Change}
use Rattle.vt_spec.specs.Machine.Judging.{Judgement, Judging, judging, run}
use Rattle.vt_spec.specs.Machine.Judging.Judging.{Attaches, Checks, FindsFile, FindsTask, Grants, IfSo, IfThere, Layers, Names, Needs, Refuses, Walks, Words}
use Rattle.vt_spec.specs.Machine.Judge.{judge}
use Rattle.vt_spec.specs.Machine.Looks.{Looks, looks_of}
use Rattle.vt_spec.specs.Machine.Mounts.{Location}
use Rattle.vt_spec.specs.Machine.Permits.{Permit}
use Rattle.vt_spec.specs.Machine.World.{Task, World}

-- A rule can be let pass, unless what later rules look at is not there without it: a line that is a call, the task or
-- the descriptor that is named, what a path leads to (S, W). What is asked of the layers of an overlay, and of its
-- mounter, is not let pass either (F2, O, B).
abbrev pub can_pass : Rule → Bool
can_pass S3 = true
can_pass S6 = true
can_pass K1 = true
can_pass E1 = true
can_pass E2 = true
can_pass E3 = true
can_pass E4 = true
can_pass E5 = true
can_pass E6 = true
can_pass E7 = true
can_pass E8 = true
can_pass E9 = true
can_pass F1 = true
can_pass F3 = true
can_pass L1 = true
can_pass P1 = true
can_pass P2 = true
can_pass C1 = true
can_pass C2 = true
can_pass C3 = true
can_pass M2 = true
can_pass M3 = true
can_pass M4 = true
can_pass M5 = true
can_pass M6 = true
can_pass M7 = true
can_pass M8 = true
can_pass M9 = true
can_pass M10 = true
can_pass M11 = true
can_pass M12 = true
can_pass rule = false

-- a rule is let pass: it is one of these, and can be
abbrev pub lets_pass : List Rule → Rule → Bool
lets_pass passed rule = can_pass rule && is_among rule passed

-- a row, unless its rule is let pass, before others
abbrev pub row_unless : (passes : Bool) → Bool × Rule → Rules → Rules
row_unless true row rows = rows
row_unless false row rows = row ∷ rows

-- a table without the rows of rules that are let pass
abbrev pub without : (passes : Rule → Bool) → Rules → Rules
without passes [] = []
without passes (row ∷ rows) = row_unless (passes row.1) row (without passes rows)

module _ {N : Type 0} (passes : Rule → Bool) where
  -- what is asked where rules are let pass: the same, with each table without their rows
  abbrev pub past : Judging N → Judging N
  past (Grants permit) = Grants permit
  past (Checks rules permit) = Checks (without passes rules) permit
  past (Attaches rules permit) = Attaches (λ overfull. without passes (rules overfull)) permit
  past (Refuses rule) = Refuses rule
  past (Needs rules next) = Needs (without passes rules) (past next)
  past (FindsFile number fits next) = FindsFile number fits (λ descriptor. past (next descriptor))
  past (FindsTask name next) = FindsTask name (λ namespace. past (next namespace))
  past (Walks aim path next) = Walks aim path (λ here. past (next here))
  past (Names aim path next) = Names aim path (λ place. past (next place))
  past (Layers words next) = Layers words (λ layers. past (next layers))
  past (Words rules next) = Words (without passes rules) (past next)
  past (IfThere object there missing) = IfThere object (λ file. past (there file)) (past missing)
  past (IfSo test so otherwise) = IfSo test (past so) (past otherwise)

-- what is judged of a call where rules are let pass
abbrev pub judge_past : Looks ℕ → (overfills : Permit ℕ → Bool) → Task ℕ → Call → List Rule → Judgement ℕ
judge_past looks overfills task call passed =
    run nat_eq looks task overfills (past (lets_pass passed) (judging nat_eq looks task call))

-- the rule by which a judgement refuses, if it does
abbrev pub refused_by : Judgement ℕ → Option Rule
refused_by (Ok permit) = None
refused_by (Err deny) = Some deny.rule

-- none of these rules can be let pass
abbrev pub StayAsked : Rules → Type 0
StayAsked [] = ⊤
StayAsked ((fails, rule) ∷ rows) = (can_pass rule ≡ false) × StayAsked rows

-- so it is of what the mounter of an overlay is asked (B1, B2)
abbrev pub MountersStayAsked : Looks ℕ → Type 0
MountersStayAsked looks = (at : Location ℕ) (change : Change ℕ) → StayAsked (looks.mounter_rules at change)

-- Laws

-- where no rule is let pass, each call is judged as ever
abbrev pub NothingLetPass : Type 0
NothingLetPass =
    (looks : Looks ℕ) (overfills : Permit ℕ → Bool) (task : Task ℕ) (call : Call)
    → judge_past looks overfills task call [] ≡ judge nat_eq looks overfills task call

-- every world asks the mounter of an overlay for rules alone that cannot be let pass
abbrev pub WorldsAskMounters : Type 0
WorldsAskMounters = (world : World ℕ) → MountersStayAsked (looks_of nat_eq world)
