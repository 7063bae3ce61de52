-- How code judges a call, and where an allocation may fail (ENOMEM): for permits that have a copy of a name or
-- credentials or a list of layers, and for mount calls whose receivers are gathered. The other calls do not allocate.
use Rattle.std.specs.Prelude.{Err, Ok, Result, ◌≡◌, ◌⊎◌, ℕ}
use Rattle.vt_spec.specs.declared.errors.Deny.{Deny}
use Rattle.vt_spec.specs.declared.errors.Rule.TheVariants.{M10, M8, M9, S5}
use Rattle.vt_spec.specs.Errors.{denial}
use Rattle.vt_spec.specs.Language.Calls.{Call}
use Rattle.vt_spec.specs.Language.Calls.Call.{Bind, MountOverlay, MountPlain, MoveMount, Umount}
use Rattle.vt_spec.specs.Machine.Judging.{Judgement}
use Rattle.vt_spec.specs.Machine.World.{Task}
use Rattle.vt_permits.specs.declared.grant.Grant.{Grant}
use Rattle.vt_permits.specs.GrantValue.{permit_of}

-- the very judgement: the permit, or the refusal by the first rule that fails
abbrev pub JudgesAlike : Task ℕ → Judgement ℕ → Result Grant Deny → Type 0
JudgesAlike task judged (Ok grant) = judged ≡ Ok (permit_of task grant)
JudgesAlike task judged (Err deny) = judged ≡ Err deny

-- as that, or S5 in place of a permit
abbrev pub Judges : Task ℕ → Judgement ℕ → Result Grant Deny → Type 0
Judges task judged (Ok grant) = judged ≡ Ok (permit_of task grant)
Judges task (Ok permit) (Err deny) = deny ≡ denial S5
Judges task (Err refusal) (Err deny) = deny ≡ refusal

-- The rule of a call for which the receivers of its event are gathered, and the rule that is checked after it:
-- umount(2), and mount(2) where it attaches mounts.
abbrev pub IsAfterReceivers : Call → Deny → Type 0
IsAfterReceivers (Umount path) refusal = (refusal ≡ denial M8) ⊎ (refusal ≡ denial M10)
IsAfterReceivers (MountPlain path flags) refusal = refusal ≡ denial M9
IsAfterReceivers (MountOverlay path options flags) refusal = refusal ≡ denial M9
IsAfterReceivers (Bind source path recursive) refusal = refusal ≡ denial M9
IsAfterReceivers (MoveMount source path) refusal = (refusal ≡ denial M9) ⊎ (refusal ≡ denial M10)
IsAfterReceivers call refusal = ⊥

-- as the judgement of a call, or S5 in place of a permit or of these rules
abbrev pub JudgesByReceivers : Call → Task ℕ → Judgement ℕ → Result Grant Deny → Type 0
JudgesByReceivers call task judged (Ok grant) = judged ≡ Ok (permit_of task grant)
JudgesByReceivers call task (Ok permit) (Err deny) = deny ≡ denial S5
JudgesByReceivers call task (Err refusal) (Err deny) = (deny ≡ refusal)
    ⊎ ((deny ≡ denial S5) × IsAfterReceivers call refusal)
