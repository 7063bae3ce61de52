-- The numbers that a permit is handed: they serve the world, so the permit is given with them.
use Rattle.std.proofs.Common.{◌≡◌, ◌∙◌, ℕ, false, nat_eq, Ok}
use Rattle.vt_spec.proofs.Common.{Call, Permit, TaskName, ToMake, ToMountOverlay, ToMountPlain, ToOpenNew, judge_in, ⊤}
use Rattle.vt_laws_rules.specs.Numbers.{IsSuppliedFrom}
use Rattle.vt_location.specs.Numbers.{inode_number}
use Rattle.vt_permits.specs.GrantValue.{permit_of}
use Rattle.vt_permits.specs.declared.grant.Grant.{Grant}
use Rattle.vt_laws_trees.specs.Runs.Handed.{counts_from, may_be_given}
use Rattle.vt_mounting.specs.Detach.Events.{Permits, next_inode, supply_of}
use Rattle.vt_world.specs.Held.{IsHeld}
use Rattle.vt_ns.specs.Grants.{Grants}
use Rattle.vt_ns.specs.Vacancy.{NextInodeIsVacant, NextRootIsVacant}
use Rattle.vt_ns.proofs.Granting.{IsAllotted, counts, handed, permitted}
use Rattle.vt_world.specs.WorldValue.{WorldValue, world_of}
use Rattle.vt_calls.specs.Permitted.{IsGivenFor}
use Rattle.vt_calls.proofs.OverlayGrants.{granted_plain, mounts_layers}
use Rattle.vt_calls.proofs.OverlaysJudged.{judged_with_any}

-- what a permit is handed beside counts is not in use; all that the mount of an overlay is handed serves
abbrev pub AreVacant : WorldValue → Permit ℕ → Type 0
AreVacant value (ToMake directory name node) = NextInodeIsVacant value directory
AreVacant value (ToOpenNew directory name node access) = NextInodeIsVacant value directory
AreVacant value (ToMountPlain place flags) = NextRootIsVacant value
AreVacant value (ToMountOverlay place overlay flags) =
    IsAllotted value (supply_of value (ToMountOverlay place overlay flags))
    × IsSuppliedFrom may_be_given (supply_of value (ToMountOverlay place overlay flags))
AreVacant value permit = ⊤

pub allotted : (value : WorldValue) → IsHeld value → (permit : Permit ℕ) → AreVacant value permit
    → IsAllotted value (supply_of value permit)
allotted value held (ToMake directory name node) vacant = handed value held 0 (next_inode value directory) vacant
allotted value held (ToOpenNew directory name node access) vacant = handed value held 0
    (next_inode value directory) vacant
allotted value held (ToMountPlain place flags) vacant = handed value held 2 (inode_number value.next 0) vacant
allotted value held (ToMountOverlay place overlay flags) vacant = vacant.0
allotted value held permit vacant = counts value held

module _ (value : WorldValue) (name : TaskName) (call : Call) (grant : Grant)
    (given : IsGivenFor value name call grant) where
  abbrev granted : Permit ℕ
  granted = permit_of given.task grant

  -- whatever is handed in, the call is given that permit
  pub judged_with : (fresh : ℕ → ℕ) → judge_in nat_eq fresh (world_of value) given.task call ≡ Ok granted
  judged_with fresh =
      judged_with_any (world_of value) given.held.in_world given.task call fresh (counts_from value.next) ∙ given.judged

  -- so a call that mounts no overlay is granted it, where the grant does not
  pub grants_permit : mounts_layers grant ≡ false → Grants value name granted
  grants_permit plain = record {
    task = given.task;
    called = given.called;
    call = call;
    no_overlay = granted_plain (counts_from value.next) (world_of value) given.task call grant given.judged plain;
    few_groups = given.few_groups;
    judged = judged_with;
  }

  -- and permitted it
  pub permits : mounts_layers grant ≡ false → AreVacant value granted → Permits value name granted
  permits plain vacant = permitted value name granted (grants_permit plain) (allotted value given.held granted vacant)
