-- The world after a call has numbers for what is made next.
use Rattle.std.proofs.Common.{◌≡◌, ap, ℕ, nat_eq, ◌==◌, ◌+◌, ◌*◌, ◌%◌, Bool, true, false, cond, not, arith, ne_eqb}
use Rattle.vt_spec.proofs.Common.{Call, Permit, SameWorlds, TaskName, ToMake, ToMountOverlay, ToMountPlain, ToOpenNew, policy}
use Rattle.vt_laws_rules.specs.Numbers.{IsSuppliedFrom, KeepsTo}
use Rattle.vt_laws_rules.proofs.numbers.Supports.{calls_keep_to_numbers}
use Rattle.vt_laws_worlds.proofs.one_text.same.SameNumbers.{any_same_worlds_keep_to_numbers}
use Rattle.vt_laws_trees.specs.Runs.Handed.{counts_from, handed_from, may_be_given}
use Rattle.vt_location.specs.Numbers.{inode_number}
use Rattle.vt_mounting.specs.Detach.Events.{next_inode, supply_of}
use Rattle.vt_world.specs.Held.{IsHeld}
use Rattle.vt_world.specs.WorldValue.{WorldValue, world_of}
use Rattle.vt_answers.specs.Ends.{HasNumbers}
use Rattle.vt_answers.proofs.SpareNumbers.{numbers_kept}
use Rattle.vt_ns.proofs.Granting.{counts}
use Rattle.vt_calls.proofs.Supplies.{AreVacant}

-- counts may be given, and even numbers
pub counts_given : (next : ℕ) → IsSuppliedFrom may_be_given (counts_from next)
counts_given next k = ap not (ne_eqb ((4 * (next + k) + 1) % 4) 3 (λ e. absurd (omega arith)))

handed_given : (next place inode : ℕ) → inode % 2 ≡ 0 → IsSuppliedFrom may_be_given (handed_from next place inode)
handed_given next place inode even k = by (k == place)
  where
    by : (b : Bool) → may_be_given (cond b inode (counts_from next k)) ≡ true
    by true = ap not (ne_eqb (inode % 4) 3 (λ e. absurd (omega arith)))
    by false = counts_given next k

-- so may all that a permit is handed
supply_given : (value : WorldValue) (permit : Permit ℕ) → AreVacant value permit
    → IsSuppliedFrom may_be_given (supply_of value permit)
supply_given value (ToMake directory name node) vacant =
    handed_given value.next 0 (next_inode value directory) vacant.even
supply_given value (ToOpenNew directory name node access) vacant =
    handed_given value.next 0 (next_inode value directory) vacant.even
supply_given value (ToMountPlain place flags) vacant = handed_given value.next 2 (inode_number value.next 0) vacant.even
supply_given value (ToMountOverlay place overlay flags) vacant = vacant.1
supply_given value permit vacant = counts_given value.next

-- what the policy leaves keeps to numbers that may be given
pub numbers_left : (old new : WorldValue) (name : TaskName) (call : Call) (permit : Permit ℕ) → IsHeld old
    → AreVacant old permit
    → SameWorlds (policy nat_eq (supply_of old permit) (world_of old) name call).world (world_of new)
    → HasNumbers (world_of new)
numbers_left old new name call permit held vacant same =
    let left = (policy nat_eq (supply_of old permit) (world_of old) name call).world in
    let serves = (counts old held).2.serves in
    let kept : KeepsTo may_be_given (world_of old) =
    λ renaming leaves. serves.keeps renaming (λ number kept. leaves number (serves.from_hand number kept)) in
    numbers_kept (world_of new) (any_same_worlds_keep_to_numbers may_be_given left (world_of new) same
    (calls_keep_to_numbers may_be_given (supply_of old permit) (world_of old) name call kept
    (supply_given old permit vacant)))
