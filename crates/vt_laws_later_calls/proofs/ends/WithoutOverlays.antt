-- Without overlays no whiteout is replaced, so nothing goes.
use Rattle.std.proofs.Common.{arith, ◌≡◌, inr, ℕ, false, []}
use Rattle.vt_spec.proofs.Common.{Call, Filesystem, Fresh, Task, World, common_steps, is_overlay, list_any, none_from_not_some}
use Rattle.vt_laws_later_calls.proofs.Common.{IsPlain, among_from_all, has_upper_in, none_from_among, plain_numbered}
use Rattle.vt_laws_later_calls.specs.Ends.{OnlyTheseEndInodes, OtherCallsLeaveAll, TypesLeaveAllButMasters}
use Rattle.vt_laws_later_calls.specs.Whiteouts.{replaced_by}
use Rattle.vt_laws_later_calls.proofs.ends.EndedBy.{only_these_end_other_inodes, other_calls_keep_all}
use Rattle.vt_laws_later_calls.proofs.ends.OtherCalls.{all_types_leave_all_but_masters}

-- no overlay changes
none_replaced : (world : World ℕ) → IsPlain world → (fresh : Fresh ℕ) (task : Task ℕ) (call : Call)
    → replaced_by fresh world task call ≡ []
none_replaced world plain fresh task call = grind (arith, common_steps, plain_numbered)

-- and none has an upper layer
no_upper : (world : World ℕ) → IsPlain world → (filesystem : ℕ)
    → list_any (has_upper_in filesystem) world.filesystems ≡ false
no_upper world plain filesystem = none_from_among (has_upper_in filesystem) world.filesystems
    (λ f m. cc (none_from_not_some f.overlay (among_from_all (λ (g : Filesystem ℕ). is_overlay g ≡ false)
    world.filesystems plain f m)))

pub other_calls_leave_all : OtherCallsLeaveAll
other_calls_leave_all world fresh task call is plain serves called plainly only sets_none =
    other_calls_keep_all world fresh task call is serves called only sets_none
    (none_replaced world plain fresh task call)

pub types_leave_all_but_masters : TypesLeaveAllButMasters
types_leave_all_but_masters world fresh task path word recursive is plain serves called =
    all_types_leave_all_but_masters world fresh task path word recursive is serves called

pub only_these_end_inodes : OnlyTheseEndInodes
only_these_end_inodes world fresh name call filesystem number is plain serves plainly only there =
    only_these_end_other_inodes world fresh name call filesystem number is serves only there
    (inr (no_upper world plain filesystem))
