-- What the first turn of a call checks is what the call asks.
use Rattle.std.proofs.Common.{refl, sym, true≢false, Some, None}
use Rattle.vt_spec.proofs.Common.{Close, Exclusive, Fork, MountOverlay, NoCreation, OpenFile, OrCreate, Pread, Pwrite, Setns, Unshare, judging}
use Rattle.vt_laws_turns.specs.Walks.Asked.{TurnsCheckWhatIsAsked}

pub turns_check_what_is_asked : TurnsCheckWhatIsAsked
unfolding judging
turns_check_what_is_asked looks task (OpenFile path access NoCreation) has = refl
turns_check_what_is_asked looks task (OpenFile path access (OrCreate mode)) has = refl
turns_check_what_is_asked looks task (OpenFile path access (Exclusive mode)) has = refl
turns_check_what_is_asked looks task (MountOverlay path None flags) has = refl
turns_check_what_is_asked looks task (MountOverlay path (Some words) flags) has = refl
turns_check_what_is_asked looks task (Pread number offset size) has = absurd (true≢false (sym has))
turns_check_what_is_asked looks task (Pwrite number offset bytes) has = absurd (true≢false (sym has))
turns_check_what_is_asked looks task (Close number) has = absurd (true≢false (sym has))
turns_check_what_is_asked looks task (Fork words) has = absurd (true≢false (sym has))
turns_check_what_is_asked looks task Unshare has = absurd (true≢false (sym has))
turns_check_what_is_asked looks task (Setns name) has = absurd (true≢false (sym has))
turns_check_what_is_asked looks task call has = refl
