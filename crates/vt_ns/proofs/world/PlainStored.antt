-- Where plain filesystems change alone, the store that code has then shows its overlays as they were: what lies in a
-- layer is not changed.
use Rattle.std.proofs.Common.{◌≡◌, refl, sym, subst, ℕ, OnErr, Err, Ok, Result}
use Rattle.vt_spec.proofs.Common.{AllocError, Permit, TaskName}
use Rattle.vt_ns.proofs.Common.{Becomes, Filesystems, IsDone, IsFilesEvent, IsHeld, Permits, StoreValue, WorldValue, overlays_of_store, with_filesystems, with_store}
use Rattle.vt_mounting.proofs.detach.StoreStays.{store_stays}
use Rattle.vt_ns.proofs.world.FileAnswers.{IsAnswered}

module _ (base : WorldValue) (store : StoreValue) (held : IsHeld (with_store store base)) (name : TaskName)
    (permit : Permit ℕ) (permits : Permits (with_store store base) name permit) (plain : Filesystems) where
  module _ (new_base : WorldValue) where
    -- a world with these, and with the overlays of before
    abbrev changed : WorldValue
    changed = record new_base { filesystems = plain; overlays = overlays_of_store store }

    overlays_stay : IsHeld changed → Becomes (with_store store base) name permit changed
        → changed ≡ with_store (record store { plain = plain }) new_base
    overlays_stay there becomes =
        store_stays base new_base store (record store { plain = plain }) permits.task permit held permits.given there
        (becomes permits.task permits.called) (λ entry m. (entry, m, refl, refl))

    -- an event that leaves such a world leaves the one that holds the store
    pub done_plainly : IsDone (with_store store base) name permit changed
        → IsDone (with_store store base) name permit (with_store (record store { plain = plain }) new_base)
    done_plainly is = subst (IsDone (with_store store base) name permit) (overlays_stay is.held is.becomes) is

  -- so an event that changes files alone
  pub files_stored : IsFilesEvent (with_store store base) name permit (with_filesystems (with_store store base) plain)
      → IsFilesEvent (with_store store base) name permit (with_store (record store { plain = plain }) base)
  files_stored is = subst (IsFilesEvent (with_store store base) name permit) (overlays_stay base is.held is.becomes) is

  -- also where it may be refused memory
  pub answered_stored : (result : Result (Unit {0}) AllocError) → OnErr result (plain ≡ store.plain)
      → IsAnswered (with_store store base) name permit (with_filesystems (with_store store base) plain) result
      → IsAnswered (with_store store base) name permit (with_store (record store { plain = plain }) base) result
  answered_stored (Ok done) kept is = subst (λ new. IsAnswered (with_store store base) name permit new (Ok done))
      (overlays_stay base is.held is.ok) is
  answered_stored (Err refused) kept is =
      record { held = subst (λ all. IsHeld (with_store (record store { plain = all }) base)) (sym kept) held; ok = tt }
