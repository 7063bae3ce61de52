-- The store that code has after a change of a tree with which mounts go: rmdir(2), rename(2).
use Rattle.std.proofs.Common.{◌≡◌, ◌≢◌, ◌∙◌, sym, ℕ, List, [], map, length, arith}
use Rattle.vt_spec.proofs.Common.{Permit, TaskName, common_steps}
use Rattle.vt_ns.proofs.Common.{Filesystems, Grouping, IsDone, IsHeld, LeaveTogether, MountEntry, OverlaysLeft, Permits, StoreValue, WorldValue, counted, done_in_store, kept, kept_of, merged_of, remade_with, with_filesystems, with_store}
use Rattle.vt_location.specs.declared.numbers.MountId.{MountId}
use Rattle.vt_ns.proofs.world.MountsOn.{none_counted, some_counted}
use Rattle.vt_ns.proofs.world.StoresKept.{kept_is}

module _ (base : WorldValue) (store : StoreValue) (held : IsHeld (with_store store base)) (ids : List MountId)
    (gone : List ℕ) (are : map (λ id. counted id.count) ids ≡ gone) where
  abbrev value : WorldValue
  value = with_store store base

  -- where no mount is collected none goes
  pub none_goes : length ids ≡ 0 → gone ≡ []
  none_goes none = sym are ∙ none_counted ids none

  -- and where some are some go
  pub some_go : length ids ≢ 0 → gone ≢ []
  some_go some none = some_counted ids some (are ∙ none)

  module _ (plain : Filesystems) (mounts : List MountEntry) (groups : Grouping) (last : StoreValue)
      (left : LeaveTogether (map (λ id. counted id.count) ids) (kept base.mounts (record store { plain = plain }))
      base.groups (kept mounts last) groups) where
    -- what is collected leaves what the world with the changed tree keeps
    pub collected_leave : LeaveTogether gone (kept_of (with_filesystems value plain)) base.groups (kept mounts last)
        groups
    collected_leave = grind (arith, common_steps, kept_is base store held, are, left)

    -- and the world then has the store that is left
    pub left_is_stored : OverlaysLeft store.overlays last.overlays → (name : TaskName) (permit : Permit ℕ)
        → Permits value name permit → IsDone value name permit
        (record (remade_with value mounts last.plain (map merged_of last.overlays) base.tasks) { groups = groups })
        → IsDone value name permit (with_store last (record base { mounts = mounts; groups = groups }))
    left_is_stored overlays name permit permits is =
        done_in_store base (record base { mounts = mounts; groups = groups }) store last held overlays name permit
        permits is
