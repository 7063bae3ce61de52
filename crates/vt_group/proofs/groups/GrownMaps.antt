-- What is listed once mounts and groups came, or did not.
use Rattle.std.proofs.Common.{◌≡◌, Some, true, map, subst, sym, nat_cmp}
use Rattle.vt_spec.proofs.Common.{keys_of}
use Rattle.std.specs.List.Sorted.{IsStrictlySortedBy}
use Rattle.vt_location.specs.declared.mounts.Propagation.{Propagation}
use Rattle.vt_location.specs.declared.numbers.GroupId.{GroupId}
use Rattle.vt_location.specs.declared.numbers.MountId.{MountId}
use Rattle.vt_group.specs.ByNumber.{IsAscending, Numbered, value_at}
use Rattle.vt_group.specs.declared.index.Index.{Index}
use Rattle.vt_group.specs.Indexed.{Lists, group_at, is_listed, is_lower, mount_at}
use Rattle.vt_group.specs.Steps.{numbered_master, numbered_peer}
use Rattle.vt_group.proofs.Coming.{FoundListed, FoundLower, kept_kind, kept_master, seen_kind, seen_master}

-- a map with the same values is in the same order
pub still_ascends : {V : Type 0} (old new : Numbered V) → new.entries ≡ old.entries → IsAscending old → IsAscending new
still_ascends old new same ordered = subst (λ es. IsStrictlySortedBy nat_cmp (keys_of es)) (sym same) ordered

module _ (old new : Index) (types : Numbered Propagation) (above : Numbered GroupId) (lists : Lists old types above)
  where
    -- an index that lists no more than what is there
    pub lists_unlisted : ((mount : MountId) (kind : Propagation) → value_at types mount.count ≡ Some kind
        → is_listed old mount kind ≡ true → is_listed new mount kind ≡ true)
        → ((lower upper : GroupId) → value_at above lower.count ≡ Some upper → is_lower old lower upper ≡ true
        → is_lower new lower upper ≡ true) → Lists new types above
    lists_unlisted kept lower = record {
      listed = λ mount kind at. kept (mount_at mount) kind at (lists.listed mount kind at);
      lower = λ low up at. lower (group_at low) up at (lists.lower low up at);
      ordered = lists.ordered;
      ordered_above = lists.ordered_above;
    }

    -- and one that lists all that is found by numbers
    pub found_listed :
        ((mount : MountId) (kind : Propagation) → is_listed old mount kind ≡ true → is_listed new mount kind ≡ true)
        → FoundListed new (map numbered_peer types.entries)
    found_listed kept mount kind at =
        kept (mount_at mount) kind (lists.listed mount kind (kept_kind types.entries mount kind at))

    -- groups with masters are found in an index that keeps what is listed
    pub found_lower : ((lower upper : GroupId) → is_lower old lower upper ≡ true → is_lower new lower upper ≡ true)
        → FoundLower new (map numbered_master above.entries)
    found_lower lower low up at = lower (group_at low) up (lists.lower low up (kept_master above.entries low up at))

-- an index in which all mounts and groups are found lists them
pub lists_found : (index : Index) (types : Numbered Propagation) (above : Numbered GroupId)
    → FoundListed index (map numbered_peer types.entries) → FoundLower index (map numbered_master above.entries)
    → IsAscending types → IsAscending above → Lists index types above
lists_found index types above listed lower ordered ordered_above = record {
  listed = λ mount kind at. listed mount kind (seen_kind types.entries mount kind at);
  lower = λ low up at. lower low up (seen_master above.entries low up at);
  ordered = ordered;
  ordered_above = ordered_above;
}
