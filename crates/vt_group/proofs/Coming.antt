-- Mounts and groups that come are listed first.
use Rattle.std.proofs.Common.{◌≡◌, ℕ, Bool, true, false, cond, ◌+◌, ◌<◌, List, [], ◌∷◌, ◌++◌, get_or, length, map, nat_eq, Option, None, Some, is_some, option_map, refl, sym, ap, subst, take, ◌∙◌, true≢false, eqb-true, unwrap_or, nat_cmp}
use Rattle.vt_spec.proofs.Common.{Private as MeansPrivate, Propagation as Type_of_mount, Shared as MeansShared, Slave as MeansSlave, ToShared, folded, insert_entry, lookup, master_after, same_Some, source_of, take_more, type_after}
use Rattle.std.specs.BTreeMap.{is_at}
use Rattle.vt_location.specs.declared.mounts.Mount.{Mount}
use Rattle.vt_location.specs.declared.mounts.Propagation.{Propagation}
use Rattle.vt_location.specs.declared.mounts.Propagation.TheVariants.{Private, Shared, Slave, Unbindable}
use Rattle.vt_location.specs.declared.numbers.GroupId.{GroupId}
use Rattle.vt_location.specs.declared.numbers.MountId.{MountId}
use Rattle.vt_location.specs.MountValue.{propagation_of}
use Rattle.vt_location.specs.Numbers.{counted, group_number}
use Rattle.vt_group.specs.ByNumber.{Numbered, value_at}
use Rattle.vt_group.specs.declared.groups.NewGroup.{NewGroup}
use Rattle.vt_group.specs.declared.index.Index.{Index}
use Rattle.vt_group.specs.Indexed.{group_at, is_listed, is_lower, mount_at}
use Rattle.vt_group.specs.Grouping.{Grouping, are_rising, propagation_in}
use Rattle.vt_group.specs.Steps.{numbered_master, numbered_peer, type_or_private}
use Rattle.vt_group.specs.Together.{if_sourced, new_group, pair_of, shared_group, shared_type, typed, with_entry_of, with_master_of, with_type_of}
use Rattle.vt_group.proofs.Adding.{lookup-removed, rising-removed}
use Rattle.vt_group.proofs.Changes.{lookup-inserted, rising-inserted}
use Rattle.vt_group.proofs.CountLemmas.{lookup-numbered}
use Rattle.vt_group.proofs.Regrouping.{keys}
use Rattle.vt_group.specs.Listing.{EachJoined, EachListed, EachShared, IsJoined, IsListed, IsShared, kind_shared, master_shared}
use Rattle.vt_location.proofs.NumberLemmas.{counted_same}

module _ (old new : Index) (lower : (low up : GroupId) → is_lower old low up ≡ true → is_lower new low up ≡ true)
    (kept : (mount : MountId) (kind : Propagation) → is_listed old mount kind ≡ true
    → is_listed new mount kind ≡ true) where
  joined_still : (group : GroupId) (master : Option GroupId) → IsJoined old group master → IsJoined new group master
  joined_still group None joined = tt
  joined_still group (Some master) joined = lower group master joined

  -- new groups that are joined stay so in an index that keeps what is joined
  pub each_joined_still : (list : List NewGroup) → EachJoined old list → EachJoined new list
  each_joined_still [] each = tt
  each_joined_still (one ∷ list) each = (joined_still one.group one.master each.0, each_joined_still list each.1)

  -- mounts that are listed stay so in an index that keeps what is listed
  pub each_listed_still : (list : List Mount) → EachListed old list → EachListed new list
  each_listed_still [] each = tt
  each_listed_still (one ∷ list) each =
      (λ sourced. kept one.number one.propagation (each.0 sourced), each_listed_still list each.1)

module _ (index : Index) where
  joined_push : (list : List NewGroup) (one : NewGroup) → EachJoined index list → IsJoined index one.group one.master
      → EachJoined index (list ++ one ∷ [])
  joined_push [] one each joined = (joined, tt)
  joined_push (first ∷ list) one each joined = (each.0, joined_push list one each.1 joined)

  listed_push : (list : List Mount) (one : Mount) → EachListed index list → IsListed index one
      → EachListed index (list ++ one ∷ [])
  listed_push [] one each listed = (listed, tt)
  listed_push (first ∷ list) one each listed = (each.0, listed_push list one each.1 listed)

  -- where one more group is joined, one more of the list is
  pub joined_more : (list : List NewGroup) (i : ℕ) (default : NewGroup) → i < length list
      → EachJoined index (take i list) → IsJoined index (get_or list i default).group (get_or list i default).master
      → EachJoined index (take (i + 1) list)
  joined_more list i default less each joined =
      subst (EachJoined index) (sym (take_more list i default less)) (joined_push (take i list) (get_or list i default) each joined)

  -- where one more mount is listed, one more of the list is
  pub listed_more : (list : List Mount) (i : ℕ) (default : Mount) → i < length list
      → EachListed index (take i list) → IsListed index (get_or list i default) → EachListed index (take (i + 1) list)
  listed_more list i default less each listed =
      subst (EachListed index) (sym (take_more list i default less)) (listed_push (take i list) (get_or list i default) each listed)

-- counts and types are told by their numbers

-- types with one meaning are one
pub kind_same : (a b : Propagation) → propagation_of a ≡ propagation_of b → a ≡ b
kind_same (Shared a) (Shared b) e = λ i. Shared (record { count = counted_same a.count b.count (shared_same e) i })
  where
    shared_same : {x y : ℕ} → MeansShared x ≡ MeansShared y → x ≡ y
    shared_same e = cc
kind_same (Shared a) (Slave b) e = absurd cc
kind_same (Shared a) Private e = absurd cc
kind_same (Shared a) Unbindable e = absurd cc
kind_same (Slave a) (Shared b) e = absurd cc
kind_same (Slave a) (Slave b) e = λ i. Slave (record { count = counted_same a.count b.count (slave_same e) i })
  where
    slave_same : {x y : ℕ} → MeansSlave x ≡ MeansSlave y → x ≡ y
    slave_same e = cc
kind_same (Slave a) Private e = absurd cc
kind_same (Slave a) Unbindable e = absurd cc
kind_same Private (Shared b) e = absurd cc
kind_same Private (Slave b) e = absurd cc
kind_same Private Private e = refl
kind_same Private Unbindable e = absurd cc
kind_same Unbindable (Shared b) e = absurd cc
kind_same Unbindable (Slave b) e = absurd cc
kind_same Unbindable Private e = absurd cc
kind_same Unbindable Unbindable e = refl

-- what is found under a number is kept under a count
pub kept_kind : (es : List (ℕ × Propagation)) (count : ℕ) (kind : Propagation)
    → lookup (nat_eq (counted count)) (map numbered_peer es) ≡ Some (propagation_of kind)
    → lookup (is_at (nat_cmp count)) es ≡ Some kind
kept_kind es count kind is = by (lookup (is_at (nat_cmp count)) es) (sym (lookup-numbered propagation_of count es) ∙ is)
  where
    by : (found : Option Propagation) → option_map propagation_of found ≡ Some (propagation_of kind) → found ≡ Some kind
    by None is = absurd (true≢false (sym (ap is_some is)))
    by (Some one) is = ap Some (kind_same one kind (same_Some (propagation_of one) (propagation_of kind) is))

-- a mount that the groups have as shared has that type in the map
pub kept_shared : (es : List (ℕ × Propagation)) (count : ℕ) (group : GroupId)
    → unwrap_or (lookup (nat_eq (counted count)) (map numbered_peer es)) MeansPrivate ≡ MeansShared (group_number group)
    → lookup (is_at (nat_cmp count)) es ≡ Some (Shared group)
kept_shared es count group is =
    kept_kind es count (Shared group) (by (lookup (nat_eq (counted count)) (map numbered_peer es)) is)
  where
    by : (found : Option (Type_of_mount ℕ)) → unwrap_or found MeansPrivate ≡ MeansShared (group_number group)
        → found ≡ Some (MeansShared (group_number group))
    by None is = absurd cc
    by (Some kind) is = ap Some is

-- a master that the groups have is that of the map
pub kept_master : (es : List (ℕ × GroupId)) (count : ℕ) (master : GroupId)
    → lookup (nat_eq (counted count)) (map numbered_master es) ≡ Some (group_number master)
    → lookup (is_at (nat_cmp count)) es ≡ Some master
kept_master es count master is =
    by (lookup (is_at (nat_cmp count)) es) (sym (lookup-numbered group_number count es) ∙ is)
  where
    by : (found : Option GroupId) → option_map group_number found ≡ Some (group_number master) → found ≡ Some master
    by None is = absurd (true≢false (sym (ap is_some is)))
    by (Some one) is = ap Some (λ i. record {
      count = counted_same one.count master.count (same_Some (group_number one) (group_number master) is) i;
    })

-- a type of the map is that of the groups
pub seen_kind : (es : List (ℕ × Propagation)) (count : ℕ) (kind : Propagation)
    → lookup (is_at (nat_cmp count)) es ≡ Some kind
    → lookup (nat_eq (counted count)) (map numbered_peer es) ≡ Some (propagation_of kind)
seen_kind es count kind is = lookup-numbered propagation_of count es ∙ ap (option_map propagation_of) is

-- a master of the map is that of the groups
pub seen_master : (es : List (ℕ × GroupId)) (count : ℕ) (master : GroupId)
    → lookup (is_at (nat_cmp count)) es ≡ Some master
    → lookup (nat_eq (counted count)) (map numbered_master es) ≡ Some (group_number master)
seen_master es count master is = lookup-numbered group_number count es ∙ ap (option_map group_number) is

-- each that is found is listed

-- each mount of the groups is listed in the index under its type
abbrev pub FoundListed : Index → List (ℕ × Type_of_mount ℕ) → Type 0
FoundListed index peers =
    (mount : ℕ) (kind : Propagation) → lookup (nat_eq (counted mount)) peers ≡ Some (propagation_of kind)
    → is_listed index (mount_at mount) kind ≡ true

-- each group with a master is listed in the index under it
abbrev pub FoundLower : Index → List (ℕ × ℕ) → Type 0
FoundLower index masters =
    (lower : ℕ) (upper : GroupId) → lookup (nat_eq (counted lower)) masters ≡ Some (group_number upper)
    → is_lower index (group_at lower) upper ≡ true

typed_listed : (index : Index) (one : MountId) (type : Propagation) (peers : List (ℕ × Type_of_mount ℕ))
    → (is_some (source_of (propagation_of type)) ≡ true → is_listed index one type ≡ true)
    → FoundListed index peers → FoundListed index (with_type_of peers (counted one.count, propagation_of type))
typed_listed index one type peers listed found = by (source_of (propagation_of type)) refl
  where
    here : (b : Bool) (mount : ℕ) (kind : Propagation) → nat_eq (counted mount) (counted one.count) ≡ b
        → is_some (source_of (propagation_of type)) ≡ true
        → cond b (Some (propagation_of type)) (lookup (nat_eq (counted mount)) peers) ≡ Some (propagation_of kind)
        → is_listed index (mount_at mount) kind ≡ true
    here true mount kind same sourced is = (λ i. is_listed index (mount_at (counted_same mount one.count
        (eqb-true (counted mount) (counted one.count) same) i))
        (kind_same kind type (sym (same_Some (propagation_of type) (propagation_of kind) is)) i)) ∙ listed sourced
    here false mount kind apart sourced is = found mount kind is

    by : (source : Option ℕ) → source_of (propagation_of type) ≡ source → FoundListed index (if_sourced source peers
        (insert_entry nat_cmp peers (counted one.count) (propagation_of type)))
    by None is mount kind at = found mount kind at
    by (Some source) is mount kind at =
        here (nat_eq (counted mount) (counted one.count)) mount kind refl (ap is_some is)
        (sym (lookup-inserted (counted mount) (counted one.count) (propagation_of type) peers) ∙ at)

-- where the new mounts are listed, all mounts are
pub all_listed : (index : Index) (mounts : List Mount) (peers : List (ℕ × Type_of_mount ℕ)) → EachListed index mounts
    → FoundListed index peers → FoundListed index (folded with_type_of peers (map typed mounts))
all_listed index [] peers each found = found
all_listed index (one ∷ mounts) peers each found =
    all_listed index mounts (with_type_of peers (typed one)) each.1 (typed_listed index one.number one.propagation peers each.0 found)

mastered_lower : (index : Index) (group : GroupId) (master : Option GroupId) (masters : List (ℕ × ℕ))
    → IsJoined index group master → are_rising (keys masters) ≡ true → FoundLower index masters
    → FoundLower index (with_entry_of (counted group.count) (option_map group_number master) masters)
mastered_lower index group None masters joined rising found lower upper at =
    by (nat_eq (counted lower) (counted group.count))
    (sym (lookup-removed (counted lower) (counted group.count) masters rising) ∙ at)
  where
    by : (b : Bool) → cond b None (lookup (nat_eq (counted lower)) masters) ≡ Some (group_number upper)
        → is_lower index (group_at lower) upper ≡ true
    by true is = absurd (true≢false (sym (ap is_some is)))
    by false is = found lower upper is
mastered_lower index group (Some master) masters joined rising found lower upper at =
    by (nat_eq (counted lower) (counted group.count)) refl
    (sym (lookup-inserted (counted lower) (counted group.count) (group_number master) masters) ∙ at)
  where
    by : (b : Bool) → nat_eq (counted lower) (counted group.count) ≡ b
        → cond b (Some (group_number master)) (lookup (nat_eq (counted lower)) masters) ≡ Some (group_number upper)
        → is_lower index (group_at lower) upper ≡ true
    by true same is = (λ i. is_lower index (group_at (counted_same lower group.count
        (eqb-true (counted lower) (counted group.count) same) i)) (record {
          count = counted_same upper.count master.count
              (sym (same_Some (group_number master) (group_number upper) is)) i;
        })) ∙ joined
    by false apart is = found lower upper is

rising_master : (group : ℕ) (master : Option ℕ) (masters : List (ℕ × ℕ)) → are_rising (keys masters) ≡ true
    → are_rising (keys (with_entry_of group master masters)) ≡ true
rising_master group None masters rising = rising-removed group masters rising
rising_master group (Some master) masters rising = rising-inserted group master masters rising

-- where the new groups are joined, all groups with masters are listed
pub all_lower : (index : Index) (new : List NewGroup) (masters : List (ℕ × ℕ)) → EachJoined index new
    → are_rising (keys masters) ≡ true → FoundLower index masters
    → FoundLower index (folded with_master_of masters (map new_group new))
all_lower index [] masters each rising found = found
all_lower index (one ∷ new) masters each rising found =
    all_lower index new (with_master_of masters (new_group one)) each.1
    (rising_master (counted one.group.count) (option_map group_number one.master) masters rising)
    (mastered_lower index one.group one.master masters each.0 rising found)

-- mounts that become shared

shared_still : (old new : Index) (lower : (low up : GroupId) → is_lower old low up ≡ true → is_lower new low up ≡ true)
    (kept : (mount : MountId) (kind : Propagation) → is_listed old mount kind ≡ true → is_listed new mount kind ≡ true)
    (was : Option Propagation) (mount : MountId) (group : GroupId) → IsShared old was mount group
    → IsShared new was mount group
shared_still old new lower kept was mount group shared =
    (kept mount (kind_shared was group) shared.0, joined_still old new lower kept group (master_shared was) shared.1)

-- mounts that are shared stay so in an index that keeps what is listed
pub each_shared_still : (old new : Index)
    (lower : (low up : GroupId) → is_lower old low up ≡ true → is_lower new low up ≡ true)
    (kept : (mount : MountId) (kind : Propagation) → is_listed old mount kind ≡ true → is_listed new mount kind ≡ true)
    (types : Numbered Propagation) (list : List (MountId × GroupId)) → EachShared old types list
    → EachShared new types list
each_shared_still old new lower kept types [] each = tt
each_shared_still old new lower kept types (pair ∷ list) each = (
  shared_still old new lower kept (value_at types pair.0.count) pair.0 pair.1 each.0,
  each_shared_still old new lower kept types list each.1,
)

shared_push : (index : Index) (types : Numbered Propagation) (list : List (MountId × GroupId)) (one : MountId × GroupId)
    → EachShared index types list → IsShared index (value_at types one.0.count) one.0 one.1
    → EachShared index types (list ++ one ∷ [])
shared_push index types [] one each shared = (shared, tt)
shared_push index types (first ∷ list) one each shared = (each.0, shared_push index types list one each.1 shared)

-- where one more mount is shared, one more of the list is
pub shared_more : (index : Index) (types : Numbered Propagation) (list : List (MountId × GroupId)) (i : ℕ)
    (default : MountId × GroupId) → i < length list → EachShared index types (take i list)
    → IsShared index (value_at types (get_or list i default).0.count) (get_or list i default).0 (get_or list i default).1
    → EachShared index types (take (i + 1) list)
shared_more index types list i default less each shared =
    subst (EachShared index types) (sym (take_more list i default less))
    (shared_push index types (take i list) (get_or list i default) each shared)

module _ (groups : Grouping) (types : Numbered Propagation)
    (told : (count : ℕ) → type_or_private (value_at types count) ≡ propagation_in groups (counted count)) where
  type_seen : (pair : MountId × GroupId) → type_after (counted pair.1.count) ToShared (propagation_in groups (counted pair.0.count))
      ≡ propagation_of (kind_shared (value_at types pair.0.count) pair.1)
  type_seen pair =
      ap (type_after (counted pair.1.count) ToShared) (sym (told pair.0.count)) ∙ by (value_at types pair.0.count)
    where
      by : (was : Option Propagation) → type_after (counted pair.1.count) ToShared (type_or_private was)
          ≡ propagation_of (kind_shared was pair.1)
      by None = refl
      by (Some (Shared own)) = refl
      by (Some (Slave master)) = refl
      by (Some Private) = refl
      by (Some Unbindable) = refl

  group_seen : (pair : MountId × GroupId) → master_after (propagation_in groups (counted pair.0.count))
      ≡ option_map group_number (master_shared (value_at types pair.0.count))
  group_seen pair = ap master_after (sym (told pair.0.count)) ∙ by (value_at types pair.0.count)
    where
      by : (was : Option Propagation) → master_after (type_or_private was) ≡ option_map group_number (master_shared was)
      by None = refl
      by (Some (Shared own)) = refl
      by (Some (Slave master)) = refl
      by (Some Private) = refl
      by (Some Unbindable) = refl

  -- where the named mounts are shared, all mounts are listed under their new types
  pub all_shared_listed : (index : Index) (named : List (MountId × GroupId)) (peers : List (ℕ × Type_of_mount ℕ))
      → EachShared index types named → FoundListed index peers
      → FoundListed index (folded with_type_of peers (map (λ pair. shared_type groups (pair_of pair)) named))
  all_shared_listed index [] peers each found = found
  all_shared_listed index (pair ∷ named) peers each found =
      all_shared_listed index named (with_type_of peers (shared_type groups (pair_of pair))) each.1
      (subst (λ type. FoundListed index (with_type_of peers (counted pair.0.count, type))) (sym (type_seen pair))
      (typed_listed index pair.0 (kind_shared (value_at types pair.0.count) pair.1) peers (λ sourced. each.0.0) found))

  -- and all groups under their masters
  pub all_shared_lower : (index : Index) (named : List (MountId × GroupId)) (masters : List (ℕ × ℕ))
      → EachShared index types named → are_rising (keys masters) ≡ true → FoundLower index masters
      → FoundLower index (folded with_master_of masters (map (λ pair. shared_group groups (pair_of pair)) named))
  all_shared_lower index [] masters each rising found = found
  all_shared_lower index (pair ∷ named) masters each rising found =
      all_shared_lower index named (with_master_of masters (shared_group groups (pair_of pair))) each.1
      (rising_master (counted pair.1.count) (master_after (propagation_in groups (counted pair.0.count))) masters rising)
      (subst (λ master. FoundLower index (with_master_of masters (counted pair.1.count, master))) (sym (group_seen pair))
      (mastered_lower index pair.1 (master_shared (value_at types pair.0.count)) masters each.0.1 rising found))
