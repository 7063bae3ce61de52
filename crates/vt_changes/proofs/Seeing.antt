-- The mounts of namespaces as they are kept, and as a world has them.
use Rattle.std.proofs.Common.{arith, ◌≡◌, ◌≤◌, ◌<◌, ◌+◌, ◌-◌, ◌==◌, length, drop, take, get_or, append-nil, ne_eqb, refl, sym, ap, subst, ◌∙◌, ⊎_elim, ℕ, nat_eq, Bool, true, false, true≢false, cond, ◌&&◌, ◌||◌, List, [], ◌∷◌, ◌++◌, append_assoc, map, filter_map, find, Option, Some, None, is_some, option_map, option_to_list, eqb-true}
use Rattle.std.specs.List.{cons_option, list_all, list_any}
use Rattle.std.proofs.Math.Bool.{or-false}
use Rattle.std.proofs.Math.Seq.{take-length}
use Rattle.std.specs.Map.{lookup}
use Rattle.std.specs.declared.vec.Vec.{Vec}
use Rattle.indexmap.specs.IndexMap.{insert_entry}
use Rattle.vt_spec.proofs.Common.{Among, Mount, Namespace, World, among_from_list_all, and_parts, common_steps, drop_all, drop_more, filter_none, holds_of, is_among, map-append, mounts_of, nat_eq-swapped, none_from_among}
use Rattle.vt_spec.specs.Machine.Invariants.{NamespaceInvariants, is_listed}
use Rattle.vt_location.specs.MountValue.{mount_of}
use Rattle.vt_location.specs.declared.mounts.Mount.{Mount as Held}
use Rattle.vt_location.specs.declared.numbers.MountId.{MountId}
use Rattle.vt_location.specs.declared.numbers.NamespaceId.{NamespaceId}
use Rattle.vt_location.specs.Numbers.{counted, namespace_number}
use Rattle.vt_mount.proofs.AttachedLemmas.{attached_picked}
use Rattle.vt_mount.specs.Attached.{AreOf, attached_in}
use Rattle.vt_mount.specs.MountsValue.{MountEntry, are_ascending, mounts_in}
use Rattle.vt_world.specs.WorldValue.{WorldValue, world_of}
use Rattle.vt_changes.specs.Kept.{is_namespace}
use Rattle.vt_changes.specs.SeenMounts.{SeenMount, list_kept, mounts_kept, mounts_seen, same_all, same_seen, seen_in, seen_of}
use Rattle.vt_changes.specs.declared.mounts.Seen.{Seen}
use Rattle.vt_changes.proofs.Numbered.{any_dropped, insert_by, namespace_test}

-- the mount of a number, as it is seen
abbrev pub pick : World ℕ → MountId → Option SeenMount
pick world id =
    option_map (seen_in world) (find (λ (mount : Mount ℕ). nat_eq (counted id.count) mount.number) world.mounts)

-- a mount that is got is seen
pub got : (value : WorldValue) (entries : List MountEntry) → entries ≡ value.mounts → (first : MountId)
    (result : Option Held) → option_map mount_of result
    ≡ find (λ (mount : Mount ℕ). nat_eq (counted first.count) mount.number) (mounts_in entries)
    → pick (world_of value) first ≡ option_map (seen_in (world_of value)) (option_map mount_of result)
got value entries same first result found = ap (option_map (seen_in (world_of value)))
    (ap (λ (list : List MountEntry). find (λ (mount : Mount ℕ). nat_eq (counted first.count) mount.number)
    (mounts_in list)) (sym same) ∙ sym found)

-- one more mount is seen, or none is
module _ (world : World ℕ) (ids : List MountId) (i : ℕ) (d : MountId) (less : i < length ids) where
  abbrev left : List SeenMount
  left = filter_map (pick world) (drop (i + 1) ids)

  pub some_more : (one : SeenMount) → pick world (get_or ids i d) ≡ Some one
      → filter_map (pick world) (drop i ids) ≡ one ∷ left
  some_more one is = ap (filter_map (pick world)) (drop_more ids i d less) ∙ ap (λ found. cons_option found left) is

  pub none_more : pick world (get_or ids i d) ≡ None → filter_map (pick world) (drop i ids) ≡ left
  none_more is = ap (filter_map (pick world)) (drop_more ids i d less) ∙ ap (λ found. cons_option found left) is

  -- it is put last
  pub put_last : (items new : List Seen) (one : Seen) → new ≡ items ++ (one ∷ [])
      → pick world (get_or ids i d) ≡ Some (seen_of one)
      → map seen_of new ++ left ≡ map seen_of items ++ filter_map (pick world) (drop i ids)
  put_last items new one pushed is =
      ap (λ list. map seen_of list ++ left) pushed
      ∙ ap (λ list. list ++ left) (map-append seen_of items (one ∷ []))
      ∙ append_assoc (map seen_of items) (seen_of one ∷ []) left
      ∙ ap (λ rest. map seen_of items ++ rest) (sym (some_more (seen_of one) is))

  -- it is, or is not, what is expected next
  pub same_first : (was : List Seen) (e : Seen) → 1 ≤ length was → (one : SeenMount)
      → pick world (get_or ids i d) ≡ Some one
      → same_all (map seen_of was) (filter_map (pick world) (drop i ids))
      ≡ (same_seen (seen_of (get_or was 0 e)) one && same_all (map seen_of (drop 1 was)) left)
  same_first [] e some one is = absurd (omega (arith, some))
  same_first (a ∷ was) e some one is = ap (same_all (map seen_of (a ∷ was))) (some_more one is)

  pub none_expected : (was : List Seen) → length was < 1 → (one : SeenMount) → pick world (get_or ids i d) ≡ Some one
      → same_all (map seen_of was) (filter_map (pick world) (drop i ids)) ≡ false
  none_expected [] none one is = ap (same_all []) (some_more one is)
  none_expected (a ∷ was) none one is = absurd (omega (arith, none))

-- the mounts that are seen in the end
pub all_seen : (value : WorldValue) (entries : List MountEntry) → entries ≡ value.mounts
    → are_ascending (mounts_in entries) ≡ true → (namespace : NamespaceId) (ids : List MountId)
    → AreOf ids (attached_in (namespace_number namespace) entries)
    → filter_map (pick (world_of value)) ids ≡ mounts_seen (world_of value) (namespace_number namespace)
all_seen value entries same ascending namespace ids are =
    ap (λ (list : List MountEntry). filter_map (λ (id : MountId). option_map (seen_in (world_of value))
    (find (λ (mount : Mount ℕ). nat_eq (counted id.count) mount.number) (mounts_in list))) ids) (sym same)
    ∙ attached_picked (namespace_number namespace) entries ascending ids are (seen_in (world_of value))
    ∙ ap (λ (list : List MountEntry). map (seen_in (world_of value)) (attached_in (namespace_number namespace) list)) same

-- at the end of a list of mounts
pub list_seen : (value : WorldValue) (entries : List MountEntry) → entries ≡ value.mounts
    → are_ascending (mounts_in entries) ≡ true → (namespace : NamespaceId) (ids : List MountId)
    → AreOf ids (attached_in (namespace_number namespace) entries) → (i : ℕ) → length ids ≤ i → (seen : List SeenMount)
    → seen ++ filter_map (pick (world_of value)) (drop i ids) ≡ filter_map (pick (world_of value)) ids
    → seen ≡ mounts_seen (world_of value) (namespace_number namespace)
list_seen value entries same ascending namespace ids are i past seen so =
    sym (append-nil seen)
    ∙ ap (λ rest. seen ++ filter_map (pick (world_of value)) rest) (sym (drop_all i ids past)) ∙ so
    ∙ all_seen value entries same ascending namespace ids are

pub none_left : (was : List Seen) → (length was == 0) ≡ same_all (map seen_of was) []
none_left [] = refl
none_left (a ∷ was) = ne_eqb (length (a ∷ was)) 0 (λ e. absurd (omega (arith, e)))

-- all but the first
pub behind_first : {A : Type 0} (list : List A) → take (length list - 1) (drop 1 list) ≡ drop 1 list
behind_first [] = refl
behind_first (a ∷ rest) =
    let less : length (a ∷ rest) - 1 ≡ length rest = omega arith in
    ap (λ n. take n rest) less ∙ take-length rest

-- A namespace that does not exist has no mounts
pub ids_told : (number : ℕ) (ids : List NamespaceId) (numbers : List ℕ) → map namespace_number ids ≡ numbers
    → list_any (is_namespace number) ids ≡ is_among nat_eq number numbers
ids_told number ids numbers same = by ids ∙ ap (is_among nat_eq number) same
  where
    by : (ids : List NamespaceId) → list_any (is_namespace number) ids ≡ is_among nat_eq number (map namespace_number ids)
    by [] = refl
    by (id ∷ rest) = ap (λ b. is_namespace number id || b) (by rest)

pub unlisted : (world : World ℕ)
    → list_all (λ (mount : Mount ℕ). list_all (is_listed nat_eq world) (option_to_list mount.namespace)) world.mounts
    ≡ true → (number : ℕ) → is_among nat_eq number (map (λ (n : Namespace ℕ). n.number) world.namespaces) ≡ false
    → mounts_of nat_eq world number ≡ []
unlisted world listed number none = filter_none (λ (mount : Mount ℕ). holds_of (nat_eq number) mount.namespace)
    world.mounts (none_from_among (λ (mount : Mount ℕ). holds_of (nat_eq number) mount.namespace) world.mounts
    (λ mount m. by mount.namespace (among_from_list_all
    (λ (mount : Mount ℕ). list_all (is_listed nat_eq world) (option_to_list mount.namespace)) world.mounts listed mount
    m)))
  where
    by : (namespace : Option ℕ) → list_all (is_listed nat_eq world) (option_to_list namespace) ≡ true
        → holds_of (nat_eq number) namespace ≡ false
    by None e = refl
    by (Some other) e = at (nat_eq number other) refl
      where
        at : (b : Bool) → nat_eq number other ≡ b → b ≡ false
        at false f = refl
        at true f = absurd (true≢false (sym (and_parts (is_listed nat_eq world other) true e).0
            ∙ ap (λ n. is_among nat_eq n (map (λ (n : Namespace ℕ). n.number) world.namespaces))
            (sym (eqb-true number other f)) ∙ none))

-- Mounts of namespaces, put in one after another
module _ {A : Type 0} (entries : List (NamespaceId × Vec Seen A)) (first : NamespaceId) (mounts : Vec Seen A) where
  abbrev then_kept : List (NamespaceId × Vec Seen A)
  then_kept = insert_entry (λ (a b : NamespaceId). nat_eq a.count b.count) entries first mounts

  put : (number : ℕ) → lookup (is_namespace number) then_kept
      ≡ cond (is_namespace number first) (Some mounts) (lookup (is_namespace number) entries)
  put number = insert_by (λ (a b : NamespaceId). nat_eq a.count b.count) (λ a b. nat_eq-swapped b.count a.count _ refl)
      (is_namespace number) (namespace_test number) first mounts entries

  pub put_kept : (world : World ℕ) (all : List NamespaceId) (i : ℕ) (d : NamespaceId) → i < length all
      → first ≡ get_or all i d → map seen_of mounts.items ≡ mounts_seen world (namespace_number first)
      → ((number : ℕ) → list_any (is_namespace number) (drop i all) ≡ false
      → mounts_kept entries number ≡ cond (list_any (is_namespace number) all) (mounts_seen world number) [])
      → (number : ℕ) → list_any (is_namespace number) (drop (i + 1) all) ≡ false
      → mounts_kept then_kept number ≡ cond (list_any (is_namespace number) all) (mounts_seen world number) []
  put_kept world all i d less is seen before number none =
      ap list_kept (put number) ∙ by (is_namespace number first) refl
    where
      left : list_any (is_namespace number) (drop i all) ≡ is_namespace number first
      left = ap (list_any (is_namespace number)) (drop_more all i d less)
          ∙ (λ k. is_namespace number (sym is k) || none k) ∙ or-false (is_namespace number first)

      by : (b : Bool) → is_namespace number first ≡ b → list_kept (cond b (Some mounts) (lookup (is_namespace number) entries))
          ≡ cond (list_any (is_namespace number) all) (mounts_seen world number) []
      by true e = seen ∙ ap (mounts_seen world) (sym (eqb-true number (namespace_number first) e))
          ∙ ap (λ b. cond b (mounts_seen world number) [])
          (sym (any_dropped (is_namespace number) i all (left ∙ e)))
      by false e = before number (left ∙ e)

-- in the end they are those of the world
pub all_kept : {A : Type 0} (world : World ℕ) → NamespaceInvariants nat_eq world
    → (entries : List (NamespaceId × Vec Seen A)) (all : List NamespaceId)
    → map namespace_number all ≡ map (λ (n : Namespace ℕ). n.number) world.namespaces
    → (i : ℕ) → length all ≤ i → ((number : ℕ) → list_any (is_namespace number) (drop i all) ≡ false
    → mounts_kept entries number ≡ cond (list_any (is_namespace number) all) (mounts_seen world number) [])
    → (number : ℕ) → mounts_kept entries number ≡ mounts_seen world number
all_kept world is entries all listed i past kept number =
    kept number (ap (list_any (is_namespace number)) (drop_all i all past)) ∙ by (list_any (is_namespace number) all) refl
  where
    by : (b : Bool) → list_any (is_namespace number) all ≡ b → cond b (mounts_seen world number) [] ≡ mounts_seen world number
    by true e = refl
    by false e = sym (ap (map (seen_in world)) (unlisted world is.mounts_listed number
        (sym (ids_told number all (map (λ (n : Namespace ℕ). n.number) world.namespaces) listed) ∙ e)))
