-- The peer groups of worlds: what leaves them as they are, and that there are none where no mount is in one.
use Rattle.std.proofs.Common.{◌≡◌, refl, sym, ap, subst, ◌∙◌, ℕ, nat_eq, nat_lt, Bool, true, false, true≢false, cond, not, ◌&&◌, ◌||◌, List, [], ◌∷◌, map, filter, Option, None, option_map, is_some, arith}
use Rattle.vt_spec.proofs.Common.{IsWorld, Mount, Private, Propagation, Shared, Slave, Unbindable, World, and_parts, common_steps, cons_option, detached, has_members, is_located, is_nowhere_or_attached, is_private, list_all, list_any, mount_lives, or_false_left, settled, source_of}
use Rattle.vt_mounting.proofs.Common.{Among, Grouping, Has, IsHeld, WorldValue, among-from_map, among_from_list_all, is_ungrouped, master_in, mounts_in, numbers_of, peers_of}
use Rattle.vt_group.specs.Grouping.{are_rising}
use Rattle.vt_group.specs.Steps.{is_member}
use Rattle.vt_group.proofs.Peers.{members-peers}

-- The same mounts in groups

-- a group has members where the shared mounts and slaves stay
pub members_alike : (one other : List (Mount ℕ)) → peers_of one ≡ peers_of other → (group : ℕ)
    → has_members nat_eq one group ≡ has_members nat_eq other group
members_alike one other same group =
    sym (members-peers group one) ∙ ap (list_any (is_member group)) same ∙ members-peers group other

-- a world with the same shared mounts and slaves has the same groups
pub alike_has : {world : World ℕ} (after : World ℕ) {groups : Grouping} → Has world groups
    → are_rising (numbers_of after.mounts) ≡ true
    → peers_of after.mounts ≡ peers_of world.mounts → ((group : ℕ) → after.master group ≡ world.master group)
    → Has after groups
alike_has {world} after has rising peers master = record {
  order = rising;
  peers = has.peers ∙ sym peers;
  masters_order = has.masters_order;
  masters = λ group. has.masters group
      ∙ (λ i. cond (members_alike world.mounts after.mounts (sym peers) group i) (sym (master group) i) None);
}

-- the same mounts, and the same masters
pub same_has : {world : World ℕ} (after : World ℕ) {groups : Grouping} → Has world groups → after.mounts ≡ world.mounts
    → ((group : ℕ) → after.master group ≡ world.master group) → Has after groups
same_has {world} after {groups} has mounts master =
    alike_has after has (ap (λ all. are_rising (numbers_of all)) mounts ∙ has.order) (ap peers_of mounts) master

-- Mounts that keep their numbers

numbers_mapped : (change : Mount ℕ → Mount ℕ) → ((mount : Mount ℕ) → (change mount).number ≡ mount.number)
    → (mounts : List (Mount ℕ)) → numbers_of (map change mounts) ≡ numbers_of mounts
numbers_mapped change same [] = refl
numbers_mapped change same (mount ∷ rest) = λ i. same mount i ∷ numbers_mapped change same rest i

-- numbers rise where mounts keep them
pub rising_mapped : (change : Mount ℕ → Mount ℕ) → ((mount : Mount ℕ) → (change mount).number ≡ mount.number)
    → (mounts : List (Mount ℕ))
    → are_rising (numbers_of mounts) ≡ true → are_rising (numbers_of (map change mounts)) ≡ true
rising_mapped change same mounts rising = ap are_rising (numbers_mapped change same mounts) ∙ rising

-- What nothing uses goes

above_kept : (number : ℕ) (p : Mount ℕ → Bool) (mounts : List (Mount ℕ))
    → list_all (nat_lt number) (numbers_of mounts) ≡ true
    → list_all (nat_lt number) (numbers_of (filter p mounts)) ≡ true
above_kept number p [] all = refl
above_kept number p (mount ∷ rest) all = grind (arith, common_steps, above_kept number p rest)

rising_kept : (p : Mount ℕ → Bool) (mounts : List (Mount ℕ)) → are_rising (numbers_of mounts) ≡ true
    → are_rising (numbers_of (filter p mounts)) ≡ true
rising_kept p [] rising = refl
rising_kept p (mount ∷ rest) rising = grind (arith, common_steps, rising_kept p rest, above_kept)

-- an ungrouped mount has no source
pub no_source : (kind : Propagation ℕ) → is_ungrouped kind ≡ true → source_of kind ≡ None
no_source (Shared group) e = absurd (true≢false (sym e))
no_source (Slave master) e = absurd (true≢false (sym e))
no_source Private e = refl
no_source Unbindable e = refl

-- an ungrouped mount is no peer
pub no_peer : (mount : Mount ℕ) (rest : List (ℕ × Propagation ℕ)) → is_ungrouped mount.propagation ≡ true
    → cons_option (option_map (λ source. (mount.number, mount.propagation)) (source_of mount.propagation)) rest ≡ rest
no_peer mount rest free = ap (λ o. cons_option (option_map (λ (source : ℕ). (mount.number, mount.propagation)) o) rest)
    (no_source mount.propagation free)

peers_kept : (p : Mount ℕ → Bool) (mounts : List (Mount ℕ))
    → ((mount : Mount ℕ) → Among mount mounts → p mount ≡ false → is_ungrouped mount.propagation ≡ true)
    → peers_of (filter p mounts) ≡ peers_of mounts
peers_kept p [] free = refl
peers_kept p (mount ∷ rest) free = grind (arith, common_steps, peers_kept p rest, no_peer)

-- the groups stay as they are where the mounts that go are in none
pub settled_has : (world : World ℕ) (groups : Grouping) → Has world groups
    → ((mount : Mount ℕ) → Among mount world.mounts → mount_lives nat_eq world mount ≡ false
    → is_ungrouped mount.propagation ≡ true) → Has (settled nat_eq world) groups
settled_has world groups has free = record {
  order = rising_kept (mount_lives nat_eq world) world.mounts has.order;
  peers = has.peers ∙ sym same;
  masters_order = has.masters_order;
  masters = λ group. has.masters group ∙ ap (λ b. cond b (world.master group) None)
      (members_alike world.mounts (filter (mount_lives nat_eq world) world.mounts) (sym same) group)
      ∙ twice (has_members nat_eq (filter (mount_lives nat_eq world) world.mounts) group) (world.master group);
}
  where
    same : peers_of (filter (mount_lives nat_eq world) world.mounts) ≡ peers_of world.mounts
    same = peers_kept (mount_lives nat_eq world) world.mounts free

    twice : (b : Bool) (o : Option ℕ) → cond b o None ≡ cond b (cond b o None) None
    twice true o = refl
    twice false o = refl

-- a mount that is in no namespace is private, and in no group
private_is : (kind : Propagation ℕ) → is_private kind ≡ true → kind ≡ Private
private_is (Shared group) e = absurd (true≢false (sym e))
private_is (Slave master) e = absurd (true≢false (sym e))
private_is Private e = refl
private_is Unbindable e = absurd (true≢false (sym e))

nowhere_is_private : (mount : Mount ℕ) → is_nowhere_or_attached mount ≡ true → is_some mount.namespace ≡ false
    → mount.propagation ≡ Private
nowhere_is_private mount outside none = private_is mount.propagation
    (and_parts _ _ (sym (ap (λ b. b || (not (is_some mount.mount_point) && is_private mount.propagation)) none)
    ∙ outside)).1

nowhere_is_free : (mount : Mount ℕ) → is_nowhere_or_attached mount ≡ true → is_some mount.namespace ≡ false
    → is_ungrouped mount.propagation ≡ true
nowhere_is_free mount outside none = ap is_ungrouped (nowhere_is_private mount outside none)

-- also once some mounts are detached
pub stays_private : (mount : Mount ℕ) → is_nowhere_or_attached mount ≡ true → (gone : Bool)
    → is_some (cond gone (detached mount) mount).namespace ≡ false
    → (cond gone (detached mount) mount).propagation ≡ Private
stays_private mount outside true none = refl
stays_private mount outside false none = nowhere_is_private mount outside none

-- where the mounts are those of a held world, so are the groups once what nothing uses is gone
pub left_has : (value : WorldValue) → IsHeld value → (next : World ℕ) → next.mounts ≡ mounts_in value.mounts
    → ((group : ℕ) → next.master group ≡ master_in value.groups group) → Has (settled nat_eq next) value.groups
left_has value held next mounts master =
    settled_has next value.groups (same_has next held.groups mounts master) (λ mount m dead. nowhere_is_free mount
    (among_from_list_all is_nowhere_or_attached (mounts_in value.mounts) held.in_world.mounts.nowhere mount
    (subst (Among mount) mounts m))
    (or_false_left (is_some mount.namespace) (is_located nat_eq next mount.number) dead))

-- or mounts keep their numbers, their namespaces and their types
peers_mapped : (change : Mount ℕ → Mount ℕ) → ((mount : Mount ℕ) → (change mount).number ≡ mount.number)
    → ((mount : Mount ℕ) → (change mount).propagation ≡ mount.propagation) → (mounts : List (Mount ℕ))
    → peers_of (map change mounts) ≡ peers_of mounts
peers_mapped change number kind [] = refl
peers_mapped change number kind (mount ∷ rest) = λ i.
    cons_option (option_map (λ source. (number mount i, kind mount i)) (source_of (kind mount i)))
    (peers_mapped change number kind rest i)

-- a world whose mounts change but for their types has the groups that it had
pub changed_has : (value : WorldValue) → IsHeld value → (next : World ℕ) (change : Mount ℕ → Mount ℕ)
    → next.mounts ≡ map change (mounts_in value.mounts)
    → ((group : ℕ) → next.master group ≡ master_in value.groups group)
    → ((mount : Mount ℕ) → (change mount).number ≡ mount.number)
    → ((mount : Mount ℕ) → (change mount).namespace ≡ mount.namespace)
    → ((mount : Mount ℕ) → (change mount).propagation ≡ mount.propagation) → Has (settled nat_eq next) value.groups
changed_has value held next change mounts master number namespace kind = settled_has next value.groups
    (alike_has next held.groups (ap (λ all. are_rising (numbers_of all)) mounts
    ∙ rising_mapped change number (mounts_in value.mounts) held.groups.order)
    (ap peers_of mounts ∙ peers_mapped change number kind (mounts_in value.mounts)) master) (λ mount m dead.
    let from = among-from_map change (mounts_in value.mounts) mount (subst (Among mount) mounts m) in
    ap (λ (x : Mount ℕ). is_ungrouped x.propagation) from.2 ∙ ap is_ungrouped (kind from.0)
    ∙ nowhere_is_free from.0 (among_from_list_all is_nowhere_or_attached
    (mounts_in value.mounts) held.in_world.mounts.nowhere from.0 from.1) (sym (namespace_is from.0 mount from.2)
    ∙ or_false_left (is_some mount.namespace) (is_located nat_eq next mount.number) dead))
  where
    namespace_is : (was mount : Mount ℕ) → mount ≡ change was → is_some mount.namespace ≡ is_some was.namespace
    namespace_is was mount is = ap (λ (x : Mount ℕ). is_some x.namespace) is ∙ ap is_some (namespace was)

-- What is seen of a world with these groups

-- once settled, its masters are those of its groups
pub master_is : (world : World ℕ) (groups : Grouping) → IsWorld nat_eq world → Has world groups → (group : ℕ)
    → world.master group ≡ master_in groups group
master_is world groups is has group = ap (λ (w : World ℕ). w.master group) (sym is.nothing_unused)
    ∙ ap (λ (all : List (Mount ℕ)). cond (has_members nat_eq all group) (world.master group) None)
    (ap (λ (w : World ℕ). w.mounts) is.nothing_unused) ∙ sym (has.masters group)
