-- The namespaces of the mounts of a world in which a tree is attached do not go by the numbers of its copies.
use Rattle.std.proofs.Common.{arith, ◌≡◌, refl, sym, ap, ◌∙◌, ℕ, nat_eq, eq-eqb, Bool, true, false, cond, ◌&&◌, List, [], ◌∷◌, ◌++◌, map, Option, flat_map}
use Rattle.vt_spec.proofs.Common.{Copies, Graft, Location, Mount, World, attached_by, common_steps, copies_at, copy_at, folded, graft_of, group_of, map-append, map_twice, mount_at, number-mount_in, parts_of, moved_onto_copy, rest_of, twig_of, with_mount}

abbrev pub namespaces_in : List (Mount ℕ) → List (Option ℕ)
namespaces_in mounts = map (λ (mount : Mount ℕ). mount.namespace) mounts

-- A mount in the place of the one with its number, by numbers and namespaces alone

abbrev key_of : Mount ℕ → ℕ × Option ℕ
key_of mount = (mount.number, mount.namespace)

abbrev keys_of : List (Mount ℕ) → List (ℕ × Option ℕ)
keys_of mounts = map key_of mounts

abbrev with_key : List (ℕ × Option ℕ) → ℕ × Option ℕ → List (ℕ × Option ℕ)
with_key keys new = map (λ old. cond (nat_eq new.0 old.0) new old) keys

put_key : (mounts : List (Mount ℕ)) (new : Mount ℕ)
    → keys_of (with_mount nat_eq mounts new) ≡ with_key (keys_of mounts) (key_of new)
put_key [] new = refl
put_key (mount ∷ rest) new = λ i. by (nat_eq new.number mount.number) i ∷ put_key rest new i
  where
    by : (b : Bool) → key_of (cond b new mount) ≡ cond b (key_of new) (key_of mount)
    by true = refl
    by false = refl

put_keys : (mounts copies : List (Mount ℕ))
    → keys_of (folded (with_mount nat_eq) mounts copies) ≡ folded with_key (keys_of mounts) (keys_of copies)
put_keys mounts [] = refl
put_keys mounts (copy ∷ copies) = cc (put_keys (with_mount nat_eq mounts copy) copies, put_key mounts copy)

namespaces_of_keys : (mounts : List (Mount ℕ)) → namespaces_in mounts ≡ map (λ key. key.1) (keys_of mounts)
namespaces_of_keys mounts = sym (map_twice _ key_of mounts)

-- The world after an attachment

module _ (world : World ℕ) (place : Location ℕ) (moves : Bool) (tree : List (Mount ℕ)) where
  abbrev destination : Mount ℕ
  destination = mount_at nat_eq world place

  abbrev parts : List (Mount ℕ)
  parts = parts_of nat_eq world place

  abbrev others : List (Mount ℕ) → List (Option ℕ)
  others rest = flat_map (λ (part : Mount ℕ). map (λ (mount : Mount ℕ). part.namespace) tree) rest

  module _ (new : Copies ℕ) where
    abbrev graft : Graft ℕ
    graft = graft_of nat_eq world new place moves tree

    pushed_stays : (mount : Mount ℕ) → (moved_onto_copy nat_eq world new graft parts mount).namespace ≡ mount.namespace
    pushed_stays mount = grind (arith, common_steps)

    all_pushed : (mounts : List (Mount ℕ))
        → namespaces_in (map (moved_onto_copy nat_eq world new graft parts) mounts) ≡ namespaces_in mounts
    all_pushed [] = refl
    all_pushed (mount ∷ rest) = λ i. pushed_stays mount i ∷ all_pushed rest i

    copied : (part : Mount ℕ) → namespaces_in (copies_at nat_eq world new graft parts part)
        ≡ map (λ (mount : Mount ℕ). part.namespace) tree
    copied part = map_twice _ _ _ ∙ map_twice _ _ tree

    all_copied : (rest : List (Mount ℕ))
        → namespaces_in (flat_map (copies_at nat_eq world new graft parts) rest) ≡ others rest
    all_copied [] = refl
    all_copied (part ∷ rest) =
        map-append (λ (mount : Mount ℕ). mount.namespace) (copies_at nat_eq world new graft parts part)
        (flat_map (copies_at nat_eq world new graft parts) rest) ∙ (λ i. copied part i ++ all_copied rest i)

  -- mounts that move keep their numbers
  module _ (moving : moves ≡ true) (new : Copies ℕ) where
    keys_there : keys_of (copies_at nat_eq world new (graft new) parts destination)
        ≡ map (λ (mount : Mount ℕ). (mount.number, destination.namespace)) tree
    keys_there = map_twice key_of (copy_at nat_eq world new (graft new) parts destination) (graft new).twigs
        ∙ map_twice (λ twig. key_of (copy_at nat_eq world new (graft new) parts destination twig))
        (twig_of new (group_of destination.propagation)) tree ∙ each tree
      where
        own : (number : ℕ) → cond (moves && nat_eq destination.number place.mount) number
            (new.copy destination.number number) ≡ number
        own number = (λ i. cond (moving i && eq-eqb destination.number place.mount
            (number-mount_in world.mounts place.mount) i) number (new.copy destination.number number))

        each : (list : List (Mount ℕ)) → map (λ (mount : Mount ℕ). key_of
            (copy_at nat_eq world new (graft new) parts destination
            (twig_of new (group_of destination.propagation) mount))) list
            ≡ map (λ (mount : Mount ℕ). (mount.number, destination.namespace)) list
        each [] = refl
        each (mount ∷ rest) = λ i. (own mount.number i, destination.namespace) ∷ each rest i

-- the namespaces that mounts have after an attachment
abbrev pub namespaces_after : Bool → List (Mount ℕ) → Mount ℕ → List (Mount ℕ) → List (Mount ℕ) → List (Option ℕ)
namespaces_after true mounts destination rest tree = (map (λ key. key.1) (folded with_key (keys_of mounts)
    (map (λ (mount : Mount ℕ). (mount.number, destination.namespace)) tree)) ++ [])
    ++ flat_map (λ (part : Mount ℕ). map (λ (mount : Mount ℕ). part.namespace) tree) rest
namespaces_after false mounts destination rest tree =
    (namespaces_in mounts ++ map (λ (mount : Mount ℕ). destination.namespace) tree)
    ++ flat_map (λ (part : Mount ℕ). map (λ (mount : Mount ℕ). part.namespace) tree) rest

namespaces-append : (one other : List (Mount ℕ))
    → namespaces_in (one ++ other) ≡ namespaces_in one ++ namespaces_in other
namespaces-append one other = map-append (λ (mount : Mount ℕ). mount.namespace) one other

pub attached_namespaces : (world : World ℕ) (place : Location ℕ) (moves : Bool) (tree : List (Mount ℕ)) (new : Copies ℕ)
    → namespaces_in (attached_by nat_eq world new place moves tree).mounts
    ≡ namespaces_after moves world.mounts (mount_at nat_eq world place) (rest_of (parts_of nat_eq world place)) tree
attached_namespaces world place true tree new =
    let copies = copies_at nat_eq world new (graft world place true tree new) (parts world place true tree)
    (destination world place true tree) in
    let moved = folded (with_mount nat_eq) world.mounts copies in
    let pushed = map (moved_onto_copy nat_eq world new (graft world place true tree new)
    (parts world place true tree)) moved in
    namespaces-append (pushed ++ []) _ ∙ (λ i. (namespaces-append pushed []
    ∙ ap (λ list. list ++ []) (all_pushed world place true tree new moved ∙ namespaces_of_keys moved
    ∙ ap (map (λ (key : ℕ × Option ℕ). key.1)) (put_keys world.mounts copies
    ∙ ap (folded with_key (keys_of world.mounts)) (keys_there world place true tree refl new)))) i
    ++ all_copied world place true tree new (rest_of (parts_of nat_eq world place)) i)
attached_namespaces world place false tree new =
    let copies = copies_at nat_eq world new (graft world place false tree new) (parts world place false tree)
    (destination world place false tree) in
    let pushed = map (moved_onto_copy nat_eq world new (graft world place false tree new)
    (parts world place false tree)) world.mounts in
    namespaces-append (pushed ++ copies) _ ∙ (λ i. (namespaces-append pushed copies
    ∙ (λ j. all_pushed world place false tree new world.mounts j
    ++ copied world place false tree new (destination world place false tree) j)) i
    ++ all_copied world place false tree new (rest_of (parts_of nat_eq world place)) i)
