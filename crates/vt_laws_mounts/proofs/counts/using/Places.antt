-- Locations and mounts as uses of inodes.
use Rattle.std.proofs.Common.{◌≡◌, refl, sym, ap, subst, ◌∙◌, ⊎_elim, inl, inr, ℕ, ◌+◌, nat_eq, eqb-true, eq-eqb, Bool, true, false, cond, not, ◌||◌, List, [], ◌∷◌, ◌++◌, map, filter, find, flat_map, Some, None, unwrap_or, arith, filter_map, option_to_list, append_assoc}
use Rattle.vt_spec.proofs.Common.{Filesystem, Location, Mount, World, all_locations, and_parts, any_pair, common_steps, filesystem_numbered, filter_alike, is_among, layers_in, layers_of, list_all, located_in, mount_in, named_in, new_directory, new_plain, no_filesystem, node_in, number-mount_in, objects_of_overlay, of_overlay, root_attr, root_of, targets_in, uses_in}
use Rattle.vt_laws_mounts.specs.LettingGo.Counts.{inode_uses, mounts_showing, times}
use Rattle.vt_laws_mounts.specs.LettingGo.Mounting.{inode_at}
use Rattle.vt_laws_mounts.specs.LettingGo.OneByOne.{Inode}
use Rattle.vt_laws_mounts.proofs.letting_go.Lists.{Among, among-append_left, among-append_right, among_from_list_all}
use Rattle.vt_laws_mounts.proofs.letting_go.leaving.PlacesLeft.{found_itself, no_layers_of}
use Rattle.vt_laws_mounts.proofs.counts.counting.Entries.{one_if}
use Rattle.vt_laws_mounts.proofs.counts.counting.Times.{times_in}
use Rattle.vt_laws_mounts.specs.Counts.Counted.{IsCounted}
use Rattle.vt_laws_mounts.specs.Counts.Going.{LocationsUseMounts, MountsUseFilesystems}
use Rattle.vt_laws_mounts.specs.Counts.Using.{ExchangesFollow, MountIsPlaced, OthersUseNothing, LocationsAreUses, MountsAreUses, NewTreeIsCounted, OpeningIsCounted, is_inode, is_on, is_outside, one_counted, places_of}
use Rattle.vt_laws_mounts.proofs.counts.using.Swept.{found_number, plain_of, uses_split}
use Rattle.vt_laws_mounts.proofs.letting_go.sweeps.UpperUses.{times_append}
use Rattle.vt_spec.proofs.Worlds.{mount_in-among}
use Rattle.vt_laws_mounts.proofs.letting_go.sweeps.Inodes.{no_objects_of}

-- how many of some locations are at an inode
module _ (mounts : List (Mount ℕ)) (k n : ℕ) where
  abbrev pub shown : Location ℕ → Bool
  shown location = nat_eq k (mount_in nat_eq mounts location.mount).filesystem

  abbrev pub count_in : List (Location ℕ) → ℕ
  count_in locations = times_in n (map (λ location. location.node) (filter shown locations))

  pub count_append : (one other : List (Location ℕ)) → count_in (one ++ other) ≡ count_in one + count_in other
  count_append [] other = omega arith
  count_append (first ∷ rest) other = grind (arith, common_steps, times_in, count_append rest other)

  abbrev place_inode : Location ℕ → Inode
  place_inode location = ((mount_in nat_eq mounts location.mount).filesystem, location.node)

  pub count_places : (locations : List (Location ℕ))
      → times (is_inode k n) (map place_inode locations) ≡ count_in locations
  count_places [] = refl
  count_places (first ∷ rest) = grind (arith, common_steps, times_in, count_places rest)

  pub count_none : (locations : List (Location ℕ)) → list_all (λ location. not (shown location)) locations ≡ true
      → count_in locations ≡ 0
  count_none [] e = refl
  count_none (first ∷ rest) e =
      let parts = and_parts (not (shown first)) (list_all (λ location. not (shown location)) rest) e in
      by _ parts.0 (count_none rest parts.1)
    where
      by : (b : Bool) → not b ≡ true → count_in rest ≡ 0
          → times_in n (map (λ location. location.node) (cond b (first ∷ filter shown rest) (filter shown rest))) ≡ 0
      by true h later = absurd cc
      by false h later = later

-- Worlds with the same filesystems
module _ (world after : World ℕ) (filesystems : after.filesystems ≡ world.filesystems) (k : ℕ) where
  abbrev f : Filesystem ℕ
  f = filesystem_numbered nat_eq world k

  pub same_found : filesystem_numbered nat_eq after k ≡ f
  same_found = λ i. unwrap_or (find (λ g. nat_eq k g.number) (filesystems i)) (no_filesystem k)

  abbrev located : World ℕ → ℕ → ℕ
  located w n = times_in n (located_in nat_eq w k)

  -- what is located more is used more
  pub located_uses : (n more less : ℕ) → located world n + more ≡ located after n + less
      → inode_uses world f n + more ≡ inode_uses after (filesystem_numbered nat_eq after k) n + less
  located_uses n more less e =
      let one = uses_split world f n in
      let two : inode_uses after (filesystem_numbered nat_eq after k) n
      ≡ inode_uses after f n = ap (λ g. inode_uses after g n) same_found in
      let three = uses_split after f n in
      let here : times_in n (located_in nat_eq world f.number) ≡ located world n =
      ap (λ m. times_in n (located_in nat_eq world m)) (found_number _ k) in
      let there : times_in n (located_in nat_eq after f.number) ≡ located after n =
      ap (λ m. times_in n (located_in nat_eq after m)) (found_number _ k) in
      let layers : times_in n (layers_in nat_eq after f.number) ≡ times_in n (layers_in nat_eq world f.number)
      = (λ i. times_in n (map (λ layer. layer.directory)
      (filter (λ layer. nat_eq f.number layer.filesystem) (flat_map (of_overlay [] layers_of) (filesystems i))))) in
      let objects : times_in n (flat_map (objects_of_overlay nat_eq f.number) after.filesystems)
      ≡ times_in n (flat_map (objects_of_overlay nat_eq f.number) world.filesystems)
      = (λ i. times_in n (flat_map (objects_of_overlay nat_eq f.number) (filesystems i))) in
      omega arith

pub locations_are_uses : LocationsAreUses
locations_are_uses world after gained lost front back mounts filesystems locations now k = record {
  same = same_found world after filesystems k;
  uses = λ n. located_uses world after filesystems k n (times (is_inode k n) (map (inode_at world) gained))
      (times (is_inode k n) (map (inode_at world) lost))
      (let was : times_in n (located_in nat_eq world k) ≡ count_in world.mounts k n
      ((front ++ (lost ++ back)) ++ roots ++ points) =
      (λ i. count_in world.mounts k n (locations i ++ roots ++ points)) in
      let is : times_in n (located_in nat_eq after k)
      ≡ count_in world.mounts k n ((front ++ (gained ++ back)) ++ roots ++ points) = (λ i. count_in (mounts i) k n
      (now i ++ map root_of (mounts i) ++ filter_map (λ mount. mount.mount_point) (mounts i))) in
      let first = split n lost in
      let second = split n gained in
      let gains = count_places world.mounts k n gained in
      let losses = count_places world.mounts k n lost in
      omega arith);
}
  where
    roots : List (Location ℕ)
    roots = map root_of world.mounts

    points : List (Location ℕ)
    points = filter_map (λ mount. mount.mount_point) world.mounts

    split : (n : ℕ) (some : List (Location ℕ))
        → count_in world.mounts k n ((front ++ (some ++ back)) ++ roots ++ points) ≡ ((count_in world.mounts k n front +
        (count_in world.mounts k n some + count_in world.mounts k n back)) + count_in world.mounts
        k n roots) + count_in world.mounts k n points
    split n some =
        let one = count_append world.mounts k n ((front ++ (some ++ back)) ++ roots) points in
        let two = count_append world.mounts k n (front ++ (some ++ back)) roots in
        let three = count_append world.mounts k n front (some ++ back) in
        let four = count_append world.mounts k n some back in
        omega arith

-- Mounts

roots_append : (one other : List (Mount ℕ)) → map root_of (one ++ other) ≡ map root_of one ++ map root_of other
roots_append [] other = refl
roots_append (first ∷ rest) other = ap (λ l. root_of first ∷ l) (roots_append rest other)

points_append : (one other : List (Mount ℕ)) → filter_map (λ (mount : Mount ℕ). mount.mount_point) (one ++ other)
    ≡ filter_map (λ (mount : Mount ℕ). mount.mount_point) one
    ++ filter_map (λ (mount : Mount ℕ). mount.mount_point) other
points_append [] other = refl
points_append (first ∷ rest) other = grind (arith, common_steps, points_append rest other)

-- among more mounts, each with its own number, it is found still
found_still : (front added back : List (Mount ℕ)) (number : ℕ)
    → any_pair (λ (a b : Mount ℕ). nat_eq a.number b.number) (front ++ (added ++ back)) ≡ false
    → is_among nat_eq number (map (λ mount. mount.number) (front ++ back)) ≡ true
    → mount_in nat_eq (front ++ (added ++ back)) number ≡ mount_in nat_eq (front ++ back) number
found_still front added back number one there = ap (mount_in nat_eq (front ++ (added ++ back)))
    (sym (number-mount_in _ number)) ∙ found_itself _ one _ (more _ (mount_in-among _ number there))
  where
    more : (mount : Mount ℕ) → Among mount (front ++ back) → Among mount (front ++ (added ++ back))
    more mount m = ⊎_elim (λ here. among-append_left front _ mount here)
        (λ there. among-append_right front _ mount (among-append_right added back mount there))
        (Rattle.vt_laws_mounts.proofs.letting_go.Lists.among-append front back mount m)

pub mounts_are_uses : MountsAreUses
mounts_are_uses world after front added back filesystems locations were are one on k = record {
  same = same_found world after filesystems k;
  uses = λ n. located_uses world after filesystems k n (times (is_inode k n) (map (inode_at after) (places_of added))) 0
      (let was : times_in n (located_in nat_eq world k)
      ≡ count_in old k n ((all_locations world ++ map root_of old) ++ points old)
      = (λ i. count_in (were i) k n (all_locations world ++ map root_of (were i) ++ points (were i))) in
      let is : times_in n (located_in nat_eq after k)
      ≡ count_in new k n ((all_locations world ++ map root_of new) ++ points new)
      = (λ i. count_in (are i) k n (locations i ++ map root_of (are i) ++ points (are i))) in
      let alike : count_in new k n ((all_locations world ++ map root_of old) ++ points old)
      ≡ count_in old k n ((all_locations world ++ map root_of old) ++ points old) = same_counts n in
      let gains : times (is_inode k n) (map (inode_at after) (places_of added))
      ≡ count_in new k n (map root_of added ++ points added)
      = (λ i. times (is_inode k n) (map (λ (l : Location ℕ). ((mount_in nat_eq (are i) l.mount).filesystem, l.node))
      (places_of added))) ∙ count_places new k n (places_of added) in
      let a = count_append new k n (map root_of added) (points added) in
      let b = count_append new k n (all_locations world ++ map root_of old) (points old) in
      let c = count_append new k n (all_locations world) (map root_of old) in
      let d = count_append new k n (all_locations world ++ map root_of new) (points new) in
      let e = count_append new k n (all_locations world) (map root_of new) in
      let r = roots n in let p = parts n in
      omega arith);
}
  where
    old : List (Mount ℕ)
    old = front ++ back

    new : List (Mount ℕ)
    new = front ++ (added ++ back)

    points : List (Mount ℕ) → List (Location ℕ)
    points mounts = filter_map (λ mount. mount.mount_point) mounts

    one_new : any_pair (λ (a b : Mount ℕ). nat_eq a.number b.number) new ≡ false
    one_new = subst (λ m. any_pair (λ (a b : Mount ℕ). nat_eq a.number b.number) m ≡ false) are one

    on_old : list_all (is_on old) ((all_locations world ++ map root_of old) ++ points old) ≡ true
    on_old = cc (append_assoc (all_locations world) (map root_of world.mounts) (points world.mounts))

    same_counts : (n : ℕ) → count_in new k n ((all_locations world ++ map root_of old) ++ points old)
        ≡ count_in old k n ((all_locations world ++ map root_of old) ++ points old)
    same_counts n = ap (λ l. times_in n (map (λ location. location.node) l))
        (filter_alike (shown new k n) (shown old k n) ((all_locations world ++ map root_of old) ++ points old)
        (λ l m. ap (λ (mount : Mount ℕ). nat_eq k mount.filesystem) (found_still front added back l.mount one_new
        (among_from_list_all (is_on old) ((all_locations world ++ map root_of old) ++ points old) on_old l m))))

    roots : (n : ℕ) → count_in new k n (map root_of new)
        ≡ count_in new k n (map root_of old) + count_in new k n (map root_of added)
    roots n = grind (arith, common_steps, roots_append, count_append)

    parts : (n : ℕ) → count_in new k n (points new) ≡ count_in new k n (points old) + count_in new k n (points added)
    parts n =
        let a : count_in new k n (points new) ≡ count_in new k n (points front ++ (points added ++ points back))
        = ap (count_in new k n) (points_append front (added ++ back)
        ∙ ap (λ l. points front ++ l) (points_append added back)) in
        let b : count_in new k n (points old) ≡ count_in new k n (points front ++ points back) = ap (count_in new k n)
        (points_append front back) in
        let c = count_append new k n (points front) (points added ++ points back) in
        let d = count_append new k n (points added) (points back) in
        let e = count_append new k n (points front) (points back) in
        omega arith

-- A mount that is placed

found_placed : (front back : List (Mount ℕ)) (old new : Mount ℕ) → new.number ≡ old.number
    → new.filesystem ≡ old.filesystem → (number : ℕ) → (mount_in nat_eq (front ++ (new ∷ back)) number).filesystem
    ≡ (mount_in nat_eq (front ++ (old ∷ back)) number).filesystem
found_placed [] back old new numbered shows number = grind (arith, common_steps)
found_placed (first ∷ front) back old new numbered shows number =
    grind (arith, common_steps, found_placed front back old new numbered shows number)

pub mount_is_placed : MountIsPlaced
mount_is_placed world after front back old new filesystems locations were are numbered shows rooted k = record {
  same = same_found world after filesystems k;
  uses = λ n. located_uses world after filesystems k n
      (times (is_inode k n) (map (inode_at world) (option_to_list new.mount_point)))
      (times (is_inode k n) (map (inode_at world) (option_to_list old.mount_point)))
      (let was : times_in n (located_in nat_eq world k)
      ≡ count_in olds k n ((all_locations world ++ map root_of olds) ++ points olds)
      = (λ i. count_in (were i) k n (all_locations world ++ map root_of (were i) ++ points (were i))) in
      let is : times_in n (located_in nat_eq after k)
      ≡ count_in olds k n ((all_locations world ++ map root_of olds) ++ points news)
      = (λ i. count_in (are i) k n (locations i ++ map root_of (are i) ++ points (are i)))
      ∙ (λ i. times_in n (map (λ location. location.node)
      (filter (λ (location : Location ℕ). nat_eq k (found_placed front back old new numbered shows location.mount i))
      ((all_locations world ++ same_roots i) ++ points news)))) in
      let a = count_append olds k n (all_locations world ++ map root_of olds) (points olds) in
      let b = count_append olds k n (all_locations world ++ map root_of olds) (points news) in
      let c = parts n old in
      let d = parts n new in
      let e = gains n (option_to_list new.mount_point) in
      let f = gains n (option_to_list old.mount_point) in
      omega arith);
}
  where
    olds : List (Mount ℕ)
    olds = front ++ (old ∷ back)

    news : List (Mount ℕ)
    news = front ++ (new ∷ back)

    points : List (Mount ℕ) → List (Location ℕ)
    points mounts = filter_map (λ mount. mount.mount_point) mounts

    same_roots : map root_of news ≡ map root_of olds
    same_roots = roots_append front _ ∙ (λ i. map root_of front ++ (record { mount = numbered i; node = rooted i } ∷ map
        root_of back)) ∙ sym (roots_append front _)

    gains : (n : ℕ) (some : List (Location ℕ))
        → times (is_inode k n) (map (inode_at world) some) ≡ count_in olds k n some
    gains n some = (λ i. times (is_inode k n)
        (map (λ (l : Location ℕ). ((mount_in nat_eq (were i) l.mount).filesystem, l.node)) some))
        ∙ count_places olds k n some

    parts : (n : ℕ) (mount : Mount ℕ) → count_in olds k n (points (front ++ (mount ∷ back)))
        ≡ (count_in olds k n (points front) + count_in olds k n (option_to_list mount.mount_point)) + count_in olds k n
        (points back)
    parts n mount = grind (arith, common_steps, points_append, count_append)

-- Exchanges

pub exchanges_follow : ExchangesFollow
exchanges_follow world between after gained lost more less k first second = record {
  same = second.same ∙ first.same;
  uses = λ n.
      let a = first.uses n in let b = second.uses n in
      let c = times_append (is_inode k n) gained more in let d = times_append (is_inode k n) lost less in omega arith;
}

pub others_use_nothing : OthersUseNothing
others_use_nothing world after k plain plain_after mounts locations same = record {
  same = same;
  uses = λ n.
      let f = filesystem_numbered nat_eq world k in
      let there : inode_uses after (filesystem_numbered nat_eq after k) n ≡ inode_uses after f n =
      ap (λ g. inode_uses after g n) same in
      let here : inode_uses after f n ≡ inode_uses world f n
      = (λ i. times (nat_eq n) (f.files.tree.root ∷ (named_in f.files ++ map (λ location. location.node)
      (filter (shown (mounts i) f.number n)
      (locations i ++ map root_of (mounts i) ++ filter_map (λ mount. mount.mount_point) (mounts i)))
      ++ (no_layers_of after (plain_of after plain_after) f.number
      ∙ sym (no_layers_of world (plain_of world plain) f.number)) i
      ++ (no_objects_of after (plain_of after plain_after) f.number
      ∙ sym (no_objects_of world (plain_of world plain) f.number)) i))) in
      omega arith;
}

-- Uses of mounts and filesystems

exchanged_times : {A : Type 0} (test : A → Bool) (front one other back : List A)
    → times test (front ++ (one ++ back)) + times test other ≡ times test (front ++ (other ++ back)) + times test one
exchanged_times test front one other back =
    let a = times_append test front (one ++ back) in let b = times_append test one back in
    let c = times_append test front (other ++ back) in let d = times_append test other back in omega arith

pub locations_use_mounts : LocationsUseMounts
locations_use_mounts world after gained lost front back was is number = grind (arith, common_steps, exchanged_times)

pub mounts_use_filesystems : MountsUseFilesystems
mounts_use_filesystems world after gained lost front back was is number = grind (arith, common_steps, exchanged_times)

-- A new tree, where no overlay has a layer in it
pub new_tree_counts : (world : World ℕ) (number root : ℕ) → layers_in nat_eq world number ≡ []
    → flat_map (objects_of_overlay nat_eq number) world.filesystems ≡ []
    → any_pair (λ (a b : Mount ℕ). nat_eq a.number b.number) world.mounts ≡ false
    → list_all (λ mount. not (nat_eq number mount.filesystem) || nat_eq root mount.root) world.mounts ≡ true
    → list_all (is_outside world number)
    (all_locations world ++ filter_map (λ mount. mount.mount_point) world.mounts) ≡ true
    → IsCounted world (new_plain nat_eq number root) (one_counted root (1 + mounts_showing world number))
new_tree_counts world number root no_layers no_objects one own outside = record {
  root = refl;
  node = λ n. nodes n (nat_eq n root);
  uses = λ n. uses n;
  count = refl;
  once = refl;
}
  where
    nodes : (n : ℕ) (b : Bool) → node_in (cond b (Some (record {
      node = record { attr = root_attr; content = new_directory root };
      uses = 1 + mounts_showing world number;
    })) None) ≡ cond b (Some (record { attr = root_attr; content = new_directory root })) None
    nodes n true = refl
    nodes n false = refl

    -- roots of mounts that show it
    roots : (n : ℕ) (mounts : List (Mount ℕ)) → ((mount : Mount ℕ) → Among mount mounts → Among mount world.mounts)
        → count_in world.mounts number n (map root_of mounts) ≡ cond (nat_eq n root)
        (times (λ mount. nat_eq number mount.filesystem) mounts) 0
    roots n [] within = grind (arith, common_steps)
    roots n (first ∷ rest) within = ap (λ (mount : Mount ℕ). times_in n
        (map (λ location. location.node) (cond (nat_eq number mount.filesystem)
        (root_of first ∷ filter (shown world.mounts number n) (map root_of rest)) (filter (shown world.mounts number n)
        (map root_of rest))))) (found_itself _ one first (within first (inl refl))) ∙ by _
        (among_from_list_all _ _ own first (within first (inl refl))) (roots n rest (λ mount m. within mount (inr m)))
      where
        by : (b : Bool) → (not b || nat_eq root first.root) ≡ true
            → count_in world.mounts number n (map root_of rest) ≡ cond (nat_eq n root)
            (times (λ mount. nat_eq number mount.filesystem) rest) 0 → times_in n (map (λ location. location.node)
            (cond b (root_of first ∷ filter (shown world.mounts number n) (map root_of rest))
            (filter (shown world.mounts number n) (map root_of rest))))
            ≡ cond (nat_eq n root) (cond b 1 0 + times (λ mount. nat_eq number mount.filesystem) rest) 0
        by b same later = grind (arith, common_steps, one_if, eqb-true)

    locs : List (Location ℕ)
    locs = all_locations world

    tops : List (Location ℕ)
    tops = map root_of world.mounts

    points : List (Location ℕ)
    points = filter_map (λ mount. mount.mount_point) world.mounts

    uses : (n : ℕ) → uses_in ((one_counted root (1 + mounts_showing world number)).inode n)
        ≡ inode_uses world (new_plain nat_eq number root) n
    uses n = by (nat_eq n root) refl ∙ sym (let split = uses_split world (new_plain nat_eq number root) n in
        let bare : times_in n (named_in (new_plain nat_eq number root).files) ≡ 0 = ap (λ b. times_in n (targets_in
        (cond b (Some (record { attr = root_attr; content = new_directory root })) None) ++ []))
        (eq-eqb root root refl) in
        let layers : times_in n (layers_in nat_eq world number) ≡ 0 = ap (times_in n) no_layers in
        let objects : times_in n (flat_map (objects_of_overlay nat_eq number) world.filesystems)
        ≡ 0 = ap (times_in n) no_objects in
        let a : times_in n (located_in nat_eq world number) ≡ count_in world.mounts number n
        (locs ++ tops) + count_in world.mounts number n points =
        count_append world.mounts number n (locs ++ tops) points in
        let b = count_append world.mounts number n locs tops in
        let c = count_append world.mounts number n locs points in
        let none = count_none world.mounts number n (locs ++ points) outside in
        let here = roots n world.mounts (λ mount m. m) in
        let all : inode_uses world (new_plain nat_eq number root) n ≡ one_if n root + cond (nat_eq n root)
        (mounts_showing world number) 0 = omega arith in
        all)
      where
        by : (b : Bool) → nat_eq n root ≡ b → uses_in (cond b (Some (record {
          node = record { attr = root_attr; content = new_directory root };
          uses = 1 + mounts_showing world number;
        })) None) ≡ cond b 1 0 + cond b (mounts_showing world number) 0
        by true e = refl
        by false e = refl

pub new_tree_is_counted : NewTreeIsCounted
new_tree_is_counted world number root plain one own outside =
    new_tree_counts world number root (no_layers_of world (plain_of world plain) number)
    (no_objects_of world (plain_of world plain) number) one own outside

-- The opening world
pub opening_is_counted : OpeningIsCounted
opening_is_counted fresh = grind (arith, common_steps, eq-eqb (fresh 2) (fresh 2) refl, eq-eqb (fresh 0) (fresh 0) refl)
