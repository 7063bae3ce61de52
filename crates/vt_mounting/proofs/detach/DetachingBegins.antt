-- Where mounts begin to be detached: in the world all of them are detached at once, and code has none of them detached
-- yet.
use Rattle.std.proofs.Common.{◌≡◌, refl, sym, ap, subst, ◌∙◌, ⊎_elim, ℕ, ◌+◌, nat_eq, eqb-true, eq-eqb, Bool, true, false, true≢false, cond, not, ◌&&◌, ◌||◌, List, [], ◌∷◌, ◌++◌, map, filter, find, Option, Some, None, option_map, is_some, unwrap_or, option_to_list, map-id, arith}
use Rattle.vt_spec.proofs.Common.{Filesystem, Location, Mount, World, all_locations, any_pair, common_steps, detached, filesystem_lives, folded, has_layer_on, is_among, is_mounted, is_nowhere_or_attached, list_all, list_any, map_alike, map_twice, mount_at, mount_in, mount_lives, no_mount, or_parts, shown-mapped, with_mounts, without_dead_filesystems}
use Rattle.vt_mounting.proofs.Common.{Among, CountsItsUses, Exchanges, FilesystemsInUse, Inode, LocationsStand, MountsInUseBut, MountsStand, Shown, WorldValue, all_from_among, among-from_filter, among-from_map, among_from_all, among_from_list_all, any-filter, any-map, any_among, any_from_among, counted, detached_if, exchanges_follow, filter_alike, filter_all, filter_twice, found_in, in_use_of, inode_at, layer_count, list_all_from_among, map_same, mount_is_placed, mounts_go_one_by_one, mounts_in, mounts_showing, none_among, or_right, stands_on_attached, times, world_of}
use Rattle.vt_laws_mounts.specs.LettingGo.Detaching.{without_place}
use Rattle.vt_laws_mounts.specs.LettingGo.OneByOne as Looks
use Rattle.vt_mounting.specs.Detach.Uses.{Kept}
use Rattle.vt_mounting.proofs.detach.BesideOverlays.{lives_alike, lives_more}
use Rattle.vt_mounting.proofs.detach.Detached.{IsDetaching, detach_first}
use Rattle.vt_mounting.proofs.detach.Keeping.{IsKeptBut, IsShownIn, detached_in, looked_at, no_more, nowhere_still, points_lost, same_number}
use Rattle.vt_mounting.proofs.detach.LowerLayers.{exchanges_of_lowers, of_lowers}
use Rattle.vt_mounting.proofs.detach.MountsGone.{found_mapped, none_numbered, pending_filesystem, pending_number}
use Rattle.vt_mounting.proofs.detach.Moving.{nat_eq_turned}
use Rattle.vt_mounting.proofs.detach.MountsLeave.{leaves_alike, merged_alike}

-- the world with these mounts detached
abbrev pub detached_world : List ℕ → World ℕ → World ℕ
detached_world gone world = with_mounts world (map (detached_in gone) world.mounts)

-- each mount on one of them is one of them
abbrev pub HasChildrenOf : List ℕ → List (Mount ℕ) → Type 0
HasChildrenOf gone mounts = (mount : Mount ℕ) → Among mount mounts → (place : Location ℕ) → mount.mount_point ≡ Some
    place
    → is_among nat_eq place.mount gone ≡ true → is_among nat_eq mount.number gone ≡ true

-- Mounts that are changed and keep their numbers

pub pair_mapped : (change : Mount ℕ → Mount ℕ) → ((mount : Mount ℕ) → (change mount).number ≡ mount.number)
    → (mounts : List (Mount ℕ)) → any_pair (λ (a b : Mount ℕ). nat_eq a.number b.number) (map change mounts)
    ≡ any_pair (λ (a b : Mount ℕ). nat_eq a.number b.number) mounts
pair_mapped change same [] = refl
pair_mapped change same (first ∷ rest) =
    λ i. any-map (λ (b : Mount ℕ). nat_eq (change first).number b.number) change rest
    (λ (b : Mount ℕ). (λ j. nat_eq (same first j) (same b j))) i || pair_mapped change same rest i

times_alike : {A : Type 0} (test : A → Bool) (change : A → A) → ((a : A) → test (change a) ≡ test a) → (all : List A)
    → times test (map change all) ≡ times test all
times_alike test change same [] = refl
times_alike test change same (first ∷ rest) = λ i. cond (same first i) 1 0 + times_alike test change same rest i

-- a mount of these numbers that is not among them stays
not_gone_stays : (gone : List ℕ) (mounts : List (Mount ℕ)) (number : ℕ) → is_among nat_eq number gone ≡ false
    → mount_in nat_eq (map (detached_in gone) mounts) number ≡ mount_in nat_eq mounts number
not_gone_stays gone mounts number stays =
    ap (λ o. unwrap_or o (no_mount number)) (found_mapped (detached_in gone) (pending_number gone) mounts number)
    ∙ by (find (λ (mount : Mount ℕ). nat_eq number mount.number) mounts) refl
  where
    by : (o : Option (Mount ℕ)) → find (λ (mount : Mount ℕ). nat_eq number mount.number) mounts ≡ o
        → unwrap_or (option_map (detached_in gone) o) (no_mount number) ≡ unwrap_or o (no_mount number)
    by None e = refl
    by (Some mount) e = ap (λ b. cond b (detached mount) mount) (ap (λ n. is_among nat_eq n gone)
        (sym (eqb-true number mount.number (found_in (λ (x : Mount ℕ). nat_eq number x.number) mounts mount e).1))
        ∙ stays)

-- Mount points that are lost

record IsDetachedAt (mounts : List (Mount ℕ)) (number : ℕ) (mount : Mount ℕ) : Type 0 where
  front : List (Mount ℕ)
  back : List (Mount ℕ)
  was : mounts ≡ front ++ (mount ∷ back)
  is : map (detached_if number) mounts ≡ front ++ (detached mount ∷ back)

detached_at : (mounts : List (Mount ℕ)) {number : ℕ} (mount : Mount ℕ)
    → any_pair (λ (a b : Mount ℕ). nat_eq a.number b.number) mounts ≡ false
    → Among mount mounts → mount.number ≡ number → IsDetachedAt mounts number mount
detached_at [] mount one m same = absurd m
detached_at (first ∷ rest) {number} mount one m same = ⊎_elim (λ here. record {
  front = [];
  back = rest;
  was = ap (λ x. x ∷ rest) (sym here);
  is = λ i. (ap (λ b. cond b (detached first) first)
      (eq-eqb first.number number (ap (λ (x : Mount ℕ). x.number) (sym here) ∙ same)) ∙ ap detached (sym here)) i
      ∷ map_same (detached_if number) rest (λ x n. ap (λ b. cond b (detached x) x)
      (other x (none_among (λ (b : Mount ℕ). nat_eq first.number b.number) rest parts.0 x n) here)) i;
}) (λ later. let inner = detached_at rest mount parts.1 later same in record {
  front = first ∷ inner.front;
  back = inner.back;
  was = ap (λ all. first ∷ all) inner.was;
  is = λ i. ap (λ b. cond b (detached first) first) (ap (nat_eq first.number) (sym same)
      ∙ none_among (λ (b : Mount ℕ). nat_eq first.number b.number) rest parts.0 mount later) i ∷ inner.is i;
}) m
  where
    parts : (list_any (λ (b : Mount ℕ). nat_eq first.number b.number) rest ≡ false)
        × (any_pair (λ (a b : Mount ℕ). nat_eq a.number b.number) rest ≡ false)
    parts = or_parts (list_any (λ (b : Mount ℕ). nat_eq first.number b.number) rest)
        (any_pair (λ (a b : Mount ℕ). nat_eq a.number b.number) rest) one

    other : (x : Mount ℕ) → nat_eq first.number x.number ≡ false → mount ≡ first → nat_eq x.number number ≡ false
    other x apart here =
        nat_eq_turned x.number number ∙ ap (λ n. nat_eq n x.number) (sym same ∙ ap (λ (y : Mount ℕ). y.number) here) ∙
        apart

module _ (before : World ℕ) where
  -- the mount points are in the filesystems in which they were
  abbrev SeesPlaces : World ℕ → Type 0
  SeesPlaces world = (mount : Mount ℕ) → Among mount world.mounts → (place : Location ℕ) → mount.mount_point ≡ Some
      place
      → (mount_at nat_eq world place).filesystem ≡ (mount_at nat_eq before place).filesystem

  one_point : (number : ℕ) (world : World ℕ)
      → any_pair (λ (a b : Mount ℕ). nat_eq a.number b.number) world.mounts ≡ false → SeesPlaces world
      → (filesystem : ℕ) → Exchanges [] (map (inode_at before)
      (option_to_list (mount_in nat_eq world.mounts number).mount_point)) filesystem world (without_place world number)
  one_point number world one sees filesystem = by
      (find (λ (mount : Mount ℕ). nat_eq number mount.number) world.mounts) refl
    where
      alike : (mount : Mount ℕ) → Among mount world.mounts → (o : Option (Location ℕ)) → mount.mount_point ≡ o
          → map (inode_at world) (option_to_list o) ≡ map (inode_at before) (option_to_list o)
      alike mount m None e = refl
      alike mount m (Some place) e = λ i. (sees mount m place e i, place.node) ∷ []

      by : (o : Option (Mount ℕ)) → find (λ (mount : Mount ℕ). nat_eq number mount.number) world.mounts ≡ o
          → Exchanges [] (map (inode_at before)
          (option_to_list (unwrap_or o (no_mount number)).mount_point)) filesystem world (without_place world number)
      by None e = subst (λ all. Exchanges [] [] filesystem world (with_mounts world all))
          (sym (map_same (detached_if number) world.mounts
          (λ x m. ap (λ b. cond b (detached x) x) (none_numbered number world.mounts e x m))))
          (record { same = refl; uses = λ n. refl })
      by (Some mount) e =
          let found = found_in (λ (x : Mount ℕ). nat_eq number x.number) world.mounts mount e in
          let numbered : number ≡ mount.number = eqb-true number mount.number found.1 in
          let split = detached_at world.mounts mount one found.0 (sym numbered) in
          subst (λ all. Exchanges [] all filesystem world (without_place world number))
          (alike mount found.0 mount.mount_point refl)
          (mount_is_placed world (without_place world number) split.front split.back mount
          (detached mount) refl refl split.was split.is refl refl refl filesystem)

  points_go : (gone : List ℕ) (world : World ℕ)
      → any_pair (λ (a b : Mount ℕ). nat_eq a.number b.number) world.mounts ≡ false → SeesPlaces world
      → (filesystem : ℕ)
      → Exchanges [] (points_lost before world.mounts gone) filesystem world (detached_world gone world)
  points_go [] world one sees filesystem =
      subst (λ all. Exchanges [] [] filesystem world (with_mounts world all)) (sym (map-id world.mounts))
      (record { same = refl; uses = λ n. refl })
  points_go (number ∷ gone) world one sees filesystem =
      subst (Exchanges [] (points_lost before world.mounts (number ∷ gone)) filesystem world) (ap (with_mounts world)
      (map_twice (detached_in gone) (detached_if number) world.mounts
      ∙ map_alike (λ mount. detached_in gone (detached_if number mount)) (detached_in (number ∷ gone)) world.mounts
      (λ mount m. sym (detach_first number gone mount))))
      (exchanges_follow world (without_place world number) (detached_world gone (without_place world number)) []
      (map (inode_at before) (option_to_list (mount_in nat_eq world.mounts number).mount_point)) []
      (points_lost before (map (detached_if number) world.mounts) gone) filesystem
      (one_point number world one sees filesystem) (points_go gone (without_place world number)
      (pair_mapped (detached_if number) (same_number number) world.mounts ∙ one) sees_still filesystem))
    where
      same_filesystem : (mount : Mount ℕ) → (detached_if number mount).filesystem ≡ mount.filesystem
      same_filesystem mount = by (nat_eq mount.number number)
        where
          by : (b : Bool) → (cond b (detached mount) mount).filesystem ≡ mount.filesystem
          by true = refl
          by false = refl

      placed : (mount : Mount ℕ) (place : Location ℕ) (b : Bool) → (cond b (detached mount) mount).mount_point ≡ Some
          place
          → mount.mount_point ≡ Some place
      placed mount place true h = absurd cc
      placed mount place false h = h

      sees_still : SeesPlaces (without_place world number)
      sees_still mount m place p =
          let from = among-from_map (detached_if number) world.mounts mount m in
          shown-mapped (detached_if number) (same_number number) same_filesystem world.mounts place.mount
          ∙ sees from.0 from.1 place (placed from.0 place (nat_eq from.0.number number)
          (ap (λ (x : Mount ℕ). x.mount_point) (sym from.2) ∙ p))

-- To look at mounts one after the other, each time with the filesystems, is to look at all mounts and then at the
-- filesystems.

module _ (world : World ℕ) (number : ℕ) where
  abbrev once : World ℕ
  once = Looks.let_go_mount world number

  abbrev between : World ℕ
  between = Looks.let_go_mount (without_dead_filesystems nat_eq world) number

  mounted_before : (n : ℕ) → is_mounted nat_eq once n ≡ true → is_mounted nat_eq world n ≡ true
  mounted_before n h =
      let one = any_among (λ (mount : Mount ℕ). nat_eq n mount.filesystem) once.mounts h in
      any_from_among (λ (mount : Mount ℕ). nat_eq n mount.filesystem) world.mounts one.0
      (among-from_filter (λ (mount : Mount ℕ). not (nat_eq mount.number number)
      || mount_lives nat_eq world mount) world.mounts one.0 one.1).0 one.2

  unmounted_still : (n : ℕ) → is_mounted nat_eq world n ≡ false → is_mounted nat_eq once n ≡ false
  unmounted_still n h = by (is_mounted nat_eq once n) refl
    where
      by : (b : Bool) → is_mounted nat_eq once n ≡ b → b ≡ false
      by true e = absurd (true≢false (sym (mounted_before n e) ∙ h))
      by false e = refl

  -- an overlay that is dead already keeps nothing alive
  same_lives : (f : Filesystem ℕ) → filesystem_lives nat_eq between f ≡ filesystem_lives nat_eq once f
  same_lives f = ap (λ b. is_mounted nat_eq once f.number || b)
      (any-filter (λ (merged : Filesystem ℕ). has_layer_on nat_eq f.number merged
      && is_mounted nat_eq once merged.number) (filesystem_lives nat_eq world) world.filesystems
      (λ merged m dead. none (has_layer_on nat_eq f.number merged) (is_mounted nat_eq once merged.number)
      (unmounted_still merged.number (or_parts (is_mounted nat_eq world merged.number) _ dead).0)))
    where
      none : (a b : Bool) → b ≡ false → (a && b) ≡ false
      none true b e = e
      none false b e = refl

  no_and : (b : Bool) → false ≡ (b && false)
  no_and true = refl
  no_and false = refl

  follows : (f : Filesystem ℕ) → filesystem_lives nat_eq once f
      ≡ (filesystem_lives nat_eq world f && filesystem_lives nat_eq once f)
  follows f = by (filesystem_lives nat_eq once f) refl
    where
      by : (b : Bool) → filesystem_lives nat_eq once f ≡ b → b ≡ (filesystem_lives nat_eq world f && b)
      by true e = ap (λ c. c && true) (sym (lives_more once world (λ g m. m) mounted_before f e))
      by false e = no_and (filesystem_lives nat_eq world f)

  looked_once : looked_at (without_dead_filesystems nat_eq world) number ≡ without_dead_filesystems nat_eq once
  looked_once = ap (λ all. record once { filesystems = all })
      (filter_alike (filesystem_lives nat_eq between) (filesystem_lives nat_eq once)
      (filter (filesystem_lives nat_eq world) world.filesystems) (λ f m. same_lives f)
      ∙ filter_twice (filesystem_lives nat_eq once) (filesystem_lives nat_eq world) (filesystem_lives nat_eq once)
      (λ f. follows f) world.filesystems)

looked_all : (world : World ℕ) (numbers : List ℕ) → folded looked_at (without_dead_filesystems nat_eq world) numbers
    ≡ without_dead_filesystems nat_eq (Looks.let_go_mounts world numbers)
looked_all world [] = refl
looked_all world (number ∷ numbers) = ap (λ one. folded looked_at one numbers) (looked_once world number)
    ∙ looked_all (Looks.let_go_mount world number) numbers

-- The begin

module _ (old : WorldValue) (gained lost : List Inode) (world : World ℕ) (k : Kept)
    (is : IsKeptBut old [] [] gained lost world k) (gone : List ℕ) (whole : HasChildrenOf gone world.mounts) where
  abbrev after : World ℕ
  after = detached_world gone world

  same_mounts : world.mounts ≡ mounts_in k.mounts
  same_mounts = is.mounts ∙ map-id (mounts_in k.mounts)

  showing : (n : ℕ) → mounts_showing after n ≡ mounts_showing world n
  showing n = times_alike (λ (mount : Mount ℕ). nat_eq n mount.filesystem) (detached_in gone)
      (λ mount. ap (nat_eq n) (pending_filesystem gone mount)) world.mounts

  begun_points : (filesystem : ℕ)
      → Exchanges [] (points_lost (world_of old) (mounts_in k.mounts) gone) filesystem world after
  begun_points filesystem =
      subst (λ all. Exchanges [] (points_lost (world_of old) all gone) filesystem world after) same_mounts
      (points_go (world_of old) gone world is.stand.one_number is.places filesystem)

  begun_shown : (one : Shown) → Among one k.filesystems
      → IsShownIn old gained lost (points_lost (world_of old) (mounts_in k.mounts) gone) after one
  begun_shown one m =
      let was = is.filesystems one m in
      let f = counted was.was.count in
      record {
        was = was.was;
        among = was.among;
        count = was.count;
        there = was.there;
        inodes = was.inodes;
        exchanges = subst (λ all. Exchanges all (lost ++ points_lost (world_of old) (mounts_in k.mounts) gone) f
            (of_lowers (world_of old)) (of_lowers after)) (no_more gained)
            (subst (λ all. Exchanges (gained ++ []) (all ++ points_lost (world_of old) (mounts_in k.mounts) gone) f
            (of_lowers (world_of old)) (of_lowers after)) (no_more lost)
            (exchanges_follow (of_lowers (world_of old)) (of_lowers world) (of_lowers after) gained (lost ++ []) []
            (points_lost (world_of old) (mounts_in k.mounts) gone) f was.exchanges
            (exchanges_of_lowers {world = world} {after = after} refl (begun_points f))));
        mounts = was.mounts ∙ ap (λ n. n + layer_count world (counted one.count)) (sym (showing (counted one.count)));
      }

  -- a mount with a mount point stays
  stays_placed : (mount : Mount ℕ) (place : Location ℕ) → (b : Bool) → is_among nat_eq mount.number gone ≡ b
      → (cond b (detached mount) mount).mount_point ≡ Some place
      → (is_among nat_eq mount.number gone ≡ false) × (mount.mount_point ≡ Some place)
  stays_placed mount place true e h = absurd cc
  stays_placed mount place false e h = (e, h)

  still_attached : (mount : Mount ℕ) → Among mount world.mounts → {place : Location ℕ} → mount.mount_point ≡ Some place
      → is_among nat_eq mount.number gone ≡ false → is_some (mount_at nat_eq after place).namespace ≡ true
  still_attached mount m p stays = grind (arith, common_steps, not_gone_stays, among_from_list_all)

  begun_stands : MountsStand after
  begun_stands = record {
    one_number = pair_mapped (detached_in gone) (pending_number gone) world.mounts ∙ is.stand.one_number;
    nowhere = list_all_from_among is_nowhere_or_attached after.mounts (λ mount m.
        let from = among-from_map (detached_in gone) world.mounts mount m in
        ap is_nowhere_or_attached from.2 ∙ nowhere_still from.0 (is_among nat_eq from.0.number gone)
        (among_from_list_all is_nowhere_or_attached world.mounts is.stand.nowhere from.0 from.1));
    on_attached = list_all_from_among (stands_on_attached after) after.mounts (λ mount m.
        let from = among-from_map (detached_in gone) world.mounts mount m in
        ap (stands_on_attached after) from.2 ∙ attached from.0 from.1 (is_among nat_eq from.0.number gone) refl);
  }
    where
      attached : (mount : Mount ℕ) → Among mount world.mounts → (b : Bool) → is_among nat_eq mount.number gone ≡ b
          → stands_on_attached after (cond b (detached mount) mount) ≡ true
      attached mount m true e = refl
      attached mount m false e = at mount.mount_point refl
        where
          at : (o : Option (Location ℕ)) → mount.mount_point ≡ o
              → list_all (λ place. is_some (mount_at nat_eq after place).namespace) (option_to_list o) ≡ true
          at None p = refl
          at (Some place) p = ap (λ b. b && true) (still_attached mount m p e)

  begun_located : LocationsStand after
  begun_located =
      subst (λ numbers. list_all (λ (location : Location ℕ). is_among nat_eq location.mount numbers)
      (all_locations world)
      ≡ true) (sym (map_twice (λ (mount : Mount ℕ). mount.number) (detached_in gone) world.mounts
      ∙ map_alike (λ mount. (detached_in gone mount).number) (λ mount. mount.number) world.mounts
      (λ mount m. pending_number gone mount))) is.located

  begun_in_use : MountsInUseBut gone after
  begun_in_use =
      list_all_from_among (λ mount. is_among nat_eq mount.number gone || mount_lives nat_eq after mount) after.mounts
      (λ mount m.
      let from = among-from_map (detached_in gone) world.mounts mount m in
      ap (λ (x : Mount ℕ). is_among nat_eq x.number gone || mount_lives nat_eq after x) from.2
      ∙ by from.0 (is_among nat_eq from.0.number gone) refl
      (among_from_list_all (λ mount. mount_lives nat_eq world mount) world.mounts is.in_use from.0 from.1))
    where
      by : (mount : Mount ℕ) (b : Bool) → is_among nat_eq mount.number gone ≡ b → mount_lives nat_eq world mount ≡ true
          → (is_among nat_eq (cond b (detached mount) mount).number gone
          || mount_lives nat_eq after (cond b (detached mount) mount)) ≡ true
      by mount true e lives = ap (λ c. c || mount_lives nat_eq after (detached mount)) e
      by mount false e lives = or_right (is_among nat_eq mount.number gone) (mount_lives nat_eq world mount) lives

  begun_mounted : FilesystemsInUse after
  begun_mounted = list_all_from_among (filesystem_lives nat_eq after) world.filesystems (λ f m.
      lives_alike world after refl
      (λ n. any-map (λ (mount : Mount ℕ). nat_eq n mount.filesystem) (detached_in gone) world.mounts
      (λ mount. ap (nat_eq n) (pending_filesystem gone mount))) f
      ∙ among_from_list_all (filesystem_lives nat_eq world) world.filesystems is.mounted f m)

  begun_kept : IsKeptBut old gone gone gained lost after k
  begun_kept = record {
    held = is.held;
    merged = is.merged ∙ merged_alike world after refl showing;
    mounts = ap (map (detached_in gone)) same_mounts;
    uses = all_from_among (CountsItsUses after) k.mounts (λ entry m.
        let counts = among_from_all (CountsItsUses world) k.mounts is.uses entry m in
        record { uses = counts.uses; writers = counts.writers });
    numbers = is.numbers;
    filesystems = begun_shown;
    stand = begun_stands;
    located = begun_located;
    in_use = begun_in_use;
    mounted = begun_mounted;
    leaves = leaves_alike world after refl showing is.leaves;
    points = is.points;
    places = λ mount m place p.
        let from = among-from_map (detached_in gone) world.mounts mount m in
        let stays = stays_placed from.0 place (is_among nat_eq from.0.number gone) refl
        (ap (λ (x : Mount ℕ). x.mount_point) (sym from.2) ∙ p) in
        shown-mapped (detached_in gone) (pending_number gone) (pending_filesystem gone) world.mounts place.mount
        ∙ is.places from.0 from.1 place stays.1;
  }

  ends_living : folded looked_at after gone ≡ in_use_of after
  ends_living = ap (λ one. folded looked_at one gone) (sym all_live) ∙ looked_all after gone
      ∙ ap (without_dead_filesystems nat_eq) (sym (mounts_go_one_by_one after gone begun_in_use))
    where
      all_live : without_dead_filesystems nat_eq after ≡ after
      all_live = ap (λ all. record after { filesystems = all })
          (filter_all (filesystem_lives nat_eq after) after.filesystems
          (λ f m. among_from_list_all (filesystem_lives nat_eq after) after.filesystems begun_mounted f m))

  -- All are pending; in the end the living world is left.
  pub detaching_begins : IsDetaching old gained (in_use_of after) gone k
  detaching_begins = record { lost = lost; world = after; is = begun_kept; ends = ends_living }
