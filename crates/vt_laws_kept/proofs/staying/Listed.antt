-- A permit leaves overlays in their order.
use Rattle.std.proofs.Common.{arith, ◌≡◌, refl, sym, ap, ◌∙◌, true≢false, ℕ, nat_eq, eqb-true, Bool, true, false, cond, List, [], ◌∷◌, ◌++◌, map, filter, Option, Some, None, is_some, inl, inr}
use Rattle.vt_spec.proofs.Common.{Among, Change, Filesystem, Fresh, IsWorld, Layer, Location, Overlay, OverlayInvariants, Permit, Task, World, all_from_among, among-from_filter, any_pair, apply, changed, common_steps, filesystem_changed, filesystem_lives, filesystem_numbered, has_layer_on, is_mounted, is_overlay, layers_of, list_any, map_twice, merge_changed, merge_of, mount_at, none_from_among, overlay_changed, overlay_or, plain_filesystem, replaced_if_numbered, settled, stack_of, with_change, with_files, without_dead_mounts}
use Rattle.vt_spec.proofs.Lists.{map_same}
use Rattle.vt_laws_mounts.specs.Counts.OverlaysStay.{HasNoLayerIn}
use Rattle.vt_laws_mounts.specs.LettingGo.TreesOverlays.{in_use_of}
use Rattle.vt_laws_mounts.proofs.counts.overlays.Living.{lives_while_mounted}
use Rattle.vt_laws_mounts.proofs.letting_go.sweeps.InUse.{after_first, after_second, number-first, number-second, overlay-left}
use Rattle.vt_laws_mounts.proofs.letting_go.sweeps.OfWorlds.{found_filesystem}
use Rattle.vt_laws_mounts.proofs.letting_go.sweeps.UsesCounted.{mounted_while_counted}
use Rattle.vt_laws_trees.proofs.layers.layers.LowersWorld.{number_of_filesystem}
use Rattle.vt_laws_worlds.specs.OverlayPermits.Asked.{change_asked}
use Rattle.vt_laws_worlds.specs.OverlayPermits.Changed.{numbers_left}
use Rattle.vt_laws_worlds.specs.Permits.Left.{IsGiven, left_by}
use Rattle.vt_laws_worlds.specs.Worlds.Kept.{IsUnderWay}
use Rattle.vt_laws_worlds.proofs.given.left.Permits.{given_permits_are_under_way_anywhere, given_permits_leave_every_world}
use Rattle.vt_laws_worlds.proofs.overlay_permits.kept.KeptOverlays.{permits_make_their_change}
use Rattle.vt_laws_worlds.proofs.overlay_permits.worlds.EveryCall.{LeavesFilesystems, unchanged}
use Rattle.vt_laws_worlds.proofs.overlay_permits.worlds.EveryCall.LeavesFilesystems.{as_they_were, with_overlay, with_plain}
use Rattle.vt_laws_worlds.proofs.overlays_stay.left.Given.{given_to_task}
use Rattle.vt_laws_worlds.proofs.worlds.FitPermitsNamed.{all_permits_fit}
use Rattle.vt_laws_kept.specs.Staying.{OverlaysStayInOrder}
use Rattle.vt_laws_kept.proofs.counts.Located.{elsewhere}

-- the numbers of overlays in a list
abbrev pub numbers_in : List (Filesystem ℕ) → List ℕ
numbers_in list = map (λ (f : Filesystem ℕ). f.number) (filter is_overlay list)

-- a filesystem with the number and the kind of another
abbrev pub IsLike : Filesystem ℕ → Filesystem ℕ → Type 0
IsLike new old = (new.number ≡ old.number) × (is_overlay new ≡ is_overlay old)

-- the first of a list is there if it is an overlay
numbers_head : (f : Filesystem ℕ) (list : List (Filesystem ℕ))
    → numbers_in (f ∷ list) ≡ cond (is_overlay f) (f.number ∷ numbers_in list) (numbers_in list)
numbers_head f list = by (is_overlay f)
  where
    by : (b : Bool)
        → map (λ (g : Filesystem ℕ). g.number) (cond b (f ∷ filter is_overlay list) (filter is_overlay list))
        ≡ cond b (f.number ∷ numbers_in list) (numbers_in list)
    by true = refl
    by false = refl

-- numbers stay where numbers and kinds do
numbers_kept : (step : Filesystem ℕ → Filesystem ℕ) (list : List (Filesystem ℕ))
    → ((f : Filesystem ℕ) → Among f list → IsLike (step f) f) → numbers_in (map step list) ≡ numbers_in list
numbers_kept step [] like = refl
numbers_kept step (f ∷ list) like =
    let same = like f (inl refl) in
    let rest = numbers_kept step list (λ g m. like g (inr m)) in
    numbers_head (step f) (map step list) ∙ (λ i. cond (same.1 i) (same.0 i ∷ rest i) (rest i))
    ∙ sym (numbers_head f list)

-- a plain filesystem more has no number of an overlay
numbers_more : (list : List (Filesystem ℕ)) (new : Filesystem ℕ) → is_overlay new ≡ false
    → numbers_in (list ++ (new ∷ [])) ≡ numbers_in list
numbers_more [] new e = cc
numbers_more (f ∷ list) new e = grind (arith, common_steps, numbers_more list new)

-- overlays that pass a test of their number
numbers_filtered : (stays : Filesystem ℕ → Bool) (test : ℕ → Bool) (list : List (Filesystem ℕ))
    → ((f : Filesystem ℕ) → Among f list → is_overlay f ≡ true → stays f ≡ test f.number)
    → numbers_in (filter stays list) ≡ filter test (numbers_in list)
numbers_filtered stays test [] same = refl
numbers_filtered stays test (f ∷ list) same =
    by (stays f) refl (is_overlay f) refl (numbers_filtered stays test list (λ g m. same g (inr m)))
  where
    both : (b : Bool) (xs : List ℕ) → cond b xs xs ≡ xs
    both true xs = refl
    both false xs = refl

    -- the first one, if it stays and is an overlay
    kept : (p : Bool) → stays f ≡ p → numbers_in (cond (stays f) (f ∷ filter stays list) (filter stays list))
        ≡ cond p (cond (is_overlay f) (f.number ∷ numbers_in (filter stays list)) (numbers_in (filter stays list)))
        (numbers_in (filter stays list))
    kept true e = ap (λ b. numbers_in (cond b (f ∷ filter stays list) (filter stays list))) e
        ∙ numbers_head f (filter stays list)
    kept false e = ap (λ b. numbers_in (cond b (f ∷ filter stays list) (filter stays list))) e

    by : (p : Bool) → stays f ≡ p → (o : Bool) → is_overlay f ≡ o
        → numbers_in (filter stays list) ≡ filter test (numbers_in list)
        → numbers_in (cond (stays f) (f ∷ filter stays list) (filter stays list))
        ≡ filter test (numbers_in (f ∷ list))
    by p e true g rest =
        kept p e ∙ (λ i. cond p (cond (g i) (f.number ∷ rest i) (rest i)) (rest i))
        ∙ ap (λ b. cond b (f.number ∷ filter test (numbers_in list)) (filter test (numbers_in list)))
        (sym e ∙ same f (inl refl) g) ∙ sym (ap (filter test) (numbers_head f list
        ∙ ap (λ b. cond b (f.number ∷ numbers_in list) (numbers_in list)) g))
    by p e false g rest =
        kept p e ∙ (λ i. cond p (cond (g i) (f.number ∷ rest i) (rest i)) (rest i))
        ∙ both p (filter test (numbers_in list)) ∙ sym (ap (filter test) (numbers_head f list
        ∙ ap (λ b. cond b (f.number ∷ numbers_in list) (numbers_in list)) g))

-- A change leaves numbers and kinds
module _ (world : World ℕ)
    (one : any_pair (λ (a b : Filesystem ℕ). nat_eq a.number b.number) world.filesystems ≡ false) where
  -- what is put in the place of a filesystem is like it
  put_like : (number : ℕ) (new : Filesystem ℕ) → IsLike new (filesystem_numbered nat_eq world number)
      → (f : Filesystem ℕ) → Among f world.filesystems → (g : Filesystem ℕ) → IsLike g f
      → IsLike (replaced_if_numbered nat_eq new g) f
  put_like number new like f m g same = by (nat_eq new.number g.number) refl
    where
      by : (b : Bool) → nat_eq new.number g.number ≡ b → IsLike (cond b new g) f
      by false e = same
      by true e =
          let at : f.number ≡ number = sym same.0 ∙ sym (eqb-true new.number g.number e) ∙ like.0
          ∙ number_of_filesystem world number in
          let is : f ≡ filesystem_numbered nat_eq world number = sym (found_filesystem world.filesystems one f m)
          ∙ ap (filesystem_numbered nat_eq world) at in
          (eqb-true new.number g.number e ∙ same.0, like.1 ∙ ap is_overlay (sym is))

  numbers_changed : (supply : Fresh ℕ) (location : Location ℕ) (change : Change ℕ)
      → numbers_in (with_change nat_eq supply world location change).filesystems ≡ numbers_in world.filesystems
  numbers_changed supply location change = by f.overlay refl
    where
      number : ℕ
      number = (mount_at nat_eq world location).filesystem

      f : Filesystem ℕ
      f = filesystem_numbered nat_eq world number

      -- the files of a filesystem
      alone : numbers_in (filesystem_changed nat_eq supply world f None change).filesystems
          ≡ numbers_in world.filesystems
      alone = numbers_kept (replaced_if_numbered nat_eq (with_files f (changed nat_eq f.files change)))
          world.filesystems
          (λ g m. put_like number (with_files f (changed nat_eq f.files change)) (refl, refl) g m g (refl, refl))

      -- an overlay and its upper layer
      both : (overlay : Overlay ℕ) → f.overlay ≡ Some overlay → (upper : Option (Layer ℕ))
          → numbers_in (overlay_changed nat_eq supply world f overlay upper change).filesystems
          ≡ numbers_in world.filesystems
      both overlay e None = refl
      both overlay e (Some upper) =
          let merge = merge_changed nat_eq supply (stack_of nat_eq world overlay upper)
          (merge_of nat_eq world f overlay upper) change in
          let over : Filesystem ℕ =
          record f { files = merge.files; overlay = Some (record overlay { real = merge.real }) } in
          let below : Filesystem ℕ = with_files (filesystem_numbered nat_eq world upper.filesystem) merge.upper in
          ap numbers_in
          (map_twice (replaced_if_numbered nat_eq below) (replaced_if_numbered nat_eq over) world.filesystems)
          ∙ numbers_kept (λ g. replaced_if_numbered nat_eq below (replaced_if_numbered nat_eq over g))
          world.filesystems
          (λ g m. put_like upper.filesystem below (refl, refl) g m (replaced_if_numbered nat_eq over g)
          (put_like number over (refl, sym (ap is_some e)) g m g (refl, refl)))

      by : (o : Option (Overlay ℕ)) → f.overlay ≡ o
          → numbers_in (filesystem_changed nat_eq supply world f o change).filesystems ≡ numbers_in world.filesystems
      by None e = alone
      by (Some overlay) e = both overlay e overlay.upper

-- The sweep leaves those that are mounted
module _ (world : World ℕ) (way : IsUnderWay world) (are : OverlayInvariants nat_eq world) where
  abbrev mounted : World ℕ
  mounted = without_dead_mounts nat_eq world

  abbrev living : List (Filesystem ℕ)
  living = (in_use_of world).filesystems

  no_layer_in : (f : Filesystem ℕ) → Among f world.filesystems → is_overlay f ≡ true → HasNoLayerIn f.number mounted
  no_layer_in f m e = of_f f.overlay refl
    where
      none : (overlay : Overlay ℕ) → f.overlay ≡ Some overlay → (merged : Filesystem ℕ)
          → Among merged world.filesystems
          → (o : Option (Overlay ℕ)) → merged.overlay ≡ o → has_layer_on nat_eq f.number merged ≡ false
      none overlay is merged n None other =
          ap (overlay_or false (λ o. list_any (λ layer. nat_eq f.number layer.filesystem) (layers_of o))) other
      none overlay is merged n (Some over) other =
          ap (overlay_or false (λ o. list_any (λ layer. nat_eq f.number layer.filesystem) (layers_of o))) other
          ∙ none_from_among (λ layer. nat_eq f.number layer.filesystem) (layers_of over)
          (elsewhere world way.files.one_filesystem are f.number overlay (ap (λ (g : Filesystem ℕ). g.overlay)
          (found_filesystem world.filesystems way.files.one_filesystem f m) ∙ is) merged n over other)

      of_f : (o : Option (Overlay ℕ)) → f.overlay ≡ o → HasNoLayerIn f.number mounted
      of_f None is = absurd (true≢false (sym e ∙ ap is_some is))
      of_f (Some overlay) is = all_from_among (λ merged. has_layer_on nat_eq f.number merged
          ≡ false) world.filesystems
          (λ merged n. none overlay is merged n merged.overlay refl)

  lives_mounted : (f : Filesystem ℕ) → Among f world.filesystems → is_overlay f ≡ true
      → filesystem_lives nat_eq mounted f ≡ is_mounted nat_eq mounted f.number
  lives_mounted f m e = lives_while_mounted mounted f (no_layer_in f m e)
      ∙ sym (mounted_while_counted mounted f.number)

  first_like : (f : Filesystem ℕ) → IsLike (after_first world f) f
  first_like f = (number-first world f, grind (arith, common_steps, after_first, overlay-left))

  second_like : (f : Filesystem ℕ) → IsLike (after_second world f) f
  second_like f = (number-second world f, grind (arith, common_steps, after_second, overlay-left))

  pub numbers_swept : numbers_in (settled nat_eq world).filesystems
      ≡ filter (is_mounted nat_eq (settled nat_eq world)) (numbers_in world.filesystems)
  numbers_swept = numbers_kept (after_second world) (map (after_first world) living) (λ f m. second_like f)
      ∙ numbers_kept (after_first world) living (λ f m. first_like f)
      ∙ numbers_filtered (filesystem_lives nat_eq mounted) (is_mounted nat_eq mounted) world.filesystems lives_mounted

-- overlays by their numbers
overlays_by_numbers : (world : World ℕ)
    → any_pair (λ (a b : Filesystem ℕ). nat_eq a.number b.number) world.filesystems ≡ false
    → filter is_overlay world.filesystems ≡ map (filesystem_numbered nat_eq world) (numbers_in world.filesystems)
overlays_by_numbers world one =
    sym (map_twice (filesystem_numbered nat_eq world) (λ (f : Filesystem ℕ). f.number)
    (filter is_overlay world.filesystems)
    ∙ map_same (λ (f : Filesystem ℕ). filesystem_numbered nat_eq world f.number) (filter is_overlay world.filesystems)
    (λ f m. found_filesystem world.filesystems one f (among-from_filter is_overlay world.filesystems f m).0))

module _ (world : World ℕ) (fresh : Fresh ℕ) (task : Task ℕ) (permit : Permit ℕ) (is : IsWorld nat_eq world)
    (given : IsGiven fresh world task permit) where
  abbrev applied : World ℕ
  applied = (apply nat_eq fresh world task permit).world

  numbers_applied : numbers_in applied.filesystems ≡ numbers_in world.filesystems
  numbers_applied = by (change_asked fresh world permit) refl
    where
      left : LeavesFilesystems world fresh task permit → numbers_in applied.filesystems ≡ numbers_in world.filesystems
      left (as_they_were same) = ap numbers_in same
      left (with_plain more) =
          ap numbers_in more ∙ numbers_more world.filesystems (plain_filesystem nat_eq fresh) refl
      left (with_overlay not_named new more) = absurd (not_named (all_permits_fit world fresh task given.call permit
          is
          given.serves given.called given.no_overlay given.judged).names)

      by : (o : Option (Location ℕ × Change ℕ)) → change_asked fresh world permit ≡ o
          → numbers_in applied.filesystems ≡ numbers_in world.filesystems
      by None e = left (unchanged world fresh task permit e)
      by (Some made) e = ap numbers_in (permits_make_their_change world fresh task permit made.0 made.1 e)
          ∙ numbers_changed world is.files.one_filesystem (numbers_left fresh permit) made.0 made.1

  pub listed : filter is_overlay (left_by fresh world task permit).filesystems
      ≡ map (filesystem_numbered nat_eq (left_by fresh world task permit))
      (filter (is_mounted nat_eq (left_by fresh world task permit)) (numbers_in world.filesystems))
  listed =
      let to_task = given_to_task fresh world task permit given in
      let way = given_permits_are_under_way_anywhere world fresh task permit is to_task in
      overlays_by_numbers (left_by fresh world task permit)
      (given_permits_leave_every_world world fresh task permit is to_task).files.one_filesystem
      ∙ ap (map (filesystem_numbered nat_eq (left_by fresh world task permit)))
      (numbers_swept applied way.0 way.1
      ∙ ap (filter (is_mounted nat_eq (left_by fresh world task permit))) numbers_applied)

pub overlays_stay_in_order : OverlaysStayInOrder
overlays_stay_in_order world fresh task permit is given = listed world fresh task permit is given
