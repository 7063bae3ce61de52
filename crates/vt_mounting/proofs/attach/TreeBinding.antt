-- The mounts of a tree that a bind copies: what code makes of them is the policy's tree.
use Rattle.std.proofs.Common.{◌≡◌, refl, sym, ap, subst, ◌∙◌, ⊎_elim, inl, inr, ℕ, nat_eq, eq-eqb, Bool, true, false, true≢false, cond, length, List, [], ◌∷◌, map, find, Some, option_map, filter, flat_map}
use Rattle.vt_spec.proofs.Common.{Mount, World, and_parts, bind_tree, bindable_children, bindable_tree, bound, cons_option, is_located_well, mount_at, no_mount, stands_under}
use Rattle.vt_mounting.proofs.Common.{Among, IsHeld, OneNumberAMount, WorldValue, are_ascending, counted, is_small_node, location_of, mounts_in, number-mount_in, number_of, world_of}
use Rattle.vt_location.specs.declared.locations.Location.{Location}
use Rattle.vt_location.specs.declared.numbers.MountId.{MountId}
use Rattle.vt_laws_mounts.proofs.attached.BindsStand.{bind_there_or_source}
use Rattle.vt_laws_mounts.proofs.mounts.Standing.{binds_take_each_once}
use Rattle.vt_mounting.specs.Attach.BoundMounts.{bound_mounts, rooted_at}
use Rattle.vt_mount.specs.Attached.{AreOf}
use Rattle.vt_mounting.proofs.detach.LocationsSeen.{seen_where_located}
use Rattle.vt_mounting.proofs.attach.Binding.{found_some}
use Rattle.vt_mounting.proofs.attach.CopiesAscend.{differs}
use Rattle.vt_mount.proofs.AttachedLemmas.{ascending_found, picked}
use Rattle.vt_laws_worlds.proofs.worlds.FitPermits.{some_of}

module _ (value : WorldValue) (whole : IsHeld value) (source : Location) (recursive : Bool)
    (small : is_small_node source.node ≡ true)
    (there : is_located_well nat_eq (world_of value) (location_of source) ≡ true) where
  abbrev world : World ℕ
  world = world_of value

  abbrev mounts_now : List (Mount ℕ)
  mounts_now = mounts_in value.mounts

  abbrev top : Mount ℕ
  top = bound nat_eq world (location_of source)

  abbrev tree_now : List (Mount ℕ)
  tree_now = bind_tree nat_eq world (location_of source) recursive

  rest_of_tree : (r : Bool) → (rest : List (Mount ℕ)) × (bind_tree nat_eq world (location_of source) r ≡ top ∷ rest)
  rest_of_tree false = ([], refl)
  rest_of_tree true = (
    flat_map (bindable_tree nat_eq (length world.mounts) world.mounts)
        (filter (stands_under nat_eq world (location_of source))
        (bindable_children nat_eq world.mounts (counted source.mount.count))),
    refl,
  )

  abbrev rest : List (Mount ℕ)
  rest = (rest_of_tree recursive).0

  tree_is : tree_now ≡ top ∷ rest
  tree_is = (rest_of_tree recursive).1

  each_once : OneNumberAMount tree_now
  each_once = binds_take_each_once world
      (location_of source) recursive whole.in_world.mounts.one_number whole.in_world.mounts.standing

  top_number : top.number ≡ counted source.mount.count
  top_number = number-mount_in mounts_now (counted source.mount.count)

  -- what lies below the top is not the top
  rest_differs : (mount : Mount ℕ) → Among mount rest → nat_eq mount.number top.number ≡ false
  rest_differs mount m = differs top rest (subst OneNumberAMount tree_is each_once) mount m

  in_world : (mount : Mount ℕ) → Among mount rest → Among mount mounts_now
  in_world mount m = ⊎_elim
      (λ same. absurd (true≢false (sym (eq-eqb mount.number top.number (ap (λ (x : Mount ℕ). x.number) same))
      ∙ rest_differs mount m))) (λ later. later)
      (bind_there_or_source world (location_of source) recursive mount (subst (Among mount) (sym tree_is) (inr m)))

  source_found : find (λ (mount : Mount ℕ). nat_eq (counted source.mount.count) mount.number) mounts_now
      ≡ Some (mount_at nat_eq world (location_of source))
  source_found = some_of (find (λ (mount : Mount ℕ). nat_eq (counted source.mount.count) mount.number) mounts_now)
      (no_mount (counted source.mount.count))
      (found_some (counted source.mount.count) mounts_now (and_parts _ _ there).0)

  top_rooted : rooted_at source (mount_at nat_eq world (location_of source)) ≡ top
  top_rooted = ap (λ b. cond b (record (mount_at nat_eq world
      (location_of source)) { filesystem = counted source.node.filesystem.count; root = number_of source.node })
      (mount_at nat_eq world (location_of source))) (eq-eqb top.number (counted source.mount.count) top_number)
      ∙ (λ i. record top { filesystem = sym (seen_where_located value whole source small there) i })

  below_rooted : (mount : Mount ℕ) → Among mount rest → rooted_at source mount ≡ mount
  below_rooted mount m =
      ap (λ b. cond b (record mount { filesystem = counted source.node.filesystem.count; root = number_of source.node }) mount)
      (ap (nat_eq mount.number) (sym top_number) ∙ rest_differs mount m)

  all_rooted : (some : List (Mount ℕ)) → ((mount : Mount ℕ) → Among mount some → rooted_at source mount ≡ mount)
      → map (rooted_at source) some ≡ some
  all_rooted [] are = refl
  all_rooted (mount ∷ some) are = λ i. are mount (inl refl) i ∷ all_rooted some (λ x m. are x (inr m)) i

  pub tree_bound : are_ascending mounts_now ≡ true → (origins : List MountId) → AreOf origins tree_now
      → bound_mounts source mounts_now origins ≡ tree_now
  tree_bound ascending origins are = by origins (subst (AreOf origins) tree_is are) ∙ sym tree_is
    where
      by : (ids : List MountId) → AreOf ids (top ∷ rest) → bound_mounts source mounts_now ids ≡ top ∷ rest
      by [] are = absurd cc
      by (id ∷ ids) are =
          let here : counted id.count ≡ top.number = cc in
          let later : map (λ (id : MountId). counted id.count) ids
          ≡ map (λ (mount : Mount ℕ). mount.number) rest = cc in
          ap (λ o. cons_option (option_map (rooted_at source) o) (bound_mounts source mounts_now ids))
          (ap (λ number. find (λ (x : Mount ℕ). nat_eq number x.number) mounts_now) (here ∙ top_number) ∙ source_found)
          ∙ (λ i. top_rooted i ∷ (picked (rooted_at source) mounts_now rest ids later
          (λ mount m. ascending_found mounts_now ascending mount (in_world mount m)) ∙ all_rooted rest below_rooted) i)
