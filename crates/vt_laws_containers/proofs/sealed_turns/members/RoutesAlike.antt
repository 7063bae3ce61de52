-- The paths of a call of theirs are walked alike in the world and in the part.
use Rattle.std.proofs.Common.{arith, ◌≡◌, refl, ap, ℕ, nat_eq, List, [], ◌∷◌, Some, None, Ok, Err, Result, IfOk, subst}
use Rattle.vt_spec.proofs.Common.{Bind, Call, Chdir, Chmod, Chown, Chroot, Exclusive, Exec, Here, Lazy, LinkTo, Location, Looks, Ls, Lstat, MakeWhiteout, Mkdir, MountOverlay, MountPlain, MoveMount, NoCreation, Opaque, OpenFile, OrCreate, OverlayWords, PivotRoot, Place, Read, Readlink, Remount, Rename, Rmdir, SetType, Stat, Stop, SymlinkAt, Task, Umount, Unlink, Write, common_steps, destination_walk, directory_walk, entry_rules, file_walk, is_directory_there, judging, map_alike, new_leaf_walk, new_walk, object_walk, old_leaf_walk, old_walk, routes, same_Some, source_walk, symlink_walk}
use Rattle.vt_laws_containers.proofs.Common.{here_route, layer_routes, place_or_root, place_route}
use Rattle.vt_laws_members.proofs.judging.WalksLead.{PlaceAt, WalksAlike, destination_agrees, directory_agrees, file_agrees, new_agrees, new_leaf_agrees, object_agrees, old_agrees, old_leaf_agrees, rename_new_agrees, same_directory_there, source_agrees, symlink_agrees}

module _ {one other : Looks ℕ} {task : Task ℕ} {Own : ℕ → Type 0} (leads : WalksAlike one other task Own) where
  -- one path, walked alike
  here_same : (a b : Result (Here ℕ) (Stop ℕ)) → a ≡ b → (here_route a ∷ []) ≡ (here_route b ∷ [])
  here_same a b e = ap (λ w. here_route w ∷ []) e

  place_same : (a b : Result (Place ℕ) (Stop ℕ)) → a ≡ b → (place_route a ∷ []) ≡ (place_route b ∷ [])
  place_same a b e = ap (λ w. place_route w ∷ []) e

  object : (path : List ℕ)
      → (here_route (object_walk nat_eq one task path) ∷ []) ≡ (here_route (object_walk nat_eq other task path) ∷ [])
  object path = here_same _ _ (object_agrees leads path).0

  symlink : (path : List ℕ)
      → (here_route (symlink_walk nat_eq one task path) ∷ []) ≡ (here_route (symlink_walk nat_eq other task path) ∷ [])
  symlink path = here_same _ _ (symlink_agrees leads path).0

  directories : (path : List ℕ) → (here_route (directory_walk nat_eq one task path) ∷ [])
      ≡ (here_route (directory_walk nat_eq other task path) ∷ [])
  directories path = here_same _ _ (directory_agrees leads path).0

  source : (path : List ℕ) → source_walk nat_eq one task path ≡ source_walk nat_eq other task path
  source path = (source_agrees leads path).0

  destination : (path : List ℕ) → (here_route (destination_walk nat_eq one task path) ∷ [])
      ≡ (here_route (destination_walk nat_eq other task path) ∷ [])
  destination path = here_same _ _ (destination_agrees leads path).0

  file : (path : List ℕ)
      → (place_route (file_walk nat_eq one task path) ∷ []) ≡ (place_route (file_walk nat_eq other task path) ∷ [])
  file path = place_same _ _ (file_agrees leads path).0

  new : (path : List ℕ)
      → (place_route (new_walk nat_eq one task path) ∷ []) ≡ (place_route (new_walk nat_eq other task path) ∷ [])
  new path = place_same _ _ (new_agrees leads path).0

  new_leaf : (path : List ℕ) → (place_route (new_leaf_walk nat_eq one task path) ∷ [])
      ≡ (place_route (new_leaf_walk nat_eq other task path) ∷ [])
  new_leaf path = place_same _ _ (new_leaf_agrees leads path).0

  old : (path : List ℕ)
      → (place_route (old_walk nat_eq one task path) ∷ []) ≡ (place_route (old_walk nat_eq other task path) ∷ [])
  old path = place_same _ _ (old_agrees leads path).0

  old_leaf : (path : List ℕ) → old_leaf_walk nat_eq one task path ≡ old_leaf_walk nat_eq other task path
  old_leaf path = (old_leaf_agrees leads path).0

  -- the old object of a rename is a directory in both
  from_directory : (walk : Result (Place ℕ) (Stop ℕ)) → IfOk walk (PlaceAt leads)
      → is_directory_there nat_eq one (place_or_root nat_eq one task walk)
      ≡ is_directory_there nat_eq other (place_or_root nat_eq other task walk)
  from_directory (Ok place) at = same_directory_there leads place at
  from_directory (Err stop) at = same_directory_there leads (place_or_root nat_eq one task (Err stop))
      (leads.walks.root, λ object e. subst (λ (o : Location ℕ). Own o.mount) (same_Some task.root object e) leads.walks.root)

  renamed : (old new : List ℕ) → routes nat_eq one task (Rename old new) ≡ routes nat_eq other task (Rename old new)
  unfolding judging
  renamed old new = cc (
    old_leaf old,
    from_directory (old_leaf_walk nat_eq one task old) (old_leaf_agrees leads old).1,
    (rename_new_agrees leads new _).0,
  )

  layers : (words : OverlayWords) → layer_routes nat_eq one task words ≡ layer_routes nat_eq other task words
  layers words = map_alike (λ path. here_route (source_walk nat_eq one task path))
      (λ path. here_route (source_walk nat_eq other task path)) _ (λ path m. ap (λ w. here_route w) (source path))

  -- two mounts, or their places
  from_to : (source_path path : List ℕ) → (here_route (source_walk nat_eq one task source_path)
      ∷ here_route (destination_walk nat_eq one task path) ∷ [])
      ≡ (here_route (source_walk nat_eq other task source_path)
      ∷ here_route (destination_walk nat_eq other task path) ∷ [])
  from_to source_path path =
      cc (source source_path, destination path)

  pub routes_alike : (call : Call) → routes nat_eq one task call ≡ routes nat_eq other task call
  unfolding judging
  routes_alike (Ls path) = directories path
  routes_alike (Stat path) = object path
  routes_alike (Lstat path) = symlink path
  routes_alike (Readlink path) = symlink path
  routes_alike (Read path) = object path
  routes_alike (Write path bytes) = file path
  routes_alike (Exec path) = object path
  routes_alike (Mkdir path mode) = new path
  routes_alike (SymlinkAt text path) = new_leaf path
  routes_alike (MakeWhiteout path) = new_leaf path
  routes_alike (LinkTo from to) = grind (arith, common_steps, symlink, new_leaf)
  routes_alike (Unlink path) = place_same _ _ (old_leaf path)
  routes_alike (Rmdir path) = old path
  routes_alike (Rename from to) = renamed from to
  routes_alike (Chmod path mode) = object path
  routes_alike (Chown path uid gid) = object path
  routes_alike (Opaque path mark) = directories path
  routes_alike (OpenFile path access NoCreation) = object path
  routes_alike (OpenFile path access (OrCreate mode)) = file path
  routes_alike (OpenFile path access (Exclusive mode)) = new path
  routes_alike (Chdir path) = directories path
  routes_alike (Chroot path) = directories path
  routes_alike (MountPlain path given) = destination path
  routes_alike (MountOverlay path None given) = destination path
  routes_alike (MountOverlay path (Some words) given) = cc (destination path, layers words)
  routes_alike (Bind from path recursive) = from_to from path
  routes_alike (MoveMount from path) = from_to from path
  routes_alike (Umount path) = directories path
  routes_alike (Lazy path) = directories path
  routes_alike (Remount path given) = directories path
  routes_alike (SetType path word recursive) = directories path
  routes_alike (PivotRoot new_root put) = from_to new_root put
  routes_alike call = refl

-- the S and K rules of a call do not go by what is looked at
pub entry_same : (one other : Looks ℕ) (task : Task ℕ) (call : Call)
    → entry_rules nat_eq one task call ≡ entry_rules nat_eq other task call
unfolding judging
entry_same one other task (OpenFile path access NoCreation) = refl
entry_same one other task (OpenFile path access (OrCreate mode)) = refl
entry_same one other task (OpenFile path access (Exclusive mode)) = refl
entry_same one other task (MountOverlay path None given) = refl
entry_same one other task (MountOverlay path (Some words) given) = refl
entry_same one other task call = refl
