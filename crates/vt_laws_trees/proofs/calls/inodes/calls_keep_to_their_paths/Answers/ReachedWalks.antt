-- What a permit names lies where the walks of its call lead, or its descriptors are.
use Rattle.std.proofs.Common.{arith, Result, ap, eqb-true, is_some, map, nat_eq, option_map, refl, subst, sym, true≢false, ◌&&◌, ◌∙◌, Bool, List, None, Ok, Option, Some, [], false, option_to_list, true, unwrap_or, ℕ, ◌++◌, ◌||◌, ◌∷◌, ◌≡◌}
use Rattle.vt_spec.proofs.Common.{Call, Descriptor, Fresh, Location, Looks, Permit, Place, Rules, Stop, Task, ToRename, ToWritePart, World, and-false, common_steps, descriptor_found, evens, is_among, is_special, looks_of, mount_at, mount_numbered, name_of, object_there, or_false_left, or_parts, overfills, rename_new_walk, special_word, walk_unless, ⊤}
use Rattle.vt_laws_trees.specs.Calls.Inodes.{is_own}
use Rattle.vt_laws_trees.specs.Calls.Reached.{directory_and_new, directory_and_new_at, directory_and_object_at, directory_at, file_or_new, file_or_new_at, is_at_one_of, is_new_root, nothing_or_new, nothing_or_new_at, object_at, reached_by}
use Rattle.vt_laws_rules.proofs.given.Ways.{IsGranted}
use Rattle.vt_laws_rules.proofs.given.Ways.IsGranted.{changes_mark, changes_mode, changes_owner, creates, creates_exclusively, makes_directory, makes_hard_link, makes_symlink, makes_whiteout, mounts_tmpfs, overwrites_file, removes_directory, renames, unlinks, writes_new_file, writes_part}
use Rattle.vt_spec.proofs.Walk.{directory_walk, file_walk, is_directory_there, new_leaf_walk, new_walk, object_walk, old_leaf_walk, old_walk, symlink_walk}
use Rattle.vt_laws_trees.proofs.trees.TreesWalked.{IsNewPlace, IsOldPlace, IsPlace, at_end, ends_new_walk, ends_old_leaf_walk, ends_old_walk, not-false, place_named}

-- a walk that is only checked further ended before
checked_same : {A : Type 0} (steps : List (List ℕ)) (rows : Rules) (a b : A) → walk_unless steps rows a ≡ Ok b → a ≡ b
checked_same steps [] a b e = cc
checked_same steps ((true, rule) ∷ rows) a b e = cc
checked_same steps ((false, rule) ∷ rows) a b e = checked_same steps rows a b e

renamed_walk : (world : World ℕ) (task : Task ℕ) (path : List ℕ) (directory : Bool) (place : Place ℕ)
    → rename_new_walk nat_eq (looks_of nat_eq world) task path directory ≡ Ok place
    → new_walk nat_eq world task path ≡ Ok place
renamed_walk world task path directory place e = grind (arith, common_steps, new_walk, checked_same)

-- the object of a place is found beside its directory, in one filesystem
object_is : (o : Option (Location ℕ)) (other : Location ℕ) → is_some o ≡ true
    → option_to_list o ≡ unwrap_or o other ∷ []
object_is None other e = cc
object_is (Some location) other e = refl

swapped : (a b c d : Bool) → (a || (b || (c || d))) ≡ false → (a || (c || (b || d))) ≡ false
swapped true b c d e = e
swapped false true c d e = absurd (true≢false e)
swapped false false c d e = e

spread : (a b c : Bool) → (a && b) ≡ false → (a && c) ≡ false → (a && (b || c)) ≡ false
spread true true c e f = e
spread true false c e f = f
spread false b c e f = refl

module _ (fresh : Fresh ℕ) (world : World ℕ) (task : Task ℕ) (filesystem number : ℕ) where
  abbrev looks : Looks ℕ
  looks = looks_of nat_eq world

  abbrev In : Location ℕ → ℕ
  In location = (mount_at nat_eq world location).filesystem

  -- locations that are all in one filesystem
  abbrev AllIn : ℕ → List (Location ℕ) → Type 0
  AllIn shown [] = ⊤
  AllIn shown (location ∷ locations) = (In location ≡ shown) × AllIn shown locations

  abbrev Apart : List (Location ℕ) → Type 0
  Apart locations = is_at_one_of world filesystem number locations ≡ false

  abbrev pub IsSpared : Permit ℕ → Type 0
  IsSpared permit = is_own fresh world permit filesystem number ≡ false

  -- locations of one filesystem that the inode is not at
  spared_in : (shown : ℕ) (locations : List (Location ℕ)) → AllIn shown locations → Apart locations
      → (nat_eq filesystem shown && is_among nat_eq number (map (λ location. location.node) locations)) ≡ false
  spared_in shown [] are apart = and-false (nat_eq filesystem shown)
  spared_in shown (location ∷ locations) are apart = spread (nat_eq filesystem shown) (nat_eq number location.node) _
      (ap (λ f. nat_eq filesystem f && nat_eq number location.node) (sym are.0) ∙ or_false_left _ _ apart)
      (spared_in shown locations are.1 ((or_parts _ _ apart).1))

  -- a name that is there, and one that may be
  beside : (parent : Location ℕ) (entry : Option ℕ)
      → AllIn (In parent) (option_to_list (option_map (λ object. record { mount = parent.mount; node = object }) entry))
  beside parent None = tt
  beside parent (Some object) = (refl, tt)

  object_beside : (place : Place ℕ) → IsPlace world place → is_special place.last ≡ false
      → AllIn (In place.parent) (option_to_list place.object)
  object_beside place is plain = subst (λ o. AllIn (In place.parent) (option_to_list o))
      (sym (place_named world place.parent place.last place.object plain is).1) (beside place.parent _)

  spared_removed : (place : Place ℕ) → IsOldPlace world task place → is_special place.last ≡ false
      → Apart (place.parent ∷ option_to_list place.object) → (nat_eq filesystem (In place.parent)
      && is_among nat_eq number (place.parent.node ∷ (object_there place).node ∷ [])) ≡ false
  spared_removed place is plain apart = grind (arith, common_steps, spared_in, object_beside, object_is)

  spared_new : (directory : Location ℕ) → Apart (directory_and_new fresh directory)
      → (nat_eq filesystem (In directory) && is_among nat_eq number (directory.node ∷ evens fresh 0 ∷ [])) ≡ false
  spared_new directory apart = spared_in (In directory) (directory_and_new fresh directory) (refl, (refl, tt)) apart

  spared_one : (location : Location ℕ) → Apart (location ∷ [])
      → (nat_eq filesystem (In location) && is_among nat_eq number (location.node ∷ [])) ≡ false
  spared_one location apart = spared_in (In location) (location ∷ []) (refl, tt) apart

  -- both places of a rename are on one mount
  moved_spares : (from to : Place ℕ) → IsOldPlace world task from → is_special from.last ≡ false
      → IsPlace world to → is_special to.last ≡ false → from.parent.mount ≡ to.parent.mount
      → Apart ((from.parent ∷ option_to_list from.object) ++ (to.parent ∷ option_to_list to.object))
      → IsSpared (ToRename from.parent (name_of from.last) to.parent (name_of to.last) (object_there from) to.object)
  moved_spares from to is word is_to word_to mounts apart =
      grind (arith, common_steps, spared_in, object_beside, swapped, object_is, place_named)

  pwritten_spares : (file : Location ℕ) (offset : ℕ) (bytes : List ℕ) → Apart (file ∷ [])
      → IsSpared (ToWritePart file offset bytes)
  pwritten_spares file offset [] apart = refl
  pwritten_spares file offset (byte ∷ bytes) apart = spared_one file apart

  -- a new filesystem
  joined : (a b : Bool) → (a && b) ≡ false → (a && (b || false)) ≡ false
  joined true true e = e
  joined true false e = refl
  joined false b e = refl

  -- what is apart from where a walk may lead is apart from where it ends
  apart_at : {A : Type 0} (walk : Result A (Stop ℕ)) (a : A) (reached : Result A (Stop ℕ) → List (Location ℕ))
      → walk ≡ Ok a → Apart (reached walk) → Apart (reached (Ok a))
  apart_at walk a reached e = subst (λ w. Apart (reached w)) e

  -- what a permit names is reached
  pub granted_spares : (call : Call) (permit : Permit ℕ)
      → IsGranted nat_eq looks (overfills nat_eq fresh world task) task call permit
      → Apart (reached_by fresh world task call) → is_new_root fresh call filesystem number ≡ false → IsSpared permit
  granted_spares call permit (overwrites_file path bytes place file end named there passed) apart root = spared_one file
      (subst (λ o. Apart (file_or_new fresh place.parent o)) there (apart_at _ place (file_or_new_at fresh) end apart))
  granted_spares call permit (writes_new_file path bytes place end named missing fits passed) apart root =
      spared_new place.parent (subst (λ o. Apart (file_or_new fresh place.parent o)) missing
      (apart_at (file_walk nat_eq world task path) place (file_or_new_at fresh) end apart))
  granted_spares call permit (makes_directory path mode place end passed) apart root = spared_new place.parent
      (apart_at (new_walk nat_eq world task path) place (directory_and_new_at fresh) end apart)
  granted_spares call permit (makes_symlink text path place fits end passed) apart root = spared_new place.parent
      (apart_at (new_leaf_walk nat_eq world task path) place (directory_and_new_at fresh) end apart)
  granted_spares call permit (makes_whiteout path place end passed) apart root = spared_new place.parent
      (apart_at (new_leaf_walk nat_eq world task path) place (directory_and_new_at fresh) end apart)
  granted_spares call permit (makes_hard_link old new from place from_end end named passed) apart root =
      spared_in (In place.parent) (place.parent ∷ from.location ∷ []) (
        refl,
        (
          ap (λ mount. (mount_numbered nat_eq world mount).filesystem)
              (eqb-true from.location.mount place.parent.mount (not-false _ passed.1.1.1.1.1.0)),
          tt,
        ),
      ) (apart_at (symlink_walk nat_eq world task old) from (λ walk. place.parent ∷ object_at walk) from_end
      (apart_at _ place (λ walk. directory_at walk ++ object_at (symlink_walk nat_eq world task old)) end apart))
  granted_spares call permit (unlinks path place end named passed) apart root = spared_removed place
      (at_end (IsOldPlace world task) (old_leaf_walk nat_eq world task path) place (ends_old_leaf_walk world task path)
      end) named.0 (apart_at (old_leaf_walk nat_eq world task path) place directory_and_object_at end apart)
  granted_spares call permit (removes_directory path place end word passed) apart root = spared_removed place
      (at_end (IsOldPlace world task) (old_walk nat_eq world task path) place (ends_old_walk world task path) end)
      (special_word place.last word.0 word.1.0 word.1.1.0) (apart_at _ place directory_and_object_at end apart)
  granted_spares call permit (renames old new from to names two passed) apart root =
      let to_end = renamed_walk world task new (is_directory_there nat_eq world from) to names.to_end in
      moved_spares from to (at_end (IsOldPlace world task) _ from (ends_old_leaf_walk world task old) names.from_end)
      names.from_named.0 (at_end (IsNewPlace world task) _ to (ends_new_walk world task new) to_end).0
      names.to_named.0 (eqb-true from.parent.mount to.parent.mount (not-false _ passed.1.1.1.1.1.1.1.1.0)) (apart_at _
      to (λ walk. (from.parent ∷ option_to_list from.object) ++ directory_and_object_at walk) to_end (apart_at _
      from (λ walk. directory_and_object_at walk ++ directory_and_object_at (new_walk nat_eq world task new))
      names.from_end apart))
  granted_spares call permit (changes_mode path mode here end passed) apart root =
      spared_one here.location (apart_at (object_walk nat_eq world task path) here object_at end apart)
  granted_spares call permit (changes_owner path uid gid here end passed) apart root =
      spared_one here.location (apart_at (object_walk nat_eq world task path) here object_at end apart)
  granted_spares call permit (changes_mark path mark here admin end passed) apart root =
      spared_one here.location (apart_at (directory_walk nat_eq world task path) here object_at end apart)
  granted_spares call permit (creates path access mode place room end named missing passed) apart root =
      spared_new place.parent (subst (λ o. Apart (nothing_or_new fresh place.parent o)) missing
      (apart_at (file_walk nat_eq world task path) place (nothing_or_new_at fresh) end apart))
  granted_spares call permit (creates_exclusively path access mode place room end named passed) apart root =
      spared_new place.parent (apart_at (new_walk nat_eq world task path) place (directory_and_new_at fresh) end apart)
  granted_spares call permit (writes_part which offset bytes descriptor found passed) apart root = pwritten_spares _
      offset bytes (subst (λ o. Apart (option_to_list (option_map (λ (d : Descriptor ℕ). d.location) o)))
      (descriptor_found task which (λ d. d.writes) descriptor found).0 apart)
  granted_spares call permit (mounts_tmpfs path flags here admin end passed) apart root = joined _ _ root
  granted_spares call permit granted apart root = refl
