-- Where one step of a walk leads: to what is there, on a mount of the task's namespace or on one that is in none.
use Rattle.std.proofs.Common.{arith, ◌≡◌, refl, sym, ap, subst, ◌∙◌, true≢false, ⊎_elim, ℕ, nat_eq, Bool, true, false, cond, List, [], ◌∷◌, length, Option, Some, None, is_some, option_map, ok_or, Ok, Err, option_to_list}
use Rattle.vt_spec.proofs.Common.{Among, Dot, DotDot, IsWorld, LastWord, Location, Mount, Named, NoWord, Node, Stands, Task, World, among_from_all, and_from, at_root, child_at, common_steps, denial, directory_used, entries_in, entry_named, files_at, found_or_none, hop, is_among, is_directory_at, is_directory_node, is_kind_in, list_all, mount_at, mount_numbered, node_at, none_is_not, number-mount_in, on_parent, parent_location, root_of, same_Some, stands_at, symlink_text, topmost, unless}
use Rattle.vt_spec.specs.declared.attributes.Kind.TheVariants.{File, White}
use Rattle.vt_spec.specs.declared.errors.Deny.{Deny}
use Rattle.vt_spec.specs.declared.errors.Rule.TheVariants.{W6, W8}
use Rattle.vt_spec.proofs.Walk.{entry_location, stepped, up_from}
use Rattle.vt_laws_mounts.specs.Mounts.Attaching.{numbers_of}
use Rattle.vt_laws_mounts.proofs.mounts.MountsFound.{found_in, placed_among}
use Rattle.vt_laws_mounts.proofs.mounts.MountsNumbered.{is_one_of}
use Rattle.vt_laws_mounts.proofs.mounts.MountsPlaces.{stands_there}
use Rattle.vt_laws_mounts.proofs.mounts.MountsReplaced.{found_itself}
use Rattle.vt_laws_mounts.proofs.namespaces.Unsharing.{placed_inside}
use Rattle.vt_laws_trees.proofs.trees.TreesEntered.{chain_ends_at, directory_in_tree}
use Rattle.vt_laws_trees.proofs.trees.TreesOfMounts.{worlds_are_standing}
use Rattle.vt_laws_trees.proofs.trees.TreesWalked.{ok_same}
use Rattle.vt_laws_worlds.specs.Worlds.Permits.{IsReached, IsReachedDirectory}

-- a directory is no link
pub directory_no_link : (o : Option (Node ℕ)) → is_directory_node o ≡ true → symlink_text o ≡ None
directory_no_link None is = refl
directory_no_link (Some node) is = grind (arith, common_steps, true≢false)

-- what is there, and is no directory, whiteout or link, is a regular file
pub others_are_files : (o : Option (Node ℕ)) → is_some o ≡ true → symlink_text o ≡ None → is_directory_node o ≡ false
    → is_kind_in White o ≡ false → is_kind_in File o ≡ true
others_are_files None there no_link no_directory no_whiteout = cc
others_are_files (Some node) there no_link no_directory no_whiteout = grind (arith, common_steps, true≢false)

-- a mount that stands at a place is in the namespace of the mount below
pub namespace_below : (world : World ℕ) (number : ℕ) (place : Location ℕ) → Stands nat_eq world number
    → (mount_numbered nat_eq world number).mount_point ≡ Some place
    → (mount_numbered nat_eq world number).namespace ≡ (mount_numbered nat_eq world place.mount).namespace
namespace_below world number place (at_root it e) f = none_is_not _ place e f
namespace_below world number place (on_parent it on e same stands) f = cc

module _ (world : World ℕ) (whole : IsWorld nat_eq world) (task : Task ℕ) where
  -- a mount of the task's namespace, or one that is in none
  abbrev pub IsOn : ℕ → Type 0
  IsOn number = (is_among nat_eq number (numbers_of world.mounts) ≡ true)
      × (list_all (nat_eq task.namespace) (option_to_list (mount_numbered nat_eq world number).namespace) ≡ true)

  abbrev pub IsThere : Location ℕ → Type 0
  IsThere location = is_some (node_at nat_eq world location) ≡ true

  abbrev pub IsDirectory : Location ℕ → Type 0
  IsDirectory location = is_directory_at nat_eq world location ≡ true

  abbrev pub IsNoLink : Location ℕ → Type 0
  IsNoLink location = symlink_text (node_at nat_eq world location) ≡ None

  -- what a step leads to, and where a walk through links ends
  abbrev pub IsFound : Location ℕ → Type 0
  IsFound location = IsOn location.mount × IsThere location

  abbrev pub IsFoundDirectory : Location ℕ → Type 0
  IsFoundDirectory location = IsOn location.mount × IsDirectory location

  abbrev pub IsEnd : Location ℕ → Type 0
  IsEnd location = IsFound location × IsNoLink location

  pub directory_there : (location : Location ℕ) → IsDirectory location → IsThere location
  directory_there location is = directory_used (files_at nat_eq world location).tree location.node is

  pub directory_found : (location : Location ℕ) → IsFoundDirectory location → IsFound location
  directory_found location is = (is.0, directory_there _ is.1)

  pub directory_end : (location : Location ℕ) → IsFoundDirectory location → IsEnd location
  directory_end location is = (directory_found _ is, directory_no_link _ is.1)

  pub is_reached : (location : Location ℕ) → IsFound location → IsReached world task location
  is_reached location is = record { there = and_from _ _ is.0.0 is.1; seen = is.0.1 }

  pub is_reached_directory : (location : Location ℕ) → IsFound location → IsDirectory location
      → IsReachedDirectory world task location
  is_reached_directory location is directory = record { reached = is_reached _ is; directory = directory }

  -- a mount over a place
  child_found : (a b : Location ℕ) → IsOn a.mount → option_map root_of (child_at nat_eq world.mounts a) ≡ Some b
      → IsFoundDirectory b
  child_found a b on e = by _ refl e
    where
      by : (o : Option (Mount ℕ)) → child_at nat_eq world.mounts a ≡ o → option_map root_of o ≡ Some b
          → IsFoundDirectory b
      by None is h = none_is_not None b refl h
      by (Some mount) is h =
          let found : Among mount world.mounts × (stands_at nat_eq a mount ≡ true) = found_in _ _ mount is in
          let itself = found_itself _ whole.mounts.one_number mount found.0 in
          let below = namespace_below world _ a (among_from_all (λ (m : Mount ℕ). Stands nat_eq world m.number)
          world.mounts whole.mounts.standing mount found.0) (cc (stands_there a mount found.1)) in
          subst IsFoundDirectory (cc) (
            (
              is_one_of _ mount found.0,
              cc,
            ),
            among_from_all (λ m. is_directory_at nat_eq world (root_of m) ≡ true) world.mounts
                (worlds_are_standing world whole).roots mount found.0,
          )

  pub topmost_found : (location : Location ℕ) → IsFound location → IsFound (topmost nat_eq world.mounts location)
  topmost_found location is = chain_ends_at _ _
      (λ a b found e. directory_found b (child_found a b found.0 e)) (length world.mounts) location _ is

  pub topmost_end : (location : Location ℕ) → IsEnd location → IsEnd (topmost nat_eq world.mounts location)
  topmost_end location is = chain_ends_at IsEnd _
      (λ a b end e. directory_end b (child_found a b end.0.0 e)) (length world.mounts) location _ is

  pub topmost_directory : (location : Location ℕ) → IsFoundDirectory location
      → IsFoundDirectory (topmost nat_eq world.mounts location)
  topmost_directory location is =
      chain_ends_at _ _ (λ a b found e. child_found a b found.0 e) (length world.mounts) location _ is

  -- the place of a mount
  pub place_found : (number : ℕ) (place : Location ℕ) → IsOn number → (mount_numbered nat_eq world
      number).mount_point ≡ Some place → IsFoundDirectory place
  place_found number place on e =
      let mount = mount_numbered nat_eq world number in
      let there : Among mount world.mounts = placed_among world.mounts number place e in
      let same : mount.number ≡ number = number-mount_in world.mounts number in
      let below : mount.namespace ≡ (mount_numbered nat_eq world place.mount).namespace =
      namespace_below world number place (subst (Stands nat_eq world) same
      (among_from_all (λ (m : Mount ℕ). Stands nat_eq world m.number) world.mounts whole.mounts.standing mount
      there)) e in (
        (
          ⊎_elim (λ found. subst (λ n. is_among nat_eq n (numbers_of world.mounts) ≡ true)
              (number-mount_in world.mounts place.mount)
              (is_one_of world.mounts (mount_numbered nat_eq world place.mount) found))
              (λ none. absurd (placed_inside world whole.mounts mount there place e
              (below ∙ ap (λ (m : Mount ℕ). m.namespace) none))) (found_or_none world.mounts place.mount),
          ap (λ o. list_all (nat_eq task.namespace) (option_to_list o)) (sym below) ∙ on.1,
        ),
        among_from_all (λ (m : Mount ℕ). (at : Location ℕ) → m.mount_point ≡ Some at
            → is_directory_at nat_eq world at ≡ true) world.mounts
            (worlds_are_standing world whole).places mount there place e,
      )

  hop_found : (a b : Location ℕ) → IsFoundDirectory a → hop nat_eq world task a ≡ Some b → IsFoundDirectory b
  hop_found a b is e = by _ _ e
    where
      by : (p q : Bool) → cond p None (cond q (mount_at nat_eq world a).mount_point None) ≡ Some b → IsFoundDirectory b
      by true q h = none_is_not None b refl h
      by false true h = place_found _ b is.0 h
      by false false h = none_is_not None b refl h

  parent_found : (location : Location ℕ) → IsFoundDirectory location
      → IsFoundDirectory (parent_location nat_eq world location)
  parent_found location is =
      (is.0, (directory_in_tree world whole.files.trees _ is.1).parent_directory location.node is.1)

  no_denial : (deny : Deny) (a : Location ℕ) → Err deny ≡ Ok a → ⊥
  no_denial deny a e = grind (arith, common_steps, true≢false)

  up_found : (location reached : Location ℕ) → IsFoundDirectory location
      → up_from nat_eq world task location ≡ Ok reached → IsFound reached
  up_found location reached is e = by _ _ e
    where
      by : (p q : Bool) → cond p (Ok location) (unless ((q, W8) ∷ []) (Ok (topmost nat_eq world.mounts
          (parent_location nat_eq world location)))) ≡ Ok reached → IsFound reached
      by true q h = subst IsFound (ok_same _ _ _ refl h) (directory_found _ is)
      by false true h = absurd (no_denial _ _ h)
      by false false h = subst IsFound (ok_same _ _ _ refl h) (topmost_found _ (directory_found _ (parent_found _ is)))

  pub entry_found : (here : Location ℕ) (name : List ℕ) (object : Location ℕ) → IsFoundDirectory here
      → entry_location nat_eq world here name ≡ Some object → IsFound object
  entry_found here name object is e = by _ refl e
    where
      by : (o : Option ℕ) → entry_named name (entries_in (node_at nat_eq world here)) ≡ o
          → option_map (λ number. record { mount = here.mount; node = number }) o ≡ Some object → IsFound object
      by None f h = none_is_not None object refl h
      by (Some number) f h = subst IsFound (same_Some _ object h) (
        is.0,
        (directory_in_tree world whole.files.trees here is.1).alive here.node name number f,
      )

  -- one word
  pub step_found : (here : Location ℕ) (word : LastWord) (reached : Location ℕ) → IsFoundDirectory here
      → stepped nat_eq world task here word ≡ Ok reached → IsFound reached
  step_found here NoWord reached is e = subst IsFound (ok_same here _ _ refl e) (directory_found here is)
  step_found here Dot reached is e = subst IsFound (ok_same here _ _ refl e) (directory_found here is)
  step_found here DotDot reached is e = up_found _ _ (chain_ends_at _ _ hop_found (length world.mounts) here here is) e
  step_found here (Named name) reached is e = by _ refl e
    where
      by : (o : Option (Location ℕ)) → entry_location nat_eq world here name ≡ o
          → ok_or (option_map (topmost nat_eq world.mounts) o) (denial W6) ≡ Ok reached → IsFound reached
      by None f h = absurd (no_denial _ _ h)
      by (Some object) f h = subst IsFound (ok_same _ _ _ refl h)
          (topmost_found object (entry_found here name object is f))
