-- What the walks and the rules of a call say of what its permit names.
use Rattle.std.proofs.Common.{arith, Bool, Ok, Option, ap, eqb-true, length, ok_or, option_map, refl, suc, sym, true≢false, zero, ◌||◌, ◌∙◌, None, Some, false, is_some, nat_eq, option_to_list, true, unwrap_or, ℕ, ◌≡◌}
use Rattle.vt_spec.proofs.Common.{Among, Descriptor, Here, IsWorld, Location, Looks, Place, Task, TaskName, World, among_from_list_all, chain, common_steps, descriptor_at, found_among, holds_of, is_directory_at, is_elsewhere, is_kind_in, is_listed, is_no_root, is_on_descendant, is_special, lies_under_location, list_any, looks_of, mount_at, mount_numbered, node_at, none_is_not, or-false, rest_of, task_called}
use Rattle.vt_laws_mounts.proofs.namespaces.Topmost.{topmost_is_free}
use Rattle.vt_spec.specs.declared.attributes.Kind.TheVariants.{File, White}
use Rattle.vt_spec.specs.declared.errors.Deny.{Deny}
use Rattle.vt_laws_trees.proofs.trees.TreesTasks.{called_there}
use Rattle.vt_laws_trees.proofs.trees.TreesWalked.{not-false, ok_same}
use Rattle.vt_laws_worlds.proofs.worlds.Reached.{directory_found, is_reached_directory, others_are_files}
use Rattle.vt_laws_worlds.proofs.worlds.ReachedPlaces.{HereDirectory, IsPlaceIn, IsTopmost}
use Rattle.vt_laws_worlds.proofs.worlds.ReachedWalks.{End}
use Rattle.vt_laws_worlds.specs.Worlds.Permits.{IsDestination, IsOwn, IsReachedDirectory}

-- a step that succeeds where something is there
pub ok_or_some : {A : Type 0} (o : Option A) (deny : Deny) (a : A) → ok_or o deny ≡ Ok a → o ≡ Some a
ok_or_some {A} None deny a e = grind (arith, common_steps, true≢false)
ok_or_some (Some x) deny a e = cc (ok_same x a (Ok x) refl e)

-- a test of what may be there
pub any_of_option : {A : Type 0} (test : A → Bool) (o : Option A) → list_any test (option_to_list o) ≡ holds_of test o
any_of_option test None = refl
any_of_option test (Some a) = or-false (test a)

-- what is there of an option
pub some_of : {A : Type 0} (o : Option A) (default : A) → is_some o ≡ true → o ≡ Some (unwrap_or o default)
some_of None default is = cc
some_of (Some a) default is = refl

-- the first two of several tests that all fail
pub first_two : (a b c d e : Bool) → (a || b || c || d || e) ≡ false → (a ≡ false) × (b ≡ false)
first_two true b c d e h = cc
first_two false true c d e h = cc
first_two false false c d e h = (refl, refl)

-- what follows a start goes by where the first step leads
rest_same : {A : Type 0} (most : ℕ) (next : A → Option A) (a b : A) → next a ≡ next b
    → rest_of (chain most next a) ≡ rest_of (chain most next b)
rest_same zero next a b e = refl
rest_same {A} (suc most) next a b e = grind (arith, common_steps)

module _ (world : World ℕ) (whole : IsWorld nat_eq world) (task : Task ℕ)
    (called : task_called world task.name ≡ Some task) where
  abbrev looks : Looks ℕ
  looks = looks_of nat_eq world

  -- M2
  pub own_if : (location : Location ℕ) → is_elsewhere nat_eq looks task location ≡ false
      → IsOwn world task location.mount
  own_if location e = grind (arith, common_steps, true≢false, eqb-true)

  pub reached_directory : (here : Here ℕ) → HereDirectory world whole task called here
      → IsReachedDirectory world task here.location
  reached_directory here is = is_reached_directory world whole task _ (directory_found world whole task _ is) is.1

  pub destination : (here : Here ℕ) → IsTopmost world whole task called here
      → is_elsewhere nat_eq looks task here.location ≡ false → IsDestination world task here.location
  destination here is e = grind (arith, common_steps, reached_directory, own_if, topmost_is_free)

  pub parent_directory : {P : Location ℕ → Type 0} (place : Place ℕ) → IsPlaceIn world whole task called P place
      → is_special place.last ≡ false → IsReachedDirectory world task place.parent
  parent_directory place is plain = is_reached_directory world whole task _ is.0 (is.1 plain)

  -- what is at the end of a walk, and is no directory and no whiteout, is a regular file
  pub end_is_file : (file : Location ℕ) → End world whole task called file → is_directory_at nat_eq world file ≡ false
      → is_kind_in White (node_at nat_eq world file) ≡ false → is_kind_in File (node_at nat_eq world file) ≡ true
  end_is_file file end no_directory no_whiteout = others_are_files _ end.0.1 end.1 no_directory no_whiteout

  -- a descriptor that is found is one of the task's
  pub descriptor_among : (number : ℕ) (fits : Descriptor ℕ → Bool) (descriptor : Descriptor ℕ)
      → descriptor_at task number fits ≡ Ok descriptor → Among descriptor task.descriptors
  descriptor_among number fits descriptor e = grind (arith, common_steps, found_among, ok_or_some)

  -- the place below a mount is that of the mount, whatever inode it is seen at
  pub below_at : (new : Location ℕ) → is_on_descendant nat_eq looks task.root.mount new ≡ true → (node : ℕ)
      → is_on_descendant nat_eq looks task.root.mount (record { mount = new.mount; node = node }) ≡ true
  below_at new h node = cc (rest_same (length world.mounts) (λ (place : Location ℕ).
      (mount_at nat_eq world place).mount_point) (record { mount = new.mount; node = node }) new refl)

  pub under_root : (new put : Location ℕ) → lies_under_location nat_eq looks new put ≡ true
      → is_no_root nat_eq looks new ≡ false → (node : ℕ) → node ≡ (mount_numbered nat_eq world new.mount).root
      → lies_under_location nat_eq looks (record { mount = new.mount; node = node }) put ≡ true
  under_root new put h root node e =
      ap (λ (n : ℕ). lies_under_location nat_eq looks (record { mount = new.mount; node = n }) put)
      (e ∙ sym (eqb-true new.node (mount_numbered nat_eq world new.mount).root
      (not-false (nat_eq new.node (mount_numbered nat_eq world new.mount).root) root))) ∙ h

  -- setns(2)
  pub namespace_listed : (name : TaskName) (namespace : ℕ)
      → option_map (λ (t : Task ℕ). t.namespace) (task_called world name) ≡ Some namespace
      → is_listed nat_eq world namespace ≡ true
  namespace_listed name = by _ refl
    where
      by : (found : Option (Task ℕ)) → task_called world name ≡ found → (namespace : ℕ)
          → option_map (λ (t : Task ℕ). t.namespace) found ≡ Some namespace → is_listed nat_eq world namespace ≡ true
      by None f namespace e = none_is_not None _ refl e
      by (Some target) f namespace e = cc (among_from_list_all (λ (t : Task ℕ). is_listed nat_eq world t.namespace)
          world.tasks whole.namespaces.tasks_listed target (called_there world.tasks name target f))
