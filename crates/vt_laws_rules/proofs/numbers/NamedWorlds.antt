-- A world keeps to the numbers that it has anywhere.
use Rattle.std.proofs.Common.{◌≡◌, refl, sym, ap, ◌∙◌, true≢false, ℕ, Bool, true, false, List, [], ◌∷◌, Option, zero, arith, suc, All, map, option_map}
use Rattle.vt_spec.proofs.Common.{Content, Descriptor, Filesystem, Layer, Location, Mount, Namespace, Node, Overlay, Propagation, Real, Task, World, and_parts, common_steps, list_all, renamed, renamed_content, renamed_entry, renamed_filesystem, renamed_location, renamed_mount, renamed_namespace, renamed_node, renamed_overlay, renamed_task}
use Rattle.vt_spec.specs.Machine.Renaming.{renamed_descriptor, renamed_layer, renamed_propagation, renamed_real}
use Rattle.vt_laws_rules.specs.Renaming.{Leaves, Renaming}
use Rattle.vt_laws_rules.specs.Numbers.{FilesystemNamed, IsFoundAmong, NamedIsKept, OverlayIfAnyNamed, OverlayNamed, WorldNamed, content_named, descriptor_named, layer_named, location_named, mount_named, namespace_named, node_named, none_or, propagation_named, real_named, task_named}

-- what is left where it is one by one is left so in a list
list_left : {A : Type 0} (f : A → A) (test : A → Bool) → ((a : A) → test a ≡ true → f a ≡ a) → (list : List A)
    → list_all test list ≡ true → map f list ≡ list
list_left f test same [] e = refl
list_left f test same (a ∷ rest) e =
    let parts = and_parts (test a) (list_all test rest) e in
    λ i. same a parts.0 i ∷ list_left f test same rest parts.1 i

-- and in an option
pub option_left : {A : Type 0} (f : A → A) (test : A → Bool) → ((a : A) → test a ≡ true → f a ≡ a) → (option : Option A)
    → none_or test option ≡ true → option_map f option ≡ option
option_left f test same e option = grind (arith, common_steps)

all_left : {A : Type 0} (f : A → A) (P : A → Type 0) → ((a : A) → P a → f a ≡ a) → (list : List A) → All P list
    → map f list ≡ list
all_left f P same [] all = refl
all_left f P same (a ∷ rest) all =
    λ i. same a (all zero a (omega arith)) i ∷ all_left f P same rest (λ k d short. all (suc k) d (omega arith)) i

module _ (named : ℕ → Bool) (renaming : Renaming ℕ ℕ) (leaves : Leaves renaming named) where
  abbrev there : ℕ → ℕ
  there = renaming.there

  abbrev back : ℕ → ℕ
  back = renaming.back

  back_leaves : (number : ℕ) → named number ≡ true → back number ≡ number
  back_leaves number is = ap back (sym (leaves number is)) ∙ renaming.back_there number

  -- a number that is left out comes from one that is left out
  back_out : (number : ℕ) → named number ≡ false → named (back number) ≡ false
  back_out number out = grind (arith, common_steps, true≢false)

  found_left : {A : Type 0} (f : A → A) (test : A → Bool) → ((a : A) → test a ≡ true → f a ≡ a) → (find : ℕ → Option A)
      → IsFoundAmong named test find → (number : ℕ) → option_map f (find (back number)) ≡ find number
  found_left f test same find found number = grind (arith, common_steps, back_leaves, option_left, back_out)

  -- a location of numbers that are left stays, as does a node
  pub location_left : (location : Location ℕ) → location_named named location ≡ true
      → renamed_location there back location ≡ location
  location_left location e = grind (arith, common_steps)

  propagation_left : (kind : Propagation ℕ) → propagation_named named kind ≡ true
      → renamed_propagation there back kind ≡ kind
  propagation_left kind e = grind (arith, common_steps)

  mount_left : (mount : Mount ℕ) → mount_named named mount ≡ true → renamed_mount there back mount ≡ mount
  mount_left mount e = grind (arith, common_steps, and_parts, option_left, location_left, propagation_left)

  entry_left : (entry : List ℕ × ℕ) → named entry.1 ≡ true → renamed_entry there back entry ≡ entry
  entry_left entry e = λ i. (entry.0, leaves entry.1 e i)

  content_left : (content : Content ℕ) → content_named named content ≡ true
      → renamed_content there back content ≡ content
  content_left content e = grind (arith, common_steps, and_parts, list_left, entry_left)

  pub node_left : (node : Node ℕ) → node_named named node ≡ true → renamed_node there back node ≡ node
  node_left node e = λ i. record { attr = node.attr; content = content_left node.content e i }

  layer_left : (layer : Layer ℕ) → layer_named named layer ≡ true → renamed_layer there back layer ≡ layer
  layer_left layer e = grind (arith, common_steps)

  real_left : (real : Real ℕ) → real_named named real ≡ true → renamed_real there back real ≡ real
  real_left real e = grind (arith, common_steps)

  overlay_left : (overlay : Overlay ℕ) → OverlayNamed named overlay → renamed_overlay there back overlay ≡ overlay
  overlay_left overlay h = grind (arith, common_steps, option_left, layer_left, list_left, found_left, real_left)

  overlay_if_any_left : (overlay : Option (Overlay ℕ)) → OverlayIfAnyNamed named overlay
      → option_map (renamed_overlay there back) overlay ≡ overlay
  overlay_if_any_left overlay h = grind (arith, common_steps, overlay_left)

  filesystem_left : (filesystem : Filesystem ℕ) → FilesystemNamed named filesystem
      → renamed_filesystem there back filesystem ≡ filesystem
  filesystem_left filesystem h = grind (arith, common_steps, found_left, node_left, list_left, overlay_if_any_left)

  namespace_left : (namespace : Namespace ℕ) → namespace_named named namespace ≡ true
      → renamed_namespace there back namespace ≡ namespace
  namespace_left namespace e = λ i. record { number = leaves namespace.number e i; change = namespace.change }

  descriptor_left : (descriptor : Descriptor ℕ) → descriptor_named named descriptor ≡ true
      → renamed_descriptor there back descriptor ≡ descriptor
  descriptor_left descriptor e = grind (arith, common_steps, location_left)

  task_left : (task : Task ℕ) → task_named named task ≡ true → renamed_task there back task ≡ task
  task_left task e = grind (arith, common_steps, and_parts, location_left, list_left, descriptor_left)

  pub world_left : (world : World ℕ) → WorldNamed named world → renamed there back world ≡ world
  world_left world h = λ i. record {
    mounts = list_left (renamed_mount there back) (mount_named named) mount_left world.mounts h.mounts i;
    master = λ group. found_left there named leaves world.master h.masters group i;
    filesystems = all_left (renamed_filesystem there back)
        (FilesystemNamed named) filesystem_left world.filesystems h.filesystems i;
    namespaces = list_left (renamed_namespace there back)
        (namespace_named named) namespace_left world.namespaces h.namespaces i;
    tasks = list_left (renamed_task there back) (task_named named) task_left world.tasks h.tasks i;
    change = world.change;
  }

pub named_is_kept : NamedIsKept
named_is_kept named world h renaming leaves = world_left named renaming leaves world h
