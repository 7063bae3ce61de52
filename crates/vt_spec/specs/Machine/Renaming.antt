-- Two worlds that differ by a one-to-one renaming of their numbers are the same world. A renaming goes there and back.
use Rattle.std.specs.Prelude.{List, map, option_map, ℕ, ◌≡◌}
use Rattle.vt_spec.specs.FileTree.{FileTree}
use Rattle.vt_spec.specs.Machine.Mounts.{Location, Mount, Propagation}
use Rattle.vt_spec.specs.Machine.Mounts.Propagation.{Private, Shared, Slave, Unbindable}
use Rattle.vt_spec.specs.Tree.{Content, Node}
use Rattle.vt_spec.specs.Tree.Content.{Directory, Regular, Symlink, Whiteout}
use Rattle.vt_spec.specs.Machine.World.{Descriptor, Filesystem, Layer, Namespace, Overlay, Real, Task, World}
use Rattle.vt_spec.specs.Machine.World.Real.{Lower, Upper}

module _ {N M : Type 0} (there : N → M) (back : M → N) where
  -- Each definition from here on is a value of its name with all of its numbers renamed, and nothing else changed.

  -- a name, and the inode that it leads to
  abbrev pub renamed_entry : List ℕ × N → List ℕ × M
  renamed_entry entry = (entry.0, there entry.1)

  abbrev pub renamed_content : Content N → Content M
  renamed_content (Directory parent entries opaque) = Directory (there parent) (map renamed_entry entries) opaque
  renamed_content (Regular bytes) = Regular bytes
  renamed_content (Symlink text) = Symlink text
  renamed_content Whiteout = Whiteout

  abbrev pub renamed_node : Node N → Node M
  renamed_node node = record { attr = node.attr; content = renamed_content node.content }

  abbrev pub renamed_files : FileTree N → FileTree M
  renamed_files files = record {
    tree = record {
      root = there files.tree.root;
      node = λ number.
          option_map renamed_node (files.tree.node (back number));
    };
    numbers = map there files.numbers;
  }

  abbrev pub renamed_layer : Layer N → Layer M
  renamed_layer layer = record { filesystem = there layer.filesystem; directory = there layer.directory }

  abbrev pub renamed_real : Real N → Real M
  renamed_real (Upper object) = Upper (there object)
  renamed_real (Lower layer path) = Lower layer path

  abbrev pub renamed_overlay : Overlay N → Overlay M
  renamed_overlay overlay = record {
    upper = option_map renamed_layer overlay.upper;
    work = option_map renamed_layer overlay.work;
    lowers = map renamed_layer overlay.lowers;
    mounter = overlay.mounter;
    real = λ number. option_map renamed_real (overlay.real (back number));
  }

  abbrev pub renamed_filesystem : Filesystem N → Filesystem M
  renamed_filesystem filesystem = record {
    number = there filesystem.number;
    files = renamed_files filesystem.files;
    overlay = option_map renamed_overlay filesystem.overlay;
    change = filesystem.change;
  }

  abbrev pub renamed_location : Location N → Location M
  renamed_location location = record { mount = there location.mount; node = there location.node }

  abbrev pub renamed_propagation : Propagation N → Propagation M
  renamed_propagation (Shared group) = Shared (there group)
  renamed_propagation (Slave master) = Slave (there master)
  renamed_propagation Private = Private
  renamed_propagation Unbindable = Unbindable

  abbrev pub renamed_mount : Mount N → Mount M
  renamed_mount mount = record {
    number = there mount.number;
    namespace = option_map there mount.namespace;
    mount_point = option_map renamed_location mount.mount_point;
    filesystem = there mount.filesystem;
    root = there mount.root;
    flags = mount.flags;
    propagation = renamed_propagation mount.propagation;
  }

  abbrev pub renamed_namespace : Namespace N → Namespace M
  renamed_namespace namespace = record { number = there namespace.number; change = namespace.change }

  abbrev pub renamed_descriptor : Descriptor N → Descriptor M
  renamed_descriptor descriptor = record {
    number = descriptor.number;
    location = renamed_location descriptor.location;
    reads = descriptor.reads;
    writes = descriptor.writes;
  }

  abbrev pub renamed_task : Task N → Task M
  renamed_task task = record {
    name = task.name;
    credentials = task.credentials;
    umask = task.umask;
    namespace = there task.namespace;
    root = renamed_location task.root;
    directory = renamed_location task.directory;
    descriptors = map renamed_descriptor task.descriptors;
    forks = task.forks;
    change = task.change;
  }

  -- a world
  abbrev pub renamed : World N → World M
  renamed world = record {
    mounts = map renamed_mount world.mounts;
    master = λ group. option_map there (world.master (back group));
    filesystems = map renamed_filesystem world.filesystems;
    namespaces = map renamed_namespace world.namespaces;
    tasks = map renamed_task world.tasks;
    change = world.change;
  }

-- one world is the other under some renaming
pub record SameWorld {N M : Type 0} (world : World N) (other : World M) : Type 0 where
  pub there : N → M
  pub back : M → N
  pub there_back : (number : M) → there (back number) ≡ number
  pub back_there : (number : N) → back (there number) ≡ number
  pub same : renamed there back world ≡ other
