-- What the definitions see of a mount.
use Rattle.std.specs.Prelude.{option_map, ℕ}
use Rattle.vt_spec.specs.Machine.Mounts as meant
use Rattle.vt_spec.specs.Machine.Mounts.Propagation.{Private as MeansPrivate, Shared as MeansShared, Slave as MeansSlave, Unbindable as MeansUnbindable}
use Rattle.vt_location.specs.declared.mounts.Mount.{Mount}
use Rattle.vt_location.specs.declared.mounts.Propagation.{Propagation}
use Rattle.vt_location.specs.declared.mounts.Propagation.TheVariants.{Private, Shared, Slave, Unbindable}
use Rattle.vt_cred.specs.MountFlags.{flags_of}
use Rattle.vt_location.specs.Locations.{location_of, number_of}
use Rattle.vt_location.specs.Numbers.{counted}

abbrev pub propagation_of : Propagation → meant.Propagation ℕ
propagation_of (Shared group) = MeansShared (counted group.count)
propagation_of (Slave master) = MeansSlave (counted master.count)
propagation_of Private = MeansPrivate
propagation_of Unbindable = MeansUnbindable

abbrev pub mount_of : Mount → meant.Mount ℕ
mount_of mount = record {
  number = counted mount.number.count;
  namespace = option_map (λ namespace. counted namespace.count) mount.namespace;
  mount_point = option_map location_of mount.mount_point;
  filesystem = counted mount.root.filesystem.count;
  root = number_of mount.root;
  flags = flags_of mount.flags;
  propagation = propagation_of mount.propagation;
}
