-- The groups that types of mounts name are counted.
use Rattle.std.proofs.Common.{◌≡◌, ap, refl, true, ◌&&◌, ◌%◌, ◌==◌, eq-eqb, List, [], ◌∷◌, map, arith, option_to_list}
use Rattle.vt_spec.proofs.Common.{list_all, source_of}
use Rattle.vt_location.specs.declared.mounts.Propagation.{Propagation}
use Rattle.vt_location.specs.declared.mounts.Propagation.TheVariants.{Private, Shared, Slave, Unbindable}
use Rattle.vt_location.specs.declared.numbers.MountId.{MountId}
use Rattle.vt_location.specs.MountValue.{propagation_of}
use Rattle.vt_location.specs.Numbers.{counted}
use Rattle.vt_mount.specs.declared.mounted.Mounted.{Mounted}
use Rattle.vt_mount.specs.MountsValue.{entries_of, entry_of, in_order, mounts_in}
use Rattle.vt_mount.specs.Sources.{has_counted_source}

sources-counted : (kept : List (MountId × Mounted)) → list_all has_counted_source (mounts_in (map entry_of kept)) ≡ true
sources-counted [] = refl
sources-counted (one ∷ kept) = λ i. by one.1.propagation i && sources-counted kept i
  where
    by : (kind : Propagation) → list_all (λ group. group % 4 == 1) (option_to_list (source_of (propagation_of kind)))
        ≡ true
    by (Shared group) = ap (λ b. b && true) (eq-eqb (counted group.count % 4) 1 (omega arith))
    by (Slave master) = ap (λ b. b && true) (eq-eqb (counted master.count % 4) 1 (omega arith))
    by Private = refl
    by Unbindable = refl

pub sources-kept : (es : List (MountId × Mounted)) → list_all has_counted_source (mounts_in (entries_of es)) ≡ true
sources-kept es = sources-counted (in_order es)
