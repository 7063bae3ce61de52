-- A file that may be read is there, and so is its real object.
use Rattle.std.proofs.Common.{Option, is_some, nat_eq, true, ℕ, ◌≡◌, arith}
use Rattle.vt_spec.proofs.Common.{Call, Fresh, Node, Permit, Task, TaskName, ToRead, World, looks_of, node_at, overfills, common_steps}
use Rattle.vt_spec.specs.Machine.Mounts as meant
use Rattle.vt_laws_rules.proofs.given.Ways.{calls_are_granted}
use Rattle.vt_laws_rules.proofs.given.Ways.{IsGranted}
use Rattle.vt_laws_rules.proofs.given.Ways.IsGranted.{reads_file, reads_symlink}
use Rattle.vt_ns.proofs.Common.{Permits, WorldValue, supply_of, world_of}
use Rattle.vt_ns.specs.Lent.{as_lent}

module _ (fresh : Fresh ℕ) (world : World ℕ) (task : Task ℕ) where
  -- what a permit to read names
  abbrev IsThere : Permit ℕ → Type 0
  IsThere (ToRead file) = is_some (node_at nat_eq world file) ≡ true
  IsThere other = Unit {0}

  granted_there : (call : Call) (permit : Permit ℕ)
      → IsGranted nat_eq (looks_of nat_eq world) (overfills nat_eq fresh world task) task call permit → IsThere permit
  granted_there call permit (reads_symlink path here end passed) = grind (arith, common_steps)
  granted_there call permit (reads_file path here end passed) = grind (arith, common_steps)
  granted_there call permit granted = tt

pub readable_there : (value : WorldValue) (name : TaskName) (file : meant.Location ℕ)
    → Permits value name (ToRead file) → is_some (node_at nat_eq (world_of value) file) ≡ true
readable_there value name file permits =
    let world = world_of value in
    let fresh = supply_of value (ToRead file) in
    granted_there fresh world permits.task permits.given.call (ToRead file)
    (calls_are_granted nat_eq (looks_of nat_eq world) (overfills nat_eq fresh world permits.task) permits.task
    permits.given.call (ToRead file) permits.given.judged)

-- what is lent for an inode that is there
pub lent_there : (seen lent : Option (Node ℕ)) → is_some seen ≡ true → is_some (as_lent seen lent) ≡ true
lent_there seen lent there = grind (arith, common_steps)
