-- Steps of a call of others, one after the other: what each leaves of a sealed set is left by all.
use Rattle.std.proofs.Common.{arith, ◌≡◌, sym, ap, subst, ◌∙◌, ℕ, nat_eq, List, [], Some, Contains}
use Rattle.vt_spec.proofs.Common.{Among, Location, Mount, MountInvariants, Task, TaskName, World, common_steps, is_own_namespace, list_any, members, roots_and_directories}
use Rattle.vt_laws_sealed.specs.Part.Parts.{SeesTheSame}
use Rattle.vt_laws_sealed.proofs.part.part.Observed.{directly_same, lowers_same, own_mounts_same, used_same}
use Rattle.vt_laws_sealed.proofs.outsiders.StandingApart.{NothingNew, StandsApart}
use Rattle.vt_laws_sealed.proofs.outsiders.Staying.{LeavesApart}

pub sees_on : (world middle later : World ℕ) (names : List TaskName) → SeesTheSame world middle names
    → SeesTheSame middle later names → SeesTheSame world later names
sees_on world middle later names one two = record {
  tasks = two.tasks ∙ one.tasks;
  mounts = two.mounts ∙ one.mounts;
  masters = λ group h.
      two.masters group (cc (own_mounts_same world middle names one))
      ∙ one.masters group h;
  direct = λ number m.
      two.direct number (subst (λ list. Contains list number) (sym (directly_same world middle names one)) m)
      ∙ one.direct number m;
  filesystems =
      cc (used_same world middle names one, lowers_same world middle names one, two.filesystems, one.filesystems);
  namespaces = two.namespaces ∙ one.namespaces;
}

-- where filesystems are as they were after the first one
pub leaves_on : (world middle later : World ℕ) (names : List TaskName) → middle.filesystems ≡ world.filesystems
    → LeavesApart world middle names [] → LeavesApart middle later names [] → LeavesApart world later names []
leaves_on world middle later names same one two = grind (
  arith,
  common_steps,
  sees_on world middle later names one.sees two.sees,
  used_same world middle names one.sees,
)

-- others and the set stand apart after a step that leaves mounts of others where they were, or in no namespace
pub standing_on : (world later : World ℕ) (names : List TaskName) → StandsApart world names NothingNew
    → LeavesApart world later names [] → MountInvariants nat_eq later → later.namespaces ≡ world.namespaces
    → ((mount : Mount ℕ) → Among mount later.mounts → (namespace : ℕ) → mount.namespace ≡ Some namespace
    → (old : Mount ℕ) × Among old world.mounts × (old.number ≡ mount.number) × (old.namespace ≡ Some namespace))
    → StandsApart later names NothingNew
standing_on world later names standing leaves mounts same from = record {
  mounts = mounts;
  tasks = leaves.others.tasks;
  events = leaves.others.events;
  locations = leaves.others.locations;
  not_stood = λ namespace outside mount there placed.
      let old = from mount there namespace placed in
      ap (λ tasks. list_any (λ (l : Location ℕ). nat_eq l.mount mount.number)
      (roots_and_directories tasks)) leaves.sees.tasks ∙ ap (λ n. list_any (λ (l : Location ℕ). nat_eq l.mount n)
      (roots_and_directories (members world names))) (sym old.2)
      ∙ standing.not_stood namespace (sym (own_by namespace) ∙ outside) old.0 old.1 old.3;
  own_listed = λ number own. cc (standing.own_listed number (sym (own_by number) ∙ own));
  new_group = λ mount group m is_in new. new;
  new_master = λ group new. absurd new;
}
  where
    own_by : (number : ℕ) → is_own_namespace nat_eq later names number ≡ is_own_namespace nat_eq world names number
    own_by number = ap (list_any (λ (t : Task ℕ). nat_eq number t.namespace)) leaves.sees.tasks
