-- Namespaces of a world with their mounts and tasks, as facts on what stands in its lists.
use Rattle.std.proofs.Common.{◌≡◌, refl, sym, subst, ◌∙◌, ℕ, nat_eq, Bool, true, false, List, [], ◌∷◌, Option, Some, None, arith, eq-eqb, eqb-true, inl, length, map, ⊎_elim, Contains, option_to_list}
use Rattle.vt_spec.proofs.Common.{Among, Mount, Namespace, NamespaceInvariants, Task, World, among-filter, among-from_filter, among-from_map, among-map, among_from_all, among_from_contains, among_from_list_all, among_numbers, and_parts, any_among, any_from_among, any_pair, common_steps, has_one_root, has_tasks, has_too_many, holds_of, is_among_numbers, is_listed, list_all, list_all_from_among, mounts_of}
use Rattle.vt_laws_mounts.specs.Mounts.Ending.{IsOutOrStays, TakesNoMountsIn, root_mounts_in}
use Rattle.vt_laws_mounts.specs.Mounts.Moving.{StaysInNamespaces}

abbrev pub number_of : Namespace ℕ → ℕ
number_of namespace = namespace.number

-- a namespace of a list has this number
abbrev pub IsListedIn : List (Namespace ℕ) → ℕ → Type 0
IsListedIn namespaces number = (namespace : Namespace ℕ) × Among namespace namespaces × (number ≡ namespace.number)

abbrev pub AreNumberedApart : List (Namespace ℕ) → Type 0
AreNumberedApart namespaces = any_pair (λ (a b : Namespace ℕ). nat_eq a.number b.number) namespaces ≡ false

-- namespaces have numbers of their own, and those of mounts and tasks are there
pub record AreListed (world : World ℕ) : Type 0 where
  pub apart : AreNumberedApart world.namespaces
  pub of_mounts : (mount : Mount ℕ) → Among mount world.mounts → (number : ℕ) → mount.namespace ≡ Some number
      → IsListedIn world.namespaces number
  pub of_tasks : (task : Task ℕ) → Among task world.tasks → IsListedIn world.namespaces task.namespace

abbrev pub HasOneRoot : World ℕ → Namespace ℕ → Type 0
HasOneRoot world namespace = root_mounts_in world namespace.number ≡ 1

abbrev pub IsLive : World ℕ → Namespace ℕ → Type 0
IsLive world namespace = (task : Task ℕ) × Among task world.tasks × (namespace.number ≡ task.namespace)

pub record AreNamespaces (world : World ℕ) : Type 0 where
  pub listed : AreListed world
  pub roots : (namespace : Namespace ℕ) → Among namespace world.namespaces → HasOneRoot world namespace
  pub live : (namespace : Namespace ℕ) → Among namespace world.namespaces → IsLive world namespace

-- Tests and facts
pub listed_in : (world : World ℕ) (number : ℕ) → is_listed nat_eq world number ≡ true
    → IsListedIn world.namespaces number
listed_in world number is = among-from_map _ _ number (among_numbers _ number is)

is_listed_in : (world : World ℕ) (number : ℕ) → IsListedIn world.namespaces number
    → is_listed nat_eq world number ≡ true
is_listed_in world number at = is_among_numbers (map number_of world.namespaces) number
    (subst (λ n. Among n (map number_of world.namespaces)) (sym at.2) (among-map _ _ at.0 at.1))

pub tasks_in : (world : World ℕ) (namespace : Namespace ℕ) → has_tasks nat_eq world namespace ≡ true
    → IsLive world namespace
tasks_in world namespace has =
    let one = any_among (λ (task : Task ℕ). nat_eq namespace.number task.namespace) world.tasks has in
    (one.0, one.1, eqb-true namespace.number one.0.namespace one.2)

pub has_tasks_in : (world : World ℕ) (namespace : Namespace ℕ) → IsLive world namespace
    → has_tasks nat_eq world namespace ≡ true
has_tasks_in world namespace live = any_from_among _ _ live.0 live.1 (eq-eqb namespace.number live.0.namespace live.2)

abbrev has_its_namespace : World ℕ → Option ℕ → Bool
has_its_namespace world namespace = list_all (is_listed nat_eq world) (option_to_list namespace)

pub are_namespaces : (world : World ℕ) → NamespaceInvariants nat_eq world → AreNamespaces world
are_namespaces world is = grind (arith, common_steps, listed_in, and_parts, among_from_list_all, eqb-true, tasks_in)

pub from_namespaces : (world : World ℕ) → AreNamespaces world → has_too_many nat_eq world ≡ false
    → NamespaceInvariants nat_eq world
from_namespaces world are few = record {
  one_namespace = are.listed.apart;
  mounts_listed = list_all_from_among (λ (x : Mount ℕ). has_its_namespace world x.namespace) world.mounts (λ mount m.
      by mount.namespace (are.listed.of_mounts mount m));
  tasks_listed = list_all_from_among (λ (x : Task ℕ). is_listed nat_eq world x.namespace) world.tasks (λ task m.
      is_listed_in world task.namespace (are.listed.of_tasks task m));
  root_mounts = list_all_from_among (has_one_root nat_eq world) world.namespaces (λ namespace m.
      eq-eqb (root_mounts_in world namespace.number) 1 (are.roots namespace m));
  namespaces_live = list_all_from_among (has_tasks nat_eq world) world.namespaces (λ namespace m.
      has_tasks_in world namespace (are.live namespace m));
  few_mounts = few;
}
  where
    by : (found : Option ℕ) → ((number : ℕ) → found ≡ Some number → IsListedIn world.namespaces number)
        → has_its_namespace world found ≡ true
    by None at = refl
    by (Some number) at = cc (is_listed_in world number (at number refl))

-- Changes that leave the namespaces

-- a mount of a namespace comes from one of that namespace
abbrev pub MountsStay : World ℕ → World ℕ → Type 0
MountsStay before after = (mount : Mount ℕ) → Among mount after.mounts → (number : ℕ) → mount.namespace ≡ Some number
    → (old : Mount ℕ) × Among old before.mounts × (old.namespace ≡ Some number)

-- the tasks are in the namespaces in which some were
pub record TasksStay (before after : List (Task ℕ)) : Type 0 where
  pub come : (task : Task ℕ) → Among task after → (old : Task ℕ) × Among old before × (task.namespace ≡ old.namespace)
  pub stay : (old : Task ℕ) → Among old before → (task : Task ℕ) × Among task after × (old.namespace ≡ task.namespace)

pub record KeepsNamespaces (before after : World ℕ) : Type 0 where
  pub namespaces : after.namespaces ≡ before.namespaces
  pub mounts : MountsStay before after
  pub roots : (namespace : ℕ) → root_mounts_in after namespace ≡ root_mounts_in before namespace
  pub tasks : TasksStay before.tasks after.tasks

pub namespaces_stay : (before after : World ℕ) → KeepsNamespaces before after → AreNamespaces before
    → AreNamespaces after
namespaces_stay before after keeps are = record {
  listed = record {
    apart = subst AreNumberedApart (sym keeps.namespaces) are.listed.apart;
    of_mounts = λ mount m number e.
        let from = keeps.mounts mount m number e in
        still number (are.listed.of_mounts from.0 from.1 number from.2);
    of_tasks = λ task m.
        let from = keeps.tasks.come task m in
        still task.namespace (subst (IsListedIn before.namespaces) (sym from.2) (are.listed.of_tasks from.0 from.1));
  };
  roots = λ namespace m.
      keeps.roots namespace.number ∙ are.roots namespace (subst (Among namespace) keeps.namespaces m);
  live = λ namespace m.
      let old = are.live namespace (subst (Among namespace) keeps.namespaces m) in
      let now = keeps.tasks.stay old.0 old.1 in
      (now.0, now.1, old.2 ∙ now.2);
}
  where
    still : (number : ℕ) → IsListedIn before.namespaces number → IsListedIn after.namespaces number
    still number at = (at.0, subst (Among at.0) (sym keeps.namespaces) at.1, at.2)

-- Mounts, by what is known of a change
pub taken_stay : (before after : World ℕ) → TakesNoMountsIn before after → MountsStay before after
taken_stay before after takes mount m number e = ⊎_elim (λ none. cc)
    (λ old. (old.0, among_from_contains _ old.0 old.1, cc)) (among_from_all (IsOutOrStays before) after.mounts takes
    mount m)

pub attached_stay : (before after : World ℕ) → StaysInNamespaces before after → MountsStay before after
attached_stay before after stays mount m number e =
    let old = among_from_all Stays after.mounts stays mount m number e in
    (old.0, among_from_contains _ old.0 old.1, old.2)
  where
    Stays : Mount ℕ → Type 0
    Stays one = (namespace : ℕ) → one.namespace ≡ Some namespace
        → (old : Mount ℕ) × Contains before.mounts old × (old.namespace ≡ Some namespace)

-- a namespace that has as many mounts has some
pub counted_stay : (before after : World ℕ)
    → ((namespace : ℕ) → length (mounts_of nat_eq after namespace) ≡ length (mounts_of nat_eq before namespace))
    → MountsStay before after
counted_stay before after counts mount m number e =
    let lies_in = λ (x : Mount ℕ). holds_of (nat_eq number) x.namespace in
    let there : lies_in mount ≡ true = cc (eq-eqb number number refl) in
    let one = some_of _ _ mount (among-filter _ _ mount m there) (counts number) in
    let old = among-from_filter lies_in before.mounts one.0 one.1 in
    (one.0, old.0, inside _ old.1)
  where
    some_of : (xs ys : List (Mount ℕ)) (x : Mount ℕ) → Among x xs → length xs ≡ length ys → (y : Mount ℕ) × Among y ys
    some_of [] ys x m same = absurd m
    some_of (first ∷ rest) [] x m same = absurd (omega (arith, same))
    some_of (first ∷ rest) (y ∷ ys) x m same = (y, inl refl)

    inside : (found : Option ℕ) → holds_of (nat_eq number) found ≡ true → found ≡ Some number
    inside None h = cc
    inside (Some other) h = cc (eqb-true number other h)

-- Tasks
pub same_tasks_stay : (tasks : List (Task ℕ)) → TasksStay tasks tasks
same_tasks_stay tasks = record { come = λ task m. (task, m, refl); stay = λ old m. (old, m, refl) }

pub mapped_tasks_stay : (f : Task ℕ → Task ℕ) (tasks : List (Task ℕ))
    → ((task : Task ℕ) → Among task tasks → (f task).namespace ≡ task.namespace) → TasksStay tasks (map f tasks)
mapped_tasks_stay f tasks same = grind (arith, common_steps, among-from_map, among-map)
