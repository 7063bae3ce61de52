-- How many mounts a namespace has, and how many root mounts.
use Rattle.std.proofs.Common.{arith, ◌≡◌, refl, ap, ◌∙◌, nat_eq, ℕ, Bool, List, [], filter, is_some, length, map, not, ◌∷◌}
use Rattle.vt_spec.proofs.Common.{Among, Mount, World, among-from_filter, common_steps, filter_here, filter_skip, holds_of, is_root_mount, length-map, mounts_of}
use Rattle.vt_laws_mounts.specs.Mounts.Namespaces.{HasAsMany}
use Rattle.vt_laws_mounts.specs.Mounts.Ending.{is_in}

-- what a filter keeps of changed elements is what it kept, changed
pub filter-map : {A B : Type 0} (later : B → Bool) (p : A → Bool) (f : A → B) (xs : List A)
    → ((x : A) → Among x xs → later (f x) ≡ p x) → filter later (map f xs) ≡ map f (filter p xs)
filter-map later p f [] same = refl
filter-map later p f (y ∷ ys) same = grind (arith, common_steps, filter_here, filter_skip, filter-map later p f ys)

pub same_root : (a b : Mount ℕ) → a.mount_point ≡ b.mount_point → is_root_mount nat_eq a ≡ is_root_mount nat_eq b
same_root a b e = ap (λ p. not (is_some p)) e

-- mounts that keep their namespaces stay as many in each
pub as_many_mounts : (world after : World ℕ) (f : Mount ℕ → Mount ℕ) → after.mounts ≡ map f world.mounts
    → ((mount : Mount ℕ) → Among mount world.mounts → (f mount).namespace ≡ mount.namespace)
    → (namespace : ℕ) → mounts_of nat_eq after namespace ≡ map f (mounts_of nat_eq world namespace)
as_many_mounts world after f changed inside namespace = ap (filter (is_in namespace)) changed ∙ filter-map _ _ f _
    (λ mount m. ap (holds_of (nat_eq namespace)) (inside mount m))

-- and those that keep their places, too, as many root mounts
pub as_many : (world after : World ℕ) (f : Mount ℕ → Mount ℕ) → after.mounts ≡ map f world.mounts
    → ((mount : Mount ℕ) → Among mount world.mounts → (f mount).namespace ≡ mount.namespace)
    → ((mount : Mount ℕ) → Among mount world.mounts → (f mount).mount_point ≡ mount.mount_point)
    → (namespace : ℕ) → HasAsMany world namespace after namespace
as_many world after f changed inside placed namespace =
    let before = mounts_of nat_eq world namespace in
    let these = as_many_mounts world after f changed inside namespace in
    record {
      mounts = cc (length-map before f);
      roots = ap (λ l. length (filter (is_root_mount nat_eq) l)) these
          ∙ ap length (filter-map (is_root_mount nat_eq) (is_root_mount nat_eq) f before (λ mount m.
          same_root (f mount) mount (placed mount (among-from_filter (is_in namespace) world.mounts mount m).0)))
          ∙ length-map (filter (is_root_mount nat_eq) before) f;
    }
