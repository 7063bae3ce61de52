-- Two worlds that show the same on some mounts are walked alike from them: path_resolution(7).
use Rattle.std.specs.Prelude.{Bool, Contains, IfOk, List, Result, nat_eq, true, ℕ, ◌&&◌, ◌≡◌}
use Rattle.vt_spec.specs.Machine.Looks.{Looks, mount_at}
use Rattle.vt_spec.specs.Machine.Mounts.{Location}
use Rattle.vt_spec.specs.Machine.Walking.{Here, LastWord, hops, is_lost, met_by, stepped, symlink_walked, words_walked}
use Rattle.vt_spec.specs.Machine.World.{Task}

-- two results are one, and what is in it passes
abbrev pub AgreeOn : {A E : Type 0} → (A → Bool) → Result A E → Result A E → Type 0
AgreeOn test one other = (one ≡ other) × IfOk one (λ found. test found ≡ true)

-- all locations of a list are on these mounts
abbrev pub AreOn : (ℕ → Bool) → List (Location ℕ) → Type 0
AreOn own locations = (location : Location ℕ) → Contains locations location → own location.mount ≡ true

-- on these mounts both worlds show the same, and no step leads from them to another mount
pub record ShowAlike (one other : Looks ℕ) (task : Task ℕ) (own : ℕ → Bool) : Type 0 where
  pub root : own task.root.mount ≡ true
  pub node : (here : Location ℕ) → own here.mount ≡ true → one.node here ≡ other.node here
  pub mount : (here : Location ℕ) → own here.mount ≡ true → mount_at one here ≡ mount_at other here
  pub overlay : (here : Location ℕ) → own here.mount ≡ true → one.overlay here ≡ other.overlay here
  pub over : (here : Location ℕ) → own here.mount ≡ true → one.mounts_over here ≡ other.mounts_over here
  pub entered : (here : Location ℕ) → own here.mount ≡ true → AreOn own (one.mounts_over here)
  pub hops_alike : (here : Location ℕ) → own here.mount ≡ true
      → hops nat_eq one task here ≡ hops nat_eq other task here
  pub hopped : (here : Location ℕ) → own here.mount ≡ true → AreOn own (hops nat_eq one task here)
  pub lost : (here : Location ℕ) → own here.mount ≡ true → is_lost nat_eq one here ≡ is_lost nat_eq other here

-- where a walk stands is on one of these mounts
abbrev pub stands_on_one : (ℕ → Bool) → Here ℕ → Bool
stands_on_one own here = own here.location.mount

-- Words are walked alike from there, each symlink followed,
abbrev pub WordsAgree : Type 0
WordsAgree =
    (one other : Looks ℕ) (task : Task ℕ) (own : ℕ → Bool) → ShowAlike one other task own
    → (depth : ℕ) (here : Here ℕ) (words : List (List ℕ)) → stands_on_one own here ≡ true
    → AgreeOn (stands_on_one own) (words_walked nat_eq one task (symlink_walked nat_eq depth one task) here words)
    (words_walked nat_eq other task (symlink_walked nat_eq depth other task) here words)

-- and so is the text of a symlink, from the directory that it stands in.
abbrev pub TextsAgree : Type 0
TextsAgree =
    (one other : Looks ℕ) (task : Task ℕ) (own : ℕ → Bool) → ShowAlike one other task own
    → (depth : ℕ) (directory : Location ℕ) (symlink : Here ℕ) (text : List ℕ)
    → own directory.mount ≡ true → stands_on_one own symlink ≡ true
    → AgreeOn (stands_on_one own) (symlink_walked nat_eq depth one task directory symlink text)
    (symlink_walked nat_eq depth other task directory symlink text)

-- so they do on these mounts where these filesystems are seen
pub record ShowAlikeWhereSeen (one other : Looks ℕ) (task : Task ℕ) (own seen : ℕ → Bool) : Type 0 where
  pub mount : (here : Location ℕ) → own here.mount ≡ true → mount_at one here ≡ mount_at other here
  pub over : (here : Location ℕ) → own here.mount ≡ true → one.mounts_over here ≡ other.mounts_over here
  pub over_start : (here : Location ℕ) → Contains (one.mounts_over here) here
  pub entered : (here : Location ℕ) → own here.mount ≡ true → AreOn own (one.mounts_over here)
  pub hops_alike : (here : Location ℕ) → own here.mount ≡ true
      → hops nat_eq one task here ≡ hops nat_eq other task here
  pub hops_start : (here : Location ℕ) → Contains (hops nat_eq one task here) here
  pub hopped : (here : Location ℕ) → own here.mount ≡ true → AreOn own (hops nat_eq one task here)
  pub node : (here : Location ℕ) → own here.mount ≡ true → seen (mount_at one here).filesystem ≡ true
      → one.node here ≡ other.node here
  pub lost : (here : Location ℕ) → own here.mount ≡ true → seen (mount_at one here).filesystem ≡ true
      → is_lost nat_eq one here ≡ is_lost nat_eq other here

-- One step leads alike, if each filesystem that it meets is one of these, and ends in one of them.
abbrev pub StepsAgree : Type 0
StepsAgree =
    (one other : Looks ℕ) (task : Task ℕ) (own seen : ℕ → Bool) → ShowAlikeWhereSeen one other task own seen
    → (here : Location ℕ) (word : LastWord) → own here.mount ≡ true
    → ((filesystem : ℕ) → Contains (met_by nat_eq one task here word) filesystem → seen filesystem ≡ true)
    → AgreeOn (λ (there : Location ℕ). own there.mount && seen (mount_at one there).filesystem)
    (stepped nat_eq one task here word) (stepped nat_eq other task here word)
