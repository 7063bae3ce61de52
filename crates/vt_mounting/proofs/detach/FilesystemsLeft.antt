-- A mount or a layer goes, and the filesystem goes if neither is left in it.
use Rattle.std.proofs.Common.{◌≡◌, refl, sym, ℕ, nat_eq, Bool, true, false, cond, not, ◌||◌, List, filter}
use Rattle.vt_mounting.proofs.Common.{Shown, counted, filter_all}
use Rattle.vt_mounting.specs.Detach.Uses as meant
use Rattle.vt_mounting.specs.Detach.Uses.{mounts_shown}

-- the filesystem goes if nothing is counted in it; all others stay
abbrev pub stays_at : ℕ → List Shown → ℕ → Bool
stays_at filesystem shown n = not (nat_eq (mounts_shown filesystem shown) 0) || not (nat_eq filesystem n)

-- So code lets it go.
pub let_go_is : (filesystem : ℕ) (shown : List Shown) → meant.let_go_filesystem filesystem shown
    ≡ filter (λ (one : Shown). stays_at filesystem shown (counted one.count)) shown
let_go_is filesystem shown = by (nat_eq (mounts_shown filesystem shown) 0)
  where
    by : (b : Bool) → cond b (meant.without_filesystem filesystem shown) shown
        ≡ filter (λ (one : Shown). not b || not (nat_eq filesystem (counted one.count))) shown
    by true = refl
    by false = sym (filter_all (λ (one : Shown). true) shown (λ one m. refl))
