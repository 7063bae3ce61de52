-- Going up from a directory, until a test passes.
use Rattle.std.proofs.Common.{Bool, Option, arith, false, nat_eq, true, ℕ, ◌-◌, ◌<◌, ◌≡◌}
use Rattle.vt_spec.proofs.Common.{Inodes, chain, list_any, node_in, parent_above, parent_in, common_steps}

module _ (inodes : Inodes ℕ) (test : ℕ → Bool) (here : ℕ) where
  abbrev up : ℕ → Option ℕ
  up = parent_above nat_eq inodes

  abbrev parent : ℕ
  parent = parent_in here (node_in (inodes.inode here))

  -- the way begins here,
  pub passes_first : (left : ℕ) → test here ≡ true → list_any test (chain left up here) ≡ true
  passes_first left e = grind (arith, common_steps)

  -- ends at the root,
  pub passes_root : (left : ℕ) → nat_eq here inodes.root ≡ true → test here ≡ false
      → list_any test (chain left up here) ≡ false
  passes_root left e fails = grind (arith, common_steps)

  -- and goes on at the parent
  pub passes_above : (left : ℕ) → 0 < left → nat_eq here inodes.root ≡ false → test here ≡ false
      → list_any test (chain left up here) ≡ list_any test (chain (left - 1) up parent)
  passes_above left some e fails = grind (arith, common_steps)
