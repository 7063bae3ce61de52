-- What two worlds show alike at some mounts is the same where the rest is covered. So a table of rules that asks for
-- what is there alone is the same in both.
use Rattle.std.proofs.Common.{◌≡◌, refl, ℕ, Bool, true, false, cond, [], None, arith}
use Rattle.vt_spec.proofs.Common.{Change, Location, Looks, common_steps, no_mount}

same_if : {A : Type 0} (b : Bool) (x y d : A) → (b ≡ true → x ≡ y) → cond b x d ≡ cond b y d
same_if true x y d same = same refl
same_if false x y d same = refl

-- what two worlds show alike, to rules, on these mounts and in these filesystems
pub record RulesSeeAlike (one other : Looks ℕ) (own uses : ℕ → Bool) : Type 0 where
  pub mount : (number : ℕ) → own number ≡ true → one.mount number ≡ other.mount number
  pub over : (here : Location ℕ) → own here.mount ≡ true → one.mounts_over here ≡ other.mounts_over here
  pub node : (here : Location ℕ) → own here.mount ≡ true → one.node here ≡ other.node here
  pub removed : (here : Location ℕ) → own here.mount ≡ true → one.is_removed here ≡ other.is_removed here
  pub under : (filesystem top directory : ℕ) → uses filesystem ≡ true
      → one.is_under filesystem top directory ≡ other.is_under filesystem top directory
  pub overlay : (here : Location ℕ) → own here.mount ≡ true → one.overlay here ≡ other.overlay here
  pub mounter : (here : Location ℕ) (change : Change ℕ) → own here.mount ≡ true
      → one.mounter_rules here change ≡ other.mounter_rules here change
  pub locked : (here : Location ℕ) → own here.mount ≡ true → one.is_locked here ≡ other.is_locked here

module _ (own uses : ℕ → Bool) where
  -- the rest covered
  abbrev pub masked : Looks ℕ → Looks ℕ
  masked looks = record {
    namespace_called = λ name. None;
    mount = λ number. cond (own number) (looks.mount number) (no_mount number);
    mount_count = 0;
    mount_tree = λ number. [];
    mounts_over = λ here. cond (own here.mount) (looks.mounts_over here) [];
    mounts_on = λ here. [];
    is_busy = λ number. false;
    is_written_through = λ number. false;
    node = λ here. cond (own here.mount) (looks.node here) None;
    is_removed = λ here. cond (own here.mount) (looks.is_removed here) false;
    is_under = λ filesystem top directory. cond (uses filesystem) (looks.is_under filesystem top directory) false;
    overlay = λ here. cond (own here.mount) (looks.overlay here) None;
    mounter_rules = λ here change. cond (own here.mount) (looks.mounter_rules here change) [];
    has_lower_directory = λ here name. false;
    is_locked = λ here. cond (own here.mount) (looks.is_locked here) false;
    overlaps_one_of = λ others layer. false;
    is_in_use = λ overlay. false;
  }

  module _ (one other : Looks ℕ) (alike : RulesSeeAlike one other own uses) where
    pub same_masked : masked one ≡ masked other
    same_masked = grind (arith, common_steps, same_if)

    -- what is asked of these alone is the same in both
    pub by_mask : {R : Type 0} (asked : Looks ℕ → R) → ((looks : Looks ℕ) → asked (masked looks) ≡ asked looks)
        → asked one ≡ asked other
    by_mask asked covered = cc (covered one, same_masked, covered other)

    pub by_both : {R : Type 0} (asked : Looks ℕ → R) → asked (masked one) ≡ asked one
        → asked (masked other) ≡ asked other → asked one ≡ asked other
    by_both asked here there = cc same_masked
