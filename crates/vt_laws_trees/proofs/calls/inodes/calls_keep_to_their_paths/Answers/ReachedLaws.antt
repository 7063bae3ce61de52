-- A call changes no inode but those that its paths and descriptors lead it to.
use Rattle.std.proofs.Common.{◌≡◌, refl, sym, ap, ◌∙◌, inl, inr, ◌⊎◌, ℕ, nat_eq, Option, None, Ok, Err}
use Rattle.vt_spec.proofs.Common.{Judgement, Node, judge_in, looks_of, overfills, policy}
use Rattle.vt_laws_trees.proofs.calls.inodes.InodesOwn.{calls_change_their_own}
use Rattle.vt_laws_trees.proofs.calls.inodes.InodesSettled.{inode_after_call}
use Rattle.vt_laws_trees.proofs.calls.inodes.calls_keep_to_their_paths.Answers.ReachedWalks.{granted_spares}
use Rattle.vt_laws_trees.specs.Calls.Reached.{CallsKeepToTheirPaths}
use Rattle.vt_laws_rules.proofs.given.Ways.{calls_are_granted}
use Rattle.vt_laws_trees.specs.Trees.Settling.{inode_in}

pub calls_keep_to_their_paths : CallsKeepToTheirPaths
calls_keep_to_their_paths fresh world name call task filesystem number plain no_overlay is apart root = by _ refl
  where
    Kept : Option (Node ℕ) → Type 0
    Kept now = (now ≡ inode_in world filesystem number) ⊎ (now ≡ None)

    by : (judgement : Judgement ℕ) → judge_in nat_eq fresh world task call ≡ judgement
        → Kept (inode_in (policy nat_eq fresh world name call).world filesystem number)
    by (Ok permit) judged =
        calls_change_their_own fresh world name call task permit filesystem number plain no_overlay is judged
        (granted_spares fresh world task filesystem number call permit
        (calls_are_granted nat_eq (looks_of nat_eq world) (overfills nat_eq fresh world task) task call permit judged)
        apart root)
    by (Err deny) judged = inode_after_call Kept filesystem number (inr refl) fresh world name call (inl refl)
        (λ other permit is_other granted.
        let same : other ≡ task = cc in
        let both = sym (ap (λ t. judge_in nat_eq fresh world t call) same) ∙ granted in cc)
