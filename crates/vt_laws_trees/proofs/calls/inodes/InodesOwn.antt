-- A granted call changes no inode but those that its permit names.
use Rattle.std.proofs.Common.{arith, ◌≡◌, refl, sym, ap, ◌∙◌, true≢false, inl, inr, ◌⊎◌, ℕ, nat_eq, eq-eqb, Bool, true, false, cond, ◌&&◌, Option, Some, None, option_to_list}
use Rattle.vt_spec.proofs.Common.{Call, Change, FileTree, Fresh, Location, Node, Permit, Task, ToMountOverlay, ToMountPlain, World, changed, common_steps, holds_of, is_among, judge_in, looks_of, or_parts, without_parent}
use Rattle.vt_laws_rules.proofs.given.GivenPermits.{permits_are_for_their_calls}
use Rattle.vt_laws_trees.proofs.calls.inodes.InodesLeft.{LeftBy, MadeBy, inode_left}
use Rattle.vt_laws_trees.proofs.calls.inodes.InodesSettled.{inode_after_call}
use Rattle.vt_laws_rules.specs.Given.{IsFor}
use Rattle.vt_laws_trees.specs.Calls.Inodes.{CallsChangeTheirOwn, change_of, is_own, named_by, own_by}
use Rattle.vt_laws_trees.specs.Trees.Calls.{mounts_overlay}
use Rattle.vt_laws_rules.specs.Plain.{IsPlain}
use Rattle.vt_laws_trees.specs.Trees.Settling.{inode_in}

-- an inode that a change does not name stays
skip : (b : Bool) (new was : Option (Node ℕ)) → b ≡ false → cond b new was ≡ was
skip false new was e = refl
skip true new was e = cc

parent_stays : (files : FileTree ℕ) (object : Option ℕ) (other : ℕ)
    → is_among nat_eq other (option_to_list object) ≡ false
    → (without_parent nat_eq files object).tree.node other ≡ files.tree.node other
parent_stays files None other apart = refl
parent_stays files (Some object) other apart = skip (nat_eq other object) _ _ (or_parts _ false apart).0

changed_elsewhere : (files : FileTree ℕ) (change : Change ℕ) (other : ℕ)
    → is_among nat_eq other (named_by files change) ≡ false
    → (changed nat_eq files change).tree.node other ≡ files.tree.node other
changed_elsewhere files change other apart = grind (arith, common_steps, or_parts, skip, parent_stays)

-- an overlay is mounted by its own call
module _ (fresh : Fresh ℕ) (world : World ℕ) (plain : IsPlain world) (filesystem number : ℕ) where
  abbrev Was : Option (Node ℕ)
  Was = inode_in world filesystem number

  abbrev Kept : Option (Node ℕ) → Type 0
  Kept now = (now ≡ Was) ⊎ (now ≡ None)

  abbrev Left : Permit ℕ → Type 0
  Left = LeftBy Kept filesystem number fresh world plain (inl refl)

  -- what is made by a change that does not name the inode
  made_elsewhere : (made : Option (Location ℕ × Change ℕ))
      → holds_of (λ own. nat_eq filesystem own.0 && is_among nat_eq number own.1) (own_by world made) ≡ false
      → MadeBy Kept filesystem number fresh world plain (inl refl) made
  made_elsewhere None apart = tt
  made_elsewhere (Some made) apart = grind (arith, common_steps, changed_elsewhere, eq-eqb)

  left_elsewhere : (task : Task ℕ) (call : Call) → mounts_overlay call ≡ false → (permit : Permit ℕ)
      → IsFor (looks_of nat_eq world) task call permit → is_own fresh world permit filesystem number ≡ false
      → Left permit
  left_elsewhere task call no_overlay (ToMountPlain place flags) for apart =
      grind (arith, common_steps, true≢false, eq-eqb)
  left_elsewhere task call no_overlay (ToMountOverlay place overlay flags) for apart =
      grind (arith, common_steps, true≢false)
  left_elsewhere task call no_overlay permit for apart = made_elsewhere (change_of fresh world permit) apart

pub calls_change_their_own : CallsChangeTheirOwn
calls_change_their_own fresh world name call task permit filesystem number plain no_overlay is judged apart =
    inode_after_call (Kept fresh world plain filesystem number) filesystem number (inr refl) fresh world name call
    (inl refl) (λ other given is_other judged_other. inode_left (Kept fresh world plain filesystem number) filesystem
    number fresh world plain (inl refl) other given (left_elsewhere fresh world plain _ number other call no_overlay
    given (permits_are_for_their_calls fresh world other call given judged_other) (let same : other ≡ task = cc in
    let one : given ≡ permit =
    let both = sym judged_other ∙ ap (λ t. judge_in nat_eq fresh world t call) same ∙ judged in cc in
    ap (λ p. is_own fresh world p filesystem number) one ∙ apart)))
