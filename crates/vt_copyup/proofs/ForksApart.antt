-- Copies that two plans do not share are of different nodes.
use Rattle.std.proofs.Common.{◌≡◌, ◌∙◌, ◌∷◌, ◌++◌, ap, subst, sym, ℕ}
use Rattle.vt_spec.proofs.Common.{FileTree, Stack}
use Rattle.vt_location.specs.Locations.{inode_of}
use Rattle.vt_fs.specs.FilesystemsValue.{files_at}
use Rattle.vt_copyup.specs.ForkLaws.{CopiesArePlannedApart}
use Rattle.vt_copyup.specs.Forks.{HeadsDiffer, pieces_in}
use Rattle.vt_copyup.specs.Planned.{AreCopiesFrom, names_of, stack_of}
use Rattle.vt_copyup.specs.Plans.{in_turn}
use Rattle.vt_copyup.proofs.ForksCopied.{ends_by}
use Rattle.vt_copyup.proofs.ForksMade.{names_both}
use Rattle.vt_copyup.proofs.ForksReady.{same_inode}
use Rattle.vt_copyup.proofs.Parted.{EndsAt, all_elsewhere, copies_back, parted}

pub planned_apart : CopiesArePlannedApart
planned_apart fresh mounter w v trees upper lowers overlay path other first second fork are is next forked kinds =
    let stack : Stack ℕ = stack_of trees upper lowers mounter in
    let files : FileTree ℕ = files_at trees upper.directory.filesystem.count in
    let root = inode_of upper.directory in
    let twice = names_of forked.twice in
    let shared = names_of (pieces_in fork.shared) in
    let own = names_of (pieces_in fork.first) in
    let first_planned = is.planned fresh mounter in
    let second_planned = next.planned fresh mounter in
    let first_names : names_of (in_turn first) ≡ shared ++ own =
    ap names_of forked.first_is ∙ names_both (pieces_in fork.shared) (pieces_in fork.first) in
    let second_names : names_of (in_turn second) ≡ twice ++ names_of (pieces_in fork.second) =
    ap names_of forked.second_is ∙ names_both forked.twice (pieces_in fork.second) in
    let ends : EndsAt files.tree root is.front (shared ++ own) =
    subst (EndsAt files.tree root is.front) (first_planned.names ∙ first_names)
    (ends_by fresh stack files is.front first_planned.copies first_planned.planned) in
    all_elsewhere trees (upper ∷ lowers) overlay are w v is.front (next.front ++ twice) (in_turn first)
    (pieces_in fork.second) is.copies
    (copies_back trees (upper ∷ lowers) overlay v next.front forked.twice (pieces_in fork.second)
    (subst (AreCopiesFrom v trees (upper ∷ lowers) overlay next.front) forked.second_is next.copies)) kinds
    (λ name more left rest same at.
    let other_ends : EndsAt files.tree root next.front (twice ++ name ∷ (more ++ left)) =
    subst (EndsAt files.tree root next.front) (second_planned.names ∙ second_names ∙ ap (λ l. twice ++ l) (sym same))
    (ends_by fresh stack files next.front second_planned.copies second_planned.planned) in
    parted files.tree root is.front next.front (inode_of first.directory) (inode_of second.directory) is.leads
    next.leads twice shared own forked.same ends name (more ++ left) other_ends
    (λ one. subst (HeadsDiffer own) (sym same) (forked.differ (same_inode first.directory second.directory
    (is.filesystem ∙ sym next.filesystem) one))) more rest (at ∙ ap (λ l. is.front ++ l) first_names))
