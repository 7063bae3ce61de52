-- What is let go, by counts.
use Rattle.std.proofs.Common.{arith, ◌≡◌, ap, subst, ◌∙◌, ℕ, ◌+◌, nat_eq, eqb-true, eq-eqb, ◌&&◌}
use Rattle.vt_spec.proofs.Common.{filesystem_numbered, same_truth, settled}
use Rattle.vt_spec.specs.Machine.Settled.{without_dead_mounts}
use Rattle.vt_laws_mounts.specs.Counts.Using.{Exchanges, is_inode}
use Rattle.vt_laws_mounts.specs.LettingGo.Counts.{times}
use Rattle.vt_laws_trees.proofs.layers.layers.LowersWorld.{number_of_filesystem}
use Rattle.vt_laws_kept.specs.Counts.{locations_on}
use Rattle.vt_laws_kept.proofs.counts.Located.{locations_are_exchanged}
use Rattle.vt_laws_upper_layers.specs.UnnamedPins.{is_unnamed}
use Rattle.vt_laws_pins.specs.Counted.{LetGoAreCounted}

none_left : (left lost whole : ℕ) → whole ≡ left + lost → nat_eq left 0 ≡ nat_eq whole lost
none_left left lost whole is = same_truth (nat_eq left 0) (nat_eq whole lost)
    (λ e. let none = eqb-true left 0 e in eq-eqb whole lost (omega (arith, none, is)))
    (λ e. let all = eqb-true whole lost e in eq-eqb left 0 (omega (arith, all, is)))

pub let_go_are_counted : LetGoAreCounted
let_go_are_counted world after gained lost number inode same exchanges =
    let merged = filesystem_numbered nat_eq world number in
    let mounted = without_dead_mounts nat_eq after in
    let counted = locations_are_exchanged world mounted gained lost number inode
    (subst (Exchanges gained lost number world) (λ i. record mounted { filesystems = same i }) exchanges) in
    ap (λ n. is_unnamed merged.files inode && nat_eq (locations_on (settled nat_eq after) n inode) 0)
    (number_of_filesystem world number)
    ∙ ap (λ b. is_unnamed merged.files inode && b) (none_left (locations_on mounted number inode)
    (times (is_inode number inode) lost) (locations_on world number inode + times (is_inode number inode) gained) counted)
