use Rattle.std.proofs.Common.{Err, None, Ok, Result, Some, ap, arith, rules, sym, unwrap_or, ℕ, ◌∙◌, ◌+◌, ◌≡◌}
use Rattle.vt_spec.proofs.Common.{answers_always}
use Rattle.vt_mount.proofs.AttachedLemmas.{found_from}
use Rattle.vt_listing.proofs.MountLines.{numbered_mount}
use Rattle.vt_listing.proofs.mount_lines.mount_place.Goals as goal

pub returns-in-Ok : goal.returns-in-Ok
returns-in-Ok c =
    let facts = c.binary_search_by_key.ensures in
    let by_key = facts.position (λ id. id.count) (answers_always _ _ _ (λ f a r g called. search rules)) in
    let found = found_from c.args.listed.now c.requires.order c.args.id.count 1 c.args.id c.binary_search_by_key.result facts.bound by_key in
    λ mounts are. (let same : c.in-Ok.index + 1 ≡ 1 + c.in-Ok.index = omega arith in same)
    ∙ ap (λ (r : Result ℕ ℕ). unwrap_or (elim r [ Ok i ↦ Some (1 + i) | Err i ↦ None ]) 0) (sym c.in-Ok.is)
    ∙ ap (λ o. unwrap_or o 0) found ∙ numbered_mount c.args.id c.args.listed.now mounts are

pub returns-in-Err : goal.returns-in-Err
returns-in-Err c =
    let facts = c.binary_search_by_key.ensures in
    let by_key = facts.position (λ id. id.count) (answers_always _ _ _ (λ f a r g called. search rules)) in
    let found = found_from c.args.listed.now c.requires.order c.args.id.count 1 c.args.id c.binary_search_by_key.result facts.bound by_key in
    λ mounts are. ap (λ (r : Result ℕ ℕ). unwrap_or (elim r [ Ok i ↦ Some (1 + i) | Err i ↦ None ]) 0) (sym c.in-Err.is)
    ∙ ap (λ o. unwrap_or o 0) found ∙ numbered_mount c.args.id c.args.listed.now mounts are
