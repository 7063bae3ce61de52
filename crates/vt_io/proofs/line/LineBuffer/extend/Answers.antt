use Rattle.std.proofs.Common.{◌≡◌, ◌++◌, ◌≤◌, ◌-◌, cond, length, min, take, sym, ap, ◌∙◌, subst, arith, rules}
use Rattle.vt_io.specs.LineBuffer.{Holds}
use Rattle.vt_io.proofs.LineLemmas.{Holds-extended, front-extended}
use Rattle.vt_io.proofs.line.LineBuffer.extend.Goals as goal

pub returns-clause-kept : goal.returns-clause-kept
returns-clause-kept c =
    let old = c.self.inside.bytes.items in
    let within : length old ≤ 8192 = omega (arith, c.self.invariant.0, c.self.inside.bytes.ok.0) in
    let size : c.min.result ≡ min (length c.args.bytes.now) (8192 - length old) = search rules in
    let ok = c.extend_from_slice.ensures.succeeds
    (omega (arith, c.self.invariant.1, c.self.inside.bytes.ok.0, within, c.split_at.ensures.front_len, size)) in
    let items = c.extend_from_slice.ensures.items ∙ ap (λ ok. cond ok (old ++ c.split_at.result.0.now) old) ok
    ∙ ap (λ front. old ++ front) c.split_at.ensures.front in
    items ∙ front-extended 8192 old c.args.bytes.now c.min.result within size
    ∙ ap (λ kept. take 8192 (kept.bytes ++ c.args.bytes.now)) c.self.view_is

pub returns-clause-holds : goal.returns-clause-holds
returns-clause-holds c = λ line held.
    let old = c.self.inside.bytes.items in
    let within : length old ≤ 8192 = omega (arith, c.self.invariant.0, c.self.inside.bytes.ok.0) in
    let size : c.min.result ≡ min (length c.args.bytes.now) (8192 - length old) = search rules in
    let ok = c.extend_from_slice.ensures.succeeds
    (omega (arith, c.self.invariant.1, c.self.inside.bytes.ok.0, within, c.split_at.ensures.front_len, size)) in
    let items = c.extend_from_slice.ensures.items ∙ ap (λ ok. cond ok (old ++ c.split_at.result.0.now) old) ok
    ∙ ap (λ front. old ++ front) c.split_at.ensures.front in
    let over : length c.split_at.result.1.now
    ≡ length c.args.bytes.now - c.min.result = omega (arith, c.split_at.ensures.back_len) in
    Holds-extended line c.args.bytes.now (record { bytes = old; overlong = c.self.inside.overlong }) _ c.min.result
    (length c.split_at.result.1.now) (subst (Holds line) (sym c.self.view_is) held) within size over items
    (search rules)
