use Rattle.std.proofs.Common.{rules, ◌≡◌, false, nat_lt, refl, subst, sym, true}
use Rattle.vt_upper.specs.Losing.{IsLeftSo}
use Rattle.vt_upper.proofs.losing.leave_last.Goals as goal

pub keep-requires-clause-room : goal.keep-requires-clause-room
keep-requires-clause-room c =
    let yes : nat_lt 0 c.args.uses ≡ true = search rules in c.requires.room yes

pub returns-then-keeps : goal.returns-then-keeps
returns-then-keeps c =
    let yes : nat_lt 0 c.args.uses ≡ true = search rules in
    subst (λ b. IsLeftSo b c.args.node c.args.uses c.args.nodes.now
    (record c.args.nodes.now { kept = c.keep.new.self })) (sym yes)
    (refl, record { uses_now = c.keep.ensures.uses; promised = c.keep.ensures.promised })

pub returns : goal.returns
returns c =
    let no : nat_lt 0 c.args.uses ≡ false = search rules in
    subst (λ b. IsLeftSo b c.args.node c.args.uses c.args.nodes.now
    (record c.args.nodes.now { births = c.forget.new.self })) (sym no) (
      refl,
      record {
        nodes = c.forget.ensures.nodes;
        copies = c.forget.ensures.copies;
        promised = c.forget.ensures.promised;
      },
    )
