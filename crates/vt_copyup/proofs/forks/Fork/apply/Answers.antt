use Rattle.std.proofs.Common.{◌≡◌, ◌∙◌, ap, nat_eq, subst, sym, if◌then◌else◌}
use Rattle.vt_location.specs.declared.locations.InodeRef.{InodeRef}
use Rattle.vt_copyup.specs.Forks.{AreNextReady, branch_at, pieces_in, start_in}
use Rattle.vt_copyup.specs.Made.{AreMade}
use Rattle.vt_copyup.specs.Plans.{IsReady, copies_of}
use Rattle.vt_copyup.proofs.forks.Fork.apply.Goals as goal
use Rattle.vt_copyup.proofs.forks.Fork.apply.Goals.{After-begin-start, After-grow-common}

next_ready : (c : After-grow-common) → AreNextReady c.args.self c.grow-common.result.object c.grow-common.new.trees
    c.grow-common.new.births
next_ready c = c.requires.next c.grow-common.new.trees c.grow-common.new.births c.grow-common.result.object
    c.grow-common.ensures.made.0 c.grow-common.ensures.entries c.grow-common.ensures.there

begins_there : (c : After-begin-start) → c.begin-start.result ≡ start_in c.args.self c.grow-common.result.object
begins_there c = c.begin-start.ensures
    ∙ ap (λ n. if nat_eq n 0 then c.args.self.other else c.grow-common.result.object)
    (c.len-many.ensures ∙ c.args.self.shared.pieces.ok.0)

pub grow-grown-requires : goal.grow-grown-requires
grow-grown-requires c = (next_ready (goal.at.grow-grown-requires c).After-grow-common).first

pub grow-last-requires : goal.grow-last-requires
grow-last-requires c =
    let at = goal.at.grow-last-requires c in
    subst (λ (start : InodeRef). IsReady (branch_at start c.args.self.second) c.grow-grown.new.trees
    c.grow-grown.new.births c.args.self.second.room) (sym (begins_there at.After-begin-start))
    ((next_ready at.After-grow-common).second c.grow-grown.new.trees c.grow-grown.new.births c.grow-grown.result.object
    c.grow-grown.ensures.made.0 c.grow-grown.ensures.entries c.grow-grown.ensures.there)

pub returns : goal.returns
returns c =
    let at = goal.at.returns c in
    record {
      one = c.grow-common.new.trees;
      one_births = c.grow-common.new.births;
      here = c.grow-common.result.object;
      two = c.grow-grown.new.trees;
      two_births = c.grow-grown.new.births;
      shared = c.grow-common.ensures.made.0;
      shared_entries = c.grow-common.ensures.entries;
      shared_there = c.grow-common.ensures.there;
      first = c.grow-grown.ensures.made.0;
      first_entries = c.grow-grown.ensures.entries;
      first_there = c.grow-grown.ensures.there;
      parent = c.grow-grown.ensures.made.1;
      second = subst (λ (start : InodeRef). AreMade start (copies_of (pieces_in c.args.self.second))
          c.grow-grown.new.trees c.grow-grown.new.births c.grow-last.new.trees c.grow-last.new.births
          c.grow-last.result.object) (begins_there at.After-begin-start) c.grow-last.ensures.made.0;
      entries = c.grow-last.ensures.entries;
      there = c.grow-last.ensures.there;
    }
