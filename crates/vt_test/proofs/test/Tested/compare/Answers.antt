use Rattle.std.proofs.Common.{inl, inr}
use Rattle.vt_test.specs.Tested.{Counts}
use Rattle.vt_test.specs.declared.test.Tested.{Tested}
use Rattle.vt_test.proofs.TestedLemmas.{ComparesAll-seen}
use Rattle.vt_test.proofs.test.Tested.compare.Goals as goal

pub returns-in_default : goal.returns-in_default
returns-in_default g c =
    let file = c.in_default.ensures.ok in
    inl (record {
      scripts = file.scripts;
      are_its = file.are_its;
      compared = ComparesAll-seen (λ (tested : Tested). tested.totals) _ Counts (λ old new lines told. told) file.scripts
          c.args.self.now c.compare_all.new.told file.compared;
    })

pub returns : goal.returns
returns g c =
    let some = c.in-Err.ensures.err in
    inr (record {
      so_far = c.compare_all.new.told.totals;
      compared = record {
        scripts = some.scripts;
        compared = ComparesAll-seen (λ (tested : Tested). tested.totals) _ Counts (λ old new lines told. told)
            some.scripts c.args.self.now c.compare_all.new.told some.compared;
      };
      failed = c.fail.ensures;
    })
