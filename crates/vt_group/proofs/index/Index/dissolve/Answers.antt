use Rattle.vt_location.specs.Numbers.{same_id}
use Rattle.vt_group.specs.declared.index.Index.{Index}
use Rattle.vt_group.specs.Names.{names_of}
use Rattle.vt_group.specs.Sets.{has, same_group}
use Rattle.vt_group.proofs.IndexLemmas.{any_still, apart_source, listed_still}
use Rattle.vt_group.proofs.index.Index.dissolve.Goals as goal

pub returns-clause-kept : goal.returns-clause-kept
returns-clause-kept c mount kind typed apart =
    let old : Index = c.args.self.now in
    let new : Index = record old {
      names = c.forget.new.self;
      mounts = c.keep_under.new.mounts;
      lowers = c.keep_under.new.lowers;
    } in
    listed_still old new mount kind (λ group source under.
    c.forget.ensures.kept group (λ name. has same_id name mount new.mounts)
    (apart_source c.args.lost group kind apart source)
    (any_still (λ name. has same_id name mount old.mounts) (λ name. has same_id name mount new.mounts)
    (λ at. c.keep_under.ensures.mounts at mount typed) (names_of old.names group) under))

pub returns-clause-lower : goal.returns-clause-lower
returns-clause-lower c lower upper has_master apart under =
    let old : Index = c.args.self.now in
    c.forget.ensures.kept upper (λ name. has same_group name lower c.keep_under.new.lowers) apart
    (any_still (λ name. has same_group name lower old.lowers) (λ name. has same_group name lower c.keep_under.new.lowers)
    (λ at. c.keep_under.ensures.lowers at lower has_master) (names_of old.names upper) under)
