use Rattle.std.proofs.Common.{[], subst, sym, ◌++◌, option_to_list, append-nil}
use Rattle.vt_mount.specs.Reserved.{Reserves}
use Rattle.vt_mount.proofs.ReservedLemmas.{reserves-first}
use Rattle.vt_mount.proofs.indexes.Indexes.enter.Goals as goal

pub enter_in-requires : goal.enter_in-requires
enter_in-requires c = reserves-first c.args.self.now (option_to_list c.args.mount.now.namespace) [] []
    (option_to_list c.args.mount.now.mount_point)
    (subst (λ namespaces. Reserves c.args.self.now namespaces (option_to_list c.args.mount.now.mount_point))
    (sym (append-nil (option_to_list c.args.mount.now.namespace))) c.requires)

pub put_in-requires : goal.put_in-requires
put_in-requires c =
    let mount = c.args.mount.now in
    subst (λ point. Reserves c.enter_in.new.self [] (option_to_list point)) c.in-Some.is
    (c.enter_in.ensures.reserves [] (option_to_list mount.mount_point)
    (subst (λ namespaces. Reserves c.args.self.now namespaces (option_to_list mount.mount_point))
    (sym (append-nil (option_to_list mount.namespace))) c.requires))

pub returns-in-Some-clause-reserves : goal.returns-in-Some-clause-reserves
returns-in-Some-clause-reserves c namespaces places has = c.put_in.ensures.reserves namespaces places
    (subst (λ point. Reserves c.enter_in.new.self namespaces (option_to_list point ++ places)) c.in-Some.is
    (c.enter_in.ensures.reserves namespaces (option_to_list c.args.mount.now.mount_point ++ places) has))

pub returns-in_default-clause-reserves : goal.returns-in_default-clause-reserves
returns-in_default-clause-reserves c namespaces places has =
    subst (λ point. Reserves c.enter_in.new.self namespaces (option_to_list point ++ places)) c.in_default.is
    (c.enter_in.ensures.reserves namespaces (option_to_list c.args.mount.now.mount_point ++ places) has)
