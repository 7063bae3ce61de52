use Rattle.vt_laws_sealed.proofs.part.walks.WalksAgree.{words_walked_alike, texts_walked_alike}
use Rattle.vt_laws_sealed.proofs.part.walks.StepsAgree.{steps_lead_alike}
use Rattle.vt_laws_sealed.proofs.part.walks.walks_on_alike_mounts_agree.Goals as goal

pub returns-clause-words : goal.returns-clause-words
returns-clause-words c = words_walked_alike

pub returns-clause-texts : goal.returns-clause-texts
returns-clause-texts c = texts_walked_alike

pub returns-clause-steps : goal.returns-clause-steps
returns-clause-steps c = steps_lead_alike
