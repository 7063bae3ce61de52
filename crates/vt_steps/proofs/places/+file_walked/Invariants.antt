use Rattle.vt_steps.proofs.places.+file_walked.Given as goal

abbrev pub decreases-file_walked : goal.decreases-file_walked
decreases-file_walked g l = l.depth
