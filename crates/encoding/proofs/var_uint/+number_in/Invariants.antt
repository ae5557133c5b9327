use Rattle.encoding.proofs.var_uint.+number_in.Given as goal

abbrev pub decreases-number_in : goal.decreases-number_in
decreases-number_in l = l.room
