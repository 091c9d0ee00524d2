use Rattle.homecoming.proofs.further_nodes_do_no_harm.Goals as goal
use Rattle.homecoming.proofs.Further.{further_nodes_do_no_harm, further_nodes_bring_no_other}

pub returns : goal.returns
returns c = record { same = further_nodes_do_no_harm; only = further_nodes_bring_no_other }
