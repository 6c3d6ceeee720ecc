use Rattle.fx_laws.proofs.Tables.{is_order-field}
use Rattle.fx_tree.proofs.JobLaws.{nodes-of-job}
use Rattle.fx_tree.proofs.laws.nodes_of_a_job.Goals as goal

pub returns : goal.returns
returns c = λ p order. nodes-of-job p (is_order-field p.dimensions.q order)
