use Rattle.token.proofs.Rows.{table_stands}
use Rattle.token.proofs.table.table_stands.Goals as goal

pub returns : goal.returns
returns c = table_stands
