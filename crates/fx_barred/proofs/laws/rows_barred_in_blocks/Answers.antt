use Rattle.fx_barred.proofs.BlockBars.{open_row, barred_row, barring_number}
use Rattle.fx_barred.proofs.laws.rows_barred_in_blocks.Goals as goal

pub returns-clause-bars : goal.returns-clause-bars
returns-clause-bars c d wanted rows x f asked below blocks part so_far low none =
    open_row d f wanted rows below blocks part x low so_far asked none

pub returns-clause-word : goal.returns-clause-word
returns-clause-word c d wanted rows x best f below blocks part so_far low h = (
  barred_row d f wanted rows below blocks part x low so_far best h,
  barring_number d f wanted rows below blocks part
      x low so_far best h,
)
