use Rattle.fx_barred.proofs.EffectBars.{open_row, barred_row, barring_number}
use Rattle.fx_barred.proofs.laws.rows_barred_for_effects.Goals as goal

pub returns-clause-bars : goal.returns-clause-bars
returns-clause-bars c d wanted words rows x f asked all below part so_far low none =
    open_row d f wanted words all rows below part so_far x low asked none

pub returns-clause-word : goal.returns-clause-word
returns-clause-word c d wanted words rows x k e f all below part so_far low first = (
  barred_row d f wanted words all rows below part so_far x low k first,
  barring_number d f wanted words all rows
      below part so_far x low k first e,
)
